-- Cases of the definitions that their last clause takes together.
use Rattle.std.proofs.Common.{◌≡◌, ℕ, refl}
use Rattle.oss_syntax.specs.declared.tree.expr.BinOp.{BinOp}
use Rattle.oss_syntax.specs.declared.tree.expr.BinOp.TheVariants as op
use Rattle.oss_lower_laws.specs.ExpressionCode.{ExprCode, binary_code, operator_by, then_two}

-- an operator that does not jump: both sides, and then it
pub both-sides : (o : BinOp) (a b : ExprCode) (line depth : ℕ) → (o ≡ op.AndAlso → ⊥) → (o ≡ op.OrElse → ⊥)
    → binary_code o a b line depth ≡ then_two a.value b.value (operator_by o a.typed.kind b.typed.kind) line depth
both-sides op.OrElse a b line depth h k = absurd (k refl)
both-sides op.AndAlso a b line depth h k = absurd (h refl)
both-sides op.Or a b line depth h k = refl
both-sides op.Xor a b line depth h k = refl
both-sides op.And a b line depth h k = refl
both-sides op.Equal a b line depth h k = refl
both-sides op.Differ a b line depth h k = refl
both-sides op.Less a b line depth h k = refl
both-sides op.LessEqual a b line depth h k = refl
both-sides op.More a b line depth h k = refl
both-sides op.MoreEqual a b line depth h k = refl
both-sides op.Left a b line depth h k = refl
both-sides op.Right a b line depth h k = refl
both-sides op.Add a b line depth h k = refl
both-sides op.Sub a b line depth h k = refl
both-sides op.Mul a b line depth h k = refl
both-sides op.Div a b line depth h k = refl
both-sides op.Rem a b line depth h k = refl
