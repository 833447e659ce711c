-- How much of an expression there is: what is written of a part of it has less.
use Rattle.std.proofs.Common.{ℕ, zero, suc, ◌+◌, ◌<◌, ◌≤◌, List, [], ◌∷◌, map, length, get_or, arith}
use Rattle.oss_syntax.specs.declared.tree.expr.Expr.{Expr}
use Rattle.oss_syntax.specs.declared.tree.expr.ExprKind.TheOpen.{ExprKind-F, Expr-F}
use Rattle.oss_syntax.specs.declared.tree.expr.ExprKind.TheOpen as open_expr
use Rattle.oss_syntax.specs.declared.tree.expr.ExprKind.TheFolds.{fold-Expr}

abbrev total : List ℕ → ℕ
total [] = 0
total (w ∷ ws) = w + total ws

abbrev weigh : ExprKind-F ℕ ℕ → ℕ
weigh (open_expr.Index a e) = a + e
weigh (open_expr.Unary o e) = e
weigh (open_expr.Binary o a b) = a + b
weigh (open_expr.Call name es) = total es
weigh _ = 0

abbrev pub weight : Expr → ℕ
weight = fold-Expr ℕ ℕ weigh (λ e. suc e.what)

abbrev pub weights : List Expr → ℕ
weights es = total (map weight es)

-- each expression of a list has no more than all
pub weight-one : (es : List Expr) (i : ℕ) (d : Expr) → i < length es → weight (get_or es i d) ≤ weights es
weight-one [] i d h = absurd (omega arith)
weight-one (e ∷ es) zero d h = omega arith
weight-one (e ∷ es) (suc i) d h = omega (arith, weight-one es i d (omega arith))
