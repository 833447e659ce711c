-- All acts of one task lie in one body.
use Rattle.std.proofs.Common.{◌≡◌, ℕ, ◌≤◌, ◌⊎◌, inl, inr, sym, subst, ap, ◌∙◌, List, ◌∷◌, length, arith, false}
use Rattle.oss_model.specs.Bodies.{Frame, Program, Start, stack_from, stage_key, top_frame}
use Rattle.oss_model.specs.History.{IsMade}
use Rattle.oss_model.specs.Machine.{At, State, Task}
use Rattle.oss_model.specs.Memory.{Event}
use Rattle.oss_model.specs.Order.{IsSuffix}
use Rattle.oss_model.proofs.BodyLemmas.{stack_ok}
use Rattle.oss_model.proofs.KeyLemmas.{key_form}
use Rattle.oss_model.proofs.OrderLemmas.{suffix_linear, suffix_trans}
use Rattle.oss_model.proofs.SequenceLemmas.{not_itself}
use Rattle.oss_model.proofs.StageLemmas.{creating, no_inner_of_open}
use Rattle.oss_model.proofs.TreeLemmas.{at_same, task_above}
use Rattle.oss_audit.proofs.PathLemmas.{rest_same, suffix_split}
use Rattle.oss_body.specs.Acting.{acting}
use Rattle.oss_explanation.specs.Lives.{IsEventOf}

-- The task that acts in a body stands at or below the body's own
pub acting_below : {S : Type 0} (P : Program S) (b : Start S) (past : List ℕ) → IsSuffix b.path (acting P b past).path
unfolding stage_key
acting_below P b past =
    let k = key_form P b past in
    subst (λ (q : List ℕ). IsSuffix b.path q) (sym (rest_same (acting P b past).context.created k.number (acting P b past).path k.path k.key)) k.below

-- In the body of a task that is not final it is that one
pub acting_base : {S : Type 0} (P : Program S) (b : Start S) (past : List ℕ) → b.context.final ≡ false → acting P b past ≡ (stack_from P b past).base
acting_base P b past flat =
    let s = stack_from P b past in
    ap (λ (z : List (Frame _)). top_frame s.base z) (no_inner_of_open b.context b.path s.base s.inner (stack_ok P b past) flat)

pub acting_path : {S : Type 0} (P : Program S) (b : Start S) (past : List ℕ) → b.context.final ≡ false → (acting P b past).path ≡ b.path
acting_path P b past flat = ap (λ (f : Frame _). f.path) (acting_base P b past flat) ∙ (stack_ok P b past).path

le_or : (m n : ℕ) → (m ≤ n) ⊎ (n ≤ m)
le_or m n = grind arith

module _ {S : Type 0} (P : Program S) (main : Start S) (s : State S) (made : IsMade P main s) where
  -- a task that has one below it is not final
  not_final : (q : List ℕ) (j : ℕ) (p : List ℕ) (t u : Task S) → At s q t → IsSuffix (j ∷ q) p → At s p u → t.body.start.context.final ≡ false
  not_final q j p t u h i k =
      let w = task_above P main s (j ∷ q) u made i k in
      let b = made.child j q w.0 w.1 in
      ap (λ (x : Task S). x.body.start.context.final) (at_same s q t b.creator h b.at_) ∙ (creating P b.creator.body.start b.past b.order b.act).open_

  below : (q : List ℕ) (d : Event S) → IsEventOf P s q d → IsSuffix d.start.path q
  below q d i = subst (λ (x : List ℕ). IsSuffix d.start.path x) i.path (acting_below P d.start d.past)

  one_path : (q : List ℕ) (e g : Event S) → IsEventOf P s q e → IsEventOf P s q g → e.start.path ≡ g.start.path → e.start ≡ g.start
  one_path q e g h k x =
      let a : At s g.start.path h.happened.task = subst (λ (w : List ℕ). At s w h.happened.task) x h.happened.at_ in
      let t = at_same s g.start.path h.happened.task k.happened.task a k.happened.at_ in
      sym h.happened.start ∙ ap (λ (u : Task S). u.body.start) t ∙ k.happened.start

  -- neither body is below the other
  not_deeper : (q : List ℕ) (e g : Event S) → IsEventOf P s q e → IsEventOf P s q g → (j : ℕ) → IsSuffix (j ∷ e.start.path) g.start.path → ⊥
  not_deeper q e g h k j i =
      let o = not_final e.start.path j g.start.path h.happened.task k.happened.task h.happened.at_ i k.happened.at_ in
      let p = acting_path P e.start e.past (ap (λ (x : Start S). x.context.final) (sym h.happened.start) ∙ o) in
      not_itself (suffix_trans i (below q g k)) (sym p ∙ h.path)

  in_order : (q : List ℕ) (e g : Event S) → IsEventOf P s q e → IsEventOf P s q g → IsSuffix e.start.path g.start.path → e.start ≡ g.start
  in_order q e g h k i = go (suffix_split i)
    where
      go : (e.start.path ≡ g.start.path) ⊎ ((j : ℕ) × IsSuffix (j ∷ e.start.path) g.start.path) → e.start ≡ g.start
      go (inl x) = one_path q e g h k x
      go (inr (j, x)) = absurd (not_deeper q e g h k j x)

  pub one_body : (q : List ℕ) (e g : Event S) → IsEventOf P s q e → IsEventOf P s q g → e.start ≡ g.start
  one_body q e g h k = go (le_or (length e.start.path) (length g.start.path))
    where
      go : (length e.start.path ≤ length g.start.path) ⊎ (length g.start.path ≤ length e.start.path) → e.start ≡ g.start
      go (inl l) = in_order q e g h k (suffix_linear (below q e h) (below q g k) l)
      go (inr l) = sym (in_order q g e k h (suffix_linear (below q g k) (below q e h) l))
