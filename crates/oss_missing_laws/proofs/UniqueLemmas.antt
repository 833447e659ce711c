-- A run has one end.
use Rattle.std.proofs.Common.{◌≡◌, sym, subst, ap, ◌∙◌, ℕ, List, []}
use Rattle.oss_model.specs.Bodies.{IsHalt, Program, Start}
use Rattle.oss_model.specs.Machine.{Task}
use Rattle.oss_model.specs.Moves.{act_now, opening}
use Rattle.oss_model.specs.Sequence.{IsAtEnd, Running, RunsOn, Sequential}
use Rattle.oss_model.specs.Sequence.Sequential.{opens, runs_on}
use Rattle.oss_missing_laws.proofs.SameLemmas.{IsSame, on_from, on_one, one_task, same_still}

module _ {S : Type 0} (P : Program S) where
  -- from this stage the run comes to that end
  data Leading (end : Running S) : Running S → Type 0 where
    there : (z : Running S) → IsSame P z end → Leading end z
    step : (z y : Running S) → RunsOn P z y → Leading end y → Leading end z

  same_then : (x y z : Running S) → IsSame P x y → IsSame P y z → IsSame P x z
  same_then x y z a b = record { found = λ p. a.found p ∙ b.found p; cells = a.cells ∙ b.cells; active = a.active ∙ b.active; printed = a.printed ∙ b.printed }

  leading_same : (end y x : Running S) → IsSame P y x → Leading end x → Leading end y
  leading_same end y x e (there x2 s) = there y (same_then y x end e s)
  leading_same end y x e (step x2 v r l) = step y v (on_from P y x v e r) l

  leading_back : (main : Start S) (cells : List ℕ) (end : Running S) {z : Running S} → Sequential P main cells z → Leading end z → Leading end (record { state = opening main cells; active = []; printed = [] })
  leading_back main cells end opens l = l
  leading_back main cells end (runs_on {z = z} {y = y} h r) l = leading_back main cells end h (step z y r l)

  not_on : (z y end : Running S) → IsSame P z end → IsAtEnd P end → RunsOn P z y → ⊥
  not_on z y end e stop r =
      let t : r.task ≡ stop.task = one_task P z end r.task stop.task e r.at_ stop.at_ in
      r.goes (subst (λ (x : Task S). IsHalt (act_now P x.body)) (sym t) stop.stops)

  leading_on : (main : Start S) (cells : List ℕ) (end : Running S) → IsAtEnd P end → Leading end (record { state = opening main cells; active = []; printed = [] }) → {z : Running S} → Sequential P main cells z → Leading end z
  leading_on main cells end stop l opens = l
  leading_on main cells end stop l (runs_on {z = z} {y = y} h r) = on (leading_on main cells end stop l h)
    where
      on : Leading end z → Leading end y
      on (there z2 s) = absurd (not_on z y end s stop r)
      on (step z2 x k m) = leading_same end y x (on_one P z y x r k) m

  pub one_end : (main : Start S) (cells : List ℕ) (z y : Running S) → Sequential P main cells z → IsAtEnd P z → Sequential P main cells y → IsAtEnd P y → IsSame P z y
  one_end main cells z y h stop k last = on (leading_on main cells y last (leading_back main cells y k (there y (same_still P y))) h)
    where
      on : Leading y z → IsSame P z y
      on (there z2 s) = s
      on (step z2 x r l) = absurd (not_on z x z (same_still P z) stop r)

  -- with one act there
  pub one_stop : (main : Start S) (cells : List ℕ) (z y : Running S) → Sequential P main cells z → (stop : IsAtEnd P z) → Sequential P main cells y → (last : IsAtEnd P y) → act_now P stop.task.body ≡ act_now P last.task.body
  one_stop main cells z y h stop k last = ap (λ (t : Task S). act_now P t.body) (one_task P z y stop.task last.task (one_end main cells z y h stop k last) stop.at_ last.at_)
