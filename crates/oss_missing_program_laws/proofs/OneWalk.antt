-- A walk over a run: something is known at each stage, and behind each act what follows from that. If one thing follows, two walks to the end know one thing there, in whichever order the stages list their tasks.
use Rattle.std.proofs.Common.{◌≡◌, ◌∙◌, ℕ, List, [], refl, sym, ap, subst}
use Rattle.oss_model.specs.Bodies.{Frame, IsHalt, Program, Start, stack_from, top_frame}
use Rattle.oss_model.specs.Machine.{Task, find}
use Rattle.oss_model.specs.Moves.{act_now, opening}
use Rattle.oss_model.specs.Sequence.{IsAtEnd, Running, RunsOn}
use Rattle.oss_lacks.specs.Walks.{IsActing}
use Rattle.oss_missing_laws.proofs.SameLemmas.{IsSame, on_from, on_one, one_task, same_still}

module _ {S : Type 0} (P : Program S) {N : Type 0} (Next : Frame S → N → N → Type 0) where
  -- The run comes to this stage, and this is known there.
  pub data Walk (main : Start S) (cells : List ℕ) (start : N) : Running S → N → Type 0 where
    opens : Walk main cells start (record { state = opening main cells; active = []; printed = [] }) start
    runs_on : {z y : Running S} {f : Frame S} {n m : N} → Walk main cells start z n → IsActing P z f → RunsOn P z y → Next f n m → Walk main cells start y m

  -- from this stage, at which this is known, the walk comes to that end
  data Leading (end : Running S) (last : N) : Running S → N → Type 0 where
    there : (z : Running S) (n : N) → IsSame P z end → n ≡ last → Leading end last z n
    step : (z y : Running S) (f : Frame S) (n m : N) → IsActing P z f → RunsOn P z y → Next f n m → Leading end last y m → Leading end last z n

  same_then : (x y z : Running S) → IsSame P x y → IsSame P y z → IsSame P x z
  same_then x y z a b = record { found = λ p. a.found p ∙ b.found p; cells = a.cells ∙ b.cells; active = a.active ∙ b.active; printed = a.printed ∙ b.printed }

  -- the same task acts
  acting_from : (y x : Running S) (f : Frame S) → IsSame P y x → IsActing P x f → IsActing P y f
  acting_from y x f e a = record { task = a.task; at_ = e.found y.active ∙ ap (λ (p : List ℕ). find x.state.tasks p) e.active ∙ a.at_; acts = a.acts }

  one_frame : (z : Running S) (f g : Frame S) → IsActing P z f → IsActing P z g → f ≡ g
  one_frame z f g a b =
      let tasks : a.task ≡ b.task = one_task P z z a.task b.task (same_still P z) a.at_ b.at_ in
      sym a.acts ∙ ap (λ (t : Task S). top_frame (stack_from P t.body.start t.body.found).base (stack_from P t.body.start t.body.found).inner) tasks ∙ b.acts

  leading_same : (end : Running S) (last : N) (y x : Running S) (n : N) → IsSame P y x → Leading end last x n → Leading end last y n
  leading_same end last y x n e (there x2 n2 s q) = there y n (same_then y x end e s) q
  leading_same end last y x n e (step x2 v f n2 m a r b l) = step y v f n m (acting_from y x f e a) (on_from P y x v e r) b l

  not_on : (z y end : Running S) → IsSame P z end → IsAtEnd P end → RunsOn P z y → ⊥
  not_on z y end e stop r =
      let t : r.task ≡ stop.task = one_task P z end r.task stop.task e r.at_ stop.at_ in
      r.goes (subst (λ (x : Task S). IsHalt (act_now P x.body)) (sym t) stop.stops)

  module _ (next_one : (f : Frame S) (n a b : N) → Next f n a → Next f n b → a ≡ b) (main : Start S) (cells : List ℕ) (start : N) where
    leading_back : (end : Running S) (last : N) {z : Running S} {n : N} → Walk main cells start z n → Leading end last z n → Leading end last (record { state = opening main cells; active = []; printed = [] }) start
    leading_back end last opens l = l
    leading_back end last (runs_on {z = z} {y = y} {f = f} {n = n} {m = m} h a r b) l = leading_back end last h (step z y f n m a r b l)

    leading_on : (end : Running S) (last : N) → IsAtEnd P end → Leading end last (record { state = opening main cells; active = []; printed = [] }) start → {z : Running S} {n : N} → Walk main cells start z n → Leading end last z n
    leading_on end last stop l opens = l
    leading_on end last stop l (runs_on {z = z} {y = y} {f = f} {n = n} {m = m} h a r b) = on (leading_on end last stop l h)
      where
        on : Leading end last z n → Leading end last y m
        on (there z2 n2 s q) = absurd (not_on z y end s stop r)
        on (step z2 x g n2 k c t d l) =
            let frames : g ≡ f = one_frame z g f c a in
            let one : k ≡ m = next_one f n k m (subst (λ (h : Frame S). Next h n k) frames d) b in
            leading_same end last y x m (on_one P z y x r t) (subst (λ (o : N). Leading end last x o) one l)

    -- The ends are the same, and what is known there is one.
    pub one_walk : (z y : Running S) (n k : N) → Walk main cells start z n → IsAtEnd P z → Walk main cells start y k → IsAtEnd P y → IsSame P z y × (n ≡ k)
    one_walk z y n k v stop w last = on (leading_on y k last (leading_back y k w (there y k (same_still P y) refl)) v)
      where
        on : Leading y k z n → IsSame P z y × (n ≡ k)
        on (there z2 n2 s q) = (s, q)
        on (step z2 x f n2 m a r b l) = absurd (not_on z x z (same_still P z) stop r)

-- At stages that are the same one act ends the run.
pub one_act : {S : Type 0} (P : Program S) (z y : Running S) → IsSame P z y → (stop : IsAtEnd P z) (last : IsAtEnd P y) → act_now P stop.task.body ≡ act_now P last.task.body
one_act {S} P z y e stop last = ap (λ (t : Task S). act_now P t.body) (one_task P z y stop.task last.task e stop.at_ last.at_)
