-- What an act of the sequential run is in a state that comes later.
use Rattle.std.proofs.Common.{◌≡◌, ℕ, ◌<◌, ◌≤◌, ◌⊎◌, inl, inr, refl, sym, subst, ap, ◌∙◌, List, ◌∷◌, length, arith, true}
use Rattle.oss_model.specs.Order.{IsSuffix}
use Rattle.oss_model.specs.Bodies.{Program, Start, stack_from, stage_act, stage_created, IsHalt}
use Rattle.oss_model.specs.Machine.{Task, State, At}
use Rattle.oss_model.specs.Moves.{act_now, created_now, is_ended, after_answer, found_by}
use Rattle.oss_model.specs.History.{IsMade}
use Rattle.oss_model.specs.Sequence.{Running, RunsOn}
use Rattle.oss_model.proofs.OrderLemmas.{suffix_full}
use Rattle.oss_model.proofs.TreeLemmas.{over_stops, next_of}
use Rattle.oss_model.proofs.MoveLemmas.{others_forth}
use Rattle.oss_model.proofs.SequenceLemmas.{Stands}
use Rattle.oss_chain_laws.specs.Happenings.{Happening, Does, EndsWith}
use Rattle.oss_chain_laws.proofs.RunTheorem.{Extends}

module _ {S : Type 0} (P : Program S) (main : Start S) (s : State S) (made : IsMade P main s) (weight : Happening → ℕ) where
  module _ (z y : Running S) (st : Stands P main z) (r : RunsOn P z y) (ex : Extends y.state s) where
    abbrev pub found_now : ℕ
    found_now = found_by (act_now P r.task.body) z.state.cells

    abbrev pub after : Task S
    after = after_answer found_now r.task

    -- the task that acts, in the state at the end
    pub grown : (w : Task S) × At s z.active w × (w.body.start ≡ r.task.body.start) × IsSuffix (found_now ∷ r.task.body.found) w.body.found
    grown = ex.grown z.active after r.tasks.own

    pub does : Does P s z.active (length r.task.body.found) (created_now P r.task.body) (act_now P r.task.body)
    does = record {
      task = grown.0;
      at_ = grown.1;
      past = r.task.body.found;
      answer = found_now;
      done_ = grown.3;
      number_is = refl;
      created_is = ap (λ (b : Start S). stage_created P b r.task.body.found) grown.2;
      act_is = ap (λ (b : Start S). stage_act P b r.task.body.found) grown.2;
    }

    pub keeps : (q : List ℕ) (w : Task S) → length q < length z.active → At z.state q w → At y.state q w
    keeps q w l h = others_forth P main z.state y.state z.active r.task found_now st.made r.at_ r.goes r.tasks q w (λ e. let k : length q ≡ length z.active = ap (λ (x : List ℕ). length x) e in omega (arith, k, l)) h

    -- the act ends its task
    ended_in : is_ended P after.body ≡ true → (is_ended P grown.0.body ≡ true) × (grown.0.body.found ≡ found_now ∷ r.task.body.found)
    ended_in e = go (which (length (found_now ∷ r.task.body.found)) (length grown.0.body.found))
      where
        which : (m n : ℕ) → (m < n) ⊎ (n ≤ m)
        which m n = grind arith

        over : (stack_from P grown.0.body.start (found_now ∷ r.task.body.found)).ended ≡ true
        over = ap (λ (b : Start S). (stack_from P b (found_now ∷ r.task.body.found)).ended) grown.2 ∙ e

        go : (length (found_now ∷ r.task.body.found) < length grown.0.body.found) ⊎ (length grown.0.body.found ≤ length (found_now ∷ r.task.body.found)) → (is_ended P grown.0.body ≡ true) × (grown.0.body.found ≡ found_now ∷ r.task.body.found)
        go (inl l) =
            let n = next_of grown.3 l in
            absurd (made.goes z.active grown.0 (found_now ∷ r.task.body.found) n.0 grown.1 n.1 (subst IsHalt (sym (over_stops P grown.0.body.start (found_now ∷ r.task.body.found) over)) tt))
        go (inr l) =
            let q = suffix_full grown.3 l in
            (ap (λ (f : List ℕ). (stack_from P grown.0.body.start f).ended) (sym q) ∙ over, sym q)

    pub last_act_of : is_ended P after.body ≡ true → EndsWith P s z.active (length r.task.body.found)
    last_act_of e = let x = ended_in e in record { task = grown.0; at_ = grown.1; ended = x.0; number_is = ap (λ (f : List ℕ). length f) x.1 }

    pub created_same : is_ended P after.body ≡ true → created_now P after.body ≡ created_now P grown.0.body
    created_same e = let x = ended_in e in ap (λ (b : Start S). stage_created P b (found_now ∷ r.task.body.found)) (sym grown.2) ∙ ap (λ (f : List ℕ). stage_created P grown.0.body.start f) (sym x.1)
