-- A turn: its steps, and the passes behind them.
use Rattle.std.proofs.Common.{◌≡◌, ℕ, zero, suc, ◌<◌, ◌⊎◌, inl, inr, refl, sym, ap, ◌∙◌, subst, arith, List, [], ◌∷◌, ◌++◌, length, Bool, false, Option, Some}
use Rattle.std.specs.Prelude.{◌↔◌, IsTrue, map, slice_get}
use Rattle.std.specs.BTreeSet.{BTreeSet}
use Rattle.std.proofs.lemmas.List.{append-nil}
use Rattle.std.proofs.lemmas.Option.{slice_get_within}
use Rattle.oss_model.specs.Bodies.{Program}
use Rattle.oss_model.specs.Machine.{State, Task, At}
use Rattle.oss_model.specs.Moves.{CanStep}
use Rattle.oss_model.specs.Order.{IsIn, written}
use Rattle.oss_model.specs.declared.task_no.TaskNo.{TaskNo}
use Rattle.oss_wave_laws.specs.Waves.{Takes, takes_more, takes_none}
use Rattle.oss_code.specs.declared.code.CodeParts.{CodeParts}
use Rattle.oss_machine.specs.Frames.{CodeScript}
use Rattle.oss_machine.specs.Machines.{asks}
use Rattle.oss_body.specs.Relation.{has_begun}
use Rattle.oss_body.specs.Relation as relation
use Rattle.oss_tree.specs.Tasks.{HasPoint, number}
use Rattle.oss_kept_tasks.specs.declared.held.Held.{Held}
use Rattle.oss_enabled_moves.specs.Enabled.{MayStep}
use Rattle.oss_core.specs.Kept.{IsRunning, Kept}
use Rattle.oss_core.specs.Turns.{KeepsTasks}
use Rattle.oss_core.proofs.CoreLemmas.{held_at}
use Rattle.oss_core.proofs.ExactLemmas.{step_tells}
use Rattle.oss_core.proofs.TreeFacts.{at_place, point_unique, sizes}
use Rattle.oss_wakeups.specs.Asides.{AreFree, CanAct, StoodAside}
use Rattle.oss_prior_laws.proofs.CandidateLemmas.{candidates_stay}
use Rattle.oss_prior_laws.specs.Turns.{answers_of, begun_by, first_step}
use Rattle.oss_prior.specs.declared.choosing.Before.{Before}
use Rattle.oss_prior.specs.declared.ready.Ready.{Ready}
use Rattle.oss_prior.specs.Choosing.{AreAdded, AreReady, AreSuccessors, Has, IsChosen, IsTask, KeepsOthers}
use Rattle.oss_prior.specs.Stepping.{HasNoted, MayBegin}
use Rattle.oss_prior.specs.Turning.{HasMadePasses, HasMadeSteps, HasMadeTurn, HasTakenTurn, PassesMade, StepsGo, StepsMade}
use Rattle.oss_prior.proofs.ChoosingLemmas.{candidate_tells, candidate_told, chosen_next, ready_now, task_at}
use Rattle.oss_prior.proofs.SteppingLemmas.{path_of, point_is}

-- no steps leave the state as it is
takes_nothing : {S : Type 0} (P : Program S) (p : List ℕ) {s n : State S} → Takes P p s zero n → n ≡ s
takes_nothing P p takes_none = refl

-- the first of some steps can be made at the beginning
pub takes_first : {S : Type 0} (P : Program S) (p : List ℕ) {s n : State S} (k : ℕ) → Takes P p s (suc k) n → (t : Task S) × CanStep P s p t
takes_first P p {s = s} {n = n} zero (takes_more {a = a} {t = t} r can step) = (t, subst (λ (x : State _). CanStep P x p t) (takes_nothing P p r) can)
takes_first P p {s = s} {n = n} (suc k) (takes_more {a = a} {t = t} r can step) = takes_first P p {s = s} {n = a} k r

-- so where one can be made, some are, if none is left
pub some_steps : {S : Type 0} (P : Program S) (p : List ℕ) (s n : State S) (k : ℕ) → Takes P p s k n → ((t : Task S) → CanStep P n p t → ⊥) → (t : Task S) → CanStep P s p t → 0 < k
some_steps P p s n zero r none t can = absurd (none t (subst (λ (x : State _). CanStep P x p t) (sym (takes_nothing P p r)) can))
some_steps P p s n (suc k) r none t can = omega arith

begun_is : {S : Type 0} (s : State S) (p : List ℕ) (t : Task S) (k : ℕ) → At s p t → begun_by s p k ≡ first_step p t.body.found k
begun_is s p t k e = ap (λ (o : Option (Task _)). first_step p (answers_of o) k) e

no_answers : (found : List ℕ) → relation.is_some found ≡ false → found ≡ []
no_answers [] e = refl
no_answers (v ∷ vs) e = absurd cc

-- who makes a first step begins
begins : (p found : List ℕ) (k : ℕ) → found ≡ [] → 0 < k → first_step p found k ≡ p ∷ []
begins p [] zero e l = absurd (omega (arith, l))
begins p [] (suc k) e l = refl
begins p (v ∷ vs) k e l = absurd cc

begins_not : (p found : List ℕ) (k : ℕ) → (found ≡ [] → 0 < k → ⊥) → first_step p found k ≡ []
begins_not p [] zero n = refl
begins_not p [] (suc k) n = absurd (n refl (omega arith))
begins_not p (v ∷ vs) k n = refl

pub turn_made : (code : CodeParts) (task : TaskNo) (old mid new : Kept) (acts : ℕ) (before after : List (List ℕ)) → HasNoted task.0 old before after → HasMadeSteps code task old mid acts → HasMadePasses code mid new → HasMadeTurn code task old new before after
turn_made code task old mid new acts before after noted made passed main first s p core point = record {
  state = q.state;
  steps = g.count;
  turn = record { middle = g.state; takes = g.takes; no_more = x.none; lists = q.lists; behind = q.passes };
  core = q.core;
  noted = is noted;
}
  where
    x : StepsMade code main first s p mid acts
    x = made main first s p core point

    g : StepsGo code main first s p mid acts
    g = x.gone

    q : PassesMade code main first g.state new
    q = passed main first g.state g.core

    t : (u : Task CodeScript) × At s p u
    t = task_at core task.0 p point

    held : (h : Held) × (slice_get old.tasks task.0 ≡ Some h)
    held = at_place old.tasks task.0 (subst (λ (n : ℕ). task.0 < n) (sizes core) (slice_get_within old.tree.tasks task.0 point.task point.at_))

    begun : (h : Held) → slice_get old.tasks task.0 ≡ Some h → h.body.begun ≡ relation.is_some t.0.body.found
    begun h e = (held_at code main first old s core task.0 p t.0 point t.1 h e).body_is.begun

    is : HasNoted task.0 old before after → after ≡ before ++ map written (begun_by s p g.count)
    is (inl (b, (pt, has, e))) =
        let c = candidate_told core task.0 p point b.may in
        let l = some_steps (asks code) p s g.state g.count g.takes x.none c.task c.can in
        let f : begun_by s p g.count ≡ p ∷ [] = begun_is s p t.0 g.count t.1 ∙ begins p t.0.body.found g.count (no_answers t.0.body.found (sym (begun b.held b.is) ∙ b.first)) l in
        e ∙ ap (λ (ps : List (List ℕ)). before ++ ps) (ap (λ (r : List ℕ). r ∷ []) (point_is has point) ∙ sym (ap (λ (ps : List (List ℕ)). map written ps) f))
    is (inr (none, e)) =
        e ∙ (sym (append-nil before) ∙ ap (λ (ps : List (List ℕ)). before ++ map written ps) (sym (begun_is s p t.0 g.count t.1 ∙ begins_not p t.0.body.found g.count (λ f l. none (first_of f l)))))
      where
        can : (k : ℕ) → k ≡ g.count → 0 < g.count → (u : Task CodeScript) × CanStep (asks code) s p u
        can zero f l = absurd (omega (arith, f, l))
        can (suc k) f l = takes_first (asks code) p {s = s} {n = g.state} k (subst (λ (n : ℕ). Takes (asks code) p s n g.state) (sym f) g.takes)

        first_of : t.0.body.found ≡ [] → 0 < g.count → MayBegin task.0 old
        first_of f l =
            let c = can g.count refl l in
            record { held = held.0; is = held.1; first = begun held.0 held.1 ∙ ap relation.is_some f; may = step_tells core task.0 p c.0 point c.1 }

-- who has made no step and may step may begin
pub may_begin : (v : ℕ) (k : Kept) (made may : Bool) → made ≡ false → ((held : Held) → slice_get k.tasks v ≡ Some held → made ≡ has_begun held.body) → (IsTrue may ↔ MayStep k.tasks k.tree.tasks k.seen v) → (IsTrue may ↔ MayBegin v k)
may_begin v k made may none told is = (λ t. let m = is.0 t in record { held = m.held; is = m.is; first = sym (told m.held m.is) ∙ none; may = m }, λ b. is.1 b.may)

-- behind a turn the core still stands for a state of the machine
pub turn_running : (code : CodeParts) (task : TaskNo) (old new : Kept) (before after : List (List ℕ)) → IsRunning code old → task.0 < length old.tree.tasks → HasMadeTurn code task old new before after → IsRunning code new
turn_running code task old new before after running l made =
    let p = path_of running.core task.0 l in
    let t = made running.main running.first running.state p.0 running.core p.1 in
    record { main = running.main; first = running.first; state = t.state; core = t.core }

-- who stood aside can act behind the turn
pub stays_able : (code : CodeParts) (task : TaskNo) (old new : Kept) (before after : List (List ℕ)) → IsRunning code old → task.0 < length old.tree.tasks → HasMadeTurn code task old new before after → KeepsTasks old.tree.tasks new.tree.tasks → (v : ℕ) → StoodAside old task.0 v → CanAct new v
stays_able code task old new before after running l made keeps v (can, ne) =
    let main = running.main in
    let first = running.first in
    let p = path_of running.core task.0 l in
    let t = made main first running.state p.0 running.core p.1 in
    let q = path_of running.core v (subst (λ (n : ℕ). v < n) (sym (sizes running.core)) (slice_get_within old.tasks v can.held can.is)) in
    let c = candidate_told running.core v q.0 q.1 can in
    let other : q.0 ≡ p.0 → ⊥ = λ e. ne (point_unique running.core v task.0 (written p.0) (subst (λ (r : List ℕ). HasPoint old.tree.tasks v (written r)) e q.1) p.1) in
    let d = candidates_stay CodeScript (asks code) main first running.state t.state p.0 t.steps q.0 running.core.setting running.core.reached t.turn other c in
    candidate_tells t.core v q.0 (keeps.points v (written q.0) q.1) d

-- a turn, and whose the next is
module _ (code : CodeParts) (task : TaskNo) (old new : Kept) (running : IsRunning code old) (l : task.0 < length old.tree.tasks) (before after : List (List ℕ)) (made : HasMadeTurn code task old new before after) (keeps : KeepsTasks old.tree.tasks new.tree.tasks) (others : KeepsOthers task.0 old new)
    (stood : Before) (count_is : stood.count ≡ length old.tree.tasks) (task_is : stood.task ≡ task) (first_queue queue later successors : BTreeSet Ready) (ready : AreReady old first_queue) (own : Ready) (own_is : IsTask old task.0 own)
    (able : IsTrue stood.able ↔ Has first_queue own) (left : (x : Ready) → Has queue x ↔ (Has first_queue x × (x ≡ own → ⊥))) (free : List TaskNo) (are_free : AreFree new free) (all : (v : ℕ) → CanAct new v → IsIn (number v) free ⊎ StoodAside old task.0 v)
    (are : AreSuccessors new stood queue free successors) (added : AreAdded new free queue later) where
  stay : (v : ℕ) → StoodAside old task.0 v → CanAct new v
  stay = stays_able code task old new before after running l made keeps

  pub turn_taken : (next : Option TaskNo) → IsChosen successors later next → HasTakenTurn code task old new before after next
  turn_taken next chosen main first s p core point =
      let t = made main first s p core point in
      record {
        made = t;
        next_is = chosen_next old new s t.state core t.core keeps task others stay stood count_is task_is first_queue queue later successors ready own own_is able left free are_free all are added next chosen;
      }

  pub turn_ready : AreReady new later
  turn_ready =
      let p = path_of running.core task.0 l in
      let t = made running.main running.first running.state p.0 running.core p.1 in
      ready_now old new running.state t.state running.core t.core keeps task others stay stood count_is task_is first_queue queue later successors ready own own_is able left free are_free all are added
