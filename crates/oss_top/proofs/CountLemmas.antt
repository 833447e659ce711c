-- Where a program comes to its end, its run by waves has as many tasks as its sequential run: both have done the same acts, and each task was made by one of them.
use Rattle.std.proofs.Common.{◌≡◌, ◌∙◌, ℕ, ◌+◌, Bool, true, false, List, [], ◌∷◌, Option, Some, None, refl, sym, ap, subst}
use Rattle.std.specs.Prelude.{◌-◌, ◌^◌, ◌||◌, if◌then◌else◌, min, option_map}
use Rattle.oss_model.specs.Agreement.{Setting}
use Rattle.oss_model.specs.Bodies.{IsFault, Program as Asks, Start, stage_act, stage_created}
use Rattle.oss_model.specs.Bodies.Act.{Created, Over}
use Rattle.oss_model.specs.Claims.{IsStoppedAs, ended, failed}
use Rattle.oss_model.specs.History.{IsMade}
use Rattle.oss_model.specs.Machine.{At, State, Task, find, same_path}
use Rattle.oss_model.specs.Memory.{Event, Happened}
use Rattle.oss_model.specs.Answers.{IsStopped}
use Rattle.oss_model.specs.Moves.{Reached, act_now}
use Rattle.oss_model.specs.Sequence.{IsAtEnd, Running}
use Rattle.oss_model.proofs.AgreementTheorem.{every_state_agrees}
use Rattle.oss_model.proofs.AnswerTheorem.{every_stop_is_the_end}
use Rattle.oss_model.proofs.SequenceLemmas.{stands}
use Rattle.oss_model.proofs.TreeLemmas.{path_found, same_path_is}
use Rattle.oss_wave_laws.specs.Rounds.{IsTrace, Trace}
use Rattle.oss_wave_laws.specs.Rounds as rounds
use Rattle.oss_wave_laws.proofs.MovesLemmas.{rounds_stop}
use Rattle.oss_meaning.specs.Results.{IsOutcome, Outcome, is_among, tasks_in, weighed}
use Rattle.oss_meaning.specs.Results.IsOutcome.{ends, fails}
use Rattle.oss_lower_laws.proofs.OutcomeLemmas.{weighed_alike}
use Rattle.oss_top.specs.Runs.{IsDone}

module _ {S : Type 0} (P : Asks S) (main : Start S) where
  -- a task of one state is in each other one in which the same acts are done
  there_too : (x y : State S) → IsMade P main x → IsMade P main y → ((e : Event S) → Happened x e → Happened y e) → (p : List ℕ) (t : Task S) → At x p t → (u : Task S) × At y p u
  there_too x y mx my too [] t h = (my.main_task, my.main_at)
  there_too x y mx my too (k ∷ q) t h =
      let m = mx.child k q t h in
      let e : Event S = record { start = m.creator.body.start; past = m.past; answer = m.answer } in
      let path : m.creator.body.start.path ≡ q = path_found x.tasks q m.creator m.at_ in
      let done = too e (record { task = m.creator; at_ = subst (λ (r : List ℕ). At x r m.creator) (sym path) m.at_; start = refl; found = m.happened }) in
      let act : stage_act P done.task.body.start m.past ≡ Created m.order false = ap (λ (s : Start S). stage_act P s m.past) done.start ∙ m.act in
      let number : stage_created P done.task.body.start m.past ≡ k = ap (λ (s : Start S). stage_created P s m.past) done.start ∙ m.number in
      let child = my.made q done.task m.past m.answer m.order (subst (λ (r : List ℕ). At y r done.task) path done.at_) done.found act in
      (child.0, subst (λ (n : ℕ). At y (n ∷ q) child.0) number child.1)

-- Tasks by their paths alone: all else is as in one of them.
module _ {S : Type 0} (pattern : Task S) where
  abbrev at_path : List ℕ → Task S
  at_path p = record { body = record { start = record { order = pattern.body.start.order; context = pattern.body.start.context; path = p }; found = [] }; given = [] }

  abbrev plain : List (Task S) → List (Task S)
  plain [] = []
  plain (t ∷ ts) = at_path t.body.start.path ∷ plain ts

  abbrev one : Task S → ℕ
  one t = 1

  -- there are as many of them
  as_many : (seen : List (List ℕ)) (ts : List (Task S)) → weighed one seen (plain ts) ≡ weighed one seen ts
  as_many seen [] = refl
  as_many seen (t ∷ ts) = on (is_among seen t.body.start.path) (as_many seen ts) (as_many (t.body.start.path ∷ seen) ts) where
    on : (b : Bool) → weighed one seen (plain ts) ≡ weighed one seen ts → weighed one (t.body.start.path ∷ seen) (plain ts) ≡ weighed one (t.body.start.path ∷ seen) ts
        → (if b then weighed one seen (plain ts) else 1 + weighed one (t.body.start.path ∷ seen) (plain ts)) ≡ (if b then weighed one seen ts else 1 + weighed one (t.body.start.path ∷ seen) ts)
    on true e f = e
    on false e f = ap (λ (n : ℕ). 1 + n) f

  found : (ts : List (Task S)) (q : List ℕ) → find (plain ts) q ≡ option_map (λ (t : Task S). at_path q) (find ts q)
  unfolding find
  found [] q = refl
  found (t ∷ ts) q = on (same_path t.body.start.path q) refl (found ts q) where
    on : (b : Bool) → same_path t.body.start.path q ≡ b → find (plain ts) q ≡ option_map (λ (u : Task S). at_path q) (find ts q)
        → (if b then Some (at_path t.body.start.path) else find (plain ts) q) ≡ option_map (λ (u : Task S). at_path q) (if b then Some t else find ts q)
    on true e rest = ap (λ (p : List ℕ). Some (at_path p)) (same_path_is t.body.start.path q e)
    on false e rest = rest

  module _ (ts us : List (Task S)) (forth : (p : List ℕ) (t : Task S) → find ts p ≡ Some t → (u : Task S) × (find us p ≡ Some u))
      (back : (p : List ℕ) (u : Task S) → find us p ≡ Some u → (t : Task S) × (find ts p ≡ Some t)) where
    plainly_alike : (q : List ℕ) → find (plain ts) q ≡ find (plain us) q
    plainly_alike q = on (find ts q) (find us q) refl refl where
      told : (vs : List (Task S)) (a : Option (Task S)) → find vs q ≡ a → find (plain vs) q ≡ option_map (λ (t : Task S). at_path q) a
      told vs a e = found vs q ∙ ap (λ (o : Option (Task S)). option_map (λ (t : Task S). at_path q) o) e

      on : (a b : Option (Task S)) → find ts q ≡ a → find us q ≡ b → find (plain ts) q ≡ find (plain us) q
      on (Some t) b e f = let k = forth q t e in told ts (Some t) e ∙ sym (told us (Some k.0) k.1)
      on None (Some u) e f = let k = back q u f in let both : None ≡ Some k.0 = sym e ∙ k.1 in absurd (cc)
      on None None e f = told ts None e ∙ sym (told us None f)

    -- lists with tasks at the same paths have as many
    one_count : weighed one [] ts ≡ weighed one [] us
    one_count = sym (as_many [] ts) ∙ weighed_alike one (plain ts) (plain us) [] (λ q new. plainly_alike q) ∙ as_many [] us

-- The tasks of a trace and those of an outcome are counted alike.
among_alike : (seen : List (List ℕ)) (p : List ℕ) → rounds.is_among seen p ≡ is_among seen p
among_alike [] p = refl
among_alike (q ∷ seen) p = ap (λ (b : Bool). same_path q p || b) (among_alike seen p)

counted_alike : {S : Type 0} (weight : Task S → ℕ) (seen : List (List ℕ)) (ts : List (Task S)) → rounds.weighed weight seen ts ≡ weighed weight seen ts
counted_alike weight seen [] = refl
counted_alike {S} weight seen (t ∷ ts) =
    ap (λ (b : Bool). if b then rounds.weighed weight seen ts else weight t + rounds.weighed weight (t.body.start.path ∷ seen) ts) (among_alike seen t.body.start.path)
    ∙ on (is_among seen t.body.start.path) (counted_alike weight seen ts) (counted_alike weight (t.body.start.path ∷ seen) ts) where
      on : (b : Bool) → rounds.weighed weight seen ts ≡ weighed weight seen ts → rounds.weighed weight (t.body.start.path ∷ seen) ts ≡ weighed weight (t.body.start.path ∷ seen) ts
          → (if b then rounds.weighed weight seen ts else weight t + rounds.weighed weight (t.body.start.path ∷ seen) ts) ≡ (if b then weighed weight seen ts else weight t + weighed weight (t.body.start.path ∷ seen) ts)
      on true e f = e
      on false e f = ap (λ (n : ℕ). weight t + n) f

module _ {S : Type 0} (P : Asks S) (main : Start S) (cells : List ℕ) where
  at_the_end : (s : State S) (z : Running S) (end : IsAtEnd P z) → IsMade P main s → IsMade P main z.state → act_now P end.task.body ≡ Over → IsStoppedAs P cells z end s
      → rounds.tasks_in s ≡ tasks_in z.state
  at_the_end s z end ms mz over (ended closed main_over same cells_) =
      ap (λ (n : ℕ). min n (2 ^ 64 - 1)) (counted_alike (λ t. 1) [] s.tasks
      ∙ one_count ms.main_task s.tasks z.state.tasks (there_too P main s z.state ms mz same.back) (there_too P main z.state s mz ms same.forth))
  at_the_end s z end ms mz over (failed p t at_ least fault active same forth) = absurd (subst IsFault (ap (λ b. act_now P b) (sym same) ∙ over) fault)

  -- in each state of a run in which no move is left
  pub as_many_at : (s : State S) (o : Outcome) → Setting main cells → Reached P main cells s → IsStopped P s → IsOutcome P main cells o → IsDone o.answer → rounds.tasks_in s ≡ o.tasks
  as_many_at s o setting reached stop (fails run end fault) done = absurd done
  as_many_at s o setting reached stop (ends {z} run end over) done =
      let agrees = every_state_agrees S P main cells z s setting run reached in
      at_the_end s z end agrees.made (stands P main cells setting.starts z run).made over (every_stop_is_the_end S P main cells z end s setting run agrees stop)

  -- and so at the end of a run by waves
  pub as_many_tasks : (trace : Trace) (o : Outcome) → Setting main cells → IsTrace P main cells trace → IsOutcome P main cells o → IsDone o.answer → trace.tasks ≡ o.tasks
  as_many_tasks trace o setting t outcome done =
      let stop = rounds_stop S P main cells t.rounds t.state t.runs in
      ap (λ (r : Trace). r.tasks) t.trace_is ∙ as_many_at t.state o setting stop.0 stop.1 outcome done
