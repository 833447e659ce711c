-- The other way round: each stage of the run of the other program is one that is moved, but for the order in which it lists its tasks.
use Rattle.std.proofs.Common.{◌≡◌, ◌∙◌, ℕ, List, Option, Some, None, option_map, refl, sym, ap, subst}
use Rattle.oss_model.specs.Bodies.{IsHalt, Program, Start}
use Rattle.oss_model.specs.Machine.{At, State, Task, find}
use Rattle.oss_model.specs.Moves.{act_now}
use Rattle.oss_model.specs.Sequence.{IsAtEnd, Running, RunsOn, Sequential}
use Rattle.oss_model.specs.Sequence.Sequential.{opens, runs_on}
use Rattle.oss_model.proofs.RunLemmas.{next}
use Rattle.oss_missing_laws.proofs.SameLemmas.{IsSame, on_from, on_one, same_still}
use Rattle.oss_missing_program_laws.proofs.MovedBodies.{AskAlike, moved_act, moved_start}
use Rattle.oss_missing_program_laws.proofs.MovedRuns.{act_is, find_is, halted, halts, moved_running, moved_state, moved_task, runs_is}

-- The task at this path is one that is moved.
pub record IsMovedTask {S T : Type 0} (move : S → T) (s : State S) (p : List ℕ) (u : Task T) : Type 0 where
  pub task : Task S
  pub at_ : At s p task
  pub is : moved_task move task ≡ u

pub task_back : {S T : Type 0} (move : S → T) (s : State S) (p : List ℕ) (u : Task T) → At (moved_state move s) p u → IsMovedTask move s p u
task_back {S} {T} move s p u h = go (find s.tasks p) refl
  where
    go : (o : Option (Task S)) → find s.tasks p ≡ o → IsMovedTask move s p u
    go None e = let k : ◌≡◌ {A = Option (Task T)} None (Some u) = sym (find_is move s.tasks p ∙ ap (option_map (moved_task move)) e) ∙ h in cc
    go (Some t) e =
        let k : ◌≡◌ {A = Option (Task T)} (Some (moved_task move t)) (Some u) = sym (find_is move s.tasks p ∙ ap (option_map (moved_task move)) e) ∙ h in
        record { task = t; at_ = e; is = cc }

module _ {S T : Type 0} (move : S → T) (P : Program S) (Q : Program T) (alike : AskAlike move P Q) where
  -- the task of the stage that runs
  pub acts_back : (z : Running S) (w : Running T) (u : Task T) → IsSame Q (moved_running move z) w → At w.state w.active u → IsMovedTask move z.state z.active u
  acts_back z w u e h = task_back move z.state z.active u (e.found z.active ∙ ap (λ (p : List ℕ). find w.state.tasks p) e.active ∙ h)

  pub act_back : (z : Running S) (u : Task T) (t : IsMovedTask move z.state z.active u) → act_now Q u.body ≡ moved_act move (act_now P t.task.body)
  act_back z u t = ap (λ (x : Task T). act_now Q x.body) (sym t.is) ∙ act_is move P Q alike t.task.body

  -- The run of the program goes on too, to a stage that is the same when it is moved.
  pub record IsOnBack (z : Running S) (x : Running T) : Type 0 where
    pub stage : Running S
    pub runs : RunsOn P z stage
    pub same : IsSame Q (moved_running move stage) x

  pub on_back : (z : Running S) (w x : Running T) → IsSame Q (moved_running move z) w → RunsOn Q w x → IsOnBack z x
  on_back z w x e r =
      let k : RunsOn Q (moved_running move z) x = on_from Q (moved_running move z) w x e r in
      let t : IsMovedTask move z.state z.active k.task = task_back move z.state z.active k.task k.at_ in
      let goes : IsHalt (act_now P t.task.body) → ⊥ = λ h. k.goes (subst IsHalt (sym (act_back z k.task t)) (halts move (act_now P t.task.body) h)) in
      let n = next P z t.task t.at_ goes in
      record { stage = n.stage; runs = n.runs; same = on_one Q (moved_running move z) (moved_running move n.stage) x (runs_is move P Q alike z n.stage n.runs) k }

  -- The run of the program comes to a stage that is the same when it is moved.
  pub record IsRunBack (main : Start S) (cells : List ℕ) (x : Running T) : Type 0 where
    pub stage : Running S
    pub run : Sequential P main cells stage
    pub same : IsSame Q (moved_running move stage) x

  pub run_back : (main : Start S) (cells : List ℕ) {x : Running T} → Sequential Q (moved_start move main) cells x → IsRunBack main cells x
  run_back main cells opens = record { stage = _; run = opens; same = same_still Q _ }
  run_back main cells (runs_on {z = w} {y = x} h r) =
      let b = run_back main cells h in
      let s = on_back b.stage w x b.same r in
      record { stage = s.stage; run = runs_on b.run s.runs; same = s.same }

  -- It is at its end there, by the same act.
  pub record IsEndBack (z : Running S) (x : Running T) (end : IsAtEnd Q x) : Type 0 where
    pub own : IsAtEnd P z
    pub act : act_now Q end.task.body ≡ moved_act move (act_now P own.task.body)

  pub end_back : (z : Running S) (x : Running T) → IsSame Q (moved_running move z) x → (end : IsAtEnd Q x) → IsEndBack z x end
  end_back z x e end =
      let t = acts_back z x end.task e end.at_ in
      let a = act_back z end.task t in
      record { own = record { task = t.task; at_ = t.at_; stops = halted move (act_now P t.task.body) (subst IsHalt a end.stops) }; act = a }
