-- The run of a program is that of another which asks alike, whose scripts are moved.
use Rattle.std.proofs.Common.{◌≡◌, ◌∙◌, ℕ, Bool, true, false, List, [], ◌∷◌, map, Option, Some, option_map, refl, sym, ap, subst}
use Rattle.std.specs.Prelude.{if◌then◌else◌}
use Rattle.oss_model.specs.Bodies.{Act, Body, Frame, IsHalt, Order, Program, Start, child_start, stack_from}
use Rattle.oss_model.specs.Bodies.Act.{Awaited, Created, Ended, Fault, Folded, Load, Over, Printed, Releases, Store, Ticked, Waited, WaitedOn}
use Rattle.oss_model.specs.Machine.{At, State, Task, find, same_path}
use Rattle.oss_model.specs.Moves.{TaskStep, act_now, after_answer, created_now, found_by, is_ended, new_task}
use Rattle.oss_model.specs.Sequence.{IsAtEnd, Running, RunsOn, Sequential, active_after, direct_cells, path_above, printed_after}
use Rattle.oss_model.specs.Sequence.Sequential.{opens, runs_on}
use Rattle.oss_missing_program_laws.proofs.MovedBodies.{AskAlike, acts_alike, created_alike, moved_act, moved_frame, moved_order, moved_start, stands_alike}

abbrev pub moved_body : {S T : Type 0} → (S → T) → Body S → Body T
moved_body move b = record { start = moved_start move b.start; found = b.found }

abbrev pub moved_task : {S T : Type 0} → (S → T) → Task S → Task T
moved_task move t = record { body = moved_body move t.body; given = t.given }

abbrev pub moved_state : {S T : Type 0} → (S → T) → State S → State T
moved_state move s = record { cells = s.cells; tasks = map (moved_task move) s.tasks }

abbrev pub moved_running : {S T : Type 0} → (S → T) → Running S → Running T
moved_running move z = record { state = moved_state move z.state; active = z.active; printed = z.printed }

module _ {S T : Type 0} (move : S → T) where
  pub find_is : (ts : List (Task S)) (p : List ℕ) → find (map (moved_task move) ts) p ≡ option_map (moved_task move) (find ts p)
  unfolding find
  find_is [] p = refl
  find_is (t ∷ ts) p = by_path (same_path t.body.start.path p) (find_is ts p)
    where
      by_path : (here : Bool) → find (map (moved_task move) ts) p ≡ option_map (moved_task move) (find ts p)
          → ◌≡◌ {A = Option (Task T)} (if here then Some (moved_task move t) else find (map (moved_task move) ts) p) (option_map (moved_task move) (if here then Some t else find ts p))
      by_path true later = refl
      by_path false later = later

  pub at_moved : (s : State S) (p : List ℕ) (t : Task S) → At s p t → At (moved_state move s) p (moved_task move t)
  at_moved s p t h = find_is s.tasks p ∙ ap (option_map (moved_task move)) h

  pub halts : (a : Act S) → IsHalt a → IsHalt (moved_act move a)
  halts Ticked h = h
  halts (Load cell) h = h
  halts (Store cell v) h = h
  halts (Folded cell o v slot) h = h
  halts (Created o included) h = h
  halts Awaited h = h
  halts Waited h = h
  halts (WaitedOn named) h = h
  halts (Releases clauses included) h = h
  halts (Printed key text) h = h
  halts Ended h = h
  halts (Fault kind line key) h = h
  halts Over h = h

  pub halted : (a : Act S) → IsHalt (moved_act move a) → IsHalt a
  halted Ticked h = h
  halted (Load cell) h = h
  halted (Store cell v) h = h
  halted (Folded cell o v slot) h = h
  halted (Created o included) h = h
  halted Awaited h = h
  halted Waited h = h
  halted (WaitedOn named) h = h
  halted (Releases clauses included) h = h
  halted (Printed key text) h = h
  halted Ended h = h
  halted (Fault kind line key) h = h
  halted Over h = h

  found_is : (a : Act S) (cells : List ℕ) → found_by (moved_act move a) cells ≡ found_by a cells
  found_is Ticked cells = refl
  found_is (Load cell) cells = refl
  found_is (Store cell v) cells = refl
  found_is (Folded cell o v slot) cells = refl
  found_is (Created o included) cells = refl
  found_is Awaited cells = refl
  found_is Waited cells = refl
  found_is (WaitedOn named) cells = refl
  found_is (Releases clauses included) cells = refl
  found_is (Printed key text) cells = refl
  found_is Ended cells = refl
  found_is (Fault kind line key) cells = refl
  found_is Over cells = refl

  cells_are : (a : Act S) (cells : List ℕ) → direct_cells (moved_act move a) cells ≡ direct_cells a cells
  cells_are Ticked cells = refl
  cells_are (Load cell) cells = refl
  cells_are (Store cell v) cells = refl
  cells_are (Folded cell o v slot) cells = refl
  cells_are (Created o included) cells = refl
  cells_are Awaited cells = refl
  cells_are Waited cells = refl
  cells_are (WaitedOn named) cells = refl
  cells_are (Releases clauses included) cells = refl
  cells_are (Printed key text) cells = refl
  cells_are Ended cells = refl
  cells_are (Fault kind line key) cells = refl
  cells_are Over cells = refl

  printed_is : (a : Act S) (output : List ℕ) → printed_after (moved_act move a) output ≡ printed_after a output
  printed_is Ticked output = refl
  printed_is (Load cell) output = refl
  printed_is (Store cell v) output = refl
  printed_is (Folded cell o v slot) output = refl
  printed_is (Created o included) output = refl
  printed_is Awaited output = refl
  printed_is Waited output = refl
  printed_is (WaitedOn named) output = refl
  printed_is (Releases clauses included) output = refl
  printed_is (Printed key text) output = refl
  printed_is Ended output = refl
  printed_is (Fault kind line key) output = refl
  printed_is Over output = refl

  pub child_is : (f : Frame S) (o : Order S) → child_start (moved_frame move f) (moved_order move o) ≡ moved_start move (child_start f o)
  unfolding child_start
  child_is f o = refl

-- a creation is a creation
abbrev IsCreation : {T : Type 0} → Act T → Type 0
IsCreation (Created o included) = Unit {0}
IsCreation _ = ⊥

abbrev order_in : {T : Type 0} → Act T → Order T → Order T
order_in (Created o included) other = o
order_in _ other = other

abbrev IsApart : {T : Type 0} → Act T → Type 0
IsApart (Created o false) = Unit {0}
IsApart _ = ⊥

module _ {S T : Type 0} (move : S → T) (P : Program S) (Q : Program T) (alike : AskAlike move P Q) where
  pub act_is : (b : Body S) → act_now Q (moved_body move b) ≡ moved_act move (act_now P b)
  act_is b = acts_alike move P Q alike b.start b.found

  pub created_is : (b : Body S) → created_now Q (moved_body move b) ≡ created_now P b
  created_is b = created_alike move P Q alike b.start b.found

  pub ended_is : (b : Body S) → is_ended Q (moved_body move b) ≡ is_ended P b
  ended_is b = ap (λ s. s.ended) (stands_alike move P Q alike b.start b.found)

  new_is : (b : Body S) (o : Order S) → new_task Q (moved_body move b) (moved_order move o) ≡ moved_task move (new_task P b o)
  new_is b o =
      ap {B = Task T} (λ s. record { body = record { start = child_start s.base (moved_order move o); found = [] }; given = [] }) (stands_alike move P Q alike b.start b.found)
      ∙ ap {B = Task T} (λ s. record { body = record { start = s; found = [] }; given = [] }) (child_is move (stack_from P b.start b.found).base o)

  active_is : (t : Task S) (p : List ℕ) (v : ℕ) (a : Act S) → active_after Q (moved_task move t) p v (moved_act move a) ≡ active_after P t p v a
  active_is t p v (Created o false) = ap (λ k. k ∷ p) (created_is t.body)
  active_is t p v (Created o true) = ap (λ e. if e then path_above p else p) (ended_is (after_answer v t).body)
  active_is t p v Ticked = ap (λ e. if e then path_above p else p) (ended_is (after_answer v t).body)
  active_is t p v (Load cell) = ap (λ e. if e then path_above p else p) (ended_is (after_answer v t).body)
  active_is t p v (Store cell x) = ap (λ e. if e then path_above p else p) (ended_is (after_answer v t).body)
  active_is t p v (Folded cell o x slot) = ap (λ e. if e then path_above p else p) (ended_is (after_answer v t).body)
  active_is t p v Awaited = ap (λ e. if e then path_above p else p) (ended_is (after_answer v t).body)
  active_is t p v Waited = ap (λ e. if e then path_above p else p) (ended_is (after_answer v t).body)
  active_is t p v (WaitedOn named) = ap (λ e. if e then path_above p else p) (ended_is (after_answer v t).body)
  active_is t p v (Releases clauses included) = ap (λ e. if e then path_above p else p) (ended_is (after_answer v t).body)
  active_is t p v (Printed key text) = ap (λ e. if e then path_above p else p) (ended_is (after_answer v t).body)
  active_is t p v Ended = ap (λ e. if e then path_above p else p) (ended_is (after_answer v t).body)
  active_is t p v (Fault kind line key) = ap (λ e. if e then path_above p else p) (ended_is (after_answer v t).body)
  active_is t p v Over = ap (λ e. if e then path_above p else p) (ended_is (after_answer v t).body)

  -- the tasks after an act
  step_is : (s n : State S) (p : List ℕ) (t : Task S) (v : ℕ) → TaskStep P s p t v n → TaskStep Q (moved_state move s) p (moved_task move t) v (moved_state move n)
  step_is s n p t v step = record {
    own = at_moved move n p (after_answer v t) step.own;
    made = λ o e. made_by o (act_now P t.body) refl (sym (act_is t.body) ∙ e);
    others = λ q other none.
        find_is move n.tasks q
        ∙ ap (option_map (moved_task move)) (step.others q other (λ o e same. none (moved_order move o) (act_is t.body ∙ ap (moved_act move) e) (same ∙ ap (λ k. k ∷ p) (sym (created_is t.body)))))
        ∙ sym (find_is move s.tasks q);
  }
    where
      goal : Order T → Type 0
      goal o = At (moved_state move n) (created_now Q (moved_body move t.body) ∷ p) (new_task Q (moved_body move t.body) o)

      created : (o : Order S) → act_now P t.body ≡ Created o false → goal (moved_order move o)
      created o e =
          ap (λ k. find (moved_state move n).tasks (k ∷ p)) (created_is t.body)
          ∙ at_moved move n (created_now P t.body ∷ p) (new_task P t.body o) (step.made o e)
          ∙ ap Some (sym (new_is t.body o))

      made_by : (o : Order T) (a : Act S) → act_now P t.body ≡ a → moved_act move a ≡ Created o false → goal o
      made_by o (Created u false) e same = subst goal (ap (λ x. order_in x o) same) (created u e)
      made_by o (Created u true) e same = absurd (subst IsApart (sym same) tt)
      made_by o Ticked e same = absurd (subst IsCreation (sym same) tt)
      made_by o (Load cell) e same = absurd (subst IsCreation (sym same) tt)
      made_by o (Store cell x) e same = absurd (subst IsCreation (sym same) tt)
      made_by o (Folded cell op x slot) e same = absurd (subst IsCreation (sym same) tt)
      made_by o Awaited e same = absurd (subst IsCreation (sym same) tt)
      made_by o Waited e same = absurd (subst IsCreation (sym same) tt)
      made_by o (WaitedOn named) e same = absurd (subst IsCreation (sym same) tt)
      made_by o (Releases clauses included) e same = absurd (subst IsCreation (sym same) tt)
      made_by o (Printed key text) e same = absurd (subst IsCreation (sym same) tt)
      made_by o Ended e same = absurd (subst IsCreation (sym same) tt)
      made_by o (Fault kind line key) e same = absurd (subst IsCreation (sym same) tt)
      made_by o Over e same = absurd (subst IsCreation (sym same) tt)

  pub runs_is : (z y : Running S) → RunsOn P z y → RunsOn Q (moved_running move z) (moved_running move y)
  runs_is z y run =
      let a = act_now P run.task.body in
      let same = act_is run.task.body in
      let found : found_by (act_now Q (moved_body move run.task.body)) z.state.cells ≡ found_by a z.state.cells = ap (λ x. found_by x z.state.cells) same ∙ found_is move a z.state.cells in
      record {
        task = moved_task move run.task;
        at_ = at_moved move z.state z.active run.task run.at_;
        goes = λ h. run.goes (halted move a (subst IsHalt same h));
        tasks = subst (λ v. TaskStep Q (moved_state move z.state) z.active (moved_task move run.task) v (moved_state move y.state)) (sym found) (step_is z.state y.state z.active run.task (found_by a z.state.cells) run.tasks);
        cells = run.cells ∙ sym (ap (λ x. direct_cells x z.state.cells) same ∙ cells_are move a z.state.cells);
        active = run.active ∙ sym (active_is run.task z.active (found_by a z.state.cells) a)
            ∙ ap (λ x. active_after Q (moved_task move run.task) z.active (found_by a z.state.cells) x) (sym same)
            ∙ ap (λ v. active_after Q (moved_task move run.task) z.active v (act_now Q (moved_body move run.task.body))) (sym found);
        printed = run.printed ∙ sym (ap (λ x. printed_after x z.printed) same ∙ printed_is move a z.printed);
      }

  -- The sequential run of the code comes to the same stages,
  pub sequential_alike : {main : Start S} {cells : List ℕ} {z : Running S} → Sequential P main cells z → Sequential Q (moved_start move main) cells (moved_running move z)
  sequential_alike opens = opens
  sequential_alike (runs_on {z} {y} run step) = runs_on (sequential_alike run) (runs_is z y step)

  abbrev pub end_is : (z : Running S) → IsAtEnd P z → IsAtEnd Q (moved_running move z)
  end_is z end = record {
    task = moved_task move end.task;
    at_ = at_moved move z.state z.active end.task end.at_;
    stops = subst IsHalt (sym (act_is end.task.body)) (halts move (act_now P end.task.body) end.stops);
  }
