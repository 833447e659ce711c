-- The sequential run of a program is that of its code, whose scripts are moved.
use Rattle.std.proofs.Common.{◌≡◌, ◌∙◌, ℕ, zero, suc, ◌+◌, Bool, true, false, List, [], ◌∷◌, length, map, Option, Some, option_map, refl, sym, ap, subst}
use Rattle.std.specs.Prelude.{◌-◌, ◌^◌, if◌then◌else◌, min}
use Rattle.oss_syntax.specs.declared.tree.program.Item.{Item}
use Rattle.oss_model.specs.Agreement.{Setting}
use Rattle.oss_lower_laws.proofs.LiveLemmas.{programs_are_lively}
use Rattle.oss_lower_laws.proofs.OutcomeLemmas.{one_outcome, run_has_one}
use Rattle.oss_model.specs.Bodies.{Act, Body, IsHalt, Order, Program, Start, child_start, stack_from}
use Rattle.oss_model.specs.Bodies.Act.{Awaited, Created, Ended, Fault, Folded, Load, Over, Printed, Releases, Store, Ticked, Waited, WaitedOn}
use Rattle.oss_model.specs.Context.{right_of}
use Rattle.oss_model.specs.Machine.{At, State, Task, find, same_path}
use Rattle.oss_model.specs.Moves.{TaskStep, act_now, after_answer, created_now, found_by, is_ended, new_task}
use Rattle.oss_model.specs.Sequence.{IsAtEnd, Running, RunsOn, Sequential, active_after, direct_cells, path_above, printed_after}
use Rattle.oss_model.specs.Sequence.Sequential.{opens, runs_on}
use Rattle.oss_model.specs.declared.answer.Answer.{Answer}
use Rattle.oss_model.specs.declared.answer.Answer.TheVariants as answers
use Rattle.oss_meaning.specs.Expressions.{TaskBody, TreeScript}
use Rattle.oss_meaning.specs.Meaning.{asks_of}
use Rattle.oss_meaning.specs.Results.{IsOutcome, Outcome, cells_held, entries_in, entries_of, is_among, one_held, tasks_in, weighed}
use Rattle.oss_meaning.specs.Results.IsOutcome.{ends, fails}
use Rattle.oss_code.specs.declared.code.CodeParts.{CodeParts}
use Rattle.oss_machine.specs.Frames.{CodeScript}
use Rattle.oss_machine.specs.Machines.{asks}
use Rattle.oss_lower_laws.specs.Programs.{IsCodeOf, OutcomesAlike, moved_order, moved_start}
use Rattle.oss_lower_laws.proofs.MovedBodies.{acts_alike, created_alike, moved_act, moved_frame, stands_alike}

abbrev pub moved_body : (TaskBody → ℕ) → Body TreeScript → Body CodeScript
moved_body places b = record { start = moved_start places b.start; found = b.found }

abbrev pub moved_task : (TaskBody → ℕ) → Task TreeScript → Task CodeScript
moved_task places t = record { body = moved_body places t.body; given = t.given }

abbrev pub moved_state : (TaskBody → ℕ) → State TreeScript → State CodeScript
moved_state places s = record { cells = s.cells; tasks = map (moved_task places) s.tasks }

abbrev pub moved_running : (TaskBody → ℕ) → Running TreeScript → Running CodeScript
moved_running places z = record { state = moved_state places z.state; active = z.active; printed = z.printed }

module _ (places : TaskBody → ℕ) where
  find_is : (ts : List (Task TreeScript)) (p : List ℕ) → find (map (moved_task places) ts) p ≡ option_map (moved_task places) (find ts p)
  unfolding find
  find_is [] p = refl
  find_is (t ∷ ts) p = by_path (same_path t.body.start.path p) (find_is ts p)
    where
      by_path : (here : Bool) → find (map (moved_task places) ts) p ≡ option_map (moved_task places) (find ts p)
          → ◌≡◌ {A = Option (Task CodeScript)} (if here then Some (moved_task places t) else find (map (moved_task places) ts) p) (option_map (moved_task places) (if here then Some t else find ts p))
      by_path true later = refl
      by_path false later = later

  at_moved : (s : State TreeScript) (p : List ℕ) (t : Task TreeScript) → At s p t → At (moved_state places s) p (moved_task places t)
  at_moved s p t h = find_is s.tasks p ∙ ap (option_map (moved_task places)) h

  halts : (a : Act TreeScript) → IsHalt a → IsHalt (moved_act places a)
  halts Ticked h = h
  halts (Load cell) h = h
  halts (Store cell v) h = h
  halts (Folded cell o v slot) h = h
  halts (Created o included) h = h
  halts Awaited h = h
  halts Waited h = h
  halts (WaitedOn named) h = h
  halts (Releases clauses included) h = h
  halts (Printed key text) h = h
  halts Ended h = h
  halts (Fault kind line key) h = h
  halts Over h = h

  halted : (a : Act TreeScript) → IsHalt (moved_act places a) → IsHalt a
  halted Ticked h = h
  halted (Load cell) h = h
  halted (Store cell v) h = h
  halted (Folded cell o v slot) h = h
  halted (Created o included) h = h
  halted Awaited h = h
  halted Waited h = h
  halted (WaitedOn named) h = h
  halted (Releases clauses included) h = h
  halted (Printed key text) h = h
  halted Ended h = h
  halted (Fault kind line key) h = h
  halted Over h = h

  found_is : (a : Act TreeScript) (cells : List ℕ) → found_by (moved_act places a) cells ≡ found_by a cells
  found_is Ticked cells = refl
  found_is (Load cell) cells = refl
  found_is (Store cell v) cells = refl
  found_is (Folded cell o v slot) cells = refl
  found_is (Created o included) cells = refl
  found_is Awaited cells = refl
  found_is Waited cells = refl
  found_is (WaitedOn named) cells = refl
  found_is (Releases clauses included) cells = refl
  found_is (Printed key text) cells = refl
  found_is Ended cells = refl
  found_is (Fault kind line key) cells = refl
  found_is Over cells = refl

  cells_are : (a : Act TreeScript) (cells : List ℕ) → direct_cells (moved_act places a) cells ≡ direct_cells a cells
  cells_are Ticked cells = refl
  cells_are (Load cell) cells = refl
  cells_are (Store cell v) cells = refl
  cells_are (Folded cell o v slot) cells = refl
  cells_are (Created o included) cells = refl
  cells_are Awaited cells = refl
  cells_are Waited cells = refl
  cells_are (WaitedOn named) cells = refl
  cells_are (Releases clauses included) cells = refl
  cells_are (Printed key text) cells = refl
  cells_are Ended cells = refl
  cells_are (Fault kind line key) cells = refl
  cells_are Over cells = refl

  printed_is : (a : Act TreeScript) (output : List ℕ) → printed_after (moved_act places a) output ≡ printed_after a output
  printed_is Ticked output = refl
  printed_is (Load cell) output = refl
  printed_is (Store cell v) output = refl
  printed_is (Folded cell o v slot) output = refl
  printed_is (Created o included) output = refl
  printed_is Awaited output = refl
  printed_is Waited output = refl
  printed_is (WaitedOn named) output = refl
  printed_is (Releases clauses included) output = refl
  printed_is (Printed key text) output = refl
  printed_is Ended output = refl
  printed_is (Fault kind line key) output = refl
  printed_is Over output = refl

  pub child_is : (f : _) (o : Order TreeScript) → child_start (moved_frame places f) (moved_order places o) ≡ moved_start places (child_start f o)
  unfolding child_start
  child_is f o = refl

  -- Counts

  held_is : (t : Task TreeScript) (n : ℕ) → cells_held (moved_task places t) n ≡ cells_held t n
  held_is t zero = refl
  held_is t (suc n) = ap (λ k. one_held (right_of t.body.start.context n) + k) (held_is t n)

  entries_are : (n : ℕ) (t : Task TreeScript) (p : List ℕ) → entries_of n (moved_task places t) p ≡ entries_of n t p
  entries_are n t [] = refl
  entries_are n t (k ∷ p) = ap (λ m. 1 + m) (held_is t n)

  chosen_are : (b : Bool) (k l m n w v : ℕ) → k ≡ l → m ≡ n → w ≡ v → (if b then k else w + m) ≡ (if b then l else v + n)
  chosen_are true k l m n w v e f g = e
  chosen_are false k l m n w v e f g = ap (λ x. x + m) g ∙ ap (λ x. v + x) f

  weighed_are : (weight : Task CodeScript → ℕ) (same : Task TreeScript → ℕ) (alike : (t : Task TreeScript) → weight (moved_task places t) ≡ same t) (ts : List (Task TreeScript)) (seen : List (List ℕ))
      → weighed weight seen (map (moved_task places) ts) ≡ weighed same seen ts
  weighed_are weight same alike [] seen = refl
  weighed_are weight same alike (t ∷ ts) seen =
      chosen_are (is_among seen t.body.start.path)
      (weighed weight seen (map (moved_task places) ts)) (weighed same seen ts)
      (weighed weight (t.body.start.path ∷ seen) (map (moved_task places) ts)) (weighed same (t.body.start.path ∷ seen) ts)
      (weight (moved_task places t)) (same t)
      (weighed_are weight same alike ts seen) (weighed_are weight same alike ts (t.body.start.path ∷ seen)) (alike t)

  tasks_are : (s : State TreeScript) → tasks_in (moved_state places s) ≡ tasks_in s
  tasks_are s = ap (λ k. min k (2 ^ 64 - 1)) (weighed_are (λ t. 1) (λ t. 1) (λ t. refl) s.tasks [])

  all_entries_are : (s : State TreeScript) → entries_in (moved_state places s) ≡ entries_in s
  all_entries_are s = weighed_are (λ t. entries_of (length s.cells) t t.body.start.path) (λ t. entries_of (length s.cells) t t.body.start.path) (λ t. entries_are (length s.cells) t t.body.start.path) s.tasks []

-- a creation is a creation
abbrev IsCreation : Act CodeScript → Type 0
IsCreation (Created o included) = Unit {0}
IsCreation _ = ⊥

abbrev order_in : Act CodeScript → Order CodeScript → Order CodeScript
order_in (Created o included) other = o
order_in _ other = other

abbrev IsApart : Act CodeScript → Type 0
IsApart (Created o false) = Unit {0}
IsApart _ = ⊥

module _ (all : List Item) (code : CodeParts) (of : IsCodeOf all code) where
  abbrev P : Program TreeScript
  P = asks_of all

  abbrev Q : Program CodeScript
  Q = asks code

  act_is : (b : Body TreeScript) → act_now Q (moved_body of.places b) ≡ moved_act of.places (act_now P b)
  act_is b = acts_alike all code of b.start b.found

  created_is : (b : Body TreeScript) → created_now Q (moved_body of.places b) ≡ created_now P b
  created_is b = created_alike all code of b.start b.found

  ended_is : (b : Body TreeScript) → is_ended Q (moved_body of.places b) ≡ is_ended P b
  ended_is b = ap (λ s. s.ended) (stands_alike all code of b.start b.found)

  new_is : (b : Body TreeScript) (o : Order TreeScript) → new_task Q (moved_body of.places b) (moved_order of.places o) ≡ moved_task of.places (new_task P b o)
  new_is b o =
      ap {B = Task CodeScript} (λ s. record { body = record { start = child_start s.base (moved_order of.places o); found = [] }; given = [] }) (stands_alike all code of b.start b.found)
      ∙ ap {B = Task CodeScript} (λ s. record { body = record { start = s; found = [] }; given = [] }) (child_is of.places (stack_from P b.start b.found).base o)

  active_is : (t : Task TreeScript) (p : List ℕ) (v : ℕ) (a : Act TreeScript) → active_after Q (moved_task of.places t) p v (moved_act of.places a) ≡ active_after P t p v a
  active_is t p v (Created o false) = ap (λ k. k ∷ p) (created_is t.body)
  active_is t p v (Created o true) = ap (λ e. if e then path_above p else p) (ended_is (after_answer v t).body)
  active_is t p v Ticked = ap (λ e. if e then path_above p else p) (ended_is (after_answer v t).body)
  active_is t p v (Load cell) = ap (λ e. if e then path_above p else p) (ended_is (after_answer v t).body)
  active_is t p v (Store cell x) = ap (λ e. if e then path_above p else p) (ended_is (after_answer v t).body)
  active_is t p v (Folded cell o x slot) = ap (λ e. if e then path_above p else p) (ended_is (after_answer v t).body)
  active_is t p v Awaited = ap (λ e. if e then path_above p else p) (ended_is (after_answer v t).body)
  active_is t p v Waited = ap (λ e. if e then path_above p else p) (ended_is (after_answer v t).body)
  active_is t p v (WaitedOn named) = ap (λ e. if e then path_above p else p) (ended_is (after_answer v t).body)
  active_is t p v (Releases clauses included) = ap (λ e. if e then path_above p else p) (ended_is (after_answer v t).body)
  active_is t p v (Printed key text) = ap (λ e. if e then path_above p else p) (ended_is (after_answer v t).body)
  active_is t p v Ended = ap (λ e. if e then path_above p else p) (ended_is (after_answer v t).body)
  active_is t p v (Fault kind line key) = ap (λ e. if e then path_above p else p) (ended_is (after_answer v t).body)
  active_is t p v Over = ap (λ e. if e then path_above p else p) (ended_is (after_answer v t).body)

  -- the tasks after an act
  step_is : (s n : State TreeScript) (p : List ℕ) (t : Task TreeScript) (v : ℕ) → TaskStep P s p t v n → TaskStep Q (moved_state of.places s) p (moved_task of.places t) v (moved_state of.places n)
  step_is s n p t v step = record {
    own = at_moved of.places n p (after_answer v t) step.own;
    made = λ o e. made_by o (act_now P t.body) refl (sym (act_is t.body) ∙ e);
    others = λ q other none.
        find_is of.places n.tasks q
        ∙ ap (option_map (moved_task of.places)) (step.others q other (λ o e same. none (moved_order of.places o) (act_is t.body ∙ ap (moved_act of.places) e) (same ∙ ap (λ k. k ∷ p) (sym (created_is t.body)))))
        ∙ sym (find_is of.places s.tasks q);
  }
    where
      goal : Order CodeScript → Type 0
      goal o = At (moved_state of.places n) (created_now Q (moved_body of.places t.body) ∷ p) (new_task Q (moved_body of.places t.body) o)

      created : (o : Order TreeScript) → act_now P t.body ≡ Created o false → goal (moved_order of.places o)
      created o e =
          ap (λ k. find (moved_state of.places n).tasks (k ∷ p)) (created_is t.body)
          ∙ at_moved of.places n (created_now P t.body ∷ p) (new_task P t.body o) (step.made o e)
          ∙ ap Some (sym (new_is t.body o))

      made_by : (o : Order CodeScript) (a : Act TreeScript) → act_now P t.body ≡ a → moved_act of.places a ≡ Created o false → goal o
      made_by o (Created u false) e same = subst goal (ap (λ x. order_in x o) same) (created u e)
      made_by o (Created u true) e same = absurd (subst IsApart (sym same) tt)
      made_by o Ticked e same = absurd (subst IsCreation (sym same) tt)
      made_by o (Load cell) e same = absurd (subst IsCreation (sym same) tt)
      made_by o (Store cell x) e same = absurd (subst IsCreation (sym same) tt)
      made_by o (Folded cell op x slot) e same = absurd (subst IsCreation (sym same) tt)
      made_by o Awaited e same = absurd (subst IsCreation (sym same) tt)
      made_by o Waited e same = absurd (subst IsCreation (sym same) tt)
      made_by o (WaitedOn named) e same = absurd (subst IsCreation (sym same) tt)
      made_by o (Releases clauses included) e same = absurd (subst IsCreation (sym same) tt)
      made_by o (Printed key text) e same = absurd (subst IsCreation (sym same) tt)
      made_by o Ended e same = absurd (subst IsCreation (sym same) tt)
      made_by o (Fault kind line key) e same = absurd (subst IsCreation (sym same) tt)
      made_by o Over e same = absurd (subst IsCreation (sym same) tt)

  runs_is : (z y : Running TreeScript) → RunsOn P z y → RunsOn Q (moved_running of.places z) (moved_running of.places y)
  runs_is z y run =
      let a = act_now P run.task.body in
      let same = act_is run.task.body in
      let found : found_by (act_now Q (moved_body of.places run.task.body)) z.state.cells ≡ found_by a z.state.cells = ap (λ x. found_by x z.state.cells) same ∙ found_is of.places a z.state.cells in
      record {
        task = moved_task of.places run.task;
        at_ = at_moved of.places z.state z.active run.task run.at_;
        goes = λ h. run.goes (halted of.places a (subst IsHalt same h));
        tasks = subst (λ v. TaskStep Q (moved_state of.places z.state) z.active (moved_task of.places run.task) v (moved_state of.places y.state)) (sym found) (step_is z.state y.state z.active run.task (found_by a z.state.cells) run.tasks);
        cells = run.cells ∙ sym (ap (λ x. direct_cells x z.state.cells) same ∙ cells_are of.places a z.state.cells);
        active = run.active ∙ sym (active_is run.task z.active (found_by a z.state.cells) a)
            ∙ ap (λ x. active_after Q (moved_task of.places run.task) z.active (found_by a z.state.cells) x) (sym same)
            ∙ ap (λ v. active_after Q (moved_task of.places run.task) z.active v (act_now Q (moved_body of.places run.task.body))) (sym found);
        printed = run.printed ∙ sym (ap (λ x. printed_after x z.printed) same ∙ printed_is of.places a z.printed);
      }

  -- The sequential run of the code comes to the same stages,
  pub sequential_alike : {main : Start TreeScript} {cells : List ℕ} {z : Running TreeScript} → Sequential P main cells z → Sequential Q (moved_start of.places main) cells (moved_running of.places z)
  sequential_alike opens = opens
  sequential_alike (runs_on {z} {y} run step) = runs_on (sequential_alike run) (runs_is z y step)

  end_is : (z : Running TreeScript) → IsAtEnd P z → IsAtEnd Q (moved_running of.places z)
  end_is z end = record {
    task = moved_task of.places end.task;
    at_ = at_moved of.places z.state z.active end.task end.at_;
    stops = subst IsHalt (sym (act_is end.task.body)) (halts of.places (act_now P end.task.body) end.stops);
  }

  abbrev outcome_with : Answer → ℕ → ℕ → Outcome
  outcome_with answer tasks entries = record { answer = answer; tasks = tasks; entries = entries }

  -- and gives the same.
  pub outcome_alike : {main : Start TreeScript} {cells : List ℕ} (o : Outcome) → IsOutcome P main cells o → IsOutcome Q (moved_start of.places main) cells o
  unfolding end_is
  outcome_alike {main} {cells} o (ends {z} run end over) =
      subst (λ k. IsOutcome Q (moved_start of.places main) cells (outcome_with (answers.Done z.printed z.state.cells) k (entries_in z.state))) (tasks_are of.places z.state)
      (subst (λ k. IsOutcome Q (moved_start of.places main) cells (outcome_with (answers.Done z.printed z.state.cells) (tasks_in (moved_state of.places z.state)) k)) (all_entries_are of.places z.state)
      (ends (sequential_alike run) (end_is z end) (act_is end.task.body ∙ ap (moved_act of.places) over)))
  outcome_alike {main} {cells} o (fails {z} {kind} {line} {key} run end fault) =
      subst (λ k. IsOutcome Q (moved_start of.places main) cells (outcome_with (answers.Fault kind line z.printed) k (entries_in z.state))) (tasks_are of.places z.state)
      (subst (λ k. IsOutcome Q (moved_start of.places main) cells (outcome_with (answers.Fault kind line z.printed) (tasks_in (moved_state of.places z.state)) k)) (all_entries_are of.places z.state)
      (fails (sequential_alike run) (end_is z end) (act_is end.task.body ∙ ap (moved_act of.places) fault)))

-- Since each has one outcome, what the code gives the program gives too.
outcome_back : (all : List Item) (code : CodeParts) (of : IsCodeOf all code) (main : Start TreeScript) (cells : List ℕ) → Setting main cells → (o : Outcome)
    → IsOutcome (asks code) (moved_start of.places main) cells o → IsOutcome (asks_of all) main cells o
outcome_back all code of main cells setting o outcome =
    let own = (run_has_one (asks_of all) main cells setting (programs_are_lively all code of)).some in
    subst (λ x. IsOutcome (asks_of all) main cells x) (one_outcome (asks code) own.0 o (outcome_alike all code of own.0 own.1) outcome) own.1

pub outcomes_alike : OutcomesAlike
outcomes_alike all code of main cells setting o = (λ outcome. outcome_alike all code of o outcome, λ outcome. outcome_back all code of main cells setting o outcome)
