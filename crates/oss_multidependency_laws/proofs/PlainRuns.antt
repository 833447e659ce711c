-- The sequential run of a program is that of one that asks alike, each cell of a creation in an access of its own.
use Rattle.std.proofs.Common.{◌≡◌, ◌∙◌, ℕ, zero, suc, ◌+◌, Bool, true, false, List, [], ◌∷◌, length, map, Option, Some, None, option_map, refl, sym, ap, subst}
use Rattle.std.specs.Prelude.{◌-◌, ◌^◌, ◌≢◌, if◌then◌else◌, min}
use Rattle.oss_model.specs.Bodies.{Act, Body, Frame, IsHalt, Order, Program, Start, child_start, stack_from}
use Rattle.oss_model.specs.Bodies.Act.{Awaited, Created, Ended, Fault, Folded, Load, Over, Printed, Releases, Store, Ticked, Waited, WaitedOn}
use Rattle.oss_model.specs.Context.{right_of}
use Rattle.oss_model.specs.Machine.{At, State, Task, find, same_path}
use Rattle.oss_model.specs.Moves.{TaskStep, act_now, after_answer, created_now, found_by, is_ended, new_task, opening}
use Rattle.oss_model.specs.Sequence.{IsAtEnd, Running, RunsOn, Sequential, active_after, direct_cells, path_above, printed_after}
use Rattle.oss_model.specs.Sequence.Sequential.{opens, runs_on}
use Rattle.oss_model.specs.declared.answer.Answer.{Answer}
use Rattle.oss_model.specs.declared.answer.Answer.TheVariants as answers
use Rattle.oss_model.proofs.Exclusive.{same_self}
use Rattle.oss_model.proofs.TreeLemmas.{same_path_is}
use Rattle.oss_meaning.specs.Results.{IsOutcome, Outcome, cells_held, entries_in, entries_of, is_among, one_held, tasks_in, weighed}
use Rattle.oss_meaning.specs.Results.IsOutcome.{ends, fails}
use Rattle.oss_multidependency_laws.proofs.Singles.{child_same}
use Rattle.oss_multidependency_laws.proofs.PlainBodies.{AskAlike, IsGoodAct, acts_alike, acts_good, created_alike, plain_act, stands_alike}
use Rattle.oss_multidependency_laws.specs.Grouping.{plain_order, plain_start}

abbrev pub plain_body : {S : Type 0} → Body S → Body S
plain_body b = record { start = plain_start b.start; found = b.found }

abbrev pub plain_task : {S : Type 0} → Task S → Task S
plain_task t = record { body = plain_body t.body; given = t.given }

abbrev pub plain_state : {S : Type 0} → State S → State S
plain_state s = record { cells = s.cells; tasks = map plain_task s.tasks }

abbrev pub plain_running : {S : Type 0} → Running S → Running S
plain_running z = record { state = plain_state z.state; active = z.active; printed = z.printed }

abbrev value_or : {A : Type 0} → Option A → A → A
value_or None d = d
value_or (Some a) d = a

abbrev IsSomething : {A : Type 0} → Option A → Type 0
IsSomething None = ⊥
IsSomething (Some a) = Unit {0}

abbrev IsYes : Bool → Type 0
IsYes true = Unit {0}
IsYes false = ⊥

apart : (q p : List ℕ) → same_path q p ≡ false → q ≢ p
apart q p e same = subst IsYes (sym (ap (λ x. same_path x p) same ∙ same_self p) ∙ e) tt

-- a creation is a creation
abbrev IsCreation : {S : Type 0} → Act S → Type 0
IsCreation (Created o included) = Unit {0}
IsCreation _ = ⊥

abbrev order_in : {S : Type 0} → Act S → Order S → Order S
order_in (Created o included) other = o
order_in _ other = other

abbrev IsApart : {S : Type 0} → Act S → Type 0
IsApart (Created o false) = Unit {0}
IsApart _ = ⊥

-- the task that an act makes, if it makes one
abbrev made_in : {S : Type 0} → Act S → Option (Order S)
made_in (Created o false) = Some o
made_in _ = None

-- a sum of two ways
chosen_are : (b : Bool) (k l m n w v : ℕ) → k ≡ l → m ≡ n → w ≡ v → (if b then k else w + m) ≡ (if b then l else v + n)
chosen_are true k l m n w v e f g = e
chosen_are false k l m n w v e f g = ap (λ x. x + m) g ∙ ap (λ x. v + x) f

module _ {S : Type 0} where
  find_is : (ts : List (Task S)) (p : List ℕ) → find (map plain_task ts) p ≡ option_map plain_task (find ts p)
  unfolding find
  find_is [] p = refl
  find_is (t ∷ ts) p = by_path (same_path t.body.start.path p) (find_is ts p)
    where
      by_path : (here : Bool) → find (map plain_task ts) p ≡ option_map plain_task (find ts p)
          → ◌≡◌ {A = Option (Task S)} (if here then Some (plain_task t) else find (map plain_task ts) p) (option_map plain_task (if here then Some t else find ts p))
      by_path true later = refl
      by_path false later = later

  at_plain : (s : State S) (p : List ℕ) (t : Task S) → At s p t → At (plain_state s) p (plain_task t)
  at_plain s p t h = find_is s.tasks p ∙ ap (option_map plain_task) h

  halts : (a : Act S) → IsHalt a → IsHalt (plain_act a)
  halts Ticked h = h
  halts (Load cell) h = h
  halts (Store cell x) h = h
  halts (Folded cell op x slot) h = h
  halts Awaited h = h
  halts Waited h = h
  halts (WaitedOn named) h = h
  halts (Releases clauses included) h = h
  halts (Printed key text) h = h
  halts Ended h = h
  halts (Fault kind line key) h = h
  halts Over h = h
  halts (Created o included) h = h

  halted : (a : Act S) → IsHalt (plain_act a) → IsHalt a
  halted Ticked h = h
  halted (Load cell) h = h
  halted (Store cell x) h = h
  halted (Folded cell op x slot) h = h
  halted Awaited h = h
  halted Waited h = h
  halted (WaitedOn named) h = h
  halted (Releases clauses included) h = h
  halted (Printed key text) h = h
  halted Ended h = h
  halted (Fault kind line key) h = h
  halted Over h = h
  halted (Created o included) h = h

  found_is : (a : Act S) (cells : List ℕ) → found_by (plain_act a) cells ≡ found_by a cells
  found_is Ticked cells = refl
  found_is (Load cell) cells = refl
  found_is (Store cell x) cells = refl
  found_is (Folded cell op x slot) cells = refl
  found_is Awaited cells = refl
  found_is Waited cells = refl
  found_is (WaitedOn named) cells = refl
  found_is (Releases clauses included) cells = refl
  found_is (Printed key text) cells = refl
  found_is Ended cells = refl
  found_is (Fault kind line key) cells = refl
  found_is Over cells = refl
  found_is (Created o included) cells = refl

  cells_are : (a : Act S) (cells : List ℕ) → direct_cells (plain_act a) cells ≡ direct_cells a cells
  cells_are Ticked cells = refl
  cells_are (Load cell) cells = refl
  cells_are (Store cell x) cells = refl
  cells_are (Folded cell op x slot) cells = refl
  cells_are Awaited cells = refl
  cells_are Waited cells = refl
  cells_are (WaitedOn named) cells = refl
  cells_are (Releases clauses included) cells = refl
  cells_are (Printed key text) cells = refl
  cells_are Ended cells = refl
  cells_are (Fault kind line key) cells = refl
  cells_are Over cells = refl
  cells_are (Created o included) cells = refl

  printed_is : (a : Act S) (output : List ℕ) → printed_after (plain_act a) output ≡ printed_after a output
  printed_is Ticked output = refl
  printed_is (Load cell) output = refl
  printed_is (Store cell x) output = refl
  printed_is (Folded cell op x slot) output = refl
  printed_is Awaited output = refl
  printed_is Waited output = refl
  printed_is (WaitedOn named) output = refl
  printed_is (Releases clauses included) output = refl
  printed_is (Printed key text) output = refl
  printed_is Ended output = refl
  printed_is (Fault kind line key) output = refl
  printed_is Over output = refl
  printed_is (Created o included) output = refl

  child_is : (f : Frame S) (o : Order S) → child_start f (plain_order o) ≡ plain_start (child_start f o)
  unfolding child_start
  child_is f o = ap {B = Start S} (λ x. record { order = plain_order o; context = x; path = f.context.created ∷ f.path }) (child_same f.context o.clauses o.last)

  made_is : (a : Act S) (o : Order S) → made_in a ≡ Some o → a ≡ Created o false
  made_is (Created u false) o e = ap (λ x. Created (value_or x u) false) e
  made_is (Created u true) o e = absurd (subst IsSomething (sym e) tt)
  made_is Ticked o e = absurd (subst IsSomething (sym e) tt)
  made_is (Load cell) o e = absurd (subst IsSomething (sym e) tt)
  made_is (Store cell x) o e = absurd (subst IsSomething (sym e) tt)
  made_is (Folded cell op x slot) o e = absurd (subst IsSomething (sym e) tt)
  made_is Awaited o e = absurd (subst IsSomething (sym e) tt)
  made_is Waited o e = absurd (subst IsSomething (sym e) tt)
  made_is (WaitedOn named) o e = absurd (subst IsSomething (sym e) tt)
  made_is (Releases clauses included) o e = absurd (subst IsSomething (sym e) tt)
  made_is (Printed key text) o e = absurd (subst IsSomething (sym e) tt)
  made_is Ended o e = absurd (subst IsSomething (sym e) tt)
  made_is (Fault kind line key) o e = absurd (subst IsSomething (sym e) tt)
  made_is Over o e = absurd (subst IsSomething (sym e) tt)

  -- Counts

  held_is : (t : Task S) (n : ℕ) → cells_held (plain_task t) n ≡ cells_held t n
  held_is t zero = refl
  held_is t (suc n) = ap (λ k. one_held (right_of t.body.start.context n) + k) (held_is t n)

  entries_are : (n : ℕ) (t : Task S) (p : List ℕ) → entries_of n (plain_task t) p ≡ entries_of n t p
  entries_are n t [] = refl
  entries_are n t (k ∷ p) = ap (λ m. 1 + m) (held_is t n)

  weighed_are : (weight same : Task S → ℕ) (alike : (t : Task S) → weight (plain_task t) ≡ same t) (ts : List (Task S)) (seen : List (List ℕ)) → weighed weight seen (map plain_task ts) ≡ weighed same seen ts
  weighed_are weight same alike [] seen = refl
  weighed_are weight same alike (t ∷ ts) seen =
      chosen_are (is_among seen t.body.start.path)
      (weighed weight seen (map plain_task ts)) (weighed same seen ts)
      (weighed weight (t.body.start.path ∷ seen) (map plain_task ts)) (weighed same (t.body.start.path ∷ seen) ts)
      (weight (plain_task t)) (same t)
      (weighed_are weight same alike ts seen) (weighed_are weight same alike ts (t.body.start.path ∷ seen)) (alike t)

  tasks_are : (s : State S) → tasks_in (plain_state s) ≡ tasks_in s
  tasks_are s = ap (λ k. min k (2 ^ 64 - 1)) (weighed_are (λ t. 1) (λ t. 1) (λ t. refl) s.tasks [])

  all_entries_are : (s : State S) → entries_in (plain_state s) ≡ entries_in s
  all_entries_are s = weighed_are (λ t. entries_of (length s.cells) t t.body.start.path) (λ t. entries_of (length s.cells) t t.body.start.path) (λ t. entries_are (length s.cells) t t.body.start.path) s.tasks []

module _ {S : Type 0} (P N : Program S) (of : AskAlike P N) where
  -- the script of a body is good
  abbrev Fine : Body S → Type 0
  Fine b = of.Good b.start.order.script

  -- so is that of each task
  abbrev AllFine : State S → Type 0
  AllFine s = (q : List ℕ) (u : Task S) → At s q u → Fine u.body

  act_is : (b : Body S) → Fine b → act_now N (plain_body b) ≡ plain_act (act_now P b)
  act_is b h = acts_alike P N of b.start h b.found

  created_is : (b : Body S) → Fine b → created_now N (plain_body b) ≡ created_now P b
  created_is b h = created_alike P N of b.start h b.found

  ended_is : (b : Body S) → Fine b → is_ended N (plain_body b) ≡ is_ended P b
  ended_is b h = ap (λ s. s.ended) (stands_alike P N of b.start h b.found).same

  new_is : (b : Body S) (o : Order S) → Fine b → new_task N (plain_body b) (plain_order o) ≡ plain_task (new_task P b o)
  new_is b o h =
      ap {B = Task S} (λ s. record { body = record { start = child_start s.base (plain_order o); found = [] }; given = [] }) (stands_alike P N of b.start h b.found).same
      ∙ ap {B = Task S} (λ s. record { body = record { start = s; found = [] }; given = [] }) (child_is (stack_from P b.start b.found).base o)

  active_is : (t : Task S) (p : List ℕ) (v : ℕ) (a : Act S) → Fine t.body → active_after N (plain_task t) p v (plain_act a) ≡ active_after P t p v a
  active_is t p v (Created o false) h = ap (λ k. k ∷ p) (created_is t.body h)
  active_is t p v (Created o true) h = ap (λ e. if e then path_above p else p) (ended_is (after_answer v t).body h)
  active_is t p v Ticked h = ap (λ e. if e then path_above p else p) (ended_is (after_answer v t).body h)
  active_is t p v (Load cell) h = ap (λ e. if e then path_above p else p) (ended_is (after_answer v t).body h)
  active_is t p v (Store cell x) h = ap (λ e. if e then path_above p else p) (ended_is (after_answer v t).body h)
  active_is t p v (Folded cell op x slot) h = ap (λ e. if e then path_above p else p) (ended_is (after_answer v t).body h)
  active_is t p v Awaited h = ap (λ e. if e then path_above p else p) (ended_is (after_answer v t).body h)
  active_is t p v Waited h = ap (λ e. if e then path_above p else p) (ended_is (after_answer v t).body h)
  active_is t p v (WaitedOn named) h = ap (λ e. if e then path_above p else p) (ended_is (after_answer v t).body h)
  active_is t p v (Releases clauses included) h = ap (λ e. if e then path_above p else p) (ended_is (after_answer v t).body h)
  active_is t p v (Printed key text) h = ap (λ e. if e then path_above p else p) (ended_is (after_answer v t).body h)
  active_is t p v Ended h = ap (λ e. if e then path_above p else p) (ended_is (after_answer v t).body h)
  active_is t p v (Fault kind line key) h = ap (λ e. if e then path_above p else p) (ended_is (after_answer v t).body h)
  active_is t p v Over h = ap (λ e. if e then path_above p else p) (ended_is (after_answer v t).body h)

  -- the tasks after an act
  step_is : (s n : State S) (p : List ℕ) (t : Task S) (v : ℕ) → Fine t.body → TaskStep P s p t v n → TaskStep N (plain_state s) p (plain_task t) v (plain_state n)
  step_is s n p t v h step = record {
    own = at_plain n p (after_answer v t) step.own;
    made = λ o e. made_by o (act_now P t.body) refl (sym (act_is t.body h) ∙ e);
    others = λ q other none.
        find_is n.tasks q
        ∙ ap (option_map plain_task) (step.others q other (λ o e same. none (plain_order o) (act_is t.body h ∙ ap plain_act e) (same ∙ ap (λ k. k ∷ p) (sym (created_is t.body h)))))
        ∙ sym (find_is s.tasks q);
  }
    where
      goal : Order S → Type 0
      goal o = At (plain_state n) (created_now N (plain_body t.body) ∷ p) (new_task N (plain_body t.body) o)

      created : (o : Order S) → act_now P t.body ≡ Created o false → goal (plain_order o)
      created o e =
          ap (λ k. find (plain_state n).tasks (k ∷ p)) (created_is t.body h)
          ∙ at_plain n (created_now P t.body ∷ p) (new_task P t.body o) (step.made o e)
          ∙ ap Some (sym (new_is t.body o h))

      made_by : (o : Order S) (a : Act S) → act_now P t.body ≡ a → plain_act a ≡ Created o false → goal o
      made_by o (Created u false) e same = subst goal (ap (λ x. order_in x o) same) (created u e)
      made_by o (Created u true) e same = absurd (subst IsApart (sym same) tt)
      made_by o Ticked e same = absurd (subst IsCreation (sym same) tt)
      made_by o (Load cell) e same = absurd (subst IsCreation (sym same) tt)
      made_by o (Store cell x) e same = absurd (subst IsCreation (sym same) tt)
      made_by o (Folded cell op x slot) e same = absurd (subst IsCreation (sym same) tt)
      made_by o Awaited e same = absurd (subst IsCreation (sym same) tt)
      made_by o Waited e same = absurd (subst IsCreation (sym same) tt)
      made_by o (WaitedOn named) e same = absurd (subst IsCreation (sym same) tt)
      made_by o (Releases clauses included) e same = absurd (subst IsCreation (sym same) tt)
      made_by o (Printed key text) e same = absurd (subst IsCreation (sym same) tt)
      made_by o Ended e same = absurd (subst IsCreation (sym same) tt)
      made_by o (Fault kind line key) e same = absurd (subst IsCreation (sym same) tt)
      made_by o Over e same = absurd (subst IsCreation (sym same) tt)

  child_good : (b : Body S) (o : Order S) → of.Good o.script → Fine (new_task P b o).body
  unfolding child_start
  child_good b o g = g

  -- no other script comes up
  step_fine : (s n : State S) (p : List ℕ) (t : Task S) (v : ℕ) → Fine t.body → TaskStep P s p t v n → AllFine s → AllFine n
  step_fine s n p t v h step fine q u at_q = by_path (same_path q p) refl
    where
      along : (q : List ℕ) (r : List ℕ) (w : Task S) → q ≡ r → At n q u → At n r w → Fine w.body → Fine u.body
      along q r w same left right good = subst (λ x. Fine x.body) (sym (ap (λ o. value_or o w) (sym left ∙ ap (λ k. find n.tasks k) same ∙ right))) good

      by_made : (o : Option (Order S)) → made_in (act_now P t.body) ≡ o → q ≢ p → Fine u.body
      by_made None none other =
          let no_order = λ (o : Order S) (e : act_now P t.body ≡ Created o false). absurd (subst IsSomething (sym (ap made_in e) ∙ none) tt) in
          fine q u (sym (step.others q other (λ o e. no_order o e)) ∙ at_q)
      by_made (Some o) some other = by_child (same_path q (created_now P t.body ∷ p)) refl
        where
          creates : act_now P t.body ≡ Created o false
          creates = made_is (act_now P t.body) o some

          by_child : (b : Bool) → same_path q (created_now P t.body ∷ p) ≡ b → Fine u.body
          by_child true e = along q (created_now P t.body ∷ p) (new_task P t.body o) (same_path_is q (created_now P t.body ∷ p) e) at_q (step.made o creates) (child_good t.body o (subst (IsGoodAct of.Good) creates (acts_good P N of t.body.start h t.body.found)))
          by_child false e = fine q u (sym (step.others q other (λ w k. apart q _ e)) ∙ at_q)

      by_path : (b : Bool) → same_path q p ≡ b → Fine u.body
      by_path true e = along q p (after_answer v t) (same_path_is q p e) at_q step.own h
      by_path false e = by_made (made_in (act_now P t.body)) refl (apart q p e)

  runs_is : (z y : Running S) → AllFine z.state → RunsOn P z y → RunsOn N (plain_running z) (plain_running y)
  runs_is z y fine run =
      let a = act_now P run.task.body in
      let h = fine z.active run.task run.at_ in
      let same = act_is run.task.body h in
      let found : found_by (act_now N (plain_body run.task.body)) z.state.cells ≡ found_by a z.state.cells = ap (λ x. found_by x z.state.cells) same ∙ found_is a z.state.cells in
      record {
        task = plain_task run.task;
        at_ = at_plain z.state z.active run.task run.at_;
        goes = λ stops. run.goes (halted a (subst IsHalt same stops));
        tasks = subst (λ v. TaskStep N (plain_state z.state) z.active (plain_task run.task) v (plain_state y.state)) (sym found) (step_is z.state y.state z.active run.task (found_by a z.state.cells) h run.tasks);
        cells = run.cells ∙ sym (ap (λ x. direct_cells x z.state.cells) same ∙ cells_are a z.state.cells);
        active = run.active ∙ sym (active_is run.task z.active (found_by a z.state.cells) a h)
            ∙ ap (λ x. active_after N (plain_task run.task) z.active (found_by a z.state.cells) x) (sym same)
            ∙ ap (λ v. active_after N (plain_task run.task) z.active v (act_now N (plain_body run.task.body))) (sym found);
        printed = run.printed ∙ sym (ap (λ x. printed_after x z.printed) same ∙ printed_is a z.printed);
      }

  -- A stage of the run, to which that of the other program comes too.
  record Comes (main : Start S) (cells : List ℕ) (z : Running S) : Type 0 where
    fine : AllFine z.state
    run : Sequential N (plain_start main) cells (plain_running z)

  opening_fine : (main : Start S) (cells : List ℕ) → of.Good main.order.script → AllFine (opening main cells)
  unfolding find
  opening_fine main cells h q u at_q = by (same_path main.path q) at_q
    where
      by : (b : Bool) → (if b then Some (record { body = record { start = main; found = [] }; given = [] }) else None) ≡ Some u → Fine u.body
      by true e = subst (λ x. Fine x.body) (ap (λ o. value_or o u) e) h
      by false e = absurd (subst IsSomething (sym e) tt)

  comes : {main : Start S} {cells : List ℕ} {z : Running S} → of.Good main.order.script → Sequential P main cells z → Comes main cells z
  comes {main} {cells} h opens = record { fine = opening_fine main cells h; run = opens }
  comes h (runs_on {z} {y} run step) =
      let before = comes h run in record {
        fine = step_fine z.state y.state z.active step.task (found_by (act_now P step.task.body) z.state.cells) (before.fine z.active step.task step.at_) step.tasks before.fine;
        run = runs_on before.run (runs_is z y before.fine step);
      }

  end_is : (z : Running S) → AllFine z.state → IsAtEnd P z → IsAtEnd N (plain_running z)
  end_is z fine end = record {
    task = plain_task end.task;
    at_ = at_plain z.state z.active end.task end.at_;
    stops = subst IsHalt (sym (act_is end.task.body (fine z.active end.task end.at_))) (halts (act_now P end.task.body) end.stops);
  }

  abbrev outcome_with : Answer → ℕ → ℕ → Outcome
  outcome_with answer tasks entries = record { answer = answer; tasks = tasks; entries = entries }

  -- The run of the other program gives the same.
  pub outcome_alike : {main : Start S} {cells : List ℕ} (o : Outcome) → of.Good main.order.script → IsOutcome P main cells o → IsOutcome N (plain_start main) cells o
  unfolding end_is
  outcome_alike {main} {cells} o h (ends {z} run end over) =
      let c = comes h run in
      subst (λ k. IsOutcome N (plain_start main) cells (outcome_with (answers.Done z.printed z.state.cells) k (entries_in z.state))) (tasks_are z.state)
      (subst (λ k. IsOutcome N (plain_start main) cells (outcome_with (answers.Done z.printed z.state.cells) (tasks_in (plain_state z.state)) k)) (all_entries_are z.state)
      (ends c.run (end_is z c.fine end) (act_is end.task.body (c.fine z.active end.task end.at_) ∙ ap plain_act over)))
  outcome_alike {main} {cells} o h (fails {z} {kind} {line} {key} run end fault) =
      let c = comes h run in
      subst (λ k. IsOutcome N (plain_start main) cells (outcome_with (answers.Fault kind line z.printed) k (entries_in z.state))) (tasks_are z.state)
      (subst (λ k. IsOutcome N (plain_start main) cells (outcome_with (answers.Fault kind line z.printed) (tasks_in (plain_state z.state)) k)) (all_entries_are z.state)
      (fails c.run (end_is z c.fine end) (act_is end.task.body (c.fine z.active end.task end.at_) ∙ ap plain_act fault)))
