-- The sequential run of a program has one result: two stages to which it comes in as many steps are the same but for the order in which they
-- list their tasks. So the result of a code of a program is that of the program.
use Rattle.std.proofs.Common.{◌≡◌, ◌∙◌, ℕ, Bool, true, false, List, [], ◌∷◌, Option, Some, None, refl, sym, ap, subst}
use Rattle.std.specs.Prelude.{◌≢◌}
use Rattle.oss_model.specs.Answers.{IsResult}
use Rattle.oss_model.specs.Answers.IsResult.{ends, fails}
use Rattle.oss_model.specs.Bodies.{Act, IsHalt, Order, Program, Start}
use Rattle.oss_model.specs.Bodies.Act.{Awaited, Created, Ended, Fault, Folded, Load, Over, Printed, Releases, Store, Ticked, Waited, WaitedOn}
use Rattle.oss_model.specs.Machine.{At, State, Task, find, same_path}
use Rattle.oss_model.specs.Moves.{TaskStep, act_now, created_now, found_by, opening}
use Rattle.oss_model.specs.Sequence.{IsAtEnd, Running, RunsOn, Sequential, active_after, direct_cells, printed_after}
use Rattle.oss_model.specs.Sequence.Sequential.{opens, runs_on}
use Rattle.oss_model.specs.declared.answer.Answer.{Answer}
use Rattle.oss_model.specs.declared.answer.Answer.TheVariants as answers
use Rattle.oss_syntax.specs.declared.fault.FaultKind.{FaultKind}
use Rattle.oss_model.proofs.Exclusive.{same_self}
use Rattle.oss_model.proofs.TreeLemmas.{same_path_is}

abbrev pub value_or : {A : Type 0} → Option A → A → A
value_or None d = d
value_or (Some a) d = a

abbrev pub IsSomething : {A : Type 0} → Option A → Type 0
IsSomething None = ⊥
IsSomething (Some a) = Unit {0}

abbrev pub IsYes : Bool → Type 0
IsYes true = Unit {0}
IsYes false = ⊥

-- the task that an act makes, if it makes one
abbrev made_in : {S : Type 0} → Act S → Option (Order S)
made_in (Created o false) = Some o
made_in _ = None

made_is : {S : Type 0} (a : Act S) (o : Order S) → made_in a ≡ Some o → a ≡ Created o false
made_is (Created u false) o e = ap (λ x. Created (value_or x u) false) e
made_is (Created u true) o e = absurd (subst IsSomething (sym e) tt)
made_is Ticked o e = absurd (subst IsSomething (sym e) tt)
made_is (Load cell) o e = absurd (subst IsSomething (sym e) tt)
made_is (Store cell v) o e = absurd (subst IsSomething (sym e) tt)
made_is (Folded cell op v slot) o e = absurd (subst IsSomething (sym e) tt)
made_is Awaited o e = absurd (subst IsSomething (sym e) tt)
made_is Waited o e = absurd (subst IsSomething (sym e) tt)
made_is (WaitedOn named) o e = absurd (subst IsSomething (sym e) tt)
made_is (Releases clauses included) o e = absurd (subst IsSomething (sym e) tt)
made_is (Printed key text) o e = absurd (subst IsSomething (sym e) tt)
made_is Ended o e = absurd (subst IsSomething (sym e) tt)
made_is (Fault kind line key) o e = absurd (subst IsSomething (sym e) tt)
made_is Over o e = absurd (subst IsSomething (sym e) tt)

apart : (q p : List ℕ) → same_path q p ≡ false → q ≢ p
apart q p e same = subst IsYes (sym (ap (λ x. same_path x p) same ∙ same_self p) ∙ e) tt

-- a fault and an end are not one act
abbrev IsFaulty : {S : Type 0} → Act S → Type 0
IsFaulty (Fault kind line key) = Unit {0}
IsFaulty _ = ⊥

abbrev kind_in : {S : Type 0} → Act S → FaultKind → FaultKind
kind_in (Fault kind line key) other = kind
kind_in _ other = other

abbrev line_in : {S : Type 0} → Act S → ℕ → ℕ
line_in (Fault kind line key) other = line
line_in _ other = other

module _ {S : Type 0} (P : Program S) where
  -- Two stages are the same, but for the order of their tasks.
  pub record Same (z y : Running S) : Type 0 where
    pub found : (p : List ℕ) → find z.state.tasks p ≡ find y.state.tasks p
    pub cells : z.state.cells ≡ y.state.cells
    pub active : z.active ≡ y.active
    pub printed : z.printed ≡ y.printed

  -- the tasks after an act
  steps_same : (s y x : State S) (p : List ℕ) (t : Task S) (v : ℕ) → TaskStep P s p t v y → TaskStep P s p t v x → (q : List ℕ) → find y.tasks q ≡ find x.tasks q
  steps_same s y x p t v left right q = by_path (same_path q p) refl
    where
      by_made : (o : Option (Order S)) → made_in (act_now P t.body) ≡ o → q ≢ p → find y.tasks q ≡ find x.tasks q
      by_made None none other =
          let no_order = λ (o : Order S) (e : act_now P t.body ≡ Created o false). absurd (subst IsSomething (sym (ap made_in e) ∙ none) tt) in
          left.others q other (λ o e. no_order o e) ∙ sym (right.others q other (λ o e. no_order o e))
      by_made (Some o) some other = by_child (same_path q (created_now P t.body ∷ p)) refl
        where
          creates : act_now P t.body ≡ Created o false
          creates = made_is (act_now P t.body) o some

          by_child : (b : Bool) → same_path q (created_now P t.body ∷ p) ≡ b → find y.tasks q ≡ find x.tasks q
          by_child true e =
              let same = same_path_is q (created_now P t.body ∷ p) e in
              ap (λ r. find y.tasks r) same ∙ left.made o creates ∙ sym (right.made o creates) ∙ ap (λ r. find x.tasks r) (sym same)
          by_child false e = left.others q other (λ u k. apart q _ e) ∙ sym (right.others q other (λ u k. apart q _ e))

      by_path : (b : Bool) → same_path q p ≡ b → find y.tasks q ≡ find x.tasks q
      by_path true e =
          let same = same_path_is q p e in
          ap (λ r. find y.tasks r) same ∙ left.own ∙ sym right.own ∙ ap (λ r. find x.tasks r) (sym same)
      by_path false e = by_made (made_in (act_now P t.body)) refl (apart q p e)

  -- from one stage an act leads to one stage
  one_step_on : (z y x : Running S) → RunsOn P z y → RunsOn P z x → Same y x
  one_step_on z y x r k =
      record {
        found = steps_same z.state y.state x.state z.active r.task (found_by (act_now P r.task.body) z.state.cells) r.tasks
            (subst (λ t. TaskStep P z.state z.active t (found_by (act_now P t.body) z.state.cells) x.state) same k.tasks);
        cells = r.cells ∙ sym (k.cells ∙ ap (λ t. direct_cells (act_now P t.body) z.state.cells) same);
        active = r.active ∙ sym (k.active ∙ ap (λ t. active_after P t z.active (found_by (act_now P t.body) z.state.cells) (act_now P t.body)) same);
        printed = r.printed ∙ sym (k.printed ∙ ap (λ t. printed_after (act_now P t.body) z.printed) same);
      }
    where
      same : k.task ≡ r.task
      same = ap (λ o. value_or o k.task) (sym k.at_ ∙ r.at_)

  -- what leads on from a stage leads on from one that is the same
  runs_from : (z w x : Running S) → Same z w → RunsOn P w x → RunsOn P z x
  runs_from z w x same r = record {
    task = r.task;
    at_ = same.found z.active ∙ ap (λ p. find w.state.tasks p) same.active ∙ r.at_;
    goes = r.goes;
    tasks = record {
      own = ap (λ p. find x.state.tasks p) same.active ∙ moved.own;
      made = λ o e. ap (λ p. find x.state.tasks (created_now P r.task.body ∷ p)) same.active ∙ moved.made o e;
      others = λ q other none.
          moved.others q (λ e. other (e ∙ sym same.active)) (λ o e k. none o e (k ∙ ap (λ p. created_now P r.task.body ∷ p) (sym same.active))) ∙ sym (same.found q);
    };
    cells = r.cells ∙ ap (λ cells. direct_cells (act_now P r.task.body) cells) (sym same.cells);
    active = r.active ∙ ap (λ p. active_after P r.task p (found_by (act_now P r.task.body) w.state.cells) (act_now P r.task.body)) (sym same.active)
        ∙ ap (λ cells. active_after P r.task z.active (found_by (act_now P r.task.body) cells) (act_now P r.task.body)) (sym same.cells);
    printed = r.printed ∙ ap (λ text. printed_after (act_now P r.task.body) text) (sym same.printed);
  }
    where
      moved : TaskStep P w.state w.active r.task (found_by (act_now P r.task.body) z.state.cells) x.state
      moved = subst (λ cells. TaskStep P w.state w.active r.task (found_by (act_now P r.task.body) cells) x.state) (sym same.cells) r.tasks

  -- A stage from which the run comes to this end.
  pub data Ahead (end : Running S) : Running S → Type 0 where
    here : (z : Running S) → Same z end → Ahead end z
    later : (z y : Running S) → RunsOn P z y → Ahead end y → Ahead end z

  same_stage : (z : Running S) → Same z z
  same_stage z = record { found = λ p. refl; cells = refl; active = refl; printed = refl }

  then_same : (x y z : Running S) → Same x y → Same y z → Same x z
  then_same x y z a b = record { found = λ p. a.found p ∙ b.found p; cells = a.cells ∙ b.cells; active = a.active ∙ b.active; printed = a.printed ∙ b.printed }

  ahead_same : (end y w : Running S) → Same y w → Ahead end w → Ahead end y
  ahead_same end y w same (here w' is) = here y (then_same y w end same is)
  ahead_same end y w same (later w' x r a) = later y x (runs_from y w x same r) a

  back : {main : Start S} {cells : List ℕ} (end : Running S) {w : Running S} → Sequential P main cells w → Ahead end w → Ahead end (record { state = opening main cells; active = []; printed = [] })
  back end opens a = a
  back end (runs_on {z} {y} run step) a = back end run (later z y step a)

  -- the task that runs at the end
  same_task : (z w : Running S) (t u : Task S) → Same z w → At z.state z.active t → At w.state w.active u → t ≡ u
  same_task z w t u same at_t at_u = ap (λ o. value_or o t) (sym at_t ∙ same.found z.active ∙ ap (λ p. find w.state.tasks p) same.active ∙ at_u)

  ahead : {main : Start S} {cells : List ℕ} (end : Running S) → IsAtEnd P end → Ahead end (record { state = opening main cells; active = []; printed = [] }) → {z : Running S} → Sequential P main cells z → Ahead end z
  ahead end stops start opens = start
  ahead end stops start (runs_on {z} {y} run step) = on (ahead end stops start run)
    where
      on : Ahead end z → Ahead end y
      on (here z' same) = absurd (step.goes (subst (λ t. IsHalt (act_now P t.body)) (sym (same_task z end step.task stops.task same step.at_ stops.at_)) stops.stops))
      on (later z' w r a) = ahead_same end y w (one_step_on z y w step r) a

  -- The run has one end.
  pub one_end : {main : Start S} {cells : List ℕ} {z w : Running S} → Sequential P main cells z → IsAtEnd P z → Sequential P main cells w → IsAtEnd P w → Same z w
  one_end {main} {cells} {z} {w} run end other last = on (ahead w last (back w other (here w (same_stage w))) run)
    where
      on : Ahead w z → Same z w
      on (here z' same) = same
      on (later z' y r a) = absurd (r.goes (subst (λ t. IsHalt (act_now P t.body)) (sym (ap (λ o. value_or o r.task) (sym r.at_ ∙ end.at_))) end.stops))

  -- So it has one result.
  pub one_result : {main : Start S} {cells : List ℕ} (a b : Answer) → IsResult P main cells a → IsResult P main cells b → a ≡ b
  one_result a b (ends {z} run end over) (ends {z = w} other last over') =
      let same = one_end run end other last in
      ap (λ text. answers.Done text z.state.cells) same.printed ∙ ap (λ cells. answers.Done w.printed cells) same.cells
  one_result a b (ends {z} run end over) (fails {z = w} other last fault) =
      let same = one_end run end other last in
      absurd (subst IsFaulty (sym fault ∙ ap (λ t. act_now P t.body) (sym (same_task z w end.task last.task same end.at_ last.at_)) ∙ over) tt)
  one_result a b (fails {z} run end fault) (ends {z = w} other last over) =
      let same = one_end run end other last in
      absurd (subst IsFaulty (sym fault ∙ ap (λ t. act_now P t.body) (same_task z w end.task last.task same end.at_ last.at_) ∙ over) tt)
  one_result a b (fails {z} {kind} {line} {key} run end fault) (fails {z = w} {kind = kind'} {line = line'} {key = key'} other last fault') =
      let same = one_end run end other last in
      let acts = sym fault ∙ ap (λ t. act_now P t.body) (same_task z w end.task last.task same end.at_ last.at_) ∙ fault' in
      ap (λ k. answers.Fault k line z.printed) (ap (λ x. kind_in x kind) acts) ∙ ap (λ l. answers.Fault kind' l z.printed) (ap (λ x. line_in x line) acts) ∙ ap (λ text. answers.Fault kind' line' text) same.printed
