-- Sequential runs of programs whose bodies do the same acts have the same result.
use Rattle.std.proofs.Common.{◌≡◌, ℕ, refl, sym, subst, ap, ◌∙◌, List, [], ◌∷◌, Bool}
use Rattle.std.specs.Prelude.{if◌then◌else◌}
use Rattle.oss_model.specs.declared.answer.Answer.{Answer}
use Rattle.oss_model.specs.declared.answer.Answer.TheVariants as answers
use Rattle.oss_model.specs.Bodies.{Program, Act, Frame, Start}
use Rattle.oss_model.specs.Bodies.Act.{Over}
use Rattle.oss_model.specs.Machine.{Task, At}
use Rattle.oss_model.specs.Moves.{act_now, created_now, is_ended, found_by, after_answer, TaskStep, opening}
use Rattle.oss_model.specs.Sequence.{Running, Sequential, opens, runs_on, RunsOn, direct_cells, printed_after, path_above, active_after}
use Rattle.oss_model.specs.Answers.{IsResult, ends, fails}
use Rattle.oss_same_acts_laws.specs.Alike.{AreActsAlike, both_tick, both_load, both_store, both_fold, both_create, both_include, both_await, both_wait, both_wait_on, both_release, both_print, both_end, both_fault, both_over, IsBisimulation, AreTasksAlike, IsAlike}
use Rattle.oss_same_acts_laws.proofs.TurnLemmas.{acts_back, at_both, at_forth}
use Rattle.oss_same_acts_laws.proofs.ActLemmas.{halt_back, now, created_alike, answered_alike}
use Rattle.oss_same_acts_laws.proofs.MakeLemmas.{acting, acts, acting_cells}
use Rattle.oss_same_acts_laws.proofs.AlikeTheorem.{opening_alike, answer_alike, task_step_alike}
use Rattle.oss_same_acts_laws.proofs.AnswerLemmas.{fault_forth}

goes_to : List ℕ → Bool → List ℕ
goes_to p e = if e then path_above p else p

module _ {S T : Type 0} {R : Start S → Start T → Type 0} {f : Frame S} {g : Frame T} where
  pub over_forth : {a : Act S} {b : Act T} → AreActsAlike R f g a b → a ≡ Over → b ≡ Over
  over_forth both_over e = refl
  over_forth both_tick e = cc
  over_forth both_load e = cc
  over_forth both_store e = cc
  over_forth both_fold e = cc
  over_forth (both_create r) e = cc
  over_forth both_include e = cc
  over_forth both_await e = cc
  over_forth both_wait e = cc
  over_forth both_wait_on e = cc
  over_forth both_release e = cc
  over_forth both_print e = cc
  over_forth both_end e = cc
  over_forth both_fault e = cc

  direct_alike : {a : Act S} {b : Act T} → AreActsAlike R f g a b → (cells : List ℕ) → direct_cells a cells ≡ direct_cells b cells
  direct_alike both_store cells = refl
  direct_alike both_fold cells = refl
  direct_alike both_tick cells = refl
  direct_alike both_load cells = refl
  direct_alike (both_create r) cells = refl
  direct_alike both_include cells = refl
  direct_alike both_await cells = refl
  direct_alike both_wait cells = refl
  direct_alike both_wait_on cells = refl
  direct_alike both_release cells = refl
  direct_alike both_print cells = refl
  direct_alike both_end cells = refl
  direct_alike both_fault cells = refl
  direct_alike both_over cells = refl

  printed_alike : {a : Act S} {b : Act T} → AreActsAlike R f g a b → (output : List ℕ) → printed_after a output ≡ printed_after b output
  printed_alike both_print output = refl
  printed_alike both_tick output = refl
  printed_alike both_load output = refl
  printed_alike both_store output = refl
  printed_alike both_fold output = refl
  printed_alike (both_create r) output = refl
  printed_alike both_include output = refl
  printed_alike both_await output = refl
  printed_alike both_wait output = refl
  printed_alike both_wait_on output = refl
  printed_alike both_release output = refl
  printed_alike both_end output = refl
  printed_alike both_fault output = refl
  printed_alike both_over output = refl

  module _ (P : Program S) (Q : Program T) (t : Task S) (u : Task T) (p : List ℕ) (v w : ℕ) (made : created_now P t.body ≡ created_now Q u.body) (over : is_ended P (after_answer v t).body ≡ is_ended Q (after_answer w u).body) where
    active_alike : {a : Act S} {b : Act T} → AreActsAlike R f g a b → active_after P t p v a ≡ active_after Q u p w b
    unfolding goes_to
    active_alike (both_create r) = ap (λ (k : ℕ). k ∷ p) made
    active_alike both_tick = ap (goes_to p) over
    active_alike both_load = ap (goes_to p) over
    active_alike both_store = ap (goes_to p) over
    active_alike both_fold = ap (goes_to p) over
    active_alike both_include = ap (goes_to p) over
    active_alike both_await = ap (goes_to p) over
    active_alike both_wait = ap (goes_to p) over
    active_alike both_wait_on = ap (goes_to p) over
    active_alike both_release = ap (goes_to p) over
    active_alike both_print = ap (goes_to p) over
    active_alike both_end = ap (goes_to p) over
    active_alike both_fault = ap (goes_to p) over
    active_alike both_over = ap (goes_to p) over

-- two stages of sequential runs: the states are alike, the same task runs, and the same is printed
pub record IsStageAlike {S T : Type 0} (R : Start S → Start T → Type 0) (z : Running S) (y : Running T) : Type 0 where
  pub state : IsAlike R z.state y.state
  pub active : z.active ≡ y.active
  pub printed : z.printed ≡ y.printed

module _ {S T : Type 0} (P : Program S) (Q : Program T) (R : Start S → Start T → Type 0) (is : IsBisimulation P Q R) where
  -- two runs that go on from stages that are alike come to stages that are
  pub both_go_on : (z x : Running S) (y w : Running T) → IsStageAlike R z y → RunsOn P z x → RunsOn Q y w → IsStageAlike R x w
  both_go_on z x y w same r m = record {
    state = record {
      cells = r.cells ∙ (ap (direct_cells (act_now P r.task.body)) same.state.cells ∙ (direct_alike (now P Q R is k).acts y.state.cells ∙ sym m.cells));
      tasks = λ q. task_step_alike P Q R is same.state y.active k
          (subst (λ (p : List ℕ). TaskStep P z.state p r.task v x.state) same.active r.tasks) m.tasks q;
    };
    active = r.active ∙ (ap (λ (p : List ℕ). active_after P r.task p v (act_now P r.task.body)) same.active
        ∙ (active_alike P Q r.task m.task y.active v u (created_alike P Q R is k) (now P Q R is (answered_alike k v u (answer_alike P Q R is same.state k))).ended (now P Q R is k).acts ∙ sym m.active));
    printed = r.printed ∙ (ap (printed_after (act_now P r.task.body)) same.printed ∙ (printed_alike (now P Q R is k).acts y.printed ∙ sym m.printed));
  }
    where
      k : AreTasksAlike R r.task m.task
      k = at_both same.state y.active r.task m.task (subst (λ (p : List ℕ). At z.state p r.task) same.active r.at_) m.at_

      v : ℕ
      v = found_by (act_now P r.task.body) z.state.cells

      u : ℕ
      u = found_by (act_now Q m.task.body) y.state.cells

  -- the runs go on to stages that are alike
  pub goes_on : (z x : Running S) (y : Running T) → IsStageAlike R z y → RunsOn P z x → (w : Running T) × RunsOn Q y w × IsStageAlike R x w
  goes_on z x y same r = (w, on, both_go_on z x y w same r on)
    where
      k : (u : Task T) × At y.state y.active u × AreTasksAlike R r.task u
      k = at_forth same.state y.active r.task (subst (λ (p : List ℕ). At z.state p r.task) same.active r.at_)

      act : Act T
      act = act_now Q k.0.body

      cells : List ℕ
      cells = direct_cells act y.state.cells

      w : Running T
      w = record { state = acting y.state y.active k.0 k.1 Q cells; active = active_after Q k.0 y.active (found_by act y.state.cells) act; printed = printed_after act y.printed }

      on : RunsOn Q y w
      on = record {
        task = k.0;
        at_ = k.1;
        goes = λ h. r.goes (halt_back (now P Q R is k.2).acts h);
        tasks = acts y.state y.active k.0 k.1 Q cells;
        cells = acting_cells y.state y.active k.0 k.1 Q cells;
        active = refl;
        printed = refl;
      }

  -- the sequential runs have stages that are alike
  pub sequential_too : (main : Start S) (other : Start T) (cells : List ℕ) → R main other → {z : Running S} → Sequential P main cells z → (y : Running T) × Sequential Q other cells y × IsStageAlike R z y
  sequential_too main other cells r opens =
      (record { state = opening other cells; active = []; printed = [] }, opens, record { state = opening_alike P Q R is main other cells r; active = refl; printed = refl })
  sequential_too main other cells r (runs_on {z = z} {y = x} h on) =
      let k = sequential_too main other cells r h in
      let m = goes_on z x k.0 k.2 on in
      (m.0, runs_on k.1 m.1, m.2)

  -- and so the same result
  pub result_forth : (main : Start S) (other : Start T) (cells : List ℕ) → R main other → (a : Answer) → IsResult P main cells a → IsResult Q other cells a
  result_forth main other cells r a (ends {z = z} h end over) =
      let k = sequential_too main other cells r h in
      let u = at_forth k.2.state k.0.active end.task (subst (λ (p : List ℕ). At z.state p end.task) k.2.active end.at_) in
      subst (λ (output : List ℕ). IsResult Q other cells (answers.Done output z.state.cells)) (sym k.2.printed)
      (subst (λ (memory : List ℕ). IsResult Q other cells (answers.Done k.0.printed memory)) (sym k.2.state.cells)
      (ends k.1 (record { task = u.0; at_ = u.1; stops = halt_back (acts_back (now P Q R is u.2).acts) end.stops }) (over_forth (now P Q R is u.2).acts over)))
  result_forth main other cells r a (fails {z = z} {kind = kind} {line = line} {key = key} h end fault) =
      let k = sequential_too main other cells r h in
      let u = at_forth k.2.state k.0.active end.task (subst (λ (p : List ℕ). At z.state p end.task) k.2.active end.at_) in
      subst (λ (output : List ℕ). IsResult Q other cells (answers.Fault kind line output)) (sym k.2.printed)
      (fails k.1 (record { task = u.0; at_ = u.1; stops = halt_back (acts_back (now P Q R is u.2).acts) end.stops }) (fault_forth (now P Q R is u.2).acts kind line key fault))
