-- Turns, one after the other, and what a run by one worker gives.
use Rattle.std.proofs.Common.{◌≡◌, ℕ, ◌-◌, ◌^◌, ◌<◌, refl, sym, ap, ◌∙◌, subst, arith, List, [], ◌∷◌, ◌++◌, append_assoc, length, min, Option, Some, None, Result, Ok, Err}
use Rattle.std.specs.Prelude.{map, IfOk}
use Rattle.std.specs.declared.alloc.AllocError.{AllocError}
use Rattle.std.proofs.lemmas.Option.{slice_get_within}
use Rattle.oss_model.specs.declared.answer.Answer.{Answer}
use Rattle.oss_model.specs.Answers.{IsAnswer, IsResult}
use Rattle.oss_model.specs.Bodies.{Start}
use Rattle.oss_model.specs.Machine.{At, State, Task, find}
use Rattle.oss_model.specs.Moves.{opening}
use Rattle.oss_model.specs.Order.{written}
use Rattle.oss_model.specs.Sequence as sequence
use Rattle.oss_model.specs.declared.task_no.TaskNo.{TaskNo}
use Rattle.oss_model.proofs.TerminationTheorem.{run_has_result}
use Rattle.oss_wave_laws.proofs.FallLemmas.{passes_behind, takes_behind}
use Rattle.oss_code.specs.declared.code.CodeParts.{CodeParts}
use Rattle.oss_machine.specs.Frames.{CodeScript}
use Rattle.oss_machine.specs.Machines.{asks}
use Rattle.oss_machine.proofs.LiveTheorem.{lively}
use Rattle.oss_body.specs.Mains.{code_main}
use Rattle.oss_tree.specs.Tasks.{number}
use Rattle.oss_core.specs.CoreLeft.{core_left}
use Rattle.oss_core.specs.Kept.{IsCore, IsRunning, Kept}
use Rattle.oss_core.proofs.CoreLeftLemmas.{tasks_counted}
use Rattle.oss_core.proofs.ExactLemmas.{let_told}
use Rattle.oss_core.proofs.FallLemmas.{begun, falls_with}
use Rattle.oss_core.proofs.TreeFacts.{core_agrees}
use Rattle.oss_wakeups.specs.Watches.{HasNoLet}
use Rattle.oss_prior_laws.specs.Turns.{Turns, begun_by, ends, goes_on}
use Rattle.oss_prior_laws.proofs.OneOrderLemmas.{next_candidate}
use Rattle.oss_prior_laws.proofs.TurnsLemmas.{answer_is_the_result, turns_stop}
use Rattle.oss_prior.specs.SingleRuns.{IsFinal, IsSingleRun}
use Rattle.oss_prior.specs.Turning.{HasMadeTurns, HasTakenTurn, HaveTurnsGone, IsNextTask, LeadOn, TurnMade, TurnsGo}
use Rattle.oss_prior.proofs.ChoosingLemmas.{main_point}
use Rattle.oss_prior.proofs.TurnLemmas.{some_steps}

map_both : (xs ys : List (List ℕ)) → map written (xs ++ ys) ≡ map written xs ++ map written ys
map_both [] ys = refl
map_both (x ∷ xs) ys = ap (λ (zs : List (List ℕ)). written x ∷ zs) (map_both xs ys)

-- behind the first turn
pub first_turn : (code : CodeParts) (old new : Kept) (order : List (List ℕ)) (next : Option TaskNo) → HasTakenTurn code (number 0) old new [] order next → HaveTurnsGone code old new order next
first_turn code old new order next taken main first s core =
    let t = taken main first s [] core (main_point core) in
    record { state = t.made.state; begun = begun_by s [] t.made.steps; core = t.made.core; noted = t.made.noted; leads = lead next t.made t.next_is }
  where
    lead : (next : Option TaskNo) (made : TurnMade code main first s [] new [] order) → IsNextTask next (asks code) new.tree.tasks s made.state → LeadOn next code s new.tree.tasks made.state (begun_by s [] made.steps)
    lead None made none = ends made.turn none refl
    lead (Some task) made n = (n.0, n.1, next_candidate (asks code) n.0 n.2, λ later m h. goes_on made.turn n.2 h refl)

-- behind one more
pub next_turn : (code : CodeParts) (old mid new : Kept) (before after : List (List ℕ)) (task : TaskNo) (next : Option TaskNo) → HaveTurnsGone code old mid before (Some task) → HasTakenTurn code task mid new before after next → HaveTurnsGone code old new after next
next_turn code old mid new before after task next gone taken main first s core =
    let t = taken main first g.state g.leads.0 g.core g.leads.1 in
    record {
      state = t.made.state;
      begun = g.begun ++ begun_by g.state g.leads.0 t.made.steps;
      core = t.made.core;
      noted = t.made.noted ∙ (ap (λ (ps : List (List ℕ)). ps ++ map written (begun_by g.state g.leads.0 t.made.steps)) g.noted ∙ sym (map_both g.begun (begun_by g.state g.leads.0 t.made.steps)));
      leads = lead next t.made t.next_is;
    }
  where
    g : TurnsGo code main first s mid before (Some task)
    g = gone main first s core

    lead : (next : Option TaskNo) (made : TurnMade code main first g.state g.leads.0 new before after) → IsNextTask next (asks code) new.tree.tasks g.state made.state
        → LeadOn next code s new.tree.tasks made.state (g.begun ++ begun_by g.state g.leads.0 made.steps)
    lead None made none = g.leads.3 (begun_by g.state g.leads.0 made.steps) made.state (ends made.turn none refl)
    lead (Some w) made n = (
      n.0,
      n.1,
      next_candidate (asks code) n.0 n.2,
      λ later m h.
          subst (λ (ps : List (List ℕ)). Turns (asks code) s [] ps m) (sym (append_assoc g.begun (begun_by g.state g.leads.0 made.steps) later))
          (g.leads.3 (begun_by g.state g.leads.0 made.steps ++ later) m (goes_on made.turn n.2 h refl)),
    )

-- the next task is there
pub next_there : (code : CodeParts) (old mid : Kept) (order : List (List ℕ)) (task : TaskNo) → IsRunning code old → HaveTurnsGone code old mid order (Some task) → task.0 < length mid.tree.tasks
next_there code old mid order task running gone =
    let g = gone running.main running.first running.state running.core in
    slice_get_within mid.tree.tasks task.0 g.leads.1.task g.leads.1.at_

-- its turn leaves less to do
pub turn_falls : (code : CodeParts) (old mid new : Kept) (before after : List (List ℕ)) (task : TaskNo) (next : Option TaskNo) → IsRunning code old → HaveTurnsGone code old mid before (Some task) → HasTakenTurn code task mid new before after next
    → core_left code new < core_left code mid
turn_falls code old mid new before after task next running gone taken =
    let main = running.main in
    let first = running.first in
    let g = gone main first running.state running.core in
    let t = (taken main first g.state g.leads.0 g.core g.leads.1).made in
    let l = some_steps (asks code) g.leads.0 g.state t.turn.middle t.steps t.turn.takes t.turn.no_more g.leads.2.task g.leads.2.can in
    let a = takes_behind (asks code) main first (begun main first) g.core.setting sequence.opens (lively code) (core_agrees g.core) g.leads.0 t.steps t.turn.takes in
    let b = passes_behind (asks code) main first (begun main first) g.core.setting sequence.opens (lively code) a.agrees t.turn.behind in
    let x = a.falls in
    let y = b.falls in
    falls_with g.core t.core (omega (arith, l, x, y))

pub gone_running : (code : CodeParts) (old now : Kept) (order : List (List ℕ)) (next : Option TaskNo) → IsRunning code old → HaveTurnsGone code old now order next → IsRunning code now
gone_running code old now order next running gone =
    let g = gone running.main running.first running.state running.core in
    record { main = running.main; first = running.first; state = g.state; core = g.core }

-- where there is no next task these were all
pub turns_made : (code : CodeParts) (old new : Kept) (order : List (List ℕ)) (next : Option TaskNo) → next ≡ None → HaveTurnsGone code old new order next → HasMadeTurns code old new order
turns_made code old new order next e gone main first s core =
    let g = gone main first s core in
    record { state = g.state; begun = g.begun; turns = subst (λ (o : Option TaskNo). LeadOn o code s new.tree.tasks g.state g.begun) e g.leads; core = g.core; noted = g.noted }

pub core_runs : (code : CodeParts) (fuel : ℕ) (k : Kept) → IsCore code (code_main code fuel) code.first k (opening (code_main code fuel) code.first) → IsRunning code k
core_runs code fuel k core = record { main = code_main code fuel; first = code.first; state = opening (code_main code fuel) code.first; core = core }

-- behind all turns the core is final
pub is_final : (code : CodeParts) (fuel : ℕ) (old new : Kept) (order : List (List ℕ)) → IsCore code (code_main code fuel) code.first old (opening (code_main code fuel) code.first) → HasMadeTurns code old new order → IsFinal code new
is_final code fuel old new order core made =
    let main = code_main code fuel in
    let r = made main code.first (opening main code.first) core in
    record { main = main; first = code.first; state = r.state; core = r.core; stopped = (turns_stop CodeScript (asks code) main code.first r.begun r.state core.setting r.turns).1 }

few_tasks : (n : ℕ) → n < 2 ^ 64 → n ≡ min n (2 ^ 64 - 1)
few_tasks n l = grind (arith, l)

-- the turns that were made, with their answer, are the run
pub run_made : (code : CodeParts) (fuel : ℕ) (old new : Kept) (order told : List (List ℕ)) (answer : Answer) (tasks : ℕ) → IsCore code (code_main code fuel) code.first old (opening (code_main code fuel) code.first) → HasMadeTurns code old new order
    → ((main : Start CodeScript) (first : List ℕ) (s : State CodeScript) → IsCore code main first new s → IsAnswer (asks code) s answer) → told ≡ order → tasks ≡ length new.tree.tasks → length new.tree.tasks < 2 ^ 64 → IsSingleRun code fuel answer told tasks
run_made code fuel old new order told answer tasks core made answers told_is tasks_is few =
    let main = code_main code fuel in
    let r = made main code.first (opening main code.first) core in
    let a = answers main code.first r.state r.core in
    let end = turns_stop CodeScript (asks code) main code.first r.begun r.state core.setting r.turns in
    let result = run_has_result CodeScript (asks code) main code.first core.setting (lively code) in
    let one = answer_is_the_result CodeScript (asks code) main code.first r.begun r.state answer result.0 core.setting r.turns a result.1 in
    record {
      begun = r.begun;
      state = r.state;
      runs = r.turns;
      reached = end.0;
      stopped = end.1;
      answer_is = a;
      result_is = subst (λ (b : Answer). IsResult (asks code) main code.first b) (sym one) result.1;
      order_is = told_is ∙ r.noted;
      tasks_are = tasks_is ∙ (few_tasks (length new.tree.tasks) few ∙ ap (λ (n : ℕ). min n (2 ^ 64 - 1)) (sym (tasks_counted r.core)));
    }

-- the same of what a call gives, if it gives something
pub run_given : {A : Type 0} (answer_of : A → Answer) (order_of : A → List (List ℕ)) (tasks_of : A → ℕ) (result : Result A AllocError) (code : CodeParts) (fuel : ℕ) (old new : Kept) (order : List (List ℕ))
    → IsCore code (code_main code fuel) code.first old (opening (code_main code fuel) code.first) → HasMadeTurns code old new order
    → IfOk result (λ run. (code : CodeParts) (main : Start CodeScript) (first : List ℕ) (s : State CodeScript) → IsCore code main first new s → IsAnswer (asks code) s (answer_of run))
    → IfOk result (λ run. order_of run ≡ order) → IfOk result (λ run. tasks_of run ≡ length new.tree.tasks) → IfOk result (λ run. length new.tree.tasks < 2 ^ 64) → IfOk result (λ run. IsSingleRun code fuel (answer_of run) (order_of run) (tasks_of run))
run_given answer_of order_of tasks_of (Ok run) code fuel old new order core made answers told tasks few = run_made code fuel old new order (order_of run) (answer_of run) (tasks_of run) core made (answers code) told tasks few
run_given answer_of order_of tasks_of (Err error) code fuel old new order core made answers told tasks few = tt

-- what is not there is none
pub none_left : {A : Type 0} (o : Option A) → ((x : A) → o ≡ Some x → ⊥) → o ≡ None
none_left None n = refl
none_left (Some x) n = absurd (n x refl)

-- main is there
pub main_there : {code : CodeParts} {main : Start CodeScript} {first : List ℕ} {k : Kept} {s : State CodeScript} → IsCore code main first k s → 0 < length k.tree.tasks
main_there {k = k} core = let p = main_point core in slice_get_within k.tree.tasks 0 p.task p.at_

-- at the beginning no cell may be given up
main_only : (main : Start CodeScript) (first p : List ℕ) (t : Task CodeScript) → main.path ≡ [] → At (opening main first) p t → p ≡ []
unfolding find
main_only main first [] t e a = refl
main_only main first (j ∷ p) t e a = let b = rw e at a in absurd cc

pub first_quiet : (code : CodeParts) (fuel : ℕ) (k : Kept) → IsCore code (code_main code fuel) code.first k (opening (code_main code fuel) code.first) → HasNoLet k
first_quiet code fuel k core v c may = let l = let_told core v c may in l.3.not_main (main_only (code_main code fuel) code.first l.0 l.1 refl l.3.at_)
