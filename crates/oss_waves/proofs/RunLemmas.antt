-- A run by waves from its beginning, and what it gives.
use Rattle.std.proofs.Common.{◌≡◌, ℕ, ◌<◌, ◌^◌, ◌-◌, sym, ap, ◌∙◌, subst, arith, true, List, length, min, Result, Ok, Err}
use Rattle.std.specs.Prelude.{IfOk}
use Rattle.std.specs.declared.alloc.AllocError.{AllocError}
use Rattle.oss_syntax.specs.declared.access.Op.{Op}
use Rattle.oss_syntax.specs.declared.access.Mode.TheVariants.{Fold, Write}
use Rattle.oss_model.specs.declared.answer.Answer.{Answer}
use Rattle.oss_model.specs.Answers.{IsAnswer, IsResult}
use Rattle.oss_model.specs.Bodies.{Start}
use Rattle.oss_model.specs.Context.{right_of}
use Rattle.oss_model.specs.Rights.{Holds}
use Rattle.oss_model.specs.Machine.{State, Task}
use Rattle.oss_model.specs.Moves.{opening}
use Rattle.oss_model.proofs.SequenceLemmas.{opening_at}
use Rattle.oss_model.proofs.TerminationTheorem.{run_has_result}
use Rattle.oss_wave_laws.specs.Rounds.{Line, Trace}
use Rattle.oss_wave_laws.proofs.MovesLemmas.{answer_is_the_result}
use Rattle.oss_code.specs.declared.code.CodeParts.{CodeParts}
use Rattle.oss_machine.specs.Frames.{CodeScript}
use Rattle.oss_machine.specs.Machines.{asks}
use Rattle.oss_machine.proofs.LiveTheorem.{lively}
use Rattle.oss_body.specs.Mains.{code_main}
use Rattle.oss_deps.specs.Seen.{Seen}
use Rattle.oss_core.specs.Kept.{IsCore, Kept}
use Rattle.oss_core.proofs.CoreLeftLemmas.{memory_size, tasks_counted}
use Rattle.oss_sched.specs.declared.moves.WaveRecord.{WaveRecord}
use Rattle.oss_waves.specs.declared.rounds.Ran.{Ran}
use Rattle.oss_waves.specs.Rounding.{HasMadeRounds, IsAtRest, IsResting}
use Rattle.oss_waves.specs.WaveRuns.{IsWaveRun, trace_in}

-- main alone has no cell to give up
pub opening_rests : (code : CodeParts) (main : Start CodeScript) (first : List ℕ) (k : Kept) → IsCore code main first k (opening main first) → IsAtRest (asks code) (opening main first)
opening_rests code main first k core = record {
  no_let = λ p c t can. can.not_main (opening_at main first p t core.setting.starts.path can.at_).0;
  no_join = λ p c op t can. let o = opening_at main first p t core.setting.starts.path can.at_ in no_fold c op (ap (λ (x : Task CodeScript). right_of x.body.start.context c) (sym o.1) ∙ can.right);
}
  where
    no_fold : (c : ℕ) (op : Op) → right_of main.context c ≡ Holds (Fold op) true → ⊥
    no_fold c op e = let f : Fold op ≡ Write = core.setting.writes c (Fold op) true e in absurd cc

-- so the core that has just begun is at rest
pub opening_resting : (code : CodeParts) (main : Start CodeScript) (first : List ℕ) (k : Kept) → IsCore code main first k (opening main first) → IsResting code k
opening_resting code main first k core = record { main = main; first = first; state = opening main first; core = core; rest = opening_rests code main first k core }

-- its memory has as many cells as the code
pub opening_room : (code : CodeParts) (main : Start CodeScript) (first : List ℕ) (k : Kept) → IsCore code main first k (opening main first) → length k.cells ≡ length first
opening_room code main first k core = memory_size core

-- a trace by its parts
abbrev trace : List (List Line) → ℕ → ℕ → Trace
trace waves tasks most = record { waves = waves; tasks = tasks; widest = most }

few_tasks : (n : ℕ) → n < 2 ^ 64 → n ≡ min n (2 ^ 64 - 1)
few_tasks n l = grind (arith, l)

alike : {a b : List (List Line)} {m n k l : ℕ} → a ≡ b → m ≡ n → k ≡ l → trace a m k ≡ trace b n l
alike {a = a} {b = b} {m = m} {n = n} {k = k} {l = l} e f g = ap (λ (x : List (List Line)). trace x m k) e ∙ (ap (λ (x : ℕ). trace b x k) f ∙ ap (λ (x : ℕ). trace b n x) g)

-- the rounds that were made, with their answer, are the run
pub run_made : (code : CodeParts) (fuel : ℕ) (old new : Kept) (ran : Ran) (answer : Answer) (told : WaveRecord) (seen : Seen) → IsCore code (code_main code fuel) code.first old (opening (code_main code fuel) code.first) → HasMadeRounds code old new ran
    → ((main : Start CodeScript) (first : List ℕ) (s : State CodeScript) → IsCore code main first new s → IsAnswer (asks code) s answer) → told ≡ record { waves = ran.waves; tasks = length new.tree.tasks; widest = ran.widest } → length new.tree.tasks < 2 ^ 64
    → new.seen ≡ seen → IsWaveRun code fuel seen answer told
run_made code fuel old new ran answer told seen core made answers told_is few seen_is =
    let main = code_main code fuel in
    let r = made main code.first (opening main code.first) core (opening_rests code main code.first old core) in
    let a = answers main code.first r.state r.core in
    let result = run_has_result CodeScript (asks code) main code.first core.setting (lively code) in
    let one = answer_is_the_result CodeScript (asks code) main code.first r.rounds r.state answer result.0 core.setting r.are_rounds a result.1 in
    record {
      rounds = r.rounds;
      state = r.state;
      runs = r.are_rounds;
      answer_is = a;
      result_is = subst (λ (b : Answer). IsResult (asks code) main code.first b) (sym one) result.1;
      trace_is = ap trace_in told_is ∙ alike r.lines (few_tasks (length new.tree.tasks) few ∙ ap (λ (n : ℕ). min n (2 ^ 64 - 1)) (sym (tasks_counted r.core))) r.most_is;
      kept = new;
      core = r.core;
      seen_is = seen_is;
    }

-- the same of what a call gives, where it gives something
pub run_given : {A : Type 0} (answer_of : A → Answer) (told_of : A → WaveRecord) (seen_of : A → Seen) (result : Result A AllocError) (code : CodeParts) (fuel : ℕ) (old new : Kept) (ran : Ran)
    → IsCore code (code_main code fuel) code.first old (opening (code_main code fuel) code.first) → HasMadeRounds code old new ran
    → IfOk result (λ run. (code : CodeParts) (main : Start CodeScript) (first : List ℕ) (s : State CodeScript) → IsCore code main first new s → IsAnswer (asks code) s (answer_of run))
    → IfOk result (λ run. told_of run ≡ record { waves = ran.waves; tasks = length new.tree.tasks; widest = ran.widest }) → IfOk result (λ run. length new.tree.tasks < 2 ^ 64) → IfOk result (λ run. seen_of run ≡ new.seen)
    → IfOk result (λ run. IsWaveRun code fuel (seen_of run) (answer_of run) (told_of run))
run_given answer_of told_of seen_of (Ok run) code fuel old new ran core made answers told few seen = run_made code fuel old new ran (answer_of run) (told_of run) (seen_of run) core made (answers code) told few (sym seen)
run_given answer_of told_of seen_of (Err error) code fuel old new ran core made answers told few seen = tt
