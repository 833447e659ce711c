-- A run of the code of a program gives what the program's own run gives.
use Rattle.std.proofs.Common.{◌≡◌, ◌∙◌, ℕ, false, List, [], ◌∷◌, Option, refl, sym, ap, subst}
use Rattle.std.specs.Prelude.{map}
use Rattle.oss_syntax.specs.declared.tree.program.Program.{Program}
use Rattle.oss_model.specs.Agreement.{AreWords}
use Rattle.oss_model.specs.Moves.{Reached}
use Rattle.oss_model.specs.declared.answer.Answer.{Answer}
use Rattle.oss_model.specs.declared.answer.Answer.TheVariants.{Done, Fault}
use Rattle.oss_wave_laws.specs.Rounds.{trace_of}
use Rattle.oss_meaning.specs.Meaning.{asks_of}
use Rattle.oss_meaning.specs.Results.{Outcome, first_cells, main_of}
use Rattle.oss_code.specs.declared.code.CodeParts.{CodeParts}
use Rattle.oss_lower_laws.specs.Lowered.{IsLowered}
use Rattle.oss_lower_laws.specs.Programs.{IsCodeOf}
use Rattle.oss_lower_laws.proofs.OutcomeLaws.{main_outcomes_alike, main_setting, start_is}
use Rattle.oss_machine.specs.Machines.{asks}
use Rattle.oss_body.specs.Mains.{code_main}
use Rattle.oss_deps.specs.Seen.{Seen}
use Rattle.oss_serial.specs.Runs.{IsRan}
use Rattle.oss_serial.specs.declared.run.Ran.{Ran}
use Rattle.oss_sched.specs.Traces.{trace_text}
use Rattle.oss_sched.specs.declared.moves.WaveRecord.{WaveRecord}
use Rattle.oss_sched.specs.declared.moves.TextMove.{TextMove}
use Rattle.oss_sched.specs.declared.moves.TextMove.TheVariants.{Step, Let, Join}
use Rattle.oss_waves.specs.WaveRuns.{IsWaveRun, line_of, lines_of, trace_in}
use Rattle.oss_command.specs.Commands.{AreFit, is_by_workers}
use Rattle.oss_command.specs.declared.options.Options.{Options}
use Rattle.oss_audit.specs.Lines.{audit_text}
use Rattle.oss_audit.specs.Reply.{IsAuditedOf}
use Rattle.oss_audit.specs.declared.unused.Unused.{Unused}
use Rattle.oss_top.specs.Audits.{IsAuditReply}
use Rattle.oss_top.specs.Drawn.{IsGraphOfProgram, IsGraphReply, drawn_reply}
use Rattle.oss_top.specs.Explained.{IsEndingOfProgram, IsExplainReply, IsFailureOfEnding, ending_reply}
use Rattle.oss_graph_text.specs.Text.{IsGraphText}
use Rattle.oss_labels.specs.declared.labels.Labelled.{Labelled}
use Rattle.oss_labels.specs.Labels.{AreLabelsOf}
use Rattle.oss_labels.specs.Lists.{label_at}
use Rattle.oss_task_graph.specs.declared.graph.Graph.{Graph}
use Rattle.oss_explain.specs.declared.ending.Ending.{Ending}
use Rattle.oss_explain.specs.declared.ending.Ending.TheVariants as endings
use Rattle.oss_explain.specs.Endings.{IsFailureIn}
use Rattle.oss_machine.specs.declared.failure.Failure.{Failure}
use Rattle.oss_top.specs.Spans.{IsSpanReply}
use Rattle.oss_span.specs.Reply.{IsSpannedOf, span_text}
use Rattle.oss_span.specs.declared.link.Link.{Link}
use Rattle.oss_top.specs.Forms.{answer_reply, run_reply, soak_reply, told_reply, trace_reply}
use Rattle.oss_top.specs.Reply.{IsRunReply}
use Rattle.oss_top.specs.Runs.{AreWavesOf, IsDone, IsRanBy, IsRanOf}
use Rattle.oss_top.specs.Soaks.{IsSoakReply}
use Rattle.oss_top.specs.Traces.{IsTraceReply, move_of, record_of}
use Rattle.oss_top.specs.declared.reply.Reply.{Reply}
use Rattle.oss_span_laws.proofs.CodeMoves.{codes_do_the_same, is_moved, outcome_of}
use Rattle.oss_top.specs.Workers.{AreToldOf, IsSingleOf}
use Rattle.oss_prior.specs.SingleRuns.{IsSingleRun}
use Rattle.oss_same_acts_laws.specs.Alike.{turned}
use Rattle.oss_same_acts_laws.proofs.AlikeTheorem.{run_too}
use Rattle.oss_same_acts_laws.proofs.MayLemmas.{stopped_forth}
use Rattle.oss_same_acts_laws.proofs.RoundLemmas.{tasks_alike}
use Rattle.oss_same_acts_laws.proofs.TurnLemmas.{bisimulation_back}
use Rattle.oss_top.proofs.CountLemmas.{as_many_at, as_many_tasks}
use Rattle.oss_top.proofs.LineLemmas.{lines_by_one, no_lines, no_lines_asked, without_lines}
use Rattle.oss_top.proofs.TurnMoves.{order_of_code}
use Rattle.oss_top.proofs.TraceMoves.{traces_of_code}

pub ran-of : (p : Program) (code : CodeParts) (fuel : ℕ) (ran : Ran) → IsCodeOf p.items code → AreWords code.first → IsRan code fuel ran → IsRanOf p.items fuel ran
ran-of p code fuel ran of words (entries, is) =
    let o : Outcome = record { answer = ran.answer; tasks = ran.tasks; entries = entries } in
    record { outcome = o; is_outcome = (main_outcomes_alike p.items code of words fuel o).1 is; answer = refl; tasks = refl }

-- A record is that of the trace that it tells.
move_back : (m : TextMove) → move_of (line_of m) ≡ m
move_back (Step point acts) = refl
move_back (Let point first count) = refl
move_back (Join point first count) = refl

moves_back : (ms : List TextMove) → map move_of (lines_of ms) ≡ ms
moves_back [] = refl
moves_back (m ∷ ms) = ap (λ (n : TextMove). n ∷ map move_of (lines_of ms)) (move_back m) ∙ ap (λ (ns : List TextMove). m ∷ ns) (moves_back ms)

waves_back : (ws : List (List TextMove)) → map (map move_of) (map lines_of ws) ≡ ws
waves_back [] = refl
waves_back (w ∷ ws) =
    ap (λ (v : List TextMove). v ∷ map (map move_of) (map lines_of ws)) (moves_back w) ∙ ap (λ (vs : List (List TextMove)). w ∷ vs) (waves_back ws)

record_back : (told : WaveRecord) → record_of (trace_in told) ≡ told
record_back told = ap (λ (ws : List (List TextMove)). let r : WaveRecord = record { waves = ws; tasks = told.tasks; widest = told.widest } in r) (waves_back told.waves)

-- what the run by waves of the code tells, of the program
pub waves_of : (p : Program) (code : CodeParts) (fuel : ℕ) (seen : Seen) (answer : Answer) (waves : WaveRecord) → IsCodeOf p.items code → AreWords code.first
    → IsWaveRun code fuel seen answer waves → AreWavesOf p fuel answer waves
waves_of p code fuel seen answer waves of words run =
    let o = outcome_of (asks code) (code_main code fuel) code.first answer run.result_is in
    let of_program = (main_outcomes_alike p.items code of words fuel o.0).1 o.1 in
    let trace = traces_of_code p.items code of fuel (trace_of run.rounds run.state) (record { rounds = run.rounds; state = run.state; runs = run.runs; trace_is = refl }) in
    let recorded : waves ≡ record_of (trace_of run.rounds run.state) = sym (record_back waves) ∙ ap record_of run.trace_is in
    record {
      outcome = o.0;
      is_outcome = of_program;
      answer_is = sym o.2;
      trace = trace_of run.rounds run.state;
      is_trace = trace;
      recorded = recorded;
      tasks = λ done.
          ap (λ (w : WaveRecord). w.tasks) recorded
          ∙ as_many_tasks (asks_of p.items) (main_of p.items fuel) (first_cells p.items) (trace_of run.rounds run.state) o.0 (main_setting p.items fuel (subst AreWords of.first words)) trace of_program done;
    }

-- the same answer and record, by other names
pub waves_kept : (p : Program) (fuel : ℕ) (answer told : Answer) (waves kept : WaveRecord) → told ≡ answer → kept ≡ waves → AreWavesOf p fuel answer waves → AreWavesOf p fuel told kept
waves_kept p fuel answer told waves kept e f is =
    record {
      outcome = is.outcome;
      is_outcome = is.is_outcome;
      answer_is = e ∙ is.answer_is;
      trace = is.trace;
      is_trace = is.is_trace;
      recorded = f ∙ is.recorded;
      tasks = λ done. ap (λ (w : WaveRecord). w.tasks) f ∙ is.tasks done;
    }

-- what a run one task after the other gives
pub ran_serially : (p : Program) (fuel : ℕ) (ran : Ran) → IsRanOf p.items fuel ran → IsRanBy p fuel ran
ran_serially p fuel ran is = record { outcome = is.outcome; is_outcome = is.is_outcome; answer = is.answer; tasks = λ done. is.tasks }

-- and what one by waves gives
pub ran_by_waves : (p : Program) (fuel : ℕ) (waves : WaveRecord) (ran : Ran) → AreWavesOf p fuel ran.answer waves → ran.tasks ≡ waves.tasks → IsRanBy p fuel ran
ran_by_waves p fuel waves ran is same = record { outcome = is.outcome; is_outcome = is.is_outcome; answer = is.answer_is; tasks = λ done. same ∙ is.tasks done }

-- what a run by one worker of the code gives, of the program
pub single_of : (p : Program) (code : CodeParts) (fuel : ℕ) (answer : Answer) (order : List (List ℕ)) (tasks : ℕ) → IsCodeOf p.items code → AreWords code.first → IsSingleRun code fuel answer order tasks
    → IsSingleOf p fuel answer order tasks
single_of p code fuel answer order tasks of words run =
    let o = outcome_of (asks code) (code_main code fuel) code.first answer run.result_is in
    let of_program = (main_outcomes_alike p.items code of words fuel o.0).1 o.1 in
    let there = bisimulation_back (codes_do_the_same p.items code of) in
    let d = run_too (asks code) (asks_of p.items) (turned (is_moved p.items code of)) there (code_main code fuel) (main_of p.items fuel) (first_cells p.items) (start_is p.items code of fuel)
    (subst (λ (cells : List ℕ). Reached (asks code) (code_main code fuel) cells run.state) of.first run.reached) in
    record {
      outcome = o.0;
      is_outcome = of_program;
      answer_is = sym o.2;
      order_is = order_of_code p.items code of fuel order (record { begun = run.begun; state = run.state; runs = run.runs; order_is = run.order_is });
      tasks_are = λ done.
          run.tasks_are ∙ tasks_alike d.alike
          ∙ as_many_at (asks_of p.items) (main_of p.items fuel) (first_cells p.items) d.state o.0 (main_setting p.items fuel (subst AreWords of.first words)) d.reached
          (stopped_forth (asks code) (asks_of p.items) (turned (is_moved p.items code of)) there d.alike run.stopped) of_program done;
    }

-- and what it gives as each run does
pub ran_by_one : (p : Program) (fuel : ℕ) (order : List (List ℕ)) (ran : Ran) → IsSingleOf p fuel ran.answer order ran.tasks → IsRanBy p fuel ran
ran_by_one p fuel order ran is = record { outcome = is.outcome; is_outcome = is.is_outcome; answer = is.answer_is; tasks = is.tasks_are }

-- the reply to a run by waves, or one task after the other
pub run_replies : (p : Program) (options : Options) (ran : Ran) (reply : Reply) → AreFit options → is_by_workers options.mode ≡ false → IsRanBy p options.fuel ran → reply ≡ answer_reply options.dump p ran.answer
    → IsRunReply options p reply
run_replies p options ran reply fit other is e =
    let none = no_lines_asked options fit other in
    record {
      outcome = is.outcome;
      is_outcome = is.is_outcome;
      lines = [];
      are_lines = no_lines options p none.0 none.1;
      is_reply = e ∙ ap (answer_reply options.dump p) is.answer ∙ without_lines options.dump p is.outcome.answer;
    }

-- and that to a run by one worker
pub worked_replies : (p : Program) (options : Options) (answer : Answer) (order : List (List ℕ)) (tasks : ℕ) (lines : List ℕ) (reply : Reply) → AreFit options → IsSingleOf p options.fuel answer order tasks
    → AreToldOf options order lines → reply ≡ run_reply options.dump p lines answer → IsRunReply options p reply
worked_replies p options answer order tasks lines reply fit is told e = record {
  outcome = is.outcome;
  is_outcome = is.is_outcome;
  lines = lines;
  are_lines = lines_by_one options p order lines fit.some is.order_is told;
  is_reply = e ∙ ap (run_reply options.dump p lines) is.answer_is;
}

-- the number of tasks is told where the program came to its end
counts_alike : (a : Answer) (n m : ℕ) → (IsDone a → n ≡ m) → soak_reply n a ≡ soak_reply m a
counts_alike (Done text cells) n m same = ap (λ (k : ℕ). soak_reply k (Done text cells)) (same tt)
counts_alike (Fault kind line text) n m same = refl

-- the reply to a soak
pub soak_replies : (p : Program) (options : Options) (ran : Ran) (reply : Reply) → IsRanBy p options.fuel ran → reply ≡ soak_reply ran.tasks ran.answer → IsSoakReply options p reply
soak_replies p options ran reply is e =
    record { outcome = is.outcome; is_outcome = is.is_outcome; is_reply = e ∙ ap (soak_reply ran.tasks) is.answer ∙ counts_alike is.outcome.answer ran.tasks is.outcome.tasks is.tasks }

-- the reply to a trace
pub trace_replies : (p : Program) (fuel : ℕ) (answer : Answer) (waves : WaveRecord) (reply : Reply) → AreWavesOf p fuel answer waves → reply ≡ trace_reply (trace_text waves) answer
    → IsTraceReply fuel p reply
trace_replies p fuel answer waves reply is e =
    record {
      trace = is.trace;
      is_trace = is.is_trace;
      outcome = is.outcome;
      is_outcome = is.is_outcome;
      is_reply = e ∙ ap (λ (w : WaveRecord). trace_reply (trace_text w) answer) is.recorded ∙ ap (trace_reply _) is.answer_is;
    }

-- the reply to an audit
pub audit_replies : (p : Program) (fuel : ℕ) (answer : Answer) (us : List Unused) (text : List ℕ) (reply : Reply) → IsAuditedOf p.items fuel answer us → text ≡ audit_text us → reply ≡ told_reply text answer → IsAuditReply fuel p reply
audit_replies p fuel answer us text reply is e f = record { answer = answer; text = text; audited = record { unused = us; audited = is; text_is = e }; is_reply = f }

-- the reply that tells of a longest chain
pub span_replies : (p : Program) (fuel : ℕ) (answer : Answer) (work span : ℕ) (chain : List Link) (text : List ℕ) (reply : Reply) → IsSpannedOf p.items fuel answer work span chain → text ≡ span_text work span chain
    → reply ≡ told_reply text answer → IsSpanReply fuel p reply
span_replies p fuel answer work span chain text reply is e f = record { answer = answer; text = text; told = record { work = work; span = span; chain = chain; spanned = is; text_is = e }; is_reply = f }

-- what failed in the run of a code failed in that of its program
pub failure_told : (fuel : ℕ) (p : Program) (code : CodeParts) → IsLowered p.items code → (e : Ending) (f : Option Failure) → IsFailureIn code fuel e f → IsFailureOfEnding fuel p e f
failure_told fuel p code of endings.Done f h = h
failure_told fuel p code of (endings.Fault kind line e) f h = record { code = code; lowered = of; is = h }

-- the reply that explains a fault
pub explain_replies : (p : Program) (fuel : ℕ) (ending : Ending) (failure : Option Failure) (labels : List Labelled) (reply : Reply) → IsEndingOfProgram fuel p ending → IsFailureOfEnding fuel p ending failure
    → AreLabelsOf p.items labels → reply ≡ ending_reply p (label_at labels) ending failure → IsExplainReply fuel p reply
explain_replies p fuel ending failure labels reply is fails are e =
    record { ending = ending; is_ending = is; failure = failure; is_failure = fails; labels = labels; are_labels = are; is_reply = e }

-- the reply that draws the tasks
pub graph_replies : (p : Program) (fuel : ℕ) (graph : Graph) (labels : List Labelled) (text : List ℕ) (reply : Reply) → IsGraphOfProgram fuel p graph → AreLabelsOf p.items labels
    → IsGraphText p.items (label_at labels) graph text → reply ≡ drawn_reply text graph.fault → IsGraphReply fuel p reply
graph_replies p fuel graph labels text reply is are told e = record { graph = graph; is_graph = is; labels = labels; are_labels = are; text = text; is_text = told; is_reply = e }
