-- The pass stands beside the run from the first stage to the last, and what is told at the end is what the run spans.
use Rattle.std.proofs.Common.{◌≡◌, ℕ, sym, subst, ap, ◌∙◌, List, []}
use Rattle.std.specs.Prelude.{IfOk, Result, Ok, Err, length}
use Rattle.std.specs.declared.alloc.AllocError.{AllocError}
use Rattle.oss_syntax.specs.declared.fault.FaultKind.{FaultKind}
use Rattle.oss_model.specs.declared.answer.Answer.TheVariants as answers
use Rattle.oss_model.specs.Agreement.{Setting}
use Rattle.oss_model.specs.Bodies.{stage_act}
use Rattle.oss_model.specs.Moves.{act_now}
use Rattle.oss_meaning.specs.Results.{IsOutcome}
use Rattle.oss_code.specs.declared.code.CodeParts.{CodeParts}
use Rattle.oss_machine.specs.Machines.{asks}
use Rattle.oss_body.specs.declared.act.Act.{Act as CodeAct}
use Rattle.oss_body.specs.Acts.{act_seen}
use Rattle.oss_body.specs.Mains.{code_main}
use Rattle.oss_body.specs.Relation.{pending_of}
use Rattle.oss_serial.specs.declared.stage.Stage.{Stage}
use Rattle.oss_serial.specs.Stages.{IsNext, IsStage}
use Rattle.oss_serial.specs.Turns.{Ends}
use Rattle.oss_span.specs.declared.beside.End.{End}
use Rattle.oss_span.specs.declared.beside.End.TheVariants as ends
use Rattle.oss_span.specs.declared.beside.Longest.{Longest}
use Rattle.oss_span.specs.declared.link.Link.{Link}
use Rattle.oss_span.specs.declared.link.SpanRun.{SpanRun}
use Rattle.oss_span.specs.declared.pass.Pass.{Pass}
use Rattle.oss_span.specs.Endings.{IsAtBegin, IsEndedBeside, IsFinished, IsFound}
use Rattle.oss_span.specs.Passes.{IsBegun, IsFollowed, IsOn, IsTold}
use Rattle.oss_span.specs.Spans.{IsSpanRun, Spans, fails}
use Rattle.oss_span.proofs.EdgeLemmas.{beside_first, told_spans}
use Rattle.oss_span.proofs.SpanLemmas.{Beside, beside_next}

-- The kept stage is one of the run, and the pass stands beside it.
pub record IsBeside (code : CodeParts) (fuel : ℕ) (s : Stage) (pass : Pass) : Type 0 where
  pub setting : Setting (code_main code fuel) code.first
  pub is_stage : IsStage code (code_main code fuel) code.first s
  pub beside : Beside code (code_main code fuel) code.first s is_stage pass

module _ (code : CodeParts) (fuel : ℕ) where
  pub begins_beside : (s : Stage) (pass : Pass) → IsAtBegin code fuel s → IsBegun s.current pass → IsBeside code fuel s pass
  begins_beside s pass h b = record { setting = h.setting; is_stage = h.is_first.stage; beside = beside_first code (code_main code fuel) code.first h.setting s h.is_first pass b }

  -- The task that runs has done the act that was next.
  module _ (s : Stage) (pass : Pass) (h : IsBeside code fuel s pass) (a : CodeAct) (kept : a ≡ pending_of s.current) (seen : act_seen a ≡ stage_act (asks code) h.is_stage.current.start h.is_stage.current.found) (mid : Pass) (on : IsOn a pass mid) where
    on_now : IsOn (pending_of s.current) pass mid
    on_now = subst (λ (x : CodeAct). IsOn x pass mid) kept on

    seen_now : act_seen (pending_of s.current) ≡ act_now (asks code) h.is_stage.current
    seen_now = sym (ap act_seen kept) ∙ seen

    -- the run goes on
    pub goes_beside : (new : Stage) → IsNext code (code_main code fuel) code.first s h.is_stage new → (depth : ℕ) → depth ≡ length s.above → (next : Pass) → IsFollowed depth (length new.above) new.current mid next → IsBeside code fuel new next
    goes_beside new go depth deep next follows =
        let f : IsFollowed (length s.above) (length new.above) new.current mid next = subst (λ (n : ℕ). IsFollowed n (length new.above) new.current mid next) deep follows in
        record { setting = h.setting; is_stage = go.stage; beside = beside_next code (code_main code fuel) code.first h.setting s new h.is_stage go pass mid next h.beside on_now f seen_now }

    -- main has ended
    pub ends_beside : (cells output : List ℕ) (tasks : ℕ) → Ends (asks code) (code_main code fuel) code.first h.is_stage.stands.stage cells output tasks → (ticks : ℕ) (links : List Link) → IsTold mid ticks links
        → Spans (asks code) (code_main code fuel) code.first (answers.Done output cells) mid.work ticks links
    ends_beside cells output tasks e ticks links told =
        told_spans code (code_main code fuel) code.first h.setting s h.is_stage cells output tasks e pass mid h.beside on_now seen_now ticks links told

  -- a fault
  pub fails_beside : (kind : FaultKind) (line : ℕ) (output : List ℕ) (tasks : ℕ) → (entries : ℕ) × IsOutcome (asks code) (code_main code fuel) code.first (record { answer = answers.Fault kind line output; tasks = tasks; entries = entries })
      → Spans (asks code) (code_main code fuel) code.first (answers.Fault kind line output) 0 0 []
  fails_beside kind line output tasks (entries, o) = fails tasks entries o

  -- what is told at an end is what the run spans
  spans_found : (e : Result End AllocError) (s : Stage) (pass : Pass) (found : Longest) (run : SpanRun) → IfOk e (λ x. IsEndedBeside code fuel s pass x) → IsFound e pass found → IsFinished s (Ok found) run → IsSpanRun code fuel run
  spans_found (Ok ends.Done) s pass found run h (d, w, t) (a, x, y, z) = rw (a, x, y, z, d, w) (h found.span found.chain t)
  spans_found (Ok (ends.Fault kind line)) s pass found run h (d, w, t, l) (a, x, y, z) = rw (a, x, y, z, d, w, t, l) h
  spans_found (Err error) s pass found run h f i = absurd f

  pub spans_finished : (e : Result End AllocError) (s : Stage) (pass : Pass) (f : Result Longest AllocError) (r : Result SpanRun AllocError) → IfOk e (λ x. IsEndedBeside code fuel s pass x) → IfOk f (λ found. IsFound e pass found)
      → IfOk r (λ run. IsFinished s f run) → IfOk r (λ run. IsSpanRun code fuel run)
  spans_finished e s pass f (Err error) h k i = tt
  spans_finished e s pass (Ok found) (Ok run) h k i = spans_found e s pass found run h k i
  spans_finished e s pass (Err error) (Ok run) h k i = absurd i
