-- Texts have one reply at most, and where nothing fails it is the one that comes.
use Rattle.std.proofs.Common.{◌≡◌, ℕ, Bool, false, List, Option, Some, None, refl, sym, ap, ◌∙◌, subst, arith, ◌⊎◌, inl, inr}
use Rattle.std.specs.Prelude.{IfSome}
use Rattle.oss_io.specs.Spans.{ShelfSpan, ShelfFailed, SinkSpan, SinkFailed}
use Rattle.oss_syntax.specs.declared.tree.program.Program.{Program}
use Rattle.oss_syntax.specs.declared.refusal.Refused.{Refused}
use Rattle.oss_grammar.specs.Broken.{first}
use Rattle.oss_grammar.specs.Parsing.{IsParsedOnce}
use Rattle.oss_grammar.specs.ProgramRules.{refusal_of}
use Rattle.oss_grammar.specs.TaskLoops.{program_written}
use Rattle.oss_model.specs.Texts.{refusal_line}
use Rattle.oss_parse.proofs.OneProgram.{parsed_once}
use Rattle.oss_command.specs.Commands.{Command, asked_of}
use Rattle.oss_command.specs.Commands.Command.{audit, check, explain, graph, missing, replay, run, soak, span, trace}
use Rattle.oss_command.specs.declared.options.Options.{Options}
use Rattle.oss_gen.specs.Generated.{generated_text}
use Rattle.oss_meaning.specs.Expressions.{TreeScript}
use Rattle.oss_meaning.specs.Meaning.{asks_of}
use Rattle.oss_meaning.specs.Results.{IsOutcomeOf, Outcome, first_cells, main_of}
use Rattle.oss_wave_laws.specs.Rounds.{Trace}
use Rattle.oss_wave_laws.proofs.OneRunLemmas.{one_trace}
use Rattle.oss_lower_laws.proofs.OutcomeLaws.{outcomes_are_one}
use Rattle.oss_model.specs.declared.answer.Answer.{Answer}
use Rattle.oss_model.specs.declared.answer.Answer.TheVariants.{Done, Fault}
use Rattle.oss_audit.specs.Lines.{audit_text}
use Rattle.oss_model.specs.Agreement.{MainStarts}
use Rattle.oss_audit_laws.proofs.OneAudit.{audits_are_one}
use Rattle.oss_span.specs.Reply.{span_text}
use Rattle.oss_span.specs.declared.link.Link.{Link}
use Rattle.oss_span_laws.proofs.SpanMoves.{spans_agree}
use Rattle.oss_sched.proofs.OneReading.{read_once}
use Rattle.oss_report.specs.Replays.{schedule_line}
use Rattle.oss_explain_laws.proofs.OneEnding.{endings_are_one}
use Rattle.oss_explain_laws.proofs.OneFailure.{failures_are_one}
use Rattle.oss_explain.specs.declared.ending.Ending.{Ending}
use Rattle.oss_explain.specs.declared.ending.Ending.TheVariants as endings
use Rattle.oss_machine.specs.declared.failure.Failure.{Failure}
use Rattle.oss_graph_laws.proofs.OneGraph.{graphs_are_one}
use Rattle.oss_graph_text.specs.Text.{IsGraphText}
use Rattle.oss_graph_text.proofs.OneLemmas.{one_text as one_graph_text}
use Rattle.oss_labels.specs.Lists.{label_at}
use Rattle.oss_labels.specs.declared.labels.Labelled.{Labelled}
use Rattle.oss_task_graph.specs.declared.graph.Graph.{Graph}
use Rattle.oss_top.specs.Audits.{IsAuditReply}
use Rattle.oss_top.specs.Drawn.{IsGraphReply, drawn_reply, entry_in}
use Rattle.oss_top.proofs.MissingLemmas.{missing_once}
use Rattle.oss_top.specs.Explained.{IsExplainReply, IsFailureOfEnding, ending_reply}
use Rattle.oss_top.specs.Spans.{IsSpanReply}
use Rattle.oss_top.specs.Forms.{error_reply, run_reply, soak_reply, told_reply, too_large_line, trace_reply}
use Rattle.oss_top.specs.OneReply.{AreSpansAlike, IsOfOneText, IsDrawnOnce, IsExplainedOnce, IsMissedOnce, IsReplied, IsRepliedOnce, IsSpanned, nothing, numbers}
use Rattle.oss_top.specs.ProgramTexts.{Accepts, Refuses}
use Rattle.oss_top.specs.ProgramTexts.Refuses.{by_grammar, by_rules}
use Rattle.oss_top.proofs.LabelLemmas.{labels_are_one}
use Rattle.oss_top.proofs.LineLemmas.{lines_once}
use Rattle.oss_top.proofs.ReplayLemmas.{replay_once}
use Rattle.oss_top.proofs.SomeReply.{HasOneText, file_reply, files_reply}
use Rattle.oss_top.specs.Replays.{IsFilesReply, IsReplayReply, IsScheduleReply, IsTextsReply}
use Rattle.oss_top.specs.Replays.IsScheduleReply.{replayed, wrong_line}
use Rattle.oss_top.specs.Replays.IsTextsReply.{accepted as texts_accepted, refused_text as texts_refused}
use Rattle.oss_top.specs.Replays.IsFilesReply.{fit, too_large as files_too_large, too_long}
use Rattle.oss_top.specs.Reply.{AreHeld, AreShown, IsCommandReply, IsComplete, IsFileReply, IsOutcome, IsProgramReply, IsReply, IsRunReply, IsShelfReply, IsTextReply, IsUnwritten, Texts}
use Rattle.oss_top.specs.Reply.IsProgramReply.{audited, checked, drawn, explained, missed, ran, soaked, spanned, traced}
use Rattle.oss_top.specs.Soaks.{IsSoakReply}
use Rattle.oss_top.specs.Traces.{IsTraceOf, IsTraceReply, text_of}
use Rattle.oss_top.specs.Reply.IsTextReply.{accepted, refused_text}
use Rattle.oss_top.specs.Reply.IsFileReply.{too_large, fits}
use Rattle.oss_top.specs.Reply.IsReply.{no_memory, of_command, usage}
use Rattle.oss_top.specs.Reply.IsShelfReply.{by_texts, unread, unread_schedule}
use Rattle.oss_top.specs.Reply.IsUnwritten.{no_output, no_errors}
use Rattle.oss_top.specs.Reply.IsOutcome.{written, unwritten}
use Rattle.oss_top.specs.Statuses.{number_of}
use Rattle.oss_top.specs.declared.reply.Reply.{Reply}
use Rattle.oss_top.specs.declared.status.Status.{Status}
use Rattle.oss_top.specs.declared.status.Status.TheVariants as status

one_some : (r other : Refused) (o : Option Refused) → o ≡ Some r → o ≡ Some other → r ≡ other
one_some r other o a b = cc

outcome_once : (p : Program) (fuel : ℕ) (o q : Outcome) → IsOutcomeOf p.items fuel o → IsOutcomeOf p.items fuel q → o ≡ q
outcome_once p fuel o q x y = outcomes_are_one p.items (main_of p.items fuel) (first_cells p.items) o q x y

traced_once : (p : Program) (fuel : ℕ) (t u : Trace) → IsTraceOf p fuel t → IsTraceOf p fuel u → t ≡ u
traced_once p fuel t u x y = one_trace TreeScript (asks_of p.items) (main_of p.items fuel) (first_cells p.items) t u x y

run_once : (options : Options) (p : Program) (reply other : Reply) → options.who ≡ false → IsRunReply options p reply → IsRunReply options p other → reply ≡ other
run_once options p reply other who x y =
    x.is_reply ∙ ap (λ (t : List ℕ). run_reply options.dump p t x.outcome.answer) (lines_once options p x.lines y.lines who x.are_lines y.are_lines)
    ∙ ap (λ (o : Outcome). run_reply options.dump p y.lines o.answer) (outcome_once p options.fuel x.outcome y.outcome x.is_outcome y.is_outcome) ∙ sym y.is_reply

abbrev status_of : Reply → Status
status_of reply = reply.status

-- whatever lines there are, the status is that of the answer
status_by_answer : (dump : Bool) (p : Program) (lines others : List ℕ) (a : Answer) → status_of (run_reply dump p lines a) ≡ status_of (run_reply dump p others a)
status_by_answer dump p lines others (Done text cells) = refl
status_by_answer dump p lines others (Fault kind line text) = refl

run_alike : (options : Options) (p : Program) (reply other : Reply) → IsRunReply options p reply → IsRunReply options p other → status_of reply ≡ status_of other
run_alike options p reply other x y =
    ap status_of (x.is_reply ∙ ap (λ (o : Outcome). run_reply options.dump p x.lines o.answer) (outcome_once p options.fuel x.outcome y.outcome x.is_outcome y.is_outcome))
    ∙ status_by_answer options.dump p x.lines y.lines y.outcome.answer ∙ sym (ap status_of y.is_reply)

trace_once : (fuel : ℕ) (p : Program) (reply other : Reply) → IsTraceReply fuel p reply → IsTraceReply fuel p other → reply ≡ other
trace_once fuel p reply other x y =
    x.is_reply ∙ ap (λ (t : Trace). trace_reply (text_of t) x.outcome.answer) (traced_once p fuel x.trace y.trace x.is_trace y.is_trace)
    ∙ ap (λ (o : Outcome). trace_reply (text_of y.trace) o.answer) (outcome_once p fuel x.outcome y.outcome x.is_outcome y.is_outcome) ∙ sym y.is_reply

soak_once : (options : Options) (p : Program) (reply other : Reply) → IsSoakReply options p reply → IsSoakReply options p other → reply ≡ other
soak_once options p reply other x y =
    x.is_reply ∙ ap (λ (o : Outcome). soak_reply o.tasks o.answer) (outcome_once p options.fuel x.outcome y.outcome x.is_outcome y.is_outcome) ∙ sym y.is_reply

audit_once : (fuel : ℕ) (p : Program) (reply other : Reply) → IsAuditReply fuel p reply → IsAuditReply fuel p other → reply ≡ other
audit_once fuel p reply other x y =
    let (same, list) = audits_are_one TreeScript (asks_of p.items) (main_of p.items fuel) (first_cells p.items) x.answer y.answer x.audited.unused y.audited.unused x.audited.audited y.audited.audited in
    let texts : x.text ≡ y.text = x.audited.text_is ∙ ap audit_text list ∙ sym y.audited.text_is in
    x.is_reply ∙ (λ i. told_reply (texts i) (same i)) ∙ sym y.is_reply

-- what two replies to a span tell where their answer is one, and so are their numbers
told_alike : (a : Answer) (work ticks : ℕ) (chain others : List Link) → AreSpansAlike (told_reply (span_text work ticks chain) a) (told_reply (span_text work ticks others) a)
told_alike (Done printed cells) work ticks chain others = record { status = refl; out = numbers work ticks chain others refl refl; err = refl }
told_alike (Fault kind line printed) work ticks chain others = record { status = refl; out = nothing refl refl; err = refl }

span_alike : (fuel : ℕ) (p : Program) (reply other : Reply) → IsSpanReply fuel p reply → IsSpanReply fuel p other → AreSpansAlike reply other
span_alike fuel p reply other x y =
    let (same, works, spans) = spans_agree TreeScript (asks_of p.items) (main_of p.items fuel) (first_cells p.items) x.answer y.answer x.told.work y.told.work x.told.span y.told.span x.told.chain y.told.chain x.told.spanned y.told.spanned in
    let first : reply ≡ told_reply (span_text y.told.work y.told.span x.told.chain) y.answer = x.is_reply ∙ (λ i. told_reply (x.told.text_is i) x.answer) ∙ (λ i. told_reply (span_text (works i) (spans i) x.told.chain) (same i)) in
    let second : other ≡ told_reply (span_text y.told.work y.told.span y.told.chain) y.answer = y.is_reply ∙ (λ i. told_reply (y.told.text_is i) y.answer) in
    subst (λ (r : Reply). AreSpansAlike r other) (sym first) (subst (λ (r : Reply). AreSpansAlike (told_reply (span_text y.told.work y.told.span x.told.chain) y.answer) r) (sym second) (told_alike y.answer y.told.work y.told.span x.told.chain y.told.chain))

-- in a run that ends so one thing failed
failed_once : (fuel : ℕ) (p : Program) (e : Ending) (f g : Option Failure) → IsFailureOfEnding fuel p e f → IsFailureOfEnding fuel p e g → f ≡ g
failed_once fuel p endings.Done f g h k = h ∙ sym k
failed_once fuel p (endings.Fault kind line e) f g h k = failures_are_one p.items h.code k.code h.lowered k.lowered fuel f g h.is k.is

-- a program has one reply to an explanation, since main is no final task
explain_once : (fuel : ℕ) (p : Program) (reply other : Reply) → IsExplainReply fuel p reply → IsExplainReply fuel p other → reply ≡ other
explain_once fuel p reply other x y =
    let starts : MainStarts (main_of p.items fuel) = record { final = refl; created = refl; path = refl } in
    let same = endings_are_one TreeScript (asks_of p.items) (entry_in p.items) (main_of p.items fuel) starts (first_cells p.items) p.items x.ending y.ending x.is_ending y.is_ending in
    let failed = failed_once fuel p x.ending x.failure y.failure x.is_failure (subst (λ (e : Ending). IsFailureOfEnding fuel p e y.failure) (sym same) y.is_failure) in
    let labels = labels_are_one p.items x.labels y.labels x.are_labels y.are_labels in
    x.is_reply ∙ (λ i. ending_reply p (label_at (labels i)) (same i) (failed i)) ∙ sym y.is_reply

-- and one with its graph
graph_once : (fuel : ℕ) (p : Program) (reply other : Reply) → IsGraphReply fuel p reply → IsGraphReply fuel p other → reply ≡ other
graph_once fuel p reply other x y =
    let starts : MainStarts (main_of p.items fuel) = record { final = refl; created = refl; path = refl } in
    let same = graphs_are_one TreeScript (asks_of p.items) (entry_in p.items) (main_of p.items fuel) starts (first_cells p.items) p.items x.graph y.graph x.is_graph y.is_graph in
    let labels = labels_are_one p.items x.labels y.labels x.are_labels y.are_labels in
    let texts : x.text ≡ y.text =
    one_graph_text p.items (label_at y.labels) y.graph x.text y.text
    (subst (λ (ls : List Labelled). IsGraphText p.items (label_at ls) y.graph x.text) labels (subst (λ (g : Graph). IsGraphText p.items (label_at x.labels) g x.text) same x.is_text)) y.is_text in
    x.is_reply ∙ (λ i. drawn_reply (texts i) (same i).fault) ∙ sym y.is_reply

program_once : (c : Command) → IsOfOneText c → (p : Program) (reply other : Reply) → IsProgramReply c p reply → IsProgramReply c p other → reply ≡ other
program_once c of p reply other (checked x) (checked y) = x ∙ sym y
program_once c of p reply other (ran {options} x) (ran y) = run_once options p reply other of x y
program_once c of p reply other (traced {options} x) (traced y) = trace_once options.fuel p reply other x y
program_once c of p reply other (soaked {options} x) (soaked y) = soak_once options p reply other x y
program_once c of p reply other (audited {fuel} x) (audited y) = audit_once fuel p reply other x y
program_once c of p reply other (spanned {fuel} x) (spanned y) = absurd of
program_once c of p reply other (explained {fuel} x) (explained y) = absurd of
program_once c of p reply other (drawn {fuel} x) (drawn y) = absurd of
program_once c of p reply other (missed {fuel} x) (missed y) = absurd of

program_alike : (c : Command) (p : Program) (reply other : Reply) → IsProgramReply c p reply → IsProgramReply c p other → status_of reply ≡ status_of other
program_alike c p reply other (checked x) (checked y) = ap status_of (x ∙ sym y)
program_alike c p reply other (ran {options} x) (ran y) = run_alike options p reply other x y
program_alike c p reply other (traced {options} x) (traced y) = ap status_of (trace_once options.fuel p reply other x y)
program_alike c p reply other (soaked {options} x) (soaked y) = ap status_of (soak_once options p reply other x y)
program_alike c p reply other (audited {fuel} x) (audited y) = ap status_of (audit_once fuel p reply other x y)
program_alike c p reply other (spanned {fuel} x) (spanned y) = (span_alike fuel p reply other x y).status
program_alike c p reply other (explained {fuel} x) (explained y) = ap status_of (explain_once fuel p reply other x y)
program_alike c p reply other (drawn {fuel} x) (drawn y) = ap status_of (graph_once fuel p reply other x y)
program_alike c p reply other (missed {fuel} x) (missed y) = ap status_of (missing_once fuel p reply other x y)

module _ (text : List ℕ) (once : IsParsedOnce text) where
  -- a text that is accepted is not refused
  pub no_refusal : (p : Program) (r : Refused) → Accepts text p → Refuses text r → ⊥
  no_refusal p r a (by_grammar w) = once.no_both p r a.is_text w
  no_refusal p r a (by_rules q w e) =
      let is : refusal_of p ≡ Some r = subst (λ z. refusal_of z ≡ Some r) (once.one_program q p w a.is_text) e in
      let none : refusal_of p ≡ None = ap first a.obeys in
      absurd (cc)

  -- and it is refused for one reason
  refused_once : (r other : Refused) → Refuses text r → Refuses text other → r ≡ other
  refused_once r other (by_grammar v) (by_grammar w) = once.one_refusal r other v w
  refused_once r other (by_grammar v) (by_rules q w e) = absurd (once.no_both q r w v)
  refused_once r other (by_rules p v d) (by_grammar w) = absurd (once.no_both p other v w)
  refused_once r other (by_rules p v d) (by_rules q w e) =
      one_some r other (refusal_of p) d (subst (λ z. refusal_of z ≡ Some other) (once.one_program q p w v) e)

  -- What holds of two replies to a program, and of two that are one refusal, holds of two replies to a text.
  module _ (R : Reply → Reply → Type 0) (refused : (line : List ℕ) (reply other : Reply) → reply ≡ error_reply status.TextRefused line → other ≡ error_reply status.TextRefused line → R reply other)
      (c : Command) (same : (p : Program) (reply other : Reply) → IsProgramReply c p reply → IsProgramReply c p other → R reply other) where
    text_once : (reply other : Reply) → IsTextReply c text reply → IsTextReply c text other → R reply other
    text_once reply other (accepted p a x) (accepted p' b y) =
        same (program_written p) reply other x (subst (λ z. IsProgramReply c (program_written z) other) (once.one_program p' p b.is_text a.is_text) y)
    text_once reply other (accepted p a x) (refused_text r w y) = absurd (no_refusal p r a w)
    text_once reply other (refused_text r w x) (accepted p a y) = absurd (no_refusal p r a w)
    text_once reply other (refused_text r v x) (refused_text r' w y) = refused (refusal_line r.kind r.line) reply other x (y ∙ sym (ap told (refused_once r r' v w))) where
      told : Refused → Reply
      told z = error_reply status.TextRefused (refusal_line z.kind z.line)

    file_once : (reply other : Reply) → IsFileReply c text reply → IsFileReply c text other → R reply other
    file_once reply other (too_large m x) (too_large n y) = refused too_large_line reply other x y
    file_once reply other (too_large m x) (fits n y) = absurd (omega arith)
    file_once reply other (fits m x) (too_large n y) = absurd (omega arith)
    file_once reply other (fits m x) (fits n y) = text_once reply other x y

-- a text of a program and one of a schedule have one reply to a replay
module _ (text schedule : List ℕ) (once : IsParsedOnce text) (fuel : ℕ) where
  schedule_once : (p : Program) (reply other : Reply) → IsScheduleReply p fuel schedule reply → IsScheduleReply p fuel schedule other → reply ≡ other
  schedule_once p reply other (wrong_line line w x) (wrong_line at v y) = x ∙ ap (λ n. error_reply status.TextRefused (schedule_line n)) ((read_once schedule).one_line line at w v) ∙ sym y
  schedule_once p reply other (wrong_line line w x) (replayed list v y) = absurd ((read_once schedule).no_both list line v w)
  schedule_once p reply other (replayed list w x) (wrong_line line v y) = absurd ((read_once schedule).no_both list line w v)
  schedule_once p reply other (replayed list w x) (replayed list2 v y) =
      replay_once p fuel list reply other x (subst (λ l. IsReplayReply p fuel l other) ((read_once schedule).one_list list2 list v w) y)

  texts_once : (reply other : Reply) → IsTextsReply fuel text schedule reply → IsTextsReply fuel text schedule other → reply ≡ other
  texts_once reply other (texts_accepted p a x) (texts_accepted q b y) =
      schedule_once (program_written p) reply other x (subst (λ z. IsScheduleReply (program_written z) fuel schedule other) (once.one_program q p b.is_text a.is_text) y)
  texts_once reply other (texts_accepted p a x) (texts_refused r w y) = absurd (no_refusal text once p r a w)
  texts_once reply other (texts_refused r w x) (texts_accepted p a y) = absurd (no_refusal text once p r a w)
  texts_once reply other (texts_refused r v x) (texts_refused q w y) = x ∙ ap told (refused_once text once r q v w) ∙ sym y where
    told : Refused → Reply
    told z = error_reply status.TextRefused (refusal_line z.kind z.line)

  files_once : (reply other : Reply) → IsFilesReply fuel text schedule reply → IsFilesReply fuel text schedule other → reply ≡ other
  files_once reply other (files_too_large m x) (files_too_large n y) = x ∙ sym y
  files_once reply other (files_too_large m x) (too_long few n y) = absurd (omega (arith, m, few))
  files_once reply other (files_too_large m x) (fit few less y) = absurd (omega (arith, m, few))
  files_once reply other (too_long few m x) (files_too_large n y) = absurd (omega (arith, n, few))
  files_once reply other (too_long few m x) (too_long few2 n y) = x ∙ sym y
  files_once reply other (too_long few m x) (fit few2 less y) = absurd (omega (arith, m, less))
  files_once reply other (fit few less x) (files_too_large n y) = absurd (omega (arith, n, few))
  files_once reply other (fit few less x) (too_long few2 n y) = absurd (omega (arith, n, less))
  files_once reply other (fit few less x) (fit few2 less2 y) = texts_once reply other x y

-- a command whose reply is one has one text
one_text : (c : Command) → IsOfOneText c → HasOneText c
one_text (run file options) of = of
one_text (check file) of = tt
one_text (trace file options) of = tt
one_text (replay file schedule fuel) of = of
one_text (audit file fuel) of = tt
one_text (span file fuel) of = tt
one_text (explain file fuel) of = of
one_text (graph file fuel) of = of
one_text (missing file fuel) of = of
one_text (soak number size options) of = tt

pub replied : (text : List ℕ) → IsReplied text
replied text = record { some = λ c of. file_reply text c (one_text c of); one = λ c of. file_once text (parsed_once text) (λ (r s : Reply). r ≡ s) (λ line r s x y. x ∙ sym y) c (program_once c of) }

pub spanned_text : (text : List ℕ) → IsSpanned text
spanned_text text = record {
  some = λ file fuel. file_reply text (span file fuel) tt;
  alike = λ file fuel. file_once text (parsed_once text) AreSpansAlike refused (span file fuel) (program_spans file fuel);
}
  where
    refused : (line : List ℕ) (reply other : Reply) → reply ≡ error_reply status.TextRefused line → other ≡ error_reply status.TextRefused line → AreSpansAlike reply other
    refused line reply other x y = record {
      status = ap status_of (x ∙ sym y);
      out = nothing (ap (λ (r : Reply). r.out) x) (ap (λ (r : Reply). r.out) y);
      err = ap (λ (r : Reply). r.err) (x ∙ sym y);
    }

    program_spans : (file : List ℕ) (fuel : ℕ) (p : Program) (reply other : Reply) → IsProgramReply (span file fuel) p reply → IsProgramReply (span file fuel) p other → AreSpansAlike reply other
    program_spans file fuel p reply other (spanned x) (spanned y) = span_alike fuel p reply other x y

pub explained_once : (text : List ℕ) → IsExplainedOnce text
explained_once text file fuel = file_once text (parsed_once text) (λ (r s : Reply). r ≡ s) (λ line r s x y. x ∙ sym y) (explain file fuel) programs
  where
    programs : (p : Program) (reply other : Reply) → IsProgramReply (explain file fuel) p reply → IsProgramReply (explain file fuel) p other → reply ≡ other
    programs p reply other (explained x) (explained y) = explain_once fuel p reply other x y

pub drawn_once : (text : List ℕ) → IsDrawnOnce text
drawn_once text file fuel = file_once text (parsed_once text) (λ (r s : Reply). r ≡ s) (λ line r s x y. x ∙ sym y) (graph file fuel) programs
  where
    programs : (p : Program) (reply other : Reply) → IsProgramReply (graph file fuel) p reply → IsProgramReply (graph file fuel) p other → reply ≡ other
    programs p reply other (drawn x) (drawn y) = graph_once fuel p reply other x y

pub missed_once : (text : List ℕ) → IsMissedOnce text
missed_once text file fuel = file_once text (parsed_once text) (λ (r s : Reply). r ≡ s) (λ line r s x y. x ∙ sym y) (missing file fuel) programs
  where
    programs : (p : Program) (reply other : Reply) → IsProgramReply (missing file fuel) p reply → IsProgramReply (missing file fuel) p other → reply ≡ other
    programs p reply other (missed x) (missed y) = missing_once fuel p reply other x y

-- two replies to a command with one text have one status
file_alike : (text : List ℕ) (c : Command) (reply other : Reply) → IsFileReply c text reply → IsFileReply c text other → status_of reply ≡ status_of other
file_alike text c = file_once text (parsed_once text) (λ (r s : Reply). status_of r ≡ status_of s) (λ line r s x y. ap status_of (x ∙ sym y)) c (program_alike c)

pub replied_once : (text schedule : List ℕ) → IsRepliedOnce text schedule
replied_once text schedule = record { some = λ fuel. files_reply fuel text schedule; one = files_once text schedule (parsed_once text) }

command_alike : (c : Command) (texts : Texts) (reply other : Reply) → IsCommandReply c texts reply → IsCommandReply c texts other → status_of reply ≡ status_of other
command_alike (run file options) texts reply other x y = file_alike texts.file (run file options) reply other x y
command_alike (check file) texts reply other x y = file_alike texts.file (check file) reply other x y
command_alike (trace file options) texts reply other x y = file_alike texts.file (trace file options) reply other x y
command_alike (soak number size options) texts reply other x y = file_alike (generated_text number size) (soak number size options) reply other x y
command_alike (audit file fuel) texts reply other x y = file_alike texts.file (audit file fuel) reply other x y
command_alike (span file fuel) texts reply other x y = file_alike texts.file (span file fuel) reply other x y
command_alike (explain file fuel) texts reply other x y = file_alike texts.file (explain file fuel) reply other x y
command_alike (graph file fuel) texts reply other x y = file_alike texts.file (graph file fuel) reply other x y
command_alike (missing file fuel) texts reply other x y = file_alike texts.file (missing file fuel) reply other x y
command_alike (replay file schedule fuel) texts reply other x y = ap status_of ((replied_once texts.file texts.schedule).one fuel reply other x y)

-- the text that is shown is the one that is held
same_text : (text shown : List ℕ) (held : Option (List ℕ)) → IfSome held (λ t. shown ≡ t) → held ≡ Some text → shown ≡ text
same_text text shown held same is = rw is at same

-- so the reply by the texts that are shown is that by those that are held
by_held : (held : List ℕ → Option (List ℕ)) (c : Command) (told texts : Texts) (reply : Reply) → AreShown held c told → AreHeld held c texts → IsCommandReply c told reply → IsCommandReply c texts reply
by_held held (run file options) told texts reply same is x = subst (λ t. IsFileReply (run file options) t reply) (same_text texts.file told.file (held file) same is) x
by_held held (check file) told texts reply same is x = subst (λ t. IsFileReply (check file) t reply) (same_text texts.file told.file (held file) same is) x
by_held held (trace file options) told texts reply same is x = subst (λ t. IsFileReply (trace file options) t reply) (same_text texts.file told.file (held file) same is) x
by_held held (soak number size options) told texts reply same is x = x
by_held held (audit file fuel) told texts reply same is x = subst (λ t. IsFileReply (audit file fuel) t reply) (same_text texts.file told.file (held file) same is) x
by_held held (span file fuel) told texts reply same is x = subst (λ t. IsFileReply (span file fuel) t reply) (same_text texts.file told.file (held file) same is) x
by_held held (explain file fuel) told texts reply same is x = subst (λ t. IsFileReply (explain file fuel) t reply) (same_text texts.file told.file (held file) same is) x
by_held held (graph file fuel) told texts reply same is x = subst (λ t. IsFileReply (graph file fuel) t reply) (same_text texts.file told.file (held file) same is) x
by_held held (missing file fuel) told texts reply same is x = subst (λ t. IsFileReply (missing file fuel) t reply) (same_text texts.file told.file (held file) same is) x
by_held held (replay file schedule fuel) told texts reply (same, shows) (is, holds) x =
    subst (λ t. IsFilesReply fuel t texts.schedule reply) (same_text texts.file told.file (held file) same is)
    (subst (λ t. IsFilesReply fuel told.file t reply) (same_text texts.schedule told.schedule (held schedule) shows holds) x)

module _ (words : List (List ℕ)) (shelf : ShelfSpan) (still : ¬ ShelfFailed shelf) where
  -- the reply to a command, where no read failed
  shelf_complete : (c : Command) (texts : Texts) → AreHeld shelf.before.held c texts → (reply : Reply) → IsShelfReply c shelf reply → (other : Reply) → IsCommandReply c texts other → status_of reply ≡ status_of other
  shelf_complete c texts held reply (unread file named failed last is) other w = absurd (still failed)
  shelf_complete c texts held reply (unread_schedule file schedule text named of same few failed last is) other w = absurd (still failed)
  shelf_complete c texts held reply (by_texts told quiet same is) other w = command_alike c texts reply other (by_held shelf.before.held c told texts reply same held is) w

  -- the number of a reply, where no read failed
  reply_complete : (reply : Reply) → IsReply words shelf reply → (c : Command) (texts : Texts) → asked_of words ≡ Some c → AreHeld shelf.before.held c texts
      → (other : Reply) → IsCommandReply c texts other → (number_of reply.status ≡ number_of other.status) ⊎ (number_of reply.status ≡ number_of status.OutOfMemory)
  reply_complete reply (usage none quiet is) c texts named given other w = let both : None ≡ Some c = sym none ∙ named in absurd (cc)
  reply_complete reply (of_command d asked is) c texts named given other w =
      let one : d ≡ c = cc in
      inl (ap number_of (shelf_complete c texts given reply (subst (λ e. IsShelfReply e shelf reply) one is) other w))
  reply_complete reply (no_memory is) c texts named given other w = inr (ap (λ r. number_of r.status) is)

-- what could not be written shows in a count
not_unwritten : (out err : SinkSpan) (reply : Reply) → IsUnwritten out err reply → ¬ SinkFailed out → ¬ SinkFailed err → ⊥
not_unwritten out err reply (no_output part same) o e = o part.failed
not_unwritten out err reply (no_errors whole part) o e = e part.failed

pub complete : (words : List (List ℕ)) (shelf : ShelfSpan) (out err : SinkSpan) (number : ℕ) → IsOutcome words shelf out err number → IsComplete words shelf out err number
complete words shelf out err number (written reply is o e at) still out_still err_still c texts named given other w =
    subst (λ n. (n ≡ number_of other.status) ⊎ (n ≡ number_of status.OutOfMemory)) (sym at) (reply_complete words shelf still reply is c texts named given other w)
complete words shelf out err number (unwritten reply is parts at) still out_still err_still c texts named given other w = absurd (not_unwritten out err reply parts out_still err_still)
