-- The reply to `missing` tells of no task exactly if the program's own run comes to no fault of annotations.
use Rattle.std.proofs.Common.{◌≡◌, ◌∙◌, ℕ, List, [], Option, Some, None, refl, sym, ap, subst, arith}
use Rattle.std.specs.Prelude.{◌↔◌}
use Rattle.oss_syntax.specs.declared.fault.FaultKind.{FaultKind}
use Rattle.oss_syntax.specs.declared.tree.program.Item.{Item}
use Rattle.oss_syntax.specs.declared.tree.program.Program.{Program as Tree}
use Rattle.oss_grammar.specs.TaskLoops.{program_written}
use Rattle.oss_parse.proofs.OneProgram.{parsed_once}
use Rattle.oss_model.specs.Bodies.{Act, IsHalt, Program, Start}
use Rattle.oss_model.specs.Moves.{act_now}
use Rattle.oss_model.specs.Texts.{fault_line}
use Rattle.oss_model.specs.declared.answer.Answer.{Answer}
use Rattle.oss_model.specs.declared.answer.Answer.TheVariants as answers
use Rattle.oss_meaning.specs.Meaning.{asks_of}
use Rattle.oss_meaning.specs.Results.{IsOutcome, IsOutcomeOf, Outcome, entries_in, first_cells, main_of, tasks_in}
use Rattle.oss_meaning.specs.Results.IsOutcome.{ends, fails}
use Rattle.oss_lower_laws.proofs.OutcomeLaws.{outcomes_are_one}
use Rattle.oss_freed.specs.Freed.{IsOfAnnotations}
use Rattle.oss_missing_lines.specs.declared.missing.Missing.{Missing}
use Rattle.oss_missing_lines.specs.declared.missing.RunFault.{RunFault}
use Rattle.oss_missing_laws.specs.Missing.{EndsWell}
use Rattle.oss_missing_laws.specs.Programs.{IsNotWrong}
use Rattle.oss_missing_program_laws.specs.Exact.{IsFaultOf, IsToldNothing}
use Rattle.oss_missing_program_laws.proofs.ExactLaws.{nothing_is_told_exactly, told_faults_are_own}
use Rattle.oss_missing_text.specs.Text.{missing_text}
use Rattle.oss_command.specs.Commands.Command.{missing}
use Rattle.oss_top.specs.Forms.{done_reply, fault_reply}
use Rattle.oss_top.specs.Missed.{IsMissingReply, missed_reply}
use Rattle.oss_top.specs.NothingMissing.{IsEnd, IsNothingMissing, IsPlainFault, TellsNothingExactly, nothing_line}
use Rattle.oss_top.specs.ProgramTexts.{Accepts}
use Rattle.oss_top.specs.Reply.{IsFileReply, IsTextReply}
use Rattle.oss_top.specs.Reply.IsFileReply.{fits, too_large}
use Rattle.oss_top.specs.Reply.IsProgramReply.{missed}
use Rattle.oss_top.specs.Reply.IsTextReply.{accepted, refused_text}
use Rattle.oss_top.specs.declared.reply.Reply.{Reply}
use Rattle.oss_top.specs.declared.status.Status.{Status}
use Rattle.oss_top.specs.declared.status.Status.TheVariants as status
use Rattle.oss_top.proofs.ReplyLemmas.{no_refusal}
use Rattle.oss_top.proofs.SilentLemmas.{silent_end, silent_fault}

-- Answers

-- The answer is no fault of annotations.
abbrev IsRight : Answer → Type 0
IsRight (answers.Done output cells) = Unit {0}
IsRight (answers.Fault kind line output) = IsOfAnnotations kind → ⊥

end_right : (a : Answer) → IsEnd a → IsRight a
end_right (answers.Done output cells) h = tt
end_right (answers.Fault kind line output) h = absurd h

plain_right : (a : Answer) → IsPlainFault a → IsRight a
plain_right (answers.Done output cells) h = absurd h
plain_right (answers.Fault kind line output) h = h

-- the answer is what is told to have stopped the run
told_end : (a : Answer) → IsFaultOf None a → IsEnd a
told_end (answers.Done output cells) h = tt
told_end (answers.Fault kind line output) h = absurd h

told_plain : (a : Answer) (g : RunFault) → IsFaultOf (Some g) a → IsRight a → IsPlainFault a
told_plain (answers.Done output cells) g h right = absurd h
told_plain (answers.Fault kind line output) g h right = right

end_told : (f : Option RunFault) (a : Answer) → IsEnd a → IsFaultOf f a → f ≡ None
end_told None a e h = refl
end_told (Some g) (answers.Done output cells) e h = absurd h
end_told (Some g) (answers.Fault kind line output) e h = absurd e

fault_told : (f : Option RunFault) (kind : FaultKind) (line : ℕ) (output : List ℕ) → IsFaultOf f (answers.Fault kind line output) → (g : RunFault) × (f ≡ Some g)
fault_told None kind line output h = absurd h
fault_told (Some g) kind line output h = (g, refl)

-- Runs

module _ {S : Type 0} (P : Program S) (main : Start S) (cells : List ℕ) where
  same_kind : (kind other : FaultKind) (line at_line : ℕ) (key at_key : List ℕ) (a : Act S) → a ≡ Act.Fault kind line key → a ≡ Act.Fault other at_line at_key → other ≡ kind
  same_kind kind other line at_line key at_key a x y = cc

  over_or : (kind : FaultKind) (line : ℕ) (key : List ℕ) (a : Act S) → a ≡ Act.Over → a ≡ Act.Fault kind line key → ⊥
  over_or kind line key a x y = absurd cc

  -- a run whose answer is no fault of annotations ends well
  ends_well : (o : Outcome) → IsOutcome P main cells o → IsRight o.answer → EndsWell P main cells
  ends_well o (ends {z} run end over) right = record { stage = z; run = run; own = end; well = λ kind line key e wrong. over_or kind line key (act_now P end.task.body) over e }
  ends_well o (fails {z} {kind} {line} {key} run end fault) right = record {
    stage = z;
    run = run;
    own = end;
    well = λ other at_line at_key e wrong. right (subst IsOfAnnotations (same_kind kind other line at_line key at_key (act_now P end.task.body) fault e) wrong);
  }

  -- A run has an outcome whose answer is none.
  abbrev HasRight : Type 0
  HasRight = (o : Outcome) × IsOutcome P main cells o × IsRight o.answer

  well_ends : EndsWell P main cells → HasRight
  well_ends w = by_act (act_now P w.own.task.body) refl w.own.stops w.well
    where
      by_act : (a : Act S) → act_now P w.own.task.body ≡ a → IsHalt a → IsNotWrong a → HasRight
      by_act (Act.Fault kind line key) e halt well =
          (record { answer = answers.Fault kind line w.stage.printed; tasks = tasks_in w.stage.state; entries = entries_in w.stage.state }, fails w.run w.own e, λ wrong. well kind line key refl wrong)
      by_act Act.Over e halt well = (record { answer = answers.Done w.stage.printed w.stage.state.cells; tasks = tasks_in w.stage.state; entries = entries_in w.stage.state }, ends w.run w.own e, tt)
      by_act Act.Ticked e halt well = absurd halt
      by_act (Act.Load c) e halt well = absurd halt
      by_act (Act.Store c v) e halt well = absurd halt
      by_act (Act.Folded c op v slot) e halt well = absurd halt
      by_act (Act.Created order included) e halt well = absurd halt
      by_act Act.Awaited e halt well = absurd halt
      by_act Act.Waited e halt well = absurd halt
      by_act (Act.WaitedOn named) e halt well = absurd halt
      by_act (Act.Releases clauses included) e halt well = absurd halt
      by_act (Act.Printed key text) e halt well = absurd halt
      by_act Act.Ended e halt well = absurd halt

-- Replies

abbrev status_of : Reply → Status
status_of reply = reply.status

abbrev out_of : Reply → List ℕ
out_of reply = reply.out

-- what a reply tells of the end of the free run
none_failed : (text : List ℕ) (f : Option RunFault) → missed_reply text f ≡ done_reply nothing_line → (f ≡ None) × (text ≡ nothing_line)
none_failed text None e = (refl, ap out_of e)
none_failed text (Some g) e = let both : status.Fault ≡ status.Done = ap status_of e in absurd cc

one_failed : (text : List ℕ) (f : Option RunFault) → status_of (missed_reply text f) ≡ status.Fault → out_of (missed_reply text f) ≡ [] → (g : RunFault) × (f ≡ Some g) × (text ≡ [])
one_failed text None is empty = let both : status.Done ≡ status.Fault = is in absurd cc
one_failed text (Some g) is empty = (g, refl, empty)

-- Where this is missing of a program, whose run has this outcome.
module _ (items : List Item) (fuel : ℕ) (m : Missing) (exactly : IsToldNothing m ↔ EndsWell (asks_of items) (main_of items fuel) (first_cells items)) (o : Outcome) (is : IsOutcomeOf items fuel o) (own : IsToldNothing m → IsFaultOf m.fault o.answer)
    (reply : Reply) (reply_is : reply ≡ missed_reply (missing_text items m) m.fault) where
  told_right : IsToldNothing m → IsRight o.answer
  told_right told =
      let (other, outcome, right) = well_ends (asks_of items) (main_of items fuel) (first_cells items) (exactly.0 told) in
      subst (λ (x : Outcome). IsRight x.answer) (outcomes_are_one items (main_of items fuel) (first_cells items) other o outcome is) right

  right_told : IsRight o.answer → IsToldNothing m
  right_told right = exactly.1 (ends_well (asks_of items) (main_of items fuel) (first_cells items) o is right)

  end_forth : reply ≡ done_reply nothing_line → IsEnd o.answer
  end_forth e =
      let (none, line) = none_failed (missing_text items m) m.fault (sym reply_is ∙ e) in
      told_end o.answer (subst (λ (f : Option RunFault). IsFaultOf f o.answer) none (own ((silent_end items m none).0 line)))

  end_back : IsEnd o.answer → reply ≡ done_reply nothing_line
  end_back e =
      let told : IsToldNothing m = right_told (end_right o.answer e) in
      let none : m.fault ≡ None = end_told m.fault o.answer e (own told) in
      reply_is ∙ ap (missed_reply (missing_text items m)) none ∙ ap done_reply ((silent_end items m none).1 told)

  fault_forth : (reply.status ≡ status.Fault) × (reply.out ≡ []) → IsPlainFault o.answer
  fault_forth (failed, empty) =
      let (g, some, none) = one_failed (missing_text items m) m.fault (sym (ap status_of reply_is) ∙ failed) (sym (ap out_of reply_is) ∙ empty) in
      let told : IsToldNothing m = (silent_fault items m g some).0 none in
      told_plain o.answer g (subst (λ (f : Option RunFault). IsFaultOf f o.answer) some (own told)) (told_right told)

  fault_told_by : (kind : FaultKind) (line : ℕ) (output : List ℕ) → o.answer ≡ answers.Fault kind line output → (IsOfAnnotations kind → ⊥) → reply ≡ fault_reply [] (fault_line kind line)
  fault_told_by kind line output e right =
      let told : IsToldNothing m = right_told (subst IsRight (sym e) right) in
      let by : IsFaultOf m.fault (answers.Fault kind line output) = subst (IsFaultOf m.fault) e (own told) in
      let (g, some) = fault_told m.fault kind line output by in
      let (kinds, places) = subst (λ (f : Option RunFault). IsFaultOf f (answers.Fault kind line output)) some by in
      reply_is ∙ ap (missed_reply (missing_text items m)) some ∙ ap (λ (t : List ℕ). fault_reply t (fault_line g.kind g.line)) ((silent_fault items m g some).1 told)
      ∙ (λ i. fault_reply [] (fault_line (kinds i) (places i)))

  fault_back : (a : Answer) → o.answer ≡ a → IsPlainFault a → (reply.status ≡ status.Fault) × (reply.out ≡ [])
  fault_back (answers.Done output cells) e right = absurd right
  fault_back (answers.Fault kind line output) e right = let is : reply ≡ fault_reply [] (fault_line kind line) = fault_told_by kind line output e right in (ap status_of is, ap out_of is)

  tells_exactly : TellsNothingExactly reply o.answer
  tells_exactly = record { ended = (end_forth, end_back); failed = (fault_forth, fault_back o.answer refl); told = fault_told_by }

module _ (text : List ℕ) (p : Tree) (accepts : Accepts text p) (file : List ℕ) (fuel : ℕ) (reply : Reply) (o : Outcome) (is : IsOutcomeOf (program_written p).items fuel o) where
  by_program : IsMissingReply fuel (program_written p) reply → TellsNothingExactly reply o.answer
  by_program h =
      tells_exactly (program_written p).items fuel h.missing (nothing_is_told_exactly text p accepts.is_text h.is_missing.code h.is_missing.lowered fuel h.missing h.is_missing.is) o is
      (λ told. told_faults_are_own text p accepts.is_text h.is_missing.code h.is_missing.lowered fuel h.missing h.is_missing.is told o is) reply h.is_reply

  by_text : IsTextReply (missing file fuel) text reply → TellsNothingExactly reply o.answer
  by_text (accepted q b (missed h)) = by_program (subst (λ (z : Tree). IsMissingReply fuel (program_written z) reply) ((parsed_once text).one_program q p b.is_text accepts.is_text) h)
  by_text (refused_text r w e) = absurd (no_refusal text (parsed_once text) p r accepts w)

pub nothing_missing : (text : List ℕ) → IsNothingMissing text
nothing_missing text small p accepts file fuel reply (too_large large e) o is = absurd (omega (arith, small, large))
nothing_missing text small p accepts file fuel reply (fits few h) o is = by_text text p accepts file fuel reply o is h
