-- Nothing is told of the clauses of a program exactly where its own run ends without a fault of annotations.
use Rattle.std.proofs.Common.{◌≡◌, ◌∙◌, ℕ, ◌≤◌, List, length, Option, Some, None, refl, sym, subst, arith}
use Rattle.std.specs.Prelude.{◌↔◌}
use Rattle.oss_syntax.specs.declared.tree.program.Item.{Item}
use Rattle.oss_model.specs.Agreement.{main_start}
use Rattle.oss_model.specs.Answers.{IsResult, ends, fails}
use Rattle.oss_model.specs.Bodies.{Act, Order, Program, Start}
use Rattle.oss_model.specs.Bodies.Act.{Awaited, Created, Ended, Fault, Folded, Load, Over, Printed, Releases, Store, Ticked, Waited, WaitedOn}
use Rattle.oss_model.specs.Moves.{act_now}
use Rattle.oss_model.specs.Sequence.{IsAtEnd, Running}
use Rattle.oss_model.specs.declared.answer.Answer.{Answer}
use Rattle.oss_model.specs.declared.answer.Answer.TheVariants as answers
use Rattle.oss_meaning.specs.Results.{IsOutcome, Outcome}
use Rattle.oss_meaning.specs.Results.IsOutcome.{ends as outcome_ends, fails as outcome_fails}
use Rattle.oss_code.specs.declared.code.CodeParts.{CodeParts}
use Rattle.oss_machine.specs.Machines.{asks}
use Rattle.oss_lower_laws.proofs.OneResult.{one_result}
use Rattle.oss_freed.specs.Freed.{LeavesClausesToTheJudge, TouchesItsCells, freed}
use Rattle.oss_free_run.specs.FreeTasks.{free_main}
use Rattle.oss_missing_lines.specs.declared.missing.Missing.{Missing}
use Rattle.oss_missing_lines.specs.declared.missing.RunFault.{RunFault}
use Rattle.oss_lacks.specs.Asking.{Asking}
use Rattle.oss_lacks.specs.Lacks.{IsStop}
use Rattle.oss_lacks.specs.Nests.{Nest}
use Rattle.oss_lacks.specs.Walks.{Walks, at_stop}
use Rattle.oss_missing_waits.specs.Holding.{Holding}
use Rattle.oss_missing_waits.specs.Waits.{Waits, at_stop as held_at_stop, mended_in}
use Rattle.oss_missing_laws.specs.Missing.{AnswersAreOne, EndsWell, MissingExactly, NothingIsMissing, NothingMissing}
use Rattle.oss_missing_laws.specs.Numbers.{WalksNumberAlike}
use Rattle.oss_missing_laws.specs.Programs.{NamesItsCells, ReleasesPlainly, SettlesInTwo}
use Rattle.oss_missing_laws.proofs.MissingTheorem.{walked_run}
use Rattle.oss_missing.specs.Missing.{AreAllMissing, IsMissing}
use Rattle.oss_missing_program_laws.specs.Exact.{IsFaultOf, IsToldNothing}
use Rattle.oss_missing_program_laws.proofs.EmptyPieces.{cells_from}
use Rattle.oss_missing_program_laws.proofs.FewCells.{few_at_stop}
use Rattle.oss_missing_program_laws.proofs.MovedBack.{IsEndBack, end_back}
use Rattle.oss_missing_program_laws.proofs.MovedBodies.{AskAlike, moved_act, moved_start}
use Rattle.oss_missing_program_laws.proofs.MovedWalks.{fault_back, freed_alike, wait_back, walk_back}
use Rattle.oss_missing_program_laws.proofs.ToldNothing.{all_lack, all_nothing, all_told, as_long}

-- What is missing of the clauses of a program, whatever its scripts are.
pub record IsMissingOf {S : Type 0} (P : Program S) (main : Start S) (first : List ℕ) (all : List Item) (m : Missing) : Type 0 where
  pub last : Running S
  pub asked : Nest Asking
  pub walks : Walks P main first last asked
  pub stop : IsAtEnd (freed (length first) P) last
  pub fault : IsStop (freed (length first) P) last stop m.fault
  -- the second walk
  pub stage : Running S
  pub held : Nest Holding
  pub waits : Waits (mended_in (at_stop asked).ended) P main first stage held
  pub end : IsAtEnd (freed (length first) P) stage
  pub tasks : AreAllMissing all (at_stop asked).ended (held_at_stop held) m.tasks

pub missing_of : (code : CodeParts) (fuel : ℕ) (all : List Item) (m : Missing) → IsMissing code fuel all m → IsMissingOf (asks code) (free_main code fuel) code.first all m
missing_of code fuel all m h = record {
  last = h.walked.stage;
  asked = h.nest;
  walks = h.walked.walks;
  stop = h.walked.end;
  fault = h.walked.stop;
  stage = h.stage;
  held = h.held;
  waits = h.walks;
  end = h.end;
  tasks = h.tasks;
}

abbrev IsOver : {S : Type 0} → Act S → Type 0
IsOver Over = Unit {0}
IsOver _ = ⊥

-- What is missing of the other program is missing of the one whose scripts are moved.
module _ {S T : Type 0} (move : S → T) where
  over_back : (a : Act S) → moved_act move a ≡ Over → a ≡ Over
  over_back Over e = refl
  over_back Ticked e = absurd (subst IsOver (sym e) tt)
  over_back (Load c) e = absurd (subst IsOver (sym e) tt)
  over_back (Store c v) e = absurd (subst IsOver (sym e) tt)
  over_back (Folded c op v slot) e = absurd (subst IsOver (sym e) tt)
  over_back (Created o i) e = absurd (subst IsOver (sym e) tt)
  over_back Awaited e = absurd (subst IsOver (sym e) tt)
  over_back Waited e = absurd (subst IsOver (sym e) tt)
  over_back (WaitedOn named) e = absurd (subst IsOver (sym e) tt)
  over_back (Releases clauses i) e = absurd (subst IsOver (sym e) tt)
  over_back (Printed y text) e = absurd (subst IsOver (sym e) tt)
  over_back Ended e = absurd (subst IsOver (sym e) tt)
  over_back (Fault k l y) e = absurd (subst IsOver (sym e) tt)

  stop_back : (P : Program S) (Q : Program T) (alike : AskAlike move P Q) (fault : Option RunFault) (z : Running S) (x : Running T) (end : IsAtEnd Q x) (b : IsEndBack move P Q alike z x end) → IsStop Q x end fault → IsStop P z b.own fault
  stop_back P Q alike None z x end b h = over_back (act_now P b.own.task.body) (sym b.act ∙ h)
  stop_back P Q alike (Some f) z x end b (key, h) = (key, fault_back move (act_now P b.own.task.body) f.kind f.line key (sym b.act ∙ h))

  pub missing_back : (P : Program S) (Q : Program T) → AskAlike move P Q → (main : Start S) (first : List ℕ) (all : List Item) (m : Missing) → IsMissingOf Q (moved_start move main) first all m → IsMissingOf P main first all m
  missing_back P Q alike main first all m h =
      let F : Program S = freed (length first) P in
      let G : Program T = freed (length first) Q in
      let both : AskAlike move F G = freed_alike move (length first) P Q alike in
      let w = walk_back move P Q alike first main h.walks in
      let e = end_back move F G both w.stage h.last w.same h.stop in
      let v = wait_back move P Q alike first (mended_in (at_stop h.asked).ended) main h.waits in
      let d = end_back move F G both v.stage h.stage v.same h.end in
      record {
        last = w.stage;
        asked = h.asked;
        walks = w.walks;
        stop = e.own;
        fault = stop_back F G both m.fault w.stage h.last h.stop e h.fault;
        stage = v.stage;
        held = h.held;
        waits = v.waits;
        end = d.own;
        tasks = h.tasks;
      }

-- the answer that the end of a run is
record IsTold {S : Type 0} (P : Program S) (main : Start S) (first : List ℕ) (fault : Option RunFault) : Type 0 where
  answer : Answer
  result : IsResult P main first answer
  is : IsFaultOf fault answer

module _ {S : Type 0} (P : Program S) (order : Order S) (first : List ℕ) (fuel : ℕ) (all : List Item) (m : Missing) (h : IsMissingOf P (main_start order (length first) fuel) first all m) (few : length first ≤ 1048576) (cells : length first ≤ cells_from all)
    (two : SettlesInTwo P) (named : NamesItsCells (length first) P) (touches : TouchesItsCells (length first) P) (numbers : WalksNumberAlike S) where
  abbrev main : Start S
  main = main_start order (length first) fuel

  nothing_missing : IsToldNothing m → NothingMissing P order first fuel h.last h.stop
  nothing_missing told =
      let sizes : length (at_stop h.asked).ended ≡ length (held_at_stop h.held).ended =
      as_long (at_stop h.asked).ended (held_at_stop h.held).ended (numbers (mended_in (at_stop h.asked).ended) P main first h.last h.stage h.asked h.held h.walks h.stop h.waits h.end) in
      record {
        asked = h.asked;
        walks = h.walks;
        lacks = all_lack all (length first) few cells (at_stop h.asked).ended (held_at_stop h.held) m.tasks h.tasks told (few_at_stop (length first) P named touches main first h.walks);
        stage = h.stage;
        stops = h.end;
        held = h.held;
        waits = h.waits;
        told = all_told all (at_stop h.asked).ended (held_at_stop h.held) m.tasks h.tasks told (omega (arith, sizes));
      }

  -- Where nothing is told, the run ends without a fault of annotations; and the other way round.
  pub told_exactly : MissingExactly S → NothingIsMissing S → ReleasesPlainly P → LeavesClausesToTheJudge P → IsToldNothing m ↔ EndsWell P main first
  told_exactly exact shows plain leaves = (forth, back)
    where
      forth : IsToldNothing m → EndsWell P main first
      forth told = (exact P order first fuel h.last (walked_run P main first h.walks) h.stop few two named plain touches leaves).0 (nothing_missing told)

      back : EndsWell P main first → IsToldNothing m
      back e =
          let shown = shows P order first fuel e.stage e.run e.own e.well few two named plain h.last h.stop h.asked h.walks in
          all_nothing all (at_stop h.asked).ended (held_at_stop h.held) m.tasks h.tasks shown.lacks (shown.told h.stage h.end h.held h.waits)

  -- the answer of the free run
  free_answer : (fault : Option RunFault) → IsStop (freed (length first) P) h.last h.stop fault → IsTold (freed (length first) P) main first fault
  free_answer None over = record { answer = answers.Done h.last.printed h.last.state.cells; result = ends (walked_run P main first h.walks) h.stop over; is = tt }
  free_answer (Some f) (key, fault) = record { answer = answers.Fault f.kind f.line h.last.printed; result = fails (walked_run P main first h.walks) h.stop fault; is = (refl, refl) }

  result_of : (o : Outcome) → IsOutcome P main first o → IsResult P main first o.answer
  result_of _ (outcome_ends run end over) = ends run end over
  result_of _ (outcome_fails run end fault) = fails run end fault

  -- The fault that is told is then that of the program's own run.
  pub told_fault : AnswersAreOne S → IsToldNothing m → (o : Outcome) → IsOutcome P main first o → IsFaultOf m.fault o.answer
  told_fault one told o outcome =
      let free = free_answer m.fault h.fault in
      let own : IsResult P main first free.answer = one P order first fuel h.last h.stop few two named (nothing_missing told) free.answer free.result in
      subst (λ (a : Answer). IsFaultOf m.fault a) (one_result P free.answer o.answer own (result_of o outcome)) free.is
