use Rattle.std.proofs.Common.{arith, subst}
use Rattle.std.specs.Prelude.{Option}
use Rattle.oss_syntax.specs.declared.access.Access.{Access}
use Rattle.oss_judge.specs.Joined.{IsRun}
use Rattle.oss_judge.specs.Seen.{mark_at, right_at}
use Rattle.oss_judge.proofs.JoinedLemmas.{gives_past}
use Rattle.oss_judge.proofs.joined.accesses_of.Goals as goal

pub runs-preserved : goal.runs-preserved
runs-preserved c =
    let own = right_at c.args.rights.now.pieces in
    let marked = mark_at c.args.marks.now.pieces in
    let end = c.run_at-run.result.end in
    let run = subst (λ (o : Option Access). IsRun own marked c.runs.from end o) c.in-None.is c.run_at-run.ensures.run in
    record {
      gives = gives_past own marked c.runs.from end c.runs.accesses.items (let some = c.run_at-run.ensures.some in omega arith) run c.runs.invariant.gives;
      within = c.run_at-run.ensures.within;
      past = λ some. c.run_at-run.ensures.past;
    }
