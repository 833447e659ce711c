use Rattle.std.proofs.Common.{subst, List}
use Rattle.oss_lacks.specs.declared.lacks.TaskLacks.{TaskLacks}
use Rattle.oss_missing.specs.Making.{AreAllMade}
use Rattle.oss_missing.proofs.TellingLemmas.{is_missing}
use Rattle.oss_missing.proofs.finding.missing_beside.Goals as goal

pub returns-in-Ok : goal.returns-in-Ok
returns-in-Ok c =
    is_missing c.args.code.now c.args.fuel c.args.program.now.items c.args.layout.now c.args.lacks.now c.in_ok-waits.waits c.in-Ok.tasks c.requires.layout c.requires.lacks c.in_ok-waits.ensures
    (subst (λ (ts : List TaskLacks). AreAllMade c.args.layout.now ts c.in_ok-waits.waits c.in-Ok.tasks) c.as_slice.ensures c.in-Ok.ensures)
