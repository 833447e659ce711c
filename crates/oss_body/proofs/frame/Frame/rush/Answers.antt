use Rattle.std.proofs.Common.{subst}
use Rattle.oss_machine.specs.Rushes.{Rushes}
use Rattle.oss_machine.specs.Rushes.Rushes.{stays}
use Rattle.oss_body.specs.Places.{Framed}
use Rattle.oss_body.specs.Touches.{IsMade}
use Rattle.oss_body.proofs.frame.Frame.rush.Goals as goal

pub returns-then-self-clause-rushes : goal.returns-then-self-clause-rushes
returns-then-self-clause-rushes c = stays

pub returns-clause-rushes : goal.returns-clause-rushes
returns-clause-rushes c =
    subst (λ (y : Framed). Rushes IsMade c.args.code.now y.machine y.place c.args.cells.now c.rush.result c.rush.new.self.stands c.rush.new.judge c.rush.new.memory) c.self.view_is c.rush.ensures.rushes
