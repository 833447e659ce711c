use Rattle.oss_machine.specs.Asks.{meant_ask}
use Rattle.oss_explain.proofs.FaultLemmas.{may_fail}
use Rattle.oss_explain.proofs.told.told_of.Goals as goal

pub deed_of-requires : goal.deed_of-requires
deed_of-requires c = record { layout = c.requires.layout; fails = may_fail c.args.context.now (meant_ask c.args.ask.now) c.args.kind c.requires.fault }
