use Rattle.std.proofs.Common.{arith}
use Rattle.oss_regions.proofs.PartLemmas.{none_of, part_of, right_of}
use Rattle.oss_regions.proofs.RangeLemmas.{opened_within}
use Rattle.oss_regions.proofs.WaitLemmas.{joins_none, joins_told}
use Rattle.oss_regions.proofs.regions.Regions.joins_at.Goals as goal

pub at-requires : goal.at-requires
at-requires c = opened_within c.args.self.now.opens c.requires.0.task c.args.cell c.requires.2

pub joins_in-requires-clause-main : goal.joins_in-requires-clause-main
joins_in-requires-clause-main c = λ z. let k = c.requires.1.1 in absurd (omega (arith, k, z))

pub returns-in-Some : goal.returns-in-Some
returns-in-Some c = λ o op number mode.
    joins_told c.args.self.now (right_of c.self.view_is c.self.invariant) c.args.cell c.in-Some.part.now (part_of c.self.view_is c.in-Some.ensures.found) c.joins_in.ensures.rest c.args.number c.requires.0 c.requires.1 c.requires.2 c.joins_in.result c.joins_in.ensures.joins c.joins_in.ensures.none o op number mode

pub returns-in-None : goal.returns-in-None
returns-in-None c = λ o op number mode. joins_none c.args.self.now (right_of c.self.view_is c.self.invariant) (none_of c.self.view_is c.in-None.ensures.none) c.args.number c.args.cell c.requires.0 c.requires.1 c.requires.2 o op number mode
