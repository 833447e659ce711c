use Rattle.oss_deps.proofs.Basics.{not_false}
use Rattle.oss_regions.proofs.PartLemmas.{right_of}
use Rattle.oss_regions.proofs.WaitLemmas.{one_access, strong_obstacle}
use Rattle.oss_regions.proofs.regions.Regions.obstacle_at.Goals as goal

pub bar_over-requires : goal.bar_over-requires
bar_over-requires c = one_access c.args.self.now (right_of c.self.view_is c.self.invariant) c.args.number c.requires.0 c.args.access c.requires.1 c.requires.2 (not_false c.args.access.strong c.if-not-access.false)

pub returns : goal.returns
returns c = λ o number. strong_obstacle c.args.self.now o c.args.access c.bar_over.result (c.bar_over.ensures o number)
