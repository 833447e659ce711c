use Rattle.oss_deps.proofs.Basics.{not_false}
use Rattle.oss_regions.proofs.PartLemmas.{right_of}
use Rattle.oss_regions.proofs.WaitLemmas.{access_told, one_access}
use Rattle.oss_regions.proofs.regions.Regions.is_access_met.Goals as goal

pub is_let_over-requires : goal.is_let_over-requires
is_let_over-requires c = one_access c.args.self.now (right_of c.self.view_is c.self.invariant) c.args.number c.requires.0 c.args.access c.requires.1 c.requires.2 (not_false c.args.access.strong c.if-not-access.false)

pub returns : goal.returns
returns c = λ o number. access_told c.args.self.now o c.args.access c.is_let_over.result (not_false c.args.access.strong c.if-not-access.false) (c.is_let_over.ensures o number)
