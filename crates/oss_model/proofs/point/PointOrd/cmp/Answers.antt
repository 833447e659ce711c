use Rattle.std.proofs.Common.{◌≡◌, rules}
use Rattle.std.specs.Cmp.Lexicographic.{slice_cmp}
use Rattle.std.specs.Ordering.{nat_cmp}
use Rattle.oss_model.proofs.PointLemmas.{ordered}
use Rattle.oss_model.proofs.point.PointOrd.cmp.Goals as goal

pub returns-clause-order : goal.returns-clause-order
returns-clause-order c =
    let is : c.cmp.result ≡ slice_cmp nat_cmp c.args.self.now c.args.other.now = search rules in
    rw is (ordered c.args.self.now c.args.other.now)
