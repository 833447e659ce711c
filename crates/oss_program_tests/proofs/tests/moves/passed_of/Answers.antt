use Rattle.std.proofs.Common.{◌≡◌, ◌∙◌, length, sym}
use Rattle.oss_tree.specs.Tasks.{IsTree}
use Rattle.oss_core.specs.Cores.{kept_of}
use Rattle.oss_core.specs.Kept.{Kept}
use Rattle.oss_core.specs.Passing.{HasPassed}
use Rattle.oss_core.proofs.TwoLemmas.{two_asked}
use Rattle.oss_program_tests.proofs.tests.moves.passed_of.Goals as goal

pub pass-requires-clause-asked : goal.pass-requires-clause-asked
pass-requires-clause-asked g c =
    let k : Kept = kept_of g.D.Deps.seen c.args.core.now in
    let tree : IsTree k.tree.tasks = rw c.tree.ensures at c.count.ensures.tree in
    let size : length k.tree.tasks ≡ 2 = rw c.tree.ensures at (sym c.count.ensures.count ∙ c.if-count-ne2.false) in
    two_asked k tree size

pub returns : goal.returns
returns g c =
    let before = c.requires in
    let made : HasPassed c.args.code.now (kept_of g.D.Deps.seen c.args.core.now) (kept_of g.D.Deps.seen c.pass.new.self) c.expect.result.items = rw c.expect.ensures at c.pass.ensures.passed in
    let t = made before.main before.first before.state before.core in
    record { main = before.main; first = before.first; state = t.0; core = t.4 }
