use Rattle.std.proofs.Common.{rules, ◌≡◌, Ok}
use Rattle.oss_segment.proofs.SegmentLemmas.{known_behind}
use Rattle.oss_run_tests.proofs.part_tests.part.Goals as goal

pub returns : goal.returns
returns g c =
    let is : c.segment_of.result ≡ Ok c.expect.result = search rules in
    known_behind c.args.code.now _ _ c.args.body c.expect.result c.requires (rw is at c.segment_of.ensures)
