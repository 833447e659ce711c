use Rattle.std.proofs.Common.{◌≡◌, ◌++◌, sym, ◌∙◌}
use Rattle.oss_sections.specs.RangeCells.{AreJoined, cells_of}
use Rattle.oss_sections.proofs.RangeLemmas.{cells_of-append}
use Rattle.oss_machine.proofs.TurnLemmas.{joined_are}
use Rattle.oss_machine.proofs.instructions.turns.turn_ranges.Goals as goal

pub returns : goal.returns
returns c =
    let start : AreJoined c.new-joined.result = rw c.new-joined.ensures tt in
    let first : cells_of c.add_ranges.new.joined ≡ cells_of c.args.before.now = c.in_ok-add_ranges.ensures.cells ∙ rw c.new-joined.ensures in
    let cells : cells_of c.add_ranges-2.new.joined ≡ cells_of (c.args.before.now ++ c.args.since.now) = c.in_ok-add_ranges-2.ensures.cells ∙ rw first (sym (cells_of-append c.args.before.now c.args.since.now)) in
    joined_are c.add_ranges-2.new.joined (cells_of (c.args.before.now ++ c.args.since.now)) (c.in_ok-add_ranges-2.ensures.joined (c.in_ok-add_ranges.ensures.joined start)) cells
