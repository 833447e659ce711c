use Rattle.std.proofs.Common.{◌≡◌, Some, None, sym}
use Rattle.oss_ranges.specs.Cells.{next_of}
use Rattle.oss_ranges.proofs.CutLemmas.{cut_begin, cut_none}
use Rattle.oss_ranges.proofs.tree_map.parted.Goals as goal

pub returns-else-piece-cell : goal.returns-else-piece-cell
returns-else-piece-cell g c =
    let found : next_of c.args.cell c.args.tree ≡ Some c.in-Some.piece = cc in
    sym (cut_begin c.args.cell c.in-Some.piece c.args.tree found c.if-piece-cell.false)

pub returns-in-None : goal.returns-in-None
returns-in-None g c =
    let none : next_of c.args.cell c.args.tree ≡ None = cc in
    sym (cut_none c.args.cell c.args.tree none)
