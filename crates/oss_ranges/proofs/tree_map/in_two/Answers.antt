use Rattle.oss_ranges.specs.Cells.{inserted, removed}
use Rattle.oss_ranges.proofs.CutLemmas.{cut_rises, inserted_less, parts_inserted}
use Rattle.oss_ranges.proofs.tree_map.in_two.Goals as goal

pub with-requires : goal.with-requires
with-requires g c =
    let parts = parts_inserted 0 1048576 c.args.cell c.args.piece c.args.tree c.requires.rising c.requires.piece c.requires.inside in
    let whole = cut_rises 0 1048576 c.args.cell c.args.tree c.requires.rising in
    rw c.without-node.ensures.pieces (inserted_less 0 1048576 (record c.args.piece { lo = c.args.cell }) (inserted (record c.args.piece { hi = c.args.cell }) (removed c.args.cell c.args.tree)) (rw parts whole))

pub with-requires-in-Some : goal.with-requires-in-Some
with-requires-in-Some g c =
    let parts = parts_inserted 0 1048576 c.args.cell c.args.piece c.args.tree c.requires.rising c.requires.piece c.requires.inside in
    let whole = cut_rises 0 1048576 c.args.cell c.args.tree c.requires.rising in
    rw (c.with.ensures, c.without-node.ensures.pieces, parts) whole

pub returns : goal.returns
returns g c =
    let parts = parts_inserted 0 1048576 c.args.cell c.args.piece c.args.tree c.requires.rising c.requires.piece c.requires.inside in
    rw (c.with-in-Some.ensures, c.with.ensures, c.without-node.ensures.pieces) parts
