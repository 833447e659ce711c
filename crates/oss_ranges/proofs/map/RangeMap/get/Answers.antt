use Rattle.std.proofs.Common.{◌≡◌, Some, None, sym, ◌∙◌}
use Rattle.oss_ranges.specs.Cells.{next_of}
use Rattle.oss_ranges.proofs.MapLemmas.{value_is_told}
use Rattle.oss_ranges.proofs.map.RangeMap.get.Goals as goal

pub returns-in-Some : goal.returns-in-Some
returns-in-Some g c =
    let at = value_is_told 0 1048576 c.args.cell c.args.self.now.pieces c.next.ensures.rising in
    let found : next_of c.args.cell c.args.self.now.pieces ≡ Some c.in-Some.piece = sym c.next.ensures.found ∙ c.in-Some.is in
    c.value_at_or_behind.ensures ∙ sym (rw found at at)

pub returns-in-None : goal.returns-in-None
returns-in-None g c =
    let at = value_is_told 0 1048576 c.args.cell c.args.self.now.pieces c.next.ensures.rising in
    let found : next_of c.args.cell c.args.self.now.pieces ≡ None = sym c.next.ensures.found ∙ c.in-None.is in
    sym (rw found at at)
