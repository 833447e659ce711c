use Rattle.std.proofs.Common.{◌≡◌, ◌<◌, ◌≤◌, ap, sym, ◌∙◌, arith, length}
use Rattle.std.specs.List.{remove}
use Rattle.oss_ranges.specs.Places.{place}
use Rattle.oss_ranges.proofs.FlatLemmas.{found_within, removed_at, removed_beyond}
use Rattle.oss_ranges.proofs.flat_map.take_out.Goals as goal

pub returns-then-at-len-clause-items : goal.returns-then-at-len-clause-items
returns-then-at-len-clause-items g c =
    let is : c.place_of-at.result ≡ place c.args.cell c.args.pieces.now.items = c.place_of-at.ensures ∙ ap (place c.args.cell) c.as_slice.ensures.value in
    let long : c.len.result ≡ length c.args.pieces.now.items = c.len.ensures ∙ c.args.pieces.now.ok.0 in
    let within : place c.args.cell c.args.pieces.now.items < length c.args.pieces.now.items = omega arith in
    c.remove-gone.ensures.items ∙ ap (remove c.args.pieces.now.items) is ∙ removed_at c.args.cell c.args.pieces.now.items within

pub returns-else-at-len-clause-items : goal.returns-else-at-len-clause-items
returns-else-at-len-clause-items g c =
    let is : c.place_of-at.result ≡ place c.args.cell c.args.pieces.now.items = c.place_of-at.ensures ∙ ap (place c.args.cell) c.as_slice.ensures.value in
    let long : c.len.result ≡ length c.args.pieces.now.items = c.len.ensures ∙ c.args.pieces.now.ok.0 in
    let beyond : length c.args.pieces.now.items ≤ place c.args.cell c.args.pieces.now.items = omega arith in
    sym (removed_beyond c.args.cell c.args.pieces.now.items beyond)

pub returns-else-at-len-clause-fewer : goal.returns-else-at-len-clause-fewer
returns-else-at-len-clause-fewer g c = λ found.
    let is : c.place_of-at.result ≡ place c.args.cell c.args.pieces.now.items = c.place_of-at.ensures ∙ ap (place c.args.cell) c.as_slice.ensures.value in
    let long : c.len.result ≡ length c.args.pieces.now.items = c.len.ensures ∙ c.args.pieces.now.ok.0 in
    let within = found_within c.args.cell c.args.pieces.now.items found in
    absurd (omega arith)
