use Rattle.std.proofs.Common.{◌≡◌, ◌<◌, ◌≤◌, ℕ, ap, subst, sym, ◌∙◌, arith, length, slice_index_or}
use Rattle.oss_ranges.specs.Places.{place}
use Rattle.oss_ranges.proofs.CutLemmas.{cut_begin, cut_none}
use Rattle.oss_ranges.proofs.FlatLemmas.{next_at, next_beyond, parted_from}
use Rattle.oss_ranges.proofs.flat_map.part.Goals as goal

pub returns-then-len-at-clause-items : goal.returns-then-len-at-clause-items
returns-then-len-at-clause-items g c =
    let is : c.place_of-at.result ≡ place c.args.cell c.args.pieces.now.items = c.place_of-at.ensures ∙ ap (place c.args.cell) c.as_slice.ensures.value in
    let long : c.len.result ≡ length c.args.pieces.now.items = c.len.ensures ∙ c.args.pieces.now.ok.0 in
    let beyond : length c.args.pieces.now.items ≤ place c.args.cell c.args.pieces.now.items = omega arith in
    sym (cut_none c.args.cell c.args.pieces.now.items (next_beyond c.args.cell c.args.pieces.now.items beyond))

pub returns-then-cell-piece-clause-items : goal.returns-then-cell-piece-clause-items
returns-then-cell-piece-clause-items g c =
    let is : c.place_of-at.result ≡ place c.args.cell c.args.pieces.now.items = c.place_of-at.ensures ∙ ap (place c.args.cell) c.as_slice.ensures.value in
    let long : c.len.result ≡ length c.args.pieces.now.items = c.len.ensures ∙ c.args.pieces.now.ok.0 in
    let within : place c.args.cell c.args.pieces.now.items < length c.args.pieces.now.items = omega arith in
    let read = subst (λ (n : ℕ). c.index-piece.result.now ≡ slice_index_or c.args.pieces.now.items n c.index-piece.result.now) is c.index-piece.ensures in
    sym (cut_begin c.args.cell c.index-piece.result.now c.args.pieces.now.items (next_at c.args.cell c.index-piece.result.now c.args.pieces.now.items within read) c.if-cell-piece.true)

pub returns-clause-items : goal.returns-clause-items
returns-clause-items g c =
    let is : c.place_of-at.result ≡ place c.args.cell c.args.pieces.now.items = c.place_of-at.ensures ∙ ap (place c.args.cell) c.as_slice.ensures.value in
    let long : c.len.result ≡ length c.args.pieces.now.items = c.len.ensures ∙ c.args.pieces.now.ok.0 in
    let within : c.place_of-at.result < length c.args.pieces.now.items = omega arith in
    c.put_at.ensures.items ∙ parted_from c.args.cell c.place_of-at.result c.index-piece.result.now c.args.pieces.now.items is within c.index-piece.ensures c.if-cell-piece.false
