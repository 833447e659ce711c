use Rattle.std.proofs.Common.{◌≡◌, ℕ, ap, ◌∙◌}
use Rattle.std.specs.List.{insert}
use Rattle.oss_ranges.specs.Places.{place}
use Rattle.oss_ranges.proofs.FlatLemmas.{inserted_at, place_within}
use Rattle.oss_ranges.proofs.flat_map.put_in.Goals as goal

pub put_at-requires-clause-within : goal.put_at-requires-clause-within
put_at-requires-clause-within g c =
    let is : c.place_of-at.result ≡ place c.args.piece.lo c.args.pieces.now.items = c.place_of-at.ensures ∙ ap (place c.args.piece.lo) c.as_slice.ensures.value in
    rw is (place_within c.args.piece.lo c.args.pieces.now.items)

pub returns-clause-items : goal.returns-clause-items
returns-clause-items g c =
    let is : c.place_of-at.result ≡ place c.args.piece.lo c.args.pieces.now.items = c.place_of-at.ensures ∙ ap (place c.args.piece.lo) c.as_slice.ensures.value in
    c.put_at.ensures.items ∙ ap (λ (n : ℕ). insert c.args.pieces.now.items n c.args.piece) is ∙ inserted_at 0 1048576 c.args.piece c.args.pieces.now.items c.requires.rising
