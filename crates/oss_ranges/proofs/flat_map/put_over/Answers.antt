use Rattle.std.proofs.Common.{◌≡◌, ℕ, ap, ◌∙◌, arith, length, slice_set, vec_len}
use Rattle.oss_ranges.specs.Places.{place}
use Rattle.oss_ranges.proofs.FlatLemmas.{found_within, replaced_at}
use Rattle.oss_ranges.proofs.flat_map.put_over.Goals as goal

pub index_mut-requires : goal.index_mut-requires
index_mut-requires g c =
    let is : c.place_of-at.result ≡ place c.args.piece.lo c.args.pieces.now.items = c.place_of-at.ensures ∙ ap (place c.args.piece.lo) c.as_slice.ensures.value in
    let within = found_within c.args.piece.lo c.args.pieces.now.items c.requires.found in
    let long : vec_len c.args.pieces.now ≡ length c.args.pieces.now.items = c.args.pieces.now.ok.0 in
    omega arith

pub returns-clause-items : goal.returns-clause-items
returns-clause-items g c =
    let is : c.place_of-at.result ≡ place c.args.piece.lo c.args.pieces.now.items = c.place_of-at.ensures ∙ ap (place c.args.piece.lo) c.as_slice.ensures.value in
    ap (λ (n : ℕ). slice_set c.args.pieces.now.items n c.args.piece) is ∙ replaced_at 0 1048576 c.args.piece c.args.pieces.now.items c.requires.rising c.requires.found
