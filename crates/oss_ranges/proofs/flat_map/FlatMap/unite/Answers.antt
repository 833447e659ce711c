use Rattle.std.proofs.Common.{◌≡◌, true, ap, subst, sym, arith, is_some}
use Rattle.oss_ranges.specs.Cells.{next_of}
use Rattle.oss_ranges.proofs.flat_map.FlatMap.unite.Goals as goal

pub put_in-requires-clause-room : goal.put_in-requires-clause-room
put_in-requires-clause-room g c =
    let same : c.self.inside.pieces.items ≡ c.args.self.now.pieces = ap (λ k. k.pieces) c.self.view_is in
    let found = subst (λ xs. is_some (next_of c.args.whole.lo xs) ≡ true) (sym same) c.requires.found in
    let fewer = c.take_out.ensures.fewer found in
    let last = c.take_out-2.ensures.count in
    omega (arith, c.self.invariant.1, c.take_out.ensures.room, c.take_out-2.ensures.room)

pub invariant_of-self : goal.invariant_of-self
invariant_of-self g c =
    let same : c.self.inside.pieces.items ≡ c.args.self.now.pieces = ap (λ k. k.pieces) c.self.view_is in
    let found = subst (λ xs. is_some (next_of c.args.whole.lo xs) ≡ true) (sym same) c.requires.found in
    let fewer = c.take_out.ensures.fewer found in
    let last = c.take_out-2.ensures.count in
    (rw (c.put_in.ensures.items, c.take_out-2.ensures.items, c.take_out.ensures.items, same) c.requires.rising, omega (arith, c.self.invariant.1, c.put_in.ensures.count, c.put_in.ensures.room, c.take_out.ensures.room, c.take_out-2.ensures.room))
