use Rattle.std.proofs.Common.{◌≡◌, ◌≤◌, ◌<◌, ℕ, false, List, [], length, drop, get_or, arith, sym, subst}
use Rattle.std.proofs.Math.ListN.{drop_of_length-le}
use Rattle.oss_pieces.specs.declared.piece.Piece.{Piece}
use Rattle.oss_pieces.specs.declared.shape.Shape.{Shape}
use Rattle.oss_pieces.specs.CellSets.{has}
use Rattle.oss_pieces.specs.Layouts.{ArePiecesIn, grids}
use Rattle.oss_pieces.proofs.LayoutLemmas.{begins_at, goes_end, goes_next, laid_next, no_more, none_left}
use Rattle.oss_pieces.proofs.layout.pieces_in.Goals as goal
use Rattle.oss_pieces.proofs.layout.pieces_in.Goals.{else-loop-number-test, then-loop-number-test+then-begin-eq-CELLS}

pub loop-number-preserved : goal.loop-number-preserved
loop-number-preserved c =
    let shapes : List Shape = c.args.shapes.now in
    let inv = c.loop-number.invariant in
    let p : ℕ = c.global_of-number.result in
    let there : p < length shapes = c.global_of-number.ensures.there in
    let up : c.loop-number.number ≤ p = c.global_of-number.ensures.from in
    let shape = c.index-shapes-number-in-loop-number.result in
    let is : shape ≡ get_or shapes p shape = c.index-shapes-number-in-loop-number.is in
    let first = c.index-shapes-number.result in
    let begins : shape.start ≤ c.next_cell-begin.result = begins_at shapes p shape c.next_cell-begin.result there is c.global_of-number.ensures.begins in
    let gap : (k : ℕ) → first.start ≤ k → k < c.next_cell-begin.result → has c.args.set.now k ≡ false =
    λ k a b. c.next_cell-begin.ensures.none k (subst (λ (s : Shape). s.start ≤ k) c.index-shapes-number.is a) b in
    let own = c.in_ok-add_pieces_of.ensures in (
      omega (arith, there),
      laid_next (has c.args.set.now) shapes c.loop-number.number p first shape c.next_cell-begin.result up there c.index-shapes-number.is is inv.1 gap begins,
      goes_next (has c.args.set.now) shapes c.loop-number.number p first shape c.next_cell-begin.result up there c.index-shapes-number.is is inv.1 gap begins
          c.loop-number.found.items own.0 c.add_pieces_of.new.found.items own.1 own.2 inv.2,
    )

pub returns : goal.returns
returns c =
    let shapes : List Shape = c.args.shapes.now in
    let inv = c.loop-number.invariant in
    let n : ℕ = c.loop-number.number in
    let rest : ArePiecesIn (has c.args.set.now) (grids (drop n shapes)) n [] = elim c.loop-number-test.branch [
      | else-loop-number-test w ↦ none_left (has c.args.set.now) shapes n (drop_of_length-le shapes (let t = w.loop-number-test.false in omega (arith, t)))
      | then-loop-number-test+then-begin-eq-CELLS w ↦ (
          let e : w.next_cell-begin.result ≡ 1048576 = omega arith in
          no_more (has c.args.set.now) shapes n w.index-shapes-number.result w.loop-number-test.true w.index-shapes-number.is inv.1 (λ k a b. w.next_cell-begin.ensures.none k (subst (λ (s : Shape). s.start ≤ k) w.index-shapes-number.is a) (omega (arith, e, b))))
    ] in
    subst (λ (xs : List Piece). ArePiecesIn (has c.args.set.now) (grids shapes) 0 xs) (sym c.from_vec.ensures) (goes_end (has c.args.set.now) shapes n c.loop-number.found.items rest inv.2)
