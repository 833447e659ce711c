use Rattle.std.proofs.Common.{◌≡◌, ◌≤◌, ◌<◌, ℕ, ◌+◌, ◌++◌, List, ◌∷◌, [], drop, get_or, length, arith, subst, sym, ap, ◌∙◌}
use Rattle.std.proofs.lemmas.List.{append-nil}
use Rattle.std.proofs.lemmas.List.Sums.{sum_by_from}
use Rattle.std.proofs.Math.ListN.{drop_of_length-le}
use Rattle.oss_syntax.specs.declared.tree.program.Item.{Item}
use Rattle.oss_syntax.specs.declared.tree.program.Item.TheVariants as items
use Rattle.oss_grammar.specs.Layout.{cells_in, cells_of, sizes_of}
use Rattle.oss_pieces.specs.declared.piece.Piece.{Piece}
use Rattle.oss_pieces.specs.CellSets.{has}
use Rattle.oss_pieces.specs.Pieces.{ArePieces, ArePiecesTo}
use Rattle.oss_pieces.specs.Rows.{Grid, grid, grid_of}
use Rattle.oss_pieces.proofs.ItemLemmas.{all_done, first_left, past_function, past_global}
use Rattle.oss_pieces.proofs.finding.pieces.Goals as goal
use Rattle.oss_pieces.proofs.finding.pieces.Goals.{in-Global+in_ok-add_pieces_of, in_default}

pub loop-item-preserved : goal.loop-item-preserved
loop-item-preserved c =
    let all : List Item = c.args.program.now.items in
    let i : ℕ = c.loop-item.item-index in
    let rest : List Item = drop (i + 1) all in
    let item : Item = c.item-item.result in
    let slice : c.as_slice-item-items.result.now ≡ all = c.as_slice-item-items.ensures in
    let within : i < length all = subst (λ (xs : List Item). i < length xs) slice c.loop-item-test.true in
    let at : item ≡ get_or all i item = c.item-item.is ∙ ap (λ (xs : List Item). get_or xs i item) slice in
    let left : drop i all ≡ item ∷ rest = first_left all i item within at in
    let inv = c.loop-item.invariant in
    elim c.match-item.branch [
      | in-Global+in_ok-add_pieces_of w ↦ (
          let these : drop i all ≡ items.Global w.in-Global.global ∷ rest = left ∙ ap (λ (x : Item). x ∷ rest) w.in-Global.is in
          let own = w.in_ok-add_pieces_of.ensures in
          let sizes : cells_in (drop i all) ≡ (0 + cells_of w.in-Global.global.cells) + cells_in rest =
          ap cells_in these ∙ sum_by_from (λ (x : ℕ). x) (0 + cells_of w.in-Global.global.cells) (sizes_of rest) in
          let g = w.in-Global.global in
          let start : ℕ = c.loop-item.start in
          let is : Grid = grid w.of-shape.result in
          let same : is ≡ grid_of g start = w.of-shape.ensures in
          let found : c.match-item.found.items ≡ w.add_pieces_of.new.found.items = cc in
          let ends : is.start + is.cells ≡ start + cells_of g.cells = ap (λ (k : Grid). k.start + k.cells) same in
          let after : c.match-item.start ≡ start + cells_of g.cells = w.start-is ∙ w.end-start.ensures ∙ ends in
          let are : ArePiecesTo (grid_of g start) c.loop-item.number (has c.args.set.now) (start + cells_of g.cells) own.0 =
          subst (λ (k : Grid). ArePiecesTo k c.loop-item.number (has c.args.set.now) (k.start + k.cells) own.0) same own.1 in (
            omega (arith, w.number-is, inv.0),
            omega (arith, after, sizes, inv.1),
            past_global (has c.args.set.now) all (drop i all) rest g c.loop-item.number start c.match-item.number c.match-item.start c.loop-item.found.items own.0
                c.match-item.found.items these w.number-is after are (found ∙ own.2) inv.2,
          ))
      | in_default w ↦ (
          let these : drop i all ≡ items.Function w.in_default.field-0 ∷ rest = left ∙ ap (λ (x : Item). x ∷ rest) w.in_default.is in
          let sizes : cells_in (drop i all) ≡ cells_in rest = ap cells_in these in
          let goes = past_function (has c.args.set.now) all (drop i all) rest w.in_default.field-0 c.loop-item.number c.loop-item.start c.loop-item.found.items these inv.2 in
          let found : c.match-item.found.items ≡ c.loop-item.found.items = cc in (
            omega (arith, w.number-is, inv.0),
            omega (arith, w.start-is, sizes, inv.1),
            λ others are.
                subst (λ (xs : List Piece). ArePieces (has c.args.set.now) all 0 0 (xs ++ others)) (sym found)
                (goes others (subst (λ (n : ℕ). ArePieces (has c.args.set.now) rest n c.loop-item.start others) w.number-is
                (subst (λ (n : ℕ). ArePieces (has c.args.set.now) rest c.match-item.number n others) w.start-is are))),
          ))
    ]

pub returns : goal.returns
returns c =
    let all : List Item = c.args.program.now.items in
    let slice : c.as_slice-item-items.result.now ≡ all = c.as_slice-item-items.ensures in
    let past : length all ≤ c.loop-item.item-index = subst (λ (xs : List Item). length xs ≤ c.loop-item.item-index) slice c.loop-item-test.false in
    let none_left : drop c.loop-item.item-index all ≡ [] = drop_of_length-le all past in
    let done : ArePieces (has c.args.set.now) all 0 0 (c.loop-item.found.items ++ []) =
    all_done (has c.args.set.now) all (drop c.loop-item.item-index all) c.loop-item.number c.loop-item.start c.loop-item.found.items none_left c.loop-item.invariant.2 in
    subst (λ (xs : List Piece). ArePieces (has c.args.set.now) all 0 0 xs) (append-nil c.loop-item.found.items ∙ sym c.from_vec.ensures) done
