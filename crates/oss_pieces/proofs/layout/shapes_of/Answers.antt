use Rattle.std.proofs.Common.{◌≡◌, ◌<◌, ℕ, ◌+◌, ◌++◌, List, ◌∷◌, drop, get_or, length, arith, subst, sym, ap, ◌∙◌}
use Rattle.std.proofs.lemmas.List.Sums.{sum_by_from}
use Rattle.oss_syntax.specs.declared.tree.program.Item.{Item}
use Rattle.oss_syntax.specs.declared.tree.program.Item.TheVariants as items
use Rattle.oss_grammar.specs.Layout.{cells_in, cells_of, sizes_of}
use Rattle.oss_pieces.specs.declared.shape.Shape.{Shape}
use Rattle.oss_pieces.specs.Layouts.{grids, grids_from}
use Rattle.oss_pieces.specs.Rows.{Grid, grid, grid_of}
use Rattle.oss_pieces.proofs.ItemLemmas.{first_left}
use Rattle.oss_pieces.proofs.LayoutLemmas.{past_function, past_global}
use Rattle.oss_pieces.proofs.layout.shapes_of.Goals as goal
use Rattle.oss_pieces.proofs.layout.shapes_of.Goals.{in-Global+in_ok-push, in_default}

pub loop-item-preserved : goal.loop-item-preserved
loop-item-preserved c =
    let all : List Item = c.args.program.now.items in
    let i : ℕ = c.loop-item.item-index in
    let rest : List Item = drop (i + 1) all in
    let item : Item = c.item-item.result in
    let slice : c.as_slice-item-items.result.now ≡ all = c.as_slice-item-items.ensures in
    let within : i < length all = subst (λ (xs : List Item). i < length xs) slice c.loop-item-test.true in
    let at : item ≡ get_or all i item = c.item-item.is ∙ ap (λ (xs : List Item). get_or xs i item) slice in
    let left : drop i all ≡ item ∷ rest = first_left all i item within at in
    let inv = c.loop-item.invariant in
    elim c.match-item.branch [
      | in-Global+in_ok-push w ↦ (
          let g = w.in-Global.global in
          let start : ℕ = c.loop-item.start in
          let these : drop i all ≡ items.Global g ∷ rest = left ∙ ap (λ (x : Item). x ∷ rest) w.in-Global.is in
          let sizes : cells_in (drop i all) ≡ (0 + cells_of g.cells) + cells_in rest = ap cells_in these ∙ sum_by_from (λ (x : ℕ). x) (0 + cells_of g.cells) (sizes_of rest) in
          let is : Grid = grid w.of-shape.result in
          let same : is ≡ grid_of g start = w.of-shape.ensures in
          let ends : is.start + is.cells ≡ start + cells_of g.cells = ap (λ (k : Grid). k.start + k.cells) same in
          let pushed : c.match-item.shapes.items ≡ w.push.new.self.items = cc in
          let after : c.match-item.start ≡ start + cells_of g.cells = w.start-is ∙ w.end-start.ensures ∙ ends in (
            omega (arith, after, sizes, inv.0),
            past_global c.loop-item.shapes.items c.match-item.shapes.items w.of-shape.result g start c.match-item.start rest (drop i all) all these same after (pushed ∙ w.in_ok-push.ensures.items) inv.1,
          ))
      | in_default w ↦ (
          let these : drop i all ≡ items.Function w.in_default.field-0 ∷ rest = left ∙ ap (λ (x : Item). x ∷ rest) w.in_default.is in
          let sizes : cells_in (drop i all) ≡ cells_in rest = ap cells_in these in
          let same : c.match-item.shapes.items ≡ c.loop-item.shapes.items = cc in (
            omega (arith, w.start-is, sizes, inv.0),
            subst (λ (n : ℕ). grids c.match-item.shapes.items ++ grids_from rest n ≡ grids_from all 0) (sym w.start-is)
                (subst (λ (xs : List Shape). grids xs ++ grids_from rest c.loop-item.start ≡ grids_from all 0) (sym same)
                (past_function c.loop-item.shapes.items w.in_default.field-0 c.loop-item.start rest (drop i all) all these inv.1)),
          ))
    ]
