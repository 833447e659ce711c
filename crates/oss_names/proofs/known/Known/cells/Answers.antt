use Rattle.std.proofs.Common.{◌≡◌, ◌-◌, ◌∙◌, ap, arith, get_or, length}
use Rattle.oss_grammar.specs.Layout.{cells_in}
use Rattle.oss_names.proofs.LayoutLemmas.{bounds-many, last-bound}
use Rattle.oss_names.proofs.known.Known.cells.Goals as goal

pub overflow_sub-len : goal.overflow_sub-len
overflow_sub-len c =
    let many = bounds-many c.self.inside.program c.self.inside.bounds.items c.self.invariant.0 c.self.invariant.1 in
    let size = c.self.inside.bounds.ok.0 in
    omega (arith, many, size, c.len.ensures)

pub index-requires : goal.index-requires
index-requires c =
    let many = bounds-many c.self.inside.program c.self.inside.bounds.items c.self.invariant.0 c.self.invariant.1 in
    let size = c.self.inside.bounds.ok.0 in
    omega (arith, many, size, c.len.ensures)

pub returns : goal.returns
returns c =
    let bounds = c.self.inside.bounds.items in
    let last : c.len.result - 1 ≡ length bounds - 1 = ap (λ n. n - 1) (c.len.ensures ∙ c.self.inside.bounds.ok.0) in
    last-bound c.self.inside.program bounds c.self.invariant.0 c.self.invariant.1 c.index.result.now (c.index.ensures ∙ ap (λ k. get_or bounds k c.index.result.now) last)
    ∙ ap (λ p. cells_in p.items) c.self.view_is
