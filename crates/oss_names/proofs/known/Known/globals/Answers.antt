use Rattle.std.proofs.Common.{◌≡◌, ◌-◌, ◌∙◌, ap, arith, length}
use Rattle.oss_grammar.specs.Layout.{sizes_of}
use Rattle.oss_names.proofs.LayoutLemmas.{bounds-many, sizes-few}
use Rattle.oss_names.proofs.known.Known.globals.Goals as goal

pub overflow_sub-result : goal.overflow_sub-result
overflow_sub-result c =
    let many = bounds-many c.self.inside.program c.self.inside.bounds.items c.self.invariant.0 c.self.invariant.1 in
    let size = c.self.inside.bounds.ok.0 in
    omega (arith, many, size, c.len.ensures)

pub overflow_cast-result : goal.overflow_cast-result
overflow_cast-result c =
    let many = bounds-many c.self.inside.program c.self.inside.bounds.items c.self.invariant.0 c.self.invariant.1 in
    let few = sizes-few c.self.inside.program c.self.invariant.0 in
    let size = c.self.inside.bounds.ok.0 in
    omega (arith, many, few, size, c.len.ensures)

pub returns : goal.returns
returns c =
    let many = bounds-many c.self.inside.program c.self.inside.bounds.items c.self.invariant.0 c.self.invariant.1 in
    let size = c.self.inside.bounds.ok.0 in
    let inner : c.len.result - 1 ≡ length (sizes_of c.self.inside.program.items) = omega (arith, many, size, c.len.ensures) in
    inner ∙ ap (λ p. length (sizes_of p.items)) c.self.view_is
