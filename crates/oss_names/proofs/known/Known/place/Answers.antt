use Rattle.std.proofs.Common.{◌+◌, ◌<◌, ◌∙◌, ap, arith, length, subst, sym}
use Rattle.oss_grammar.specs.Layout.{sizes_of, start_of}
use Rattle.oss_names.proofs.LayoutLemmas.{bound-fits, bound-is, bounds-many, bounds-rise}
use Rattle.oss_names.proofs.known.Known.place.Goals as goal

pub index-requires : goal.index-requires
index-requires c =
    let many = bounds-many c.self.inside.program c.self.inside.bounds.items c.self.invariant.0 c.self.invariant.1 in
    let within : c.args.global < length (sizes_of c.self.inside.program.items) = subst (λ q. c.args.global < length (sizes_of q.items)) (sym c.self.view_is) c.requires in
    let size = c.self.inside.bounds.ok.0 in
    omega (arith, many, within, size)

pub index-requires-2 : goal.index-requires-2
index-requires-2 c =
    let many = bounds-many c.self.inside.program c.self.inside.bounds.items c.self.invariant.0 c.self.invariant.1 in
    let within : c.args.global < length (sizes_of c.self.inside.program.items) = subst (λ q. c.args.global < length (sizes_of q.items)) (sym c.self.view_is) c.requires in
    let size = c.self.inside.bounds.ok.0 in
    omega (arith, many, within, size)

pub invariant_of-result : goal.invariant_of-result
invariant_of-result c =
    let q = c.self.inside.program in
    let bounds = c.self.inside.bounds.items in
    let k = c.args.global in
    let within : k < length (sizes_of q.items) = subst (λ p. k < length (sizes_of p.items)) (sym c.self.view_is) c.requires in
    let lo = bound-is q bounds c.self.invariant.0 c.self.invariant.1 k c.index.result.now (omega arith) c.index.ensures in
    let hi = bound-is q bounds c.self.invariant.0 c.self.invariant.1 (k + 1) c.index-2.result.now (omega arith) c.index-2.ensures in
    record {
      ordered = bounds-rise q bounds c.self.invariant.0 c.self.invariant.1 k c.index.result.now c.index-2.result.now within lo hi;
      within = bound-fits q bounds c.self.invariant.0 c.self.invariant.1 (k + 1) c.index-2.result.now hi;
    }

pub returns-clause-begins : goal.returns-clause-begins
returns-clause-begins c =
    let q = c.self.inside.program in
    let k = c.args.global in
    let within : k < length (sizes_of q.items) = subst (λ p. k < length (sizes_of p.items)) (sym c.self.view_is) c.requires in
    bound-is q c.self.inside.bounds.items c.self.invariant.0 c.self.invariant.1 k c.index.result.now (omega arith) c.index.ensures ∙ ap (λ p. start_of p.items k) c.self.view_is

pub returns-clause-ends : goal.returns-clause-ends
returns-clause-ends c =
    let q = c.self.inside.program in
    let k = c.args.global in
    let within : k < length (sizes_of q.items) = subst (λ p. k < length (sizes_of p.items)) (sym c.self.view_is) c.requires in
    bound-is q c.self.inside.bounds.items c.self.invariant.0 c.self.invariant.1 (k + 1) c.index-2.result.now (omega arith) c.index-2.ensures ∙ ap (λ p. start_of p.items (k + 1)) c.self.view_is
