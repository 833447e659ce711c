use Rattle.std.proofs.Common.{◌≡◌, ◌+◌, ◌-◌, refl, ap, ◌∙◌, ◌++◌, List, Result, Ok, Err, OnOk, arith}
use Rattle.std.specs.List.{range_with_len}
use Rattle.std.specs.declared.alloc.AllocError.{AllocError}
use Rattle.oss_syntax.specs.declared.access.Range.{Range}
use Rattle.oss_sections.specs.RangeCells.{cells_of}
use Rattle.oss_sections.proofs.RangeLemmas.{cells_of-push, joined_push}
use Rattle.oss_sections.proofs.adding.add_range.Goals as goal

on_ok : (r : Result (Unit {0}) AllocError) (P Q : Type 0) → (P → Q) → OnOk r P → OnOk r Q
on_ok (Ok x) P Q f h = f h
on_ok (Err e) P Q f h = tt

pub returns-clause-cells : goal.returns-clause-cells
returns-clause-cells c =
    let some = c.args.range.ordered in
    let ends : c.args.range.hi ≡ c.args.range.lo + (c.args.range.hi - c.args.range.lo) = omega arith in
    let same : c.from_vec.result ≡ c.args.ranges.now = c.from_vec.ensures ∙ c.if-extended.ensures.same ∙ c.into_vec-items.ensures ∙ c.replace.ensures.value in
    on_ok c.push.result _ _
    (λ put. ap cells_of put ∙ cells_of-push c.from_vec.result c.args.range c.args.range.lo (c.args.range.hi - c.args.range.lo) refl ends ∙ ap (λ (xs : List Range). cells_of xs ++ range_with_len c.args.range.lo (c.args.range.hi - c.args.range.lo)) same)
    c.push.ensures.ok

pub returns-clause-joined : goal.returns-clause-joined
returns-clause-joined c =
    let same : c.from_vec.result ≡ c.args.ranges.now = c.from_vec.ensures ∙ c.if-extended.ensures.same ∙ c.into_vec-items.ensures ∙ c.replace.ensures.value in
    let before : c.from_vec.result ≡ c.into_vec-items.result.items = c.from_vec.ensures ∙ c.if-extended.ensures.same in
    on_ok c.push.result _ _
    (λ put joined. rw put (joined_push c.from_vec.result c.args.range c.args.range.lo refl (rw before c.if-extended.ensures.apart) (rw same joined)))
    c.push.ensures.ok
