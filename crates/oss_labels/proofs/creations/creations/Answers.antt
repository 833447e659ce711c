use Rattle.std.proofs.Common.{◌≡◌, ◌∙◌, ◌+◌, ◌<◌, ◌++◌, ◌∷◌, Some, append_assoc, ap, arith, drop, length, sym}
use Rattle.std.proofs.lemmas.List.{drop_more}
use Rattle.std.proofs.lemmas.Option.{get_or_from_slice_get}
use Rattle.std.specs.Option.{option_copied}
use Rattle.std.specs.Prelude.{slice_get}
use Rattle.oss_labels.specs.Creations.{created_at, creations}
use Rattle.oss_labels.proofs.creations.creations.Goals as goal

pub loop-at-preserved : goal.loop-at-preserved
loop-at-preserved c =
    let xs = c.args.code.now.instrs in
    let at = c.loop-at.at in
    let x = c.in-Some.instr.now in
    let old = c.loop-at.entries.items in
    let rest = drop (at + 1) xs in
    let less : at < length xs = omega (arith, c.loop-at-test.true, c.len-count.ensures.value) in
    let got : slice_get xs at ≡ Some x = sym c.get.ensures ∙ ap option_copied c.in-Some.is in
    let whole : x ∷ rest ≡ drop at xs = ap (λ y. y ∷ rest) (sym (get_or_from_slice_get xs at x x got)) ∙ sym (drop_more xs at x less) in
    ap (λ l. l ++ creations (at + 1) rest) c.in_ok-add-in-Some.ensures
    ∙ append_assoc old (created_at at x) (creations (at + 1) rest)
    ∙ ap (λ l. old ++ creations at l) whole
    ∙ c.loop-at.invariant
