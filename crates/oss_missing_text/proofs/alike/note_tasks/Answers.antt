use Rattle.std.proofs.Common.{◌≡◌, ◌∙◌, ◌+◌, ◌<◌, [], ◌∷◌, ◌++◌, ap, arith, length, subst, sym, take}
use Rattle.std.proofs.lemmas.List.{length-take, take_more}
use Rattle.oss_missing_text.specs.Counting.{has_line}
use Rattle.oss_missing_text.specs.Tables.{IsKept, found, kept_at, noted_if}
use Rattle.oss_missing_text.proofs.AlikeLemmas.{task_step}
use Rattle.oss_missing_text.proofs.alike.note_tasks.Goals as goal

pub loop-place-preserved : goal.loop-place-preserved
loop-place-preserved c = λ line.
    let told = c.args.told.now in
    let i = c.loop-place.place in
    let lines = c.index-told-place.result in
    let within : i < length told = c.loop-place-test.true in
    let more : take (i + 1) told ≡ take i told ++ lines ∷ [] = take_more told i lines within ∙ ap (λ x. take i told ++ x ∷ []) (sym c.index-told-place.is) in
    let long : length (take i told) ≡ i = omega (arith, length-take i told, within) in
    let small : i < 18446744073709551615 = omega arith in
    let new : kept_at c.note_all.new.alike line ≡ noted_if i (kept_at c.loop-place.alike line) (has_line line lines) =
    c.in_ok-note_all.ensures line ∙ ap (λ xs. noted_if i (kept_at c.loop-place.alike line) (has_line line xs)) c.as_slice.ensures in
    subst (λ xs. IsKept (kept_at c.note_all.new.alike line) (found xs line) (i + 1)) (sym more)
    (task_step (take i told) lines line (kept_at c.loop-place.alike line) (kept_at c.note_all.new.alike line) i long small new (c.loop-place.invariant line))
