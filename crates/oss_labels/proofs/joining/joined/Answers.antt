use Rattle.std.proofs.Common.{◌≡◌, ◌∙◌, ℕ, zero, suc, ◌≤◌, List, [], ◌∷◌, ◌++◌, Option, ap, arith, drop, length, refl, sym}
use Rattle.std.proofs.lemmas.List.{append-nil}
use Rattle.oss_labels.specs.Creations.{joined}
use Rattle.oss_labels.proofs.joining.joined.Goals as goal

nothing_left : (ls : List (Option (List ℕ))) (k : ℕ) → length ls ≤ k → drop k ls ≡ []
nothing_left [] zero le = refl
nothing_left [] (suc k) le = refl
nothing_left (l ∷ ls) zero le = absurd (omega (arith, le))
nothing_left (l ∷ ls) (suc k) le = nothing_left ls k (omega (arith, le))

joined_end : (es : List ℕ) → joined es [] ≡ []
joined_end [] = refl
joined_end (e ∷ es) = refl

pub returns : goal.returns
returns c =
    let xs = c.loop-label.list.items in
    let left = c.loop-label.left.now in
    let labels = c.args.labels.now in
    let k = c.loop-label.label-index in
    sym (append-nil xs) ∙ ap (λ l. xs ++ l) (sym (ap (joined left) (nothing_left labels k c.loop-label-test.false) ∙ joined_end left)) ∙ c.loop-label.invariant
