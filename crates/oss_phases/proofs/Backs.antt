-- Seats that have come back: each rests, and together they have as many parts as before.
use Rattle.std.proofs.Common.{◌≡◌, refl, ℕ, arith, List, [], ◌∷◌, All}
use Rattle.std.specs.List.{sum_by}
use Rattle.std.proofs.lemmas.List.Sums.{sum_by-cons}
use Rattle.std.proofs.lemmas.List.Elements.{All-cons}
use Rattle.oss_crew.specs.Seats.{AreBack}

pub backs : {S : Type 0} (rests : S → Type 0) (mark : S → ℕ) (seats back : List S) → AreBack rests mark seats back → All rests back × (sum_by mark back ≡ sum_by mark seats)
backs rests mark [] [] h = ((λ k d l. absurd (omega (arith, l))), refl)
backs rests mark [] (came ∷ more) h = absurd h
backs rests mark (went ∷ others) [] h = absurd h
backs rests mark (went ∷ others) (came ∷ more) h =
    let rest = backs rests mark others more h.2 in
    let before = sum_by-cons mark went others in
    let after = sum_by-cons mark came more in
    let one = h.1 in
    let sum = rest.1 in
    (All-cons rests came more h.0 rest.0, omega (arith, before, after, one, sum))
