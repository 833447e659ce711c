-- Cells of a run, and those beside it.
use Rattle.std.proofs.Common.{◌≡◌, ◌≤◌, ◌<◌, ◌⊎◌, inl, inr, refl, sym, ◌∙◌, ℕ, Bool, true, false, arith}
use Rattle.std.proofs.lemmas.Bool.Decides.{nat_tests}
use Rattle.oss_ranges.specs.Cells.{is_within}

pub bools : (b : Bool) → (b ≡ true) ⊎ (b ≡ false)
bools true = inl refl
bools false = inr refl

pub within_of : (lo hi c : ℕ) → is_within lo hi c ≡ true → (lo ≤ c) × (c < hi)
within_of lo hi c h = (grind (arith, nat_tests), grind (arith, nat_tests))

pub is_behind : (hi c : ℕ) → is_within 0 hi c ≡ false → hi ≤ c
is_behind hi c h = grind (arith, nat_tests)

pub is_none : (lo c : ℕ) → is_within lo lo c ≡ false
is_none lo c = grind (arith, nat_tests)

-- A cell that is not in the last run of some is in one of those before it, or in none.
pub same_beside : (lo from to c : ℕ) → lo ≤ from → from ≤ to → is_within from to c ≡ false → is_within lo to c ≡ is_within lo from c
same_beside lo from to c l m h = go (bools (is_within lo from c))
  where
    front : is_within lo from c ≡ true → is_within lo to c ≡ true
    front e = grind (arith, nat_tests)

    past : is_within lo from c ≡ false → is_within lo to c ≡ false
    past e = grind (arith, nat_tests)

    go : (is_within lo from c ≡ true) ⊎ (is_within lo from c ≡ false) → is_within lo to c ≡ is_within lo from c
    go (inl e) = front e ∙ sym e
    go (inr e) = past e ∙ sym e

-- A cell of the last run is in none before it.
pub last_alone : (lo from to c : ℕ) → is_within from to c ≡ true → is_within lo from c ≡ false
last_alone lo from to c h = grind (arith, nat_tests)

pub last_too : (lo from to c : ℕ) → lo ≤ from → is_within from to c ≡ true → is_within lo to c ≡ true
last_too lo from to c l h = grind (arith, nat_tests)
