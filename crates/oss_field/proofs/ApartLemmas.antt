-- A table is taken apart: its words and slots are moved one by one, and meet the rule with no seat at work.
use Rattle.std.proofs.Common.{◌≡◌, ◌≢◌, ◌⊎◌, inl, inr, sym, subst, refl, ◌∙◌, ap, ℕ, zero, suc, ◌<◌, ◌≤◌, ◌+◌, arith, Bool, true, false, List, [], ◌∷◌, ◌++◌, get_or, set, take}
use mathlib.Core.Option as maybe
use lib.ListN.{get_elem?}
use Rattle.atomic_table.specs.Table.{State, Final, Seen}
use Rattle.oss_code.specs.declared.code.CodeParts.{CodeParts}
use Rattle.oss_field.specs.declared.view.SeatView.{SeatView}
use Rattle.oss_field.specs.Spent.{HasNoWork, IsApart, Rules}
use Rattle.oss_field.specs.Table.{Slot, Stands}
use Rattle.oss_field.proofs.SpentLemmas.{all_idle}

-- one more of a list
pub take_next : {A : Type 0} (xs : List A) (n : ℕ) (a : A) → get_elem? xs n ≡ maybe.some a → take (n + 1) xs ≡ take n xs ++ a ∷ []
take_next [] n a at = absurd (maybe.some-ne-none a (sym at))
take_next (x ∷ xs) zero a at = ap (λ (z : _). z ∷ []) (maybe.some-injective x a at)
take_next (x ∷ xs) (suc n) a at =
    let e : suc n + 1 ≡ suc (n + 1) = omega arith in
    ap (λ (k : ℕ). take k (x ∷ xs)) e ∙ ap (λ (z : List _). x ∷ z) (take_next xs n a at)

-- a place is empty, and all others are as they were
unset_here : (fs : List Bool) (i : ℕ) → get_or (set fs i false) i false ≡ false
unset_here [] i = refl
unset_here (f ∷ fs) zero = refl
unset_here (f ∷ fs) (suc i) = unset_here fs i

unset_else : (fs : List Bool) (i k : ℕ) → k ≢ i → get_or (set fs i false) k false ≡ get_or fs k false
unset_else [] i k ne = refl
unset_else (f ∷ fs) zero zero ne = absurd (ne refl)
unset_else (f ∷ fs) zero (suc k) ne = refl
unset_else (f ∷ fs) (suc i) zero ne = refl
unset_else (f ∷ fs) (suc i) (suc k) ne = unset_else fs i k (λ e. ne (ap suc e))

same_or : (k i : ℕ) → (k ≡ i) ⊎ (k ≢ i)
same_or k i = grind arith

pub full_after : (fs gs : List Bool) (i n : ℕ) → gs ≡ set fs i false → ((k : ℕ) → i ≤ k → k < n → get_or fs k false ≡ true) → (k : ℕ) → i + 1 ≤ k → k < n → get_or gs k false ≡ true
full_after fs gs i n is full k low high = ap (λ (z : List Bool). get_or z k false) is ∙ (unset_else fs i k (λ e. absurd (omega (arith, e, low))) ∙ full k (omega (arith, low)) high)

pub taken_after : (fs gs : List Bool) (i : ℕ) → gs ≡ set fs i false → ((k : ℕ) → k < i → get_or fs k false ≡ false) → (k : ℕ) → k < i + 1 → get_or gs k false ≡ false
taken_after fs gs i is taken k less = ap (λ (z : List Bool). get_or z k false) is ∙ elim (same_or k i) [
  | inl e ↦ ap (λ (j : ℕ). get_or (set fs i false) j false) e ∙ unset_here fs i
  | inr ne ↦ unset_else fs i k ne ∙ taken k (grind (arith, less, ne))
]

-- what a table leaves
pub apart : (code : CodeParts) (fuel n : ℕ) (id : ℕ) (v : SeatView) (ws : List ℕ) (slots : List Slot)
    → Final (Seen (λ (z : State Slot SeatView). Rules code fuel n z.words z.homes z.views) id v) ws slots
    → 0 < n → n ≤ 16777216 → v.known.words.parts ≡ 65537 → HasNoWork v.known → IsApart code fuel n ws slots
apart code fuel n id v ws slots final some few all none =
    let z : State Slot SeatView = final.0 in
    let rules = final.1.0 in
    record {
      some = some;
      few = few;
      homes = z.homes;
      views = z.views;
      stands = subst (λ (y : List ℕ). Stands code fuel n y z.homes z.views) final.2 rules.0;
      without = all_idle code fuel n z.words z.homes z.views id v rules final.1.1 all none;
      size = sym final.3 ∙ rules.0.slots;
      home = λ e x h. final.4 e x h;
    }
