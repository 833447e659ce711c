-- The slots that accesses in rising order give.
use Rattle.std.proofs.Common.{◌≡◌, ℕ, ◌<◌, ◌⊎◌, inl, inr, refl, sym, ap, ◌∙◌, List, [], ◌∷◌, arith, Bool, true, false, Option, Some, if◌then◌else◌}
use Rattle.std.specs.Prelude.{◌||◌}
use Rattle.std.proofs.lemmas.Bool.Decides.{nat_tests}
use Rattle.oss_syntax.specs.declared.access.Access.{Access}
use Rattle.oss_syntax.specs.declared.access.Mode.{Mode}
use Rattle.oss_syntax.specs.declared.access.Mode.TheVariants.{Fold}
use Rattle.oss_syntax.specs.declared.access.Op.{Op}
use Rattle.oss_model.specs.Rights.{NoRight, Holds, in_access, joined_right, right_from}
use Rattle.oss_model.specs.Context.{in_clauses}
use Rattle.oss_judge.specs.Joined.{IsRising}
use Rattle.oss_slots.specs.Slots.{Slot, fresh}
use Rattle.oss_body.specs.Slots.{added, slot_from, strong_op}

before_access : (a : Access) (c : ℕ) → c < a.range.lo → in_access a c ≡ false
before_access a c l = grind (arith, nat_tests)

in_high : (a : Access) (c : ℕ) → in_access a c ≡ true → c < a.range.hi
in_high a c h = grind (arith, nat_tests)

both_cases : (b : Bool) → (b ≡ true) ⊎ (b ≡ false)
both_cases true = inl refl
both_cases false = inr refl

neither_of : (a b : Bool) → (a || b) ≡ false → (a ≡ false) × (b ≡ false)
neither_of false b h = (refl, h)
neither_of true b h = cc

or_none : (a b : Bool) → a ≡ false → b ≡ false → (a || b) ≡ false
or_none a b g h = ap (λ x. x || b) g ∙ h

-- no access behind one names its cells
none_behind : (a : Access) (xs : List Access) → IsRising (a ∷ xs) → (c : ℕ) → c < a.range.hi → in_clauses xs c ≡ false
none_behind a [] h c l = refl
none_behind a (b ∷ rest) h c l =
    let behind = h.0.behind in let some = b.range.ordered in
    or_none (in_access b c) (in_clauses rest c) (before_access b c (omega arith)) (none_behind b rest h.1 c (omega arith))

rising_rest : (a : Access) (xs : List Access) → IsRising (a ∷ xs) → IsRising xs
rising_rest a [] h = tt
rising_rest a (b ∷ rest) h = h.1

right_none : (xs : List Access) (c : ℕ) → in_clauses xs c ≡ false → right_from false xs c ≡ NoRight
right_none [] c h = refl
right_none (a ∷ rest) c h =
    let parts = neither_of (in_access a c) (in_clauses rest c) h in
    ap (λ b. if b then joined_right a.mode (false || a.strong) (right_from false rest c) else right_from false rest c) parts.0 ∙ right_none rest c parts.1

slot_none : (xs : List Access) (c : ℕ) (s : Option Slot) → in_clauses xs c ≡ false → slot_from xs c s ≡ s
slot_none [] c s h = refl
slot_none (a ∷ rest) c s h =
    let parts = neither_of (in_access a c) (in_clauses rest c) h in
    ap (λ b. slot_from rest c (if b then added (strong_op a.mode a.strong) s else s)) parts.0 ∙ slot_none rest c s parts.1

holds_mode : (m n : Mode) (s t : Bool) → Holds m s ≡ Holds n t → (m ≡ n) × (s ≡ t)
holds_mode m n s t h = (cc (h), cc (h))

-- a cell of a strong reduction gets its slot
pub rising_slot : (xs : List Access) (c : ℕ) (op : Op) (s : Option Slot) → IsRising xs → right_from false xs c ≡ Holds (Fold op) true → slot_from xs c s ≡ Some (fresh op)
rising_slot [] c op s h e = cc
rising_slot (a ∷ rest) c op s h e = go (both_cases (in_access a c)) (rising_slot rest c op s (rising_rest a rest h))
  where
    go : (in_access a c ≡ true) ⊎ (in_access a c ≡ false) → (right_from false rest c ≡ Holds (Fold op) true → slot_from rest c s ≡ Some (fresh op)) → slot_from (a ∷ rest) c s ≡ Some (fresh op)
    go (inl here) more =
        let none = none_behind a rest h c (in_high a c here) in
        let right : Holds a.mode a.strong ≡ Holds (Fold op) true =
        sym (ap (λ b. if b then joined_right a.mode (false || a.strong) (right_from false rest c) else right_from false rest c) here ∙ ap (joined_right a.mode (false || a.strong)) (right_none rest c none)) ∙ e in
        let parts = holds_mode a.mode (Fold op) a.strong true right in
        ap (λ b. slot_from rest c (if b then added (strong_op a.mode a.strong) s else s)) here
        ∙ slot_none rest c (added (strong_op a.mode a.strong) s) none
        ∙ (ap (λ m. added (strong_op m a.strong) s) parts.0 ∙ ap (λ t. added (strong_op (Fold op) t) s) parts.1)
    go (inr there) more =
        ap (λ b. slot_from rest c (if b then added (strong_op a.mode a.strong) s else s)) there
        ∙ more (sym (ap (λ b. if b then joined_right a.mode (false || a.strong) (right_from false rest c) else right_from false rest c) there) ∙ e)
