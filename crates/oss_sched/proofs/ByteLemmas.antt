-- Texts without small bytes: the words of a line have no blank in them, and the lines of a trace no newline.
use Rattle.std.proofs.Common.{◌≡◌, ◌≤◌, ◌/◌, ◌%◌, ℕ, zero, suc, Bool, true, false, refl, inl, inr, List, [], ◌∷◌, ◌++◌, arith}
use Rattle.std.specs.Prelude.{◌==◌, nat_le}
use Rattle.std.specs.Fmt.{decimal, digits, digit_glyph, digits_onto}
use Rattle.std.specs.List.{flat_map, list_all}
use Rattle.std.proofs.lemmas.Bool.{and_parts, and_from, cases_Bool, le-leb, leb-true}
use Rattle.std.proofs.lemmas.Bool.Decides.{nat_tests}
use Rattle.oss_model.specs.Points.{text_of, with_dot}

-- every byte is this one or above it
abbrev pub all_from : ℕ → List ℕ → Bool
all_from k text = list_all (nat_le k) text

pub all_append : (k : ℕ) (front back : List ℕ) → all_from k front ≡ true → all_from k back ≡ true → all_from k (front ++ back) ≡ true
all_append k [] back all more = more
all_append k (b ∷ front) back all more =
    let parts : (nat_le k b ≡ true) × (all_from k front ≡ true) = and_parts (nat_le k b) (all_from k front) all in
    and_from (nat_le k b) (all_from k (front ++ back)) parts.0 (all_append k front back parts.1 more)

pub all_lower : (j k : ℕ) → j ≤ k → (text : List ℕ) → all_from k text ≡ true → all_from j text ≡ true
all_lower j k low [] all = refl
all_lower j k low (b ∷ text) all =
    let parts : (nat_le k b ≡ true) × (all_from k text ≡ true) = and_parts (nat_le k b) (all_from k text) all in
    let above : k ≤ b = leb-true k b parts.0 in
    and_from (nat_le j b) (all_from j text) (le-leb j b (omega arith)) (all_lower j k low text parts.1)

glyph_from : (d : ℕ) → nat_le 33 (digit_glyph false d) ≡ true
glyph_from d = grind (arith, nat_tests)

digits_from : (k n : ℕ) (digits_behind : List ℕ) → all_from 33 digits_behind ≡ true → all_from 33 (digits_onto k 10 false n digits_behind) ≡ true
digits_from zero n digits_behind all = all
digits_from (suc k) n digits_behind all =
    let glyph : ℕ = digit_glyph false (n % 10) in
    let more : all_from 33 (glyph ∷ digits_behind) ≡ true = and_from (nat_le 33 glyph) (all_from 33 digits_behind) (glyph_from (n % 10)) all in
    elim (cases_Bool (n / 10 == 0)) [
      | inl last ↦ rw last more
      | inr onward ↦ rw onward (digits_from k (n / 10) (glyph ∷ digits_behind) more)
    ]

pub decimal_from : (n : ℕ) → all_from 33 (decimal n) ≡ true
unfolding digits
decimal_from n = digits_from 64 n [] refl

dots_from : (more : List ℕ) → all_from 33 (flat_map with_dot more) ≡ true
dots_from [] = refl
dots_from (n ∷ more) = all_append 33 (46 ∷ decimal n) (flat_map with_dot more) (decimal_from n) (dots_from more)

-- the text of a point has no blank
pub point_from : (p : List ℕ) → all_from 33 (text_of p) ≡ true
point_from [] = refl
point_from (n ∷ more) = all_append 33 (decimal n) (flat_map with_dot more) (decimal_from n) (dots_from more)
