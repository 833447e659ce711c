-- The lines of a text, one by one.
use Rattle.std.proofs.Common.{◌≡◌, ◌≤◌, ◌+◌, ℕ, true, false, refl, inl, inr, List, [], ◌∷◌, ◌++◌, length, take, drop, arith, one-add}
use Rattle.std.specs.Prelude.{◌==◌, nat_le}
use Rattle.std.specs.List.{prefix_len}
use Rattle.std.proofs.lemmas.Bool.{and_parts, cases_Bool, leb-true, ne_eqb, false≢true}
use Rattle.oss_sched.specs.Reading.{goes_on}
use Rattle.oss_sched.specs.Schedules.{lines_of, with_byte}
use Rattle.oss_sched.proofs.ByteLemmas.{all_from}

-- a text that is not empty has a first line

-- one more byte in front of a first line
after_byte : (b n : ℕ) (rest : List ℕ) (lines : List (List ℕ)) → lines ≡ take n rest ∷ lines_of (drop 1 (drop n rest)) → with_byte b lines ≡ take (1 + n) (b ∷ rest) ∷ lines_of (drop 1 (drop (1 + n) (b ∷ rest)))
after_byte b n rest lines is = rw (is, one-add) refl

first_of : (b : ℕ) (more : List ℕ) → lines_of (b ∷ more) ≡ take (prefix_len (goes_on 10) (b ∷ more)) (b ∷ more) ∷ lines_of (drop 1 (drop (prefix_len (goes_on 10) (b ∷ more)) (b ∷ more)))
first_of b [] =
    elim (cases_Bool (b == 10)) [
      | inl is ↦ rw is refl
      | inr isnt ↦ rw isnt refl
    ]
first_of b (c ∷ more) =
    elim (cases_Bool (b == 10)) [
      | inl is ↦ rw is refl
      | inr isnt ↦ rw isnt (after_byte b (prefix_len (goes_on 10) (c ∷ more)) (c ∷ more) (lines_of (c ∷ more)) (first_of c more))
    ]

pub first_line_is : (text : List ℕ) → (length text == 0) ≡ false → lines_of text ≡ take (prefix_len (goes_on 10) text) text ∷ lines_of (drop 1 (drop (prefix_len (goes_on 10) text) text))
first_line_is [] some = absurd (false≢true (cc))
first_line_is (b ∷ more) some = first_of b more

-- a line with its newline, before more

pub line_before : (line rest : List ℕ) → all_from 11 line ≡ true → lines_of (line ++ 10 ∷ rest) ≡ line ∷ lines_of rest
line_before [] rest all = refl
line_before (b ∷ line) rest all =
    let parts : (nat_le 11 b ≡ true) × (all_from 11 line ≡ true) = and_parts (nat_le 11 b) (all_from 11 line) all in
    let above : 11 ≤ b = leb-true 11 b parts.0 in
    let isnt : (b == 10) ≡ false = ne_eqb b 10 (λ e. absurd (omega arith)) in
    let more : lines_of (line ++ 10 ∷ rest) ≡ line ∷ lines_of rest = line_before line rest parts.1 in
    rw (isnt, more) refl
