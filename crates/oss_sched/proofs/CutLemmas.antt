-- Where a text is cut at its first blank.
use Rattle.std.proofs.Common.{◌≡◌, ◌≤◌, ℕ, true, false, refl, sym, ap, ◌∙◌, inl, inr, List, [], ◌∷◌, ◌++◌, length, take, drop, Some, arith, one-add}
use Rattle.std.specs.Prelude.{◌==◌, nat_le}
use Rattle.std.specs.List.{prefix_len}
use Rattle.std.proofs.lemmas.Bool.{and_parts, cases_Bool, leb-true, ne_eqb, eqb-true}
use Rattle.std.proofs.lemmas.List.{take-append-drop, take_at, drop_at}
use Rattle.oss_sched.specs.Reading.{cut_at, cut_parts, goes_on}
use Rattle.oss_sched.proofs.ByteLemmas.{all_from}

-- a word without blanks is cut off whole

word_len : (word rest : List ℕ) → all_from 33 word ≡ true → prefix_len (goes_on 32) (word ++ 32 ∷ rest) ≡ length word
word_len [] rest all = refl
word_len (b ∷ word) rest all =
    let parts : (nat_le 33 b ≡ true) × (all_from 33 word ≡ true) = and_parts (nat_le 33 b) (all_from 33 word) all in
    let above : 33 ≤ b = leb-true 33 b parts.0 in
    let isnt : (b == 32) ≡ false = ne_eqb b 32 (λ e. absurd (omega arith)) in
    let more : prefix_len (goes_on 32) (word ++ 32 ∷ rest) ≡ length word = word_len word rest parts.1 in
    rw (isnt, more, one-add) refl

pub cut_again : (word rest : List ℕ) → all_from 33 word ≡ true → cut_at (word ++ 32 ∷ rest) ≡ Some (word, rest)
unfolding cut_at
cut_again word rest all =
    rw (word_len word rest all, take_at word (32 ∷ rest) (length word) refl, drop_at word (32 ∷ rest) (length word) refl) refl

-- what was cut makes up the text

abbrev BeginsBlank : List ℕ → Type 0
BeginsBlank [] = Unit {0}
BeginsBlank (b ∷ rest) = b ≡ 32

rest_begins : (text : List ℕ) → BeginsBlank (drop (prefix_len (goes_on 32) text) text)
rest_begins [] = tt
rest_begins (b ∷ text) =
    elim (cases_Bool (b == 32)) [
      | inl is ↦ rw is (eqb-true b 32 is)
      | inr isnt ↦ rw (isnt, one-add) (rest_begins text)
    ]

pub some_is : {A : Type 0} (x y : A) → Some x ≡ Some y → x ≡ y
some_is x y e = cc

whole : (word left : List ℕ) (parts : List ℕ × List ℕ) → BeginsBlank left → cut_parts word left ≡ Some parts → word ++ left ≡ parts.0 ++ 32 ∷ parts.1
whole word [] parts begins e = cc
whole word (b ∷ rest) parts begins e =
    let pair : List ℕ × List ℕ = (word, rest) in
    let is : pair ≡ parts = some_is pair parts e in
    ap (λ c. word ++ c ∷ rest) begins ∙ ap (λ (p : List ℕ × List ℕ). p.0 ++ 32 ∷ p.1) is

pub cut_taken : (text : List ℕ) (parts : List ℕ × List ℕ) → cut_at text ≡ Some parts → text ≡ parts.0 ++ 32 ∷ parts.1
unfolding cut_at
cut_taken text parts e =
    let n : ℕ = prefix_len (goes_on 32) text in
    sym (take-append-drop n text) ∙ whole (take n text) (drop n text) parts (rest_begins text) e
