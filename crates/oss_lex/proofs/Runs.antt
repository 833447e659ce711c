-- The longest front of a list that passes a test, as a word and what stands behind it.
use Rattle.std.proofs.Common.{◌≡◌, ℕ, Bool, true, List, [], ◌∷◌, ◌++◌, length, take, drop, refl, ap, inl, inr, one-add}
use Rattle.std.proofs.lemmas.Bool.{and_parts, and_from, cases_Bool}
use Rattle.std.specs.List.{prefix_len, list_all}
use Rattle.oss_grammar.specs.Words.{NotFirst}

pub prefix_len_word : (test : ℕ → Bool) (word rest : List ℕ) → list_all test word ≡ true → NotFirst test rest → prefix_len test (word ++ rest) ≡ length word
prefix_len_word test [] [] all stops = refl
prefix_len_word test [] (b ∷ rest) all stops = rw stops refl
prefix_len_word test (b ∷ word) rest all stops =
    let parts : (test b ≡ true) × (list_all test word ≡ true) = and_parts (test b) (list_all test word) all in
    let more : prefix_len test (word ++ rest) ≡ length word = prefix_len_word test word rest parts.1 stops in
    rw (parts.0, more, one-add) refl

pub front_passes : (test : ℕ → Bool) (text : List ℕ) → list_all test (take (prefix_len test text) text) ≡ true
front_passes test [] = refl
front_passes test (b ∷ text) =
    elim (cases_Bool (test b)) [
      | inl passes ↦ rw (passes, one-add) (and_from (test b) _ passes (front_passes test text))
      | inr fails ↦ rw fails refl
    ]

pub rest_stops : (test : ℕ → Bool) (text : List ℕ) → NotFirst test (drop (prefix_len test text) text)
rest_stops test [] = tt
rest_stops test (b ∷ text) =
    elim (cases_Bool (test b)) [
      | inl passes ↦ rw (passes, one-add) (rest_stops test text)
      | inr fails ↦ rw fails fails
    ]

pub take_word : (word rest : List ℕ) → take (length word) (word ++ rest) ≡ word
take_word [] rest = refl
take_word (b ∷ word) rest = ap (λ w. b ∷ w) (take_word word rest)

pub drop_word : (word rest : List ℕ) → drop (length word) (word ++ rest) ≡ rest
drop_word [] rest = refl
drop_word (b ∷ word) rest = drop_word word rest

-- a test that lets through what another does
pub list_all_more : (p q : ℕ → Bool) → ((b : ℕ) → p b ≡ true → q b ≡ true) → (word : List ℕ) → list_all p word ≡ true → list_all q word ≡ true
list_all_more p q weaker [] all = refl
list_all_more p q weaker (b ∷ word) all =
    let parts : (p b ≡ true) × (list_all p word ≡ true) = and_parts (p b) (list_all p word) all in
    and_from (q b) (list_all q word) (weaker b parts.0) (list_all_more p q weaker word parts.1)

pub list_all_append : (test : ℕ → Bool) (front back : List ℕ) → list_all test front ≡ true → list_all test back ≡ true → list_all test (front ++ back) ≡ true
list_all_append test [] back all more = more
list_all_append test (b ∷ front) back all more =
    let parts : (test b ≡ true) × (list_all test front ≡ true) = and_parts (test b) (list_all test front) all in
    and_from (test b) (list_all test (front ++ back)) parts.0 (list_all_append test front back parts.1 more)
