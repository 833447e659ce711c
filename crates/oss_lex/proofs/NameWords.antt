-- The names and keywords at the front of a text.
use Rattle.std.proofs.Common.{◌≡◌, ℕ, ◌≤◌, ◌<◌, true, false, List, [], ◌∷◌, ◌++◌, length, take, drop, refl, sym, inl, inr, one-add}
use Rattle.std.proofs.lemmas.List.{take-append-drop}
use Rattle.std.proofs.lemmas.Bool.{cases_Bool, or_left, lt-ltb, le-ltb, ltb-true, ltb-false, and_from}
use Rattle.std.specs.Prelude.{Ok, Err, nat_lt}
use Rattle.std.specs.List.{prefix_len, list_all}
use Rattle.oss_syntax.specs.declared.token.TokenKind.TheVariants.{Name, Keyword}
use Rattle.oss_syntax.specs.declared.refusal.RefusedKind.TheVariants.{TooLarge}
use Rattle.oss_grammar.specs.Words.{NotFirst, is_letter, is_digit, is_name_byte, IsIdentifier, is_keyword}
use Rattle.oss_lex.specs.Reading.{name_at, name_answer}
use Rattle.oss_lex.proofs.Answers.{Fits}
use Rattle.oss_lex.proofs.Runs.{prefix_len_word, front_passes, rest_stops, take_word, drop_word}

letter_goes_on : (b : ℕ) → is_letter b ≡ true → is_name_byte b ≡ true
unfolding is_name_byte
letter_goes_on b letter = or_left (is_letter b) (is_digit b) letter

pub identifier_passes : (word : List ℕ) → IsIdentifier word → list_all is_name_byte word ≡ true
identifier_passes [] is = absurd is
identifier_passes (b ∷ more) is = and_from (is_name_byte b) (list_all is_name_byte more) (letter_goes_on b is.0) is.1

-- the word at the front of a text that begins with a letter
front_is_identifier : (b : ℕ) (more : List ℕ) → is_letter b ≡ true → IsIdentifier (take (prefix_len is_name_byte (b ∷ more)) (b ∷ more))
front_is_identifier b more letter =
    rw (letter_goes_on b letter, one-add) (letter, front_passes is_name_byte more)

answer_fits : (text word rest : List ℕ) → text ≡ word ++ rest → IsIdentifier word → NotFirst is_name_byte rest → Fits text (name_answer word rest)
unfolding name_answer
answer_fits text word rest split is stops =
    elim (cases_Bool (is_keyword word)) [
      | inl keyword ↦ rw keyword (record { word = word; split = split; is_word = (refl, is, keyword); ends = stops })
      | inr name ↦ rw name (elim (cases_Bool (nat_lt 63 (length word))) [
        | inl long ↦ rw long (record { word = word; rest = rest; split = split; is_word = is; no_keyword = name; long = ltb-true 63 (length word) long; ends = stops })
        | inr short ↦ rw short (record { word = word; split = split; is_word = (refl, is, name, ltb-false 63 (length word) short); ends = stops })
      ])
    ]

pub name_fits : (b : ℕ) (more : List ℕ) → is_letter b ≡ true → Fits (b ∷ more) (name_at (b ∷ more))
unfolding name_at
name_fits b more letter =
    let n : ℕ = prefix_len is_name_byte (b ∷ more) in
    answer_fits (b ∷ more) (take n (b ∷ more)) (drop n (b ∷ more)) (sym (take-append-drop n (b ∷ more))) (front_is_identifier b more letter) (rest_stops is_name_byte (b ∷ more))

-- the answer at a text whose first word is told
pub name_at_word : (word rest : List ℕ) → IsIdentifier word → NotFirst is_name_byte rest → name_at (word ++ rest) ≡ name_answer word rest
unfolding name_at
name_at_word word rest is stops =
    rw (prefix_len_word is_name_byte word rest (identifier_passes word is) stops, take_word word rest, drop_word word rest) refl

pub name_again : (word rest : List ℕ) → IsIdentifier word → is_keyword word ≡ false → length word ≤ 63 → NotFirst is_name_byte rest → name_at (word ++ rest) ≡ Ok (Name word, rest)
unfolding name_answer
name_again word rest is name short stops =
    rw (name_at_word word rest is stops, name, le-ltb 63 (length word) short) refl

pub keyword_again : (word rest : List ℕ) → IsIdentifier word → is_keyword word ≡ true → NotFirst is_name_byte rest → name_at (word ++ rest) ≡ Ok (Keyword word, rest)
unfolding name_answer
keyword_again word rest is keyword stops = rw (name_at_word word rest is stops, keyword) refl

pub long_again : (word rest : List ℕ) → IsIdentifier word → is_keyword word ≡ false → 63 < length word → NotFirst is_name_byte rest → name_at (word ++ rest) ≡ Err TooLarge
unfolding name_answer
long_again word rest is name long stops =
    rw (name_at_word word rest is stops, name, lt-ltb 63 (length word) long) refl
