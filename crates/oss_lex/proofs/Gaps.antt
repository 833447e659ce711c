-- The blanks and comments at the front of a text.
use Rattle.std.proofs.Common.{◌≡◌, ℕ, ◌+◌, Bool, true, false, ◌&&◌, ◌||◌, List, [], ◌∷◌, ◌++◌, length, take, drop, refl, ◌∙◌, suc, ◌⊎◌, inl, inr, arith}
use Rattle.std.proofs.lemmas.Bool.{cases_Bool, eqb-true, and_parts, or_left, or_right}
use Rattle.std.proofs.lemmas.Bool.Decides.{nat_tests}
use Rattle.std.specs.Prelude.{◌==◌, if◌then◌else◌, Err}
use Rattle.oss_syntax.specs.declared.refusal.RefusedKind.TheVariants.{Lexical}
use Rattle.oss_grammar.specs.Words.{is_letter, is_digit, is_one, opens_comment}
use Rattle.oss_grammar.specs.Tokens.{is_blank, IsGap}
use Rattle.oss_grammar.specs.Tokens.IsGap.{blank, spliced, comment, remark}
use Rattle.oss_lex.specs.Reading.{Answer, lengthened, close_len, remark_len, gap_len, gap_len_behind, token_at, symbol_at, symbol_told}
use Rattle.oss_lex.proofs.Comments.{lengthened-none, lengthened-some, close_fits, close_again, closes_some, remark_fits, remark_again}
use Rattle.oss_lex.proofs.SymbolWords.{symbol_len_none}

pub no_gap : gap_len [] ≡ 0
unfolding gap_len
no_gap = refl

-- the text begins with the blank that is taken
GapFits : List ℕ → ℕ → Type 0
GapFits text n = (n ≡ 0 → ⊥) → IsGap (take n text) (drop n text)

closed_fits : (a b : ℕ) (more : List ℕ) → (a == 47 && b == 42) ≡ true → GapFits (a ∷ b ∷ more) (lengthened 2 (close_len more))
unfolding GapFits
closed_fits a b more opens = λ some.
    let parts : ((a == 47) ≡ true) × ((b == 42) ≡ true) = and_parts (a == 47) (b == 42) opens in
    let some_more : close_len more ≡ 0 → ⊥ = λ none_more. some (rw none_more (lengthened-none 2)) in
    let size : lengthened 2 (close_len more) ≡ suc (suc (close_len more)) = lengthened-some 2 (close_len more) some_more ∙ omega arith in
    rw size (comment {word = a ∷ b ∷ take (close_len more) more} {rest = drop (close_len more) more} (take (close_len more) more) (rw (eqb-true a 47 parts.0, eqb-true b 42 parts.1) refl) (close_fits more some_more))

gap_fits_behind : (a : ℕ) (behind : List ℕ) → GapFits (a ∷ behind) (gap_len_behind a behind)
unfolding gap_len_behind GapFits
gap_fits_behind a [] = λ some. absurd (some refl)
gap_fits_behind a (b ∷ more) =
    elim (cases_Bool (a == 92 && b == 10)) [
      | inl splice ↦ rw splice (λ some.
          let parts : ((a == 92) ≡ true) × ((b == 10) ≡ true) = and_parts (a == 92) (b == 10) splice in
          spliced {word = a ∷ b ∷ []} {rest = more} (rw (eqb-true a 92 parts.0, eqb-true b 10 parts.1) refl))
      | inr no_splice ↦ rw no_splice (elim (cases_Bool (a == 47 && b == 42)) [
        | inl opens ↦ rw opens (closed_fits a b more opens)
        | inr not_open ↦ rw not_open (elim (cases_Bool (a == 47 && b == 47)) [
          | inl slashes ↦ rw slashes (λ some.
              let parts : ((a == 47) ≡ true) × ((b == 47) ≡ true) = and_parts (a == 47) (b == 47) slashes in
              let size : 2 + remark_len false more ≡ suc (suc (remark_len false more)) = omega arith in
              rw size (remark {word = a ∷ b ∷ take (remark_len false more) more} {rest = drop (remark_len false more) more} (take (remark_len false more) more) (rw (eqb-true a 47 parts.0, eqb-true b 47 parts.1) refl) (remark_fits false more)))
          | inr other ↦ rw other (λ some. absurd (some refl))
        ])
      ])
    ]

gap_fits : (text : List ℕ) → GapFits text (gap_len text)
unfolding gap_len GapFits
gap_fits [] = λ some. absurd (some refl)
gap_fits (a ∷ behind) =
    elim (cases_Bool (is_blank a)) [
      | inl is ↦ rw is (λ some. blank {word = a ∷ []} {rest = behind} a refl is)
      | inr isnt ↦ rw isnt (gap_fits_behind a behind)
    ]

-- What is taken is a blank.
pub gap_taken : (text : List ℕ) → (gap_len text ≡ 0 → ⊥) → IsGap (take (gap_len text) text) (drop (gap_len text) text)
unfolding GapFits
gap_taken text some = gap_fits text some

-- Each blank is taken whole.
pub gap_again : (word rest : List ℕ) → IsGap word rest → gap_len (word ++ rest) ≡ length word
unfolding gap_len gap_len_behind is_blank
gap_again word rest (blank b e is) = rw (e, is) refl
gap_again word rest (spliced e) = rw e refl
gap_again word rest (comment more e is_closed) =
    rw (e, close_again is_closed rest, lengthened-some 2 (length more) (closes_some is_closed)) (omega arith)
gap_again word rest (remark more e remarks) = rw (e, remark_again remarks) (omega arith)

-- a blank has a byte, and no newline and no `#` is first in it
pub gap_first : (word rest : List ℕ) → IsGap word rest → (b : ℕ) × (more : List ℕ) × (word ≡ b ∷ more) × ((b == 10) ≡ false) × ((b == 35) ≡ false)
unfolding is_blank
gap_first word rest (blank b e is) = (b, [], e, grind (arith, nat_tests), grind (arith, nat_tests))
gap_first word rest (spliced e) = (92, 10 ∷ [], e, refl, refl)
gap_first word rest (comment more e is_closed) = (47, 42 ∷ more, e, refl, refl)
gap_first word rest (remark more e remarks) = (47, 47 ∷ more, e, refl, refl)

-- a byte with which no token begins
abbrev pub BeginsNone : ℕ → Type 0
BeginsNone b = (is_blank b ≡ true) ⊎ (b ≡ 92) ⊎ (b ≡ 10) ⊎ (b ≡ 35)

apart : (b : ℕ) → BeginsNone b → (is_letter b ≡ false) × (is_digit b ≡ false) × ((b == 34) ≡ false) × (is_one b ≡ false)
unfolding is_blank is_letter is_digit is_one
apart b (inl is) = (grind (arith, nat_tests), grind (arith, nat_tests), grind (arith, nat_tests), grind (arith, nat_tests))
apart b (inr (inl is)) = rw is (refl, refl, refl, refl)
apart b (inr (inr (inl is))) = rw is (refl, refl, refl, refl)
apart b (inr (inr (inr is))) = rw is (refl, refl, refl, refl)

answer_none : (text : List ℕ) → symbol_told 0 text ≡ Err Lexical
unfolding symbol_told
answer_none text = refl

either_way : (test : Bool) (answer : Answer) → (if test then answer else answer) ≡ answer
either_way true answer = refl
either_way false answer = refl

pub no_token : (b : ℕ) (more : List ℕ) → BeginsNone b → token_at (b ∷ more) ≡ Err Lexical
unfolding token_at symbol_at
no_token b more is =
    let (no_letter, no_digit, no_quote, no_symbol) = apart b is in
    rw (no_letter, no_digit, no_quote, symbol_len_none b more no_symbol, answer_none (b ∷ more)) (either_way (opens_comment (b ∷ more)) (Err Lexical))

-- no token begins where a comment does
comment_no_token : (more : List ℕ) → opens_comment (47 ∷ more) ≡ true → token_at (47 ∷ more) ≡ Err Lexical
unfolding token_at symbol_at is_letter is_digit
comment_no_token more opens = rw opens refl

opened_no_token : (a b : ℕ) (more : List ℕ) → (a == 47) ≡ true → (b == 42 || b == 47) ≡ true → token_at (a ∷ b ∷ more) ≡ Err Lexical
unfolding opens_comment
opened_no_token a b more slash second = rw (eqb-true a 47 slash) (comment_no_token (b ∷ more) second)

behind_no_token : (a : ℕ) (behind : List ℕ) → (gap_len_behind a behind ≡ 0 → ⊥) → token_at (a ∷ behind) ≡ Err Lexical
unfolding gap_len_behind opens_comment
behind_no_token a [] some = absurd (some refl)
behind_no_token a (b ∷ more) some =
    elim (cases_Bool (a == 92 && b == 10)) [
      | inl splice ↦ no_token a (b ∷ more) (inr (inl (eqb-true a 92 (and_parts (a == 92) (b == 10) splice).0)))
      | inr no_splice ↦ elim (cases_Bool (a == 47 && b == 42)) [
        | inl opens ↦ opened_no_token a b more (and_parts (a == 47) (b == 42) opens).0 (or_left (b == 42) (b == 47) (and_parts (a == 47) (b == 42) opens).1)
        | inr not_open ↦ elim (cases_Bool (a == 47 && b == 47)) [
          | inl slashes ↦ opened_no_token a b more (and_parts (a == 47) (b == 47) slashes).0 (or_right (b == 42) (b == 47) (and_parts (a == 47) (b == 47) slashes).1)
          | inr other ↦ absurd (some (rw (no_splice, not_open, other) refl))
        ]
      ]
    ]

-- No token begins where a blank does.
pub gap_no_token : (text : List ℕ) → (gap_len text ≡ 0 → ⊥) → token_at text ≡ Err Lexical
unfolding gap_len
gap_no_token [] some = absurd (some refl)
gap_no_token (a ∷ behind) some =
    elim (cases_Bool (is_blank a)) [
      | inl is ↦ no_token a behind (inl is)
      | inr isnt ↦ behind_no_token a behind (λ none_behind. some (rw (isnt, none_behind) refl))
    ]
