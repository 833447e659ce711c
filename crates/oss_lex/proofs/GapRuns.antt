-- All blanks at the front of a text.
use Rattle.std.proofs.Common.{◌≡◌, ℕ, ◌+◌, ◌-◌, ◌≤◌, List, [], ◌∷◌, ◌++◌, length, take, drop, refl, ap, sym, ◌∙◌, zero, suc, inl, inr, arith, append_assoc, length-append, length-take, sub-one, zero-add}
use Rattle.std.proofs.lemmas.List.{take-append-drop}
use Rattle.std.proofs.lemmas.Bool.{cases_eq, ne_eqb}
use Rattle.oss_grammar.specs.Tokens.{IsGap, IsGaps}
use Rattle.oss_grammar.specs.Tokens.IsGaps.{none, one_more}
use Rattle.oss_lex.specs.Reading.{gap_len, gaps_len}
use Rattle.oss_lex.proofs.Gaps.{gap_taken, gap_again, gap_first, no_gap}
use Rattle.oss_lex.proofs.Runs.{take_word, drop_word}

pub gaps_len_none : (text : List ℕ) → gap_len text ≡ 0 → gaps_len 0 text ≡ 0
unfolding gaps_len
gaps_len_none [] is = refl
gaps_len_none (b ∷ more) is = rw is refl

gaps_len_some : (b : ℕ) (more : List ℕ) (n : ℕ) → gap_len (b ∷ more) ≡ suc n → gaps_len 0 (b ∷ more) ≡ suc (gaps_len n more)
unfolding gaps_len
gaps_len_some b more n is = rw (is, ne_eqb (suc n) 0 (λ e. omega arith), sub-one) refl

-- inside a blank
gaps_len_inside : (n : ℕ) (text : List ℕ) → n ≤ length text → gaps_len n text ≡ n + gaps_len 0 (drop n text)
unfolding gaps_len
gaps_len_inside zero text within = sym (zero-add (gaps_len 0 text))
gaps_len_inside (suc n) [] within = absurd (omega arith)
gaps_len_inside (suc n) (b ∷ more) within =
    let later : gaps_len n more ≡ n + gaps_len 0 (drop n more) = gaps_len_inside n more (omega arith) in
    rw later (omega arith)

-- A blank, and the blanks behind it.
pub gaps_len_step : (text : List ℕ) (n : ℕ) → n ≡ gap_len text → (n ≡ 0 → ⊥) → n ≤ length text → gaps_len 0 text ≡ n + gaps_len 0 (drop n text)
gaps_len_step text zero is some within = absurd (some refl)
gaps_len_step [] (suc n) is some within = absurd (omega arith)
gaps_len_step (b ∷ more) (suc n) is some within =
    let later : gaps_len n more ≡ n + gaps_len 0 (drop n more) = gaps_len_inside n more (omega arith) in
    gaps_len_some b more n (sym is) ∙ omega (arith, later)

-- No blank begins where none is taken.
pub gap_none : (text : List ℕ) → gap_len text ≡ 0 → (word more : List ℕ) → text ≡ word ++ more → IsGap word more → ⊥
gap_none text is word more split gap =
    let (b, tail, whole, no_newline, no_hash) = gap_first word more gap in
    let len : gap_len text ≡ length word = rw split (gap_again word more gap) in
    let some : length word ≡ suc (length tail) = ap length whole in
    omega (arith, len, some, is)

-- A blank stands in the text.
gap_whole : (text : List ℕ) → (gap_len text ≡ 0 → ⊥) → length (take (gap_len text) text) ≡ gap_len text
gap_whole text some =
    let again : gap_len (take (gap_len text) text ++ drop (gap_len text) text) ≡ length (take (gap_len text) text) = gap_again (take (gap_len text) text) (drop (gap_len text) text) (gap_taken text some) in
    sym again ∙ ap gap_len (take-append-drop (gap_len text) text)

-- What is taken, behind the bytes that are known to stand in a blank, are blanks, as many as there are.
record GapsFit (inside : ℕ) (text : List ℕ) (n : ℕ) : Type 0 where
  gaps : List ℕ
  rest : List ℕ
  split : drop inside text ≡ gaps ++ rest
  are_gaps : IsGaps gaps rest
  size : n ≡ inside + length gaps

gaps_fit_none : (text : List ℕ) → gap_len text ≡ 0 → GapsFit 0 text (gaps_len 0 text)
gaps_fit_none text is =
    record { gaps = []; rest = text; split = refl; are_gaps = none (gap_none text is); size = rw (gaps_len_none text is) (omega arith) }

gaps_fit_some : (b : ℕ) (more : List ℕ) (n : ℕ) → gap_len (b ∷ more) ≡ suc n → GapsFit n more (gaps_len n more) → GapsFit 0 (b ∷ more) (gaps_len 0 (b ∷ more))
gaps_fit_some b more n len fit =
    let some : gap_len (b ∷ more) ≡ 0 → ⊥ = λ e. omega arith in
    let word : List ℕ = take (suc n) (b ∷ more) in
    let behind : drop (suc n) (b ∷ more) ≡ fit.gaps ++ fit.rest = fit.split in
    let taken : IsGap word (fit.gaps ++ fit.rest) = rw (len, behind) at (gap_taken (b ∷ more) some) in
    let size : length word ≡ suc n = rw len at (gap_whole (b ∷ more) some) in
    let whole : b ∷ more ≡ word ++ (fit.gaps ++ fit.rest) = sym (take-append-drop (suc n) (b ∷ more)) ∙ ap (λ t. word ++ t) behind in
    let all : length (word ++ fit.gaps) ≡ length word + length fit.gaps = length-append word fit.gaps in
    record {
      gaps = word ++ fit.gaps;
      rest = fit.rest;
      split = whole ∙ sym (append_assoc word fit.gaps fit.rest);
      are_gaps = one_more word fit.gaps refl taken fit.are_gaps;
      size = gaps_len_some b more n len ∙ omega (arith, fit.size, size, all);
    }

gaps_fit : (text : List ℕ) (inside : ℕ) → inside ≤ length text → GapsFit inside text (gaps_len inside text)
unfolding gaps_len
gaps_fit [] zero within = gaps_fit_none [] no_gap
gaps_fit [] (suc n) within = absurd (omega arith)
gaps_fit (b ∷ more) (suc n) within =
    let fit : GapsFit n more (gaps_len n more) = gaps_fit more n (omega arith) in
    record { gaps = fit.gaps; rest = fit.rest; split = fit.split; are_gaps = fit.are_gaps; size = rw (fit.size) (omega arith) }
gaps_fit (b ∷ more) zero within =
    elim (cases_eq (gap_len (b ∷ more)) 0) [
      | inl is ↦ gaps_fit_none (b ∷ more) is
      | inr some ↦
          let n : ℕ = gap_len (b ∷ more) - 1 in
          let len : gap_len (b ∷ more) ≡ suc n = omega arith in
          let whole : length (take (gap_len (b ∷ more)) (b ∷ more)) ≡ gap_len (b ∷ more) = gap_whole (b ∷ more) some in
          let fits : n ≤ length more = omega (arith, whole, length-take (gap_len (b ∷ more)) (b ∷ more)) in
          gaps_fit_some b more n len (gaps_fit more n fits)
    ]

fit_taken : (text : List ℕ) (n : ℕ) → GapsFit 0 text n → IsGaps (take n text) (drop n text)
fit_taken text n fit =
    let len : n ≡ length fit.gaps = fit.size ∙ zero-add (length fit.gaps) in
    let whole : text ≡ fit.gaps ++ fit.rest = fit.split in
    let front : take n text ≡ fit.gaps = ap (λ k. take k text) len ∙ ap (λ t. take (length fit.gaps) t) whole ∙ take_word fit.gaps fit.rest in
    let back : drop n text ≡ fit.rest = ap (λ k. drop k text) len ∙ ap (λ t. drop (length fit.gaps) t) whole ∙ drop_word fit.gaps fit.rest in
    rw (front, back) fit.are_gaps

-- The blanks at the front of a text, and what stands behind them.
pub gaps_taken : (text : List ℕ) → IsGaps (take (gaps_len 0 text) text) (drop (gaps_len 0 text) text)
gaps_taken text = fit_taken text (gaps_len 0 text) (gaps_fit text 0 (omega arith))

stop_none : (text : List ℕ) → ((word more : List ℕ) → text ≡ word ++ more → IsGap word more → ⊥) → gap_len text ≡ 0
stop_none text stop =
    elim (cases_eq (gap_len text) 0) [
      | inl is ↦ is
      | inr some ↦ absurd (stop (take (gap_len text) text) (drop (gap_len text) text) (sym (take-append-drop (gap_len text) text)) (gap_taken text some))
    ]

-- Blanks are taken whole.
pub gaps_len_again : (gaps rest : List ℕ) → IsGaps gaps rest → gaps_len 0 (gaps ++ rest) ≡ length gaps
gaps_len_again gaps rest (none stop) = gaps_len_none rest (stop_none rest stop)
gaps_len_again gaps rest (one_more word more e gap are) =
    let (b, tail, whole, no_newline, no_hash) = gap_first word (more ++ rest) gap in
    let len : length word ≡ suc (length tail) = ap length whole in
    let some : length word ≡ 0 → ⊥ = λ none_there. omega (arith, len) in
    let size : length (word ++ (more ++ rest)) ≡ length word + length (more ++ rest) = length-append word (more ++ rest) in
    let step : gaps_len 0 (word ++ (more ++ rest)) ≡ length word + gaps_len 0 (drop (length word) (word ++ (more ++ rest))) = gaps_len_step (word ++ (more ++ rest)) (length word) (sym (gap_again word (more ++ rest) gap)) some (omega arith) in
    rw (e, append_assoc, step, drop_word word (more ++ rest), gaps_len_again more rest are, length-append) refl
