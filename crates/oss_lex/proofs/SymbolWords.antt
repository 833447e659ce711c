-- The symbols at the front of a text.
use Rattle.std.proofs.Common.{◌≡◌, ℕ, ◌≤◌, Bool, true, false, List, [], ◌∷◌, ◌++◌, length, refl, ap, ◌∙◌, suc, inl, inr, arith}
use Rattle.std.proofs.lemmas.Bool.{cases_Bool, false_from_ne_true}
use Rattle.std.proofs.lemmas.Bool.Decides.{nat_tests}
use Rattle.std.specs.Prelude.{slice_index, ◌==◌, if◌then◌else◌, Ok}
use Rattle.oss_syntax.specs.declared.token.TokenKind.TheVariants.{Symbol}
use Rattle.oss_grammar.specs.Words.{is_letter, is_digit, is_one, is_two, is_three, is_symbol, opens_comment, Ends}
use Rattle.oss_grammar.specs.Tokens.{is_blank}
use Rattle.oss_lex.specs.Reading.{symbol_len, symbol_told, symbol_at}
use Rattle.oss_lex.proofs.Answers.{Fits}
use Rattle.oss_lex.proofs.Runs.{take_word, drop_word}

cond_le : (test : Bool) (x y n : ℕ) → x ≤ n → y ≤ n → (if test then x else y) ≤ n
cond_le true x y n p q = p
cond_le false x y n p q = q

-- how the length is told, byte by byte
symbol_len_is : (a : ℕ) (rest : List ℕ) → symbol_len (a ∷ rest) ≡ (if is_three a (slice_index rest 0) (slice_index rest 1) then 3 else (if is_two a (slice_index rest 0) then 2 else (if is_one a then 1 else 0)))
unfolding symbol_len
symbol_len_is a rest = refl

-- no symbol ends with a byte that is not there
no_two : (a : ℕ) → is_two a 0 ≡ false
unfolding is_two
no_two a = refl

no_three : (a b : ℕ) → is_three a b 0 ≡ false
unfolding is_three
no_three a b = refl

no_symbol : symbol_len [] ≡ 0
unfolding symbol_len is_one is_two is_three
no_symbol = refl

pub symbol_len_within : (text : List ℕ) → symbol_len text ≤ length text
symbol_len_within [] = rw no_symbol (omega arith)
symbol_len_within (a ∷ []) = rw (symbol_len_is, no_three, no_two) (cond_le (is_one a) 1 0 1 (omega arith) (omega arith))
symbol_len_within (a ∷ b ∷ []) = rw (symbol_len_is, no_three) (cond_le (is_two a b) 2 _ 2 (omega arith) (cond_le (is_one a) 1 0 2 (omega arith) (omega arith)))
symbol_len_within (a ∷ b ∷ c ∷ more) = rw symbol_len_is (cond_le (is_three a b c) 3 _ _ (omega arith) (cond_le (is_two a b) 2 _ _ (omega arith) (cond_le (is_one a) 1 0 _ (omega arith) (omega arith))))

-- each symbol begins with a symbol of one byte
one_of_two : (a b : ℕ) → is_two a b ≡ true → is_one a ≡ true
unfolding is_one is_two
one_of_two a b h = grind (arith, nat_tests)

one_of_three : (a b c : ℕ) → is_three a b c ≡ true → is_one a ≡ true
unfolding is_one is_three
one_of_three a b c h = grind (arith, nat_tests)

one_apart : (a : ℕ) → is_one a ≡ true → (is_letter a ≡ false) × (is_digit a ≡ false) × ((a == 34) ≡ false)
unfolding is_one is_letter is_digit
one_apart a h = (grind (arith, nat_tests), grind (arith, nat_tests), grind (arith, nat_tests))

blank_apart : (a : ℕ) → is_blank a ≡ true → is_one a ≡ false
unfolding is_one is_blank
blank_apart a h = grind (arith, nat_tests)

pub symbol_first : (a : ℕ) (more : List ℕ) → is_symbol (a ∷ more) ≡ true → (is_letter a ≡ false) × (is_digit a ≡ false) × ((a == 34) ≡ false)
unfolding is_symbol
symbol_first a [] h = one_apart a h
symbol_first a (b ∷ []) h = one_apart a (one_of_two a b h)
symbol_first a (b ∷ c ∷ []) h = one_apart a (one_of_three a b c h)
symbol_first a (b ∷ c ∷ d ∷ more) h = cc

-- where no symbol of one byte begins, none begins
pub symbol_len_none : (a : ℕ) (rest : List ℕ) → is_one a ≡ false → symbol_len (a ∷ rest) ≡ 0
symbol_len_none a rest none =
    let two : is_two a (slice_index rest 0) ≡ false = false_from_ne_true _ (λ h. let e : is_one a ≡ true = one_of_two a (slice_index rest 0) h in cc) in
    let three : is_three a (slice_index rest 0) (slice_index rest 1) ≡ false = false_from_ne_true _ (λ h. let e : is_one a ≡ true = one_of_three a (slice_index rest 0) (slice_index rest 1) h in cc) in
    rw (symbol_len_is, three, two, none) refl

-- a symbol of two bytes or of one ends where the bytes behind it make no longer one
two_ends : (a b : ℕ) (rest : List ℕ) → is_three a b (slice_index rest 0) ≡ false → (d : ℕ) (more left : List ℕ) → rest ≡ d ∷ (more ++ left) → is_symbol (a ∷ b ∷ d ∷ more) ≡ false
unfolding is_symbol
two_ends a b rest none d [] left e = let first : slice_index rest 0 ≡ d = ap (λ r. slice_index r 0) e in rw first at none
two_ends a b rest none d (f ∷ more) left e = refl

one_ends : (a : ℕ) (rest : List ℕ) → is_two a (slice_index rest 0) ≡ false → is_three a (slice_index rest 0) (slice_index rest 1) ≡ false → (d : ℕ) (more left : List ℕ) → rest ≡ d ∷ (more ++ left) → is_symbol (a ∷ d ∷ more) ≡ false
unfolding is_symbol
one_ends a rest two three d [] left e = let first : slice_index rest 0 ≡ d = ap (λ r. slice_index r 0) e in rw first at two
one_ends a rest two three d (f ∷ []) left e =
    let first : slice_index rest 0 ≡ d = ap (λ r. slice_index r 0) e in
    let second : slice_index rest 1 ≡ f = ap (λ r. slice_index r 1) e in
    rw (first, second) at three
one_ends a rest two three d (f ∷ g ∷ more) left e = refl

three_ends : (a b c d : ℕ) (more : List ℕ) → is_symbol (a ∷ b ∷ c ∷ d ∷ more) ≡ false
unfolding is_symbol
three_ends a b c d more = refl

symbol_of_one : (a : ℕ) → is_symbol (a ∷ []) ≡ is_one a
unfolding is_symbol
symbol_of_one a = refl

symbol_of_two : (a b : ℕ) → is_symbol (a ∷ b ∷ []) ≡ is_two a b
unfolding is_symbol
symbol_of_two a b = refl

symbol_of_three : (a b c : ℕ) → is_symbol (a ∷ b ∷ c ∷ []) ≡ is_three a b c
unfolding is_symbol
symbol_of_three a b c = refl

-- what is answered for a length
fits_one : (a : ℕ) (rest : List ℕ) → opens_comment (a ∷ rest) ≡ false → is_two a (slice_index rest 0) ≡ false → is_three a (slice_index rest 0) (slice_index rest 1) ≡ false → Fits (a ∷ rest) (symbol_told (if is_one a then 1 else 0) (a ∷ rest))
unfolding symbol_told
fits_one a rest no_comment two three =
    elim (cases_Bool (is_one a)) [
      | inl one ↦ rw one (record { word = a ∷ []; split = refl; is_word = (refl, symbol_of_one a ∙ one); ends = (one_ends a rest two three, no_comment) })
      | inr none ↦ rw none tt
    ]

fits_two : (a b : ℕ) (rest : List ℕ) → opens_comment (a ∷ b ∷ rest) ≡ false → is_three a b (slice_index rest 0) ≡ false → Fits (a ∷ b ∷ rest) (symbol_told (if is_two a b then 2 else (if is_one a then 1 else 0)) (a ∷ b ∷ rest))
unfolding symbol_told
fits_two a b rest no_comment three =
    elim (cases_Bool (is_two a b)) [
      | inl two ↦ rw two (record { word = a ∷ b ∷ []; split = refl; is_word = (refl, symbol_of_two a b ∙ two); ends = (two_ends a b rest three, no_comment) })
      | inr none ↦ rw none (fits_one a (b ∷ rest) no_comment none three)
    ]

fits_three : (a b c : ℕ) (rest : List ℕ) → opens_comment (a ∷ b ∷ c ∷ rest) ≡ false → Fits (a ∷ b ∷ c ∷ rest) (symbol_told (if is_three a b c then 3 else (if is_two a b then 2 else (if is_one a then 1 else 0))) (a ∷ b ∷ c ∷ rest))
unfolding symbol_told
fits_three a b c rest no_comment =
    elim (cases_Bool (is_three a b c)) [
      | inl three ↦ rw three (record { word = a ∷ b ∷ c ∷ []; split = refl; is_word = (refl, symbol_of_three a b c ∙ three); ends = (λ d more left e. three_ends a b c d more, no_comment) })
      | inr none ↦ rw none (fits_two a b (c ∷ rest) no_comment none)
    ]

fits_len : (text : List ℕ) → opens_comment text ≡ false → Fits text (symbol_told (symbol_len text) text)
unfolding symbol_told
fits_len [] no_comment = rw no_symbol tt
fits_len (a ∷ []) no_comment = rw (symbol_len_is, no_three, no_two) (fits_one a [] no_comment (no_two a) (no_three a 0))
fits_len (a ∷ b ∷ []) no_comment = rw (symbol_len_is, no_three) (fits_two a b [] no_comment (no_three a b))
fits_len (a ∷ b ∷ c ∷ more) no_comment = rw symbol_len_is (fits_three a b c more no_comment)

-- the symbol that is answered begins the text
pub symbol_fits : (text : List ℕ) → Fits text (symbol_at text)
unfolding symbol_at
symbol_fits text =
    elim (cases_Bool (opens_comment text)) [
      | inl opens ↦ rw opens tt
      | inr no_comment ↦ rw no_comment (fits_len text no_comment)
    ]

-- the length of the symbol that begins a text
symbol_len_again : (word rest : List ℕ) → is_symbol word ≡ true → Ends (Symbol word) word rest → symbol_len (word ++ rest) ≡ length word
unfolding is_symbol
symbol_len_again [] rest is ends = cc
symbol_len_again (a ∷ []) [] is ends = rw (symbol_len_is, no_three, no_two, is) refl
symbol_len_again (a ∷ []) (b ∷ []) is ends = rw (symbol_len_is, no_three, ends.0 b [] [] refl, is) refl
symbol_len_again (a ∷ []) (b ∷ c ∷ rest) is ends = rw (symbol_len_is, ends.0 b (c ∷ []) rest refl, ends.0 b [] (c ∷ rest) refl, is) refl
symbol_len_again (a ∷ b ∷ []) [] is ends = rw (symbol_len_is, no_three, is) refl
symbol_len_again (a ∷ b ∷ []) (c ∷ rest) is ends = rw (symbol_len_is, ends.0 c [] rest refl, is) refl
symbol_len_again (a ∷ b ∷ c ∷ []) rest is ends = rw (symbol_len_is, is) refl
symbol_len_again (a ∷ b ∷ c ∷ d ∷ more) rest is ends = cc

pub symbol_again : (word rest : List ℕ) → is_symbol word ≡ true → Ends (Symbol word) word rest → symbol_at (word ++ rest) ≡ Ok (Symbol word, rest)
unfolding symbol_at symbol_told is_symbol
symbol_again [] rest is ends = cc
symbol_again (a ∷ more) rest is ends =
    let apart : (suc (length more) == 0) ≡ false = grind (arith, nat_tests) in
    let no_comment : opens_comment (a ∷ (more ++ rest)) ≡ false = ends.1 in
    rw (no_comment, symbol_len_again (a ∷ more) rest is ends, apart, take_word more rest, drop_word more rest) refl
