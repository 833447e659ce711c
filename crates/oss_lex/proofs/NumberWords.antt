-- The numbers at the front of a text.
use Rattle.std.proofs.Common.{◌≡◌, ℕ, ◌+◌, ◌^◌, ◌≤◌, ◌<◌, Bool, true, false, ◌||◌, List, [], ◌∷◌, ◌++◌, take, drop, refl, ap, sym, ◌∙◌, inl, inr, arith, one-add, append_assoc}
use Rattle.std.proofs.lemmas.List.{take-append-drop}
use Rattle.std.proofs.lemmas.Bool.{cases_Bool, lt-ltb, ltb-true, and_from, and_parts, ne_eqb, eqb-true, eqb-false}
use Rattle.std.proofs.lemmas.Bool.Decides.{nat_tests}
use Rattle.std.proofs.lemmas.Slice.Eq.{bytes_eq-Decides}
use Rattle.std.specs.Prelude.{Option, Some, None, Ok, nat_lt, ◌==◌, codes}
use Rattle.std.specs.List.{prefix_len, list_all}
use Rattle.std.specs.Str.{bytes_eq}
use Rattle.oss_syntax.specs.declared.token.TokenKind.TheVariants.{Number}
use Rattle.oss_grammar.specs.Words.{NotFirst, is_letter, is_digit, is_name_byte, digit_of, is_digit_in, value_in, Written, is_signed_suffix, is_unsigned_suffix, IsMarked, IsNumber}
use Rattle.oss_grammar.specs.Words.Written.{decimal, octal, hexadecimal}
use Rattle.oss_lex.specs.Reading.{marked, number_in, hexadecimal_of, zero_number_of, number_of, number_told, number_at}
use Rattle.oss_lex.proofs.Answers.{Fits}
use Rattle.oss_lex.proofs.Runs.{prefix_len_word, front_passes, rest_stops, take_word, drop_word, list_all_more, list_all_append}

-- What holds of each suffix of a table holds of a suffix.
is_codes : (P : List ℕ → Type 0) (w c : List ℕ) → P c → bytes_eq w c ≡ true → P w
is_codes P w c holds same = rw ((bytes_eq-Decides w c).0 same) holds

either : {P : Type 0} (x y : Bool) → (x ≡ true → P) → (y ≡ true → P) → (x || y) ≡ true → P
either true y f g h = f refl
either false y f g h = g h

-- Each suffix has only letters, and none begins with an `x`.
is_x : ℕ → Bool
is_x b = b == 120 || b == 88

abbrev HasLetters : List ℕ → Type 0
HasLetters w = (list_all is_name_byte w ≡ true) × NotFirst is_x w

signed_letters : (w : List ℕ) → is_signed_suffix w ≡ true → HasLetters w
unfolding is_signed_suffix is_name_byte is_letter is_digit is_x
signed_letters w h =
    (either _ _ (either _ _ (either _ _ (either _ _ (is_codes (HasLetters) w ([]) (refl, tt))
    (is_codes (HasLetters) w (codes "l") (refl, refl)))
    (is_codes (HasLetters) w (codes "L") (refl, refl)))
    (is_codes (HasLetters) w (codes "ll") (refl, refl)))
    (is_codes (HasLetters) w (codes "LL") (refl, refl))) h

unsigned_letters : (w : List ℕ) → is_unsigned_suffix w ≡ true → HasLetters w
unfolding is_unsigned_suffix is_name_byte is_letter is_digit is_x
unsigned_letters w h =
    (either _ _ (either _ _ (either _ _ (either _ _ (either _ _ (either _ _ (either _ _ (either _ _ (either _ _ (either _ _ (either _ _ (either _ _ (either _ _ (either _ _ (either _ _ (either _ _ (either _ _ (is_codes (HasLetters) w (codes "u") (refl, refl))
    (is_codes (HasLetters) w (codes "ul") (refl, refl)))
    (is_codes (HasLetters) w (codes "uL") (refl, refl)))
    (is_codes (HasLetters) w (codes "ull") (refl, refl)))
    (is_codes (HasLetters) w (codes "uLL") (refl, refl)))
    (is_codes (HasLetters) w (codes "lu") (refl, refl)))
    (is_codes (HasLetters) w (codes "Lu") (refl, refl)))
    (is_codes (HasLetters) w (codes "llu") (refl, refl)))
    (is_codes (HasLetters) w (codes "LLu") (refl, refl)))
    (is_codes (HasLetters) w (codes "U") (refl, refl)))
    (is_codes (HasLetters) w (codes "Ul") (refl, refl)))
    (is_codes (HasLetters) w (codes "UL") (refl, refl)))
    (is_codes (HasLetters) w (codes "Ull") (refl, refl)))
    (is_codes (HasLetters) w (codes "ULL") (refl, refl)))
    (is_codes (HasLetters) w (codes "lU") (refl, refl)))
    (is_codes (HasLetters) w (codes "LU") (refl, refl)))
    (is_codes (HasLetters) w (codes "llU") (refl, refl)))
    (is_codes (HasLetters) w (codes "LLU") (refl, refl))) h

-- No suffix is of both kinds.
signed_apart : (w : List ℕ) → is_signed_suffix w ≡ true → is_unsigned_suffix w ≡ false
unfolding is_signed_suffix is_unsigned_suffix
signed_apart w h =
    (either _ _ (either _ _ (either _ _ (either _ _ (is_codes (λ v. is_unsigned_suffix v ≡ false) w ([]) (refl))
    (is_codes (λ v. is_unsigned_suffix v ≡ false) w (codes "l") (refl)))
    (is_codes (λ v. is_unsigned_suffix v ≡ false) w (codes "L") (refl)))
    (is_codes (λ v. is_unsigned_suffix v ≡ false) w (codes "ll") (refl)))
    (is_codes (λ v. is_unsigned_suffix v ≡ false) w (codes "LL") (refl))) h

suffix_letters : (suffix : List ℕ) (value : ℕ) (unsigned : Bool) → IsMarked suffix value unsigned → HasLetters suffix
suffix_letters suffix value unsigned (inl is) = unsigned_letters suffix is.0
suffix_letters suffix value unsigned (inr is) = signed_letters suffix is.0

-- Digits are letters and digits, and none is an `x`.
digit_passes : (base b : ℕ) → base ≤ 16 → is_digit_in base b ≡ true → is_name_byte b ≡ true
unfolding is_digit_in digit_of is_name_byte is_letter is_digit
digit_passes base b small is = grind (arith, nat_tests)

digit_no_x : (base b : ℕ) → base ≤ 16 → is_digit_in base b ≡ true → is_x b ≡ false
unfolding is_digit_in digit_of is_digit is_x
digit_no_x base b small is = grind (arith, nat_tests)

digit_is_decimal : (b : ℕ) → is_digit b ≡ true → is_digit_in 10 b ≡ true
unfolding is_digit_in digit_of is_digit
digit_is_decimal b is = grind (arith, nat_tests)

decimal_is_digit : (b : ℕ) → is_digit_in 10 b ≡ true → is_digit b ≡ true
unfolding is_digit_in digit_of is_digit
decimal_is_digit b is = grind (arith, nat_tests)

x_passes : (b : ℕ) → is_x b ≡ true → is_name_byte b ≡ true
unfolding is_x is_name_byte is_letter is_digit
x_passes b is = grind (arith, nat_tests)

-- The word of an answer is a number.
abbrev NumberFits : List ℕ → Option (ℕ × Bool) → Type 0
NumberFits word (Some number) = IsNumber word number.0 number.1
NumberFits word None = Unit {0}

marked_fits : (base : ℕ) (digits front suffix word : List ℕ) → word ≡ front ++ suffix → Written base digits front → list_all (is_digit_in base) digits ≡ true → NotFirst (is_digit_in base) suffix → NumberFits word (marked (value_in base digits) suffix)
unfolding marked
marked_fits base digits front suffix word split written all stops =
    let value : ℕ = value_in base digits in
    elim (cases_Bool (nat_lt value (2 ^ 64))) [
      | inr large ↦ rw large tt
      | inl fits ↦ rw fits (elim (cases_Bool (is_unsigned_suffix suffix)) [
        | inl unsigned ↦ rw unsigned (record { base = base; digits = digits; front = front; suffix = suffix; split = split; written = written; all_digits = all; no_more = stops; is_value = refl; fits = ltb-true value (2 ^ 64) fits; marked = inl (unsigned, refl) })
        | inr isnt ↦ rw isnt (elim (cases_Bool (is_signed_suffix suffix)) [
          | inl signed ↦ rw signed (record { base = base; digits = digits; front = front; suffix = suffix; split = split; written = written; all_digits = all; no_more = stops; is_value = refl; fits = ltb-true value (2 ^ 64) fits; marked = inr (signed, refl) })
          | inr none ↦ rw none tt
        ])
      ])
    ]

number_in_fits : (base : ℕ) (front text word : List ℕ) → word ≡ front ++ text → Written base (take (prefix_len (is_digit_in base) text) text) (front ++ take (prefix_len (is_digit_in base) text) text) → NumberFits word (number_in base text)
unfolding number_in
number_in_fits base front text word split written =
    let n : ℕ = prefix_len (is_digit_in base) text in
    let whole : word ≡ (front ++ take n text) ++ drop n text = split ∙ ap (λ t. front ++ t) (sym (take-append-drop n text)) ∙ sym (append_assoc front (take n text) (drop n text)) in
    marked_fits base (take n text) (front ++ take n text) (drop n text) word whole written (front_passes (is_digit_in base) text) (rest_stops (is_digit_in base) text)

-- the digits at the front of a text that begins with one
digits_first : (base d : ℕ) (more : List ℕ) → is_digit_in base d ≡ true → take (prefix_len (is_digit_in base) (d ∷ more)) (d ∷ more) ≡ d ∷ take (prefix_len (is_digit_in base) more) more
digits_first base d more is = rw (is, one-add) refl

hexadecimal_fits : (x : ℕ) (text : List ℕ) → is_x x ≡ true → NumberFits (48 ∷ x ∷ text) (hexadecimal_of text)
unfolding hexadecimal_of is_x
hexadecimal_fits x [] is = tt
hexadecimal_fits x (d ∷ more) is =
    elim (cases_Bool (is_digit_in 16 d)) [
      | inr isnt ↦ rw isnt tt
      | inl digit ↦
          let apart : ((1 + prefix_len (is_digit_in 16) more) == 0) ≡ false = grind (arith, nat_tests) in
          rw (digit, apart) (number_in_fits 16 (48 ∷ x ∷ []) (d ∷ more) (48 ∷ x ∷ d ∷ more) refl (hexadecimal x d (take (prefix_len (is_digit_in 16) more) more) (digits_first 16 d more digit) is refl))
    ]

zero_number_fits : (text : List ℕ) → NumberFits (48 ∷ text) (zero_number_of text)
unfolding zero_number_of is_x
zero_number_fits [] = number_in_fits 8 (48 ∷ []) [] (48 ∷ []) refl (octal refl)
zero_number_fits (x ∷ more) =
    elim (cases_Bool (is_x x)) [
      | inl is ↦ rw is (hexadecimal_fits x more is)
      | inr isnt ↦ rw isnt (number_in_fits 8 (48 ∷ []) (x ∷ more) (48 ∷ x ∷ more) refl (octal refl))
    ]

number_of_fits : (d : ℕ) (more : List ℕ) → is_digit d ≡ true → NumberFits (d ∷ more) (number_of (d ∷ more))
unfolding number_of
number_of_fits d more digit =
    elim (cases_Bool (d == 48)) [
      | inl zero_first ↦ rw zero_first (let same : d ≡ 48 = eqb-true d 48 zero_first in rw same (zero_number_fits more))
      | inr other ↦ rw other (number_in_fits 10 [] (d ∷ more) (d ∷ more) refl (decimal d (take (prefix_len (is_digit_in 10) more) more) (digits_first 10 d more (digit_is_decimal d digit)) (eqb-false d 48 other)))
    ]

told_fits : (text word rest : List ℕ) (told : Option (ℕ × Bool)) → text ≡ word ++ rest → NotFirst is_name_byte rest → NumberFits word told → Fits text (number_told told rest)
unfolding number_told
told_fits text word rest (Some number) split stops fits = record { word = word; split = split; is_word = fits; ends = stops }
told_fits text word rest None split stops fits = tt

pub number_fits : (d : ℕ) (more : List ℕ) → is_digit d ≡ true → Fits (d ∷ more) (number_at (d ∷ more))
unfolding number_at
number_fits d more digit =
    let passes : is_name_byte d ≡ true = digit_passes 10 d (omega arith) (digit_is_decimal d digit) in
    let n : ℕ = prefix_len is_name_byte (d ∷ more) in
    let first : take n (d ∷ more) ≡ d ∷ take (prefix_len is_name_byte more) more = rw (passes, one-add) refl in
    told_fits (d ∷ more) (take n (d ∷ more)) (drop n (d ∷ more)) (number_of (take n (d ∷ more))) (sym (take-append-drop n (d ∷ more))) (rest_stops is_name_byte (d ∷ more))
    (rw first (number_of_fits d (take (prefix_len is_name_byte more) more) digit))

-- Each number is read as itself.
marked_again : (suffix : List ℕ) (value : ℕ) (unsigned : Bool) → value < 2 ^ 64 → IsMarked suffix value unsigned → marked value suffix ≡ Some (value, unsigned)
unfolding marked
marked_again suffix value unsigned fits (inl is) = rw (lt-ltb value (2 ^ 64) fits, is.0, is.1) refl
marked_again suffix value unsigned fits (inr is) = rw (lt-ltb value (2 ^ 64) fits, signed_apart suffix is.0, is.0, is.1) refl

number_in_again : (base : ℕ) (digits suffix : List ℕ) (value : ℕ) (unsigned : Bool) → list_all (is_digit_in base) digits ≡ true → NotFirst (is_digit_in base) suffix → value ≡ value_in base digits → value < 2 ^ 64 → IsMarked suffix value unsigned → number_in base (digits ++ suffix) ≡ Some (value, unsigned)
unfolding number_in
number_in_again base digits suffix value unsigned all stops is fits marks =
    rw (prefix_len_word (is_digit_in base) digits suffix all stops, take_word digits suffix, drop_word digits suffix, ← is) (marked_again suffix value unsigned fits marks)

-- behind a 0 stands no `x`
octal_again : (text : List ℕ) → NotFirst is_x text → zero_number_of text ≡ number_in 8 text
unfolding zero_number_of is_x
octal_again [] no_x = refl
octal_again (b ∷ more) no_x = rw no_x refl

no_x_first : (base : ℕ) (digits suffix : List ℕ) → base ≤ 16 → list_all (is_digit_in base) digits ≡ true → NotFirst is_x suffix → NotFirst is_x (digits ++ suffix)
no_x_first base [] suffix small all no_x = no_x
no_x_first base (d ∷ more) suffix small all no_x = digit_no_x base d small (and_parts (is_digit_in base d) _ all).0

hexadecimal_again : (d : ℕ) (more suffix : List ℕ) → list_all (is_digit_in 16) (d ∷ more) ≡ true → NotFirst (is_digit_in 16) suffix → hexadecimal_of (d ∷ (more ++ suffix)) ≡ number_in 16 (d ∷ (more ++ suffix))
unfolding hexadecimal_of
hexadecimal_again d more suffix all stops =
    let is : is_digit_in 16 d ≡ true = (and_parts (is_digit_in 16 d) _ all).0 in
    let apart : ((1 + prefix_len (is_digit_in 16) (more ++ suffix)) == 0) ≡ false = grind (arith, nat_tests) in
    rw (is, apart) refl

number_of_again : (base : ℕ) (digits front suffix : List ℕ) (value : ℕ) (unsigned : Bool) → Written base digits front → list_all (is_digit_in base) digits ≡ true → NotFirst (is_digit_in base) suffix → value ≡ value_in base digits → value < 2 ^ 64 → IsMarked suffix value unsigned → number_of (front ++ suffix) ≡ Some (value, unsigned)
unfolding number_of zero_number_of is_x
number_of_again base digits front suffix value unsigned (decimal d more e other) all stops is fits marks =
    let read : number_in 10 (digits ++ suffix) ≡ Some (value, unsigned) = number_in_again 10 digits suffix value unsigned all stops is fits marks in
    rw e (let read2 : number_in 10 (d ∷ (more ++ suffix)) ≡ Some (value, unsigned) = rw e at read in rw (ne_eqb d 48 other) read2)
number_of_again base digits front suffix value unsigned (octal e) all stops is fits marks =
    rw (e, octal_again (digits ++ suffix) (no_x_first 8 digits suffix (omega arith) all (suffix_letters suffix value unsigned marks).1)) (number_in_again 8 digits suffix value unsigned all stops is fits marks)
number_of_again base digits front suffix value unsigned (hexadecimal x d more e is_hex whole) all stops is fits marks =
    let read : number_in 16 (digits ++ suffix) ≡ Some (value, unsigned) = number_in_again 16 digits suffix value unsigned all stops is fits marks in
    let first : list_all (is_digit_in 16) (d ∷ more) ≡ true = rw e at all in
    rw (whole, e, is_hex, hexadecimal_again d more suffix first stops) (rw e at read)

front_passes_all : (base : ℕ) (digits front : List ℕ) → Written base digits front → list_all (is_digit_in base) digits ≡ true → list_all is_name_byte front ≡ true
unfolding is_name_byte is_letter is_digit is_x
front_passes_all base digits front (decimal d more e other) all = list_all_more (is_digit_in 10) is_name_byte (λ b. digit_passes 10 b (omega arith)) digits all
front_passes_all base digits front (octal e) all = rw e (list_all_more (is_digit_in 8) is_name_byte (λ b. digit_passes 8 b (omega arith)) digits all)
front_passes_all base digits front (hexadecimal x d more e is whole) all =
    rw whole (and_from (is_name_byte x) (list_all is_name_byte digits) (x_passes x is) (list_all_more (is_digit_in 16) is_name_byte (λ b. digit_passes 16 b (omega arith)) digits all))

number_passes : (word : List ℕ) (value : ℕ) (unsigned : Bool) → IsNumber word value unsigned → list_all is_name_byte word ≡ true
number_passes word value unsigned is =
    rw is.split (list_all_append is_name_byte is.front is.suffix (front_passes_all is.base is.digits is.front is.written is.all_digits) (suffix_letters is.suffix value unsigned is.marked).0)

pub number_again : (word rest : List ℕ) (value : ℕ) (unsigned : Bool) → IsNumber word value unsigned → NotFirst is_name_byte rest → number_at (word ++ rest) ≡ Ok (Number value unsigned, rest)
unfolding number_at number_told
number_again word rest value unsigned is stops =
    let read : number_of (is.front ++ is.suffix) ≡ Some (value, unsigned) = number_of_again is.base is.digits is.front is.suffix value unsigned is.written is.all_digits is.no_more is.is_value is.fits is.marked in
    let read_word : number_of word ≡ Some (value, unsigned) = rw is.split read in
    rw (prefix_len_word is_name_byte word rest (number_passes word value unsigned is) stops, take_word word rest, drop_word word rest, read_word) refl

-- a number begins with a digit, which is no letter
digit_first : (base : ℕ) (digits front : List ℕ) → Written base digits front → list_all (is_digit_in base) digits ≡ true → (d : ℕ) × (more : List ℕ) × (front ≡ d ∷ more) × (is_digit d ≡ true)
unfolding is_digit
digit_first base digits front (decimal d more e other) all =
    let first : list_all (is_digit_in 10) (d ∷ more) ≡ true = rw e at all in
    (d, more, e, decimal_is_digit d (and_parts (is_digit_in 10 d) _ first).0)
digit_first base digits front (octal e) all = (48, digits, e, refl)
digit_first base digits front (hexadecimal x d more e is whole) all = (48, x ∷ digits, whole, refl)

pub number_first : (word : List ℕ) (value : ℕ) (unsigned : Bool) → IsNumber word value unsigned → (d : ℕ) × (more : List ℕ) × (word ≡ d ∷ more) × (is_digit d ≡ true)
number_first word value unsigned is =
    let front : (d : ℕ) × (more : List ℕ) × (is.front ≡ d ∷ more) × (is_digit d ≡ true) = digit_first is.base is.digits is.front is.written is.all_digits in
    (front.0, front.1 ++ is.suffix, is.split ∙ ap (λ t. t ++ is.suffix) front.2, front.3)
