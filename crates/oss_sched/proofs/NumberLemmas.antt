-- What is read as a number is the decimal text of one, and the decimal text of one is read as it.
use Rattle.std.proofs.Common.{◌≡◌, ◌≤◌, ◌<◌, ◌+◌, ◌-◌, ◌*◌, ◌/◌, ◌%◌, ◌^◌, ℕ, refl, sym, ap, ◌∙◌, List, [], ◌∷◌, ◌++◌, arith, Bool, true, false, Option, Some, None, if◌then◌else◌}
use Rattle.std.specs.Prelude.{◌==◌, ◌&&◌, nat_le, nat_lt, option_and_then}
use Rattle.std.specs.Fmt.{decimal}
use Rattle.std.proofs.lemmas.Bool.{ltb-true, lt-ltb, le-leb, leb-true}
use Rattle.std.proofs.lemmas.Bool.Decides.{nat_tests}
use Rattle.std.proofs.lemmas.Fmt.{decimal_by_steps, decimal_digit, decimal_step}
use Rattle.std.proofs.lemmas.List.{append_assoc, append-nil}
use Rattle.oss_model.specs.Points.{is_digit}
use Rattle.oss_sched.specs.Reading.{kept_within, number_from, number_in, number_with}

-- what was written of a number that has begun
abbrev begun : Option ℕ → List ℕ
begun None = []
begun (Some n) = decimal n

abbrev IsSmallIfAny : Option ℕ → Type 0
IsSmallIfAny None = Unit {0}
IsSmallIfAny (Some n) = n < 2 ^ 64

-- one more digit

digit_after_none : (b m : ℕ) → number_with None b ≡ Some m → (b ∷ [] ≡ decimal m) × (m < 2 ^ 64)
digit_after_none b m e = by (is_digit b) refl e where
  by : (t : Bool) → is_digit b ≡ t → (if t then Some (b - 48) else None) ≡ Some m → (b ∷ [] ≡ decimal m) × (m < 2 ^ 64)
  by true d f =
      let is : b - 48 ≡ m = cc in
      let low : 48 ≤ b = grind (arith, nat_tests) in
      let high : b ≤ 57 = grind (arith, nat_tests) in
      let small : m < 10 = omega arith in
      let split : b ≡ 48 + m = omega arith in
      (ap (λ d. d ∷ []) split ∙ sym (decimal_digit m small), omega arith)
  by false d f = cc

digit_after : (n b m : ℕ) → number_with (Some n) b ≡ Some m → (decimal n ++ b ∷ [] ≡ decimal m) × (m < 2 ^ 64)
digit_after n b m e = by (is_digit b) (n == 0) (nat_lt (n * 10 + (b - 48)) (2 ^ 64)) refl refl refl e where
  by : (t u v : Bool) → is_digit b ≡ t → (n == 0) ≡ u → nat_lt (n * 10 + (b - 48)) (2 ^ 64) ≡ v → (if t then (if u then None else (if v then Some (n * 10 + (b - 48)) else None)) else None) ≡ Some m → (decimal n ++ b ∷ [] ≡ decimal m) × (m < 2 ^ 64)
  by true false true d z s f =
      let is : n * 10 + (b - 48) ≡ m = cc in
      let low : 48 ≤ b = grind (arith, nat_tests) in
      let high : b ≤ 57 = grind (arith, nat_tests) in
      let some : 0 < n = grind (arith, nat_tests) in
      let below : n * 10 + (b - 48) < 2 ^ 64 = ltb-true (n * 10 + (b - 48)) (2 ^ 64) s in
      let small : m < 2 ^ 64 = rw is at below in
      let front : m / 10 ≡ n = omega arith in
      let last : 48 + m % 10 ≡ b = omega arith in
      (sym (decimal_step m (omega arith) small ∙ ap (λ k. decimal k ++ (48 + m % 10) ∷ []) front ∙ ap (λ d. decimal n ++ d ∷ []) last), small)
  by true true v d z s f = cc
  by true false false d z s f = cc
  by false u v d z s f = cc

one_more : (c : Option ℕ) (b m : ℕ) → number_with c b ≡ Some m → (begun c ++ b ∷ [] ≡ decimal m) × (m < 2 ^ 64)
one_more None b m e = digit_after_none b m e
one_more (Some n) b m e = digit_after n b m e

-- what was read is the text of the number

taken_from : (text : List ℕ) (c : Option ℕ) (m : ℕ) → IsSmallIfAny c → number_from c text ≡ Some m → (begun c ++ text ≡ decimal m) × (m < 2 ^ 64)
taken_from [] None m small e = cc
taken_from [] (Some n) m small e = let is : n ≡ m = cc in rw (← is) (append-nil (decimal n), small)
taken_from (b ∷ rest) c m small e = by (number_with c b) refl (λ k low f. taken_from rest (Some k) m low f) e where
  by : (o : Option ℕ) → number_with c b ≡ o → ((k : ℕ) → k < 2 ^ 64 → number_from (Some k) rest ≡ Some m → (decimal k ++ rest ≡ decimal m) × (m < 2 ^ 64)) → option_and_then (λ n. number_from (Some n) rest) o ≡ Some m → (begun c ++ b ∷ rest ≡ decimal m) × (m < 2 ^ 64)
  by None is go f = cc
  by (Some k) is go f =
      let step = one_more c b k is in
      let inner = go k step.1 f in
      (sym (append_assoc (begun c) (b ∷ []) rest) ∙ ap (λ xs. xs ++ rest) step.0 ∙ inner.0, inner.1)

pub number_taken : (text : List ℕ) (m : ℕ) → number_from None text ≡ Some m → text ≡ decimal m
number_taken text m e = (taken_from text None m tt e).0

-- the text of a number is read as it

next_digit : (c : Option ℕ) (b m : ℕ) (rest : List ℕ) → number_with c b ≡ Some m → number_from c (b ∷ rest) ≡ number_from (Some m) rest
next_digit c b m rest e = rw e refl

first_digit_is : (n : ℕ) → n < 10 → number_with None (48 + n) ≡ Some n
first_digit_is n h = grind (arith, nat_tests)

later_digit_is : (n : ℕ) → 10 ≤ n → n < 2 ^ 64 → number_with (Some (n / 10)) (48 + n % 10) ≡ Some n
later_digit_is n low high =
    let digit : is_digit (48 + n % 10) ≡ true = grind (arith, nat_tests) in
    let some : (n / 10 == 0) ≡ false = grind (arith, nat_tests) in
    let back : n / 10 * 10 + (48 + n % 10 - 48) ≡ n = omega arith in
    let small : nat_lt n (2 ^ 64) ≡ true = lt-ltb n (2 ^ 64) high in
    rw (digit, some, back, small) refl

IsRead : ℕ → List ℕ → Type 0
IsRead n ds = n < 2 ^ 64 → (rest : List ℕ) → number_from None (ds ++ rest) ≡ number_from (Some n) rest

number_read : (n : ℕ) → n < 2 ^ 64 → (rest : List ℕ) → number_from None (decimal n ++ rest) ≡ number_from (Some n) rest
unfolding IsRead
number_read n small = decimal_by_steps IsRead one more n small small where
  one : (n : ℕ) → n < 10 → IsRead n ((48 + n) ∷ [])
  one n h small rest = next_digit None (48 + n) n rest (first_digit_is n h)

  more : (n : ℕ) (ds : List ℕ) → 10 ≤ n → IsRead (n / 10) ds → IsRead n (ds ++ ((48 + n % 10) ∷ []))
  more n ds low so_far small rest =
      ap (number_from None) (append_assoc ds ((48 + n % 10) ∷ []) rest)
      ∙ so_far (omega arith) ((48 + n % 10) ∷ rest)
      ∙ next_digit (Some (n / 10)) (48 + n % 10) n rest (later_digit_is n low small)

pub number_again : (n : ℕ) → n < 2 ^ 64 → number_from None (decimal n) ≡ Some n
number_again n small = ap (number_from None) (sym (append-nil (decimal n))) ∙ number_read n small []

-- the same between two bounds

kept_taken : (least most : ℕ) (o : Option ℕ) (n : ℕ) → kept_within least most o ≡ Some n → (o ≡ Some n) × (least ≤ n) × (n ≤ most)
kept_taken least most None n e = cc
kept_taken least most (Some m) n e = by (nat_le least m) (nat_le m most) refl refl e where
  by : (t u : Bool) → nat_le least m ≡ t → nat_le m most ≡ u → (if t && u then Some m else None) ≡ Some n → (Some m ≡ Some n) × (least ≤ n) × (n ≤ most)
  by true true low high f =
      let is : m ≡ n = cc in
      let above : least ≤ m = leb-true least m low in
      let below : m ≤ most = leb-true m most high in
      (f, omega arith, omega arith)
  by true false low high f = cc
  by false u low high f = cc

pub within_taken : (least most : ℕ) (word : List ℕ) (n : ℕ) → number_in least most word ≡ Some n → (word ≡ decimal n) × (least ≤ n) × (n ≤ most)
unfolding number_in
within_taken least most word n e =
    let kept = kept_taken least most (number_from None word) n e in
    (number_taken word n kept.0, kept.1, kept.2)

pub within_again : (least most n : ℕ) → least ≤ n → n ≤ most → n < 2 ^ 64 → number_in least most (decimal n) ≡ Some n
unfolding number_in
within_again least most n low high small =
    rw (number_again n small, le-leb least n low, le-leb n most high) refl
