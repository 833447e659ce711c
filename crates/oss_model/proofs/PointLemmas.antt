-- What is read as a point is the text of one, and the text of one is read as it.
use Rattle.std.proofs.Common.{◌≡◌, ◌≤◌, ◌<◌, ◌+◌, ◌-◌, ◌*◌, ◌/◌, ◌%◌, ℕ, refl, sym, ap, subst, ◌∙◌, List, [], ◌∷◌, ◌++◌, length, arith, Bool, true, false, Option, Some, None, if◌then◌else◌}
use Rattle.std.specs.Prelude.{◌==◌, ◌&&◌, ◌↔◌, nat_le, nat_lt, option_and_then, slice_get}
use Rattle.std.specs.Fmt.{decimal}
use Rattle.std.specs.List.{AllByRecursion, flat_map}
use Rattle.std.specs.Cmp.Lexicographic.{slice_cmp}
use Rattle.std.specs.Ordering.{MatchOrdering, nat_cmp, ordering_then}
use Rattle.std.specs.declared.cmp.Ordering.{Ordering}
use Rattle.std.specs.declared.cmp.Ordering.TheVariants.{Less, Equal, Greater}
use Rattle.std.proofs.lemmas.Bool.Decides.{nat_tests}
use Rattle.std.proofs.lemmas.Fmt.{decimal_by_steps, decimal_digit, decimal_step}
use Rattle.std.proofs.lemmas.List.{append_assoc}
use Rattle.oss_model.specs.Order.{IsBefore, shorter, less, same}
use Rattle.oss_model.specs.Points.{IsPointText, IsSmall, IsTaskPoint, continued, in_front, is_digit, kept_point, numbers_from, text_of, with_dot}

-- What was written of a number that has begun.
abbrev begun : Option ℕ → List ℕ
begun None = []
begun (Some n) = decimal n

abbrev IsSmallIfAny : Option ℕ → Type 0
IsSmallIfAny None = Unit {0}
IsSmallIfAny (Some n) = IsSmall n

-- one more digit

digit_after_none : (b m : ℕ) → continued None b ≡ Some m → (b ∷ [] ≡ decimal m) × (m < 65536)
digit_after_none b m e = by (is_digit b) refl e where
  by : (t : Bool) → is_digit b ≡ t → (if t then Some (b - 48) else None) ≡ Some m → (b ∷ [] ≡ decimal m) × (m < 65536)
  by true d f =
      let is : b - 48 ≡ m = cc in
      let low : 48 ≤ b = grind (arith, nat_tests) in
      let high : b ≤ 57 = grind (arith, nat_tests) in
      let small : m < 10 = omega arith in
      let whole : b ≡ 48 + m = omega arith in
      (ap (λ d. d ∷ []) whole ∙ sym (decimal_digit m small), omega arith)
  by false d f = cc

digit_after : (n b m : ℕ) → continued (Some n) b ≡ Some m → (decimal n ++ b ∷ [] ≡ decimal m) × (m < 65536)
digit_after n b m e = by (is_digit b) (n == 0) (nat_lt (n * 10 + (b - 48)) 65536) refl refl refl e where
  by : (t u v : Bool) → is_digit b ≡ t → (n == 0) ≡ u → nat_lt (n * 10 + (b - 48)) 65536 ≡ v → (if t then (if u then None else (if v then Some (n * 10 + (b - 48)) else None)) else None) ≡ Some m → (decimal n ++ b ∷ [] ≡ decimal m) × (m < 65536)
  by true false true d z s f =
      let is : n * 10 + (b - 48) ≡ m = cc in
      let low : 48 ≤ b = grind (arith, nat_tests) in
      let high : b ≤ 57 = grind (arith, nat_tests) in
      let some : 0 < n = grind (arith, nat_tests) in
      let small : m < 65536 = grind (arith, nat_tests) in
      let front : m / 10 ≡ n = omega arith in
      let last : 48 + m % 10 ≡ b = omega arith in
      (sym (decimal_step m (omega arith) (omega arith) ∙ ap (λ k. decimal k ++ (48 + m % 10) ∷ []) front ∙ ap (λ d. decimal n ++ d ∷ []) last), small)
  by true true v d z s f = cc
  by true false false d z s f = cc
  by false u v d z s f = cc

one_more : (c : Option ℕ) (b m : ℕ) → continued c b ≡ Some m → (begun c ++ b ∷ [] ≡ decimal m) × (m < 65536)
one_more None b m e = digit_after_none b m e
one_more (Some n) b m e = digit_after n b m e

-- what was read is the text of what was found

record Found (c : Option ℕ) (text p : List ℕ) : Type 0 where
  first : ℕ
  more : List ℕ
  is : p ≡ first ∷ more
  whole : begun c ++ text ≡ decimal first ++ flat_map with_dot more
  small : AllByRecursion IsSmall (first ∷ more)

found_in : (text : List ℕ) (c : Option ℕ) (p : List ℕ) → IsSmallIfAny c → numbers_from c text ≡ Some p → Found c text p
found_in [] None p s e = cc
found_in [] (Some n) p s e = record { first = n; more = []; is = cc; whole = refl; small = (s, tt) }
found_in (b ∷ rest) c p s e = by (b == 46) refl (λ q g. found_in rest None q tt g) (λ m small g. found_in rest (Some m) p small g) e where
  dot : (c : Option ℕ) (found : Option (List ℕ)) → IsSmallIfAny c → b ≡ 46 → ((q : List ℕ) → found ≡ Some q → Found None rest q) → in_front c found ≡ Some p → Found c (b ∷ rest) p
  dot None found s is go f = cc
  dot (Some n) None s is go f = cc
  dot (Some n) (Some q) s is go f =
      let inner = go q refl in
      record {
        first = n;
        more = inner.first ∷ inner.more;
        is = let eq : n ∷ q ≡ p = cc in sym eq ∙ ap (λ xs. n ∷ xs) inner.is;
        whole = ap (λ xs. decimal n ++ xs) (ap (λ d. d ∷ rest) is ∙ ap (λ xs. 46 ∷ xs) inner.whole);
        small = (s, inner.small);
      }

  digit : (o : Option ℕ) → continued c b ≡ o → ((m : ℕ) → IsSmall m → numbers_from (Some m) rest ≡ Some p → Found (Some m) rest p) → option_and_then (λ n. numbers_from (Some n) rest) o ≡ Some p → Found c (b ∷ rest) p
  digit None is go f = cc
  digit (Some m) is go f =
      let step = one_more c b m is in
      let inner = go m step.1 f in
      record {
        first = inner.first;
        more = inner.more;
        is = inner.is;
        whole = sym (append_assoc (begun c) (b ∷ []) rest) ∙ ap (λ xs. xs ++ rest) step.0 ∙ inner.whole;
        small = inner.small;
      }

  by : (t : Bool) → (b == 46) ≡ t → ((q : List ℕ) → numbers_from None rest ≡ Some q → Found None rest q) → ((m : ℕ) → IsSmall m → numbers_from (Some m) rest ≡ Some p → Found (Some m) rest p)
      → (if t then in_front c (numbers_from None rest) else option_and_then (λ n. numbers_from (Some n) rest) (continued c b)) ≡ Some p → Found c (b ∷ rest) p
  by true is behind_dot behind_digit f = dot c (numbers_from None rest) s (grind (arith, nat_tests)) behind_dot f
  by false is behind_dot behind_digit f = digit (continued c b) refl behind_digit f

pub text_is : (text p : List ℕ) → numbers_from None text ≡ Some p → (text ≡ text_of p) × AllByRecursion IsSmall p
text_is text p e = let f = found_in text None p tt e in rw f.is (f.whole, f.small)

-- the text of numbers is read as these

next_digit : (c : Option ℕ) (b m : ℕ) (rest : List ℕ) → (b == 46) ≡ false → continued c b ≡ Some m → numbers_from c (b ∷ rest) ≡ numbers_from (Some m) rest
next_digit c b m rest e f = rw (e, f) refl

first_digit_is : (n : ℕ) → n < 10 → continued None (48 + n) ≡ Some n
first_digit_is n h = grind (arith, nat_tests)

later_digit_is : (n : ℕ) → 10 ≤ n → n < 65536 → continued (Some (n / 10)) (48 + n % 10) ≡ Some n
later_digit_is n low high =
    let digit : is_digit (48 + n % 10) ≡ true = grind (arith, nat_tests) in
    let some : (n / 10 == 0) ≡ false = grind (arith, nat_tests) in
    let back : n / 10 * 10 + (48 + n % 10 - 48) ≡ n = omega arith in
    let small : nat_lt n 65536 ≡ true = grind (arith, nat_tests) in
    rw (digit, some, back, small) refl

IsRead : ℕ → List ℕ → Type 0
IsRead n ds = n < 65536 → (rest : List ℕ) → numbers_from None (ds ++ rest) ≡ numbers_from (Some n) rest

number_read : (n : ℕ) → n < 65536 → (rest : List ℕ) → numbers_from None (decimal n ++ rest) ≡ numbers_from (Some n) rest
unfolding IsRead
number_read n small = decimal_by_steps IsRead one more n (omega arith) small where
  one : (n : ℕ) → n < 10 → IsRead n ((48 + n) ∷ [])
  one n h small rest = next_digit None (48 + n) n rest (grind (arith, nat_tests)) (first_digit_is n h)

  more : (n : ℕ) (ds : List ℕ) → 10 ≤ n → IsRead (n / 10) ds → IsRead n (ds ++ ((48 + n % 10) ∷ []))
  more n ds low so_far small rest =
      ap (numbers_from None) (append_assoc ds ((48 + n % 10) ∷ []) rest)
      ∙ so_far (omega arith) ((48 + n % 10) ∷ rest)
      ∙ next_digit (Some (n / 10)) (48 + n % 10) n rest (grind (arith, nat_tests)) (later_digit_is n low small)

numbers_read : (n : ℕ) (more : List ℕ) → AllByRecursion IsSmall more → numbers_from (Some n) (flat_map with_dot more) ≡ Some (n ∷ more)
numbers_read n [] s = refl
numbers_read n (m ∷ more) s = ap (in_front (Some n)) (number_read m s.0 (flat_map with_dot more) ∙ numbers_read m more s.1)

pub text_read : (p : List ℕ) → slice_get p 0 ≡ Some 0 → AllByRecursion IsSmall p → numbers_from None (text_of p) ≡ Some p
text_read [] main s = cc
text_read (n ∷ more) main s = number_read n s.0 (flat_map with_dot more) ∙ numbers_read n more s.1

-- the two as one

kept_task : (p : List ℕ) → IsTaskPoint p → kept_point (Some p) ≡ Some p
kept_task [] h = let e = h.0.main in cc
kept_task (n ∷ more) h = let e = h.0.main in let z : n ≡ 0 = cc in let short = h.1 in grind (arith, nat_tests)

task_kept : (p q : List ℕ) → AllByRecursion IsSmall p → kept_point (Some p) ≡ Some q → (p ≡ q) × IsTaskPoint p
task_kept [] q s e = cc
task_kept (n ∷ more) q s e = by (n == 0) (nat_le (length (n ∷ more)) 65) refl refl e where
  by : (t u : Bool) → (n == 0) ≡ t → nat_le (length (n ∷ more)) 65 ≡ u → (if t && u then Some (n ∷ more) else None) ≡ Some q → (n ∷ more ≡ q) × IsTaskPoint (n ∷ more)
  by true true z l f =
      let is : n ≡ 0 = grind (arith, nat_tests) in
      let short : length (n ∷ more) ≤ 65 = grind (arith, nat_tests) in
      (cc, (record { main = ap (λ k. Some k) is; short = omega arith; small = s }, short))
  by true false z l f = cc
  by false u z l f = cc

pub point_read : (text p : List ℕ) → (kept_point (numbers_from None text) ≡ Some p) ↔ IsPointText text p
point_read text p = (there, back) where
  there : kept_point (numbers_from None text) ≡ Some p → IsPointText text p
  there e = by (numbers_from None text) refl e where
    by : (o : Option (List ℕ)) → numbers_from None text ≡ o → kept_point o ≡ Some p → IsPointText text p
    by None is f = cc
    by (Some q) is f =
        let t = text_is text q is in
        let k = task_kept q p t.1 f in
        rw (← k.0) (k.1, t.0)

  back : IsPointText text p → kept_point (numbers_from None text) ≡ Some p
  back h = ap (λ t. kept_point (numbers_from None t)) h.1 ∙ ap kept_point (text_read p h.0.0.main h.0.0.small) ∙ kept_task p h.0

-- numbers behind those that were read, if they are there
abbrev pub behind : List ℕ → Option (List ℕ) → Option (List ℕ)
behind front None = None
behind front (Some more) = Some (front ++ more)

pub behind_none : (o : Option (List ℕ)) → behind [] o ≡ o
behind_none None = refl
behind_none (Some more) = refl

-- one more number was read
pub behind_more : (front : List ℕ) (n : ℕ) (o : Option (List ℕ)) → behind (front ++ n ∷ []) o ≡ behind front (in_front (Some n) o)
behind_more front n None = refl
behind_more front n (Some more) = ap (λ xs. Some xs) (append_assoc front (n ∷ []) more)

-- the order of points is that of lists

ordered_more : (x : ℕ) (xs ys : List ℕ) (o : Ordering) → MatchOrdering o (IsBefore xs ys) (xs ≡ ys) (IsBefore ys xs) → MatchOrdering o (IsBefore (x ∷ xs) (x ∷ ys)) (x ∷ xs ≡ x ∷ ys) (IsBefore (x ∷ ys) (x ∷ xs))
ordered_more x xs ys Less h = same h
ordered_more x xs ys Equal h = ap (λ zs. x ∷ zs) h
ordered_more x xs ys Greater h = same h

pub ordered : (xs ys : List ℕ) → MatchOrdering (slice_cmp nat_cmp xs ys) (IsBefore xs ys) (xs ≡ ys) (IsBefore ys xs)
ordered [] [] = refl
ordered [] (y ∷ ys) = shorter
ordered (x ∷ xs) [] = shorter
ordered (x ∷ xs) (y ∷ ys) = by (nat_lt x y) (x == y) refl refl (ordered xs ys) where
  by : (t u : Bool) → nat_lt x y ≡ t → (x == y) ≡ u → MatchOrdering (slice_cmp nat_cmp xs ys) (IsBefore xs ys) (xs ≡ ys) (IsBefore ys xs)
      → MatchOrdering (ordering_then (if t then Less else (if u then Equal else Greater)) (slice_cmp nat_cmp xs ys)) (IsBefore (x ∷ xs) (y ∷ ys)) (x ∷ xs ≡ y ∷ ys) (IsBefore (y ∷ ys) (x ∷ xs))
  by true u l s h = less (grind (arith, nat_tests))
  by false true l s h =
      let is : x ≡ y = grind (arith, nat_tests) in
      subst (λ z. MatchOrdering (slice_cmp nat_cmp xs ys) (IsBefore (x ∷ xs) (z ∷ ys)) (x ∷ xs ≡ z ∷ ys) (IsBefore (z ∷ ys) (x ∷ xs))) is (ordered_more x xs ys (slice_cmp nat_cmp xs ys) h)
  by false false l s h = less (grind (arith, nat_tests))
