-- A stable sort by points gives prints in point order.
use Rattle.std.proofs.Common.{◌≡◌, ℕ, zero, suc, ◌<◌, ◌≤◌, ◌+◌, refl, sym, ap, ◌∙◌, Bool, true, false, List, [], ◌∷◌, ◌++◌, length, take, map, arith, get_or, append_assoc}
use Rattle.std.specs.Prelude.{◌&&◌, not, cond, nat_eq}
use Rattle.std.specs.List.{filter}
use Rattle.std.specs.List.Sorted.{IsSortedBy, IsStableBy, ties}
use Rattle.std.specs.Cmp.{IsStrictWeakOrder}
use Rattle.std.specs.Cmp.Lexicographic.{bytes_decides, pointwise, slice_cmp}
use Rattle.std.specs.Ordering.{MatchOrdering, is_le, is_lt, nat_cmp}
use Rattle.std.specs.declared.cmp.Ordering.{Ordering}
use Rattle.std.specs.declared.cmp.Ordering.TheVariants.{Less, Equal, Greater}
use Rattle.std.proofs.lemmas.Cmp.{nat_list_cmp_total}
use Rattle.std.proofs.lemmas.List.{map-append, take_more}
use Rattle.std.proofs.lemmas.List.Elements.{filter-append}
use Rattle.std.proofs.lemmas.List.MinMax.{ranks_by}
use Rattle.std.proofs.lemmas.List.Sorted.{sorted_far}
use Rattle.oss_model.specs.Order.{IsBefore, IsIn, here, there}
use Rattle.oss_model.proofs.OrderLemmas.{before_not, before_trans}
use Rattle.oss_model.proofs.PointLemmas.{ordered}
use Rattle.oss_tree.specs.declared.output.Print.{Print}
use Rattle.oss_tree.specs.Output.{IsInPointOrder, NoneFalls, is_at, is_up_to, texts}

-- tests of points

pub before_told : (p q : List ℕ) → IsBefore p q → slice_cmp nat_cmp p q ≡ Less
before_told p q h = go (slice_cmp nat_cmp p q) (ordered p q)
  where
    go : (r : Ordering) → MatchOrdering r (IsBefore p q) (p ≡ q) (IsBefore q p) → r ≡ Less
    go Less g = refl
    go Equal g = absurd (before_not h g)
    go Greater g = absurd (before_not (before_trans h g) refl)

pub told_before : (p q : List ℕ) → slice_cmp nat_cmp p q ≡ Less → IsBefore p q
told_before p q e = go (slice_cmp nat_cmp p q) e (ordered p q)
  where
    go : (r : Ordering) → r ≡ Less → MatchOrdering r (IsBefore p q) (p ≡ q) (IsBefore q p) → IsBefore p q
    go Less f g = g
    go Equal f g = cc
    go Greater f g = cc

-- a print is up to a point just where the point is not before it
pub up_to_is : (last : List ℕ) (one : Print) → is_up_to last one ≡ true → IsBefore last one.at → ⊥
up_to_is last one e h = go (slice_cmp nat_cmp one.at last) e (ordered one.at last)
  where
    go : (r : Ordering) → is_le r ≡ true → MatchOrdering r (IsBefore one.at last) (one.at ≡ last) (IsBefore last one.at) → ⊥
    go Less f g = before_not (before_trans h g) refl
    go Equal f g = before_not h (sym g)
    go Greater f g = cc

pub up_to_when : (last : List ℕ) (one : Print) → (IsBefore last one.at → ⊥) → is_up_to last one ≡ true
up_to_when last one n = go (slice_cmp nat_cmp one.at last) (ordered one.at last)
  where
    go : (r : Ordering) → MatchOrdering r (IsBefore one.at last) (one.at ≡ last) (IsBefore last one.at) → is_le r ≡ true
    go Less g = refl
    go Equal g = refl
    go Greater g = absurd (n g)

abbrev ties_of : List ℕ → List ℕ → Bool
ties_of p q = not (is_lt (slice_cmp nat_cmp p q)) && not (is_lt (slice_cmp nat_cmp q p))

pub other_point : (p q : List ℕ) → (p ≡ q → ⊥) → pointwise nat_eq p q ≡ false
other_point p q n = go (pointwise nat_eq p q) refl
  where
    go : (b : Bool) → pointwise nat_eq p q ≡ b → b ≡ false
    go true e = absurd (n ((bytes_decides p q).0 e))
    go false e = refl

-- points tie just where they are one
ties_same : (p q : List ℕ) → ties_of p q ≡ pointwise nat_eq p q
ties_same p q = go (slice_cmp nat_cmp p q) refl (ordered p q)
  where
    first_test : (r : Ordering) → slice_cmp nat_cmp p q ≡ r → ties_of p q ≡ (not (is_lt r) && not (is_lt (slice_cmp nat_cmp q p)))
    first_test r e = ap (λ (r : Ordering). not (is_lt r) && not (is_lt (slice_cmp nat_cmp q p))) e

    back_is : (r : Ordering) → slice_cmp nat_cmp q p ≡ r → p ≡ q → not (is_lt r) ≡ true
    back_is Less e f = absurd (before_not (told_before q p e) (sym f))
    back_is Equal e f = refl
    back_is Greater e f = refl

    go : (r : Ordering) → slice_cmp nat_cmp p q ≡ r → MatchOrdering r (IsBefore p q) (p ≡ q) (IsBefore q p) → ties_of p q ≡ pointwise nat_eq p q
    go Less e g = first_test Less e ∙ sym (other_point p q (λ f. before_not g f))
    go Equal e g = first_test Equal e ∙ back_is (slice_cmp nat_cmp q p) refl g ∙ sym ((bytes_decides p q).1 g)
    go Greater e g = first_test Greater e ∙ ap (λ (r : Ordering). not (is_lt r)) (before_told q p g) ∙ sym (other_point p q (λ f. before_not g (sym f)))

-- filters

filter_alike : {X : Type 0} (f g : X → Bool) → ((x : X) → f x ≡ g x) → (xs : List X) → filter f xs ≡ filter g xs
filter_alike f g e [] = refl
filter_alike f g e (x ∷ xs) = ap (λ (b : Bool). cond b (x ∷ filter f xs) (filter f xs)) (e x) ∙ ap (λ (ys : List _). cond (g x) (x ∷ ys) ys) (filter_alike f g e xs)

cond_map : {X Y : Type 0} (h : X → Y) (b : Bool) (x : X) (xs : List X) → map h (cond b (x ∷ xs) xs) ≡ cond b (h x ∷ map h xs) (map h xs)
cond_map h true x xs = refl
cond_map h false x xs = refl

pub filter_map : {X Y : Type 0} (h : X → Y) (f : Y → Bool) (xs : List X) → filter f (map h xs) ≡ map h (filter (λ x. f (h x)) xs)
filter_map h f [] = refl
filter_map h f (x ∷ xs) = ap (λ (ys : List _). cond (f (h x)) (h x ∷ ys) ys) (filter_map h f xs) ∙ sym (cond_map h (f (h x)) x (filter (λ x. f (h x)) xs))

-- some element passes the test, or none does
data Passes {X : Type 0} (f : X → Bool) (xs : List X) : Type 0 where
  some : (x : X) → f x ≡ true → Passes f xs
  none : filter f xs ≡ [] → Passes f xs

passes : {X : Type 0} (f : X → Bool) (xs : List X) → Passes f xs
passes f [] = none refl
passes f (x ∷ xs) = go (f x) refl (passes f xs)
  where
    go : (b : Bool) → f x ≡ b → Passes f xs → Passes f (x ∷ xs)
    go true e p = some x e
    go false e (some y g) = some y g
    go false e (none g) = none (ap (λ (b : Bool). cond b (x ∷ filter f xs) (filter f xs)) e ∙ g)

-- two lists of elements, of which the second is the first in order

module _ {X : Type 0} (print : X → Print) where
  abbrev pub earlier : X → X → Bool
  earlier x y = is_lt (slice_cmp nat_cmp (print x).at (print y).at)

  pub ranks : IsStrictWeakOrder earlier
  ranks = ranks_by nat_list_cmp_total (λ x. (print x).at)

  not_earlier : (x y : X) → earlier x y ≡ false → IsBefore (print x).at (print y).at → ⊥
  not_earlier x y e h = let f = ap is_lt (before_told (print x).at (print y).at h) in cc

  -- elements of one point tie with each other alone
  ties_are : (x y : X) (p : List ℕ) → is_at p (print x) ≡ true → ties earlier x y ≡ is_at p (print y)
  ties_are x y p e = ap (λ (q : List ℕ). ties_of q (print y).at) (sym ((bytes_decides p (print x).at).0 e)) ∙ ties_same p (print y).at

  -- no point falls

  at_place : (one : X) (ys : List X) (later : Print) → IsIn later (map print ys) → ((j : ℕ) (d : X) → j < length ys → earlier (get_or ys j d) one ≡ false) → IsBefore later.at (print one).at → ⊥
  at_place one [] later i h b = elim i [ ]
  at_place one (y ∷ ys) later here h b = not_earlier y one (h zero y (omega arith)) b
  at_place one (y ∷ ys) later (there i) h b = at_place one ys later i (λ j d l. h (suc j) d (omega (arith, l))) b

  rising : (ys : List X) → ((i j : ℕ) (d : X) → i ≤ j → j < length ys → earlier (get_or ys j d) (get_or ys i d) ≡ false) → NoneFalls (map print ys)
  rising [] h = tt
  rising (y ∷ ys) h = (λ later i b. at_place y ys later i (λ j d l. h zero (suc j) d (omega arith) (omega (arith, l))) b, rising ys (λ i j d l m. h (suc i) (suc j) d (omega (arith, l)) (omega (arith, m))))

  pub in_point_order : (xs ys : List X) → IsSortedBy earlier ys → IsStableBy earlier xs ys → IsInPointOrder (map print xs) (map print ys)
  in_point_order xs ys sorted stable = record {
    rises = rising ys (λ i j d l m. sorted_far earlier ranks ys sorted i j d l m);
    same = λ p. filter_map print (is_at p) ys ∙ ap (map print) (same_at p (passes (λ x. is_at p (print x)) ys) (passes (λ x. is_at p (print x)) xs)) ∙ sym (filter_map print (is_at p) xs);
  }
    where
      by_one : (p : List ℕ) (x : X) → is_at p (print x) ≡ true → filter (λ y. is_at p (print y)) ys ≡ filter (λ y. is_at p (print y)) xs
      by_one p x e =
          let alike = λ (zs : List X). filter_alike (ties earlier x) (λ y. is_at p (print y)) (λ y. ties_are x y p e) zs in
          sym (alike ys) ∙ stable x ∙ alike xs

      same_at : (p : List ℕ) → Passes (λ y. is_at p (print y)) ys → Passes (λ y. is_at p (print y)) xs → filter (λ y. is_at p (print y)) ys ≡ filter (λ y. is_at p (print y)) xs
      same_at p (some x e) q = by_one p x e
      same_at p (none e) (some x f) = by_one p x f
      same_at p (none e) (none f) = e ∙ sym f

-- the texts of one more

texts_last : (xs : List Print) (y : Print) → texts (xs ++ y ∷ []) ≡ texts xs ++ y.text
texts_last [] y = all y.text
  where
    all : (t : List ℕ) → t ++ [] ≡ t
    all [] = refl
    all (x ∷ t) = ap (λ (z : List ℕ). x ∷ z) (all t)
texts_last (x ∷ xs) y = ap (λ (z : List ℕ). x.text ++ z) (texts_last xs y) ∙ sym (append_assoc x.text (texts xs) y.text)

-- the texts of the elements up to a place, and to the next

pub texts_more : {X : Type 0} (print : X → Print) (xs : List X) (i : ℕ) (x : X) (t : List ℕ) → i < length xs → x ≡ get_or xs i x → t ≡ texts (map print (take i xs)) → t ++ (print x).text ≡ texts (map print (take (i + 1) xs))
texts_more print xs i x t l e f =
    ap (λ (z : List ℕ). z ++ (print x).text) f ∙ sym (texts_last (map print (take i xs)) (print x)) ∙ ap texts (sym (map-append print (take i xs) (x ∷ []))
    ∙ ap (λ (y : _). map print (take i xs ++ y ∷ [])) e ∙ ap (map print) (sym (take_more xs i x l)))

-- the prints that are kept of one more

pub kept_more : (f : Print → Bool) (xs shown : List Print) (i : ℕ) (x : Print) → i < length xs → x ≡ get_or xs i x → shown ≡ filter f (take i xs) → f x ≡ true → shown ++ x ∷ [] ≡ filter f (take (i + 1) xs)
kept_more f xs shown i x l e g h =
    let last : filter f (x ∷ []) ≡ x ∷ [] = ap (λ (b : Bool). cond b (x ∷ []) []) h in
    ap (λ (z : List Print). z ++ x ∷ []) g ∙ ap (λ (z : List Print). filter f (take i xs) ++ z) (sym last) ∙ sym (filter-append f (take i xs) (x ∷ []))
    ∙ ap (λ (y : Print). filter f (take i xs ++ y ∷ [])) e ∙ ap (filter f) (sym (take_more xs i x l))

pub left_out : (f : Print → Bool) (xs shown : List Print) (i : ℕ) (x : Print) → i < length xs → x ≡ get_or xs i x → shown ≡ filter f (take i xs) → f x ≡ false → shown ≡ filter f (take (i + 1) xs)
left_out f xs shown i x l e g h =
    let last : filter f (x ∷ []) ≡ [] = ap (λ (b : Bool). cond b (x ∷ []) []) h in
    g ∙ sym (nothing (filter f (take i xs))) ∙ ap (λ (z : List Print). filter f (take i xs) ++ z) (sym last) ∙ sym (filter-append f (take i xs) (x ∷ []))
    ∙ ap (λ (y : Print). filter f (take i xs ++ y ∷ [])) e ∙ ap (filter f) (sym (take_more xs i x l))
  where
    nothing : (z : List Print) → z ++ [] ≡ z
    nothing [] = refl
    nothing (y ∷ z) = ap (λ (w : List Print). y ∷ w) (nothing z)

-- one more of what is lent
pub lent_more : {X : Type 0} (print : X → Print) (items old : List X) (x : X) → items ≡ old ++ x ∷ [] → map print items ≡ map print old ++ print x ∷ []
lent_more print items old x e = ap (map print) e ∙ map-append print old (x ∷ [])
