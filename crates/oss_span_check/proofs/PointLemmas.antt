-- Points as paths: which stands below which, and where two part.
use Rattle.std.proofs.Common.{◌≡◌, ℕ, zero, suc, ◌+◌, ◌<◌, ◌≤◌, ◌⊎◌, inl, inr, refl, sym, subst, ap, ◌∙◌, Bool, true, false, List, [], ◌∷◌, ◌++◌, length, reverse, take, drop, Some, None, arith, append_assoc}
use Rattle.std.specs.Prelude.{nat_eq, nat_lt, ◌-◌, ◌&&◌, if◌then◌else◌}
use Rattle.std.specs.Cmp.Lexicographic.{bytes_decides}
use Rattle.std.proofs.lemmas.Bool.Decides.{nat_tests}
use Rattle.std.proofs.lemmas.List.{append-nil, length-append, length-reverse, reverse-append, reverse-reverse, take-append-drop}
use Rattle.oss_model.specs.Order.{IsSuffix, whole, longer, written}
use Rattle.oss_model.proofs.OrderLemmas.{reverse_cons, suffix_full, suffix_length, suffix_linear}
use Rattle.oss_span_check.specs.Points.{below, parted, same_point}
use Rattle.oss_span_check.specs.Queries.{is_child}

parted_none : (n : ℕ) (xs : List ℕ) → parted n xs [] ≡ None
parted_none n [] = refl
parted_none n (x ∷ xs) = refl

drop_all : (n : ℕ) (xs : List ℕ) → length xs ≤ n → drop n xs ≡ []
drop_all zero [] l = refl
drop_all (suc n) [] l = refl
drop_all zero (x ∷ xs) l = absurd (omega (arith, l))
drop_all (suc n) (x ∷ xs) l = drop_all n xs (omega (arith, l))

-- where the second is at its end, they do not part
pub part_end : (at : ℕ) (later earlier : List ℕ) → parted 0 later earlier ≡ parted at (drop at later) (drop at earlier) → length earlier ≤ at → None ≡ parted 0 later earlier
part_end at later earlier e l = sym (e ∙ (ap (λ (xs : List ℕ). parted at (drop at later) xs) (drop_all at earlier l) ∙ parted_none at (drop at later)))

pub same_is : {p q : List ℕ} → same_point p q ≡ true → p ≡ q
same_is {p = p} {q = q} e = (bytes_decides p q).0 e

pub same_self : (p : List ℕ) → same_point p p ≡ true
same_self p = (bytes_decides p p).1 refl

-- one path has one point
pub written_same : (p q : List ℕ) → written p ≡ written q → p ≡ q
written_same p q e = sym (reverse-reverse p) ∙ ap (λ (x : List ℕ). reverse x) (rest (reverse p) (reverse q) e) ∙ reverse-reverse q
  where
    rest : (xs ys : List ℕ) → 0 ∷ xs ≡ 0 ∷ ys → xs ≡ ys
    rest xs ys h = cc

-- a point goes on behind those of the tasks above
pub record Cut (u q : List ℕ) : Type 0 where
  pub rest : List ℕ
  pub point : written q ≡ written u ++ rest

pub cut : {u q : List ℕ} → IsSuffix u q → Cut u q
cut {u = u} whole = record { rest = []; point = sym (append-nil (written u)) }
cut {u = u} (longer {y = y} {ys = ys} h) =
    let c = cut h in
    record { rest = c.rest ++ y ∷ []; point = ap (λ (x : List ℕ). 0 ∷ x) (reverse_cons y ys) ∙ (ap (λ (x : List ℕ). x ++ y ∷ []) c.point ∙ append_assoc (written u) c.rest (y ∷ [])) }

suffix_onto : (xs u : List ℕ) → IsSuffix u (xs ++ u)
suffix_onto [] u = whole
suffix_onto (x ∷ xs) u = longer (suffix_onto xs u)

pub uncut : (u q rest : List ℕ) → written q ≡ written u ++ rest → IsSuffix u q
uncut u q rest e = subst (λ (x : List ℕ). IsSuffix u x) (sym path) (suffix_onto (reverse rest) u)
  where
    tail : (xs ys : List ℕ) → 0 ∷ xs ≡ 0 ∷ ys → xs ≡ ys
    tail xs ys h = cc

    path : q ≡ reverse rest ++ u
    path = sym (reverse-reverse q) ∙ (ap (λ (x : List ℕ). reverse x) (tail (reverse q) (reverse u ++ rest) e) ∙ (reverse-append (reverse u) rest ∙ ap (λ (x : List ℕ). reverse rest ++ x) (reverse-reverse u)))

pub child_point : (p : List ℕ) (k : ℕ) → written (k ∷ p) ≡ written p ++ k ∷ []
child_point p k = ap (λ (x : List ℕ). 0 ∷ x) (reverse_cons k p)

take_front : (xs ys : List ℕ) → take (length xs) (xs ++ ys) ≡ xs
take_front [] ys = grind arith
take_front (x ∷ xs) ys = ap (λ (zs : List ℕ). x ∷ zs) (take_front xs ys)

pub length_child : (p : List ℕ) (k : ℕ) → length (written (k ∷ p)) ≡ suc (length (written p))
length_child p k = ap (λ (x : List ℕ). length x) (child_point p k) ∙ (length-append (written p) (k ∷ []) ∙ (omega arith))

-- the point of a task is in front of those below it
pub take_written : {u q : List ℕ} → IsSuffix u q → take (length (written u)) (written q) ≡ written u
take_written {u = u} h = let c = cut h in ap (λ (x : List ℕ). take (length (written u)) x) c.point ∙ take_front (written u) c.rest

pub take_child : {q : List ℕ} (i : ℕ) (p : List ℕ) → IsSuffix (i ∷ p) q → take (suc (length (written p))) (written q) ≡ written (i ∷ p)
take_child {q = q} i p h = ap (λ (n : ℕ). take n (written q)) (sym (length_child p i)) ∙ take_written h

-- which stands below which

and_both : {a b : Bool} → a ≡ true → b ≡ true → (a && b) ≡ true
and_both {a = a} {b = b} e f = ap (λ (x : Bool). x && b) e ∙ f

pub and_parts : (a b : Bool) → (a && b) ≡ true → (a ≡ true) × (b ≡ true)
and_parts true b h = (refl, h)
and_parts false b h = absurd cc

pub path_below : (i : ℕ) (p : List ℕ) {q : List ℕ} → IsSuffix (i ∷ p) q → below (written p) (written q) ≡ true
path_below i p {q = q} h = and_both less (ap (λ (x : List ℕ). same_point (written p) x) (take_written (drop_one h)) ∙ same_self (written p))
  where
    drop_one : {xs : List ℕ} → IsSuffix (i ∷ p) xs → IsSuffix p xs
    drop_one whole = longer whole
    drop_one (longer k) = longer (drop_one k)

    less : nat_lt (length (written p)) (length (written q)) ≡ true
    less = let c = cut h in let e : length (written q) ≡ length (written (i ∷ p) ++ c.rest) = ap (λ (x : List ℕ). length x) c.point in let f = length_child p i in go (length (written p)) (length (written q)) (length (written (i ∷ p))) (length c.rest) (e ∙ length-append (written (i ∷ p)) c.rest) f
      where
        go : (a b c d : ℕ) → b ≡ c + d → c ≡ suc a → nat_lt a b ≡ true
        go a b c d e f = grind (arith, nat_tests)

pub record Below (p q : List ℕ) : Type 0 where
  pub number : ℕ
  pub below : IsSuffix (number ∷ p) q
  pub child : take (suc (length (written p))) (written q) ≡ written (number ∷ p)

pub below_path : (p q : List ℕ) → below (written p) (written q) ≡ true → Below p q
below_path p q h = go (drop (length (written p)) (written q)) refl
  where
    parts : (nat_lt (length (written p)) (length (written q)) ≡ true) × (same_point (written p) (take (length (written p)) (written q)) ≡ true)
    parts = and_parts _ _ h

    front : written q ≡ written p ++ drop (length (written p)) (written q)
    front = sym (take-append-drop (length (written p)) (written q)) ∙ ap (λ (x : List ℕ). x ++ drop (length (written p)) (written q)) {y = written p} (sym (same_is {p = written p} {q = take (length (written p)) (written q)} parts.1))

    many : (a b c : ℕ) → nat_lt a b ≡ true → b ≡ a + c → 1 ≤ c
    many a b c e f = grind (arith, nat_tests)

    go : (rest : List ℕ) → drop (length (written p)) (written q) ≡ rest → Below p q
    go [] e =
        let f : written q ≡ written p ++ [] = front ∙ ap (λ (x : List ℕ). written p ++ x) e in
        let g : length (written q) ≡ length (written p) + 0 = ap (λ (x : List ℕ). length x) f ∙ length-append (written p) [] in
        absurd (omega (arith, many (length (written p)) (length (written q)) 0 parts.0 g))
    go (i ∷ rest) e =
        let f : written q ≡ written p ++ i ∷ rest = front ∙ ap (λ (x : List ℕ). written p ++ x) e in
        let g : written q ≡ written (i ∷ p) ++ rest = f ∙ (sym (append_assoc (written p) (i ∷ []) rest) ∙ ap (λ (x : List ℕ). x ++ rest) (sym (child_point p i))) in
        let s = uncut (i ∷ p) q rest g in
        record { number = i; below = s; child = take_child i p s }

-- where two part

record Parting (n : ℕ) (xs ys : List ℕ) (d : ℕ) : Type 0 where
  front : List ℕ
  first : ℕ
  second : ℕ
  rest : List ℕ
  others : List ℕ
  less : first < second
  later_is : xs ≡ front ++ second ∷ rest
  earlier_is : ys ≡ front ++ first ∷ others
  place : d ≡ n + length front

is_same : (x y : ℕ) → nat_eq x y ≡ true → x ≡ y
is_same x y e = grind (arith, nat_tests)

is_less : (x y : ℕ) → nat_lt x y ≡ true → x < y
is_less x y e = grind (arith, nat_tests)

some_same : {A : Type 0} {x y : A} → Some x ≡ Some y → x ≡ y
some_same h = cc

bools : (b : Bool) → (b ≡ true) ⊎ (b ≡ false)
bools true = inl refl
bools false = inr refl

parting : (n : ℕ) (xs ys : List ℕ) (d : ℕ) → parted n xs ys ≡ Some d → Parting n xs ys d
parting n [] ys d h = absurd cc
parting n (x ∷ xs) [] d h = absurd cc
parting n (x ∷ xs) (y ∷ ys) d h = go (bools (nat_eq x y)) (bools (nat_lt y x)) (λ e. parting (suc n) xs ys d e)
  where
    go : (nat_eq x y ≡ true) ⊎ (nat_eq x y ≡ false) → (nat_lt y x ≡ true) ⊎ (nat_lt y x ≡ false) → (parted (suc n) xs ys ≡ Some d → Parting (suc n) xs ys d) → Parting n (x ∷ xs) (y ∷ ys) d
    go (inl e) o again =
        let f : parted (suc n) xs ys ≡ Some d = sym (ap (λ (b : Bool). if b then parted (suc n) xs ys else (if nat_lt y x then Some n else None)) e) ∙ h in
        let r = again f in
        record {
          front = x ∷ r.front;
          first = r.first;
          second = r.second;
          rest = r.rest;
          others = r.others;
          less = r.less;
          later_is = ap (λ (zs : List ℕ). x ∷ zs) r.later_is;
          earlier_is = ap (λ (z : ℕ). z ∷ ys) (sym (is_same x y e)) ∙ ap (λ (zs : List ℕ). x ∷ zs) r.earlier_is;
          place = let p = r.place in omega (arith, p);
        }
    go (inr e) (inl l) again =
        let f : Some n ≡ Some d = sym (ap (λ (b : Bool). if b then parted (suc n) xs ys else (if nat_lt y x then Some n else None)) e ∙ ap (λ (b : Bool). if b then Some n else None) l) ∙ h in
        record { front = []; first = y; second = x; rest = xs; others = ys; less = is_less y x l; later_is = refl; earlier_is = refl; place = sym (some_same f) ∙ (omega arith) }
    go (inr e) (inr l) again =
        let f : None ≡ Some d = sym (ap (λ (b : Bool). if b then parted (suc n) xs ys else (if nat_lt y x then Some n else None)) e ∙ ap (λ (b : Bool). if b then Some n else None) l) ∙ h in
        absurd cc

parts_at : (n : ℕ) (front : List ℕ) (i j : ℕ) (rest others : List ℕ) → i < j → parted n (front ++ j ∷ rest) (front ++ i ∷ others) ≡ Some (n + length front)
parts_at n [] i j rest others l =
    let e : nat_eq j i ≡ false = grind (arith, nat_tests) in
    let f : nat_lt i j ≡ true = grind (arith, nat_tests) in
    ap (λ (b : Bool). if b then parted (suc n) rest others else (if nat_lt i j then Some n else None)) e ∙ (ap (λ (b : Bool). if b then Some n else None) f ∙ ap (λ (m : ℕ). Some m) (omega arith))
parts_at n (x ∷ xs) i j rest others l =
    let e : nat_eq x x ≡ true = grind (arith, nat_tests) in
    ap (λ (b : Bool). if b then parted (suc n) (xs ++ j ∷ rest) (xs ++ i ∷ others) else (if nat_lt x x then Some n else None)) e ∙ (parts_at (suc n) xs i j rest others l ∙ ap (λ (m : ℕ). Some m) (omega arith))

-- the second stands below an earlier child of a task than the first
pub record Parts (p q : List ℕ) (d : ℕ) : Type 0 where
  pub path : List ℕ
  pub first : ℕ
  pub second : ℕ
  pub less : first < second
  pub below_first : IsSuffix (first ∷ path) q
  pub below_second : IsSuffix (second ∷ path) p
  pub place : d ≡ length (written path)

pub parted_paths : (p q : List ℕ) (d : ℕ) → parted 0 (written p) (written q) ≡ Some d → Parts p q d
parted_paths p q d h = go (parting 0 (written p) (written q) d h)
  where
    heads : (x y : ℕ) (xs ys : List ℕ) → x ∷ xs ≡ y ∷ ys → x ≡ y
    heads x y xs ys e = cc

    at_path : (k : ℕ) (a r xs : List ℕ) → written r ≡ (0 ∷ a) ++ k ∷ xs → IsSuffix (k ∷ reverse a) r
    at_path k a r xs e =
        let f : written r ≡ written (reverse a) ++ k ∷ xs = e ∙ ap (λ (x : List ℕ). (0 ∷ x) ++ k ∷ xs) (sym (reverse-reverse a)) in
        uncut (k ∷ reverse a) r xs (f ∙ (sym (append_assoc (written (reverse a)) (k ∷ []) xs) ∙ ap (λ (x : List ℕ). x ++ xs) (sym (child_point (reverse a) k))))

    go : Parting 0 (written p) (written q) d → Parts p q d
    go r = by r.front refl
      where
        by : (front : List ℕ) → r.front ≡ front → Parts p q d
        by [] e =
            let f : 0 ∷ reverse p ≡ r.second ∷ r.rest = r.later_is ∙ ap (λ (x : List ℕ). x ++ r.second ∷ r.rest) e in
            let g : 0 ∷ reverse q ≡ r.first ∷ r.others = r.earlier_is ∙ ap (λ (x : List ℕ). x ++ r.first ∷ r.others) e in
            let l = r.less in
            let a = heads 0 r.second (reverse p) r.rest f in
            let b = heads 0 r.first (reverse q) r.others g in
            absurd (omega (arith, l, a, b))
        by (c ∷ cs) e =
            let f : written p ≡ (c ∷ cs) ++ r.second ∷ r.rest = r.later_is ∙ ap (λ (x : List ℕ). x ++ r.second ∷ r.rest) e in
            let g : written q ≡ (c ∷ cs) ++ r.first ∷ r.others = r.earlier_is ∙ ap (λ (x : List ℕ). x ++ r.first ∷ r.others) e in
            let z : c ≡ 0 = sym (heads 0 c (reverse p) (cs ++ r.second ∷ r.rest) f) in
            record {
              path = reverse cs;
              first = r.first;
              second = r.second;
              less = r.less;
              below_first = at_path r.first cs q r.others (g ∙ ap (λ (x : ℕ). (x ∷ cs) ++ r.first ∷ r.others) z);
              below_second = at_path r.second cs p r.rest (f ∙ ap (λ (x : ℕ). (x ∷ cs) ++ r.second ∷ r.rest) z);
              place = r.place ∙ (omega arith ∙ (ap (λ (x : List ℕ). length x) e ∙ ap (λ (x : List ℕ). suc (length x)) (sym (reverse-reverse cs))));
            }

pub paths_parted : (i j : ℕ) (a : List ℕ) {p q : List ℕ} → i < j → IsSuffix (i ∷ a) q → IsSuffix (j ∷ a) p → parted 0 (written p) (written q) ≡ Some (length (written a))
paths_parted i j a {p = p} {q = q} l h g =
    let c = cut h in
    let d = cut g in
    let x : written q ≡ written a ++ i ∷ c.rest = c.point ∙ (ap (λ (y : List ℕ). y ++ c.rest) (child_point a i) ∙ append_assoc (written a) (i ∷ []) c.rest) in
    let y : written p ≡ written a ++ j ∷ d.rest = d.point ∙ (ap (λ (z : List ℕ). z ++ d.rest) (child_point a j) ∙ append_assoc (written a) (j ∷ []) d.rest) in
    ap (λ (z : List ℕ). parted 0 z (written q)) y ∙ (ap (λ (z : List ℕ). parted 0 (written a ++ j ∷ d.rest) z) x ∙ (parts_at 0 (written a) i j d.rest c.rest l ∙ ap (λ (m : ℕ). Some m) (omega arith)))

-- children

pub length_written : (p : List ℕ) → length (written p) ≡ suc (length p)
length_written p = let e : length (reverse p) ≡ length p = length-reverse p in go (length (reverse p)) (length p) e
  where
    go : (a b : ℕ) → a ≡ b → suc a ≡ suc b
    go a b e = ap suc e

pub child_is : (k : ℕ) (p : List ℕ) → is_child (written p) (written (k ∷ p)) ≡ true
child_is k p = and_both (path_below k p whole) (let e = length_child p k in one (length (written (k ∷ p))) (length (written p)) e)
  where
    one : (a b : ℕ) → a ≡ suc b → nat_eq (a - b) 1 ≡ true
    one a b e = grind (arith, nat_tests)

pub is_child_of : (j : ℕ) (p q : List ℕ) → is_child (written p) (written (j ∷ q)) ≡ true → p ≡ q
is_child_of j p q h =
    let g = and_parts (below (written p) (written (j ∷ q))) (nat_eq (length (written (j ∷ q)) - length (written p)) 1) h in
    let b = below_path p (j ∷ q) g.0 in
    let x = length_written p in
    let y = length_written (j ∷ q) in
    let z : length (written (j ∷ q)) - length (written p) ≡ 1 = same (length (written (j ∷ q)) - length (written p)) g.1 in
    let l = suffix_length b.below in
    let e : b.number ∷ p ≡ j ∷ q = suffix_full b.below (omega (arith, x, y, z, l)) in
    tails b.number j p q e
  where
    same : (a : ℕ) → nat_eq a 1 ≡ true → a ≡ 1
    same a e = grind (arith, nat_tests)

    tails : (x y : ℕ) (xs ys : List ℕ) → x ∷ xs ≡ y ∷ ys → xs ≡ ys
    tails x y xs ys e = cc

-- two paths of one length on the way to a third are one
pub same_level : {q : List ℕ} (i j : ℕ) (a b : List ℕ) → IsSuffix (i ∷ a) q → IsSuffix (j ∷ b) q → length (written a) ≡ length (written b) → (i ≡ j) × (a ≡ b)
same_level i j a b h g e =
    let x = length_written a in
    let y = length_written b in
    let f : i ∷ a ≡ j ∷ b = suffix_full (suffix_linear h g (omega (arith, x, y, e))) (omega (arith, x, y, e)) in
    (heads f, tails f)
  where
    heads : i ∷ a ≡ j ∷ b → i ≡ j
    heads f = cc

    tails : i ∷ a ≡ j ∷ b → a ≡ b
    tails f = cc
