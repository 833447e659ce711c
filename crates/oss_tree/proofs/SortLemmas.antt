-- What stands behind prints in point order: the same things, in that order, and those of one point in the order that they had.
use Rattle.std.proofs.Common.{◌≡◌, ℕ, ◌⊎◌, inl, inr, refl, sym, ap, subst, ◌∙◌, Bool, true, false, List, [], ◌∷◌, map}
use Rattle.std.specs.Prelude.{cond}
use Rattle.std.specs.List.{filter}
use Rattle.std.specs.Cmp.Lexicographic.{bytes_decides}
use Rattle.oss_model.specs.Order.{IsBefore, IsIn, here, there}
use Rattle.oss_model.proofs.OrderLemmas.{Compared, before as is_before, equal, after, compare}
use Rattle.oss_tree.specs.declared.output.Print.{Print}
use Rattle.oss_tree.specs.Output.{NoneFalls, is_at}
use Rattle.oss_tree.specs.Runs.{Precedes, first, later}
use Rattle.oss_tree.proofs.OutputLemmas.{other_point}

at_own : (x : Print) → is_at x.at x ≡ true
at_own x = (bytes_decides x.at x.at).1 refl

point_is : (p : List ℕ) (x : Print) → is_at p x ≡ true → p ≡ x.at
point_is p x e = (bytes_decides p x.at).0 e

in_mapped : {X : Type 0} (print : X → Print) {z : X} (xs : List X) → IsIn z xs → IsIn (print z) (map print xs)
in_mapped print [] i = elim i [ ]
in_mapped print (x ∷ xs) here = here
in_mapped print (x ∷ xs) (there i) = there (in_mapped print xs i)

module _ {X : Type 0} (print : X → Print) where
  -- the list without the first that stands at a point
  record Taken (p : List ℕ) (y : Print) (more : List Print) (xs : List X) : Type 0 where
    x : X
    rest : List X
    is : print x ≡ y
    same : filter (is_at p) (map print rest) ≡ more
    other : (q : List ℕ) → (q ≡ p → ⊥) → filter (is_at q) (map print rest) ≡ filter (is_at q) (map print xs)
    member : IsIn x xs
    only : (z : X) → IsIn z rest → IsIn z xs
    all : (z : X) → IsIn z xs → (z ≡ x) ⊎ IsIn z rest
    front : (z : X) → IsIn z rest → p ≡ (print z).at → Precedes x z xs
    kept : (z w : X) → Precedes z w rest → Precedes z w xs

  head_is : {A : Type 0} (x y : A) (xs ys : List A) → x ∷ xs ≡ y ∷ ys → x ≡ y
  head_is x y xs ys e = cc

  tail_is : {A : Type 0} (x y : A) (xs ys : List A) → x ∷ xs ≡ y ∷ ys → xs ≡ ys
  tail_is x y xs ys e = cc

  -- behind one that stands elsewhere
  past : {p : List ℕ} {y : Print} {more : List Print} {xs : List X} (z : X) → is_at p (print z) ≡ false → Taken p y more xs → Taken p y more (z ∷ xs)
  past {p = p} {y = y} {more = more} {xs = xs} z b t =
      record {
        x = t.x;
        rest = z ∷ t.rest;
        is = t.is;
        same = ap (λ (b : Bool). cond b (print z ∷ filter (is_at p) (map print t.rest)) (filter (is_at p) (map print t.rest))) b ∙ t.same;
        other = λ q ne. ap (λ (zs : List Print). cond (is_at q (print z)) (print z ∷ zs) zs) (t.other q ne);
        member = there t.member;
        only = λ w i. only_in w i;
        all = λ w i. all_in w i;
        front = λ w i h. front_in w i h;
        kept = λ v w h. kept_in v w h;
      }
    where
      only_in : (w : X) → IsIn w (z ∷ t.rest) → IsIn w (z ∷ xs)
      only_in w here = here
      only_in w (there i) = there (t.only w i)

      all_in : (w : X) → IsIn w (z ∷ xs) → (w ≡ t.x) ⊎ IsIn w (z ∷ t.rest)
      all_in w here = inr here
      all_in w (there i) = go (t.all w i)
        where
          go : (w ≡ t.x) ⊎ IsIn w t.rest → (w ≡ t.x) ⊎ IsIn w (z ∷ t.rest)
          go (inl e) = inl e
          go (inr j) = inr (there j)

      not_here : p ≡ (print z).at → ⊥
      not_here h = let e = sym ((bytes_decides p (print z).at).1 h) ∙ b in cc

      front_in : (w : X) → IsIn w (z ∷ t.rest) → p ≡ (print w).at → Precedes t.x w (z ∷ xs)
      front_in w here h = absurd (not_here h)
      front_in w (there i) h = later (t.front w i h)

      kept_in : (v w : X) → Precedes v w (z ∷ t.rest) → Precedes v w (z ∷ xs)
      kept_in v w (first i) = first (t.only w i)
      kept_in v w (later h) = later (t.kept v w h)

  taken : (p : List ℕ) (y : Print) (more : List Print) (xs : List X) → filter (is_at p) (map print xs) ≡ y ∷ more → Taken p y more xs
  taken p y more [] e = cc
  taken p y more (z ∷ xs) e = go (is_at p (print z)) refl (λ f. taken p y more xs f)
    where
      go : (b : Bool) → is_at p (print z) ≡ b → (filter (is_at p) (map print xs) ≡ y ∷ more → Taken p y more xs) → Taken p y more (z ∷ xs)
      go true b f =
          let g : print z ∷ filter (is_at p) (map print xs) ≡ y ∷ more = ap (λ (b : Bool). cond b (print z ∷ filter (is_at p) (map print xs)) (filter (is_at p) (map print xs))) (sym b) ∙ e in
          record {
            x = z;
            rest = xs;
            is = head_is (print z) y (filter (is_at p) (map print xs)) more g;
            same = tail_is (print z) y (filter (is_at p) (map print xs)) more g;
            other = λ q ne. ap (λ (b : Bool). cond b (print z ∷ filter (is_at q) (map print xs)) (filter (is_at q) (map print xs))) (sym (other_point q (print z).at (λ h. ne (h ∙ sym (point_is p (print z) b)))));
            member = here;
            only = λ w i. there i;
            all = λ w i. elim_in w i;
            front = λ w i h. first i;
            kept = λ v w h. later h;
          }
        where
          elim_in : (w : X) → IsIn w (z ∷ xs) → (w ≡ z) ⊎ IsIn w xs
          elim_in w here = inl refl
          elim_in w (there i) = inr i
      go false b f =
          let g : filter (is_at p) (map print xs) ≡ y ∷ more = ap (λ (b : Bool). cond b (print z ∷ filter (is_at p) (map print xs)) (filter (is_at p) (map print xs))) (sym b) ∙ e in
          past z b (f g)

  -- what stands in point order behind the shown prints

  abbrev pub Earlier : List X → X → X → Type 0
  Earlier xs y z = IsBefore (print y).at (print z).at ⊎ (((print y).at ≡ (print z).at) × Precedes y z xs)

  abbrev pub AreOrdered : List X → List X → Type 0
  AreOrdered xs [] = Unit {0}
  AreOrdered xs (y ∷ ys) = ((z : X) → IsIn z ys → Earlier xs y z) × AreOrdered xs ys

  pub record Lifted (xs : List X) (shown : List Print) : Type 0 where
    pub list : List X
    pub is : map print list ≡ shown
    pub only : (z : X) → IsIn z list → IsIn z xs
    pub all : (z : X) → IsIn z xs → IsIn z list
    pub ordered : AreOrdered xs list

  more_ordered : (xs zs ys : List X) → ((y z : X) → Precedes y z zs → Precedes y z xs) → AreOrdered zs ys → AreOrdered xs ys
  more_ordered xs zs [] kept h = tt
  more_ordered xs zs (y ∷ ys) kept h = (λ z i. go z (h.0 z i), more_ordered xs zs ys kept h.1)
    where
      go : (z : X) → Earlier zs y z → Earlier xs y z
      go z (inl b) = inl b
      go z (inr (e, p)) = inr (e, kept y z p)

  nothing_left : (xs : List X) → ((p : List ℕ) → [] ≡ filter (is_at p) (map print xs)) → (z : X) → IsIn z xs → ⊥
  nothing_left [] h z i = elim i [ ]
  nothing_left (x ∷ xs) h z i = let e = h (print x).at ∙ ap (λ (b : Bool). cond b (print x ∷ filter (is_at (print x).at) (map print xs)) (filter (is_at (print x).at) (map print xs))) (at_own (print x)) in cc

  pub lifted : (shown : List Print) (xs : List X) → NoneFalls shown → ((p : List ℕ) → filter (is_at p) shown ≡ filter (is_at p) (map print xs)) → Lifted xs shown
  lifted [] xs rises same = record { list = []; is = refl; only = λ z i. elim i [ ]; all = λ z i. absurd (nothing_left xs same z i); ordered = tt }
  lifted (y ∷ shown) xs rises same = put (lifted shown t.rest rises.1 (λ p. rest_same p (which_point p)))
    where
      t : Taken y.at y (filter (is_at y.at) shown) xs
      t = taken y.at y (filter (is_at y.at) shown) xs (sym (same y.at) ∙ ap (λ (b : Bool). cond b (y ∷ filter (is_at y.at) shown) (filter (is_at y.at) shown)) (at_own y))

      which_point : (p : List ℕ) → (p ≡ y.at) ⊎ (p ≡ y.at → ⊥)
      which_point p = go (is_at p y) refl
        where
          go : (b : Bool) → is_at p y ≡ b → (p ≡ y.at) ⊎ (p ≡ y.at → ⊥)
          go true e = inl (point_is p y e)
          go false e = inr (λ h. let f = sym ((bytes_decides p y.at).1 h) ∙ e in cc)

      rest_same : (p : List ℕ) → (p ≡ y.at) ⊎ (p ≡ y.at → ⊥) → filter (is_at p) shown ≡ filter (is_at p) (map print t.rest)
      rest_same p (inl e) = ap (λ (q : List ℕ). filter (is_at q) shown) e ∙ sym t.same ∙ ap (λ (q : List ℕ). filter (is_at q) (map print t.rest)) (sym e)
      rest_same p (inr ne) = ap (λ (b : Bool). cond b (y ∷ filter (is_at p) shown) (filter (is_at p) shown)) (sym (other_point p y.at ne)) ∙ same p ∙ sym (t.other p ne)

      put : Lifted t.rest shown → Lifted xs (y ∷ shown)
      put r =
          record {
            list = t.x ∷ r.list;
            is = (λ i. t.is i ∷ r.is i);
            only = λ z i. only z i;
            all = λ z i. all z (t.all z i);
            ordered = (λ z i. earlier z i (compare y.at (print z).at), more_ordered xs t.rest r.list t.kept r.ordered);
          }
        where
          only : (z : X) → IsIn z (t.x ∷ r.list) → IsIn z xs
          only z here = t.member
          only z (there i) = t.only z (r.only z i)

          all : (z : X) → (z ≡ t.x) ⊎ IsIn z t.rest → IsIn z (t.x ∷ r.list)
          all z (inl e) = subst (λ (w : X). IsIn w (t.x ∷ r.list)) (sym e) here
          all z (inr i) = there (r.all z i)

          shown_in : (z : X) → IsIn z r.list → IsIn (print z) shown
          shown_in z i = subst (IsIn (print z)) r.is (in_mapped print r.list i)

          earlier : (z : X) → IsIn z r.list → Compared y.at (print z).at → Earlier xs t.x z
          earlier z i (is_before b) = inl (subst (λ (w : Print). IsBefore w.at (print z).at) (sym t.is) b)
          earlier z i (equal e) = inr (ap (λ (w : Print). w.at) t.is ∙ e, t.front z (r.only z i) e)
          earlier z i (after b) = absurd (rises.0 (print z) (shown_in z i) b)
