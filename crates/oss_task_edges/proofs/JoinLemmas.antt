-- Edges that are put together of parts that tell all of a child are the edges to it; and how parts in the order of their earlier children are put together.
use Rattle.std.proofs.Common.{◌≡◌, ℕ, zero, suc, ◌+◌, ◌-◌, ◌≤◌, ◌<◌, ◌⊎◌, inl, inr, refl, sym, subst, ap, ◌∙◌, arith, Bool, true, false, List, [], ◌∷◌, ◌++◌, length, take, drop, get_or}
use Rattle.std.specs.Prelude.{◌||◌, not}
use Rattle.std.specs.List.{Contains}
use Rattle.std.specs.List.Sorted.{IsNonDecreasingBy, IsPermutation}
use Rattle.std.proofs.lemmas.List.Sorted.{Contains-permutation, IsPermutation-sym}
use Rattle.oss_syntax.specs.declared.tree.program.Item.{Item}
use Rattle.oss_model.specs.Order.{IsIn, here, there}
use Rattle.oss_model.proofs.SortLemmas.{in_append, in_last, in_left}
use Rattle.oss_task_graph.specs.declared.graph.Edge.{Edge}
use Rattle.oss_task_graph.specs.Edges.{Accesses, AreEdges, IsEdge, IsStrongAt, RiseTo, StandsAt}
use Rattle.oss_task_graph.specs.Groups.{are_strong}
use Rattle.oss_task_edges.specs.declared.part.Part.{Part}
use Rattle.oss_task_edges.specs.Parts.{AreJoined, AreParts, IsGathered, IsJoined, IsPartOf, IsRunOf, Rise, any_strong, in_part, in_parts}
use Rattle.oss_task_edges.proofs.EnterLemmas.{within_so}
use Rattle.oss_task_edges.proofs.GroupLemmas.{stands_up}

never : (b : Bool) → b ≡ true → b ≡ false → ⊥
never b h k = let e : true ≡ false = sym h ∙ k in cc

-- Parts that tell all of a child

module _ (items : List Item) (accesses : Accesses) (n : ℕ) (parts : List Part) (tell : AreParts accesses n parts) where
  -- a part has a cell
  first_cell : (p : Part) → in_part p p.range.lo ≡ true
  first_cell p = within_so p.range.lo p.range.hi p.range.lo (omega arith) p.range.ordered

  stands_by : (p : Part) (from c : ℕ) → IsPartOf parts from p → in_part p c ≡ true → StandsAt accesses from n c × (p.strong ≡ are_strong (accesses from c) (accesses n c))
  stands_by p from c h e = subst (λ (k : ℕ). StandsAt accesses k n c × (p.strong ≡ are_strong (accesses k c) (accesses n c))) h.from_is (tell.only p h.there c e)

  edge_is : (e : Edge) → IsJoined items parts e → IsEdge items accesses n e
  edge_is e h =
      record {
        test = h.test;
        pieces = h.pieces;
        only = λ c t. let p = h.only c t in (stands_by p.0 e.from c p.1.0 p.1.1).0;
        every = λ c s. let p = tell.every e.from c s in h.every p.part (record { there = p.there; from_is = p.from_is }) c p.cell;
        some = let p = h.some in (p.0.range.lo, h.every p.0 p.1 p.0.range.lo (first_cell p.0));
        weak = λ w c s. weak w c s;
        strong = λ w. let p = h.strong w in
            let s = stands_by p.0 e.from p.0.range.lo p.1.0 (first_cell p.0) in
            (p.0.range.lo, record { stands = s.0; strong = sym s.1 ∙ p.1.1 });
      }
    where
      weak : e.weak ≡ true → (c : ℕ) → IsStrongAt accesses e.from n c → ⊥
      weak w c s =
          let p = tell.every e.from c s.stands in
          let of : IsPartOf parts e.from p.part = record { there = p.there; from_is = p.from_is } in
          let k = stands_by p.part e.from c of p.cell in
          never p.part.strong (k.1 ∙ s.strong) (h.weak w p.part of)

  from_below : (e : Edge) → IsJoined items parts e → e.from < n
  from_below e h =
      let p = h.some in
      stands_up (λ i. accesses i p.0.range.lo) e.from n (stands_by p.0 e.from p.0.range.lo p.1 (first_cell p.0)).0

  rise_to : (es : List Edge) → Rise es → ((e : Edge) → IsIn e es → e.from < n) → RiseTo n es
  rise_to [] r below = tt
  rise_to (e ∷ []) r below = below e here
  rise_to (e ∷ d ∷ more) r below = (r.0, rise_to (d ∷ more) r.1 (λ x i. below x (there i)))

  pub edges_are : (es : List Edge) → AreJoined items parts es → AreEdges items accesses n es
  edges_are es h =
      record {
        rise = rise_to es h.rise (λ e i. from_below e (h.each e i));
        each = λ e i. edge_is e (h.each e i);
        every = λ j c s. let p = tell.every j c s in let e = h.every p.part p.there in (e.0, (e.1.0, e.1.1 ∙ p.from_is));
      }

-- Parts in another order

contains_in : {A : Type 0} (x : A) (xs : List A) → IsIn x xs → Contains xs x
contains_in x _ (here {xs = xs}) = (0, omega arith, refl)
contains_in x _ (there {y = y} {xs = xs} i) = let r = contains_in x xs i in (suc r.0, (let l = r.1 in omega (arith, l)), r.2)

in_contains : {A : Type 0} (xs : List A) (x : A) → Contains xs x → IsIn x xs
in_contains {A = A} xs x (k, l, e) = go xs k l e
  where
    go : (ys : List A) (k : ℕ) → k < length ys → get_or ys k x ≡ x → IsIn x ys
    go [] k l e = absurd (omega (arith, l))
    go (y ∷ ys) zero l e = subst (λ z. IsIn z (y ∷ ys)) e here
    go (y ∷ ys) (suc k) l e = there (go ys k (omega (arith, l)) e)

module _ (items : List Item) (xs ys : List Part) (p : IsPermutation xs ys) where
  forth : (x : Part) → IsIn x xs → IsIn x ys
  forth x i = in_contains ys x (Contains-permutation xs ys x p (contains_in x xs i))

  back : (x : Part) → IsIn x ys → IsIn x xs
  back x i = in_contains xs x (Contains-permutation ys xs x (IsPermutation-sym xs ys p) (contains_in x ys i))

  of_back : (from : ℕ) (x : Part) → IsPartOf ys from x → IsPartOf xs from x
  of_back from x h = record { there = back x h.there; from_is = h.from_is }

  of_forth : (from : ℕ) (x : Part) → IsPartOf xs from x → IsPartOf ys from x
  of_forth from x h = record { there = forth x h.there; from_is = h.from_is }

  joined_one : (e : Edge) → IsJoined items ys e → IsJoined items xs e
  joined_one e h =
      record {
        test = h.test;
        pieces = h.pieces;
        only = λ c t. let r = h.only c t in (r.0, (of_back e.from r.0 r.1.0, r.1.1));
        every = λ x o c t. h.every x (of_forth e.from x o) c t;
        some = let r = h.some in (r.0, of_back e.from r.0 r.1);
        weak = λ w x o. h.weak w x (of_forth e.from x o);
        strong = λ w. let r = h.strong w in (r.0, (of_back e.from r.0 r.1.0, r.1.1));
      }

  pub joined_as : (es : List Edge) → AreJoined items ys es → AreJoined items xs es
  joined_as es h = record { rise = h.rise; each = λ e i. joined_one e (h.each e i); every = λ x i. h.every x (forth x i) }

-- Parts in the order of their earlier children, run by run

in_parts_so : (ys : List Part) (c : ℕ) → in_parts ys c ≡ true → (p : Part) × (IsIn p ys × (in_part p c ≡ true))
in_parts_so [] c e = absurd cc
in_parts_so (y ∷ ys) c e = go (in_part y c) refl e (λ f. in_parts_so ys c f)
  where
    go : (b : Bool) → in_part y c ≡ b → (b || in_parts ys c) ≡ true → (in_parts ys c ≡ true → (p : Part) × (IsIn p ys × (in_part p c ≡ true))) → (p : Part) × (IsIn p (y ∷ ys) × (in_part p c ≡ true))
    go true k f again = (y, (here, k))
    go false k f again = let r = again f in (r.0, (there r.1.0, r.1.1))

parts_in : (p : Part) (c : ℕ) (ys : List Part) → IsIn p ys → in_part p c ≡ true → in_parts ys c ≡ true
parts_in p c _ (here {xs = ys}) e = ap (λ (b : Bool). b || in_parts ys c) e
parts_in p c _ (there {y = y} {xs = ys} i) e = ap (λ (b : Bool). in_part y c || b) (parts_in p c ys i e) ∙ or_true (in_part y c)
  where
    or_true : (x : Bool) → (x || true) ≡ true
    or_true true = refl
    or_true false = refl

strong_so : (ys : List Part) → any_strong ys ≡ true → (p : Part) × (IsIn p ys × (p.strong ≡ true))
strong_so [] e = absurd cc
strong_so (y ∷ ys) e = go y.strong refl e (λ f. strong_so ys f)
  where
    go : (b : Bool) → y.strong ≡ b → (b || any_strong ys) ≡ true → (any_strong ys ≡ true → (p : Part) × (IsIn p ys × (p.strong ≡ true))) → (p : Part) × (IsIn p (y ∷ ys) × (p.strong ≡ true))
    go true k f again = (y, (here, k))
    go false k f again = let r = again f in (r.0, (there r.1.0, r.1.1))

none_strong : (p : Part) (ys : List Part) → any_strong ys ≡ false → IsIn p ys → p.strong ≡ false
none_strong p _ e (here {xs = ys}) = (or_false p.strong (any_strong ys) e).0
  where
    or_false : (x y : Bool) → (x || y) ≡ false → (x ≡ false) × (y ≡ false)
    or_false true y f = absurd cc
    or_false false y f = (refl, f)
none_strong p _ e (there {y = y} {xs = ys} i) = none_strong p ys (or_false y.strong (any_strong ys) e).1 i
  where
    or_false : (x y : Bool) → (x || y) ≡ false → (x ≡ false) × (y ≡ false)
    or_false true y f = absurd cc
    or_false false y f = (refl, f)

not_not : (b : Bool) → not b ≡ true → b ≡ false
not_not true e = absurd cc
not_not false e = refl

not_so : (b : Bool) → not b ≡ false → b ≡ true
not_so true e = refl
not_so false e = absurd cc

rise_more : (es : List Edge) (e : Edge) → Rise es → ((x : Edge) → IsIn x es → x.from < e.from) → Rise (es ++ e ∷ [])
rise_more [] e r below = tt
rise_more (x ∷ []) e r below = (below x here, tt)
rise_more (x ∷ y ∷ more) e r below = (r.0, rise_more (y ∷ more) e r.1 (λ z i. below z (there i)))

-- These are the edges of the parts before a place.
pub record AreEdgesTo (items : List Item) (xs : List Part) (at : ℕ) (es : List Edge) : Type 0 where
  pub rise : Rise es
  pub each : (e : Edge) → IsIn e es → IsJoined items xs e
  pub below : (e : Edge) → IsIn e es → at < length xs → (d : Part) → e.from < (get_or xs at d).from
  pub every : (i : ℕ) (d : Part) → i < at → (e : Edge) × (IsIn e es × (e.from ≡ (get_or xs i d).from))

pub edges_none : (items : List Item) (xs : List Part) → AreEdgesTo items xs 0 []
edges_none items xs = record { rise = tt; each = λ e i. absurd (elim i [ ]); below = λ e i. absurd (elim i [ ]); every = λ i d l. absurd (omega (arith, l)) }

pub edges_all : (items : List Item) (xs : List Part) (at : ℕ) (es : List Edge) → length xs ≤ at → AreEdgesTo items xs at es → AreJoined items xs es
edges_all items xs at es past h =
    record {
      rise = h.rise;
      each = h.each;
      every = λ p i. (let k = contains_in p xs i in
          let l = k.1 in
          let r = h.every k.0 p (omega (arith, l, past)) in
          (r.0, (r.1.0, r.1.1 ∙ ap (λ (x : Part). x.from) k.2)));
    }

module _ (items : List Item) (xs : List Part) (at end : ℕ) (ys : List Part) (e : Edge) (es : List Edge) (sorted : IsNonDecreasingBy (λ (p : Part). p.from) xs) (run : IsRunOf xs at end)
    (size : length ys ≡ end - at) (same_items : (i : ℕ) (d : Part) → i < end - at → get_or ys i d ≡ get_or xs (at + i) d) (g : IsGathered items ys e) (h : AreEdgesTo items xs at es) where
  from_first : (d : Part) → e.from ≡ (get_or xs at d).from
  from_first d =
      let some = run.some in
      let zero_place : at + 0 ≡ at = omega arith in
      g.from d ∙ ap (λ (x : Part). x.from) (same_items 0 d (omega (arith, some)) ∙ ap (λ k. get_or xs k d) zero_place)

  in_run : (p : Part) → IsIn p ys → IsPartOf xs e.from p
  in_run p i =
      let k = contains_in p ys i in
      let l = k.1 in
      let some = run.some in
      let within = run.within in
      let is : get_or xs (at + k.0) p ≡ p = sym (same_items k.0 p (omega (arith, l, size))) ∙ k.2 in
      let same_from = run.same (at + k.0) p (omega arith) (omega (arith, l, size)) in
      record {
        there = in_contains xs p (at + k.0, omega (arith, l, size, within), is);
        from_is = sym (ap (λ (x : Part). x.from) is) ∙ same_from ∙ sym (from_first p);
      }

  of_run : (p : Part) → IsPartOf xs e.from p → IsIn p ys
  of_run p o = go (contains_in p xs o.there)
    where
      go : Contains xs p → IsIn p ys
      go (i, l, is) =
          let some = run.some in
          let within = run.within in
          let from_is : (get_or xs i p).from ≡ (get_or xs at p).from = ap (λ (x : Part). x.from) is ∙ o.from_is ∙ from_first p in
          let low : at ≤ i = not_early (order i at) from_is in
          let high : i < end = not_late (order i end) l from_is in
          let back : at + (i - at) ≡ i = omega (arith, low) in
          in_contains ys p (i - at, omega (arith, low, high, size), same_items (i - at) p (omega (arith, low, high)) ∙ ap (λ k. get_or xs k p) back ∙ is)
        where
          order : (a b : ℕ) → (a < b) ⊎ (b ≤ a)
          order a b = grind arith

          not_early : (i < at) ⊎ (at ≤ i) → (get_or xs i p).from ≡ (get_or xs at p).from → at ≤ i
          not_early (inr k) q = k
          not_early (inl k) q =
              let r = h.every i p k in
              let some = run.some in
              let within = run.within in
              let b = h.below r.0 r.1.0 (omega (arith, some, within)) p in
              let f = r.1.1 in
              absurd (omega (arith, b, f, q))

          not_late : (i < end) ⊎ (end ≤ i) → i < length xs → (get_or xs i p).from ≡ (get_or xs at p).from → i < end
          not_late (inl k) l q = k
          not_late (inr k) l q =
              let some = run.some in
              let a : (get_or xs end p).from ≤ (get_or xs i p).from = sorted end i p k l in
              let b : (get_or xs at p).from ≤ (get_or xs end p).from = sorted at end p (omega (arith, some)) (omega (arith, k, l)) in
              absurd (run.other p (omega (arith, k, l)) (omega (arith, a, b, q)))

  first_part : (zs : List Part) → 0 < length zs → (p : Part) × IsIn p zs
  first_part [] l = absurd (omega (arith, l))
  first_part (z ∷ zs) l = (z, here)

  pub joined_here : IsJoined items xs e
  joined_here =
      record {
        test = g.test;
        pieces = g.pieces;
        only = λ c t. let r = in_parts_so ys c (sym (g.cells c) ∙ t) in (r.0, (in_run r.0 r.1.0, r.1.1));
        every = λ p o c t. g.cells c ∙ parts_in p c ys (of_run p o) t;
        some = (let some = run.some in let r = first_part ys (omega (arith, some, size)) in (r.0, in_run r.0 r.1));
        weak = λ w p o. none_strong p ys (not_not (any_strong ys) (sym g.weak ∙ w)) (of_run p o);
        strong = λ w. let r = strong_so ys (not_so (any_strong ys) (sym g.weak ∙ w)) in (r.0, (in_run r.0 r.1.0, r.1.1));
      }

  pub edges_more : AreEdgesTo items xs end (es ++ e ∷ [])
  edges_more =
      record {
        rise = rise_more es e h.rise earlier;
        each = λ x i. each x (in_append es i);
        below = λ x i l d. below x l d (in_append es i);
        every = λ i d l. every i d l (order i at);
      }
    where
      order : (a b : ℕ) → (a < b) ⊎ (b ≤ a)
      order a b = grind arith

      -- any part will do
      d0 : Part
      d0 = (let some = run.some in (first_part ys (omega (arith, some, size))).0)

      earlier : (x : Edge) → IsIn x es → x.from < e.from
      earlier x i =
          let some = run.some in
          let within = run.within in
          let b = h.below x i (omega (arith, some, within)) d0 in
          let f = from_first d0 in
          omega (arith, b, f)

      each : (x : Edge) → IsIn x es ⊎ (x ≡ e) → IsJoined items xs x
      each x (inl i) = h.each x i
      each x (inr q) = subst (λ (y : Edge). IsJoined items xs y) (sym q) joined_here

      further : (d : Part) → end < length xs → e.from < (get_or xs end d).from
      further d l =
          let some = run.some in
          let f = from_first d in
          let b : (get_or xs at d).from ≤ (get_or xs end d).from = sorted at end d (omega (arith, some)) l in
          less (order e.from (get_or xs end d).from) f b
        where
          less : (e.from < (get_or xs end d).from) ⊎ ((get_or xs end d).from ≤ e.from) → e.from ≡ (get_or xs at d).from → (get_or xs at d).from ≤ (get_or xs end d).from → e.from < (get_or xs end d).from
          less (inl k) f b = k
          less (inr k) f b = absurd (run.other d l (omega (arith, k, f, b)))

      below : (x : Edge) → end < length xs → (d : Part) → IsIn x es ⊎ (x ≡ e) → x.from < (get_or xs end d).from
      below x l d (inl i) = let a = earlier x i in let b = further d l in omega (arith, a, b)
      below x l d (inr q) = subst (λ (y : Edge). y.from < (get_or xs end d).from) (sym q) (further d l)

      every : (i : ℕ) (d : Part) → i < end → (i < at) ⊎ (at ≤ i) → (x : Edge) × (IsIn x (es ++ e ∷ []) × (x.from ≡ (get_or xs i d).from))
      every i d l (inl k) = let r = h.every i d k in (r.0, (in_left e es r.1.0, r.1.1))
      every i d l (inr k) = (e, (in_last es, from_first d ∙ sym (run.same i d k l)))

-- Parts of a slice

taken_size : {A : Type 0} (n : ℕ) (xs : List A) → n ≤ length xs → length (take n xs) ≡ n
taken_size zero [] h = refl
taken_size zero (x ∷ xs) h = refl
taken_size (suc n) [] h = absurd (omega (arith, h))
taken_size (suc n) (x ∷ xs) h = ap suc (taken_size n xs (omega (arith, h)))

taken_at : {A : Type 0} (n i : ℕ) (xs : List A) (d : A) → i < n → get_or (take n xs) i d ≡ get_or xs i d
taken_at zero i xs d h = absurd (omega (arith, h))
taken_at (suc n) i [] d h = refl
taken_at (suc n) zero (x ∷ xs) d h = refl
taken_at (suc n) (suc i) (x ∷ xs) d h = taken_at n i xs d (omega (arith, h))

left_at : {A : Type 0} (n i m : ℕ) (xs : List A) (d : A) → n + i ≡ m → get_or (drop n xs) i d ≡ get_or xs m d
left_at zero i m [] d e = refl
left_at zero i m (x ∷ xs) d e = let same : i ≡ m = omega (arith, e) in ap (λ k. get_or (x ∷ xs) k d) same
left_at (suc n) i m [] d e = refl
left_at (suc n) i zero (x ∷ xs) d e = absurd (omega (arith, e))
left_at (suc n) i (suc m) (x ∷ xs) d e = left_at n i m xs d (omega (arith, e))

left_size : {A : Type 0} (n m : ℕ) (xs : List A) → n + m ≤ length xs → m ≤ length (drop n xs)
left_size zero m [] h = omega (arith, h)
left_size zero m (x ∷ xs) h = omega (arith, h)
left_size (suc n) m [] h = absurd (omega (arith, h))
left_size (suc n) m (x ∷ xs) h = left_size n m xs (omega (arith, h))

pub slice_size : (xs : List Part) (at end : ℕ) → at < end → end ≤ length xs → length (take (end - at) (drop at xs)) ≡ end - at
slice_size xs at end some within = taken_size (end - at) (drop at xs) (left_size at (end - at) xs (omega (arith, some, within)))

pub slice_at : (xs : List Part) (at end i : ℕ) (d : Part) → i < end - at → get_or (take (end - at) (drop at xs)) i d ≡ get_or xs (at + i) d
slice_at xs at end i d h = taken_at (end - at) i (drop at xs) d h ∙ left_at at i (at + i) xs d refl
