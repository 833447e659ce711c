-- A book with one row more.
use Rattle.std.proofs.Common.{◌≡◌, ◌≢◌, ◌⊎◌, inl, inr, ℕ, zero, suc, ◌<◌, ◌≤◌, ◌+◌, refl, sym, ap, subst, ◌∙◌, Bool, List, [], ◌∷◌, ◌++◌, length, Option, Some, None, arith}
use Rattle.std.specs.Prelude.{cond, slice_get, slice_index}
use Rattle.std.proofs.lemmas.Bool.Decides.{eqb_tells}
use Rattle.std.proofs.lemmas.List.{length-append}
use Rattle.oss_words.specs.declared.entry.After.{After}
use Rattle.oss_words.specs.declared.entry.After.TheVariants.{FirstOf, FirstOfMain, Sibling}
use Rattle.oss_roles.specs.Roles.{Role, Site, itself}
use Rattle.oss_filing.specs.declared.row.Row.{Row}
use Rattle.oss_filing.specs.Planned.{ArePlanned, IsAbove, of_main, of_task, IsNext, IsRowOf, NoneBefore, StandsAt}
use Rattle.oss_filing.specs.Rows.{row_of}
use Rattle.oss_filing.proofs.Basics.{none_some, same_or, some_is}
use Rattle.oss_filing.proofs.FollowLemmas.{row_within}
use Rattle.oss_rows.specs.declared.book.NewRow.{NewRow}
use Rattle.oss_rows.specs.Booked.{Contents, IsBooked, IsLast, is_none, is_some, IsNew, IsTask, own, other, and_role, behind, last_for, row_for, site_for}

-- rows with one more
pub row_old : (rows : List Row) (x : Row) (e : ℕ) (r : Row) → row_of rows e ≡ Some r → row_of (rows ++ x ∷ []) e ≡ Some r
row_old rows x zero r h = none_some h
row_old rows x (suc n) r h = go rows n h
  where
    go : (rows : List Row) (n : ℕ) → slice_get rows n ≡ Some r → slice_get (rows ++ x ∷ []) n ≡ Some r
    go [] n h = none_some h
    go (y ∷ ys) zero h = h
    go (y ∷ ys) (suc n) h = go ys n h

pub row_new : (rows : List Row) (x : Row) → row_of (rows ++ x ∷ []) (1 + length rows) ≡ Some x
row_new rows x = let e : 1 + length rows ≡ suc (length rows) = omega arith in ap (row_of (rows ++ x ∷ [])) e ∙ go rows
  where
    go : (rows : List Row) → slice_get (rows ++ x ∷ []) (length rows) ≡ Some x
    go [] = refl
    go (y ∷ ys) = go ys

row_split : (rows : List Row) (x : Row) (e : ℕ) (r : Row) → row_of (rows ++ x ∷ []) e ≡ Some r → ((e ≡ 1 + length rows) × (x ≡ r)) ⊎ (row_of rows e ≡ Some r)
row_split rows x zero r h = none_some h
row_split rows x (suc n) r h = elim (go rows n h) [
  | inl z ↦ inl ((let a = z.0 in omega (arith, a)), z.1)
  | inr z ↦ inr z
]
  where
    go : (rows : List Row) (n : ℕ) → slice_get (rows ++ x ∷ []) n ≡ Some r → ((n ≡ length rows) × (x ≡ r)) ⊎ (slice_get rows n ≡ Some r)
    go [] zero h = inl (refl, some_is h)
    go [] (suc n) h = none_some h
    go (y ∷ ys) zero h = inr h
    go (y ∷ ys) (suc n) h = elim (go ys n h) [
      | inl z ↦ inl ((let a = z.0 in omega (arith, a)), z.1)
      | inr z ↦ inr z
    ]

length_more : (xs : List Row) (x : Row) → length (xs ++ x ∷ []) ≡ 1 + length xs
length_more xs x = let a = length-append xs (x ∷ []) in let b : length (x ∷ []) ≡ 1 = refl in omega (arith, a, b)

-- numbers with one more
pub index_old : (xs : List ℕ) (i : ℕ) → i < length xs → slice_index (xs ++ 0 ∷ []) i ≡ slice_index xs i
index_old [] i h = absurd (omega (arith, h))
index_old (x ∷ xs) zero h = refl
index_old (x ∷ xs) (suc i) h = index_old xs i (omega (arith, h))

pub index_new : (xs : List ℕ) → slice_index (xs ++ 0 ∷ []) (length xs) ≡ 0
index_new [] = refl
index_new (x ∷ xs) = index_new xs

pub front : (i j : ℕ) (a b : List ℕ) → i ∷ a ≡ j ∷ b → (i ≡ j) × (a ≡ b)
front i j a b h = (cc, cc)

no_loop : (j : ℕ) (a : List ℕ) → a ≡ j ∷ a → ⊥
no_loop j [] h = let bad : ⊥ = cc in bad
no_loop j (x ∷ a) h = no_loop x a (front x j a (x ∷ a) h).1

module _ (b : Contents) (role : ℕ → Option Role) (booked : IsBooked b role) (w : NewRow) (r : Role) (new : IsNew b role w r) where
  abbrev e : ℕ
  e = 1 + length b.rows

  abbrev role' : ℕ → Option Role
  role' = and_role role e r

  abbrev p : List ℕ
  p = new.above_path

  -- the new role, and the old ones
  pub role_here : role' e ≡ Some r
  role_here = elim (eqb_tells e e) [ inl h ↦ ap (λ (z : Bool). cond z (Some r) (role e)) h.0 | inr h ↦ absurd (h.1 refl) ]

  pub role_else : (f : ℕ) → f ≢ e → role' f ≡ role f
  role_else f ne = elim (eqb_tells f e) [ inl h ↦ absurd (ne h.1) | inr h ↦ ap (λ (z : Bool). cond z (Some r) (role f)) h.0 ]

  pub old_less : (f : ℕ) (x : Role) → role f ≡ Some x → f < e
  old_less f x is = let v = booked.planned.row f x is in let l = (row_within b.rows f v.0 v.1).1 in omega (arith, l)

  pub role_old : (f : ℕ) (x : Role) → role f ≡ Some x → role' f ≡ Some x
  role_old f x is = role_else f (λ q. let l = old_less f x is in omega (arith, l, q)) ∙ is

  pub role_split : (f : ℕ) (x : Role) → role' f ≡ Some x → ((f ≡ e) × (r ≡ x)) ⊎ (role f ≡ Some x)
  role_split f x is = elim (same_or f e) [
    | inl q ↦ inl (q, some_is (sym role_here ∙ (ap role' (sym q) ∙ is)))
    | inr ne ↦ inr (sym (role_else f ne) ∙ is)
  ]

  -- no old role has the path and the site of the new one
  pub fresh : (f : ℕ) (x : Role) → role f ≡ Some x → x.path ≡ r.path → x.site ≡ r.site → ⊥
  fresh f x is path site = let l = new.later f x new.index is (path ∙ new.path) site in omega (arith, l)

  above_old : (f : ℕ) (x : Role) (a : List ℕ) (o : ℕ) → IsAbove role f x a o → IsAbove role' f x a o
  above_old f x a o (of_main s t) = of_main s t
  above_old f x a o (of_task q is path site m l) = of_task q (role_old o q is) path site m l

  none_old : (f : ℕ) (a : List ℕ) (y : Site) → f ≤ e → NoneBefore role f a y → NoneBefore role' f a y
  none_old f a y l none g x j less is = none g x j less (sym (role_else g (λ q. omega (arith, q, less, l))) ∙ is)

  next_old : (f : ℕ) (x : Role) (i : ℕ) (a : List ℕ) (o : ℕ) → f ≤ e → IsNext role f x i a o → IsNext role' f x i a o
  next_old f x i a o l n = record {
    it = n.it;
    index = n.index;
    is = role_old o n.it n.is;
    before = n.before;
    path = n.path;
    site = n.site;
    less = n.less;
    last = λ g z j less is. n.last g z j less (sym (role_else g (λ q. omega (arith, q, less, l))) ∙ is);
  }

  stands_old : (f : ℕ) (x : Role) (i : ℕ) (a : List ℕ) (o : ℕ) (t : After) → f ≤ e → StandsAt role f x i a o t → StandsAt role' f x i a o t
  stands_old f x i a o FirstOfMain l s = (s.0, none_old f a x.site l s.1)
  stands_old f x i a o (FirstOf u) l s = (s.0, s.1, none_old f a x.site l s.2)
  stands_old f x i a o (Sibling u) l s = next_old f x i a u l s

  row_kept : (f : ℕ) (x : Role) (v : Row) → f ≤ e → IsRowOf role f v x → IsRowOf role' f v x
  row_kept f x v l h = record {
    index = h.index;
    above_path = h.above_path;
    path = h.path;
    mode = h.mode;
    strong = h.strong;
    task = h.task;
    depth = h.depth;
    shallow = h.shallow;
    counts = h.counts;
    above = above_old f x h.above_path v.info.parent h.above;
    stands = stands_old f x h.index h.above_path v.info.parent v.after l h.stands;
  }

  -- the last row before the new one
  last_is : (o : ℕ) → o ≡ w.parent → IsAbove role e r p o → (c : Option ℕ) → c ≡ w.cell → r.site ≡ site_for c → IsLast role e p r.site (last_for b o c)
  last_is zero same (of_main nil z) None here site = subst (λ (a : List ℕ). IsLast role e a r.site (slice_index b.lasts 0)) (sym nil) (subst (λ (y : Site). IsLast role e [] y (slice_index b.lasts 0)) (sym site) booked.main)
  last_is zero same (of_main nil z) (Some c) here site = subst (λ (a : List ℕ). IsLast role e a r.site (slice_index b.mains c)) (sym nil) (subst (λ (y : Site). IsLast role e [] y (slice_index b.mains c)) (sym site) (booked.cells c (new.cell c (sym here))))
  last_is (suc o) same (of_main nil z) c here site = absurd (let h : suc o ≡ 0 = z in omega (arith, h))
  last_is zero same (of_task q is path at m l) c here site = none_some (sym booked.planned.main ∙ is)
  last_is (suc o) same (of_task q is path at m l) c here site = subst (λ (a : List ℕ). IsLast role e a r.site (slice_index b.lasts (suc o))) path (subst (λ (y : Site). IsLast role e q.path y (slice_index b.lasts (suc o))) at (booked.below (suc o) q is))

  stands_new : (o u : ℕ) → IsAbove role e r p o → IsLast role e p r.site u → StandsAt role' e r new.index p o (behind o u)
  stands_new zero zero (of_main nil z) (is_none q none) = (nil, none_old e p r.site (omega arith) none)
  stands_new (suc o) zero (of_main nil z) (is_none q none) = absurd (omega (arith, z))
  stands_new zero zero (of_task q is path at m l) k = none_some (sym booked.planned.main ∙ is)
  stands_new (suc o) zero (of_task q is path at m l) (is_none t none) = (refl, (λ h. omega (arith, h)), none_old e p r.site (omega arith) none)
  stands_new o (suc u) a (is_none q none) = absurd (omega (arith, q))
  stands_new o zero a (is_some q i is path site all) = none_some (sym booked.planned.main ∙ is)
  stands_new o (suc u) a (is_some q i is path site all) = record {
    it = q;
    index = i;
    is = role_old (suc u) q is;
    before = old_less (suc u) q is;
    path = path;
    site = site;
    less = new.later (suc u) q i is path site;
    last = λ g z j less gis. all g z j less (sym (role_else g (λ h. omega (arith, h, less))) ∙ gis);
  }

  abbrev rows' : List Row
  rows' = b.rows ++ row_for b w ∷ []

  new_row : IsRowOf role' e (row_for b w) r
  new_row = record {
    index = new.index;
    above_path = p;
    path = new.path;
    mode = new.mode;
    strong = new.strong;
    task = new.task;
    depth = new.depth;
    shallow = new.shallow;
    counts = new.counts;
    above = above_old e r p w.parent new.above;
    stands = stands_new w.parent (last_for b w.parent w.cell) new.above (last_is w.parent refl new.above w.cell refl new.site);
  }

  number_new : IsTask role e r → (q : Role) × (role' r.task ≡ Some q) × (q.path ≡ r.path) × (q.site ≡ itself)
  number_new (own site task) = (r, ap role' task ∙ role_here, refl, site)
  number_new (other q is path site) = (q, role_old r.task q is, path, site)

  pub planned_new : ArePlanned rows' role'
  planned_new = record {
    main = role_else 0 (λ q. omega (arith, q)) ∙ booked.planned.main;
    row = λ f x is. elim (role_split f x is) [
      | inl h ↦ (row_for b w, ap (row_of rows') h.0 ∙ row_new b.rows (row_for b w), subst (λ (z : ℕ). IsRowOf role' z (row_for b w) x) (sym h.0) (subst (λ (y : Role). IsRowOf role' e (row_for b w) y) h.1 new_row))
      | inr h ↦ (let v = booked.planned.row f x h in (v.0, row_old b.rows (row_for b w) f v.0 v.1, row_kept f x v.0 (let l = old_less f x h in omega (arith, l)) v.2))
    ];
    role_of = λ f v is. elim (row_split b.rows (row_for b w) f v is) [
      | inl h ↦ (r, ap role' h.0 ∙ role_here)
      | inr h ↦ (let x = booked.planned.role_of f v h in (x.0, role_old f x.0 x.1))
    ];
    one = λ f g x y fis gis path site. elim (role_split f x fis) [
      | inl h ↦ elim (role_split g y gis) [
        | inl k ↦ h.0 ∙ sym k.0
        | inr k ↦ absurd (fresh g y k (sym path ∙ ap (λ (z : Role). z.path) (sym h.1)) (sym site ∙ ap (λ (z : Role). z.site) (sym h.1)))
      ]
      | inr h ↦ elim (role_split g y gis) [
        | inl k ↦ absurd (fresh f x h (path ∙ ap (λ (z : Role). z.path) (sym k.1)) (site ∙ ap (λ (z : Role). z.site) (sym k.1)))
        | inr k ↦ booked.planned.one f g x y h k path site
      ]
    ];
    number = λ f x is. elim (role_split f x is) [
      | inl h ↦ subst (λ (y : Role). (q : Role) × (role' y.task ≡ Some q) × (q.path ≡ y.path) × (q.site ≡ itself)) h.1 (number_new new.of_task)
      | inr h ↦ (let q = booked.planned.number f x h in (q.0, role_old x.task q.0 q.1, q.2, q.3))
    ];
  }

  abbrev e' : ℕ
  e' = 1 + length rows'

  pub more : e' ≡ 1 + e
  more = let l = length_more b.rows (row_for b w) in omega (arith, l)

  -- the new entry is the last of its list; no other list changes
  pub last_new : IsLast role' e' p r.site e
  last_new = is_some r new.index role_here new.path refl (λ f x j less is path site. elim (role_split f x is) [
    | inl h ↦ inl h.0
    | inr h ↦ inr (new.later f x j h path site)
  ])

  pub last_old : (a : List ℕ) (y : Site) (o : ℕ) → (a ≡ p → y ≡ r.site → ⊥) → IsLast role e a y o → IsLast role' e' a y o
  last_old a y o differ (is_none z none) = is_none z (λ f x j less is path site. elim (role_split f x is) [
    | inl h ↦ differ (front j new.index a p (sym path ∙ (ap (λ (z : Role). z.path) (sym h.1) ∙ new.path))).1 (sym site ∙ ap (λ (z : Role). z.site) (sym h.1))
    | inr h ↦ none f x j (old_less f x h) h path site
  ])
  last_old a y o differ (is_some q i is at site all) = is_some q i (role_old o q is) at site (λ f x j less fis path fsite. elim (role_split f x fis) [
    | inl h ↦ absurd (differ (front j new.index a p (sym path ∙ (ap (λ (z : Role). z.path) (sym h.1) ∙ new.path))).1 (sym fsite ∙ ap (λ (z : Role). z.site) (sym h.1)))
    | inr h ↦ all f x j (old_less f x h) h path fsite
  ])

  -- nothing hangs below the new entry
  pub above_has : (f : ℕ) (x : Role) (j : ℕ) → role f ≡ Some x → x.path ≡ j ∷ r.path → x.site ≡ r.site → ⊥
  above_has f x j is path site = go v.2.above
    where
      v : (row : Row) × (row_of b.rows f ≡ Some row) × IsRowOf role f row x
      v = booked.planned.row f x is

      tail : v.2.above_path ≡ r.path
      tail = (front v.2.index j v.2.above_path r.path (sym v.2.path ∙ path)).1

      go : IsAbove role f x v.2.above_path v.0.info.parent → ⊥
      go (of_main nil z) = let h : new.index ∷ p ≡ [] = sym new.path ∙ (sym tail ∙ nil) in let bad : ⊥ = cc in bad
      go (of_task q qis qpath at m l) = fresh v.0.info.parent q qis (qpath ∙ tail) (at ∙ site)

  pub none_below : IsLast role' e' r.path r.site 0
  none_below = is_none refl (λ f x j less is path site. elim (role_split f x is) [
    | inl h ↦ no_loop j r.path (ap (λ (z : Role). z.path) h.1 ∙ path)
    | inr h ↦ above_has f x j h path site
  ])
