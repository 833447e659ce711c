-- A book with one row more is booked.
use Rattle.std.proofs.Common.{◌≡◌, ◌≢◌, inl, inr, ℕ, zero, suc, ◌<◌, ◌+◌, refl, sym, ap, subst, ◌∙◌, List, [], ◌∷◌, ◌++◌, length, set, Option, Some, None, arith}
use Rattle.std.specs.Prelude.{slice_index}
use Rattle.std.proofs.lemmas.List.{get_or-set_same, get_or-set_other, length-set, length-append}
use Rattle.oss_roles.specs.Roles.{Role, Site, itself, on}
use Rattle.oss_filing.specs.Planned.{IsAbove, of_main, of_task}
use Rattle.oss_filing.proofs.Basics.{none_some, same_or, some_is}
use Rattle.oss_rows.specs.declared.book.NewRow.{NewRow}
use Rattle.oss_rows.specs.Booked.{Contents, IsBooked, IsLast, IsNew, and_role, grown, lasts_with, mains_with, row_for, site_for}
use Rattle.oss_rows.proofs.GrowLaw.{index_new, index_old, last_new, last_old, more, none_below, old_less, planned_new, role_split}

lasts_long : (xs : List ℕ) (o : ℕ) (c : Option ℕ) (v : ℕ) → length (lasts_with xs o c v) ≡ length xs
lasts_long xs zero None v = length-set xs 0 v
lasts_long xs zero (Some c) v = refl
lasts_long xs (suc o) c v = length-set xs (suc o) v

pub mains_long : (xs : List ℕ) (o : ℕ) (c : Option ℕ) (v : ℕ) → length (mains_with xs o c v) ≡ length xs
mains_long xs zero None v = refl
mains_long xs zero (Some c) v = length-set xs c v
mains_long xs (suc o) c v = refl

lasts_miss : (xs : List ℕ) (o : ℕ) (c : Option ℕ) (v f : ℕ) → f ≢ o → slice_index (lasts_with xs o c v) f ≡ slice_index xs f
lasts_miss xs zero None v f ne = get_or-set_other xs 0 f v 0 ne
lasts_miss xs zero (Some c) v f ne = refl
lasts_miss xs (suc o) c v f ne = get_or-set_other xs (suc o) f v 0 ne

module _ (b : Contents) (role : ℕ → Option Role) (booked : IsBooked b role) (w : NewRow) (r : Role) (new : IsNew b role w r) where
  abbrev e : ℕ
  e = 1 + length b.rows

  abbrev role' : ℕ → Option Role
  role' = and_role role e r

  abbrev e' : ℕ
  e' = 1 + length (b.rows ++ row_for b w ∷ [])

  abbrev changed : List ℕ
  changed = lasts_with b.lasts w.parent w.cell e

  long : length changed ≡ e
  long = lasts_long b.lasts w.parent w.cell e ∙ booked.size

  at_old : (f : ℕ) → f < e → slice_index (changed ++ 0 ∷ []) f ≡ slice_index changed f
  at_old f l = index_old changed f (omega (arith, l, long))

  at_new : slice_index (changed ++ 0 ∷ []) e ≡ 0
  at_new = ap (λ (i : ℕ). slice_index (changed ++ 0 ∷ []) i) (sym long) ∙ index_new changed

  no_main : (f : ℕ) (x : Role) → role f ≡ Some x → x.path ≡ [] → ⊥
  no_main f x is nil = let v = booked.planned.row f x is in let h : v.2.index ∷ v.2.above_path ≡ [] = sym v.2.path ∙ nil in let bad : ⊥ = cc in bad

  -- the entry above is that of its path and site
  above_one : (f : ℕ) (x : Role) → role f ≡ Some x → x.path ≡ new.above_path → x.site ≡ r.site → f ≡ w.parent
  above_one f x is path site = go w.parent new.above
    where
      go : (o : ℕ) → IsAbove role e r new.above_path o → f ≡ o
      go o (of_main nil z) = absurd (no_main f x is (path ∙ nil))
      go o (of_task q qis qpath at m l) = booked.planned.one f o x q is qis (path ∙ sym qpath) (site ∙ sym at)

  above_role : (x : Role) → role w.parent ≡ Some x → (x.path ≡ new.above_path) × (x.site ≡ r.site)
  above_role x is = go w.parent is new.above
    where
      go : (o : ℕ) → role o ≡ Some x → IsAbove role e r new.above_path o → (x.path ≡ new.above_path) × (x.site ≡ r.site)
      go o at (of_main nil z) = none_some (sym booked.planned.main ∙ (ap role (sym z) ∙ at))
      go o at (of_task q qis qpath site m l) =
          let one : q ≡ x = some_is (sym qis ∙ at) in
          (ap (λ (y : Role). y.path) (sym one) ∙ qpath, ap (λ (y : Role). y.site) (sym one) ∙ site)

  -- the parent of a child of main, and of another
  nil_main : (o : ℕ) → IsAbove role e r new.above_path o → new.above_path ≡ [] → o ≡ 0
  nil_main o (of_main nil z) h = z
  nil_main o (of_task q qis qpath site m l) h = absurd (no_main o q qis (qpath ∙ h))

  main_nil : (o : ℕ) → IsAbove role e r new.above_path o → o ≡ 0 → new.above_path ≡ []
  main_nil o (of_main nil z) h = nil
  main_nil o (of_task q qis qpath site m l) h = none_some (sym booked.planned.main ∙ (ap role (sym h) ∙ qis))

  last_here : (a : List ℕ) (y : Site) → a ≡ new.above_path → y ≡ r.site → IsLast role' e' a y e
  last_here a y path site = subst (λ (z : List ℕ). IsLast role' e' z y e) (sym path) (subst (λ (z : Site). IsLast role' e' new.above_path z e) (sym site) (last_new b role booked w r new))

  last_there : (a : List ℕ) (y : Site) (o : ℕ) → (a ≡ new.above_path → y ≡ r.site → ⊥) → IsLast role e a y o → IsLast role' e' a y o
  last_there a y o differ h = last_old b role booked w r new a y o differ h

  parent_hit : (o : ℕ) (c : Option ℕ) → o ≢ 0 → o < length b.lasts → slice_index (lasts_with b.lasts o c e) o ≡ e
  parent_hit zero c ne l = absurd (ne refl)
  parent_hit (suc o) c ne l = get_or-set_same b.lasts (suc o) e 0 l

  below_old : (f : ℕ) (x : Role) → role f ≡ Some x → IsLast role' e' x.path x.site (slice_index changed f)
  below_old f x is = elim (same_or f w.parent) [
    | inl same ↦
        let of = above_role x (ap role (sym same) ∙ is) in
        let some : f ≢ 0 = λ z. none_some (sym booked.planned.main ∙ (ap role (sym z) ∙ is)) in
        let l = old_less b role booked w r new f x is in
        let s = booked.size in
        let hit : slice_index changed f ≡ e = ap (λ (z : ℕ). slice_index changed z) same ∙ parent_hit w.parent w.cell (λ z. some (same ∙ z)) (omega (arith, l, same, s)) in
        subst (λ (z : ℕ). IsLast role' e' x.path x.site z) (sym hit) (last_here x.path x.site of.0 of.1)
    | inr ne ↦ subst (λ (z : ℕ). IsLast role' e' x.path x.site z) (sym (lasts_miss b.lasts w.parent w.cell e f ne)) (last_there x.path x.site (slice_index b.lasts f) (λ path site. ne (above_one f x is path site)) (booked.below f x is))
  ]

  below_new : (f : ℕ) (x : Role) → role' f ≡ Some x → IsLast role' e' x.path x.site (slice_index (changed ++ 0 ∷ []) f)
  below_new f x is = elim (role_split b role booked w r new f x is) [
    | inl h ↦ subst (λ (z : ℕ). IsLast role' e' x.path x.site (slice_index (changed ++ 0 ∷ []) z)) (sym h.0) (subst (λ (y : Role). IsLast role' e' y.path y.site (slice_index (changed ++ 0 ∷ []) e)) h.1 (subst (λ (z : ℕ). IsLast role' e' r.path r.site z) (sym at_new) (none_below b role booked w r new)))
    | inr h ↦ subst (λ (z : ℕ). IsLast role' e' x.path x.site z) (sym (at_old f (old_less b role booked w r new f x h))) (below_old f x h)
  ]

  -- main's own list
  main_new : (o : ℕ) (c : Option ℕ) → o ≡ w.parent → c ≡ w.cell → IsLast role' e' [] itself (slice_index (lasts_with b.lasts o c e) 0)
  main_new zero None same here =
      let hit : slice_index (set b.lasts 0 e) 0 ≡ e = get_or-set_same b.lasts 0 e 0 (let s = booked.size in omega (arith, s)) in
      subst (λ (z : ℕ). IsLast role' e' [] itself z) (sym hit) (last_here [] itself (sym (main_nil w.parent new.above (sym same))) (ap site_for here ∙ sym new.site))
  main_new zero (Some c) same here = last_there [] itself (slice_index b.lasts 0) (λ path site. let z : itself ≡ on c = site ∙ (new.site ∙ ap site_for (sym here)) in let bad : ⊥ = cc in bad) booked.main
  main_new (suc o) c same here =
      let miss : slice_index (set b.lasts (suc o) e) 0 ≡ slice_index b.lasts 0 = get_or-set_other b.lasts (suc o) 0 e 0 (λ z. omega (arith, z)) in
      subst (λ (z : ℕ). IsLast role' e' [] itself z) (sym miss) (last_there [] itself (slice_index b.lasts 0) (λ path site. let z = nil_main w.parent new.above (sym path) in omega (arith, z, same)) booked.main)

  -- main's lists on cells
  cells_new : (o : ℕ) (c : Option ℕ) → o ≡ w.parent → c ≡ w.cell → (d : ℕ) → d < length b.mains → IsLast role' e' [] (on d) (slice_index (mains_with b.mains o c e) d)
  cells_new zero None same here d l = last_there [] (on d) (slice_index b.mains d) (λ path site. let z : on d ≡ itself = site ∙ (new.site ∙ ap site_for (sym here)) in let bad : ⊥ = cc in bad) (booked.cells d l)
  cells_new zero (Some c) same here d l = elim (same_or d c) [
    | inl z ↦
        let hit : slice_index (set b.mains c e) d ≡ e = ap (λ (i : ℕ). slice_index (set b.mains c e) i) z ∙ get_or-set_same b.mains c e 0 (omega (arith, l, z)) in
        subst (λ (i : ℕ). IsLast role' e' [] (on d) i) (sym hit) (last_here [] (on d) (sym (main_nil w.parent new.above (sym same))) (ap on z ∙ (ap site_for here ∙ sym new.site)))
    | inr ne ↦
        let miss : slice_index (set b.mains c e) d ≡ slice_index b.mains d = get_or-set_other b.mains c d e 0 ne in
        subst (λ (i : ℕ). IsLast role' e' [] (on d) i) (sym miss) (last_there [] (on d) (slice_index b.mains d) (λ path site. let z : on d ≡ on c = site ∙ (new.site ∙ ap site_for (sym here)) in ne (cc)) (booked.cells d l))
  ]
  cells_new (suc o) c same here d l = last_there [] (on d) (slice_index b.mains d) (λ path site. let z = nil_main w.parent new.above (sym path) in omega (arith, z, same)) (booked.cells d l)

  pub grown_booked : IsBooked (grown b w) role'
  grown_booked = record {
    planned = planned_new b role booked w r new;
    size = (
        let zero_more : List ℕ = 0 ∷ [] in
        let a = length-append changed zero_more in
        let h : length zero_more ≡ 1 = refl in
        let m = more b role booked w r new in
        let l = long in
        omega (arith, a, h, m, l)
        );
    below = below_new;
    main = subst (λ (z : ℕ). IsLast role' e' [] itself z) (sym (at_old 0 (omega arith))) (main_new w.parent w.cell refl refl);
    cells = λ d l. cells_new w.parent w.cell refl refl d (let m = mains_long b.mains w.parent w.cell e in omega (arith, l, m));
  }
