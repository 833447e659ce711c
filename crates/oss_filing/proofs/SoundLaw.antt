-- Rows that are those of roles may be filed.
use Rattle.std.proofs.Common.{◌≡◌, ◌≢◌, inl, inr, ℕ, zero, suc, ◌<◌, refl, sym, ap, subst, ◌∙◌, List, [], ◌∷◌, length, Option, Some, None, arith}
use Rattle.oss_words.specs.declared.entry.After.{After}
use Rattle.oss_words.specs.declared.entry.After.TheVariants.{FirstOf, FirstOfMain, Sibling}
use Rattle.oss_roles.specs.Roles.{Role, Site, itself}
use Rattle.oss_filing.specs.declared.row.Row.{Row}
use Rattle.oss_filing.specs.Planned.{ArePlanned, IsAbove, of_main, of_task, IsRowOf, StandsAt}
use Rattle.oss_filing.specs.Rows.{AreSound, Fits, IsBelowRow, IsFirstAt, IsPlaced, Under, eldest, younger, row_of}
use Rattle.oss_filing.proofs.Basics.{none_some, some_is}
use Rattle.oss_filing.proofs.FollowLemmas.{row_within}

-- the path and the site of a role
abbrev path_in : Option Role → List ℕ
path_in None = []
path_in (Some q) = q.path

abbrev site_in : Option Role → Site
site_in None = itself
site_in (Some q) = q.site

module _ (rows : List Row) (role : ℕ → Option Role) (planned : ArePlanned rows role) where
  -- the row of a role is one
  pub same_role : (x : ℕ) (q s : Role) → role x ≡ Some q → role x ≡ Some s → q ≡ s
  same_role x q s a b = some_is (sym a ∙ b)

  same_row : (x : ℕ) (q s : Row) → row_of rows x ≡ Some q → row_of rows x ≡ Some s → q ≡ s
  same_row x q s a b = some_is (sym a ∙ b)

  pub no_nil : (x : ℕ) (q : Role) → role x ≡ Some q → q.path ≡ [] → ⊥
  no_nil x q is nil = let w = planned.row x q is in let z : w.2.index ∷ w.2.above_path ≡ [] = sym w.2.path ∙ nil in absurd (let bad : ⊥ = cc in bad)

  pub front : (i j : ℕ) (a b : List ℕ) → i ∷ a ≡ j ∷ b → (i ≡ j) × (a ≡ b)
  front i j a b h = (cc, cc)

  not_zero : (x : ℕ) (q : Role) → role x ≡ Some q → x ≢ 0
  not_zero x q is z = none_some (sym planned.main ∙ (ap role (sym z) ∙ is))

  -- the entries above those of siblings on one site are one
  above_same : (e f : ℕ) (r s : Role) (p : List ℕ) (x y : ℕ) → r.site ≡ s.site → IsAbove role e r p x → IsAbove role f s p y → x ≡ y
  above_same e f r s p x y site (of_main a b) (of_main c d) = b ∙ sym d
  above_same e f r s p x y site (of_main a b) (of_task q is path at m l) = absurd (no_nil y q is (path ∙ a))
  above_same e f r s p x y site (of_task q is path at m l) (of_main a b) = absurd (no_nil x q is (path ∙ a))
  above_same e f r s p x y site (of_task q is path at m l) (of_task t tis tpath tat tm tl) = planned.one x y q t is tis (path ∙ sym tpath) (at ∙ (site ∙ sym tat))

  -- which role stands where a row leads to
  pub record At (e : ℕ) (row : Row) : Type 0 where
    it : Role
    is : role e ≡ Some it
    of : IsRowOf role e row it

  pub at_row : (e : ℕ) (row : Row) → row_of rows e ≡ Some row → At e row
  at_row e row is =
      let r = planned.role_of e row is in
      let w = planned.row e r.0 r.1 in
      record { it = r.0; is = r.1; of = subst (λ (x : Row). IsRowOf role e x r.0) (same_row e w.0 row w.1 is) w.2 }

  stands_as : (e : ℕ) (row : Row) (x : At e row) (a : After) → row.after ≡ a → StandsAt role e x.it x.of.index x.of.above_path row.info.parent a
  stands_as e row x a is = subst (λ (z : After). StandsAt role e x.it x.of.index x.of.above_path row.info.parent z) is x.of.stands

  -- what stands behind a sibling below an entry hangs below that
  under_from : (n o : ℕ) (row : Row) → o < n → row_of rows o ≡ Some row → row.info.parent ≢ 0 → Under rows row.info.parent o
  under_from zero o row l is some = absurd (omega (arith, l))
  under_from (suc n) o row l is some = go (λ u w. under_from n u w) row.after refl
    where
      x : At o row
      x = at_row o row is

      go : ((u : ℕ) (w : Row) → u < n → row_of rows u ≡ Some w → w.info.parent ≢ 0 → Under rows w.info.parent u) → (a : After) → row.after ≡ a → Under rows row.info.parent o
      go again FirstOfMain h =
          let s = stands_as o row x FirstOfMain h in
          absurd (some (above_same o o x.it x.it [] row.info.parent 0 refl (subst (λ (p : List ℕ). IsAbove role o x.it p row.info.parent) s.0 x.of.above) (of_main refl refl)))
      go again (FirstOf p) h = eldest row is (h ∙ ap FirstOf (sym (stands_as o row x (FirstOf p) h).0))
      go again (Sibling u) h =
          let s = stands_as o row x (Sibling u) h in
          let w = planned.row u s.it s.is in
          let same : w.0.info.parent ≡ row.info.parent = above_same u o s.it x.it x.of.above_path w.0.info.parent row.info.parent s.site (subst (λ (p : List ℕ). IsAbove role u s.it p w.0.info.parent) ((front w.2.index s.index w.2.above_path x.of.above_path (sym w.2.path ∙ s.path)).1) w.2.above) x.of.above in
          younger row is h (subst (λ (p : ℕ). Under rows p u) same (again u w.0 (let b = s.before in omega (arith, b, l)) w.1 (λ z. some (sym same ∙ z))))

  module _ (e : ℕ) (row : Row) (is : row_of rows e ≡ Some row) where
    x : At e row
    x = at_row e row is

    below_is : row.info.parent ≢ 0 → (p : ℕ) → p ≡ row.info.parent → IsAbove role e x.it x.of.above_path p → IsBelowRow rows row
    below_is some p same (of_main a b) = absurd (some (sym same ∙ b))
    below_is some p same (of_task q qis path at m l) =
        let w = planned.row p q qis in
        record {
          above = w.0;
          is = ap (row_of rows) (sym same) ∙ w.1;
          depth = (
              let a = x.of.depth in
              let b = w.2.depth in
              let c : length x.it.path ≡ suc (length x.of.above_path) = ap (λ (z : List ℕ). length z) x.of.path in
              let d : length q.path ≡ length x.of.above_path = ap (λ (z : List ℕ). length z) path in
              omega (arith, a, b, c, d)
              );
          covered = elim m [ inl z ↦ inl (w.2.mode ∙ z) | inr z ↦ inr (w.2.mode ∙ (z ∙ sym x.of.mode)) ];
        }

    above_less : (p : ℕ) → IsAbove role e x.it x.of.above_path p → p < e
    above_less p (of_main a b) = let k = (row_within rows e row is).0 in omega (arith, k, b)
    above_less p (of_task q qis path at m l) = l

    top_depth : (p : ℕ) → IsAbove role e x.it x.of.above_path p → p ≡ 0 → row.info.depth ≡ 1
    top_depth p (of_main a b) z =
        let d = x.of.depth in
        let c : length x.it.path ≡ suc (length x.of.above_path) = ap (λ (y : List ℕ). length y) x.of.path in
        let n : length x.of.above_path ≡ 0 = ap (λ (y : List ℕ). length y) a in
        omega (arith, d, c, n)
    top_depth p (of_task q qis path at m l) z = absurd (not_zero p q qis z)

    main_parent : x.of.above_path ≡ [] → (p : ℕ) → IsAbove role e x.it x.of.above_path p → p ≡ 0
    main_parent nil p (of_main a b) = b
    main_parent nil p (of_task q qis path at m l) = absurd (no_nil p q qis (path ∙ nil))

    placed_at : (a : After) → row.after ≡ a → IsPlaced rows e row a
    placed_at FirstOfMain h = main_parent (stands_as e row x FirstOfMain h).0 row.info.parent x.of.above
    placed_at (FirstOf p) h = let s = stands_as e row x (FirstOf p) h in (s.0, s.1)
    placed_at (Sibling o) h =
        let s = stands_as e row x (Sibling o) h in
        let w = planned.row o s.it s.is in
        let same : w.0.info.parent ≡ row.info.parent = above_same o e s.it x.it x.of.above_path w.0.info.parent row.info.parent s.site (subst (λ (p : List ℕ). IsAbove role o s.it p w.0.info.parent) ((front w.2.index s.index w.2.above_path x.of.above_path (sym w.2.path ∙ s.path)).1) w.2.above) x.of.above in
        record {
          sibling = w.0;
          is = w.1;
          before = s.before;
          parent = same;
          under = λ some. subst (λ (p : ℕ). Under rows p o) same (under_from (suc o) o w.0 (omega arith) w.1 (λ z. some (sym same ∙ z)));
        }

    -- no other is the first below it, and none stands behind the same sibling
    first_one : (p : ℕ) → row.after ≡ FirstOf p → IsFirstAt rows e (FirstOf p)
    first_one p h u y l uis at =
        let s = stands_as e row x (FirstOf p) h in
        let t = at_row u y uis in
        let b = stands_as u y t (FirstOf p) at in
        let tails : t.of.above_path ≡ x.of.above_path = path_above u y t p b.0 b.1 ∙ sym (path_above e row x p s.0 s.1) in
        s.2 u t.it t.of.index l t.is (t.of.path ∙ ap (λ (z : List ℕ). t.of.index ∷ z) tails) (site_above u y t p b.0 b.1 ∙ sym (site_above e row x p s.0 s.1))
      where
        role_above : (v : ℕ) (z : Row) (a : At v z) (p : ℕ) → z.info.parent ≡ p → p ≢ 0 → (w : ℕ) → w ≡ p → IsAbove role v a.it a.of.above_path w → (q : Role) × (role p ≡ Some q) × (q.path ≡ a.of.above_path) × (q.site ≡ a.it.site)
        role_above v z a p same some w eq (of_main c d) = absurd (some (sym eq ∙ d))
        role_above v z a p same some w eq (of_task q qis path at m l) = (q, ap role (sym eq) ∙ qis, path, at)

        path_above : (v : ℕ) (z : Row) (a : At v z) (p : ℕ) → z.info.parent ≡ p → p ≢ 0 → a.of.above_path ≡ (path_in (role p))
        path_above v z a p same some = let k = role_above v z a p same some z.info.parent same a.of.above in sym k.2 ∙ ap path_in (sym k.1)

        site_above : (v : ℕ) (z : Row) (a : At v z) (p : ℕ) → z.info.parent ≡ p → p ≢ 0 → a.it.site ≡ (site_in (role p))
        site_above v z a p same some = let k = role_above v z a p same some z.info.parent same a.of.above in sym k.3 ∙ ap site_in (sym k.1)

    next_one : (o : ℕ) → row.after ≡ Sibling o → IsFirstAt rows e (Sibling o)
    next_one o h u y l uis at =
        let s = stands_as e row x (Sibling o) h in
        let t = at_row u y uis in
        let b = stands_as u y t (Sibling o) at in
        let one = same_role o b.it s.it b.is s.is in
        let paths = front b.index s.index t.of.above_path x.of.above_path (sym b.path ∙ (ap (λ (z : Role). z.path) one ∙ s.path)) in
        let site : t.it.site ≡ x.it.site = sym b.site ∙ (ap (λ (z : Role). z.site) one ∙ s.site) in
        elim (s.last u t.it t.of.index l t.is (t.of.path ∙ ap (λ (z : List ℕ). t.of.index ∷ z) paths.1) site) [
          | inl z ↦ (let c = b.before in omega (arith, c, z))
          | inr z ↦ (let c = b.less in let d = paths.0 in omega (arith, c, d, z))
        ]

    pub fits : length rows < 16777216 → Fits rows e row
    fits few = record {
      above = above_less row.info.parent x.of.above;
      top = λ z. top_depth row.info.parent x.of.above z;
      below = λ some. below_is some row.info.parent refl x.of.above;
      shallow = (let a = x.of.depth in let b = x.of.shallow in omega (arith, a, b));
      task = (
          let q = planned.number e x.it x.is in
          let w = planned.row x.it.task q.0 q.1 in
          let l = (row_within rows x.it.task w.0 w.1).1 in
          let t = x.of.task in
          omega (arith, l, t, few)
          );
      placed = placed_at row.after refl;
      first = first_one;
      next = next_one;
    }

  pub are_sound : length rows < 16777216 → AreSound rows
  are_sound few v r is = fits v r is few
