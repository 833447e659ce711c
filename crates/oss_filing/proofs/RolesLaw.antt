-- Rows that are those of roles have these roles in the net in which they are linked.
use Rattle.std.proofs.Common.{◌≡◌, ◌≢◌, ◌⊎◌, inl, inr, ℕ, zero, suc, ◌<◌, refl, sym, ap, subst, ◌∙◌, List, [], ◌∷◌, Option, Some, None, arith}
use Rattle.oss_words.specs.declared.entry.After.{After}
use Rattle.oss_words.specs.declared.entry.After.TheVariants.{FirstOf, FirstOfMain, Sibling}
use Rattle.oss_words.specs.Net.{apart, top, first, after, Top, top_first, top_after, Child, eldest, younger, Earlier, next, back}
use Rattle.oss_words.specs.Views.{first_view}
use Rattle.oss_word_net.specs.Calls.{place_of}
use Rattle.oss_roles.specs.Roles.{AreRoles, Filed, Role}
use Rattle.oss_filing.specs.declared.row.Row.{Row}
use Rattle.oss_filing.specs.Filed.{IsFiled, info_in, place_in}
use Rattle.oss_filing.specs.Planned.{ArePlanned, IsAbove, of_main, of_task, IsRowOf, StandsAt}
use Rattle.oss_filing.specs.Rows.{row_of}
use Rattle.oss_filing.proofs.Basics.{compared, some_is}
use Rattle.oss_filing.proofs.SoundLaw.{front, no_nil}

-- a place where an entry is linked
pub hangs_there : (a : After) → place_of a ≢ apart
hangs_there FirstOfMain h = let z : top ≡ apart = h in absurd (let bad : ⊥ = cc in bad)
hangs_there (FirstOf p) h = let z : first p ≡ apart = h in absurd (let bad : ⊥ = cc in bad)
hangs_there (Sibling o) h = let z : after o ≡ apart = h in absurd (let bad : ⊥ = cc in bad)

module _ (rows : List Row) (role : ℕ → Option Role) (planned : ArePlanned rows role) (n : ℕ) (ws : List ℕ) (filed : IsFiled n rows ws) where
  -- an entry of a role, and where it is linked
  record Linked (e : ℕ) (r : Role) : Type 0 where
    row : Row
    is : row_of rows e ≡ Some row
    of : IsRowOf role e row r
    place : filed.net.place e ≡ place_of row.after

  linked : (e : ℕ) (r : Role) → role e ≡ Some r → Linked e r
  linked e r is =
      let w = planned.row e r is in
      record { row = w.0; is = w.1; of = w.2; place = filed.place e ∙ ap place_in w.1 }

  pub role_hangs : (e : ℕ) (r : Role) → role e ≡ Some r → filed.net.place e ≢ apart
  role_hangs e r is h = let l = linked e r is in hangs_there l.row.after (sym l.place ∙ h)

  -- what hangs has a role
  pub hung_role : (e : ℕ) → filed.net.place e ≢ apart → (r : Role) × (role e ≡ Some r)
  hung_role e h = go (row_of rows e) refl
    where
      go : (o : Option Row) → row_of rows e ≡ o → (r : Role) × (role e ≡ Some r)
      go None is = absurd (h (filed.place e ∙ ap place_in is))
      go (Some w) is = planned.role_of e w is

  as_it : (e : ℕ) (r : Role) (l : Linked e r) (a : After) → l.row.after ≡ a → StandsAt role e r l.of.index l.of.above_path l.row.info.parent a
  as_it e r l a is = subst (λ (z : After). StandsAt role e r l.of.index l.of.above_path l.row.info.parent z) is l.of.stands

  place_as : (e : ℕ) (r : Role) (l : Linked e r) (a : After) → l.row.after ≡ a → filed.net.place e ≡ place_of a
  place_as e r l a is = l.place ∙ ap place_of is

  main_alone : (x : ℕ) (q : Role) → role x ≡ Some q → q.path ≡ [] → ⊥
  main_alone x q is nil = no_nil rows role planned x q is nil

  heads : (i j : ℕ) (a b : List ℕ) → i ∷ a ≡ j ∷ b → (i ≡ j) × (a ≡ b)
  heads i j a b h = front rows role planned i j a b h

  -- the entry above, where there is one
  above_is : (e : ℕ) (r : Role) (l : Linked e r) → l.of.above_path ≢ [] → (q : Role) × (role l.row.info.parent ≡ Some q) × (q.path ≡ l.of.above_path) × (q.site ≡ r.site)
  above_is e r l some = go l.of.above
    where
      go : IsAbove role e r l.of.above_path l.row.info.parent → (q : Role) × (role l.row.info.parent ≡ Some q) × (q.path ≡ l.of.above_path) × (q.site ≡ r.site)
      go (of_main a b) = absurd (some a)
      go (of_task q is path at m less) = (q, is, path, at)

  parent_is : (e : ℕ) (r : Role) (k i : ℕ) (p : List ℕ) → role e ≡ Some r → r.path ≡ k ∷ i ∷ p → Filed filed.net role (i ∷ p) r.site
  parent_is e r k i p is path =
      let l = linked e r is in
      let tail : l.of.above_path ≡ i ∷ p = (heads l.of.index k l.of.above_path (i ∷ p) (sym l.of.path ∙ path)).1 in
      let a = above_is e r l (λ nil. let z : i ∷ p ≡ [] = sym tail ∙ nil in absurd (let bad : ⊥ = cc in bad)) in
      record { entry = l.row.info.parent; it = a.0; is = a.1; hangs = role_hangs l.row.info.parent a.0 a.1; path = a.2 ∙ tail; site = a.3 }

  behind_is : (e o : ℕ) (r q : Role) → role e ≡ Some r → role o ≡ Some q → filed.net.place e ≡ after o → (i : ℕ) × (k : ℕ) × (p : List ℕ) × (q.path ≡ i ∷ p) × (r.path ≡ k ∷ p) × (q.site ≡ r.site) × (i < k)
  behind_is e o r q is ois at = go l.row.after refl
    where
      l : Linked e r
      l = linked e r is

      go : (a : After) → l.row.after ≡ a → (i : ℕ) × (k : ℕ) × (p : List ℕ) × (q.path ≡ i ∷ p) × (r.path ≡ k ∷ p) × (q.site ≡ r.site) × (i < k)
      go FirstOfMain h = let z : top ≡ after o = sym (place_as e r l FirstOfMain h) ∙ at in absurd (let bad : ⊥ = cc in bad)
      go (FirstOf p) h = let z : first p ≡ after o = sym (place_as e r l (FirstOf p) h) ∙ at in absurd (let bad : ⊥ = cc in bad)
      go (Sibling u) h =
          let z : after u ≡ after o = sym (place_as e r l (Sibling u) h) ∙ at in
          let same : u ≡ o = cc in
          let s = as_it e r l (Sibling u) h in
          let one : s.it ≡ q = some_is (sym s.is ∙ (ap role same ∙ ois)) in
          (s.index, l.of.index, l.of.above_path, ap (λ (x : Role). x.path) (sym one) ∙ s.path, l.of.path, ap (λ (x : Role). x.site) (sym one) ∙ s.site, s.less)

  -- the children of main
  top_is : (n e : ℕ) (r : Role) (k : ℕ) → e < n → role e ≡ Some r → r.path ≡ k ∷ [] → Top filed.net.place e
  top_is zero e r k less is path = absurd (omega (arith, less))
  top_is (suc n) e r k less is path = go (λ o q i m. top_is n o q i m) l.row.after refl
    where
      l : Linked e r
      l = linked e r is

      nil : l.of.above_path ≡ []
      nil = (heads l.of.index k l.of.above_path [] (sym l.of.path ∙ path)).1

      go : ((o : ℕ) (q : Role) (i : ℕ) → o < n → role o ≡ Some q → q.path ≡ i ∷ [] → Top filed.net.place o) → (a : After) → l.row.after ≡ a → Top filed.net.place e
      go again FirstOfMain h = top_first (place_as e r l FirstOfMain h)
      go again (FirstOf p) h = absurd (below_none (as_it e r l (FirstOf p) h).0 (as_it e r l (FirstOf p) h).1 l.of.above)
        where
          below_none : l.row.info.parent ≡ p → p ≢ 0 → IsAbove role e r l.of.above_path l.row.info.parent → ⊥
          below_none same some (of_main a b) = some (sym same ∙ b)
          below_none same some (of_task q qis qpath at m u) = main_alone l.row.info.parent q qis (qpath ∙ nil)
      go again (Sibling o) h =
          let s = as_it e r l (Sibling o) h in
          top_after (place_as e r l (Sibling o) h) (again o s.it s.index (let b = s.before in omega (arith, b, less)) s.is (s.path ∙ ap (λ (z : List ℕ). s.index ∷ z) nil))

  -- those of a task on one site
  below_is : (n e f : ℕ) (r q : Role) (k : ℕ) → f < n → role e ≡ Some r → role f ≡ Some q → q.path ≡ k ∷ r.path → q.site ≡ r.site → Child filed.net.place e f
  below_is zero e f r q k less is fis path site = absurd (omega (arith, less))
  below_is (suc n) e f r q k less is fis path site = go (λ o x i m. below_is n e o r x i m is) l.row.after refl
    where
      l : Linked f q
      l = linked f q fis

      tail : l.of.above_path ≡ r.path
      tail = (heads l.of.index k l.of.above_path r.path (sym l.of.path ∙ path)).1

      go : ((o : ℕ) (x : Role) (i : ℕ) → o < n → role o ≡ Some x → x.path ≡ i ∷ r.path → x.site ≡ r.site → Child filed.net.place e o) → (a : After) → l.row.after ≡ a → Child filed.net.place e f
      go again FirstOfMain h = absurd (main_alone e r is (sym tail ∙ (as_it f q l FirstOfMain h).0))
      go again (FirstOf p) h =
          let s = as_it f q l (FirstOf p) h in
          let a = above_is f q l (λ nil. main_alone e r is (sym tail ∙ nil)) in
          let same : l.row.info.parent ≡ e = planned.one l.row.info.parent e a.0 r a.1 is (a.2 ∙ tail) (a.3 ∙ site) in
          eldest (place_as f q l (FirstOf p) h ∙ ap first (sym s.0 ∙ same))
      go again (Sibling o) h =
          let s = as_it f q l (Sibling o) h in
          younger (place_as f q l (Sibling o) h) (again o s.it s.index (let b = s.before in omega (arith, b, less)) s.is (s.path ∙ ap (λ (z : List ℕ). s.index ∷ z) tail) (s.site ∙ site))

  -- siblings stand in their order
  rises : (e f : ℕ) (r q : Role) (i k : ℕ) (p : List ℕ) → role e ≡ Some r → role f ≡ Some q → r.path ≡ i ∷ p → q.path ≡ k ∷ p → r.site ≡ q.site → i < k → f < e → ⊥
  rises e f r q i k p is fis path fpath site less late = go l.row.after refl
    where
      l : Linked e r
      l = linked e r is

      both : (l.of.index ≡ i) × (l.of.above_path ≡ p)
      both = heads l.of.index i l.of.above_path p (sym l.of.path ∙ path)

      its : q.path ≡ k ∷ l.of.above_path
      its = fpath ∙ ap (λ (z : List ℕ). k ∷ z) (sym both.1)

      go : (a : After) → l.row.after ≡ a → ⊥
      go FirstOfMain h = (as_it e r l FirstOfMain h).1 f q k late fis its (sym site)
      go (FirstOf u) h = (as_it e r l (FirstOf u) h).2 f q k late fis its (sym site)
      go (Sibling o) h =
          let s = as_it e r l (Sibling o) h in
          let m = s.less in
          let b = both.0 in
          elim (s.last f q k late fis its (sym site)) [
            | inl z ↦
                let one : q ≡ s.it = some_is (sym fis ∙ (ap role z ∙ s.is)) in
                let c = (heads k s.index l.of.above_path l.of.above_path (sym its ∙ (ap (λ (x : Role). x.path) one ∙ s.path))).0 in
                omega (arith, c, m, b, less)
            | inr z ↦ omega (arith, z, m, b, less)
          ]

  order_is : (n e f : ℕ) (r q : Role) (i k : ℕ) (p : List ℕ) → f < n → role e ≡ Some r → role f ≡ Some q → r.path ≡ i ∷ p → q.path ≡ k ∷ p → r.site ≡ q.site → i < k → Earlier filed.net.place e f
  order_is zero e f r q i k p few is fis path fpath site less = absurd (omega (arith, few))
  order_is (suc n) e f r q i k p few is fis path fpath site less = go (λ o x j m. order_is n e o r x i j p m is) (compared e f) l.row.after refl
    where
      l : Linked f q
      l = linked f q fis

      both : (l.of.index ≡ k) × (l.of.above_path ≡ p)
      both = heads l.of.index k l.of.above_path p (sym l.of.path ∙ fpath)

      its : r.path ≡ i ∷ l.of.above_path
      its = path ∙ ap (λ (z : List ℕ). i ∷ z) (sym both.1)

      before : (e < f) ⊎ ((e ≡ f) ⊎ (f < e)) → e < f
      before (inl z) = z
      before (inr (inl z)) =
          let one : r ≡ q = some_is (sym is ∙ (ap role z ∙ fis)) in
          let c = (heads i k p p (sym path ∙ (ap (λ (x : Role). x.path) one ∙ fpath))).0 in
          absurd (omega (arith, c, less))
      before (inr (inr z)) = absurd (rises e f r q i k p is fis path fpath site less z)

      go : ((o : ℕ) (x : Role) (j : ℕ) → o < n → role o ≡ Some x → r.path ≡ i ∷ p → x.path ≡ j ∷ p → r.site ≡ x.site → i < j → Earlier filed.net.place e o)
          → (e < f) ⊎ ((e ≡ f) ⊎ (f < e)) → (a : After) → l.row.after ≡ a → Earlier filed.net.place e f
      go again c FirstOfMain h = absurd ((as_it f q l FirstOfMain h).1 e r i (before c) is its site)
      go again c (FirstOf u) h = absurd ((as_it f q l (FirstOf u) h).2 e r i (before c) is its site)
      go again c (Sibling o) h =
          let s = as_it f q l (Sibling o) h in
          elim (s.last e r i (before c) is its site) [
            | inl z ↦ next (place_as f q l (Sibling o) h ∙ ap after (sym z))
            | inr z ↦ back (place_as f q l (Sibling o) h) (again o s.it s.index (let b = s.before in omega (arith, b, few)) s.is path (s.path ∙ ap (λ (y : List ℕ). s.index ∷ y) both.1) (site ∙ sym s.site) z)
          ]

  pub are_roles : AreRoles filed.net (info_in ws) role
  are_roles =
      let kept = filed.kept first_view refl refl in
      record {
        hung = hung_role;
        one = planned.one;
        number = planned.number;
        below_main = λ e r is. let w = planned.row e r is in (w.2.index, w.2.above_path, w.2.path);
        main = planned.main;
        told = λ e r is h.
            let w = planned.row e r is in
            let t = filed.told e w.0 w.1 in
            (sym (kept.modes.mode e h) ∙ (ap (λ (x : _). x.mode) t ∙ w.2.mode), ap (λ (x : _). x.strong) t ∙ w.2.strong, ap (λ (x : _). x.task) t ∙ w.2.task);
        depth = λ e r is h.
            let w = planned.row e r is in
            sym (kept.modes.depth e h) ∙ (ap (λ (x : _). x.depth) (filed.told e w.0 w.1) ∙ w.2.depth);
        parent = λ e r k i p is h path. parent_is e r k i p is path;
        behind_is = behind_is;
        topmost = λ e r k is h path. top_is (suc e) e r k (omega arith) is path;
        below = λ e f r q k is fis h g path site. below_is (suc f) e f r q k (omega arith) is fis path site;
        order = λ e f r q i k p is fis h g path fpath site less. order_is (suc f) e f r q i k p (omega arith) is fis path fpath site less;
      }
