-- Each entry may be linked behind those before it, also when the book grows.
use Rattle.std.proofs.Common.{◌≡◌, ℕ, zero, suc, ◌<◌, ◌≤◌, ◌+◌, ◌⊎◌, inl, inr, refl, sym, ap, subst, ◌∙◌, true, List, [], ◌∷◌, ◌++◌, Option, Some, None, length, arith}
use Rattle.oss_model.specs.Rights.{covers}
use Rattle.oss_deps.proofs.Basics.{options, some_is}
use Rattle.oss_words.specs.declared.entry.After.{After}
use Rattle.oss_words.specs.declared.entry.After.TheVariants.{FirstOf, FirstOfMain, Sibling}
use Rattle.oss_access_lists.specs.Wires.{AreWired, IsBefore, IsBelow, Place, after, first, head, loose, tail}
use Rattle.oss_access_lists.proofs.SoundLemmas.{rises}
use Rattle.oss_word_deps.specs.declared.entry.Entry.{Entry}
use Rattle.oss_word_deps.specs.Growing.{place_behind}
use Rattle.oss_word_deps.specs.Ledger.{Ledger, entry_of, hangs_at, last_of, lists_of, place_in, row}
use Rattle.oss_word_deps.specs.Sound.{Fits, IsBehind, IsBelowEntry, IsFirstAt, IsPlaced, IsSound, Under, eldest, younger}
use Rattle.oss_word_deps.proofs.GrowLemmas.{IsParentRow}
use Rattle.oss_word_deps.proofs.LedgerLemmas.{entry_added, entry_kept, entry_within, row_entry, row_is}

-- what an entry is above, before and behind is kept
pub under_kept : (entries : List Entry) (x : Entry) (p v : ℕ) → Under entries p v → Under (entries ++ x ∷ []) p v
under_kept entries x p v (eldest e h k) = eldest e (entry_kept entries x v e h) k
under_kept entries x p v (younger {u = u} e h k b) = younger e (entry_kept entries x v e h) k (under_kept entries x p u b)

first_kept : (entries : List Entry) (x : Entry) (v : ℕ) (a : After) → v ≤ length entries + 1 → IsFirstAt entries v a → IsFirstAt (entries ++ x ∷ []) v a
first_kept entries x v a within f u y less at is = go (entry_added entries x u y at)
  where
    go : (entry_of entries u ≡ Some y) ⊎ ((u ≡ suc (length entries)) × (y ≡ x)) → ⊥
    go (inl h) = f u y less h is
    go (inr (z, s)) = omega (arith, less, z, within)

below_kept : (entries : List Entry) (x y : Entry) → IsBelowEntry entries y → IsBelowEntry (entries ++ x ∷ []) y
below_kept entries x y b = record { above = b.above; is = entry_kept entries x y.info.parent b.above b.is; depth = b.depth; cell = b.cell; covered = b.covered }

behind_kept : (entries : List Entry) (x : Entry) (v o : ℕ) (y : Entry) → IsBehind entries v y o → IsBehind (entries ++ x ∷ []) v y o
behind_kept entries x v o y b = record {
  sibling = b.sibling;
  is = entry_kept entries x o b.sibling b.is;
  before = b.before;
  parent = b.parent;
  cell = b.cell;
  under = λ n. under_kept entries x y.info.parent o (b.under n);
}

placed_kept : (entries : List Entry) (x : Entry) (v : ℕ) (y : Entry) (a : After) → IsPlaced entries v y a → IsPlaced (entries ++ x ∷ []) v y a
placed_kept entries x v y FirstOfMain h = h
placed_kept entries x v y (FirstOf p) h = h
placed_kept entries x v y (Sibling o) h = behind_kept entries x v o y h

pub fits_kept : (entries : List Entry) (x : Entry) (v : ℕ) (y : Entry) → v ≤ length entries → Fits entries v y → Fits (entries ++ x ∷ []) v y
fits_kept entries x v y within f = record {
  above = f.above;
  top = f.top;
  below = λ n. below_kept entries x y (f.below n);
  shallow = f.shallow;
  task = f.task;
  placed = placed_kept entries x v y y.after f.placed;
  first = λ p h. first_kept entries x v (FirstOf p) (omega (arith, within)) (f.first p h);
  next = λ o h. first_kept entries x v (Sibling o) (omega (arith, within)) (f.next o h);
}

-- where an entry hangs in the lists of its cell tells where it is linked
first_same : (u w : ℕ) → first u ≡ first w → u ≡ w
first_same u w q = cc

after_same : (u w : ℕ) → after u ≡ after w → u ≡ w
after_same u w q = cc

module _ (l : Ledger) (sound : IsSound l) (k : ℕ) where
  -- what hangs is an entry of the cell
  pub hung_row : (v : ℕ) (a : Place) → place_in (row l.entries k v) ≡ a → (a ≡ loose → ⊥) → (y : Entry) × (row l.entries k v ≡ Some y)
  hung_row v a h n = go (options (row l.entries k v))
    where
      go : (row l.entries k v ≡ None) ⊎ ((y : Entry) × (row l.entries k v ≡ Some y)) → (y : Entry) × (row l.entries k v ≡ Some y)
      go (inl r) = absurd (n (sym h ∙ ap place_in r))
      go (inr r) = r

  pub row_below : (p v : ℕ) → IsBelow (lists_of l k).place p v → (y : Entry) × (row l.entries k v ≡ Some y)
  row_below p v (head h) = hung_row v (first p) h (λ z. cc)
  row_below p v (tail {u = u} h b) = hung_row v (after u) h (λ z. cc)

  hangs : (v : ℕ) (y : Entry) (a : Place) → row l.entries k v ≡ Some y → place_in (row l.entries k v) ≡ a → hangs_at y.after ≡ a
  hangs v y a r h = sym (ap place_in r) ∙ h

  at_after : (v : ℕ) (y : Entry) (a : After) (u : ℕ) → y.after ≡ a → hangs_at a ≡ after u → y.after ≡ Sibling u
  at_after v y FirstOfMain u s q = absurd cc
  at_after v y (FirstOf w) u s q = absurd cc
  at_after v y (Sibling w) u s q = s ∙ ap Sibling (after_same w u q)

  pub sibling_of : (v u : ℕ) (y : Entry) → row l.entries k v ≡ Some y → (lists_of l k).place v ≡ after u → y.after ≡ Sibling u
  sibling_of v u y r h = at_after v y y.after u refl (hangs v y (after u) r h)

  -- behind whom it stands
  pub behind_of : (v u : ℕ) (y : Entry) → row l.entries k v ≡ Some y → (lists_of l k).place v ≡ after u → IsBehind l.entries v y u
  behind_of v u y r h = subst (λ (a : After). IsPlaced l.entries v y a) (sibling_of v u y r h) (sound.fits v y (row_entry l.entries k v y r).0).placed

  -- whose child it is
  pub parent_below : (p v : ℕ) (y : Entry) → row l.entries k v ≡ Some y → IsBelow (lists_of l k).place p v → y.info.parent ≡ p
  parent_below p v y r (head h) = go y.after refl (hangs v y (first p) r h)
    where
      go : (a : After) → y.after ≡ a → hangs_at a ≡ first p → y.info.parent ≡ p
      go FirstOfMain s q = subst (λ (b : After). IsPlaced l.entries v y b) s (sound.fits v y (row_entry l.entries k v y r).0).placed ∙ first_same 0 p q
      go (FirstOf w) s q = (subst (λ (b : After). IsPlaced l.entries v y b) s (sound.fits v y (row_entry l.entries k v y r).0).placed).0 ∙ first_same w p q
      go (Sibling w) s q = absurd cc
  parent_below p v y r (tail {u = u} h b) =
      let s = behind_of v u y r h in
      sym s.parent ∙ parent_below p u s.sibling (row_is l.entries k u s.sibling s.is (s.cell ∙ (row_entry l.entries k v y r).1)) b

  pub under_below : (p v : ℕ) → (p ≡ 0 → ⊥) → IsBelow (lists_of l k).place p v → Under l.entries p v
  under_below p v n (head h) = go (row_below p v (head h))
    where
      at : (y : Entry) → row l.entries k v ≡ Some y → (a : After) → y.after ≡ a → hangs_at a ≡ first p → Under l.entries p v
      at y r FirstOfMain s q = absurd (n (sym (first_same 0 p q)))
      at y r (FirstOf w) s q = eldest y (row_entry l.entries k v y r).0 (s ∙ ap FirstOf (first_same w p q))
      at y r (Sibling w) s q = absurd cc

      go : (y : Entry) × (row l.entries k v ≡ Some y) → Under l.entries p v
      go (y, r) = at y r y.after refl (hangs v y (first p) r h)
  under_below p v n (tail {u = u} h b) =
      let y = hung_row v (after u) h (λ z. cc) in
      younger y.0 (row_entry l.entries k v y.0 y.1).0 (sibling_of v u y.0 y.1 h) (under_below p u n b)

-- the new entry
module _ (l : Ledger) (sound : IsSound l) (x : Entry) (p : ℕ) (parent : IsParentRow l x.cell p) (parent_is : x.info.parent ≡ p) (top : p ≡ 0 → x.info.depth ≡ 1)
    (deep : (y : Entry) → row l.entries x.cell p ≡ Some y → x.info.depth ≡ 1 + y.info.depth) (shallow : x.info.depth ≤ 64) (task : x.info.task < 16777216)
    (after_is : x.after ≡ place_behind p (last_of l x.cell p)) (wired : AreWired (lists_of l x.cell)) (covered : covers ((lists_of l x.cell).mode p) x.info.mode ≡ true) where
  abbrev pub grown_by : List Entry
  grown_by = l.entries ++ x ∷ []

  parent_row : (x.info.parent ≡ 0 → ⊥) → (y : Entry) × (row l.entries x.cell p ≡ Some y)
  parent_row n = go parent
    where
      go : IsParentRow l x.cell p → (y : Entry) × (row l.entries x.cell p ≡ Some y)
      go (inl z) = absurd (n (parent_is ∙ z))
      go (inr r) = r

  below : (x.info.parent ≡ 0 → ⊥) → IsBelowEntry grown_by x
  below n =
      let y = parent_row n in
      let is = row_entry l.entries x.cell p y.0 y.1 in
      record {
        above = y.0;
        is = entry_kept l.entries x x.info.parent y.0 (ap (entry_of l.entries) parent_is ∙ is.0);
        depth = deep y.0 y.1;
        cell = is.1;
        covered = subst (λ (r : Option Entry). covers (Rattle.oss_word_deps.specs.Ledger.mode_of r) x.info.mode ≡ true) y.1 covered;
      }

  parent_less : x.info.parent < suc (length l.entries)
  parent_less = go parent
    where
      go : IsParentRow l x.cell p → x.info.parent < suc (length l.entries)
      go (inl z) = omega (arith, parent_is, z)
      go (inr (y, r)) = let h = (entry_within l.entries p y (row_entry l.entries x.cell p y r).0).1 in omega (arith, parent_is, h)

  -- the last child, where there is one
  last_below : (q : ℕ) → last_of l x.cell p ≡ q → (q ≡ 0 → ⊥) → IsBelow (lists_of l x.cell).place p q
  last_below q h n = wired.listed p q h n

  behind : (q : ℕ) → last_of l x.cell p ≡ q → (q ≡ 0 → ⊥) → IsBehind grown_by (suc (length l.entries)) x q
  behind q h n =
      let b = last_below q h n in
      let y = row_below l sound x.cell p q b in
      let is = row_entry l.entries x.cell q y.0 y.1 in
      record {
        sibling = y.0;
        is = entry_kept l.entries x q y.0 is.0;
        before = (let w = (entry_within l.entries q y.0 is.0).1 in omega (arith, w));
        parent = parent_below l sound x.cell p q y.0 y.1 b ∙ sym parent_is;
        cell = is.1;
        under = λ m. subst (λ (z : ℕ). Under grown_by z q) (sym parent_is) (under_kept l.entries x p q (under_below l sound x.cell p q (λ z. m (parent_is ∙ z)) b));
      }

  placed : (r q : ℕ) → p ≡ r → last_of l x.cell p ≡ q → IsPlaced grown_by (suc (length l.entries)) x (place_behind r q)
  placed zero zero z h = parent_is ∙ z
  placed (suc r) zero z h = (parent_is ∙ z, λ w. omega (arith, w))
  placed zero (suc q) z h = behind (suc q) h (λ w. omega (arith, w))
  placed (suc r) (suc q) z h = behind (suc q) h (λ w. omega (arith, w))

  -- nobody was the first child of a parent that has none
  no_first : (r q w : ℕ) → p ≡ r → last_of l x.cell p ≡ q → place_behind r q ≡ FirstOf w → IsFirstAt grown_by (suc (length l.entries)) (FirstOf w)
  no_first zero zero w z h s u y less at is = absurd cc
  no_first zero (suc q) w z h s u y less at is = absurd cc
  no_first (suc r) (suc q) w z h s u y less at is = absurd cc
  no_first (suc r) zero w z h s u y less at is = go (entry_added l.entries x u y at)
    where
      same : suc r ≡ w
      same = cc

      old : entry_of l.entries u ≡ Some y → ⊥
      old k =
          let f = sound.fits u y k in
          let at_p = subst (λ (b : After). IsPlaced l.entries u y b) is f.placed in
          let b = f.below (λ m. at_p.1 (sym at_p.0 ∙ m)) in
          let n = parent_row (λ m. omega (arith, parent_is, z, m)) in
          let row_p = row_entry l.entries x.cell p n.0 n.1 in
          let one : n.0 ≡ b.above = some_is (sym row_p.0 ∙ (ap (entry_of l.entries) (z ∙ (same ∙ sym at_p.0)) ∙ b.is)) in
          let cell : y.cell ≡ x.cell = sym b.cell ∙ (ap (λ (i : Entry). i.cell) (sym one) ∙ row_p.1) in
          let here = row_is l.entries x.cell u y k cell in
          wired.empty p u h (head (ap place_in here ∙ (ap hangs_at is ∙ ap first (sym same ∙ sym z))))

      go : (entry_of l.entries u ≡ Some y) ⊎ ((u ≡ suc (length l.entries)) × (y ≡ x)) → ⊥
      go (inl k) = old k
      go (inr (e, _)) = omega (arith, e, less)

  -- nobody stands behind the last
  no_next : (r q w : ℕ) → p ≡ r → last_of l x.cell p ≡ q → place_behind r q ≡ Sibling w → IsFirstAt grown_by (suc (length l.entries)) (Sibling w)
  no_next zero zero w z h s u y less at is = absurd cc
  no_next (suc r) zero w z h s u y less at is = absurd cc
  no_next r (suc q) w z h s u y less at is = go (entry_added l.entries x u y at)
    where
      same : suc q ≡ w
      same = along r s
        where
          along : (r : ℕ) → place_behind r (suc q) ≡ Sibling w → suc q ≡ w
          along zero t = cc
          along (suc r) t = cc

      old : entry_of l.entries u ≡ Some y → ⊥
      old k =
          let b = subst (λ (a : After). IsPlaced l.entries u y a) is (sound.fits u y k).placed in
          let below_q = last_below (suc q) h (λ m. omega (arith, m)) in
          let n = row_below l sound x.cell p (suc q) below_q in
          let row_q = row_entry l.entries x.cell (suc q) n.0 n.1 in
          let one : n.0 ≡ b.sibling = some_is (sym row_q.0 ∙ (ap (entry_of l.entries) same ∙ b.is)) in
          let cell : y.cell ≡ x.cell = sym b.cell ∙ (ap (λ (i : Entry). i.cell) (sym one) ∙ row_q.1) in
          let here = row_is l.entries x.cell u y k cell in
          let at_u : (lists_of l x.cell).place u ≡ after (suc q) = ap place_in here ∙ (ap hangs_at is ∙ ap after (sym same)) in
          let less_u = wired.behind (suc q) u at_u in
          two less_u (wired.all_before p u (suc q) h (tail at_u below_q))
        where
          two : suc q < u → (u ≡ suc q) ⊎ IsBefore (lists_of l x.cell).place u (suc q) → ⊥
          two m (inl e) = omega (arith, m, e)
          two m (inr e) = let f = rises (lists_of l x.cell) wired u (suc q) e in omega (arith, m, f)

      go : (entry_of l.entries u ≡ Some y) ⊎ ((u ≡ suc (length l.entries)) × (y ≡ x)) → ⊥
      go (inl k) = old k
      go (inr (e, _)) = omega (arith, e, less)

  pub new_fits : Fits grown_by (suc (length l.entries)) x
  new_fits = record {
    above = parent_less;
    top = λ z. top (sym parent_is ∙ z);
    below = below;
    shallow = shallow;
    task = task;
    placed = subst (λ (a : After). IsPlaced grown_by (suc (length l.entries)) x a) (sym after_is) (placed p (last_of l x.cell p) refl refl);
    first = λ w h. no_first p (last_of l x.cell p) w refl refl (sym after_is ∙ h);
    next = λ w h. no_next p (last_of l x.cell p) w refl refl (sym after_is ∙ h);
  }
