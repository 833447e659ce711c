-- The lists of each cell when the book grows by an entry.
use Rattle.std.proofs.Common.{◌≡◌, ℕ, zero, suc, ◌<◌, ◌≤◌, ◌⊎◌, inl, inr, refl, sym, ap, subst, ◌∙◌, true, false, List, Option, Some, None, length, arith}
use Rattle.std.specs.Prelude.{slice_get}
use Rattle.oss_syntax.specs.declared.access.Mode.{Mode}
use Rattle.oss_model.specs.Rights.{covers}
use Rattle.oss_words.specs.declared.entry.After.{After}
use Rattle.oss_words.specs.declared.entry.After.TheVariants.{FirstOf, FirstOfMain, Sibling}
use Rattle.oss_access_lists.specs.Steps.{IsHung}
use Rattle.oss_access_lists.specs.Wires.{AreWired, IsBelow, after, first, loose}
use Rattle.oss_access_lists.proofs.StepLemmas.{same_or}
use Rattle.oss_links.specs.Held.{AreAlike}
use Rattle.oss_word_deps.specs.declared.entry.Entry.{Entry}
use Rattle.oss_word_deps.specs.declared.entry.Mark.{Mark}
use Rattle.oss_word_deps.specs.Growing.{grown, place_behind, with_main}
use Rattle.oss_word_deps.specs.Ledger.{Ledger, entry_of, given_in, hangs_at, in_cell, last_in, last_of, lists_of, mark_of, mode_of, no_mark, or_zero, place_in, row, task_of}
use Rattle.oss_word_deps.specs.Sound.{IsSound}
use Rattle.oss_word_deps.proofs.LedgerLemmas.{entry_beyond, entry_end, entry_within, get_set_other, get_set_same, given_alike, grown_given, grown_last, grown_other, in_cell_is, in_cell_not, mark_beyond, none_not, row_entry, row_front, row_none, row_not}

-- the parent is main, or an entry of the cell
abbrev pub IsParentRow : Ledger → ℕ → ℕ → Type 0
IsParentRow l k p = (p ≡ 0) ⊎ ((y : Entry) × (row l.entries k p ≡ Some y))

module _ (l : Ledger) (sound : IsSound l) (x : Entry) (p : ℕ) (parent : IsParentRow l x.cell p) where
  abbrev pub e : ℕ
  e = suc (length l.entries)

  abbrev pub g : Ledger
  g = grown l p x

  pub parent_within : p ≤ length l.entries
  parent_within = go parent
    where
      go : IsParentRow l x.cell p → p ≤ length l.entries
      go (inl z) = omega (arith, z)
      go (inr (y, h)) = (entry_within l.entries p y (row_entry l.entries x.cell p y h).0).1

  marked : p ≤ length l.marks
  marked = omega (arith, parent_within, sound.marks)

  -- nothing was given up or taken back
  given_same : (v : ℕ) → (mark_of g.marks v).given ≡ (mark_of l.marks v).given
  given_same v = grown_given l.marks p e v marked

  -- the new number is free
  free : (c : ℕ) → row l.entries c e ≡ None
  free c = row_none l.entries c e (entry_beyond l.entries e (omega arith))

  gave_same : (c v : ℕ) → row g.entries c v ≡ row l.entries c v → given_in (row g.entries c v) (mark_of g.marks v) ≡ given_in (row l.entries c v) (mark_of l.marks v)
  gave_same c v h = ap (λ (r : Option Entry). given_in r (mark_of g.marks v)) h ∙ given_alike (row l.entries c v) (mark_of g.marks v) (mark_of l.marks v) (given_same v)

  -- a list has the same last, unless it is the parent's at the cell
  last_same : (c q : ℕ) → row g.entries c q ≡ row l.entries c q → (q ≡ p → c ≡ x.cell → ⊥) → last_of g c q ≡ last_of l c q
  last_same c zero h n = go p refl
    where
      go : (r : ℕ) → p ≡ r → last_of g c zero ≡ last_of l c zero
      go zero z = ap (λ (mains : List ℕ). or_zero (slice_get mains c)) (ap (λ (r : ℕ). with_main l.mains r x.cell e) z) ∙ ap or_zero (get_set_other l.mains x.cell c e (λ k. n (sym z) k))
      go (suc r) z = ap (λ (mains : List ℕ). or_zero (slice_get mains c)) (ap (λ (r : ℕ). with_main l.mains r x.cell e) z)
  last_same c (suc q) h n = ap (λ (r : Option Entry). last_in r (mark_of g.marks (suc q))) h ∙ go (same_or (suc q) p)
    where
      go : (suc q ≡ p) ⊎ (suc q ≡ p → ⊥) → last_in (row l.entries c (suc q)) (mark_of g.marks (suc q)) ≡ last_in (row l.entries c (suc q)) (mark_of l.marks (suc q))
      go (inr m) = ap (last_in (row l.entries c (suc q))) (grown_other l.marks p e (suc q) m)
      go (inl m) = ap (λ (r : Option Entry). last_in r (mark_of g.marks (suc q))) gone ∙ sym (ap (λ (r : Option Entry). last_in r (mark_of l.marks (suc q))) gone)
        where
          gone : row l.entries c (suc q) ≡ None
          gone = away parent
            where
              away : IsParentRow l x.cell p → row l.entries c (suc q) ≡ None
              away (inl z) = absurd (omega (arith, m, z))
              away (inr (y, k)) =
                  let is = row_entry l.entries x.cell p y k in
                  row_not l.entries c (suc q) y (ap (entry_of l.entries) m ∙ is.0) (λ (s : y.cell ≡ c). n m (sym s ∙ is.1))

  -- the rows of another cell
  aside : (c : ℕ) → (x.cell ≡ c → ⊥) → (v : ℕ) → row g.entries c v ≡ row l.entries c v
  aside c n v = go (same_or v e)
    where
      go : (v ≡ e) ⊎ (v ≡ e → ⊥) → row g.entries c v ≡ row l.entries c v
      go (inr m) = row_front l.entries x c v m
      go (inl m) = subst (λ (u : ℕ). row g.entries c u ≡ row l.entries c u) (sym m) (ap (in_cell c) (entry_end l.entries x) ∙ (in_cell_not c x n ∙ sym (free c)))

  -- the lists of another cell are the same
  pub others_alike : (c : ℕ) → (x.cell ≡ c → ⊥) → AreAlike (lists_of l c) (lists_of g c)
  others_alike c n = record {
    places = λ v. sym (ap place_in (aside c n v));
    lasts = λ v. sym (last_same c v (aside c n v) (λ (_ : v ≡ p) k. n (sym k)));
    modes = λ v. sym (ap mode_of (aside c n v));
    gave = λ v. sym (gave_same c v (aside c n v));
  }

  pub others_tasks : (c : ℕ) → (x.cell ≡ c → ⊥) → (v : ℕ) → task_of g.entries c v ≡ task_of l.entries c v
  others_tasks c n v = ap (λ (r : Option Entry). Rattle.oss_word_deps.specs.Ledger.task_in r) (aside c n v)

  -- and in those of the cell it is hung
  abbrev pub k : ℕ
  k = x.cell

  here : row g.entries k e ≡ Some x
  here = ap (in_cell k) (entry_end l.entries x) ∙ in_cell_is k x refl

  module _ (after_is : x.after ≡ place_behind p (last_of l k p)) (within : k < length l.mains) (wired : AreWired (lists_of l k)) (listed : (q v : ℕ) → IsBelow (lists_of l k).place q v → v ≤ length l.entries)
      (held : (lists_of l k).gave p ≡ false) (covered : covers ((lists_of l k).mode p) x.info.mode ≡ true) where
    behind : last_of l k p < e
    behind = go (same_or (last_of l k p) 0)
      where
        go : (last_of l k p ≡ 0) ⊎ (last_of l k p ≡ 0 → ⊥) → last_of l k p < e
        go (inl z) = omega (arith, z)
        go (inr n) = let h = listed p (last_of l k p) (wired.listed p (last_of l k p) refl n) in omega (arith, h)

    -- no entry knows of one that was not there
    hung_known : (v : ℕ) (y : Entry) → row l.entries k v ≡ Some y → (y.after ≡ Sibling e → ⊥) × (y.after ≡ FirstOf e → ⊥)
    hung_known v y h = (λ s. sibling s, λ s. child s)
      where
        at : entry_of l.entries v ≡ Some y
        at = (row_entry l.entries k v y h).0

        sibling : y.after ≡ Sibling e → ⊥
        sibling s = let b = subst (λ (a : After). Rattle.oss_word_deps.specs.Sound.IsPlaced l.entries v y a) s (sound.fits v y at).placed in none_not (entry_beyond l.entries e (omega arith)) b.is

        child : y.after ≡ FirstOf e → ⊥
        child s =
            let b = subst (λ (a : After). Rattle.oss_word_deps.specs.Sound.IsPlaced l.entries v y a) s (sound.fits v y at).placed in
            let n = (sound.fits v y at).above in
            let m = (entry_within l.entries v y at).1 in
            omega (arith, b.0, n, m)

    none_after : (v : ℕ) → place_in (row l.entries k v) ≡ after e → ⊥
    none_after v h = go (row l.entries k v) refl
      where
        at : (y : Entry) (a : After) → row l.entries k v ≡ Some y → y.after ≡ a → hangs_at a ≡ after e → ⊥
        at y FirstOfMain r s q = cc
        at y (FirstOf u) r s q = cc
        at y (Sibling u) r s q = (hung_known v y r).0 (s ∙ ap Sibling (after_same u e q))
          where
            after_same : (u w : ℕ) → after u ≡ after w → u ≡ w
            after_same u w q = cc

        go : (r : Option Entry) → row l.entries k v ≡ r → ⊥
        go None r = let z : loose ≡ after e = sym (ap place_in r) ∙ h in cc
        go (Some y) r = at y y.after r refl (sym (ap place_in r) ∙ h)

    none_first : (v : ℕ) → place_in (row l.entries k v) ≡ first e → ⊥
    none_first v h = go (row l.entries k v) refl
      where
        first_same : (u w : ℕ) → first u ≡ first w → u ≡ w
        first_same u w q = cc

        at : (y : Entry) (a : After) → row l.entries k v ≡ Some y → y.after ≡ a → hangs_at a ≡ first e → ⊥
        at y FirstOfMain r s q = let z = first_same 0 e q in omega (arith, z)
        at y (FirstOf u) r s q = (hung_known v y r).1 (s ∙ ap FirstOf (first_same u e q))
        at y (Sibling u) r s q = cc

        go : (r : Option Entry) → row l.entries k v ≡ r → ⊥
        go None r = let z : loose ≡ first e = sym (ap place_in r) ∙ h in cc
        go (Some y) r = at y y.after r refl (sym (ap place_in r) ∙ h)

    placed_first : (q : ℕ) → place_behind p q ≡ x.after → q ≡ 0 → hangs_at x.after ≡ first p
    placed_first zero h z = go p refl
      where
        go : (r : ℕ) → p ≡ r → hangs_at x.after ≡ first p
        go zero w = sym (ap hangs_at (ap (λ (r : ℕ). place_behind r 0) (sym w) ∙ h)) ∙ ap first (sym w)
        go (suc r) w = sym (ap hangs_at (ap (λ (r : ℕ). place_behind r 0) (sym w) ∙ h)) ∙ ap first (sym w)
    placed_first (suc q) h z = absurd (omega (arith, z))

    placed_next : (q : ℕ) → place_behind p q ≡ x.after → (q ≡ 0 → ⊥) → hangs_at x.after ≡ after q
    placed_next zero h n = absurd (n refl)
    placed_next (suc q) h n = go p refl
      where
        go : (r : ℕ) → p ≡ r → hangs_at x.after ≡ after (suc q)
        go zero w = sym (ap hangs_at (ap (λ (r : ℕ). place_behind r (suc q)) (sym w) ∙ h))
        go (suc r) w = sym (ap hangs_at (ap (λ (r : ℕ). place_behind r (suc q)) (sym w) ∙ h))

    here_place : (lists_of g k).place e ≡ hangs_at x.after
    here_place = ap place_in here

    new_last : last_of g k p ≡ e
    new_last = go p refl parent
      where
        go : (q : ℕ) → p ≡ q → IsParentRow l k p → last_of g k p ≡ e
        go zero z h = ap (last_of g k) z ∙ (ap (λ (mains : List ℕ). or_zero (slice_get mains k)) (ap (λ (r : ℕ). with_main l.mains r k e) z) ∙ ap or_zero (get_set_same l.mains k e within))
        go (suc q) z (inl w) = absurd (omega (arith, z, w))
        go (suc q) z (inr (y, h)) =
            let at : row g.entries k (suc q) ≡ Some y = row_front l.entries x k (suc q) (λ w. omega (arith, parent_within, z, w)) ∙ (ap (row l.entries k) (sym z) ∙ h) in
            ap (last_of g k) z ∙ (ap (λ (r : Option Entry). last_in r (mark_of g.marks (suc q))) at ∙ (ap (λ (v : ℕ). (mark_of g.marks v).last) (sym z) ∙ grown_last l.marks p e (omega (arith, z)) marked))

    new_none : last_of g k e ≡ 0
    new_none = ap (λ (r : Option Entry). last_in r (mark_of g.marks e)) here ∙ (ap (λ (m : Mark). m.last) (grown_other l.marks p e e (λ z. omega (arith, parent_within, z))) ∙ ap (λ (m : Mark). m.last) (mark_beyond l.marks e (omega (arith, sound.marks))))

    -- the lists of the cell, with the new entry hung
    pub hung : IsHung (lists_of l k) (lists_of g k) p e
    hung = record {
      above = omega (arith, parent_within);
      behind = behind;
      loose_before = ap place_in (free k);
      last_of_none = none_after;
      empty = none_first;
      bare = ap (λ (r : Option Entry). last_in r (mark_of l.marks e)) (free k);
      kept = ap (λ (r : Option Entry). given_in r (mark_of l.marks e)) (free k);
      held = held;
      as_first = λ z. here_place ∙ placed_first (last_of l k p) (sym after_is) z;
      as_next = λ n. here_place ∙ placed_next (last_of l k p) (sym after_is) n;
      places = λ v n. ap place_in (row_front l.entries x k v n);
      modes = λ v n. ap mode_of (row_front l.entries x k v n);
      gave = gave_all;
      last = new_last;
      lasts = last_all;
      covered = subst (λ (m : Mode). covers ((lists_of g k).mode p) m ≡ true) (sym (ap mode_of here)) (subst (λ (m : Mode). covers m x.info.mode ≡ true) (sym (ap mode_of (row_front l.entries x k p (λ z. omega (arith, parent_within, z))))) covered);
    }
      where
        gave_all : (v : ℕ) → (lists_of g k).gave v ≡ (lists_of l k).gave v
        gave_all v = go (same_or v e)
          where
            at_new : (lists_of g k).gave e ≡ (lists_of l k).gave e
            at_new =
                ap (λ (r : Option Entry). given_in r (mark_of g.marks e)) here ∙ ((given_same e ∙ ap (λ (m : Mark). m.given) (mark_beyond l.marks e (omega (arith, sound.marks)))) ∙ sym (ap (λ (r : Option Entry). given_in r (mark_of l.marks e)) (free k)))

            go : (v ≡ e) ⊎ (v ≡ e → ⊥) → (lists_of g k).gave v ≡ (lists_of l k).gave v
            go (inr n) = gave_same k v (row_front l.entries x k v n)
            go (inl z) = subst (λ (u : ℕ). (lists_of g k).gave u ≡ (lists_of l k).gave u) (sym z) at_new

        last_all : (q : ℕ) → (q ≡ p → ⊥) → (lists_of g k).last q ≡ (lists_of l k).last q
        last_all q n = go (same_or q e)
          where
            go : (q ≡ e) ⊎ (q ≡ e → ⊥) → (lists_of g k).last q ≡ (lists_of l k).last q
            go (inr m) = last_same k q (row_front l.entries x k q m) (λ z _. n z)
            go (inl z) = subst (λ (u : ℕ). last_of g k u ≡ last_of l k u) (sym z) (new_none ∙ sym (ap (λ (r : Option Entry). last_in r (mark_of l.marks e)) (free k)))
