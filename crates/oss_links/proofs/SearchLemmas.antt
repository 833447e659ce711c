-- The search for what an access waits for, and the one for a child that is not done.
use Rattle.std.proofs.Common.{◌≡◌, ℕ, ◌<◌, refl, sym, subst, ◌∙◌, ◌⊎◌, inl, inr, Bool, true, false, eq-eqb}
use Rattle.std.specs.Prelude.{◌||◌}
use Rattle.oss_syntax.specs.declared.access.Mode.{Mode}
use Rattle.oss_syntax.specs.declared.access.Mode.TheVariants.{Read, Write, Fold}
use Rattle.oss_access_lists.specs.declared.marks.Marks.{Marks}
use Rattle.oss_access_lists.specs.Wires.{Place, Wires, IsBelow, head, tail, IsBefore, next, later, first, after}
use Rattle.oss_access_lists.specs.Flags.{AreAtRest, MayRead, MayWrite, Clear, from_above, from_before, is_over, is_read, is_whole}
use Rattle.oss_access_lists.proofs.SoundLemmas.{both_of, is_zero}
use Rattle.oss_links.specs.Readings.{is_let, is_list_done}
use Rattle.oss_links.specs.Search.{IsInTheWay, IsStopped, IsUndoneUpTo, itself, passes, upwards}
use Rattle.oss_links.proofs.ChildLemmas.{zero_test}

-- one further back, or a whole list down
before_more : (place : ℕ → Place) (u x l : ℕ) → place x ≡ after u → IsBefore place x l → IsBefore place u l
before_more place u x l e (next g) = later g (next e)
before_more place u x l e (later {t = t} g b) = later g (before_more place u x t e b)

below_along : (place : ℕ → Place) (p x l : ℕ) → IsBelow place p x → IsBefore place x l → IsBelow place p l
below_along place p x l b (next g) = tail g b
below_along place p x l b (later {t = t} g k) = tail g (below_along place p x t b k)

before_level : (place : ℕ → Place) (u x l : ℕ) → place x ≡ after u → (x ≡ l) ⊎ IsBefore place x l → IsBefore place u l
before_level place u x l e (inl h) = next (subst (λ y. place y ≡ after u) h e)
before_level place u x l e (inr b) = before_more place u x l e b

below_level : (place : ℕ → Place) (p x l : ℕ) → place x ≡ first p → (x ≡ l) ⊎ IsBefore place x l → IsBelow place p l
below_level place p x l e (inl h) = subst (λ y. IsBelow place p y) h (head e)
below_level place p x l e (inr b) = below_along place p x l (head e) b

not_true : (b : Bool) → (b ≡ true → ⊥) → b ≡ false
not_true true f = absurd (f refl)
not_true false f = refl

pub true_not_false : (b : Bool) → b ≡ true → b ≡ false → ⊥
true_not_false b h k = let q = sym h ∙ k in cc

pub search_begins : (w : Wires) (F : ℕ → Marks) (m : Mode) (v : ℕ) → (v ≡ 0 → ⊥) → is_let m (F v) ≡ false → IsStopped w F m v v
search_begins w F m v n h = record { level = v; above = itself; behind = inl refl; not_main = n; lacks = h }

pub search_ends : (w : Wires) (F : ℕ → Marks) (m : Mode) (v x u : ℕ) → IsStopped w F m v x → w.place x ≡ after u → passes m (w.mode u) (F u) ≡ false → IsInTheWay w F m v u
search_ends w F m v x u is e h = record { level = is.level; above = is.above; before = before_level w.place u x is.level e is.behind; stops = h }

module _ (w : Wires) (F : ℕ → Marks) (rest : AreAtRest w F) where
  -- the flag comes from the one before, where that may be passed
  comes_next : (m : Mode) (x u : ℕ) → w.place x ≡ after u → passes m (w.mode u) (F u) ≡ true → is_let m (F u) ≡ true → is_let m (F x) ≡ true
  comes_next Read x u e h k = rest.due MayRead x (from_before u e (both_of (F u).reads (is_read (w.mode u) || is_over (F u)) k h))
  comes_next Write x u e h k = rest.due MayWrite x (from_before u e (both_of (F u).writes (is_over (F u)) k h))
  comes_next (Fold op) x u e h k = refl

  -- and to the first from the one above
  comes_down : (m : Mode) (x p : ℕ) → w.place x ≡ first p → is_let m (F p) ≡ true → is_let m (F x) ≡ true
  comes_down Read x p e k = rest.due MayRead x (from_above p e k)
  comes_down Write x p e k = rest.due MayWrite x (from_above p e k)
  comes_down (Fold op) x p e k = refl

  main_lets : (m : Mode) → is_let m (F 0) ≡ true
  main_lets Read = rest.main_reads
  main_lets Write = rest.main_writes
  main_lets (Fold op) = refl

  pub search_goes_back : (m : Mode) (v x u : ℕ) → IsStopped w F m v x → w.place x ≡ after u → passes m (w.mode u) (F u) ≡ true → IsStopped w F m v u × (u < x)
  search_goes_back m v x u is e h = (
    record {
      level = is.level;
      above = is.above;
      behind = inr (before_level w.place u x is.level e is.behind);
      not_main = λ z. rest.wired.not_main x (subst (λ y. w.place x ≡ after y) z e);
      lacks = not_true (is_let m (F u)) (λ k. true_not_false (is_let m (F x)) (comes_next m x u e h k) is.lacks);
    },
    rest.wired.behind u x e,
  )

  pub search_goes_up : (m : Mode) (v x p : ℕ) → IsStopped w F m v x → w.place x ≡ first p → IsStopped w F m v p × (p < x)
  search_goes_up m v x p is e = (
    record {
      level = p;
      above = upwards not_main (below_level w.place p x is.level e is.behind) is.above;
      behind = inl refl;
      not_main = not_main;
      lacks = not_true (is_let m (F p)) (λ k. true_not_false (is_let m (F x)) (comes_down m x p e k) is.lacks);
    },
    rest.wired.below p x e,
  )
    where
      not_main : p ≡ 0 → ⊥
      not_main z = true_not_false (is_let m (F x)) (comes_down m x p e (subst (λ y. is_let m (F y) ≡ true) (sym z) (main_lets m))) is.lacks

  pub child_search_begins : (p : ℕ) → is_list_done w F p ≡ false → IsUndoneUpTo w F p (w.last p)
  child_search_begins p h = go (is_zero (w.last p))
    where
      go : (w.last p ≡ 0) ⊎ (w.last p ≡ 0 → ⊥) → IsUndoneUpTo w F p (w.last p)
      go (inl z) = absurd (true_not_false (is_list_done w F p) (rw (eq-eqb (w.last p) 0 z) refl) h)
      go (inr n) =
          let same : is_list_done w F p ≡ is_whole (F (w.last p)) = rw (zero_test w F rest p (w.last p) n) refl in
          record { below = rest.wired.listed p (w.last p) refl n; lacks = sym same ∙ h }

  pub child_search_goes_back : (p x : ℕ) → IsUndoneUpTo w F p x → is_over (F x) ≡ true → (u : ℕ) × (w.place x ≡ after u) × IsUndoneUpTo w F p u × (u < x)
  child_search_goes_back p x is over = go x is.below is.lacks over
    where
      go : (y : ℕ) → IsBelow w.place p y → is_whole (F y) ≡ false → is_over (F y) ≡ true → (u : ℕ) × (w.place y ≡ after u) × IsUndoneUpTo w F p u × (u < y)
      go y (head e) lacks over =
          absurd (true_not_false (is_whole (F y)) (both_of (F y).clear (is_over (F y)) (rest.due Clear y (from_above p e refl)) over) lacks)
      go y (tail {u = u} e b) lacks over = (
        u,
        e,
        record {
          below = b;
          lacks = not_true (is_whole (F u)) (λ k. true_not_false (is_whole (F y)) (both_of (F y).clear (is_over (F y)) (rest.due Clear y (from_before u e k)) over) lacks);
        },
        rest.wired.behind u y e,
      )
