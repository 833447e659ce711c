-- What the flags say stays so when an entry is given up and when a new one is linked.
use Rattle.std.proofs.Common.{◌≡◌, ◌≢◌, inl, inr, sym, subst, refl, ◌∙◌, ap, ℕ, Bool, true, false, not, ◌&&◌}
use Rattle.oss_model.specs.Forest.{IsDone, done, write_top, read_top, join_top}
use Rattle.oss_model.proofs.ForestLemmas.{Keeps, Known, top as known_top, below as known_below, Between, done_stays, write_satisfied_stays, read_satisfied_stays, join_satisfied_stays}
use Rattle.oss_words.specs.declared.entry.EntryState.{EntryState}
use Rattle.oss_words.specs.Net.{Net, Shaped, Place, apart, top, first, after, Earlier, next, back, Child, eldest, younger, Top, top_first, top_after, forest, Adds}
use Rattle.oss_words.specs.Causes.{starts_open, starts_clear}
use Rattle.oss_words.specs.Steps.{Blank}
use Rattle.oss_words.specs.Truth.{Holds, Truth}
use Rattle.oss_words.proofs.SumLemmas.{same_number}
use Rattle.oss_words.proofs.CauseLemmas.{clash}
use Rattle.oss_words.proofs.NetLemmas.{hangs_now, other, old_after, old_first, after_other, child_parent, child_hangs, parent_hangs}

-- a word that tells the same flags, in a forest that keeps what was so
pub stays : (net net' : Net) (gave gave' : ℕ → Bool) (A : ℕ → Type 0) → Keeps A (forest net gave) (forest net' gave') → Between (forest net gave) (forest net' gave') → (e : ℕ) (c : EntryState) → net'.mode e ≡ net.mode e
    → (c.given ≡ gave' e) → ((u : ℕ) → Earlier net'.place u e → Earlier net.place u e) → Holds net gave e c → Holds net' gave' e c
stays net net' gave gave' A k m e c mo g b h = record {
  reads = λ x. read_satisfied_stays A (forest net gave) (forest net' gave') k e (h.reads x);
  writes = λ x. write_satisfied_stays A (forest net gave) (forest net' gave') k e (h.writes x);
  folds = λ x op y. join_satisfied_stays A (forest net gave) (forest net' gave') k m op e (h.folds x op (sym mo ∙ y));
  clear = λ x u y. done_stays (forest net gave) (forest net' gave') k.grows u (h.clear x u (b u y));
  done = λ x. done_stays (forest net gave) (forest net' gave') k.grows e (h.done x);
  given = g;
}

-- a give
module _ (n : ℕ) (net : Net) (gave gave' : ℕ → Bool) (states states' : ℕ → EntryState) (e : ℕ) (truth : Truth n net gave states)
    (now : gave' e ≡ true) (same : (j : ℕ) → j ≢ e → gave' j ≡ gave j) (others : (j : ℕ) → j ≢ e → states' j ≡ states j) where
  more_given : (u : ℕ) → gave u ≡ true → gave' u ≡ true
  more_given u g = elim (same_number u e) [ inl q ↦ ap gave' q ∙ now | inr ne ↦ same u ne ∙ g ]

  keeps : Keeps (λ j. Unit {0}) (forest net gave) (forest net gave')
  keeps = record {
    grows = record { given = more_given; child = λ u v g c. c };
    top = λ v t. t;
    child = λ u v c. c;
    earlier = λ u v k b. b;
    mode = λ u a. refl;
    earlier_access = λ u v b. tt;
    child_access = λ u v c. tt;
  }

  other_holds : (j : ℕ) → j ≢ e → Holds net gave j (states j) → Holds net gave' j (states' j)
  other_holds j ne h = subst (λ (z : EntryState). Holds net gave' j z) (sym (others j ne))
      (stays net net gave gave' (λ j. Unit {0}) keeps (λ u w v a b. a) j (states j) refl (h.given ∙ sym (same j ne)) (λ u b. b) h)

  own_holds : (c : EntryState) → c.reads ≡ (states e).reads → c.writes ≡ (states e).writes → c.folds ≡ (states e).folds → c.clear ≡ (states e).clear → c.given ≡ true → (c.done ≡ true → IsDone (forest net gave') e) → Holds net gave e (states e) → Holds net gave' e c
  own_holds c a b d f g k h = record {
    reads = λ x. read_satisfied_stays (λ j. Unit {0}) (forest net gave) (forest net gave') keeps e (h.reads (sym a ∙ x));
    writes = λ x. write_satisfied_stays (λ j. Unit {0}) (forest net gave) (forest net gave') keeps e (h.writes (sym b ∙ x));
    folds = λ x op y. join_satisfied_stays (λ j. Unit {0}) (forest net gave) (forest net gave') keeps (λ u w v a b. a) op e (h.folds (sym d ∙ x) op y);
    clear = λ x u y. done_stays (forest net gave) (forest net gave') keeps.grows u (h.clear (sym f ∙ x) u y);
    done = k;
    given = g ∙ sym now;
  }

  -- with no children: given and done are set together
  pub truth_gives : ((j : ℕ) → net.place j ≢ first e) → states' e ≡ record (states e) { given = true; done = true } → Truth n net gave' states'
  truth_gives bare sets j l h = elim (same_number j e) [
    | inl q ↦ subst (λ (x : ℕ). Holds net gave' x (states' x)) (sym q) (subst (λ (z : EntryState). Holds net gave' e z) (sym sets)
        (own_holds (record (states e) { given = true; done = true }) refl refl refl refl refl (λ x. done now (λ v c. absurd (childless v c))) (subst (λ (x : ℕ). Holds net gave x (states x)) q (truth j l h))))
    | inr ne ↦ other_holds j ne (truth j l h)
  ]
    where
      childless : (v : ℕ) → Child net.place e v → ⊥
      childless v (eldest p) = bare v p
      childless v (younger {s = t} p c) = childless t c

  -- with children: given alone is set
  pub truth_begins : states' e ≡ record (states e) { given = true } → Truth n net gave' states'
  truth_begins sets j l h = elim (same_number j e) [
    | inl q ↦ subst (λ (x : ℕ). Holds net gave' x (states' x)) (sym q) (subst (λ (z : EntryState). Holds net gave' e z) (sym sets)
        (let k = subst (λ (x : ℕ). Holds net gave x (states x)) q (truth j l h) in
        own_holds (record (states e) { given = true }) refl refl refl refl refl (λ x. done_stays (forest net gave) (forest net gave') keeps.grows e (k.done x)) k))
    | inr ne ↦ other_holds j ne (truth j l h)
  ]

-- a link of a new entry
module _ (n : ℕ) (net net' : Net) (gave : ℕ → Bool) (states : ℕ → EntryState) (e : ℕ) (s : Shaped net) (a : Adds net net' e)
    (open_yet : gave (net'.parent e) ≡ false) (s' : Shaped net') where
  pub known_hangs : (v : ℕ) → Known (forest net gave) v → net.place v ≢ apart
  known_hangs v (known_top (top_first p)) z = let y : top ≡ apart = sym p ∙ z in cc
  known_hangs v (known_top (top_after {s = t} p h)) z = let y : after t ≡ apart = sym p ∙ z in cc
  known_hangs v (known_below {p = p} c k) z = child_hangs net p v c z

  new_top : (v : ℕ) → Top net.place v → Top net'.place v
  new_top v (top_first p) = top_first (a.place v (other net net' e s a v (λ z. let y : top ≡ apart = sym p ∙ z in cc)) ∙ p)
  new_top v (top_after {s = t} p h) = top_after (a.place v (other net net' e s a v (λ z. let y : after t ≡ apart = sym p ∙ z in cc)) ∙ p) (new_top t h)

  new_child : (u v : ℕ) → Child net.place u v → Child net'.place u v
  new_child u v (eldest p) = eldest (a.place v (other net net' e s a v (λ z. let y : first u ≡ apart = sym p ∙ z in cc)) ∙ p)
  new_child u v (younger {s = t} p c) = younger (a.place v (other net net' e s a v (λ z. let y : after t ≡ apart = sym p ∙ z in cc)) ∙ p) (new_child u t c)

  pub old_earlier : (u v : ℕ) → v ≢ e → Earlier net'.place u v → Earlier net.place u v
  old_earlier u v ne (next p) = next (old_after net net' e s a u v ne p)
  old_earlier u v ne (back {t = t} p b) = let q = old_after net net' e s a t v ne p in back q (old_earlier u t (after_other net net' e s a t v q) b)

  pub old_child : (u v : ℕ) → v ≢ e → Child net'.place u v → Child net.place u v
  old_child u v ne (eldest p) = eldest (old_first net net' e s a u v ne p)
  old_child u v ne (younger {s = t} p c) = let q = old_after net net' e s a t v ne p in younger q (old_child u t (after_other net net' e s a t v q) c)

  earlier_hangs : (u v : ℕ) → Earlier net.place u v → net.place u ≢ apart
  earlier_hangs u v (next p) = s.hung u v (inl p)
  earlier_hangs u v (back {t = t} p b) = earlier_hangs u t b

  later_hangs : (u v : ℕ) → Earlier net.place u v → net.place v ≢ apart
  later_hangs u v (next p) z = let y : after u ≡ apart = sym p ∙ z in cc
  later_hangs u v (back {t = t} p b) z = let y : after t ≡ apart = sym p ∙ z in cc

  link_keeps : Keeps (λ j. j ≢ e) (forest net gave) (forest net' gave)
  link_keeps = record {
    grows = record {
      given = λ u g. g;
      child = λ u v g c. elim (same_number v e) [
        | inl q ↦ absurd (clash g (ap gave (sym (child_parent net' s' u e (subst (λ (x : ℕ). Child net'.place u x) q c))) ∙ open_yet))
        | inr ne ↦ old_child u v ne c
      ];
    };
    top = new_top;
    child = new_child;
    earlier = λ u v k b. old_earlier u v (other net net' e s a v (known_hangs v k)) b;
    mode = λ u ne. a.mode u ne;
    earlier_access = λ u v b. other net net' e s a u (earlier_hangs u v b);
    child_access = λ u v c. other net net' e s a u (parent_hangs net s u v c);
  }

  link_between : Between (forest net gave) (forest net' gave)
  link_between u w v b c = old_earlier u w (other net net' e s a w (earlier_hangs w v c)) b

  -- what the starting flags of the new entry say
  starts : Blank (net'.place e) (states e) → (states e).done ≡ false → (states e).given ≡ gave e → Holds net' gave e (states e)
  starts b d g = at (net'.place e) refl b
    where
      open_is : (x y : Bool) → y ≡ false → (x && not y) ≡ false → x ≡ true → ⊥
      open_is true true u v w = clash refl u
      open_is true false u v w = clash refl v
      open_is false y u v w = clash w refl

      nothing_before : (p : Place) → net'.place e ≡ p → ((t : ℕ) → p ≡ after t → ⊥) → (u : ℕ) → Earlier net'.place u e → ⊥
      nothing_before p z f u (next q) = f u (sym z ∙ q)
      nothing_before p z f u (back {t = t} q k) = f t (sym z ∙ q)

      at : (p : Place) → net'.place e ≡ p → Blank p (states e) → Holds net' gave e (states e)
      at apart z b = absurd (hangs_new z)
        where
          hangs_new : net'.place e ≡ apart → ⊥
          hangs_new z = hangs_now net net' e s a z
      at top z b = record {
        reads = λ x. read_top (top_first z) (λ u k m. absurd (nothing_before top z (λ t y. cc) u k));
        writes = λ x. write_top (top_first z) (λ u k. absurd (nothing_before top z (λ t y. cc) u k));
        folds = λ x op m. join_top (top_first z) (λ u k. absurd (nothing_before top z (λ t y. cc) u k));
        clear = λ x u k. absurd (nothing_before top z (λ t y. cc) u k);
        done = λ x. absurd (clash x d);
        given = g;
      }
      at (first p) z b = record {
        reads = λ x. absurd (open_is (states e).reads (starts_open (first p)) refl b.reads x);
        writes = λ x. absurd (open_is (states e).writes (starts_open (first p)) refl b.writes x);
        folds = λ x op m. absurd (open_is (states e).folds (starts_open (first p)) refl b.folds x);
        clear = λ x u k. absurd (nothing_before (first p) z (λ t y. cc) u k);
        done = λ x. absurd (clash x d);
        given = g;
      }
      at (after t) z b = record {
        reads = λ x. absurd (open_is (states e).reads (starts_open (after t)) refl b.reads x);
        writes = λ x. absurd (open_is (states e).writes (starts_open (after t)) refl b.writes x);
        folds = λ x op m. absurd (open_is (states e).folds (starts_open (after t)) refl b.folds x);
        clear = λ x u k. absurd (open_is (states e).clear (starts_clear (after t)) refl b.clear x);
        done = λ x. absurd (clash x d);
        given = g;
      }

  -- the words other than that of the new entry keep their flags: c' is the word of j after the link
  pub truth_linked : Truth n net gave states → (states' : ℕ → EntryState) → ((j : ℕ) → Holds net' gave j (states j) → Holds net' gave j (states' j))
      → Blank (net'.place e) (states e) → (states e).done ≡ false → (states e).given ≡ gave e → Truth n net' gave states'
  truth_linked truth states' same b d g j l h = same j (elim (same_number j e) [
    | inl q ↦ subst (λ (x : ℕ). Holds net' gave x (states x)) (sym q) (starts b d g)
    | inr ne ↦
        let old = truth j l (λ z. h (a.place j ne ∙ z)) in
        stays net net' gave gave (λ j. j ≢ e) link_keeps link_between j (states j) (a.mode j ne) old.given (λ u k. old_earlier u j ne k) old
  ])
