-- What a delivery does; and what the flags tell where nothing waits.
use Rattle.std.proofs.Common.{◌≡◌, ℕ, sym, subst, ◌∙◌, ◌⊎◌, inl, inr, true, false, eq-eqb, eqb-true}
use Rattle.std.specs.Prelude.{◌==◌}
use Rattle.oss_access_lists.specs.declared.marks.Marks.{Marks}
use Rattle.oss_model.specs.Forest.{IsDone, done}
use Rattle.oss_access_lists.specs.Wires.{first, after, IsBelow, IsBefore, Wires, wired}
use Rattle.oss_access_lists.specs.Flags.{Flag, Done, Given, has, Means, to_next, to_child, is_whole, IsDue, from_before, from_above, from_last, given, bare, AreSo, IsTold, Stands, AreAtRest, IsListed, IsExact, AreBelowDone, TellsOfAll, is_over, Clear}
use Rattle.oss_access_lists.proofs.SoundLemmas.{below_not_main, both, both_of, due_so, bools}
use Rattle.oss_access_lists.proofs.CompleteLemmas.{all_told, listed_before}

pub same_or : (a b : ℕ) → (a ≡ b) ⊎ (a ≡ b → ⊥)
same_or a b = go (bools (a == b))
  where
    go : ((a == b) ≡ true) ⊎ ((a == b) ≡ false) → (a ≡ b) ⊎ (a ≡ b → ⊥)
    go (inl h) = inl (eqb-true a b h)
    go (inr h) = inr (λ e. let k = sym (eq-eqb a b e) ∙ h in cc)

module _ (w : Wires) (F P G Q : ℕ → Marks) (stands : Stands w F P) (news : (f : Flag) (v : ℕ) → has f (G v) ≡ true → IsTold F P f v) where
  news_so : AreSo w G
  news_so f v n h = go (news f v h)
    where
      go : IsTold F P f v → Means w f v
      go (inl k) = stands.sound f v n k
      go (inr k) = stands.posted f v n k

  -- flags that waited now stand, and what is due by them waits
  pub delivered : (posts : (f : Flag) (v : ℕ) → has f (Q v) ≡ true → (has f (P v) ≡ true) ⊎ IsDue w G f v) → (told : (f : Flag) (v : ℕ) → IsDue w G f v → IsTold G Q f v)
      → (G 0).reads ≡ true → (G 0).writes ≡ true → Stands w G Q
  delivered posts told r s = record {
    wired = stands.wired;
    sound = news_so;
    posted = λ f v n h. go f v n (posts f v h);
    told = told;
    main_reads = r;
    main_writes = s;
  }
    where
      go : (f : Flag) (v : ℕ) → (v ≡ 0 → ⊥) → (has f (P v) ≡ true) ⊎ IsDue w G f v → Means w f v
      go f v n (inl k) = stands.posted f v n k
      go f v n (inr k) = due_so w stands.wired G news_so f v k

-- only the flags of t have changed, and what goes from t to its neighbours stands or waits there
pub told_from : (w : Wires) (F P G Q : ℕ → Marks) (t : ℕ) → Stands w F P → ((v : ℕ) → (v ≡ t → ⊥) → G v ≡ F v)
    → ((f : Flag) (v : ℕ) → IsTold F P f v → IsTold G Q f v)
    → ((n : ℕ) (f : Flag) → w.place n ≡ after t → has f (to_next (w.mode t) (w.mode n) (G t)) ≡ true → IsTold G Q f n)
    → ((n : ℕ) (f : Flag) → w.place n ≡ first t → has f (to_child (w.mode t) (w.mode n) (G t)) ≡ true → IsTold G Q f n)
    → ((p : ℕ) → w.gave p ≡ true → w.last p ≡ t → is_whole (G t) ≡ true → IsTold G Q Done p)
    → (f : Flag) (v : ℕ) → IsDue w G f v → IsTold G Q f v
told_from w F P G Q t stands same keeps to_n to_c to_p f x (from_before v e h) = go (same_or v t)
  where
    go : (v ≡ t) ⊎ (v ≡ t → ⊥) → IsTold G Q f x
    go (inl z) = to_n x f (subst (λ y. w.place x ≡ after y) z e) (subst (λ y. has f (to_next (w.mode y) (w.mode x) (G y)) ≡ true) z h)
    go (inr n) = keeps f x (stands.told f x (from_before v e (subst (λ y. has f (to_next (w.mode v) (w.mode x) y) ≡ true) (same v n) h)))
told_from w F P G Q t stands same keeps to_n to_c to_p f x (from_above v e h) = go (same_or v t)
  where
    go : (v ≡ t) ⊎ (v ≡ t → ⊥) → IsTold G Q f x
    go (inl z) = to_c x f (subst (λ y. w.place x ≡ first y) z e) (subst (λ y. has f (to_child (w.mode y) (w.mode x) (G y)) ≡ true) z h)
    go (inr n) = keeps f x (stands.told f x (from_above v e (subst (λ y. has f (to_child (w.mode v) (w.mode x) y) ≡ true) (same v n) h)))
told_from w F P G Q t stands same keeps to_n to_c to_p f x (from_last v g e k h) = go (same_or v t)
  where
    go : (v ≡ t) ⊎ (v ≡ t → ⊥) → IsTold G Q Done x
    go (inl z) = to_p x g (e ∙ z) (subst (λ y. is_whole (G y) ≡ true) z h)
    go (inr n) = keeps Done x (stands.told Done x (from_last v g e k (subst (λ y. is_whole y ≡ true) (same v n) h)))
told_from w F P G Q t stands same keeps to_n to_c to_p f x (given g) = keeps Given x (stands.told Given x (given g))
told_from w F P G Q t stands same keeps to_n to_c to_p f x (bare g e) = keeps Done x (stands.told Done x (bare g e))

-- Where all that is due stands, and what stands is so, each flag stands exactly where what it says is so. Nothing is asked of how
-- messages are kept.
pub rest_exact : (w : Wires) (F : ℕ → Marks) → AreAtRest w F → (f : Flag) (v : ℕ) → IsListed w v → IsExact w F f v
rest_exact w F rest f v i = record {
  sound = rest.sound f v (below_not_main w rest.wired i.0 v i.1);
  complete = all_told w rest.wired F rest.due rest.main_reads rest.main_writes f v i;
}

-- where nothing waits, all that is due stands
pub quiet_rests : (w : Wires) (F P : ℕ → Marks) → Stands w F P → ((f : Flag) (v : ℕ) → has f (P v) ≡ true → ⊥) → AreAtRest w F
quiet_rests w F P stands quiet = record {
  wired = stands.wired;
  sound = stands.sound;
  due = λ f v d. due_of f v (stands.told f v d);
  main_reads = stands.main_reads;
  main_writes = stands.main_writes;
}
  where
    due_of : (f : Flag) (v : ℕ) → IsTold F P f v → has f (F v) ≡ true
    due_of f v (inl h) = h
    due_of f v (inr h) = absurd (quiet f v h)

-- what the flags of the last access of a list tell of all in it
pub last_tells : (w : Wires) (F : ℕ → Marks) → AreAtRest w F → (p v : ℕ) → w.last p ≡ v → (v ≡ 0 → ⊥) → TellsOfAll w F p v
last_tells w F rest p v e n = record { sound = forth; complete = back }
  where
    below_it : IsBelow w.place p v
    below_it = rest.wired.listed p v e n

    forth : is_whole (F v) ≡ true → AreBelowDone w p
    forth h u k = go (rest.wired.all_before p u v e k)
      where
        parts : ((F v).clear ≡ true) × (is_over (F v) ≡ true)
        parts = both (F v).clear (is_over (F v)) h

        go : (u ≡ v) ⊎ IsBefore w.place u v → IsDone (wired w) u
        go (inl q) = subst (λ y. IsDone (wired w) y) (sym q) (rest.sound Done v n (both (F v).given (F v).done parts.1).1)
        go (inr q) = rest.sound Clear v n parts.0 u q

    given_of : IsDone (wired w) v → w.gave v ≡ true
    given_of (done g f) = g

    told : (f : Flag) → Means w f v → has f (F v) ≡ true
    told f = (rest_exact w F rest f v (p, below_it)).complete

    back : AreBelowDone w p → is_whole (F v) ≡ true
    back f =
        both_of (F v).clear (is_over (F v)) (told Clear (λ u k. f u (listed_before w.place p u v below_it k)))
        (both_of (F v).given (F v).done (told Given (given_of (f v below_it))) (told Done (f v below_it)))
