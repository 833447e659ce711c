-- What an opening and a gift do to the lists.
use Rattle.std.proofs.Common.{◌≡◌, ℕ, ◌<◌, refl, sym, subst, ap, ◌∙◌, ◌⊎◌, inl, inr, true, false, arith}
use Rattle.oss_model.specs.Rights.{covers}
use Rattle.oss_model.proofs.ForestLemmas.{Grows, Keeps, Known, top, below, Between, done_stays, write_satisfied_stays, read_satisfied_stays, join_satisfied_stays}
use Rattle.oss_access_lists.specs.declared.marks.Marks.{Marks}
use Rattle.oss_access_lists.specs.Wires.{Place, loose, first, after, IsBelow, head, tail, IsBefore, next, later, Wires, wired, AreWired}
use Rattle.oss_access_lists.specs.Flags.{Flag, MayRead, MayJoin, MayWrite, Given, Done, Clear, has, Means, to_next, to_child, IsDue, from_before, from_above, from_last, given, bare, Stands, AreSo, IsTold}
use Rattle.oss_access_lists.specs.Steps.{IsHung}
use Rattle.oss_access_lists.proofs.SoundLemmas.{due_so, is_zero, same_after, same_first}
use Rattle.oss_access_lists.proofs.StepLemmas.{same_or}

pub one_list : (place : ℕ → Place) (p q v : ℕ) → IsBelow place p v → IsBelow place q v → p ≡ q
one_list place p q v (head e) (head g) = same_first (sym e ∙ g)
one_list place p q v (head e) (tail g b) = absurd (let h = sym e ∙ g in cc)
one_list place p q v (tail e b) (head g) = absurd (let h = sym e ∙ g in cc)
one_list place p q v (tail {u = u} e b) (tail {u = x} g c) = one_list place p q u b (subst (λ z. IsBelow place q z) (same_after (sym g ∙ e)) c)

module _ (w n : Wires) (p e : ℕ) (ok : AreWired w) (hung : IsHung w n p e) where
  pub loose_below : (q : ℕ) → IsBelow w.place q e → ⊥
  loose_below q (head g) = let h = sym hung.loose_before ∙ g in cc
  loose_below q (tail g b) = let h = sym hung.loose_before ∙ g in cc

  loose_before : (u : ℕ) → IsBefore w.place u e → ⊥
  loose_before u (next g) = let h = sym hung.loose_before ∙ g in cc
  loose_before u (later g b) = let h = sym hung.loose_before ∙ g in cc

  empty_below : (v : ℕ) → IsBelow w.place e v → ⊥
  empty_below v (head g) = hung.empty v g
  empty_below v (tail {u = u} g b) = empty_below u b

  -- an old place is none that names the new access
  not_new : (v : ℕ) → (v ≡ e) ⊎ (v ≡ e → ⊥)
  not_new v = same_or v e

  old_place : (v : ℕ) (x : Place) → w.place v ≡ x → (x ≡ loose → ⊥) → n.place v ≡ x
  old_place v x g l = hung.places v (λ h. l (sym g ∙ (ap w.place h ∙ hung.loose_before))) ∙ g

  pub below_forth : (q v : ℕ) → IsBelow w.place q v → IsBelow n.place q v
  below_forth q v (head g) = head (old_place v (first q) g (λ h. cc))
  below_forth q v (tail {u = u} g b) = tail (old_place v (after u) g (λ h. cc)) (below_forth q u b)

  pub before_forth : (u v : ℕ) → IsBefore w.place u v → IsBefore n.place u v
  before_forth u v (next g) = next (old_place v (after u) g (λ h. cc))
  before_forth u v (later {t = t} g b) = later (old_place v (after t) g (λ h. cc)) (before_forth u t b)

  -- where the new access stands
  new_after : (u : ℕ) → n.place e ≡ after u → (u ≡ w.last p) × (w.last p ≡ 0 → ⊥)
  new_after u g = go (is_zero (w.last p))
    where
      go : (w.last p ≡ 0) ⊎ (w.last p ≡ 0 → ⊥) → (u ≡ w.last p) × (w.last p ≡ 0 → ⊥)
      go (inl z) = absurd (let h = sym (hung.as_first z) ∙ g in cc)
      go (inr z) = (same_after (sym g ∙ hung.as_next z), z)

  new_first : (q : ℕ) → n.place e ≡ first q → q ≡ p
  new_first q g = go (is_zero (w.last p))
    where
      go : (w.last p ≡ 0) ⊎ (w.last p ≡ 0 → ⊥) → q ≡ p
      go (inl z) = same_first (sym g ∙ hung.as_first z)
      go (inr z) = absurd (let h = sym (hung.as_next z) ∙ g in cc)

  -- nothing stands behind the new access
  pub new_is_last : (v : ℕ) → n.place v ≡ after e → ⊥
  new_is_last v g = go (not_new v)
    where
      go : (v ≡ e) ⊎ (v ≡ e → ⊥) → ⊥
      go (inl h) = let k = (new_after e (subst (λ z. n.place z ≡ after e) h g)).0 in let b = hung.behind in absurd (omega (arith, k, b))
      go (inr h) = hung.last_of_none v (sym (hung.places v h) ∙ g)

  pub new_is_empty : (v : ℕ) → n.place v ≡ first e → ⊥
  new_is_empty v g = go (not_new v)
    where
      go : (v ≡ e) ⊎ (v ≡ e → ⊥) → ⊥
      go (inl h) = let k = new_first e (subst (λ z. n.place z ≡ first e) h g) in let b = hung.above in absurd (omega (arith, k, b))
      go (inr h) = hung.empty v (sym (hung.places v h) ∙ g)

  -- an access of a list is the new one or an old one
  pub below_back : (q v : ℕ) → IsBelow n.place q v → ((v ≡ e) × (q ≡ p)) ⊎ ((v ≡ e → ⊥) × IsBelow w.place q v)
  below_back q v (head g) = go (not_new v)
    where
      go : (v ≡ e) ⊎ (v ≡ e → ⊥) → ((v ≡ e) × (q ≡ p)) ⊎ ((v ≡ e → ⊥) × IsBelow w.place q v)
      go (inl h) = inl (h, new_first q (subst (λ z. n.place z ≡ first q) h g))
      go (inr h) = inr (h, head (sym (hung.places v h) ∙ g))
  below_back q v (tail {u = u} g b) = go (not_new v) (below_back q u b)
    where
      go : (v ≡ e) ⊎ (v ≡ e → ⊥) → ((u ≡ e) × (q ≡ p)) ⊎ ((u ≡ e → ⊥) × IsBelow w.place q u) → ((v ≡ e) × (q ≡ p)) ⊎ ((v ≡ e → ⊥) × IsBelow w.place q v)
      go x (inl k) = absurd (new_is_last v (subst (λ z. n.place v ≡ after z) k.0 g))
      go (inl h) (inr k) =
          let a = new_after u (subst (λ z. n.place z ≡ after u) h g) in
          inl (h, one_list w.place q p u k.1 (subst (λ z. IsBelow w.place p z) (sym a.0) (ok.listed p (w.last p) refl a.1)))
      go (inr h) (inr k) = inr (h, tail (sym (hung.places v h) ∙ g) k.1)

  pub before_back : (u v : ℕ) → (v ≡ e → ⊥) → IsBefore n.place u v → IsBefore w.place u v
  before_back u v h (next g) = next (sym (hung.places v h) ∙ g)
  before_back u v h (later {t = t} g b) = later (sym (hung.places v h) ∙ g) (before_back u t (λ k. new_is_last v (subst (λ z. n.place v ≡ after z) k g)) b)

  -- the lists stay well made
  pub hung_wired : AreWired n
  hung_wired = record {
    behind = λ u v g. behind_of u v g (not_new v);
    below = λ q v g. below_of q v g (not_new v);
    not_main = λ v g. not_main_of v g (not_new v);
    empty = λ q v z b. empty_of q v z (same_or q p) (below_back q v b);
    listed = λ q v g z. listed_of q v g z (same_or q p);
    all_before = λ q u v g b. all_of q u v g (same_or q p) (below_back q u b);
    covered = λ q v b. covered_of q v (below_back q v b);
    main_writes = hung.modes 0 (λ h. let k = hung.above in absurd (omega (arith, h, k))) ∙ ok.main_writes;
    main_holds = hung.gave 0 ∙ ok.main_holds;
  }
    where
      behind_of : (u v : ℕ) → n.place v ≡ after u → (v ≡ e) ⊎ (v ≡ e → ⊥) → u < v
      behind_of u v g (inl h) = let k = (new_after u (subst (λ z. n.place z ≡ after u) h g)).0 in let b = hung.behind in omega (arith, h, k, b)
      behind_of u v g (inr h) = ok.behind u v (sym (hung.places v h) ∙ g)

      below_of : (q v : ℕ) → n.place v ≡ first q → (v ≡ e) ⊎ (v ≡ e → ⊥) → q < v
      below_of q v g (inl h) = let k = new_first q (subst (λ z. n.place z ≡ first q) h g) in let b = hung.above in omega (arith, h, k, b)
      below_of q v g (inr h) = ok.below q v (sym (hung.places v h) ∙ g)

      not_main_of : (v : ℕ) → n.place v ≡ after 0 → (v ≡ e) ⊎ (v ≡ e → ⊥) → ⊥
      not_main_of v g (inl h) = let k = new_after 0 (subst (λ z. n.place z ≡ after 0) h g) in k.1 (sym k.0)
      not_main_of v g (inr h) = ok.not_main v (sym (hung.places v h) ∙ g)

      empty_of : (q v : ℕ) → n.last q ≡ 0 → (q ≡ p) ⊎ (q ≡ p → ⊥) → ((v ≡ e) × (q ≡ p)) ⊎ ((v ≡ e → ⊥) × IsBelow w.place q v) → ⊥
      empty_of q v z (inl h) b = let k = sym hung.last ∙ (ap n.last (sym h) ∙ z) in let l = hung.above in absurd (omega (arith, k, l))
      empty_of q v z (inr h) (inl b) = h b.1
      empty_of q v z (inr h) (inr b) = ok.empty q v (sym (hung.lasts q h) ∙ z) b.1

      listed_of : (q v : ℕ) → n.last q ≡ v → (v ≡ 0 → ⊥) → (q ≡ p) ⊎ (q ≡ p → ⊥) → IsBelow n.place q v
      listed_of q v g z (inl h) =
          let k : e ≡ v = sym hung.last ∙ (ap n.last (sym h) ∙ g) in
          subst (λ y. IsBelow n.place q y) k (subst (λ y. IsBelow n.place y e) (sym h) (new_one (is_zero (w.last p))))
        where
          new_one : (w.last p ≡ 0) ⊎ (w.last p ≡ 0 → ⊥) → IsBelow n.place p e
          new_one (inl y) = head (hung.as_first y)
          new_one (inr y) = tail (hung.as_next y) (below_forth p (w.last p) (ok.listed p (w.last p) refl y))
      listed_of q v g z (inr h) = below_forth q v (ok.listed q v (sym (hung.lasts q h) ∙ g) z)

      all_of : (q u v : ℕ) → n.last q ≡ v → (q ≡ p) ⊎ (q ≡ p → ⊥) → ((u ≡ e) × (q ≡ p)) ⊎ ((u ≡ e → ⊥) × IsBelow w.place q u) → (u ≡ v) ⊎ IsBefore n.place u v
      all_of q u v g (inl h) b =
          let k : e ≡ v = sym hung.last ∙ (ap n.last (sym h) ∙ g) in
          subst (λ y. (u ≡ y) ⊎ IsBefore n.place u y) k (in_list b (is_zero (w.last p)))
        where
          onward : (u ≡ w.last p) ⊎ IsBefore w.place u (w.last p) → n.place e ≡ after (w.last p) → IsBefore n.place u e
          onward (inl k) a = next (a ∙ ap after (sym k))
          onward (inr k) a = later a (before_forth u (w.last p) k)

          in_list : ((u ≡ e) × (q ≡ p)) ⊎ ((u ≡ e → ⊥) × IsBelow w.place q u) → (w.last p ≡ 0) ⊎ (w.last p ≡ 0 → ⊥) → (u ≡ e) ⊎ IsBefore n.place u e
          in_list (inl k) z = inl k.0
          in_list (inr k) (inl z) = absurd (ok.empty p u z (subst (λ y. IsBelow w.place y u) h k.1))
          in_list (inr k) (inr z) = inr (onward (ok.all_before p u (w.last p) refl (subst (λ y. IsBelow w.place y u) h k.1)) (hung.as_next z))
      all_of q u v g (inr h) (inl b) = absurd (h b.1)
      all_of q u v g (inr h) (inr b) = stays (ok.all_before q u v (sym (hung.lasts q h) ∙ g) b.1)
        where
          stays : (u ≡ v) ⊎ IsBefore w.place u v → (u ≡ v) ⊎ IsBefore n.place u v
          stays (inl k) = inl k
          stays (inr k) = inr (before_forth u v k)

      covered_of : (q v : ℕ) → ((v ≡ e) × (q ≡ p)) ⊎ ((v ≡ e → ⊥) × IsBelow w.place q v) → covers (n.mode q) (n.mode v) ≡ true
      covered_of q v (inl k) = subst (λ y. covers (n.mode y) (n.mode v) ≡ true) (sym k.1) (subst (λ y. covers (n.mode p) (n.mode y) ≡ true) (sym k.0) hung.covered)
      covered_of q v (inr k) =
          let a = hung.modes q (λ h. empty_below v (subst (λ y. IsBelow w.place y v) h k.1)) in
          subst (λ y. covers y (n.mode v) ≡ true) (sym a) (subst (λ y. covers (w.mode q) y ≡ true) (sym (hung.modes v k.0)) (ok.covered q v k.1))

  abbrev Old : ℕ → Type 0
  Old u = u ≡ e → ⊥

  grows : Grows (wired w) (wired n)
  grows = record {
    given = λ u g. hung.gave u ∙ g;
    child = λ u v g c. go u v g c (below_back u v c.1);
  }
    where
      go : (u v : ℕ) → w.gave u ≡ true → (u ≡ 0 → ⊥) × IsBelow n.place u v → ((v ≡ e) × (u ≡ p)) ⊎ ((v ≡ e → ⊥) × IsBelow w.place u v) → (u ≡ 0 → ⊥) × IsBelow w.place u v
      go u v g c (inl k) = absurd (let h = sym g ∙ (ap w.gave k.1 ∙ hung.held) in cc)
      go u v g c (inr k) = (c.0, k.1)

  known_old : (v : ℕ) → Known (wired w) v → v ≡ e → ⊥
  known_old v (top t) h = loose_below 0 (subst (λ y. IsBelow w.place 0 y) h t)
  known_old v (below {p = q} c k) h = loose_below q (subst (λ y. IsBelow w.place q y) h c.1)

  keeps : Keeps Old (wired w) (wired n)
  keeps = record {
    grows = grows;
    top = λ v t. below_forth 0 v t;
    child = λ u v c. (c.0, below_forth u v c.1);
    earlier = λ u v k b. before_back u v (known_old v k) b;
    mode = λ u a. hung.modes u a;
    earlier_access = λ u v b h. earlier_old u v b h;
    child_access = λ u v c h. empty_below v (subst (λ y. IsBelow w.place y v) h c.1);
  }
    where
      earlier_old : (u v : ℕ) → IsBefore w.place u v → u ≡ e → ⊥
      earlier_old u v (next g) h = hung.last_of_none v (subst (λ y. w.place v ≡ after y) h g)
      earlier_old u v (later {t = t} g b) h = earlier_old u t b h

  between : Between (wired w) (wired n)
  between u x v a b = before_back u x (λ h. old x v b h) a
    where
      old : (x v : ℕ) → IsBefore w.place x v → x ≡ e → ⊥
      old x v (next g) h = hung.last_of_none v (subst (λ y. w.place v ≡ after y) h g)
      old x v (later {t = t} g c) h = old x t c h

  -- what was so of an old access stays so
  pub hung_means : (f : Flag) (v : ℕ) → (v ≡ e → ⊥) → Means w f v → Means n f v
  hung_means MayRead v o m = read_satisfied_stays Old (wired w) (wired n) keeps v m
  hung_means MayJoin v o m = (m.0, hung.modes v o ∙ m.1, join_satisfied_stays Old (wired w) (wired n) keeps between m.0 v m.2)
  hung_means MayWrite v o m = write_satisfied_stays Old (wired w) (wired n) keeps v m
  hung_means Given v o m = hung.gave v ∙ m
  hung_means Done v o m = done_stays (wired w) (wired n) grows v m
  hung_means Clear v o m = λ u b. done_stays (wired w) (wired n) grows u (m u (before_back u v o b))

  -- An opening keeps all, where the new access has no flags and what is due at it waits.
  pub hung_stands : (F P Q : ℕ → Marks) → Stands w F P → ((f : Flag) → has f (F e) ≡ false) → ((v : ℕ) → (v ≡ e → ⊥) → Q v ≡ P v)
      → ((f : Flag) → has f (Q e) ≡ true → IsDue n F f e) → ((f : Flag) → IsDue n F f e → has f (Q e) ≡ true) → Stands n F Q
  hung_stands F P Q stands bare_e others posts tells = record {
    wired = hung_wired;
    sound = so;
    posted = λ f v z h. posted_of f v z h (not_new v);
    told = λ f v d. told_of f v d (not_new v);
    main_reads = stands.main_reads;
    main_writes = stands.main_writes;
  }
    where
      no_flag : (f : Flag) (v : ℕ) → has f (F v) ≡ true → v ≡ e → ⊥
      no_flag f v h k = let g = sym (subst (λ y. has f (F y) ≡ true) k h) ∙ bare_e f in cc

      so : AreSo n F
      so f v z h = hung_means f v (no_flag f v h) (stands.sound f v z h)

      posted_of : (f : Flag) (v : ℕ) → (v ≡ 0 → ⊥) → has f (Q v) ≡ true → (v ≡ e) ⊎ (v ≡ e → ⊥) → Means n f v
      posted_of f v z h (inl k) = subst (λ y. Means n f y) (sym k) (due_so n hung_wired F so f e (posts f (subst (λ y. has f (Q y) ≡ true) k h)))
      posted_of f v z h (inr k) = hung_means f v k (stands.posted f v z (subst (λ y. has f y ≡ true) (others v k) h))

      still : (f : Flag) (v : ℕ) → (v ≡ e → ⊥) → IsTold F P f v → IsTold F Q f v
      still f v k (inl h) = inl h
      still f v k (inr h) = inr (subst (λ y. has f y ≡ true) (sym (others v k)) h)

      told_old : (f : Flag) (v : ℕ) → (v ≡ e → ⊥) → IsDue n F f v → IsDue w F f v
      told_old f t k (from_before v g h) =
          let a = hung.modes v (λ y. new_is_last t (subst (λ x. n.place t ≡ after x) y g)) in
          from_before v (sym (hung.places t k) ∙ g) (subst (λ y. has f (to_next (w.mode v) y (F v)) ≡ true) (hung.modes t k) (subst (λ y. has f (to_next y (n.mode t) (F v)) ≡ true) a h))
      told_old f t k (from_above v g h) =
          let a = hung.modes v (λ y. new_is_empty t (subst (λ x. n.place t ≡ first x) y g)) in
          from_above v (sym (hung.places t k) ∙ g) (subst (λ y. has f (to_child (w.mode v) y (F v)) ≡ true) (hung.modes t k) (subst (λ y. has f (to_child y (n.mode t) (F v)) ≡ true) a h))
      told_old f t k (from_last v g l z h) =
          from_last v (sym (hung.gave t) ∙ g) (sym (hung.lasts t (λ y. let b = sym g ∙ (hung.gave t ∙ (ap w.gave y ∙ hung.held)) in cc)) ∙ l) z h
      told_old f t k (given g) = given (sym (hung.gave t) ∙ g)
      told_old f t k (bare g l) =
          bare (sym (hung.gave t) ∙ g) (sym (hung.lasts t (λ y. let b = sym g ∙ (hung.gave t ∙ (ap w.gave y ∙ hung.held)) in cc)) ∙ l)

      told_of : (f : Flag) (v : ℕ) → IsDue n F f v → (v ≡ e) ⊎ (v ≡ e → ⊥) → IsTold F Q f v
      told_of f v d (inl k) = inr (subst (λ y. has f (Q y) ≡ true) (sym k) (tells f (subst (λ y. IsDue n F f y) k d)))
      told_of f v d (inr k) = still f v k (stands.told f v (told_old f v k d))
