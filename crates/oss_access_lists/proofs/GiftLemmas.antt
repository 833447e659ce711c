-- What a gift does; and that the rule depends on the values of the functions alone.
use Rattle.std.proofs.Common.{◌≡◌, ℕ, refl, sym, subst, ap, ◌∙◌, ◌⊎◌, inl, inr, Bool, true, false}
use Rattle.std.proofs.Math.Path.{fun_ext}
use Rattle.oss_model.proofs.ForestLemmas.{Grows, Keeps, done_stays, write_satisfied_stays, read_satisfied_stays, join_satisfied_stays}
use Rattle.oss_access_lists.specs.declared.marks.Marks.{Marks}
use Rattle.oss_access_lists.specs.Wires.{Wires, wired, AreWired}
use Rattle.oss_access_lists.specs.Flags.{Flag, MayRead, MayJoin, MayWrite, Given, Done, Clear, has, Means, is_whole, IsDue, from_before, from_above, from_last, given, bare, Stands, AreSo, IsTold}
use Rattle.oss_access_lists.specs.Steps.{IsGift}
use Rattle.oss_access_lists.proofs.SoundLemmas.{due_so}
use Rattle.oss_access_lists.proofs.StepLemmas.{same_or}

-- sets of lists with equal values are equal
pub same_wires : (w n : Wires) → ((v : ℕ) → w.place v ≡ n.place v) → ((v : ℕ) → w.last v ≡ n.last v) → ((v : ℕ) → w.mode v ≡ n.mode v) → ((v : ℕ) → w.gave v ≡ n.gave v) → w ≡ n
same_wires w n a b c d = λ j. record { place = fun_ext a j; last = fun_ext b j; mode = fun_ext c j; gave = fun_ext d j }

-- the lists before and after, where only gifts differ
module _ (w : Wires) (gave : ℕ → Bool) (g : ℕ) (more : (v : ℕ) → w.gave v ≡ true → gave v ≡ true) where
  abbrev pub later_wires : Wires
  later_wires = record { place = w.place; last = w.last; mode = w.mode; gave = gave }

  grows : Grows (wired w) (wired later_wires)
  grows = record { given = more; child = λ u v h c. c }

  keeps : Keeps (λ (u : ℕ). Unit {0}) (wired w) (wired later_wires)
  keeps = record {
    grows = grows;
    top = λ v t. t;
    child = λ u v c. c;
    earlier = λ u v k b. b;
    mode = λ u a. refl;
    earlier_access = λ u v b. tt;
    child_access = λ u v c. tt;
  }

  pub gift_means : (f : Flag) (v : ℕ) → Means w f v → Means later_wires f v
  gift_means MayRead v m = read_satisfied_stays (λ (u : ℕ). Unit {0}) (wired w) (wired later_wires) keeps v m
  gift_means MayJoin v m = (m.0, m.1, join_satisfied_stays (λ (u : ℕ). Unit {0}) (wired w) (wired later_wires) keeps (λ u x y a b. a) m.0 v m.2)
  gift_means MayWrite v m = write_satisfied_stays (λ (u : ℕ). Unit {0}) (wired w) (wired later_wires) keeps v m
  gift_means Given v m = more v m
  gift_means Done v m = done_stays (wired w) (wired later_wires) grows v m
  gift_means Clear v m = λ u b. done_stays (wired w) (wired later_wires) grows u (m u b)

  -- A gift keeps all, where what is due at the giver waits.
  pub later_stands : (F P Q : ℕ → Marks) → Stands w F P → gave 0 ≡ false → ((v : ℕ) → (v ≡ g → ⊥) → gave v ≡ w.gave v)
      → ((f : Flag) (v : ℕ) → has f (P v) ≡ true → has f (Q v) ≡ true)
      → ((f : Flag) (v : ℕ) → has f (Q v) ≡ true → (has f (P v) ≡ true) ⊎ IsDue later_wires F f v)
      → IsTold F Q Given g → (w.last g ≡ 0 → IsTold F Q Done g) → ((w.last g ≡ 0 → ⊥) → is_whole (F (w.last g)) ≡ true → IsTold F Q Done g)
      → Stands later_wires F Q
  later_stands F P Q stands main others grow posts waits bare_waits last_waits = record {
    wired = fit;
    sound = so;
    posted = λ f v z h. posted_of f v z (posts f v h);
    told = told_of;
    main_reads = stands.main_reads;
    main_writes = stands.main_writes;
  }
    where
      ok : AreWired w
      ok = stands.wired

      fit : AreWired later_wires
      fit = record {
        behind = ok.behind;
        below = ok.below;
        not_main = ok.not_main;
        empty = ok.empty;
        listed = ok.listed;
        all_before = ok.all_before;
        covered = ok.covered;
        main_writes = ok.main_writes;
        main_holds = main;
      }

      so : AreSo later_wires F
      so f v z h = gift_means f v (stands.sound f v z h)

      posted_of : (f : Flag) (v : ℕ) → (v ≡ 0 → ⊥) → (has f (P v) ≡ true) ⊎ IsDue later_wires F f v → Means later_wires f v
      posted_of f v z (inl h) = gift_means f v (stands.posted f v z h)
      posted_of f v z (inr d) = due_so later_wires fit F so f v d

      still : (f : Flag) (v : ℕ) → IsTold F P f v → IsTold F Q f v
      still f v (inl h) = inl h
      still f v (inr h) = inr (grow f v h)

      told_of : (f : Flag) (v : ℕ) → IsDue later_wires F f v → IsTold F Q f v
      told_of f t (from_before v e h) = still f t (stands.told f t (from_before v e h))
      told_of f t (from_above v e h) = still f t (stands.told f t (from_above v e h))
      told_of f t (from_last v h l z k) = go (same_or t g)
        where
          go : (t ≡ g) ⊎ (t ≡ g → ⊥) → IsTold F Q Done t
          go (inl y) =
              subst (λ x. IsTold F Q Done x) (sym y) (last_waits (λ a. z (sym l ∙ (ap w.last y ∙ a))) (subst (λ x. is_whole (F x) ≡ true) (sym l ∙ ap w.last y) k))
          go (inr y) = still Done t (stands.told Done t (from_last v (sym (others t y) ∙ h) l z k))
      told_of f t (given h) = go (same_or t g)
        where
          go : (t ≡ g) ⊎ (t ≡ g → ⊥) → IsTold F Q Given t
          go (inl y) = subst (λ x. IsTold F Q Given x) (sym y) waits
          go (inr y) = still Given t (stands.told Given t (given (sym (others t y) ∙ h)))
      told_of f t (bare h l) = go (same_or t g)
        where
          go : (t ≡ g) ⊎ (t ≡ g → ⊥) → IsTold F Q Done t
          go (inl y) = subst (λ x. IsTold F Q Done x) (sym y) (bare_waits (sym (ap w.last y) ∙ l))
          go (inr y) = still Done t (stands.told Done t (bare (sym (others t y) ∙ h) l))

-- a gift in a set of lists that is told by its values
module _ (w n : Wires) (g : ℕ) (gift : IsGift w n g) where
  more_gifts : (v : ℕ) → w.gave v ≡ true → n.gave v ≡ true
  more_gifts v h = go (same_or v g)
    where
      go : (v ≡ g) ⊎ (v ≡ g → ⊥) → n.gave v ≡ true
      go (inl y) = ap n.gave y ∙ gift.given
      go (inr y) = gift.others v y ∙ h

  are_later : later_wires w n.gave g more_gifts ≡ n
  are_later = same_wires (later_wires w n.gave g more_gifts) n (λ v. sym (gift.places v)) (λ v. sym (gift.lasts v)) (λ v. sym (gift.modes v)) (λ v. refl)

  pub gift_stays : (f : Flag) (v : ℕ) → Means w f v → Means n f v
  gift_stays f v m = subst (λ z. Means z f v) are_later (gift_means w n.gave g more_gifts f v m)

  pub gift_stands : (F P Q : ℕ → Marks) → Stands w F P
      → ((f : Flag) (v : ℕ) → has f (P v) ≡ true → has f (Q v) ≡ true)
      → ((f : Flag) (v : ℕ) → has f (Q v) ≡ true → (has f (P v) ≡ true) ⊎ IsDue n F f v)
      → IsTold F Q Given g → (w.last g ≡ 0 → IsTold F Q Done g) → ((w.last g ≡ 0 → ⊥) → is_whole (F (w.last g)) ≡ true → IsTold F Q Done g)
      → Stands n F Q
  gift_stands F P Q stands grow posts waits bare_waits last_waits =
      subst (λ z. Stands z F Q) are_later
      (later_stands w n.gave g more_gifts F P Q stands (gift.others 0 (λ h. gift.not_main (sym h)) ∙ stands.wired.main_holds) gift.others grow
      (subst (λ z. (f : Flag) (v : ℕ) → has f (Q v) ≡ true → (has f (P v) ≡ true) ⊎ IsDue z F f v) (sym are_later) posts) waits bare_waits last_waits)
