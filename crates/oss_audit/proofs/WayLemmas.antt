-- What an act leaves of the tasks on the way, and what it adds.
use Rattle.std.proofs.Common.{◌≡◌, ℕ, ◌+◌, ◌<◌, ◌≤◌, ◌⊎◌, inl, inr, refl, sym, subst, ap, ◌∙◌, List, [], ◌∷◌, arith, Bool, true, false}
use Rattle.std.specs.Prelude.{◌||◌}
use Rattle.oss_model.specs.Bodies.{Act}
use Rattle.oss_model.specs.Order.{IsSuffix, whole}
use Rattle.oss_model.proofs.OrderLemmas.{suffix_drop, suffix_trans}
use Rattle.oss_audit.specs.declared.begun.Begun.{Begun}
use Rattle.oss_pieces.specs.CellSets.{has}
use Rattle.oss_audit.specs.Following.{AreOnWay, IsOnWay, TellsTouched, at_child, at_main}
use Rattle.oss_audit.specs.Trails.{Declared, Declares, Touched, place_of, touches}
use Rattle.oss_audit.proofs.PathLemmas.{one_way, not_below}

-- Tests

pub either : (a b : Bool) → (a || b) ≡ true → (a ≡ true) ⊎ (b ≡ true)
either true b h = inl refl
either false b h = inr h

pub first_of : (a b : Bool) → a ≡ true → (a || b) ≡ true
first_of true b h = refl
first_of false b h = cc

pub second_of : (a b : Bool) → b ≡ true → (a || b) ≡ true
second_of true b h = refl
second_of false b h = h

swapped : (a b d : Bool) → (a || (b || d)) ≡ (b || (a || d))
swapped true true d = refl
swapped true false d = refl
swapped false b d = refl

module _ {S : Type 0} where
  pub tells_as : (trail : List (Act S)) (q : List ℕ) (f g : ℕ → Bool) → ((c : ℕ) → c < 1048576 → f c ≡ g c) → TellsTouched trail q f → TellsTouched trail q g
  tells_as trail q f g e t = record { so = λ c l h. t.so c l (e c l ∙ h); all = λ c l h. sym (e c l) ∙ t.all c l h }

  pub way_as : (trail : List (Act S)) {f g : ℕ → Bool} {q : List ℕ} {closed : ℕ} {bs : List Begun} → ((c : ℕ) → c < 1048576 → f c ≡ g c) → AreOnWay trail f q closed bs → AreOnWay trail g q closed bs
  way_as trail {f = f} {g = g} e (at_main {b = b} h t) = at_main h (tells_as trail [] (λ c. has b.touched c || f c) (λ c. has b.touched c || g c) (λ c l. ap (λ (x : Bool). has b.touched c || x) (e c l)) t)
  way_as trail {f = f} {g = g} e (at_child {k = k} {q = q} {b = b} h t n rest) =
      at_child h (tells_as trail (k ∷ q) (λ c. has b.touched c || f c) (λ c. has b.touched c || g c) (λ c l. ap (λ (x : Bool). has b.touched c || x) (e c l)) t) n
      (way_as trail (λ c l. ap (λ (x : Bool). has b.touched c || x) (e c l)) rest)

  -- One more act, made where the run stands. What it touches or declares is of tasks on the way to w.
  module _ (trail : List (Act S)) (a : Act S) (w : List ℕ) (on : IsSuffix (place_of trail).path w) where
    touched_new : (r : List ℕ) (c : ℕ) → Touched (a ∷ trail) r c → Touched trail r c ⊎ IsSuffix r w
    touched_new r c (inl (h, s)) = inr (suffix_trans s on)
    touched_new r c (inr h) = inl h

    -- what the act declares, if anything, is of the task at w
    module _ (declares : (r : List ℕ) (c : ℕ) → Declares a (place_of trail) r c → r ≡ w) where
      declared_new : (r : List ℕ) (c : ℕ) → Declared (a ∷ trail) r c → Declared trail r c ⊎ IsSuffix r w
      declared_new r c (inl h) = inr (subst (λ (x : List ℕ). IsSuffix r x) (declares r c h) whole)
      declared_new r c (inr h) = inl h

      -- A task on the way stays right, if nothing that the act touches or declares is of a closed child, or of one that is not created.
      pub on_way_more : (b : Begun) (q : List ℕ) (closed count : ℕ) → b.created ≤ count → ((j : ℕ) → IsSuffix (j ∷ q) w → (closed ≤ j) × (j < count)) → ((c : ℕ) → Declares a (place_of trail) q c → ⊥)
          → IsOnWay trail b q closed → IsOnWay (a ∷ trail) (record b { created = count }) q closed
      on_way_more b q closed count up lane none h =
          record {
            point = h.point;
            declared = λ c k. inr (h.declared c k);
            all_declared = λ c k. own c k;
            fresh = λ j r c l s k. fresh j r c l s k;
            rises = h.rises;
            below = h.below;
            only = λ j r c l s k. let t = h.only j r c l s k in (inr t.0, λ m. closed_touch j r c l s t.1 m);
            all = λ j r c l s k m. h.all j r c l s (closed_declared j r c l s k) (λ i. m (inr i));
          }
        where
          own : (c : ℕ) → Declared (a ∷ trail) q c → has b.declared c ≡ true
          own c (inl k) = absurd (none c k)
          own c (inr k) = h.all_declared c k

          off : (j : ℕ) (r : List ℕ) → j < closed → IsSuffix (j ∷ q) r → IsSuffix r w → ⊥
          off j r l s i = let m = (lane j (suffix_trans s i)).0 in omega (arith, l, m)

          ahead : (j : ℕ) (r : List ℕ) → count ≤ j → IsSuffix (j ∷ q) r → IsSuffix r w → ⊥
          ahead j r l s i = let m = (lane j (suffix_trans s i)).1 in omega (arith, l, m)

          closed_touch : (j : ℕ) (r : List ℕ) (c : ℕ) → j < closed → IsSuffix (j ∷ q) r → (Touched trail r c → ⊥) → Touched (a ∷ trail) r c → ⊥
          closed_touch j r c l s n m = go (touched_new r c m)
            where
              go : Touched trail r c ⊎ IsSuffix r w → ⊥
              go (inl i) = n i
              go (inr i) = off j r l s i

          closed_declared : (j : ℕ) (r : List ℕ) (c : ℕ) → j < closed → IsSuffix (j ∷ q) r → Declared (a ∷ trail) r c → Declared trail r c
          closed_declared j r c l s m = go (declared_new r c m)
            where
              go : Declared trail r c ⊎ IsSuffix r w → Declared trail r c
              go (inl i) = i
              go (inr i) = absurd (off j r l s i)

          fresh : (j : ℕ) (r : List ℕ) (c : ℕ) → count ≤ j → IsSuffix (j ∷ q) r → Declared (a ∷ trail) r c ⊎ Touched (a ∷ trail) r c → ⊥
          fresh j r c l s (inl m) = go (declared_new r c m)
            where
              go : Declared trail r c ⊎ IsSuffix r w → ⊥
              go (inl i) = h.fresh j r c (omega (arith, up, l)) s (inl i)
              go (inr i) = ahead j r l s i
          fresh j r c l s (inr m) = go (touched_new r c m)
            where
              go : Touched trail r c ⊎ IsSuffix r w → ⊥
              go (inl i) = h.fresh j r c (omega (arith, up, l)) s (inr i)
              go (inr i) = ahead j r l s i

      -- what the act touches is touched for each task on the way
      tells_more : (q : List ℕ) (f : ℕ → Bool) → IsSuffix q (place_of trail).path → TellsTouched trail q f → TellsTouched (a ∷ trail) q (λ c. touches a c || f c)
      tells_more q f s t = record { so = λ c l h. so c l (either (touches a c) (f c) h); all = λ c l h. all c l h }
        where
          so : (c : ℕ) → c < 1048576 → (touches a c ≡ true) ⊎ (f c ≡ true) → Touched (a ∷ trail) q c
          so c l (inl h) = inl (h, s)
          so c l (inr h) = inr (t.so c l h)

          all : (c : ℕ) → c < 1048576 → Touched (a ∷ trail) q c → (touches a c || f c) ≡ true
          all c l (inl h) = first_of (touches a c) (f c) h.0
          all c l (inr h) = second_of (touches a c) (f c) (t.all c l h)

      pub tells_below : (b : Begun) (q : List ℕ) (f : ℕ → Bool) → IsSuffix q (place_of trail).path → TellsTouched trail q (λ c. has b.touched c || f c) → TellsTouched (a ∷ trail) q (λ c. has b.touched c || (touches a c || f c))
      tells_below b q f s t = tells_as (a ∷ trail) q (λ c. touches a c || (has b.touched c || f c)) (λ c. has b.touched c || (touches a c || f c)) (λ c l. swapped (touches a c) (has b.touched c) (f c)) (tells_more q (λ c. has b.touched c || f c) s t)

      -- the path of a task above is too short to be the one that the act declares
      none_above : (k : ℕ) (q : List ℕ) → IsSuffix (k ∷ q) w → (c : ℕ) → Declares a (place_of trail) q c → ⊥
      none_above k q s c h = not_below (subst (λ (x : List ℕ). IsSuffix (k ∷ q) x) (sym (declares q c h)) s)

      -- the tasks above the child k of the path q, on the way to w
      pub above_more : (k : ℕ) {within : ℕ → Bool} {q : List ℕ} {b : Begun} {rest : List Begun} → b.created ≡ k + 1 → IsSuffix (k ∷ q) w → IsSuffix q (place_of trail).path → AreOnWay trail within q k (b ∷ rest)
          → AreOnWay (a ∷ trail) (λ c. touches a c || within c) q k (b ∷ rest)
      above_more k {within = f} n s p (at_main {b = b} h t) =
          at_main (on_way_more b [] k b.created (omega arith) (lane [] s) (none_above k [] s) h) (tells_below b [] f p t)
        where
          lane : (q : List ℕ) → IsSuffix (k ∷ q) w → (j : ℕ) → IsSuffix (j ∷ q) w → (k ≤ j) × (j < b.created)
          lane q s j i = let e : j ≡ k = one_way j k i s in (omega (arith, e), omega (arith, e, n))
      above_more k {within = f} n s p (at_child {k = j} {q = q} {b = b} {a = c} {rest = rest} h t m more) =
          at_child (on_way_more b (j ∷ q) k b.created (omega arith) lane (none_above k (j ∷ q) s) h) (tells_below b (j ∷ q) f p t) m
          (way_as (a ∷ trail) (λ d l. swapped (touches a d) (has b.touched d) (f d)) (above_more j m (suffix_drop s) (suffix_drop p) more))
        where
          lane : (i : ℕ) → IsSuffix (i ∷ j ∷ q) w → (k ≤ i) × (i < b.created)
          lane i x = let e : i ≡ k = one_way i k x s in (omega (arith, e), omega (arith, e, n))
