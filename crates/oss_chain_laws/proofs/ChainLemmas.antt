-- How a longest chain is put together from parts.
use Rattle.std.proofs.Common.{◌≡◌, ℕ, ◌+◌, ◌≤◌, ◌⊎◌, inl, inr, refl, sym, subst, ap, ◌∙◌, List, [], ◌∷◌, arith, Bool, true, false}
use Rattle.std.specs.Prelude.{nat_lt, if◌then◌else◌}
use Rattle.std.proofs.lemmas.Bool.Decides.{nat_tests}
use Rattle.oss_model.specs.Order.{IsIn, here, there}
use Rattle.oss_chain_laws.specs.Chains.{capped, IsTrail, one, more, ticks_in, Best, no_chain, better, one_more, IsMost}

pub capped_grows : (w m n : ℕ) → m ≤ n → capped (w + m) ≤ capped (w + n)
capped_grows w m n h = grind arith

bools : (b : Bool) → (b ≡ true) ⊎ (b ≡ false)
bools true = inl refl
bools false = inr refl

less_is : (m n : ℕ) → nat_lt m n ≡ true → m ≤ n
less_is m n h = grind (arith, nat_tests)

more_is : (m n : ℕ) → nat_lt m n ≡ false → n ≤ m
more_is m n h = grind (arith, nat_tests)

-- the best of a list
unfoldable pub greatest : {A E : Type 0} → (A → Best E) → List A → Best E
greatest f [] = no_chain
greatest f (x ∷ xs) = better (f x) (greatest f xs)

module _ {E : Type 0} (W : E → E → Type 0) (weight : E → ℕ) where
  one_tick : (e : E) → ticks_in weight (e ∷ []) ≡ capped (weight e + 0)
  unfolding ticks_in
  one_tick e = refl

  more_ticks : (e : E) (es : List E) → ticks_in weight (e ∷ es) ≡ capped (weight e + ticks_in weight es)
  unfolding ticks_in
  more_ticks e es = refl

  -- none has the property
  pub most_none : (Q : E → Type 0) → ((f : E) → Q f → ⊥) → IsMost W weight Q no_chain
  most_none Q h = record { most = λ f q es t. absurd (h f q); reached = inl (refl, refl) }

  -- two properties that hold of the same events
  pub most_same : (Q R : E → Type 0) (m : Best E) → ((f : E) → Q f → R f) → ((f : E) → R f → Q f) → IsMost W weight Q m → IsMost W weight R m
  most_same Q R m forth back q = record { most = λ f r es t. q.most f (back f r) es t; reached = go q.reached }
    where
      go : ((m.ticks ≡ 0) × (m.chain ≡ [])) ⊎ ((f : E) × Q f × (es : List E) × (m.chain ≡ f ∷ es) × IsTrail W (f ∷ es) × (ticks_in weight (f ∷ es) ≡ m.ticks))
          → ((m.ticks ≡ 0) × (m.chain ≡ [])) ⊎ ((f : E) × R f × (es : List E) × (m.chain ≡ f ∷ es) × IsTrail W (f ∷ es) × (ticks_in weight (f ∷ es) ≡ m.ticks))
      go (inl z) = inl z
      go (inr (f, p, es, c, t, e)) = inr (f, forth f p, es, c, t, e)

  -- one of two properties
  pub most_either : (Q R : E → Type 0) (m n : Best E) → IsMost W weight Q m → IsMost W weight R n → IsMost W weight (λ f. Q f ⊎ R f) (better m n)
  most_either Q R m n q r = go (bools (nat_lt m.ticks n.ticks))
    where
      all_of : (k : ℕ) → m.ticks ≤ k → n.ticks ≤ k → (f : E) → Q f ⊎ R f → (es : List E) → IsTrail W (f ∷ es) → ticks_in weight (f ∷ es) ≤ k
      all_of k a b f (inl x) es t = let l = q.most f x es t in omega (arith, l, a)
      all_of k a b f (inr x) es t = let l = r.most f x es t in omega (arith, l, b)

      left : ((m.ticks ≡ 0) × (m.chain ≡ [])) ⊎ ((f : E) × Q f × (es : List E) × (m.chain ≡ f ∷ es) × IsTrail W (f ∷ es) × (ticks_in weight (f ∷ es) ≡ m.ticks))
          → ((m.ticks ≡ 0) × (m.chain ≡ [])) ⊎ ((f : E) × (Q f ⊎ R f) × (es : List E) × (m.chain ≡ f ∷ es) × IsTrail W (f ∷ es) × (ticks_in weight (f ∷ es) ≡ m.ticks))
      left (inl z) = inl z
      left (inr (f, p, es, c, t, e)) = inr (f, inl p, es, c, t, e)

      right : ((n.ticks ≡ 0) × (n.chain ≡ [])) ⊎ ((f : E) × R f × (es : List E) × (n.chain ≡ f ∷ es) × IsTrail W (f ∷ es) × (ticks_in weight (f ∷ es) ≡ n.ticks))
          → ((n.ticks ≡ 0) × (n.chain ≡ [])) ⊎ ((f : E) × (Q f ⊎ R f) × (es : List E) × (n.chain ≡ f ∷ es) × IsTrail W (f ∷ es) × (ticks_in weight (f ∷ es) ≡ n.ticks))
      right (inl z) = inl z
      right (inr (f, p, es, c, t, e)) = inr (f, inr p, es, c, t, e)

      go : (nat_lt m.ticks n.ticks ≡ true) ⊎ (nat_lt m.ticks n.ticks ≡ false) → IsMost W weight (λ f. Q f ⊎ R f) (better m n)
      go (inl h) = let l = less_is m.ticks n.ticks h in subst (λ (x : Best E). IsMost W weight (λ f. Q f ⊎ R f) x) (ap (λ (b : Bool). if b then n else m) (sym h)) (record { most = all_of n.ticks l (omega arith); reached = right r.reached })
      go (inr h) = let l = more_is m.ticks n.ticks h in subst (λ (x : Best E). IsMost W weight (λ f. Q f ⊎ R f) x) (ap (λ (b : Bool). if b then n else m) (sym h)) (record { most = all_of m.ticks (omega arith) l; reached = left q.reached })

  -- an event: what it has itself, and the best of those that it waits for
  pub most_step : (e : E) (m : Best E) → IsMost W weight (W e) m → IsMost W weight (λ f. f ≡ e) (one_more weight e m)
  most_step e m q = record {
    most = λ f h es t. subst (λ (z : E). IsTrail W (z ∷ es) → ticks_in weight (z ∷ es) ≤ capped (weight e + m.ticks)) (sym h) (none_more es) t;
    reached = inr (go q.reached);
  }
    where
      none_more : (es : List E) → IsTrail W (e ∷ es) → ticks_in weight (e ∷ es) ≤ capped (weight e + m.ticks)
      none_more [] t = rw (one_tick e) (capped_grows (weight e) 0 m.ticks (omega arith))
      none_more (f ∷ fs) (more w t) = rw (more_ticks e (f ∷ fs)) (capped_grows (weight e) (ticks_in weight (f ∷ fs)) m.ticks (q.most f w fs t))

      go : ((m.ticks ≡ 0) × (m.chain ≡ [])) ⊎ ((f : E) × W e f × (es : List E) × (m.chain ≡ f ∷ es) × IsTrail W (f ∷ es) × (ticks_in weight (f ∷ es) ≡ m.ticks))
          → (f : E) × (f ≡ e) × (es : List E) × (e ∷ m.chain ≡ f ∷ es) × IsTrail W (f ∷ es) × (ticks_in weight (f ∷ es) ≡ capped (weight e + m.ticks))
      go (inl z) = (e, refl, [], ap (λ (c : List E). e ∷ c) z.1, one, one_tick e ∙ ap (λ (n : ℕ). capped (weight e + n)) (sym z.0))
      go (inr (f, w, es, c, t, h)) = (e, refl, f ∷ es, ap (λ (x : List E). e ∷ x) c, more w t, more_ticks e (f ∷ es) ∙ ap (λ (n : ℕ). capped (weight e + n)) h)

  -- a property for each member of a list
  pub most_each : {A : Type 0} (Q : A → E → Type 0) (value : A → Best E) (xs : List A) → ((x : A) → IsIn x xs → IsMost W weight (Q x) (value x)) → IsMost W weight (λ f. (x : A) × IsIn x xs × Q x f) (greatest value xs)
  unfolding greatest
  most_each {A = A} Q value [] each = most_none (λ f. (x : A) × IsIn x [] × Q x f) (λ f q. not_in q.1)
    where
      not_in : {x : A} → IsIn x [] → ⊥
      not_in h = elim h [ ]
  most_each {A = A} Q value (x ∷ xs) each =
      most_same (λ f. Q x f ⊎ ((y : A) × IsIn y xs × Q y f)) (λ f. (y : A) × IsIn y (x ∷ xs) × Q y f) (better (value x) (greatest value xs)) forth back
      (most_either (Q x) (λ f. (y : A) × IsIn y xs × Q y f) (value x) (greatest value xs) (each x here) (most_each Q value xs (λ y i. each y (there i))))
    where
      forth : (f : E) → Q x f ⊎ ((y : A) × IsIn y xs × Q y f) → (y : A) × IsIn y (x ∷ xs) × Q y f
      forth f (inl q) = (x, here, q)
      forth f (inr (y, i, q)) = (y, there i, q)

      back : (f : E) → (y : A) × IsIn y (x ∷ xs) × Q y f → Q x f ⊎ ((y : A) × IsIn y xs × Q y f)
      back f (y, here, q) = inl q
      back f (y, there i, q) = inr (y, i, q)
