-- A run of two seats that draw: the first draws 1 and 2, the second 3; the first gives 1 and 2 their roles, by the fill of a count that waits for 2.
use Rattle.std.proofs.Common.{◌≡◌, ◌⊎◌, inl, inr, refl, sym, subst, ap, ◌∙◌, ℕ, zero, suc, ◌+◌, arith, Bool, true, false, List, [], ◌∷◌, Option, Some, None}
use Rattle.std.specs.Prelude.{◌==◌, ◌&&◌, cond}
use Rattle.std.proofs.lemmas.Bool.Decides.{eqb_tells}
use mathlib.Core.Option as maybe
use Rattle.oss_model.specs.Rights.{Right}
use Rattle.oss_words.specs.declared.entry.EntryState.{EntryState}
use Rattle.oss_words.specs.Sums.{below, num}
use Rattle.oss_words.specs.Views.{Among, among_first, among_later}
use Rattle.oss_roles.specs.Counting.{AreNumbered, stands, weight}
use Rattle.oss_roles.specs.Drawing.{AreDrawn}
use Rattle.oss_roles.specs.Field.{Sits}
use Rattle.oss_roles.specs.Numbers.{entry_number, has_cell}
use Rattle.oss_roles.specs.Roles.{Role}
use Rattle.oss_roles.specs.Sights.{Sight}
use Rattle.oss_roles.specs.Starts.{first_sight}
use Rattle.oss_roles.proofs.DrawLaw.{draws_keep, new_seats_draw, nothing_is_drawn, plans_draw}
use Rattle.oss_roles.proofs.NumberLaw.{counts_are_of_cells}

when : {A : Type 0} (b : Bool) (x y : A) → b ≡ true → cond b x y ≡ x
when true x y h = refl
when false x y h = absurd (let bad : ⊥ = cc in bad)

else_ : {A : Type 0} (b : Bool) (x y : A) → b ≡ false → cond b x y ≡ y
else_ false x y h = refl
else_ true x y h = absurd (let bad : ⊥ = cc in bad)

some_same : (r q : Role) → Some r ≡ Some q → r ≡ q
some_same r q h = cc

some_none : {A : Type 0} (r : Role) → None ≡ Some r → A
some_none r h = absurd (let bad : ⊥ = cc in bad)

module _ (S : Type 0) (r1 r2 : Role) where
  abbrev role0 : ℕ → Option Role
  role0 e = None

  abbrev role1 : ℕ → Option Role
  role1 e = cond (e == 1) (Some r1) (cond (e == 2) (Some r2) None)

  abbrev drawing : List ℕ → Sight S
  drawing numbers = record first_sight { drawn = numbers }

  one_of : (e a b : ℕ) → Among e (a ∷ b ∷ []) → (a ≡ e) ⊎ (b ≡ e)
  one_of e a b (among_first q) = inl q
  one_of e a b (among_later (among_first q)) = inr q
  one_of e a b (among_later (among_later x)) = elim x [ ]

  drawn_by : (e : ℕ) (l : List ℕ) (x : Sight S) → drawing l ≡ x → Among e x.drawn → Among e l
  drawn_by e l x q a = subst (λ (z : Sight S). Among e z.drawn) (sym q) a

  -- of two seats, what one has drawn
  drawn_in : (e j : ℕ) (l m : List ℕ) (x : Sight S) → Sits (drawing l ∷ drawing m ∷ []) j x → Among e x.drawn → Among e l ⊎ Among e m
  drawn_in e zero l m x sits a = inl (drawn_by e l x (maybe.some-injective (drawing l) x sits) a)
  drawn_in e (suc zero) l m x sits a = inr (drawn_by e m x (maybe.some-injective (drawing m) x sits) a)
  drawn_in e (suc (suc j)) l m x sits a = absurd (maybe.some-ne-none x (sym sits))

  undrawn : (e j : ℕ) (x : Sight S) → Sits (drawing [] ∷ drawing [] ∷ []) j x → Among e x.drawn → ⊥
  undrawn e j x sits a = elim (drawn_in e j [] [] x sits a) [ inl b ↦ elim b [ ] | inr b ↦ elim b [ ] ]

  three_free : (e j : ℕ) (x : Sight S) → Among e (3 ∷ []) → Sits (drawing (1 ∷ 2 ∷ []) ∷ drawing [] ∷ []) j x → Among e x.drawn → ⊥
  three_free e j x (among_later b) sits a = elim b [ ]
  three_free e j x (among_first q) sits a = elim (drawn_in e j (1 ∷ 2 ∷ []) [] x sits a) [
    | inl b ↦ elim (one_of e 1 2 b) [ inl p ↦ omega (arith, p, q) | inr p ↦ omega (arith, p, q) ]
    | inr b ↦ elim b [ ]
  ]

  -- an entry has its role as before, or is one of the two
  planned : (e : ℕ) → (role1 e ≡ role0 e) ⊎ Among e (1 ∷ 2 ∷ [])
  planned e = elim (eqb_tells e 1) [
    | inl q ↦ inr (among_first (sym q.1))
    | inr q ↦ elim (eqb_tells e 2) [
      | inl p ↦ inr (among_later (among_first (sym p.1)))
      | inr p ↦ inl (rw (q.0, p.0) refl)
    ]
  ]

  role_is : (e : ℕ) (r : Role) → role1 e ≡ Some r → ((e ≡ 1) × (r1 ≡ r)) ⊎ ((e ≡ 2) × (r2 ≡ r))
  role_is e r h = elim (eqb_tells e 1) [
    | inl q ↦ inl (q.1, some_same r1 r (sym (when (e == 1) (Some r1) (cond (e == 2) (Some r2) None) q.0) ∙ h))
    | inr q ↦
        let k : cond (e == 2) (Some r2) None ≡ Some r = sym (else_ (e == 1) (Some r1) (cond (e == 2) (Some r2) None) q.0) ∙ h in
        elim (eqb_tells e 2) [
          | inl p ↦ inr (p.1, some_same r2 r (sym (when (e == 2) (Some r2) None p.0) ∙ k))
          | inr p ↦ some_none r (sym (else_ (e == 2) (Some r2) None p.0) ∙ k)
        ]
  ]

  -- nothing is drawn, and then there are two seats
  d0 : AreDrawn role0 (drawing [] ∷ [])
  d0 = nothing_is_drawn S role0 (drawing []) refl

  d1 : AreDrawn role0 (drawing [] ∷ drawing [] ∷ [])
  d1 = new_seats_draw S role0 (drawing [] ∷ []) (drawing []) refl d0

  -- the first draws, and then the second
  d2 : AreDrawn role0 (drawing (1 ∷ 2 ∷ []) ∷ drawing [] ∷ [])
  d2 = draws_keep S role0 (drawing [] ∷ drawing [] ∷ []) 0 (drawing []) (drawing (1 ∷ 2 ∷ [])) refl (λ e a. inr (record { none = refl; undrawn = undrawn e })) d1

  d3 : AreDrawn role0 (drawing (1 ∷ 2 ∷ []) ∷ drawing (3 ∷ []) ∷ [])
  d3 = draws_keep S role0 (drawing (1 ∷ 2 ∷ []) ∷ drawing [] ∷ []) 1 (drawing []) (drawing (3 ∷ [])) refl (λ e a. inr (record { none = refl; undrawn = λ j x sits b. three_free e j x a sits b })) d2

  -- the first gives roles to what it has drawn
  d4 : AreDrawn role1 (drawing [] ∷ drawing (3 ∷ []) ∷ [])
  d4 = plans_draw S role0 role1 (drawing (1 ∷ 2 ∷ []) ∷ drawing (3 ∷ []) ∷ []) 0 (drawing (1 ∷ 2 ∷ [])) (drawing []) refl planned (λ e a. elim a [ ]) d3

  -- what the second has drawn has no role
  pub free : role1 3 ≡ None
  free = d4.none 1 (drawing (3 ∷ [])) refl 3 (among_first refl)

  module _ (states : ℕ → EntryState) (own : ℕ → Right) (has : has_cell (own 0) ≡ true) (t1 : r1.task ≡ 1) (c1 : r1.counts ≡ false) (t2 : r2.task ≡ 1) (c2 : r2.counts ≡ true) (waited : stands r2.mode (states 2) ≡ false) where
    numbered : AreNumbered role1 states 1 1 own (λ c. true)
    numbered = record {
      own_role = (r1, refl, c1);
      each = λ c l h. let zero_is : 0 ≡ c = omega (arith, l) in
          (r2, ap (λ (z : ℕ). role1 (entry_number 1 own z)) (sym zero_is), t2, c2);
      no_more = λ e r is task. elim (role_is e r is) [ inl q ↦ inl q.0 | inr q ↦ inr (0, omega arith, has, q.0) ];
      waited = λ e r is task counts. elim (role_is e r is) [
        | inl q ↦ (let z : false ≡ true = sym c1 ∙ ap (λ (x : Role). x.counts) q.1 ∙ counts in absurd (let bad : ⊥ = cc in bad))
        | inr q ↦ subst (λ (z : ℕ). stands r.mode (states z) ≡ false) (sym q.0) (subst (λ (x : Role). stands x.mode (states 2) ≡ false) q.1 waited)
      ];
    }

    -- the count says that one cell is waited for
    pub one_waits : below (λ e. weight 1 (role1 e) (states e)) 4 ≡ 1
    one_waits = counts_are_of_cells role1 states 1 4 1 own (λ c. true) numbered (let h = ap num has in omega (arith, h)) ∙ ap (λ (b : Bool). num (b && true) + 0) has
