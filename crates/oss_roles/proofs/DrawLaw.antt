-- What is drawn has no role: what each step leaves of this.
use Rattle.std.proofs.Common.{◌≡◌, inl, inr, sym, subst, ◌∙◌, ℕ, zero, suc, List, [], ◌∷◌, None}
use mathlib.Core.Option as maybe
use Rattle.atomic_table.proofs.Lists.{at_set, at_snoc}
use Rattle.oss_words.specs.Views.{Among}
use Rattle.oss_roles.specs.Drawing.{DrawsKeep, NewSeatsDraw, NothingIsDrawn, PlansDraw}
use Rattle.oss_roles.specs.Field.{Sits}
use Rattle.oss_roles.specs.Sights.{Sight}

none_among : {e : ℕ} → Among e [] → ⊥
none_among a = elim a [ ]

pub nothing_is_drawn : (S : Type 0) → NothingIsDrawn S
nothing_is_drawn S role v empty = record {
  none = λ id x at e a. absurd (no id x at e a);
  one = λ id j x y at _ e a b. absurd (no id x at e a);
}
  where
    no : (id : ℕ) (x : Sight S) → Sits (v ∷ []) id x → (e : ℕ) → Among e x.drawn → ⊥
    no zero x at e a = none_among (subst (λ (l : List ℕ). Among e l) empty (subst (λ (z : Sight S). Among e z.drawn) (sym (maybe.some-injective v x at)) a))
    no (suc id) x at e a = maybe.some-ne-none x (sym at)

pub draws_keep : (S : Type 0) → DrawsKeep S
draws_keep S role sights id v w at new d = record {
  none = λ j x sits e a. elim (at_set sights id j w x sits) [
    | inl h ↦ none_here e (subst (λ (z : Sight S). Among e z.drawn) (sym h.1) a)
    | inr h ↦ d.none j x h.1 e a
  ];
  one = λ j i x y sj si e a b. elim (at_set sights id j w x sj) [
    | inl h ↦ elim (at_set sights id i w y si) [
      | inl g ↦ h.0 ∙ sym g.0
      | inr g ↦ h.0 ∙ other e i y g.1 (subst (λ (z : Sight S). Among e z.drawn) (sym h.1) a) b
    ]
    | inr h ↦ elim (at_set sights id i w y si) [
      | inl g ↦ sym (g.0 ∙ other e j x h.1 (subst (λ (z : Sight S). Among e z.drawn) (sym g.1) b) a)
      | inr g ↦ d.one j i x y h.1 g.1 e a b
    ]
  ];
}
  where
    none_here : (e : ℕ) → Among e w.drawn → role e ≡ None
    none_here e a = elim (new e a) [ inl old ↦ d.none id v at e old | inr free ↦ free.none ]

    other : (e i : ℕ) (y : Sight S) → Sits sights i y → Among e w.drawn → Among e y.drawn → id ≡ i
    other e i y si a b = elim (new e a) [ inl old ↦ d.one id i v y at si e old b | inr free ↦ absurd (free.undrawn i y si b) ]

pub plans_draw : (S : Type 0) → PlansDraw S
plans_draw S role role' sights id v w at newly left d = record {
  none = λ j x sits e a. elim (at_set sights id j w x sits) [
    | inl h ↦ (left e (subst (λ (z : Sight S). Among e z.drawn) (sym h.1) a)).1
    | inr h ↦ elim (newly e) [ inl same ↦ same ∙ d.none j x h.1 e a | inr mine ↦ absurd (h.0 (d.one j id x v h.1 at e a mine)) ]
  ];
  one = λ j i x y sj si e a b. elim (at_set sights id j w x sj) [
    | inl h ↦ elim (at_set sights id i w y si) [
      | inl g ↦ h.0 ∙ sym g.0
      | inr g ↦ h.0 ∙ d.one id i v y at g.1 e (left e (subst (λ (z : Sight S). Among e z.drawn) (sym h.1) a)).0 b
    ]
    | inr h ↦ elim (at_set sights id i w y si) [
      | inl g ↦ d.one j id x v h.1 at e a (left e (subst (λ (z : Sight S). Among e z.drawn) (sym g.1) b)).0 ∙ sym g.0
      | inr g ↦ d.one j i x y h.1 g.1 e a b
    ]
  ];
}

pub new_seats_draw : (S : Type 0) → NewSeatsDraw S
new_seats_draw S role sights x empty d = record {
  none = λ j y sits e a. elim (at_snoc sights x y j sits) [ inl old ↦ d.none j y old e a | inr new ↦ absurd (no y new e a) ];
  one = λ j i y z sj si e a b. elim (at_snoc sights x y j sj) [
    | inl old ↦ elim (at_snoc sights x z i si) [ inl older ↦ d.one j i y z old older e a b | inr new ↦ absurd (no z new e b) ]
    | inr new ↦ absurd (no y new e a)
  ];
}
  where
    no : (y : Sight S) → x ≡ y → (e : ℕ) → Among e y.drawn → ⊥
    no y new e a = none_among (subst (λ (l : List ℕ). Among e l) empty (subst (λ (z : Sight S). Among e z.drawn) (sym new) a))
