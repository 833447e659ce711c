-- What the views say of seats and entries, after a draw.
use Rattle.std.proofs.Common.{◌≡◌, ◌≢◌, ◌⊎◌, inl, inr, sym, subst, refl, ◌∙◌, ap, ℕ, zero, suc, ◌<◌, ◌≤◌, ◌+◌, ◌*◌, arith, Bool, true, List, [], ◌∷◌, ◌++◌, length, set}
use mathlib.Core.Option as maybe
use mathlib.Core.Option.{some-injective, some-ne-none}
use lib.ListN.{get_elem?}
use Rattle.atomic_table.proofs.Lists.{at_set}
use Rattle.oss_words.specs.declared.entry.EntryState.{EntryState}
use Rattle.oss_words.specs.Sums.{total}
use Rattle.oss_words.specs.Net.{Net, Shaped, Place, apart}
use Rattle.oss_words.specs.Seats.{Seats}
use Rattle.oss_words.specs.SeatSteps.{Draws, Drawing, enough, too_few, numbers, Splits, Joins}
use Rattle.oss_words.specs.Views.{View, Hung, Seen, Among, among_first, among_later, At, Named, named, Released, released}
use Rattle.oss_words.proofs.SumLemmas.{total_append, total_set, same_number}
use Rattle.oss_words.proofs.KeptLaw.{at_here, at_other}
use Rattle.oss_words.proofs.SeatLemmas.{among_none, among_left, among_right, among_append, length_set}

pub one_view : (views : List View) (i : ℕ) (v y : View) → At views i v → At views i y → v ≡ y
one_view views i v y a b = let z : maybe.some v ≡ maybe.some y = sym a ∙ b in cc

-- the numbers of a draw
number_in : (a k e : ℕ) → Among e (numbers a k) → (a ≤ e) × (e < a + k)
number_in a zero e h = among_none e h
number_in a (suc k) e (among_first q) = (omega (arith, q), omega (arith, q))
number_in a (suc k) e (among_later h) = let r = number_in (suc a) k e h in let x = r.0 in let y = r.1 in (omega (arith, x), omega (arith, y))

-- a draw
module _ (n : ℕ) (net : Net) (gave : ℕ → Bool) (states : ℕ → EntryState) (draw draw' k : ℕ) (views : List View) (id : ℕ) (v w : View)
    (shaped : Shaped net) (s : Seats n net gave states draw views) (at : At views id v) (d : Draws n draw draw' k v w) where
  data Owned (e : ℕ) : Type 0 where
    old_own : Among e v.owned → Owned e
    new_own : draw ≤ e → e < draw' → e < n → Owned e

  own : (e : ℕ) → Among e w.owned → Owned e
  own e h = elim d.found [
    | enough l q f ↦ elim (among_append e (numbers draw k) v.owned (subst (λ (x : List ℕ). Among e x) q h)) [
      | inl y ↦ let r = number_in draw k e y in let x = r.0 in let z = r.1 in let t = d.adds in new_own (omega (arith, x)) (omega (arith, z, t)) (omega (arith, z, l))
      | inr y ↦ old_own y
    ]
    | too_few l q f ↦ old_own (subst (λ (x : List ℕ). Among e x) q h)
  ]

  later : draw ≤ draw'
  later = let t = d.adds in omega (arith, t)

  data Whose (j : ℕ) (y : View) : Type 0 where
    mine : j ≡ id → w ≡ y → Whose j y
    another : j ≢ id → At views j y → Whose j y

  whose : (j : ℕ) (y : View) → At (set views id w) j y → Whose j y
  whose j y a = elim (at_set views id j w y a) [ inl q ↦ mine q.0 q.1 | inr q ↦ another q.0 q.1 ]

  -- what is owned by one whose number is not the drawer's was drawn before
  not_others : (j : ℕ) (y : View) → j ≢ id → At views j y → (e : ℕ) → Among e y.owned → Among e w.owned → ⊥
  not_others j y ne a e h k = elim (own e k) [
    | old_own o ↦ ne (s.one_owner j id y v a at e h o)
    | new_own l t i ↦ let z = (s.owned_drawn j y a e h).0 in omega (arith, z, l)
  ]

  parent_drawn : (e : ℕ) → net.parent e < draw
  parent_drawn e = elim (shaped.parent_is e) [
    | inl q ↦ let z = s.main_drawn in omega (arith, q, z)
    | inr h ↦ s.hung_drawn (net.parent e) h
  ]

  same_links : (j : ℕ) (y : View) → At (set views id w) j y → (z : View) × At views j z × (z.links ≡ y.links) × (z.gives ≡ y.gives) × (z.seen ≡ y.seen)
  same_links j y a = elim (whose j y a) [
    | mine q k ↦ (v, subst (λ (x : ℕ). At views x v) (sym q) at, sym d.links ∙ ap (λ (x : View). x.links) k, sym d.gives ∙ ap (λ (x : View). x.gives) k, sym d.seen ∙ ap (λ (x : View). x.seen) k)
    | another ne b ↦ (y, b, refl, refl, refl)
  ]

  pub draws_seats : Seats n net gave states draw' (set views id w)
  draws_seats = record {
    size = s.size;
    work = let a = s.work in let b = total_set (λ (x : View). x.delivered) views id v w at in let c = d.delivered in omega (arith, a, b, c);
    drawn =
        let a = s.drawn in
        let b = total_set (λ (x : View). x.failed) views id v w at in
        let z = s.size in let t = d.adds in let m = d.most in let y = d.may in
        elim d.found [
          | enough l q f ↦ omega (arith, z, t, l)
          | too_few l q f ↦ omega (arith, a, b, t, m, y, f)
        ];
    failed = λ j y a. elim (whose j y a) [
      | mine q k ↦ let g = ap (λ (x : View). x.failed) k in let t = d.may in elim d.found [ enough l z f ↦ omega (arith, f, g, t) | too_few l z f ↦ omega (arith, f, g) ]
      | another ne b ↦ s.failed j y b
    ];
    seats = λ y a. elim (whose 0 y a) [
      | mine q k ↦
          let b = s.seats v (subst (λ (x : ℕ). At views x v) (sym q) at) in
          let c = d.splits in let f = ap (λ (x : View). x.splits) k in let g = length_set views id w in
          omega (arith, b, c, f, g)
      | another ne b ↦ let c = s.seats y b in let g = length_set views id w in omega (arith, c, g)
    ];
    parts = let a = s.parts in let b = total_set (λ (x : View). x.parts) views id v w at in let c = d.parts in omega (arith, a, b, c);
    spent = λ j y a z. elim (whose j y a) [
      | mine q k ↦ let l = d.live in let c = d.parts in let f = ap (λ (x : View). x.parts) k in absurd (omega (arith, l, c, f, z))
      | another ne b ↦ s.spent j y b z
    ];
    main_drawn = let a = s.main_drawn in let b = later in omega (arith, a, b);
    hung_drawn = λ e h. let a = s.hung_drawn e h in let b = later in omega (arith, a, b);
    gave_drawn = λ e h. let a = s.gave_drawn e h in let b = later in omega (arith, a, b);
    owned_drawn = λ j y a e h. elim (whose j y a) [
      | mine q k ↦ elim (own e (subst (λ (x : View). Among e x.owned) (sym k) h)) [
        | old_own o ↦ let f = s.owned_drawn id v at e o in let g = f.0 in let b = later in (omega (arith, g, b), f.1)
        | new_own l t i ↦ (t, i)
      ]
      | another ne b ↦ let f = s.owned_drawn j y b e h in let g = f.0 in let l = later in (omega (arith, g, l), f.1)
    ];
    one_owner = λ i j y z a b e h k. elim (whose i y a) [
      | mine q f ↦ elim (whose j z b) [
        | mine p g ↦ q ∙ sym p
        | another ne g ↦ absurd (not_others j z ne g e k (subst (λ (x : View). Among e x.owned) (sym f) h))
      ]
      | another ne f ↦ elim (whose j z b) [
        | mine p g ↦ absurd (not_others i y ne f e h (subst (λ (x : View). Among e x.owned) (sym g) k))
        | another me g ↦ s.one_owner i j y z f g e h k
      ]
    ];
    own_link = λ j y a e h p. elim (whose j y a) [
      | mine q k ↦ elim (own e (subst (λ (x : View). Among e x.owned) (sym k) h)) [
        | old_own o ↦ subst (λ (x : List Hung). Among (record { entry = e; place = net.place e }) x) (sym d.links ∙ ap (λ (x : View). x.links) k) (s.own_link id v at e o p)
        | new_own l t i ↦ let z = s.hung_drawn e p in absurd (omega (arith, l, z))
      ]
      | another ne b ↦ s.own_link j y b e h p
    ];
    own_children = λ j y a p h e o u. elim (whose j y a) [
      | mine q k ↦ elim (own p (subst (λ (x : View). Among p x.owned) (sym k) h)) [
        | old_own f ↦ subst (λ (x : List Hung). Among (record { entry = e; place = net.place e }) x) (sym d.links ∙ ap (λ (x : View). x.links) k) (s.own_children id v at p f e o u)
        | new_own l t i ↦ let z = parent_drawn e in absurd (omega (arith, l, z, u))
      ]
      | another ne b ↦ s.own_children j y b p h e o u
    ];
    own_give = λ j y a e h g. elim (whose j y a) [
      | mine q k ↦ elim (own e (subst (λ (x : View). Among e x.owned) (sym k) h)) [
        | old_own o ↦ subst (λ (x : List ℕ). Among e x) (sym d.gives ∙ ap (λ (x : View). x.gives) k) (s.own_give id v at e o g)
        | new_own l t i ↦ let z = s.gave_drawn e g in absurd (omega (arith, l, z))
      ]
      | another ne b ↦ s.own_give j y b e h g
    ];
    seen = λ j y a x h. let z = same_links j y a in s.seen j z.0 z.1 x (subst (λ (l : List Seen). Among x l) (sym z.4) h);
    link_named = λ e h. link_on e (net.place e) (s.link_named e h);
    named_link = λ j y a l h. let z = same_links j y a in s.named_link j z.0 z.1 l (subst (λ (x : List Hung). Among l x) (sym z.2) h);
    give_named = λ e g. give_on e (s.give_named e g);
    named_give = λ j y a e h. let z = same_links j y a in s.named_give j z.0 z.1 e (subst (λ (x : List ℕ). Among e x) (sym z.3) h);
  }
    where
      link_on : (e : ℕ) (p : Place) → Named views e p → Named (set views id w) e p
      link_on e p (named j y a h) = elim (same_number j id) [
        | inl q ↦ named id w (at_here views id v w at) (subst (λ (x : List Hung). Among (record { entry = e; place = p }) x) (ap (λ (x : View). x.links) (sym (one_view views id v y at (subst (λ (x : ℕ). At views x y) q a))) ∙ sym d.links) h)
        | inr ne ↦ named j y (at_other views id j w y ne a) h
      ]

      give_on : (e : ℕ) → Released views e → Released (set views id w) e
      give_on e (released j y a h) = elim (same_number j id) [
        | inl q ↦ released id w (at_here views id v w at) (subst (λ (x : List ℕ). Among e x) (ap (λ (x : View). x.gives) (sym (one_view views id v y at (subst (λ (x : ℕ). At views x y) q a))) ∙ sym d.gives) h)
        | inr ne ↦ released j y (at_other views id j w y ne a) h
      ]
