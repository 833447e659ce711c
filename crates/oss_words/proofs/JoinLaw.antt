-- What the views say of seats and entries, after a seat is joined to another one.
use Rattle.std.proofs.Common.{◌≡◌, ◌≢◌, ◌⊎◌, inl, inr, sym, subst, refl, ◌∙◌, ap, ℕ, zero, suc, ◌<◌, ◌≤◌, ◌+◌, ◌*◌, arith, Bool, true, List, [], ◌∷◌, ◌++◌, length, set}
use mathlib.Core.Option as maybe
use mathlib.Core.Option.{some-injective, some-ne-none}
use lib.ListN.{get_elem?}
use Rattle.atomic_table.proofs.Lists.{at_set}
use Rattle.oss_words.specs.declared.entry.EntryState.{EntryState}
use Rattle.oss_words.specs.Sums.{total}
use Rattle.oss_words.specs.Net.{Net, Shaped, Place, apart}
use Rattle.oss_words.specs.Seats.{Seats}
use Rattle.oss_words.specs.SeatSteps.{Draws, Drawing, enough, too_few, numbers, Splits, Joins}
use Rattle.oss_words.specs.Views.{View, Hung, Seen, Among, among_first, among_later, At, Named, named, Released, released}
use Rattle.oss_words.proofs.SumLemmas.{total_append, total_set, same_number}
use Rattle.oss_words.proofs.KeptLaw.{at_here, at_other}
use Rattle.oss_words.proofs.DrawLaw.{one_view}
use Rattle.oss_words.proofs.SeatLemmas.{among_none, among_left, among_right, among_append, length_set}

-- a seat is joined to another one
module _ (n : ℕ) (net : Net) (gave : ℕ → Bool) (states : ℕ → EntryState) (draw : ℕ) (views : List View) (id jd : ℕ) (v x w y : View)
    (s : Seats n net gave states draw views) (differ : id ≢ jd) (not_first : jd ≢ 0) (at : At views id v) (bt : At views jd x) (d : Joins v x w y) where
  data Whose (j : ℕ) (z : View) : Type 0 where
    mine : j ≡ id → w ≡ z → Whose j z
    gone : j ≡ jd → y ≡ z → Whose j z
    another : j ≢ id → j ≢ jd → At views j z → Whose j z

  whose : (j : ℕ) (z : View) → At (set (set views id w) jd y) j z → Whose j z
  whose j z a = elim (at_set (set views id w) jd j y z a) [
    | inl q ↦ gone q.0 q.1
    | inr q ↦ elim (at_set views id j w z q.1) [ inl p ↦ mine p.0 p.1 | inr p ↦ another p.0 q.0 p.1 ]
  ]

  at_w : At (set (set views id w) jd y) id w
  at_w = at_other (set views id w) jd id y w differ (at_here views id v w at)

  bt' : At (set views id w) jd x
  bt' = at_other views id jd w x (λ q. differ (sym q)) bt

  at_rest : (j : ℕ) (z : View) → j ≢ id → j ≢ jd → At views j z → At (set (set views id w) jd y) j z
  at_rest j z ne me a = at_other (set views id w) jd j y z me (at_other views id j w z ne a)

  sums : (f : View → ℕ) → total f (set (set views id w) jd y) + f v + f x ≡ total f views + f w + f y
  sums f = let a = total_set f views id v w at in let b = total_set f (set views id w) jd x y bt' in omega (arith, a, b)

  none_owned : (z : View) → y ≡ z → (e : ℕ) → Among e z.owned → ⊥
  none_owned z k e h = among_none e (subst (λ (l : List ℕ). Among e l) (ap (λ (g : View). g.owned) (sym k) ∙ ap (λ (g : View). g.owned) d.spent) h)

  -- what the seat has after the join, one of the two had before
  data Had {A : Type 0} (e : A) (f : View → List A) : Type 0 where
    had_first : Among e (f v) → Had e f
    had_second : Among e (f x) → Had e f

  own : (e : ℕ) → Among e w.owned → Had e (λ (z : View). z.owned)
  own e h = elim (among_append e v.owned x.owned (subst (λ (l : List ℕ). Among e l) d.owned h)) [ inl k ↦ had_first k | inr k ↦ had_second k ]

  not_others : (j : ℕ) (z : View) → j ≢ id → j ≢ jd → At views j z → (e : ℕ) → Among e z.owned → Among e w.owned → ⊥
  not_others j z ne me a e h k = elim (own e k) [
    | had_first o ↦ ne (s.one_owner j id z v a at e h o)
    | had_second o ↦ me (s.one_owner j jd z x a bt e h o)
  ]

  sole : (i j : ℕ) (t z : View) → Whose i t → Whose j z → (e : ℕ) → Among e t.owned → Among e z.owned → i ≡ j
  sole i j t z (mine p f) (mine q g) e h k = p ∙ sym q
  sole i j t z (gone p f) o e h k = absurd (none_owned t f e h)
  sole i j t z (mine p f) (gone q g) e h k = absurd (none_owned z g e k)
  sole i j t z (another p p' f) (gone q g) e h k = absurd (none_owned z g e k)
  sole i j t z (mine p f) (another q q' g) e h k = absurd (not_others j z q q' g e k (subst (λ (r : View). Among e r.owned) (sym f) h))
  sole i j t z (another p p' f) (mine q g) e h k = absurd (not_others i t p p' f e h (subst (λ (r : View). Among e r.owned) (sym g) k))
  sole i j t z (another p p' f) (another q q' g) e h k = s.one_owner i j t z f g e h k

  link_left : (l : Hung) → Among l v.links → Among l w.links
  link_left l h = subst (λ (t : List Hung). Among l t) (sym d.links) (among_left l v.links x.links h)

  link_right : (l : Hung) → Among l x.links → Among l w.links
  link_right l h = subst (λ (t : List Hung). Among l t) (sym d.links) (among_right l v.links x.links h)

  give_left : (e : ℕ) → Among e v.gives → Among e w.gives
  give_left e h = subst (λ (t : List ℕ). Among e t) (sym d.gives) (among_left e v.gives x.gives h)

  give_right : (e : ℕ) → Among e x.gives → Among e w.gives
  give_right e h = subst (λ (t : List ℕ). Among e t) (sym d.gives) (among_right e v.gives x.gives h)

  link_on : (e : ℕ) (p : Place) → Named views e p → Named (set (set views id w) jd y) e p
  link_on e p (named j z a h) = elim (same_number j id) [
    | inl q ↦ named id w at_w (link_left (record { entry = e; place = p }) (subst (λ (g : View). Among (record { entry = e; place = p }) g.links) (sym (one_view views id v z at (subst (λ (g : ℕ). At views g z) q a))) h))
    | inr ne ↦ elim (same_number j jd) [
      | inl q ↦ named id w at_w (link_right (record { entry = e; place = p }) (subst (λ (g : View). Among (record { entry = e; place = p }) g.links) (sym (one_view views jd x z bt (subst (λ (g : ℕ). At views g z) q a))) h))
      | inr me ↦ named j z (at_rest j z ne me a) h
    ]
  ]

  give_on : (e : ℕ) → Released views e → Released (set (set views id w) jd y) e
  give_on e (released j z a h) = elim (same_number j id) [
    | inl q ↦ released id w at_w (give_left e (subst (λ (g : View). Among e g.gives) (sym (one_view views id v z at (subst (λ (g : ℕ). At views g z) q a))) h))
    | inr ne ↦ elim (same_number j jd) [
      | inl q ↦ released id w at_w (give_right e (subst (λ (g : View). Among e g.gives) (sym (one_view views jd x z bt (subst (λ (g : ℕ). At views g z) q a))) h))
      | inr me ↦ released j z (at_rest j z ne me a) h
    ]
  ]

  pub joins_seats : Seats n net gave states draw (set (set views id w) jd y)
  joins_seats = record {
    size = s.size;
    work = let a = s.work in let b = sums (λ (z : View). z.delivered) in let c = d.delivered in let e = ap (λ (g : View). g.delivered) d.spent in omega (arith, a, b, c, e);
    drawn = let a = s.drawn in let b = sums (λ (z : View). z.failed) in let c = d.failed in let e = ap (λ (g : View). g.failed) d.spent in let f = s.failed jd x bt in omega (arith, a, b, c, e, f);
    failed = λ j z a. elim (whose j z a) [
      | mine q k ↦ let b = s.failed id v at in let c = d.failed in let f = ap (λ (g : View). g.failed) k in omega (arith, b, c, f)
      | gone q k ↦ let e = ap (λ (g : View). g.failed) d.spent in let f = ap (λ (g : View). g.failed) k in omega (arith, e, f)
      | another ne me b ↦ s.failed j z b
    ];
    seats = λ z a. elim (whose 0 z a) [
      | mine q k ↦
          let b = s.seats v (subst (λ (g : ℕ). At views g v) (sym q) at) in let c = d.splits in let f = ap (λ (g : View). g.splits) k in
          let g = length_set views id w in let h = length_set (set views id w) jd y in
          omega (arith, b, c, f, g, h)
      | gone q k ↦ absurd (not_first (sym q))
      | another ne me b ↦ let c = s.seats z b in let g = length_set views id w in let h = length_set (set views id w) jd y in omega (arith, c, g, h)
    ];
    parts = let a = s.parts in let b = sums (λ (z : View). z.parts) in let c = d.parts in let e = ap (λ (g : View). g.parts) d.spent in omega (arith, a, b, c, e);
    spent = λ j z a p. elim (whose j z a) [
      | mine q k ↦ let b = d.live in let c = d.parts in let f = ap (λ (g : View). g.parts) k in absurd (omega (arith, b, c, f, p))
      | gone q k ↦ (ap (λ (g : View). g.held) (sym k ∙ d.spent), ap (λ (g : View). g.half) (sym k ∙ d.spent), ap (λ (g : View). g.owned) (sym k ∙ d.spent))
      | another ne me b ↦ s.spent j z b p
    ];
    main_drawn = s.main_drawn;
    hung_drawn = s.hung_drawn;
    gave_drawn = s.gave_drawn;
    owned_drawn = λ j z a e h. elim (whose j z a) [
      | mine q k ↦ elim (own e (subst (λ (g : View). Among e g.owned) (sym k) h)) [ had_first o ↦ s.owned_drawn id v at e o | had_second o ↦ s.owned_drawn jd x bt e o ]
      | gone q k ↦ absurd (none_owned z k e h)
      | another ne me b ↦ s.owned_drawn j z b e h
    ];
    one_owner = λ i j t z a b e h k. sole i j t z (whose i t a) (whose j z b) e h k;
    own_link = λ j z a e h p. elim (whose j z a) [
      | mine q k ↦ subst (λ (g : View). Among (record { entry = e; place = net.place e }) g.links) k (elim (own e (subst (λ (g : View). Among e g.owned) (sym k) h)) [
        | had_first o ↦ link_left (record { entry = e; place = net.place e }) (s.own_link id v at e o p)
        | had_second o ↦ link_right (record { entry = e; place = net.place e }) (s.own_link jd x bt e o p)
      ])
      | gone q k ↦ absurd (none_owned z k e h)
      | another ne me b ↦ s.own_link j z b e h p
    ];
    own_children = λ j z a p h e o u. elim (whose j z a) [
      | mine q k ↦ subst (λ (g : View). Among (record { entry = e; place = net.place e }) g.links) k (elim (own p (subst (λ (g : View). Among p g.owned) (sym k) h)) [
        | had_first f ↦ link_left (record { entry = e; place = net.place e }) (s.own_children id v at p f e o u)
        | had_second f ↦ link_right (record { entry = e; place = net.place e }) (s.own_children jd x bt p f e o u)
      ])
      | gone q k ↦ absurd (none_owned z k p h)
      | another ne me b ↦ s.own_children j z b p h e o u
    ];
    own_give = λ j z a e h g. elim (whose j z a) [
      | mine q k ↦ subst (λ (t : View). Among e t.gives) k (elim (own e (subst (λ (t : View). Among e t.owned) (sym k) h)) [
        | had_first o ↦ give_left e (s.own_give id v at e o g)
        | had_second o ↦ give_right e (s.own_give jd x bt e o g)
      ])
      | gone q k ↦ absurd (none_owned z k e h)
      | another ne me b ↦ s.own_give j z b e h g
    ];
    seen = λ j z a t h. elim (whose j z a) [
      | mine q k ↦ elim (among_append t v.seen x.seen (subst (λ (l : List Seen). Among t l) (ap (λ (g : View). g.seen) (sym k) ∙ d.seen) h)) [ inl o ↦ s.seen id v at t o | inr o ↦ s.seen jd x bt t o ]
      | gone q k ↦ absurd (among_none t (subst (λ (l : List Seen). Among t l) (ap (λ (g : View). g.seen) (sym k ∙ d.spent)) h))
      | another ne me b ↦ s.seen j z b t h
    ];
    link_named = λ e h. link_on e (net.place e) (s.link_named e h);
    named_link = λ j z a l h. elim (whose j z a) [
      | mine q k ↦ elim (among_append l v.links x.links (subst (λ (t : List Hung). Among l t) (ap (λ (g : View). g.links) (sym k) ∙ d.links) h)) [ inl o ↦ s.named_link id v at l o | inr o ↦ s.named_link jd x bt l o ]
      | gone q k ↦ absurd (among_none l (subst (λ (t : List Hung). Among l t) (ap (λ (g : View). g.links) (sym k ∙ d.spent)) h))
      | another ne me b ↦ s.named_link j z b l h
    ];
    give_named = λ e g. give_on e (s.give_named e g);
    named_give = λ j z a e h. elim (whose j z a) [
      | mine q k ↦ elim (among_append e v.gives x.gives (subst (λ (t : List ℕ). Among e t) (ap (λ (g : View). g.gives) (sym k) ∙ d.gives) h)) [ inl o ↦ s.named_give id v at e o | inr o ↦ s.named_give jd x bt e o ]
      | gone q k ↦ absurd (among_none e (subst (λ (t : List ℕ). Among e t) (ap (λ (g : View). g.gives) (sym k ∙ d.spent)) h))
      | another ne me b ↦ s.named_give j z b e h
    ];
  }
