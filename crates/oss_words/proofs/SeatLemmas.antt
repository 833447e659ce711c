-- What the views say of seats, entries and what has happened, after a step of one seat.
use Rattle.std.proofs.Common.{◌≡◌, ◌≢◌, ◌⊎◌, inl, inr, sym, subst, refl, ◌∙◌, ap, ℕ, zero, suc, ◌<◌, ◌≤◌, ◌+◌, ◌*◌, arith, Bool, true, false, not, ◌&&◌, List, [], ◌∷◌, ◌++◌, length, set}
use mathlib.Core.Option as maybe
use mathlib.Core.Option.{some-ne-none}
use lib.ListN.{get_elem?}
use Rattle.atomic_table.proofs.Lists.{at_set}
use Rattle.oss_words.specs.declared.message.Message.{Message}
use Rattle.oss_words.specs.declared.entry.EntryState.{EntryState}
use Rattle.oss_words.specs.Sums.{total, below}
use Rattle.oss_words.specs.Net.{Net, Place, apart}
use Rattle.oss_words.specs.Causes.{part, got, starts_open, starts_clear}
use Rattle.oss_words.specs.Grown.{Grown}
use Rattle.oss_words.specs.Seats.{Seats, came}
use Rattle.oss_words.specs.Views.{View, Hung, Seen, Among, among_first, among_later, At, Named, named, Released, released}
use Rattle.oss_words.proofs.SumLemmas.{total_append, total_set, same_number}
use Rattle.oss_words.proofs.KeptLaw.{at_here, at_other}
use Rattle.oss_words.proofs.StillLemmas.{grown_on}

-- a sum is at least another one, where each part is
pub below_more : (f g : ℕ → ℕ) → ((j : ℕ) → f j ≤ g j) → (n : ℕ) → below f n ≤ below g n
below_more f g h zero = omega arith
below_more f g h (suc n) = let a = below_more f g h n in let b = h n in omega (arith, a, b)

part_more : (b c : Bool) (y f : ℕ) → (b ≡ true → c ≡ true) → total (λ (m : Message). 1) (part b y f) ≤ total (λ (m : Message). 1) (part c y f)
part_more true true y f h = omega arith
part_more true false y f h = absurd (let z = h refl in cc)
part_more false c y f h = omega arith

both_more : (a b c d : Bool) → (a ≡ true → c ≡ true) → (b ≡ true → d ≡ true) → (a && b) ≡ true → (c && d) ≡ true
both_more true true c d h k e = go c d (h refl) (k refl)
  where
    go : (c d : Bool) → c ≡ true → d ≡ true → (c && d) ≡ true
    go true d p q = q
    go false d p q = absurd (cc)
both_more true false c d h k e = absurd (cc)
both_more false b c d h k e = absurd (cc)

-- more flags, more messages that came
pub got_more : (p : Place) (e : ℕ) (a c : EntryState) → Grown a c → total (λ (m : Message). 1) (got p e a) ≤ total (λ (m : Message). 1) (got p e c)
got_more p e a c g =
    let m0 = total_append (λ (m : Message). 1) (part (a.done && a.headed) e 1) ((part (a.folds && not (starts_open p)) e 2 ++ (part (a.reads && not (starts_open p)) e 3 ++ (part (a.writes && not (starts_open p)) e 4 ++ (part (a.clear && not (starts_clear p)) e 5 ++ part (a.given && a.left) e 0))))) in
    let m1 = total_append (λ (m : Message). 1) (part (a.folds && not (starts_open p)) e 2) ((part (a.reads && not (starts_open p)) e 3 ++ (part (a.writes && not (starts_open p)) e 4 ++ (part (a.clear && not (starts_clear p)) e 5 ++ part (a.given && a.left) e 0)))) in
    let m2 = total_append (λ (m : Message). 1) (part (a.reads && not (starts_open p)) e 3) ((part (a.writes && not (starts_open p)) e 4 ++ (part (a.clear && not (starts_clear p)) e 5 ++ part (a.given && a.left) e 0))) in
    let m3 = total_append (λ (m : Message). 1) (part (a.writes && not (starts_open p)) e 4) ((part (a.clear && not (starts_clear p)) e 5 ++ part (a.given && a.left) e 0)) in
    let m4 = total_append (λ (m : Message). 1) (part (a.clear && not (starts_clear p)) e 5) (part (a.given && a.left) e 0) in
    let n0 = total_append (λ (m : Message). 1) (part (c.done && c.headed) e 1) ((part (c.folds && not (starts_open p)) e 2 ++ (part (c.reads && not (starts_open p)) e 3 ++ (part (c.writes && not (starts_open p)) e 4 ++ (part (c.clear && not (starts_clear p)) e 5 ++ part (c.given && c.left) e 0))))) in
    let n1 = total_append (λ (m : Message). 1) (part (c.folds && not (starts_open p)) e 2) ((part (c.reads && not (starts_open p)) e 3 ++ (part (c.writes && not (starts_open p)) e 4 ++ (part (c.clear && not (starts_clear p)) e 5 ++ part (c.given && c.left) e 0)))) in
    let n2 = total_append (λ (m : Message). 1) (part (c.reads && not (starts_open p)) e 3) ((part (c.writes && not (starts_open p)) e 4 ++ (part (c.clear && not (starts_clear p)) e 5 ++ part (c.given && c.left) e 0))) in
    let n3 = total_append (λ (m : Message). 1) (part (c.writes && not (starts_open p)) e 4) ((part (c.clear && not (starts_clear p)) e 5 ++ part (c.given && c.left) e 0)) in
    let n4 = total_append (λ (m : Message). 1) (part (c.clear && not (starts_clear p)) e 5) (part (c.given && c.left) e 0) in
    let x0 = part_more (a.done && a.headed) (c.done && c.headed) e 1 (both_more a.done a.headed c.done c.headed g.done g.headed) in
    let x1 = part_more (a.folds && not (starts_open p)) (c.folds && not (starts_open p)) e 2 (both_more a.folds (not (starts_open p)) c.folds (not (starts_open p)) g.folds (λ z. z)) in
    let x2 = part_more (a.reads && not (starts_open p)) (c.reads && not (starts_open p)) e 3 (both_more a.reads (not (starts_open p)) c.reads (not (starts_open p)) g.reads (λ z. z)) in
    let x3 = part_more (a.writes && not (starts_open p)) (c.writes && not (starts_open p)) e 4 (both_more a.writes (not (starts_open p)) c.writes (not (starts_open p)) g.writes (λ z. z)) in
    let x4 = part_more (a.clear && not (starts_clear p)) (c.clear && not (starts_clear p)) e 5 (both_more a.clear (not (starts_clear p)) c.clear (not (starts_clear p)) g.clear (λ z. z)) in
    let x5 = part_more (a.given && a.left) (c.given && c.left) e 0 (both_more a.given a.left c.given c.left g.given g.left) in
    omega (arith, m0, m1, m2, m3, m4, n0, n1, n2, n3, n4, x0, x1, x2, x3, x4, x5)

pub came_more : (n : ℕ) (place : ℕ → Place) (states states' : ℕ → EntryState) → ((j : ℕ) → Grown (states j) (states' j)) → came n place states ≤ came n place states'
came_more n place states states' g = below_more (λ e. total (λ (m : Message). 1) (got (place e) e (states e))) (λ e. total (λ (m : Message). 1) (got (place e) e (states' e))) (λ j. got_more (place j) j (states j) (states' j) (g j)) n

pub among_none : {A B : Type 0} (x : A) → Among x [] → B
among_none x h = elim h [ ]

pub among_left : {A : Type 0} (x : A) (xs ys : List A) → Among x xs → Among x (xs ++ ys)
among_left x [] ys h = among_none x h
among_left x (y ∷ xs) ys (among_first q) = among_first q
among_left x (y ∷ xs) ys (among_later h) = among_later (among_left x xs ys h)

pub among_right : {A : Type 0} (x : A) (xs ys : List A) → Among x ys → Among x (xs ++ ys)
among_right x [] ys h = h
among_right x (y ∷ xs) ys h = among_later (among_right x xs ys h)

pub among_append : {A : Type 0} (x : A) (xs ys : List A) → Among x (xs ++ ys) → Among x xs ⊎ Among x ys
among_append x [] ys h = inr h
among_append x (y ∷ xs) ys (among_first q) = inl (among_first q)
among_append x (y ∷ xs) ys (among_later h) = elim (among_append x xs ys h) [ inl k ↦ inl (among_later k) | inr k ↦ inr k ]

pub length_set : {A : Type 0} (l : List A) (i : ℕ) (w : A) → length (set l i w) ≡ length l
length_set [] i w = refl
length_set (x ∷ l) zero w = refl
length_set (x ∷ l) (suc i) w = ap (λ z. suc z) (length_set l i w)

-- what a step of one seat does, as far as these parts go
pub record SeatStep (n : ℕ) (net net' : Net) (gave gave' : ℕ → Bool) (states states' : ℕ → EntryState) (v w : View) : Type 0 where
  pub live : v.parts ≢ 0
  pub grown : (j : ℕ) → Grown (states j) (states' j)
  pub work : w.delivered + came n net.place states ≤ v.delivered + came n net'.place states'
  pub place_old : (e : ℕ) → net.place e ≢ apart → net'.place e ≡ net.place e
  pub parent_old : (e : ℕ) → net.place e ≢ apart → net'.parent e ≡ net.parent e
  pub place_new : (e : ℕ) → net'.place e ≢ apart → (net.place e ≢ apart) ⊎ (Among (record { entry = e; place = net'.place e }) w.links × Among e v.owned × Among (net'.parent e) v.owned)
  pub links_on : (l : Hung) → Among l v.links → Among l w.links
  pub links_new : (l : Hung) → Among l w.links → Among l v.links ⊎ ((net'.place l.entry ≡ l.place) × (l.place ≢ apart))
  pub gave_old : (e : ℕ) → gave e ≡ true → gave' e ≡ true
  pub gave_new : (e : ℕ) → gave' e ≡ true → (gave e ≡ true) ⊎ (Among e w.gives × Among e v.owned)
  pub gives_on : (e : ℕ) → Among e v.gives → Among e w.gives
  pub gives_new : (e : ℕ) → Among e w.gives → Among e v.gives ⊎ (gave' e ≡ true)
  pub seen_new : (s : Seen) → Among s w.seen → Among s v.seen ⊎ Grown s.state (states' s.entry)
  pub owned : w.owned ≡ v.owned
  pub parts : w.parts ≡ v.parts
  pub splits : w.splits ≡ v.splits
  pub failed : w.failed ≡ v.failed

module _ (n : ℕ) (net net' : Net) (gave gave' : ℕ → Bool) (states states' : ℕ → EntryState) (draw : ℕ) (views : List View) (id : ℕ) (v w : View)
    (s : Seats n net gave states draw views) (at : At views id v) (d : SeatStep n net net' gave gave' states states' v w) where
  -- the seat of a view after the step: the one that stepped, or another one
  data Whose (j : ℕ) (y : View) : Type 0 where
    mine : j ≡ id → w ≡ y → Whose j y
    another : j ≢ id → At views j y → Whose j y

  whose : (j : ℕ) (y : View) → At (set views id w) j y → Whose j y
  whose j y a = elim (at_set views id j w y a) [ inl q ↦ mine q.0 q.1 | inr q ↦ another q.0 q.1 ]

  link_on : (e : ℕ) (p : Place) → Named views e p → Named (set views id w) e p
  link_on e p (named j y a h) = elim (same_number j id) [
    | inl q ↦ named id w (at_here views id v w at) (d.links_on (record { entry = e; place = p }) (subst (λ (z : View). Among (record { entry = e; place = p }) z.links) (sym (one_view (subst (λ (x : ℕ). At views x y) q a))) h))
    | inr ne ↦ named j y (at_other views id j w y ne a) h
  ]
    where
      one_view : At views id y → v ≡ y
      one_view b = let z : maybe.some v ≡ maybe.some y = sym at ∙ b in cc

  give_on : (e : ℕ) → Released views e → Released (set views id w) e
  give_on e (released j y a h) = elim (same_number j id) [
    | inl q ↦ released id w (at_here views id v w at) (d.gives_on e (subst (λ (z : View). Among e z.gives) (sym (one_view (subst (λ (x : ℕ). At views x y) q a))) h))
    | inr ne ↦ released j y (at_other views id j w y ne a) h
  ]
    where
      one_view : At views id y → v ≡ y
      one_view b = let z : maybe.some v ≡ maybe.some y = sym at ∙ b in cc

  owned_back : (j : ℕ) (y : View) → At (set views id w) j y → (e : ℕ) → Among e y.owned → (z : View) × At views j z × Among e z.owned
  owned_back j y a e h = elim (whose j y a) [
    | mine q k ↦ (v, subst (λ (x : ℕ). At views x v) (sym q) at, subst (λ (l : List ℕ). Among e l) (ap (λ (x : View). x.owned) (sym k) ∙ d.owned) h)
    | another ne b ↦ (y, b, h)
  ]

  pub seats_step : Seats n net' gave' states' draw (set views id w)
  seats_step = record {
    size = s.size;
    work =
        let a = s.work in
        let b = total_set (λ (x : View). x.delivered) views id v w at in
        let c = d.work in
        omega (arith, a, b, c);
    drawn =
        let a = s.drawn in
        let b = total_set (λ (x : View). x.failed) views id v w at in
        let c = d.failed in
        omega (arith, a, b, c);
    failed = λ j y a. elim (whose j y a) [
      | mine q k ↦ let b = s.failed id v at in let c = d.failed in let f = ap (λ (x : View). x.failed) k in omega (arith, b, c, f)
      | another ne b ↦ s.failed j y b
    ];
    seats = λ y a. elim (whose 0 y a) [
      | mine q k ↦
          let b = s.seats v (subst (λ (x : ℕ). At views x v) (sym q) at) in
          let c = d.splits in let f = ap (λ (x : View). x.splits) k in let g = length_set views id w in
          omega (arith, b, c, f, g)
      | another ne b ↦ let c = s.seats y b in let g = length_set views id w in omega (arith, c, g)
    ];
    parts =
        let a = s.parts in
        let b = total_set (λ (x : View). x.parts) views id v w at in
        let c = d.parts in
        omega (arith, a, b, c);
    spent = λ j y a z. elim (whose j y a) [
      | mine q k ↦ absurd (d.live (sym d.parts ∙ ap (λ (x : View). x.parts) k ∙ z))
      | another ne b ↦ s.spent j y b z
    ];
    main_drawn = s.main_drawn;
    hung_drawn = λ e h. elim (d.place_new e h) [
      | inl k ↦ s.hung_drawn e k
      | inr k ↦ (s.owned_drawn id v at e k.1).0
    ];
    gave_drawn = λ e g. elim (d.gave_new e g) [ inl f ↦ s.gave_drawn e f | inr f ↦ (s.owned_drawn id v at e f.1).0 ];
    owned_drawn = λ j y a e h. let z = owned_back j y a e h in s.owned_drawn j z.0 z.1 e z.2;
    one_owner = λ i j y z a b e h k. let f = owned_back i y a e h in let g = owned_back j z b e k in s.one_owner i j f.0 g.0 f.1 g.1 e f.2 g.2;
    own_link = λ j y a e h p. elim (whose j y a) [
      | mine q k ↦
          let h' : Among e v.owned = subst (λ (l : List ℕ). Among e l) (ap (λ (x : View). x.owned) (sym k) ∙ d.owned) h in
          subst (λ (x : View). Among (record { entry = e; place = net'.place e }) x.links) k (elim (d.place_new e p) [
            | inl o ↦ d.links_on (record { entry = e; place = net'.place e }) (subst (λ (x : Place). Among (record { entry = e; place = x }) v.links) (sym (d.place_old e o)) (s.own_link id v at e h' o))
            | inr o ↦ o.0
          ])
      | another ne b ↦ elim (d.place_new e p) [
        | inl o ↦ subst (λ (x : Place). Among (record { entry = e; place = x }) y.links) (sym (d.place_old e o)) (s.own_link j y b e h o)
        | inr o ↦ absurd (ne (s.one_owner j id y v b at e h o.1))
      ]
    ];
    own_children = λ j y a p h e o u. elim (whose j y a) [
      | mine q k ↦
          let h' : Among p v.owned = subst (λ (l : List ℕ). Among p l) (ap (λ (x : View). x.owned) (sym k) ∙ d.owned) h in
          subst (λ (x : View). Among (record { entry = e; place = net'.place e }) x.links) k (elim (d.place_new e o) [
            | inl f ↦ d.links_on (record { entry = e; place = net'.place e }) (subst (λ (x : Place). Among (record { entry = e; place = x }) v.links) (sym (d.place_old e f)) (s.own_children id v at p h' e f (sym (d.parent_old e f) ∙ u)))
            | inr f ↦ f.0
          ])
      | another ne b ↦ elim (d.place_new e o) [
        | inl f ↦ subst (λ (x : Place). Among (record { entry = e; place = x }) y.links) (sym (d.place_old e f)) (s.own_children j y b p h e f (sym (d.parent_old e f) ∙ u))
        | inr f ↦ absurd (ne (s.one_owner j id y v b at p h (subst (λ (x : ℕ). Among x v.owned) u f.2)))
      ]
    ];
    own_give = λ j y a e h g. elim (whose j y a) [
      | mine q k ↦
          let h' : Among e v.owned = subst (λ (l : List ℕ). Among e l) (ap (λ (x : View). x.owned) (sym k) ∙ d.owned) h in
          subst (λ (x : View). Among e x.gives) k (elim (d.gave_new e g) [ inl f ↦ d.gives_on e (s.own_give id v at e h' f) | inr f ↦ f.0 ])
      | another ne b ↦ elim (d.gave_new e g) [
        | inl f ↦ s.own_give j y b e h f
        | inr f ↦ absurd (ne (s.one_owner j id y v b at e h f.1))
      ]
    ];
    seen = λ j y a x h. elim (whose j y a) [
      | mine q k ↦ elim (d.seen_new x (subst (λ (z : View). Among x z.seen) (sym k) h)) [
        | inl f ↦ grown_on x.state (states x.entry) (states' x.entry) (s.seen id v at x f) (d.grown x.entry)
        | inr f ↦ f
      ]
      | another ne b ↦ grown_on x.state (states x.entry) (states' x.entry) (s.seen j y b x h) (d.grown x.entry)
    ];
    link_named = λ e h. elim (d.place_new e h) [
      | inl o ↦ subst (λ (x : Place). Named (set views id w) e x) (sym (d.place_old e o)) (link_on e (net.place e) (s.link_named e o))
      | inr o ↦ named id w (at_here views id v w at) o.0
    ];
    named_link = λ j y a l h. elim (whose j y a) [
      | mine q k ↦ elim (d.links_new l (subst (λ (z : View). Among l z.links) (sym k) h)) [
        | inl f ↦ old_link id v at l f
        | inr f ↦ f
      ]
      | another ne b ↦ old_link j y b l h
    ];
    give_named = λ e g. elim (d.gave_new e g) [
      | inl f ↦ give_on e (s.give_named e f)
      | inr f ↦ released id w (at_here views id v w at) f.0
    ];
    named_give = λ j y a e h. elim (whose j y a) [
      | mine q k ↦ elim (d.gives_new e (subst (λ (z : View). Among e z.gives) (sym k) h)) [
        | inl f ↦ d.gave_old e (s.named_give id v at e f)
        | inr f ↦ f
      ]
      | another ne b ↦ d.gave_old e (s.named_give j y b e h)
    ];
  }
    where
      old_link : (j : ℕ) (y : View) → At views j y → (l : Hung) → Among l y.links → (net'.place l.entry ≡ l.place) × (l.place ≢ apart)
      old_link j y b l h =
          let f = s.named_link j y b l h in
          (d.place_old l.entry (λ z. f.1 (sym f.0 ∙ z)) ∙ f.0, f.1)
