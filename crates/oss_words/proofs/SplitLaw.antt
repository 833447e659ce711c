-- What the views say of seats and entries, after the first seat is split.
use Rattle.std.proofs.Common.{◌≡◌, ◌≢◌, ◌⊎◌, inl, inr, sym, subst, refl, ◌∙◌, ap, ℕ, zero, suc, ◌<◌, ◌≤◌, ◌+◌, ◌*◌, arith, Bool, true, List, [], ◌∷◌, ◌++◌, length, set}
use mathlib.Core.Option as maybe
use mathlib.Core.Option.{some-injective, some-ne-none}
use lib.ListN.{get_elem?}
use Rattle.atomic_table.proofs.Lists.{at_set}
use Rattle.oss_words.specs.declared.entry.EntryState.{EntryState}
use Rattle.oss_words.specs.Sums.{total}
use Rattle.oss_words.specs.Net.{Net, Shaped, Place, apart}
use Rattle.oss_words.specs.Seats.{Seats}
use Rattle.oss_words.specs.SeatSteps.{Draws, Drawing, enough, too_few, numbers, Splits, Joins}
use Rattle.oss_words.specs.Views.{View, Hung, Seen, Among, among_first, among_later, At, Named, named, Released, released}
use Rattle.oss_words.proofs.SumLemmas.{total_append, total_set, same_number}
use Rattle.oss_words.proofs.KeptLaw.{at_here, at_other}
use Rattle.oss_words.proofs.DrawLaw.{one_view}
use Rattle.oss_words.proofs.SeatLemmas.{among_none, among_left, among_right, among_append, length_set}

pub at_front : (l : List View) (w : View) (j : ℕ) (y : View) → At l j y → At (l ++ w ∷ []) j y
at_front [] w j y e = absurd (some-ne-none y (sym e))
at_front (x ∷ l) w zero y e = e
at_front (x ∷ l) w (suc j) y e = at_front l w j y e

pub at_back : (l : List View) (w : View) → At (l ++ w ∷ []) (length l) w
at_back [] w = refl
at_back (x ∷ l) w = at_back l w

pub at_end : (l : List View) (w : View) (j : ℕ) (y : View) → At (l ++ w ∷ []) j y → At l j y ⊎ ((j ≡ length l) × (w ≡ y))
at_end [] w zero y e = inr (refl, some-injective w y e)
at_end [] w (suc j) y e = absurd (some-ne-none y (sym e))
at_end (x ∷ l) w zero y e = inl e
at_end (x ∷ l) w (suc j) y e = elim (at_end l w j y e) [ inl k ↦ inl k | inr k ↦ inr (ap (λ z. suc z) k.0, k.1) ]

-- the first seat is split
module _ (n : ℕ) (net : Net) (gave : ℕ → Bool) (states : ℕ → EntryState) (draw : ℕ) (views : List View) (v w x : View)
    (s : Seats n net gave states draw views) (at : At views 0 v) (d : Splits v w x) where
  data Whose (j : ℕ) (y : View) : Type 0 where
    mine : j ≡ 0 → w ≡ y → Whose j y
    another : j ≢ 0 → At views j y → Whose j y
    newest : j ≡ length views → x ≡ y → Whose j y

  whose : (j : ℕ) (y : View) → At (set views 0 w ++ x ∷ []) j y → Whose j y
  whose j y a = elim (at_end (set views 0 w) x j y a) [
    | inl b ↦ elim (at_set views 0 j w y b) [ inl q ↦ mine q.0 q.1 | inr q ↦ another q.0 q.1 ]
    | inr b ↦ newest (b.0 ∙ length_set views 0 w) b.1
  ]

  -- who knew and owned this before: the first seat for the new one
  owner : (j : ℕ) (y : View) → At (set views 0 w ++ x ∷ []) j y → (i : ℕ) × (z : View) × At views i z × ((e : ℕ) → Among e y.owned → Among e z.owned) × (z.links ≡ y.links) × (z.gives ≡ y.gives) × (z.seen ≡ y.seen)
  owner j y a = elim (whose j y a) [
    | mine q k ↦ (0, v, at, (λ e h. d.stay e (subst (λ (g : View). Among e g.owned) (sym k) h)), sym d.links ∙ ap (λ (g : View). g.links) k, sym d.gives ∙ ap (λ (g : View). g.gives) k, sym d.seen ∙ ap (λ (g : View). g.seen) k)
    | another ne b ↦ (j, y, b, (λ e h. h), refl, refl, refl)
    | newest q k ↦ (0, v, at, (λ e h. d.hand e (subst (λ (g : View). Among e g.owned) (sym k) h)), sym d.new_links ∙ ap (λ (g : View). g.links) k, sym d.new_gives ∙ ap (λ (g : View). g.gives) k, sym d.new_seen ∙ ap (λ (g : View). g.seen) k)
  ]

  some_seat : 0 < length views
  some_seat = let a = s.seats v at in omega (arith, a)

  sole : (i j : ℕ) (y z : View) → Whose i y → Whose j z → (e : ℕ) → Among e y.owned → Among e z.owned → i ≡ j
  sole i j y z (mine p f) (mine q g) e h k = p ∙ sym q
  sole i j y z (newest p f) (newest q g) e h k = p ∙ sym q
  sole i j y z (another p f) (another q g) e h k = s.one_owner i j y z f g e h k
  sole i j y z (mine p f) (newest q g) e h k = absurd (d.apart_own e (subst (λ (t : View). Among e t.owned) (sym f) h) (subst (λ (t : View). Among e t.owned) (sym g) k))
  sole i j y z (newest p f) (mine q g) e h k = absurd (d.apart_own e (subst (λ (t : View). Among e t.owned) (sym g) k) (subst (λ (t : View). Among e t.owned) (sym f) h))
  sole i j y z (mine p f) (another q g) e h k = absurd (q (s.one_owner j 0 z v g at e k (d.stay e (subst (λ (t : View). Among e t.owned) (sym f) h))))
  sole i j y z (newest p f) (another q g) e h k = absurd (q (s.one_owner j 0 z v g at e k (d.hand e (subst (λ (t : View). Among e t.owned) (sym f) h))))
  sole i j y z (another p f) (mine q g) e h k = absurd (p (s.one_owner i 0 y v f at e h (d.stay e (subst (λ (t : View). Among e t.owned) (sym g) k))))
  sole i j y z (another p f) (newest q g) e h k = absurd (p (s.one_owner i 0 y v f at e h (d.hand e (subst (λ (t : View). Among e t.owned) (sym g) k))))

  sums : (f : View → ℕ) → total f (set views 0 w ++ x ∷ []) + f v ≡ total f views + f w + f x
  sums f = let a = total_set f views 0 v w at in let b = total_append f (set views 0 w) (x ∷ []) in omega (arith, a, b)

  pub splits_seats : Seats n net gave states draw (set views 0 w ++ x ∷ [])
  splits_seats = record {
    size = s.size;
    work = let a = s.work in let b = sums (λ (y : View). y.delivered) in let c = d.delivered in let e = d.new_delivered in omega (arith, a, b, c, e);
    drawn = let a = s.drawn in let b = sums (λ (y : View). y.failed) in let c = d.failed in omega (arith, a, b, c);
    failed = λ j y a. elim (whose j y a) [
      | mine q k ↦ let b = s.failed 0 v at in let c = d.failed in let f = ap (λ (g : View). g.failed) k in omega (arith, b, c, f)
      | another ne b ↦ s.failed j y b
      | newest q k ↦ let c = d.new_failed in let f = ap (λ (g : View). g.failed) k in omega (arith, c, f)
    ];
    seats = λ y a. elim (whose 0 y a) [
      | mine q k ↦
          let b = s.seats v at in let c = d.splits in let f = ap (λ (g : View). g.splits) k in let g = length_set views 0 w in
          let h = length_end (set views 0 w) x in
          omega (arith, b, c, f, g, h)
      | another ne b ↦ absurd (ne refl)
      | newest q k ↦ let b = some_seat in absurd (omega (arith, b, q))
    ];
    parts = let a = s.parts in let b = sums (λ (y : View). y.parts) in let c = d.parts in let e = d.new_parts in omega (arith, a, b, c, e);
    spent = λ j y a z. elim (whose j y a) [
      | mine q k ↦ let b = d.more in let c = d.parts in let f = ap (λ (g : View). g.parts) k in absurd (omega (arith, b, c, f, z))
      | another ne b ↦ s.spent j y b z
      | newest q k ↦ let c = d.new_parts in let f = ap (λ (g : View). g.parts) k in absurd (omega (arith, c, f, z))
    ];
    main_drawn = s.main_drawn;
    hung_drawn = s.hung_drawn;
    gave_drawn = s.gave_drawn;
    owned_drawn = λ j y a e h. let o = owner j y a in s.owned_drawn o.0 o.1 o.2 e (o.3 e h);
    one_owner = λ i j y z a b e h k. sole i j y z (whose i y a) (whose j z b) e h k;
    own_link = λ j y a e h p. let o = owner j y a in subst (λ (l : List Hung). Among (record { entry = e; place = net.place e }) l) o.4 (s.own_link o.0 o.1 o.2 e (o.3 e h) p);
    own_children = λ j y a p h e g u. let o = owner j y a in subst (λ (l : List Hung). Among (record { entry = e; place = net.place e }) l) o.4 (s.own_children o.0 o.1 o.2 p (o.3 p h) e g u);
    own_give = λ j y a e h g. let o = owner j y a in subst (λ (l : List ℕ). Among e l) o.5 (s.own_give o.0 o.1 o.2 e (o.3 e h) g);
    seen = λ j y a t h. let o = owner j y a in s.seen o.0 o.1 o.2 t (subst (λ (l : List Seen). Among t l) (sym o.6) h);
    link_named = λ e h. link_on e (net.place e) (s.link_named e h);
    named_link = λ j y a l h. let o = owner j y a in s.named_link o.0 o.1 o.2 l (subst (λ (t : List Hung). Among l t) (sym o.4) h);
    give_named = λ e g. give_on e (s.give_named e g);
    named_give = λ j y a e h. let o = owner j y a in s.named_give o.0 o.1 o.2 e (subst (λ (t : List ℕ). Among e t) (sym o.5) h);
  }
    where
      length_end : (l : List View) (y : View) → length (l ++ y ∷ []) ≡ 1 + length l
      length_end [] y = refl
      length_end (z ∷ l) y = let r = length_end l y in omega (arith, r)

      link_on : (e : ℕ) (p : Place) → Named views e p → Named (set views 0 w ++ x ∷ []) e p
      link_on e p (named j y a h) = elim (same_number j 0) [
        | inl q ↦ named 0 w (at_front (set views 0 w) x 0 w (at_here views 0 v w at)) (subst (λ (l : List Hung). Among (record { entry = e; place = p }) l) (ap (λ (g : View). g.links) (sym (one_view views 0 v y at (subst (λ (g : ℕ). At views g y) q a))) ∙ sym d.links) h)
        | inr ne ↦ named j y (at_front (set views 0 w) x j y (at_other views 0 j w y ne a)) h
      ]

      give_on : (e : ℕ) → Released views e → Released (set views 0 w ++ x ∷ []) e
      give_on e (released j y a h) = elim (same_number j 0) [
        | inl q ↦ released 0 w (at_front (set views 0 w) x 0 w (at_here views 0 v w at)) (subst (λ (l : List ℕ). Among e l) (ap (λ (g : View). g.gives) (sym (one_view views 0 v y at (subst (λ (g : ℕ). At views g y) q a))) ∙ sym d.gives) h)
        | inr ne ↦ released j y (at_front (set views 0 w) x j y (at_other views 0 j w y ne a)) h
      ]
