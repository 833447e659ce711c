-- Lists of events in point order.
use Rattle.std.proofs.Common.{◌≡◌, ℕ, ◌<◌, ◌⊎◌, inl, inr, refl, sym, subst, ap, ◌∙◌, List, [], ◌∷◌, ◌++◌, length, reverse, arith}
use Rattle.std.proofs.lemmas.List.{reverse-reverse}
use Rattle.oss_model.specs.Order.{IsSuffix, IsIn, here, there, IsBefore}
use Rattle.oss_model.specs.Bodies.{Program, stage_act}
use Rattle.oss_model.specs.Machine.{Task, State, At}
use Rattle.oss_model.specs.Memory.{Event, Happened, value_after, replay}
use Rattle.oss_model.proofs.Places.{place, IsEarlierPlace, IsPlaced}
use Rattle.oss_model.proofs.OrderLemmas.{before_trans, before_not, Compared, before, equal, after, compare, suffix_linear, suffix_full}
use Rattle.oss_model.proofs.TreeLemmas.{at_same}

pub event_trans : {S : Type 0} (P : Program S) (e f g : Event S) → IsEarlierPlace P e f → IsEarlierPlace P f g → IsEarlierPlace P e g
event_trans P e f g (inl h) (inl k) = inl (before_trans h k)
event_trans P e f g (inl h) (inr k) = inl (subst (λ (z : List ℕ). IsBefore (reverse (place P e)) (reverse z)) k.0 h)
event_trans P e f g (inr h) (inl k) = inl (subst (λ (z : List ℕ). IsBefore (reverse z) (reverse (place P g))) (sym h.0) k)
event_trans P e f g (inr h) (inr k) = let a = h.1 in let b = k.1 in inr (h.0 ∙ k.0, omega arith)

pub event_not : {S : Type 0} (P : Program S) (e g : Event S) → IsEarlierPlace P e g → IsEarlierPlace P g e → ⊥
event_not P e g h k = go (event_trans P e g e h k)
  where
    go : IsEarlierPlace P e e → ⊥
    go (inl a) = before_not a refl
    go (inr a) = let b = a.1 in omega arith

pub event_self : {S : Type 0} (P : Program S) (e g : Event S) → e ≡ g → IsEarlierPlace P e g → ⊥
event_self {S = S} P e g q h = event_not P e g h (subst (λ (z : Event S). IsEarlierPlace P g z) (sym q) (subst (λ (z : Event S). IsEarlierPlace P z g) q h))

pub reverse_same : (xs ys : List ℕ) → reverse xs ≡ reverse ys → xs ≡ ys
reverse_same xs ys h = sym (reverse-reverse xs) ∙ (ap reverse h ∙ reverse-reverse ys)

-- two done acts of one state are in order, or one
pub data Ordered {S : Type 0} (P : Program S) (e g : Event S) : Type 0 where
  first : IsEarlierPlace P e g → Ordered P e g
  same : e ≡ g → Ordered P e g
  last : IsEarlierPlace P g e → Ordered P e g

cons_parts : {x y : ℕ} {xs ys : List ℕ} → x ∷ xs ≡ y ∷ ys → (x ≡ y) × (xs ≡ ys)
cons_parts h = (cc, cc)

which : (m n : ℕ) → (m < n) ⊎ (m ≡ n) ⊎ (n < m)
which m n = grind arith

pub in_order_or_one : {S : Type 0} (P : Program S) (s : State S) (e g : Event S) → Happened s e → Happened s g → Ordered P e g
in_order_or_one {S = S} P s e g h k = go (compare (reverse (place P e)) (reverse (place P g)))
  where
    one : place P e ≡ place P g → (length e.past < length g.past) ⊎ (length e.past ≡ length g.past) ⊎ (length g.past < length e.past) → Ordered P e g
    one p (inl l) = first (inr (p, l))
    one p (inr (inr l)) = last (inr (sym p, l))
    one p (inr (inl l)) =
        let path : e.start.path ≡ g.start.path = cc (p) in
        let t : h.task ≡ k.task = at_same s g.start.path h.task k.task (subst (λ (z : List ℕ). At s z h.task) path h.at_) k.at_ in
        let f : IsSuffix (e.answer ∷ e.past) k.task.body.found = subst (λ (z : Task S). IsSuffix (e.answer ∷ e.past) z.body.found) t h.found in
        let q : e.answer ∷ e.past ≡ g.answer ∷ g.past = suffix_full (suffix_linear f k.found (omega arith)) (omega arith) in
        let start : e.start ≡ g.start = sym h.start ∙ (ap (λ (z : Task S). z.body.start) t ∙ k.start) in
        let parts = cons_parts q in
        same (λ i. record { start = start i; past = parts.1 i; answer = parts.0 i })

    go : Compared (reverse (place P e)) (reverse (place P g)) → Ordered P e g
    go (before h1) = first (inl h1)
    go (equal h1) = one (reverse_same (place P e) (place P g) h1) (which (length e.past) (length g.past))
    go (after h1) = last (inl h1)

-- two sorted lists with the same events are one list
pub sorted_one : {S : Type 0} (P : Program S) (xs ys : List (Event S)) → IsPlaced P xs → IsPlaced P ys → ((e : Event S) → IsIn e xs → IsIn e ys) → ((e : Event S) → IsIn e ys → IsIn e xs) → xs ≡ ys
sorted_one P [] [] a b f g = refl
sorted_one P [] (y ∷ ys) a b f g = elim (g y here) [ ]
sorted_one P (x ∷ xs) [] a b f g = elim (f x here) [ ]
sorted_one {S = S} P (x ∷ xs) (y ∷ ys) a b f g = join heads (sorted_one P xs ys a.1 b.1 (λ e h. tail_in e h (f e (there h))) (λ e h. tail_back e h (g e (there h))))
  where
    cases : {z w : Event S} {zs : List (Event S)} → IsIn z (w ∷ zs) → (z ≡ w) ⊎ IsIn z zs
    cases here = inl refl
    cases (there h) = inr h

    heads_from : (x ≡ y) ⊎ IsIn x ys → (y ≡ x) ⊎ IsIn y xs → x ≡ y
    heads_from (inl e) h = e
    heads_from (inr h) (inl e) = sym e
    heads_from (inr h) (inr k) = absurd (event_not P x y (a.0 y k) (b.0 x h))

    heads : x ≡ y
    heads = heads_from (cases (f x here)) (cases (g y here))

    tail_in : (e : Event S) → IsIn e xs → IsIn e (y ∷ ys) → IsIn e ys
    tail_in e h k = go (cases k)
      where
        go : (e ≡ y) ⊎ IsIn e ys → IsIn e ys
        go (inl q) = absurd (event_self P x e (heads ∙ sym q) (a.0 e h))
        go (inr q) = q

    tail_back : (e : Event S) → IsIn e ys → IsIn e (x ∷ xs) → IsIn e xs
    tail_back e h k = go (cases k)
      where
        go : (e ≡ x) ⊎ IsIn e xs → IsIn e xs
        go (inl q) = absurd (event_self P y e (sym heads ∙ sym q) (b.0 e h))
        go (inr q) = q

    join : x ≡ y → xs ≡ ys → x ∷ xs ≡ y ∷ ys
    join p q = λ i. p i ∷ q i

pub in_cases : {A : Type 0} {z w : A} {zs : List A} → IsIn z (w ∷ zs) → (z ≡ w) ⊎ IsIn z zs
in_cases here = inl refl
in_cases (there h) = inr h

-- the list with one more event at its place, whose change commutes with those of the later events
pub record Inserted {S : Type 0} (P : Program S) (e : Event S) (xs : List (Event S)) : Type 0 where
  pub list : List (Event S)
  pub sorted : IsPlaced P list
  pub only : (g : Event S) → IsIn g list → (g ≡ e) ⊎ IsIn g xs
  pub new : IsIn e list
  pub old : (g : Event S) → IsIn g xs → IsIn g list
  pub value : (w : ℕ) → replay P list w ≡ value_after (stage_act P e.start e.past) (replay P xs w)

abbrev pub Commutes : {S : Type 0} → Program S → Event S → Event S → Type 0
Commutes P e g = (w : ℕ) → value_after (stage_act P g.start g.past) (value_after (stage_act P e.start e.past) w) ≡ value_after (stage_act P e.start e.past) (value_after (stage_act P g.start g.past) w)

-- a change may be made after others with which it commutes
pub replay_past : {S : Type 0} (P : Program S) (e : Event S) (xs : List (Event S)) → ((g : Event S) → IsIn g xs → Commutes P e g) → (w : ℕ) → replay P xs (value_after (stage_act P e.start e.past) w) ≡ value_after (stage_act P e.start e.past) (replay P xs w)
replay_past P e [] c w = refl
replay_past P e (x ∷ xs) c w =
    ap (λ (z : ℕ). replay P xs z) (c x here w) ∙ replay_past P e xs (λ g h. c g (there h)) (value_after (stage_act P x.start x.past) w)

pub insert : {S : Type 0} (P : Program S) (e : Event S) (xs : List (Event S)) → IsPlaced P xs → ((g : Event S) → IsIn g xs → IsEarlierPlace P e g ⊎ IsEarlierPlace P g e) → ((g : Event S) → IsIn g xs → IsEarlierPlace P e g → Commutes P e g) → Inserted P e xs
insert P e [] sorted which_ commutes =
    record { list = e ∷ []; sorted = ((λ g h. elim h [ ]), tt); only = λ g h. only g h; new = here; old = λ g h. elim h [ ]; value = λ w. refl }
  where
    only : (g : Event _) → IsIn g (e ∷ []) → (g ≡ e) ⊎ IsIn g []
    only g h = in_cases h
insert {S = S} P e (x ∷ xs) sorted which_ commutes = go (which_ x here) (insert P e xs sorted.1 (λ g h. which_ g (there h)) (λ g h k. commutes g (there h) k))
  where
    all_later : IsEarlierPlace P e x → (g : Event S) → IsIn g (x ∷ xs) → IsEarlierPlace P e g
    all_later l g h = later (in_cases h)
      where
        later : (g ≡ x) ⊎ IsIn g xs → IsEarlierPlace P e g
        later (inl q) = subst (λ (z : Event S). IsEarlierPlace P e z) (sym q) l
        later (inr k) = event_trans P e x g l (sorted.0 g k)

    go : IsEarlierPlace P e x ⊎ IsEarlierPlace P x e → Inserted P e xs → Inserted P e (x ∷ xs)
    go (inl l) r =
        record {
          list = e ∷ x ∷ xs;
          sorted = (all_later l, sorted);
          only = λ g h. in_cases h;
          new = here;
          old = λ g h. there h;
          value = λ w. replay_past P e (x ∷ xs) (λ g h. commutes g h (all_later l g h)) w;
        }
    go (inr l) r =
        record {
          list = x ∷ r.list;
          sorted = ((λ g h. first_before g (r.only g h)), r.sorted);
          only = λ g h. only g (in_cases h);
          new = there r.new;
          old = λ g h. old g (in_cases h);
          value = λ w. r.value (value_after (stage_act P x.start x.past) w);
        }
      where
        first_before : (g : Event S) → (g ≡ e) ⊎ IsIn g xs → IsEarlierPlace P x g
        first_before g (inl q) = subst (λ (z : Event S). IsEarlierPlace P x z) (sym q) l
        first_before g (inr k) = sorted.0 g k

        only : (g : Event S) → (g ≡ x) ⊎ IsIn g r.list → (g ≡ e) ⊎ IsIn g (x ∷ xs)
        only g (inl q) = inr (subst (λ (z : Event S). IsIn g (z ∷ xs)) q here)
        only g (inr k) = later (r.only g k)
          where
            later : (g ≡ e) ⊎ IsIn g xs → (g ≡ e) ⊎ IsIn g (x ∷ xs)
            later (inl q) = inl q
            later (inr h) = inr (there h)

        old : (g : Event S) → (g ≡ x) ⊎ IsIn g xs → IsIn g (x ∷ r.list)
        old g (inl q) = subst (λ (z : Event S). IsIn g (z ∷ r.list)) q here
        old g (inr k) = there (r.old g k)

append_cases : {A : Type 0} {z x y : A} {xs : List A} → IsIn z xs ⊎ (z ≡ x) → IsIn z (y ∷ xs) ⊎ (z ≡ x)
append_cases (inl k) = inl (there k)
append_cases (inr k) = inr k

pub in_append : {A : Type 0} {z x : A} (xs : List A) → IsIn z (xs ++ x ∷ []) → IsIn z xs ⊎ (z ≡ x)
in_append [] here = inr refl
in_append [] (there h) = elim h [ ]
in_append (y ∷ xs) here = inl here
in_append (y ∷ xs) (there h) = append_cases (in_append xs h)

pub in_left : {A : Type 0} {z : A} (x : A) (xs : List A) → IsIn z xs → IsIn z (xs ++ x ∷ [])
in_left x [] h = elim h [ ]
in_left x (y ∷ xs) here = here
in_left x (y ∷ xs) (there h) = there (in_left x xs h)

pub in_last : {A : Type 0} {x : A} (xs : List A) → IsIn x (xs ++ x ∷ [])
in_last [] = here
in_last (y ∷ xs) = there (in_last xs)

before_append : {S : Type 0} (P : Program S) (e x g : Event S) (xs : List (Event S)) → ((g : Event S) → IsIn g xs → IsEarlierPlace P x g) → IsEarlierPlace P x e → IsIn g xs ⊎ (g ≡ e) → IsEarlierPlace P x g
before_append P e x g xs f l (inl h) = f g h
before_append {S = S} P e x g xs f l (inr h) = subst (λ (z : Event S). IsEarlierPlace P x z) (sym h) l

pub sorted_append : {S : Type 0} (P : Program S) (e : Event S) (xs : List (Event S)) → IsPlaced P xs → ((g : Event S) → IsIn g xs → IsEarlierPlace P g e) → IsPlaced P (xs ++ e ∷ [])
sorted_append P e [] a f = ((λ g h. elim h [ ]), tt)
sorted_append P e (x ∷ xs) a f = ((λ g h. before_append P e x g xs a.0 (f x here) (in_append xs h)), sorted_append P e xs a.1 (λ g h. f g (there h)))

pub replay-append : {S : Type 0} (P : Program S) (e : Event S) (xs : List (Event S)) (w : ℕ) → replay P (xs ++ e ∷ []) w ≡ value_after (stage_act P e.start e.past) (replay P xs w)
replay-append P e [] w = refl
replay-append P e (x ∷ xs) w = replay-append P e xs (value_after (stage_act P x.start x.past) w)
