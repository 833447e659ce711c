-- Lists in order: two with the same members are one, and each finite choice can be put in order.
use Rattle.std.proofs.Common.{◌≡◌, ℕ, ◌<◌, ◌⊎◌, inl, inr, refl, sym, subst, ap, ◌∙◌, arith, List, [], ◌∷◌, reverse}
use Rattle.oss_model.specs.Order.{IsIn, here, there, IsBefore}
use Rattle.oss_model.proofs.OrderLemmas.{before_trans, before_not, Compared, before, equal, after, compare}
use Rattle.oss_model.proofs.SortLemmas.{reverse_same}
use Rattle.oss_wave_laws.specs.Waves.{Turn, AreInOrder}
use Rattle.oss_wave_laws.specs.Passes.{Place, IsEarlierPlace, AreSorted}
use Rattle.oss_wave_laws.proofs.SumLemmas.{in_cases, in_none}

-- two sorted lists with the same members are one
module _ {A : Type 0} (Before : A → A → Type 0) (never : (a b : A) → Before a b → Before b a → ⊥) where
  abbrev pub Sorted : List A → Type 0
  Sorted [] = Unit {0}
  Sorted (x ∷ xs) = ((y : A) → IsIn y xs → Before x y) × Sorted xs

  pub sorted_one : (xs ys : List A) → Sorted xs → Sorted ys → ((a : A) → IsIn a xs → IsIn a ys) → ((a : A) → IsIn a ys → IsIn a xs) → xs ≡ ys
  sorted_one [] [] s r f g = refl
  sorted_one [] (y ∷ ys) s r f g = absurd (in_none (g y here))
  sorted_one (x ∷ xs) [] s r f g = absurd (in_none (f x here))
  sorted_one (x ∷ xs) (y ∷ ys) s r f g = join (sorted_one xs ys s.1 r.1 (λ a h. forth a h (in_cases (f a (there h)))) (λ a h. back a h (in_cases (g a (there h)))))
    where
      heads_from : (x ≡ y) ⊎ IsIn x ys → (y ≡ x) ⊎ IsIn y xs → x ≡ y
      heads_from (inl e) h = e
      heads_from (inr h) (inl e) = sym e
      heads_from (inr h) (inr k) = absurd (never x y (s.0 y k) (r.0 x h))

      heads : x ≡ y
      heads = heads_from (in_cases (f x here)) (in_cases (g y here))

      itself : (a b : A) → a ≡ b → Before a b → ⊥
      itself a b e h = let k : Before b b = subst (λ (z : A). Before z b) e h in never b b k k

      forth : (a : A) → IsIn a xs → (a ≡ y) ⊎ IsIn a ys → IsIn a ys
      forth a h (inl e) = absurd (itself x a (heads ∙ sym e) (s.0 a h))
      forth a h (inr k) = k

      back : (a : A) → IsIn a ys → (a ≡ x) ⊎ IsIn a xs → IsIn a xs
      back a h (inl e) = absurd (itself y a (sym heads ∙ sym e) (r.0 a h))
      back a h (inr k) = k

      join : xs ≡ ys → x ∷ xs ≡ y ∷ ys
      join e = λ i. heads i ∷ e i

pub never_both : (xs ys : List ℕ) → IsBefore xs ys → IsBefore ys xs → ⊥
never_both xs ys h k = before_not (before_trans h k) refl

-- turns by their paths
abbrev pub TurnBefore : Turn → Turn → Type 0
TurnBefore k j = IsBefore (reverse k.path) (reverse j.path)

pub turns_never : (k j : Turn) → TurnBefore k j → TurnBefore j k → ⊥
turns_never k j h l = never_both (reverse k.path) (reverse j.path) h l

pub turns_sorted : (turns : List Turn) → AreInOrder turns → Sorted TurnBefore turns_never turns
turns_sorted [] h = tt
turns_sorted (k ∷ rest) h = (h.0, turns_sorted rest h.1)

pub places_never : (a b : Place) → IsEarlierPlace a b → IsEarlierPlace b a → ⊥
places_never a b (inl h) (inl k) = never_both (reverse a.path) (reverse b.path) h k
places_never a b (inl h) (inr k) = before_not h (ap reverse (sym k.0))
places_never a b (inr h) (inl k) = before_not k (ap reverse (sym h.0))
places_never a b (inr h) (inr k) = let x = h.1 in let y = k.1 in omega arith

pub places_sorted : (places : List Place) → AreSorted places → Sorted IsEarlierPlace places_never places
places_sorted [] h = tt
places_sorted (a ∷ rest) h = (h.0, places_sorted rest h.1)

-- which of two places comes first
pub places_compared : (a b : Place) → IsEarlierPlace a b ⊎ (a ≡ b) ⊎ IsEarlierPlace b a
places_compared a b = by_path (compare (reverse a.path) (reverse b.path))
  where
    which : (m n : ℕ) → (m < n) ⊎ (m ≡ n) ⊎ (n < m)
    which m n = grind arith

    by_cell : a.path ≡ b.path → (a.cell < b.cell) ⊎ (a.cell ≡ b.cell) ⊎ (b.cell < a.cell) → IsEarlierPlace a b ⊎ (a ≡ b) ⊎ IsEarlierPlace b a
    by_cell e (inl l) = inl (inr (e, l))
    by_cell e (inr (inl f)) = inr (inl (λ i. record { path = e i; cell = f i }))
    by_cell e (inr (inr l)) = inr (inr (inr (sym e, l)))

    by_path : Compared (reverse a.path) (reverse b.path) → IsEarlierPlace a b ⊎ (a ≡ b) ⊎ IsEarlierPlace b a
    by_path (before h) = inl (inl h)
    by_path (equal e) = by_cell (reverse_same a.path b.path e) (which a.cell b.cell)
    by_path (after h) = inr (inr (inl h))

pub places_through : (a b c : Place) → IsEarlierPlace a b → IsEarlierPlace b c → IsEarlierPlace a c
places_through a b c (inl h) (inl k) = inl (before_trans h k)
places_through a b c (inl h) (inr k) = inl (subst (λ (p : List ℕ). IsBefore (reverse a.path) (reverse p)) k.0 h)
places_through a b c (inr h) (inl k) = inl (subst (λ (p : List ℕ). IsBefore (reverse p) (reverse c.path)) (sym h.0) k)
places_through a b c (inr h) (inr k) = let x = h.1 in let y = k.1 in inr (h.0 ∙ k.0, omega arith)

pub sorted_turns : (turns : List Turn) → Sorted TurnBefore turns_never turns → AreInOrder turns
sorted_turns [] h = tt
sorted_turns (k ∷ rest) h = (h.0, sorted_turns rest h.1)

pub sorted_places : (places : List Place) → Sorted IsEarlierPlace places_never places → AreSorted places
sorted_places [] h = tt
sorted_places (a ∷ rest) h = (h.0, sorted_places rest h.1)

module _ {A : Type 0} (Before : A → A → Type 0) (never : (a b : A) → Before a b → Before b a → ⊥) (Q : A → Type 0) (compared : (a b : A) → Q a → Q b → Before a b ⊎ (a ≡ b) ⊎ Before b a) (through : (a b c : A) → Before a b → Before b c → Before a c) where
  -- a sorted list with one more member
  pub record Added (a : A) (xs : List A) : Type 0 where
    pub list : List A
    pub sorted : Sorted Before never list
    pub only : (b : A) → IsIn b list → (b ≡ a) ⊎ IsIn b xs
    pub new : IsIn a list
    pub old : (b : A) → IsIn b xs → IsIn b list

  pub add : (a : A) → Q a → (xs : List A) → Sorted Before never xs → ((b : A) → IsIn b xs → Q b) → Added a xs
  add a q [] s f = record { list = a ∷ []; sorted = ((λ b h. absurd (in_none h)), tt); only = λ b h. in_cases h; new = here; old = λ b h. absurd (in_none h) }
  add a q (x ∷ xs) s f = go (compared a x q (f x here)) (add a q xs s.1 (λ b h. f b (there h)))
    where
      later : Before a x → (b : A) → (b ≡ x) ⊎ IsIn b xs → Before a b
      later l b (inl e) = subst (λ (z : A). Before a z) (sym e) l
      later l b (inr h) = through a x b l (s.0 b h)

      behind : Before x a → (b : A) → (b ≡ a) ⊎ IsIn b xs → Before x b
      behind l b (inl e) = subst (λ (z : A). Before x z) (sym e) l
      behind l b (inr h) = s.0 b h

      only : (r : Added a xs) (b : A) → (b ≡ x) ⊎ IsIn b r.list → (b ≡ a) ⊎ IsIn b (x ∷ xs)
      only r b (inl e) = inr (subst (λ (z : A). IsIn z (x ∷ xs)) (sym e) here)
      only r b (inr h) = pick (r.only b h)
        where
          pick : (b ≡ a) ⊎ IsIn b xs → (b ≡ a) ⊎ IsIn b (x ∷ xs)
          pick (inl e) = inl e
          pick (inr k) = inr (there k)

      old : (r : Added a xs) (b : A) → (b ≡ x) ⊎ IsIn b xs → IsIn b (x ∷ r.list)
      old r b (inl e) = subst (λ (z : A). IsIn z (x ∷ r.list)) (sym e) here
      old r b (inr h) = there (r.old b h)

      go : Before a x ⊎ (a ≡ x) ⊎ Before x a → Added a xs → Added a (x ∷ xs)
      go (inl l) r = record { list = a ∷ x ∷ xs; sorted = ((λ b h. later l b (in_cases h)), s); only = λ b h. in_cases h; new = here; old = λ b h. there h }
      go (inr (inl e)) r = record { list = x ∷ xs; sorted = s; only = λ b h. inr h; new = subst (λ (z : A). IsIn z (x ∷ xs)) (sym e) here; old = λ b h. h }
      go (inr (inr l)) r = record { list = x ∷ r.list; sorted = ((λ b h. behind l b (r.only b h)), r.sorted); only = λ b h. only r b (in_cases h); new = there r.new; old = λ b h. old r b (in_cases h) }

  module _ {B : Type 0} (Given Left : B → Type 0) (Chosen : B → A → Type 0) (choose : (b : B) → Given b → ((a : A) × Q a × Chosen b a) ⊎ Left b) where
    -- what was chosen of a list, in order
    pub record Gathered (bs : List B) : Type 0 where
      pub list : List A
      pub sorted : Sorted Before never list
      pub only : (a : A) → IsIn a list → Q a
      pub all : (b : B) → IsIn b bs → ((a : A) × IsIn a list × Chosen b a) ⊎ Left b

    pub gather : (bs : List B) → ((b : B) → IsIn b bs → Given b) → Gathered bs
    gather [] g = record { list = []; sorted = tt; only = λ a h. absurd (in_none h); all = λ b h. absurd (in_none h) }
    gather (x ∷ bs) g = go (choose x (g x here)) (gather bs (λ b h. g b (there h)))
      where
        past : (r : Gathered bs) → Left x → (b : B) → (b ≡ x) ⊎ IsIn b bs → ((a : A) × IsIn a r.list × Chosen b a) ⊎ Left b
        past r l b (inl e) = inr (subst Left (sym e) l)
        past r l b (inr h) = r.all b h

        taken : (r : Gathered bs) (c : (a : A) × Q a × Chosen x a) (y : Added c.0 r.list) → (b : B) → (b ≡ x) ⊎ IsIn b bs → ((a : A) × IsIn a y.list × Chosen b a) ⊎ Left b
        taken r c y b (inl e) = inl (c.0, y.new, subst (λ (z : B). Chosen z c.0) (sym e) c.2)
        taken r c y b (inr h) = pick (r.all b h)
          where
            pick : ((a : A) × IsIn a r.list × Chosen b a) ⊎ Left b → ((a : A) × IsIn a y.list × Chosen b a) ⊎ Left b
            pick (inl k) = inl (k.0, y.old k.0 k.1, k.2)
            pick (inr l) = inr l

        only : (r : Gathered bs) (c : (a : A) × Q a × Chosen x a) (a : A) → (a ≡ c.0) ⊎ IsIn a r.list → Q a
        only r c a (inl e) = subst Q (sym e) c.1
        only r c a (inr h) = r.only a h

        go : ((a : A) × Q a × Chosen x a) ⊎ Left x → Gathered bs → Gathered (x ∷ bs)
        go (inl c) r = let y = add c.0 c.1 r.list r.sorted r.only in record { list = y.list; sorted = y.sorted; only = λ a h. only r c a (y.only a h); all = λ b h. taken r c y b (in_cases h) }
        go (inr l) r = record { list = r.list; sorted = r.sorted; only = r.only; all = λ b h. past r l b (in_cases h) }
