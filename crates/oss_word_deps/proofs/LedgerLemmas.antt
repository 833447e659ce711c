-- Entries, rows and marks of a book, and of one with an entry more.
use Rattle.std.proofs.Common.{◌≡◌, ℕ, zero, suc, ◌<◌, ◌≤◌, ◌⊎◌, inl, inr, refl, sym, ap, subst, ◌∙◌, Bool, true, false, List, [], ◌∷◌, ◌++◌, Option, Some, None, length, arith, eq-eqb, eqb-true}
use Rattle.std.specs.Prelude.{◌==◌, slice_get, slice_set}
use Rattle.oss_deps.proofs.Basics.{some_is, some_none}
use Rattle.oss_access_lists.proofs.StepLemmas.{same_or}
use Rattle.oss_word_deps.specs.declared.entry.Entry.{Entry}
use Rattle.oss_word_deps.specs.declared.entry.Mark.{Mark}
use Rattle.oss_word_deps.specs.Growing.{with_last, with_main}
use Rattle.oss_word_deps.specs.Ledger.{entry_of, given_in, in_cell, last_in, mark_of, no_mark, or_none, row}

differ : (b : Bool) → (b ≡ true → ⊥) → b ≡ false
differ true f = absurd (f refl)
differ false f = refl

pub none_not : {A : Type 0} {o : Option A} {a : A} → o ≡ None → o ≡ Some a → ⊥
none_not e f = some_none (sym f ∙ e)

-- the entry, if it is one of the cell
pub in_cell_is : (c : ℕ) (e : Entry) → e.cell ≡ c → in_cell c (Some e) ≡ Some e
in_cell_is c e h = rw (eq-eqb e.cell c h) refl

pub in_cell_not : (c : ℕ) (e : Entry) → (e.cell ≡ c → ⊥) → in_cell c (Some e) ≡ None
in_cell_not c e n = rw (differ (e.cell == c) (λ h. n (eqb-true e.cell c h))) refl

pub row_is : (entries : List Entry) (c v : ℕ) (e : Entry) → entry_of entries v ≡ Some e → e.cell ≡ c → row entries c v ≡ Some e
row_is entries c v e h k = ap (in_cell c) h ∙ in_cell_is c e k

pub row_not : (entries : List Entry) (c v : ℕ) (e : Entry) → entry_of entries v ≡ Some e → (e.cell ≡ c → ⊥) → row entries c v ≡ None
row_not entries c v e h n = ap (in_cell c) h ∙ in_cell_not c e n

pub row_none : (entries : List Entry) (c v : ℕ) → entry_of entries v ≡ None → row entries c v ≡ None
row_none entries c v h = ap (in_cell c) h

pub row_entry : (entries : List Entry) (c v : ℕ) (e : Entry) → row entries c v ≡ Some e → (entry_of entries v ≡ Some e) × (e.cell ≡ c)
row_entry entries c v e h = go (entry_of entries v) refl
  where
    here : (x : Entry) → entry_of entries v ≡ Some x → (x.cell ≡ c) ⊎ (x.cell ≡ c → ⊥) → (entry_of entries v ≡ Some e) × (e.cell ≡ c)
    here x k (inl s) = let same : x ≡ e = some_is (sym (row_is entries c v x k s) ∙ h) in (k ∙ ap (λ (y : Entry). Some y) same, subst (λ (y : Entry). y.cell ≡ c) same s)
    here x k (inr n) = absurd (none_not (row_not entries c v x k n) h)

    go : (o : Option Entry) → entry_of entries v ≡ o → (entry_of entries v ≡ Some e) × (e.cell ≡ c)
    go None k = absurd (none_not (row_none entries c v k) h)
    go (Some x) k = here x k (same_or x.cell c)

-- which numbers there are
pub get_within : {A : Type 0} (xs : List A) (i : ℕ) (x : A) → slice_get xs i ≡ Some x → i < length xs
get_within [] i x e = cc
get_within (y ∷ xs) zero x e = omega arith
get_within (y ∷ xs) (suc i) x e = let h = get_within xs i x e in omega (arith, h)

pub get_beyond : {A : Type 0} (xs : List A) (i : ℕ) → length xs ≤ i → slice_get xs i ≡ None
get_beyond [] i h = refl
get_beyond (y ∷ xs) zero h = absurd (omega (arith, h))
get_beyond (y ∷ xs) (suc i) h = get_beyond xs i (omega (arith, h))

pub get_there : {A : Type 0} (xs : List A) (i : ℕ) → i < length xs → (x : A) × (slice_get xs i ≡ Some x)
get_there [] i h = absurd (omega (arith, h))
get_there (y ∷ xs) zero h = (y, refl)
get_there (y ∷ xs) (suc i) h = get_there xs i (omega (arith, h))

pub entry_within : (entries : List Entry) (v : ℕ) (e : Entry) → entry_of entries v ≡ Some e → (0 < v) × (v ≤ length entries)
entry_within entries zero e h = absurd (some_none (sym h))
entry_within entries (suc n) e h = let k = get_within entries n e h in (omega arith, omega (arith, k))

pub entry_there : (entries : List Entry) (v : ℕ) → 0 < v → v ≤ length entries → (e : Entry) × (entry_of entries v ≡ Some e)
entry_there entries zero h k = absurd (omega (arith, h))
entry_there entries (suc n) h k = get_there entries n (omega (arith, k))

pub entry_beyond : (entries : List Entry) (v : ℕ) → length entries < v → entry_of entries v ≡ None
entry_beyond entries zero h = refl
entry_beyond entries (suc n) h = get_beyond entries n (omega (arith, h))

-- one more at the end
pub get_front : {A : Type 0} (xs : List A) (y : A) (i : ℕ) → (i ≡ length xs → ⊥) → slice_get (xs ++ y ∷ []) i ≡ slice_get xs i
get_front [] y zero n = absurd (n refl)
get_front [] y (suc i) n = refl
get_front (z ∷ xs) y zero n = refl
get_front (z ∷ xs) y (suc i) n = get_front xs y i (λ e. n (ap suc e))

pub get_end : {A : Type 0} (xs : List A) (y : A) (i : ℕ) → i ≡ length xs → slice_get (xs ++ y ∷ []) i ≡ Some y
get_end [] y zero e = refl
get_end [] y (suc i) e = absurd (omega (arith, e))
get_end (z ∷ xs) y zero e = absurd (omega (arith, e))
get_end (z ∷ xs) y (suc i) e = get_end xs y i (omega (arith, e))

pub entry_front : (entries : List Entry) (x : Entry) (v : ℕ) → (v ≡ suc (length entries) → ⊥) → entry_of (entries ++ x ∷ []) v ≡ entry_of entries v
entry_front entries x zero n = refl
entry_front entries x (suc i) n = get_front entries x i (λ e. n (ap suc e))

pub entry_end : (entries : List Entry) (x : Entry) → entry_of (entries ++ x ∷ []) (suc (length entries)) ≡ Some x
entry_end entries x = get_end entries x (length entries) refl

-- what was there is there
pub entry_kept : (entries : List Entry) (x : Entry) (v : ℕ) (e : Entry) → entry_of entries v ≡ Some e → entry_of (entries ++ x ∷ []) v ≡ Some e
entry_kept entries x v e h = let k = entry_within entries v e h in entry_front entries x v (λ z. omega (arith, k.1, z)) ∙ h

-- and what is there was, or is the new one
pub entry_added : (entries : List Entry) (x : Entry) (v : ℕ) (e : Entry) → entry_of (entries ++ x ∷ []) v ≡ Some e → (entry_of entries v ≡ Some e) ⊎ ((v ≡ suc (length entries)) × (e ≡ x))
entry_added entries x v e h = go (same_or v (suc (length entries)))
  where
    go : (v ≡ suc (length entries)) ⊎ (v ≡ suc (length entries) → ⊥) → (entry_of entries v ≡ Some e) ⊎ ((v ≡ suc (length entries)) × (e ≡ x))
    go (inl s) = inr (s, some_is (sym h ∙ (ap (entry_of (entries ++ x ∷ [])) s ∙ entry_end entries x)))
    go (inr n) = inl (sym (entry_front entries x v n) ∙ h)

pub row_front : (entries : List Entry) (x : Entry) (c v : ℕ) → (v ≡ suc (length entries) → ⊥) → row (entries ++ x ∷ []) c v ≡ row entries c v
row_front entries x c v n = ap (in_cell c) (entry_front entries x v n)

-- a write at a place
pub get_set_same : {A : Type 0} (xs : List A) (i : ℕ) (y : A) → i < length xs → slice_get (slice_set xs i y) i ≡ Some y
get_set_same [] i y h = absurd (omega (arith, h))
get_set_same (z ∷ xs) zero y h = refl
get_set_same (z ∷ xs) (suc i) y h = get_set_same xs i y (omega (arith, h))

pub get_set_other : {A : Type 0} (xs : List A) (i j : ℕ) (y : A) → (j ≡ i → ⊥) → slice_get (slice_set xs i y) j ≡ slice_get xs j
get_set_other [] i j y n = refl
get_set_other (z ∷ xs) zero zero y n = absurd (n refl)
get_set_other (z ∷ xs) zero (suc j) y n = refl
get_set_other (z ∷ xs) (suc i) zero y n = refl
get_set_other (z ∷ xs) (suc i) (suc j) y n = get_set_other xs i j y (λ e. n (ap suc e))

pub set_length : {A : Type 0} (xs : List A) (i : ℕ) (y : A) → length (slice_set xs i y) ≡ length xs
set_length [] i y = refl
set_length (z ∷ xs) zero y = refl
set_length (z ∷ xs) (suc i) y = ap suc (set_length xs i y)

-- marks
pub last_length : (marks : List Mark) (p e : ℕ) → length (with_last marks p e) ≡ length marks
last_length marks zero e = refl
last_length marks (suc n) e = set_length marks n (record { last = e; given = (or_none (slice_get marks n)).given })

pub main_length : (mains : List ℕ) (p c e : ℕ) → length (with_main mains p c e) ≡ length mains
main_length mains zero c e = set_length mains c e
main_length mains (suc n) c e = refl

pub mark_beyond : (marks : List Mark) (v : ℕ) → length marks < v → mark_of marks v ≡ no_mark
mark_beyond marks zero h = refl
mark_beyond marks (suc n) h = ap or_none (get_beyond marks n (omega (arith, h)))

last_other : (marks : List Mark) (p e v : ℕ) → (v ≡ p → ⊥) → mark_of (with_last marks p e) v ≡ mark_of marks v
last_other marks zero e v n = refl
last_other marks (suc i) e zero n = refl
last_other marks (suc i) e (suc j) n = ap or_none (get_set_other marks i j (record { last = e; given = (or_none (slice_get marks i)).given }) (λ z. n (ap suc z)))

last_same : (marks : List Mark) (n e : ℕ) → n < length marks → mark_of (with_last marks (suc n) e) (suc n) ≡ record { last = e; given = (mark_of marks (suc n)).given }
last_same marks n e h = ap or_none (get_set_same marks n (record { last = e; given = (or_none (slice_get marks n)).given }) h)

mark_front : (marks : List Mark) (v : ℕ) → mark_of (marks ++ no_mark ∷ []) v ≡ mark_of marks v
mark_front marks zero = refl
mark_front marks (suc n) = go (same_or n (length marks))
  where
    go : (n ≡ length marks) ⊎ (n ≡ length marks → ⊥) → mark_of (marks ++ no_mark ∷ []) (suc n) ≡ mark_of marks (suc n)
    go (inl e) = ap or_none (get_end marks no_mark n e) ∙ sym (ap or_none (get_beyond marks n (omega (arith, e))))
    go (inr d) = ap or_none (get_front marks no_mark n d)

-- the marks with one more, once p has a new last child
pub grown_other : (marks : List Mark) (p e v : ℕ) → (v ≡ p → ⊥) → mark_of (with_last marks p e ++ no_mark ∷ []) v ≡ mark_of marks v
grown_other marks p e v n = mark_front (with_last marks p e) v ∙ last_other marks p e v n

pub grown_last : (marks : List Mark) (p e : ℕ) → 0 < p → p ≤ length marks → (mark_of (with_last marks p e ++ no_mark ∷ []) p).last ≡ e
grown_last marks zero e h k = absurd (omega (arith, h))
grown_last marks (suc n) e h k = ap (λ (m : Mark). m.last) (mark_front (with_last marks (suc n) e) (suc n) ∙ last_same marks n e (omega (arith, k)))

pub grown_given : (marks : List Mark) (p e v : ℕ) → p ≤ length marks → (mark_of (with_last marks p e ++ no_mark ∷ []) v).given ≡ (mark_of marks v).given
grown_given marks p e v h = go p (same_or v p) h refl
  where
    go : (q : ℕ) → (v ≡ p) ⊎ (v ≡ p → ⊥) → q ≤ length marks → q ≡ p → (mark_of (with_last marks p e ++ no_mark ∷ []) v).given ≡ (mark_of marks v).given
    go q (inr n) k s = ap (λ (m : Mark). m.given) (grown_other marks p e v n)
    go zero (inl z) k s = ap (λ (m : Mark). m.given) (ap (mark_of (with_last marks p e ++ no_mark ∷ [])) (z ∙ sym s) ∙ sym (ap (mark_of marks) (z ∙ sym s)))
    go (suc n) (inl z) k s =
        let at : (mark_of (with_last marks (suc n) e ++ no_mark ∷ []) (suc n)).given ≡ (mark_of marks (suc n)).given = ap (λ (m : Mark). m.given) (mark_front (with_last marks (suc n) e) (suc n) ∙ last_same marks n e (omega (arith, k))) in
        subst (λ (q : ℕ). (mark_of (with_last marks q e ++ no_mark ∷ []) v).given ≡ (mark_of marks v).given) s (subst (λ (u : ℕ). (mark_of (with_last marks (suc n) e ++ no_mark ∷ []) u).given ≡ (mark_of marks u).given) (s ∙ sym z) at)

-- what a row shows of a mark
pub given_alike : (r : Option Entry) (m k : Mark) → m.given ≡ k.given → given_in r m ≡ given_in r k
given_alike None m k h = refl
given_alike (Some e) m k h = h

pub last_alike : (r : Option Entry) (m k : Mark) → m.last ≡ k.last → last_in r m ≡ last_in r k
last_alike None m k h = refl
last_alike (Some e) m k h = h
