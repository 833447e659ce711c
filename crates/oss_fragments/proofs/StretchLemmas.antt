-- What the lists of fragments say of a cell.
use Rattle.std.proofs.Common.{◌≡◌, ℕ, ◌-◌, ◌<◌, ◌≤◌, suc, refl, sym, ap, subst, ◌∙◌, List, [], ◌∷◌, ◌⊎◌, inl, inr, Bool, true, Option, Some, None, arith, length, get_or, eqb-true}
use Rattle.std.proofs.lemmas.Option.{slice_get_within, slice_get_read}
use Rattle.std.specs.Prelude.{◌&&◌, ◌==◌, slice_get, option_and_then}
use Rattle.oss_ranges.specs.declared.piece.Piece.{Piece}
use Rattle.oss_ranges.specs.Cells.{value_at}
use Rattle.oss_deps.proofs.Basics.{both, or_cases, some_is, some_none, same_at, options, compared}
use Rattle.oss_fragments.specs.declared.fragment.Fragment.{Fragment}
use Rattle.oss_fragments.specs.Here.{here_of}
use Rattle.oss_fragments.specs.Kept.{here_in, here_by, is_asked, is_cut_by}
use Rattle.oss_fragments.specs.Stretches.{AreFragments, IsDivided}

pub before_or : (a b : ℕ) → (a < b) ⊎ (b ≤ a)
before_or a b = go (compared a b)
  where
    go : (a < b) ⊎ ((a ≡ b) ⊎ (b < a)) → (a < b) ⊎ (b ≤ a)
    go (inl h) = inl h
    go (inr (inl e)) = inr (omega (arith, e))
    go (inr (inr h)) = inr (omega (arith, h))

pub empty_is : {A : Type 0} (xs : List A) → length xs ≡ 0 → xs ≡ []
empty_is [] e = refl
empty_is (x ∷ xs) e = absurd (omega (arith, e))

-- the value that a read of a list gives
pub fragment_read : (fragments : List Fragment) (at : ℕ) (a : Fragment) → at < length fragments → a ≡ get_or fragments at a → slice_get fragments at ≡ Some a
fragment_read fragments at a l e = slice_get_read fragments (length fragments) at a refl l e

pub read_here : (pieces : List (Piece ℕ)) (fragments : List Fragment) (c : ℕ) (o : Option ℕ) → value_at pieces c ≡ o → here_by pieces fragments c ≡ here_in (option_and_then (slice_get fragments) o)
read_here pieces fragments c o e = ap (λ (x : Option ℕ). here_in (option_and_then (slice_get fragments) x)) e

pub read_some : (pieces : List (Piece ℕ)) (fragments : List Fragment) (c i : ℕ) (a : Fragment) → value_at pieces c ≡ Some i → slice_get fragments i ≡ Some a → here_by pieces fragments c ≡ here_of a
read_some pieces fragments c i a e is = read_here pieces fragments c (Some i) e ∙ ap here_in is

-- The fragment of a cell, if it has one.
pub record IsPlaced (pieces : List (Piece ℕ)) (fragments : List Fragment) (c : ℕ) : Type 0 where
  pub at : ℕ
  pub at_is : value_at pieces c ≡ Some at
  pub one : Fragment
  pub one_is : slice_get fragments at ≡ Some one
  pub lo : one.lo ≤ c
  pub hi : c < one.hi

module _ (pieces : List (Piece ℕ)) (fragments : List Fragment) (s : AreFragments pieces fragments) where
  pub placed : (c : ℕ) → (value_at pieces c ≡ None) ⊎ IsPlaced pieces fragments c
  placed c = go (options (value_at pieces c))
    where
      go : (value_at pieces c ≡ None) ⊎ ((i : ℕ) × (value_at pieces c ≡ Some i)) → (value_at pieces c ≡ None) ⊎ IsPlaced pieces fragments c
      go (inl e) = inl e
      go (inr (i, e)) = let a = s.here c i e in inr (record { at = i; at_is = e; one = a.0; one_is = a.1; lo = a.2; hi = a.3 })

  pub some_place : (fragments ≡ [] → ⊥) → (c : ℕ) → c < 1048576 → (i : ℕ) × (value_at pieces c ≡ Some i)
  some_place n c l = go s.whole
    where
      go : (fragments ≡ []) ⊎ ((c : ℕ) → c < 1048576 → (i : ℕ) × (value_at pieces c ≡ Some i)) → (i : ℕ) × (value_at pieces c ≡ Some i)
      go (inl z) = absurd (n z)
      go (inr f) = f c l

  pub placed_at : (fragments ≡ [] → ⊥) → (c : ℕ) → c < 1048576 → IsPlaced pieces fragments c
  placed_at n c l = let i = some_place n c l in let a = s.here c i.0 i.1 in record { at = i.0; at_is = i.1; one = a.0; one_is = a.1; lo = a.2; hi = a.3 }

  -- before there is a fragment, no cell has one
  pub none_placed : fragments ≡ [] → (c : ℕ) → value_at pieces c ≡ None
  none_placed z c = go (options (value_at pieces c))
    where
      go : (value_at pieces c ≡ None) ⊎ ((i : ℕ) × (value_at pieces c ≡ Some i)) → value_at pieces c ≡ None
      go (inl e) = e
      go (inr (i, e)) = let a = s.here c i e in let h : None ≡ Some a.0 = ap (λ (xs : List Fragment). slice_get xs i) (sym z) ∙ a.1 in absurd (some_none (sym h))

  pub here_is : (i : ℕ) (a : Fragment) (c : ℕ) → slice_get fragments i ≡ Some a → a.lo ≤ c → c < a.hi → here_by pieces fragments c ≡ here_of a
  here_is i a c is l h = read_some pieces fragments c i a (s.there i a c is l h) is

  pub one_place : (i j : ℕ) (a b : Fragment) (c : ℕ) → slice_get fragments i ≡ Some a → slice_get fragments j ≡ Some b → a.lo ≤ c → c < a.hi → b.lo ≤ c → c < b.hi → i ≡ j
  one_place i j a b c e f al ah bl bh = some_is (sym (s.there i a c e al ah) ∙ s.there j b c f bl bh)

  pub one_fragment : (i j : ℕ) (a b : Fragment) (c : ℕ) → slice_get fragments i ≡ Some a → slice_get fragments j ≡ Some b → a.lo ≤ c → c < a.hi → b.lo ≤ c → c < b.hi → a ≡ b
  one_fragment i j a b c e f al ah bl bh = same_at (subst (λ (z : ℕ). slice_get fragments z ≡ Some a) (one_place i j a b c e f al ah bl bh) e) f

  -- a fragment begins where no other goes on
  pub begin_divides : (i : ℕ) (a : Fragment) → slice_get fragments i ≡ Some a → IsDivided fragments a.lo
  begin_divides i a is j b e = go (before_or b.lo a.lo) (before_or a.lo b.hi)
    where
      go : (b.lo < a.lo) ⊎ (a.lo ≤ b.lo) → (a.lo < b.hi) ⊎ (b.hi ≤ a.lo) → (a.lo ≤ b.lo) ⊎ (b.hi ≤ a.lo)
      go (inr h) y = inl h
      go x (inr h) = inr h
      go (inl x) (inl y) =
          let same = one_fragment i j a b a.lo is e (omega arith) ((s.right i a is).some) (omega (arith, x)) y in
          absurd (omega (arith, x, ap (λ (z : Fragment). z.lo) same))

  -- and ends where no other goes on
  pub end_divides : (i : ℕ) (a : Fragment) → slice_get fragments i ≡ Some a → IsDivided fragments a.hi
  end_divides i a is j b e = go (before_or b.lo a.hi) (before_or a.hi b.hi)
    where
      go : (b.lo < a.hi) ⊎ (a.hi ≤ b.lo) → (a.hi < b.hi) ⊎ (b.hi ≤ a.hi) → (a.hi ≤ b.lo) ⊎ (b.hi ≤ a.hi)
      go (inr h) y = inl h
      go x (inr h) = inr h
      go (inl x) (inl y) =
          let some = (s.right i a is).some in
          let same = one_fragment i j a b (a.hi - 1) is e (omega (arith, some)) (omega (arith, some)) (omega (arith, x)) (omega (arith, y)) in
          absurd (omega (arith, y, ap (λ (z : Fragment). z.hi) same))

  -- where a cell is in no fragment, none has it and the one before
  pub gap_divides : (cell : ℕ) → value_at pieces cell ≡ None → IsDivided fragments cell
  gap_divides cell none j b e = go (before_or b.lo cell) (before_or cell b.hi)
    where
      go : (b.lo < cell) ⊎ (cell ≤ b.lo) → (cell < b.hi) ⊎ (b.hi ≤ cell) → (cell ≤ b.lo) ⊎ (b.hi ≤ cell)
      go (inr h) y = inl h
      go x (inr h) = inr h
      go (inl x) (inl y) = absurd (some_none (sym (s.there j b cell e (omega (arith, x)) y) ∙ none))

  -- a fragment that has a cell at which no other goes on begins there
  pub begins_at : (i : ℕ) (a : Fragment) (cell : ℕ) → slice_get fragments i ≡ Some a → a.lo ≤ cell → cell < a.hi → IsDivided fragments cell → a.lo ≡ cell
  begins_at i a cell is l h d = go (d i a is)
    where
      go : (cell ≤ a.lo) ⊎ (a.hi ≤ cell) → a.lo ≡ cell
      go (inl x) = omega (arith, x, l)
      go (inr x) = absurd (omega (arith, x, h))

asked_in : (fragments : List Fragment) (k : ℕ) → is_asked fragments k ≡ true → (i : ℕ) × (a : Fragment) × (slice_get fragments i ≡ Some a) × (a.lo ≡ k)
asked_in [] k h = absurd cc
asked_in (a ∷ rest) k h = go (or_cases (a.asked && (k == a.lo)) (is_asked rest k) h) (asked_in rest k)
  where
    go : ((a.asked && (k == a.lo)) ≡ true) ⊎ (is_asked rest k ≡ true) → (is_asked rest k ≡ true → (i : ℕ) × (b : Fragment) × (slice_get rest i ≡ Some b) × (b.lo ≡ k)) → (i : ℕ) × (b : Fragment) × (slice_get (a ∷ rest) i ≡ Some b) × (b.lo ≡ k)
    go (inl e) again = (0, a, refl, sym (eqb-true k a.lo (both a.asked (k == a.lo) e).1))
    go (inr e) again = let r = again e in (suc r.0, r.1, r.2, r.3)

-- no fragment goes on over a cut
pub cut_divides : (pieces : List (Piece ℕ)) (fragments : List Fragment) → AreFragments pieces fragments → (ended : Bool) (k : ℕ) → is_cut_by fragments ended k ≡ true → IsDivided fragments k
cut_divides pieces fragments s ended k h = go (or_cases (is_asked fragments k) (ended && (k == 1048576)) h)
  where
    go : (is_asked fragments k ≡ true) ⊎ ((ended && (k == 1048576)) ≡ true) → IsDivided fragments k
    go (inl x) = let a = asked_in fragments k x in subst (λ (z : ℕ). IsDivided fragments z) a.3 (begin_divides pieces fragments s a.0 a.1 a.2)
    go (inr x) = λ j b e. inr (omega (arith, (s.right j b e).within, eqb-true k 1048576 (both ended (k == 1048576) x).1))

-- where a cell of the program is a cut, there are fragments
pub cut_some : (fragments : List Fragment) (ended : Bool) (k : ℕ) → k < 1048576 → is_cut_by fragments ended k ≡ true → fragments ≡ [] → ⊥
cut_some fragments ended k l h z = go (or_cases (is_asked fragments k) (ended && (k == 1048576)) h)
  where
    go : (is_asked fragments k ≡ true) ⊎ ((ended && (k == 1048576)) ≡ true) → ⊥
    go (inl x) = let a = asked_in fragments k x in let e : None ≡ Some a.1 = ap (λ (xs : List Fragment). slice_get xs a.0) (sym z) ∙ a.2 in some_none (sym e)
    go (inr x) = absurd (omega (arith, l, eqb-true k 1048576 (both ended (k == 1048576) x).1))

-- the same begins are asked for
pub same_asked : (old new : List Fragment) (k : ℕ) → length new ≡ length old → ((i : ℕ) (a : Fragment) → slice_get old i ≡ Some a → (b : Fragment) × (slice_get new i ≡ Some b) × (b.lo ≡ a.lo) × (b.asked ≡ a.asked)) → is_asked new k ≡ is_asked old k
same_asked [] [] k size f = refl
same_asked [] (b ∷ new) k size f = absurd (omega (arith, size))
same_asked (a ∷ old) [] k size f = absurd (omega (arith, size))
same_asked (a ∷ old) (b ∷ new) k size f =
    let r = f 0 a refl in
    let e : r.0 ≡ b = some_is (sym r.1) in
    rw (ap (λ (x : Fragment). x.asked) (sym e) ∙ r.3, ap (λ (x : Fragment). x.lo) (sym e) ∙ r.2, same_asked old new k (omega (arith, size)) (λ i c h. f (suc i) c h)) refl

pub inside_within : (pieces : List (Piece ℕ)) (fragments : List Fragment) (at cell : ℕ) → AreFragments pieces fragments → value_at pieces cell ≡ Some at → at < length fragments
inside_within pieces fragments at cell s here = let a = s.here cell at here in slice_get_within fragments at a.0 a.1

-- the fragment at the place of a cell has the cell
pub inside : (pieces : List (Piece ℕ)) (fragments : List Fragment) (at cell : ℕ) (a : Fragment) → AreFragments pieces fragments → value_at pieces cell ≡ Some at → slice_get fragments at ≡ Some a → (a.lo ≤ cell) × (cell < a.hi)
inside pieces fragments at cell a s here is = let x = s.here cell at here in subst (λ (z : Fragment). (z.lo ≤ cell) × (cell < z.hi)) (same_at x.1 is) (x.2, x.3)

-- a fragment that begins at the cell is divided there
pub begun_divides : (pieces : List (Piece ℕ)) (fragments : List Fragment) (at cell : ℕ) (a : Fragment) → AreFragments pieces fragments → value_at pieces cell ≡ Some at → slice_get fragments at ≡ Some a → cell ≤ a.lo → IsDivided fragments cell
begun_divides pieces fragments at cell a s here is le = let k = inside pieces fragments at cell a s here is in let e : a.lo ≡ cell = omega (arith, k.0, le) in subst (λ (z : ℕ). IsDivided fragments z) e (begin_divides pieces fragments s at a is)
