-- Fragments of which one was divided stand for the same as before.
use Rattle.std.proofs.Common.{◌≡◌, ℕ, ◌+◌, ◌<◌, ◌≤◌, zero, suc, refl, sym, ap, subst, ◌∙◌, List, [], ◌∷◌, ◌++◌, ◌⊎◌, inl, inr, true, false, Some, None, Result, Ok, Err, OnOk, OnErr, arith, length, set}
use Rattle.std.proofs.lemmas.Bool.Decides.{nat_tests}
use Rattle.std.proofs.lemmas.List.{length-set, length_push}
use Rattle.std.proofs.lemmas.Option.{slice_get_within}
use Rattle.std.specs.Prelude.{◌&&◌, nat_le, nat_lt, slice_get}
use Rattle.oss_syntax.specs.declared.access.Access.{Access}
use Rattle.oss_ranges.specs.declared.piece.Piece.{Piece}
use Rattle.oss_ranges.specs.Cells.{Assigns, value_at}
use Rattle.oss_deps.proofs.Basics.{bools, both, both_of, some_is, some_none, same_at, compared}
use Rattle.oss_deps.proofs.CloseLemmas.{same_number, get_set_same, get_set_other}
use Rattle.oss_retire.proofs.TableLemmas.{same_tells}
use Rattle.oss_fragments.specs.declared.fragment.Fragment.{Fragment}
use Rattle.oss_fragments.specs.Here.{AreEntries, here_of}
use Rattle.oss_fragments.specs.Kept.{here_by, is_asked}
use Rattle.oss_fragments.specs.Stretches.{AreFragments, IsFragment, IsDivided, HasRoom, HaveRoom, IsReady, AreReady}
use Rattle.oss_fragments.specs.Changes.{IsFiner, IsDividedAt}
use Rattle.oss_fragments.proofs.LessLemmas.{less_both, less_same}
use Rattle.oss_fragments.proofs.StretchLemmas.{before_or, IsPlaced, placed, read_here, read_some, one_place, one_fragment, begin_divides}

pub finer_same : (pieces : List (Piece ℕ)) (fragments : List Fragment) → IsFiner pieces fragments pieces fragments
finer_same pieces fragments = record { are = λ s. s; here = λ s c. same_tells (here_by pieces fragments c).hangs (here_by pieces fragments c).tasks; asked = λ k. refl; divided = λ n k d. d; room = λ n lo hi r. r; some = λ n. n }

pub finer_both : (pieces : List (Piece ℕ)) (fragments : List Fragment) (pieces2 : List (Piece ℕ)) (fragments2 : List Fragment) (pieces3 : List (Piece ℕ)) (fragments3 : List Fragment)
    → IsFiner pieces fragments pieces2 fragments2 → IsFiner pieces2 fragments2 pieces3 fragments3 → IsFiner pieces fragments pieces3 fragments3
finer_both pieces fragments pieces2 fragments2 pieces3 fragments3 f g = record {
  are = λ s. g.are (f.are s);
  here = λ s c. less_both (here_by pieces fragments c) (here_by pieces2 fragments2 c) (here_by pieces3 fragments3 c) (f.here s c) (g.here (f.are s) c);
  asked = λ k. g.asked k ∙ f.asked k;
  divided = λ n k d. g.divided (f.some n) k (f.divided n k d);
  room = λ n lo hi r. g.room (f.some n) lo hi (f.room n lo hi r);
  some = λ n. g.some (f.some n);
}

pub finer_range : (pieces : List (Piece ℕ)) (fragments : List Fragment) (pieces2 : List (Piece ℕ)) (fragments2 : List Fragment) → IsFiner pieces fragments pieces2 fragments2 → (fragments ≡ [] → ⊥) → (lo hi : ℕ) → IsReady fragments lo hi → IsReady fragments2 lo hi
finer_range pieces fragments pieces2 fragments2 f n lo hi r = record { begins = f.divided n lo r.begins; ends = f.divided n hi r.ends; room = f.room n lo hi r.room }

same_asked_more : (fragments new : List Fragment) (k : ℕ) → length new ≡ length fragments + 1 → ((i : ℕ) (a : Fragment) → slice_get fragments i ≡ Some a → (b : Fragment) × (slice_get new i ≡ Some b) × (b.lo ≡ a.lo) × (b.asked ≡ a.asked)) → ((b : Fragment) → slice_get new (length fragments) ≡ Some b → b.asked ≡ false) → is_asked new k ≡ is_asked fragments k
same_asked_more [] [] k size f last = absurd (omega (arith, size))
same_asked_more [] (b ∷ []) k size f last = rw (last b refl) refl
same_asked_more [] (b ∷ c ∷ new) k size f last = absurd (omega (arith, size))
same_asked_more (a ∷ fragments) [] k size f last = absurd (omega (arith, size))
same_asked_more (a ∷ fragments) (b ∷ new) k size f last =
    let r = f 0 a refl in
    let e : r.0 ≡ b = some_is (sym r.1) in
    rw (ap (λ (x : Fragment). x.asked) (sym e) ∙ r.3, ap (λ (x : Fragment). x.lo) (sym e) ∙ r.2, same_asked_more fragments new k (omega (arith, size)) (λ i c h. f (suc i) c h) (λ c h. last c h)) refl

module _ (pieces : List (Piece ℕ)) (fragments : List Fragment) (new_pieces : List (Piece ℕ)) (new : List Fragment) (at cell : ℕ) (d : IsDividedAt pieces fragments new_pieces new at cell) where
  abbrev n : ℕ
  n = length fragments

  abbrev front : Fragment
  front = record d.old { hi = cell }

  within_test : (c : ℕ) → cell ≤ c → c < d.old.hi → value_at new_pieces c ≡ Some n
  within_test c l h = d.map c ∙ rw (both_of (nat_le cell c) (nat_lt c d.old.hi) (grind (arith, nat_tests)) (grind (arith, nat_tests))) refl

  outside_test : (c : ℕ) → (c < cell) ⊎ (d.old.hi ≤ c) → value_at new_pieces c ≡ value_at pieces c
  outside_test c o = d.map c ∙ rw (go o (bools (nat_le cell c && nat_lt c d.old.hi))) refl
    where
      go : (c < cell) ⊎ (d.old.hi ≤ c) → ((nat_le cell c && nat_lt c d.old.hi) ≡ true) ⊎ ((nat_le cell c && nat_lt c d.old.hi) ≡ false) → (nat_le cell c && nat_lt c d.old.hi) ≡ false
      go x (inr e) = e
      go (inl x) (inl e) = let k = both (nat_le cell c) (nat_lt c d.old.hi) e in absurd (grind (arith, nat_tests, k.0, x))
      go (inr x) (inl e) = let k = both (nat_le cell c) (nat_lt c d.old.hi) e in absurd (grind (arith, nat_tests, k.1, x))

  -- the cell is among those of the new fragment, or not
  parted : (c : ℕ) → ((c < cell) ⊎ (d.old.hi ≤ c)) ⊎ ((cell ≤ c) × (c < d.old.hi))
  parted c = go (before_or c cell) (before_or c d.old.hi)
    where
      go : (c < cell) ⊎ (cell ≤ c) → (c < d.old.hi) ⊎ (d.old.hi ≤ c) → ((c < cell) ⊎ (d.old.hi ≤ c)) ⊎ ((cell ≤ c) × (c < d.old.hi))
      go (inl x) y = inl (inl x)
      go (inr x) (inr y) = inl (inr y)
      go (inr x) (inl y) = inr (x, y)

  -- A fragment of the new ones is one of the old, the front, or the back.
  data IsPart (i : ℕ) (b : Fragment) : Type 0 where
    old_part : (i ≡ at → ⊥) → i < n → slice_get fragments i ≡ Some b → IsPart i b
    front_part : i ≡ at → b ≡ front → IsPart i b
    back_part : i ≡ n → b ≡ d.back → IsPart i b

  part_of : (i : ℕ) (b : Fragment) → slice_get new i ≡ Some b → IsPart i b
  part_of i b e = go (compared i n) (same_number i at)
    where
      go : (i < n) ⊎ ((i ≡ n) ⊎ (n < i)) → (i ≡ at) ⊎ (i ≡ at → ⊥) → IsPart i b
      go (inl l) (inr x) = old_part x l (sym (d.other i x l) ∙ e)
      go (inl l) (inl x) = front_part x (same_at e (subst (λ (j : ℕ). slice_get new j ≡ Some front) (sym x) d.front))
      go (inr (inl x)) k = back_part x (same_at e (subst (λ (j : ℕ). slice_get new j ≡ Some d.back) (sym x) d.back_is))
      go (inr (inr x)) k = absurd (omega (arith, x, slice_get_within new i b e, d.size))

  at_within : at < n
  at_within = slice_get_within fragments at d.old d.old_is

  module _ (s : AreFragments pieces fragments) where
    here_of_cell : (c i : ℕ) → value_at new_pieces c ≡ Some i → ((c < cell) ⊎ (d.old.hi ≤ c)) ⊎ ((cell ≤ c) × (c < d.old.hi)) → (b : Fragment) × (slice_get new i ≡ Some b) × (b.lo ≤ c) × (c < b.hi)
    here_of_cell c i e (inr (l, h)) =
        let same : n ≡ i = some_is (sym (within_test c l h) ∙ e) in
        (d.back, subst (λ (j : ℕ). slice_get new j ≡ Some d.back) same d.back_is, omega (arith, d.back_lo, l), omega (arith, d.back_hi, h))
    here_of_cell c i e (inl o) = let a = s.here c i (sym (outside_test c o) ∙ e) in in_two a.0 a.1 a.2 a.3 o (same_number i at)
      where
        in_two : (a : Fragment) → slice_get fragments i ≡ Some a → a.lo ≤ c → c < a.hi → (c < cell) ⊎ (d.old.hi ≤ c) → (i ≡ at) ⊎ (i ≡ at → ⊥) → (b : Fragment) × (slice_get new i ≡ Some b) × (b.lo ≤ c) × (c < b.hi)
        in_two a is l h o (inr x) = (a, d.other i x (slice_get_within fragments i a is) ∙ is, l, h)
        in_two a is l h o (inl x) =
            let same : a ≡ d.old = same_at (subst (λ (j : ℕ). slice_get fragments j ≡ Some a) x is) d.old_is in
            (front, subst (λ (j : ℕ). slice_get new j ≡ Some front) (sym x) d.front, omega (arith, l, ap (λ (z : Fragment). z.lo) same), front_end o (ap (λ (z : Fragment). z.hi) same))
          where
            front_end : (c < cell) ⊎ (d.old.hi ≤ c) → a.hi ≡ d.old.hi → c < cell
            front_end (inl y) same = y
            front_end (inr y) same = absurd (omega (arith, y, h, same))

    there_of : (i : ℕ) (b : Fragment) (c : ℕ) → IsPart i b → b.lo ≤ c → c < b.hi → value_at new_pieces c ≡ Some i
    there_of i b c (old_part x l is) lo hi = go (parted c)
      where
        go : ((c < cell) ⊎ (d.old.hi ≤ c)) ⊎ ((cell ≤ c) × (c < d.old.hi)) → value_at new_pieces c ≡ Some i
        go (inl o) = outside_test c o ∙ s.there i b c is lo hi
        go (inr (y, z)) = absurd (x (one_place pieces fragments s i at b d.old c is d.old_is lo hi (omega (arith, y, d.begins)) z))
    there_of i b c (front_part x same) lo hi =
        let l : d.old.lo ≤ c = omega (arith, lo, ap (λ (z : Fragment). z.lo) same) in
        let h : c < cell = omega (arith, hi, ap (λ (z : Fragment). z.hi) same) in
        outside_test c (inl h) ∙ s.there at d.old c d.old_is l (omega (arith, h, d.ends)) ∙ ap Some (sym x)
    there_of i b c (back_part x same) lo hi = within_test c (omega (arith, lo, ap (λ (z : Fragment). z.lo) same, d.back_lo)) (omega (arith, hi, ap (λ (z : Fragment). z.hi) same, d.back_hi)) ∙ ap Some (sym x)

    old_right : IsFragment d.old
    old_right = s.right at d.old d.old_is

    right_of : (i : ℕ) (b : Fragment) → IsPart i b → IsFragment b
    right_of i b (old_part x l is) = s.right i b is
    right_of i b (front_part x same) = subst IsFragment (sym same) (record { some = d.begins; within = omega (arith, d.ends, old_right.within); settled = old_right.settled; entries = old_right.entries })
    right_of i b (back_part x same) =
        subst IsFragment (sym same)
        (record { some = omega (arith, d.back_lo, d.back_hi, d.ends); within = omega (arith, d.back_hi, old_right.within); settled = d.back_settled ∙ old_right.settled; entries = subst AreEntries (sym d.back_here) old_right.entries })

    whole_of : (fragments ≡ []) ⊎ ((c : ℕ) → c < 1048576 → (i : ℕ) × (value_at pieces c ≡ Some i)) → (new ≡ []) ⊎ ((c : ℕ) → c < 1048576 → (i : ℕ) × (value_at new_pieces c ≡ Some i))
    whole_of (inl z) = absurd (omega (arith, at_within, ap length z))
    whole_of (inr f) = inr (λ c l. go c l (parted c))
      where
        go : (c : ℕ) → c < 1048576 → ((c < cell) ⊎ (d.old.hi ≤ c)) ⊎ ((cell ≤ c) × (c < d.old.hi)) → (i : ℕ) × (value_at new_pieces c ≡ Some i)
        go c l (inl o) = let r = f c l in (r.0, outside_test c o ∙ r.1)
        go c l (inr (x, y)) = (n, within_test c x y)

    pub divided_are : AreFragments new_pieces new
    divided_are = record { here = λ c i e. here_of_cell c i e (parted c); there = λ i b c e l h. there_of i b c (part_of i b e) l h; right = λ i b e. right_of i b (part_of i b e); whole = whole_of s.whole }

    -- the accesses to a cell are those of its fragment before
    same_here : (i : ℕ) (b : Fragment) (c : ℕ) → IsPart i b → b.lo ≤ c → c < b.hi → (j : ℕ) (a : Fragment) → slice_get fragments j ≡ Some a → a.lo ≤ c → c < a.hi → here_of b ≡ here_of a
    same_here i b c (old_part x l is) lo hi j a a_is al ah = ap here_of (one_fragment pieces fragments s i j b a c is a_is lo hi al ah)
    same_here i b c (front_part x same) lo hi j a a_is al ah =
        ap here_of same ∙ ap here_of (one_fragment pieces fragments s at j d.old a c d.old_is a_is (omega (arith, lo, ap (λ (z : Fragment). z.lo) same)) (omega (arith, hi, ap (λ (z : Fragment). z.hi) same, d.ends)) al ah)
    same_here i b c (back_part x same) lo hi j a a_is al ah =
        ap here_of same ∙ d.back_here
        ∙ ap here_of (one_fragment pieces fragments s at j d.old a c d.old_is a_is (omega (arith, lo, ap (λ (z : Fragment). z.lo) same, d.back_lo, d.begins)) (omega (arith, hi, ap (λ (z : Fragment). z.hi) same, d.back_hi)) al ah)

    divided_cell : (c : ℕ) → here_by new_pieces new c ≡ here_by pieces fragments c
    divided_cell c = go (placed pieces fragments s c) (placed new_pieces new divided_are c) (parted c)
      where
        go : (value_at pieces c ≡ None) ⊎ IsPlaced pieces fragments c → (value_at new_pieces c ≡ None) ⊎ IsPlaced new_pieces new c → ((c < cell) ⊎ (d.old.hi ≤ c)) ⊎ ((cell ≤ c) × (c < d.old.hi)) → here_by new_pieces new c ≡ here_by pieces fragments c
        go (inl e) (inl f) o = read_here new_pieces new c None f ∙ sym (read_here pieces fragments c None e)
        go (inr p) (inr q) o =
            read_some new_pieces new c q.at q.one q.at_is q.one_is ∙ same_here q.at q.one c (part_of q.at q.one q.one_is) q.lo q.hi p.at p.one p.one_is p.lo p.hi ∙ sym (read_some pieces fragments c p.at p.one p.at_is p.one_is)
        go (inl e) (inr q) (inl o) = absurd (some_none (sym q.at_is ∙ outside_test c o ∙ e))
        go (inl e) (inr q) (inr (x, y)) = absurd (some_none (sym (s.there at d.old c d.old_is (omega (arith, x, d.begins)) y) ∙ e))
        go (inr p) (inl f) (inl o) = absurd (some_none (sym p.at_is ∙ sym (outside_test c o) ∙ f))
        go (inr p) (inl f) (inr (x, y)) = absurd (some_none (sym (within_test c x y) ∙ f))

  divided_asked : (k : ℕ) → is_asked new k ≡ is_asked fragments k
  divided_asked k = same_asked_more fragments new k d.size (λ i a e. go i a e (same_number i at)) (λ b e. ap (λ (z : Fragment). z.asked) (same_at e d.back_is) ∙ d.back_asked)
    where
      go : (i : ℕ) (a : Fragment) → slice_get fragments i ≡ Some a → (i ≡ at) ⊎ (i ≡ at → ⊥) → (b : Fragment) × (slice_get new i ≡ Some b) × (b.lo ≡ a.lo) × (b.asked ≡ a.asked)
      go i a e (inr x) = (a, d.other i x (slice_get_within fragments i a e) ∙ e, refl, refl)
      go i a e (inl x) =
          let same : d.old ≡ a = same_at d.old_is (subst (λ (j : ℕ). slice_get fragments j ≡ Some a) x e) in
          (front, subst (λ (j : ℕ). slice_get new j ≡ Some front) (sym x) d.front, ap (λ (z : Fragment). z.lo) same, ap (λ (z : Fragment). z.asked) same)

  divided_still : (k : ℕ) → IsDivided fragments k → IsDivided new k
  divided_still k div i b e = go (part_of i b e)
    where
      go : IsPart i b → (k ≤ b.lo) ⊎ (b.hi ≤ k)
      go (old_part x l is) = div i b is
      go (front_part x same) = on (div at d.old d.old_is)
        where
          on : (k ≤ d.old.lo) ⊎ (d.old.hi ≤ k) → (k ≤ b.lo) ⊎ (b.hi ≤ k)
          on (inl y) = inl (omega (arith, y, ap (λ (z : Fragment). z.lo) same))
          on (inr y) = inr (omega (arith, y, d.ends, ap (λ (z : Fragment). z.hi) same))
      go (back_part x same) = on (div at d.old d.old_is)
        where
          on : (k ≤ d.old.lo) ⊎ (d.old.hi ≤ k) → (k ≤ b.lo) ⊎ (b.hi ≤ k)
          on (inl y) = inl (omega (arith, y, d.begins, d.back_lo, ap (λ (z : Fragment). z.lo) same))
          on (inr y) = inr (omega (arith, y, d.back_hi, ap (λ (z : Fragment). z.hi) same))

  divided_room : (lo hi : ℕ) → HaveRoom fragments lo hi → HaveRoom new lo hi
  divided_room lo hi r i b e x y = go (part_of i b e)
    where
      go : IsPart i b → HasRoom b
      go (old_part w l is) = r i b is x y
      go (front_part w same) =
          let k = r at d.old d.old_is (omega (arith, x, d.ends, ap (λ (z : Fragment). z.hi) same)) (omega (arith, y, ap (λ (z : Fragment). z.lo) same)) in subst HasRoom (sym same) (record { line = k.line; tasks = k.tasks })
      go (back_part w same) = subst HasRoom (sym same) d.back_room

  pub divided_here : AreFragments pieces fragments → IsDivided new cell
  divided_here s = subst (λ (k : ℕ). IsDivided new k) d.back_lo (begin_divides new_pieces new (divided_are s) n d.back d.back_is)

  pub divided_finer : IsFiner pieces fragments new_pieces new
  divided_finer = record {
    are = divided_are;
    here = λ s c. less_same (here_by pieces fragments c) (here_by new_pieces new c) (sym (divided_cell s c));
    asked = divided_asked;
    divided = λ x. divided_still;
    room = λ x. divided_room;
    some = λ x z. absurd (omega (arith, d.size, ap length z));
  }

get_front : {A : Type 0} (xs ys : List A) (i : ℕ) → i < length xs → slice_get (xs ++ ys) i ≡ slice_get xs i
get_front [] ys i h = absurd (omega (arith, h))
get_front (x ∷ xs) ys zero h = refl
get_front (x ∷ xs) ys (suc i) h = get_front xs ys i (omega (arith, h))

get_last : {A : Type 0} (xs : List A) (y : A) → slice_get (xs ++ y ∷ []) (length xs) ≡ Some y
get_last [] y = refl
get_last (x ∷ xs) y = get_last xs y

-- what is pushed behind all others, once the old one ends at the cell
pub divided_of : (pieces : List (Piece ℕ)) (fragments : List Fragment) (new_pieces : List (Piece ℕ)) (new : List Fragment) (at cell : ℕ) (old b : Fragment) → slice_get fragments at ≡ Some old → old.lo < cell → cell < old.hi
    → new ≡ set fragments at (record old { hi = cell }) ++ b ∷ [] → b.lo ≡ cell → b.hi ≡ old.hi → b.asked ≡ false → here_of b ≡ here_of old → b.line.head ≡ old.line.head → HasRoom b
    → Assigns cell old.hi (Some (length fragments)) pieces new_pieces → IsDividedAt pieces fragments new_pieces new at cell
divided_of pieces fragments new_pieces new at cell old b old_is begins ends is lo hi asked here settled room map = record {
  old = old;
  old_is = old_is;
  begins = begins;
  ends = ends;
  size = ap length is ∙ length_push written b ∙ ap (λ (k : ℕ). k + 1) (length-set fragments at (record old { hi = cell }));
  front = ap (λ (xs : List Fragment). slice_get xs at) is ∙ get_front written (b ∷ []) at (omega (arith, length-set fragments at (record old { hi = cell }), slice_get_within fragments at old old_is)) ∙ get_set_same fragments at (record old { hi = cell }) (slice_get_within fragments at old old_is);
  back = b;
  back_is = ap (λ (xs : List Fragment). slice_get xs (length fragments)) is ∙ subst (λ (k : ℕ). slice_get (written ++ b ∷ []) k ≡ Some b) (length-set fragments at (record old { hi = cell })) (get_last written b);
  back_lo = lo;
  back_hi = hi;
  back_asked = asked;
  back_settled = settled;
  back_here = here;
  back_room = room;
  other = λ i n l. ap (λ (xs : List Fragment). slice_get xs i) is ∙ get_front written (b ∷ []) i (omega (arith, length-set fragments at (record old { hi = cell }), l)) ∙ get_set_other fragments at i (record old { hi = cell }) n;
  map = map;
}
  where
    written : List Fragment
    written = set fragments at (record old { hi = cell })

pub assigned_as : (lo hi hi2 n n2 : ℕ) (pieces pieces2 new_pieces : List (Piece ℕ)) → Assigns lo hi (Some n) pieces new_pieces → hi ≡ hi2 → n ≡ n2 → pieces ≡ pieces2 → Assigns lo hi2 (Some n2) pieces2 new_pieces
assigned_as lo hi hi2 n n2 pieces pieces2 new_pieces a e f g =
    subst (λ (h : ℕ). Assigns lo h (Some n2) pieces2 new_pieces) e (subst (λ (k : ℕ). Assigns lo hi (Some k) pieces2 new_pieces) f (subst (λ (ps : List (Piece ℕ)). Assigns lo hi (Some n) ps new_pieces) g a))

pub finer_divide : {E : Type 0} (r : Result (Unit {0}) E) (pieces : List (Piece ℕ)) (fragments : List Fragment) (new_pieces : List (Piece ℕ)) (new : List Fragment) (at cell : ℕ) → OnOk r (IsDividedAt pieces fragments new_pieces new at cell)
    → OnErr r (new_pieces ≡ pieces) → OnErr r (new ≡ fragments) → IsFiner pieces fragments new_pieces new
finer_divide (Ok x) pieces fragments new_pieces new at cell d e f = divided_finer pieces fragments new_pieces new at cell d
finer_divide (Err x) pieces fragments new_pieces new at cell d e f = subst (λ (ps : List (Piece ℕ)). IsFiner pieces fragments ps new) (sym e) (subst (λ (xs : List Fragment). IsFiner pieces fragments pieces xs) (sym f) (finer_same pieces fragments))

pub ok_divides : {E : Type 0} (r : Result (Unit {0}) E) (pieces : List (Piece ℕ)) (fragments : List Fragment) (new_pieces : List (Piece ℕ)) (new : List Fragment) (at cell : ℕ) → AreFragments pieces fragments → OnOk r (IsDividedAt pieces fragments new_pieces new at cell)
    → OnOk r (IsDivided new cell)
ok_divides (Ok x) pieces fragments new_pieces new at cell s d = divided_here pieces fragments new_pieces new at cell d s
ok_divides (Err x) pieces fragments new_pieces new at cell s d = tt

pub finer_ready : (pieces : List (Piece ℕ)) (fragments : List Fragment) (pieces2 : List (Piece ℕ)) (fragments2 : List Fragment) → IsFiner pieces fragments pieces2 fragments2 → (accesses : List Access) → AreReady accesses fragments → AreReady accesses fragments2
finer_ready pieces fragments pieces2 fragments2 f accesses r = record { some = f.some r.some; each = λ a i. finer_range pieces fragments pieces2 fragments2 f r.some a.range.lo a.range.hi (r.each a i) }
