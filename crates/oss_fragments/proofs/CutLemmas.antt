-- Begins of stretches become cuts.
use Rattle.std.proofs.Common.{◌≡◌, ℕ, ◌+◌, ◌<◌, ◌≤◌, zero, suc, refl, sym, ap, subst, ◌∙◌, List, [], ◌∷◌, ◌⊎◌, inl, inr, Bool, true, false, Some, None, arith, length, get_or, set, drop, eqb-true}
use Rattle.std.proofs.lemmas.List.{length-set, drop_more, drop_all}
use Rattle.std.proofs.lemmas.Option.{slice_get_within}
use Rattle.std.specs.Prelude.{◌&&◌, ◌||◌, ◌==◌, slice_get}
use Rattle.oss_syntax.specs.declared.access.Access.{Access}
use Rattle.oss_syntax.specs.declared.access.Range.{Range}
use Rattle.oss_ranges.specs.declared.piece.Piece.{Piece}
use Rattle.oss_ranges.specs.Cells.{value_at}
use Rattle.oss_fragments.specs.declared.fragment.Fragment.{Fragment}
use Rattle.oss_deps.specs.Seen.{is_access_end, is_end}
use Rattle.oss_fragments.specs.Kept.{here_by, is_asked, is_cut_by}
use Rattle.oss_fragments.specs.Here.{here_of}
use Rattle.oss_fragments.specs.Stretches.{AreFragments, IsFragment, IsDivided, HasRoom, HaveRoom, AreReady}
use Rattle.oss_fragments.specs.Changes.{AreSameButAsked}
use Rattle.std.proofs.lemmas.Bool.{eq-eqb}
use Rattle.oss_deps.proofs.Basics.{bools, both_of, or_cases, or_left, or_right, some_is, some_none, same_at, value_within}
use Rattle.oss_fragments.proofs.StretchLemmas.{IsPlaced, placed, read_here, read_some}
use Rattle.oss_deps.proofs.CloseLemmas.{same_number, get_set_same, get_set_other}

pub asked_begins : (fragments : List Fragment) → AreSameButAsked fragments fragments
asked_begins fragments = record { size = refl; each = λ i a e. (a, e, refl) }

pub asked_both : (a b c : List Fragment) → AreSameButAsked a b → AreSameButAsked b c → AreSameButAsked a c
asked_both a b c f g = record { size = g.size ∙ f.size; each = λ i x e. let y = f.each i x e in let z = g.each i y.0 y.1 in (z.0, z.1, z.2 ∙ ap (λ (w : Fragment). record w { asked = z.0.asked }) y.2) }

empty : (xs : List Fragment) → length xs ≡ 0 → xs ≡ []
empty [] e = refl
empty (x ∷ xs) e = absurd (omega (arith, e))

pub asked_some : (old new : List Fragment) → AreSameButAsked old new → (old ≡ [] → ⊥) → new ≡ [] → ⊥
asked_some old new f n z = n (empty old (sym f.size ∙ ap length z))

back : (old new : List Fragment) → AreSameButAsked old new → (i : ℕ) (b : Fragment) → slice_get new i ≡ Some b → (a : Fragment) × (slice_get old i ≡ Some a) × (b ≡ record a { asked = b.asked })
back old new f i b e =
    let a = value_within old i (omega (arith, slice_get_within new i b e, f.size)) in
    let t = f.each i a.0 a.1 in
    (a.0, a.1, subst (λ (x : Fragment). x ≡ record a.0 { asked = x.asked }) (same_at t.1 e) t.2)

pub asked_divided : (old new : List Fragment) → AreSameButAsked old new → (k : ℕ) → IsDivided old k → IsDivided new k
asked_divided old new f k d i b e = let a = back old new f i b e in go a.0 (ap (λ (x : Fragment). x.lo) a.2) (ap (λ (x : Fragment). x.hi) a.2) (d i a.0 a.1)
  where
    go : (a : Fragment) → b.lo ≡ a.lo → b.hi ≡ a.hi → (k ≤ a.lo) ⊎ (a.hi ≤ k) → (k ≤ b.lo) ⊎ (b.hi ≤ k)
    go a x y (inl h) = inl (omega (arith, x, h))
    go a x y (inr h) = inr (omega (arith, y, h))

pub asked_are : (pieces : List (Piece ℕ)) (old new : List Fragment) → AreSameButAsked old new → AreFragments pieces old → AreFragments pieces new
asked_are pieces old new f s = record {
  here = λ c i e. let a = s.here c i e in let t = f.each i a.0 a.1 in (t.0, t.1, omega (arith, ap (λ (x : Fragment). x.lo) t.2, a.2), omega (arith, ap (λ (x : Fragment). x.hi) t.2, a.3));
  there = λ i b c e l h. let a = back old new f i b e in s.there i a.0 c a.1 (omega (arith, ap (λ (x : Fragment). x.lo) a.2, l)) (omega (arith, ap (λ (x : Fragment). x.hi) a.2, h));
  right = λ i b e. let a = back old new f i b e in let k = s.right i a.0 a.1 in subst IsFragment (sym a.2) (record { some = k.some; within = k.within; settled = k.settled; entries = k.entries });
  whole = whole s.whole;
}
  where
    whole : (old ≡ []) ⊎ ((c : ℕ) → c < 1048576 → (i : ℕ) × (value_at pieces c ≡ Some i)) → (new ≡ []) ⊎ ((c : ℕ) → c < 1048576 → (i : ℕ) × (value_at pieces c ≡ Some i))
    whole (inl z) = inl (empty new (f.size ∙ ap length z))
    whole (inr g) = inr g

pub asked_here : (pieces : List (Piece ℕ)) (old new : List Fragment) → AreSameButAsked old new → AreFragments pieces old → (c : ℕ) → here_by pieces new c ≡ here_by pieces old c
asked_here pieces old new f s c = go (placed pieces old s c)
  where
    go : (value_at pieces c ≡ None) ⊎ IsPlaced pieces old c → here_by pieces new c ≡ here_by pieces old c
    go (inl e) = read_here pieces new c None e ∙ sym (read_here pieces old c None e)
    go (inr p) = let x = f.each p.at p.one p.one_is in read_some pieces new c p.at x.0 p.at_is x.1 ∙ ap here_of x.2 ∙ sym (read_some pieces old c p.at p.one p.at_is p.one_is)

pub asked_room : (old new : List Fragment) → AreSameButAsked old new → (lo hi : ℕ) → HaveRoom old lo hi → HaveRoom new lo hi
asked_room old new f lo hi r i b e x y = let a = back old new f i b e in let k = r i a.0 a.1 (omega (arith, x, ap (λ (z : Fragment). z.hi) a.2)) (omega (arith, y, ap (λ (z : Fragment). z.lo) a.2)) in subst HasRoom (sym a.2) (record { line = k.line; tasks = k.tasks })

pub asked_ready : (accesses : List Access) (old new : List Fragment) → AreSameButAsked old new → AreReady accesses old → AreReady accesses new
asked_ready accesses old new f r = record {
  some = asked_some old new f r.some;
  each = λ a i. let k = r.each a i in record { begins = asked_divided old new f a.range.lo k.begins; ends = asked_divided old new f a.range.hi k.ends; room = asked_room old new f a.range.lo a.range.hi k.room };
}

or_third : (a b c d : Bool) → a ≡ (b || c) → (d || a) ≡ ((d || b) || c)
or_third a b c true e = refl
or_third a b c false e = e

or_first : (p q r : Bool) → ((true && q) || r) ≡ (((p && q) || r) || q)
or_first true true r = refl
or_first true false true = refl
or_first true false false = refl
or_first false true true = refl
or_first false true false = refl
or_first false false true = refl
or_first false false false = refl

-- one more begin is asked for
pub asked_more : (fragments : List Fragment) (at : ℕ) (a : Fragment) (k : ℕ) → slice_get fragments at ≡ Some a → is_asked (set fragments at (record a { asked = true })) k ≡ (is_asked fragments k || (k == a.lo))
asked_more [] at a k e = absurd cc
asked_more (b ∷ fragments) zero a k e = rw (sym (some_is e)) (or_first b.asked (k == b.lo) (is_asked fragments k))
asked_more (b ∷ fragments) (suc at) a k e = or_third (is_asked (set fragments at (record a { asked = true })) k) (is_asked fragments k) (k == a.lo) (b.asked && (k == b.lo)) (asked_more fragments at a k e)

pub asked_set : (fragments : List Fragment) (at : ℕ) (a : Fragment) → slice_get fragments at ≡ Some a → AreSameButAsked fragments (set fragments at (record a { asked = true }))
asked_set fragments at a e = record { size = length-set fragments at (record a { asked = true }); each = λ i b f. of i b f (same_number i at) }
  where
    of : (i : ℕ) (b : Fragment) → slice_get fragments i ≡ Some b → (i ≡ at) ⊎ (i ≡ at → ⊥) → (x : Fragment) × (slice_get (set fragments at (record a { asked = true })) i ≡ Some x) × (x ≡ record b { asked = x.asked })
    of i b f (inr other) = (b, get_set_other fragments at i (record a { asked = true }) other ∙ f, refl)
    of i b f (inl same) =
        let eq : a ≡ b = same_at e (subst (λ (j : ℕ). slice_get fragments j ≡ Some b) same f) in (
          record a { asked = true },
          subst (λ (j : ℕ). slice_get (set fragments at (record a { asked = true })) j ≡ Some (record a { asked = true })) (sym same) (get_set_same fragments at (record a { asked = true }) (slice_get_within fragments at a e)),
          ap (λ (z : Fragment). record z { asked = true }) eq,
        )

-- where a fragment begins whose begin was asked for, and at the end of all cells once that was asked for, there is a cut

asked_at : (fragments : List Fragment) (at : ℕ) (a : Fragment) (k : ℕ) → slice_get fragments at ≡ Some a → a.asked ≡ true → a.lo ≡ k → is_asked fragments k ≡ true
asked_at [] at a k e asked lo = absurd cc
asked_at (b ∷ fragments) zero a k e asked lo =
    let same : b ≡ a = some_is e in
    or_left (b.asked && (k == b.lo)) (is_asked fragments k) (both_of b.asked (k == b.lo) (ap (λ (x : Fragment). x.asked) same ∙ asked) (eq-eqb k b.lo (sym (ap (λ (x : Fragment). x.lo) same ∙ lo))))
asked_at (b ∷ fragments) (suc at) a k e asked lo = or_right (b.asked && (k == b.lo)) (is_asked fragments k) (asked_at fragments at a k e asked lo)

pub cut_begins : (fragments : List Fragment) (ended : Bool) (at : ℕ) (a : Fragment) (k : ℕ) → slice_get fragments at ≡ Some a → (a.asked ≡ true) × (a.lo ≡ k) → is_cut_by fragments ended k ≡ true
cut_begins fragments ended at a k e h = or_left (is_asked fragments k) (ended && (k == 1048576)) (asked_at fragments at a k e h.0 h.1)

pub cut_at_end : (fragments : List Fragment) (ended : Bool) (k : ℕ) → ended ≡ true → k ≡ 1048576 → is_cut_by fragments ended k ≡ true
cut_at_end fragments ended k e is = or_right (is_asked fragments k) (ended && (k == 1048576)) (both_of ended (k == 1048576) e (eq-eqb k 1048576 is))

or_none : (x : Bool) → x ≡ (x || false)
or_none true = refl
or_none false = refl

-- where both ends of a range are cuts, they are no new ones
pub cuts_stay : (cut : ℕ → Bool) (range : Range) → cut range.lo ≡ true → cut range.hi ≡ true → (k : ℕ) → cut k ≡ (cut k || is_end range k)
cuts_stay cut range lo hi k = go (bools (is_end range k))
  where
    there : ((k == range.lo) ≡ true) ⊎ ((k == range.hi) ≡ true) → cut k ≡ true
    there (inl e) = ap cut (eqb-true k range.lo e) ∙ lo
    there (inr e) = ap cut (eqb-true k range.hi e) ∙ hi

    go : (is_end range k ≡ true) ⊎ (is_end range k ≡ false) → cut k ≡ (cut k || is_end range k)
    go (inl e) = let h = there (or_cases (k == range.lo) (k == range.hi) e) in h ∙ sym (or_left (cut k) (is_end range k) h)
    go (inr e) = or_none (cut k) ∙ ap (λ (x : Bool). cut k || x) (sym e)

or_last : (x e q r : Bool) → q ≡ r → (x || (true && q)) ≡ ((x || (e && q)) || r)
or_last true e q r h = refl
or_last false true true r h = refl
or_last false true false r h = h
or_last false false q r h = h

pub cut_ended : (fragments : List Fragment) (ended : Bool) (cell k : ℕ) → cell ≡ 1048576 → is_cut_by fragments true k ≡ (is_cut_by fragments ended k || (k == cell))
cut_ended fragments ended cell k e = or_last (is_asked fragments k) ended (k == 1048576) (k == cell) (ap (λ (x : ℕ). k == x) (sym e))

or_moved : (a b c d : Bool) → a ≡ (b || c) → (a || d) ≡ ((b || d) || c)
or_moved a true c d e = rw e refl
or_moved a false true true e = rw e refl
or_moved a false true false e = rw e refl
or_moved a false false true e = rw e refl
or_moved a false false false e = rw e refl

pub cut_asked : (fragments : List Fragment) (ended : Bool) (at : ℕ) (a : Fragment) (cell k : ℕ) → slice_get fragments at ≡ Some a → a.lo ≡ cell → is_cut_by (set fragments at (record a { asked = true })) ended k ≡ (is_cut_by fragments ended k || (k == cell))
cut_asked fragments ended at a cell k e lo = or_moved (is_asked (set fragments at (record a { asked = true })) k) (is_asked fragments k) (k == cell) (ended && (k == 1048576)) (asked_more fragments at a k e ∙ ap (λ (x : ℕ). is_asked fragments k || (k == x)) lo)

pub ask_begin : (pieces : List (Piece ℕ)) (fragments : List Fragment) (at cell : ℕ) (a : Fragment) → AreFragments pieces fragments → IsDivided fragments cell → value_at pieces cell ≡ Some at → slice_get fragments at ≡ Some a → a.lo ≡ cell
ask_begin pieces fragments at cell a s d here is = go (d at a is)
  where
    k : (a.lo ≤ cell) × (cell < a.hi)
    k = let x = s.here cell at here in subst (λ (z : Fragment). (z.lo ≤ cell) × (cell < z.hi)) (same_at x.1 is) (x.2, x.3)

    go : (cell ≤ a.lo) ⊎ (a.hi ≤ cell) → a.lo ≡ cell
    go (inl h) = omega (arith, h, k.0)
    go (inr h) = absurd (omega (arith, h, k.1))

pub ask_gap : (pieces : List (Piece ℕ)) (fragments : List Fragment) (cell : ℕ) → AreFragments pieces fragments → (fragments ≡ [] → ⊥) → cell < 1048576 → value_at pieces cell ≡ None → ⊥
ask_gap pieces fragments cell s n l e = go s.whole
  where
    go : (fragments ≡ []) ⊎ ((c : ℕ) → c < 1048576 → (i : ℕ) × (value_at pieces c ≡ Some i)) → ⊥
    go (inl z) = n z
    go (inr f) = let i = f cell l in some_none (sym i.1 ∙ e)

or_assoc : (a b c d e : Bool) → a ≡ (b || c) → e ≡ (a || d) → e ≡ (b || (c || d))
or_assoc a true c d e f g = g ∙ ap (λ (x : Bool). x || d) f
or_assoc a false c d e f g = g ∙ ap (λ (x : Bool). x || d) f

pub cut_both : (x y z : Bool) (range : Range) (k : ℕ) → y ≡ (x || (k == range.lo)) → z ≡ (y || (k == range.hi)) → z ≡ (x || is_end range k)
cut_both x y z range k f g = or_assoc y x (k == range.lo) (k == range.hi) z f g

-- the ends of the accesses that are left
pub cut_left : (x y : Bool) (accesses : List Access) (j : ℕ) (a : Access) (k : ℕ) (all : Bool) → j < length accesses → a ≡ get_or accesses j a → (x || is_access_end (drop j accesses) k) ≡ all → y ≡ (x || is_end a.range k) → (y || is_access_end (drop (j + 1) accesses) k) ≡ all
cut_left x y accesses j a k all l e f g =
    or_assoc y x (is_end a.range k) (is_access_end (drop (j + 1) accesses) k) (y || is_access_end (drop (j + 1) accesses) k) g refl
    ∙ ap (λ (z : Bool). x || z) (sym (ap (λ (xs : List Access). is_access_end xs k) (drop_more accesses j a l ∙ ap (λ (z : Access). z ∷ drop (j + 1) accesses) (sym e))))
    ∙ f

pub cut_done : (x : Bool) (accesses : List Access) (j k : ℕ) (all : Bool) → length accesses ≤ j → (x || is_access_end (drop j accesses) k) ≡ all → x ≡ all
cut_done x accesses j k all l f = or_none x ∙ ap (λ (xs : List Access). x || is_access_end xs k) (sym (drop_all j accesses l)) ∙ f
