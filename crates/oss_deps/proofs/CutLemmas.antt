-- Begins of stretches become cuts.
use Rattle.std.proofs.Common.{◌≡◌, ℕ, ◌+◌, ◌<◌, ◌≤◌, zero, suc, refl, sym, ap, subst, ◌∙◌, List, [], ◌∷◌, ◌⊎◌, inl, inr, Bool, true, false, Option, Some, None, arith, length, get_or, set, drop}
use Rattle.std.proofs.lemmas.List.{length-set, drop_more, drop_all}
use Rattle.std.proofs.lemmas.Option.{slice_get_within}
use Rattle.std.specs.Prelude.{◌&&◌, ◌||◌, ◌==◌, slice_get, option_and_then}
use Rattle.oss_syntax.specs.declared.access.Access.{Access}
use Rattle.oss_syntax.specs.declared.access.Range.{Range}
use Rattle.oss_ranges.specs.declared.piece.Piece.{Piece}
use Rattle.oss_ranges.specs.Cells.{value_at}
use Rattle.oss_deps.specs.declared.opened.Open.{Open}
use Rattle.oss_deps.specs.declared.column.Column.{Column}
use Rattle.oss_deps.specs.Seen.{is_access_end, is_end}
use Rattle.oss_deps.specs.Kept.{given_in, given_at, is_asked, is_cut}
use Rattle.oss_deps.specs.Columns.{IsColumn, AreStretches, AreColumns, IsDivided, AreSameButAsked}
use Rattle.oss_deps.proofs.Basics.{some_is, some_none, same_at, options, value_within}
use Rattle.oss_deps.proofs.CloseLemmas.{same_number, get_set_same, get_set_other}

pub asked_begins : (columns : List Column) → AreSameButAsked columns columns
asked_begins columns = record { size = refl; each = λ i a e. (a, e, refl) }

pub asked_both : (a b c : List Column) → AreSameButAsked a b → AreSameButAsked b c → AreSameButAsked a c
asked_both a b c f g = record { size = g.size ∙ f.size; each = λ i x e. let y = f.each i x e in let z = g.each i y.0 y.1 in (z.0, z.1, z.2 ∙ ap (λ (w : Column). record w { asked = z.0.asked }) y.2) }

empty : (xs : List Column) → length xs ≡ 0 → xs ≡ []
empty [] e = refl
empty (x ∷ xs) e = absurd (omega (arith, e))

pub asked_some : (old new : List Column) → AreSameButAsked old new → (old ≡ [] → ⊥) → new ≡ [] → ⊥
asked_some old new f n z = n (empty old (sym f.size ∙ ap length z))

back : (old new : List Column) → AreSameButAsked old new → (i : ℕ) (b : Column) → slice_get new i ≡ Some b → (a : Column) × (slice_get old i ≡ Some a) × (b ≡ record a { asked = b.asked })
back old new f i b e =
    let a = value_within old i (omega (arith, slice_get_within new i b e, f.size)) in
    let t = f.each i a.0 a.1 in
    (a.0, a.1, subst (λ (x : Column). x ≡ record a.0 { asked = x.asked }) (same_at t.1 e) t.2)

pub asked_divided : (old new : List Column) → AreSameButAsked old new → (k : ℕ) → IsDivided old k → IsDivided new k
asked_divided old new f k d i b e = let a = back old new f i b e in go a.0 (ap (λ (x : Column). x.lo) a.2) (ap (λ (x : Column). x.hi) a.2) (d i a.0 a.1)
  where
    go : (a : Column) → b.lo ≡ a.lo → b.hi ≡ a.hi → (k ≤ a.lo) ⊎ (a.hi ≤ k) → (k ≤ b.lo) ⊎ (b.hi ≤ k)
    go a x y (inl h) = inl (omega (arith, x, h))
    go a x y (inr h) = inr (omega (arith, y, h))

pub asked_stretches : (pieces : List (Piece ℕ)) (old new : List Column) → AreSameButAsked old new → AreStretches pieces old → AreStretches pieces new
asked_stretches pieces old new f s = record {
  here = λ c i e. let a = s.here c i e in let t = f.each i a.0 a.1 in (t.0, t.1, omega (arith, ap (λ (x : Column). x.lo) t.2, a.2), omega (arith, ap (λ (x : Column). x.hi) t.2, a.3));
  there = λ i b c e l h. let a = back old new f i b e in s.there i a.0 c a.1 (omega (arith, ap (λ (x : Column). x.lo) a.2, l)) (omega (arith, ap (λ (x : Column). x.hi) a.2, h));
  some = λ i b e. let a = back old new f i b e in let k = s.some i a.0 a.1 in (omega (arith, ap (λ (x : Column). x.lo) a.2, ap (λ (x : Column). x.hi) a.2, k.0), omega (arith, ap (λ (x : Column). x.hi) a.2, k.1));
  whole = whole s.whole;
}
  where
    whole : (old ≡ []) ⊎ ((c : ℕ) → c < 1048576 → (i : ℕ) × (value_at pieces c ≡ Some i)) → (new ≡ []) ⊎ ((c : ℕ) → c < 1048576 → (i : ℕ) × (value_at pieces c ≡ Some i))
    whole (inl z) = inl (empty new (f.size ∙ ap length z))
    whole (inr g) = inr g

pub asked_columns : (opens : List Open) (pieces : List (Piece ℕ)) (old new : List Column) → AreSameButAsked old new → AreColumns opens pieces old → AreColumns opens pieces new
asked_columns opens pieces old new f k = record {
  stretches = asked_stretches pieces old new f k.stretches;
  right = λ i b c e l h.
      let a = back old new f i b e in
      let r = k.right i a.0 c a.1 (omega (arith, ap (λ (x : Column). x.lo) a.2, l)) (omega (arith, ap (λ (x : Column). x.hi) a.2, h)) in
      subst (λ (x : Column). IsColumn opens c x) (sym a.2) (record { linked = r.linked; marked = r.marked; shown = r.shown });
  none = λ z. k.none (empty old (sym f.size ∙ ap length z));
}

pub asked_given : (pieces : List (Piece ℕ)) (old new : List Column) → AreSameButAsked old new → AreStretches pieces old → (t c : ℕ) → given_at pieces new t c ≡ given_at pieces old t c
asked_given pieces old new f s t c = go (options (value_at pieces c))
  where
    read : (xs : List Column) (o : Option ℕ) → value_at pieces c ≡ o → given_at pieces xs t c ≡ given_in (option_and_then (slice_get xs) o) t
    read xs o e = ap (λ (x : Option ℕ). given_in (option_and_then (slice_get xs) x) t) e

    go : (value_at pieces c ≡ None) ⊎ ((i : ℕ) × (value_at pieces c ≡ Some i)) → given_at pieces new t c ≡ given_at pieces old t c
    go (inl e) = read new None e ∙ sym (read old None e)
    go (inr (i, e)) =
        let a = s.here c i e in
        let x = f.each i a.0 a.1 in
        read new (Some i) e ∙ ap (λ (o : Option Column). given_in o t) x.1 ∙ ap (λ (z : Column). given_in (Some z) t) x.2 ∙ sym (read old (Some i) e ∙ ap (λ (o : Option Column). given_in o t) a.1)

or_third : (a b c d : Bool) → a ≡ (b || c) → (d || a) ≡ ((d || b) || c)
or_third a b c true e = refl
or_third a b c false e = e

or_first : (p q r : Bool) → ((true && q) || r) ≡ (((p && q) || r) || q)
or_first true true r = refl
or_first true false true = refl
or_first true false false = refl
or_first false true true = refl
or_first false true false = refl
or_first false false true = refl
or_first false false false = refl

-- one more begin is asked for
pub asked_more : (columns : List Column) (at : ℕ) (a : Column) (k : ℕ) → slice_get columns at ≡ Some a → is_asked (set columns at (record a { asked = true })) k ≡ (is_asked columns k || (k == a.lo))
asked_more [] at a k e = absurd cc
asked_more (b ∷ columns) zero a k e = rw (sym (some_is e)) (or_first b.asked (k == b.lo) (is_asked columns k))
asked_more (b ∷ columns) (suc at) a k e = or_third (is_asked (set columns at (record a { asked = true })) k) (is_asked columns k) (k == a.lo) (b.asked && (k == b.lo)) (asked_more columns at a k e)

pub asked_set : (columns : List Column) (at : ℕ) (a : Column) → slice_get columns at ≡ Some a → AreSameButAsked columns (set columns at (record a { asked = true }))
asked_set columns at a e = record { size = length-set columns at (record a { asked = true }); each = λ i b f. of i b f (same_number i at) }
  where
    of : (i : ℕ) (b : Column) → slice_get columns i ≡ Some b → (i ≡ at) ⊎ (i ≡ at → ⊥) → (x : Column) × (slice_get (set columns at (record a { asked = true })) i ≡ Some x) × (x ≡ record b { asked = x.asked })
    of i b f (inr other) = (b, get_set_other columns at i (record a { asked = true }) other ∙ f, refl)
    of i b f (inl same) =
        let eq : a ≡ b = same_at e (subst (λ (j : ℕ). slice_get columns j ≡ Some b) same f) in (
          record a { asked = true },
          subst (λ (j : ℕ). slice_get (set columns at (record a { asked = true })) j ≡ Some (record a { asked = true })) (sym same) (get_set_same columns at (record a { asked = true }) (slice_get_within columns at a e)),
          ap (λ (z : Column). record z { asked = true }) eq,
        )

or_last : (x e q r : Bool) → q ≡ r → (x || (true && q)) ≡ ((x || (e && q)) || r)
or_last true e q r h = refl
or_last false true true r h = refl
or_last false true false r h = h
or_last false false q r h = h

pub cut_ended : (columns : List Column) (ended : Bool) (cell k : ℕ) → cell ≡ 1048576 → is_cut columns true k ≡ (is_cut columns ended k || (k == cell))
cut_ended columns ended cell k e = or_last (is_asked columns k) ended (k == 1048576) (k == cell) (ap (λ (x : ℕ). k == x) (sym e))

or_moved : (a b c d : Bool) → a ≡ (b || c) → (a || d) ≡ ((b || d) || c)
or_moved a true c d e = rw e refl
or_moved a false true true e = rw e refl
or_moved a false true false e = rw e refl
or_moved a false false true e = rw e refl
or_moved a false false false e = rw e refl

pub cut_asked : (columns : List Column) (ended : Bool) (at : ℕ) (a : Column) (cell k : ℕ) → slice_get columns at ≡ Some a → a.lo ≡ cell → is_cut (set columns at (record a { asked = true })) ended k ≡ (is_cut columns ended k || (k == cell))
cut_asked columns ended at a cell k e lo = or_moved (is_asked (set columns at (record a { asked = true })) k) (is_asked columns k) (k == cell) (ended && (k == 1048576)) (asked_more columns at a k e ∙ ap (λ (x : ℕ). is_asked columns k || (k == x)) lo)

pub ask_begin : (pieces : List (Piece ℕ)) (columns : List Column) (at cell : ℕ) (a : Column) → AreStretches pieces columns → IsDivided columns cell → value_at pieces cell ≡ Some at → slice_get columns at ≡ Some a → a.lo ≡ cell
ask_begin pieces columns at cell a s d here is = go (d at a is)
  where
    k : (a.lo ≤ cell) × (cell < a.hi)
    k = let x = s.here cell at here in subst (λ (z : Column). (z.lo ≤ cell) × (cell < z.hi)) (same_at x.1 is) (x.2, x.3)

    go : (cell ≤ a.lo) ⊎ (a.hi ≤ cell) → a.lo ≡ cell
    go (inl h) = omega (arith, h, k.0)
    go (inr h) = absurd (omega (arith, h, k.1))

pub ask_gap : (pieces : List (Piece ℕ)) (columns : List Column) (cell : ℕ) → AreStretches pieces columns → (columns ≡ [] → ⊥) → cell < 1048576 → value_at pieces cell ≡ None → ⊥
ask_gap pieces columns cell s n l e = go s.whole
  where
    go : (columns ≡ []) ⊎ ((c : ℕ) → c < 1048576 → (i : ℕ) × (value_at pieces c ≡ Some i)) → ⊥
    go (inl z) = n z
    go (inr f) = let i = f cell l in some_none (sym i.1 ∙ e)

or_assoc : (a b c d e : Bool) → a ≡ (b || c) → e ≡ (a || d) → e ≡ (b || (c || d))
or_assoc a true c d e f g = g ∙ ap (λ (x : Bool). x || d) f
or_assoc a false c d e f g = g ∙ ap (λ (x : Bool). x || d) f

pub cut_both : (x y z : Bool) (range : Range) (k : ℕ) → y ≡ (x || (k == range.lo)) → z ≡ (y || (k == range.hi)) → z ≡ (x || is_end range k)
cut_both x y z range k f g = or_assoc y x (k == range.lo) (k == range.hi) z f g

-- the ends of the accesses that are left
pub cut_left : (x y : Bool) (accesses : List Access) (j : ℕ) (a : Access) (k : ℕ) (all : Bool) → j < length accesses → a ≡ get_or accesses j a → (x || is_access_end (drop j accesses) k) ≡ all → y ≡ (x || is_end a.range k) → (y || is_access_end (drop (j + 1) accesses) k) ≡ all
cut_left x y accesses j a k all l e f g =
    or_assoc y x (is_end a.range k) (is_access_end (drop (j + 1) accesses) k) (y || is_access_end (drop (j + 1) accesses) k) g refl
    ∙ ap (λ (z : Bool). x || z) (sym (ap (λ (xs : List Access). is_access_end xs k) (drop_more accesses j a l ∙ ap (λ (z : Access). z ∷ drop (j + 1) accesses) (sym e))))
    ∙ f

or_none : (x : Bool) → x ≡ (x || false)
or_none true = refl
or_none false = refl

pub cut_done : (x : Bool) (accesses : List Access) (j k : ℕ) (all : Bool) → length accesses ≤ j → (x || is_access_end (drop j accesses) k) ≡ all → x ≡ all
cut_done x accesses j k all l f = or_none x ∙ ap (λ (xs : List Access). x || is_access_end xs k) (sym (drop_all j accesses l)) ∙ f
