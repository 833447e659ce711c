-- Which of some cells are released, run by run and clause by clause.
use Rattle.std.proofs.Common.{◌≡◌, ◌≤◌, ◌<◌, ◌+◌, ◌⊎◌, inl, inr, refl, sym, subst, ap, ◌∙◌, ℕ, Bool, true, false, List, [], ◌∷◌, Option, Some, None, arith}
use Rattle.std.specs.Prelude.{◌||◌, ◌&&◌, ◌==◌, is_some}
use Rattle.std.proofs.lemmas.Bool.Decides.{nat_tests}
use Rattle.oss_syntax.specs.declared.access.Access.{Access}
use Rattle.oss_syntax.specs.declared.access.Range.{Range}
use Rattle.oss_model.specs.Context.{in_clauses}
use Rattle.oss_ranges.specs.declared.piece.Piece.{Piece}
use Rattle.oss_ranges.specs.Cells.{is_within, value_at}
use Rattle.oss_needs.specs.declared.clause.Clause.{Clause}
use Rattle.oss_pieces.specs.CellSets.{SetOfCells, has}
use Rattle.oss_lent_cells.specs.Kept.{in_ranges}
use Rattle.oss_missing_waits.specs.Kept.{AreReleased, IsAddedFrom}
use Rattle.oss_missing_waits.proofs.WithinLemmas.{bools, is_behind, is_none, last_alone, last_too, same_beside, within_of}

-- Tests
parted : (x y r : Bool) → ((x && r) || (y && r)) ≡ ((x || y) && r)
parted true true true = refl
parted true true false = refl
parted true false true = refl
parted true false false = refl
parted false y r = refl

nothing_more : (r : Bool) → ((r && false) || false) ≡ false
nothing_more true = refl
nothing_more false = refl

no_more : (r : Bool) → (r && false) ≡ false
no_more true = refl
no_more false = refl

in_one : (x y z : Bool) → (x || (y || z)) ≡ ((x || y) || z)
in_one true y z = refl
in_one false y z = refl

-- A range, run by run.
pub added_none : (lo : ℕ) (released s : SetOfCells) → IsAddedFrom lo lo released s s
added_none lo released s c = ap (λ (b : Bool). (b && has released c) || has s c) (sym (is_none lo c))

pub added_run : (lo from to : ℕ) (released first old new : SetOfCells) → lo ≤ from → from ≤ to → ((c : ℕ) → from ≤ c → c < to → has released c ≡ true)
    → ((c : ℕ) → has new c ≡ (is_within from to c || has old c)) → IsAddedFrom lo from released first old → IsAddedFrom lo to released first new
added_run lo from to released first old new l m run now before c = go (bools (is_within from to c))
  where
    inside : is_within from to c ≡ true → has new c ≡ ((is_within lo to c && has released c) || has first c)
    inside e =
        let w = within_of from to c e in
        now c ∙ ap (λ (b : Bool). b || has old c) e ∙ ap (λ (b : Bool). (true && b) || has first c) (sym (run c w.0 w.1)) ∙ ap (λ (b : Bool). (b && has released c) || has first c) (sym (last_too lo from to c l e))

    beside : is_within from to c ≡ false → has new c ≡ ((is_within lo to c && has released c) || has first c)
    beside e = now c ∙ ap (λ (b : Bool). b || has old c) e ∙ before c ∙ ap (λ (b : Bool). (b && has released c) || has first c) (sym (same_beside lo from to c l m e))

    go : (is_within from to c ≡ true) ⊎ (is_within from to c ≡ false) → has new c ≡ ((is_within lo to c && has released c) || has first c)
    go (inl e) = inside e
    go (inr e) = beside e

pub added_past : (lo from to : ℕ) (released first old : SetOfCells) → lo ≤ from → from ≤ to → ((c : ℕ) → from ≤ c → c < to → has released c ≡ false)
    → IsAddedFrom lo from released first old → IsAddedFrom lo to released first old
added_past lo from to released first old l m run before c = go (bools (is_within from to c))
  where
    inside : is_within from to c ≡ true → has old c ≡ ((is_within lo to c && has released c) || has first c)
    inside e =
        let w = within_of from to c e in
        before c ∙ ap (λ (b : Bool). (b && has released c) || has first c) (last_alone lo from to c e) ∙ ap (λ (b : Bool). (true && b) || has first c) (sym (run c w.0 w.1))
        ∙ ap (λ (b : Bool). (b && has released c) || has first c) (sym (last_too lo from to c l e))

    beside : is_within from to c ≡ false → has old c ≡ ((is_within lo to c && has released c) || has first c)
    beside e = before c ∙ ap (λ (b : Bool). (b && has released c) || has first c) (sym (same_beside lo from to c l m e))

    go : (is_within from to c ≡ true) ⊎ (is_within from to c ≡ false) → has old c ≡ ((is_within lo to c && has released c) || has first c)
    go (inl e) = inside e
    go (inr e) = beside e

-- Clauses and ranges, the last one first.
pub clauses_more : (a : Access) (rest : List Access) (released old new : SetOfCells) → AreReleased (in_clauses rest) released old → IsAddedFrom a.range.lo a.range.hi released old new → AreReleased (in_clauses (a ∷ rest)) released new
clauses_more a rest released old new before added c =
    added c ∙ ap (λ (b : Bool). (is_within a.range.lo a.range.hi c && has released c) || b) (before c) ∙ parted (is_within a.range.lo a.range.hi c) (in_clauses rest c) (has released c)

pub ranges_more : (r : Range) (rest : List Range) (released old new : SetOfCells) → AreReleased (in_ranges rest) released old → IsAddedFrom r.lo r.hi released old new → AreReleased (in_ranges (r ∷ rest)) released new
ranges_more r rest released old new before added c =
    added c ∙ ap (λ (b : Bool). (is_within r.lo r.hi c && has released c) || b) (before c) ∙ parted (is_within r.lo r.hi c) (in_ranges rest c) (has released c)

-- What clauses add to a set.
abbrev pub AreAdded : List Access → SetOfCells → SetOfCells → Type 0
AreAdded clauses old new = (c : ℕ) → has new c ≡ (in_clauses clauses c || has old c)

pub release_more : (a : Access) (rest : List Access) (first old new : SetOfCells) → AreAdded rest first old → ((c : ℕ) → has new c ≡ (is_within a.range.lo a.range.hi c || has old c)) → AreAdded (a ∷ rest) first new
release_more a rest first old new before added c =
    added c ∙ ap (λ (b : Bool). is_within a.range.lo a.range.hi c || b) (before c) ∙ in_one (is_within a.range.lo a.range.hi c) (in_clauses rest c) (has first c)

-- The cells before one of which clauses say something.
abbrev pub said_before : List (Piece Clause) → ℕ → ℕ → Bool
said_before ks from c = is_within 0 from c && is_some (value_at ks c)

pub said_none : (ks : List (Piece Clause)) (released s : SetOfCells) → ((c : ℕ) → has s c ≡ false) → AreReleased (said_before ks 0) released s
said_none ks released s none c = none c ∙ ap (λ (b : Bool). (b && is_some (value_at ks c)) && has released c) (sym (is_none 0 c))

pub said_run : (ks : List (Piece Clause)) (k : Clause) (from to : ℕ) (released old new : SetOfCells) → from ≤ to → ((e : ℕ) → from ≤ e → e < to → value_at ks e ≡ Some k) → IsAddedFrom from to released old new
    → AreReleased (said_before ks from) released old → AreReleased (said_before ks to) released new
said_run ks k from to released old new m run added before c = go (bools (is_within from to c))
  where
    both : (r : Bool) → ((true && r) || ((false && is_some (value_at ks c)) && r)) ≡ ((true && true) && r)
    both true = refl
    both false = refl

    inside : is_within from to c ≡ true → has new c ≡ (said_before ks to c && has released c)
    inside e =
        let w = within_of from to c e in
        added c ∙ ap (λ (b : Bool). (b && has released c) || has old c) e ∙ ap (λ (b : Bool). (true && has released c) || b) (before c)
        ∙ ap (λ (b : Bool). (true && has released c) || ((b && is_some (value_at ks c)) && has released c)) (last_alone 0 from to c e) ∙ both (has released c)
        ∙ ap (λ (v : Option Clause). (true && is_some v) && has released c) (sym (run c w.0 w.1)) ∙ ap (λ (b : Bool). (b && is_some (value_at ks c)) && has released c) (sym (last_too 0 from to c (omega arith) e))

    beside : is_within from to c ≡ false → has new c ≡ (said_before ks to c && has released c)
    beside e =
        added c ∙ ap (λ (b : Bool). (b && has released c) || has old c) e ∙ before c
        ∙ ap (λ (b : Bool). (b && is_some (value_at ks c)) && has released c) (sym (same_beside 0 from to c (omega arith) m e))

    go : (is_within from to c ≡ true) ⊎ (is_within from to c ≡ false) → has new c ≡ (said_before ks to c && has released c)
    go (inl e) = inside e
    go (inr e) = beside e

pub said_past : (ks : List (Piece Clause)) (from to : ℕ) (released old : SetOfCells) → from ≤ to → ((e : ℕ) → from ≤ e → e < to → value_at ks e ≡ None)
    → AreReleased (said_before ks from) released old → AreReleased (said_before ks to) released old
said_past ks from to released old m run before c = go (bools (is_within from to c))
  where
    inside : is_within from to c ≡ true → has old c ≡ (said_before ks to c && has released c)
    inside e =
        let w = within_of from to c e in
        before c ∙ ap (λ (b : Bool). (b && is_some (value_at ks c)) && has released c) (last_alone 0 from to c e)
        ∙ ap (λ (v : Option Clause). (true && is_some v) && has released c) (sym (run c w.0 w.1)) ∙ ap (λ (b : Bool). (b && is_some (value_at ks c)) && has released c) (sym (last_too 0 from to c (omega arith) e))

    beside : is_within from to c ≡ false → has old c ≡ (said_before ks to c && has released c)
    beside e = before c ∙ ap (λ (b : Bool). (b && is_some (value_at ks c)) && has released c) (sym (same_beside 0 from to c (omega arith) m e))

    go : (is_within from to c ≡ true) ⊎ (is_within from to c ≡ false) → has old c ≡ (said_before ks to c && has released c)
    go (inl e) = inside e
    go (inr e) = beside e

pub said_all : (ks : List (Piece Clause)) (end : ℕ) (released old : SetOfCells) → ((e : ℕ) → end ≤ e → value_at ks e ≡ None) → AreReleased (said_before ks end) released old
    → AreReleased (λ c. is_some (value_at ks c)) released old
said_all ks end released old past before c = go (bools (is_within 0 end c))
  where
    go : (is_within 0 end c ≡ true) ⊎ (is_within 0 end c ≡ false) → has old c ≡ (is_some (value_at ks c) && has released c)
    go (inl e) = before c ∙ ap (λ (b : Bool). (b && is_some (value_at ks c)) && has released c) e
    go (inr e) = before c ∙ ap (λ (b : Bool). (b && is_some (value_at ks c)) && has released c) e ∙ ap (λ (v : Option Clause). is_some v && has released c) (sym (past c (is_behind end c e)))

-- One cell.
same_cell : (cell c : ℕ) → (cell == c) ≡ true → cell ≡ c
same_cell cell c e = grind (arith, nat_tests)

within_one : (cell c : ℕ) → is_within cell (cell + 1) c ≡ (cell == c)
within_one cell c = go (bools (cell == c))
  where
    here : (cell == c) ≡ true → is_within cell (cell + 1) c ≡ true
    here e = grind (arith, nat_tests)

    there : (cell == c) ≡ false → is_within cell (cell + 1) c ≡ false
    there e = grind (arith, nat_tests)

    go : ((cell == c) ≡ true) ⊎ ((cell == c) ≡ false) → is_within cell (cell + 1) c ≡ (cell == c)
    go (inl e) = here e ∙ sym e
    go (inr e) = there e ∙ sym e

pub one_cell : (cell : ℕ) (released old new : SetOfCells) → has released cell ≡ true → ((c : ℕ) → has old c ≡ false) → ((c : ℕ) → has new c ≡ (is_within cell (cell + 1) c || has old c)) → AreReleased (λ c. cell == c) released new
one_cell cell released old new held none now c = go (bools (cell == c))
  where
    or_none : (b : Bool) → (b || false) ≡ b
    or_none true = refl
    or_none false = refl

    new_is : has new c ≡ (cell == c)
    new_is = now c ∙ ap (λ (b : Bool). is_within cell (cell + 1) c || b) (none c) ∙ or_none (is_within cell (cell + 1) c) ∙ within_one cell c

    go : ((cell == c) ≡ true) ⊎ ((cell == c) ≡ false) → has new c ≡ ((cell == c) && has released c)
    go (inl e) = new_is ∙ e ∙ sym (subst (λ (d : ℕ). has released d ≡ true) (same_cell cell c e) held) ∙ ap (λ (b : Bool). b && has released c) (sym e)
    go (inr e) = new_is ∙ e ∙ ap (λ (b : Bool). b && has released c) (sym e)

pub no_cell : (cell : ℕ) (released old : SetOfCells) → has released cell ≡ false → ((c : ℕ) → has old c ≡ false) → AreReleased (λ c. cell == c) released old
no_cell cell released old free none c = go (bools (cell == c))
  where
    go : ((cell == c) ≡ true) ⊎ ((cell == c) ≡ false) → has old c ≡ ((cell == c) && has released c)
    go (inl e) = none c ∙ sym (subst (λ (d : ℕ). has released d ≡ false) (same_cell cell c e) free) ∙ ap (λ (b : Bool). b && has released c) (sym e)
    go (inr e) = none c ∙ ap (λ (b : Bool). b && has released c) (sym e)

-- No cell of the clauses is past the last one.
pub clauses_bounded : (clauses : List Access) (c : ℕ) → 1048576 ≤ c → in_clauses clauses c ≡ false
clauses_bounded [] c m = refl
clauses_bounded (a ∷ rest) c m =
    let w = a.range.within in
    let e : is_within a.range.lo a.range.hi c ≡ false = past a.range.lo a.range.hi c w m in
    ap (λ (b : Bool). b || in_clauses rest c) e ∙ clauses_bounded rest c m
  where
    past : (lo hi d : ℕ) → hi ≤ 1048576 → 1048576 ≤ d → is_within lo hi d ≡ false
    past lo hi d w n = grind (arith, nat_tests)
