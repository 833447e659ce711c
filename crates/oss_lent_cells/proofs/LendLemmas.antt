-- What is lent, run by run.
use Rattle.std.proofs.Common.{◌≡◌, ◌≤◌, ◌<◌, ◌⊎◌, inl, inr, refl, sym, ap, ◌∙◌, ℕ, Bool, true, false, List, ◌∷◌, Option, Some, None, arith}
use Rattle.std.specs.Prelude.{◌||◌, if◌then◌else◌}
use Rattle.oss_syntax.specs.declared.access.Range.{Range}
use Rattle.oss_ranges.specs.declared.piece.Piece.{Piece}
use Rattle.oss_ranges.specs.Cells.{Assigns, is_within, value_at}
use Rattle.oss_needs.specs.declared.clause.Clause.{Clause}
use Rattle.oss_lent_cells.specs.declared.holder.Child.{Child}
use Rattle.oss_lent_cells.specs.declared.holder.Holder.{Holder}
use Rattle.oss_lent_cells.specs.declared.holder.Lent.{Lent}
use Rattle.oss_lent_cells.specs.Lent.{counted_if, lend_by, lent_to}
use Rattle.oss_lent_cells.specs.Kept.{AreLends, AreLentBefore, AreTakenBack, AreWaitedFor, IsLentTo, holder_by, in_ranges, said_before}
use Rattle.oss_lent_cells.proofs.WithinLemmas.{bools, is_behind, is_none, last_alone, last_too, same_beside, within_of}

pub lent_none : (h : Holder) (lo : ℕ) (ps : List (Piece Lent)) → IsLentTo h lo lo ps ps
lent_none h lo ps c = ap (λ (b : Bool). if b then Some (lent_to h (value_at ps c)) else value_at ps c) (sym (is_none lo c))

-- One run of cells more of a range.
pub lent_run : (h : Holder) (lo from to : ℕ) (first old new : List (Piece Lent)) (found : Option Lent) (l : Lent) → lo ≤ from → from ≤ to → ((c : ℕ) → from ≤ c → c < to → value_at old c ≡ found)
    → l ≡ lent_to h found → Assigns from to (Some l) old new → IsLentTo h lo from first old → IsLentTo h lo to first new
lent_run h lo from to first old new found l low m run is assigned before c = go (bools (is_within from to c))
  where
    inside : is_within from to c ≡ true → value_at new c ≡ (if is_within lo to c then Some (lent_to h (value_at first c)) else value_at first c)
    inside e =
        let w = within_of from to c e in
        let first_is : value_at old c ≡ value_at first c = before c ∙ ap (λ (b : Bool). if b then Some (lent_to h (value_at first c)) else value_at first c) (last_alone lo from to c e) in
        assigned c ∙ ap (λ (b : Bool). if b then Some l else value_at old c) e ∙ ap (λ (k : Lent). Some k) is ∙ ap (λ (o : Option Lent). Some (lent_to h o)) (sym (run c w.0 w.1) ∙ first_is)
        ∙ ap (λ (b : Bool). if b then Some (lent_to h (value_at first c)) else value_at first c) (sym (last_too lo from to c low e))

    beside : is_within from to c ≡ false → value_at new c ≡ (if is_within lo to c then Some (lent_to h (value_at first c)) else value_at first c)
    beside e =
        assigned c ∙ ap (λ (b : Bool). if b then Some l else value_at old c) e ∙ before c
        ∙ ap (λ (b : Bool). if b then Some (lent_to h (value_at first c)) else value_at first c) (sym (same_beside lo from to c low m e))

    go : (is_within from to c ≡ true) ⊎ (is_within from to c ≡ false) → value_at new c ≡ (if is_within lo to c then Some (lent_to h (value_at first c)) else value_at first c)
    go (inl e) = inside e
    go (inr e) = beside e

-- The clauses of a child, run by run.
pub lends_none : (h : Child) (ks : List (Piece Clause)) (ps : List (Piece Lent)) → AreLentBefore h ks 0 ps ps
lends_none h ks ps c = ap (λ (b : Bool). lend_by h.number h.line (counted_if h.is_final (if b then value_at ks c else None)) (value_at ps c)) (sym (is_none 0 c))

-- A run of cells of which the clauses say the same.
pub lends_run : (h : Child) (from to : ℕ) (ks : List (Piece Clause)) (k : Clause) (first old new : List (Piece Lent)) → from ≤ to → ((e : ℕ) → from ≤ e → e < to → value_at ks e ≡ Some k)
    → IsLentTo (holder_by h k) from to old new → AreLentBefore h ks from first old → AreLentBefore h ks to first new
lends_run h from to ks k first old new m run now before c = go (bools (is_within from to c))
  where
    inside : is_within from to c ≡ true → value_at new c ≡ lend_by h.number h.line (counted_if h.is_final (said_before ks to c)) (value_at first c)
    inside e =
        let w = within_of from to c e in
        let first_is : value_at old c ≡ value_at first c = before c ∙ ap (λ (b : Bool). lend_by h.number h.line (counted_if h.is_final (if b then value_at ks c else None)) (value_at first c)) (last_alone 0 from to c e) in
        now c ∙ ap (λ (b : Bool). if b then Some (lent_to (holder_by h k) (value_at old c)) else value_at old c) e
        ∙ ap (λ (o : Option Lent). Some (lent_to (holder_by h k) o)) first_is ∙ ap (λ (v : Option Clause). lend_by h.number h.line (counted_if h.is_final v) (value_at first c)) (sym (run c w.0 w.1))
        ∙ ap (λ (b : Bool). lend_by h.number h.line (counted_if h.is_final (if b then value_at ks c else None)) (value_at first c)) (sym (last_too 0 from to c (omega arith) e))

    beside : is_within from to c ≡ false → value_at new c ≡ lend_by h.number h.line (counted_if h.is_final (said_before ks to c)) (value_at first c)
    beside e =
        now c ∙ ap (λ (b : Bool). if b then Some (lent_to (holder_by h k) (value_at old c)) else value_at old c) e ∙ before c
        ∙ ap (λ (b : Bool). lend_by h.number h.line (counted_if h.is_final (if b then value_at ks c else None)) (value_at first c)) (sym (same_beside 0 from to c (omega arith) m e))

    go : (is_within from to c ≡ true) ⊎ (is_within from to c ≡ false) → value_at new c ≡ lend_by h.number h.line (counted_if h.is_final (said_before ks to c)) (value_at first c)
    go (inl e) = inside e
    go (inr e) = beside e

-- A run of cells of which they say nothing.
pub lends_past : (h : Child) (from to : ℕ) (ks : List (Piece Clause)) (first old : List (Piece Lent)) → from ≤ to → ((e : ℕ) → from ≤ e → e < to → value_at ks e ≡ None)
    → AreLentBefore h ks from first old → AreLentBefore h ks to first old
lends_past h from to ks first old m run before c = go (bools (is_within from to c))
  where
    inside : is_within from to c ≡ true → value_at old c ≡ lend_by h.number h.line (counted_if h.is_final (said_before ks to c)) (value_at first c)
    inside e =
        let w = within_of from to c e in
        before c ∙ ap (λ (b : Bool). lend_by h.number h.line (counted_if h.is_final (if b then value_at ks c else None)) (value_at first c)) (last_alone 0 from to c e)
        ∙ ap (λ (v : Option Clause). lend_by h.number h.line (counted_if h.is_final v) (value_at first c)) (sym (run c w.0 w.1))
        ∙ ap (λ (b : Bool). lend_by h.number h.line (counted_if h.is_final (if b then value_at ks c else None)) (value_at first c)) (sym (last_too 0 from to c (omega arith) e))

    beside : is_within from to c ≡ false → value_at old c ≡ lend_by h.number h.line (counted_if h.is_final (said_before ks to c)) (value_at first c)
    beside e = before c ∙ ap (λ (b : Bool). lend_by h.number h.line (counted_if h.is_final (if b then value_at ks c else None)) (value_at first c)) (sym (same_beside 0 from to c (omega arith) m e))

    go : (is_within from to c ≡ true) ⊎ (is_within from to c ≡ false) → value_at old c ≡ lend_by h.number h.line (counted_if h.is_final (said_before ks to c)) (value_at first c)
    go (inl e) = inside e
    go (inr e) = beside e

-- Behind the last cell the clauses say nothing.
whole : (ks : List (Piece Clause)) (end c : ℕ) → ((e : ℕ) → end ≤ e → value_at ks e ≡ None) → said_before ks end c ≡ value_at ks c
whole ks end c past = go (bools (is_within 0 end c))
  where
    go : (is_within 0 end c ≡ true) ⊎ (is_within 0 end c ≡ false) → said_before ks end c ≡ value_at ks c
    go (inl e) = ap (λ (b : Bool). if b then value_at ks c else None) e
    go (inr e) = ap (λ (b : Bool). if b then value_at ks c else None) e ∙ sym (past c (is_behind end c e))

pub lends_all : (h : Child) (end : ℕ) (ks : List (Piece Clause)) (first old : List (Piece Lent)) → ((e : ℕ) → end ≤ e → value_at ks e ≡ None) → AreLentBefore h ks end first old
    → AreLends h ks first old
lends_all h end ks first old past before lent kept c =
    before c ∙ ap (λ (v : Option Clause). lend_by h.number h.line (counted_if h.is_final v) (value_at first c)) (whole ks end c past) ∙ ap (λ (o : Option Lent). lend_by h.number h.line (counted_if h.is_final (value_at ks c)) o) (kept c)

-- Cells that are taken back, range by range.
taken : (a b : Bool) (v : Option Lent) → (if a then None else (if b then None else v)) ≡ (if a || b then None else v)
taken true b v = refl
taken false b v = refl

pub back_more : (r : Range) (rest : List Range) (first old new : List (Piece Lent)) → AreTakenBack rest first old → Assigns r.lo r.hi None old new → AreTakenBack (r ∷ rest) first new
back_more r rest first old new before assigned c =
    assigned c ∙ ap (λ (v : Option Lent). if is_within r.lo r.hi c then None else v) (before c) ∙ taken (is_within r.lo r.hi c) (in_ranges rest c) (value_at first c)

pub back_all : (named : List Range) (first old : List (Piece Lent)) → AreTakenBack named first old → AreWaitedFor named first old
back_all named first old before lent kept c = before c ∙ ap (λ (v : Option Lent). if in_ranges named c then None else v) (kept c)
