-- One act, one task and one cell.
use Rattle.std.proofs.Common.{◌≡◌, refl, sym, ap, ◌∙◌, ℕ, Bool, true, false, List, [], ◌∷◌, ◌++◌, Option, Some, None}
use Rattle.std.specs.Prelude.{◌&&◌, ◌||◌, not, if◌then◌else◌}
use Rattle.oss_syntax.specs.declared.access.Access.{Access}
use Rattle.oss_syntax.specs.declared.access.Mode.{Mode}
use Rattle.oss_syntax.specs.declared.access.Mode.TheVariants.{Read, Write, Fold as Folding}
use Rattle.oss_syntax.specs.declared.fault.FaultKind.{FaultKind}
use Rattle.oss_syntax.specs.declared.fault.FaultKind.TheVariants as fault
use Rattle.oss_model.specs.Context.{lend_cell, lacks_right, made_mark, or_else}
use Rattle.oss_model.specs.Rights.{Folds, Free, Holds, Mark, NoRight, Reads, Released, Right, Touch, Writes, Written, covers, first_mark, is_fresh, is_mixed, is_released, mark_from, op_eq, right_from, touch_fault}
use Rattle.oss_needs.specs.declared.clause.Clause.{Clause}
use Rattle.oss_needs.specs.declared.clause.Given.TheVariants as given
use Rattle.oss_needs.specs.declared.demand.Demand.{Demand}
use Rattle.oss_needs.specs.declared.demand.Demand.TheVariants.{Create, Fold, Load, Release, Store, Wait}
use Rattle.oss_needs.specs.Claims.{all_right, is_nothing}
use Rattle.oss_needs.specs.Demands.{has_value, is_write, needs_old, takes_value}
use Rattle.oss_needs.specs.Givens.{given_of, said_by}
use Rattle.oss_needs.specs.Lacks.{is_unmet, lack_of}
use Rattle.oss_needs.specs.Meeting.{is_met, is_right, mark_behind, mark_by, right_by}
use Rattle.oss_needs.proofs.Bools.{and_false, first_true, never, or_false}
use Rattle.oss_needs.proofs.GivenLemmas.{lacks_faults}
use Rattle.oss_task_needs.specs.Asking.{creates}
use Rattle.oss_lent_cells.specs.declared.holder.Holder.{Holder}
use Rattle.oss_lent_cells.specs.declared.holder.Lent.{Lent}
use Rattle.oss_lent_cells.specs.Lent.{lent_to}
use Rattle.oss_missing_waits.specs.Holding.{hinderer, hinders_under}
use Rattle.oss_missing_laws.specs.Claims.{LacksGrow, LendingIsKept, MarksAreKept, MetIsUnbroken, NamesAreJudged, TouchesAreJudged}
use Rattle.oss_missing_laws.specs.Entries.{demand_by, fault_by, is_free, lending_of, lent_fault, lent_to_one, right_now}

-- The fault of a touch, where nothing is lent, and where a child has the cell.
or_same : (t : Bool) (k : FaultKind) → (if t then None else Some k) ≡ or_else (if t then None else Some k) (if t then None else Some k)
or_same true k = refl
or_same false k = refl

unlent : (m : Mode) (s : Bool) (mark : Mark) (t : Touch) → touch_fault (Holds m s) Free mark t ≡ or_else (touch_fault (Holds m s) Free Written t) (touch_fault (Holds m s) Free mark t)
unlent m false mark t = refl
unlent Read true mark Reads = refl
unlent Read true mark Writes = refl
unlent Read true mark (Folds op) = refl
unlent Write true mark Reads = refl
unlent Write true mark Writes = refl
unlent Write true mark (Folds op) = refl
unlent (Folding a) true mark Reads = refl
unlent (Folding a) true mark Writes = refl
unlent (Folding a) true mark (Folds b) = or_same (op_eq a b) fault.BadReduction

lent : (m : Mode) (s : Bool) (mark : Mark) (h : Holder) (w : Option Holder) (t : Touch)
    → touch_fault (Holds m s) (lent_to_one w) mark t
    ≡ or_else (touch_fault (Holds m s) Free Written t) (or_else (lent_fault (hinders_under m t (Some (record { first = h; writer = w })))) (touch_fault (Holds m s) Free mark t))
lent m false mark h w t = refl
lent Read true mark h None Reads = refl
lent Read true mark h (Some k) Reads = refl
lent Read true mark h None Writes = refl
lent Read true mark h None (Folds op) = refl
lent Read true mark h (Some k) Writes = refl
lent Read true mark h (Some k) (Folds op) = refl
lent Write true mark h None Reads = refl
lent Write true mark h None Writes = refl
lent Write true mark h None (Folds op) = refl
lent Write true mark h (Some k) Reads = refl
lent Write true mark h (Some k) Writes = refl
lent Write true mark h (Some k) (Folds op) = refl
lent (Folding a) true mark h w Reads = refl
lent (Folding a) true mark h w Writes = refl
lent (Folding a) true mark h w (Folds b) = or_same (op_eq a b) fault.BadReduction

no_lent : (m : Mode) (t : Touch) → hinders_under m t None ≡ None
no_lent Read Reads = refl
no_lent Read Writes = refl
no_lent Read (Folds op) = refl
no_lent Write Reads = refl
no_lent Write Writes = refl
no_lent Write (Folds op) = refl
no_lent (Folding a) t = refl

judged : (g : Option Clause) (released : Bool) (l : Option Lent) (mark : Mark) (t : Touch) → touch_fault (right_now released (right_by g)) (lending_of l) mark t ≡ fault_by released (right_by g) (hinderer g t l) mark t
judged g true l mark t = refl
judged None false l mark t = refl
judged (Some c) false None mark t =
    unlent c.mode c.strong mark t ∙ ap (λ (h : Option Holder). or_else (touch_fault (Holds c.mode c.strong) Free Written t) (or_else (lent_fault h) (touch_fault (Holds c.mode c.strong) Free mark t))) (sym (no_lent c.mode t))
judged (Some c) false (Some l) mark t = lent c.mode c.strong mark l.first l.writer t

-- There is none where there is no reason.
written_passes : (r : Right) (mark : Mark) (t : Touch) → is_right (touch_fault r Free mark t) ≡ true → touch_fault r Free Written t ≡ None
written_passes NoRight mark t e = never (sym e)
written_passes Released mark t e = never (sym e)
written_passes (Holds m false) mark t e = never (sym e)
written_passes (Holds Read true) mark Reads e = refl
written_passes (Holds Read true) mark Writes e = never (sym e)
written_passes (Holds Read true) mark (Folds op) e = never (sym e)
written_passes (Holds Write true) mark Reads e = refl
written_passes (Holds Write true) mark Writes e = refl
written_passes (Holds Write true) mark (Folds op) e = refl
written_passes (Holds (Folding a) true) mark Reads e = never (sym e)
written_passes (Holds (Folding a) true) mark Writes e = never (sym e)
written_passes (Holds (Folding a) true) mark (Folds b) e = go (op_eq a b) e
  where
    go : (x : Bool) → is_right (if x then None else Some fault.BadReduction) ≡ true → (if x then None else Some fault.BadReduction) ≡ None
    go true h = refl
    go false h = never (sym h)

pub is_none : (o : Option FaultKind) → is_right o ≡ true → o ≡ None
is_none None e = refl
is_none (Some kind) e = never (sym e)

reasons : (released : Bool) (r : Right) (h : Option Holder) (mark : Mark) (t : Touch) → is_right (fault_by released r h mark t) ≡ ((not released && is_free h) && is_right (touch_fault r Free mark t))
reasons true r h mark t = refl
reasons false r h mark t = go h (is_right (touch_fault r Free mark t)) refl
  where
    failed : (o p : Option FaultKind) → is_right p ≡ false → is_right (or_else o p) ≡ false
    failed None p e = e
    failed (Some kind) p e = refl

    go : (h : Option Holder) (b : Bool) → is_right (touch_fault r Free mark t) ≡ b → is_right (or_else (touch_fault r Free Written t) (or_else (lent_fault h) (touch_fault r Free mark t))) ≡ (is_free h && is_right (touch_fault r Free mark t))
    go None true e = ap (λ (o : Option FaultKind). is_right (or_else o (touch_fault r Free mark t))) (written_passes r mark t e)
    go None false e = failed (touch_fault r Free Written t) (touch_fault r Free mark t) e ∙ sym e
    go (Some k) b e = failed (touch_fault r Free Written t) (Some fault.Lent) refl

asked_right : (r : Right) (mark : Mark) (t : Touch) → is_right (touch_fault r Free mark t) ≡ is_met r mark (demand_by t)
asked_right r mark Reads = refl
asked_right r mark Writes = refl
asked_right r mark (Folds op) = refl

pub touches : TouchesAreJudged
touches = record {
  fault = λ g ds released l t. judged g released l (mark_behind (mark_by g) ds) t;
  passes = λ g ds released l t. ap (λ (o : Option FaultKind). is_right o) (judged g released l (mark_behind (mark_by g) ds) t)
      ∙ reasons released (right_by g) (hinderer g t l) (mark_behind (mark_by g) ds) t
      ∙ ap (λ (b : Bool). (not released && is_free (hinderer g t l)) && b) (asked_right (right_by g) (mark_behind (mark_by g) ds) t);
}

-- cells that are named
unreleased : (g : Option Clause) (released : Bool) → is_released (right_now released (right_by g)) ≡ released
unreleased g true = refl
unreleased None false = refl
unreleased (Some c) false = refl

not_twice : (b : Bool) → b ≡ not (not b)
not_twice true = refl
not_twice false = refl

pub names : NamesAreJudged
names = record {
  released = λ g ds released l. unreleased g released;
  covers = λ g ds l k. refl;
  waits = λ g ds l. not_twice (lacks_right (right_by g));
}

-- What is met, by what is unmet and what is broken.
abbrev clause : Mode → Bool → Bool → Clause
clause m s f = record { mode = m; strong = s; fresh = f }

folds_met : (x : Bool) → is_right (if x then None else Some fault.BadReduction) ≡ not (not x)
folds_met true = refl
folds_met false = refl

-- by whether the cell has a value
met_by : (m : Mode) (s f valued : Bool) (d : Demand)
    → is_met (Holds m s) (if valued then Written else first_mark (Holds m s) f) d ≡ not (((takes_value d && not valued) && (is_write m && f)) || is_unmet (clause m s f) d)
met_by m s f valued (Release k) = not_twice (covers m k)
met_by m s f valued Wait = refl
met_by m s f valued (Create k) = not_twice (covers m k.mode)
met_by Read s f valued Store = go s
  where
    go : (s : Bool) → is_right (touch_fault (Holds Read s) Free (if valued then Written else Written) Writes) ≡ not (is_unmet (clause Read s f) Store)
    go true = refl
    go false = refl
met_by Read true f true Load = refl
met_by Read true f false Load = refl
met_by Read false f true Load = refl
met_by Read false f false Load = refl
met_by Read true f true (Fold op) = refl
met_by Read true f false (Fold op) = refl
met_by Read false f true (Fold op) = refl
met_by Read false f false (Fold op) = refl
met_by Write false f valued Store = refl
met_by Write true f true Store = refl
met_by Write true true false Store = refl
met_by Write true false false Store = refl
met_by Write true f true Load = refl
met_by Write true true false Load = refl
met_by Write true false false Load = refl
met_by Write false f true Load = refl
met_by Write false true false Load = refl
met_by Write false false false Load = refl
met_by Write true f true (Fold op) = refl
met_by Write true true false (Fold op) = refl
met_by Write true false false (Fold op) = refl
met_by Write false f true (Fold op) = refl
met_by Write false true false (Fold op) = refl
met_by Write false false false (Fold op) = refl
met_by (Folding a) true f valued Store = refl
met_by (Folding a) false f valued Store = refl
met_by (Folding a) true f true Load = refl
met_by (Folding a) true f false Load = refl
met_by (Folding a) false f true Load = refl
met_by (Folding a) false f false Load = refl
met_by (Folding a) true f true (Fold op) = folds_met (op_eq a op)
met_by (Folding a) true f false (Fold op) = folds_met (op_eq a op)
met_by (Folding a) false f true (Fold op) = refl
met_by (Folding a) false f false (Fold op) = refl

unbroken_before : (x t w : Bool) → (x && w) ≡ false → ((x || t) && w) ≡ (t && w)
unbroken_before true t true e = never e
unbroken_before true t false e = sym (and_false t)
unbroken_before false t w e = refl

pub met_unbroken : MetIsUnbroken
met_unbroken c d ds e =
    met_by c.mode c.strong c.fresh (has_value ds) d
    ∙ ap (λ (b : Bool). not (b || is_unmet c d)) (sym (unbroken_before (needs_old ds) (takes_value d && not (has_value ds)) (is_write c.mode && c.fresh) e))

-- marks
written_anyway : (b : Bool) (m : Mark) → (if b || true then Written else m) ≡ Written
written_anyway true m = refl
written_anyway false m = refl

made : (m : Mode) (s b : Bool) (mark : Mark) → (if b || is_write m then Written else mark) ≡ made_mark (Holds m s) (if b then Written else mark)
made Write s b mark = written_anyway b mark
made Read s b mark = ap (λ (x : Bool). if x then Written else mark) (or_false b)
made (Folding op) s b mark = ap (λ (x : Bool). if x then Written else mark) (or_false b)

pub makes_mark : (m : Mark) (k : Option Clause) (ds : List Demand) → mark_behind m (creates k ds) ≡ made_mark (right_by k) (mark_behind m ds)
makes_mark m None ds = refl
makes_mark m (Some c) ds = made c.mode c.strong (has_value ds) m

pub marks : MarksAreKept
marks = record {
  gives = λ m d ds e. ap (λ (b : Bool). if has_value ds || b then Written else m) e ∙ written_anyway (has_value ds) m;
  leaves = λ m d ds e. ap (λ (b : Bool). if has_value ds || b then Written else m) e ∙ ap (λ (b : Bool). if b then Written else m) (or_false (has_value ds));
  makes = makes_mark;
}

-- lending
lends_first : (m : Mode) (s f : Bool) (number line : ℕ) → lending_of (Some (lent_to (record { number = number; line = line; clause = record { mode = m; strong = s; fresh = f } }) None)) ≡ lend_cell (Holds m s) Free
lends_first Read s f number line = refl
lends_first Write s f number line = refl
lends_first (Folding op) s f number line = refl

lends_more : (m : Mode) (s f : Bool) (number line : ℕ) (h : Holder) (w : Option Holder)
    → lending_of (Some (lent_to (record { number = number; line = line; clause = record { mode = m; strong = s; fresh = f } }) (Some (record { first = h; writer = w })))) ≡ lend_cell (Holds m s) (lent_to_one w)
lends_more Read s f number line h None = refl
lends_more Read s f number line h (Some k) = refl
lends_more Write s f number line h None = refl
lends_more Write s f number line h (Some k) = refl
lends_more (Folding op) s f number line h None = refl
lends_more (Folding op) s f number line h (Some k) = refl

pub lending : LendingIsKept
lending number line None l = refl
lending number line (Some c) None = lends_first c.mode c.strong c.fresh number line
lending number line (Some c) (Some l) = lends_more c.mode c.strong c.fresh number line l.first l.writer

-- lacks
right_before : (r : Right) (m : Mark) (more ds : List Demand) → all_right r m (more ++ ds) ≡ true → all_right r m ds ≡ true
right_before r m [] ds e = e
right_before r m (d ∷ more) ds e = right_before r m more ds (first_true (all_right r m (more ++ ds)) (is_met r (mark_behind m (more ++ ds)) d) e)

-- where nothing is lacking the clauses can be joined
pub unmixed : (final : Bool) (clauses : List Access) (c : ℕ) (ds : List Demand) → is_nothing (lack_of (given_of final clauses c) ds) ≡ true → is_mixed final clauses c ≡ false
unmixed final clauses c ds e = go (is_mixed final clauses c) refl e
  where
    go : (b : Bool) → is_mixed final clauses c ≡ b → is_nothing (lack_of (if b then given.Mixed else said_by (right_from final clauses c) (is_fresh clauses c)) ds) ≡ true → is_mixed final clauses c ≡ false
    go true k h = never (sym h)
    go false k h = k

pub grow : LacksGrow
grow final clauses c more ds e =
    let k = unmixed final clauses c (more ++ ds) e in
    lacks_faults final clauses c ds k ∙ right_before (right_from final clauses c) (mark_from final clauses c) more ds (sym (lacks_faults final clauses c (more ++ ds) k) ∙ e)
