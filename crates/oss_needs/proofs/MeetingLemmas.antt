-- Clauses meet all demands exactly where none is unmet, and the cell is written first where they say so.
use Rattle.std.proofs.Common.{◌≡◌, refl, sym, ap, ◌∙◌, Bool, true, false, List, [], ◌∷◌, Some, None}
use Rattle.std.specs.Prelude.{◌&&◌, ◌||◌, not, if◌then◌else◌}
use Rattle.oss_syntax.specs.declared.access.Mode.{Mode}
use Rattle.oss_syntax.specs.declared.access.Mode.TheVariants.{Read, Write, Fold as Folding}
use Rattle.oss_syntax.specs.declared.fault.FaultKind.TheVariants as fault
use Rattle.oss_model.specs.Rights.{Holds, Written, first_mark, op_eq, covers}
use Rattle.oss_needs.specs.declared.clause.Clause.{Clause}
use Rattle.oss_needs.specs.declared.demand.Demand.{Demand}
use Rattle.oss_needs.specs.declared.demand.Demand.TheVariants.{Load, Store, Fold, Release, Wait, Create}
use Rattle.oss_needs.specs.Demands.{is_write, is_own, takes_value, has_value, needs_old, any_own, mode_of}
use Rattle.oss_needs.specs.Meeting.{is_right, is_met, all_met, right_by, mark_by, mark_behind}
use Rattle.oss_needs.specs.Lacks.{is_unmet, is_broken, any_unmet, any_refused, is_too_weak, refuses}
use Rattle.oss_needs.proofs.Bools.{not_not, none_of, or_and, or_apart}

abbrev clause : Mode → Bool → Bool → Clause
clause m s f = record { mode = m; strong = s; fresh = f }

same_fold : (t : Bool) → is_right (if t then None else Some fault.BadReduction) ≡ not (not t)
same_fold true = refl
same_fold false = refl

-- a demand behind others, one of which has given a value or none
met_here : (m : Mode) (s f h : Bool) (d : Demand)
    → is_met (Holds m s) (if h then Written else first_mark (Holds m s) f) d ≡ not (((takes_value d && not h) && (is_write m && f)) || is_unmet (clause m s f) d)
met_here m s f h Wait = refl
met_here m s f h (Release k) = sym (not_not (covers m k))
met_here m s f h (Create c) = sym (not_not (covers m c.mode))
met_here Read true f h Store = refl
met_here Read false f h Store = refl
met_here Write true f true Store = refl
met_here Write true true false Store = refl
met_here Write true false false Store = refl
met_here Write false f h Store = refl
met_here (Folding a) true f h Store = refl
met_here (Folding a) false f h Store = refl
met_here Read true f true Load = refl
met_here Read true f false Load = refl
met_here Read false f true Load = refl
met_here Read false f false Load = refl
met_here Write true f true Load = refl
met_here Write true true false Load = refl
met_here Write true false false Load = refl
met_here Write false f true Load = refl
met_here Write false true false Load = refl
met_here Write false false false Load = refl
met_here (Folding a) true f true Load = refl
met_here (Folding a) true f false Load = refl
met_here (Folding a) false f true Load = refl
met_here (Folding a) false f false Load = refl
met_here Read true f true (Fold op) = refl
met_here Read true f false (Fold op) = refl
met_here Read false f true (Fold op) = refl
met_here Read false f false (Fold op) = refl
met_here Write true f true (Fold op) = refl
met_here Write true true false (Fold op) = refl
met_here Write true false false (Fold op) = refl
met_here Write false f true (Fold op) = refl
met_here Write false true false (Fold op) = refl
met_here Write false false false (Fold op) = refl
met_here (Folding a) true f true (Fold op) = same_fold (op_eq a op)
met_here (Folding a) true f false (Fold op) = same_fold (op_eq a op)
met_here (Folding a) false f true (Fold op) = refl
met_here (Folding a) false f false (Fold op) = refl

pub met_is : (c : Clause) (ds : List Demand) → all_met (Some c) ds ≡ not (is_broken c ds || any_unmet c ds)
met_is c [] = refl
met_is c (d ∷ ds) =
    ap (λ (x : Bool). x && is_met (right_by (Some c)) (mark_behind (mark_by (Some c)) ds) d) (met_is c ds)
    ∙ ap (λ (x : Bool). not (is_broken c ds || any_unmet c ds) && x) (met_here c.mode c.strong c.fresh (has_value ds) d)
    ∙ none_of (any_unmet c ds) (is_broken c ds) (is_unmet c d) ((takes_value d && not (has_value ds)) && (is_write c.mode && c.fresh))
    ∙ ap (λ (x : Bool). not (x || any_unmet c (d ∷ ds))) (sym (or_and (needs_old ds) (takes_value d && not (has_value ds)) (is_write c.mode && c.fresh)))

-- what is unmet is too weak, or refused
pub unmet_is : (c : Clause) (ds : List Demand) → any_unmet c ds ≡ ((any_own ds && not c.strong) || any_refused c.mode ds)
unmet_is c [] = refl
unmet_is c (d ∷ ds) =
    ap (λ (x : Bool). x || is_unmet c d) (unmet_is c ds)
    ∙ or_apart (any_own ds && not c.strong) (any_refused c.mode ds) (is_too_weak c d) (refuses c.mode (mode_of d))
    ∙ ap (λ (x : Bool). x || any_refused c.mode (d ∷ ds)) (sym (or_and (any_own ds) (is_own d) (not c.strong)))

-- no right meets nothing
pub nothing_met : (d : Demand) (ds : List Demand) → all_met None (d ∷ ds) ≡ false
nothing_met d ds = go d (all_met None ds)
  where
    go : (d : Demand) (b : Bool) → (b && is_met (right_by None) (mark_behind (mark_by None) ds) d) ≡ false
    go Load true = refl
    go Store true = refl
    go (Fold op) true = refl
    go (Release m) true = refl
    go Wait true = refl
    go (Create c) true = refl
    go d false = refl
