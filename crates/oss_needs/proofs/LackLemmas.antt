-- What is lacking, clause by clause.
use Rattle.std.proofs.Common.{◌≡◌, refl, sym, subst, ap, ◌∙◌, Bool, true, false, List, [], ◌∷◌, Option, Some, None}
use Rattle.std.specs.Prelude.{◌&&◌, ◌||◌, not, if◌then◌else◌}
use Rattle.oss_syntax.specs.declared.access.Mode.{Mode}
use Rattle.oss_syntax.specs.declared.access.Mode.TheVariants.{Read, Write, Fold as Folding}
use Rattle.oss_syntax.specs.declared.access.Op.{Op}
use Rattle.oss_needs.specs.declared.clause.Clause.{Clause}
use Rattle.oss_needs.specs.declared.demand.Demand.{Demand}
use Rattle.oss_needs.specs.declared.demand.Demand.TheVariants.{Load, Store, Fold, Release, Wait, Create}
use Rattle.oss_needs.specs.declared.lack.Lack.TheVariants as lack
use Rattle.oss_needs.specs.Demands.{is_write, any_own, any_wait, needs_old, begins_fresh}
use Rattle.oss_needs.specs.Meeting.{all_met}
use Rattle.oss_needs.specs.Lacks.{mode_when, with_mode, least_mode, every, clause_for, least_of, least, or_weak_read, is_unmet, any_unmet, any_refused, is_broken, added_mode, adds, lack_of_fold, adds_all}
use Rattle.oss_needs.specs.Claims.{is_nothing}
use Rattle.oss_needs.proofs.Bools.{never, both_false, and_false, or_false, or_true, and_not}
use Rattle.oss_needs.proofs.MeetingLemmas.{met_is, unmet_is, nothing_met}
use Rattle.oss_needs.proofs.ModeLemmas.{any_by, least_refuses_none, none_asked, waits_own, waits_refused}
use Rattle.oss_needs.proofs.ValueLemmas.{is_fresh}

-- a clause meets all where none is unmet and the cell is written first as it says
pub met : (c : Clause) (ds : List Demand) → is_broken c ds ≡ false → (any_own ds && not c.strong) ≡ false → any_refused c.mode ds ≡ false → all_met (Some c) ds ≡ true
met c ds b o r = met_is c ds ∙ ap not (both_false (is_broken c ds) (any_unmet c ds) b (unmet_is c ds ∙ both_false (any_own ds && not c.strong) (any_refused c.mode ds) o r))

-- a cell that is written first, as its clause says
pub unbroken : (o w b : Bool) → (b ≡ true → o ≡ false) → (o && (w && b)) ≡ false
unbroken o true true f = ap (λ (x : Bool). x && true) (f refl)
unbroken o true false f = and_false o
unbroken o false b f = and_false o

pub fresh_new : (ds : List Demand) → begins_fresh ds ≡ true → needs_old ds ≡ false
fresh_new ds e = (is_fresh ds e).new

pub fresh_part : (w b : Bool) → (w && b) ≡ true → b ≡ true
fresh_part true b e = e
fresh_part false b e = never (sym e)

-- the least clause
pub clause_met : (ds : List Demand) (m : Mode) → least_mode every ds ≡ Some m → all_met (Some (clause_for ds m (any_own ds))) ds ≡ true
clause_met ds m e =
    met (clause_for ds m (any_own ds)) ds
    (unbroken (needs_old ds) (is_write m) (is_write m && begins_fresh ds) (λ f. fresh_new ds (fresh_part (is_write m) (begins_fresh ds) f)))
    (and_not (any_own ds)) (least_refuses_none ds m e)

pub weak_met : (ds : List Demand) → any_by None every ds ≡ false → all_met (Some (record { mode = Read; strong = false; fresh = false })) ds ≡ true
weak_met ds e =
    met (record { mode = Read; strong = false; fresh = false }) ds (and_false (needs_old ds)) (ap (λ (x : Bool). x && true) (waits_own ds e)) (waits_refused Read ds e)

pub least_met : (ds : List Demand) (c : Clause) → least ds ≡ Some c → all_met (Some c) ds ≡ true
least_met ds c e = go (least_mode every ds) refl e
  where
    waits : (b : Bool) → (if b then Some (record { mode = Read; strong = false; fresh = false }) else None) ≡ Some c → least_mode every ds ≡ None → all_met (Some c) ds ≡ true
    waits true h n = subst (λ (x : Option Clause). all_met x ds ≡ true) h (weak_met ds (none_asked ds n))
    waits false h n = let bad : None ≡ Some c = h in cc

    go : (o : Option Mode) → least_mode every ds ≡ o → least_of ds o ≡ Some c → all_met (Some c) ds ≡ true
    go (Some m) n h = subst (λ (x : Option Clause). all_met x ds ≡ true) h (clause_met ds m n)
    go None n h = waits (any_wait ds) h n

-- where nothing is named, something is lacking as soon as anything is asked
told_moded : (ds : List Demand) (m : Mode) (o : Option Mode) → is_nothing (adds_all (least_of ds (with_mode m o))) ≡ false
told_moded ds m None = refl
told_moded ds m (Some n) = refl

told_waits : (ds : List Demand) (o : Option Mode) → is_nothing (adds_all (least_of (Wait ∷ ds) o)) ≡ false
told_waits ds (Some m) = refl
told_waits ds None = go (any_wait ds)
  where
    go : (b : Bool) → is_nothing (adds_all (if b || true then Some (record { mode = Read; strong = false; fresh = false }) else None)) ≡ false
    go true = refl
    go false = refl

something : (d : Demand) (ds : List Demand) → is_nothing (adds_all (least (d ∷ ds))) ≡ false
something Load ds = told_moded (Load ∷ ds) Read (least_mode every ds)
something Store ds = told_moded (Store ∷ ds) Write (least_mode every ds)
something (Fold op) ds = told_moded (Fold op ∷ ds) (Folding op) (least_mode every ds)
something (Release m) ds = told_moded (Release m ∷ ds) m (least_mode every ds)
something Wait ds = told_waits ds (least_mode every ds)
something (Create c) ds = told_moded (Create c ∷ ds) c.mode (least_mode every ds)

pub told_of_nothing : (ds : List Demand) → is_nothing (adds_all (least ds)) ≡ all_met None ds
told_of_nothing [] = refl
told_of_nothing (d ∷ ds) = something d ds ∙ sym (nothing_met d ds)

pub no_demand : (ds : List Demand) → least ds ≡ None → ds ≡ []
no_demand [] e = refl
no_demand (d ∷ ds) e = never (ap (λ (x : Option Clause). is_nothing (adds_all x)) (sym e) ∙ something d ds)

-- where clauses read or write, a mode is added exactly where a demand is unmet
abbrev pub is_none : Option Mode → Bool
is_none None = true
is_none (Some m) = false

none_with : (t : Bool) (k : Mode) (o : Option Mode) (x : Bool) → is_none o ≡ not x → is_none (mode_when t (Some k) o) ≡ not (x || t)
none_with true k None true e = refl
none_with true k None false e = refl
none_with true k (Some n) true e = refl
none_with true k (Some n) false e = refl
none_with false k o x e = e ∙ ap not (sym (or_false x))

pub none_added : (c : Clause) (ds : List Demand) → is_none (least_mode (is_unmet c) ds) ≡ not (any_unmet c ds)
none_added c [] = refl
none_added c (Load ∷ ds) = none_with (is_unmet c Load) Read (least_mode (is_unmet c) ds) (any_unmet c ds) (none_added c ds)
none_added c (Store ∷ ds) = none_with (is_unmet c Store) Write (least_mode (is_unmet c) ds) (any_unmet c ds) (none_added c ds)
none_added c (Fold op ∷ ds) = none_with (is_unmet c (Fold op)) (Folding op) (least_mode (is_unmet c) ds) (any_unmet c ds) (none_added c ds)
none_added c (Release m ∷ ds) = none_with (is_unmet c (Release m)) m (least_mode (is_unmet c) ds) (any_unmet c ds) (none_added c ds)
none_added c (Wait ∷ ds) = none_added c ds ∙ ap not (sym (or_false (any_unmet c ds)))
none_added c (Create k ∷ ds) = none_with (is_unmet c (Create k)) k.mode (least_mode (is_unmet c) ds) (any_unmet c ds) (none_added c ds)

nothing_added : (c : Clause) (ds : List Demand) (o : Option Mode) → is_nothing (adds c ds o) ≡ is_none o
nothing_added c ds None = refl
nothing_added c ds (Some m) = refl

broken_or : (b : Bool) (o : Option Mode) (x : Bool) → is_none o ≡ not x → is_none (mode_when b (Some Read) o) ≡ not (b || x)
broken_or true None x e = refl
broken_or true (Some n) x e = refl
broken_or false o x e = e

pub told_of_clause : (c : Clause) (ds : List Demand) → is_nothing (adds c ds (added_mode c ds)) ≡ all_met (Some c) ds
told_of_clause c ds =
    nothing_added c ds (added_mode c ds)
    ∙ broken_or (is_broken c ds) (least_mode (is_unmet c) ds) (any_unmet c ds) (none_added c ds)
    ∙ sym (met_is c ds)

-- a reduction
pub fold_unbroken : (c : Clause) (op : Op) (ds : List Demand) → c.mode ≡ Folding op → is_broken c ds ≡ false
fold_unbroken c op ds e = ap (λ (m : Mode). needs_old ds && (is_write m && c.fresh)) e ∙ and_false (needs_old ds)

pub told_of_fold : (c : Clause) (op : Op) (ds : List Demand) → c.mode ≡ Folding op → is_nothing (lack_of_fold c ds) ≡ all_met (Some c) ds
told_of_fold c op ds e = go (any_refused c.mode ds) (any_unmet c ds) refl refl
  where
    all : all_met (Some c) ds ≡ not (any_unmet c ds)
    all = met_is c ds ∙ ap (λ (b : Bool). not (b || any_unmet c ds)) (fold_unbroken c op ds e)

    unmet : any_refused c.mode ds ≡ true → any_unmet c ds ≡ true
    unmet r = unmet_is c ds ∙ ap (λ (x : Bool). (any_own ds && not c.strong) || x) r ∙ or_true (any_own ds && not c.strong)

    go : (r u : Bool) → any_refused c.mode ds ≡ r → any_unmet c ds ≡ u
        → is_nothing (if r then lack.Replaces (or_weak_read (least ds)) else if u then lack.Adds (record { mode = c.mode; strong = true; fresh = false }) else lack.Nothing) ≡ all_met (Some c) ds
    go true u f g = sym (all ∙ ap not (unmet f))
    go false true f g = sym (all ∙ ap not g)
    go false false f g = sym (all ∙ ap not g)
