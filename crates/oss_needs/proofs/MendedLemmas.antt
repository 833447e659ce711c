-- What is told mends all that is lacking.
use Rattle.std.proofs.Common.{◌≡◌, refl, sym, subst, ap, ◌∙◌, Bool, true, false, List, [], ◌∷◌, Option, Some, None}
use Rattle.std.specs.Prelude.{◌&&◌, ◌||◌, not, if◌then◌else◌}
use Rattle.oss_syntax.specs.declared.access.Mode.{Mode}
use Rattle.oss_syntax.specs.declared.access.Mode.TheVariants.{Read, Write, Fold as Folding}
use Rattle.oss_syntax.specs.declared.access.Op.{Op}
use Rattle.oss_needs.specs.declared.clause.Clause.{Clause}
use Rattle.oss_needs.specs.declared.clause.Given.{Given}
use Rattle.oss_needs.specs.declared.clause.Given.TheVariants as given
use Rattle.oss_needs.specs.declared.demand.Demand.{Demand}
use Rattle.oss_needs.specs.declared.lack.Lack.TheVariants as lack
use Rattle.oss_needs.specs.Demands.{is_write, is_own, mode_of, any_own, needs_old, begins_fresh}
use Rattle.oss_needs.specs.Meeting.{all_met}
use Rattle.oss_needs.specs.Lacks.{mode_eq, mode_when, least_mode, clause_for, least, or_weak_read, refuses, is_too_weak, is_unmet, any_unmet, any_refused, any_unmet_own, is_broken, beside, added_mode, adds, lack_of, lack_of_fold, lack_of_clause, adds_all, joined, mended, mended_by}
use Rattle.oss_needs.specs.Claims.{is_joined, is_nothing, said}
use Rattle.oss_needs.proofs.Bools.{never, left_false, right_false, both_false, and_false, or_true, inside}
use Rattle.oss_needs.proofs.MeetingLemmas.{met_is}
use Rattle.oss_needs.proofs.ModeLemmas.{mode_eq_self, any_by, least_covers, write_refuses_none}
use Rattle.oss_needs.proofs.LackLemmas.{met, unbroken, fresh_new, least_met, told_of_nothing, no_demand, told_of_clause, told_of_fold, fold_unbroken}

-- what is told is lacking
pub told : (g : Given) (ds : List Demand) → is_joined g ≡ true → is_nothing (lack_of g ds) ≡ all_met (said g) ds
told given.Nothing ds e = told_of_nothing ds
told given.Mixed ds e = never (sym e)
told (given.Says c) ds e = go c.mode refl
  where
    go : (m : Mode) → c.mode ≡ m → is_nothing (lack_of_clause m c ds) ≡ all_met (Some c) ds
    go Read h = told_of_clause c ds
    go Write h = told_of_clause c ds
    go (Folding op) h = told_of_fold c op ds h

-- no clause at all
none_mended : (ds : List Demand) (o : Option Clause) → least ds ≡ o → all_met (mended_by given.Nothing (adds_all o)) ds ≡ true
none_mended ds (Some c) e = least_met ds c e
none_mended ds None e = sym (told_of_nothing ds) ∙ ap (λ (o : Option Clause). is_nothing (adds_all o)) e

-- a clause in place of others
replaced : (ds : List Demand) (o : Option Clause) → least ds ≡ o → all_met (Some (or_weak_read o)) ds ≡ true
replaced ds (Some c) e = least_met ds c e
replaced ds None e = subst (λ (xs : List Demand). all_met (Some (record { mode = Read; strong = false; fresh = false })) xs ≡ true) (sym (no_demand ds e)) refl

-- who does not do by a weak clause is unmet under one
pub own_unmet : (c : Clause) (ds : List Demand) → c.strong ≡ false → any_unmet_own c ds ≡ any_own ds
own_unmet c [] s = refl
own_unmet c (d ∷ ds) s = ap (λ (x : Bool). x || (is_unmet c d && is_own d)) (own_unmet c ds s) ∙ ap (λ (x : Bool). any_own ds || x) (go (is_own d) refl)
  where
    go : (b : Bool) → is_own d ≡ b → (((b && not c.strong) || refuses c.mode (mode_of d)) && b) ≡ b
    go true h = ap (λ (x : Bool). (not x || refuses c.mode (mode_of d)) && true) s
    go false h = and_false (refuses c.mode (mode_of d))

-- the mode that is added covers all that is refused
refused_covered : (c : Clause) (m : Mode) (ds : List Demand) → c.mode ≡ m → any_by (Some m) (is_unmet c) ds ≡ false → any_refused m ds ≡ false
refused_covered c m [] e h = refl
refused_covered c m (d ∷ ds) e h =
    both_false (any_refused m ds) (refuses m (mode_of d))
    (refused_covered c m ds e (left_false (any_by (Some m) (is_unmet c) ds) (is_unmet c d && refuses m (mode_of d)) h))
    (inside (is_too_weak c d) (refuses m (mode_of d))
    (ap (λ (k : Mode). (is_too_weak c d || refuses k (mode_of d)) && refuses m (mode_of d)) (sym e) ∙ right_false (any_by (Some m) (is_unmet c) ds) (is_unmet c d && refuses m (mode_of d)) h))

pub unbroken_read : (c : Clause) (ds : List Demand) → c.mode ≡ Read → is_broken c ds ≡ false
unbroken_read c ds e = ap (λ (m : Mode). needs_old ds && (is_write m && c.fresh)) e ∙ and_false (needs_old ds)

-- what is added beside one that reads is Read alone, or else Write
read_beside : (u : Mode) → mode_eq (beside u) Read ≡ true → u ≡ Read
read_beside Read e = refl
read_beside Write e = never (sym e)
read_beside (Folding a) e = never (sym e)

joined_covers : (c : Clause) (u : Mode) (ds : List Demand) (m : Mode) → c.mode ≡ m → (m ≡ Read → added_mode c ds ≡ Some u) → ((op : Op) → m ≡ Folding op → any_refused Write ds ≡ true)
    → any_refused (if mode_eq (beside u) m then m else Write) ds ≡ false
joined_covers c u ds Write e a f = go (mode_eq (beside u) Write)
  where
    go : (b : Bool) → any_refused (if b then Write else Write) ds ≡ false
    go true = write_refuses_none ds
    go false = write_refuses_none ds
joined_covers c u ds Read e a f = go (mode_eq (beside u) Read) refl
  where
    alone : added_mode c ds ≡ least_mode (is_unmet c) ds
    alone = ap (λ (b : Bool). mode_when b (Some Read) (least_mode (is_unmet c) ds)) (unbroken_read c ds e)

    go : (b : Bool) → mode_eq (beside u) Read ≡ b → any_refused (if b then Read else Write) ds ≡ false
    go true h =
        let is : least_mode (is_unmet c) ds ≡ Some Read = sym alone ∙ a refl ∙ ap Some (read_beside u h) in
        refused_covered c Read ds e (subst (λ (o : Option Mode). any_by o (is_unmet c) ds ≡ false) is (least_covers (is_unmet c) ds))
    go false h = write_refuses_none ds
joined_covers c u ds (Folding op) e a f = never (sym (f op refl) ∙ write_refuses_none ds)

-- the whole is strong where the task itself needs it
strong_enough : (c : Clause) (ds : List Demand) (b : Bool) → (any_own ds && not ((any_unmet_own c ds || b) || c.strong)) ≡ false
strong_enough c ds b = go c.strong refl
  where
    done : (o b : Bool) → (o && not ((o || b) || false)) ≡ false
    done true b = refl
    done false b = refl

    go : (s : Bool) → c.strong ≡ s → (any_own ds && not ((any_unmet_own c ds || b) || s)) ≡ false
    go true h = ap (λ (x : Bool). any_own ds && not x) (or_true (any_unmet_own c ds || b)) ∙ and_false (any_own ds)
    go false h = ap (λ (x : Bool). any_own ds && not ((x || b) || false)) (own_unmet c ds h) ∙ done (any_own ds) b

-- and it says that the cell is written first only where it is
first_part : (v b f : Bool) → ((v && b) && f) ≡ true → b ≡ true
first_part true true f e = refl
first_part true false f e = e
first_part false b f e = never (sym e)

added_met : (c : Clause) (ds : List Demand) (u : Mode) → any_refused (if mode_eq (beside u) c.mode then c.mode else Write) ds ≡ false
    → all_met (Some (joined (clause_for ds (beside u) (any_unmet_own c ds || is_broken c ds)) c)) ds ≡ true
added_met c ds u r =
    let j : Clause = joined (clause_for ds (beside u) (any_unmet_own c ds || is_broken c ds)) c in
    met j ds (unbroken (needs_old ds) (is_write j.mode) j.fresh (λ e. fresh_new ds (first_part (is_write (beside u)) (begins_fresh ds) c.fresh e))) (strong_enough c ds (is_broken c ds)) r

clause_mended : (c : Clause) (ds : List Demand) (m : Mode) → c.mode ≡ m → ((op : Op) → m ≡ Folding op → any_refused Write ds ≡ true) → all_met (mended_by (given.Says c) (adds c ds (added_mode c ds))) ds ≡ true
clause_mended c ds m e f = go (added_mode c ds) refl
  where
    go : (o : Option Mode) → added_mode c ds ≡ o → all_met (mended_by (given.Says c) (adds c ds o)) ds ≡ true
    go None h = sym (told_of_clause c ds) ∙ ap (λ (o : Option Mode). is_nothing (adds c ds o)) h
    go (Some u) h = added_met c ds u (subst (λ (k : Mode). any_refused (if mode_eq (beside u) k then k else Write) ds ≡ false) (sym e) (joined_covers c u ds m e (λ z. h) f))

-- a reduction
fold_added : (c : Clause) (op : Op) (ds : List Demand) → c.mode ≡ Folding op → any_refused c.mode ds ≡ false → all_met (Some (joined (record { mode = c.mode; strong = true; fresh = false }) c)) ds ≡ true
fold_added c op ds e r =
    met (joined (record { mode = c.mode; strong = true; fresh = false }) c) ds
    (ap (λ (x : Bool). needs_old ds && x) (and_false (is_write (if mode_eq c.mode c.mode then c.mode else Write))) ∙ and_false (needs_old ds)) (and_false (any_own ds))
    (ap (λ (b : Bool). any_refused (if b then c.mode else Write) ds) (mode_eq_self c.mode) ∙ r)

fold_mended : (c : Clause) (op : Op) (ds : List Demand) → c.mode ≡ Folding op → all_met (mended_by (given.Says c) (lack_of_fold c ds)) ds ≡ true
fold_mended c op ds e = go (any_refused c.mode ds) (any_unmet c ds) refl refl
  where
    go : (r u : Bool) → any_refused c.mode ds ≡ r → any_unmet c ds ≡ u
        → all_met (mended_by (given.Says c) (if r then lack.Replaces (or_weak_read (least ds)) else if u then lack.Adds (record { mode = c.mode; strong = true; fresh = false }) else lack.Nothing)) ds ≡ true
    go true u f g = replaced ds (least ds) refl
    go false true f g = fold_added c op ds e f
    go false false f g = met_is c ds ∙ ap not (both_false (is_broken c ds) (any_unmet c ds) (fold_unbroken c op ds e) g)

pub mended_met : (g : Given) (ds : List Demand) → all_met (mended g ds) ds ≡ true
mended_met given.Nothing ds = none_mended ds (least ds) refl
mended_met given.Mixed ds = replaced ds (least ds) refl
mended_met (given.Says c) ds = go c.mode refl
  where
    no_fold : (m : Mode) → m ≡ Read → (op : Op) → m ≡ Folding op → any_refused Write ds ≡ true
    no_fold m e op h = let bad : Read ≡ Folding op = sym e ∙ h in cc

    no_fold_written : (m : Mode) → m ≡ Write → (op : Op) → m ≡ Folding op → any_refused Write ds ≡ true
    no_fold_written m e op h = let bad : Write ≡ Folding op = sym e ∙ h in cc

    go : (m : Mode) → c.mode ≡ m → all_met (mended_by (given.Says c) (lack_of_clause m c ds)) ds ≡ true
    go Read h = clause_mended c ds Read h (no_fold Read refl)
    go Write h = clause_mended c ds Write h (no_fold_written Write refl)
    go (Folding op) h = fold_mended c op ds h
