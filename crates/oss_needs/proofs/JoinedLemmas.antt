-- The language joins what is added with the clause beside which it is added.
use Rattle.std.proofs.Common.{◌≡◌, refl, sym, subst, ap, ◌∙◌, Bool, true, false, List, Option, Some, None}
use Rattle.std.specs.Prelude.{if◌then◌else◌}
use Rattle.oss_syntax.specs.declared.access.Mode.{Mode}
use Rattle.oss_syntax.specs.declared.access.Mode.TheVariants.{Read, Write, Fold as Folding}
use Rattle.oss_syntax.specs.declared.access.Op.{Op}
use Rattle.oss_model.specs.Rights.{joined_mode, op_eq}
use Rattle.oss_needs.specs.declared.clause.Clause.{Clause}
use Rattle.oss_needs.specs.declared.demand.Demand.{Demand}
use Rattle.oss_needs.specs.declared.lack.Lack.{Lack}
use Rattle.oss_needs.specs.declared.lack.Lack.TheVariants as lack
use Rattle.oss_needs.specs.Lacks.{mode_eq, least, or_weak_read, any_refused, any_unmet, beside, added_mode, adds, lack_of_clause, lack_of_fold}
use Rattle.oss_needs.specs.Claims.{AddedIsJoined}
use Rattle.oss_needs.proofs.ModeLemmas.{mode_eq_self}

-- the mode that is told, of a lack that adds one
abbrev mode_in : Lack → Mode → Mode
mode_in (lack.Adds d) m = d.mode
mode_in _ m = m

beside_read : (u : Mode) → joined_mode (beside u) Read ≡ Some (if mode_eq (beside u) Read then Read else Write)
beside_read Read = refl
beside_read Write = refl
beside_read (Folding a) = refl

beside_write : (u : Mode) → joined_mode (beside u) Write ≡ Some (if mode_eq (beside u) Write then Write else Write)
beside_write Read = refl
beside_write Write = refl
beside_write (Folding a) = refl

fold_self : (a : Op) → joined_mode (Folding a) (Folding a) ≡ Some (if mode_eq (Folding a) (Folding a) then Folding a else Write)
fold_self a = ap (λ (b : Bool). if b then Some (Folding a) else None) e ∙ sym (ap (λ (b : Bool). Some (if b then Folding a else Write)) e)
  where
    e : op_eq a a ≡ true
    e = mode_eq_self (Folding a)

-- two modes that the language joins as is told
abbrev Joins : Mode → Mode → Type 0
Joins d c = joined_mode d c ≡ Some (if mode_eq d c then c else Write)

added_beside : (c d : Clause) (ds : List Demand) (m : Mode) → ((u : Mode) → Joins (beside u) m) → c.mode ≡ m → (o : Option Mode) → adds c ds o ≡ lack.Adds d → Joins d.mode c.mode
added_beside c d ds m f e None h = let bad : lack.Nothing ≡ lack.Adds d = h in cc
added_beside c d ds m f e (Some u) h =
    subst (λ (k : Mode). Joins k c.mode) (ap (λ (l : Lack). mode_in l c.mode) h) (subst (λ (k : Mode). Joins (beside u) k) (sym e) (f u))

added_fold : (c d : Clause) (ds : List Demand) (a : Op) → c.mode ≡ Folding a → lack_of_fold c ds ≡ lack.Adds d → Joins d.mode c.mode
added_fold c d ds a e h = go (any_refused c.mode ds) (any_unmet c ds) h
  where
    same : Joins c.mode c.mode
    same = subst (λ (k : Mode). Joins k k) (sym e) (fold_self a)

    go : (r u : Bool) → (if r then lack.Replaces (or_weak_read (least ds)) else if u then lack.Adds (record { mode = c.mode; strong = true; fresh = false }) else lack.Nothing) ≡ lack.Adds d → Joins d.mode c.mode
    go true u f = let bad : lack.Replaces (or_weak_read (least ds)) ≡ lack.Adds d = f in cc
    go false true f = subst (λ (k : Mode). Joins k c.mode) (ap (λ (l : Lack). mode_in l c.mode) f) same
    go false false f = let bad : lack.Nothing ≡ lack.Adds d = f in cc

pub added : AddedIsJoined
added c d ds h = go c.mode refl h
  where
    go : (m : Mode) → c.mode ≡ m → lack_of_clause m c ds ≡ lack.Adds d → Joins d.mode c.mode
    go Read e f = added_beside c d ds Read beside_read e (added_mode c ds) f
    go Write e f = added_beside c d ds Write beside_write e (added_mode c ds) f
    go (Folding a) e f = added_fold c d ds a e f
