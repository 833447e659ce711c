-- The least mode for demands covers each of them.
use Rattle.std.proofs.Common.{◌≡◌, refl, sym, subst, ap, ◌∙◌, Bool, true, false, List, [], ◌∷◌, Option, Some, None}
use Rattle.std.specs.Prelude.{◌&&◌, ◌||◌, not, if◌then◌else◌}
use Rattle.oss_syntax.specs.declared.access.Mode.{Mode}
use Rattle.oss_syntax.specs.declared.access.Mode.TheVariants.{Read, Write, Fold as Folding}
use Rattle.oss_syntax.specs.declared.access.Op.{Op}
use Rattle.oss_syntax.specs.declared.access.Op.TheVariants.{Add, And, Or, Xor}
use Rattle.oss_model.specs.Rights.{op_eq, covers}
use Rattle.oss_model.proofs.JudgeLemmas.{op_eq_is}
use Rattle.oss_needs.specs.declared.demand.Demand.{Demand}
use Rattle.oss_needs.specs.declared.demand.Demand.TheVariants.{Load, Store, Fold, Release, Wait, Create}
use Rattle.oss_needs.specs.Demands.{mode_of, any_own, is_own, needs_old, takes_value, has_value}
use Rattle.oss_needs.specs.Lacks.{mode_eq, mode_when, least_mode, every, refuses, any_refused}
use Rattle.oss_needs.proofs.Bools.{never, left_false, right_false, both_false, and_still}

op_eq_self : (a : Op) → op_eq a a ≡ true
op_eq_self Add = refl
op_eq_self And = refl
op_eq_self Or = refl
op_eq_self Xor = refl

pub mode_eq_self : (m : Mode) → mode_eq m m ≡ true
mode_eq_self Read = refl
mode_eq_self Write = refl
mode_eq_self (Folding a) = op_eq_self a

pub mode_eq_is : (m n : Mode) → mode_eq m n ≡ true → m ≡ n
mode_eq_is Read Read h = refl
mode_eq_is Write Write h = refl
mode_eq_is (Folding a) (Folding b) h = ap Folding (op_eq_is a b h)
mode_eq_is Read Write h = never (sym h)
mode_eq_is Read (Folding b) h = never (sym h)
mode_eq_is Write Read h = never (sym h)
mode_eq_is Write (Folding b) h = never (sym h)
mode_eq_is (Folding a) Read h = never (sym h)
mode_eq_is (Folding a) Write h = never (sym h)

covers_self : (m : Mode) → covers m m ≡ true
covers_self Read = refl
covers_self Write = refl
covers_self (Folding a) = op_eq_self a

-- whether a mode, or none, refuses what is asked for
abbrev pub refused_by : Option Mode → Option Mode → Bool
refused_by None None = false
refused_by None (Some m) = true
refused_by (Some h) o = refuses h o

abbrev pub any_by : Option Mode → (Demand → Bool) → List Demand → Bool
any_by h test [] = false
any_by h test (d ∷ ds) = any_by h test ds || (test d && refused_by h (mode_of d))

picked : (b : Bool) (n x : Mode) → not (covers n x) ≡ false → not (covers (if b then n else Write) x) ≡ false
picked true n x e = e
picked false n x e = refl

grows : (t : Bool) (k h x : Option Mode) → refused_by h x ≡ false → refused_by (mode_when t k h) x ≡ false
grows false k h x e = e
grows true None h x e = e
grows true (Some m) None None e = refl
grows true (Some m) None (Some x) e = never e
grows true (Some m) (Some n) None e = refl
grows true (Some m) (Some n) (Some x) e = picked (mode_eq m n) n x e

covers_both : (m n : Mode) (b : Bool) → mode_eq m n ≡ b → not (covers (if b then n else Write) m) ≡ false
covers_both m n true e = subst (λ (k : Mode). not (covers n k) ≡ false) (sym (mode_eq_is m n e)) (ap not (covers_self n))
covers_both m n false e = refl

here : (t : Bool) (k h : Option Mode) → (t && refused_by (mode_when t k h) k) ≡ false
here false k h = refl
here true None None = refl
here true None (Some n) = refl
here true (Some m) None = ap not (covers_self m)
here true (Some m) (Some n) = covers_both m n (mode_eq m n) refl

all_grow : (h g : Option Mode) → ((x : Option Mode) → refused_by h x ≡ false → refused_by g x ≡ false) → (test : Demand → Bool) (ds : List Demand) → any_by h test ds ≡ false → any_by g test ds ≡ false
all_grow h g f test [] e = refl
all_grow h g f test (d ∷ ds) e =
    both_false (any_by g test ds) (test d && refused_by g (mode_of d))
    (all_grow h g f test ds (left_false (any_by h test ds) (test d && refused_by h (mode_of d)) e))
    (and_still (test d) (refused_by h (mode_of d)) (refused_by g (mode_of d)) (f (mode_of d)) (right_false (any_by h test ds) (test d && refused_by h (mode_of d)) e))

-- no demand that passes the test is refused by the least mode for those that do
pub least_covers : (test : Demand → Bool) (ds : List Demand) → any_by (least_mode test ds) test ds ≡ false
least_covers test [] = refl
least_covers test (d ∷ ds) =
    both_false (any_by (least_mode test (d ∷ ds)) test ds) (test d && refused_by (least_mode test (d ∷ ds)) (mode_of d))
    (all_grow (least_mode test ds) (least_mode test (d ∷ ds)) (grows (test d) (mode_of d) (least_mode test ds)) test ds (least_covers test ds))
    (here (test d) (mode_of d) (least_mode test ds))

refused_same : (m : Mode) (ds : List Demand) → any_by (Some m) every ds ≡ any_refused m ds
refused_same m [] = refl
refused_same m (d ∷ ds) = ap (λ (x : Bool). x || refuses m (mode_of d)) (refused_same m ds)

pub least_refuses_none : (ds : List Demand) (m : Mode) → least_mode every ds ≡ Some m → any_refused m ds ≡ false
least_refuses_none ds m e = sym (refused_same m ds) ∙ subst (λ (o : Option Mode). any_by o every ds ≡ false) e (least_covers every ds)

pub none_asked : (ds : List Demand) → least_mode every ds ≡ None → any_by None every ds ≡ false
none_asked ds e = subst (λ (o : Option Mode). any_by o every ds ≡ false) e (least_covers every ds)

-- who asks for no mode waits: nothing is the task's own then, nothing is refused, and no old value is needed
own_asks : (d : Demand) → refused_by None (mode_of d) ≡ false → is_own d ≡ false
own_asks Load e = e
own_asks Store e = e
own_asks (Fold op) e = e
own_asks (Release m) e = refl
own_asks Wait e = refl
own_asks (Create c) e = refl

takes_asks : (d : Demand) → refused_by None (mode_of d) ≡ false → takes_value d ≡ false
takes_asks Load e = e
takes_asks Store e = refl
takes_asks (Fold op) e = e
takes_asks (Release m) e = refl
takes_asks Wait e = refl
takes_asks (Create c) e = refl

refuses_asks : (m : Mode) (o : Option Mode) → refused_by None o ≡ false → refuses m o ≡ false
refuses_asks m None e = refl
refuses_asks m (Some k) e = never e

pub waits_own : (ds : List Demand) → any_by None every ds ≡ false → any_own ds ≡ false
waits_own [] e = refl
waits_own (d ∷ ds) e =
    both_false (any_own ds) (is_own d) (waits_own ds (left_false (any_by None every ds) (refused_by None (mode_of d)) e)) (own_asks d (right_false (any_by None every ds) (refused_by None (mode_of d)) e))

pub waits_refused : (m : Mode) (ds : List Demand) → any_by None every ds ≡ false → any_refused m ds ≡ false
waits_refused m [] e = refl
waits_refused m (d ∷ ds) e =
    both_false (any_refused m ds) (refuses m (mode_of d)) (waits_refused m ds (left_false (any_by None every ds) (refused_by None (mode_of d)) e))
    (refuses_asks m (mode_of d) (right_false (any_by None every ds) (refused_by None (mode_of d)) e))

pub waits_old : (ds : List Demand) → any_by None every ds ≡ false → needs_old ds ≡ false
waits_old [] e = refl
waits_old (d ∷ ds) e =
    both_false (needs_old ds) (takes_value d && not (has_value ds)) (waits_old ds (left_false (any_by None every ds) (refused_by None (mode_of d)) e))
    (ap (λ (x : Bool). x && not (has_value ds)) (takes_asks d (right_false (any_by None every ds) (refused_by None (mode_of d)) e)))

-- to write refuses nothing
write_covers : (o : Option Mode) → refuses Write o ≡ false
write_covers None = refl
write_covers (Some m) = refl

pub write_refuses_none : (ds : List Demand) → any_refused Write ds ≡ false
write_refuses_none [] = refl
write_refuses_none (d ∷ ds) = both_false (any_refused Write ds) (refuses Write (mode_of d)) (write_refuses_none ds) (write_covers (mode_of d))

-- where nothing is asked for but to read, the least mode is that, if there is one
abbrev pub is_reading : Option Mode → Bool
is_reading None = true
is_reading (Some m) = mode_eq m Read

read_with : (t : Bool) (k h : Option Mode) → refuses Read k ≡ false → is_reading h ≡ true → is_reading (mode_when t k h) ≡ true
read_with false k h r e = e
read_with true None h r e = e
read_with true (Some Read) None r e = refl
read_with true (Some Read) (Some Read) r e = refl
read_with true (Some Read) (Some Write) r e = e
read_with true (Some Read) (Some (Folding a)) r e = never (sym e)
read_with true (Some Write) h r e = never r
read_with true (Some (Folding a)) h r e = never r

pub reads_alone : (test : Demand → Bool) (ds : List Demand) → any_refused Read ds ≡ false → is_reading (least_mode test ds) ≡ true
reads_alone test [] e = refl
reads_alone test (d ∷ ds) e =
    read_with (test d) (mode_of d) (least_mode test ds) (right_false (any_refused Read ds) (refuses Read (mode_of d)) e) (reads_alone test ds (left_false (any_refused Read ds) (refuses Read (mode_of d)) e))
