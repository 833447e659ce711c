-- What the code tells is what is lacking.
use Rattle.std.proofs.Common.{◌≡◌, refl, sym, ap, ◌∙◌, Bool, true, false, List, [], ◌∷◌, Option, Some, None}
use Rattle.std.specs.Prelude.{◌&&◌, ◌||◌, not, if◌then◌else◌}
use Rattle.oss_syntax.specs.declared.access.Mode.{Mode}
use Rattle.oss_syntax.specs.declared.access.Mode.TheVariants.{Read, Write, Fold as Folding}
use Rattle.oss_needs.specs.declared.clause.Clause.{Clause}
use Rattle.oss_needs.specs.declared.demand.Demand.{Demand}
use Rattle.oss_needs.specs.declared.lack.Lack.TheVariants as lack
use Rattle.oss_needs.specs.Demands.{is_own, is_write, mode_of, any_own, needs_old}
use Rattle.oss_needs.specs.declared.need.Need.{Need}
use Rattle.oss_needs.specs.Needs.{IsNeed, is_others, is_there}
use Rattle.oss_needs.specs.Lacks.{mode_when, least_mode, every, clause_for, refuses, is_too_weak, lack_of_fold, or_weak_read, least, is_unmet, any_unmet, any_refused, any_unmet_own, is_broken, added_mode, adds}
use Rattle.oss_needs.proofs.Bools.{never, or_false, or_true, first_true, both_true, is_not}
use Rattle.oss_needs.proofs.MeetingLemmas.{unmet_is}
use Rattle.oss_needs.proofs.ModeLemmas.{is_reading, reads_alone, write_refuses_none}
use Rattle.oss_needs.proofs.LackLemmas.{is_none, none_added}
use Rattle.oss_needs.proofs.MendedLemmas.{own_unmet, unbroken_read}
use Rattle.oss_needs.proofs.NeedLemmas.{any_when, parts, refused_least, refused_parts, unmet_own_is, own_there}

-- A clause to read.
read_alone : (c : Clause) (ds : List Demand) → c.mode ≡ Read → added_mode c ds ≡ least_mode (is_unmet c) ds
read_alone c ds e = ap (λ (b : Bool). mode_when b (Some Read) (least_mode (is_unmet c) ds)) (unbroken_read c ds e)

more_beside : (o : Option Mode) → refuses Read o ≡ true → (c : Clause) (ds : List Demand) (s : Bool) → (any_unmet_own c ds || is_broken c ds) ≡ s → adds c ds o ≡ lack.Adds (clause_for ds Write s)
more_beside None e c ds s f = never (sym e)
more_beside (Some Read) e c ds s f = never (sym e)
more_beside (Some Write) e c ds s f = ap (λ (x : Bool). lack.Adds (clause_for ds Write x)) f
more_beside (Some (Folding a)) e c ds s f = ap (λ (x : Bool). lack.Adds (clause_for ds Write x)) f

read_beside : (o : Option Mode) → is_reading o ≡ true → is_none o ≡ false → (c : Clause) (ds : List Demand) → (any_unmet_own c ds || is_broken c ds) ≡ true → adds c ds o ≡ lack.Adds (clause_for ds Read true)
read_beside None e f c ds g = never f
read_beside (Some Read) e f c ds g = ap (λ (x : Bool). lack.Adds (clause_for ds Read x)) g
read_beside (Some Write) e f c ds g = never (sym e)
read_beside (Some (Folding a)) e f c ds g = never (sym e)

nothing_beside : (o : Option Mode) → is_none o ≡ true → (c : Clause) (ds : List Demand) → adds c ds o ≡ lack.Nothing
nothing_beside None e c ds = refl
nothing_beside (Some m) e c ds = never (sym e)

unmet_refused : (t r : Bool) → ((t || r) && r) ≡ r
unmet_refused true r = refl
unmet_refused false true = refl
unmet_refused false false = refl

when_unmet : (c : Clause) (ds : List Demand) → c.mode ≡ Read → any_when (is_unmet c) Read ds ≡ any_refused Read ds
when_unmet c [] e = refl
when_unmet c (d ∷ ds) e =
    ap (λ (x : Bool). x || (is_unmet c d && refuses Read (mode_of d))) (when_unmet c ds e)
    ∙ ap (λ (x : Bool). any_refused Read ds || x) (ap (λ (m : Mode). (is_too_weak c d || refuses m (mode_of d)) && refuses Read (mode_of d)) e ∙ unmet_refused (is_too_weak c d) (refuses Read (mode_of d)))

-- whether a strong clause is needed beside it
strong_beside : (c : Clause) (ds : List Demand) → c.mode ≡ Read → (any_unmet_own c ds || is_broken c ds) ≡ ((any_own ds && not c.strong) || refuses Read (least_mode is_own ds))
strong_beside c ds e =
    ap (λ (x : Bool). any_unmet_own c ds || x) (unbroken_read c ds e) ∙ or_false (any_unmet_own c ds) ∙ unmet_own_is c ds
    ∙ ap (λ (m : Mode). (any_own ds && not c.strong) || refuses m (least_mode is_own ds)) e

pub read_more : (c : Clause) (ds : List Demand) (s : Bool) → c.mode ≡ Read → any_refused Read ds ≡ true → s ≡ ((any_own ds && not c.strong) || refuses Read (least_mode is_own ds))
    → lack.Adds (clause_for ds Write s) ≡ adds c ds (added_mode c ds)
read_more c ds s e r f =
    sym (ap (adds c ds) (read_alone c ds e) ∙ more_beside (least_mode (is_unmet c) ds) (refused_least Read (is_unmet c) ds ∙ when_unmet c ds e ∙ r) c ds s (strong_beside c ds e ∙ sym f))

none_of_read : (c : Clause) (ds : List Demand) → c.mode ≡ Read → any_refused Read ds ≡ false → is_none (least_mode (is_unmet c) ds) ≡ not (any_own ds && not c.strong)
none_of_read c ds e r =
    none_added c ds ∙ ap not (unmet_is c ds ∙ ap (λ (m : Mode). (any_own ds && not c.strong) || any_refused m ds) e ∙ ap (λ (x : Bool). (any_own ds && not c.strong) || x) r ∙ or_false (any_own ds && not c.strong))

pub read_strong : (c : Clause) (ds : List Demand) → c.mode ≡ Read → any_refused Read ds ≡ false → (any_own ds && not c.strong) ≡ true → lack.Adds (clause_for ds Read true) ≡ adds c ds (added_mode c ds)
read_strong c ds e r w =
    sym (ap (adds c ds) (read_alone c ds e)
    ∙ read_beside (least_mode (is_unmet c) ds) (reads_alone (is_unmet c) ds r) (none_of_read c ds e r ∙ ap not w) c ds (strong_beside c ds e ∙ ap (λ (x : Bool). x || refuses Read (least_mode is_own ds)) w))

pub read_enough : (c : Clause) (ds : List Demand) → c.mode ≡ Read → any_refused Read ds ≡ false → (any_own ds && not c.strong) ≡ false → lack.Nothing ≡ adds c ds (added_mode c ds)
read_enough c ds e r w = sym (ap (adds c ds) (read_alone c ds e) ∙ nothing_beside (least_mode (is_unmet c) ds) (none_of_read c ds e r ∙ ap not w) c ds)

-- A clause to write.
none_of_write : (c : Clause) (ds : List Demand) → c.mode ≡ Write → is_none (least_mode (is_unmet c) ds) ≡ not (any_own ds && not c.strong)
none_of_write c ds e =
    none_added c ds ∙ ap not (unmet_is c ds ∙ ap (λ (m : Mode). (any_own ds && not c.strong) || any_refused m ds) e ∙ ap (λ (x : Bool). (any_own ds && not c.strong) || x) (write_refuses_none ds) ∙ or_false (any_own ds && not c.strong))

none_broken : (b : Bool) (o : Option Mode) → is_none o ≡ true → is_none (mode_when b (Some Read) o) ≡ not b
none_broken true None e = refl
none_broken false None e = refl
none_broken b (Some m) e = never (sym e)

read_broken : (b : Bool) (o : Option Mode) → is_none o ≡ true → is_reading (mode_when b (Some Read) o) ≡ true
read_broken true None e = refl
read_broken false None e = refl
read_broken b (Some m) e = never (sym e)

broken_is : (c : Clause) (ds : List Demand) → c.mode ≡ Write → is_broken c ds ≡ (needs_old ds && c.fresh)
broken_is c ds e = ap (λ (m : Mode). needs_old ds && (is_write m && c.fresh)) e

pub write_broken : (c : Clause) (ds : List Demand) → c.mode ≡ Write → (any_own ds && not c.strong) ≡ false → (needs_old ds && c.fresh) ≡ true → lack.Adds (clause_for ds Read true) ≡ adds c ds (added_mode c ds)
write_broken c ds e w b =
    let n : is_none (least_mode (is_unmet c) ds) ≡ true = none_of_write c ds e ∙ ap not w in
    let is : is_broken c ds ≡ true = broken_is c ds e ∙ b in
    sym (read_beside (added_mode c ds) (read_broken (is_broken c ds) (least_mode (is_unmet c) ds) n) (none_broken (is_broken c ds) (least_mode (is_unmet c) ds) n ∙ ap not is) c ds
    (ap (λ (x : Bool). any_unmet_own c ds || x) is ∙ or_true (any_unmet_own c ds)))

pub write_enough : (c : Clause) (ds : List Demand) → c.mode ≡ Write → (any_own ds && not c.strong) ≡ false → (needs_old ds && c.fresh) ≡ false → lack.Nothing ≡ adds c ds (added_mode c ds)
write_enough c ds e w b =
    sym (nothing_beside (added_mode c ds) (none_broken (is_broken c ds) (least_mode (is_unmet c) ds) (none_of_write c ds e ∙ ap not w) ∙ ap not (broken_is c ds e ∙ b)) c ds)

-- a weak clause to write, where the task itself touches the cell
least_same : (t u : Demand → Bool) → ((d : Demand) → t d ≡ u d) → (ds : List Demand) → least_mode t ds ≡ least_mode u ds
least_same t u f [] = refl
least_same t u f (d ∷ ds) = ap (λ (b : Bool). mode_when b (mode_of d) (least_mode t ds)) (f d) ∙ ap (mode_when (u d) (mode_of d)) (least_same t u f ds)

write_refuses : (o : Option Mode) → refuses Write o ≡ false
write_refuses None = refl
write_refuses (Some m) = refl

own_alone : (o : Bool) → ((o && true) || false) ≡ o
own_alone true = refl
own_alone false = refl

unmet_own : (c : Clause) → c.mode ≡ Write → c.strong ≡ false → (d : Demand) → is_unmet c d ≡ is_own d
unmet_own c e s d =
    ap (λ (x : Bool). (is_own d && not x) || refuses c.mode (mode_of d)) s ∙ ap (λ (m : Mode). (is_own d && true) || refuses m (mode_of d)) e
    ∙ ap (λ (x : Bool). (is_own d && true) || x) (write_refuses (mode_of d)) ∙ own_alone (is_own d)

beside_broken : (b : Bool) (o : Option Mode) → is_there o ≡ true → (c : Clause) (ds : List Demand) → (any_unmet_own c ds || is_broken c ds) ≡ true
    → adds c ds (mode_when b (Some Read) o) ≡ lack.Adds (clause_for ds (if refuses Read o then Write else Read) true)
beside_broken b None e c ds f = never (sym e)
beside_broken true (Some Read) e c ds f = ap (λ (x : Bool). lack.Adds (clause_for ds Read x)) f
beside_broken true (Some Write) e c ds f = ap (λ (x : Bool). lack.Adds (clause_for ds Write x)) f
beside_broken true (Some (Folding a)) e c ds f = ap (λ (x : Bool). lack.Adds (clause_for ds Write x)) f
beside_broken false (Some Read) e c ds f = ap (λ (x : Bool). lack.Adds (clause_for ds Read x)) f
beside_broken false (Some Write) e c ds f = ap (λ (x : Bool). lack.Adds (clause_for ds Write x)) f
beside_broken false (Some (Folding a)) e c ds f = ap (λ (x : Bool). lack.Adds (clause_for ds Write x)) f

pub write_strong : (c : Clause) (ds : List Demand) (r : Bool) → c.mode ≡ Write → (any_own ds && not c.strong) ≡ true → refuses Read (least_mode is_own ds) ≡ r
    → lack.Adds (clause_for ds (if r then Write else Read) true) ≡ adds c ds (added_mode c ds)
write_strong c ds r e w f =
    let own : any_own ds ≡ true = first_true (any_own ds) (not c.strong) w in
    let weak : c.strong ≡ false = is_not c.strong (both_true (any_own ds) (not c.strong) w) in
    sym (ap (λ (o : Option Mode). adds c ds (mode_when (is_broken c ds) (Some Read) o)) (least_same (is_unmet c) is_own (unmet_own c e weak) ds)
    ∙ beside_broken (is_broken c ds) (least_mode is_own ds) (sym (own_there ds) ∙ own) c ds (ap (λ (x : Bool). x || is_broken c ds) (own_unmet c ds weak ∙ own))
    ∙ ap (λ (x : Bool). lack.Adds (clause_for ds (if x then Write else Read) true)) f)

-- A clause of a reduction.
pub fold_told : (c : Clause) (ds : List Demand) (w : Bool) → any_refused c.mode ds ≡ false → (any_own ds && not c.strong) ≡ w
    → lack_of_fold c ds ≡ (if w then lack.Adds (record { mode = c.mode; strong = true; fresh = false }) else lack.Nothing)
fold_told c ds w r e =
    ap (λ (b : Bool). if b then lack.Replaces (or_weak_read (least ds)) else if any_unmet c ds then lack.Adds (record { mode = c.mode; strong = true; fresh = false }) else lack.Nothing) r
    ∙ ap (λ (b : Bool). if b then lack.Adds (record { mode = c.mode; strong = true; fresh = false }) else lack.Nothing)
    (unmet_is c ds ∙ ap (λ (x : Bool). (any_own ds && not c.strong) || x) r ∙ or_false (any_own ds && not c.strong) ∙ e)

-- What the fields of a need tell.
pub own_of : (ds : List Demand) (n : Need) → IsNeed ds n → any_own ds ≡ is_there n.own
own_of ds n i = own_there ds ∙ ap is_there (sym i.own)

pub least_is : (ds : List Demand) (n : Need) → IsNeed ds n → least_mode every ds ≡ mode_when true n.own n.others
least_is ds n i = parts ds ∙ ap (λ (o : Option Mode). mode_when true o (least_mode is_others ds)) (sym i.own) ∙ ap (mode_when true n.own) (sym i.others)

pub refused_of : (m : Mode) (ds : List Demand) (n : Need) → IsNeed ds n → any_refused m ds ≡ (refuses m n.own || refuses m n.others)
refused_of m ds n i =
    sym (refused_parts m ds) ∙ ap (λ (o : Option Mode). refuses m o || refuses m (least_mode is_others ds)) (sym i.own) ∙ ap (λ (o : Option Mode). refuses m n.own || refuses m o) (sym i.others)
