-- Nothing less than what is told would do.
use Rattle.std.proofs.Common.{◌≡◌, refl, sym, ap, ◌∙◌, Bool, true, false, List, [], ◌∷◌, Option, Some, None}
use Rattle.std.specs.Prelude.{◌&&◌, ◌||◌, not, if◌then◌else◌}
use Rattle.oss_syntax.specs.declared.access.Mode.{Mode}
use Rattle.oss_syntax.specs.declared.access.Mode.TheVariants.{Read, Write, Fold as Folding}
use Rattle.oss_syntax.specs.declared.access.Op.{Op}
use Rattle.oss_needs.specs.declared.clause.Clause.{Clause}
use Rattle.oss_needs.specs.declared.clause.Given.{Given}
use Rattle.oss_needs.specs.declared.clause.Given.TheVariants as given
use Rattle.oss_needs.specs.declared.demand.Demand.{Demand}
use Rattle.oss_needs.specs.declared.lack.Lack.{Lack}
use Rattle.oss_needs.specs.declared.lack.Lack.TheVariants as lack
use Rattle.oss_needs.specs.Demands.{is_own, mode_of, any_own, any_wait, needs_old}
use Rattle.oss_needs.specs.Meeting.{all_met}
use Rattle.oss_needs.specs.Lacks.{mode_eq, mode_when, least_mode, every, least_of, least, or_weak_read, is_unmet, any_unmet, any_refused, any_unmet_own, is_broken, beside, added_mode, adds, lack_of, lack_of_fold, lack_of_clause, adds_all, mended_by}
use Rattle.oss_needs.specs.Claims.{FewerAreNotMet, clause_of, with_clause, reading}
use Rattle.oss_needs.proofs.Bools.{never, or_true}
use Rattle.oss_needs.proofs.MeetingLemmas.{met_is, unmet_is}
use Rattle.oss_needs.proofs.ModeLemmas.{is_reading, reads_alone}
use Rattle.oss_needs.proofs.ValueLemmas.{own_needs}
use Rattle.oss_needs.proofs.MendedLemmas.{unbroken_read}

-- two truth values
by_cases : (a : Bool) → (a ≡ false → a ≡ true) → a ≡ true
by_cases true f = refl
by_cases false f = f refl

-- who is too weak, or refused, is not met
weak_unmet : (e : Clause) (ds : List Demand) → e.strong ≡ false → any_own ds ≡ true → all_met (Some e) ds ≡ false
weak_unmet e ds s o =
    met_is e ds
    ∙ ap (λ (x : Bool). not (is_broken e ds || x)) (unmet_is e ds ∙ ap (λ (x : Bool). (x && not e.strong) || any_refused e.mode ds) o ∙ ap (λ (x : Bool). (true && not x) || any_refused e.mode ds) s)
    ∙ ap not (or_true (is_broken e ds))

read_unmet : (e : Clause) (ds : List Demand) → e.mode ≡ Read → any_refused Read ds ≡ true → all_met (Some e) ds ≡ false
read_unmet e ds m r =
    met_is e ds
    ∙ ap (λ (x : Bool). not (is_broken e ds || x)) (unmet_is e ds ∙ ap (λ (k : Mode). (any_own ds && not e.strong) || any_refused k ds) m ∙ ap (λ (x : Bool). (any_own ds && not e.strong) || x) r ∙ or_true (any_own ds && not e.strong))
    ∙ ap not (or_true (is_broken e ds))

-- A clause is told as strong only where the task itself uses the cell.
unmet_own : (c : Clause) (ds : List Demand) → any_own ds ≡ false → any_unmet_own c ds ≡ false
unmet_own c [] e = refl
unmet_own c (d ∷ ds) e = go (unmet_own c ds) (any_own ds) (is_own d) refl refl e
  where
    done : (x : Bool) → x ≡ false → (t : Bool) → (x || (t && false)) ≡ false
    done false f true = refl
    done false f false = refl
    done true f t = never f

    go : (any_own ds ≡ false → any_unmet_own c ds ≡ false) → (a b : Bool) → any_own ds ≡ a → is_own d ≡ b → (a || b) ≡ false → (any_unmet_own c ds || (is_unmet c d && is_own d)) ≡ false
    go before false false f g h = ap (λ (x : Bool). any_unmet_own c ds || (is_unmet c d && x)) g ∙ done (any_unmet_own c ds) (before f) (is_unmet c d)
    go before true b f g h = never h
    go before false true f g h = never h

broken_new : (c : Clause) (ds : List Demand) → any_own ds ≡ false → is_broken c ds ≡ false
broken_new c ds e = ap (λ (x : Bool). x && (Rattle.oss_needs.specs.Demands.is_write c.mode && c.fresh)) (own_needs ds e)

strong_of_least : (ds : List Demand) (c : Clause) → least ds ≡ Some c → c.strong ≡ true → any_own ds ≡ true
strong_of_least ds c e s = go (least_mode every ds) e
  where
    waits : (b : Bool) → (if b then Some (record { mode = Read; strong = false; fresh = false }) else None) ≡ Some c → any_own ds ≡ true
    waits true h = never (sym s ∙ ap (λ (o : Option Clause). strong_in o) (sym h))
      where
        strong_in : Option Clause → Bool
        strong_in None = false
        strong_in (Some c) = c.strong
    waits false h = let bad : None ≡ Some c = h in cc

    go : (o : Option Mode) → least_of ds o ≡ Some c → any_own ds ≡ true
    go (Some m) h = ap (λ (o : Option Clause). strong_in o) h ∙ s
      where
        strong_in : Option Clause → Bool
        strong_in None = false
        strong_in (Some c) = c.strong
    go None h = waits (any_wait ds) h

strong_of_weak_read : (ds : List Demand) (o : Option Clause) → least ds ≡ o → (c : Clause) → or_weak_read o ≡ c → c.strong ≡ true → any_own ds ≡ true
strong_of_weak_read ds (Some k) e c h s = strong_of_least ds c (e ∙ ap Some h) s
strong_of_weak_read ds None e c h s = never (sym s ∙ ap (λ (k : Clause). k.strong) (sym h))

-- what is lacking, of a lack
abbrev told_clause : Lack → Clause → Clause
told_clause lack.Nothing c = c
told_clause (lack.Adds k) c = k
told_clause (lack.Replaces k) c = k

in_lack : (l : Lack) (c d : Clause) → clause_of l ≡ Some c → told_clause l d ≡ c
in_lack lack.Nothing c d e = let bad : None ≡ Some c = e in cc
in_lack (lack.Adds k) c d e = ap (λ (o : Option Clause). out o) e
  where
    out : Option Clause → Clause
    out None = d
    out (Some k) = k
in_lack (lack.Replaces k) c d e = ap (λ (o : Option Clause). out o) e
  where
    out : Option Clause → Clause
    out None = d
    out (Some k) = k

strong_of_added : (k : Clause) (ds : List Demand) (o : Option Mode) (c : Clause) → clause_of (adds k ds o) ≡ Some c → c.strong ≡ true → any_own ds ≡ true
strong_of_added k ds None c e s = let bad : None ≡ Some c = e in cc
strong_of_added k ds (Some m) c e s = by_cases (any_own ds) (λ f. never (sym strong ∙ both f))
  where
    strong : (any_unmet_own k ds || is_broken k ds) ≡ true
    strong = ap (λ (x : Clause). x.strong) (in_lack (adds k ds (Some m)) c c e) ∙ s

    both : any_own ds ≡ false → (any_unmet_own k ds || is_broken k ds) ≡ false
    both f = ap (λ (x : Bool). x || is_broken k ds) (unmet_own k ds f) ∙ broken_new k ds f

strong_of_fold : (k : Clause) (ds : List Demand) (c : Clause) → clause_of (lack_of_fold k ds) ≡ Some c → c.strong ≡ true → any_own ds ≡ true
strong_of_fold k ds c e s = go (any_refused k.mode ds) (any_unmet k ds) refl refl e
  where
    unmet : any_refused k.mode ds ≡ false → any_unmet k ds ≡ true → any_own ds ≡ true
    unmet f g = by_cases (any_own ds) (λ h. never (sym g ∙ unmet_is k ds ∙ ap (λ (x : Bool). (x && not k.strong) || any_refused k.mode ds) h ∙ f))

    go : (r u : Bool) → any_refused k.mode ds ≡ r → any_unmet k ds ≡ u
        → clause_of (if r then lack.Replaces (or_weak_read (least ds)) else if u then lack.Adds (record { mode = k.mode; strong = true; fresh = false }) else lack.Nothing) ≡ Some c → any_own ds ≡ true
    go true u f g h = strong_of_weak_read ds (least ds) refl c (in_lack (lack.Replaces (or_weak_read (least ds))) c c h) s
    go false true f g h = unmet f g
    go false false f g h = let bad : None ≡ Some c = h in cc

strong_own : (g : Given) (ds : List Demand) (c : Clause) → clause_of (lack_of g ds) ≡ Some c → c.strong ≡ true → any_own ds ≡ true
strong_own given.Nothing ds c e s = go (least ds) refl e
  where
    go : (o : Option Clause) → least ds ≡ o → clause_of (adds_all o) ≡ Some c → any_own ds ≡ true
    go None h f = let bad : None ≡ Some c = f in cc
    go (Some k) h f = strong_of_least ds c (h ∙ f) s
strong_own given.Mixed ds c e s = strong_of_weak_read ds (least ds) refl c (in_lack (lack.Replaces (or_weak_read (least ds))) c c e) s
strong_own (given.Says k) ds c e s = go k.mode e
  where
    go : (m : Mode) → clause_of (lack_of_clause m k ds) ≡ Some c → any_own ds ≡ true
    go Read h = strong_of_added k ds (added_mode k ds) c h s
    go Write h = strong_of_added k ds (added_mode k ds) c h s
    go (Folding op) h = strong_of_fold k ds c h s

-- A mode other than Read is told only where something other than to read is asked for.
not_reading : (test : Demand → Bool) (ds : List Demand) (m : Mode) → least_mode test ds ≡ Some m → mode_eq m Read ≡ false → any_refused Read ds ≡ true
not_reading test ds m e n = by_cases (any_refused Read ds) (λ f. never (sym (reads_alone test ds f) ∙ ap is_reading e ∙ n))

refused_of_least : (ds : List Demand) (c : Clause) → least ds ≡ Some c → mode_eq c.mode Read ≡ false → any_refused Read ds ≡ true
refused_of_least ds c e n = go (least_mode every ds) refl e
  where
    weak_read : Clause
    weak_read = record { mode = Read; strong = false; fresh = false }

    out : Option Clause → Clause
    out None = weak_read
    out (Some k) = k

    waits : (b : Bool) → (if b then Some weak_read else None) ≡ Some c → any_refused Read ds ≡ true
    waits true h = never (ap (λ (o : Option Clause). mode_eq (out o).mode Read) h ∙ n)
    waits false h = let bad : None ≡ Some c = h in cc

    go : (o : Option Mode) → least_mode every ds ≡ o → least_of ds o ≡ Some c → any_refused Read ds ≡ true
    go (Some m) h f = not_reading every ds m h (ap (λ (o : Option Clause). mode_eq (out o).mode Read) f ∙ n)
    go None h f = waits (any_wait ds) f

refused_of_weak_read : (ds : List Demand) (o : Option Clause) → least ds ≡ o → (c : Clause) → or_weak_read o ≡ c → mode_eq c.mode Read ≡ false → any_refused Read ds ≡ true
refused_of_weak_read ds (Some k) e c h n = refused_of_least ds c (e ∙ ap Some h) n
refused_of_weak_read ds None e c h n = never (ap (λ (k : Clause). mode_eq k.mode Read) h ∙ n)

other_mode : (u : Mode) → mode_eq (beside u) Read ≡ false → mode_eq u Read ≡ false
other_mode Read e = e
other_mode Write e = refl
other_mode (Folding a) e = refl

-- beside one that reads
refused_of_added : (k : Clause) (ds : List Demand) (c : Clause) → k.mode ≡ Read → clause_of (adds k ds (added_mode k ds)) ≡ Some c → mode_eq c.mode Read ≡ false → any_refused Read ds ≡ true
refused_of_added k ds c r e n = go (added_mode k ds) refl e
  where
    alone : added_mode k ds ≡ least_mode (is_unmet k) ds
    alone = ap (λ (b : Bool). mode_when b (Some Read) (least_mode (is_unmet k) ds)) (unbroken_read k ds r)

    go : (o : Option Mode) → added_mode k ds ≡ o → clause_of (adds k ds o) ≡ Some c → any_refused Read ds ≡ true
    go None h f = let bad : None ≡ Some c = f in cc
    go (Some u) h f =
        not_reading (is_unmet k) ds u (sym alone ∙ h) (other_mode u (ap (λ (x : Clause). mode_eq x.mode Read) (in_lack (adds k ds (Some u)) c c f) ∙ n))

-- what is told in place of clauses, and what they say with another clause beside them
refused_of_fold : (k : Clause) (ds : List Demand) (c e : Clause) (op : Op) → k.mode ≡ Folding op → clause_of (lack_of_fold k ds) ≡ Some c → mode_eq c.mode Read ≡ false
    → mended_by (given.Says k) (with_clause (lack_of_fold k ds) (reading c)) ≡ Some e → e.mode ≡ Read → any_refused Read ds ≡ true
refused_of_fold k ds c e op m f n a b = go (any_refused k.mode ds) (any_unmet k ds) f a
  where
    folds : (x : Mode) → x ≡ Folding op → (if mode_eq Read x then x else Write) ≡ Write
    folds x h = ap (λ (y : Mode). if mode_eq Read y then y else Write) h

    out : Option Clause → Mode
    out None = Read
    out (Some x) = x.mode

    go : (r u : Bool) → clause_of (if r then lack.Replaces (or_weak_read (least ds)) else if u then lack.Adds (record { mode = k.mode; strong = true; fresh = false }) else lack.Nothing) ≡ Some c
        → mended_by (given.Says k) (with_clause (if r then lack.Replaces (or_weak_read (least ds)) else if u then lack.Adds (record { mode = k.mode; strong = true; fresh = false }) else lack.Nothing) (reading c)) ≡ Some e
        → any_refused Read ds ≡ true
    go true u h g = refused_of_weak_read ds (least ds) refl c (in_lack (lack.Replaces (or_weak_read (least ds))) c c h) n
    go false true h g = let bad : Write ≡ Read = sym (folds k.mode m) ∙ ap out g ∙ b in cc
    go false false h g = let bad : None ≡ Some c = h in cc

refused_of_clause : (k : Clause) (ds : List Demand) (c e : Clause) (m : Mode) → k.mode ≡ m → clause_of (adds k ds (added_mode k ds)) ≡ Some c → mode_eq c.mode Read ≡ false
    → mended_by (given.Says k) (with_clause (adds k ds (added_mode k ds)) (reading c)) ≡ Some e → e.mode ≡ Read → ((op : Op) → m ≡ Folding op → any_refused Read ds ≡ true) → any_refused Read ds ≡ true
refused_of_clause k ds c e Read h f n a b z = refused_of_added k ds c h f n
refused_of_clause k ds c e Write h f n a b z = go (added_mode k ds) f a
  where
    out : Option Clause → Mode
    out None = Read
    out (Some x) = x.mode

    go : (o : Option Mode) → clause_of (adds k ds o) ≡ Some c → mended_by (given.Says k) (with_clause (adds k ds o) (reading c)) ≡ Some e → any_refused Read ds ≡ true
    go None g i = let bad : None ≡ Some c = g in cc
    go (Some u) g i = let bad : Write ≡ Read = sym (ap (λ (y : Mode). if mode_eq Read y then y else Write) h) ∙ ap out i ∙ b in cc
refused_of_clause k ds c e (Folding op) h f n a b z = z op refl

refused_read : (g : Given) (ds : List Demand) (c e : Clause) → clause_of (lack_of g ds) ≡ Some c → mode_eq c.mode Read ≡ false → mended_by g (with_clause (lack_of g ds) (reading c)) ≡ Some e → e.mode ≡ Read
    → any_refused Read ds ≡ true
refused_read given.Nothing ds c e f n a b = go (least ds) refl f
  where
    go : (o : Option Clause) → least ds ≡ o → clause_of (adds_all o) ≡ Some c → any_refused Read ds ≡ true
    go None h i = let bad : None ≡ Some c = i in cc
    go (Some k) h i = refused_of_least ds c (h ∙ i) n
refused_read given.Mixed ds c e f n a b = refused_of_weak_read ds (least ds) refl c (in_lack (lack.Replaces (or_weak_read (least ds))) c c f) n
refused_read (given.Says k) ds c e f n a b = go k.mode refl f a
  where
    go : (m : Mode) → k.mode ≡ m → clause_of (lack_of_clause m k ds) ≡ Some c → mended_by (given.Says k) (with_clause (lack_of_clause m k ds) (reading c)) ≡ Some e → any_refused Read ds ≡ true
    go Read h i j = refused_of_clause k ds c e Read h i n j b (λ op z. let bad : Read ≡ Folding op = z in cc)
    go Write h i j = refused_of_clause k ds c e Write h i n j b (λ op z. let bad : Write ≡ Folding op = z in cc)
    go (Folding op) h i j = refused_of_fold k ds c e op h i n j b

pub fewer : FewerAreNotMet
fewer = record {
  weak = λ g ds c e f s a w. weak_unmet e ds w (strong_own g ds c f s);
  read = λ g ds c e f n a r. read_unmet e ds r (refused_read g ds c e f n a r);
}
