-- What a need tells of its demands.
use Rattle.std.proofs.Common.{◌≡◌, refl, sym, subst, ap, ◌∙◌, Bool, true, false, List, [], ◌∷◌, Option, Some, None}
use Rattle.std.specs.Prelude.{◌&&◌, ◌||◌, not, if◌then◌else◌}
use Rattle.oss_syntax.specs.declared.access.Mode.{Mode}
use Rattle.oss_syntax.specs.declared.access.Mode.TheVariants.{Read, Write, Fold as Folding}
use Rattle.oss_model.specs.Rights.{covers}
use Rattle.oss_needs.specs.declared.clause.Clause.{Clause}
use Rattle.oss_needs.specs.declared.demand.Demand.{Demand}
use Rattle.oss_needs.specs.declared.demand.Demand.TheVariants.{Load, Store, Fold, Release, Wait, Create}
use Rattle.oss_needs.specs.Demands.{is_own, mode_of, any_own}
use Rattle.oss_needs.specs.Needs.{is_others, is_there}
use Rattle.oss_needs.specs.Lacks.{mode_eq, mode_when, least_mode, every, refuses, is_unmet, any_refused, any_unmet_own}
use Rattle.oss_needs.proofs.Bools.{never, or_false, or_true, or_apart, and_false}
use Rattle.oss_needs.proofs.ModeLemmas.{mode_eq_self, mode_eq_is}

-- the least mode for two
abbrev both : Mode → Mode → Mode
both m n = if mode_eq m n then n else Write

both_self : (m : Mode) → both m m ≡ m
both_self m = ap (λ (b : Bool). if b then m else Write) (mode_eq_self m)

both_write : (m : Mode) → both m Write ≡ Write
both_write m = go (mode_eq m Write)
  where
    go : (b : Bool) → (if b then Write else Write) ≡ Write
    go true = refl
    go false = refl

write_both : (m : Mode) → both Write m ≡ Write
write_both Read = refl
write_both Write = refl
write_both (Folding a) = refl

both_other : (m n : Mode) → mode_eq m n ≡ false → both m n ≡ Write
both_other m n e = ap (λ (b : Bool). if b then n else Write) e

both_swap : (m n : Mode) → both m n ≡ both n m
both_swap m n = go (mode_eq m n) refl
  where
    back : (b : Bool) → mode_eq n m ≡ b → mode_eq m n ≡ false → both n m ≡ Write
    back true e f = never (sym (mode_eq_self m) ∙ ap (mode_eq m) (sym (mode_eq_is n m e)) ∙ f)
    back false e f = both_other n m e

    go : (b : Bool) → mode_eq m n ≡ b → both m n ≡ both n m
    go true e = subst (λ (k : Mode). both m k ≡ both k m) (mode_eq_is m n e) refl
    go false e = both_other m n e ∙ sym (back (mode_eq n m) refl e)

both_assoc : (m a b : Mode) → both m (both a b) ≡ both (both m a) b
both_assoc m a b = go (mode_eq a b) (mode_eq m a) refl refl
  where
    same : (t : Bool) → mode_eq m b ≡ t → both m b ≡ both (both m b) b
    same true e = let k : both m b ≡ b = ap (λ (x : Bool). if x then b else Write) e in k ∙ sym (ap (λ (x : Mode). both x b) k ∙ both_self b)
    same false e = let k : both m b ≡ Write = both_other m b e in k ∙ sym (ap (λ (x : Mode). both x b) k ∙ write_both b)

    go : (s t : Bool) → mode_eq a b ≡ s → mode_eq m a ≡ t → both m (both a b) ≡ both (both m a) b
    go true t e f =
        let k : a ≡ b = mode_eq_is a b e in
        subst (λ (x : Mode). both m (both x b) ≡ both (both m x) b) (sym k) (ap (both m) (both_self b) ∙ same (mode_eq m b) refl)
    go false true e f = ap (both m) (both_other a b e) ∙ both_write m ∙ sym (subst (λ (x : Mode). both (both x a) b ≡ Write) (sym (mode_eq_is m a f)) (ap (λ (x : Mode). both x b) (both_self a) ∙ both_other a b e))
    go false false e f = ap (both m) (both_other a b e) ∙ both_write m ∙ sym (ap (λ (x : Mode). both x b) (both_other m a f) ∙ write_both b)

both_turned : (m a b : Mode) → both m (both a b) ≡ both a (both m b)
both_turned m a b = both_assoc m a b ∙ ap (λ (x : Mode). both x b) (both_swap m a) ∙ sym (both_assoc a m b)

-- the least mode of all is that of the task's own and of the others
own_first : (k a b : Option Mode) → mode_when true k (mode_when true a b) ≡ mode_when true (mode_when true k a) b
own_first None a b = refl
own_first (Some m) None b = refl
own_first (Some m) (Some n) None = refl
own_first (Some m) (Some n) (Some x) = ap Some (both_assoc m n x)

others_first : (k a b : Option Mode) → mode_when true k (mode_when true a b) ≡ mode_when true a (mode_when true k b)
others_first None a b = refl
others_first (Some m) None b = refl
others_first (Some m) (Some n) None = ap Some (both_swap m n)
others_first (Some m) (Some n) (Some x) = ap Some (both_turned m n x)

pub parts : (ds : List Demand) → least_mode every ds ≡ mode_when true (least_mode is_own ds) (least_mode is_others ds)
parts [] = refl
parts (d ∷ ds) = ap (mode_when true (mode_of d)) (parts ds) ∙ go (is_own d)
  where
    a : Option Mode
    a = least_mode is_own ds

    b : Option Mode
    b = least_mode is_others ds

    go : (t : Bool) → mode_when true (mode_of d) (mode_when true a b) ≡ mode_when true (mode_when t (mode_of d) a) (mode_when (not t) (mode_of d) b)
    go true = own_first (mode_of d) a b
    go false = others_first (mode_of d) a b

-- the task itself touches the cell where a mode is asked for it
there_with : (t : Bool) (m : Mode) (o : Option Mode) (x : Bool) → x ≡ is_there o → (x || t) ≡ is_there (mode_when t (Some m) o)
there_with true m None x e = or_true x
there_with true m (Some n) x e = or_true x
there_with false m o x e = or_false x ∙ e

pub own_there : (ds : List Demand) → any_own ds ≡ is_there (least_mode is_own ds)
own_there [] = refl
own_there (Load ∷ ds) = there_with true Read (least_mode is_own ds) (any_own ds) (own_there ds)
own_there (Store ∷ ds) = there_with true Write (least_mode is_own ds) (any_own ds) (own_there ds)
own_there (Fold op ∷ ds) = there_with true (Folding op) (least_mode is_own ds) (any_own ds) (own_there ds)
own_there (Release m ∷ ds) = there_with false m (least_mode is_own ds) (any_own ds) (own_there ds)
own_there (Wait ∷ ds) = or_false (any_own ds) ∙ own_there ds
own_there (Create c ∷ ds) = there_with false c.mode (least_mode is_own ds) (any_own ds) (own_there ds)

-- what the least mode is refused for, one of the demands is
abbrev pub any_when : (Demand → Bool) → Mode → List Demand → Bool
any_when test held [] = false
any_when test held (d ∷ ds) = any_when test held ds || (test d && refuses held (mode_of d))

refused_one : (held m n : Mode) → not (covers held (both m n)) ≡ (not (covers held n) || not (covers held m))
refused_one held m n = go (mode_eq m n) refl
  where
    same : (b : Bool) → b ≡ (b || b)
    same true = refl
    same false = refl

    other : (held m n : Mode) → mode_eq m n ≡ false → not (covers held Write) ≡ (not (covers held n) || not (covers held m))
    other Write m n e = refl
    other Read Read Read e = e
    other Read Write Read e = refl
    other Read (Folding a) Read e = refl
    other Read m Write e = refl
    other Read m (Folding b) e = refl
    other (Folding x) m n e = fold (covers (Folding x) n) (covers (Folding x) m) refl refl
      where
        is_fold : (y : Mode) → covers (Folding x) y ≡ true → Folding x ≡ y
        is_fold Read h = never (sym h)
        is_fold Write h = never (sym h)
        is_fold (Folding b) h = mode_eq_is (Folding x) (Folding b) h

        fold : (s t : Bool) → covers (Folding x) n ≡ s → covers (Folding x) m ≡ t → true ≡ (not s || not t)
        fold true true f g = never (sym (mode_eq_self n) ∙ ap (λ (k : Mode). mode_eq k n) (sym (is_fold n f) ∙ is_fold m g) ∙ e)
        fold true false f g = refl
        fold false t f g = refl

    go : (b : Bool) → mode_eq m n ≡ b → not (covers held (if b then n else Write)) ≡ (not (covers held n) || not (covers held m))
    go true e = subst (λ (k : Mode). not (covers held n) ≡ (not (covers held n) || not (covers held k))) (sym (mode_eq_is m n e)) (same (not (covers held n)))
    go false e = other held m n e

refused_with : (held : Mode) (t : Bool) (k o : Option Mode) → refuses held (mode_when t k o) ≡ (refuses held o || (t && refuses held k))
refused_with held false k o = sym (or_false (refuses held o))
refused_with held true None o = sym (or_false (refuses held o))
refused_with held true (Some m) None = refl
refused_with held true (Some m) (Some n) = refused_one held m n

pub refused_least : (held : Mode) (test : Demand → Bool) (ds : List Demand) → refuses held (least_mode test ds) ≡ any_when test held ds
refused_least held test [] = refl
refused_least held test (d ∷ ds) = refused_with held (test d) (mode_of d) (least_mode test ds) ∙ ap (λ (x : Bool). x || (test d && refuses held (mode_of d))) (refused_least held test ds)

apart : (t r : Bool) → ((t && r) || (not t && r)) ≡ r
apart true r = or_false r
apart false r = refl

when_parts : (held : Mode) (ds : List Demand) → (any_when is_own held ds || any_when is_others held ds) ≡ any_refused held ds
when_parts held [] = refl
when_parts held (d ∷ ds) =
    or_apart (any_when is_own held ds) (is_own d && refuses held (mode_of d)) (any_when is_others held ds) (not (is_own d) && refuses held (mode_of d))
    ∙ ap (λ (x : Bool). x || ((is_own d && refuses held (mode_of d)) || (not (is_own d) && refuses held (mode_of d)))) (when_parts held ds)
    ∙ ap (λ (x : Bool). any_refused held ds || x) (apart (is_own d) (refuses held (mode_of d)))

pub refused_parts : (held : Mode) (ds : List Demand) → (refuses held (least_mode is_own ds) || refuses held (least_mode is_others ds)) ≡ any_refused held ds
refused_parts held ds =
    ap (λ (x : Bool). x || refuses held (least_mode is_others ds)) (refused_least held is_own ds)
    ∙ ap (λ (x : Bool). any_when is_own held ds || x) (refused_least held is_others ds)
    ∙ when_parts held ds

-- what is the task's own and unmet
own_part : (w r o : Bool) → (((o && w) || r) && o) ≡ ((o && w) || (o && r))
own_part w r false = and_false r
own_part true r true = refl
own_part false true true = refl
own_part false false true = refl

unmet_parts : (c : Clause) (ds : List Demand) → any_unmet_own c ds ≡ ((any_own ds && not c.strong) || any_when is_own c.mode ds)
unmet_parts c [] = refl
unmet_parts c (d ∷ ds) =
    ap (λ (x : Bool). x || (is_unmet c d && is_own d)) (unmet_parts c ds)
    ∙ ap (λ (x : Bool). ((any_own ds && not c.strong) || any_when is_own c.mode ds) || x) (own_part (not c.strong) (refuses c.mode (mode_of d)) (is_own d))
    ∙ or_apart (any_own ds && not c.strong) (any_when is_own c.mode ds) (is_own d && not c.strong) (is_own d && refuses c.mode (mode_of d))
    ∙ ap (λ (x : Bool). x || any_when is_own c.mode (d ∷ ds)) (sym (Rattle.oss_needs.proofs.Bools.or_and (any_own ds) (is_own d) (not c.strong)))

pub unmet_own_is : (c : Clause) (ds : List Demand) → any_unmet_own c ds ≡ ((any_own ds && not c.strong) || refuses c.mode (least_mode is_own ds))
unmet_own_is c ds = unmet_parts c ds ∙ ap (λ (x : Bool). (any_own ds && not c.strong) || x) (sym (refused_least c.mode is_own ds))
