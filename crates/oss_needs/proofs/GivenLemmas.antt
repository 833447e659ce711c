-- What clauses say of a cell, clause by clause, and what the judge makes of it.
use Rattle.std.proofs.Common.{◌≡◌, refl, sym, ap, ◌∙◌, ℕ, Bool, true, false, List, [], ◌∷◌, Option, Some, None}
use Rattle.std.specs.Prelude.{◌&&◌, ◌||◌, not, if◌then◌else◌}
use Rattle.oss_syntax.specs.declared.access.Access.{Access}
use Rattle.oss_syntax.specs.declared.access.Mode.{Mode}
use Rattle.oss_model.specs.Rights.{Holds, Mark, NoRight, Released, Right, first_mark, in_access, is_fresh, is_mixed, is_no_join, is_unjoinable, joined_mode, joined_right, mark_from, right_from, right_held}
use Rattle.oss_needs.specs.declared.clause.Clause.{Clause}
use Rattle.oss_needs.specs.declared.clause.Given.TheVariants as given
use Rattle.oss_needs.specs.declared.demand.Demand.{Demand}
use Rattle.oss_needs.specs.Claims.{GivenIsRight, all_right, is_joined, is_nothing, said}
use Rattle.oss_needs.specs.Givens.{clause_by, given_of, said_by, says_both, with_clause}
use Rattle.oss_needs.specs.Lacks.{lack_of}
use Rattle.oss_needs.specs.Meeting.{all_met, is_met, mark_behind, mark_by, right_by}
use Rattle.oss_needs.proofs.Bools.{never, or_false}
use Rattle.oss_needs.proofs.MendedLemmas.{told}

and_true : (b : Bool) → (b && true) ≡ b
and_true true = refl
and_true false = refl

-- Clauses release nothing.
abbrev is_unreleased : Right → Bool
is_unreleased Released = false
is_unreleased _ = true

held_unreleased : (o : Option Mode) (s : Bool) → is_unreleased (right_held o s) ≡ true
held_unreleased None s = refl
held_unreleased (Some m) s = refl

joined_unreleased : (m : Mode) (s : Bool) (r : Right) → is_unreleased (joined_right m s r) ≡ true
joined_unreleased m s NoRight = refl
joined_unreleased m s Released = refl
joined_unreleased m s (Holds n other) = held_unreleased (joined_mode m n) (s || other)

unreleased : (final : Bool) (clauses : List Access) (c : ℕ) → is_unreleased (right_from final clauses c) ≡ true
unreleased final [] c = refl
unreleased final (a ∷ rest) c = go (unreleased final rest c) (in_access a c)
  where
    go : is_unreleased (right_from final rest c) ≡ true → (i : Bool) → is_unreleased (if i then joined_right a.mode (final || a.strong) (right_from final rest c) else right_from final rest c) ≡ true
    go u true = joined_unreleased a.mode (final || a.strong) (right_from final rest c)
    go u false = u

-- A clause that joins others leaves a right, unless it mixes the cell.
held_none : (o : Option Mode) (s x : Bool) → (x || (true && is_no_join o)) ≡ false → right_held o s ≡ NoRight → true ≡ false
held_none None s true m r = m
held_none None s false m r = m
held_none (Some k) s x m r = cc

joined_none : (m : Mode) (s : Bool) (r : Right) (x : Bool) → (x || (true && is_unjoinable m r)) ≡ false → joined_right m s r ≡ NoRight → true ≡ false
joined_none m s NoRight x e r = cc
joined_none m s Released x e r = cc
joined_none m s (Holds n other) x e r = held_none (joined_mode m n) (s || other) x e r

-- Where no right is given and nothing is mixed, no clause names the cell.
unnamed : (final : Bool) (clauses : List Access) (c : ℕ) → is_mixed final clauses c ≡ false → right_from final clauses c ≡ NoRight → is_fresh clauses c ≡ true
unnamed final [] c m r = refl
unnamed final (a ∷ rest) c m r = go (unnamed final rest c) (in_access a c) m r
  where
    go : (is_mixed final rest c ≡ false → right_from final rest c ≡ NoRight → is_fresh rest c ≡ true) → (i : Bool) → (is_mixed final rest c || (i && is_unjoinable a.mode (right_from final rest c))) ≡ false
        → (if i then joined_right a.mode (final || a.strong) (right_from final rest c) else right_from final rest c) ≡ NoRight
        → (if i then a.fresh && is_fresh rest c else is_fresh rest c) ≡ true
    go u true m r = never (joined_none a.mode (final || a.strong) (right_from final rest c) (is_mixed final rest c) m r)
    go u false m r = u (sym (or_false (is_mixed final rest c)) ∙ m) r

-- One clause more.
joins : (d e : Clause) (o : Option Mode)
    → (if is_no_join o then given.Mixed else said_by (right_held o (d.strong || e.strong)) (d.fresh && e.fresh)) ≡ says_both o d e
joins d e None = refl
joins d e (Some m) = refl

named : (d : Clause) (x : Bool) (r : Right) (f : Bool) → (x ≡ false → r ≡ NoRight → f ≡ true) → is_unreleased r ≡ true
    → (if (x || (true && is_unjoinable d.mode r)) then given.Mixed else said_by (joined_right d.mode d.strong r) (d.fresh && f)) ≡ with_clause d (if x then given.Mixed else said_by r f)
named d true r f h u = refl
named d false Released f h u = never (sym u)
named d false NoRight f h u = ap (λ (t : Bool). given.Says (record { mode = d.mode; strong = d.strong; fresh = d.fresh && t })) (h refl refl) ∙ ap (λ (t : Bool). given.Says (record { mode = d.mode; strong = d.strong; fresh = t })) (and_true d.fresh)
named d false (Holds n other) f h u = joins d (record { mode = n; strong = other; fresh = f }) (joined_mode d.mode n)

pub given_more : (final : Bool) (a : Access) (rest : List Access) (c : ℕ)
    → given_of final (a ∷ rest) c ≡ (if in_access a c then with_clause (clause_by final a) (given_of final rest c) else given_of final rest c)
given_more final a rest c = go (in_access a c)
  where
    go : (i : Bool)
        → (if (is_mixed final rest c || (i && is_unjoinable a.mode (right_from final rest c))) then given.Mixed
        else said_by (if i then joined_right a.mode (final || a.strong) (right_from final rest c) else right_from final rest c) (if i then a.fresh && is_fresh rest c else is_fresh rest c))
        ≡ (if i then with_clause (clause_by final a) (given_of final rest c) else given_of final rest c)
    go true = named (clause_by final a) (is_mixed final rest c) (right_from final rest c) (is_fresh rest c) (unnamed final rest c) (unreleased final rest c)
    go false = ap (λ (b : Bool). if b then given.Mixed else said_by (right_from final rest c) (is_fresh rest c)) (or_false (is_mixed final rest c))

-- What is given is what the judge takes.
is_joined_by : (x : Bool) (r : Right) (f : Bool) → is_joined (if x then given.Mixed else said_by r f) ≡ not x
is_joined_by true r f = refl
is_joined_by false NoRight f = refl
is_joined_by false Released f = refl
is_joined_by false (Holds m s) f = refl

right_said : (x : Bool) (r : Right) (f : Bool) → x ≡ false → is_unreleased r ≡ true → right_by (said (if x then given.Mixed else said_by r f)) ≡ r
right_said true r f e u = never e
right_said false NoRight f e u = refl
right_said false Released f e u = never (sym u)
right_said false (Holds m s) f e u = refl

mark_said : (x : Bool) (r : Right) (f : Bool) → x ≡ false → mark_by (said (if x then given.Mixed else said_by r f)) ≡ first_mark r f
mark_said true r f e = never e
mark_said false NoRight f e = refl
mark_said false Released f e = refl
mark_said false (Holds m s) f e = refl

pub given_is : (final : Bool) (clauses : List Access) (c : ℕ) → GivenIsRight final clauses c
given_is final clauses c = record {
  joined = is_joined_by (is_mixed final clauses c) (right_from final clauses c) (is_fresh clauses c);
  right = λ e. right_said (is_mixed final clauses c) (right_from final clauses c) (is_fresh clauses c) e (unreleased final clauses c);
  mark = λ e. mark_said (is_mixed final clauses c) (right_from final clauses c) (is_fresh clauses c) e;
}

-- What is met under what is given is right for the judge.
met_right : (g : Option Clause) (ds : List Demand) → all_met g ds ≡ all_right (right_by g) (mark_by g) ds
met_right g [] = refl
met_right g (d ∷ ds) = ap (λ (b : Bool). b && is_met (right_by g) (mark_behind (mark_by g) ds) d) (met_right g ds)

pub lacks_faults : (final : Bool) (clauses : List Access) (c : ℕ) (ds : List Demand) → is_mixed final clauses c ≡ false
    → is_nothing (lack_of (given_of final clauses c) ds) ≡ all_right (right_from final clauses c) (mark_from final clauses c) ds
lacks_faults final clauses c ds e =
    let k = given_is final clauses c in
    told (given_of final clauses c) ds (k.joined ∙ ap not e) ∙ met_right (said (given_of final clauses c)) ds
    ∙ ap (λ (r : Right). all_right r (mark_by (said (given_of final clauses c))) ds) (k.right e)
    ∙ ap (λ (m : Mark). all_right (right_from final clauses c) m ds) (k.mark e)
