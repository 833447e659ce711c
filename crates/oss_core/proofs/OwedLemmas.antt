-- How the cells of accesses that rise are to be given up, access by access.
use Rattle.std.proofs.Common.{◌≡◌, ℕ, zero, suc, ◌+◌, ◌≤◌, ◌⊎◌, inl, inr, refl, sym, ap, subst, ◌∙◌, arith, Bool, true, false, List, [], ◌∷◌, take, add-one, Some, None}
use Rattle.std.specs.Prelude.{slice_get, if◌then◌else◌}
use Rattle.oss_syntax.specs.declared.access.Access.{Access}
use Rattle.oss_judge.specs.Joined.{IsRising}
use Rattle.oss_model.specs.Rights.{Holds, in_access}
use Rattle.oss_ranges.specs.Cells.{Assigns, value_at}
use Rattle.oss_ranges.specs.declared.piece.Piece.{Piece}
use Rattle.oss_deps.specs.Opens.{access_at}
use Rattle.oss_deps.proofs.OpenLemmas.{in_bounds}
use Rattle.oss_kept_tasks.specs.declared.held.Owed.{Owed}
use Rattle.oss_core.specs.Changes.{owed_by_access}
use Rattle.oss_core.specs.Kept.{owed_by}
use Rattle.oss_core.proofs.EntryLemmas.{bools}
use Rattle.oss_core.proofs.KeepLemmas.{some_is}

-- each access behind the first begins behind its end
pub behind : (x : Access) (rest : List Access) (i : ℕ) (a : Access) → IsRising (x ∷ rest) → slice_get rest i ≡ Some a → x.range.hi ≤ a.range.lo
behind x [] i a r e = absurd cc
behind x (y ∷ more) zero a r e = subst (λ (z : Access). x.range.hi ≤ z.range.lo) (some_is e) r.0.behind
behind x (y ∷ more) (suc i) a r e = let h = behind y more i a r.1 e in let f = r.0.behind in let o = y.range.ordered in omega (arith, h, f, o)

pub rising_rest : (x : Access) (rest : List Access) → IsRising (x ∷ rest) → IsRising rest
rising_rest x [] r = tt
rising_rest x (y ∷ more) r = r.1

no_overlap : (x a : Access) (c : ℕ) → x.range.hi ≤ a.range.lo → in_access x c ≡ true → (b : Bool) → in_access a c ≡ b → b ≡ false
no_overlap x a c l h false e = refl
no_overlap x a c l h true e = let u = in_bounds x c h in let v = in_bounds a c e in absurd (omega (arith, u.1, v.0, l))

-- the access of a cell, with one access more
taken : (xs : List Access) (i : ℕ) (a : Access) (c : ℕ) → IsRising xs → slice_get xs i ≡ Some a → access_at (take (suc i) xs) c ≡ (if in_access a c then Some a else access_at (take i xs) c)
taken [] i a c r e = absurd cc
taken (x ∷ rest) zero a c r e = ap (λ (z : Access). if in_access z c then Some z else None) (some_is e)
taken (x ∷ rest) (suc i) a c r e = by (bools (in_access x c)) (taken rest i a c (rising_rest x rest r) e)
  where
    by : (in_access x c ≡ true) ⊎ (in_access x c ≡ false) → access_at (take (suc i) rest) c ≡ (if in_access a c then Some a else access_at (take i rest) c)
        → access_at (take (suc (suc i)) (x ∷ rest)) c ≡ (if in_access a c then Some a else access_at (take (suc i) (x ∷ rest)) c)
    by (inl h) k = let n = no_overlap x a c (behind x rest i a r e) h (in_access a c) refl in rw (h, n) refl
    by (inr h) k = rw h k

-- a map of what is owed, with one access more
pub owed_more : (xs : List Access) → IsRising xs → (i : ℕ) (a : Access) → slice_get xs i ≡ Some a → (old new : List (Piece Owed)) → ((c : ℕ) → value_at old c ≡ owed_by_access (access_at (take i xs) c))
    → (w : Owed) → Some w ≡ owed_by (Holds a.mode a.strong) → Assigns a.range.lo a.range.hi (Some w) old new → (c : ℕ) → value_at new c ≡ owed_by_access (access_at (take (i + 1) xs) c)
owed_more xs rising i a e old new so w is assigns c = rw add-one (assigns c ∙ by (in_access a c) refl ∙ ap owed_by_access (sym (taken xs i a c rising e)))
  where
    by : (b : Bool) → in_access a c ≡ b → (if b then Some w else value_at old c) ≡ owed_by_access (if b then Some a else access_at (take i xs) c)
    by true h = is
    by false h = so c
