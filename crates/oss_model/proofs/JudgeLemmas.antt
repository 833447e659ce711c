-- What the judge's tests tell.
use Rattle.std.proofs.Common.{◌≡◌, ◌≢◌, ℕ, zero, suc, ◌+◌, ◌-◌, ◌<◌, ◌≤◌, ◌⊎◌, inl, inr, refl, sym, subst, List, [], ◌∷◌, arith, Bool, true, false, Option, Some, None}
use Rattle.oss_syntax.specs.declared.access.Access.{Access}
use Rattle.oss_syntax.specs.declared.access.Mode.{Mode}
use Rattle.oss_syntax.specs.declared.access.Op.{Op}
use Rattle.oss_syntax.specs.declared.access.Op.TheVariants.{Add, And, Or, Xor}
use Rattle.oss_syntax.specs.declared.access.Mode.TheVariants.{Read, Write, Fold}
use Rattle.oss_syntax.specs.declared.fault.FaultKind.{FaultKind}
use Rattle.oss_syntax.specs.declared.fault.FaultKind.TheVariants as fault
use Rattle.std.specs.Prelude.{◌&&◌, ◌||◌, not, if◌then◌else◌, nat_lt, nat_le}
use Rattle.std.proofs.lemmas.Bool.Decides.{nat_tests}
use Rattle.oss_model.specs.Rights.{Right, NoRight, Released, Holds, Lending, Free, Reading, Writing, Mark, Touch, Reads, Writes, Folds, op_eq, covers, right_covers, touch_fault, in_access, right_from, any_from, any_cell, is_fold, holds_uncovered, is_released, is_mixed}
use Rattle.oss_model.specs.Context.{Context, clause_fault, in_clauses, right_of}

pub op_eq_is : (a b : Op) → op_eq a b ≡ true → a ≡ b
op_eq_is Add Add h = refl
op_eq_is And And h = refl
op_eq_is Or Or h = refl
op_eq_is Xor Xor h = refl
op_eq_is Add And h = cc
op_eq_is Add Or h = cc
op_eq_is Add Xor h = cc
op_eq_is And Add h = cc
op_eq_is And Or h = cc
op_eq_is And Xor h = cc
op_eq_is Or Add h = cc
op_eq_is Or And h = cc
op_eq_is Or Xor h = cc
op_eq_is Xor Add h = cc
op_eq_is Xor And h = cc
op_eq_is Xor Or h = cc

-- what a mode permits; the flag says that the fold goes to a slot
pub data Permits : Mode → Touch → Bool → Type 0 where
  read : Permits Read Reads false
  write : {t : Touch} → Permits Write t false
  fold : {op : Op} → Permits (Fold op) (Folds op) true

-- the lending that lets a touch of the mode pass
pub data Unlent : Mode → Touch → Lending → Type 0 where
  read : {l : Lending} → l ≢ Writing → Unlent Read Reads l
  write_read : {l : Lending} → l ≢ Writing → Unlent Write Reads l
  write : {t : Touch} → Unlent Write t Free
  fold : {op : Op} {l : Lending} → Unlent (Fold op) (Folds op) l

-- a touch without a fault
pub record Passes (r : Right) (l : Lending) (t : Touch) : Type 0 where
  pub mode : Mode
  pub holds : r ≡ Holds mode true
  pub permits : Permits mode t (is_fold r)
  pub unlent : Unlent mode t l

fold_passes : (a b : Op) (l : Lending) → op_eq a b ≡ true → Passes (Holds (Fold a) true) l (Folds b)
fold_passes a b l h =
    subst (λ (x : Op). Passes (Holds (Fold a) true) l (Folds x)) (op_eq_is a b h) (record { mode = Fold a; holds = refl; permits = Permits.fold; unlent = Unlent.fold })

fold_cases : (a b : Op) (l : Lending) (t : Bool) → t ≡ op_eq a b → (if t then None else Some fault.BadReduction) ≡ None → Passes (Holds (Fold a) true) l (Folds b)
fold_cases a b l true e h = fold_passes a b l (sym e)
fold_cases a b l false e h = cc

pub touch_passes : (r : Right) (l : Lending) (k : Mark) (t : Touch) → touch_fault r l k t ≡ None → Passes r l t
touch_passes NoRight l k t h = cc
touch_passes Released l k t h = cc
touch_passes (Holds m false) l k t h = cc
touch_passes (Holds Read true) Free k Reads h = record { mode = Read; holds = refl; permits = Permits.read; unlent = Unlent.read (λ e. cc) }
touch_passes (Holds Read true) Reading k Reads h = record { mode = Read; holds = refl; permits = Permits.read; unlent = Unlent.read (λ e. cc) }
touch_passes (Holds Read true) Writing k Reads h = cc
touch_passes (Holds Read true) Free k Writes h = cc
touch_passes (Holds Read true) Free k (Folds op) h = cc
touch_passes (Holds Read true) Reading k Writes h = cc
touch_passes (Holds Read true) Reading k (Folds op) h = cc
touch_passes (Holds Read true) Writing k Writes h = cc
touch_passes (Holds Read true) Writing k (Folds op) h = cc
touch_passes (Holds Write true) Free k t h = record { mode = Write; holds = refl; permits = Permits.write; unlent = Unlent.write }
touch_passes (Holds Write true) Reading k Reads h = record { mode = Write; holds = refl; permits = Permits.write; unlent = Unlent.write_read (λ e. cc) }
touch_passes (Holds Write true) Reading k Writes h = cc
touch_passes (Holds Write true) Reading k (Folds op) h = cc
touch_passes (Holds Write true) Writing k t h = cc
touch_passes (Holds (Fold a) true) l k Reads h = cc
touch_passes (Holds (Fold a) true) l k Writes h = cc
touch_passes (Holds (Fold a) true) l k (Folds b) h = fold_cases a b l (op_eq a b) refl h

-- a mode that covers another permits what it permits
pub covers_permits : (held m : Mode) (t : Touch) (slot strong other : Bool) → covers held m ≡ true → Permits m t (is_fold (Holds m other)) → Permits held t (is_fold (Holds held strong))
covers_permits Write m t slot strong other h p = Permits.write
covers_permits Read Read t slot strong other h p = p
covers_permits Read Write t slot strong other h p = cc
covers_permits Read (Fold op) t slot strong other h p = cc
covers_permits (Fold a) Read t slot strong other h p = cc
covers_permits (Fold a) Write t slot strong other h p = cc
covers_permits (Fold a) (Fold b) t slot strong other h p = subst (λ (x : Op). Permits (Fold x) t true) (sym (op_eq_is a b h)) p

pub covers_trans : (a b c : Mode) → covers a b ≡ true → covers b c ≡ true → covers a c ≡ true
covers_trans Write b c h k = refl
covers_trans Read Read c h k = k
covers_trans Read Write c h k = cc
covers_trans Read (Fold op) c h k = cc
covers_trans (Fold a) Read c h k = cc
covers_trans (Fold a) Write c h k = cc
covers_trans (Fold a) (Fold b) c h k = subst (λ (x : Op). covers (Fold x) c ≡ true) (sym (op_eq_is a b h)) k

or_false : (a b : Bool) → (a || b) ≡ false → (a ≡ false) × (b ≡ false)
or_false false b h = (refl, h)
or_false true b h = cc

and_true : (a b : Bool) → (a && b) ≡ true → (a ≡ true) × (b ≡ true)
and_true true b h = (refl, h)
and_true false b h = cc

-- this number, or a later one
here_or_later : (test : ℕ → Bool) (low c : ℕ) → low ≤ c → test low ≡ false → (low + 1 ≤ c → test c ≡ false) → test c ≡ false
here_or_later test low c a here later = go (which c)
  where
    which : (c : ℕ) → (c ≡ low) ⊎ (low + 1 ≤ c) ⊎ (c < low)
    which c = grind arith

    go : (c ≡ low) ⊎ (low + 1 ≤ c) ⊎ (c < low) → test c ≡ false
    go (inl e) = subst (λ (x : ℕ). test x ≡ false) (sym e) here
    go (inr (inl l)) = later l
    go (inr (inr l)) = absurd (omega arith)

pub any_from_none : (test : ℕ → Bool) (low n : ℕ) → any_from test low n ≡ false → (c : ℕ) → low ≤ c → c < low + n → test c ≡ false
any_from_none test low zero h c a b = absurd (omega arith)
any_from_none test low (suc n) h c a b =
    here_or_later test low c a (or_false (test low) (any_from test (low + 1) n) h).0
    (λ l. any_from_none test (low + 1) n (or_false (test low) (any_from test (low + 1) n) h).1 c l (omega arith))

in_range : (a : Access) (c : ℕ) → in_access a c ≡ true → (a.range.lo ≤ c) × (c < a.range.hi)
in_range a c h = let parts = and_true (nat_le a.range.lo c) (nat_lt c a.range.hi) h in (grind (arith, nat_tests, parts.0), grind (arith, nat_tests, parts.1))

-- a test that no cell of the accesses passes
pub any_cell_none : (test : ℕ → Bool) (xs : List Access) → any_cell test xs ≡ false → (c : ℕ) → in_clauses xs c ≡ true → test c ≡ false
any_cell_none test [] h c k = cc
any_cell_none test (a ∷ rest) h c k =
    let parts = or_false (any_from test a.range.lo (a.range.hi - a.range.lo)) (any_cell test rest) h in
    split (in_access a c) refl
    (λ e. let r = in_range a c e in any_from_none test a.range.lo (a.range.hi - a.range.lo) parts.0 c r.0 (omega (arith, r.1)))
    (λ e. any_cell_none test rest parts.1 c (rw e at k))
  where
    split : (b : Bool) → in_access a c ≡ b → (in_access a c ≡ true → test c ≡ false) → (in_access a c ≡ false → test c ≡ false) → test c ≡ false
    split true e f g = f e
    split false e f g = g e

-- a cell to which the clauses give a right is one of theirs
pub right_named : (final : Bool) (xs : List Access) (c : ℕ) (m : Mode) (strong : Bool) → right_from final xs c ≡ Holds m strong → in_clauses xs c ≡ true
right_named final [] c m strong h = cc
right_named final (a ∷ rest) c m strong h = split (in_access a c) refl (λ e. right_named final rest c m strong (rw e at h))
  where
    split : (b : Bool) → in_access a c ≡ b → (in_access a c ≡ false → in_clauses rest c ≡ true) → (in_access a c || in_clauses rest c) ≡ true
    split true e f = rw e refl
    split false e f = rw e (f e)

pub some_none : {A : Type 0} (b : Bool) (x : A) (o : Option A) → (if b then Some x else o) ≡ None → (b ≡ false) × (o ≡ None)
some_none false x o h = (refl, h)
some_none true x o h = cc

-- a right that covers an access
pub record Covered (r : Right) (m : Mode) : Type 0 where
  pub mode : Mode
  pub strong : Bool
  pub holds : r ≡ Holds mode strong
  pub covers : covers mode m ≡ true

covered_by : (r : Right) (m : Mode) → right_covers r m ≡ true → Covered r m
covered_by (Holds held strong) m h = record { mode = held; strong = strong; holds = refl; covers = h }
covered_by NoRight m h = cc
covered_by Released m h = cc

not_false : (b : Bool) → not b ≡ false → b ≡ true
not_false true h = refl
not_false false h = cc

-- each access of a new task is covered by its creator's right
pub clauses_covered : (x : Context) (clauses : List Access) (final : Bool) → clause_fault x clauses final ≡ None → (c : ℕ) (m : Mode) (strong : Bool) → right_from final clauses c ≡ Holds m strong → Covered ((right_of x) c) m
clauses_covered x clauses final h c m strong r =
    let a = some_none (any_cell (is_mixed final clauses) clauses) fault.MixedAccess (clause_rest x clauses final) h in
    let b = some_none (any_cell (λ (c : ℕ). is_released ((right_of x) c)) clauses) fault.Released (clause_last x clauses final) a.1 in
    let d = some_none (any_cell (uncovered x clauses final) clauses) fault.NotCovered None b.1 in
    let e = any_cell_none (uncovered x clauses final) clauses d.0 c (right_named final clauses c m strong r) in
    covered_by ((right_of x) c) m (not_false (right_covers ((right_of x) c) m) (rw r at e))
  where
    uncovered : Context → List Access → Bool → ℕ → Bool
    uncovered x clauses final c = holds_uncovered ((right_of x) c) (right_from final clauses c)

    clause_last : Context → List Access → Bool → Option FaultKind
    clause_last x clauses final = if any_cell (uncovered x clauses final) clauses then Some fault.NotCovered else None

    clause_rest : Context → List Access → Bool → Option FaultKind
    clause_rest x clauses final = if any_cell (λ (c : ℕ). is_released ((right_of x) c)) clauses then Some fault.Released else clause_last x clauses final
