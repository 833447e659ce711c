-- By which faults a touch is refused, and what each says of the right to the cell.
use Rattle.std.proofs.Common.{◌≡◌, ℕ, ◌<◌, refl, sym, subst, ◌∙◌, List, [], ◌∷◌, arith, Bool, true, false, Option, None, Some, if◌then◌else◌}
use Rattle.std.specs.Prelude.{◌||◌, ◌==◌, nat_lt}
use Rattle.std.proofs.lemmas.Bool.Decides.{nat_tests}
use Rattle.oss_syntax.specs.declared.access.Access.{Access}
use Rattle.oss_syntax.specs.declared.access.Mode.TheVariants.{Fold as Folding, Read, Write}
use Rattle.oss_syntax.specs.declared.access.Op.{Op}
use Rattle.oss_syntax.specs.declared.fault.FaultKind.{FaultKind}
use Rattle.oss_syntax.specs.declared.fault.FaultKind.TheVariants as fault
use Rattle.oss_syntax.specs.declared.tree.program.Item.{Item}
use Rattle.oss_model.specs.Context.{Context, in_clauses, tick_fault}
use Rattle.oss_model.specs.Rights.{Folds, Free, Holds, Lending, Mark, NoRight, Reading, Reads, Released, Right, Touch, Unwritten, Writes, Writing, Written, in_access, is_released, op_eq, touch_fault}
use Rattle.oss_explain.specs.declared.begun.ReleasedAt.{ReleasedAt}
use Rattle.oss_explanation.specs.declared.explained.Reason.{Reason}
use Rattle.oss_explain.specs.Failures.{HasCell}
use Rattle.oss_explain.specs.Reasons.{IsNotedReleased, IsReleasedOf}
use Rattle.oss_explain.proofs.HoldingLemmas.{ext}

-- What a fault of this kind says of the right to the cell; no other is one of a touch.
abbrev pub AtTouch : Right → FaultKind → Type 0
AtTouch r fault.Released = is_released r ≡ true
AtTouch r fault.NoRight = Unit {0}
AtTouch r fault.BadReduction = (op : Op) × (r ≡ Holds (Folding op) true)
AtTouch r fault.Lent = Unit {0}
AtTouch r fault.Unwritten = Unit {0}
AtTouch r _ = ⊥

at_kind : (r : Right) (k kind : FaultKind) → ◌≡◌ {A = Option FaultKind} (Some k) (Some kind) → AtTouch r k → AtTouch r kind
at_kind r k kind h a = let e : k ≡ kind = cc in subst (λ (x : FaultKind). AtTouch r x) e a

no_kind : (r : Right) (kind : FaultKind) → ◌≡◌ {A = Option FaultKind} None (Some kind) → AtTouch r kind
no_kind r kind h = absurd cc

pub at_touch : (r : Right) (l : Lending) (m : Mark) (touch : Touch) (kind : FaultKind) → touch_fault r l m touch ≡ Some kind → AtTouch r kind
at_touch Released l m touch kind h = at_kind Released fault.Released kind h refl
at_touch NoRight l m touch kind h = at_kind NoRight fault.NoRight kind h tt
at_touch (Holds mode false) l m touch kind h = at_kind (Holds mode false) fault.NoRight kind h tt
at_touch (Holds Read true) Writing m Reads kind h = at_kind (Holds Read true) fault.Lent kind h tt
at_touch (Holds Read true) Free m Reads kind h = no_kind (Holds Read true) kind h
at_touch (Holds Read true) Reading m Reads kind h = no_kind (Holds Read true) kind h
at_touch (Holds Read true) Free m Writes kind h = at_kind (Holds Read true) fault.NoRight kind h tt
at_touch (Holds Read true) Reading m Writes kind h = at_kind (Holds Read true) fault.NoRight kind h tt
at_touch (Holds Read true) Writing m Writes kind h = at_kind (Holds Read true) fault.NoRight kind h tt
at_touch (Holds Read true) Free m (Folds op) kind h = at_kind (Holds Read true) fault.NoRight kind h tt
at_touch (Holds Read true) Reading m (Folds op) kind h = at_kind (Holds Read true) fault.NoRight kind h tt
at_touch (Holds Read true) Writing m (Folds op) kind h = at_kind (Holds Read true) fault.NoRight kind h tt
at_touch (Holds Write true) Free Unwritten Reads kind h = at_kind (Holds Write true) fault.Unwritten kind h tt
at_touch (Holds Write true) Free Written Reads kind h = no_kind (Holds Write true) kind h
at_touch (Holds Write true) Free Unwritten Writes kind h = no_kind (Holds Write true) kind h
at_touch (Holds Write true) Free Written Writes kind h = no_kind (Holds Write true) kind h
at_touch (Holds Write true) Free Unwritten (Folds op) kind h = at_kind (Holds Write true) fault.Unwritten kind h tt
at_touch (Holds Write true) Free Written (Folds op) kind h = no_kind (Holds Write true) kind h
at_touch (Holds Write true) Reading Unwritten Reads kind h = at_kind (Holds Write true) fault.Unwritten kind h tt
at_touch (Holds Write true) Reading Written Reads kind h = no_kind (Holds Write true) kind h
at_touch (Holds Write true) Reading m Writes kind h = at_kind (Holds Write true) fault.Lent kind h tt
at_touch (Holds Write true) Reading m (Folds op) kind h = at_kind (Holds Write true) fault.Lent kind h tt
at_touch (Holds Write true) Writing m Reads kind h = at_kind (Holds Write true) fault.Lent kind h tt
at_touch (Holds Write true) Writing m Writes kind h = at_kind (Holds Write true) fault.Lent kind h tt
at_touch (Holds Write true) Writing m (Folds op) kind h = at_kind (Holds Write true) fault.Lent kind h tt
at_touch (Holds (Folding a) true) l m Reads kind h = at_kind (Holds (Folding a) true) fault.BadReduction kind h (a, refl)
at_touch (Holds (Folding a) true) l m Writes kind h = at_kind (Holds (Folding a) true) fault.BadReduction kind h (a, refl)
at_touch (Holds (Folding a) true) l m (Folds b) kind h = go (op_eq a b) h
  where
    go : (same : Bool) → (if same then None else Some fault.BadReduction) ≡ Some kind → AtTouch (Holds (Folding a) true) kind
    go true e = no_kind (Holds (Folding a) true) kind e
    go false e = at_kind (Holds (Folding a) true) fault.BadReduction kind e (a, refl)

-- the same of a kind that is known
pub at_known : (r : Right) (l : Lending) (m : Mark) (touch : Touch) (kind k : FaultKind) → kind ≡ k → touch_fault r l m touch ≡ Some kind → AtTouch r k
at_known r l m touch kind k e h = subst (λ (x : FaultKind). AtTouch r x) e (at_touch r l m touch kind h)

-- Ticks

pub tick_kind : (x : Context) (kind : FaultKind) → tick_fault x ≡ Some kind → kind ≡ fault.OutOfFuel
tick_kind x kind h = go (nat_lt x.ticks x.fuel) h
  where
    go : (b : Bool) → (if b then None else Some fault.OutOfFuel) ≡ Some kind → kind ≡ fault.OutOfFuel
    go true e = absurd cc
    go false e = cc

-- Cells

access_within : (a : Access) (c : ℕ) → in_access a c ≡ true → c < 1048576
access_within a c h = let w = a.range.within in grind (arith, nat_tests)

-- what clauses name is a cell that a program may have
pub clauses_within : (xs : List Access) (c : ℕ) → in_clauses xs c ≡ true → c < 1048576
clauses_within [] c h = absurd cc
clauses_within (a ∷ rest) c h = go (clauses_within rest c) (in_access a c) refl h
  where
    go : (in_clauses rest c ≡ true → c < 1048576) → (b : Bool) → in_access a c ≡ b → (b || in_clauses rest c) ≡ true → c < 1048576
    go more true e k = access_within a c e
    go more false e k = more k

pub noted_within : (rs : List ReleasedAt) (c : ℕ) → IsNotedReleased rs c → c < 1048576
noted_within rs c h = clauses_within h.0.clauses c h.1.1

-- Sets of one cell

pub cell_same : (cell c : ℕ) → (cell == c) ≡ true → cell ≡ c
cell_same cell c h = grind (arith, nat_tests)

cell_itself : (cell : ℕ) → (cell == cell) ≡ true
cell_itself cell = grind (arith, nat_tests)

module _ (test : ℕ → Bool) (cell : ℕ) (one : (c : ℕ) → test c ≡ (cell == c)) (rs os : List ReleasedAt) (same : rs ≡ os) where
  pub one_there : cell < 1048576 → HasCell test
  one_there l = (cell, (l, one cell ∙ cell_itself cell))

  pub one_noted : IsNotedReleased os cell → (c : ℕ) → test c ≡ true → IsNotedReleased rs c
  one_noted h c t = subst (λ (xs : List ReleasedAt). IsNotedReleased xs c) (sym same) (subst (λ (d : ℕ). IsNotedReleased os d) (cell_same cell c (sym (one c) ∙ t)) h)

  pub one_released : (all : List Item) (reason : Reason) → IsReleasedOf all test rs reason → IsReleasedOf all (λ c. cell == c) os reason
  one_released all reason h =
      let tests : test ≡ (λ (c : ℕ). cell == c) = ext one in
      subst (λ (t : ℕ → Bool). IsReleasedOf all t os reason) tests (subst (λ (xs : List ReleasedAt). IsReleasedOf all test xs reason) same h)
