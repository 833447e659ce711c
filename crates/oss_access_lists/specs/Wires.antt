-- The accesses to one cell, hung in lists: the accesses of the children of an access stand in the order of creation, each behind the
-- one before it. They go by numbers; number 0 stands for main, which hangs nowhere and gives up nothing.
-- Read against: a write, access 1, with the write of its child, access 2, below it; behind 1 in main's list two reductions by +, the
-- accesses 3 and 4, and a read, access 5. So 1 is the first of 0 and 2 the first of 1, 3 stands after 1, 4 after 3 and 5 after 4. The
-- last of 0 is 5, the last of 1 is 2, and the other lists are empty. 1 and 3 stand before 4, and 2 before nothing.
use Rattle.std.specs.Prelude.{◌≡◌, ℕ, ◌<◌, ◌⊎◌, Bool, true, false}
use Rattle.oss_syntax.specs.declared.access.Mode.{Mode}
use Rattle.oss_syntax.specs.declared.access.Mode.TheVariants.{Write}
use Rattle.oss_model.specs.Rights.{covers}
use Rattle.oss_model.specs.Forest.{Forest}

-- Where an access hangs: nowhere yet; first in the list of this access's task; directly behind this sibling.
pub data Place : Type 0 where
  loose : Place
  first : ℕ → Place
  after : ℕ → Place

-- v stands in the list of p: it is the first there, or stands directly behind one that does.
pub data IsBelow (place : ℕ → Place) (p : ℕ) : ℕ → Type 0 where
  head : {v : ℕ} → place v ≡ first p → IsBelow place p v
  tail : {u v : ℕ} → place v ≡ after u → IsBelow place p u → IsBelow place p v

-- u stands before v in one list: directly, or before the one that does.
pub data IsBefore (place : ℕ → Place) (u : ℕ) : ℕ → Type 0 where
  next : {v : ℕ} → place v ≡ after u → IsBefore place u v
  later : {t v : ℕ} → place v ≡ after t → IsBefore place u t → IsBefore place u v

-- The accesses to one cell.
pub record Wires : Type 0 where
  -- where each hangs
  pub place : ℕ → Place
  -- the last in its list, 0 where the list is empty
  pub last : ℕ → ℕ
  -- whether it reads, writes or reduces
  pub mode : ℕ → Mode
  -- the task has given up the cell
  pub gave : ℕ → Bool

-- The lists as a forest of accesses, of which the model says when an access is done and when it is satisfied.
abbrev pub wired : Wires → Forest ℕ
wired w = record {
  Top = λ v. IsBelow w.place 0 v;
  Child = λ p v. (p ≡ 0 → ⊥) × IsBelow w.place p v;
  Earlier = λ u v. IsBefore w.place u v;
  mode = w.mode;
  Given = λ v. w.gave v ≡ true;
}

-- What is so of all lists that grew by openings: numbers rise along a list and downwards; a list has exactly the accesses up to its
-- last; no access stands behind main; the mode of a creator's access covers those below it; main may write, and gives up nothing.
pub record AreWired (w : Wires) : Type 0 where
  pub behind : (u v : ℕ) → w.place v ≡ after u → u < v
  pub below : (p v : ℕ) → w.place v ≡ first p → p < v
  pub not_main : (v : ℕ) → w.place v ≡ after 0 → ⊥
  pub empty : (p v : ℕ) → w.last p ≡ 0 → IsBelow w.place p v → ⊥
  pub listed : (p v : ℕ) → w.last p ≡ v → (v ≡ 0 → ⊥) → IsBelow w.place p v
  pub all_before : (p u v : ℕ) → w.last p ≡ v → IsBelow w.place p u → (u ≡ v) ⊎ IsBefore w.place u v
  pub covered : (p v : ℕ) → IsBelow w.place p v → covers (w.mode p) (w.mode v) ≡ true
  pub main_writes : w.mode 0 ≡ Write
  pub main_holds : w.gave 0 ≡ false
