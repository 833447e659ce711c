-- The list of the tasks that were opened, the oldest first, as a forest of accesses to each cell; and what may go on by it.
-- Tasks go by numbers here, and main is number 0. When an access is done, and when it is satisfied, is said by the forest of the model.
-- Read against: weakinout(a) as task 1, with the children out(a[0;2]) as task 2 and out(a[2;2]) as task 3, and in(a[0]) as task 4.
-- On cell 0 the forest has 1 and 4 on top, and 2 below 1; on cell 3 it has 1 on top, and 3 below it. Tasks 1, 2 and 3 may begin at
-- once, and 4 once 1 and 2 have given up cell 0.
use Rattle.std.specs.Prelude.{◌≡◌, ℕ, suc, ◌≤◌, ◌⊎◌, ◌==◌, Bool, true, false, if◌then◌else◌, List, [], ◌∷◌, Option, Some, None}
use Rattle.oss_syntax.specs.declared.access.Access.{Access}
use Rattle.oss_syntax.specs.declared.access.Op.{Op}
use Rattle.oss_syntax.specs.declared.access.Mode.{Mode}
use Rattle.oss_syntax.specs.declared.access.Mode.TheVariants.{Read, Write, Fold}
use Rattle.oss_model.specs.Order.{IsIn}
use Rattle.oss_model.specs.Rights.{in_access, covers}
use Rattle.oss_model.specs.Forest.{Forest, IsDone, IsWriteSatisfied, IsReadSatisfied}
use Rattle.oss_deps.specs.declared.opened.Open.{Open}

-- The access that names the cell.
abbrev pub access_at : List Access → ℕ → Option Access
access_at [] c = None
access_at (a ∷ rest) c = if in_access a c then Some a else access_at rest c

abbrev pub is_some_access : Option Access → Bool
is_some_access None = false
is_some_access (Some a) = true

abbrev pub mode_of_access : Option Access → Mode
mode_of_access None = Read
mode_of_access (Some a) = a.mode

-- The task has an access to the cell.
abbrev pub names : ℕ → Open → Bool
names c o = is_some_access (access_at o.accesses c)

-- The mode of the task's access to the cell.
abbrev pub mode_at : ℕ → Open → Mode
mode_at c o = mode_of_access (access_at o.accesses c)

-- The mode of the access of the task with this number.
abbrev pub mode_in : List Open → ℕ → ℕ → Mode
mode_in [] c v = Read
mode_in (o ∷ rest) c v = if o.task == v then mode_at c o else mode_in rest c v

-- The first stands before the second in the list.
pub data Precedes {A : Type 0} (x y : A) : List A → Type 0 where
  first : {xs : List A} → IsIn y xs → Precedes x y (x ∷ xs)
  later : {z : A} {xs : List A} → Precedes x y xs → Precedes x y (z ∷ xs)

-- A task of this number was opened with an access to the cell.
pub record HasOpened (opens : List Open) (c v : ℕ) : Type 0 where
  pub entry : Open
  pub listed : IsIn entry opens
  pub number : entry.task ≡ v
  pub named : names c entry ≡ true

-- An access of a child of main.
pub record IsTop (opens : List Open) (c v : ℕ) : Type 0 where
  pub opened : HasOpened opens c v
  pub parent : opened.entry.parent ≡ 0

-- An access, and one of a child of its task.
pub record IsChild (opens : List Open) (c u v : ℕ) : Type 0 where
  pub above : HasOpened opens c u
  pub opened : HasOpened opens c v
  pub parent : opened.entry.parent ≡ u

-- An access of an earlier sibling.
pub record IsEarlier (opens : List Open) (c u v : ℕ) : Type 0 where
  pub before : Open
  pub after : Open
  pub order : Precedes before after opens
  pub number : before.task ≡ u
  pub after_number : after.task ≡ v
  pub siblings : before.parent ≡ after.parent
  pub named : names c before ≡ true

-- The forest of all accesses to the cell. The test says which task has given up which cell.
abbrev pub opened_forest : List Open → (ℕ → ℕ → Bool) → ℕ → Forest ℕ
opened_forest opens given c = record {
  Top = IsTop opens c;
  Child = IsChild opens c;
  Earlier = IsEarlier opens c;
  mode = mode_in opens c;
  Given = λ v. given v c ≡ true;
}

-- The entries go from creators to their children: each number is opened once, and is not main's; a creator is not opened at or
-- behind its child.
pub data AreOrdered : List Open → Type 0 where
  none : AreOrdered []
  one : {o : Open} {rest : List Open} → (o.task ≡ 0 → ⊥) → ((q : Open) → IsIn q rest → q.task ≡ o.task → ⊥)
      → ((q : Open) → IsIn q (o ∷ rest) → q.task ≡ o.parent → ⊥) → AreOrdered rest → AreOrdered (o ∷ rest)

-- The creator has an access to the cell whose mode covers that of the entry.
pub record HasCover (opens : List Open) (c : ℕ) (o : Open) : Type 0 where
  pub above : HasOpened opens c o.parent
  pub covered : covers (mode_at c above.entry) (mode_at c o) ≡ true

-- Each access to a cell lies below one of the creator that covers it, unless the creator is main.
abbrev pub AreCovered : List Open → Type 0
AreCovered opens = (c : ℕ) (o : Open) → IsIn o opens → names c o ≡ true → (o.parent ≡ 0) ⊎ HasCover opens c o

-- A task with this number was opened.
pub record IsOpened (opens : List Open) (t : ℕ) : Type 0 where
  pub entry : Open
  pub listed : IsIn entry opens
  pub number : entry.task ≡ t

-- Main, or a task that was opened.
abbrev pub IsKnown : List Open → ℕ → Type 0
IsKnown opens t = (t ≡ 0) ⊎ IsOpened opens t

-- So deep is a task nested: main not at all, and a child one deeper than its creator.
pub data IsNested (opens : List Open) : ℕ → ℕ → Type 0 where
  main : IsNested opens 0 0
  child : (o : Open) (depth : ℕ) → IsIn o opens → IsNested opens o.parent depth → IsNested opens o.task (suc depth)

-- The accesses name no cell twice.
abbrev pub IsOnce : List Access → Type 0
IsOnce accesses = (a : Access) (c : ℕ) → IsIn a accesses → in_access a c ≡ true → access_at accesses c ≡ Some a

-- Each access begins where the one before it ends, or behind.
abbrev pub IsRising : List Access → Type 0
IsRising [] = Unit {0}
IsRising (a ∷ []) = Unit {0}
IsRising (a ∷ b ∷ rest) = (a.range.hi ≤ b.range.lo) × IsRising (b ∷ rest)

-- The list is one of creations in their order, and covers its accesses.
pub record AreOpens (opens : List Open) : Type 0 where
  pub ordered : AreOrdered opens
  pub covered : AreCovered opens
  pub rooted : (o : Open) → IsIn o opens → IsKnown opens o.parent
  pub once : (o : Open) → IsIn o opens → IsOnce o.accesses

-- The strong access of the task to the cell has this mode.
pub record Asks (opens : List Open) (t c : ℕ) (mode : Mode) : Type 0 where
  pub entry : Open
  pub listed : IsIn entry opens
  pub number : entry.task ≡ t
  pub access : Access
  pub at_ : access_at entry.accesses c ≡ Some access
  pub mode_is : access.mode ≡ mode
  pub strong : access.strong ≡ true

-- The task may begin, as far as its cells go: each cell that it reads is satisfied for a read, and each that it writes for a write.
-- Main always may, and weak accesses and reductions ask for nothing.
pub record IsMet (opens : List Open) (given : ℕ → ℕ → Bool) (t : ℕ) : Type 0 where
  pub reads : (c : ℕ) → Asks opens t c Read → IsReadSatisfied (opened_forest opens given c) t
  pub writes : (c : ℕ) → Asks opens t c Write → IsWriteSatisfied (opened_forest opens given c) t

-- Each access to the cell of a child of this task is done.
abbrev pub AreChildrenDone : List Open → (ℕ → ℕ → Bool) → ℕ → ℕ → Type 0
AreChildrenDone opens given t c = (o : Open) → IsIn o opens → o.parent ≡ t → names c o ≡ true → IsDone (opened_forest opens given c) o.task

-- The access of the task to the cell is a reduction.
pub record IsFolding (opens : List Open) (t c : ℕ) : Type 0 where
  pub opened : HasOpened opens c t
  pub op : Op
  pub mode_is : mode_in opens c t ≡ Fold op
