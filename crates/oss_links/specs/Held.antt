-- That the lists of one cell hold exactly the accesses of the tasks that were opened with it, each in its place.
-- Read against: task 1 with inout(a), task 2 with in(b), task 3, a child of task 1, with out(a), tasks 4 and 5 with reduction(+: a), and
-- task 6 with in(a). On the cell a these are the accesses 1 to 5 of `Wires` in oss_access_lists: task 1 has the access 1, task 3 the access 2,
-- and tasks 4, 5 and 6 have 3, 4 and 5. Task 2 has none there. Access 2 hangs in the list of 1, since task 1 created task 3, and the others
-- hang in main's.
use Rattle.std.specs.Prelude.{◌≡◌, ℕ, ◌⊎◌, ◌==◌, if◌then◌else◌, Bool, true, false, List, Option, Some}
use Rattle.oss_syntax.specs.declared.access.Mode.TheVariants.{Write}
use Rattle.oss_model.specs.Order.{IsIn}
use Rattle.oss_deps.specs.declared.opened.Open.{Open}
use Rattle.oss_deps.specs.Opens.{names, mode_at, mode_in, HasOpened, IsOpened, Precedes}
use Rattle.oss_access_lists.specs.Wires.{Wires, IsBelow, IsBefore, AreWired, loose}

-- The access v hangs in main's list, if main is the creator, and else in the list of the creator's access.
pub data IsUnder (entry : ℕ → ℕ → Type 0) (w : Wires) (creator v : ℕ) : Type 0 where
  under_main : creator ≡ 0 → IsBelow w.place 0 v → IsUnder entry w creator v
  under_task : (p : ℕ) → entry creator p → IsBelow w.place p v → IsUnder entry w creator v

-- The lists of the cell c are those of the tasks that were opened, where `entry t v` says that v is the access of the task t: the tasks
-- that were opened with the cell have one access each, and no other task has one; each access that hangs in a list is of a task, and hangs
-- in the list of its creator, behind the accesses of its earlier siblings; it has the task's mode, and is given up where the task has given
-- up the cell.
pub record AreHeld (opens : List Open) (given : ℕ → ℕ → Bool) (c : ℕ) (w : Wires) (entry : ℕ → ℕ → Type 0) : Type 0 where
  pub wired : AreWired w
  pub opened : (t v : ℕ) → entry t v → HasOpened opens c t
  pub one_number : (t u v : ℕ) → entry t u → entry t v → u ≡ v
  pub one_task : (t s v : ℕ) → entry t v → entry s v → t ≡ s
  pub held : (t : ℕ) → HasOpened opens c t → (v : ℕ) × entry t v
  pub not_main : (t v : ℕ) → entry t v → (t ≡ 0 → ⊥) × (v ≡ 0 → ⊥)
  pub hung : (p v : ℕ) → IsBelow w.place p v → (t : ℕ) × entry t v
  pub under : (o : Open) (v : ℕ) → IsIn o opens → names c o ≡ true → entry o.task v → IsUnder entry w o.parent v
  pub order : (a b : Open) (u v : ℕ) → Precedes a b opens → a.parent ≡ b.parent → names c a ≡ true → names c b ≡ true → entry a.task u → entry b.task v → IsBefore w.place u v
  pub mode : (t v : ℕ) → entry t v → mode_in opens c t ≡ w.mode v
  pub gave : (t v : ℕ) → entry t v → given t c ≡ w.gave v

-- p is main's access, and t is main; or it is the access of the task t.
abbrev pub IsAccessOrMain : (ℕ → ℕ → Type 0) → ℕ → ℕ → Type 0
IsAccessOrMain entry t p = ((t ≡ 0) × (p ≡ 0)) ⊎ entry t p

-- No access hangs anywhere.
pub record AreEmpty (w : Wires) : Type 0 where
  pub places : (v : ℕ) → w.place v ≡ loose
  pub lasts : (v : ℕ) → w.last v ≡ 0
  pub main_mode : w.mode 0 ≡ Write
  pub main_holds : w.gave 0 ≡ false

-- Both are the same lists.
pub record AreAlike (w n : Wires) : Type 0 where
  pub places : (v : ℕ) → w.place v ≡ n.place v
  pub lasts : (v : ℕ) → w.last v ≡ n.last v
  pub modes : (v : ℕ) → w.mode v ≡ n.mode v
  pub gave : (v : ℕ) → w.gave v ≡ n.gave v

-- The task o is a new one with an access to the cell, which is hung as e, with its mode, in the list p of its creator.
pub record IsNewAccess (opens : List Open) (given : ℕ → ℕ → Bool) (c : ℕ) (n : Wires) (entry : ℕ → ℕ → Type 0) (o : Open) (p e : ℕ) : Type 0 where
  pub named : names c o ≡ true
  pub fresh : IsOpened opens o.task → ⊥
  pub not_main : o.task ≡ 0 → ⊥
  pub not_given : given o.task c ≡ false
  pub creator : IsAccessOrMain entry o.parent p
  pub mode : n.mode e ≡ mode_at c o

-- The access is that of the task, or the new access e that of the new task t.
pub data IsAdded (entry : ℕ → ℕ → Type 0) (t e : ℕ) (s v : ℕ) : Type 0 where
  old : entry s v → IsAdded entry t e s v
  new : s ≡ t → v ≡ e → IsAdded entry t e s v

-- The access v is the task t's by a function that tells the task of each access.
abbrev pub IsAccessOf : (ℕ → Option ℕ) → ℕ → ℕ → Type 0
IsAccessOf task_of t v = task_of v ≡ Some t

-- The new access e is that of the task t, and the tasks of the others are as before.
abbrev pub with_task : (ℕ → Option ℕ) → ℕ → ℕ → ℕ → Option ℕ
with_task task_of t e v = if v == e then Some t else task_of v
