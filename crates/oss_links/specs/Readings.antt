-- What the flags of an access tell of its task.
-- Read against: the tasks of `Held`, with the flags of `Flags` in oss_access_lists. Before anything is given up, task 1 and its child 3 have their
-- flags to read and to write, and tasks 4, 5 and 6 have none. So task 1 is met; task 6 is not, since its access to a asks for the flag to
-- read; and tasks 4 and 5, whose accesses are reductions, ask for none. Main's last access there is that of task 6, which is not whole, so
-- not all accesses of main's children are done; nor are those of task 1, since that of task 3 is not.
use Rattle.std.specs.Prelude.{◌≡◌, ◌↔◌, ℕ, ◌==◌, ◌||◌, not, Bool, true, List}
use Rattle.oss_syntax.specs.declared.access.Access.{Access}
use Rattle.oss_syntax.specs.declared.access.Mode.{Mode}
use Rattle.oss_syntax.specs.declared.access.Mode.TheVariants.{Read, Write, Fold}
use Rattle.oss_syntax.specs.declared.access.Op.{Op}
use Rattle.oss_model.specs.Order.{IsIn}
use Rattle.oss_model.specs.Rights.{in_access}
use Rattle.oss_model.specs.Forest.{IsDone, IsReadSatisfied, IsWriteSatisfied, IsJoinSatisfied}
use Rattle.oss_deps.specs.declared.opened.Open.{Open}
use Rattle.oss_deps.specs.Opens.{IsEarlier, mode_in, names, opened_forest}
use Rattle.oss_access_lists.specs.declared.marks.Marks.{Marks}
use Rattle.oss_access_lists.specs.Wires.{Wires}
use Rattle.oss_access_lists.specs.Flags.{Flag, Means, has, is_whole}

-- Each flag is among these exactly where what it says of the access is so.
abbrev pub AreTrue : Wires → ℕ → Marks → Type 0
AreTrue w v marks = (f : Flag) → has f marks ≡ true ↔ Means w f v

-- Each flag is among these exactly where what it says is so of the task's access to the cell, by what was opened and given up.
pub record TellOfTask (opens : List Open) (given : ℕ → ℕ → Bool) (c t : ℕ) (marks : Marks) : Type 0 where
  pub reads : marks.reads ≡ true ↔ IsReadSatisfied (opened_forest opens given c) t
  pub writes : marks.writes ≡ true ↔ IsWriteSatisfied (opened_forest opens given c) t
  pub joins : (op : Op) → mode_in opens c t ≡ Fold op → (marks.joins ≡ true ↔ IsJoinSatisfied (opened_forest opens given c) op t)
  pub given_up : marks.given ≡ true ↔ (given t c ≡ true)
  pub done : marks.done ≡ true ↔ IsDone (opened_forest opens given c) t
  pub clear : marks.clear ≡ true ↔ ((s : ℕ) → IsEarlier opens c s t → IsDone (opened_forest opens given c) s)

-- The flag stands that an access of this mode asks for before its task may begin: a reduction asks for none.
abbrev pub is_let : Mode → Marks → Bool
is_let Read x = x.reads
is_let Write x = x.writes
is_let (Fold op) x = true

-- The same of an access that may be weak: a weak one asks for none.
abbrev pub is_let_go : Access → Marks → Bool
is_let_go a x = not a.strong || is_let a.mode x

-- At each cell of each access of the task the flag stands that the access asks for.
abbrev pub AreLet : Open → (ℕ → Marks) → Type 0
AreLet o marks = (a : Access) (c : ℕ) → IsIn a o.accesses → in_access a c ≡ true → is_let_go a (marks c) ≡ true

-- The flags at each cell tell of the task's access there.
abbrev pub TellOfEach : List Open → (ℕ → ℕ → Bool) → Open → (ℕ → Marks) → Type 0
TellOfEach opens given o marks = (c : ℕ) → names c o ≡ true → TellOfTask opens given c o.task (marks c)

-- The list of p is empty, or the flags of its last access tell that all in it is done.
abbrev pub is_list_done : Wires → (ℕ → Marks) → ℕ → Bool
is_list_done w F p = (w.last p == 0) || is_whole (F (w.last p))
