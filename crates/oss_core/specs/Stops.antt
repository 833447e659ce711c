-- A core that stands still, and its answer, told of what it keeps alone.
-- Read against: main has created out(x), which divides by 0 on line 4, and in(x); main has ended. Only the first task could go on, and it stands before a fault: so no move may
-- be made, the second task and the first are not complete, and the answer is the fault on line 4, with what was printed up to its key.
use Rattle.std.specs.Prelude.{◌≡◌, ℕ, ◌<◌, ◌↔◌, List, [], ◌∷◌, length}
use Rattle.oss_syntax.specs.declared.fault.FaultKind.{FaultKind}
use Rattle.oss_model.specs.Order.{IsIn}
use Rattle.oss_model.specs.Bodies.{Program}
use Rattle.oss_model.specs.Machine as machine
use Rattle.oss_model.specs.Machine.{State, Task, At}
use Rattle.oss_model.specs.declared.answer.Answer.{Answer}
use Rattle.oss_model.specs.declared.answer.Answer.TheVariants as answers
use Rattle.oss_model.specs.declared.moving.Move.{Move}
use Rattle.oss_tree.specs.declared.task.Task.{Task as TreeTask}
use Rattle.oss_tree.specs.Tasks.{IsComplete}
use Rattle.oss_tree.specs.Output.{IsOutput, up_to}
use Rattle.oss_kept_tasks.specs.FirstFault.{IsFaultless, IsLeastFaultAt}
use Rattle.oss_core.specs.Changes.{MayMove}
use Rattle.oss_core.specs.Kept.{Kept}

-- No move may be made.
abbrev pub IsStill : Kept → Type 0
IsStill k = (m : Move) → MayMove k m → ⊥

-- The answer of a core that stands still: where no task stands before a fault, all that was printed, in point order, and the memory; else the fault with the least key and what
-- was printed up to it.
pub data IsAnswerOf (k : Kept) : Answer → Type 0 where
  done : {output : List ℕ} → IsFaultless k.tasks → IsOutput k.tree.prints output → IsAnswerOf k (answers.Done output k.cells)
  fault : (v : ℕ) {kind : FaultKind} {line : ℕ} {key output : List ℕ} → IsLeastFaultAt k.tasks v kind line key → IsOutput (up_to key k.tree.prints) output → IsAnswerOf k (answers.Fault kind line output)

-- No number stands in the list twice.
abbrev pub AreApart : {A : Type 0} → List A → Type 0
AreApart [] = Unit {0}
AreApart (x ∷ xs) = (IsIn x xs → ⊥) × AreApart xs

-- Of the tasks below this number so many are not complete: there is a list of exactly these.
pub record AreUnfinishedTo (tasks : List TreeTask) (to n : ℕ) : Type 0 where
  pub list : List ℕ
  pub apart : AreApart list
  pub exact : (v : ℕ) → (IsIn v list ↔ ((v < to) × (IsComplete tasks v → ⊥)))
  pub count : length list ≡ n

-- The same of all tasks.
abbrev pub AreUnfinished : List TreeTask → ℕ → Type 0
AreUnfinished tasks n = AreUnfinishedTo tasks (length tasks) n

-- The task of the state with this path is not complete.
pub record IsUnfinished {S : Type 0} (P : Program S) (s : State S) (p : List ℕ) : Type 0 where
  pub task : Task S
  pub at_ : At s p task
  pub left : machine.IsComplete P s p → ⊥

-- So many tasks of the state are not complete: there is a list of exactly their paths, none twice.
pub record HasUnfinished {S : Type 0} (P : Program S) (s : State S) (n : ℕ) : Type 0 where
  pub list : List (List ℕ)
  pub apart : AreApart list
  pub exact : (p : List ℕ) → (IsIn p list ↔ IsUnfinished P s p)
  pub count : length list ≡ n
