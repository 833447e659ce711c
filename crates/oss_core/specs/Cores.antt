-- What contracts see of a core over a dependency system.
-- Read against: a core that has just begun is seen with one task, which owes nothing, the tree of main alone, what its dependency system is seen as, and
-- the cells of its code.
use Rattle.std.specs.Prelude.{List, ℕ}
use Rattle.oss_tree.specs.declared.task.Task.{Task}
use Rattle.oss_deps.specs.Seen.{Seen}
use Rattle.oss_core.specs.declared.machine.Core.{Core}
use Rattle.oss_core.specs.Kept.{Kept}

-- What is kept, of a dependency system what it is seen as.
abbrev pub kept_of : {D : Type 0} → (D → Seen) → Core D → Kept
kept_of seen core = record { tasks = core.tasks.items; tree = core.tree; seen = seen core.deps; cells = core.cells.items }

-- The tasks of its tree, in the order of their numbers.
abbrev pub tasks_in : {D : Type 0} → Core D → List Task
tasks_in core = core.tree.tasks

-- The cells of its memory.
abbrev pub cells_in : {D : Type 0} → Core D → List ℕ
cells_in core = core.cells.items
