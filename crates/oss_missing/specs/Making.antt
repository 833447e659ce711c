-- How what is told of tasks is put together from what their clauses lack and from their lines.
-- Read against: of two tasks with the lines of one, the second gets none. Main, which no clause says anything of, gets its own lines and nothing else.
use Rattle.std.specs.Prelude.{◌≡◌, List, [], ◌∷◌, ◌++◌}
use Rattle.oss_syntax.specs.declared.tree.program.Item.{Item}
use Rattle.oss_model.specs.Order.{written}
use Rattle.oss_ranges.specs.Cells.{value_at}
use Rattle.oss_pieces.specs.Layouts.{grids_from}
use Rattle.oss_pieces.specs.Rows.{Grid}
use Rattle.oss_missing_lines.specs.declared.missing.Late.{Late}
use Rattle.oss_missing_lines.specs.declared.missing.TaskMissing.{TaskMissing}
use Rattle.oss_lacks.specs.declared.lacks.TaskLacks.{TaskLacks}
use Rattle.oss_lack_words.specs.Told.{AreLacking, AreWanting}
use Rattle.oss_missing_waits.specs.declared.waits.TaskWaits.{TaskWaits}

-- The place of the task, and the clauses that are missing, over globals that lie so, are those of this task.
pub record HasClauses (grids : List Grid) (t : TaskLacks) (k : TaskMissing) : Type 0 where
  pub task : k.task ≡ t.task
  pub line : k.line ≡ t.line
  pub lacks : (all : List Item) → grids ≡ grids_from all 0 → AreLacking all (value_at t.mending.lacks.pieces) k.lacks
  pub wants : (all : List Item) → grids ≡ grids_from all 0 → AreWanting all (value_at t.mending.lacks.pieces) t.is_final t.clauses k.wants

-- The same with these lines.
pub record IsMade (grids : List Grid) (t : TaskLacks) (lines : List Late) (k : TaskMissing) : Type 0 where
  pub clauses : HasClauses grids t k
  pub lines_are : k.late ≡ lines

-- Main with these lines.
pub record IsMainMade (lines : List Late) (k : TaskMissing) : Type 0 where
  pub task : k.task ≡ written []
  pub line : k.line ≡ 0
  pub lacks : k.lacks ≡ []
  pub wants : k.wants ≡ []
  pub lines_are : k.late ≡ lines

-- the lines of the next task: none where there are none
abbrev pub first_lines : List (List Late) → List Late
first_lines [] = []
first_lines (ls ∷ rest) = ls

-- what stands behind the first
abbrev pub others : {A : Type 0} → List A → List A
others [] = []
others (x ∷ rest) = rest

-- These are made of these tasks, one by one, and of their lines.
abbrev pub AreMade : List Grid → List TaskLacks → List (List Late) → List TaskMissing → Type 0
AreMade grids [] lines [] = Unit {0}
AreMade grids (t ∷ ts) lines (k ∷ ks) = IsMade grids t (first_lines lines) k × AreMade grids ts (others lines) ks
AreMade grids _ lines _ = ⊥

-- The list has one more, which is made of this task and of these lines.
pub record AddsOne (grids : List Grid) (t : TaskLacks) (lines : List Late) (old new : List TaskMissing) : Type 0 where
  pub one : TaskMissing
  pub made : IsMade grids t lines one
  pub new_is : new ≡ old ++ one ∷ []

-- The list has those more.
pub record AddsMade (grids : List Grid) (ts : List TaskLacks) (lines : List (List Late)) (old new : List TaskMissing) : Type 0 where
  pub added : List TaskMissing
  pub made : AreMade grids ts lines added
  pub new_is : new ≡ old ++ added

-- The list has main and then those.
pub record AreAllMade (grids : List Grid) (ts : List TaskLacks) (w : TaskWaits) (ks : List TaskMissing) : Type 0 where
  pub main : TaskMissing
  pub main_made : IsMainMade w.main main
  pub tasks : AddsMade grids ts w.tasks (main ∷ []) ks
