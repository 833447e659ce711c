-- What holds of the open tasks of each sequential run, and of a free run.
use Rattle.std.specs.Prelude.{ℕ, ◌≤◌, List, ◌∷◌, length}
use Rattle.oss_model.specs.Bodies.{Frame, IsHalt, Order, Program, Start, ask_of}
use Rattle.oss_model.specs.Moves.{act_now, found_by}
use Rattle.oss_model.specs.Sequence.{direct_cells}
use Rattle.oss_model.specs.Agreement.{main_start}
use Rattle.oss_freed.specs.Freed.{freed}
use Rattle.oss_free_tasks.specs.Deeds.{IsDeed, free_deed}
use Rattle.oss_free_tasks.specs.OpenTasks.{Leads, Stands, behind}

-- An act of the run that is no fault is one of the first open task, and the tasks that are open then are those behind it. There is less left to do.
abbrev pub OpenTasksGoOn : Type 0 → Type 0
OpenTasksGoOn S = (P : Program S) (main : Start S) (first : List ℕ) (tasks : List (Frame S)) (cells : List ℕ) (s : Stands P main first tasks cells)
    → (IsHalt (act_now P s.body) → ⊥) → Leads P main first s.stage tasks (behind P (act_now P s.body) (found_by (act_now P s.body) cells) tasks) (direct_cells (act_now P s.body) cells)

-- The next act of a free run is what the counts of the first open task tell, and what the program itself asks there, clauses and all.
abbrev pub FreeDeedsAreActs : Type 0 → Type 0
FreeDeedsAreActs S = (P : Program S) (order : Order S) (first : List ℕ) (fuel : ℕ) (f : Frame S) (older : List (Frame S)) (cells : List ℕ) → length first ≤ 1048576
    → (s : Stands (freed (length first) P) (main_start order (length first) fuel) first (f ∷ older) cells)
    → IsDeed (length first) f (act_now (freed (length first) P) s.body) (ask_of P f).ask cells
    (free_deed (length first) f.context.fuel f.context.depth f.context.ticks f.context.created f.awaits cells (ask_of P f).ask (ask_of P f).line)
