-- All that is missing of the clauses of a program.
-- Read against: main creates a task with `in(x)` on line 3, which stores into x and releases x, and stores into x again on line 6; on line 8 main reads x. Main is told first, at the point 0, with the wait that is missing before the read on line 8, which
-- the task hinders. Then the task is told, at the point 0.0, with line 3: it lacks `out(x)`, nothing stands in place of its clauses, and it uses x on line 6 behind a release. If it divides by 0 behind that, main reads nothing: the wait is not told, and the fault is.
use Rattle.std.specs.Prelude.{◌≡◌, ℕ, List, [], ◌∷◌, Option, Some, None}
use Rattle.oss_syntax.specs.declared.tree.program.Item.{Item}
use Rattle.oss_model.specs.Order.{written}
use Rattle.oss_model.specs.Sequence.{IsAtEnd, Running}
use Rattle.oss_code.specs.declared.code.CodeParts.{CodeParts}
use Rattle.oss_machine.specs.Frames.{CodeScript}
use Rattle.oss_machine.specs.Machines.{asks}
use Rattle.oss_needs.specs.Givens.{given_of}
use Rattle.oss_needs.specs.Lacks.{lack_of}
use Rattle.oss_needs.specs.declared.lack.Lack.{Lack}
use Rattle.oss_task_needs.specs.Mends.{kept_lack, only_before}
use Rattle.oss_free_run.specs.FreeTasks.{free_main, free_program}
use Rattle.oss_missing_lines.specs.declared.missing.Late.{Late}
use Rattle.oss_missing_lines.specs.declared.missing.Missing.{Missing}
use Rattle.oss_missing_lines.specs.declared.missing.TaskMissing.{TaskMissing}
use Rattle.oss_lacks.specs.Asking.{Asking}
use Rattle.oss_lacks.specs.Lacks.{IsWalked}
use Rattle.oss_lacks.specs.Nests.{Nest}
use Rattle.oss_lacks.specs.Walks.{at_stop}
use Rattle.oss_lack_words.specs.Told.{AreLacking, AreWanting}
use Rattle.oss_missing_waits.specs.Holding.{Holding, Told}
use Rattle.oss_missing_waits.specs.Lines.{AreLines}
use Rattle.oss_missing_waits.specs.Waits.{Waits, mended_in, at_stop as at_second_stop}
use Rattle.oss_missing.specs.Making.{others}

-- what the clauses of a task lack of each cell that a program may have
abbrev pub lacks_of : Asking → ℕ → Option Lack
lacks_of t c = only_before 1048576 c (kept_lack (lack_of (given_of t.final t.clauses c) (t.asked c)))

-- the first, where there is one
abbrev pub first_known : {A : Type 0} → List (Option A) → Option A
first_known [] = None
first_known (x ∷ rest) = x

-- These are the lines of a task of which this is known on the second walk; none where nothing is.
abbrev pub AreLinesOf : List Item → Option Holding → List Late → Type 0
AreLinesOf all None ls = ls ≡ []
AreLinesOf all (Some h) ls = AreLines all h.told ls

-- This is missing of this task, of which this is known on the second walk.
pub record IsTaskMissing (all : List Item) (t : Asking) (h : Option Holding) (k : TaskMissing) : Type 0 where
  pub task : k.task ≡ written t.path
  pub line : k.line ≡ t.line
  pub lacks : AreLacking all (lacks_of t) k.lacks
  pub wants : AreWanting all (lacks_of t) t.final t.clauses k.wants
  pub lines : AreLinesOf all h k.late

-- This is missing of these tasks, one by one, all of which have ended. (The second walk has numbered them alike, and knows of no more: the law `walks_number_alike` of oss_missing_laws.)
abbrev pub AreTasksMissing : List Item → List (Option Asking) → List (Option Holding) → List TaskMissing → Type 0
AreTasksMissing all [] hs [] = Unit {0}
AreTasksMissing all (Some t ∷ ts) hs (k ∷ ks) = IsTaskMissing all t (first_known hs) k × AreTasksMissing all ts (others hs) ks
AreTasksMissing all _ hs _ = ⊥

-- Of main, which no clause says anything of, this was told on the second walk.
pub record IsMainMissing (all : List Item) (told : List Told) (k : TaskMissing) : Type 0 where
  pub task : k.task ≡ written []
  pub line : k.line ≡ 0
  pub lacks : k.lacks ≡ []
  pub wants : k.wants ≡ []
  pub lines : AreLines all told k.late

-- Main, and then all tasks.
abbrev pub AreAllMissing : List Item → List (Option Asking) → Nest Holding → List TaskMissing → Type 0
AreAllMissing all ts n [] = ⊥
AreAllMissing all ts n (main ∷ ks) = IsMainMissing all n.acting.task.told main × AreTasksMissing all ts n.ended ks

-- This is all that is missing of the clauses of the code, with this much fuel for each task, over these globals: what clauses lack as the free run shows it, and the lines of a second walk over it by the clauses that all tasks have once that is mended.
pub record IsMissing (code : CodeParts) (fuel : ℕ) (all : List Item) (m : Missing) : Type 0 where
  pub nest : Nest Asking
  pub walked : IsWalked code fuel nest m.fault
  pub stage : Running CodeScript
  pub held : Nest Holding
  pub walks : Waits (mended_in (at_stop nest).ended) (asks code) (free_main code fuel) code.first stage held
  pub end : IsAtEnd (free_program code) stage
  pub tasks : AreAllMissing all (at_stop nest).ended (at_second_stop held) m.tasks
