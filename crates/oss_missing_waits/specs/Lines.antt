-- How what was told of a task on the second walk is kept as lines.
-- Read against: that main's child 0, created on line 3, hinders a read of x on line 7 is kept with the number 0 of the child, the lines 3 and 7, and the word of x in the child's clauses as they are mended.
use Rattle.std.specs.Prelude.{◌≡◌, ℕ, Bool, List, [], ◌∷◌, Option, Some}
use Rattle.oss_syntax.specs.declared.tree.program.Item.{Item}
use Rattle.oss_model.specs.Rights.{Folds, Reads, Touch, Writes}
use Rattle.oss_pieces.specs.Pieces.{ArePieces}
use Rattle.oss_explanation.specs.declared.explained.Touching.{Touching}
use Rattle.oss_explanation.specs.declared.explained.Touching.TheVariants as touching
use Rattle.oss_lent_cells.specs.declared.holder.Holder.{Holder}
use Rattle.oss_missing_lines.specs.declared.missing.Late.{Late}
use Rattle.oss_missing_lines.specs.declared.missing.Late.TheVariants as late
use Rattle.oss_missing_lines.specs.declared.missing.MissingWait.{MissingWait}
use Rattle.oss_missing_lines.specs.declared.missing.LateUse.{LateUse}
use Rattle.oss_missing_lines.specs.Words.{word_by}
use Rattle.oss_code.specs.declared.code.CodeParts.{CodeParts}
use Rattle.oss_machine.specs.Frames.{CodeScript}
use Rattle.oss_machine.specs.Machines.{asks}
use Rattle.oss_model.specs.Sequence.{IsAtEnd, Running}
use Rattle.oss_free_run.specs.FreeTasks.{free_main, free_program}
use Rattle.oss_lacks.specs.Nests.{Nest}
use Rattle.oss_missing_waits.specs.declared.waits.TaskWaits.{TaskWaits}
use Rattle.oss_missing_waits.specs.Holding.{Holding, Told, Uses, Waits}
use Rattle.oss_missing_waits.specs.Waits.{Mended, Waits as Walks, at_stop}

-- how a cell is touched, in the words of explanations
abbrev pub touching_by : Touch → Touching
touching_by Reads = touching.Reading
touching_by Writes = touching.Writing
touching_by (Folds op) = touching.Folding op

-- The line tells that a wait is missing.
pub record IsWait (t : Touch) (c line : ℕ) (child : Holder) (w : MissingWait) : Type 0 where
  pub touch : w.touch ≡ touching_by t
  pub cell : w.cell ≡ c
  pub line_is : w.line ≡ line
  pub number : w.child ≡ child.number
  pub created : w.created ≡ child.line
  pub word : w.word ≡ word_by child.clause

-- The line tells which cells are used behind a release.
pub record IsLateUse (all : List Item) (cells : ℕ → Bool) (line : ℕ) (u : LateUse) : Type 0 where
  pub pieces : ArePieces cells all 0 0 u.cells
  pub line_is : u.line ≡ line

abbrev pub IsLine : List Item → Told → Late → Type 0
IsLine all (Waits t c line child) (late.Wait w) = IsWait t c line child w
IsLine all (Uses cells line) (late.Use u) = IsLateUse all cells line u
IsLine all _ _ = ⊥

abbrev pub AreLines : List Item → List Told → List Late → Type 0
AreLines all [] [] = Unit {0}
AreLines all (t ∷ ts) (l ∷ ls) = IsLine all t l × AreLines all ts ls
AreLines all _ _ = ⊥

-- These are the lines of these tasks, one by one, all of which have ended.
abbrev pub AreTaskLines : List Item → List (Option Holding) → List (List Late) → Type 0
AreTaskLines all [] [] = Unit {0}
AreTaskLines all (Some h ∷ hs) (ls ∷ rest) = AreLines all h.told ls × AreTaskLines all hs rest
AreTaskLines all _ _ = ⊥

-- These are the lines of the code, with this much fuel for each task, over these globals, where the clauses of its tasks are mended so.
pub record AreWaits (code : CodeParts) (fuel : ℕ) (all : List Item) (w : Mended) (l : TaskWaits) : Type 0 where
  pub stage : Running CodeScript
  pub nest : Nest Holding
  pub walks : Walks w (asks code) (free_main code fuel) code.first stage nest
  pub end : IsAtEnd (free_program code) stage
  pub main : AreLines all (at_stop nest).acting.task.told l.main
  pub tasks : AreTaskLines all (at_stop nest).ended l.tasks
