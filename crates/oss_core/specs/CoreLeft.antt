-- What is left to do for a core, told of what it keeps alone: a number that falls with each move of the machine, so a loop over a core may have it as
-- its measure. It is what is left to do in the state (`left` in `oss_wave_laws`) but for main's cells, which main never gives up.
-- Read against: in a memory of 2 cells a task that owes both, and whose body counts for 3, counts for 3 * 3 + 2; when its last act is done, for 2; and
-- behind the let of one cell for 1. Main, which owes no cell, counts for 3 times what its body counts for, and for nothing behind its end. Behind a
-- whole run of such tasks nothing is left; behind one that a fault has stopped something may be.
use Rattle.std.specs.Prelude.{ℕ, zero, suc, ◌+◌, ◌<◌, List, [], ◌∷◌, length, is_some}
use Rattle.oss_model.specs.Bodies.{Start}
use Rattle.oss_model.specs.Machine.{State}
use Rattle.oss_model.specs.Moves.{Moved}
use Rattle.oss_model.specs.Answers.{IsStopped}
use Rattle.oss_model.specs.Potential.{times, one_if}
use Rattle.oss_wave_laws.specs.Waves.{Turn, IsWave}
use Rattle.oss_wave_laws.specs.Passes.{GivenUp, IsPass}
use Rattle.oss_wave_laws.specs.Rounds.{Round, IsRound}
use Rattle.oss_ranges.specs.Cells.{value_at}
use Rattle.oss_ranges.specs.declared.piece.Piece.{Piece}
use Rattle.oss_code.specs.declared.code.CodeParts.{CodeParts}
use Rattle.oss_machine.specs.Frames.{CodeScript}
use Rattle.oss_machine.specs.Machines.{asks}
use Rattle.oss_body.specs.Left.{body_left}
use Rattle.oss_kept_tasks.specs.declared.held.Held.{Held}
use Rattle.oss_kept_tasks.specs.declared.held.Owed.{Owed}
use Rattle.oss_core.specs.Kept.{Kept, IsCore}

-- How many of the first so many cells are still to be given up: of the pieces `0..2 by a let` 2 of the first 5.
unfoldable pub cells_owed : List (Piece Owed) → ℕ → ℕ
cells_owed pieces zero = 0
cells_owed pieces (suc n) = one_if (is_some (value_at pieces n)) + cells_owed pieces n

-- What a task counts for in a memory of so many cells.
unfoldable pub held_left : CodeParts → ℕ → Held → ℕ
held_left code n held = times (body_left code held.body) (n + 1) + cells_owed held.owed.pieces n

-- What tasks count for together.
unfoldable pub helds_left : CodeParts → ℕ → List Held → ℕ
helds_left code n [] = 0
helds_left code n (held ∷ rest) = held_left code n held + helds_left code n rest

-- What is left to do for a core.
unfoldable pub core_left : CodeParts → Kept → ℕ
core_left code k = helds_left code (length k.cells) k.tasks

-- Each move leaves less to do.
abbrev pub CoreMovesFall : Type 0
CoreMovesFall = (code : CodeParts) (main : Start CodeScript) (first : List ℕ) (old new : Kept) (s n : State CodeScript)
    → IsCore code main first old s → IsCore code main first new n → Moved (asks code) s n → core_left code new < core_left code old

-- So does a wave in which a task has a turn,
abbrev pub CoreWavesFall : Type 0
CoreWavesFall = (code : CodeParts) (main : Start CodeScript) (first : List ℕ) (old new : Kept) (s n : State CodeScript) (turn : Turn) (rest : List Turn)
    → IsCore code main first old s → IsCore code main first new n → IsWave (asks code) s (turn ∷ rest) n → core_left code new < core_left code old

-- a pass that gives up a cell,
abbrev pub CorePassesFall : Type 0
CorePassesFall = (code : CodeParts) (main : Start CodeScript) (first : List ℕ) (old new : Kept) (s n : State CodeScript) (given : GivenUp) (rest : List GivenUp)
    → IsCore code main first old s → IsCore code main first new n → IsPass (asks code) s (given ∷ rest) n → core_left code new < core_left code old

-- and a round that begins where some move may be made.
abbrev pub CoreRoundsFall : Type 0
CoreRoundsFall = (code : CodeParts) (main : Start CodeScript) (first : List ℕ) (old new : Kept) (s n : State CodeScript) (round : Round)
    → IsCore code main first old s → IsCore code main first new n → (IsStopped (asks code) s → ⊥) → IsRound (asks code) s round n → core_left code new < core_left code old
