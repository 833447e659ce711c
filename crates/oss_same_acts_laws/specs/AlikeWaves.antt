-- Runs by waves of two programs whose bodies do the same acts: they have the same rounds, come to states that are alike, and have one trace. So
-- whoever runs the code of a program by waves may tell the trace of the program itself.
-- Read against: a program whose scripts are statements, and one whose scripts are places in a code. In each main creates a task with out(x) that
-- stores 5, and ends. Both have `step 0 5` in round 1, and `step 0.0 3` and `let 0.0 0 1` in round 2, though their tasks run other scripts, and
-- though the machine may list them in another order. The trace of both ends with `# tasks 2 waves 2 widest 1`.
use Rattle.std.specs.Prelude.{ℕ, Bool, List}
use Rattle.oss_model.specs.Bodies.{Program, Start}
use Rattle.oss_model.specs.Machine.{State}
use Rattle.oss_wave_laws.specs.Rounds.{Round, RunsByWaves, Trace, IsTrace}
use Rattle.oss_same_acts_laws.specs.Alike.{IsBisimulation, IsAlike}
use Rattle.oss_same_acts_laws.specs.Claims.{tells}

-- The run by waves of the other program has these rounds too, and comes to a state that is alike.
pub record RunsByWavesToo {S T : Type 0} (Q : Program T) (R : Start S → Start T → Type 0) (other : Start T) (cells : List ℕ) (rounds : List Round) (n : State S) : Type 0 where
  pub state : State T
  pub runs : RunsByWaves Q other cells rounds state
  pub alike : IsAlike R n state

-- So it is with each run by waves.
abbrev pub RunsByWavesAreAlike : Type 0 → Type 0 → Type 0
RunsByWavesAreAlike S T = (P : Program S) (Q : Program T) (test : Start S → Start T → Bool) (main : Start S) (other : Start T) (cells : List ℕ) (rounds : List Round) (n : State S)
    → IsBisimulation P Q (tells test) → tells test main other → RunsByWaves P main cells rounds n → RunsByWavesToo Q (tells test) other cells rounds n

-- And so the programs have the same traces.
abbrev pub TracesAreAlike : Type 0 → Type 0 → Type 0
TracesAreAlike S T = (P : Program S) (Q : Program T) (test : Start S → Start T → Bool) (main : Start S) (other : Start T) (cells : List ℕ) (trace : Trace)
    → IsBisimulation P Q (tells test) → tells test main other → IsTrace P main cells trace → IsTrace Q other cells trace
