-- Waves: what is told of them, and the tasks that are left behind them.
use Rattle.std.proofs.Common.{◌≡◌, ℕ, ◌<◌, refl, ◌∙◌, arith, List, [], ◌∷◌, length, Some}
use Rattle.std.specs.Prelude.{slice_get}
use Rattle.oss_wave_laws.specs.Waves as waves
use Rattle.oss_wave_laws.specs.Waves.{IsWave}
use Rattle.oss_code.specs.declared.code.CodeParts.{CodeParts}
use Rattle.oss_tree.specs.declared.task.Task.{Task}
use Rattle.oss_core.specs.declared.turns.Turn.{Turn}
use Rattle.oss_core.specs.Kept.{IsRunning, Kept}
use Rattle.oss_core.specs.Turns.{AreTold, HasWaved, KeepsTasks}
use Rattle.oss_core.specs.Leaving.{WasWave}
use Rattle.oss_wakeups.specs.declared.watch.Watch.{Watch}
use Rattle.oss_wakeups.specs.Watches.{IsBehindWave, IsWatch}
use Rattle.oss_sched.specs.declared.moves.TextMove.{TextMove}
use Rattle.oss_waves.specs.Noting.{IsStepOf, Notes}
use Rattle.oss_waves.specs.Rounding.{HasMadeWave}
use Rattle.oss_waves.proofs.NotingLemmas.{turn_there, turns_noted}

-- as many turns as were told
told_size : (tasks : List Task) (told : List Turn) (turns : List waves.Turn) → AreTold tasks told turns → length told ≡ length turns
told_size tasks [] [] t = refl
told_size tasks [] (turn ∷ rest) t = absurd t
told_size tasks (one ∷ told) [] t = absurd t
told_size tasks (one ∷ told) (turn ∷ rest) t = let r = told_size tasks told rest t.1 in omega (arith, r)

-- a wave that is noted
pub wave_made : (code : CodeParts) (old new : Kept) (told : List Turn) (before after : List TextMove) (count : ℕ) → HasWaved code old new told → KeepsTasks old.tree.tasks new.tree.tasks → Notes (IsStepOf new.tree.tasks) told before after
    → count ≡ length told → HasMadeWave code old new before after count
wave_made code old new told before after count waved keeps notes size main first s core =
    let w = waved main first s core in
    record {
      state = w.0;
      turns = w.1;
      wave = w.2;
      core = w.4;
      lines = turns_noted old.tree.tasks new.tree.tasks keeps told w.1 before after w.3 notes;
      count_is = size ∙ told_size old.tree.tasks told w.1 w.3;
    }

-- its turns name tasks of the tree
pub waved_there : (code : CodeParts) (old new : Kept) (told : List Turn) → IsRunning code old → HasWaved code old new told → KeepsTasks old.tree.tasks new.tree.tasks → (at : ℕ) (one : Turn) → slice_get told at ≡ Some one → one.task.0 < length new.tree.tasks
waved_there code old new told running waved keeps =
    let w = waved running.main running.first running.state running.core in
    turn_there old.tree.tasks new.tree.tasks keeps told w.1 w.3

-- behind it the core still stands for a state of the machine
pub waved_running : (code : CodeParts) (old new : Kept) (told : List Turn) → IsRunning code old → HasWaved code old new told → IsRunning code new
waved_running code old new told running waved =
    let w = waved running.main running.first running.state running.core in
    record { main = running.main; first = running.first; state = w.0; core = w.4 }

-- and it was right before who is awake
pub behind_wave : (code : CodeParts) (old new : Kept) (told : List Turn) (w : Watch) → IsRunning code old → IsWatch old w → WasWave told old new → KeepsTasks old.tree.tasks new.tree.tasks → IsBehindWave told new w
behind_wave code old new told w running watch wave tasks = record { code = code; before = old; ran = running; watch = watch; wave = record { wave = wave; tasks = tasks } }
