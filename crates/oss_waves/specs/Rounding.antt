-- Waves, passes and rounds as a core makes them, and what is noted of them.
-- Read against: main creates out(x) and waits. In the first wave main has a turn, and no pass behind it gives anything up, so what is noted is `step 0 3`; in the second the
-- task has one, and the first pass behind it gives x up, and the second nothing: what is noted is `step 0.0 3`, `let 0.0 0 1`. Behind main's last turn no task may
-- act: the next wave has no turn, and the run has stopped.
use Rattle.std.specs.Prelude.{◌≡◌, ℕ, ◌↔◌, Bool, false, List, [], ◌++◌, length, map}
use Rattle.std.specs.List.{flat_map}
use Rattle.oss_syntax.specs.declared.access.Op.{Op}
use Rattle.oss_model.specs.Answers.{IsStopped}
use Rattle.oss_model.specs.Bodies.{Program, Start}
use Rattle.oss_model.specs.Machine.{State, Task}
use Rattle.oss_model.specs.Moves.{CanJoin, CanLet, CanStep}
use Rattle.oss_wave_laws.specs.Passes.{GivenUp, IsPass, Passes}
use Rattle.oss_wave_laws.specs.Rounds.{IsRound, Round, Rounds, pass_lines, round_lines, turn_line, widest}
use Rattle.oss_wave_laws.specs.Waves.{IsWave, Turn}
use Rattle.oss_code.specs.declared.code.CodeParts.{CodeParts}
use Rattle.oss_machine.specs.Frames.{CodeScript}
use Rattle.oss_machine.specs.Machines.{asks}
use Rattle.oss_core.specs.Kept.{IsCore, Kept}
use Rattle.oss_sched.specs.declared.moves.TextMove.{TextMove}
use Rattle.oss_waves.specs.declared.rounds.Ran.{Ran}
use Rattle.oss_waves.specs.declared.rounds.Went.{Went}
use Rattle.oss_waves.specs.declared.rounds.Went.TheVariants.{On, Stopped}
use Rattle.oss_waves.specs.WaveRuns.{lines_of}

-- No cell may be given up and no slot joined.
pub record IsAtRest {S : Type 0} (P : Program S) (s : State S) : Type 0 where
  pub no_let : (p : List ℕ) (c : ℕ) (t : Task S) → CanLet P s p c t → ⊥
  pub no_join : (p : List ℕ) (c : ℕ) (op : Op) (t : Task S) → CanJoin P s p c op t → ⊥

-- The core stands for some state in which no cell may be given up.
pub record IsResting (code : CodeParts) (k : Kept) : Type 0 where
  pub main : Start CodeScript
  pub first : List ℕ
  pub state : State CodeScript
  pub core : IsCore code main first k state
  pub rest : IsAtRest (asks code) state

-- The core stands for some state in which no move may be made.
pub record IsFinal (code : CodeParts) (k : Kept) : Type 0 where
  pub main : Start CodeScript
  pub first : List ℕ
  pub state : State CodeScript
  pub core : IsCore code main first k state
  pub stopped : IsStopped (asks code) state

-- A wave was made with so many turns, and is noted behind what was noted before.
pub record WaveMade (code : CodeParts) (main : Start CodeScript) (first : List ℕ) (s : State CodeScript) (new : Kept) (before after : List TextMove) (count : ℕ) : Type 0 where
  pub state : State CodeScript
  pub turns : List Turn
  pub wave : IsWave (asks code) s turns state
  pub core : IsCore code main first new state
  pub lines : lines_of after ≡ lines_of before ++ map turn_line turns
  pub count_is : count ≡ length turns

-- The same, from each state for which the core stood.
abbrev pub HasMadeWave : CodeParts → Kept → Kept → List TextMove → List TextMove → ℕ → Type 0
HasMadeWave code old new before after count = (main : Start CodeScript) (first : List ℕ) (s : State CodeScript) → IsCore code main first old s → WaveMade code main first s new before after count

-- A pass was made, and is noted behind what was noted before. Whether it gave anything up.
pub record PassMade (code : CodeParts) (main : Start CodeScript) (first : List ℕ) (s : State CodeScript) (new : Kept) (before after : List TextMove) (some : Bool) : Type 0 where
  pub state : State CodeScript
  pub list : List GivenUp
  pub pass : IsPass (asks code) s list state
  pub core : IsCore code main first new state
  pub lines : lines_of after ≡ lines_of before ++ pass_lines list
  pub some_is : (some ≡ false) ↔ (list ≡ [])

-- The same, from each state for which the core stood.
abbrev pub HasMadePass : CodeParts → Kept → Kept → List TextMove → List TextMove → Bool → Type 0
HasMadePass code old new before after some = (main : Start CodeScript) (first : List ℕ) (s : State CodeScript) → IsCore code main first old s → PassMade code main first s new before after some

-- So far passes were made that gave something up: whatever passes come behind them, these come first.
pub record PassesGo (code : CodeParts) (main : Start CodeScript) (first : List ℕ) (s : State CodeScript) (now : Kept) (before after : List TextMove) : Type 0 where
  pub state : State CodeScript
  pub lists : List (List GivenUp)
  pub leads : (rest : List (List GivenUp)) (n : State CodeScript) → Passes (asks code) state rest n → Passes (asks code) s (lists ++ rest) n
  pub core : IsCore code main first now state
  pub lines : lines_of after ≡ lines_of before ++ flat_map pass_lines lists

-- The same, from each state for which the core stood.
abbrev pub HavePassesGone : CodeParts → Kept → Kept → List TextMove → List TextMove → Type 0
HavePassesGone code old now before after = (main : Start CodeScript) (first : List ℕ) (s : State CodeScript) → IsCore code main first old s → PassesGo code main first s now before after

-- Passes were made until one gave nothing up, and are noted.
pub record PassesMade (code : CodeParts) (main : Start CodeScript) (first : List ℕ) (s : State CodeScript) (new : Kept) (before after : List TextMove) : Type 0 where
  pub state : State CodeScript
  pub lists : List (List GivenUp)
  pub passes : Passes (asks code) s lists state
  pub core : IsCore code main first new state
  pub lines : lines_of after ≡ lines_of before ++ flat_map pass_lines lists
  pub rest : IsAtRest (asks code) state

-- The same, from each state for which the core stood.
abbrev pub HasMadePasses : CodeParts → Kept → Kept → List TextMove → List TextMove → Type 0
HasMadePasses code old new before after = (main : Start CodeScript) (first : List ℕ) (s : State CodeScript) → IsCore code main first old s → PassesMade code main first s new before after

-- A round was made in which so many tasks had a turn, and is noted.
pub record RoundMade (code : CodeParts) (main : Start CodeScript) (first : List ℕ) (s : State CodeScript) (new : Kept) (before after : List TextMove) (turns : ℕ) : Type 0 where
  pub state : State CodeScript
  pub round : Round
  pub moving : IsStopped (asks code) s → ⊥
  pub is_round : IsRound (asks code) s round state
  pub core : IsCore code main first new state
  pub lines : lines_of after ≡ lines_of before ++ round_lines round
  pub turns_are : turns ≡ length round.turns
  pub rest : IsAtRest (asks code) state

-- No task may act in the state for which the core stood, and it stands for it still.
pub record NoneActs (code : CodeParts) (main : Start CodeScript) (first : List ℕ) (s : State CodeScript) (new : Kept) : Type 0 where
  pub core : IsCore code main first new s
  pub no_step : (p : List ℕ) (t : Task CodeScript) → CanStep (asks code) s p t → ⊥

-- What came of a round, from each state for which the core stood: no task may act; or it was made.
abbrev pub IsRoundOf : Went → CodeParts → Kept → Kept → List TextMove → List TextMove → Type 0
IsRoundOf Stopped code old new before after = (main : Start CodeScript) (first : List ℕ) (s : State CodeScript) → IsCore code main first old s → NoneActs code main first s new
IsRoundOf (On turns) code old new before after = (main : Start CodeScript) (first : List ℕ) (s : State CodeScript) → IsCore code main first old s → RoundMade code main first s new before after turns

-- So far rounds were made: whatever rounds come behind them, these come first.
pub record RoundsGo (code : CodeParts) (main : Start CodeScript) (first : List ℕ) (s : State CodeScript) (now : Kept) (waves : List (List TextMove)) (most : ℕ) : Type 0 where
  pub state : State CodeScript
  pub rounds : List Round
  pub leads : (rest : List Round) (n : State CodeScript) → Rounds (asks code) state rest n → Rounds (asks code) s (rounds ++ rest) n
  pub core : IsCore code main first now state
  pub rest : IsAtRest (asks code) state
  pub lines : map lines_of waves ≡ map round_lines rounds
  pub most_is : most ≡ widest rounds

-- The same, from each state for which the core stood, where no cell could be given up.
abbrev pub HaveRoundsGone : CodeParts → Kept → Kept → List (List TextMove) → ℕ → Type 0
HaveRoundsGone code old now waves most = (main : Start CodeScript) (first : List ℕ) (s : State CodeScript) → IsCore code main first old s → IsAtRest (asks code) s → RoundsGo code main first s now waves most

-- Rounds were made until no move was left, and are noted.
pub record RoundsMade (code : CodeParts) (main : Start CodeScript) (first : List ℕ) (s : State CodeScript) (new : Kept) (ran : Ran) : Type 0 where
  pub state : State CodeScript
  pub rounds : List Round
  pub are_rounds : Rounds (asks code) s rounds state
  pub core : IsCore code main first new state
  pub lines : map lines_of ran.waves ≡ map round_lines rounds
  pub most_is : ran.widest ≡ widest rounds

-- The same, from each state for which the core stood, where no cell could be given up.
abbrev pub HasMadeRounds : CodeParts → Kept → Kept → Ran → Type 0
HasMadeRounds code old new ran = (main : Start CodeScript) (first : List ℕ) (s : State CodeScript) → IsCore code main first old s → IsAtRest (asks code) s → RoundsMade code main first s new ran
