-- A core makes the moves of a schedule: what is said of the states for which it stands before and after. A core stands for more than one state, which list
-- their tasks otherwise; so each claim is of all for which it stood before. No code has more than 1,048,576 cells.
-- Read against: a core stands for a state in which main, with the point 0, has created nothing. Part 0 of `step 0 3` is main's next act; after two
-- parts it stands for a state that two acts of main lead to; the move is made once three parts are. `step 0.0 1` is refused, since there is no such task,
-- and so is part 0 of `let 0 4294967295 1`, and with it the move.
use Rattle.std.specs.Prelude.{◌≡◌, ℕ, ◌+◌, ◌≤◌, ◌^◌, List, length}
use Rattle.oss_model.specs.Order.{written}
use Rattle.oss_model.specs.Bodies.{Start}
use Rattle.oss_model.specs.Machine.{Task, State, At}
use Rattle.oss_model.specs.declared.moving.Move.{Move}
use Rattle.oss_model.specs.declared.moving.Move.TheVariants as moves
use Rattle.oss_model.specs.declared.task_no.TaskNo.{TaskNo}
use Rattle.oss_code.specs.declared.code.CodeParts.{CodeParts}
use Rattle.oss_machine.specs.Frames.{CodeScript}
use Rattle.oss_machine.specs.Machines.{asks}
use Rattle.oss_core.specs.Kept.{IsCore, Kept}
use Rattle.oss_sched.specs.declared.moves.TextMove.{TextMove}
use Rattle.oss_sched.specs.declared.moves.TextMove.TheVariants.{Step, Let, Join}
use Rattle.oss_replay.specs.declared.replayed.Replayed.{Replayed}
use Rattle.oss_replay.specs.Replays.{point_in, IsPartOf, Makes, Leads, IsEnabled, IsReplayedFrom}

-- The part of the move with this number as a move of the machine, where the task has this number.
abbrev pub part_of : TextMove → TaskNo → ℕ → Move
part_of (Step point count) task k = moves.Step task
part_of (Let point first count) task k = moves.Let task (first + k)
part_of (Join point first count) task k = moves.Join task (first + k)

-- The cell of the part is past all that 32 bits can tell.
abbrev pub IsBeyond : TextMove → ℕ → Type 0
IsBeyond (Step point count) k = ⊥
IsBeyond (Let point first count) k = 2 ^ 32 ≤ first + k
IsBeyond (Join point first count) k = 2 ^ 32 ≤ first + k

-- The part of the move leads from the state to one for which the core stands now.
pub record IsPartMade (code : CodeParts) (main : Start CodeScript) (first : List ℕ) (now : Kept) (move : TextMove) (k : ℕ) (s : State CodeScript) : Type 0 where
  pub path : List ℕ
  pub point : written path ≡ point_in move
  pub state : State CodeScript
  pub part : IsPartOf (asks code) path move k s state
  pub core : IsCore code main first now state

-- The part is made: this holds of each state for which the core stood.
abbrev pub MakesPart : CodeParts → Kept → Kept → TextMove → ℕ → Type 0
MakesPart code old now move k = (main : Start CodeScript) (first : List ℕ) (s : State CodeScript) → IsCore code main first old s → IsPartMade code main first now move k s

-- The part cannot be made, from no state for which the core stands.
abbrev pub RefusesPart : CodeParts → Kept → TextMove → ℕ → Type 0
RefusesPart code now move k =
    (main : Start CodeScript) (first : List ℕ) (s : State CodeScript) → length first ≤ 1048576 → IsCore code main first now s
    → (path : List ℕ) (n : State CodeScript) → written path ≡ point_in move → IsPartOf (asks code) path move k s n → ⊥

-- There is the task of the move in the state, and the first so many parts of the move lead to a state for which the core stands now.
pub record ArePartsMade (code : CodeParts) (main : Start CodeScript) (first : List ℕ) (now : Kept) (move : TextMove) (k : ℕ) (s : State CodeScript) : Type 0 where
  pub path : List ℕ
  pub point : written path ≡ point_in move
  pub task : Task CodeScript
  pub at_ : At s path task
  pub state : State CodeScript
  pub makes : Makes (asks code) path move s k state
  pub core : IsCore code main first now state

-- The first so many parts are made: this holds of each state for which the core stood.
abbrev pub MakesParts : CodeParts → Kept → Kept → TextMove → ℕ → Type 0
MakesParts code old now move k = (main : Start CodeScript) (first : List ℕ) (s : State CodeScript) → IsCore code main first old s → ArePartsMade code main first now move k s

-- The move is made.
abbrev pub MakesMove : CodeParts → Kept → Kept → TextMove → Type 0
MakesMove code old now move =
    (main : Start CodeScript) (first : List ℕ) (s : State CodeScript) → IsCore code main first old s → (n : State CodeScript) × Leads (asks code) move s n × IsCore code main first now n

-- The move is not enabled.
abbrev pub RefusesMove : CodeParts → Kept → TextMove → Type 0
RefusesMove code now move = (main : Start CodeScript) (first : List ℕ) (s : State CodeScript) → length first ≤ 1048576 → IsCore code main first now s → IsEnabled (asks code) move s → ⊥

-- This comes of the moves, from each state for which the core stands.
abbrev pub Replays : CodeParts → Kept → ℕ → List TextMove → Replayed → Type 0
Replays code now number list replayed =
    (main : Start CodeScript) (first : List ℕ) (s : State CodeScript) → length first ≤ 1048576 → IsCore code main first now s → IsReplayedFrom (asks code) s number list replayed

-- So far moves were made: whatever comes of the moves that are left, counted on from this number, comes of all of them.
abbrev pub HasReplayed : CodeParts → Kept → ℕ → List TextMove → Kept → ℕ → List TextMove → Type 0
HasReplayed code old number list now later left = (replayed : Replayed) → Replays code now later left replayed → Replays code old number list replayed
