-- What a core keeps, and when that stands for a state that the machine can reach.
-- A task has one number: its place in the list of bodies, in the tree and in the dependency system. Of its cells a core keeps how each is
-- still to be given up. The bodies of the definitions, the state and the moves that led to it are not kept: they are there.
-- Read against: main has created out(x), which has stored 5 in x and ended, and has not given x up. There are two tasks, of which the second owes
-- x by a let; the tree has the points 0 and 0.0, the second ended; the dependency system has one entry, with creator 0; and x is 5. The state was
-- reached by the acts of main up to the creation and those of the task.
use Rattle.std.specs.Prelude.{◌≡◌, ℕ, ◌↔◌, Bool, true, false, List, [], ◌∷◌, length, map, Option, Some, None, slice_get}
use Rattle.oss_syntax.specs.declared.access.Mode.TheVariants.{Fold}
use Rattle.oss_model.specs.Order.{written}
use Rattle.oss_model.specs.Rights.{Right, Holds}
use Rattle.oss_model.specs.Context.{right_of}
use Rattle.oss_model.specs.Bodies.{Program, Body, Start}
use Rattle.oss_model.specs.Machine.{State, Owes}
use Rattle.oss_model.specs.Agreement.{Setting}
use Rattle.oss_model.specs.Memory.{Event}
use Rattle.oss_model.specs.Moves.{Reached, is_ended}
use Rattle.oss_ranges.specs.Cells.{value_at}
use Rattle.oss_code.specs.declared.code.CodeParts.{CodeParts}
use Rattle.oss_machine.specs.Frames.{CodeScript}
use Rattle.oss_machine.specs.Machines.{asks}
use Rattle.oss_body.specs.Relation.{IsBody}
use Rattle.oss_tree.specs.declared.task.Task.{Task as TreeTask}
use Rattle.oss_tree.specs.Tasks as tree
use Rattle.oss_tree.specs.Tasks.{IsTree}
use Rattle.oss_tree.specs.Runs.{print_of}
use Rattle.oss_deps.specs.Seen.{Seen}
use Rattle.oss_kept_tasks.specs.declared.held.Held.{Held}
use Rattle.oss_kept_tasks.specs.declared.held.Owed.{Owed}
use Rattle.oss_kept_tasks.specs.declared.held.Owed.TheVariants as owed
use Rattle.oss_core.specs.Standing.{StandsFor}
use Rattle.oss_core.specs.Moving.{AreSound}
use Rattle.oss_core.specs.Printing.{ArePrints}

-- What contracts see of a core.
pub record Kept : Type 0 where
  pub tasks : List Held
  pub tree : tree.Kept
  pub seen : Seen
  pub cells : List ℕ

-- How a cell to which a task has this right is given up: that of a strong reduction by a join, and each other by a let.
abbrev pub owed_by : Right → Option Owed
owed_by (Holds (Fold op) true) = Some (owed.Join op)
owed_by (Holds mode strong) = Some owed.Let
owed_by _ = None

-- How a cell is still to be given up: of a task but main, one that it has not given up.
abbrev pub owed_of : List ℕ → Bool → Right → Option Owed
owed_of [] given r = None
owed_of (k ∷ p) true r = None
owed_of (k ∷ p) false r = owed_by r

-- A body of the definitions, as it is.
abbrev pub own : Body CodeScript → Body CodeScript
own b = b

-- What is kept of a task is that of this body.
pub record IsHeld (code : CodeParts) (given : ℕ → Bool) (b : Body CodeScript) (held : Held) : Type 0 where
  pub body_is : IsBody code b.start b.found held.body
  pub owed_is : (c : ℕ) → value_at held.owed.pieces c ≡ owed_of b.start.path (given c) (right_of b.start.context c)

-- What the tree knows of a task is so of this body.
pub record IsKnown (P : Program CodeScript) (given : ℕ → Bool) (b : Body CodeScript) (one : TreeTask) : Type 0 where
  pub point : one.point ≡ written b.start.path
  pub ended : one.ended ≡ is_ended P b
  pub gave_all : (one.gave_all ≡ true) ↔ ((c : ℕ) → Owes b.start.path b.start.context c → given c ≡ true)

-- Each of these bodies is kept, under its number.
pub record AreHeld (code : CodeParts) (given : ℕ → ℕ → Bool) (bodies : List (Body CodeScript)) (tasks : List Held) : Type 0 where
  pub size : length tasks ≡ length bodies
  pub each : (v : ℕ) (b : Body CodeScript) (held : Held) → slice_get bodies v ≡ Some b → slice_get tasks v ≡ Some held → IsHeld code (given v) b held

-- Each of these bodies is known to the tree, under its number.
pub record AreKnown (P : Program CodeScript) (given : ℕ → ℕ → Bool) (bodies : List (Body CodeScript)) (tasks : List TreeTask) : Type 0 where
  pub tree_is : IsTree tasks
  pub size : length tasks ≡ length bodies
  pub each : (v : ℕ) (b : Body CodeScript) (one : TreeTask) → slice_get bodies v ≡ Some b → slice_get tasks v ≡ Some one → IsKnown P (given v) b one

-- What a core of the code keeps stands for the state, to which moves lead from the beginning, where main starts over these first cells.
pub record IsCore (code : CodeParts) (main : Start CodeScript) (first : List ℕ) (k : Kept) (s : State CodeScript) : Type 0 where
  pub setting : Setting main first
  -- main is nested in no other task
  pub depth : main.context.depth ≡ 0
  pub reached : Reached (asks code) main first s
  pub bodies : List (Body CodeScript)
  pub sound : AreSound (asks code) own (λ b. Unit {0}) bodies k.seen.opens k.seen.given
  pub stands : StandsFor own bodies k.seen.given k.cells s
  pub held : AreHeld code k.seen.given bodies k.tasks
  pub known : AreKnown (asks code) k.seen.given bodies k.tree.tasks
  -- what was printed, in the order of time
  pub done : List (Event CodeScript)
  pub are_prints : ArePrints (asks code) s done
  pub prints_are : k.tree.prints ≡ map (print_of (asks code)) done

-- What a core of the code keeps stands for some state.
pub record IsRunning (code : CodeParts) (k : Kept) : Type 0 where
  pub main : Start CodeScript
  pub first : List ℕ
  pub state : State CodeScript
  pub core : IsCore code main first k state
