-- The parts of a core, for which states they stand, and with which dependency systems they are a core again.
-- Read against: main has created out(x), which has stored 5 in x, ended and given x up. The parts are two tasks, neither of which owes a cell, a tree in
-- which the second has ended, and x, which is 5. A dependency system that was told of the task 1 below 0 with out(x), and that 1 has given up x, makes them
-- a core of the same state. One that was told of the task alone does not, and one to which nothing was told does not.
use Rattle.std.specs.Prelude.{◌≡◌, ℕ, List}
use Rattle.oss_code.specs.declared.code.CodeParts.{CodeParts}
use Rattle.oss_deps.specs.Seen.{Seen}
use Rattle.oss_machine.specs.Frames.{CodeScript}
use Rattle.oss_machine.specs.Machines.{asks}
use Rattle.oss_model.specs.Bodies.{Body, Start}
use Rattle.oss_model.specs.Machine.{State}
use Rattle.oss_core.specs.declared.parts.CoreParts.{CoreParts as Parts}
use Rattle.oss_core.specs.Kept.{IsCore, Kept, own}
use Rattle.oss_core.specs.Moving.{AreSound}

-- What a core of these parts keeps, if its dependency system is seen as this.
abbrev pub kept_with : Seen → Parts → Kept
kept_with seen p = record { tasks = p.tasks.items; tree = p.tree; seen = seen; cells = p.cells.items }

-- The parts stand for the state: with some dependency system they are a core of it.
abbrev pub AreParts : CodeParts → Start CodeScript → List ℕ → Parts → State CodeScript → Type 0
AreParts code main first p s = (seen : Seen) × IsCore code main first (kept_with seen p) s

-- A dependency system was told what another one was told: of the same tasks, perhaps in another order, and of the same cells that they have given up.
pub record IsToldOf (code : CodeParts) (bodies : List (Body CodeScript)) (seen now : Seen) : Type 0 where
  pub sound : AreSound (asks code) own (λ b. Unit {0}) bodies now.opens now.given
  pub given : (t c : ℕ) → now.given t c ≡ seen.given t c
