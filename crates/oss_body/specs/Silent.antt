-- Asks that are no acts, told of a machine alone.
-- Read against: a machine at the beginning of a creation, with tasks left to create, is passed to what the first clause asks; where none is left
-- it stays.
use Rattle.std.specs.Prelude.{Bool, false, not, if◌then◌else◌}
use Rattle.oss_code.specs.declared.code.CodeParts.{CodeParts}
use Rattle.oss_machine.specs.Frames.{CodeScript}
use Rattle.oss_machine.specs.Machines.{Standing, machine_after}
use Rattle.oss_model.specs.Bodies.{Ask}

-- The ask is no act of a task that may begin a creation or not, and has an await before its next ask or not.
abbrev pub is_silent : Bool → Bool → Ask CodeScript → Bool
is_silent begins awaits Ask.Begin = begins
is_silent begins awaits Ask.Await = not awaits
is_silent begins awaits _ = false

-- A machine that has passed its ask, if that is no act.
abbrev pub past_standing : CodeParts → Bool → Bool → Standing → Standing
past_standing code begins awaits m = if is_silent begins awaits m.asked.ask then machine_after code 0 m else m

-- A machine before its next act: two asks that are none stand in a row at most.
abbrev pub settled_standing : CodeParts → Bool → Bool → Standing → Standing
settled_standing code begins awaits m = past_standing code begins awaits (past_standing code begins awaits m)
