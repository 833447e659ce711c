-- What is kept of one task of a body: of its answers the machine alone.
-- Read against: of main at its start the machine at its first ask, its context, the point 0, and no await.
use Rattle.oss_model.specs.Bodies.{Frame as Meant}
use Rattle.oss_code.specs.declared.code.CodeParts.{CodeParts}
use Rattle.oss_machine.specs.Frames.{CodeScript}
use Rattle.oss_machine.specs.Machines.{machine_at}
use Rattle.oss_body.specs.Places.{Framed as Frame}
use Rattle.oss_body.specs.Places.{place_of}

-- A task of the definitions as it is kept: after the answers 0 and 5 it is the machine after these two.
abbrev pub kept : CodeParts → Meant CodeScript → Frame
kept code f = record { machine = machine_at code f.script f.answers; place = place_of f; awaits = f.awaits }
