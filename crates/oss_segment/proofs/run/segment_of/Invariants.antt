use Rattle.std.proofs.Common.{ℕ, List}
use Rattle.oss_model.specs.Bodies.{Start}
use Rattle.oss_machine.specs.Frames.{CodeScript}
use Rattle.oss_body.specs.Relation.{IsBody}
use Rattle.oss_body.specs.Left.{body_left}
use Rattle.oss_segment.specs.Segments.{HasCome}
use Rattle.oss_segment.proofs.run.segment_of.Given as goal

-- the part has come so far
abbrev pub invariant-acts : goal.invariant-acts
invariant-acts l = (start : Start CodeScript) (found : List ℕ) → IsBody l.fn.code start found l.fn.body → (acts : ℕ) × HasCome l.fn.code start found l.fn.memory l.fn.quota l.fn.body acts l.segment

-- what is left to do falls with each act
abbrev pub decreases-acts : goal.decreases-acts
decreases-acts l = body_left l.fn.code l.segment.body
