use Rattle.std.proofs.Common.{List}
use Rattle.oss_machine.specs.Frames.{CodeScript}
use Rattle.oss_model.specs.Bodies.{Program}
use Rattle.oss_model.specs.Machine.{State}
use Rattle.oss_chain_laws.specs.Happenings.{Happening}
use Rattle.oss_span.specs.Shown.{Shows}
use Rattle.oss_span.proofs.WalkLemmas.{Walked, rank}
use Rattle.oss_span.proofs.walk.links_of.Given as goal

-- what is left of the chain, with the links so far behind it, is the whole chain
abbrev pub invariant-nodes : goal.invariant-nodes
invariant-nodes l = (P : Program CodeScript) (s : State CodeScript) (es : List Happening) → Shows P s l.nodes l.points l.fn.best.mark.end l.fn.best.cell es → Walked P s l.nodes l.points l.end l.cell l.links.items es

abbrev pub decreases-nodes : goal.decreases-nodes
decreases-nodes l = rank l.end
