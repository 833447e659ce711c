use Rattle.std.proofs.Common.{subst, ℕ, List}
use Rattle.oss_model.specs.Bodies.{Start}
use Rattle.oss_model.specs.Machine.{State}
use Rattle.oss_code.specs.declared.code.CodeParts.{CodeParts}
use Rattle.oss_machine.specs.Frames.{CodeScript}
use Rattle.oss_machine.specs.Machines.{asks}
use Rattle.oss_core.specs.Cores.{kept_of}
use Rattle.oss_core.specs.Kept.{IsCore, Kept}
use Rattle.oss_core.specs.Stops.{HasUnfinished}
use Rattle.oss_replay.proofs.MakingLemmas.{replays_answered, replays_unfinished}
use Rattle.oss_replay.proofs.playing.finish.Goals as goal

pub returns-in-Some : goal.returns-in-Some
returns-in-Some g c = λ code number. replays_answered code (kept_of g.D.Deps.seen c.args.core.now) number c.in-Some.answer (rw c.in-Some.is at c.in_ok-answer.ensures.some)

pub returns-in-None : goal.returns-in-None
returns-in-None g c = λ code number.
    replays_unfinished code (kept_of g.D.Deps.seen c.args.core.now) number c.unfinished.result (c.in_ok-answer.ensures.none c.in-None.is)
    (subst
    (λ (k : Kept). (code : CodeParts) (main : Start CodeScript) (first : List ℕ) (s : State CodeScript) → IsCore code main first k s → HasUnfinished (asks code) s c.unfinished.result)
    c.in_ok-answer.ensures.same c.unfinished.ensures)
