use Rattle.std.proofs.Common.{refl, ap}
use Rattle.oss_machine.specs.Machines.{asks}
use Rattle.oss_model.specs.Bodies.{start_frame}
use Rattle.oss_body.proofs.Advancing.{begins, tasks_with}
use Rattle.oss_body.proofs.body.Body.begin.Goals as goal

pub returns : goal.returns
returns c = λ start own top.
    let f = start_frame (asks c.args.code.now) start in
    begins c.args.code.now start _ c.next.new.self own refl (c.in_ok-act.ensures.frame f top)
    (ap (tasks_with c.next.new.self) c.new.ensures) (c.in_ok-act.ensures.act f top) c.in_ok-act.ensures.child
