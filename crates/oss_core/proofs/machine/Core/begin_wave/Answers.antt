use Rattle.std.proofs.Common.{sym, subst, List}
use Rattle.oss_model.specs.declared.task_no.TaskNo.{TaskNo}
use Rattle.oss_core.specs.Cores.{kept_of}
use Rattle.oss_core.specs.Kept.{IsRunning, Kept}
use Rattle.oss_core.specs.Steppers.{AreSteppers}
use Rattle.oss_core.specs.Turns.{HasLent, IsFilled}
use Rattle.oss_core.proofs.WavingLemmas.{lent}
use Rattle.oss_core.proofs.machine.Core.begin_wave.Goals as goal

pub returns : goal.returns
returns g c =
    let mid : Kept = kept_of g.D.Deps.seen c.lend.new.self in
    let vs = c.in_ok-steppers.steppers.items in
    let bs = c.in_ok-bodies.bodies.items in
    let same = c.in_ok-steppers.ensures.same in
    let before : Kept = kept_of g.D.Deps.seen c.steppers.new.self in
    subst (λ (k : Kept). HasLent c.args.code.now k mid vs bs) same
    (lent c.args.code.now before mid vs bs (subst (λ (k : Kept). IsRunning c.args.code.now k) (sym same) c.requires.running) (subst (λ (k : Kept). AreSteppers k vs) (sym same) c.in_ok-steppers.ensures.steppers)
    (subst (λ (us : List TaskNo). IsFilled us bs mid.tasks before.tasks) c.as_slice.ensures.value c.in_ok-bodies.ensures.out) c.in_ok-bodies.ensures.beside)
