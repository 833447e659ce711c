use Rattle.std.proofs.Common.{subst}
use Rattle.oss_kept_tasks.specs.FirstFault.{AreKeyed}
use Rattle.oss_core.specs.Kept.{Kept}
use Rattle.oss_core.specs.Stops.{IsAnswerOf}
use Rattle.oss_core.proofs.AnswerLemmas.{answer_is}
use Rattle.oss_core.proofs.machine.Core.answer.Goals as goal

pub returns-clause-some : goal.returns-clause-some
returns-clause-some g c = λ code main first s core. (
  (c.stopped.ensures.stopped code main first s core).0 c.if-not-stopped.false,
  answer_is core (c.stopped.ensures.still.0 c.if-not-stopped.false) (subst (λ (k : Kept). AreKeyed k.tasks) c.stopped.ensures.same c.in_ok-answer.ensures.1) c.in_ok-answer.answer
      (subst (λ (k : Kept). IsAnswerOf k c.in_ok-answer.answer) c.stopped.ensures.same c.in_ok-answer.ensures.0),
)

pub returns-then-not-stopped-clause-none : goal.returns-then-not-stopped-clause-none
returns-then-not-stopped-clause-none g c = λ e code main first s core halted. let t = (c.stopped.ensures.stopped code main first s core).1 halted in let f = c.if-not-stopped.true in absurd cc
