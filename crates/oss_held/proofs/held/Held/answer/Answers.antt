use Rattle.std.proofs.Common.{sym, ap}
use Rattle.oss_held.specs.States.{kept_in}
use Rattle.oss_held.proofs.HeldLemmas.{answered, unanswered}
use Rattle.oss_held.proofs.held.Held.answer.Goals as goal

pub returns-clause-some : goal.returns-clause-some
returns-clause-some c = answered c.answer.result _ c.args.self.now (ap kept_in (sym c.self.view_is)) c.answer.ensures.some

pub returns-clause-none : goal.returns-clause-none
returns-clause-none c = unanswered c.answer.result _ c.args.self.now (ap kept_in (sym c.self.view_is)) c.answer.ensures.none
