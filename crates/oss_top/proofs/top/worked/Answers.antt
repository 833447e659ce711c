use Rattle.oss_command.specs.Commands.{meant}
use Rattle.oss_top.specs.Reply.IsReply.{of_command}
use Rattle.oss_top.proofs.CallLemmas.{outcome_by}
use Rattle.oss_top.proofs.FormLemmas.{if_ok}
use Rattle.oss_top.proofs.top.worked.Goals as goal

pub returns : goal.returns
returns g c =
    outcome_by _ _ _ _ _ c.worked_reply.result
    (if_ok c.worked_reply.result (λ reply is. of_command (meant c.in-Ok.command) c.in-Ok.ensures.asked is) c.worked_reply.ensures) c.delivered.ensures
