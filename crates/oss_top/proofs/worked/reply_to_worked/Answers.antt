use Rattle.std.proofs.Common.{ap}
use Rattle.oss_command.specs.Commands.{meant}
use Rattle.oss_top.specs.Reply.IsProgramReply.{ran, soaked}
use Rattle.oss_top.proofs.FormLemmas.{if_ok}
use Rattle.oss_top.proofs.worked.reply_to_worked.Goals as goal

pub returns-in-Run : goal.returns-in-Run
returns-in-Run g c = if_ok c.reply_to_worked_run.result (λ reply is. rw (ap meant c.in-Run.is) (ran is)) c.reply_to_worked_run.ensures

pub returns-in-Soak : goal.returns-in-Soak
returns-in-Soak g c = if_ok c.reply_to_worked_soak.result (λ reply is. rw (ap meant c.in-Soak.is) (soaked is)) c.reply_to_worked_soak.ensures
