use Rattle.oss_command.specs.Commands.{meant}
use Rattle.oss_top.proofs.FormLemmas.{if_ok}
use Rattle.oss_top.proofs.FoundLemmas.{accepted_replies, replied_stands}
use Rattle.oss_top.proofs.reply.unwaited_reply.Goals as goal

pub returns-in-Accepted : goal.returns-in-Accepted
returns-in-Accepted g c =
    if_ok c.reply_to_program.result (λ reply is. accepted_replies (meant c.args.command) _ c.in_ok-found.found c.in-Accepted.known reply c.in-Accepted.is c.in_ok-found.ensures is) c.reply_to_program.ensures

pub returns-in-Replied : goal.returns-in-Replied
returns-in-Replied g c = replied_stands (meant c.args.command) _ c.in_ok-found.found c.in-Replied.reply c.in-Replied.is c.in_ok-found.ensures
