use Rattle.std.proofs.Common.{refl}
use Rattle.oss_command.specs.Commands.{meant}
use Rattle.oss_top.specs.Reply.IsReply.{of_command, usage}
use Rattle.oss_top.proofs.CallLemmas.{outcome_by}
use Rattle.oss_top.proofs.FormLemmas.{if_ok}
use Rattle.oss_top.proofs.ReplyLemmas.{complete}
use Rattle.oss_top.proofs.top.unwaited.Goals as goal

pub returns-else-is_by_workers-clause-outcome : goal.returns-else-is_by_workers-clause-outcome
returns-else-is_by_workers-clause-outcome g c =
    outcome_by _ _ _ _ _ c.unwaited_reply-reply.result
    (if_ok c.unwaited_reply-reply.result (λ reply is. of_command (meant c.in-Ok.command) c.in-Ok.ensures.asked is) c.unwaited_reply-reply.ensures) c.delivered.ensures

pub returns-else-is_by_workers-clause-complete : goal.returns-else-is_by_workers-clause-complete
returns-else-is_by_workers-clause-complete g c = complete _ _ _ _ _ (returns-else-is_by_workers-clause-outcome g c)

pub returns-in-Err-clause-outcome : goal.returns-in-Err-clause-outcome
returns-in-Err-clause-outcome g c =
    outcome_by _ _ _ _ _ c.reply_to_refused_words.result
    (if_ok c.reply_to_refused_words.result (λ reply is. usage c.in-Err.ensures.asked refl is) c.reply_to_refused_words.ensures) c.delivered-in-Err.ensures
