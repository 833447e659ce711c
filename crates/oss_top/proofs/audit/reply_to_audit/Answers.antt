use Rattle.oss_top.proofs.FormLemmas.{if_ok}
use Rattle.oss_top.proofs.RunLemmas.{audit_replies}
use Rattle.oss_top.proofs.audit.reply_to_audit.Goals as goal

pub returns : goal.returns
returns c = if_ok c.reply_to_told.result (λ reply is. audit_replies _ _ _ _ _ reply c.in_ok-run.ensures c.in_ok-text.ensures is) c.reply_to_told.ensures
