use Rattle.oss_top.proofs.FormLemmas.{if_ok}
use Rattle.oss_top.proofs.RunLemmas.{span_replies}
use Rattle.oss_top.proofs.span.reply_to_span.Goals as goal

pub returns : goal.returns
returns c = if_ok c.reply_to_told.result (λ reply is. span_replies _ _ _ _ _ _ _ reply c.in_ok-run.ensures c.in_ok-text.ensures is) c.reply_to_told.ensures
