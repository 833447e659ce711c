use Rattle.std.proofs.Common.{◌≡◌, subst}
use Rattle.oss_labels.specs.Lists.{label_at}
use Rattle.oss_top.specs.Explained.{ending_reply}
use Rattle.oss_top.proofs.FormLemmas.{if_ok}
use Rattle.oss_top.proofs.RunLemmas.{explain_replies}
use Rattle.oss_top.proofs.explain.reply_to_explain.Goals as goal

pub returns : goal.returns
returns c =
    if_ok c.reply_to_ending.result
    (λ reply is.
    explain_replies c.args.known.now c.args.fuel c.in_ok-finish.finish.ending c.in_ok-finish.finish.failure c.in_ok-labels.labels reply c.in_ok-finish.ensures.0 c.in_ok-finish.ensures.1 c.in_ok-labels.ensures
    (subst (λ p. reply ≡ ending_reply p (label_at c.in_ok-labels.labels) c.in_ok-finish.finish.ending c.in_ok-finish.finish.failure) c.program.ensures.same is))
    c.reply_to_ending.ensures
