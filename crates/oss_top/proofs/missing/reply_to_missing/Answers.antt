use Rattle.oss_top.proofs.FormLemmas.{if_ok}
use Rattle.oss_top.proofs.MissingLemmas.{missing_replies}
use Rattle.oss_top.proofs.missing.reply_to_missing.Goals as goal

pub returns : goal.returns
returns c =
    if_ok c.reply_to_missed.result
    (λ reply is.
    missing_replies c.args.known.now c.args.fuel c.in_ok-missing.missing c.in_ok-text.text reply c.in_ok-missing.ensures c.in_ok-text.ensures is)
    c.reply_to_missed.ensures
