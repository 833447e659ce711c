use Rattle.oss_top.proofs.ReplyLemmas.{spanned_text}
use Rattle.oss_top.proofs.laws.a_text_has_a_span.Goals as goal

pub returns : goal.returns
returns c = spanned_text c.args.text.now
