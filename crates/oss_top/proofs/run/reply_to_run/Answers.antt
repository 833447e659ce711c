use Rattle.std.proofs.Common.{◌≡◌, subst}
use Rattle.oss_top.specs.Forms.{answer_reply}
use Rattle.oss_top.proofs.FormLemmas.{if_ok}
use Rattle.oss_top.proofs.RunLemmas.{run_replies}
use Rattle.oss_top.proofs.run.reply_to_run.Goals as goal

pub returns : goal.returns
returns g c =
    if_ok c.reply_to_answer.result (λ reply is. run_replies c.args.known.now c.args.options c.in_ok-ran.ran reply c.requires.fit c.requires.unwaited c.in_ok-ran.ensures (subst (λ p. reply ≡ answer_reply c.args.options.dump p c.in_ok-ran.ran.answer) c.program.ensures.same is)) c.reply_to_answer.ensures
