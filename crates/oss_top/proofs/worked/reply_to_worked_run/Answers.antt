use Rattle.std.proofs.Common.{◌≡◌, subst}
use Rattle.oss_top.specs.Forms.{run_reply}
use Rattle.oss_top.proofs.FormLemmas.{if_ok}
use Rattle.oss_top.proofs.RunLemmas.{worked_replies}
use Rattle.oss_top.proofs.worked.reply_to_worked_run.Goals as goal

pub returns : goal.returns
returns g c =
    let run = c.in_ok-answer.field-0 in
    if_ok c.reply_with_lines.result (λ reply is. worked_replies c.args.known.now c.args.options run.answer run.order run.tasks c.in_ok-lines.lines reply c.requires c.in_ok-answer.ensures c.in_ok-lines.ensures (subst (λ p. reply ≡ run_reply c.args.options.dump p c.in_ok-lines.lines run.answer) c.program.ensures.same is)) c.reply_with_lines.ensures
