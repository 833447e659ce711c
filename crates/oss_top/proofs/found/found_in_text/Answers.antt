use Rattle.std.proofs.Common.{Err, subst}
use Rattle.oss_command.specs.Commands.{meant}
use Rattle.oss_top.specs.ProgramTexts.{IsKnown}
use Rattle.oss_top.specs.Reply.{IsProgramReply}
use Rattle.oss_top.specs.Reply.IsTextReply.{accepted, refused_text}
use Rattle.oss_top.proofs.found.found_in_text.Goals as goal

pub returns-in-Ok : goal.returns-in-Ok
returns-in-Ok c =
    let known = c.in-Ok.ensures in
    (c.requires.alone, λ reply is. accepted known.program known.accepts (subst (λ p. IsProgramReply (meant c.args.command) p reply) known.is_of is))

pub returns-in_ok-reply-in-Err : goal.returns-in_ok-reply-in-Err
returns-in_ok-reply-in-Err c =
    let told = c.in_ok-reply-in-Err.ensures in
    refused_text told.0 (subst (λ e. IsKnown c.args.text.now (Err e)) told.1 c.in-Err.ensures) told.2
