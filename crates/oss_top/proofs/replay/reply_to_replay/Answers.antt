use Rattle.std.proofs.Common.{◌≡◌, ◌∙◌, ◌≤◌, Err, List, ℕ, ap, length, sym, subst}
use Rattle.std.specs.Prelude.{IfSome}
use Rattle.oss_top.specs.Forms.{error_reply}
use Rattle.oss_top.specs.Reads.IsScheduleRead.{by_schedule, schedule_unread}
use Rattle.oss_top.specs.Replays.{most_schedule}
use Rattle.oss_top.specs.Replays.IsFilesReply.{fit}
use Rattle.oss_top.specs.declared.status.Status.TheVariants as status
use Rattle.oss_top.proofs.FormLemmas.{if_ok, long_schedule}
use Rattle.oss_top.proofs.replay.reply_to_replay.Goals as goal

pub returns-in-Ok : goal.returns-in-Ok
returns-in-Ok g c =
    let held = g.S.Shelf.held c.args.shelf.now in
    let schedule = c.as_slice.result.now in
    let still = (c.in-Ok.ensures.count (λ failed. absurd (cc))).0 in
    let few : length schedule ≤ most_schedule = subst (λ (xs : List ℕ). length xs ≤ most_schedule) (sym c.as_slice.ensures.value) c.in-Ok.ensures.within in
    let all : IfSome (held c.args.asked.schedule.now) (λ t. schedule ≡ t) = subst (λ (xs : List ℕ). IfSome (held c.args.asked.schedule.now) (λ t. xs ≡ t)) (sym c.as_slice.ensures.value) c.in-Ok.ensures.whole in
    if_ok c.reply_to_texts.result (λ reply is. by_schedule schedule still all (fit c.requires few is)) c.reply_to_texts.ensures

pub returns-in-Err-TooLong : goal.returns-in-Err-TooLong
returns-in-Err-TooLong g c =
    let still = (c.in-Err-TooLong.ensures.count (λ failed. absurd (cc))).0 in
    let long = c.in-Err-TooLong.ensures.too_long (ap Err c.in-Err-TooLong.field-0-is) in
    if_ok c.wrong_line.result (λ reply is. long_schedule _ _ _ _ reply c.requires still long is) c.wrong_line.ensures

pub returns-in-Err-Failed : goal.returns-in-Err-Failed
returns-in-Err-Failed g c =
    let failed = c.in-Err-Failed.ensures.failed (ap Err c.in-Err-Failed.field-0-is) in
    schedule_unread failed.0 failed.1 (c.error.ensures ∙ ap (error_reply status.Unread) c.in_ok-line-in-Err-Failed.ensures)
