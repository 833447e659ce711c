use Rattle.std.proofs.Common.{subst}
use Rattle.oss_sched.specs.Schedules.{IsRefusal}
use Rattle.oss_top.specs.Replays.IsScheduleReply.{replayed, wrong_line}
use Rattle.oss_top.proofs.FormLemmas.{if_ok}
use Rattle.oss_top.proofs.replay.reply_to_schedule.Goals as goal

pub returns-in-Ok : goal.returns-in-Ok
returns-in-Ok c =
    if_ok c.reply_to_moves.result (λ reply is. replayed c.in-Ok.moves c.in-Ok.ensures.reading is) c.reply_to_moves.ensures

pub returns-in-Err-Line : goal.returns-in-Err-Line
returns-in-Err-Line c =
    if_ok c.wrong_line.result (λ reply is. wrong_line c.in-Err-Line.line (subst (λ e. IsRefusal c.args.schedule.now e) c.in-Err-Line.field-0-is c.in-Err-Line.ensures.reading) is) c.wrong_line.ensures
