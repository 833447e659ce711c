use Rattle.std.proofs.Common.{◌∙◌, ap}
use Rattle.std.specs.Prelude.{◌&&◌}
use Rattle.oss_span_check.specs.Holding.{is_told}
use Rattle.oss_span_check.proofs.FinalLemmas.{certified}
use Rattle.oss_span_check.proofs.run.check_from.Goals as goal

pub returns-in-Ok : goal.returns-in-Ok
returns-in-Ok c =
    certified c.args.code.now c.args.fuel c.follow.new.watch.recorded c.in-Ok.ended c.told.result c.args.chain.now c.args.ticks c.in-Ok.ensures
    (c.told.ensures ∙ ap (λ ls. c.in-Ok.ended && is_told c.follow.new.watch.recorded ls c.args.ticks) c.as_slice.ensures)
