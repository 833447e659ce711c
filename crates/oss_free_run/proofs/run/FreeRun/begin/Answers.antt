use Rattle.std.proofs.Common.{refl, ◌∙◌}
use Rattle.oss_free_run.proofs.TurnLemmas.{begun}
use Rattle.oss_free_run.proofs.run.FreeRun.begin.Goals as goal

pub returns : goal.returns
returns c =
    begun c.args.code.now c.args.fuel _ c.requires refl c.in_ok-current.ensures c.new.ensures (c.in_ok-cells.ensures.items ∙ c.as_slice.ensures ∙ c.first.ensures)
