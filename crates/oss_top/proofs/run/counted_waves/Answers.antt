use Rattle.std.proofs.Common.{refl}
use Rattle.oss_top.proofs.RunLemmas.{ran_by_waves}
use Rattle.oss_top.proofs.run.counted_waves.Goals as goal

pub returns : goal.returns
returns g c = ran_by_waves _ _ c.in_ok-answer.field-0.waves _ c.in_ok-answer.ensures refl
