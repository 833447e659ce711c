use Rattle.oss_top.proofs.NothingLemmas.{nothing_missing}
use Rattle.oss_top.proofs.laws.nothing_is_missing_exactly.Goals as goal

pub returns : goal.returns
returns c = nothing_missing c.args.text.now
