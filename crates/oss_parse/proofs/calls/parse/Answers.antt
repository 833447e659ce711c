use Rattle.oss_parse.proofs.ParsedLemmas.{parsed}
use Rattle.oss_parse.proofs.calls.parse.Goals as goal

pub returns : goal.returns
returns c = parsed _ _ c.parse_told.ensures
