use Rattle.oss_retire.proofs.TellLemmas as lemmas
use Rattle.oss_retire.proofs.laws.retired_tell.Goals as goal

pub returns : goal.returns
returns c = lemmas.retired_tell
