use Rattle.oss_replay.proofs.EndLemmas.{a_replay_has_one_end}
use Rattle.oss_replay.proofs.laws.a_replay_has_one_end.Goals as goal

pub returns : goal.returns
returns c = a_replay_has_one_end
