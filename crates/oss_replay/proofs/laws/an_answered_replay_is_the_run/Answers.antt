use Rattle.oss_replay.proofs.EndLemmas.{an_answered_replay_is_the_run}
use Rattle.oss_replay.proofs.laws.an_answered_replay_is_the_run.Goals as goal

pub returns : goal.returns
returns c = an_answered_replay_is_the_run
