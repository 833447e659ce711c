use Rattle.std.specs.Prelude.{vec_len}
use Rattle.oss_thread_groups.proofs.GroupLemmas.{IsCut}
use Rattle.oss_thread_groups.proofs.group.into_groups.Given as goal

-- the groups so far and the jobs behind them
abbrev pub invariant-loop-rest : goal.invariant-loop-rest
invariant-loop-rest g l = IsCut l.fn.jobs.items l.workers l.size l.groups.items l.worker l.rest.items

abbrev pub decreases-loop-rest : goal.decreases-loop-rest
decreases-loop-rest g l = vec_len l.rest
