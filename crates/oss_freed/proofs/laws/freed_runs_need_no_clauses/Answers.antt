use Rattle.oss_freed.proofs.FreedRuns as lemmas
use Rattle.oss_freed.specs.contracts.laws.freed_runs_need_no_clauses.{S-type}
use Rattle.oss_freed.proofs.laws.freed_runs_need_no_clauses.Goals as goal

pub returns : goal.returns
returns g c = lemmas.freed_runs_need_no_clauses (S-type g.row.S)
