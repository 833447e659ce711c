use Rattle.oss_free_run.proofs.MachineFaults.{free_runs_need_no_clauses}
use Rattle.oss_free_run.proofs.laws.free_runs_need_no_clauses.Goals as goal

pub returns : goal.returns
returns c = free_runs_need_no_clauses
