use Rattle.oss_free_run.proofs.MachineFaults.{codes_leave_clauses}
use Rattle.oss_free_run.proofs.laws.codes_leave_clauses.Goals as goal

pub returns : goal.returns
returns c = codes_leave_clauses
