use denote.Param.Send.{sendable}
use Rattle.std.proofs.Crossing.{crosses}
use Rattle.oss_jobs.proofs.SendLemmas.{job_send}
use Rattle.oss_run_tests.proofs.job_tests.advanced_apart.Goals as goal

pub map_vec-requires-send-J : goal.map_vec-requires-send-J
map_vec-requires-send-J g c κs within = search (sendable, job_send) depth 3

pub map_vec-requires-send-X : goal.map_vec-requires-send-X
map_vec-requires-send-X g c κs within = search (sendable, crosses, job_send) depth 20
