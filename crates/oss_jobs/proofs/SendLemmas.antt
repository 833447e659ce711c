-- A job may go to another thread: it owns plain data alone.
use denote.Builtin.{u32}
use denote.Param.Send.{IsSend, sendable, recorded_send, struct_send}
use denote.Struct.Declared as struct
use Rattle.std.proofs.alloc.Global.TheSendSync as heap
use Rattle.std.proofs.Crossing.{crosses}
use Rattle.std.specs.Prelude.{true}
use Rattle.std.specs.declared.cmp.PartialEq.{Ghosts}
use Rattle.oss_ranges.specs.contracts.map.RangeMap as map
use Rattle.oss_ranges.proofs.SendLemmas.{map_send}
use Rattle.oss_body.proofs.SendLemmas.{body_field}
use Rattle.oss_tree.proofs.output.Print.TheSendSync as print
use Rattle.oss_jobs.specs.contracts.job.Job as job

any : (D : Type 0) → Ghosts D
any D = record { eq = λ a b. true }

entries_send : IsSend (map.the_row u32 (any _))
entries_send = map_send u32 (any _) (search sendable)

pub job_field : IsSend (job.the_field).row
job_field = struct_send (struct.shape job.the_type)
    (heap.the_field_send, (search sendable, (search sendable, (body_field, (search (sendable, crosses, print.the_send) depth 40, (entries_send, (entries_send, (search sendable, tt))))))))

pub job_send : IsSend job.the_row
job_send = recorded_send _ _ (job.the_type).to (job.the_type).to_one job_field
