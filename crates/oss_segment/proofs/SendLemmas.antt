-- A body in a box, a part of a task, and a body that stands before its part may go to another thread: each owns plain data alone.
use denote.Builtin.{u64}
use denote.Ref.{NamedLft}
use denote.Param.Send.{IsSend, sendable, view_send, recorded_send, struct_send}
use denote.Struct.Declared as struct
use Rattle.std.proofs.alloc.Global.TheSendSync as heap
use Rattle.std.proofs.Crossing.{crosses}
use Rattle.std.specs.Prelude.{true}
use Rattle.std.specs.declared.cmp.PartialEq.{Ghosts}
use Rattle.oss_ranges.proofs.SendLemmas.{map_send}
use Rattle.oss_tree.proofs.output.Print.TheSendSync as print
use Rattle.oss_code.proofs.code.Code.TheSendSync as code
use Rattle.oss_body.proofs.SendLemmas.{body_send}
use Rattle.oss_kept_tasks.specs.contracts.boxed_body.BoxedBody as boxed_body
use Rattle.oss_kept_tasks.specs.contracts.boxed_body.BoxedBody.TheInside as in_boxed_body
use Rattle.oss_segment.specs.contracts.segment.Segment as segment
use Rattle.oss_segment.specs.contracts.ready.Ready as ready

any : (D : Type 0) → Ghosts D
any D = record { eq = λ a b. true }

boxed_body_inside : IsSend in_boxed_body.the_row
boxed_body_inside = recorded_send _ _ (in_boxed_body.the_type).to (in_boxed_body.the_type).to_one (struct_send (struct.shape in_boxed_body.the_type) (heap.the_field_send, (search (sendable, crosses, body_send) depth 40, tt)))

pub boxed_body_send : IsSend boxed_body.the_row
boxed_body_send = view_send in_boxed_body.the_row _ _ _ _ boxed_body_inside

pub segment_field : IsSend (segment.the_field).row
segment_field = struct_send (struct.shape segment.the_type)
    (boxed_body_send, (map_send u64 (any _) (search sendable), (search (sendable, crosses, boxed_body_send) depth 40, (search (sendable, crosses, print.the_send) depth 40, (search sendable, (search sendable, tt))))))

pub segment_send : IsSend segment.the_row
segment_send = recorded_send _ _ (segment.the_type).to (segment.the_type).to_one segment_field

pub ready_send : (a : NamedLft) → IsSend (ready.the_row a)
ready_send a = recorded_send _ _ (ready.the_type a).to (ready.the_type a).to_one (struct_send (struct.shape (ready.the_type a)) (search (sendable, code.the_sync), (boxed_body_send, tt)))
