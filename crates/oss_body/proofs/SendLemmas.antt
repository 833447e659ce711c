-- A body may go to another thread: it owns plain data alone.
use denote.Param.Send.{IsSend, sendable, view_send, recorded_send, enum_send, struct_send}
use denote.Enum.Declared as enum
use denote.Struct.Declared as struct
use Rattle.std.proofs.alloc.Global.TheSendSync as heap
use Rattle.std.proofs.Crossing.{crosses}
use Rattle.std.specs.Prelude.{true}
use Rattle.std.specs.declared.cmp.PartialEq.{Ghosts}
use Rattle.oss_ranges.proofs.SendLemmas.{map_send}
use Rattle.oss_judge.specs.contracts.context.Context as context
use Rattle.oss_judge.specs.contracts.context.Context.TheInside as inside
use Rattle.oss_judge.proofs.right.Right.TheSendSync as right
use Rattle.oss_judge.proofs.lending.Lending.TheSendSync as lending
use Rattle.oss_judge.proofs.mark.Mark.TheSendSync as mark
use Rattle.oss_code.proofs.order.TaskOrder.TheSendSync as order
use Rattle.oss_syntax.proofs.boxed.Boxed.TheSendSync as boxed
use Rattle.oss_syntax.proofs.list.List.TheSendSync as list
use Rattle.oss_syntax.proofs.bytes.Bytes.TheSendSync as bytes
use Rattle.oss_syntax.proofs.fault.FaultKind.TheSendSync as fault
use Rattle.oss_syntax.proofs.access.Op.TheSendSync as op
use Rattle.oss_syntax.proofs.access.Access.TheSendSync as access
use Rattle.oss_syntax.proofs.access.Range.TheSendSync as range
use Rattle.oss_model.proofs.point.Point.TheSendSync as point
use Rattle.oss_machine.proofs.machine.Machine.TheSendSync as machine
use Rattle.oss_slots.specs.contracts.table.Slots as slots
use Rattle.oss_slots.proofs.home.Home.TheSendSync as home
use Rattle.oss_body.specs.contracts.act.Creation as creation
use Rattle.oss_body.specs.contracts.act.Act as act
use Rattle.oss_body.specs.contracts.place.Place as place
use Rattle.oss_body.specs.contracts.below.Below as below
use Rattle.oss_body.specs.contracts.frame.Frame as frame
use Rattle.oss_body.specs.contracts.own.Own as own
use Rattle.oss_body.specs.contracts.tasks.Tasks as tasks
use Rattle.oss_body.specs.contracts.body.Body as body

any : (D : Type 0) → Ghosts D
any D = record { eq = λ a b. true }

context_inside : IsSend inside.the_row
context_inside = recorded_send _ _ (inside.the_type).to (inside.the_type).to_one (struct_send (struct.shape inside.the_type)
    (heap.the_field_send, (search sendable, (map_send _ (any _) right.the_send, (map_send _ (any _) lending.the_send, (map_send _ (any _) mark.the_send, (search sendable, (search sendable, (search sendable, (search sendable, (search sendable, tt)))))))))))

context_send : IsSend context.the_row
context_send = view_send inside.the_row _ _ _ _ context_inside

creation_send : IsSend creation.the_row
creation_send = recorded_send _ _ (creation.the_type).to (creation.the_type).to_one (struct_send (struct.shape creation.the_type) (order.the_field_send, (context_send, tt)))

act_field : IsSend (act.the_field).row
act_field = enum_send (enum.shape act.the_type) (
  tt,
  (
    (search sendable, tt),
    (
      (search sendable, (search sendable, tt)),
      (
        (search sendable, (op.the_field_send, (search sendable, (search sendable, tt)))),
        (
          (boxed.the_send _ creation_send, (search sendable, tt)),
          (tt, (tt, ((list.the_send _ range.the_send, tt), ((list.the_send _ access.the_send, (search sendable, tt)), ((point.the_send, (bytes.the_send, tt)), (tt, ((fault.the_field_send, (search sendable, (point.the_send, tt))), tt))))))),
        ),
      ),
    ),
  ),
)

place_send : IsSend place.the_row
place_send = search (sendable, crosses, context_send, point.the_send) depth 40

frame_send : IsSend frame.the_row
frame_send = search (sendable, crosses, machine.the_send, place_send) depth 40

below_send : IsSend below.the_row
below_send = search (sendable, crosses, frame_send) depth 40

slots_send : IsSend slots.the_row
slots_send = search (sendable, crosses, map_send, home.the_send) depth 40

own_field : IsSend (own.the_field).row
own_field = struct_send (struct.shape own.the_type) (context_send, (search sendable, (search sendable, (slots_send, tt))))

tasks_field : IsSend (tasks.the_field).row
tasks_field = struct_send (struct.shape tasks.the_type) (frame_send, (below_send, (search sendable, tt)))

pub body_field : IsSend (body.the_field).row
body_field = struct_send (struct.shape body.the_type) (heap.the_field_send, (own_field, (search sendable, (tasks_field, (act_field, (search (sendable, crosses, point.the_send) depth 40, tt))))))

pub body_send : IsSend body.the_row
body_send = recorded_send _ _ (body.the_type).to (body.the_type).to_one body_field
