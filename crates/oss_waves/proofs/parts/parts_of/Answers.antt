use denote.Param.Send.{sendable}
use Rattle.oss_segment.proofs.SendLemmas.{ready_send, segment_send}
use Rattle.oss_waves.proofs.ReadyLemmas.{parts_are}
use Rattle.oss_waves.proofs.parts.parts_of.Goals as goal

pub in_groups-requires-send-J : goal.in_groups-requires-send-J
in_groups-requires-send-J g c κs within = search (sendable, ready_send) depth 3

pub in_groups-requires-send-X : goal.in_groups-requires-send-X
in_groups-requires-send-X g c κs within = search (sendable, segment_send) depth 3

pub returns : goal.returns
returns g c = parts_are c.args.code.now c.args.memory.now c.args.bodies.items c.in_ok-all.all.items c.in_groups.result c.in_ok-all.ensures c.in_groups.ensures
