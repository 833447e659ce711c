use Rattle.std.proofs.Common.{subst, ap}
use Rattle.std.specs.Prelude.{IfNone, IfSome}
use Rattle.oss_field.specs.Known.{Known}
use Rattle.oss_field.specs.Messages.{JoinFirst, NoJoinFirst}
use Rattle.oss_field.specs.Standing.{Standing}
use Rattle.oss_field.proofs.DeliverLemmas.{no_join, some_join}
use Rattle.oss_field.proofs.MessageLemmas.{flags_small}
use Rattle.oss_field.proofs.seat.FieldSeat.next_join.Goals as goal

pub join_of-requires : goal.join_of-requires
join_of-requires c = record { flags = flags_small c.self.inside.held.items c.self.inside.place.table_id.slots c.self.inside.place.me.0.known c.self.invariant.2.ready c.self.invariant.2.bounded }

pub returns-clause-some : goal.returns-clause-some
returns-clause-some c = subst (λ (k : Known). IfSome c.join_of.result (λ e. JoinFirst k e)) (ap (λ (z : Standing). z.known) c.self.view_is)
    (some_join c.self.inside.held.items c.self.inside.place.table_id.slots c.self.inside.place.me.0.known c.self.invariant.2 c.join_of.result c.join_of.ensures.some)

pub returns-clause-none : goal.returns-clause-none
returns-clause-none c = subst (λ (k : Known). IfNone c.join_of.result (NoJoinFirst k)) (ap (λ (z : Standing). z.known) c.self.view_is)
    (no_join c.self.inside.held.items c.self.inside.place.table_id.slots c.self.inside.place.me.0.known c.self.invariant.2 c.join_of.result c.join_of.ensures.none)
