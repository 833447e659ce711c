use Rattle.std.specs.Vec.Iter.{into_iter_items, into_iter_len}
use Rattle.oss_waves.proofs.ReadyLemmas.{first_known, one_less, parts_more, rest_known}
use Rattle.oss_waves.proofs.parts.parts_in_turn.Goals as goal

pub invariant_of-run : goal.invariant_of-run
invariant_of-run g c = record { known = first_known c.args.code.now (into_iter_items c.loop-body.body-iterator) c.in-Some.body (into_iter_items c.next.new.self) c.in-Some.ensures.steps.0 c.loop-body.invariant.known }

pub loop-body-preserved : goal.loop-body-preserved
loop-body-preserved g c = record {
  made = parts_more c.args.code.now c.args.beginning.now.memory.now c.loop-body.yielded c.loop-body.parts.items c.push.new.self.items c.in-Some.body _ c.in_ok-push.ensures.items c.loop-body.invariant.made c.in_ok-part.ensures;
  known = rest_known c.args.code.now (into_iter_items c.loop-body.body-iterator) c.in-Some.body (into_iter_items c.next.new.self) c.in-Some.ensures.steps.0 c.loop-body.invariant.known;
  counted = one_less (into_iter_items c.loop-body.body-iterator) c.in-Some.body (into_iter_items c.next.new.self) (into_iter_len c.loop-body.body-iterator) (into_iter_len c.next.new.self) c.in-Some.ensures.steps.0 c.in-Some.ensures.steps.1 c.loop-body.invariant.counted;
}
