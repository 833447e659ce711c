use Rattle.std.specs.Vec.Iter.{into_iter_items, into_iter_len}
use Rattle.oss_program_tests.proofs.TrialLemmas.{first_known, one_less, parts_more, rest_known}
use Rattle.oss_program_tests.proofs.waving.parts_of.Goals as goal

pub invariant_of-ready : goal.invariant_of-ready
invariant_of-ready c = record { known = first_known c.args.code.now (into_iter_items c.loop-body.body-iterator) c.in-Some.body (into_iter_items c.next.new.self) c.in-Some.ensures.steps.0 c.loop-body.invariant.known }

pub loop-body-preserved : goal.loop-body-preserved
loop-body-preserved c = record {
  parts = parts_more c.args.code.now c.args.memory.now c.loop-body.yielded c.loop-body.parts.items c.push.new.self.items c.in-Some.body c.in_ok-part.part c.in_ok-push.ensures.items c.loop-body.invariant.parts c.in_ok-part.ensures;
  known = rest_known c.args.code.now (into_iter_items c.loop-body.body-iterator) c.in-Some.body (into_iter_items c.next.new.self) c.in-Some.ensures.steps.0 c.loop-body.invariant.known;
  counted = one_less (into_iter_items c.loop-body.body-iterator) c.in-Some.body (into_iter_items c.next.new.self) (into_iter_len c.loop-body.body-iterator) (into_iter_len c.next.new.self) c.in-Some.ensures.steps.0 c.in-Some.ensures.steps.1 c.loop-body.invariant.counted;
}
