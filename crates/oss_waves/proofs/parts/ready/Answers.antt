use Rattle.std.proofs.Common.{refl}
use Rattle.std.specs.Vec.Iter.{into_iter_items, into_iter_len}
use Rattle.oss_thread_groups.proofs.ListLemmas.{given_more}
use Rattle.oss_waves.specs.Readies.{IsReady}
use Rattle.oss_waves.proofs.ReadyLemmas.{first_known, rest_known, one_less}
use Rattle.oss_waves.proofs.parts.ready.Goals as goal

pub invariant_of-push : goal.invariant_of-push
invariant_of-push c = record { known = first_known c.args.code.now (into_iter_items c.loop-body.body-iterator) c.in-Some.body (into_iter_items c.next.new.self) c.in-Some.ensures.steps.0 c.loop-body.invariant.known }

pub loop-body-preserved : goal.loop-body-preserved
loop-body-preserved c = record {
  given = given_more (IsReady c.args.code.now) c.loop-body.yielded c.loop-body.all.items c.push.new.self.items c.in-Some.body _ c.in_ok-push.ensures.items c.loop-body.invariant.given (record { code_is = refl; body_is = refl });
  known = rest_known c.args.code.now (into_iter_items c.loop-body.body-iterator) c.in-Some.body (into_iter_items c.next.new.self) c.in-Some.ensures.steps.0 c.loop-body.invariant.known;
  counted = one_less (into_iter_items c.loop-body.body-iterator) c.in-Some.body (into_iter_items c.next.new.self) (into_iter_len c.loop-body.body-iterator) (into_iter_len c.next.new.self) c.in-Some.ensures.steps.0 c.in-Some.ensures.steps.1 c.loop-body.invariant.counted;
}
