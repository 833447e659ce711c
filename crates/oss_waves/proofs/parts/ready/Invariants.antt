use Rattle.std.proofs.Common.{◌≡◌, length}
use Rattle.std.specs.Vec.Iter.{into_iter_items, into_iter_len}
use Rattle.oss_body.specs.declared.body.Body.{Body}
use Rattle.oss_model.specs.Order.{IsIn}
use Rattle.oss_thread_groups.specs.Groups.{AreGiven}
use Rattle.oss_segment.specs.Segments.{IsKnown}
use Rattle.oss_waves.specs.Readies.{IsReady}
use Rattle.oss_waves.proofs.parts.ready.Given as goal

-- those so far are ready, and those left are bodies of tasks
abbrev pub invariant-loop-body : goal.invariant-loop-body
invariant-loop-body l = record {
  given : AreGiven (IsReady l.fn.code) l.yielded l.all.items;
  known : (b : Body) → IsIn b (into_iter_items l.body-iterator) → IsKnown l.fn.code b;
  counted : into_iter_len l.body-iterator ≡ length (into_iter_items l.body-iterator);
}
