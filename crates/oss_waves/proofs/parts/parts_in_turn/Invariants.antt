use Rattle.std.proofs.Common.{◌≡◌, length}
use Rattle.std.specs.Vec.Iter.{into_iter_items, into_iter_len}
use Rattle.oss_body.specs.declared.body.Body.{Body}
use Rattle.oss_model.specs.Order.{IsIn}
use Rattle.oss_segment.specs.Segments.{IsKnown}
use Rattle.oss_core.specs.Turns.{ArePartsOf}
use Rattle.oss_waves.proofs.parts.parts_in_turn.Given as goal

-- the parts of those so far are made, and those left are bodies of tasks
abbrev pub invariant-loop-body : goal.invariant-loop-body
invariant-loop-body g l = record {
  made : ArePartsOf l.fn.code l.fn.beginning.memory.now l.yielded l.parts.items;
  known : (b : Body) → IsIn b (into_iter_items l.body-iterator) → IsKnown l.fn.code b;
  counted : into_iter_len l.body-iterator ≡ length (into_iter_items l.body-iterator);
}
