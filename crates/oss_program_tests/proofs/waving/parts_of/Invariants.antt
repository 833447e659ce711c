use Rattle.std.proofs.Common.{◌≡◌, length}
use Rattle.std.specs.Vec.Iter.{into_iter_items, into_iter_len}
use Rattle.oss_body.specs.declared.body.Body.{Body}
use Rattle.oss_model.specs.Order.{IsIn}
use Rattle.oss_segment.specs.Segments.{IsKnown}
use Rattle.oss_core.specs.Turns.{ArePartsOf}
use Rattle.oss_program_tests.proofs.waving.parts_of.Given as goal

-- the parts so far are there, and those left are bodies of tasks
abbrev pub invariant-loop-body : goal.invariant-loop-body
invariant-loop-body l = record {
  parts : ArePartsOf l.fn.code l.fn.memory l.yielded l.parts.items;
  known : (b : Body) → IsIn b (into_iter_items l.body-iterator) → IsKnown l.fn.code b;
  counted : into_iter_len l.body-iterator ≡ length (into_iter_items l.body-iterator);
}
