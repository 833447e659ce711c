use Rattle.std.proofs.Common.{◌≡◌, ◌++◌, length, map}
use Rattle.std.specs.Vec.Iter.{into_iter_items, into_iter_len}
use Rattle.oss_grammar.specs.TaskLoops.{item_written}
use Rattle.oss_loops.proofs.walk.write_out.Given as goal

-- those so far and those left are written out as all are
abbrev pub invariant-loop-item : goal.invariant-loop-item
invariant-loop-item l = record {
  same : l.done ++ map item_written (into_iter_items l.item-iterator) ≡ map item_written l.fn.program.items;
  counted : into_iter_len l.item-iterator ≡ length (into_iter_items l.item-iterator);
}
