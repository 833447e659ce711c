use Rattle.std.proofs.Common.{◌≡◌, ◌+◌, ◌*◌, ◌≤◌, ◌++◌, length, map}
use Rattle.std.specs.Vec.Iter.{into_iter_items, into_iter_len}
use Rattle.oss_grammar.specs.TaskLoops.{written_out}
use Rattle.oss_loops.proofs.Weights.{part_weight, weight, weights}
use Rattle.oss_loops.proofs.statements.+statements.Given as goal

-- those so far and those left are written out as all are
abbrev pub invariant-statements-loop-one : goal.invariant-statements-loop-one
invariant-statements-loop-one l = record {
  same : l.done ++ map written_out (into_iter_items l.one-iterator) ≡ map written_out l.fn.list;
  less : weights (into_iter_items l.one-iterator) ≤ weights l.fn.list;
  counted : into_iter_len l.one-iterator ≡ length (into_iter_items l.one-iterator);
}

-- each function has a smaller part of the statement than its caller, or stands below it
abbrev pub decreases-statement : goal.decreases-statement
decreases-statement l = 8 * weight l.one

abbrev pub decreases-add : goal.decreases-add
decreases-add l = 8 * weight l.one + 1

abbrev pub decreases-within : goal.decreases-within
decreases-within l = 8 * weight l.one + 1

abbrev pub decreases-statements : goal.decreases-statements
decreases-statements l = 8 * weights l.list + 2

abbrev pub decreases-part : goal.decreases-part
decreases-part l = 8 * part_weight l.one + 2

abbrev pub decreases-block : goal.decreases-block
decreases-block l = 8 * weights l.list + 3

abbrev pub decreases-both : goal.decreases-both
decreases-both l = 8 * (weight l.then + part_weight l.other) + 3

abbrev pub decreases-branches : goal.decreases-branches
decreases-branches l = 8 * (weight l.then + part_weight l.other) + 4

abbrev pub decreases-while_loop : goal.decreases-while_loop
decreases-while_loop l = 8 * weight l.body + 2

abbrev pub decreases-for_parts : goal.decreases-for_parts
decreases-for_parts l = 8 * (weight l.parts.body + (part_weight l.parts.start + part_weight l.parts.step)) + 4

abbrev pub decreases-for_loop : goal.decreases-for_loop
decreases-for_loop l = 8 * (weight l.parts.body + (part_weight l.parts.start + part_weight l.parts.step)) + 5

abbrev pub decreases-task : goal.decreases-task
decreases-task l = 8 * weight l.body + 2

abbrev pub decreases-task_loop : goal.decreases-task_loop
decreases-task_loop l = 8 * weight l.body + 2
