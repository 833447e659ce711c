use Rattle.std.proofs.Common.{◌≡◌, ◌++◌, length}
use Rattle.std.specs.Vec.Iter.{into_iter_items, into_iter_len}
use Rattle.oss_grammar.specs.Scopes.{or_else}
use Rattle.oss_grammar.specs.TaskLoops.{task_clauses}
use Rattle.oss_loops.specs.LoopParts.{turns_among}
use Rattle.oss_loops.proofs.parts.sorted.Given as goal

-- the clauses so far and those left tell what all tell
abbrev pub invariant-loop-clause : goal.invariant-loop-clause
invariant-loop-clause l = record {
  grain : or_else l.found.grain (turns_among (into_iter_items l.clause-iterator)) ≡ turns_among l.fn.clauses;
  others : l.found.others ++ task_clauses (into_iter_items l.clause-iterator) ≡ task_clauses l.fn.clauses;
  counted : into_iter_len l.clause-iterator ≡ length (into_iter_items l.clause-iterator);
}
