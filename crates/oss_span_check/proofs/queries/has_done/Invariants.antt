-- The answer lies in the notes that are left.
use Rattle.std.specs.Prelude.{◌≡◌, ◌+◌, drop}
use Rattle.oss_span_check.specs.Queries.{has_done}
use Rattle.oss_span_check.proofs.queries.has_done.Given as goal

abbrev pub invariant-loop-x : goal.invariant-loop-x
invariant-loop-x l = has_done l.notes l.p (l.first + l.count) ≡ has_done (drop l.x-index l.notes) l.p (l.first + l.count)
