-- With the ticks of the notes that are left there are as many as in all.
use Rattle.std.specs.Prelude.{◌≡◌, drop}
use Rattle.oss_span_check.specs.Holding.{ticks_with}
use Rattle.oss_span_check.proofs.links.ticks_with.Given as goal

abbrev pub invariant-loop-x : goal.invariant-loop-x
invariant-loop-x l = ticks_with l.fn.p l.fn.first l.fn.count l.fn.n l.fn.notes ≡ ticks_with l.fn.p l.fn.first l.fn.count l.ticks (drop l.x-index l.fn.notes)
