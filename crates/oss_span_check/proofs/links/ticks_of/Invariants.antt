-- With the ticks of the links that are left there are as many as in all.
use Rattle.std.specs.Prelude.{◌≡◌, drop}
use Rattle.oss_span_check.specs.Holding.{ticks_of}
use Rattle.oss_span_check.proofs.links.ticks_of.Given as goal

abbrev pub invariant-loop-link : goal.invariant-loop-link
invariant-loop-link l = ticks_of l.fn.r 0 l.fn.links ≡ ticks_of l.fn.r l.ticks (drop l.link-index l.fn.links)
