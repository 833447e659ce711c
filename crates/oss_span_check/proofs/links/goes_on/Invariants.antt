-- The links that are left go on from the last event just where all do from the first.
use Rattle.std.specs.Prelude.{◌≡◌, drop}
use Rattle.oss_span_check.specs.Holding.{goes_on}
use Rattle.oss_span_check.proofs.links.goes_on.Given as goal

abbrev pub invariant-loop-link : goal.invariant-loop-link
invariant-loop-link l = goes_on l.fn.r l.fn.q l.fn.last l.fn.links ≡ goes_on l.fn.r l.point l.event (drop l.link-index l.fn.links)
