use Rattle.std.proofs.Common.{◌≡◌, ◌++◌, drop}
use Rattle.oss_lower_laws.specs.Lowered.{bound_code}
use Rattle.oss_lower.proofs.functions.bound.Given as goal

-- what is written and what is left are the instructions of all parameters
abbrev pub invariant-loop-param : goal.invariant-loop-param
invariant-loop-param l = l.out ++ bound_code l.line l.slot (drop l.param-index l.params) ≡ l.fn.out ++ bound_code l.line 0 l.params
