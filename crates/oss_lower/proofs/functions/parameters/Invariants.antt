use Rattle.std.proofs.Common.{◌≡◌, ◌++◌, drop}
use Rattle.oss_lower.proofs.functions.parameters.Given as goal

-- those in scope and those left are all parameters
abbrev pub invariant-loop-param : goal.invariant-loop-param
invariant-loop-param l = l.scope ++ drop l.param-index l.params ≡ l.params
