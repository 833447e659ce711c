use Rattle.std.proofs.Common.{◌≡◌, drop, false}
use Rattle.oss_grammar.specs.Refusals.{is_open_behind}
use Rattle.oss_expressions.proofs.refusals.is_open_behind.Given as goal

-- what is found of the tokens that are left is what is found of all
abbrev pub invariant-loop-token : goal.invariant-loop-token
invariant-loop-token l = is_open_behind l.is_open (drop l.token-index l.before) ≡ is_open_behind false l.before
