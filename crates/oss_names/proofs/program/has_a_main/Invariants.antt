use Rattle.std.proofs.Common.{◌≡◌, drop}
use Rattle.oss_grammar.specs.ProgramRules.{has_main}
use Rattle.oss_names.proofs.program.has_a_main.Given as goal

-- none so far is a function `main`
abbrev pub invariant-loop-item : goal.invariant-loop-item
invariant-loop-item l = has_main (drop l.item-index l.items) ≡ has_main l.items
