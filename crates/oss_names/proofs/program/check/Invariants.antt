use Rattle.std.proofs.Common.{◌≡◌, ◌++◌, ◌≤◌, drop}
use Rattle.oss_grammar.specs.Broken.{first}
use Rattle.oss_grammar.specs.Layout.{sizes_of}
use Rattle.oss_grammar.specs.ProgramRules.{items_rules}
use Rattle.oss_names.specs.Resolved.{bounds_of}
use Rattle.oss_names.proofs.program.check.Given as goal

-- the items so far break no rule, and their globals lie in front of those left
abbrev pub invariant-loop-item : goal.invariant-loop-item
invariant-loop-item l = record {
  same : first (items_rules l.items l.place l.cells (drop l.item-index l.items)) ≡ first (items_rules l.items 0 0 l.items);
  lie : l.bounds.items ++ bounds_of l.cells (sizes_of (drop l.item-index l.items)) ≡ bounds_of 0 (sizes_of l.items);
  counted : l.place ≡ l.item-index;
  few : l.cells ≤ 1048576;
}
