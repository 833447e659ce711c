use Rattle.std.proofs.Common.{◌≡◌, take, map}
use Rattle.oss_grammar.specs.Scopes.{item_name}
use Rattle.oss_types.proofs.globals.Globals.of.Given as goal

-- the names of the items so far are in the table
abbrev pub invariant-loop-item : goal.invariant-loop-item
invariant-loop-item l = l.names ≡ map item_name (take l.item-index l.items)
