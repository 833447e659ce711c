use Rattle.std.proofs.Common.{◌≡◌, ◌++◌, drop, map}
use Rattle.oss_grammar.specs.Scopes.{item_name}
use Rattle.oss_meaning.specs.Names.{functions_of}
use Rattle.oss_lower_expressions.specs.Tables.{founds_from}
use Rattle.oss_lower_expressions.proofs.names.add_all.Given as goal

-- the tables of the items so far, with those of the items left, are those of all
abbrev pub invariant-loop-item : goal.invariant-loop-item
invariant-loop-item l = record {
  named : l.table ++ map item_name (drop l.item-index l.items) ≡ l.fn.table ++ map item_name l.items;
  found : l.found.items ++ founds_from l.globals l.count (drop l.item-index l.items) ≡ l.fn.found.items ++ founds_from 0 0 l.items;
  numbered : map (λ f. f.now) l.functions.items ++ functions_of (drop l.item-index l.items) ≡ map (λ f. f.now) l.fn.functions.items ++ functions_of l.items;
}
