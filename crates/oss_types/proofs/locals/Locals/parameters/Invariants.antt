use Rattle.std.proofs.Common.{◌≡◌, List, [], drop}
use Rattle.oss_syntax.specs.declared.tree.program.Item.{Item}
use Rattle.oss_grammar.specs.StaticRules.{declare_all}
use Rattle.oss_types.specs.Tables.{TellsKinds}
use Rattle.oss_types.proofs.ParameterLemmas.{names_in}
use Rattle.oss_types.proofs.locals.Locals.parameters.Given as goal

-- the table has the names of the locals so far, and those left are declared behind them
abbrev pub invariant-loop-param : goal.invariant-loop-param
invariant-loop-param l = record {
  named : l.names ≡ names_in l.locals;
  kinds : TellsKinds l.names l.locals;
  after : (all : List Item) → (declare_all all 0 (drop l.param-index l.params) l.locals).locals ≡ (declare_all all 0 l.params []).locals;
}
