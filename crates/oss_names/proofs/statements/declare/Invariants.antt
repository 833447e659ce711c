use Rattle.std.specs.Prelude.{Result}
use Rattle.std.proofs.Common.{List, drop}
use Rattle.oss_syntax.specs.declared.tree.program.Local.{Local}
use Rattle.oss_syntax.specs.declared.refusal.Refusal.{Refusal}
use Rattle.oss_grammar.specs.StaticRules.{declare_all}
use Rattle.oss_names.specs.PartChecks.{IsPartChecked}
use Rattle.oss_names.proofs.statements.declare.Given as goal

-- as the check of those left ends, that of all ends
abbrev pub invariant-loop-local : goal.invariant-loop-local
invariant-loop-local l = (result : Result (Unit {0}) Refusal) (now : List Local) → IsPartChecked l.locals (declare_all l.globals l.start (drop l.local-index l.declared) l.locals) result now
    → IsPartChecked l.fn.locals (declare_all l.globals l.start l.declared l.fn.locals) result now
