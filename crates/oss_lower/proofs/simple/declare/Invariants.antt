use Rattle.std.proofs.Common.{◌≡◌, ◌++◌, drop}
use Rattle.oss_lower_laws.specs.StatementCode.{declared_code}
use Rattle.oss_lower.proofs.simple.declare.Given as goal

-- what is written and what is left are the instructions of all locals, and so are the locals in scope
abbrev pub invariant-loop-local : goal.invariant-loop-local
invariant-loop-local l = record {
  scope : l.scope ++ drop l.local-index l.locals ≡ l.fn.scope ++ l.locals;
  code : l.out ++ declared_code l.names l.line (drop l.local-index l.locals) l.scope ≡ l.fn.out ++ declared_code l.names l.line l.locals l.fn.scope;
}
