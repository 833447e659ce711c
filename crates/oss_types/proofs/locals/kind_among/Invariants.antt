use Rattle.std.proofs.Common.{◌≡◌, drop}
use Rattle.oss_grammar.specs.Scopes.{local_kind, or_else}
use Rattle.oss_types.proofs.locals.kind_among.Given as goal

-- the last local of the name is one of those left, or the one found
abbrev pub invariant-loop-local : goal.invariant-loop-local
invariant-loop-local l = or_else (local_kind (drop l.local-index l.locals) l.name) l.found ≡ local_kind l.locals l.name
