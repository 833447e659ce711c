use Rattle.std.proofs.Common.{◌≡◌, drop, map}
use Rattle.oss_meaning.specs.Names.{local_from, or_found}
use Rattle.oss_lower_expressions.proofs.scope.Scope.find.Given as goal

-- the last local of the name is one of those left, or the one found
abbrev pub invariant-loop-local : goal.invariant-loop-local
invariant-loop-local l = record {
  counted : l.slot ≡ l.local-index;
  found : or_found (local_from l.slot (map (λ x. x.now) (drop l.local-index l.locals)) l.name) l.found ≡ local_from 0 (map (λ x. x.now) l.locals) l.name;
}
