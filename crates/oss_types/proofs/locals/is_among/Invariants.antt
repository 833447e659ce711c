use Rattle.std.proofs.Common.{◌≡◌, drop}
use Rattle.std.specs.List.{list_any}
use Rattle.std.specs.Str.{bytes_eq}
use Rattle.oss_types.proofs.locals.is_among.Given as goal

-- a local of the name is one of those left
abbrev pub invariant-loop-local : goal.invariant-loop-local
invariant-loop-local l = list_any (λ x. bytes_eq x.name l.name) (drop l.local-index l.inner) ≡ list_any (λ x. bytes_eq x.name l.name) l.inner
