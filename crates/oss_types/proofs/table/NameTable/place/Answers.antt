use Rattle.std.proofs.Common.{◌≡◌, ◌<◌, IfSome, length, rules, subst, sym}
use Rattle.oss_types.specs.Tables.{place_among}
use Rattle.oss_types.proofs.PlaceLemmas.{place-within}
use Rattle.oss_types.proofs.table.NameTable.place.Goals as goal

pub returns-clause-within : goal.returns-clause-within
returns-clause-within c =
    let names = c.args.self.now in
    let first : c.copied.result ≡ place_among names c.args.name.now = search rules in
    subst (λ place. IfSome place (λ i. i < length names)) (sym first) (place-within names c.args.name.now)
