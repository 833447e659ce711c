use Rattle.std.proofs.Common.{◌≡◌, ◌∙◌, length, rules, subst, sym}
use Rattle.oss_missing_text.specs.Tables.{IsKept, found, kept_at}
use Rattle.oss_missing_text.proofs.AlikeLemmas.{told_later}
use Rattle.oss_missing_text.proofs.alike.Table.later.Goals as goal

pub returns : goal.returns
returns c =
    let told = c.args.self.now in
    let line = c.args.line.now in
    let here : c.copied.result ≡ kept_at c.self.inside.alike line = search rules in
    let kept : IsKept (kept_at c.self.inside.alike line) (found told line) (length told) = search rules in
    c.behind.ensures ∙ told_later told c.args.place line c.copied.result (subst (λ o. IsKept o (found told line) (length told)) (sym here) kept)
