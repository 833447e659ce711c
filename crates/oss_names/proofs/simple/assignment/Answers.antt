use Rattle.std.proofs.Common.{◌≡◌, ◌∙◌, ap}
use Rattle.oss_grammar.specs.Broken.{first}
use Rattle.oss_grammar.specs.ExpressionRules.{findings}
use Rattle.oss_grammar.specs.StaticRules.{stored_rules, target_wanted}
use Rattle.oss_types.specs.Seen.{seen}
use Rattle.oss_names.proofs.simple.assignment.Goals as goal

pub returns : goal.returns
returns c =
    let all = c.args.globals.now in
    let ls = c.args.locals.now in
    let target = findings all ls c.args.target.now in
    let value = findings all ls c.args.value.now in
    let here : c.expression-target.result ≡ seen target = c.expression-target.ensures ∙ ap (λ xs. seen (findings all xs c.args.target.now)) c.all-scope.ensures in
    let there : c.expression-value.result ≡ seen value = c.expression-value.ensures ∙ ap (λ xs. seen (findings all xs c.args.value.now)) c.all-scope.ensures in
    c.store.ensures target value here there
    ∙ ap (λ w. first (stored_rules w target value)) (c.wanted_by_target.ensures ∙ ap (λ f. target_wanted c.args.op f.kind f.object) here)
