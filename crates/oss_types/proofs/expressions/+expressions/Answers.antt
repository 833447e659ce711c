use Rattle.std.proofs.Common.{◌≡◌, ◌+◌, ◌∙◌, ap, drop, map, sym}
use Rattle.oss_grammar.specs.Broken.{first}
use Rattle.oss_grammar.specs.ExpressionRules.{argument_rules, argument_wanted, findings, parameters_behind}
use Rattle.oss_grammar.specs.Kinds.{all_of, placed}
use Rattle.oss_types.specs.Seen.{seen}
use Rattle.oss_types.proofs.Firsts.{arguments-left, part-broken, part-whole}
use Rattle.oss_types.proofs.expressions.+expressions.Goals as goal

pub arguments-returns-in-Some : goal.arguments-returns-in-Some
arguments-returns-in-Some t c =
    let found = findings c.args.globals.now c.args.locals.now in
    let f = found c.value-item.result in
    let left = c.loop-value.left.now in
    let es = c.args.values.now in
    let i = c.loop-value.value-index in
    let told : c.first_of.result ≡ first (all_of (placed (argument_wanted left) f)) =
    c.first_of.ensures (placed (argument_wanted left) f) (c.at_place-found.ensures f c.expression.ensures ∙ ap (λ w. seen (placed w f)) c.wanted_of_argument.ensures) in
    part-broken (first (argument_rules c.args.params.now (map found es))) (first (argument_rules left (map found (drop i es)))) (first (all_of (placed (argument_wanted left) f))) (first (argument_rules (parameters_behind left) (map found (drop (i + 1) es))))
    c.loop-value.invariant (arguments-left left found es i c.value-item.result c.loop-value-test.true c.value-item.is) c.in-Some.broken (sym told ∙ c.in-Some.is)

pub arguments-loop-value-preserved : goal.arguments-loop-value-preserved
arguments-loop-value-preserved t c =
    let found = findings c.args.globals.now c.args.locals.now in
    let f = found c.value-item.result in
    let left = c.loop-value.left.now in
    let es = c.args.values.now in
    let i = c.loop-value.value-index in
    let told : c.first_of.result ≡ first (all_of (placed (argument_wanted left) f)) =
    c.first_of.ensures (placed (argument_wanted left) f) (c.at_place-found.ensures f c.expression.ensures ∙ ap (λ w. seen (placed w f)) c.wanted_of_argument.ensures) in
    ap (λ ps. first (argument_rules ps (map found (drop (i + 1) es)))) c.behind_first-left.ensures
    ∙ part-whole (first (argument_rules c.args.params.now (map found es))) (first (argument_rules left (map found (drop i es)))) (first (all_of (placed (argument_wanted left) f))) (first (argument_rules (parameters_behind left) (map found (drop (i + 1) es))))
    c.loop-value.invariant (arguments-left left found es i c.value-item.result c.loop-value-test.true c.value-item.is) (sym told ∙ c.in-None.is)
