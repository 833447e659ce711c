use Rattle.std.proofs.Common.{◌+◌, ◌∙◌, drop, sym}
use Rattle.oss_grammar.specs.declared.kinds.Wanted.TheVariants as wanted
use Rattle.oss_grammar.specs.Broken.{first}
use Rattle.oss_grammar.specs.ExpressionRules.{value_rules}
use Rattle.oss_grammar.specs.StaticRules.{numbers_rules}
use Rattle.oss_types.proofs.Firsts.{part-broken, part-whole}
use Rattle.oss_names.proofs.Parts.{numbers-left}
use Rattle.oss_names.proofs.simple.numbers.Goals as goal

pub returns-in-Some : goal.returns-in-Some
returns-in-Some c =
    let all = c.args.globals.now in
    let locals = c.args.locals.now in
    let i = c.loop-expr.expr-index in
    let es = c.args.values.now in
    let e = c.expr-item.result in
    part-broken (first (numbers_rules all locals es)) (first (numbers_rules all locals (drop i es))) (first (value_rules all locals wanted.Number e)) (first (numbers_rules all locals (drop (i + 1) es)))
    c.loop-expr.invariant (numbers-left all locals es i e c.loop-expr-test.true c.expr-item.is) c.in-Some.broken (sym c.value.ensures ∙ c.in-Some.is)

pub loop-expr-preserved : goal.loop-expr-preserved
loop-expr-preserved c =
    let all = c.args.globals.now in
    let locals = c.args.locals.now in
    let i = c.loop-expr.expr-index in
    let es = c.args.values.now in
    let e = c.expr-item.result in
    part-whole (first (numbers_rules all locals es)) (first (numbers_rules all locals (drop i es))) (first (value_rules all locals wanted.Number e)) (first (numbers_rules all locals (drop (i + 1) es)))
    c.loop-expr.invariant (numbers-left all locals es i e c.loop-expr-test.true c.expr-item.is) (sym c.value.ensures ∙ c.in-None.is)
