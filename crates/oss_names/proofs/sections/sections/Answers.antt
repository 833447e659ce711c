use Rattle.std.proofs.Common.{◌≡◌, ◌+◌, ◌∙◌, None, arith, drop, sym}
use Rattle.oss_grammar.specs.Broken.{first}
use Rattle.oss_grammar.specs.SectionRules.{section_rules, sections_rules}
use Rattle.oss_types.proofs.Firsts.{part-broken, part-whole}
use Rattle.oss_names.proofs.Parts.{room, sections-left}
use Rattle.oss_names.proofs.sections.sections.Goals as goal

pub returns-in-Some-clause-rules : goal.returns-in-Some-clause-rules
returns-in-Some-clause-rules c =
    let all = c.args.globals.now in
    let locals = c.args.locals.now in
    let fold = c.args.fold in
    let n = c.loop-one.count in
    let i = c.loop-one.one-index in
    let ss = c.args.sections.now in
    let s = c.one-item.result in
    part-broken (first (sections_rules all locals fold c.args.before ss)) (first (sections_rules all locals fold n (drop i ss))) (first (section_rules all locals fold n s)) (first (sections_rules all locals fold (n + 1) (drop (i + 1) ss)))
    c.loop-one.invariant.same (sections-left all locals fold n ss i s c.loop-one-test.true c.one-item.is) c.in-Some.broken (sym c.section.ensures ∙ c.in-Some.is)

pub loop-one-preserved : goal.loop-one-preserved
loop-one-preserved c =
    let all = c.args.globals.now in
    let locals = c.args.locals.now in
    let fold = c.args.fold in
    let n = c.loop-one.count in
    let i = c.loop-one.one-index in
    let ss = c.args.sections.now in
    let s = c.one-item.result in
    let none : first (section_rules all locals fold n s) ≡ None = sym c.section.ensures ∙ c.in-None.is in
    record {
      same = part-whole (first (sections_rules all locals fold c.args.before ss)) (first (sections_rules all locals fold n (drop i ss))) (first (section_rules all locals fold n s)) (first (sections_rules all locals fold (n + 1) (drop (i + 1) ss)))
          c.loop-one.invariant.same (sections-left all locals fold n ss i s c.loop-one-test.true c.one-item.is) none;
      counted = omega arith;
      few = room all locals fold n s c.loop-one.invariant.few none;
    }
