use Rattle.std.proofs.Common.{◌≡◌, ◌+◌, ◌∙◌, None, ap, arith, drop, length, sym, take}
use Rattle.oss_grammar.specs.Broken.{first}
use Rattle.oss_grammar.specs.SectionRules.{loop_clause_rules, loop_clauses_rules, sections_in}
use Rattle.oss_types.proofs.Firsts.{part-broken, part-whole}
use Rattle.oss_names.proofs.Parts.{clauses-left}
use Rattle.oss_names.proofs.sections.loop_clauses.Goals as goal

pub returns-in-Some : goal.returns-in-Some
returns-in-Some c =
    let all = c.args.globals.now in
    let locals = c.args.locals.now in
    let outer = take c.args.outer locals in
    let n = c.loop-one.count in
    let i = c.loop-one.one-index in
    let cs = c.args.clauses.now in
    let one = c.one-item.result in
    part-broken (first (loop_clauses_rules all outer locals 0 cs)) (first (loop_clauses_rules all outer locals n (drop i cs))) (first (loop_clause_rules all outer locals n one)) (first (loop_clauses_rules all outer locals (n + length (sections_in one)) (drop (i + 1) cs)))
    c.loop-one.invariant.same (clauses-left all locals outer n cs i one c.loop-one-test.true c.one-item.is) c.in-Some.broken (sym c.loop_clause.ensures.rules ∙ c.in-Some.is)

pub loop-one-preserved : goal.loop-one-preserved
loop-one-preserved c =
    let all = c.args.globals.now in
    let locals = c.args.locals.now in
    let outer = take c.args.outer locals in
    let n = c.loop-one.count in
    let i = c.loop-one.one-index in
    let cs = c.args.clauses.now in
    let one = c.one-item.result in
    let none : first (loop_clause_rules all outer locals n one) ≡ None = sym c.loop_clause.ensures.rules ∙ c.in-None.is in
    let size = c.sections_of-count.ensures in
    record {
      same = ap (λ k. first (loop_clauses_rules all outer locals (n + k) (drop (i + 1) cs))) size
          ∙ part-whole (first (loop_clauses_rules all outer locals 0 cs)) (first (loop_clauses_rules all outer locals n (drop i cs))) (first (loop_clause_rules all outer locals n one)) (first (loop_clauses_rules all outer locals (n + length (sections_in one)) (drop (i + 1) cs)))
          c.loop-one.invariant.same (clauses-left all locals outer n cs i one c.loop-one-test.true c.one-item.is) none;
      few = let small = c.loop_clause.ensures.few c.in-None.is in omega (arith, small, size);
    }
