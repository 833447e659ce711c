use Rattle.std.proofs.Common.{◌≤◌, sym, ap, subst, ◌∙◌, length, List, arith}
use Rattle.oss_deps.specs.declared.opened.Open.{Open}
use Rattle.oss_links.specs.Numbers.{task_numbered}
use Rattle.oss_regions.specs.Kept.{Kept}
use Rattle.oss_regions.proofs.PartLemmas.{none_of, part_of, right_of}
use Rattle.oss_regions.proofs.WaitLemmas.{asks_not_main, bar_passes, bar_some, bar_stops, none_there}
use Rattle.oss_regions.proofs.regions.Regions.bar_over.Goals as goal

pub bar_in-requires-clause-main : goal.bar_in-requires-clause-main
bar_in-requires-clause-main c = asks_not_main c.args.self.now (right_of c.self.view_is c.self.invariant) c.args.number c.args.mode c.args.range.lo c.args.range.hi c.requires

pub task_of-requires-clause-some : goal.task_of-requires-clause-some
task_of-requires-clause-some c =
    (bar_some c.args.self.now (right_of c.self.view_is c.self.invariant) c.args.number c.args.mode c.args.range.lo c.args.range.hi c.requires c.parts.cell c.parts.invariant.from c.parts-test.true c.in-Some.part.now (part_of c.self.view_is c.in-Some.ensures.found)
    c.bar_in.ensures.rest c.bar_in.result c.bar_in.ensures.bar c.bar_in.ensures.none c.in-Some-bar_in.bar c.in-Some-bar_in.is).0

pub task_of-requires-clause-within : goal.task_of-requires-clause-within
task_of-requires-clause-within c =
    subst (λ (xs : List Open). c.in-Some-bar_in.bar ≤ length xs) (sym (c.as_slice.ensures.value ∙ ap (λ (k : Kept). k.opens) c.self.view_is))
    (bar_some c.args.self.now (right_of c.self.view_is c.self.invariant) c.args.number c.args.mode c.args.range.lo c.args.range.hi c.requires c.parts.cell c.parts.invariant.from c.parts-test.true c.in-Some.part.now (part_of c.self.view_is c.in-Some.ensures.found)
    c.bar_in.ensures.rest c.bar_in.result c.bar_in.ensures.bar c.bar_in.ensures.none c.in-Some-bar_in.bar c.in-Some-bar_in.is).1

pub returns-in-Some-bar_in : goal.returns-in-Some-bar_in
returns-in-Some-bar_in c =
    bar_stops c.args.self.now (right_of c.self.view_is c.self.invariant) c.args.number c.args.mode c.args.range.lo c.args.range.hi c.requires c.parts.cell c.parts.invariant.from c.parts-test.true c.in-Some.part.now (part_of c.self.view_is c.in-Some.ensures.found)
    c.bar_in.ensures.rest c.bar_in.result c.bar_in.ensures.bar c.bar_in.ensures.none c.in-Some-bar_in.bar c.task_of.result.0 c.in-Some-bar_in.is
    (ap (λ (xs : List Open). task_numbered xs c.in-Some-bar_in.bar) (sym (c.as_slice.ensures.value ∙ ap (λ (k : Kept). k.opens) c.self.view_is)) ∙ c.task_of.ensures)

pub parts-preserved : goal.parts-preserved
parts-preserved c =
    let is = part_of c.self.view_is c.in-Some.ensures.found in
    record {
      from = omega (arith, is.ends, c.parts.invariant.from);
      passed = λ o number.
          bar_passes c.args.self.now (right_of c.self.view_is c.self.invariant) c.args.number c.args.mode c.args.range.lo c.args.range.hi c.requires c.parts.cell c.parts.invariant.from c.parts-test.true c.in-Some.part.now is
          c.bar_in.ensures.rest c.bar_in.result c.bar_in.ensures.bar c.bar_in.ensures.none c.in-None-bar_in.is o number (c.parts.invariant.passed o number);
    }

pub returns-in-None : goal.returns-in-None
returns-in-None c = none_there c.args.self.now (right_of c.self.view_is c.self.invariant) c.args.number c.args.mode c.args.range.lo c.args.range.hi c.requires (none_of c.self.view_is c.in-None.ensures.none)
