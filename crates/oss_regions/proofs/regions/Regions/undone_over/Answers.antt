use Rattle.std.proofs.Common.{◌≤◌, sym, ap, subst, ◌∙◌, length, List, arith}
use Rattle.oss_deps.specs.declared.opened.Open.{Open}
use Rattle.oss_links.specs.Numbers.{task_numbered}
use Rattle.oss_regions.specs.Kept.{Kept}
use Rattle.oss_regions.proofs.PartLemmas.{none_of, part_of, right_of}
use Rattle.oss_regions.proofs.WaitLemmas.{child_goes, child_some, child_stops, none_done}
use Rattle.oss_regions.proofs.regions.Regions.undone_over.Goals as goal

pub task_of-requires-clause-some : goal.task_of-requires-clause-some
task_of-requires-clause-some c =
    (child_some c.args.self.now (right_of c.self.view_is c.self.invariant) c.args.number c.parts.cell c.in-Some.part.now (part_of c.self.view_is c.in-Some.ensures.found)
    c.child_in.ensures.rest c.child_in.result c.child_in.ensures.child c.child_in.ensures.none c.requires.0 c.requires.1 c.in-Some-child_in.child c.in-Some-child_in.is).0

pub task_of-requires-clause-within : goal.task_of-requires-clause-within
task_of-requires-clause-within c =
    subst (λ (xs : List Open). c.in-Some-child_in.child ≤ length xs) (sym (c.as_slice.ensures.value ∙ ap (λ (k : Kept). k.opens) c.self.view_is))
    (child_some c.args.self.now (right_of c.self.view_is c.self.invariant) c.args.number c.parts.cell c.in-Some.part.now (part_of c.self.view_is c.in-Some.ensures.found)
    c.child_in.ensures.rest c.child_in.result c.child_in.ensures.child c.child_in.ensures.none c.requires.0 c.requires.1 c.in-Some-child_in.child c.in-Some-child_in.is).1

pub returns-in-Some-child_in : goal.returns-in-Some-child_in
returns-in-Some-child_in c =
    child_stops c.args.self.now (right_of c.self.view_is c.self.invariant) c.args.number c.parts.cell c.in-Some.part.now (part_of c.self.view_is c.in-Some.ensures.found)
    c.child_in.ensures.rest c.child_in.result c.child_in.ensures.child c.child_in.ensures.none c.in-Some-child_in.child c.task_of.result.0 c.args.range.lo c.args.range.hi c.in-Some-child_in.is
    (ap (λ (xs : List Open). task_numbered xs c.in-Some-child_in.child) (sym (c.as_slice.ensures.value ∙ ap (λ (k : Kept). k.opens) c.self.view_is)) ∙ c.task_of.ensures) c.parts.invariant.from c.parts-test.true

pub parts-preserved : goal.parts-preserved
parts-preserved c =
    let is = part_of c.self.view_is c.in-Some.ensures.found in
    record {
      from = omega (arith, is.ends, c.parts.invariant.from);
      passed = λ t number.
          child_goes c.args.self.now (right_of c.self.view_is c.self.invariant) c.args.number c.parts.cell c.in-Some.part.now is
          c.child_in.ensures.rest c.child_in.result c.child_in.ensures.child c.child_in.ensures.none c.in-None-child_in.is c.args.range.lo t number (c.parts.invariant.passed t number);
    }

pub returns-in-None : goal.returns-in-None
returns-in-None c = λ t number d l h. none_done c.args.self.now (right_of c.self.view_is c.self.invariant) (none_of c.self.view_is c.in-None.ensures.none) t d
