use Rattle.std.proofs.Common.{arith}
use Rattle.oss_regions.proofs.PartLemmas.{none_of, part_of, right_of}
use Rattle.oss_regions.proofs.WaitLemmas.{asks_not_main, false_tells, let_passes, let_stops, none_there, true_tells}
use Rattle.oss_regions.proofs.regions.Regions.is_let_over.Goals as goal

pub lets_in-requires-clause-main : goal.lets_in-requires-clause-main
lets_in-requires-clause-main c = asks_not_main c.args.self.now (right_of c.self.view_is c.self.invariant) c.args.number c.args.mode c.args.range.lo c.args.range.hi c.requires

pub returns-in-None : goal.returns-in-None
returns-in-None c = λ o number.
    true_tells (none_there c.args.self.now (right_of c.self.view_is c.self.invariant) c.args.number c.args.mode c.args.range.lo c.args.range.hi c.requires (none_of c.self.view_is c.in-None.ensures.none) o number)

pub returns-then-not-lets_in : goal.returns-then-not-lets_in
returns-then-not-lets_in c = λ o number.
    false_tells
    (let_stops c.args.self.now (right_of c.self.view_is c.self.invariant) c.args.number c.args.mode c.args.range.lo c.args.range.hi c.requires c.parts.cell c.parts.invariant.from c.parts-test.true c.in-Some.part.now (part_of c.self.view_is c.in-Some.ensures.found)
    c.lets_in.ensures.rest c.lets_in.result c.lets_in.ensures.lets c.lets_in.ensures.none c.if-not-lets_in.true o number)

pub parts-preserved : goal.parts-preserved
parts-preserved c =
    let is = part_of c.self.view_is c.in-Some.ensures.found in
    record {
      from = omega (arith, is.ends, c.parts.invariant.from);
      passed = λ o number.
          let_passes c.args.self.now (right_of c.self.view_is c.self.invariant) c.args.number c.args.mode c.args.range.lo c.args.range.hi c.requires c.parts.cell c.parts.invariant.from c.parts-test.true c.in-Some.part.now is
          c.lets_in.ensures.rest c.lets_in.result c.lets_in.ensures.lets c.lets_in.ensures.none c.if-not-lets_in.false o number (c.parts.invariant.passed o number);
    }
