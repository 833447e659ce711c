use Rattle.std.proofs.Common.{◌-◌, arith, get_or}
use Rattle.oss_core.proofs.PlacedLemmas.{at_in}
use Rattle.oss_core.proofs.RiseLemmas.{rise_all, rise_next}
use Rattle.oss_core.proofs.ordering.are_in_order.Goals as goal

pub is_before-requires-clause-first : goal.is_before-requires-clause-first
is_before-requires-clause-first c =
    c.requires.there (get_or c.args.tasks.now (c.neighbours.at - 1) (record { 0 = 0 })) (at_in c.args.tasks.now (c.neighbours.at - 1) (record { 0 = 0 }) (omega (arith, c.neighbours-test.true)))

pub is_before-requires-clause-second : goal.is_before-requires-clause-second
is_before-requires-clause-second c =
    c.requires.there (get_or c.args.tasks.now c.neighbours.at (record { 0 = 0 })) (at_in c.args.tasks.now c.neighbours.at (record { 0 = 0 }) c.neighbours-test.true)

pub neighbours-preserved : goal.neighbours-preserved
neighbours-preserved c = record {
  some = omega arith;
  rise = rise_next c.args.tree.now.tasks c.args.tasks.now c.neighbours.at (c.neighbours.at - 1) (record { 0 = 0 }) (omega (arith, c.neighbours.invariant.some)) c.neighbours-test.true (c.is_before.ensures c.if-not-is_before.false) c.neighbours.invariant.rise;
}

pub returns : goal.returns
returns c = λ e. rise_all c.args.tree.now.tasks c.args.tasks.now c.neighbours.at c.requires.there c.neighbours-test.false c.neighbours.invariant.rise
