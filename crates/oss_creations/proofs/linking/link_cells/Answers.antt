use Rattle.std.proofs.Common.{arith, rules, ◌≡◌, ◌+◌, ◌-◌}
use Rattle.oss_creations.proofs.LinkLemmas.{linked_none, linked_to, run_entry}
use Rattle.oss_creations.proofs.LoopLemmas.{run_done, run_making, run_next}
use Rattle.oss_field.specs.Plans.{new_rights}
use Rattle.oss_creations.proofs.linking.link_cells.Goals as goal

pub loop-cell-init : goal.loop-cell-init
loop-cell-init c =
    let here : c.args.first ≡ c.args.first + (c.args.access.now.range.lo - c.args.access.now.range.lo) = omega arith in record {
      same = search rules;
      linked = linked_to c.args.task c.args.first c.args.first (c.args.first + (c.args.access.now.range.lo - c.args.access.now.range.lo)) c.args.seat.now.known c.args.seat.now.known here
          (linked_none c.args.task c.args.first c.args.seat.now.known c.requires.making.2.held);
    }

pub link_entry-requires-clause-making : goal.link_entry-requires-clause-making
link_entry-requires-clause-making c =
    run_making c.args.field.now.code c.args.field.now.entries c.args.job.now c.args.task c.args.first c.loop-cell.cell c.args.access.now c.args.seat.now.known c.loop-cell.seat.known c.loop-cell.auto.cell c.loop-cell.invariant.linked c.loop-cell-test.true c.requires.making

pub link_entry-requires-clause-new : goal.link_entry-requires-clause-new
link_entry-requires-clause-new c = λ start found order is act.
    run_entry (new_rights c.args.field.now.code (record { start = start; found = found }) order) c.args.task c.args.first c.args.access.now.range.lo c.args.access.now.range.hi c.loop-cell.cell c.args.access.now.mode c.args.access.now.strong c.loop-cell.auto.cell c.loop-cell-test.true
    (c.requires.new start found order is act)

pub loop-cell-preserved : goal.loop-cell-preserved
loop-cell-preserved c = record {
  same = search rules;
  linked = run_next c.args.field.now.code c.args.field.now.entries c.args.job.now c.args.task c.args.first c.loop-cell.cell c.args.access.now c.args.seat.now.known c.loop-cell.seat.known c.loop-cell.auto.cell c.loop-cell.invariant.linked c.link_entry.new.seat.known c.link_entry.ensures.linked;
}

pub returns-clause-linked : goal.returns-clause-linked
returns-clause-linked c =
    let o = c.args.access.now.range.ordered in
    let over = c.loop-cell.auto.cell-end (omega (arith, o)) in
    let past = c.loop-cell-test.false in
    run_done c.args.field.now.code c.args.field.now.entries c.args.job.now c.args.task c.args.first c.loop-cell.cell c.args.access.now c.args.seat.now.known c.loop-cell.seat.known c.loop-cell.auto.cell c.loop-cell.invariant.linked (omega (arith, past)) over
