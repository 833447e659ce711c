use Rattle.std.proofs.Common.{arith, rules, subst, ◌+◌, List, drop}
use Rattle.std.proofs.lemmas.List.{drop_all}
use Rattle.oss_syntax.specs.declared.access.Access.{Access}
use Rattle.oss_creations.proofs.LoopLemmas.{IsLinking, linking_begins, linking_done, linking_may, linking_new, linking_next, next_item}
use Rattle.oss_creations.proofs.linking.link_accesses.Goals as goal

pub loop-access-init : goal.loop-access-init
loop-access-init c = record {
  same = search rules;
  linking = linking_begins c.args.field.now.code c.args.job.now c.args.task c.args.accesses.now c.args.seat.now.known c.requires.making.held c.requires.new;
}

pub link_cells-requires-clause-making : goal.link_cells-requires-clause-making
link_cells-requires-clause-making c =
    let xs = c.args.accesses.now in
    let i = c.loop-access.access-index in
    linking_may c.args.field.now.code c.args.field.now.entries c.args.job.now c.args.task xs c.loop-access.next c.access-item.result (drop (i + 1) xs) c.args.seat.now.known c.loop-access.seat.known
    (next_item c.args.field.now.code c.args.job.now c.args.task xs c.loop-access.next i c.access-item.result c.args.seat.now.known c.loop-access.seat.known c.loop-access-test.true c.access-item.is c.loop-access.invariant.linking) c.requires.making

pub link_cells-requires-clause-new : goal.link_cells-requires-clause-new
link_cells-requires-clause-new c =
    let xs = c.args.accesses.now in
    let i = c.loop-access.access-index in
    linking_new c.args.field.now.code c.args.field.now.entries c.args.job.now c.args.task xs c.loop-access.next c.access-item.result (drop (i + 1) xs) c.args.seat.now.known c.loop-access.seat.known
    (next_item c.args.field.now.code c.args.job.now c.args.task xs c.loop-access.next i c.access-item.result c.args.seat.now.known c.loop-access.seat.known c.loop-access-test.true c.access-item.is c.loop-access.invariant.linking)

pub loop-access-preserved : goal.loop-access-preserved
loop-access-preserved c =
    let xs = c.args.accesses.now in
    let i = c.loop-access.access-index in record {
      same = search rules;
      linking =
          linking_next c.args.field.now.code c.args.field.now.entries c.args.job.now c.args.task xs c.loop-access.next c.access-item.result (drop (i + 1) xs) c.args.seat.now.known c.loop-access.seat.known
          (next_item c.args.field.now.code c.args.job.now c.args.task xs c.loop-access.next i c.access-item.result c.args.seat.now.known c.loop-access.seat.known c.loop-access-test.true c.access-item.is c.loop-access.invariant.linking) c.link_cells.new.seat.known
          c.link_cells.ensures.linked;
    }

pub returns-clause-linked : goal.returns-clause-linked
returns-clause-linked c =
    let xs = c.args.accesses.now in
    let past = c.loop-access-test.false in
    linking_done c.args.field.now.code c.args.job.now c.args.task xs c.loop-access.next c.args.seat.now.known c.loop-access.seat.known
    (subst (λ (z : List Access). IsLinking c.args.field.now.code c.args.job.now c.args.task xs c.loop-access.next z c.args.seat.now.known c.loop-access.seat.known) (drop_all c.loop-access.access-index xs (omega (arith, past))) c.loop-access.invariant.linking)
