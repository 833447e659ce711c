use Rattle.std.proofs.Common.{arith, sym, ◌∙◌}
use Rattle.std.specs.Prelude.{vec_capacity}
use Rattle.oss_deps.proofs.Basics.{none_is, some_told}
use Rattle.oss_deps.proofs.AskLemmas.{standing_of, here_of, gap_of, column_of, done_within, done_in, done_linked, done_marked, child_stops, child_goes, nothing_opened, none_done}
use Rattle.oss_deps.proofs.plain.PlainDeps.undone_over.Goals as goal

pub undone_child-child-requires-clause-linked : goal.undone_child-child-requires-clause-linked
undone_child-child-requires-clause-linked c = done_linked c.args.self.now (standing_of (record { opens = c.self.inside.opens.items; pieces = c.self.inside.map.pieces; columns = c.self.inside.columns.items; ended = c.self.inside.ended; reserved = c.self.inside.reserved }) c.args.self.now (vec_capacity c.self.inside.opens) c.self.view_is c.self.invariant) c.args.number c.stretches.cell c.in-Some.at (here_of (record { opens = c.self.inside.opens.items; pieces = c.self.inside.map.pieces; columns = c.self.inside.columns.items; ended = c.self.inside.ended; reserved = c.self.inside.reserved }) c.args.self.now c.self.view_is c.stretches.cell c.in-Some.at c.get.result c.get.ensures c.in-Some.is) c.index-column.result.now (column_of (record { opens = c.self.inside.opens.items; pieces = c.self.inside.map.pieces; columns = c.self.inside.columns.items; ended = c.self.inside.ended; reserved = c.self.inside.reserved }) c.args.self.now c.self.view_is c.in-Some.at c.index-column.result.now (done_within c.args.self.now (standing_of (record { opens = c.self.inside.opens.items; pieces = c.self.inside.map.pieces; columns = c.self.inside.columns.items; ended = c.self.inside.ended; reserved = c.self.inside.reserved }) c.args.self.now (vec_capacity c.self.inside.opens) c.self.view_is c.self.invariant) c.args.number c.stretches.cell c.in-Some.at (here_of (record { opens = c.self.inside.opens.items; pieces = c.self.inside.map.pieces; columns = c.self.inside.columns.items; ended = c.self.inside.ended; reserved = c.self.inside.reserved }) c.args.self.now c.self.view_is c.stretches.cell c.in-Some.at c.get.result c.get.ensures c.in-Some.is)) c.index-column.ensures)

pub undone_child-child-requires-clause-marked : goal.undone_child-child-requires-clause-marked
undone_child-child-requires-clause-marked c = done_marked c.args.self.now (standing_of (record { opens = c.self.inside.opens.items; pieces = c.self.inside.map.pieces; columns = c.self.inside.columns.items; ended = c.self.inside.ended; reserved = c.self.inside.reserved }) c.args.self.now (vec_capacity c.self.inside.opens) c.self.view_is c.self.invariant) c.args.number c.stretches.cell c.in-Some.at (here_of (record { opens = c.self.inside.opens.items; pieces = c.self.inside.map.pieces; columns = c.self.inside.columns.items; ended = c.self.inside.ended; reserved = c.self.inside.reserved }) c.args.self.now c.self.view_is c.stretches.cell c.in-Some.at c.get.result c.get.ensures c.in-Some.is) c.index-column.result.now (column_of (record { opens = c.self.inside.opens.items; pieces = c.self.inside.map.pieces; columns = c.self.inside.columns.items; ended = c.self.inside.ended; reserved = c.self.inside.reserved }) c.args.self.now c.self.view_is c.in-Some.at c.index-column.result.now (done_within c.args.self.now (standing_of (record { opens = c.self.inside.opens.items; pieces = c.self.inside.map.pieces; columns = c.self.inside.columns.items; ended = c.self.inside.ended; reserved = c.self.inside.reserved }) c.args.self.now (vec_capacity c.self.inside.opens) c.self.view_is c.self.invariant) c.args.number c.stretches.cell c.in-Some.at (here_of (record { opens = c.self.inside.opens.items; pieces = c.self.inside.map.pieces; columns = c.self.inside.columns.items; ended = c.self.inside.ended; reserved = c.self.inside.reserved }) c.args.self.now c.self.view_is c.stretches.cell c.in-Some.at c.get.result c.get.ensures c.in-Some.is)) c.index-column.ensures)

pub returns-then-is_some : goal.returns-then-is_some
returns-then-is_some c = λ t number. some_told _ _ c.undone_child-child.result (sym c.is_some.ensures ∙ c.if-is_some.true) (λ u e. child_stops c.args.self.now (standing_of (record { opens = c.self.inside.opens.items; pieces = c.self.inside.map.pieces; columns = c.self.inside.columns.items; ended = c.self.inside.ended; reserved = c.self.inside.reserved }) c.args.self.now (vec_capacity c.self.inside.opens) c.self.view_is c.self.invariant) c.args.number c.stretches.cell c.in-Some.at (here_of (record { opens = c.self.inside.opens.items; pieces = c.self.inside.map.pieces; columns = c.self.inside.columns.items; ended = c.self.inside.ended; reserved = c.self.inside.reserved }) c.args.self.now c.self.view_is c.stretches.cell c.in-Some.at c.get.result c.get.ensures c.in-Some.is) c.index-column.result.now (column_of (record { opens = c.self.inside.opens.items; pieces = c.self.inside.map.pieces; columns = c.self.inside.columns.items; ended = c.self.inside.ended; reserved = c.self.inside.reserved }) c.args.self.now c.self.view_is c.in-Some.at c.index-column.result.now (done_within c.args.self.now (standing_of (record { opens = c.self.inside.opens.items; pieces = c.self.inside.map.pieces; columns = c.self.inside.columns.items; ended = c.self.inside.ended; reserved = c.self.inside.reserved }) c.args.self.now (vec_capacity c.self.inside.opens) c.self.view_is c.self.invariant) c.args.number c.stretches.cell c.in-Some.at (here_of (record { opens = c.self.inside.opens.items; pieces = c.self.inside.map.pieces; columns = c.self.inside.columns.items; ended = c.self.inside.ended; reserved = c.self.inside.reserved }) c.args.self.now c.self.view_is c.stretches.cell c.in-Some.at c.get.result c.get.ensures c.in-Some.is)) c.index-column.ensures) c.undone_child-child.result c.undone_child-child.ensures.some c.undone_child-child.ensures.none u e c.args.range.lo c.args.range.hi c.stretches.invariant.from c.stretches-test.true t number)

pub stretches-smaller : goal.stretches-smaller
stretches-smaller c = let k = done_in c.args.self.now (standing_of (record { opens = c.self.inside.opens.items; pieces = c.self.inside.map.pieces; columns = c.self.inside.columns.items; ended = c.self.inside.ended; reserved = c.self.inside.reserved }) c.args.self.now (vec_capacity c.self.inside.opens) c.self.view_is c.self.invariant) c.args.number c.stretches.cell c.in-Some.at (here_of (record { opens = c.self.inside.opens.items; pieces = c.self.inside.map.pieces; columns = c.self.inside.columns.items; ended = c.self.inside.ended; reserved = c.self.inside.reserved }) c.args.self.now c.self.view_is c.stretches.cell c.in-Some.at c.get.result c.get.ensures c.in-Some.is) c.index-column.result.now (column_of (record { opens = c.self.inside.opens.items; pieces = c.self.inside.map.pieces; columns = c.self.inside.columns.items; ended = c.self.inside.ended; reserved = c.self.inside.reserved }) c.args.self.now c.self.view_is c.in-Some.at c.index-column.result.now (done_within c.args.self.now (standing_of (record { opens = c.self.inside.opens.items; pieces = c.self.inside.map.pieces; columns = c.self.inside.columns.items; ended = c.self.inside.ended; reserved = c.self.inside.reserved }) c.args.self.now (vec_capacity c.self.inside.opens) c.self.view_is c.self.invariant) c.args.number c.stretches.cell c.in-Some.at (here_of (record { opens = c.self.inside.opens.items; pieces = c.self.inside.map.pieces; columns = c.self.inside.columns.items; ended = c.self.inside.ended; reserved = c.self.inside.reserved }) c.args.self.now c.self.view_is c.stretches.cell c.in-Some.at c.get.result c.get.ensures c.in-Some.is)) c.index-column.ensures) in omega (arith, k.1, c.stretches-test.true)

pub stretches-preserved : goal.stretches-preserved
stretches-preserved c =
    let k = done_in c.args.self.now (standing_of (record { opens = c.self.inside.opens.items; pieces = c.self.inside.map.pieces; columns = c.self.inside.columns.items; ended = c.self.inside.ended; reserved = c.self.inside.reserved }) c.args.self.now (vec_capacity c.self.inside.opens) c.self.view_is c.self.invariant) c.args.number c.stretches.cell c.in-Some.at (here_of (record { opens = c.self.inside.opens.items; pieces = c.self.inside.map.pieces; columns = c.self.inside.columns.items; ended = c.self.inside.ended; reserved = c.self.inside.reserved }) c.args.self.now c.self.view_is c.stretches.cell c.in-Some.at c.get.result c.get.ensures c.in-Some.is) c.index-column.result.now (column_of (record { opens = c.self.inside.opens.items; pieces = c.self.inside.map.pieces; columns = c.self.inside.columns.items; ended = c.self.inside.ended; reserved = c.self.inside.reserved }) c.args.self.now c.self.view_is c.in-Some.at c.index-column.result.now (done_within c.args.self.now (standing_of (record { opens = c.self.inside.opens.items; pieces = c.self.inside.map.pieces; columns = c.self.inside.columns.items; ended = c.self.inside.ended; reserved = c.self.inside.reserved }) c.args.self.now (vec_capacity c.self.inside.opens) c.self.view_is c.self.invariant) c.args.number c.stretches.cell c.in-Some.at (here_of (record { opens = c.self.inside.opens.items; pieces = c.self.inside.map.pieces; columns = c.self.inside.columns.items; ended = c.self.inside.ended; reserved = c.self.inside.reserved }) c.args.self.now c.self.view_is c.stretches.cell c.in-Some.at c.get.result c.get.ensures c.in-Some.is)) c.index-column.ensures) in
    record {
      from = omega (arith, k.1, c.stretches.invariant.from);
      passed = λ t number. child_goes c.args.self.now (standing_of (record { opens = c.self.inside.opens.items; pieces = c.self.inside.map.pieces; columns = c.self.inside.columns.items; ended = c.self.inside.ended; reserved = c.self.inside.reserved }) c.args.self.now (vec_capacity c.self.inside.opens) c.self.view_is c.self.invariant) c.args.number c.stretches.cell c.in-Some.at (here_of (record { opens = c.self.inside.opens.items; pieces = c.self.inside.map.pieces; columns = c.self.inside.columns.items; ended = c.self.inside.ended; reserved = c.self.inside.reserved }) c.args.self.now c.self.view_is c.stretches.cell c.in-Some.at c.get.result c.get.ensures c.in-Some.is) c.index-column.result.now (column_of (record { opens = c.self.inside.opens.items; pieces = c.self.inside.map.pieces; columns = c.self.inside.columns.items; ended = c.self.inside.ended; reserved = c.self.inside.reserved }) c.args.self.now c.self.view_is c.in-Some.at c.index-column.result.now (done_within c.args.self.now (standing_of (record { opens = c.self.inside.opens.items; pieces = c.self.inside.map.pieces; columns = c.self.inside.columns.items; ended = c.self.inside.ended; reserved = c.self.inside.reserved }) c.args.self.now (vec_capacity c.self.inside.opens) c.self.view_is c.self.invariant) c.args.number c.stretches.cell c.in-Some.at (here_of (record { opens = c.self.inside.opens.items; pieces = c.self.inside.map.pieces; columns = c.self.inside.columns.items; ended = c.self.inside.ended; reserved = c.self.inside.reserved }) c.args.self.now c.self.view_is c.stretches.cell c.in-Some.at c.get.result c.get.ensures c.in-Some.is)) c.index-column.ensures) c.undone_child-child.result c.undone_child-child.ensures.some c.undone_child-child.ensures.none (none_is c.undone_child-child.result (sym c.is_some.ensures ∙ c.if-is_some.false)) c.args.range.lo t number (c.stretches.invariant.passed t number);
    }

pub returns-in-None : goal.returns-in-None
returns-in-None c = λ t number c' l h. none_done c.args.self.now (nothing_opened c.args.self.now (standing_of (record { opens = c.self.inside.opens.items; pieces = c.self.inside.map.pieces; columns = c.self.inside.columns.items; ended = c.self.inside.ended; reserved = c.self.inside.reserved }) c.args.self.now (vec_capacity c.self.inside.opens) c.self.view_is c.self.invariant) c.stretches.cell (omega (arith, c.stretches-test.true, c.args.range.within)) (gap_of (record { opens = c.self.inside.opens.items; pieces = c.self.inside.map.pieces; columns = c.self.inside.columns.items; ended = c.self.inside.ended; reserved = c.self.inside.reserved }) c.args.self.now c.self.view_is c.stretches.cell c.get.result c.get.ensures c.in-None.is)) t c'
