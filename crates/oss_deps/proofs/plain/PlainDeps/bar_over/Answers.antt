use Rattle.std.proofs.Common.{arith, sym, ◌∙◌}
use Rattle.std.specs.Prelude.{vec_capacity}
use Rattle.oss_deps.proofs.Basics.{none_is, some_told}
use Rattle.oss_deps.proofs.AskLemmas.{standing_of, here_of, gap_of, column_of, no_gap, at_within, cell_in, column_linked, column_marked, column_covered, column_shown, bar_stops, bar_goes}
use Rattle.oss_deps.proofs.plain.PlainDeps.bar_over.Goals as goal

pub bar_of-bar-requires-clause-linked : goal.bar_of-bar-requires-clause-linked
bar_of-bar-requires-clause-linked c = column_linked c.args.self.now (standing_of (record { opens = c.self.inside.opens.items; pieces = c.self.inside.map.pieces; columns = c.self.inside.columns.items; ended = c.self.inside.ended; reserved = c.self.inside.reserved }) c.args.self.now (vec_capacity c.self.inside.opens) c.self.view_is c.self.invariant) c.args.number c.args.range.lo c.args.range.hi c.requires.named c.stretches.cell c.stretches.invariant.from c.stretches-test.true c.in-Some.at (here_of (record { opens = c.self.inside.opens.items; pieces = c.self.inside.map.pieces; columns = c.self.inside.columns.items; ended = c.self.inside.ended; reserved = c.self.inside.reserved }) c.args.self.now c.self.view_is c.stretches.cell c.in-Some.at c.get.result c.get.ensures c.in-Some.is) c.index-column.result.now (column_of (record { opens = c.self.inside.opens.items; pieces = c.self.inside.map.pieces; columns = c.self.inside.columns.items; ended = c.self.inside.ended; reserved = c.self.inside.reserved }) c.args.self.now c.self.view_is c.in-Some.at c.index-column.result.now (at_within c.args.self.now (standing_of (record { opens = c.self.inside.opens.items; pieces = c.self.inside.map.pieces; columns = c.self.inside.columns.items; ended = c.self.inside.ended; reserved = c.self.inside.reserved }) c.args.self.now (vec_capacity c.self.inside.opens) c.self.view_is c.self.invariant) c.args.number c.args.range.lo c.args.range.hi c.requires.named c.stretches.cell c.stretches.invariant.from c.stretches-test.true c.in-Some.at (here_of (record { opens = c.self.inside.opens.items; pieces = c.self.inside.map.pieces; columns = c.self.inside.columns.items; ended = c.self.inside.ended; reserved = c.self.inside.reserved }) c.args.self.now c.self.view_is c.stretches.cell c.in-Some.at c.get.result c.get.ensures c.in-Some.is)) c.index-column.ensures)

pub bar_of-bar-requires-clause-marked : goal.bar_of-bar-requires-clause-marked
bar_of-bar-requires-clause-marked c = column_marked c.args.self.now (standing_of (record { opens = c.self.inside.opens.items; pieces = c.self.inside.map.pieces; columns = c.self.inside.columns.items; ended = c.self.inside.ended; reserved = c.self.inside.reserved }) c.args.self.now (vec_capacity c.self.inside.opens) c.self.view_is c.self.invariant) c.args.number c.args.range.lo c.args.range.hi c.requires.named c.stretches.cell c.stretches.invariant.from c.stretches-test.true c.in-Some.at (here_of (record { opens = c.self.inside.opens.items; pieces = c.self.inside.map.pieces; columns = c.self.inside.columns.items; ended = c.self.inside.ended; reserved = c.self.inside.reserved }) c.args.self.now c.self.view_is c.stretches.cell c.in-Some.at c.get.result c.get.ensures c.in-Some.is) c.index-column.result.now (column_of (record { opens = c.self.inside.opens.items; pieces = c.self.inside.map.pieces; columns = c.self.inside.columns.items; ended = c.self.inside.ended; reserved = c.self.inside.reserved }) c.args.self.now c.self.view_is c.in-Some.at c.index-column.result.now (at_within c.args.self.now (standing_of (record { opens = c.self.inside.opens.items; pieces = c.self.inside.map.pieces; columns = c.self.inside.columns.items; ended = c.self.inside.ended; reserved = c.self.inside.reserved }) c.args.self.now (vec_capacity c.self.inside.opens) c.self.view_is c.self.invariant) c.args.number c.args.range.lo c.args.range.hi c.requires.named c.stretches.cell c.stretches.invariant.from c.stretches-test.true c.in-Some.at (here_of (record { opens = c.self.inside.opens.items; pieces = c.self.inside.map.pieces; columns = c.self.inside.columns.items; ended = c.self.inside.ended; reserved = c.self.inside.reserved }) c.args.self.now c.self.view_is c.stretches.cell c.in-Some.at c.get.result c.get.ensures c.in-Some.is)) c.index-column.ensures)

pub bar_of-bar-requires-clause-covered : goal.bar_of-bar-requires-clause-covered
bar_of-bar-requires-clause-covered c = column_covered c.args.self.now (standing_of (record { opens = c.self.inside.opens.items; pieces = c.self.inside.map.pieces; columns = c.self.inside.columns.items; ended = c.self.inside.ended; reserved = c.self.inside.reserved }) c.args.self.now (vec_capacity c.self.inside.opens) c.self.view_is c.self.invariant) c.args.number c.args.range.lo c.args.range.hi c.requires.named c.stretches.cell c.stretches.invariant.from c.stretches-test.true c.in-Some.at (here_of (record { opens = c.self.inside.opens.items; pieces = c.self.inside.map.pieces; columns = c.self.inside.columns.items; ended = c.self.inside.ended; reserved = c.self.inside.reserved }) c.args.self.now c.self.view_is c.stretches.cell c.in-Some.at c.get.result c.get.ensures c.in-Some.is) c.index-column.result.now (column_of (record { opens = c.self.inside.opens.items; pieces = c.self.inside.map.pieces; columns = c.self.inside.columns.items; ended = c.self.inside.ended; reserved = c.self.inside.reserved }) c.args.self.now c.self.view_is c.in-Some.at c.index-column.result.now (at_within c.args.self.now (standing_of (record { opens = c.self.inside.opens.items; pieces = c.self.inside.map.pieces; columns = c.self.inside.columns.items; ended = c.self.inside.ended; reserved = c.self.inside.reserved }) c.args.self.now (vec_capacity c.self.inside.opens) c.self.view_is c.self.invariant) c.args.number c.args.range.lo c.args.range.hi c.requires.named c.stretches.cell c.stretches.invariant.from c.stretches-test.true c.in-Some.at (here_of (record { opens = c.self.inside.opens.items; pieces = c.self.inside.map.pieces; columns = c.self.inside.columns.items; ended = c.self.inside.ended; reserved = c.self.inside.reserved }) c.args.self.now c.self.view_is c.stretches.cell c.in-Some.at c.get.result c.get.ensures c.in-Some.is)) c.index-column.ensures)

pub bar_of-bar-requires-clause-shown : goal.bar_of-bar-requires-clause-shown
bar_of-bar-requires-clause-shown c = column_shown c.args.self.now (standing_of (record { opens = c.self.inside.opens.items; pieces = c.self.inside.map.pieces; columns = c.self.inside.columns.items; ended = c.self.inside.ended; reserved = c.self.inside.reserved }) c.args.self.now (vec_capacity c.self.inside.opens) c.self.view_is c.self.invariant) c.args.number c.args.range.lo c.args.range.hi c.requires.named c.stretches.cell c.stretches.invariant.from c.stretches-test.true c.in-Some.at (here_of (record { opens = c.self.inside.opens.items; pieces = c.self.inside.map.pieces; columns = c.self.inside.columns.items; ended = c.self.inside.ended; reserved = c.self.inside.reserved }) c.args.self.now c.self.view_is c.stretches.cell c.in-Some.at c.get.result c.get.ensures c.in-Some.is) c.index-column.result.now (column_of (record { opens = c.self.inside.opens.items; pieces = c.self.inside.map.pieces; columns = c.self.inside.columns.items; ended = c.self.inside.ended; reserved = c.self.inside.reserved }) c.args.self.now c.self.view_is c.in-Some.at c.index-column.result.now (at_within c.args.self.now (standing_of (record { opens = c.self.inside.opens.items; pieces = c.self.inside.map.pieces; columns = c.self.inside.columns.items; ended = c.self.inside.ended; reserved = c.self.inside.reserved }) c.args.self.now (vec_capacity c.self.inside.opens) c.self.view_is c.self.invariant) c.args.number c.args.range.lo c.args.range.hi c.requires.named c.stretches.cell c.stretches.invariant.from c.stretches-test.true c.in-Some.at (here_of (record { opens = c.self.inside.opens.items; pieces = c.self.inside.map.pieces; columns = c.self.inside.columns.items; ended = c.self.inside.ended; reserved = c.self.inside.reserved }) c.args.self.now c.self.view_is c.stretches.cell c.in-Some.at c.get.result c.get.ensures c.in-Some.is)) c.index-column.ensures)

pub returns-then-is_some : goal.returns-then-is_some
returns-then-is_some c = λ o number. some_told _ _ c.bar_of-bar.result (sym c.is_some.ensures ∙ c.if-is_some.true) (λ u e. bar_stops c.args.self.now (standing_of (record { opens = c.self.inside.opens.items; pieces = c.self.inside.map.pieces; columns = c.self.inside.columns.items; ended = c.self.inside.ended; reserved = c.self.inside.reserved }) c.args.self.now (vec_capacity c.self.inside.opens) c.self.view_is c.self.invariant) c.args.number c.args.range.lo c.args.range.hi c.requires.named c.stretches.cell c.stretches.invariant.from c.stretches-test.true c.in-Some.at (here_of (record { opens = c.self.inside.opens.items; pieces = c.self.inside.map.pieces; columns = c.self.inside.columns.items; ended = c.self.inside.ended; reserved = c.self.inside.reserved }) c.args.self.now c.self.view_is c.stretches.cell c.in-Some.at c.get.result c.get.ensures c.in-Some.is) c.index-column.result.now (column_of (record { opens = c.self.inside.opens.items; pieces = c.self.inside.map.pieces; columns = c.self.inside.columns.items; ended = c.self.inside.ended; reserved = c.self.inside.reserved }) c.args.self.now c.self.view_is c.in-Some.at c.index-column.result.now (at_within c.args.self.now (standing_of (record { opens = c.self.inside.opens.items; pieces = c.self.inside.map.pieces; columns = c.self.inside.columns.items; ended = c.self.inside.ended; reserved = c.self.inside.reserved }) c.args.self.now (vec_capacity c.self.inside.opens) c.self.view_is c.self.invariant) c.args.number c.args.range.lo c.args.range.hi c.requires.named c.stretches.cell c.stretches.invariant.from c.stretches-test.true c.in-Some.at (here_of (record { opens = c.self.inside.opens.items; pieces = c.self.inside.map.pieces; columns = c.self.inside.columns.items; ended = c.self.inside.ended; reserved = c.self.inside.reserved }) c.args.self.now c.self.view_is c.stretches.cell c.in-Some.at c.get.result c.get.ensures c.in-Some.is)) c.index-column.ensures) c.args.want c.bar_of-bar.result c.bar_of-bar.ensures c.requires.plain u e o number)

pub stretches-smaller : goal.stretches-smaller
stretches-smaller c = let k = cell_in c.args.self.now (standing_of (record { opens = c.self.inside.opens.items; pieces = c.self.inside.map.pieces; columns = c.self.inside.columns.items; ended = c.self.inside.ended; reserved = c.self.inside.reserved }) c.args.self.now (vec_capacity c.self.inside.opens) c.self.view_is c.self.invariant) c.args.number c.args.range.lo c.args.range.hi c.requires.named c.stretches.cell c.stretches.invariant.from c.stretches-test.true c.in-Some.at (here_of (record { opens = c.self.inside.opens.items; pieces = c.self.inside.map.pieces; columns = c.self.inside.columns.items; ended = c.self.inside.ended; reserved = c.self.inside.reserved }) c.args.self.now c.self.view_is c.stretches.cell c.in-Some.at c.get.result c.get.ensures c.in-Some.is) c.index-column.result.now (column_of (record { opens = c.self.inside.opens.items; pieces = c.self.inside.map.pieces; columns = c.self.inside.columns.items; ended = c.self.inside.ended; reserved = c.self.inside.reserved }) c.args.self.now c.self.view_is c.in-Some.at c.index-column.result.now (at_within c.args.self.now (standing_of (record { opens = c.self.inside.opens.items; pieces = c.self.inside.map.pieces; columns = c.self.inside.columns.items; ended = c.self.inside.ended; reserved = c.self.inside.reserved }) c.args.self.now (vec_capacity c.self.inside.opens) c.self.view_is c.self.invariant) c.args.number c.args.range.lo c.args.range.hi c.requires.named c.stretches.cell c.stretches.invariant.from c.stretches-test.true c.in-Some.at (here_of (record { opens = c.self.inside.opens.items; pieces = c.self.inside.map.pieces; columns = c.self.inside.columns.items; ended = c.self.inside.ended; reserved = c.self.inside.reserved }) c.args.self.now c.self.view_is c.stretches.cell c.in-Some.at c.get.result c.get.ensures c.in-Some.is)) c.index-column.ensures) in omega (arith, k.1, c.stretches-test.true)

pub stretches-preserved : goal.stretches-preserved
stretches-preserved c =
    let k = cell_in c.args.self.now (standing_of (record { opens = c.self.inside.opens.items; pieces = c.self.inside.map.pieces; columns = c.self.inside.columns.items; ended = c.self.inside.ended; reserved = c.self.inside.reserved }) c.args.self.now (vec_capacity c.self.inside.opens) c.self.view_is c.self.invariant) c.args.number c.args.range.lo c.args.range.hi c.requires.named c.stretches.cell c.stretches.invariant.from c.stretches-test.true c.in-Some.at (here_of (record { opens = c.self.inside.opens.items; pieces = c.self.inside.map.pieces; columns = c.self.inside.columns.items; ended = c.self.inside.ended; reserved = c.self.inside.reserved }) c.args.self.now c.self.view_is c.stretches.cell c.in-Some.at c.get.result c.get.ensures c.in-Some.is) c.index-column.result.now (column_of (record { opens = c.self.inside.opens.items; pieces = c.self.inside.map.pieces; columns = c.self.inside.columns.items; ended = c.self.inside.ended; reserved = c.self.inside.reserved }) c.args.self.now c.self.view_is c.in-Some.at c.index-column.result.now (at_within c.args.self.now (standing_of (record { opens = c.self.inside.opens.items; pieces = c.self.inside.map.pieces; columns = c.self.inside.columns.items; ended = c.self.inside.ended; reserved = c.self.inside.reserved }) c.args.self.now (vec_capacity c.self.inside.opens) c.self.view_is c.self.invariant) c.args.number c.args.range.lo c.args.range.hi c.requires.named c.stretches.cell c.stretches.invariant.from c.stretches-test.true c.in-Some.at (here_of (record { opens = c.self.inside.opens.items; pieces = c.self.inside.map.pieces; columns = c.self.inside.columns.items; ended = c.self.inside.ended; reserved = c.self.inside.reserved }) c.args.self.now c.self.view_is c.stretches.cell c.in-Some.at c.get.result c.get.ensures c.in-Some.is)) c.index-column.ensures) in
    record {
      from = omega (arith, k.1, c.stretches.invariant.from);
      passed = λ o number. bar_goes c.args.self.now (standing_of (record { opens = c.self.inside.opens.items; pieces = c.self.inside.map.pieces; columns = c.self.inside.columns.items; ended = c.self.inside.ended; reserved = c.self.inside.reserved }) c.args.self.now (vec_capacity c.self.inside.opens) c.self.view_is c.self.invariant) c.args.number c.args.range.lo c.args.range.hi c.requires.named c.stretches.cell c.stretches.invariant.from c.stretches-test.true c.in-Some.at (here_of (record { opens = c.self.inside.opens.items; pieces = c.self.inside.map.pieces; columns = c.self.inside.columns.items; ended = c.self.inside.ended; reserved = c.self.inside.reserved }) c.args.self.now c.self.view_is c.stretches.cell c.in-Some.at c.get.result c.get.ensures c.in-Some.is) c.index-column.result.now (column_of (record { opens = c.self.inside.opens.items; pieces = c.self.inside.map.pieces; columns = c.self.inside.columns.items; ended = c.self.inside.ended; reserved = c.self.inside.reserved }) c.args.self.now c.self.view_is c.in-Some.at c.index-column.result.now (at_within c.args.self.now (standing_of (record { opens = c.self.inside.opens.items; pieces = c.self.inside.map.pieces; columns = c.self.inside.columns.items; ended = c.self.inside.ended; reserved = c.self.inside.reserved }) c.args.self.now (vec_capacity c.self.inside.opens) c.self.view_is c.self.invariant) c.args.number c.args.range.lo c.args.range.hi c.requires.named c.stretches.cell c.stretches.invariant.from c.stretches-test.true c.in-Some.at (here_of (record { opens = c.self.inside.opens.items; pieces = c.self.inside.map.pieces; columns = c.self.inside.columns.items; ended = c.self.inside.ended; reserved = c.self.inside.reserved }) c.args.self.now c.self.view_is c.stretches.cell c.in-Some.at c.get.result c.get.ensures c.in-Some.is)) c.index-column.ensures) c.args.want c.bar_of-bar.result c.bar_of-bar.ensures (none_is c.bar_of-bar.result (sym c.is_some.ensures ∙ c.if-is_some.false)) o number (c.stretches.invariant.passed o number);
    }

pub unreachable-requires : goal.unreachable-requires
unreachable-requires c = no_gap c.args.self.now (standing_of (record { opens = c.self.inside.opens.items; pieces = c.self.inside.map.pieces; columns = c.self.inside.columns.items; ended = c.self.inside.ended; reserved = c.self.inside.reserved }) c.args.self.now (vec_capacity c.self.inside.opens) c.self.view_is c.self.invariant) c.args.number c.args.range.lo c.args.range.hi c.requires.named c.stretches.cell c.stretches.invariant.from c.stretches-test.true (gap_of (record { opens = c.self.inside.opens.items; pieces = c.self.inside.map.pieces; columns = c.self.inside.columns.items; ended = c.self.inside.ended; reserved = c.self.inside.reserved }) c.args.self.now c.self.view_is c.stretches.cell c.get.result c.get.ensures c.in-None.is)
