use Rattle.std.proofs.Common.{◌+◌, arith}
use Rattle.std.specs.Prelude.{vec_capacity}
use Rattle.oss_deps.proofs.AskLemmas.{standing_of, here_of, gap_of, column_of, no_gap, at_within, column_covered, column_shown, join_exact}
use Rattle.oss_deps.proofs.plain.PlainDeps.is_joinable.Goals as goal

pub is_joinable-requires-clause-covered : goal.is_joinable-requires-clause-covered
is_joinable-requires-clause-covered c = column_covered c.args.self.now (standing_of (record { opens = c.self.inside.opens.items; pieces = c.self.inside.map.pieces; columns = c.self.inside.columns.items; ended = c.self.inside.ended; reserved = c.self.inside.reserved }) c.args.self.now (vec_capacity c.self.inside.opens) c.self.view_is c.self.invariant) c.args.number c.args.cell (c.args.cell + 1) c.requires c.args.cell (omega arith) (omega arith) c.in-Some.at (here_of (record { opens = c.self.inside.opens.items; pieces = c.self.inside.map.pieces; columns = c.self.inside.columns.items; ended = c.self.inside.ended; reserved = c.self.inside.reserved }) c.args.self.now c.self.view_is c.args.cell c.in-Some.at c.get.result c.get.ensures c.in-Some.is) c.index.result.now (column_of (record { opens = c.self.inside.opens.items; pieces = c.self.inside.map.pieces; columns = c.self.inside.columns.items; ended = c.self.inside.ended; reserved = c.self.inside.reserved }) c.args.self.now c.self.view_is c.in-Some.at c.index.result.now (at_within c.args.self.now (standing_of (record { opens = c.self.inside.opens.items; pieces = c.self.inside.map.pieces; columns = c.self.inside.columns.items; ended = c.self.inside.ended; reserved = c.self.inside.reserved }) c.args.self.now (vec_capacity c.self.inside.opens) c.self.view_is c.self.invariant) c.args.number c.args.cell (c.args.cell + 1) c.requires c.args.cell (omega arith) (omega arith) c.in-Some.at (here_of (record { opens = c.self.inside.opens.items; pieces = c.self.inside.map.pieces; columns = c.self.inside.columns.items; ended = c.self.inside.ended; reserved = c.self.inside.reserved }) c.args.self.now c.self.view_is c.args.cell c.in-Some.at c.get.result c.get.ensures c.in-Some.is)) c.index.ensures)

pub is_joinable-requires-clause-shown : goal.is_joinable-requires-clause-shown
is_joinable-requires-clause-shown c = column_shown c.args.self.now (standing_of (record { opens = c.self.inside.opens.items; pieces = c.self.inside.map.pieces; columns = c.self.inside.columns.items; ended = c.self.inside.ended; reserved = c.self.inside.reserved }) c.args.self.now (vec_capacity c.self.inside.opens) c.self.view_is c.self.invariant) c.args.number c.args.cell (c.args.cell + 1) c.requires c.args.cell (omega arith) (omega arith) c.in-Some.at (here_of (record { opens = c.self.inside.opens.items; pieces = c.self.inside.map.pieces; columns = c.self.inside.columns.items; ended = c.self.inside.ended; reserved = c.self.inside.reserved }) c.args.self.now c.self.view_is c.args.cell c.in-Some.at c.get.result c.get.ensures c.in-Some.is) c.index.result.now (column_of (record { opens = c.self.inside.opens.items; pieces = c.self.inside.map.pieces; columns = c.self.inside.columns.items; ended = c.self.inside.ended; reserved = c.self.inside.reserved }) c.args.self.now c.self.view_is c.in-Some.at c.index.result.now (at_within c.args.self.now (standing_of (record { opens = c.self.inside.opens.items; pieces = c.self.inside.map.pieces; columns = c.self.inside.columns.items; ended = c.self.inside.ended; reserved = c.self.inside.reserved }) c.args.self.now (vec_capacity c.self.inside.opens) c.self.view_is c.self.invariant) c.args.number c.args.cell (c.args.cell + 1) c.requires c.args.cell (omega arith) (omega arith) c.in-Some.at (here_of (record { opens = c.self.inside.opens.items; pieces = c.self.inside.map.pieces; columns = c.self.inside.columns.items; ended = c.self.inside.ended; reserved = c.self.inside.reserved }) c.args.self.now c.self.view_is c.args.cell c.in-Some.at c.get.result c.get.ensures c.in-Some.is)) c.index.ensures)

pub unreachable-requires : goal.unreachable-requires
unreachable-requires c = no_gap c.args.self.now (standing_of (record { opens = c.self.inside.opens.items; pieces = c.self.inside.map.pieces; columns = c.self.inside.columns.items; ended = c.self.inside.ended; reserved = c.self.inside.reserved }) c.args.self.now (vec_capacity c.self.inside.opens) c.self.view_is c.self.invariant) c.args.number c.args.cell (c.args.cell + 1) c.requires c.args.cell (omega arith) (omega arith) (gap_of (record { opens = c.self.inside.opens.items; pieces = c.self.inside.map.pieces; columns = c.self.inside.columns.items; ended = c.self.inside.ended; reserved = c.self.inside.reserved }) c.args.self.now c.self.view_is c.args.cell c.get.result c.get.ensures c.in-None.is)

pub returns : goal.returns
returns c = λ o op number m. join_exact c.args.self.now (standing_of (record { opens = c.self.inside.opens.items; pieces = c.self.inside.map.pieces; columns = c.self.inside.columns.items; ended = c.self.inside.ended; reserved = c.self.inside.reserved }) c.args.self.now (vec_capacity c.self.inside.opens) c.self.view_is c.self.invariant) c.args.number c.args.cell (c.args.cell + 1) c.requires c.args.cell (omega arith) (omega arith) c.in-Some.at (here_of (record { opens = c.self.inside.opens.items; pieces = c.self.inside.map.pieces; columns = c.self.inside.columns.items; ended = c.self.inside.ended; reserved = c.self.inside.reserved }) c.args.self.now c.self.view_is c.args.cell c.in-Some.at c.get.result c.get.ensures c.in-Some.is) c.index.result.now (column_of (record { opens = c.self.inside.opens.items; pieces = c.self.inside.map.pieces; columns = c.self.inside.columns.items; ended = c.self.inside.ended; reserved = c.self.inside.reserved }) c.args.self.now c.self.view_is c.in-Some.at c.index.result.now (at_within c.args.self.now (standing_of (record { opens = c.self.inside.opens.items; pieces = c.self.inside.map.pieces; columns = c.self.inside.columns.items; ended = c.self.inside.ended; reserved = c.self.inside.reserved }) c.args.self.now (vec_capacity c.self.inside.opens) c.self.view_is c.self.invariant) c.args.number c.args.cell (c.args.cell + 1) c.requires c.args.cell (omega arith) (omega arith) c.in-Some.at (here_of (record { opens = c.self.inside.opens.items; pieces = c.self.inside.map.pieces; columns = c.self.inside.columns.items; ended = c.self.inside.ended; reserved = c.self.inside.reserved }) c.args.self.now c.self.view_is c.args.cell c.in-Some.at c.get.result c.get.ensures c.in-Some.is)) c.index.ensures) c.is_joinable.result c.is_joinable.ensures o op number m
