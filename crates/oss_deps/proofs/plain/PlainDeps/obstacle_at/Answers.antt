use Rattle.std.specs.Prelude.{vec_capacity}
use Rattle.oss_deps.proofs.Basics.{not_false}
use Rattle.oss_deps.proofs.AskLemmas.{standing_of, access_named, same_access, read_obstacle, write_obstacle}
use Rattle.oss_deps.proofs.plain.PlainDeps.obstacle_at.Goals as goal

pub bar_over-requires-clause-named : goal.bar_over-requires-clause-named
bar_over-requires-clause-named c = access_named c.args.self.now (standing_of (record { opens = c.self.inside.opens.items; pieces = c.self.inside.map.pieces; columns = c.self.inside.columns.items; ended = c.self.inside.ended; reserved = c.self.inside.reserved }) c.args.self.now (vec_capacity c.self.inside.opens) c.self.view_is c.self.invariant) c.args.number c.requires.0 c.requires.1 c.args.access c.requires.2

pub bar_over-requires-in-Write-clause-named : goal.bar_over-requires-in-Write-clause-named
bar_over-requires-in-Write-clause-named c = access_named c.args.self.now (standing_of (record { opens = c.self.inside.opens.items; pieces = c.self.inside.map.pieces; columns = c.self.inside.columns.items; ended = c.self.inside.ended; reserved = c.self.inside.reserved }) c.args.self.now (vec_capacity c.self.inside.opens) c.self.view_is c.self.invariant) c.args.number c.requires.0 c.requires.1 c.args.access c.requires.2

pub returns-in-Read : goal.returns-in-Read
returns-in-Read c = λ o number. read_obstacle c.args.self.now (standing_of (record { opens = c.self.inside.opens.items; pieces = c.self.inside.map.pieces; columns = c.self.inside.columns.items; ended = c.self.inside.ended; reserved = c.self.inside.reserved }) c.args.self.now (vec_capacity c.self.inside.opens) c.self.view_is c.self.invariant) c.args.number o number c.args.access (same_access c.args.self.now c.args.number c.requires.0 o c.requires.1 number c.args.access c.requires.2) (not_false c.args.access.strong c.if-not-access.false) c.in-Read.is c.bar_over.result (c.bar_over.ensures o number)

pub returns-in-Write : goal.returns-in-Write
returns-in-Write c = λ o number. write_obstacle c.args.self.now (standing_of (record { opens = c.self.inside.opens.items; pieces = c.self.inside.map.pieces; columns = c.self.inside.columns.items; ended = c.self.inside.ended; reserved = c.self.inside.reserved }) c.args.self.now (vec_capacity c.self.inside.opens) c.self.view_is c.self.invariant) c.args.number o number c.args.access (same_access c.args.self.now c.args.number c.requires.0 o c.requires.1 number c.args.access c.requires.2) (not_false c.args.access.strong c.if-not-access.false) c.in-Write.is c.bar_over-in-Write.result (c.bar_over-in-Write.ensures o number)
