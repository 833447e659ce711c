use Rattle.std.specs.Prelude.{vec_capacity}
use Rattle.oss_deps.proofs.PlainLemmas.{view_divides}
use Rattle.oss_deps.proofs.plain.PlainDepsDeps.give.Goals as goal

pub give_over-requires-clause-begins : goal.give_over-requires-clause-begins
give_over-requires-clause-begins c = view_divides (record { opens = c.self.inside.opens.items; pieces = c.self.inside.map.pieces; columns = c.self.inside.columns.items; ended = c.self.inside.ended; reserved = c.self.inside.reserved }) c.args.self.now c.self.view_is (vec_capacity c.self.inside.opens) c.self.invariant c.args.range.lo c.requires.begins

pub give_over-requires-clause-ends : goal.give_over-requires-clause-ends
give_over-requires-clause-ends c = view_divides (record { opens = c.self.inside.opens.items; pieces = c.self.inside.map.pieces; columns = c.self.inside.columns.items; ended = c.self.inside.ended; reserved = c.self.inside.reserved }) c.args.self.now c.self.view_is (vec_capacity c.self.inside.opens) c.self.invariant c.args.range.hi c.requires.ends
