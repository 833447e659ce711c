use Rattle.std.specs.Prelude.{vec_capacity}
use Rattle.oss_deps.specs.Kept.{given_at}
use Rattle.oss_deps.proofs.Basics.{none_tells}
use Rattle.oss_deps.proofs.HindranceLemmas.{hindered_is_not_met}
use Rattle.oss_deps.proofs.AskLemmas.{standing_of}
use Rattle.oss_deps.proofs.plain.PlainDepsDeps.met.Goals as goal

pub returns-clause-met : goal.returns-clause-met
returns-clause-met c = none_tells c.obstacle_of.result c.obstacle_of.ensures (λ u h. hindered_is_not_met c.args.self.now.opens (given_at c.args.self.now.pieces c.args.self.now.columns) c.args.task.0 u.0 h (standing_of (record { opens = c.self.inside.opens.items; pieces = c.self.inside.map.pieces; columns = c.self.inside.columns.items; ended = c.self.inside.ended; reserved = c.self.inside.reserved }) c.args.self.now (vec_capacity c.self.inside.opens) c.self.view_is c.self.invariant).opens_are) c.is_none.result c.is_none.ensures
