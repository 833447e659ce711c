use Rattle.std.proofs.Common.{sym, ◌∙◌}
use Rattle.oss_fragments.proofs.ViewLemmas.{all_bare}
use Rattle.oss_fragments.proofs.fragments.Fragments.at.Goals as goal

pub returns-in-None-clause-none : goal.returns-in-None-clause-none
returns-in-None-clause-none c = λ k. all_bare (record { fragments = c.self.inside.fragments.items; pieces = c.self.inside.map.pieces; ended = c.self.inside.ended }) c.args.self.now c.self.view_is c.self.invariant c.args.cell c.requires (sym c.get.ensures ∙ c.in-None.is) k
