use Rattle.oss_names.proofs.LayoutLemmas.{names-few}
use Rattle.oss_names.proofs.known.Known.program.Goals as goal

pub returns-clause-few : goal.returns-clause-few
returns-clause-few c = names-few c.self.inside.program c.self.invariant.0
