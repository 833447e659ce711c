use Rattle.oss_deps.proofs.Basics.{none_tells}
use Rattle.oss_deps.proofs.WalkLemmas.{bar_bars}
use Rattle.oss_deps.proofs.walking.is_satisfied.Goals as goal

pub returns : goal.returns
returns c = none_tells c.bar_of.result c.bar_of.ensures (λ u b. bar_bars c.args.frames.now c.args.marks.now c.requires.linked c.requires.marked c.requires.covered u b) c.is_none.result c.is_none.ensures
