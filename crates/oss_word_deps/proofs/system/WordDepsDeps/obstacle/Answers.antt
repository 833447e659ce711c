use Rattle.oss_word_deps.proofs.SystemLemmas.{right_same}
use Rattle.oss_word_deps.proofs.system.WordDepsDeps.obstacle.Goals as goal

pub invariant_of-self : goal.invariant_of-self
invariant_of-self c = right_same c.self.inside.most c.self.inside.kept c.obstacle.new.self c.self.inside.words c.self.invariant c.obstacle.ensures.same
