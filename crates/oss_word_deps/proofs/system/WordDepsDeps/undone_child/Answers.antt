use Rattle.oss_word_deps.proofs.SystemLemmas.{right_same}
use Rattle.oss_word_deps.proofs.system.WordDepsDeps.undone_child.Goals as goal

pub invariant_of-self : goal.invariant_of-self
invariant_of-self c = right_same c.self.inside.most c.self.inside.kept c.undone_child.new.self c.self.inside.words c.self.invariant c.undone_child.ensures.same
