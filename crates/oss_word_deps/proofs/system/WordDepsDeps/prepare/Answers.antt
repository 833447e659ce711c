use Rattle.oss_word_deps.proofs.SystemLemmas.{right_preparing}
use Rattle.oss_word_deps.proofs.system.WordDepsDeps.prepare.Goals as goal

pub invariant_of-self : goal.invariant_of-self
invariant_of-self c = right_preparing c.prepare.result c.self.inside.most c.self.inside.kept c.prepare.new.self c.args.range c.self.inside.words c.self.invariant c.prepare.ensures.ok c.prepare.ensures.err
