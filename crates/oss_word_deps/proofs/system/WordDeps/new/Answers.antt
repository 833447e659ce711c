use Rattle.oss_word_deps.proofs.SystemLemmas.{right_new}
use Rattle.oss_word_deps.proofs.system.WordDeps.new.Goals as goal

pub invariant_of-result : goal.invariant_of-result
invariant_of-result c = right_new c.args.most c.new.result c.in_ok-words.words c.requires.1 c.new.ensures c.in_ok-words.ensures.booked c.in_ok-words.ensures.size
