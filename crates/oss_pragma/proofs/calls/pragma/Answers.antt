use Rattle.oss_pragma.proofs.ExactAnswers.{pragma_answer}
use Rattle.oss_pragma.proofs.calls.pragma.Goals as goal

pub returns : goal.returns
returns c = pragma_answer _ _ c.requires.within _ c.pragma_told.ensures
