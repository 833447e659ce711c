use Rattle.oss_retire.proofs.TableLemmas.{remainder_tells}
use Rattle.oss_retire.proofs.remainder.remainder_of.Goals as goal

pub returns-clause-same : goal.returns-clause-same
returns-clause-same c = λ opens cell ord is. remainder_tells c.args.line.now.hangs c.args.line.now.stand c.args.numbers.now c.told.result.line.hangs c.told.result.numbers.items c.told.ensures.remainder opens cell ord is
