use Rattle.oss_loops.proofs.KeptLemmas.{keeps}
use Rattle.oss_loops.proofs.laws.writing_out_keeps.Goals as goal

pub returns : goal.returns
returns c = keeps c.args.program.now
