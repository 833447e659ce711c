use Rattle.oss_core.proofs.PartLemmas.{told_again}
use Rattle.oss_core.proofs.machine.Core.with_deps.Goals as goal

pub returns-clause-core : goal.returns-clause-core
returns-clause-core g c = λ code main first s seen core told. told_again code main first c.args.parts s seen _ core told
