use Rattle.oss_core.proofs.machine.Core.apart.Goals as goal

pub returns-clause-parts : goal.returns-clause-parts
returns-clause-parts g c = λ code main first s core. (_, core)
