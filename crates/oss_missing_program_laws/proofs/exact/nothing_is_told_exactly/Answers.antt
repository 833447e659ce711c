use Rattle.oss_missing_program_laws.proofs.ExactLaws.{nothing_is_told_exactly}
use Rattle.oss_missing_program_laws.proofs.exact.nothing_is_told_exactly.Goals as goal

pub returns : goal.returns
returns c = nothing_is_told_exactly
