use Rattle.oss_missing_program_laws.proofs.OneMissing.{missing_is_one}
use Rattle.oss_missing_program_laws.proofs.once.missing_is_one.Goals as goal

pub returns : goal.returns
returns c = missing_is_one
