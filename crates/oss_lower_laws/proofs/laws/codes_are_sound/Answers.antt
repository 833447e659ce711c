use Rattle.oss_lower_laws.proofs.SoundPrograms.{codes_are_sound}
use Rattle.oss_lower_laws.proofs.laws.codes_are_sound.Goals as goal

pub returns : goal.returns
returns c = codes_are_sound
