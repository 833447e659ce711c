use Rattle.oss_closing.proofs.ToldLaw.{fields_apart_tell}
use Rattle.oss_closing.proofs.laws.fields_apart_tell.Goals as goal

pub returns : goal.returns
returns c = fields_apart_tell
