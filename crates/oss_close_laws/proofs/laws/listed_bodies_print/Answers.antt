use Rattle.oss_close_laws.proofs.PrintedLaw.{listed_bodies_print}
use Rattle.oss_close_laws.proofs.laws.listed_bodies_print.Goals as goal

pub returns : goal.returns
returns c = listed_bodies_print
