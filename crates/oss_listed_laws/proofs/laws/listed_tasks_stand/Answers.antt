use Rattle.oss_listed_laws.proofs.ListedLaw.{listed_tasks_stand}
use Rattle.oss_listed_laws.proofs.laws.listed_tasks_stand.Goals as goal

pub returns : goal.returns
returns c = listed_tasks_stand
