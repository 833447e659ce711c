use Rattle.oss_open_needs.proofs.OpenLemmas.{if_ok, mending_of}
use Rattle.oss_open_needs.proofs.open_task.OpenTask.mending.Goals as goal

pub returns : goal.returns
returns c = if_ok c.of.result (λ m mends. mending_of c.args.self.now m mends) c.of.ensures
