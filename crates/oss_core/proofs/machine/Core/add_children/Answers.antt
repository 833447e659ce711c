use Rattle.oss_core.proofs.CallLemmas.{on_ok}
use Rattle.oss_core.proofs.machine.Core.add_children.Goals as goal

pub returns : goal.returns
returns g c = on_ok c.add_all.result (λ added. (c.in_ok-newborns.newborns.items, c.in_ok-newborns.ensures, added)) c.add_all.ensures
