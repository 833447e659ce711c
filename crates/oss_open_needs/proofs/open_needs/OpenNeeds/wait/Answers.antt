use Rattle.oss_open_needs.proofs.OpenLemmas.{on_ok}
use Rattle.oss_open_needs.proofs.open_needs.OpenNeeds.wait.Goals as goal

pub returns : goal.returns
returns c = on_ok c.wait.result (λ goes acting above s. record { current = goes acting s.current; older = s.older }) c.wait.ensures
