use Rattle.oss_open_needs.proofs.OpenLemmas.{on_ok}
use Rattle.oss_open_needs.proofs.open_task.OpenTask.ask_for.Goals as goal

pub returns : goal.returns
returns c = on_ok c.ask_for.result (λ asks t k. record { given = k.given; asked = asks t.asked k.asked }) c.ask_for.ensures.asked
