use Rattle.oss_top.proofs.FormLemmas.{if_ok}
use Rattle.oss_top.proofs.RunLemmas.{ran_serially}
use Rattle.oss_top.proofs.run.run_by_mode.Goals as goal

pub returns-in-Serial : goal.returns-in-Serial
returns-in-Serial g c = if_ok c.serial_run.result (λ ran is. ran_serially _ _ ran is) c.serial_run.ensures
