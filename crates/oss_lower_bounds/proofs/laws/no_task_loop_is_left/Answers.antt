use Rattle.oss_lower_bounds.proofs.LooplessPrograms.{no_task_loop_is_left}
use Rattle.oss_lower_bounds.proofs.laws.no_task_loop_is_left.Goals as goal

pub returns : goal.returns
returns c = no_task_loop_is_left
