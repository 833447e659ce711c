use Rattle.std.proofs.Common.{◌∙◌}
use Rattle.oss_gen.proofs.TaskLemmas.{one_more}
use Rattle.oss_gen.proofs.tasks.write_tasks.Goals as goal

pub loop-before-preserved : goal.loop-before-preserved
loop-before-preserved c =
    one_more c.loop-before.text.items c.write_task.new.text.items c.args.size c.loop-before.before c.loop-before.number c.next_number-number.result c.loop-before-test.true c.next_number-number.ensures c.in_ok-write_task.ensures
    ∙ c.loop-before.invariant
