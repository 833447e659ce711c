use Rattle.oss_thread_groups.proofs.ListLemmas.{given_more}
use Rattle.oss_thread_groups.proofs.group.run_group.Goals as goal

pub loop-job-preserved : goal.loop-job-preserved
loop-job-preserved g c =
    given_more (g.W.Work.gives c.args.work.now) c.loop-job.yielded c.loop-job.done.items c.push.new.self.items c.in-Some.job c.in_ok-answer.answer c.in_ok-push.ensures.items c.loop-job.invariant c.in_ok-answer.ensures
