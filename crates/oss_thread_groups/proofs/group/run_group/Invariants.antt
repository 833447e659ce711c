use Rattle.oss_thread_groups.specs.Groups.{AreGiven}
use Rattle.oss_thread_groups.proofs.group.run_group.Given as goal

-- the jobs so far have their answers
abbrev pub invariant-loop-job : goal.invariant-loop-job
invariant-loop-job g l = AreGiven (g.W.Work.gives l.fn.work) l.yielded l.done.items
