use Rattle.oss_thread_groups.proofs.ListLemmas.{joined_more}
use Rattle.oss_thread_groups.proofs.groups.joined.Goals as goal

pub loop-part-preserved : goal.loop-part-preserved
loop-part-preserved g c =
    joined_more c.loop-part.yielded c.loop-part.all.items c.append.new.self.items c.in-Some.part c.in_ok-done.done c.in_ok-done.was c.in_ok-append.ensures.items c.loop-part.invariant
