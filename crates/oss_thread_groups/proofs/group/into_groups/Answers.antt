use Rattle.std.proofs.Common.{refl, rules, length, ◌<◌}
use Rattle.std.specs.Int.{div_ceil}
use Rattle.oss_thread_groups.proofs.GroupLemmas.{AreCut, cut_begins, cut_more, cut_ends, some_each}
use Rattle.oss_thread_groups.proofs.group.into_groups.Goals as goal

pub loop-rest-init : goal.loop-rest-init
loop-rest-init g c = cut_begins c.args.jobs.items c.args.workers c.div_ceil-size.result c.new-groups.result.items c.requires (search rules) c.new-groups.ensures.items

pub loop-rest-preserved : goal.loop-rest-preserved
loop-rest-preserved g c = rw c.in_ok-push.ensures.items (cut_more c.args.jobs.items c.args.workers c.div_ceil-size.result c.loop-rest.groups.items c.loop-rest.worker c.loop-rest.rest.items c.in_ok-behind.behind.items _ c.loop-rest.invariant (search rules) refl c.in_ok-behind.ensures.items c.in_ok-behind.ensures.tail)

pub loop-rest-smaller : goal.loop-rest-smaller
loop-rest-smaller g c =
    let some : 0 < c.div_ceil-size.result = some_each c.loop-rest.worker c.args.workers c.div_ceil-size.result (length c.loop-rest.rest.items) c.loop-rest.invariant.left (search rules) in
    search rules

pub returns : goal.returns
returns g c =
    let ended : AreCut c.args.jobs.items c.args.workers (div_ceil (length c.args.jobs.items) c.args.workers) c.push-2.new.self.items =
    cut_ends c.args.jobs.items c.args.workers c.div_ceil-size.result (div_ceil (length c.args.jobs.items) c.args.workers) c.loop-rest.groups.items c.loop-rest.worker c.loop-rest.rest.items
    c.push-2.new.self.items _ c.loop-rest.invariant (search rules) (search rules) refl refl c.in_ok-push-2.ensures.items in
    record { neighbours = ended.neighbours; few = ended.few; numbered = ended.numbered; below = ended.below; even = ended.even }
