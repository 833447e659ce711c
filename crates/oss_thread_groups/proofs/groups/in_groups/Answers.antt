use Rattle.std.proofs.Common.{subst, List}
use Rattle.std.specs.Prelude.{IfOk}
use Rattle.oss_thread_groups.specs.Groups.{AreGiven}
use Rattle.oss_thread_groups.proofs.GroupLemmas.{given_in_groups}
use Rattle.oss_thread_groups.proofs.ListLemmas.{given_by_place, if_ok}
use Rattle.oss_thread_groups.proofs.groups.in_groups.Goals as goal

pub returns : goal.returns
returns g c =
    let R = g.W.Work.gives c.args.work.now in
    let groups = c.in_ok-groups.groups.items in
    let parts = c.in_ok-parts.parts.items in
    if_ok c.joined.result (λ all joined.
    subst (λ (jobs : List _). AreGiven R jobs all.items) c.in_ok-groups.ensures.neighbours
    (given_in_groups R groups parts all.items
    (given_by_place (λ group part. IfOk part (λ done. AreGiven R group.jobs.items done.items)) groups parts c.in_ok-parts.ensures.len c.in_ok-parts.ensures.each) joined)) c.joined.ensures
