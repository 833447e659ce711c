use Rattle.std.proofs.Common.{◌∙◌, ap, ◌++◌, ◌∷◌, []}
use Rattle.oss_missing_waits.specs.declared.following.OpenTask.{OpenTask}
use Rattle.oss_missing_waits.proofs.FollowLemmas.{opened_more}
use Rattle.oss_missing_waits.proofs.following.Following.create.Goals as goal

pub returns : goal.returns
returns c =
    let old = c.args.self.now in
    opened_more c.args.layout.now c.args.tasks.now c.args.created c.args.line c.args.lends c.in_ok-number.number old
    (record { alloc = old.alloc; current = c.replace-creator.new.dest; above = c.push.new.self; told = c.add_slot.new.slots }) c.give.new.creator c.new-task.result
    c.in_ok-number.ensures c.in_ok-give.ensures c.new-task.ensures c.replace-creator.ensures.after
    (c.in_ok-push.ensures.ok ∙ ap (λ (k : OpenTask). old.above ++ k ∷ []) c.replace-creator.ensures.value)
