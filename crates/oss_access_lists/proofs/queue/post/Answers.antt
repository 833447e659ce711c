use Rattle.std.proofs.Common.{◌≡◌, false, sym, subst, ap, ◌∙◌, slice_set}
use Rattle.oss_access_lists.specs.Tables.{IsQueue, is_none}
use Rattle.oss_access_lists.proofs.QueueLemmas as queues
use Rattle.oss_access_lists.proofs.queue.post.Goals as goal

pub returns-then-is_none-2-clause-queue : goal.returns-then-is_none-2-clause-queue
returns-then-is_none-2-clause-queue c = λ z q.
    subst (λ y. IsQueue y c.args.behind.now c.args.head) (sym c.put.ensures)
    (queues.queue_keeps c.args.posted.now c.args.behind.now c.args.head c.args.at c.plus-now.result c.requires.within c.requires.as_many
    (sym (ap is_none c.marks_at-was.ensures) ∙ (sym (c.if-is_none.ensures) ∙ c.if-is_none-2.ensures)) q)

pub returns-then-is_none-clause-queue : goal.returns-then-is_none-clause-queue
returns-then-is_none-clause-queue c = λ z q.
    subst (λ y. IsQueue y (slice_set c.args.behind.now c.args.at c.args.head) c.args.at) (sym c.put.ensures)
    (queues.queue_grows c.args.posted.now c.args.behind.now c.args.head c.args.at c.plus-now.result c.requires.within c.requires.as_many z
    (sym (ap is_none c.marks_at-was.ensures) ∙ sym (c.if-is_none.ensures)) (sym (c.if-is_none-2.ensures)) q)

pub returns-clause-queue : goal.returns-clause-queue
returns-clause-queue c = λ z q.
    let a : is_none c.marks_at-was.result ≡ false = sym (c.if-is_none.ensures) in
    subst (λ y. IsQueue y c.args.behind.now c.args.head) (sym c.put.ensures)
    (queues.queue_keeps c.args.posted.now c.args.behind.now c.args.head c.args.at c.plus-now.result c.requires.within c.requires.as_many
    (sym (ap is_none c.marks_at-was.ensures) ∙ (a ∙ sym (ap is_none c.plus-now.ensures ∙ queues.none_stays c.marks_at-was.result c.minus.result a))) q)
