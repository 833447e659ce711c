use Rattle.std.proofs.Common.{sym, ap, ◌∙◌}
use Rattle.oss_access_lists.proofs.SendLemmas as sends
use Rattle.oss_access_lists.proofs.queue.send_up.Goals as goal

pub returns-then-goes_up-clause-queue : goal.returns-then-goes_up-clause-queue
returns-then-goes_up-clause-queue c = λ q.
    c.post.ensures.queue (λ z. sends.main_gets_none c.args.hangs.now c.args.stand.now c.args.at c.requires.main (sym c.goes_up.ensures ∙ c.if-goes_up.true) (sym (ap (λ h. h.above) c.hang_at.ensures) ∙ z)) q
