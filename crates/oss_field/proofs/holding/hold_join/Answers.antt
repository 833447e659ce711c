use Rattle.std.proofs.Common.{sym, subst, List, ◌∙◌}
use Rattle.oss_words.specs.Bits.{info_at, state_at}
use Rattle.oss_words.specs.Causes.{posted}
use Rattle.oss_field.specs.declared.held.Held.{Held}
use Rattle.oss_field.specs.Messages.{Ready}
use Rattle.oss_field.proofs.SendLemmas.{one_joined}
use Rattle.oss_field.proofs.holding.hold_join.Goals as goal

pub returns-clause-ready : goal.returns-clause-ready
returns-clause-ready c = λ k told ready.
    subst (λ (z : List Held). Ready z (posted (state_at c.args.old) (state_at c.args.new) (info_at c.args.info)) k) (sym c.in-Ok.ensures.items)
    (one_joined c.args.held.now.items c.args.entry c.args.info (state_at c.args.old) (state_at c.args.new) k (sym c.completes_join.ensures ∙ c.if-not-completes_join.false) told ready)
