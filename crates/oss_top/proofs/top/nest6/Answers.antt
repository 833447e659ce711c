use Rattle.std.proofs.Common.{refl, sym}
use Rattle.oss_top.proofs.ReplyLemmas.{complete}
use Rattle.oss_top.proofs.top.nest6.Goals as goal

pub returns-in-None-clause-outcome : goal.returns-in-None-clause-outcome
returns-in-None-clause-outcome g c = rw (sym (c.in-None.ensures.unread refl)) (rw (sym (c.in-None.ensures.unwritten refl)) c.worked.ensures)

pub returns-in-None-clause-complete : goal.returns-in-None-clause-complete
returns-in-None-clause-complete g c = complete _ _ _ _ _ (returns-in-None-clause-outcome g c)
