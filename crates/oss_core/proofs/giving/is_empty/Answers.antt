use Rattle.oss_core.proofs.ClearLemmas.{empty_is}
use Rattle.oss_core.proofs.giving.is_empty.Goals as goal

pub returns : goal.returns
returns c = empty_is c.args.owed.now.pieces c.over.result c.over.ensures.map c.over.ensures.rising c.run_from-past.ensures.past c.next.result c.next.new.self c.next.ensures.steps c.is_none.result c.is_none.ensures
