use Rattle.oss_acts.proofs.NewsLemmas.{tells_join, tells_one}
use Rattle.oss_acts.proofs.news.deliver_one.Goals as goal

pub returns-in-Some-clause-delivers : goal.returns-in-Some-clause-delivers
returns-in-Some-clause-delivers c = tells_join _ _ c.in-Some.entry c.args.news.now.items c.fold.ensures.folded

pub returns-in-None-clause-delivers : goal.returns-in-None-clause-delivers
returns-in-None-clause-delivers c = tells_one _ _ c.deliver-freed.result c.args.news.now.items _ c.deliver-freed.ensures.delivered c.tell.ensures.told
