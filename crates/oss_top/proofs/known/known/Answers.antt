use Rattle.oss_top.proofs.KnownLemmas.{resolved, unparsed}
use Rattle.oss_top.proofs.known.known.Goals as goal

pub returns-in-Ok : goal.returns-in-Ok
returns-in-Ok c = resolved c.args.text.now c.in-Ok.program c.resolve.result c.in-Ok.ensures c.resolve.ensures

pub returns-in-Err : goal.returns-in-Err
returns-in-Err c = unparsed c.args.text.now c.in-Err.refusal c.in-Err.ensures
