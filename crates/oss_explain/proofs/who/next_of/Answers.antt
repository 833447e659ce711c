use Rattle.oss_explain.proofs.FaultLemmas.{key_is}
use Rattle.oss_explain.proofs.HoldingLemmas.{if_ok_as}
use Rattle.oss_explain.proofs.who.next_of.Goals as goal

pub returns : goal.returns
returns c = if_ok_as c.copy.result (λ point e. key_is c.args.act.now c.in-Fault.kind c.in-Fault.line c.in-Fault.key point c.in-Fault.is c.as_slice-numbers.ensures.point e) c.copy.ensures
