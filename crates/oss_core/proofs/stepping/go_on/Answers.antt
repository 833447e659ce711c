use Rattle.oss_core.proofs.CallLemmas.{on_ok}
use Rattle.oss_core.proofs.GoingLemmas.{gone_on, read_is}
use Rattle.oss_core.proofs.stepping.go_on.Goals as goal

pub returns : goal.returns
returns c =
    on_ok c.advance.result (λ goes.
    gone_on c.args.code.now c.args.tasks.now.items c.args.at c.args.loaded c.index_mut-held.result.now c.advance.new.self
    (read_is c.args.tasks.now.items c.args.at c.index_mut-held.result.now c.requires.held c.requires.is c.index_mut-held.ensures.value) goes) c.advance.ensures.ok
