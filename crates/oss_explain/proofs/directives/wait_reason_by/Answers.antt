use Rattle.oss_model.specs.Bodies.{WaitOn}
use Rattle.oss_model.specs.Context.{in_clauses}
use Rattle.oss_explain.proofs.DirectiveLemmas.{no_wait, released_is, wait_at, wait_is}
use Rattle.oss_explain.proofs.HoldingLemmas.{if_ok_as}
use Rattle.oss_explain.proofs.directives.wait_reason_by.Goals as goal

pub named_released-requires-clause-some : goal.named_released-requires-clause-some
named_released-requires-clause-some c = wait_at c.args.context.now c.args.named.now c.in-Released.is c.requires.fault

pub named_lacking-requires-clause-some : goal.named_lacking-requires-clause-some
named_lacking-requires-clause-some c = wait_at c.args.context.now c.args.named.now c.in-NotCovered.is c.requires.fault

pub unreachable-requires : goal.unreachable-requires
unreachable-requires c =
    no_wait c.args.context.now c.args.named.now c.args.kind c.in_default.not-Released c.in_default.not-NotCovered (wait_at c.args.context.now c.args.named.now (λ i. c.args.kind) c.requires.fault)

pub returns-in-Released : goal.returns-in-Released
returns-in-Released c =
    if_ok_as c.named_released.result
    (released_is c.args.program.now.items c.args.context.now c.args.top.now (WaitOn c.args.named.now) c.args.named.now c.in-Released.is (λ k i. in_clauses c.args.named.now k)) c.named_released.ensures

pub returns-in-Ok : goal.returns-in-Ok
returns-in-Ok c = wait_is c.args.program.now.items c.args.context.now c.args.top.now c.args.named.now c.in-NotCovered.is c.in-Ok.cells c.in-Ok.ensures
