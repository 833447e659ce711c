use Rattle.oss_model.specs.Bodies.{Release}
use Rattle.oss_model.specs.Context.{in_clauses}
use Rattle.oss_explain.proofs.DirectiveLemmas.{no_release, release_at, release_is, released_is}
use Rattle.oss_explain.proofs.HoldingLemmas.{if_ok_as}
use Rattle.oss_explain.proofs.directives.release_reason.Goals as goal

pub named_released-requires-clause-some : goal.named_released-requires-clause-some
named_released-requires-clause-some c = release_at c.args.context.now c.args.clauses.now c.in-Released.is c.requires.fault

pub release_not_covered-requires-clause-some : goal.release_not_covered-requires-clause-some
release_not_covered-requires-clause-some c = release_at c.args.context.now c.args.clauses.now c.in-NotCovered.is c.requires.fault

pub unreachable-requires : goal.unreachable-requires
unreachable-requires c =
    no_release c.args.context.now c.args.clauses.now c.args.kind c.in_default.not-Released c.in_default.not-NotCovered (release_at c.args.context.now c.args.clauses.now (λ i. c.args.kind) c.requires.fault)

pub returns-in-Released : goal.returns-in-Released
returns-in-Released c =
    if_ok_as c.named_released.result
    (released_is c.args.program.now.items c.args.context.now c.args.top.now (Release c.args.clauses.now) c.args.clauses.now c.in-Released.is (λ k i. in_clauses c.args.clauses.now k)) c.named_released.ensures

pub returns-in-NotCovered : goal.returns-in-NotCovered
returns-in-NotCovered c =
    if_ok_as c.release_not_covered.result (release_is c.args.program.now.items c.args.context.now c.args.top.now c.args.clauses.now c.in-NotCovered.is) c.release_not_covered.ensures
