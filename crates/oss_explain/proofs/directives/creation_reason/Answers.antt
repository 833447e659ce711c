use Rattle.std.proofs.Common.{List, ap}
use Rattle.oss_syntax.specs.declared.access.Access.{Access}
use Rattle.oss_machine.specs.Asks.{meant_order}
use Rattle.oss_model.specs.Bodies.{Create}
use Rattle.oss_model.specs.Context.{in_clauses}
use Rattle.oss_explain.proofs.DirectiveLemmas.{creation_at, creation_is, deep_is, many_is, mixed_is, no_creation, released_is}
use Rattle.oss_explain.proofs.HoldingLemmas.{if_ok_as}
use Rattle.oss_explain.proofs.directives.creation_reason.Goals as goal

pub mixed_reason-requires-clause-some : goal.mixed_reason-requires-clause-some
mixed_reason-requires-clause-some c = creation_at c.args.context.now c.as_slice-clauses.ensures c.is_child_final-is_final.ensures c.in-MixedAccess.is c.requires.fault

pub named_released-requires-clause-some : goal.named_released-requires-clause-some
named_released-requires-clause-some c = (creation_at c.args.context.now c.as_slice-clauses.ensures c.is_child_final-is_final.ensures c.in-Released.is c.requires.fault).0

pub creation_not_covered-requires-clause-some : goal.creation_not_covered-requires-clause-some
creation_not_covered-requires-clause-some c = (creation_at c.args.context.now c.as_slice-clauses.ensures c.is_child_final-is_final.ensures c.in-NotCovered.is c.requires.fault).0

pub unreachable-requires : goal.unreachable-requires
unreachable-requires c =
    no_creation c.args.context.now c.as_slice-clauses.result.now c.is_child_final-is_final.result c.args.kind c.in_default.not-TooDeep c.in_default.not-TooManyTasks c.in_default.not-MixedAccess c.in_default.not-Released
    c.in_default.not-NotCovered (creation_at c.args.context.now c.as_slice-clauses.ensures c.is_child_final-is_final.ensures (λ i. c.args.kind) c.requires.fault)

pub returns-in-TooDeep : goal.returns-in-TooDeep
returns-in-TooDeep c = deep_is c.args.program.now.items c.args.context.now c.args.top.now (meant_order c.args.order.now) c.in-TooDeep.is

pub returns-in-TooManyTasks : goal.returns-in-TooManyTasks
returns-in-TooManyTasks c = many_is c.args.program.now.items c.args.context.now c.args.top.now (meant_order c.args.order.now) c.in-TooManyTasks.is

pub returns-in-MixedAccess : goal.returns-in-MixedAccess
returns-in-MixedAccess c =
    if_ok_as c.mixed_reason.result
    (mixed_is c.args.program.now.items c.args.context.now c.args.top.now (meant_order c.args.order.now) c.in-MixedAccess.is c.as_slice-clauses.ensures c.is_child_final-is_final.ensures) c.mixed_reason.ensures

pub returns-in-Released : goal.returns-in-Released
returns-in-Released c =
    if_ok_as c.named_released.result
    (released_is c.args.program.now.items c.args.context.now c.args.top.now (Create (meant_order c.args.order.now)) c.as_slice-clauses.result.now c.in-Released.is (λ k. ap (λ (xs : List Access). in_clauses xs k) c.as_slice-clauses.ensures)) c.named_released.ensures

pub returns-in-NotCovered : goal.returns-in-NotCovered
returns-in-NotCovered c =
    if_ok_as c.creation_not_covered.result
    (creation_is c.args.program.now.items c.args.context.now c.args.top.now (meant_order c.args.order.now) c.in-NotCovered.is c.as_slice-clauses.ensures c.is_child_final-is_final.ensures) c.creation_not_covered.ensures
