use Rattle.std.proofs.Common.{◌≡◌, Some, sym, subst}
use Rattle.std.specs.Prelude.{◌||◌}
use Rattle.oss_syntax.specs.declared.fault.FaultKind.TheVariants as fault
use Rattle.oss_model.specs.Context.{creation_fault}
use Rattle.oss_code.specs.declared.order.TaskOrder.{TaskOrder}
use Rattle.oss_explanation.specs.Explanations.AsksTouch.{folds, reads, writes}
use Rattle.oss_explanation.specs.Explanations.IsReason.{many_awaited}
use Rattle.oss_explain.proofs.FindingLemmas.{fault_at, kind_at, reason_at, tick_reason}
use Rattle.oss_explain.proofs.HoldingLemmas.{if_ok_as}
use Rattle.oss_explain.proofs.finding.reason_of.Goals as goal

pub creation_reason-requires-clause-fault : goal.creation_reason-requires-clause-fault
creation_reason-requires-clause-fault c =
    subst (λ (o : TaskOrder). creation_fault c.args.context.now o.accesses (c.args.context.now.final || o.last) ≡ Some c.args.kind) (sym c.get.ensures)
    (fault_at c.args.context.now c.args.kind _ _ c.in-Create.is c.requires.fault)

pub returns-in-Tick : goal.returns-in-Tick
returns-in-Tick c =
    reason_at c.args.program.now.items c.args.context.now c.args.top.now c.args.kind _ _ _ c.in-Tick.is
    (tick_reason c.args.program.now.items c.args.context.now c.args.top.now c.args.kind c.fuel.result (fault_at c.args.context.now c.args.kind _ _ c.in-Tick.is c.requires.fault) c.fuel.ensures)

pub returns-in-Begin : goal.returns-in-Begin
returns-in-Begin c =
    reason_at c.args.program.now.items c.args.context.now c.args.top.now c.args.kind _ _ _ c.in-Begin.is (c.limit_reason.ensures c.args.program.now.items c.args.top.now)

pub returns-in-Await : goal.returns-in-Await
returns-in-Await c =
    reason_at c.args.program.now.items c.args.context.now c.args.top.now c.args.kind _ _ _ c.in-Await.is
    (kind_at c.args.program.now.items c.args.context.now c.args.top.now _ _ c.args.kind fault.TooManyTasks (fault_at c.args.context.now c.args.kind _ _ c.in-Await.is c.requires.fault)
    (λ P s f count e r. many_awaited))

pub returns-in-Read : goal.returns-in-Read
returns-in-Read c =
    if_ok_as c.touch_reason.result (λ reason h. reason_at c.args.program.now.items c.args.context.now c.args.top.now c.args.kind reason _ _ c.in-Read.is (h _ reads)) c.touch_reason.ensures

pub returns-in-Write : goal.returns-in-Write
returns-in-Write c =
    if_ok_as c.touch_reason-in-Write.result (λ reason h. reason_at c.args.program.now.items c.args.context.now c.args.top.now c.args.kind reason _ _ c.in-Write.is (h _ writes)) c.touch_reason-in-Write.ensures

pub returns-in-Fold : goal.returns-in-Fold
returns-in-Fold c =
    if_ok_as c.touch_reason-in-Fold.result (λ reason h. reason_at c.args.program.now.items c.args.context.now c.args.top.now c.args.kind reason _ _ c.in-Fold.is (h _ folds)) c.touch_reason-in-Fold.ensures

pub returns-in-Fault : goal.returns-in-Fault
returns-in-Fault c =
    reason_at c.args.program.now.items c.args.context.now c.args.top.now c.args.kind _ _ _ c.in-Fault.is
    (kind_at c.args.program.now.items c.args.context.now c.args.top.now _ _ c.args.kind c.in-Fault.failure (sym (fault_at c.args.context.now c.args.kind _ _ c.in-Fault.is c.requires.fault))
    (c.failure_reason.ensures c.args.program.now.items c.args.context.now c.args.top.now))
