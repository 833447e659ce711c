use Rattle.std.proofs.Common.{List, Some, ap, ◌∙◌}
use Rattle.oss_syntax.specs.declared.access.Access.{Access}
use Rattle.oss_syntax.specs.declared.fault.FaultKind.{FaultKind}
use Rattle.oss_syntax.specs.declared.fault.FaultKind.TheVariants as fault
use Rattle.oss_model.specs.Context.{lent_of, mark_of, right_of}
use Rattle.oss_explain.specs.Owned.{own_of}
use Rattle.oss_explain.specs.Reasons.{touch_seen}
use Rattle.oss_explain.proofs.FindingLemmas.{touched_lent, touched_reduction, touched_released, touched_unwritten, touched_without}
use Rattle.oss_explain.proofs.HoldingLemmas.{if_ok_as}
use Rattle.oss_explain.proofs.TouchLemmas.{at_known, noted_within}
use Rattle.oss_explain.proofs.finding.touch_reason.Goals as goal

pub touch_released-requires-clause-within : goal.touch_released-requires-clause-within
touch_released-requires-clause-within c =
    let x = c.args.context.now in
    let gone = at_known (right_of x c.args.cell) (lent_of x c.args.cell) (mark_of x c.args.cell) (touch_seen c.args.touch) c.args.kind fault.Released c.in-Released.is c.requires.fault in
    noted_within c.args.top.now.released c.args.cell (c.requires.noted.released c.args.cell gone)

pub touch_released-requires-clause-noted : goal.touch_released-requires-clause-noted
touch_released-requires-clause-noted c =
    let x = c.args.context.now in
    c.requires.noted.released c.args.cell (at_known (right_of x c.args.cell) (lent_of x c.args.cell) (mark_of x c.args.cell) (touch_seen c.args.touch) c.args.kind fault.Released c.in-Released.is c.requires.fault)

pub reduction_reason-requires : goal.reduction_reason-requires
reduction_reason-requires c =
    let x = c.args.context.now in
    at_known (right_of x c.args.cell) (lent_of x c.args.cell) (mark_of x c.args.cell) (touch_seen c.args.touch) c.args.kind fault.BadReduction c.in-BadReduction.is c.requires.fault

pub lent_reason-requires-clause-some : goal.lent_reason-requires-clause-some
lent_reason-requires-clause-some c = c.requires.noted.lent c.args.cell (touch_seen c.args.touch) (c.requires.fault ∙ ap (λ (k : FaultKind). Some k) c.in-Lent.is)

pub returns-in-Released : goal.returns-in-Released
returns-in-Released c =
    let x = c.args.context.now in
    let gone = at_known (right_of x c.args.cell) (lent_of x c.args.cell) (mark_of x c.args.cell) (touch_seen c.args.touch) c.args.kind fault.Released c.in-Released.is c.requires.fault in
    if_ok_as c.touch_released.result (λ reason h. touched_released c.args.program.now.items x c.args.top.now c.args.cell (touch_seen c.args.touch) c.args.kind reason c.in-Released.is gone h) c.touch_released.ensures

pub returns-in-NoRight : goal.returns-in-NoRight
returns-in-NoRight c =
    touched_without c.args.program.now.items c.args.context.now c.args.top.now c.args.cell c.args.touch c.args.kind c.word_at.result c.in-NoRight.is
    (c.word_at.ensures ∙ ap (λ (xs : List Access). own_of xs c.args.cell) c.as_slice.ensures)

pub returns-in-BadReduction : goal.returns-in-BadReduction
returns-in-BadReduction c =
    let x = c.args.context.now in
    let fold = at_known (right_of x c.args.cell) (lent_of x c.args.cell) (mark_of x c.args.cell) (touch_seen c.args.touch) c.args.kind fault.BadReduction c.in-BadReduction.is c.requires.fault in
    touched_reduction c.args.program.now.items x c.args.top.now c.args.cell (touch_seen c.args.touch) c.args.kind fold.0 c.reduction_reason.result c.in-BadReduction.is fold.1 (c.reduction_reason.ensures fold.0 fold.1)

pub returns-in-Lent : goal.returns-in-Lent
returns-in-Lent c =
    if_ok_as c.lent_reason.result
    (λ reason h. touched_lent c.args.program.now.items c.args.context.now c.args.top.now c.args.cell (touch_seen c.args.touch) c.args.kind reason c.in-Lent.is h) c.lent_reason.ensures

pub returns-in-Unwritten : goal.returns-in-Unwritten
returns-in-Unwritten c = touched_unwritten c.args.program.now.items c.args.context.now c.args.top.now c.args.cell (touch_seen c.args.touch) c.args.kind c.in-Unwritten.is
