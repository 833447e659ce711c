use Rattle.std.proofs.Common.{List, subst, sym, ◌∙◌}
use Rattle.oss_explain.specs.declared.begun.ReleasedAt.{ReleasedAt}
use Rattle.oss_explain.specs.Reasons.{IsNotedReleased}
use Rattle.oss_model.specs.Context.{in_clauses, right_of}
use Rattle.oss_model.specs.Rights.{is_released}
use Rattle.oss_explain.proofs.DirectiveLemmas.{has_same, named_passes, released_as}
use Rattle.oss_explain.proofs.HoldingLemmas.{if_ok_as}
use Rattle.oss_explain.proofs.directives.named_released.Goals as goal

pub released_reason-requires-clause-some : goal.released_reason-requires-clause-some
released_reason-requires-clause-some c = has_same c.in_ok-released.ensures c.requires.some

pub released_reason-requires-clause-noted : goal.released_reason-requires-clause-noted
released_reason-requires-clause-noted c = λ k h.
    subst (λ (rs : List ReleasedAt). IsNotedReleased rs k) (sym c.as_slice.ensures)
    (c.requires.noted.released k (named_passes (in_clauses c.args.named.now k) (is_released (right_of c.args.context.now k)) (sym (c.in_ok-released.ensures k) ∙ h)))

pub returns : goal.returns
returns c = if_ok_as c.released_reason.result (λ reason h. released_as c.args.program.now.items reason c.in_ok-released.ensures c.as_slice.ensures h) c.released_reason.ensures
