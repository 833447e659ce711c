use Rattle.oss_explanation.specs.Explanations.IsReason.{frames, shift}
use Rattle.oss_explain.proofs.FindingLemmas.{plain_reason}
use Rattle.oss_explain.proofs.finding.failure_reason.Goals as goal

pub returns-in-TooDeep : goal.returns-in-TooDeep
returns-in-TooDeep c = λ all x b P s f count e r. rw c.in-TooDeep.is frames

pub returns-in-ShiftRange : goal.returns-in-ShiftRange
returns-in-ShiftRange c = λ all x b P s f count e r. rw c.in-ShiftRange.is shift

pub returns-in_default : goal.returns-in_default
returns-in_default c = λ all x b. plain_reason all x b c.args.kind c.in_default.not-TooDeep c.in_default.not-ShiftRange
