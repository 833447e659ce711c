use Rattle.oss_explanation.specs.Explanations.IsDeed.{calls, divides, misses, shifts}
use Rattle.oss_explain.proofs.DeedLemmas.{is_miss}
use Rattle.oss_explain.proofs.deeds.failure_deed.Goals as goal

pub returns-in-TooDeep : goal.returns-in-TooDeep
returns-in-TooDeep c = λ all. rw c.in-TooDeep.is calls

pub returns-in-DivideByZero : goal.returns-in-DivideByZero
returns-in-DivideByZero c = λ all. rw c.in-DivideByZero.is divides

pub returns-in-ShiftRange : goal.returns-in-ShiftRange
returns-in-ShiftRange c = λ all. rw c.in-ShiftRange.is shifts

pub returns-in_default : goal.returns-in_default
returns-in_default c = λ all. misses (is_miss c.args.kind c.in_default.not-TooDeep c.in_default.not-DivideByZero c.in_default.not-ShiftRange)
