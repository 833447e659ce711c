use Rattle.std.proofs.Common.{ℕ, ◌<◌, ◌≤◌, ◌⊎◌, ◌∙◌, ap, arith, sym}
use Rattle.oss_model.specs.Rights.{is_released}
use Rattle.oss_judge.proofs.TestLemmas.{either}
use Rattle.oss_judge.proofs.context.Context.released_run.Goals as goal

before_or : (cell mid : ℕ) → (cell < mid) ⊎ (mid ≤ cell)
before_or cell mid = grind arith

pub returns-clause-alike : goal.returns-clause-alike
returns-clause-alike c = λ cell low high.
    either (before_or cell c.right_run-right.result.1)
    (λ l. ap is_released (c.right_run-right.ensures.alike cell low l) ∙ sym c.is_released-released.ensures)
    (λ l. c.end_of_run.ensures.alike cell l high)
