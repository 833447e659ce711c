use Rattle.std.proofs.Common.{◌<◌, ℕ}
use Rattle.oss_word_deps.specs.Asked.{IsJobOf}
use Rattle.oss_word_deps.proofs.lookups.job_of.Given as goal

-- none so far is that of the task
abbrev pub invariant-loop-at : goal.invariant-loop-at
invariant-loop-at l = (n : ℕ) → n < l.at → IsJobOf l.jobs n l.task → ⊥
