use Rattle.std.proofs.Common.{◌<◌, ◌≤◌, ℕ, subst}
use Rattle.std.specs.Prelude.{IsTrue}
use Rattle.oss_deps.specs.Opens.{AreChildrenDone}
use Rattle.oss_word_deps.proofs.SystemLemmas.{known_opened}
use Rattle.oss_word_deps.proofs.words.Words.children_done.Goals as goal

pub returns-in-Some-clause-done : goal.returns-in-Some-clause-done
returns-in-Some-clause-done c = λ s booked known.
    let job = c.in-Some.ensures in
    let opened = known_opened s c.args.self.now.ledger c.in-Some.job job.0 c.args.task booked job.1 job.2 known in
    subst (λ (t : ℕ). (IsTrue c.task_is_done.result → (k : ℕ) → c.args.range.lo ≤ k → k < c.args.range.hi → AreChildrenDone s.opens s.given t k) × (((k : ℕ) → c.args.range.lo ≤ k → k < c.args.range.hi → AreChildrenDone s.opens s.given t k) → IsTrue c.task_is_done.result)) job.2 (c.task_is_done.ensures.done s booked opened)
