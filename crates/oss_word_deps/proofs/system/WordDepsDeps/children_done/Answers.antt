use Rattle.std.proofs.Common.{◌<◌, ◌≤◌, ℕ, sym, subst}
use Rattle.std.specs.Prelude.{IsTrue}
use Rattle.oss_deps.specs.Kept.{seen_of}
use Rattle.oss_word_deps.specs.Worded.{Worded}
use Rattle.oss_deps.specs.Opens.{AreChildrenDone, IsKnown}
use Rattle.oss_word_deps.proofs.system.WordDepsDeps.children_done.Goals as goal

pub children_done-requires : goal.children_done-requires
children_done-requires c = (seen_of c.self.inside.kept, c.self.invariant.booked c.in-Some.words c.in-Some.is, subst (λ (w : Worded). IsKnown w.lists.opens c.args.task.0) (sym c.self.view_is) c.requires)

pub returns-in-Some-clause-done : goal.returns-in-Some-clause-done
returns-in-Some-clause-done c =
    subst (λ (w : Worded). (IsTrue c.children_done.result → (i : ℕ) → c.args.range.lo ≤ i → i < c.args.range.hi → AreChildrenDone w.lists.opens (seen_of w.lists).given c.args.task.0 i) × (((i : ℕ) → c.args.range.lo ≤ i → i < c.args.range.hi → AreChildrenDone w.lists.opens (seen_of w.lists).given c.args.task.0 i) → IsTrue c.children_done.result)) c.self.view_is
    (c.children_done.ensures.done (seen_of c.self.inside.kept) (c.self.invariant.booked c.in-Some.words c.in-Some.is) (subst (λ (w : Worded). IsKnown w.lists.opens c.args.task.0) (sym c.self.view_is) c.requires))
