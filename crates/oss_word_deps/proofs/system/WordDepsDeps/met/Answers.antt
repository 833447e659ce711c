use Rattle.std.proofs.Common.{sym, subst}
use Rattle.std.specs.Prelude.{IsTrue}
use Rattle.oss_deps.specs.Kept.{seen_of}
use Rattle.oss_word_deps.specs.Worded.{Worded}
use Rattle.oss_deps.specs.Opens.{IsKnown, IsMet}
use Rattle.oss_word_deps.proofs.system.WordDepsDeps.met.Goals as goal

pub is_met-requires : goal.is_met-requires
is_met-requires c = (seen_of c.self.inside.kept, c.self.invariant.booked c.in-Some.words c.in-Some.is, subst (λ (w : Worded). IsKnown w.lists.opens c.args.task.0) (sym c.self.view_is) c.requires)

pub returns-in-Some-clause-met : goal.returns-in-Some-clause-met
returns-in-Some-clause-met c =
    subst (λ (w : Worded). (IsTrue c.is_met.result → IsMet w.lists.opens (seen_of w.lists).given c.args.task.0) × (IsMet w.lists.opens (seen_of w.lists).given c.args.task.0 → IsTrue c.is_met.result)) c.self.view_is
    (c.is_met.ensures.met (seen_of c.self.inside.kept) (c.self.invariant.booked c.in-Some.words c.in-Some.is) (subst (λ (w : Worded). IsKnown w.lists.opens c.args.task.0) (sym c.self.view_is) c.requires))
