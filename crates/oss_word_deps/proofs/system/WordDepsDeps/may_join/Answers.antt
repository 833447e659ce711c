use Rattle.std.proofs.Common.{◌≡◌, sym, subst}
use Rattle.std.specs.Prelude.{IsTrue}
use Rattle.oss_syntax.specs.declared.access.Op.{Op}
use Rattle.oss_syntax.specs.declared.access.Mode.TheVariants.{Fold}
use Rattle.oss_model.specs.Forest.{IsJoinSatisfied}
use Rattle.oss_deps.specs.Kept.{seen_of}
use Rattle.oss_word_deps.specs.Worded.{Worded}
use Rattle.oss_deps.specs.Opens.{IsFolding, mode_in, opened_forest}
use Rattle.oss_word_deps.proofs.system.WordDepsDeps.may_join.Goals as goal

pub may_join-requires : goal.may_join-requires
may_join-requires c = (seen_of c.self.inside.kept, c.self.invariant.booked c.in-Some.words c.in-Some.is, subst (λ (w : Worded). IsFolding w.lists.opens c.args.task.0 c.args.cell) (sym c.self.view_is) c.requires)

pub returns-in-Some-clause-join : goal.returns-in-Some-clause-join
returns-in-Some-clause-join c =
    subst (λ (w : Worded). (op : Op) → mode_in w.lists.opens c.args.cell c.args.task.0 ≡ Fold op → (IsTrue c.may_join.result → IsJoinSatisfied (opened_forest w.lists.opens (seen_of w.lists).given c.args.cell) op c.args.task.0) × (IsJoinSatisfied (opened_forest w.lists.opens (seen_of w.lists).given c.args.cell) op c.args.task.0 → IsTrue c.may_join.result)) c.self.view_is
    (λ op mode. c.may_join.ensures.join (seen_of c.self.inside.kept) op (c.self.invariant.booked c.in-Some.words c.in-Some.is) mode (subst (λ (w : Worded). IsFolding w.lists.opens c.args.task.0 c.args.cell) (sym c.self.view_is) c.requires))
