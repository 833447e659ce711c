use Rattle.std.proofs.Common.{◌≡◌, ◌<◌, List, length, Some, subst}
use Rattle.std.specs.Prelude.{slice_get}
use Rattle.oss_kept_tasks.specs.declared.held.Held.{Held}
use Rattle.oss_core.proofs.MakingLemmas.{fold_of, kept_is}
use Rattle.oss_core.proofs.NeedLemmas.{is_known}
use Rattle.oss_core.proofs.machine.Core.may_move.Goals as goal

pub may_step-requires-clause-known : goal.may_step-requires-clause-known
may_step-requires-clause-known g c = λ v l. is_known c.requires.1.core v (subst (λ (xs : List Held). v < length xs) c.as_slice-tasks.ensures.value l)

pub may_join-requires-clause-folding : goal.may_join-requires-clause-folding
may_join-requires-clause-folding g c = λ v k held op is owes. fold_of c.requires.1.core v k held op (subst (λ (xs : List Held). slice_get xs v ≡ Some held) c.as_slice-tasks.ensures.value is) owes

pub returns-in-Step-clause-same : goal.returns-in-Step-clause-same
returns-in-Step-clause-same g c = kept_is c.args.self.now.tasks.items c.args.self.now.tree c.args.self.now.cells.items (g.D.Deps.seen c.args.self.now.deps) (g.D.Deps.seen c.may_step.new.deps) c.may_step.ensures.same

pub returns-in-Join-clause-same : goal.returns-in-Join-clause-same
returns-in-Join-clause-same g c = kept_is c.args.self.now.tasks.items c.args.self.now.tree c.args.self.now.cells.items (g.D.Deps.seen c.args.self.now.deps) (g.D.Deps.seen c.may_join.new.deps) c.may_join.ensures.same
