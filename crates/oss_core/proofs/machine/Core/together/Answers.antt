use Rattle.std.proofs.Common.{List, length, sym, subst}
use Rattle.oss_kept_tasks.specs.declared.held.Held.{Held}
use Rattle.oss_core.specs.Kept.{IsCore, Kept}
use Rattle.oss_core.specs.Retelling.{AreGiven, IsTold}
use Rattle.oss_core.proofs.PartLemmas.{retold}
use Rattle.oss_core.proofs.machine.Core.together.Goals as goal

pub returns-clause-core : goal.returns-clause-core
returns-clause-core g c =
    let ts = c.args.parts.tree.tasks in
    let told = subst (λ (xs : List Held). IsTold xs ts (length ts) 0 (g.D.Deps.seen c.tell_tasks.new.deps)) c.as_slice-tasks.ensures.value c.in_ok-tell_tasks.ensures in
    let given = subst (λ (xs : List Held). AreGiven xs (length ts) (g.D.Deps.seen c.tell_tasks.new.deps) (g.D.Deps.seen c.tell_cells.new.deps)) c.as_slice-tasks.ensures.value c.in_ok-tell_cells.ensures in
    λ code main first s parts.
    subst (λ (k : Kept). IsCore code main first k s) (sym c.with_deps.ensures.kept)
    (retold code main first c.args.parts s (g.D.Deps.seen c.tell_tasks.new.deps) (g.D.Deps.seen c.tell_cells.new.deps) parts told given)
