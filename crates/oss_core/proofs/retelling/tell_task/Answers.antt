use Rattle.std.proofs.Common.{ℕ, List, length, sym, subst}
use Rattle.std.specs.Prelude.{slice_index_or}
use Rattle.std.proofs.lemmas.Option.{slice_get-get_or}
use Rattle.oss_deps.specs.Opens.{HasOpened}
use Rattle.oss_syntax.specs.declared.access.Access.{Access}
use Rattle.oss_core.specs.Retelling.{AreGaps, Named}
use Rattle.oss_core.proofs.RegivenLemmas.{on_ok}
use Rattle.oss_core.proofs.retelling.tell_task.Goals as goal

pub tell_all_gaps-requires-clause-named : goal.tell_all_gaps-requires-clause-named
tell_all_gaps-requires-clause-named g c =
    subst (λ (xs : List Access). (cell : ℕ) → Named (length xs) xs cell → HasOpened (g.D.Deps.seen c.args.deps.now).opens cell c.args.task.0) (sym c.as_slice.ensures)
    (c.requires.named c.in_ok-accesses.accesses c.in_ok-accesses.ensures)

pub returns : goal.returns
returns g c =
    on_ok c.tell_all_gaps.result (λ gaps. (
      c.in_ok-accesses.accesses,
      c.in_ok-accesses.ensures,
      slice_index_or c.args.tasks.now c.args.task.0 c.index-tasks-task.result,
      slice_get-get_or c.args.tasks.now c.args.task.0 c.index-tasks-task.result c.requires.there,
      subst (λ (xs : List Access). AreGaps c.args.task.0 (Named (length xs) xs) (slice_index_or c.args.tasks.now c.args.task.0 c.index-tasks-task.result).owed.pieces (g.D.Deps.seen c.args.deps.now) (g.D.Deps.seen c.tell_all_gaps.new.deps)) c.as_slice.ensures gaps,
    )) c.tell_all_gaps.ensures
