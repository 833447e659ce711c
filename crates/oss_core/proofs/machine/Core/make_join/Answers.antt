use Rattle.std.proofs.Common.{◌≡◌, sym, subst, ◌∙◌, Some}
use Rattle.oss_syntax.specs.declared.access.Op.{Op}
use Rattle.oss_ranges.specs.Cells.{value_at}
use Rattle.oss_kept_tasks.specs.declared.held.Held.{Held}
use Rattle.oss_kept_tasks.specs.declared.held.Owed.TheVariants as owed
use Rattle.oss_enabled_moves.specs.Enabled.{MayJoin}
use Rattle.oss_core.specs.Cores.{kept_of}
use Rattle.oss_core.proofs.CallLemmas.{on_ok}
use Rattle.oss_core.proofs.GoingLemmas.{read_is}
use Rattle.oss_core.proofs.KeepLemmas.{some_is}
use Rattle.oss_core.proofs.MakingLemmas.{holds_cell, join_owes, made_join, one_join}
use Rattle.oss_core.proofs.machine.Core.make_join.Goals as goal

pub join-requires-clause-owes : goal.join-requires-clause-owes
join-requires-clause-owes g c = join_owes (kept_of g.D.Deps.seen c.args.self.now) c.args.task.0 c.args.cell c.requires.may.0 c.requires.may.1

pub join-requires-clause-holds : goal.join-requires-clause-holds
join-requires-clause-holds g c = holds_cell c.requires.running.core c.args.task.0 c.args.cell (join_owes (kept_of g.D.Deps.seen c.args.self.now) c.args.task.0 c.args.cell c.requires.may.0 c.requires.may.1)

pub unreachable-requires : goal.unreachable-requires
unreachable-requires g c =
    let may = c.requires.may.1 in
    let read = read_is c.args.self.now.tasks.items c.args.task.0 c.index.result.now may.held may.is c.index.ensures in
    let same : may.held ≡ c.index.result.now = some_is (sym may.is ∙ read) in
    c.in-None.ensures c.requires.may.0 (c.get.ensures ∙ subst (λ (h : Held). value_at h.owed.pieces c.args.cell ≡ Some (owed.Join c.requires.may.0)) same may.folds.owes)

pub returns : goal.returns
returns g c =
    let may = c.requires.may.1 in
    let read = read_is c.args.self.now.tasks.items c.args.task.0 c.index.result.now may.held may.is c.index.ensures in
    let same : c.requires.may.0 ≡ c.in-Some.op = one_join (kept_of g.D.Deps.seen c.args.self.now) c.args.task.0 c.args.cell c.requires.may.0 c.in-Some.op c.index.result.now may read (sym c.get.ensures ∙ c.in-Some.ensures) in
    on_ok c.join.result (made_join c.args.code.now (kept_of g.D.Deps.seen c.args.self.now) (kept_of g.D.Deps.seen c.join.new.self) c.args.task c.args.cell c.in-Some.op
    (subst (λ (op : Op). MayJoin c.args.self.now.tasks.items c.args.self.now.tree.tasks (g.D.Deps.seen c.args.self.now.deps) c.args.task.0 c.args.cell op) same may)) c.join.ensures
