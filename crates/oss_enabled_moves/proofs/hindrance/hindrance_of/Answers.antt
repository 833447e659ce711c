use Rattle.std.proofs.Common.{◌≡◌, true, ap, subst, sym, ◌∙◌}
use Rattle.std.specs.Prelude.{MatchOption}
use Rattle.oss_body.specs.declared.act.Act.{Act}
use Rattle.oss_body.specs.Acts.{goes_on}
use Rattle.oss_body.specs.Relation.{pending_of}
use Rattle.oss_enabled_moves.specs.Enabled.{IsActMet}
use Rattle.oss_enabled_moves.specs.Hindering.{IsAwaited}
use Rattle.oss_enabled_moves.proofs.HindranceLemmas.{act_back, barred_back, goes_is}
use Rattle.oss_enabled_moves.proofs.hindrance.hindrance_of.Goals as goal

pub returns-in-Some-clause-hindrance : goal.returns-in-Some-clause-hindrance
returns-in-Some-clause-hindrance g c =
    let goes : goes_on (pending_of c.args.body.now) ≡ true = ap goes_on (sym c.pending.ensures.kept) ∙ goes_is c.is_fault.result c.pending.result.now c.is_fault.ensures c.if-is_fault.false in
    barred_back c.args.body.now c.args.tree.now.tasks (g.D.Deps.seen c.args.deps.now) c.args.task.0 c.in-Some.obstacle.0 (sym c.ended.ensures.kept ∙ c.if-ended.false) goes c.in-Some.ensures.barred

pub returns-in-None-clause-hindrance : goal.returns-in-None-clause-hindrance
returns-in-None-clause-hindrance g c =
    let goes : goes_on (pending_of c.args.body.now) ≡ true = ap goes_on (sym c.pending.ensures.kept) ∙ goes_is c.is_fault.result c.pending.result.now c.is_fault.ensures c.if-is_fault.false in
    act_back c.args.body.now c.args.tree.now.tasks (g.D.Deps.seen c.args.deps.now) (g.D.Deps.seen c.barred_by.new.deps) c.args.task.0 c.barred_by.ensures.same (sym c.ended.ensures.kept ∙ c.if-ended.false) goes c.in-None.ensures.barred c.awaited_by.result
    (subst
    (λ (a : Act). MatchOption c.awaited_by.result (IsActMet c.args.tree.now.tasks (g.D.Deps.seen c.barred_by.new.deps) c.args.task.0 a) (λ u. IsAwaited c.args.tree.now.tasks (g.D.Deps.seen c.barred_by.new.deps) c.args.task.0 a u.0))
    c.pending-in-None.ensures.kept c.awaited_by.ensures.awaited)
