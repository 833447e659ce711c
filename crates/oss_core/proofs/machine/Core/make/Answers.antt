use Rattle.std.proofs.Common.{subst, sym}
use Rattle.std.specs.Prelude.{OnOk}
use Rattle.oss_model.specs.declared.moving.Move.{Move}
use Rattle.oss_core.specs.Changes.{IsMade, MayMove}
use Rattle.oss_core.specs.Cores.{kept_of}
use Rattle.oss_core.proofs.CallLemmas.{on_ok}
use Rattle.oss_core.proofs.MakingLemmas.{holds_cell, let_owes, made_let}
use Rattle.oss_core.proofs.machine.Core.make.Goals as goal

pub let_go-requires-clause-owes : goal.let_go-requires-clause-owes
let_go-requires-clause-owes g c = let_owes (kept_of g.D.Deps.seen c.args.self.now) c.in-Let.task.0 c.in-Let.cell (subst (MayMove (kept_of g.D.Deps.seen c.args.self.now)) c.in-Let.is c.requires.may)

pub let_go-requires-clause-holds : goal.let_go-requires-clause-holds
let_go-requires-clause-holds g c =
    holds_cell c.requires.running.core c.in-Let.task.0 c.in-Let.cell (let_owes (kept_of g.D.Deps.seen c.args.self.now) c.in-Let.task.0 c.in-Let.cell (subst (MayMove (kept_of g.D.Deps.seen c.args.self.now)) c.in-Let.is c.requires.may))

pub returns-in-Step : goal.returns-in-Step
returns-in-Step g c = subst (λ (m : Move). OnOk c.make_step.result (IsMade c.args.code.now (kept_of g.D.Deps.seen c.args.self.now) (kept_of g.D.Deps.seen c.make_step.new.self) m)) (sym c.in-Step.is) c.make_step.ensures

pub returns-in-Let : goal.returns-in-Let
returns-in-Let g c =
    subst (λ (m : Move). OnOk c.let_go.result (IsMade c.args.code.now (kept_of g.D.Deps.seen c.args.self.now) (kept_of g.D.Deps.seen c.let_go.new.self) m)) (sym c.in-Let.is)
    (on_ok c.let_go.result (made_let c.args.code.now (kept_of g.D.Deps.seen c.args.self.now) (kept_of g.D.Deps.seen c.let_go.new.self) c.in-Let.task c.in-Let.cell (subst (MayMove (kept_of g.D.Deps.seen c.args.self.now)) c.in-Let.is c.requires.may)) c.let_go.ensures)

pub returns-in-Join : goal.returns-in-Join
returns-in-Join g c = subst (λ (m : Move). OnOk c.make_join.result (IsMade c.args.code.now (kept_of g.D.Deps.seen c.args.self.now) (kept_of g.D.Deps.seen c.make_join.new.self) m)) (sym c.in-Join.is) c.make_join.ensures
