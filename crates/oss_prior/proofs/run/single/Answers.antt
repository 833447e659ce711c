use Rattle.oss_core.specs.Cores.{kept_of}
use Rattle.oss_prior.proofs.RunLemmas.{core_runs, first_quiet, is_final, run_given}
use Rattle.oss_prior.proofs.run.single.Goals as goal

pub take_turns-requires-clause-running : goal.take_turns-requires-clause-running
take_turns-requires-clause-running g c κs within = core_runs c.args.code.now c.args.fuel (kept_of g.D.Deps.seen c.in_ok-core.core) c.in_ok-core.ensures

pub take_turns-requires-clause-quiet : goal.take_turns-requires-clause-quiet
take_turns-requires-clause-quiet g c κs within = first_quiet c.args.code.now c.args.fuel (kept_of g.D.Deps.seen c.in_ok-core.core) c.in_ok-core.ensures

pub finish-requires : goal.finish-requires
finish-requires g c = (
  c.args.code.now,
  is_final c.args.code.now c.args.fuel (kept_of g.D.Deps.seen c.in_ok-core.core) (kept_of g.D.Deps.seen c.take_turns.new.core) c.in_ok-order.order c.in_ok-core.ensures c.in_ok-order.ensures,
)

pub returns : goal.returns
returns g c =
    run_given (λ run. run.answer) (λ run. run.order) (λ run. run.tasks) c.finish.result c.args.code.now c.args.fuel (kept_of g.D.Deps.seen c.in_ok-core.core) (kept_of g.D.Deps.seen c.take_turns.new.core) c.in_ok-order.order c.in_ok-core.ensures
    c.in_ok-order.ensures c.finish.ensures.answer c.finish.ensures.order c.finish.ensures.tasks c.finish.ensures.few
