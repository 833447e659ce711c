use Rattle.oss_body.specs.Mains.{code_main}
use Rattle.oss_core.specs.Cores.{kept_of}
use Rattle.oss_waves.proofs.RoundLemmas.{is_final, resting_runs}
use Rattle.oss_waves.proofs.RunLemmas.{opening_resting, run_given}
use Rattle.oss_waves.proofs.run.waves.Goals as goal

pub new-requires-2 : goal.new-requires-2
new-requires-2 g c =
    (c.args.code.now, resting_runs c.args.code.now (kept_of g.D.Deps.seen c.in_ok-core.core) (opening_resting c.args.code.now (code_main c.args.code.now c.args.fuel) c.args.code.now.first (kept_of g.D.Deps.seen c.in_ok-core.core) c.in_ok-core.ensures))

pub run_rounds-requires-clause-resting : goal.run_rounds-requires-clause-resting
run_rounds-requires-clause-resting g c κs within = opening_resting c.args.code.now (code_main c.args.code.now c.args.fuel) c.args.code.now.first (kept_of g.D.Deps.seen c.in_ok-core.core) c.in_ok-core.ensures

pub finish-requires : goal.finish-requires
finish-requires g c = (
  c.args.code.now,
  is_final c.args.code.now (kept_of g.D.Deps.seen c.in_ok-core.core) (kept_of g.D.Deps.seen c.run_rounds.new.core) c.in_ok-ran.ran
      (opening_resting c.args.code.now (code_main c.args.code.now c.args.fuel) c.args.code.now.first (kept_of g.D.Deps.seen c.in_ok-core.core) c.in_ok-core.ensures) c.in_ok-ran.ensures,
)

pub returns : goal.returns
returns g c =
    run_given (λ run. run.answer) (λ run. run.waves) (λ run. g.D.Deps.seen run.deps) c.finish.result c.args.code.now c.args.fuel (kept_of g.D.Deps.seen c.in_ok-core.core) (kept_of g.D.Deps.seen c.run_rounds.new.core) c.in_ok-ran.ran c.in_ok-core.ensures
    c.in_ok-ran.ensures c.finish.ensures.answer c.finish.ensures.waves c.finish.ensures.few c.finish.ensures.deps
