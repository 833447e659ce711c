use Rattle.std.proofs.Common.{sym, subst, []}
use Rattle.std.specs.Prelude.{None}
use Rattle.oss_body.specs.Mains.{code_main}
use Rattle.oss_jobs.specs.declared.job.Job.{Job}
use Rattle.oss_jobs.specs.Jobs.{IsJob}
use Rattle.oss_creations_tests.proofs.trials.main_job.Goals as goal

pub returns : goal.returns
returns c =
    let code = c.args.code.now in
    let start = code_main code c.args.fuel in record {
      job = subst (λ (z : Job). IsJob code [] z 0 (record { start = start; found = [] }) (λ y. None)) (sym c.in_ok-new.ensures.ok)
          (c.in_ok-job.ensures.job code start [] c.in_ok-body.ensures (c.in_ok-accesses.ensures.rights code start [] c.in_ok-body.ensures));
    }
