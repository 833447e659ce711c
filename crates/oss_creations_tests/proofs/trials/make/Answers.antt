use Rattle.std.proofs.Common.{subst}
use Rattle.oss_code.specs.declared.code.CodeParts.{CodeParts}
use Rattle.oss_creations.specs.Keeping.{HasMade}
use Rattle.oss_creations_tests.proofs.TrialLemmas.{was_made, went_past}
use Rattle.oss_creations_tests.proofs.trials.make.Goals as goal

pub go_past-requires-clause-made : goal.go_past-requires-clause-made
go_past-requires-clause-made c = (
  c.args.job.now,
  c.args.seat.now.known,
  subst (λ (z : CodeParts). HasMade z c.args.job.now c.create.new.job c.args.seat.now.known c.create.new.seat.known) c.requires.code
      (was_made c.args.field.now.code c.args.job.now c.create.new.job c.args.seat.now.known c.create.new.seat.known _ c.in-Some.task c.in-Some.is c.in_ok-task.ensures.created),
)

pub returns-in_ok-go_past-in-Some-clause-works : goal.returns-in_ok-go_past-in-Some-clause-works
returns-in_ok-go_past-in-Some-clause-works c =
    let made = was_made c.args.field.now.code c.args.job.now c.create.new.job c.args.seat.now.known c.create.new.seat.known _ c.in-Some.task c.in-Some.is c.in_ok-task.ensures.created in
    went_past c.args.field.now.code c.args.code.now c.args.job.now c.create.new.job c.go_past.new.job c.args.seat.now.known c.create.new.seat.known c.requires.code made c.in_ok-go_past-in-Some.ensures.acted
