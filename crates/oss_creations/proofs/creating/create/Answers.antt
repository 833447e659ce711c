use Rattle.std.proofs.Common.{subst, sym}
use Rattle.oss_code.specs.declared.code.CodeParts.{CodeParts}
use Rattle.oss_creations.specs.Accesses.{Gives}
use Rattle.oss_creations.specs.Creating.{OfNew}
use Rattle.oss_creations.proofs.creating.create.Goals as goal

pub create_as-created-requires-clause-new : goal.create_as-created-requires-clause-new
create_as-created-requires-clause-new c =
    subst (λ (z : CodeParts). OfNew z c.args.job.now (λ own. Gives own c.in_ok-new.accesses)) (sym c.requires.code) c.in_ok-new.ensures.gives
