use Rattle.std.proofs.Common.{refl, ◌∙◌}
use Rattle.oss_judge.proofs.FaultLemmas.{release_is}
use Rattle.oss_judge.specs.Seen.{right_at}
use Rattle.oss_model.specs.Context.{right_of}
use Rattle.oss_judge.proofs.context.Context.may_release_these.Goals as goal

pub returns : goal.returns
returns c = λ is. c.check_given.ensures ∙ release_is c.args.self.now c.args.clauses.now (right_of c.args.self.now) (right_at c.args.given.now.rights.pieces) (λ cell. refl) is.rights
