use Rattle.std.proofs.Common.{refl, subst}
use Rattle.oss_explain.specs.Endings.IsEnding.{done}
use Rattle.oss_explain.specs.Noting.{IsEndReached}
use Rattle.oss_explain.proofs.run.explain_from.Goals as goal

pub returns-in-Done : goal.returns-in-Done
returns-in-Done c =
    record {
      ending = done (subst (λ e. IsEndReached c.args.code.now c.args.fuel c.follow.new.stage c.follow.new.ledger e) c.in-Done.is c.in_ok-follow.ensures).1.1.1.1;
      failure = refl;
    }
