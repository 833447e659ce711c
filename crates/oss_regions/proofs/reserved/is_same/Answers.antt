use Rattle.std.proofs.Common.{ap}
use Rattle.oss_syntax.specs.declared.access.Access.{Access}
use Rattle.oss_deps.proofs.SameLemmas.{same_access}
use Rattle.oss_regions.proofs.reserved.is_same.Goals as goal

pub returns : goal.returns
returns c = (
  λ e. same_access c.args.left c.args.right c.if-left-right.false c.if-left-right-2.false (c.is_same_mode.ensures.0 c.if-not-is_same_mode.false) (c.is_same_flag.ensures.0 c.if-not-is_same_flag.false) (c.is_same_flag-2.ensures.0 e),
  λ e. c.is_same_flag-2.ensures.1 (ap (λ (a : Access). a.fresh) e),
)
