use Rattle.std.proofs.Common.{List, subst}
use Rattle.oss_syntax.specs.declared.access.Access.{Access}
use Rattle.oss_model.specs.Context.{Context}
use Rattle.oss_explain.specs.Ledgers.{AreAccesses}
use Rattle.oss_explain.proofs.WantingLemmas.{accesses_are}
use Rattle.oss_explain.proofs.HoldingLemmas.{if_ok_as}
use Rattle.oss_explain.proofs.wanting.child_accesses.Goals as goal

pub returns : goal.returns
returns c =
    if_ok_as c.accesses.result (λ (xs : List Access) a. subst (λ (x : Context). AreAccesses xs x) c.in_ok-child.ensures a)
    (accesses_are c.in_ok-child.child c.accesses.result c.accesses.ensures.rights c.accesses.ensures.marks c.accesses.ensures.rising)
