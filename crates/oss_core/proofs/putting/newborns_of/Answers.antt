use Rattle.std.proofs.Common.{◌∷◌, ◌++◌, [], List, subst, sym}
use Rattle.oss_core.specs.declared.creating.Newborn.{Newborn}
use Rattle.oss_core.specs.Putting.{AreNewborns}
use Rattle.oss_core.proofs.AddLemmas.{newborns_more}
use Rattle.oss_core.proofs.putting.newborns_of.Goals as goal

pub loop-body-preserved : goal.loop-body-preserved
loop-body-preserved c =
    subst (λ (xs : List Newborn). AreNewborns xs (c.loop-body.yielded ++ c.in-Some.body ∷ [])) (sym c.in_ok-push.ensures.items)
    (newborns_more c.loop-body.newborns.items c.loop-body.yielded c.in_ok-newborn.newborn c.in-Some.body c.loop-body.invariant c.in_ok-newborn.ensures)
