use Rattle.std.proofs.Common.{ap, ◌∙◌, ◌++◌, [], ◌∷◌, List, arith}
use Rattle.std.specs.Prelude.{None}
use Rattle.oss_field.specs.Table.{Slot}
use Rattle.oss_field.proofs.StartLemmas.{more_slots}
use Rattle.oss_field.proofs.start.first_slots.Goals as goal

pub loop-preserved : goal.loop-preserved
loop-preserved c =
    let low = c.loop.invariant.0 in
    (omega (arith, low), c.in_ok-push-2.ensures.items ∙ (ap (λ (z : List Slot). z ++ (None ∷ [])) c.loop.invariant.1 ∙ more_slots c.args.job c.loop.counter c.loop.invariant.0))
