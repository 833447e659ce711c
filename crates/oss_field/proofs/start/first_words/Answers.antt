use Rattle.std.proofs.Common.{◌∙◌, ap, ℕ, ◌++◌, List, arith}
use Rattle.oss_field.specs.Standing.{blank_entry}
use Rattle.oss_field.proofs.StartLemmas.{more_words}
use Rattle.oss_field.proofs.start.first_words.Goals as goal

pub loop-preserved : goal.loop-preserved
loop-preserved c =
    let low = c.loop.invariant.0 in
    (omega (arith, low), c.in_ok-add_entry-2.ensures ∙ (ap (λ (z : List ℕ). z ++ blank_entry) c.loop.invariant.1 ∙ more_words c.args.cells.now c.loop.counter c.loop.invariant.0))
