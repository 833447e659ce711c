use Rattle.std.proofs.Common.{◌∙◌}
use Rattle.oss_pieces.specs.CellSets.{has}
use Rattle.oss_lack_words.proofs.WordLemmas.{run_fails}
use Rattle.oss_lack_words.proofs.old_words.has_one.Goals as goal

pub runs-preserved : goal.runs-preserved
runs-preserved c =
    run_fails (has c.args.set.now) c.runs.from c.run_from-held.result.1 c.args.range.hi c.run_from-held.ensures.some c.run_from-held.ensures.within
    (λ e l h. c.run_from-held.ensures.alike e l h ∙ c.if-held.false)
    ∙ c.runs.invariant
