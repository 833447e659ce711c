use Rattle.std.proofs.Common.{◌≡◌, ◌<◌, ℕ, Bool, Some, ap, ◌∙◌, min, arith, if◌then◌else◌}
use Rattle.std.proofs.lemmas.Bool.Decides.{nat_tests}
use Rattle.oss_ranges.specs.Cells.{is_within}
use Rattle.oss_judge.proofs.ChangeLemmas.{overlaid_behind, overlaid_more}
use Rattle.oss_judge.specs.Changed.{overlaid}
use Rattle.oss_judge.specs.declared.right.Right.TheVariants.{Released}
use Rattle.oss_judge.proofs.changes.add_ending.Goals as goal

-- up to the last cell the end of a range does not matter
cut_within : (lo hi cells cell : ℕ) → cell < cells → is_within lo (min hi cells) cell ≡ is_within lo hi cell
cut_within lo hi cells cell low = grind (arith, nat_tests)

pub returns-clause-here : goal.returns-clause-here
returns-clause-here c = λ cell value low.
    ap (λ xs. overlaid xs cell value) c.in_ok-push.ensures.items ∙ overlaid_more c.args.changes.now.items _ cell value
    ∙ ap (λ hi. if is_within c.args.clause.now.range.lo hi cell then Some Released else overlaid c.args.changes.now.items cell value) c.min.ensures
    ∙ ap (λ (b : Bool). if b then Some Released else overlaid c.args.changes.now.items cell value) (cut_within c.args.clause.now.range.lo c.args.clause.now.range.hi c.args.cells cell low)

pub returns-clause-past : goal.returns-clause-past
returns-clause-past c = λ cell value far.
    let least = c.min.ensures in
    ap (λ xs. overlaid xs cell value) c.in_ok-push.ensures.items ∙ overlaid_behind c.args.changes.now.items _ cell value (omega arith)
