use Rattle.std.proofs.Common.{ap, true, false}
use Rattle.oss_judge.proofs.ViewLemmas.{entry_is, same_table}
use Rattle.oss_judge.specs.Seen.{entry_at, lent_at, lending_told, mark_at, mark_told, right_at}
use Rattle.oss_model.specs.Rights.{Free, Holds, Written}
use Rattle.oss_ranges.specs.Cells.{value_at}
use Rattle.oss_syntax.specs.declared.access.Mode.TheVariants.{Write}
use Rattle.oss_judge.proofs.context.Context.main.Goals as goal

pub returns : goal.returns
returns c =
    ap (λ es. record { entries = es; ticks = 0; fuel = c.args.fuel; created = 0; depth = 0; final = false })
    (same_table (entry_at c.in_ok-rights.rights.pieces c.new.result.pieces c.new-2.result.pieces) (λ cell. record { right = Holds Write true; lent = Free; mark = Written }) c.args.cells
    (λ cell low. entry_is (right_at c.in_ok-rights.rights.pieces cell) (Holds Write true) (lent_at c.new.result.pieces cell) Free (mark_at c.new-2.result.pieces cell) Written
    (c.in_ok-rights.ensures.rights cell low) (ap (λ ps. lending_told (value_at ps cell)) c.new.ensures) (ap (λ ps. mark_told (value_at ps cell)) c.new-2.ensures)))
