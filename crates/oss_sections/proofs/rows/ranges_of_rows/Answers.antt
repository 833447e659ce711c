use Rattle.std.proofs.Common.{Ok, ap}
use Rattle.oss_sections.proofs.RowLemmas.{rows-wide}
use Rattle.oss_sections.proofs.ToldLemmas.{told_same}
use Rattle.oss_sections.proofs.rows.ranges_of_rows.Goals as goal

pub returns-then-size-columns : goal.returns-then-size-columns
returns-then-size-columns c =
    told_same _ _ _ (ap Ok (rows-wide c.args.columns c.args.size c.args.first c.args.rows c.if-size-columns.true)) c.one_range.ensures
