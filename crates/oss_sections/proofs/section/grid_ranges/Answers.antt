use Rattle.oss_sections.proofs.NumberLemmas.{grid_fits}
use Rattle.oss_sections.proofs.section.grid_ranges.Goals as goal

pub ranges_of_rows-requires-clause-within : goal.ranges_of_rows-requires-clause-within
ranges_of_rows-requires-clause-within c =
    let down = c.in-Some-Some.down in
    let across = c.in-Some-Some.across in
    grid_fits c.args.start c.args.rows c.args.columns down.first down.size across.first across.size c.requires c.in-Some-Some.ensures.2 c.in-Some-Some.ensures'.2
