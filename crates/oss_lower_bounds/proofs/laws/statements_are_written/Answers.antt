use Rattle.oss_lower_bounds.proofs.WrittenStatements.{statements_are_written}
use Rattle.oss_lower_bounds.proofs.laws.statements_are_written.Goals as goal

pub returns : goal.returns
returns c = statements_are_written
