use Rattle.oss_lower_bounds.proofs.FittingNumbers.{texts_fit_numbers}
use Rattle.oss_lower_bounds.proofs.laws.texts_fit_numbers.Goals as goal

pub returns : goal.returns
returns c = texts_fit_numbers
