use Rattle.oss_rows.proofs.TaskLaw as lemmas
use Rattle.oss_rows.specs.contracts.laws.new_books_are_of_none.{S-type}
use Rattle.oss_rows.proofs.laws.new_books_are_of_none.Goals as goal

pub returns : goal.returns
returns g c = lemmas.new_books_are_of_none (S-type g.row.S)
