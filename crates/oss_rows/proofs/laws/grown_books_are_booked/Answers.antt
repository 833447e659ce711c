use Rattle.oss_rows.proofs.BookLaw.{grown_booked}
use Rattle.oss_rows.proofs.laws.grown_books_are_booked.Goals as goal

pub returns : goal.returns
returns c = λ b role w r booked new. grown_booked b role booked w r new
