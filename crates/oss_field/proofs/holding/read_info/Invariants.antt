use Rattle.oss_field.specs.Messages.{Informs}
use Rattle.oss_field.proofs.holding.read_info.Given as goal

abbrev pub ghosts-read_word : goal.ghosts-read_word
ghosts-read_word a = record { tells = λ n k l. Informs a._cells a._task n k l }
