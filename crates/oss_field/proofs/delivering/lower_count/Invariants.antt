use Rattle.oss_field.specs.Messages.{Lowers}
use Rattle.oss_field.proofs.delivering.lower_count.Given as goal

abbrev pub ghosts-lower_word : goal.ghosts-lower_word
ghosts-lower_word a = record { tells = λ n k l. Lowers a._cells a._task n k l }
