use Rattle.oss_field.specs.Folding.{ReadsNumber}
use Rattle.oss_field.proofs.folding.read_number.Given as goal

abbrev pub ghosts-read_word : goal.ghosts-read_word
ghosts-read_word a = record { tells = λ n k l. ReadsNumber a._cells a._task n k l }
