use Rattle.oss_field.specs.Folding.{ReadsBelow}
use Rattle.oss_field.proofs.folding.read_below.Given as goal

abbrev pub ghosts-read_word : goal.ghosts-read_word
ghosts-read_word a = record { tells = λ n k l. ReadsBelow a.words.now.key.entries a._cells a._task n k l }
