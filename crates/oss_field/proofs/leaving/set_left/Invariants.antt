use Rattle.oss_field.specs.Leaving.{SetsLeft}
use Rattle.oss_field.proofs.leaving.set_left.Given as goal

abbrev pub ghosts-add_left : goal.ghosts-add_left
ghosts-add_left a = record { tells = λ n k l. SetsLeft a.words.now.key.entries a._cells a._entry n k l }
