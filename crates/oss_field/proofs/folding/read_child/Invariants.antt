use Rattle.oss_field.specs.Folding.{ReadsChild}
use Rattle.oss_field.proofs.folding.read_child.Given as goal

abbrev pub ghosts-read_below_word : goal.ghosts-read_below_word
ghosts-read_below_word a = record { tells = λ n k l. ReadsChild a.words.now.key.entries a._cells a._entry a._child n k l }
