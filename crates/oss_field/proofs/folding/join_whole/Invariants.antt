use Rattle.oss_field.specs.Folding.{JoinsWhole}
use Rattle.oss_field.proofs.folding.join_whole.Given as goal

abbrev pub ghosts-add_flag : goal.ghosts-add_flag
ghosts-add_flag a = record { tells = λ n k l. JoinsWhole a.words.now.key.entries a._cells a._message.entry a._info n k l }
