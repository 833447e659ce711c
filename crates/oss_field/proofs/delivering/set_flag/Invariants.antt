use Rattle.oss_field.specs.Messages.{Passes}
use Rattle.oss_field.proofs.delivering.set_flag.Given as goal

abbrev pub ghosts-add_flag : goal.ghosts-add_flag
ghosts-add_flag a = record { tells = λ n k l. Passes a.words.now.key.entries a._cells a._message a._info n k l }
