use Rattle.oss_field.specs.Making.{HoldsNew, PutsNew}
use Rattle.oss_field.proofs.making.put_new.Given as goal

abbrev pub ghosts-hold_word : goal.ghosts-hold_word
ghosts-hold_word a = record { tells = λ n v w. HoldsNew a.words.now.key.code.value a._cells a._job.now v w }

abbrev pub ghosts-write_last : goal.ghosts-write_last
ghosts-write_last a = record { tells = λ n v w. PutsNew a.words.now.key.code.value a._cells v w }
