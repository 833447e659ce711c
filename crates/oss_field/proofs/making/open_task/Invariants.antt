use Rattle.oss_field.specs.Making.{Opens}
use Rattle.oss_field.proofs.making.open_task.Given as goal

abbrev pub ghosts-lower_word : goal.ghosts-lower_word
ghosts-lower_word a = record { tells = λ n k l. Opens a.words.now.key.code.value a.words.now.key.entries a._job.now a._task n k l }
