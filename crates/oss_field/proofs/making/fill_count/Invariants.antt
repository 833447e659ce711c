use Rattle.oss_field.specs.Making.{HasBegun}
use Rattle.oss_field.proofs.making.fill_count.Given as goal

abbrev pub ghosts-fill_word : goal.ghosts-fill_word
ghosts-fill_word a = record { tells = λ n k l. HasBegun a.words.now.key.code.value a.words.now.key.entries a._job.now a._task n k l }
