use Rattle.oss_field.specs.Taking.{Takes}
use Rattle.oss_field.proofs.slots.take_slot.Given as goal

abbrev pub ghosts-exchange_word : goal.ghosts-exchange_word
ghosts-exchange_word a = record { tells = λ n v w. Takes a.words.now.key.code.value a.words.now.key.fuel a.words.now.key.entries a._cells a._task n v w }
