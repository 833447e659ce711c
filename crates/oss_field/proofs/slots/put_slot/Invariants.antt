use Rattle.oss_field.specs.Taking.{Puts}
use Rattle.oss_field.proofs.slots.put_slot.Given as goal

abbrev pub ghosts-write_last : goal.ghosts-write_last
ghosts-write_last a = record { tells = λ n v w. Puts a.words.now.key.code.value a._cells v w }
