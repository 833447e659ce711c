use Rattle.std.proofs.Common.{◌≡◌}
use Rattle.oss_field.specs.Taking.{after_count}
use Rattle.oss_field.proofs.slots.read_count.Given as goal

abbrev pub ghosts-read_word : goal.ghosts-read_word
ghosts-read_word a = record { tells = λ n k l. l ≡ after_count a._cells a._task n k }
