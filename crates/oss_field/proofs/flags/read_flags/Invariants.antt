use Rattle.std.proofs.Common.{◌≡◌}
use Rattle.oss_field.specs.Reading.{after_flags}
use Rattle.oss_field.proofs.flags.read_flags.Given as goal

abbrev pub ghosts-read_word : goal.ghosts-read_word
ghosts-read_word a = record { tells = λ n k l. l ≡ after_flags a._cells a._task n k }
