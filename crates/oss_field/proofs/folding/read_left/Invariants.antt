use Rattle.std.proofs.Common.{◌≡◌}
use Rattle.oss_field.specs.Folding.{read_value}
use Rattle.oss_field.proofs.folding.read_left.Given as goal

abbrev pub ghosts-read_word : goal.ghosts-read_word
ghosts-read_word a = record { tells = λ n k l. l ≡ read_value a._cells a._task n k }
