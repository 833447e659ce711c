use Rattle.std.proofs.Common.{◌≡◌}
use Rattle.oss_field.specs.Linking.{told_clear}
use Rattle.oss_field.proofs.linking.fill_clear.Given as goal

abbrev pub ghosts-write_entry : goal.ghosts-write_entry
ghosts-write_entry a = record { tells = λ n k l. l ≡ told_clear a._cells a._entry k }
