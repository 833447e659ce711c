use Rattle.std.proofs.Common.{◌≡◌}
use Rattle.oss_field.specs.Linking.{told_info}
use Rattle.oss_field.proofs.linking.fill_info.Given as goal

abbrev pub ghosts-write_entry : goal.ghosts-write_entry
ghosts-write_entry a = record { tells = λ n k l. l ≡ told_info a._cells a._entry n k }
