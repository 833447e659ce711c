use Rattle.std.proofs.Common.{◌≡◌}
use Rattle.oss_field.specs.Linking.{began_list}
use Rattle.oss_field.proofs.linking.open_list.Given as goal

abbrev pub ghosts-write_entry : goal.ghosts-write_entry
ghosts-write_entry a = record { tells = λ n k l. l ≡ began_list a._cells a._entry k }
