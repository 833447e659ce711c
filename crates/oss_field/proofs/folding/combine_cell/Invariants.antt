use Rattle.std.proofs.Common.{◌≡◌}
use Rattle.oss_field.specs.Folding.{combined}
use Rattle.oss_field.proofs.folding.combine_cell.Given as goal

abbrev pub ghosts-fold_add : goal.ghosts-fold_add
ghosts-fold_add a = record { tells = λ n k l. l ≡ combined a._entry a._cell n k }

abbrev pub ghosts-fold_and : goal.ghosts-fold_and
ghosts-fold_and a = record { tells = λ n k l. l ≡ combined a._entry a._cell n k }

abbrev pub ghosts-fold_or : goal.ghosts-fold_or
ghosts-fold_or a = record { tells = λ n k l. l ≡ combined a._entry a._cell n k }

abbrev pub ghosts-fold_xor : goal.ghosts-fold_xor
ghosts-fold_xor a = record { tells = λ n k l. l ≡ combined a._entry a._cell n k }
