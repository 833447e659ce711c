use Rattle.oss_field.specs.Asks.{IsStored}
use Rattle.oss_field.proofs.cells.store_cell.Given as goal

abbrev pub ghosts-write_for : goal.ghosts-write_for
ghosts-write_for a = record { tells = λ n k l. IsStored a.words.now.key.code.value a._job.now a._cell n k l }
