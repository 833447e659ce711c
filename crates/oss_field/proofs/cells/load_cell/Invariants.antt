use Rattle.oss_field.specs.Asks.{IsLoaded}
use Rattle.oss_field.proofs.cells.load_cell.Given as goal

abbrev pub ghosts-read_for : goal.ghosts-read_for
ghosts-read_for a = record { tells = λ n k l. IsLoaded a.words.now.key.code.value a._job.now a._cell n k l }
