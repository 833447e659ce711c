use Rattle.oss_field.specs.Leaving.{WroteValue}
use Rattle.oss_field.proofs.leaving.write_value.Given as goal

abbrev pub ghosts-write_beside : goal.ghosts-write_beside
ghosts-write_beside a = record { tells = λ n k l. WroteValue a.words.now.key.code.value a._job.now a._cells a._cell n a._entry k l }
