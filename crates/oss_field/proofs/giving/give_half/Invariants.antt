use Rattle.oss_field.specs.Giving.{HasGivenHalf}
use Rattle.oss_field.proofs.giving.give_half.Given as goal

abbrev pub ghosts-add_given : goal.ghosts-add_given
ghosts-add_given a = record { tells = λ n k l. HasGivenHalf a.words.now.key.code.value a._job.now a._cells a._cell a._entry a._info n k l }
