use Rattle.oss_field.specs.Giving.{GivesRest}
use Rattle.oss_field.proofs.folding.join_rest.Given as goal

abbrev pub ghosts-add_link : goal.ghosts-add_link
ghosts-add_link a = record { tells = λ n k l. GivesRest a.words.now.key.entries a._cells a._entry a._last a._info n k l }
