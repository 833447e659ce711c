use Rattle.oss_field.specs.Hanging.{LinksAt}
use Rattle.oss_field.proofs.hanging.set_next.Given as goal

abbrev pub ghosts-add_link : goal.ghosts-add_link
ghosts-add_link a = record { tells = λ n k l. LinksAt a.words.now.key.entries a._cells a._entry a._last a._info a.by n k l }
