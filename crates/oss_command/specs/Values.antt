-- How an option stands among words, as a reader tells it.
-- Read against: among the words `run p.c --fuel=5` the option fuel stands once, with the value 5; among `run p.c` it is absent; among
-- `run p.c --fuel=5 --fuel=6` it stands again.
use Rattle.oss_command.specs.Commands.{Standing}
use Rattle.oss_command.specs.Commands.Standing.{absent, again, once}
use Rattle.oss_command.specs.declared.values.Stands.{Stands}
use Rattle.oss_command.specs.declared.values.Stands.TheVariants as told

abbrev pub stands : Stands → Standing
stands told.Absent = absent
stands (told.Once value) = once value.now
stands told.Again = again
