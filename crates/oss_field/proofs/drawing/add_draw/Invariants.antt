use Rattle.oss_field.specs.Drawing.{IsDrawn}
use Rattle.oss_field.proofs.drawing.add_draw.Given as goal

abbrev pub ghosts-add_word : goal.ghosts-add_word
ghosts-add_word a = record { tells = λ n k l. IsDrawn a._entries a._count n k l }
