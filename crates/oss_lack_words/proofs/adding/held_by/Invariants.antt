use Rattle.std.proofs.Common.{◌≡◌, List, take}
use Rattle.oss_syntax.specs.declared.tree.program.Item.{Item}
use Rattle.oss_explanation.specs.Held.{AreHeld}
use Rattle.oss_pieces.specs.Layouts.{grids_from}
use Rattle.oss_ranges.specs.Cells.{value_at}
use Rattle.oss_lack_words.specs.Told.{added}
use Rattle.oss_lack_words.proofs.adding.held_by.Given as goal

-- the words so far are told
abbrev pub invariant-loop-word : goal.invariant-loop-word
invariant-loop-word l = (all : List Item) → l.layout ≡ grids_from all 0 → AreHeld all (λ c. added (value_at l.lacks.pieces c)) (take l.word-index l.words) l.held.items
