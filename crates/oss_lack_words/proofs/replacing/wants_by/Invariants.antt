use Rattle.std.proofs.Common.{◌≡◌, List, take}
use Rattle.oss_syntax.specs.declared.tree.program.Item.{Item}
use Rattle.oss_pieces.specs.Layouts.{grids_from}
use Rattle.oss_ranges.specs.Cells.{value_at}
use Rattle.oss_lack_words.specs.Told.{AreWantingOf, replacing}
use Rattle.oss_lack_words.proofs.replacing.wants_by.Given as goal

-- the words so far are told
abbrev pub invariant-loop-word : goal.invariant-loop-word
invariant-loop-word l = (all : List Item) → l.layout ≡ grids_from all 0 → AreWantingOf all (λ c. replacing (value_at l.lacks.pieces c)) l.is_final l.clauses (take l.word-index l.words) l.wants.items
