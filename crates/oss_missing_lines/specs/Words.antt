-- The word of a clause as it is told.
-- Read against: a strong clause to write is `inout`, and `out` where the cell is written first by what it says; a weak one to fold by `+` is `weakreduction(+)`.
use Rattle.std.specs.Prelude.{Bool}
use Rattle.oss_syntax.specs.declared.access.Mode.{Mode}
use Rattle.oss_explanation.specs.declared.explained.Use.{Use}
use Rattle.oss_explanation.specs.declared.explained.Word.{Word}
use Rattle.oss_explanation.specs.Held.{mark_for, use_of}
use Rattle.oss_needs.specs.declared.clause.Clause.{Clause}

-- what a mode says, of a cell that is written first or not
abbrev pub use_by : Mode → Bool → Use
use_by m fresh = use_of m (mark_for fresh)

-- the word of a clause
abbrev pub word_by : Clause → Word
word_by c = record { named = use_by c.mode c.fresh; strong = c.strong }
