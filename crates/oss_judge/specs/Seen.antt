-- What the code keeps of a cell, as the definitions see it. A cell of which a map tells nothing has no right, is not lent, and was
-- written.
use Rattle.std.specs.Prelude.{ℕ, List, Option, Some, None}
use Rattle.oss_ranges.specs.Cells.{value_at}
use Rattle.oss_ranges.specs.declared.piece.Piece.{Piece}
use Rattle.oss_model.specs.Context.{Entry}
use Rattle.oss_model.specs.Rights as rights
use Rattle.oss_model.specs.Rights.{NoRight, Holds, Free, Unwritten, Written}
use Rattle.oss_judge.specs.declared.right.Right.{Right}
use Rattle.oss_judge.specs.declared.right.Right.TheVariants as right
use Rattle.oss_judge.specs.declared.lending.Lending.{Lending}
use Rattle.oss_judge.specs.declared.lending.Lending.TheVariants as lending
use Rattle.oss_judge.specs.declared.mark.Mark.{Mark}
use Rattle.oss_judge.specs.declared.mark.Mark.TheVariants as mark

abbrev pub right_seen : Right → rights.Right
right_seen right.Nothing = NoRight
right_seen right.Released = rights.Released
right_seen (right.Holds mode strong) = Holds mode strong

abbrev pub lending_seen : Lending → rights.Lending
lending_seen lending.Free = Free
lending_seen lending.Reading = rights.Reading
lending_seen lending.Writing = rights.Writing

abbrev pub mark_seen : Mark → rights.Mark
mark_seen mark.Unwritten = Unwritten
mark_seen mark.Written = Written

-- what a map tells of a cell, if anything
abbrev pub right_told : Option Right → rights.Right
right_told None = NoRight
right_told (Some r) = right_seen r

abbrev pub lending_told : Option Lending → rights.Lending
lending_told None = Free
lending_told (Some l) = lending_seen l

abbrev pub mark_told : Option Mark → rights.Mark
mark_told None = Written
mark_told (Some m) = mark_seen m

-- what maps tell of a cell
abbrev pub right_at : List (Piece Right) → ℕ → rights.Right
right_at pieces cell = right_told (value_at pieces cell)

abbrev pub lent_at : List (Piece Lending) → ℕ → rights.Lending
lent_at pieces cell = lending_told (value_at pieces cell)

abbrev pub mark_at : List (Piece Mark) → ℕ → rights.Mark
mark_at pieces cell = mark_told (value_at pieces cell)

-- the entry of a cell
abbrev pub entry_at : List (Piece Right) → List (Piece Lending) → List (Piece Mark) → ℕ → Entry
entry_at rights lent marks cell = record { right = right_at rights cell; lent = lent_at lent cell; mark = mark_at marks cell }
