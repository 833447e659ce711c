-- Evaluated sections of the code, as those of the definitions, and what is told of one.
-- Read against: of `long x, a[4];` the section `a[1:]` is a part from 1 on of the base with the start 1 and 4 cells; it is told as the one
-- range 2..5, and of `a[4]` the fault OutOfRange is told.
use Rattle.std.specs.Prelude.{◌≡◌, ℕ, List, Result, Ok, Err}
use Rattle.oss_grammar.specs.SectionCells.{Base as MeantBase, Part as MeantPart, Extent as MeantExtent}
use Rattle.oss_grammar.specs.SectionCells.Part.{elements, span}
use Rattle.oss_grammar.specs.SectionCells.Extent.{whole, part, grid}
use Rattle.oss_syntax.specs.declared.access.Range.{Range}
use Rattle.oss_syntax.specs.declared.fault.FaultKind.{FaultKind}
use Rattle.oss_sections.specs.declared.base.Base.{Base}
use Rattle.oss_sections.specs.declared.base.Part.{Part}
use Rattle.oss_sections.specs.declared.base.Part.TheVariants.{Elements, Span}
use Rattle.oss_sections.specs.declared.base.Extent.{Extent}
use Rattle.oss_sections.specs.declared.base.Extent.TheVariants as extent
use Rattle.oss_sections.specs.declared.refused.SectionRefused.{SectionRefused}
use Rattle.oss_sections.specs.declared.refused.SectionRefused.TheVariants.{Fault, Memory}
use Rattle.oss_sections.specs.RangeCells.{AreApart, cells_of}

-- the base of the definitions: of `m` of `long x, m[3][4];` it has the start 1, 12 cells in rows of 4, and the index 0
abbrev pub meant_base : Base → MeantBase
meant_base b = record { start = b.start; count = b.count; columns = b.columns; index = b.index }

-- the part of the definitions: `1;2` is so many elements from 1 on
abbrev pub meant_part : Part → MeantPart
meant_part (Elements from count) = elements from count
meant_part (Span lower upper) = span lower upper

-- what a section names, in the definitions: `m[0:1][1;2]` a part of the rows and one of the columns
abbrev pub meant_extent : Extent → MeantExtent
meant_extent extent.Whole = whole
meant_extent (extent.Part p) = part (meant_part p)
meant_extent (extent.Grid rows columns) = grid (meant_part rows) (meant_part columns)

-- why the cells are not told: the section has this fault; of want of memory nothing is said
abbrev pub IsWhy : Result (List ℕ) FaultKind → SectionRefused → Type 0
IsWhy cells (Fault kind) = cells ≡ Err kind
IsWhy cells (Memory full) = Unit {0}

-- What is told of a section: ranges that have its cells in their order, each apart from the next; or its fault. The cells 1, 2, 5 and 6
-- are told as 1..3 and 5..7, and no others.
abbrev pub IsTold : Result (List ℕ) FaultKind → Result (List Range) SectionRefused → Type 0
IsTold cells (Ok ranges) = (cells ≡ Ok (cells_of ranges)) × AreApart ranges
IsTold cells (Err refused) = IsWhy cells refused
