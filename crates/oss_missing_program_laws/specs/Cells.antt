-- Which cells programs touch and name: those of their globals alone. A place that is in no global is the fault OutOfRange, and no touch.
-- Read against: a program with `long x, a[3];` has the cells 0 to 3. `a[3] = 1;` stands before OutOfRange and stores nowhere, and so does a task with `out(a[2;2])` at its creation; `a[2] = 1;` stores in cell 3.
use Rattle.std.specs.Prelude.{List, length}
use Rattle.oss_syntax.specs.declared.tree.program.Item.{Item}
use Rattle.oss_meaning.specs.Meaning.{asks_of}
use Rattle.oss_meaning.specs.Results.{first_cells}
use Rattle.oss_code.specs.declared.code.CodeParts.{CodeParts}
use Rattle.oss_machine.specs.Machines.{asks}
use Rattle.oss_lower_laws.specs.Lowered.{IsLowered}
use Rattle.oss_lower_laws.specs.Programs.{HavePlaces, IsCodeOf}
use Rattle.oss_freed.specs.Freed.{LeavesClausesToTheJudge, TouchesItsCells}
use Rattle.oss_missing_laws.specs.Programs.{NamesItsCells}

-- The code of a program touches its own cells alone.
abbrev pub CodesTouchTheirCells : Type 0
CodesTouchTheirCells = (all : List Item) (code : CodeParts) → IsLowered all code → TouchesItsCells (length code.first) (asks code)

-- Its clauses name them alone.
abbrev pub CodesNameTheirCells : Type 0
CodesNameTheirCells = (all : List Item) (code : CodeParts) → IsLowered all code → NamesItsCells (length code.first) (asks code)

-- So it is with a program whose globals have their places: it touches its own cells alone,
abbrev pub ProgramsTouchTheirCells : Type 0
ProgramsTouchTheirCells = (all : List Item) → HavePlaces 0 all → TouchesItsCells (length (first_cells all)) (asks_of all)

-- and its clauses name them alone.
abbrev pub ProgramsNameTheirCells : Type 0
ProgramsNameTheirCells = (all : List Item) → HavePlaces 0 all → NamesItsCells (length (first_cells all)) (asks_of all)

-- No body of a program that has a code asks for a fault of annotations: as of codes, only the judge finds one.
abbrev pub ProgramsLeaveClauses : Type 0
ProgramsLeaveClauses = (all : List Item) (code : CodeParts) → IsCodeOf all code → LeavesClausesToTheJudge (asks_of all)
