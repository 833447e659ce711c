-- What the bodies of programs ask for: no three silent asks in a row, and releases by dependencies alone.
-- Read against: `f` is a function with the pragma `task` without clauses. Behind `#pragma oss task if(f(1))` a statement asks for a tick, for the beginning of its creation, and then for
-- that of the creation that its clause makes: two silent asks in a row. The next one creates the task of `f`. (No accepted text has such a clause; the law is about all trees.) The pragma
-- `release in(x), out(a[0;2])` has dependencies alone. A tree with `release reduction(+: x)` or `release if(x)` does not, and the grammar has neither.
use Rattle.std.specs.Prelude.{◌≡◌, ℕ, Bool, true, false, ◌&&◌, List, [], ◌∷◌, map, Option, Some, None}
use Rattle.oss_syntax.specs.declared.access.Mode.{Mode}
use Rattle.oss_syntax.specs.declared.access.Mode.TheVariants.{Fold}
use Rattle.oss_syntax.specs.declared.tree.pragma.Clause.{Clause}
use Rattle.oss_syntax.specs.declared.tree.pragma.Clause.TheVariants as clause
use Rattle.oss_syntax.specs.declared.tree.program.Item.{Item}
use Rattle.oss_syntax.specs.declared.tree.program.Item.TheVariants as items
use Rattle.oss_syntax.specs.declared.tree.program.Program.{Program}
use Rattle.oss_syntax.specs.declared.tree.stmt.Stmt.{Stmt}
use Rattle.oss_syntax.specs.declared.tree.stmt.StmtKind.TheOpen.{StmtKind-F, Stmt-F}
use Rattle.oss_syntax.specs.declared.tree.stmt.StmtKind.TheOpen as open_stmt
use Rattle.oss_syntax.specs.declared.tree.stmt.StmtKind.TheFolds.{fold-Stmt}
use Rattle.oss_grammar.specs.Parsing.{IsProgramText}
use Rattle.oss_grammar.specs.TaskLoops.{program_written}
use Rattle.oss_meaning.specs.Meaning.{asks_of}
use Rattle.oss_missing_laws.specs.Programs.{ReleasesPlainly, SettlesInTwo}

-- Silent asks

-- No body of a program has three silent asks in a row.
abbrev pub ProgramsSettleInTwo : Type 0
ProgramsSettleInTwo = (all : List Item) → SettlesInTwo (asks_of all)

-- Releases

-- the mode is none of a reduction
abbrev pub is_unfolded : Mode → Bool
is_unfolded (Fold op) = false
is_unfolded _ = true

-- the clause is a dependency, and no reduction
abbrev pub is_dependency : Clause → Bool
is_dependency (clause.Depend mode strong fresh sections) = is_unfolded mode
is_dependency _ = false

-- each of these clauses is
abbrev pub are_dependencies : List Clause → Bool
are_dependencies [] = true
are_dependencies (c ∷ rest) = is_dependency c && are_dependencies rest

-- each of these holds
abbrev pub all_hold : List Bool → Bool
all_hold [] = true
all_hold (b ∷ rest) = b && all_hold rest

-- what is left out holds
abbrev pub part_holds : Option Bool → Bool
part_holds None = true
part_holds (Some b) = b

-- a statement, by whether each `release` in the statements in it has dependencies alone
abbrev pub releases_step : StmtKind-F Bool Bool → Bool
releases_step (open_stmt.Block inner) = all_hold inner
releases_step open_stmt.Empty = true
releases_step (open_stmt.Declare locals) = true
releases_step (open_stmt.Assign target o e) = true
releases_step (open_stmt.Call name es) = true
releases_step (open_stmt.Print format es) = true
releases_step (open_stmt.If e side other) = side && part_holds other
releases_step (open_stmt.While e body) = body
releases_step (open_stmt.For first test last body) = part_holds first && (part_holds last && body)
releases_step (open_stmt.Return e) = true
releases_step open_stmt.Break = true
releases_step open_stmt.Continue = true
releases_step (open_stmt.Task mark body) = body
releases_step (open_stmt.TaskLoop head body) = body
releases_step (open_stmt.TaskWait sections) = true
releases_step (open_stmt.Release clauses) = are_dependencies clauses

-- each `release` in the statement has dependencies alone
abbrev pub releases_dependencies : Stmt → Bool
releases_dependencies = fold-Stmt Bool Bool releases_step (λ s. s.what)

-- so it is in each of these statements
abbrev pub body_releases : List Stmt → Bool
body_releases ss = all_hold (map releases_dependencies ss)

-- Each `release` in the functions among these items has dependence clauses alone, none of a reduction.
abbrev pub ReleasesByDependencies : List Item → Type 0
ReleasesByDependencies [] = Unit {0}
ReleasesByDependencies (items.Global g ∷ rest) = ReleasesByDependencies rest
ReleasesByDependencies (items.Function f ∷ rest) = (body_releases f.body ≡ true) × ReleasesByDependencies rest

-- Such a program releases by no clause of a reduction.
abbrev pub ProgramsReleasePlainly : Type 0
ProgramsReleasePlainly = (all : List Item) → ReleasesByDependencies all → ReleasesPlainly (asks_of all)

-- The program as which a text is read is such a program, its task loops written out.
abbrev pub TextsReleaseByDependencies : Type 0
TextsReleaseByDependencies = (text : List ℕ) (p : Program) → IsProgramText text p → ReleasesByDependencies (program_written p).items
