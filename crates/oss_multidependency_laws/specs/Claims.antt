-- What holds of every program with multidependencies.
-- Read against: `in({ a[k * 2], k = 0; 4 })` evaluates `0 * 2`, `1 * 2`, `2 * 2` and `3 * 2`, tests the element of each behind it, and declares reads of the cells of
-- `a[0]`, `a[2]`, `a[4]` and `a[6]`, as `in(a[0 * 2], a[1 * 2], a[2 * 2], a[3 * 2])` does.
use Rattle.std.specs.Prelude.{◌≡◌, ◌↔◌, ℕ, Bool, true, List, [], ◌∷◌, ◌++◌, length}
use Rattle.oss_syntax.specs.declared.access.Access.{Access}
use Rattle.oss_syntax.specs.declared.tree.expr.Expr.{Expr}
use Rattle.oss_syntax.specs.declared.tree.pragma.Clause.{Clause}
use Rattle.oss_syntax.specs.declared.tree.pragma.Section.{Section}
use Rattle.oss_syntax.specs.declared.tree.program.Item.{Item}
use Rattle.oss_syntax.specs.declared.tree.program.Local.{Local}
use Rattle.oss_syntax.specs.declared.tree.program.Program.{Program as Tree}
use Rattle.oss_grammar.specs.Parsing.{IsProgramText}
use Rattle.oss_grammar.specs.ProgramRules.{program_rules}
use Rattle.oss_grammar.specs.TaskLoops.{program_written}
use Rattle.oss_model.specs.Bodies.{Program, Start}
use Rattle.oss_meaning.specs.declared.clauses.Declared.{Declared}
use Rattle.oss_meaning.specs.declared.value.Value.{Value}
use Rattle.oss_meaning.specs.declared.value.Value.TheVariants as value
use Rattle.oss_meaning.specs.Clauses.{Made, clauses_run}
use Rattle.oss_meaning.specs.Expressions.{Here, TreeRun, sense_of}
use Rattle.oss_meaning.specs.Results.{IsOutcome, IsOutcomeOf, Outcome}
use Rattle.oss_meaning.specs.Sections.{sections_run}
use Rattle.oss_multidependency_laws.specs.Fitting.{program_fits}
use Rattle.oss_multidependency_laws.specs.Grouping.{IsSteady, IsSteadyMade, plain_asked, plain_start}
use Rattle.oss_multidependency_laws.specs.Unrolling.{is_signed, items_unrolled, program_unrolled, spelled, unrolled_clauses, unrolled_sections}

-- An expression with a number spelled in place of a name means what the expression means where the newest local has this name and this number,
-- and is a signed number: it asks for the same, has the same faults, and gives the same value.
abbrev pub SpelledMeansTheSame : Type 0
SpelledMeansTheSame = (all : List Item) (scope : List Local) (v : Local) (k : ℕ) (e : Expr) → is_signed v.kind ≡ true
    → (line : ℕ) (here : Here) (locals : List Value) → length locals ≡ length scope → (go : Value → TreeRun)
    → (sense_of all (scope ++ v ∷ []) e).value line here (locals ++ value.Num k ∷ []) go ≡ (sense_of all scope (spelled v.name k e)).value line here locals go

-- Sections and those with each chosen multidependency unrolled evaluate the same, have the same faults, and declare the same cells in the same order:
-- what goes on with them in one way for all accesses that are the same with each cell alone, goes on with both alike.
abbrev pub UnrolledSectionsMeanTheSame : Type 0
UnrolledSectionsMeanTheSame = (chosen : Section → Bool) (all : List Item) (scope : List Local) (d : Declared) (sections : List Section)
    (line : ℕ) (here : Here) (locals : List Value) (made : List Access) (go : List Access → TreeRun) → length locals ≡ length scope → IsSteady go
    → sections_run all scope d sections line here locals made go ≡ sections_run all scope d (unrolled_sections chosen sections) line here locals made go

-- So do clauses.
abbrev pub UnrolledClausesMeanTheSame : Type 0
UnrolledClausesMeanTheSame = (chosen : Section → Bool) (all : List Item) (scope : List Local) (clauses : List Clause)
    (line : ℕ) (here : Here) (locals : List Value) (made : Made) (go : Made → TreeRun) → length locals ≡ length scope → IsSteadyMade go
    → clauses_run all scope clauses line here locals made go ≡ clauses_run all scope (unrolled_clauses chosen clauses) line here locals made go

-- However the clauses of creations and releases and the sections of waits group their cells, the sequential run has one outcome: two programs ask alike after all
-- answers, with each cell in an access of its own, and so do their mains; then the answers are the same, and the counts of tasks and of entries.
abbrev pub GroupingsHaveOneOutcome : Type 0 → Type 0
GroupingsHaveOneOutcome S = (P Q : Program S) → ((s : S) (answers : List ℕ) → plain_asked (P s answers) ≡ plain_asked (Q s answers))
    → (main other : Start S) → plain_start main ≡ plain_start other → (cells : List ℕ) (o p : Outcome) → IsOutcome P main cells o → IsOutcome Q other cells p → o ≡ p

-- A program in which calls and declarations fit, and the program with its multidependencies unrolled, have one outcome: the same answer, as many tasks, and as many
-- entries. With all sections chosen these are all multidependencies that have literals.
-- Read against: `long a[4]; int main() { task out({ a[k], k = 0; 2 }) { a[0] = 1; a[1] = 2; } taskwait; }` has the outcome of `long a[4]; int main() { task out(a[0], a[1]) { a[0] = 1; a[1] = 2; }
-- taskwait; }`: no output, the cells 1, 2, 0 and 0, two tasks, and four entries.
abbrev pub UnrolledProgramsHaveOneOutcome : Type 0
UnrolledProgramsHaveOneOutcome = (chosen : Section → Bool) (all : List Item) → program_fits all ≡ true → (fuel : ℕ) (o p : Outcome)
    → IsOutcomeOf all fuel o → IsOutcomeOf (items_unrolled chosen all) fuel p → o ≡ p

-- So have the program as which a text is accepted, and this program with its multidependencies unrolled, the task loops of both written out: what is an outcome of one is one of
-- the other.
abbrev pub UnrolledTextsHaveOneOutcome : Type 0
UnrolledTextsHaveOneOutcome = (chosen : Section → Bool) (text : List ℕ) (p : Tree) → IsProgramText text p → program_rules p ≡ [] → (fuel : ℕ) (o : Outcome)
    → IsOutcomeOf (program_written p).items fuel o ↔ IsOutcomeOf (program_written (program_unrolled chosen p)).items fuel o
