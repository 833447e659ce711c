-- The code of a program: a jump to the body of `main`, an end where there is none, and the functions in text order. A function binds its
-- parameters and goes on to its body; a task function binds them, creates a task of its body, and gives 0.
-- Read against: `int main() { return 7; }` is `Skip 6`, `Push 0, Return` for want of a main, and from place 3 on `Skip 3`, `Push 0, Convert int,
-- Return` for jumps that lead out, the body from place 7 on, which is `Tick, Push 7, Convert int, Return`, and `Push 0, Convert int, Return`.
use Rattle.std.specs.Prelude.{◌≡◌, ℕ, ◌+◌, ◌-◌, List, [], ◌∷◌, ◌++◌, length, map, Option, Some, None, slice_index_or}
use Rattle.oss_syntax.specs.declared.tree.pragma.TaskMark.{TaskMark}
use Rattle.oss_syntax.specs.declared.tree.program.Function.{Function}
use Rattle.oss_syntax.specs.declared.tree.program.Item.{Item}
use Rattle.oss_syntax.specs.declared.tree.program.Local.{Local}
use Rattle.oss_meaning.specs.Expressions.{TaskBody}
use Rattle.oss_meaning.specs.Meaning.{main_number}
use Rattle.oss_meaning.specs.Names.{functions_of}
use Rattle.oss_meaning.specs.Pointers.{extents_of}
use Rattle.oss_meaning.specs.Results.{first_cells}
use Rattle.oss_code.specs.Globals.{extents_in}
use Rattle.oss_code.specs.declared.code.CodeParts.{CodeParts}
use Rattle.oss_code.specs.declared.instr.Instr.TheVariants as i
use Rattle.oss_lower_laws.specs.declared.lined.Lined.{Lined}
use Rattle.oss_lower_laws.specs.ExpressionCode.{one}
use Rattle.oss_lower_laws.specs.SectionCode.{created_code}
use Rattle.oss_lower_laws.specs.StatementCode.{Spot, codes_in_order, enclosed_code, end_length, entries_in_order, stmt_codes}

-- Functions

-- each parameter from this place on keeps what its type can of its argument
abbrev pub bound_code : ℕ → ℕ → List Local → List Lined
bound_code line slot [] = []
bound_code line slot (p ∷ rest) = one line 0 (i.Local slot) ++ (one line 1 (i.SetLocal slot p.kind) ++ bound_code line (slot + 1) rest)

-- what leads to the body: of a task function its creation does
abbrev pub entered_code : List Item → Function → Option TaskMark → List Lined
entered_code all f None = one f.line 0 (i.Skip end_length)
entered_code all f (Some mark) =
    created_code all f.params (2 + end_length) mark.clauses f.line ++ (one f.line 0 (i.Push 0) ++ one f.line 1 i.Return)

-- what stands before the body of a function: its parameters are bound, and what leads to the body
abbrev pub head_code : List Item → Function → List Lined
head_code all f = bound_code f.line 0 f.params ++ entered_code all f f.mark

-- where the body stands
abbrev pub function_spot : Function → Spot
function_spot f = record { scope = f.params; result = f.result; pads = record { stop = end_length; again = end_length } }

-- the statements of a function
abbrev pub body_code : List Item → Function → List Lined
body_code all f = codes_in_order (stmt_codes all f.body) (function_spot f)

-- a function
abbrev pub function_code : List Item → Function → List Lined
function_code all f = head_code all f ++ enclosed_code f.line f.result (body_code all f)

-- where the body of a function begins, if the function begins here
abbrev pub body_entry : List Item → Function → ℕ → ℕ
body_entry all f at = at + (length (head_code all f) + end_length)

-- Programs

-- functions in text order
abbrev pub function_codes : List Item → List Function → List Lined
function_codes all [] = []
function_codes all (f ∷ rest) = function_code all f ++ function_codes all rest

-- where functions begin, the first of them here
abbrev pub entries_from : List Item → ℕ → List Function → List ℕ
entries_from all at [] = []
entries_from all at (f ∷ rest) = at ∷ entries_from all (at + length (function_code all f)) rest

-- where their bodies begin
abbrev pub bodies_from : List Item → ℕ → List Function → List ℕ
bodies_from all at [] = []
bodies_from all at (f ∷ rest) = body_entry all f at ∷ bodies_from all (at + length (function_code all f)) rest

-- where the bodies of the task statements in them begin
abbrev pub statements_from : List Item → ℕ → List Function → List ℕ
statements_from all at [] = []
statements_from all at (f ∷ rest) =
    entries_in_order (stmt_codes all f.body) (function_spot f) (body_entry all f at) ++ statements_from all (at + length (function_code all f)) rest

-- where the end stands to which a body comes that is not there
abbrev pub end_entry : ℕ
end_entry = 1

-- where the first function begins
abbrev pub first_entry : ℕ
first_entry = 3

-- where a body begins
abbrev pub body_place : List Item → ℕ → ℕ
body_place all number = slice_index_or (bodies_from all first_entry (functions_of all)) number end_entry

-- the instructions of a program
abbrev pub program_code : List Item → List Lined
program_code all =
    one 0 0 (i.Skip (body_place all (main_number all) - 1)) ++ (one 0 0 (i.Push 0) ++ (one 0 1 i.Return ++ function_codes all (functions_of all)))

-- The parts of a code are those of a program.
pub record IsLowered (all : List Item) (code : CodeParts) : Type 0 where
  pub instrs : code.instrs ≡ map (λ l. l.what) (program_code all)
  pub lines : code.lines ≡ map (λ l. l.line) (program_code all)
  pub depths : code.depths ≡ map (λ l. l.depth) (program_code all)
  pub first : code.first ≡ first_cells all
  pub globals : extents_in code.globals ≡ extents_of all
  pub functions : code.functions ≡ entries_from all first_entry (functions_of all)

-- Where each body begins in the code of a program: `main` at the first instruction, which leads to its body.
abbrev pub place_of : List Item → TaskBody → ℕ
place_of all TaskBody.main = 0
place_of all (TaskBody.function number) = body_place all number
place_of all (TaskBody.statement number) = slice_index_or (statements_from all first_entry (functions_of all)) number end_entry
