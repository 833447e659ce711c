-- The code of a program has at most so many instructions for each part of the program, and a program of a text so many parts for each byte. So each
-- number of the code that lowering writes is below 2^32. With `accepted_places_are_told` no accepted text is refused for one, as far as the code is read.
-- Read against: `int main() { return 7; }` has 24 bytes and the size 3, and its code 14 instructions, before each of which there is at most one value.
use Rattle.std.specs.Prelude.{◌≡◌, ℕ, ◌+◌, ◌*◌, ◌<◌, ◌≤◌, ◌^◌, All, List, ◌++◌, length, Some, slice_get}
use Rattle.oss_syntax.specs.declared.tree.expr.Expr.{Expr}
use Rattle.oss_syntax.specs.declared.tree.program.Function.{Function}
use Rattle.oss_syntax.specs.declared.tree.program.Item.{Item}
use Rattle.oss_syntax.specs.declared.tree.program.Local.{Local}
use Rattle.oss_syntax.specs.declared.tree.program.Program.{Program as Tree}
use Rattle.oss_syntax.specs.declared.tree.stmt.LoopHead.{LoopHead}
use Rattle.oss_syntax.specs.declared.tree.stmt.Stmt.{Stmt}
use Rattle.oss_syntax.specs.declared.tree.stmt.StmtKind.TheVariants as stmts
use Rattle.oss_grammar.specs.Parsing.{IsProgramText}
use Rattle.oss_grammar.specs.Places.{Stands, locals_behind}
use Rattle.oss_grammar.specs.TaskLoops.{program_written}
use Rattle.oss_meaning.specs.Names.{functions_of}
use Rattle.oss_code.specs.declared.code.CodeParts.{CodeParts}
use Rattle.oss_code.specs.declared.instr.Instr.{Instr}
use Rattle.oss_code.specs.declared.instr.Instr.TheVariants as i
use Rattle.oss_code.specs.declared.ways.Way.{Way}
use Rattle.oss_code.specs.declared.ways.Way.TheVariants as way
use Rattle.oss_code.specs.declared.ways.Ways.{Ways}
use Rattle.oss_code.specs.declared.ways.Ways.TheVariants as ways
use Rattle.oss_code.specs.Shapes.{leads}
use Rattle.oss_code.specs.Soundness.{IsSound}
use Rattle.oss_lower_laws.specs.declared.lined.Lined.{Lined}
use Rattle.oss_lower_laws.specs.ExpressionCode.{expr_code}
use Rattle.oss_lower_laws.specs.Lowered.{bodies_from, entries_from, first_entry, program_code}
use Rattle.oss_lower_laws.specs.StatementCode.{Spot, stmt_code}
use Rattle.oss_lower_bounds.specs.Sizes.{expr_size, function_locals, items_size, stmt_locals}

-- The code has at most sixteen instructions for each part of the program and three more, and none of them stands behind more values on the stack than
-- there are parts, and one more.
pub record IsShort (all : List Item) : Type 0 where
  pub short : length (program_code all) ≤ 16 * items_size all + 3
  pub shallow : All (λ l. l.depth ≤ items_size all + 1) (program_code all)

-- The code of a program is short, whatever the program is.
abbrev pub CodesAreShort : Type 0
CodesAreShort = (all : List Item) → IsShort all

-- The instructions for the place of an expression are at most sixteen for each part of it, and none of them stands behind more values than there
-- are parts, with those that stood there before.
pub record IsShortPlace (e : Expr) (depth : ℕ) (code : List Lined) : Type 0 where
  pub short : length code ≤ 16 * expr_size e
  pub shallow : All (λ l. l.depth ≤ depth + expr_size e) code

-- The instructions for the place of each expression are short. Where the left side of an assignment designates no cell they are written too, and
-- then thrown away: these stand in no code of a program.
-- Read against: of `m[1] = 2;`, where `m` is an array of rows, the left side has the size 3, and two instructions for its place are thrown away.
abbrev pub PlacesAreShort : Type 0
PlacesAreShort = (all : List Item) (scope : List Local) (e : Expr) (line depth : ℕ) → IsShortPlace e depth ((expr_code all scope e).place line depth)

-- A program as which a text is read, each task loop in it written out, has at most four times as much size as the text has bytes.
abbrev pub TextsAreSmall : Type 0
TextsAreSmall = (text : List ℕ) (p : Tree) → IsProgramText text p → items_size (program_written p).items ≤ 4 * length text

-- The numbers of the code that lowering writes of a program: how many instructions there are, with the two that a jump may pass behind
-- those that are written; how many values there are on the stack before each; where functions and their bodies begin; how many globals and
-- functions there are; and how many locals a function has, with the variable of a multidependency. Code that is thrown away is not among them
-- (`PlacesAreShort`).
pub record FitsNumbers (all : List Item) : Type 0 where
  pub instructions : length (program_code all) + 2 < 2 ^ 32
  pub depths : All (λ l. l.depth < 2 ^ 32) (program_code all)
  pub functions : All (λ entry. entry < 2 ^ 32) (entries_from all first_entry (functions_of all))
  pub bodies : All (λ entry. entry < 2 ^ 32) (bodies_from all first_entry (functions_of all))
  pub items : length all < 2 ^ 32
  pub locals : All (λ f. function_locals f + 1 < 2 ^ 32) (functions_of all)

-- A statement leaves at most as many locals more in scope as it declares.
-- Read against: `long y, z;` leaves two more, and `{ long y, z; }` none.
abbrev pub ScopesAreCounted : Type 0
ScopesAreCounted = (all : List Item) (s : Stmt) (scope : List Local) → length ((stmt_code all s).scope scope) ≤ length scope + stmt_locals s

-- The locals that are in scope behind a statement in its code are those that are in scope behind it in the text.
-- Read against: behind `long y, z;` both have `y` and `z` more, and behind `{ long y, z; }` none.
abbrev pub ScopesAgree : Type 0
ScopesAgree = (all : List Item) (s : Stmt) (scope : List Local) → (stmt_code all s).scope scope ≡ locals_behind s scope

-- Where a statement stands in a program, the locals in scope there and those that it declares are no more than its function has. So at no place
-- of a function are more in scope, but for the variable of a multidependency.
-- Read against: in `void f(long n) { { long x; } long y, z; }` the second declaration stands where `n` is in scope, and declares two: three of the
-- four that `f` has.
abbrev pub PlacesAreCounted : Type 0
PlacesAreCounted = (p : Tree) (f : Function) (visible : List Local) (t : Stmt) → Stands p f visible t → length visible + stmt_locals t ≤ function_locals f

-- A statement is written in a code: its instructions stand there together, written at a spot with these locals in scope.
pub record IsWritten (all : List Item) (visible : List Local) (t : Stmt) (code : List Lined) : Type 0 where
  pub spot : Spot
  pub scope : spot.scope ≡ visible
  pub before : List Lined
  pub after : List Lined
  pub stands : code ≡ before ++ ((stmt_code all t).code spot ++ after)

-- No task loop stands in the body of a function.
abbrev pub HasNoTaskLoop : Tree → Function → Type 0
HasNoTaskLoop p f = (visible : List Local) (t : Stmt) (head : LoopHead) (body : Stmt) → Stands p f visible t → t.what ≡ stmts.TaskLoop head body → ⊥

-- Each statement of a function without task loops is written in the code of the program, at a spot with the locals in scope with which it stands.
-- Read against: in `void f(long n) { { long x; } long y, z; }` the second declaration is written where `n` alone is in scope.
abbrev pub StatementsAreWritten : Type 0
StatementsAreWritten = (p : Tree) (f : Function) (visible : List Local) (t : Stmt) → HasNoTaskLoop p f → Stands p f visible t → IsWritten p.items visible t (program_code p.items)

-- With its task loops written out a program has none.
abbrev pub NoTaskLoopIsLeft : Type 0
NoTaskLoopIsLeft = (p : Tree) (f : Function) → HasNoTaskLoop (program_written p) f

-- the most bytes of a program text
abbrev pub most_bytes : ℕ
most_bytes = 1048576

-- The numbers of a program as which a text of no more bytes is read, each task loop in it written out, are all below 2^32.
abbrev pub TextsFitNumbers : Type 0
TextsFitNumbers = (text : List ℕ) (p : Tree) → length text ≤ most_bytes → IsProgramText text p → FitsNumbers (program_written p).items

-- In a sound code of fewer than 2^32 instructions, the body of a task that is created begins at a place below 2^32.
abbrev pub TaskEntriesFit : Type 0
TaskEntriesFit = (code : CodeParts) → IsSound code → length code.instrs < 2 ^ 32 → (at passed : ℕ) → slice_get code.instrs at ≡ Some (i.Create passed) → at + 1 + passed < 2 ^ 32

-- A way from here leads to an instruction of the code.
abbrev pub IsInside : CodeParts → ℕ → Way → Type 0
IsInside code at (way.Ahead n) = at + 1 + n < length code.instrs
IsInside code at (way.Back n) = n ≤ at

-- Each of these ways does.
abbrev pub AreInside : CodeParts → ℕ → Ways → Type 0
AreInside code at ways.End = Unit {0}
AreInside code at (ways.One w) = IsInside code at w
AreInside code at (ways.Two v w) = IsInside code at v × IsInside code at w

-- In a sound code each way from an instruction leads to one: ahead to a place below their number, and back to none before the first.
-- Read against: in `Push 1, Return` the `Push` at place 0 leads to place 1, which is below 2; `Push 1` alone leads to place 1 too, and is not sound.
abbrev pub WaysStayInside : Type 0
WaysStayInside = (code : CodeParts) → IsSound code → (at : ℕ) (instr : Instr) → slice_get code.instrs at ≡ Some instr → AreInside code at (leads instr)
