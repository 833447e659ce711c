-- The instructions of a statement: a tick, those of its parts, and jumps between them. `break` and `continue` lead back, with their tick, to
-- one of two pieces that stand before the body of the loop; so the target of each jump is known where it is written. The body of a task stands
-- behind its creation, and is passed there.
-- Read against: `while (x) break;` of a function without locals is `Tick, Skip 4, Keep 0, Skip 8, Keep 0, Skip 5, Tick, Address x, Load, SkipUnless
-- 2, Again 8, Again 4, Keep 0`, where the first `Again` leads to the first `Keep` and the second to `Address`. The task `#pragma oss task` of an empty
-- statement is `Tick, Begin, Create 4, Skip 7`, a piece of 3 for jumps that lead out of it, `Tick`, and 3 for its end.
use Rattle.std.specs.Prelude.{ℕ, ◌+◌, List, [], ◌∷◌, ◌++◌, length, map, Option, Some, None}
use Rattle.oss_syntax.specs.declared.access.Op.{Op}
use Rattle.oss_syntax.specs.declared.tree.expr.BinOp.{BinOp}
use Rattle.oss_syntax.specs.declared.tree.expr.Expr.{Expr}
use Rattle.oss_syntax.specs.declared.tree.pragma.Clause.{Clause}
use Rattle.oss_syntax.specs.declared.tree.pragma.Section.{Section}
use Rattle.oss_syntax.specs.declared.tree.program.Item.{Item}
use Rattle.oss_syntax.specs.declared.tree.program.Kind.{Kind}
use Rattle.oss_syntax.specs.declared.tree.program.Kind.TheVariants as kind
use Rattle.oss_syntax.specs.declared.tree.program.Local.{Local}
use Rattle.oss_syntax.specs.declared.tree.program.NumKind.{NumKind}
use Rattle.oss_syntax.specs.declared.tree.stmt.Stmt.{Stmt}
use Rattle.oss_syntax.specs.declared.tree.stmt.StmtKind.TheOpen.{StmtKind-F, Stmt-F}
use Rattle.oss_syntax.specs.declared.tree.stmt.StmtKind.TheOpen as open_stmt
use Rattle.oss_syntax.specs.declared.tree.stmt.StmtKind.TheFolds.{fold-Stmt}
use Rattle.oss_grammar.specs.Formats.{pieces_of}
use Rattle.oss_grammar.specs.declared.format.Piece.{Piece}
use Rattle.oss_meaning.specs.declared.names.Target.{Target}
use Rattle.oss_meaning.specs.declared.names.Target.TheVariants as target
use Rattle.oss_meaning.specs.Clauses.{waited_for}
use Rattle.oss_meaning.specs.Names.{item_found}
use Rattle.oss_meaning.specs.Statements.{folded_by}
use Rattle.oss_code.specs.declared.instr.Instr.{Instr}
use Rattle.oss_code.specs.declared.instr.Instr.TheVariants as i
use Rattle.oss_lower_laws.specs.declared.lined.Lined.{Lined}
use Rattle.oss_lower_laws.specs.declared.lined.Pads.{Pads}
use Rattle.oss_lower_laws.specs.ExpressionCode.{ExprCode, arguments_code, call_code, expr_code, one, operator_by}
use Rattle.oss_lower_laws.specs.SectionCode.{clauses_code, created_code, sections_code}

-- Where the instructions of a statement stand: the locals in scope, the type of what the function gives, and how far behind the pieces for
-- `break` and `continue` they begin.
pub record Spot : Type 0 where
  pub scope : List Local
  pub result : Kind
  pub pads : Pads

-- so many instructions further on
abbrev pub behind : ℕ → Spot → Spot
behind n spot = record { scope = spot.scope; result = spot.result; pads = record { stop = spot.pads.stop + n; again = spot.pads.again + n } }

-- with these locals in scope
abbrev pub in_scope : List Local → Spot → Spot
in_scope scope spot = record { scope = scope; result = spot.result; pads = spot.pads }

-- with these pieces before it
abbrev pub with_pads : ℕ → ℕ → Spot → Spot
with_pads stop again spot = record { scope = spot.scope; result = spot.result; pads = record { stop = stop; again = again } }

-- The instructions at a spot.
abbrev pub Codes : Type 0
Codes = Spot → List Lined

-- Where the bodies of task statements begin, in text order, of instructions that begin at a place of the code.
abbrev pub Entries : Type 0
Entries = Spot → ℕ → List ℕ

-- What a statement becomes: the locals in scope behind it, its instructions, how many task statements are in it, and where their bodies begin.
pub record StmtCode : Type 0 where
  pub scope : List Local → List Local
  pub code : Codes
  pub tasks : ℕ
  pub entries : Entries

-- Statements without others in them

-- it declares nothing
abbrev pub same_scope : List Local → List Local
same_scope scope = scope

-- no task statement is in it
abbrev pub no_entries : Entries
no_entries spot at = []

-- it has no instruction
abbrev pub no_code : Codes
no_code spot = []

-- one tick first
abbrev pub ticked_code : ℕ → Codes → Codes
ticked_code line code spot = one line 0 i.Tick ++ code (behind 1 spot)

-- the bodies in it stand one further on
abbrev pub ticked_entries : Entries → Entries
ticked_entries entries spot at = entries (behind 1 spot) (at + 1)

-- a statement on this line without others in it: one tick, and then this
abbrev pub simple_code : ℕ → Codes → StmtCode
simple_code line code = record { scope = same_scope; code = ticked_code line code; tasks = 0; entries = no_entries }

-- Lists of statements

-- statements in text order, each at the spot that those before it leave
abbrev pub codes_in_order : List StmtCode → Codes
codes_in_order [] spot = []
codes_in_order (c ∷ rest) spot = c.code spot ++ codes_in_order rest (in_scope (c.scope spot.scope) (behind (length (c.code spot)) spot))

-- where the bodies of the task statements in them begin
abbrev pub entries_in_order : List StmtCode → Entries
entries_in_order [] spot at = []
entries_in_order (c ∷ rest) spot at =
    c.entries spot at ++ entries_in_order rest (in_scope (c.scope spot.scope) (behind (length (c.code spot)) spot)) (at + length (c.code spot))

-- how many task statements are in them
abbrev pub tasks_in_order : List StmtCode → ℕ
tasks_in_order [] = 0
tasks_in_order (c ∷ rest) = c.tasks + tasks_in_order rest

-- the locals that are declared inside are dropped at the end
abbrev pub blocked_code : ℕ → List StmtCode → StmtCode
blocked_code line inner = record {
  scope = same_scope;
  code = λ spot. codes_in_order inner spot ++ one line 0 (i.Keep (length spot.scope));
  tasks = tasks_in_order inner;
  entries = entries_in_order inner;
}

-- Declarations and assignments

-- what is left for a local that has no initial value
abbrev pub first_instr : Kind → Instr
first_instr (kind.Pointer n) = i.Nothing
first_instr _ = i.Push 0

-- the initial value of a local
abbrev pub first_code : List Item → List Local → Kind → Option Expr → ℕ → List Lined
first_code all scope k None line = one line 0 (first_instr k)
first_code all scope k (Some e) line = (expr_code all scope e).value line 0

-- locals are declared from left to right, each in scope behind its initial value
abbrev pub declared_code : List Item → ℕ → List Local → List Local → List Lined
declared_code all line [] scope = []
declared_code all line (l ∷ rest) scope = first_code all scope l.kind l.first line ++ (one line 1 (i.Bind l.kind) ++ declared_code all line rest (scope ++ l ∷ []))

-- what a declaration becomes
abbrev pub declare_code : List Item → ℕ → List Local → StmtCode
declare_code all line ls = record {
  scope = λ scope. scope ++ ls;
  code = ticked_code line (λ spot. declared_code all line ls spot.scope);
  tasks = 0;
  entries = no_entries;
}

-- an assignment to a local: the right side, with a compound assignment behind the old value and joined with it, is kept
abbrev pub local_assigned_code : ℕ → ExprCode → Option BinOp → ExprCode → ℕ → Kind → List Lined
local_assigned_code line t None e slot k = e.value line 0 ++ one line 1 (i.SetLocal slot k)
local_assigned_code line t (Some o) e slot k =
    one line 0 (i.Local slot) ++ (e.value line 1 ++ (one line 2 (operator_by o t.typed.kind e.typed.kind) ++ one line 1 (i.SetLocal slot k)))

-- a compound assignment to a cell, its place and the right side on the stack: one fold, or a load and a store
abbrev pub cell_changed_code : ℕ → Option Op → ExprCode → BinOp → ExprCode → NumKind → List Lined
cell_changed_code line (Some f) t o e n = one line 2 (i.Fold f)
cell_changed_code line None t o e n =
    one line 2 i.Under ++ (one line 3 i.Load ++ (one line 3 i.Swap ++ (one line 3 (operator_by o t.typed.kind e.typed.kind) ++ one line 2 (i.Store n))))

-- an assignment to a cell: its place, and then the right side
abbrev pub cell_assigned_code : ℕ → ExprCode → Option BinOp → ExprCode → NumKind → List Lined
cell_assigned_code line t None e n = t.place line 0 ++ (e.value line 1 ++ one line 2 (i.Store n))
cell_assigned_code line t (Some o) e n = t.place line 0 ++ (e.value line 1 ++ cell_changed_code line (folded_by n o) t o e n)

-- an assignment by what its left side designates
abbrev pub assigned_code : ℕ → Target → ExprCode → Option BinOp → ExprCode → List Lined
assigned_code line (target.Local slot k) t o e = local_assigned_code line t o e slot k
assigned_code line (target.Cell n) t o e = cell_assigned_code line t o e n
assigned_code line _ t o e = []

-- what an assignment becomes
abbrev pub assignment_code : List Item → ℕ → Expr → Option BinOp → Expr → Codes
assignment_code all line t o e spot = assigned_code line (expr_code all spot.scope t).typed.target (expr_code all spot.scope t) o (expr_code all spot.scope e)

-- Calls, prints and returns

-- a call as a statement: its value is dropped
abbrev pub call_done_code : List Item → ℕ → List ℕ → List Expr → Codes
call_done_code all line name es spot = call_code all (item_found all name) (map (expr_code all spot.scope) es) line 0 ++ one line 1 i.Drop

-- the pieces of a string; without any it prints nothing
abbrev pub pieces_in : Option (List Piece) → List Piece
pieces_in None = []
pieces_in (Some pieces) = pieces

-- `printf`: its arguments, and then the print
abbrev pub print_code : List Item → ℕ → List ℕ → List Expr → Codes
print_code all line format es spot =
    arguments_code (map (expr_code all spot.scope) es) line 0 ++ one line (length es) (i.Print (pieces_in (pieces_of format)) (length es))

-- a value is given: as the function's type keeps it
abbrev pub given_code : ℕ → Kind → List Lined
given_code line result = one line 1 (i.Convert result) ++ one line 1 i.Return

-- a `return`: its value, or 0, is given
abbrev pub returned_code : List Item → ℕ → Option Expr → Codes
returned_code all line None spot = one line 0 (i.Push 0) ++ given_code line spot.result
returned_code all line (Some e) spot = (expr_code all spot.scope e).value line 0 ++ given_code line spot.result

-- Choices

-- a part that may be left out
abbrev pub part_code : Option StmtCode → Codes
part_code None spot = []
part_code (Some c) spot = c.code spot

-- the locals in scope behind it
abbrev pub part_scope : Option StmtCode → List Local → List Local
part_scope None scope = scope
part_scope (Some c) scope = c.scope scope

-- how many task statements are in it
abbrev pub part_tasks : Option StmtCode → ℕ
part_tasks None = 0
part_tasks (Some c) = c.tasks

-- where their bodies begin
abbrev pub part_entries : Option StmtCode → Entries
part_entries None spot at = []
part_entries (Some c) spot at = c.entries spot at

-- how long the test of a choice is, with its jump
abbrev pub choice_test : List Item → ℕ → Expr → Spot → ℕ
choice_test all line e spot = length ((expr_code all spot.scope e).value line 0) + 1

-- where its first side stands, and where its second side
abbrev pub side_spot : List Item → ℕ → Expr → Spot → Spot
side_spot all line e spot = behind (choice_test all line e spot) spot

-- how long the first side is
abbrev pub side_length : List Item → ℕ → Expr → StmtCode → Spot → ℕ
side_length all line e side spot = length (side.code (side_spot all line e spot))

-- where the second side stands, behind the first one and its jump
abbrev pub other_spot : List Item → ℕ → Expr → StmtCode → Spot → Spot
other_spot all line e side spot = behind (choice_test all line e spot + side_length all line e side spot + 1) spot

-- a test, the first side with a jump past the second, and the second side
abbrev pub choice_of : ℕ → List Lined → List Lined → List Lined → List Lined
choice_of line test side other = test ++ (one line 1 (i.SkipUnless (length side + 1)) ++ (side ++ (one line 0 (i.Skip (length other)) ++ other)))

-- the instructions of an `if`, without its tick
abbrev pub choice_codes : List Item → ℕ → Expr → StmtCode → Option StmtCode → Codes
choice_codes all line e side other spot =
    choice_of line ((expr_code all spot.scope e).value line 0) (side.code (side_spot all line e spot)) (part_code other (other_spot all line e side spot))

-- where the bodies of tasks in its sides begin
abbrev pub choice_entries : List Item → ℕ → Expr → StmtCode → Option StmtCode → Entries
choice_entries all line e side other spot at =
    side.entries (side_spot all line e spot) (at + choice_test all line e spot)
    ++ part_entries other (other_spot all line e side spot) (at + (choice_test all line e spot + side_length all line e side spot + 1))

-- what an `if` becomes
abbrev pub choice_code : List Item → ℕ → Expr → StmtCode → Option StmtCode → StmtCode
choice_code all line e side other = record {
  scope = same_scope;
  code = ticked_code line (choice_codes all line e side other);
  tasks = side.tasks + part_tasks other;
  entries = ticked_entries (choice_entries all line e side other);
}

-- Loops

-- a test, and a jump past so many instructions where it fails; a test that is left out holds
abbrev pub test_code : List Item → Option Expr → ℕ → List Local → ℕ → List Lined
test_code all None line scope past = []
test_code all (Some e) line scope past = (expr_code all scope e).value line 0 ++ one line 1 (i.SkipUnless past)

-- how long it is
abbrev pub test_length : List Item → Option Expr → ℕ → List Local → ℕ
test_length all test line scope = length (test_code all test line scope 0)

-- what stands before the test: a jump to the tick, the piece of `break`, that of `continue`, and the tick before the first test
abbrev pub pads_code : ℕ → ℕ → ℕ → ℕ → List Lined
pads_code line kept past past_body =
    one line 0 (i.Skip 4) ++ (one line 0 (i.Keep kept) ++ (one line 0 (i.Skip past) ++ (one line 0 (i.Keep kept) ++ (one line 0 (i.Skip past_body) ++ one line 0 i.Tick))))

-- A loop, its parts given: the pieces, the test, the body, the last part, and the tick before the next test, which leads back to it.
abbrev pub loop_of : ℕ → ℕ → List Lined → List Lined → List Lined → List Lined
loop_of line kept test body last =
    pads_code line kept (4 + length test + length body + length last) (1 + length test + length body)
    ++ (test ++ (body ++ (last ++ one line 0 (i.Again (length test + length body + length last)))))

-- where the body of a loop stands, with its own pieces before it
abbrev pub body_spot : List Item → ℕ → Option Expr → Spot → Spot
body_spot all line test spot = with_pads (5 + test_length all test line spot.scope) (3 + test_length all test line spot.scope) spot

-- the body of a loop
abbrev pub loop_body : List Item → ℕ → Option Expr → StmtCode → Codes
loop_body all line test body spot = body.code (body_spot all line test spot)

-- where its last part stands
abbrev pub last_spot : List Item → ℕ → Option Expr → StmtCode → Spot → Spot
last_spot all line test body spot = behind (6 + test_length all test line spot.scope + length (loop_body all line test body spot)) spot

-- the last part of a loop
abbrev pub loop_last : List Item → ℕ → Option Expr → Option StmtCode → StmtCode → Codes
loop_last all line test last body spot = part_code last (last_spot all line test body spot)

-- the instructions of a loop: where its test fails, it passes the body, the last part and the tick
abbrev pub loop_code : List Item → ℕ → Option Expr → Option StmtCode → StmtCode → Codes
loop_code all line test last body spot =
    loop_of line (length spot.scope)
    (test_code all test line spot.scope (1 + length (loop_body all line test body spot) + length (loop_last all line test last body spot)))
    (loop_body all line test body spot)
    (loop_last all line test last body spot)

-- the bodies of tasks in the last part come before those in the body, as in the text
abbrev pub loop_entries : List Item → ℕ → Option Expr → Option StmtCode → StmtCode → Entries
loop_entries all line test last body spot at =
    part_entries last (last_spot all line test body spot) (at + (6 + test_length all test line spot.scope + length (loop_body all line test body spot)))
    ++ body.entries (body_spot all line test spot) (at + (6 + test_length all test line spot.scope))

-- where a loop stands behind the first part of a `for`
abbrev pub loop_spot : Option StmtCode → Spot → Spot
loop_spot first spot = in_scope (part_scope first spot.scope) (behind (length (part_code first spot)) spot)

-- the first part of a `for` and its loop; what the first part declares is dropped behind them
abbrev pub for_codes : List Item → ℕ → Option StmtCode → Option Expr → Option StmtCode → StmtCode → Codes
for_codes all line first test last body spot =
    part_code first spot ++ (loop_code all line test last body (loop_spot first spot) ++ one line 0 (i.Keep (length spot.scope)))

-- where the bodies of tasks in its parts begin
abbrev pub for_entries : List Item → ℕ → Option StmtCode → Option Expr → Option StmtCode → StmtCode → Entries
for_entries all line first test last body spot at =
    part_entries first spot at ++ loop_entries all line test last body (loop_spot first spot) (at + length (part_code first spot))

-- what a `for` becomes; a `while` is one without a first and a last part
abbrev pub for_code : List Item → ℕ → Option StmtCode → Option Expr → Option StmtCode → StmtCode → StmtCode
for_code all line first test last body = record {
  scope = same_scope;
  code = ticked_code line (for_codes all line first test last body);
  tasks = part_tasks first + (part_tasks last + body.tasks);
  entries = ticked_entries (for_entries all line first test last body);
}

-- Directives

-- the end of a body: it gives 0
abbrev pub end_code : ℕ → Kind → List Lined
end_code line result = one line 0 (i.Push 0) ++ given_code line result

-- how long that is
abbrev pub end_length : ℕ
end_length = 3

-- A body of a function or of a task: a piece to which a jump leads that no loop takes, the instructions of the body, and its end.
abbrev pub enclosed_code : ℕ → Kind → List Lined → List Lined
enclosed_code line result body = end_code line result ++ (body ++ end_code line result)

-- where the instructions of such a body stand
abbrev pub enclosed_spot : Spot → Spot
enclosed_spot spot = with_pads end_length end_length spot

-- a creation, and behind it, passed there, the body of the task
abbrev pub task_codes : List Item → ℕ → List Clause → StmtCode → Codes
task_codes all line clauses body spot =
    created_code all spot.scope (1 + end_length) clauses line
    ++ (one line 0 (i.Skip (length (enclosed_code line spot.result (body.code (enclosed_spot spot)))))
    ++ enclosed_code line spot.result (body.code (enclosed_spot spot)))

-- how far behind the beginning of its creation the body of a task begins
abbrev pub task_entry : List Item → ℕ → List Clause → Spot → ℕ
task_entry all line clauses spot = length (created_code all spot.scope (1 + end_length) clauses line) + 1 + end_length

-- where its body begins, and those of the task statements in that
abbrev pub task_entries : List Item → ℕ → List Clause → StmtCode → Entries
task_entries all line clauses body spot at = (at + task_entry all line clauses spot) ∷ body.entries (enclosed_spot spot) (at + task_entry all line clauses spot)

-- what a task statement becomes
abbrev pub task_code : List Item → ℕ → List Clause → StmtCode → StmtCode
task_code all line clauses body = record {
  scope = same_scope;
  code = ticked_code line (task_codes all line clauses body);
  tasks = 1 + body.tasks;
  entries = ticked_entries (task_entries all line clauses body);
}

-- a `taskwait`, or one on the cells of these sections
abbrev pub wait_code : List Item → ℕ → Option (List Section) → Codes
wait_code all line None spot = one line 0 i.Wait
wait_code all line (Some sections) spot = sections_code all spot.scope waited_for sections line ++ one line 0 i.WaitOn

-- a `release`: its clauses, and then what they declare is released
abbrev pub release_code : List Item → ℕ → List Clause → Codes
release_code all line clauses spot = clauses_code all spot.scope clauses line ++ one line 0 i.Release

-- a tick that leads back to a piece before the body of the loop
abbrev pub jump_code : ℕ → (Pads → ℕ) → StmtCode
jump_code line pad = record { scope = same_scope; code = λ spot. one line 0 (i.Again (pad spot.pads)); tasks = 0; entries = no_entries }

-- What each kind of statement becomes, from what the statements in it become.
abbrev pub stmt_code_step : List Item → StmtKind-F (ℕ → StmtCode) StmtCode → ℕ → StmtCode
stmt_code_step all (open_stmt.Block inner) line = blocked_code line inner
stmt_code_step all open_stmt.Empty line = simple_code line no_code
stmt_code_step all (open_stmt.Declare ls) line = declare_code all line ls
stmt_code_step all (open_stmt.Assign t o e) line = simple_code line (assignment_code all line t o e)
stmt_code_step all (open_stmt.Call name es) line = simple_code line (call_done_code all line name es)
stmt_code_step all (open_stmt.Print format es) line = simple_code line (print_code all line format es)
stmt_code_step all (open_stmt.If e side other) line = choice_code all line e side other
stmt_code_step all (open_stmt.While e body) line = for_code all line None (Some e) None body
stmt_code_step all (open_stmt.For first test last body) line = for_code all line first test last body
stmt_code_step all (open_stmt.Return e) line = simple_code line (returned_code all line e)
stmt_code_step all open_stmt.Break line = jump_code line (λ pads. pads.stop)
stmt_code_step all open_stmt.Continue line = jump_code line (λ pads. pads.again)
stmt_code_step all (open_stmt.Task mark body) line = task_code all line mark.clauses body
stmt_code_step all (open_stmt.TaskLoop head body) line = simple_code line no_code
stmt_code_step all (open_stmt.TaskWait sections) line = simple_code line (wait_code all line sections)
stmt_code_step all (open_stmt.Release clauses) line = simple_code line (release_code all line clauses)

-- What a whole statement becomes.
abbrev pub stmt_code : List Item → Stmt → StmtCode
stmt_code all = fold-Stmt (ℕ → StmtCode) StmtCode (stmt_code_step all) (λ s. s.what s.line)

-- what each of these statements becomes
abbrev pub stmt_codes : List Item → List Stmt → List StmtCode
stmt_codes all ss = map (stmt_code all) ss
