-- What a statement means (C11 6.8; OmpSs-2, the directives task, taskwait and release): every statement but a block does one tick first, and
-- a loop does one before each test. A statement has four ways out: to what stands behind it, by `break`, by `continue` and by `return`.
-- Everything is said with what goes on behind. A loop makes at most so many turns; each has a tick, so that more turns than answers are
-- never made.
-- Read against: in `while (x) { x = x - 1; if (x == 2) break; }` with 4 in `x` the test is made twice. In `for (;;) { continue; }` each turn
-- has two ticks, one before the test and one of `continue`. In `if (x) ; else { task A } task B` the statement of A is the task statement 0 of its
-- function and that of B the task statement 1.
use Rattle.std.specs.Prelude.{ℕ, zero, suc, ◌+◌, if◌then◌else◌, List, [], ◌∷◌, ◌++◌, length, map, reverse, take, Option, Some, None, slice_set}
use Rattle.oss_syntax.specs.declared.access.Op.{Op}
use Rattle.oss_syntax.specs.declared.access.Op.TheVariants as fold_op
use Rattle.oss_syntax.specs.declared.tree.expr.BinOp.{BinOp}
use Rattle.oss_syntax.specs.declared.tree.expr.BinOp.TheVariants as op
use Rattle.oss_syntax.specs.declared.tree.expr.Expr.{Expr}
use Rattle.oss_syntax.specs.declared.tree.pragma.Clause.{Clause}
use Rattle.oss_syntax.specs.declared.tree.pragma.Section.{Section}
use Rattle.oss_syntax.specs.declared.tree.program.Item.{Item}
use Rattle.oss_syntax.specs.declared.tree.program.Kind.{Kind}
use Rattle.oss_syntax.specs.declared.tree.program.Local.{Local}
use Rattle.oss_syntax.specs.declared.tree.program.NumKind.{NumKind}
use Rattle.oss_syntax.specs.declared.tree.program.NumKind.TheVariants as num
use Rattle.oss_syntax.specs.declared.tree.stmt.Stmt.{Stmt}
use Rattle.oss_syntax.specs.declared.tree.stmt.StmtKind.TheOpen.{StmtKind-F, Stmt-F}
use Rattle.oss_syntax.specs.declared.tree.stmt.StmtKind.TheOpen as open_stmt
use Rattle.oss_syntax.specs.declared.tree.stmt.StmtKind.TheFolds.{fold-Stmt}
use Rattle.oss_grammar.specs.Formats.{printed}
use Rattle.oss_grammar.specs.Values.{kept}
use Rattle.oss_model.specs.Bodies.Ask.{End, Fold, Print, Release, Tick, Wait, WaitOn, Write}
use Rattle.oss_meaning.specs.declared.names.Target.{Target}
use Rattle.oss_meaning.specs.declared.names.Target.TheVariants as target
use Rattle.oss_meaning.specs.declared.names.Typed.{Typed}
use Rattle.oss_meaning.specs.declared.value.Value.{Value}
use Rattle.oss_meaning.specs.declared.value.Value.TheVariants as value
use Rattle.oss_meaning.specs.Clauses.{created, clauses_run, nothing_made, waited_for}
use Rattle.oss_meaning.specs.Expressions.{Going, Here, Sense, TaskBody, TreeRun, arguments, at_cell, call_value, loaded, sense_of, unless_fault, value_at}
use Rattle.oss_meaning.specs.Names.{item_found}
use Rattle.oss_meaning.specs.Operators.{first_value, is_zero, kept_value, operated_by}
use Rattle.oss_meaning.specs.Pointers.{Extent, cell_of, extents_of, number_in}
use Rattle.oss_meaning.specs.Runs.{asking, ending}
use Rattle.oss_meaning.specs.Sections.{sections_run}

-- Where a statement stands: the locals in scope, and how many task statements of the program stand before it.
pub record Around : Type 0 where
  pub scope : List Local
  pub tasks : ℕ

-- What goes on behind a statement, with the values of the locals then; a value that is returned is told with its line.
pub record Ways : Type 0 where
  pub next : List Value → TreeRun
  pub stop : List Value → TreeRun
  pub again : List Value → TreeRun
  pub give : ℕ → Value → TreeRun

-- What a statement does at its place of the text.
abbrev pub Does : Type 0
Does = Around → Here → Ways → List Value → TreeRun

-- The body of a task statement: what its task runs, with the values of the locals that it begins with.
abbrev pub Body : Type 0
Body = Here → List Value → TreeRun

-- What a statement means: the place behind it, what it does, and the bodies of the task statements in it, in text order.
pub record Meaning : Type 0 where
  pub behind : Around → Around
  pub does : Does
  pub bodies : Around → List Body

-- Statements without others in them

-- behind it is where it stands: it declares nothing, and no task statement stands in it
abbrev pub same_place : Around → Around
same_place around = around

-- no task statement stands in it
abbrev pub no_bodies : Around → List Body
no_bodies around = []

-- one tick first
abbrev pub ticked : ℕ → Does → Does
ticked line does around here ways locals = asking Tick line (λ t. does around here ways locals)

-- a statement on this line without others in it, which does one tick and then this
abbrev pub simple : ℕ → Does → Meaning
simple line does = record { behind = same_place; does = ticked line does; bodies = no_bodies }

-- it does nothing
abbrev pub nothing_done : Does
nothing_done around here ways locals = ways.next locals

-- Lists of statements

-- the same ways out, but for what stands behind
abbrev pub going_on : (List Value → TreeRun) → Ways → Ways
going_on next ways = record { next = next; stop = ways.stop; again = ways.again; give = ways.give }

-- one statement after the other, each at the place that those before it leave
abbrev pub in_order : List Meaning → Does
in_order [] around here ways locals = ways.next locals
in_order (m ∷ rest) around here ways locals = m.does around here (going_on (λ us. in_order rest (m.behind around) here ways us) ways) locals

-- the place behind these statements
abbrev pub behind_all : List Meaning → Around → Around
behind_all [] around = around
behind_all (m ∷ rest) around = behind_all rest (m.behind around)

-- the bodies of the task statements in these statements
abbrev pub bodies_of_all : List Meaning → Around → List Body
bodies_of_all [] around = []
bodies_of_all (m ∷ rest) around = m.bodies around ++ bodies_of_all rest (m.behind around)

-- the scope of one place, behind the task statements before another: what was declared inside is gone
abbrev pub left : Around → Around → Around
left around inside = record { scope = around.scope; tasks = inside.tasks }

-- a block: what was declared in it is gone behind it
abbrev pub alone : Does → Does
alone does around here ways locals = does around here (going_on (λ us. ways.next (take (length around.scope) us)) ways) locals

-- what a block means, which does no tick
abbrev pub blocked : List Meaning → Meaning
blocked inner = record {
  behind = λ around. left around (behind_all inner around);
  does = alone (in_order inner);
  bodies = bodies_of_all inner;
}

-- Declarations and assignments

-- the initial value of a local
abbrev pub first_of : List Item → List Local → Kind → Option Expr → ℕ → Here → List Value → Going
first_of all scope k None line here locals go = go (first_value k)
first_of all scope k (Some e) line here locals go = (sense_of all scope e).value line here locals go

-- locals are declared from left to right, each in scope behind its initial value
abbrev pub declared : List Item → ℕ → List Local → List Local → Here → List Value → (List Value → TreeRun) → TreeRun
declared all line [] scope here locals go = go locals
declared all line (l ∷ rest) scope here locals go =
    first_of all scope l.kind l.first line here locals (λ v. declared all line rest (scope ++ l ∷ []) here (locals ++ kept_value l.kind v ∷ []) go)

-- what a declaration means
abbrev pub declare : List Item → ℕ → List Local → Meaning
declare all line ls = record {
  behind = λ around. record { scope = around.scope ++ ls; tasks = around.tasks };
  does = ticked line (λ around here ways locals. declared all line ls around.scope here locals ways.next);
  bodies = no_bodies;
}

-- a value is stored in a cell of this type
abbrev pub stored : List Extent → ℕ → NumKind → Value → Value → TreeRun → TreeRun
stored globals line n p v go = at_cell (cell_of globals p) line (λ c. asking (Write c (kept n (number_in v))) line (λ t. go))

-- `+=`, `&=`, `|=` and `^=` over a cell of 64 bits are one fold
abbrev pub fold_of : BinOp → Option Op
fold_of op.Add = Some fold_op.Add
fold_of op.And = Some fold_op.And
fold_of op.Or = Some fold_op.Or
fold_of op.Xor = Some fold_op.Xor
fold_of _ = None

-- over an `int` none of them is a fold
abbrev pub folded_by : NumKind → BinOp → Option Op
folded_by num.Int o = None
folded_by _ o = fold_of o

-- an assignment to a local: the value that it keeps, with a compound assignment of its old value and the right side
abbrev pub local_assigned : ℕ → Sense → Option BinOp → Sense → ℕ → Kind → Here → List Value → (List Value → TreeRun) → TreeRun
local_assigned line t None e slot k here locals go = e.value line here locals (λ v. go (slice_set locals slot (kept_value k v)))
local_assigned line t (Some o) e slot k here locals go =
    e.value line here locals (λ w. unless_fault (operated_by o t.typed.kind e.typed.kind (value_at locals slot) w) line (λ v. go (slice_set locals slot (kept_value k v))))

-- a compound assignment to a cell: one fold, or a load and a store
abbrev pub cell_changed : List Extent → ℕ → Option Op → Typed → BinOp → Typed → NumKind → Value → Value → TreeRun → TreeRun
cell_changed globals line (Some f) t o e n p v go = at_cell (cell_of globals p) line (λ c. asking (Fold c f (number_in v)) line (λ u. go))
cell_changed globals line None t o e n p v go =
    loaded globals line p (λ w. unless_fault (operated_by o t.kind e.kind w v) line (λ x. stored globals line n p x go))

-- an assignment to a cell: its place, and then the right side
abbrev pub cell_assigned : List Extent → ℕ → Sense → Option BinOp → Sense → NumKind → Here → List Value → TreeRun → TreeRun
cell_assigned globals line t None e n here locals go = t.place line here locals (λ p. e.value line here locals (λ v. stored globals line n p v go))
cell_assigned globals line t (Some o) e n here locals go =
    t.place line here locals (λ p. e.value line here locals (λ v. cell_changed globals line (folded_by n o) t.typed o e.typed n p v go))

-- an assignment by what its left side designates; to what is no target nothing is assigned
abbrev pub assigned : List Extent → ℕ → Target → Sense → Option BinOp → Sense → Here → List Value → (List Value → TreeRun) → TreeRun
assigned globals line (target.Local slot k) t o e here locals go = local_assigned line t o e slot k here locals go
assigned globals line (target.Cell n) t o e here locals go = cell_assigned globals line t o e n here locals (go locals)
assigned globals line _ t o e here locals go = go locals

-- what an assignment does
abbrev pub assignment : List Item → ℕ → Expr → Option BinOp → Expr → Does
assignment all line t o e around here ways locals =
    assigned (extents_of all) line (sense_of all around.scope t).typed.target (sense_of all around.scope t) o (sense_of all around.scope e) here locals ways.next

-- Calls, prints and returns

-- a call as a statement: its value is dropped
abbrev pub call_done : List Item → ℕ → List ℕ → List Expr → Does
call_done all line name es around here ways locals = call_value all (item_found all name) (map (sense_of all around.scope) es) line here locals (λ v. ways.next locals)

-- `printf`: its arguments, and then one print, of an empty string too
abbrev pub print_done : List Item → ℕ → List ℕ → List Expr → Does
print_done all line format es around here ways locals =
    arguments (map (sense_of all around.scope) es) line here locals [] (λ made. asking (Print (printed format (map number_in (reverse made)))) line (λ t. ways.next locals))

-- a `return`, with its value if it has one
abbrev pub returned : List Item → ℕ → Option Expr → Does
returned all line None around here ways locals = ways.give line (value.Num 0)
returned all line (Some e) around here ways locals = (sense_of all around.scope e).value line here locals (λ v. ways.give line v)

-- Choices and loops

-- a part that may be left out
abbrev pub part_does : Option Meaning → Does
part_does None around here ways locals = ways.next locals
part_does (Some m) around here ways locals = m.does around here ways locals

-- the place behind such a part
abbrev pub part_behind : Option Meaning → Around → Around
part_behind None around = around
part_behind (Some m) around = m.behind around

-- the bodies of the task statements in such a part
abbrev pub part_bodies : Option Meaning → Around → List Body
part_bodies None around = []
part_bodies (Some m) around = m.bodies around

-- where the second side of an `if` stands: behind the task statements of the first
abbrev pub other_place : Meaning → Around → Around
other_place side around = left around (side.behind around)

-- the side that a test chooses
abbrev pub chosen : Meaning → Option Meaning → Value → Does
chosen side other v around here ways locals =
    if is_zero v then part_does other (other_place side around) here ways locals else side.does around here ways locals

-- what an `if` means: the test, and then one side
abbrev pub choice : List Item → ℕ → Expr → Meaning → Option Meaning → Meaning
choice all line e side other = record {
  behind = λ around. left around (part_behind other (other_place side around));
  does = ticked line (λ around here ways locals. (sense_of all around.scope e).value line here locals (λ v. chosen side other v around here ways locals));
  bodies = λ around. side.bodies around ++ part_bodies other (other_place side around);
}

-- a test that is left out holds
abbrev pub tested : List Item → Option Expr → ℕ → List Local → Here → List Value → Going
tested all None line scope here locals go = go (value.Num 1)
tested all (Some e) line scope here locals go = (sense_of all scope e).value line here locals go

-- The ways out of the body of a loop: to the end of the turn, also by `continue`; and by `break` to what stands behind the loop. What was
-- declared where a jump stands is gone there.
abbrev pub body_ways : Around → (List Value → TreeRun) → Ways → Ways
body_ways around done ways = record {
  next = done;
  stop = λ us. ways.next (take (length around.scope) us);
  again = λ us. done (take (length around.scope) us);
  give = ways.give;
}

-- where the body of a loop stands: behind its last part, whose scope is that of the loop
abbrev pub body_place : Option Meaning → Around → Around
body_place last around = left around (part_behind last around)

-- one turn: the test, and the body where it holds
abbrev pub turn : List Item → ℕ → Option Expr → Option Meaning → Meaning → (List Value → TreeRun) → Does
turn all line test last body done around here ways locals =
    tested all test line around.scope here locals (λ v.
    if is_zero v then ways.next locals else body.does (body_place last around) here (body_ways around done ways) locals)

-- the last part, and then the next turn
abbrev pub then_next : Option Meaning → (List Value → TreeRun) → Does
then_next last turns around here ways locals = part_does last around here (going_on turns ways) locals

-- at most so many turns of a loop, each with a tick before its test
abbrev pub looped : List Item → ℕ → Option Expr → Option Meaning → Meaning → ℕ → Does
looped all line test last body zero around here ways locals = ending Tick line
looped all line test last body (suc more) around here ways locals =
    asking Tick line (λ t. turn all line test last body (λ us. then_next last (λ ls. looped all line test last body more around here ways ls) around here ways us) around here ways locals)

-- a loop, with as many turns as it may make
abbrev pub loops : List Item → ℕ → Option Expr → Option Meaning → Meaning → Does
loops all line test last body around here ways locals = looped all line test last body here.turns around here ways locals

-- a `for`: what its first part declares is in scope in the rest of it alone
abbrev pub for_done : List Item → ℕ → Option Meaning → Option Expr → Option Meaning → Meaning → Does
for_done all line first test last body around here ways locals =
    part_does first around here (going_on (λ us.
    loops all line test last body (part_behind first around) here (going_on (λ ls. ways.next (take (length around.scope) ls)) ways) us) ways) locals

-- what a `for` means
abbrev pub for_loop : List Item → ℕ → Option Meaning → Option Expr → Option Meaning → Meaning → Meaning
for_loop all line first test last body = record {
  behind = λ around. left around (body.behind (body_place last (part_behind first around)));
  does = ticked line (for_done all line first test last body);
  bodies = λ around. part_bodies first around ++ part_bodies last (part_behind first around) ++ body.bodies (body_place last (part_behind first around));
}

-- a `while` is a `for` without a first and a last part
abbrev pub while_loop : List Item → ℕ → Expr → Meaning → Meaning
while_loop all line e body = for_loop all line None (Some e) None body

-- Directives

-- the body of a task comes to its end behind its statement; no jump leads out of it, and where a tree has one it ends there too
abbrev pub body_ends : ℕ → Ways
body_ends line = record { next = λ us. ending End line; stop = λ us. ending End line; again = λ us. ending End line; give = λ at v. ending End at }

-- the place of the statement behind a pragma: the task statement itself stands before it
abbrev pub in_task : Around → Around
in_task around = record { scope = around.scope; tasks = around.tasks + 1 }

-- a task statement: a task is created, which runs the statement with a copy of the locals
abbrev pub task : List Item → ℕ → List Clause → Meaning → Meaning
task all line clauses body = record {
  behind = λ around. left around (body.behind (in_task around));
  does = ticked line (λ around here ways locals. created all around.scope (TaskBody.statement around.tasks) clauses line here locals (ways.next locals));
  bodies = λ around. (λ here copies. body.does (in_task around) here (body_ends line) copies) ∷ body.bodies (in_task around);
}

-- a `taskwait`, or one on the cells of these sections
abbrev pub wait_done : List Item → ℕ → Option (List Section) → Does
wait_done all line None around here ways locals = asking Wait line (λ t. ways.next locals)
wait_done all line (Some sections) around here ways locals =
    sections_run all around.scope waited_for sections line here locals [] (λ named. asking (WaitOn named) line (λ t. ways.next locals))

-- a `release`: its clauses, and then what they declare is released
abbrev pub release_done : List Item → ℕ → List Clause → Does
release_done all line clauses around here ways locals =
    clauses_run all around.scope clauses line here locals nothing_made (λ made. asking (Release made.accesses) line (λ t. ways.next locals))

-- What each kind of statement means, from what the statements in it mean. No program that runs has a task loop left: it is written out
-- before; where a tree has one it is an empty statement.
abbrev pub stmt_step : List Item → StmtKind-F (ℕ → Meaning) Meaning → ℕ → Meaning
stmt_step all (open_stmt.Block inner) line = blocked inner
stmt_step all open_stmt.Empty line = simple line nothing_done
stmt_step all (open_stmt.Declare ls) line = declare all line ls
stmt_step all (open_stmt.Assign t o e) line = simple line (assignment all line t o e)
stmt_step all (open_stmt.Call name es) line = simple line (call_done all line name es)
stmt_step all (open_stmt.Print format es) line = simple line (print_done all line format es)
stmt_step all (open_stmt.If e side other) line = choice all line e side other
stmt_step all (open_stmt.While e body) line = while_loop all line e body
stmt_step all (open_stmt.For first test last body) line = for_loop all line first test last body
stmt_step all (open_stmt.Return e) line = simple line (returned all line e)
stmt_step all open_stmt.Break line = simple line (λ around here ways locals. ways.stop locals)
stmt_step all open_stmt.Continue line = simple line (λ around here ways locals. ways.again locals)
stmt_step all (open_stmt.Task mark body) line = task all line mark.clauses body
stmt_step all (open_stmt.TaskLoop head body) line = simple line nothing_done
stmt_step all (open_stmt.TaskWait sections) line = simple line (wait_done all line sections)
stmt_step all (open_stmt.Release clauses) line = simple line (release_done all line clauses)

-- What a whole statement means.
abbrev pub meaning_of : List Item → Stmt → Meaning
meaning_of all = fold-Stmt (ℕ → Meaning) Meaning (stmt_step all) (λ s. s.what s.line)

-- what each of these statements means
abbrev pub meanings_of : List Item → List Stmt → List Meaning
meanings_of all ss = map (meaning_of all) ss
