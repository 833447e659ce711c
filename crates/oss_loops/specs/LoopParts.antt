-- The block of a task loop by its parts, in the order in which it is put together: what of the head comes into it, one round of its
-- loop around a task, and the block around the loop.
-- Read against: with the clauses `grainsize(4) out(a[i;4])` the head `for (long i = 0; i < 8; i++)` has the bounds 0, 8 and 4, and its
-- tasks have the variable `i` and the clause `out(a[i;4])` alone.
use Rattle.std.specs.Prelude.{ℕ, List, [], ◌∷◌, Option, Some, None}
use Rattle.oss_syntax.specs.declared.tree.expr.BinOp.TheVariants as op
use Rattle.oss_syntax.specs.declared.tree.expr.Expr.{Expr}
use Rattle.oss_syntax.specs.declared.tree.pragma.Clause.{Clause}
use Rattle.oss_syntax.specs.declared.tree.pragma.Clause.TheVariants as clause
use Rattle.oss_syntax.specs.declared.tree.program.Local.{Local}
use Rattle.oss_syntax.specs.declared.tree.stmt.LoopHead.{LoopHead}
use Rattle.oss_syntax.specs.declared.tree.stmt.Stmt.{Stmt}
use Rattle.oss_syntax.specs.declared.tree.stmt.StmtKind.TheVariants as stmts
use Rattle.oss_grammar.specs.TaskLoops.{begin_name, end_name, first_of, grain_name, grain_of, joined_at, long_at, name_at, number_at, set_at, stmt_at, stop_name, task_clauses}
use Rattle.oss_loops.specs.declared.parts.Bounds.{Bounds}
use Rattle.oss_loops.specs.declared.parts.TaskParts.{TaskParts}

-- the turns that a clause tells, where it is a grainsize
abbrev pub turns_in : Clause → Option Expr
turns_in (clause.Grain e) = Some e
turns_in _ = None

-- the turns that the first grainsize among clauses tells
abbrev pub turns_among : List Clause → Option Expr
turns_among [] = None
turns_among (clause.Grain e ∷ rest) = Some e
turns_among (c ∷ rest) = turns_among rest

-- an expression where there is one, and else a number
abbrev pub or_number : ℕ → ℕ → Option Expr → Expr
or_number line n None = number_at line n
or_number line n (Some e) = e

-- the initial values of the locals of the block
abbrev pub loop_bounds : ℕ → LoopHead → Bounds
loop_bounds line head = record { first = first_of line head.variable.first; end = head.end; grain = grain_of line head.mark.clauses }

-- what each task is made of
abbrev pub task_parts : LoopHead → TaskParts
task_parts head = record { variable = head.variable.name; clauses = task_clauses head.mark.clauses; mark_line = head.mark.line; for_line = head.for_line }

-- the turns of one task
abbrev pub turns_with : ℕ → List ℕ → Stmt → Stmt
turns_with line variable body = stmt_at line (stmts.For None
    (Some (joined_at line op.Less (name_at line variable) (name_at line stop_name)))
    (Some (stmt_at line (stmts.Assign (name_at line variable) (Some op.Add) (number_at line 1))))
    body)

-- the locals of one round: the variable begins where the task does
abbrev pub round_locals : ℕ → List ℕ → List Local
round_locals line variable = long_at line variable (name_at line begin_name) ∷ long_at line stop_name (name_at line end_name) ∷ []

-- a task ends early where more turns are left than it makes
abbrev pub stop_moved : ℕ → Stmt
stop_moved line = stmt_at line (stmts.If (joined_at line op.More (joined_at line op.Sub (name_at line end_name) (name_at line begin_name)) (name_at line grain_name))
    (set_at line stop_name (joined_at line op.Add (name_at line begin_name) (name_at line grain_name))) None)

-- a task with these parts
abbrev pub task_with : ℕ → TaskParts → Stmt → Stmt
task_with line t body = stmt_at line (stmts.Task (record { clauses = t.clauses; line = t.mark_line }) (turns_with t.for_line t.variable body))

-- one round, whose task has these parts
abbrev pub round_with : ℕ → TaskParts → Stmt → Stmt
round_with line t body = stmt_at line (stmts.Block (
    stmt_at line (stmts.Declare (round_locals line t.variable))
    ∷ stop_moved line
    ∷ task_with line t body
    ∷ set_at line begin_name (name_at line stop_name)
    ∷ []))

-- the loop of these rounds
abbrev pub loop_with : ℕ → Stmt → Stmt
loop_with line round = stmt_at line (stmts.While (joined_at line op.Less (name_at line begin_name) (name_at line end_name)) round)

-- the locals of the block
abbrev pub last_locals : ℕ → Expr → Expr → List Local
last_locals line end grain = long_at line end_name end ∷ long_at line grain_name grain ∷ []

abbrev pub block_locals : ℕ → Bounds → List Local
block_locals line b = long_at line begin_name b.first ∷ last_locals line b.end b.grain

-- a task makes one turn where fewer are told
abbrev pub grain_raised : ℕ → Stmt
grain_raised line = stmt_at line (stmts.If (joined_at line op.Less (name_at line grain_name) (number_at line 1)) (set_at line grain_name (number_at line 1)) None)

-- the block around a loop
abbrev pub block_of : ℕ → Bounds → Stmt → Stmt
block_of line b rounds = stmt_at line (stmts.Block (
    stmt_at line (stmts.Declare (block_locals line b))
    ∷ grain_raised line
    ∷ rounds
    ∷ []))
