-- What a task loop is written out as (OmpSs-2, the taskloop directive): a block with a loop that creates a task for so many turns at a
-- time. Its names begin with `$`, as no name of a text does.
-- Read against: with the clauses `grainsize(4) out(a[i;4])` the loop `for (long i = 0; i < 8; i++) S` is the block
--     { long $c = 0, $u = 8, $g = 4; if ($g < 1) $g = 1;
--       while ($c < $u) { long i = $c, $e = $u; if ($u - $c > $g) $e = $c + $g; task out(a[i;4]) for (; i < $e; i++) S; $c = $e; } }
-- which creates two tasks: in the clauses of the first `i` is 0, and in those of the second it is 4.
use Rattle.std.specs.Prelude.{ℕ, false, List, [], ◌∷◌, map, codes, Option, Some, None}
use Rattle.oss_syntax.specs.declared.tree.expr.BinOp.{BinOp}
use Rattle.oss_syntax.specs.declared.tree.expr.BinOp.TheVariants as op
use Rattle.oss_syntax.specs.declared.tree.expr.Expr.{Expr}
use Rattle.oss_syntax.specs.declared.tree.expr.ExprKind.TheVariants as exprs
use Rattle.oss_syntax.specs.declared.tree.pragma.Clause.{Clause}
use Rattle.oss_syntax.specs.declared.tree.pragma.Clause.TheVariants as clause
use Rattle.oss_syntax.specs.declared.tree.program.Item.{Item}
use Rattle.oss_syntax.specs.declared.tree.program.Item.TheVariants as items
use Rattle.oss_syntax.specs.declared.tree.program.Kind.TheVariants as kind
use Rattle.oss_syntax.specs.declared.tree.program.Local.{Local}
use Rattle.oss_syntax.specs.declared.tree.program.NumKind.TheVariants as num
use Rattle.oss_syntax.specs.declared.tree.program.Program.{Program}
use Rattle.oss_syntax.specs.declared.tree.stmt.LoopHead.{LoopHead}
use Rattle.oss_syntax.specs.declared.tree.stmt.Stmt.{Stmt}
use Rattle.oss_syntax.specs.declared.tree.stmt.StmtKind.{StmtKind}
use Rattle.oss_syntax.specs.declared.tree.stmt.StmtKind.TheOpen.{StmtKind-F, Stmt-F}
use Rattle.oss_syntax.specs.declared.tree.stmt.StmtKind.TheOpen as open_stmt
use Rattle.oss_syntax.specs.declared.tree.stmt.StmtKind.TheFolds.{fold-Stmt}
use Rattle.oss_syntax.specs.declared.tree.stmt.StmtKind.TheVariants as stmts

-- the trees of which the block is made, all on one line
abbrev pub name_at : ℕ → List ℕ → Expr
name_at line name = record { what = exprs.Name name; line = line }

abbrev pub number_at : ℕ → ℕ → Expr
number_at line n = record { what = exprs.Number n false; line = line }

abbrev pub joined_at : ℕ → BinOp → Expr → Expr → Expr
joined_at line o a b = record { what = exprs.Binary o a b; line = line }

abbrev pub stmt_at : ℕ → StmtKind → Stmt
stmt_at line what = record { what = what; line = line }

abbrev pub set_at : ℕ → List ℕ → Expr → Stmt
set_at line name e = stmt_at line (stmts.Assign (name_at line name) None e)

abbrev pub long_at : ℕ → List ℕ → Expr → Local
long_at line name e = record { name = name; kind = kind.Num num.Long; first = Some e; line = line }

-- where the next task begins, where the loop ends, how many turns a task makes, and where this task ends
abbrev pub begin_name : List ℕ
begin_name = codes "$c"

abbrev pub end_name : List ℕ
end_name = codes "$u"

abbrev pub grain_name : List ℕ
grain_name = codes "$g"

abbrev pub stop_name : List ℕ
stop_name = codes "$e"

-- how many turns a task makes: 1 where no clause tells it
abbrev pub grain_of : ℕ → List Clause → Expr
grain_of line [] = number_at line 1
grain_of line (clause.Grain e ∷ rest) = e
grain_of line (c ∷ rest) = grain_of line rest

-- the clauses of each task: all but the grainsize
abbrev pub task_clauses : List Clause → List Clause
task_clauses [] = []
task_clauses (clause.Grain e ∷ rest) = task_clauses rest
task_clauses (c ∷ rest) = c ∷ task_clauses rest

abbrev pub first_of : ℕ → Option Expr → Expr
first_of line None = number_at line 0
first_of line (Some e) = e

-- the turns of one task: its test and its step have the line of the word `for`
abbrev pub turns_of : LoopHead → Stmt → Stmt
turns_of head body = stmt_at head.for_line (stmts.For None
    (Some (joined_at head.for_line op.Less (name_at head.for_line head.variable.name) (name_at head.for_line stop_name)))
    (Some (stmt_at head.for_line (stmts.Assign (name_at head.for_line head.variable.name) (Some op.Add) (number_at head.for_line 1))))
    body)

-- one task
abbrev pub task_of : ℕ → LoopHead → Stmt → Stmt
task_of line head body = stmt_at line (stmts.Task (record { clauses = task_clauses head.mark.clauses; line = head.mark.line }) (turns_of head body))

-- one round of the loop, which creates a task
abbrev pub round_of : ℕ → LoopHead → Stmt → Stmt
round_of line head body = stmt_at line (stmts.Block (
    stmt_at line (stmts.Declare (long_at line head.variable.name (name_at line begin_name) ∷ long_at line stop_name (name_at line end_name) ∷ []))
    ∷ stmt_at line (stmts.If (joined_at line op.More (joined_at line op.Sub (name_at line end_name) (name_at line begin_name)) (name_at line grain_name))
    (set_at line stop_name (joined_at line op.Add (name_at line begin_name) (name_at line grain_name))) None)
    ∷ task_of line head body
    ∷ set_at line begin_name (name_at line stop_name)
    ∷ []))

-- A task loop written out. The lines are that of the `#`, but for the turns of its tasks.
abbrev pub written : ℕ → LoopHead → Stmt → Stmt
written line head body = stmt_at line (stmts.Block (
    stmt_at line (stmts.Declare (long_at line begin_name (first_of line head.variable.first) ∷ long_at line end_name head.end ∷ long_at line grain_name (grain_of line head.mark.clauses) ∷ []))
    ∷ stmt_at line (stmts.If (joined_at line op.Less (name_at line grain_name) (number_at line 1)) (set_at line grain_name (number_at line 1)) None)
    ∷ stmt_at line (stmts.While (joined_at line op.Less (name_at line begin_name) (name_at line end_name)) (round_of line head body))
    ∷ []))

-- The statements of a layer with those inside written out already: a task loop is written out, and each other statement stays.
abbrev pub written_step : StmtKind-F (ℕ → Stmt) Stmt → ℕ → Stmt
written_step (open_stmt.TaskLoop head body) line = written line head body
written_step (open_stmt.Block body) line = stmt_at line (stmts.Block body)
written_step open_stmt.Empty line = stmt_at line stmts.Empty
written_step (open_stmt.Declare locals) line = stmt_at line (stmts.Declare locals)
written_step (open_stmt.Assign target o e) line = stmt_at line (stmts.Assign target o e)
written_step (open_stmt.Call name es) line = stmt_at line (stmts.Call name es)
written_step (open_stmt.Print format es) line = stmt_at line (stmts.Print format es)
written_step (open_stmt.If e branch other) line = stmt_at line (stmts.If e branch other)
written_step (open_stmt.While e body) line = stmt_at line (stmts.While e body)
written_step (open_stmt.For start test step body) line = stmt_at line (stmts.For start test step body)
written_step (open_stmt.Return e) line = stmt_at line (stmts.Return e)
written_step open_stmt.Break line = stmt_at line stmts.Break
written_step open_stmt.Continue line = stmt_at line stmts.Continue
written_step (open_stmt.Task mark body) line = stmt_at line (stmts.Task mark body)
written_step (open_stmt.TaskWait sections) line = stmt_at line (stmts.TaskWait sections)
written_step (open_stmt.Release clauses) line = stmt_at line (stmts.Release clauses)

-- a statement with each task loop in it written out
abbrev pub written_out : Stmt → Stmt
written_out = fold-Stmt (ℕ → Stmt) Stmt written_step (λ s. s.what s.line)

abbrev pub item_written : Item → Item
item_written (items.Global g) = items.Global g
item_written (items.Function f) = items.Function (record f { body = map written_out f.body })

-- a program with each task loop written out
abbrev pub program_written : Program → Program
program_written p = record { items = map item_written p.items }
