-- A program has no less size than it has with its task loops written out.
use Rattle.std.proofs.Common.{◌≡◌, ℕ, ◌+◌, ◌≤◌, false, List, [], ◌∷◌, map, Option, Some, None, arith}
use Rattle.oss_syntax.specs.declared.tree.expr.BinOp.TheVariants as op
use Rattle.oss_syntax.specs.declared.tree.expr.Expr.{Expr}
use Rattle.oss_syntax.specs.declared.tree.pragma.Clause.{Clause}
use Rattle.oss_syntax.specs.declared.tree.pragma.Clause.TheVariants as clause
use Rattle.oss_syntax.specs.declared.tree.program.Item.{Item}
use Rattle.oss_syntax.specs.declared.tree.program.Item.TheVariants as items
use Rattle.oss_syntax.specs.declared.tree.stmt.LoopHead.{LoopHead}
use Rattle.oss_syntax.specs.declared.tree.stmt.Stmt.{Stmt}
use Rattle.oss_syntax.specs.declared.tree.stmt.StmtKind.TheOpen.{StmtKind-F}
use Rattle.oss_syntax.specs.declared.tree.stmt.StmtKind.TheOpen as open_stmt
use Rattle.oss_syntax.specs.declared.tree.stmt.StmtKind.TheVariants as stmts
use Rattle.oss_grammar.specs.TaskLoops.{begin_name, end_name, first_of, grain_name, grain_of, item_written, joined_at, long_at, name_at, number_at, round_of, set_at, stmt_at, stop_name, task_clauses, task_of, turns_of, written, written_out, written_step}
use Rattle.oss_lower_laws.proofs.ExpressionFolds.{Pair}
use Rattle.oss_lower_laws.proofs.StatementFolds as folds
use Rattle.oss_lower_laws.proofs.StatementFolds.{AtLines, Keeps}
use Rattle.oss_lower_bounds.specs.Sizes.{body_size, clauses_size, expr_size, items_size, loop_size, optional_size, stmt_counts, stmt_size, total}
use Rattle.oss_lower_bounds.proofs.SizeForms.{size-assign, size-binary, size-block, size-break, size-call, size-continue, size-declare, size-empty, size-for, size-if, size-name, size-number, size-print, size-release, size-return, size-task, size-wait, size-while}

-- The parts that are written around those of a task loop

set_size : (line : ℕ) (name : List ℕ) (e : Expr) → stmt_size (set_at line name e) ≡ 2 + expr_size e
set_size line name e = omega (arith, size-assign line (name_at line name) None e, size-name line name)

module _ (line : ℕ) (head : LoopHead) (body : Stmt) where
  turns_size : stmt_size (turns_of head body) ≡ 7 + stmt_size body
  turns_size =
      let variable = name_at head.for_line head.variable.name in
      let one = number_at head.for_line 1 in
      let tests = joined_at head.for_line op.Less variable (name_at head.for_line stop_name) in
      let step : Stmt = stmt_at head.for_line (stmts.Assign variable (Some op.Add) one) in
      omega (
        arith,
        size-for head.for_line None (Some tests) (Some step) body,
        size-binary head.for_line op.Less variable (name_at head.for_line stop_name),
        size-assign head.for_line variable (Some op.Add) one,
        size-name head.for_line head.variable.name,
        size-name head.for_line stop_name,
        size-number head.for_line 1 false,
      )

  task_size : stmt_size (task_of line head body) ≡ 8 + (clauses_size (task_clauses head.mark.clauses) + stmt_size body)
  task_size =
      omega (arith, size-task line (record { clauses = task_clauses head.mark.clauses; line = head.mark.line }) (turns_of head body), turns_size)

  round_size : stmt_size (round_of line head body) ≡ 28 + (clauses_size (task_clauses head.mark.clauses) + stmt_size body)
  round_size =
      let locals = long_at line head.variable.name (name_at line begin_name) ∷ long_at line stop_name (name_at line end_name) ∷ [] in
      let left = joined_at line op.Sub (name_at line end_name) (name_at line begin_name) in
      let more = joined_at line op.Add (name_at line begin_name) (name_at line grain_name) in
      let tests = joined_at line op.More left (name_at line grain_name) in
      let shorter : Stmt = stmt_at line (stmts.If tests (set_at line stop_name more) None) in
      let declared : Stmt = stmt_at line (stmts.Declare locals) in
      let last = set_at line begin_name (name_at line stop_name) in
      omega (
        arith,
        size-block line (declared ∷ shorter ∷ task_of line head body ∷ last ∷ []),
        size-declare line locals,
        size-if line tests (set_at line stop_name more) None,
        size-binary line op.More left (name_at line grain_name),
        size-binary line op.Sub (name_at line end_name) (name_at line begin_name),
        set_size line stop_name more,
        size-binary line op.Add (name_at line begin_name) (name_at line grain_name),
        task_size,
        set_size line begin_name (name_at line stop_name),
        size-name line begin_name,
        size-name line end_name,
        size-name line grain_name,
        size-name line stop_name,
      )

  first_size : (o : Option Expr) → expr_size (first_of line o) ≤ 1 + optional_size o
  first_size None = omega (arith, size-number line 0 false)
  first_size (Some e) = omega arith

  grain_size : (cs : List Clause) → expr_size (grain_of line cs) + clauses_size (task_clauses cs) ≤ 1 + clauses_size cs
  grain_size [] = omega (arith, size-number line 1 false)
  grain_size (clause.Grain e ∷ rest) = omega (arith, grain_size rest)
  grain_size (clause.Depend mode strong fresh sections ∷ rest) = omega (arith, grain_size rest)
  grain_size (clause.If e ∷ rest) = omega (arith, grain_size rest)
  grain_size (clause.Final e ∷ rest) = omega (arith, grain_size rest)
  grain_size (clause.Wait ∷ rest) = omega (arith, grain_size rest)
  grain_size (clause.Label text ∷ rest) = omega (arith, grain_size rest)
  grain_size (clause.Priority e ∷ rest) = omega (arith, grain_size rest)

  written_size : stmt_size (written line head body) ≤ loop_size + (optional_size head.variable.first + (expr_size head.end + (clauses_size head.mark.clauses + stmt_size body)))
  written_size =
      let locals = long_at line begin_name (first_of line head.variable.first) ∷ long_at line end_name head.end ∷ long_at line grain_name (grain_of line head.mark.clauses) ∷ [] in
      let low = joined_at line op.Less (name_at line grain_name) (number_at line 1) in
      let tests = joined_at line op.Less (name_at line begin_name) (name_at line end_name) in
      let declared : Stmt = stmt_at line (stmts.Declare locals) in
      let raised : Stmt = stmt_at line (stmts.If low (set_at line grain_name (number_at line 1)) None) in
      let turning : Stmt = stmt_at line (stmts.While tests (round_of line head body)) in
      omega (
        arith,
        size-block line (declared ∷ raised ∷ turning ∷ []),
        size-declare line locals,
        size-if line low (set_at line grain_name (number_at line 1)) None,
        size-binary line op.Less (name_at line grain_name) (number_at line 1),
        set_size line grain_name (number_at line 1),
        size-number line 1 false,
        size-while line tests (round_of line head body),
        size-binary line op.Less (name_at line begin_name) (name_at line end_name),
        round_size,
        first_size head.variable.first,
        grain_size head.mark.clauses,
        size-name line begin_name,
        size-name line end_name,
        size-name line grain_name,
      )

-- Statements

abbrev IsNoLess : Stmt → ℕ → Type 0
IsNoLess s n = stmt_size s ≤ n

abbrev Sized : Type 0
Sized = Pair IsNoLess

abbrev stmt_in : Sized → Stmt
stmt_in p = p.left

abbrev size_in : Sized → ℕ
size_in p = p.right

totals : (ps : List Sized) → total (map stmt_size (map stmt_in ps)) ≤ total (map size_in ps)
totals [] = omega arith
totals (p ∷ ps) = omega (arith, p.related, totals ps)

-- each kind of statement has no less size, if the statements in it have no less
keeps : (z : StmtKind-F (Pair (AtLines IsNoLess)) Sized) → Keeps IsNoLess written_step stmt_counts z
keeps (open_stmt.Block ps) line = omega (arith, size-block line (map stmt_in ps), totals ps)
keeps open_stmt.Empty line = omega (arith, size-empty line)
keeps (open_stmt.Declare ls) line = omega (arith, size-declare line ls)
keeps (open_stmt.Assign t o e) line = omega (arith, size-assign line t o e)
keeps (open_stmt.Call name es) line = omega (arith, size-call line name es)
keeps (open_stmt.Print format es) line = omega (arith, size-print line format es)
keeps (open_stmt.If e side None) line = omega (arith, size-if line e side.left None, side.related)
keeps (open_stmt.If e side (Some other)) line = omega (arith, size-if line e side.left (Some other.left), side.related, other.related)
keeps (open_stmt.While e body) line = omega (arith, size-while line e body.left, body.related)
keeps (open_stmt.For None test None body) line = omega (arith, size-for line None test None body.left, body.related)
keeps (open_stmt.For None test (Some last) body) line = omega (arith, size-for line None test (Some last.left) body.left, last.related, body.related)
keeps (open_stmt.For (Some first) test None body) line = omega (arith, size-for line (Some first.left) test None body.left, first.related, body.related)
keeps (open_stmt.For (Some first) test (Some last) body) line =
    omega (arith, size-for line (Some first.left) test (Some last.left) body.left, first.related, last.related, body.related)
keeps (open_stmt.Return e) line = omega (arith, size-return line e)
keeps open_stmt.Break line = omega (arith, size-break line)
keeps open_stmt.Continue line = omega (arith, size-continue line)
keeps (open_stmt.Task mark body) line = omega (arith, size-task line mark body.left, body.related)
keeps (open_stmt.TaskLoop head body) line = omega (arith, written_size line head body.left, body.related)
keeps (open_stmt.TaskWait sections) line = omega (arith, size-wait line sections)
keeps (open_stmt.Release clauses) line = omega (arith, size-release line clauses)

stmt_written : (s : Stmt) → stmt_size (written_out s) ≤ stmt_size s
stmt_written = folds.both IsNoLess written_step stmt_counts keeps

-- Programs

body_written : (ss : List Stmt) → body_size (map written_out ss) ≤ body_size ss
body_written [] = omega arith
body_written (s ∷ ss) = omega (arith, stmt_written s, body_written ss)

pub items_written : (xs : List Item) → items_size (map item_written xs) ≤ items_size xs
items_written [] = omega arith
items_written (items.Global g ∷ xs) = omega (arith, items_written xs)
items_written (items.Function f ∷ xs) = omega (arith, body_written f.body, items_written xs)
