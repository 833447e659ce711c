-- In a program with its task loops written out no task loop stands.
use Rattle.std.proofs.Common.{◌≡◌, ◌∙◌, ℕ, ◌+◌, ◌≤◌, List, [], ◌∷◌, map, Option, Some, None, option_map, sym, ap, arith, rules}
use Rattle.oss_syntax.specs.declared.tree.expr.BinOp.{BinOp}
use Rattle.oss_syntax.specs.declared.tree.expr.BinOp.TheVariants as op
use Rattle.oss_syntax.specs.declared.tree.expr.Expr.{Expr}
use Rattle.oss_syntax.specs.declared.tree.pragma.Clause.{Clause}
use Rattle.oss_syntax.specs.declared.tree.pragma.Section.{Section}
use Rattle.oss_syntax.specs.declared.tree.pragma.TaskMark.{TaskMark}
use Rattle.oss_syntax.specs.declared.tree.program.Item.{Item}
use Rattle.oss_syntax.specs.declared.tree.program.Item.TheVariants as items
use Rattle.oss_syntax.specs.declared.tree.program.Local.{Local}
use Rattle.oss_syntax.specs.declared.tree.stmt.LoopHead.{LoopHead}
use Rattle.oss_syntax.specs.declared.tree.stmt.Stmt.{Stmt}
use Rattle.oss_syntax.specs.declared.tree.stmt.StmtKind.{StmtKind}
use Rattle.oss_syntax.specs.declared.tree.stmt.StmtKind.TheFolds.{fold-Stmt, the_lemmas as stmt_folds}
use Rattle.oss_syntax.specs.declared.tree.stmt.StmtKind.TheOpen.{StmtKind-F}
use Rattle.oss_syntax.specs.declared.tree.stmt.StmtKind.TheOpen as open_stmt
use Rattle.oss_syntax.specs.declared.tree.stmt.StmtKind.TheVariants as stmts
use Rattle.oss_grammar.specs.Places.{IsOneOf, StandsAmong, StandsIn}
use Rattle.oss_grammar.specs.Places.IsOneOf.{first_of_them, later_of_them}
use Rattle.oss_grammar.specs.Places.StandsAmong.{in_first, in_rest}
use Rattle.oss_grammar.specs.Places.StandsIn.{in_block, in_else, in_for_body, in_for_last, in_for_start, in_task_body, in_task_loop_body, in_then, in_while, itself}
use Rattle.oss_grammar.specs.TaskLoops.{begin_name, end_name, first_of, grain_name, grain_of, item_written, joined_at, long_at, name_at, number_at, round_of, set_at, stmt_at, stop_name, task_clauses, task_of, turns_of, written, written_out, written_step}
use Rattle.oss_lower_laws.proofs.ExpressionFolds.{Pair}
use Rattle.oss_lower_laws.proofs.StatementFolds as folds
use Rattle.oss_lower_laws.proofs.StatementFolds.{AtLines, Keeps}
use Rattle.oss_lower_bounds.specs.Bounds.{NoTaskLoopIsLeft}
use Rattle.oss_lower_bounds.specs.Sizes.{if_any, stmt_counts, total}

-- How many task loops a statement has

abbrev loop_counts : StmtKind-F (ℕ → ℕ) ℕ → ℕ → ℕ
loop_counts (open_stmt.Block body) line = total body
loop_counts (open_stmt.If e side other) line = side + if_any other
loop_counts (open_stmt.While e body) line = body
loop_counts (open_stmt.For first test last body) line = if_any first + (if_any last + body)
loop_counts (open_stmt.Task mark body) line = body
loop_counts (open_stmt.TaskLoop head body) line = 1 + body
loop_counts _ line = 0

abbrev loops : Stmt → ℕ
loops = fold-Stmt (ℕ → ℕ) ℕ loop_counts (λ s. s.what s.line)

module _ (line : ℕ) where
  loops-block : (body : List Stmt) → loops (record { what = stmts.Block body; line = line }) ≡ total (map loops body)
  loops-block body = search (rules, stmt_folds)

  loops-empty : loops (record { what = stmts.Empty; line = line }) ≡ 0
  loops-empty = search (rules, stmt_folds)

  loops-declare : (ls : List Local) → loops (record { what = stmts.Declare ls; line = line }) ≡ 0
  loops-declare ls = search (rules, stmt_folds)

  loops-assign : (t : Expr) (o : Option BinOp) (e : Expr) → loops (record { what = stmts.Assign t o e; line = line }) ≡ 0
  loops-assign t o e = search (rules, stmt_folds)

  loops-call : (name : List ℕ) (es : List Expr) → loops (record { what = stmts.Call name es; line = line }) ≡ 0
  loops-call name es = search (rules, stmt_folds)

  loops-print : (format : List ℕ) (es : List Expr) → loops (record { what = stmts.Print format es; line = line }) ≡ 0
  loops-print format es = search (rules, stmt_folds)

  loops-if : (e : Expr) (s : Stmt) (o : Option Stmt) → loops (record { what = stmts.If e s o; line = line }) ≡ loops s + if_any (option_map loops o)
  loops-if e s o = search (rules, stmt_folds)

  loops-while : (e : Expr) (s : Stmt) → loops (record { what = stmts.While e s; line = line }) ≡ loops s
  loops-while e s = search (rules, stmt_folds)

  loops-for : (f : Option Stmt) (e : Option Expr) (l : Option Stmt) (s : Stmt)
      → loops (record { what = stmts.For f e l s; line = line }) ≡ if_any (option_map loops f) + (if_any (option_map loops l) + loops s)
  loops-for f e l s = search (rules, stmt_folds)

  loops-return : (e : Option Expr) → loops (record { what = stmts.Return e; line = line }) ≡ 0
  loops-return e = search (rules, stmt_folds)

  loops-break : loops (record { what = stmts.Break; line = line }) ≡ 0
  loops-break = search (rules, stmt_folds)

  loops-continue : loops (record { what = stmts.Continue; line = line }) ≡ 0
  loops-continue = search (rules, stmt_folds)

  loops-task : (mark : TaskMark) (s : Stmt) → loops (record { what = stmts.Task mark s; line = line }) ≡ loops s
  loops-task mark s = search (rules, stmt_folds)

  loops-task_loop : (head : LoopHead) (s : Stmt) → loops (record { what = stmts.TaskLoop head s; line = line }) ≡ 1 + loops s
  loops-task_loop head s = search (rules, stmt_folds)

  loops-wait : (sections : Option (List Section)) → loops (record { what = stmts.TaskWait sections; line = line }) ≡ 0
  loops-wait sections = search (rules, stmt_folds)

  loops-release : (clauses : List Clause) → loops (record { what = stmts.Release clauses; line = line }) ≡ 0
  loops-release clauses = search (rules, stmt_folds)

-- the same of a statement that has this form
of : (s : Stmt) {k : StmtKind} → s.what ≡ k → loops s ≡ loops (record { what = k; line = s.line })
of s is = ap (λ w. loops (record { what = w; line = s.line })) is

-- What stands in a statement has no more than it

mutual
  inside : {visible locals : List Local} {t s : Stmt} → StandsIn visible t locals s → loops t ≤ loops s
  inside itself = omega arith
  inside {s = s} (in_block body is d) = omega (arith, of s is, loops-block s.line body, among d)
  inside {s = s} (in_then e side other is d) = omega (arith, of s is, loops-if s.line e side other, inside d)
  inside {s = s} (in_else e side other is d) = omega (arith, of s is, loops-if s.line e side (Some other), inside d)
  inside {s = s} (in_while e body is d) = omega (arith, of s is, loops-while s.line e body, inside d)
  inside {s = s} (in_for_start start test last body is d) = omega (arith, of s is, loops-for s.line (Some start) test last body, inside d)
  inside {s = s} (in_for_last start test last body is d) = omega (arith, of s is, loops-for s.line start test (Some last) body, inside d)
  inside {s = s} (in_for_body start test last body is d) = omega (arith, of s is, loops-for s.line start test last body, inside d)
  inside {s = s} (in_task_body mark body is d) = omega (arith, of s is, loops-task s.line mark body, inside d)
  inside {s = s} (in_task_loop_body head body is d) = omega (arith, of s is, loops-task_loop s.line head body, inside d)

  among : {visible locals : List Local} {t : Stmt} {ss : List Stmt} → StandsAmong visible t locals ss → loops t ≤ total (map loops ss)
  among (in_first d) = omega (arith, inside d)
  among (in_rest d) = omega (arith, among d)

-- What is written out has none

set_free : (line : ℕ) (name : List ℕ) (e : Expr) → loops (set_at line name e) ≡ 0
set_free line name e = omega (arith, loops-assign line (name_at line name) None e)

module _ (line : ℕ) (head : LoopHead) (body : Stmt) where
  turns_free : loops (turns_of head body) ≡ loops body
  turns_free =
      let variable = name_at head.for_line head.variable.name in
      let one = number_at head.for_line 1 in
      let tests = joined_at head.for_line op.Less variable (name_at head.for_line stop_name) in
      let step : Stmt = stmt_at head.for_line (stmts.Assign variable (Some op.Add) one) in
      omega (arith, loops-for head.for_line None (Some tests) (Some step) body, loops-assign head.for_line variable (Some op.Add) one)

  task_free : loops (task_of line head body) ≡ loops body
  task_free = omega (arith, loops-task line (record { clauses = task_clauses head.mark.clauses; line = head.mark.line }) (turns_of head body), turns_free)

  round_free : loops (round_of line head body) ≡ loops body
  round_free =
      let locals = long_at line head.variable.name (name_at line begin_name) ∷ long_at line stop_name (name_at line end_name) ∷ [] in
      let left = joined_at line op.Sub (name_at line end_name) (name_at line begin_name) in
      let more = joined_at line op.Add (name_at line begin_name) (name_at line grain_name) in
      let tests = joined_at line op.More left (name_at line grain_name) in
      let shorter : Stmt = stmt_at line (stmts.If tests (set_at line stop_name more) None) in
      let declared : Stmt = stmt_at line (stmts.Declare locals) in
      let last = set_at line begin_name (name_at line stop_name) in
      omega (
        arith,
        loops-block line (declared ∷ shorter ∷ task_of line head body ∷ last ∷ []),
        loops-declare line locals,
        loops-if line tests (set_at line stop_name more) None,
        set_free line stop_name more,
        task_free,
        set_free line begin_name (name_at line stop_name),
      )

  written_free : loops (written line head body) ≡ loops body
  written_free =
      let locals = long_at line begin_name (first_of line head.variable.first) ∷ long_at line end_name head.end ∷ long_at line grain_name (grain_of line head.mark.clauses) ∷ [] in
      let low = joined_at line op.Less (name_at line grain_name) (number_at line 1) in
      let tests = joined_at line op.Less (name_at line begin_name) (name_at line end_name) in
      let declared : Stmt = stmt_at line (stmts.Declare locals) in
      let raised : Stmt = stmt_at line (stmts.If low (set_at line grain_name (number_at line 1)) None) in
      let turning : Stmt = stmt_at line (stmts.While tests (round_of line head body)) in
      omega (
        arith,
        loops-block line (declared ∷ raised ∷ turning ∷ []),
        loops-declare line locals,
        loops-if line low (set_at line grain_name (number_at line 1)) None,
        set_free line grain_name (number_at line 1),
        loops-while line tests (round_of line head body),
        round_free,
      )

abbrev IsFree : Stmt → ℕ → Type 0
IsFree s n = loops s ≡ 0

abbrev Freed : Type 0
Freed = Pair IsFree

abbrev stmt_in : Freed → Stmt
stmt_in p = p.left

totals : (ps : List Freed) → total (map loops (map stmt_in ps)) ≡ 0
totals [] = omega arith
totals (p ∷ ps) = omega (arith, p.related, totals ps)

-- each kind of statement has none, if the statements in it have none
keeps : (z : StmtKind-F (Pair (AtLines IsFree)) Freed) → Keeps IsFree written_step stmt_counts z
keeps (open_stmt.Block ps) line = omega (arith, loops-block line (map stmt_in ps), totals ps)
keeps open_stmt.Empty line = omega (arith, loops-empty line)
keeps (open_stmt.Declare ls) line = omega (arith, loops-declare line ls)
keeps (open_stmt.Assign t o e) line = omega (arith, loops-assign line t o e)
keeps (open_stmt.Call name es) line = omega (arith, loops-call line name es)
keeps (open_stmt.Print format es) line = omega (arith, loops-print line format es)
keeps (open_stmt.If e side None) line = omega (arith, loops-if line e side.left None, side.related)
keeps (open_stmt.If e side (Some other)) line = omega (arith, loops-if line e side.left (Some other.left), side.related, other.related)
keeps (open_stmt.While e body) line = omega (arith, loops-while line e body.left, body.related)
keeps (open_stmt.For None test None body) line = omega (arith, loops-for line None test None body.left, body.related)
keeps (open_stmt.For None test (Some last) body) line = omega (arith, loops-for line None test (Some last.left) body.left, last.related, body.related)
keeps (open_stmt.For (Some first) test None body) line = omega (arith, loops-for line (Some first.left) test None body.left, first.related, body.related)
keeps (open_stmt.For (Some first) test (Some last) body) line =
    omega (arith, loops-for line (Some first.left) test (Some last.left) body.left, first.related, last.related, body.related)
keeps (open_stmt.Return e) line = omega (arith, loops-return line e)
keeps open_stmt.Break line = omega (arith, loops-break line)
keeps open_stmt.Continue line = omega (arith, loops-continue line)
keeps (open_stmt.Task mark body) line = omega (arith, loops-task line mark body.left, body.related)
keeps (open_stmt.TaskLoop head body) line = omega (arith, written_free line head body.left, body.related)
keeps (open_stmt.TaskWait sections) line = omega (arith, loops-wait line sections)
keeps (open_stmt.Release clauses) line = omega (arith, loops-release line clauses)

stmt_free : (s : Stmt) → loops (written_out s) ≡ 0
stmt_free = folds.both IsFree written_step stmt_counts keeps

-- Programs

body_free : (ss : List Stmt) → total (map loops (map written_out ss)) ≡ 0
body_free [] = omega arith
body_free (s ∷ ss) = omega (arith, stmt_free s, body_free ss)

-- how many the body of an item has
abbrev item_loops : Item → ℕ
item_loops (items.Global g) = 0
item_loops (items.Function f) = total (map loops f.body)

item_free : (x : Item) → item_loops (item_written x) ≡ 0
item_free (items.Global g) = omega arith
item_free (items.Function f) = body_free f.body

items_free : (x : Item) (xs : List Item) → IsOneOf x (map item_written xs) → item_loops x ≡ 0
items_free x [] is = elim is [ ]
items_free x (y ∷ ys) (first_of_them same) = ap item_loops (sym same) ∙ item_free y
items_free x (y ∷ ys) (later_of_them is) = items_free x ys is

pub no_task_loop_is_left : NoTaskLoopIsLeft
no_task_loop_is_left p f visible t head body stands is =
    absurd (omega (arith, items_free (items.Function f) p.items stands.is_item, among stands.stands, of t is, loops-task_loop t.line head body))
