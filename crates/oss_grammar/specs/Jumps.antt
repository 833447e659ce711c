-- Jumps (C11 6.8.6): a `break` or `continue` stands in a loop of its task or function, and a `return` in no task statement. The nearest
-- loop of a `break` is no task loop (OmpSs-2, the taskloop directive).
-- Read against: in `while (x) { #pragma oss task` and `{ break; } }` the `break` is a bad jump, since the loop stands around the task;
-- in a task around the `while` it is none. A `return` in the body of a function with a pragma is none either.
use Rattle.std.specs.Prelude.{◌≡◌, ℕ, List, Option, Some}
use Rattle.oss_syntax.specs.declared.refusal.RefusedKind.TheVariants as refused
use Rattle.oss_syntax.specs.declared.tree.expr.Expr.{Expr}
use Rattle.oss_syntax.specs.declared.tree.pragma.TaskMark.{TaskMark}
use Rattle.oss_syntax.specs.declared.tree.program.Function.{Function}
use Rattle.oss_syntax.specs.declared.tree.program.Item.TheVariants as items
use Rattle.oss_syntax.specs.declared.tree.program.Program.{Program}
use Rattle.oss_syntax.specs.declared.tree.stmt.LoopHead.{LoopHead}
use Rattle.oss_syntax.specs.declared.tree.stmt.Stmt.{Stmt}
use Rattle.oss_syntax.specs.declared.tree.stmt.StmtKind.TheVariants as stmts
use Rattle.oss_grammar.specs.Broken.{broken}
use Rattle.oss_grammar.specs.Places.{IsOneOf}
use Rattle.oss_grammar.specs.ProgramRules.{program_rules}

-- A statement is a part of another, and neither the body of a loop nor that of a task.
pub data IsPart (part s : Stmt) : Type 0 where
  of_block : (body : List Stmt) → s.what ≡ stmts.Block body → IsOneOf part body → IsPart part s
  is_then : (e : Expr) (other : Option Stmt) → s.what ≡ stmts.If e part other → IsPart part s
  is_else : (e : Expr) (branch : Stmt) → s.what ≡ stmts.If e branch (Some part) → IsPart part s
  is_start : (test : Option Expr) (last : Option Stmt) (body : Stmt) → s.what ≡ stmts.For (Some part) test last body → IsPart part s
  is_last : (start : Option Stmt) (test : Option Expr) (body : Stmt) → s.what ≡ stmts.For start test (Some part) body → IsPart part s

-- It is the body of a loop.
pub data IsLoopBody (body s : Stmt) : Type 0 where
  of_while : (e : Expr) → s.what ≡ stmts.While e body → IsLoopBody body s
  of_for : (start : Option Stmt) (test : Option Expr) (last : Option Stmt) → s.what ≡ stmts.For start test last body → IsLoopBody body s

-- It is the body of a task.
pub data IsTaskBody (body s : Stmt) : Type 0 where
  of_task : (mark : TaskMark) → s.what ≡ stmts.Task mark body → IsTaskBody body s

-- It is the body of a task loop, of which each turn is made by a task.
pub data IsTaskLoopBody (body s : Stmt) : Type 0 where
  of_task_loop : (head : LoopHead) → s.what ≡ stmts.TaskLoop head body → IsTaskLoopBody body s

-- A `break` on this line stands in a statement, in no loop and no task inside of it.
pub data Breaks (line : ℕ) : Stmt → Type 0 where
  break_in : {s : Stmt} → s.what ≡ stmts.Break → s.line ≡ line → Breaks line s
  breaks_part : {s : Stmt} (part : Stmt) → IsPart part s → Breaks line part → Breaks line s

-- A `break` or `continue` on this line stands in a statement, in no loop and no task inside of it.
pub data Leaves (line : ℕ) : Stmt → Type 0 where
  break_here : {s : Stmt} → s.what ≡ stmts.Break → s.line ≡ line → Leaves line s
  continue_here : {s : Stmt} → s.what ≡ stmts.Continue → s.line ≡ line → Leaves line s
  leaves_part : {s : Stmt} (part : Stmt) → IsPart part s → Leaves line part → Leaves line s

-- A `return` on this line stands in a statement, in whatever else.
pub data Returns (line : ℕ) : Stmt → Type 0 where
  return_here : {s : Stmt} (value : Option Expr) → s.what ≡ stmts.Return value → s.line ≡ line → Returns line s
  returns_part : {s : Stmt} (part : Stmt) → IsPart part s → Returns line part → Returns line s
  returns_loop : {s : Stmt} (body : Stmt) → IsLoopBody body s → Returns line body → Returns line s
  returns_task : {s : Stmt} (body : Stmt) → IsTaskBody body s → Returns line body → Returns line s
  returns_task_loop : {s : Stmt} (body : Stmt) → IsTaskLoopBody body s → Returns line body → Returns line s

-- A task or a task loop stands in a statement, and in its body a jump on this line that leaves it. A `continue` ends a turn of a task loop,
-- and does not leave it.
pub data LeavesTask (line : ℕ) : Stmt → Type 0 where
  leaves_body : {s : Stmt} (body : Stmt) → IsTaskBody body s → Leaves line body → LeavesTask line s
  returns_body : {s : Stmt} (body : Stmt) → IsTaskBody body s → Returns line body → LeavesTask line s
  task_in_part : {s : Stmt} (part : Stmt) → IsPart part s → LeavesTask line part → LeavesTask line s
  task_in_loop : {s : Stmt} (body : Stmt) → IsLoopBody body s → LeavesTask line body → LeavesTask line s
  task_in_task : {s : Stmt} (body : Stmt) → IsTaskBody body s → LeavesTask line body → LeavesTask line s
  breaks_task_loop : {s : Stmt} (body : Stmt) → IsTaskLoopBody body s → Breaks line body → LeavesTask line s
  returns_from_task_loop : {s : Stmt} (body : Stmt) → IsTaskLoopBody body s → Returns line body → LeavesTask line s
  task_in_task_loop : {s : Stmt} (body : Stmt) → IsTaskLoopBody body s → LeavesTask line body → LeavesTask line s

-- A bad jump stands on this line of a program: one that leaves the body of a function but for a `return`, or the body of a task.
pub data HasBadJump (p : Program) (line : ℕ) : Type 0 where
  leaves_function : (f : Function) (s : Stmt) → IsOneOf (items.Function f) p.items → IsOneOf s f.body → Leaves line s → HasBadJump p line
  leaves_a_task : (f : Function) (s : Stmt) → IsOneOf (items.Function f) p.items → IsOneOf s f.body → LeavesTask line s → HasBadJump p line

-- BadJump is among the broken rules of a program, with a line, exactly where a bad jump stands on that line.
pub record BadJumpsAreTold (p : Program) : Type 0 where
  pub told : (line : ℕ) → HasBadJump p line → IsOneOf (broken refused.BadJump line) (program_rules p)
  pub only : (line : ℕ) → IsOneOf (broken refused.BadJump line) (program_rules p) → HasBadJump p line
