-- Places: where each statement of a program stands, and which locals are in scope there (C11 6.2.1, 6.8). Those are in scope that were
-- declared before the place in a block around it, or are parameters.
-- Read against: in `void f(long n) { long x; while (x) { long y; break; } x = n; }` the `break` stands where `n`, `x` and `y` are in
-- scope, and the assignment where `n` and `x` are.
use Rattle.std.specs.Prelude.{◌≡◌, List, [], ◌∷◌, ◌++◌, Option, Some, None}
use Rattle.oss_syntax.specs.declared.tree.expr.Expr.{Expr}
use Rattle.oss_syntax.specs.declared.tree.pragma.TaskMark.{TaskMark}
use Rattle.oss_syntax.specs.declared.tree.program.Function.{Function}
use Rattle.oss_syntax.specs.declared.tree.program.Item.TheVariants as items
use Rattle.oss_syntax.specs.declared.tree.program.Local.{Local}
use Rattle.oss_syntax.specs.declared.tree.program.Program.{Program}
use Rattle.oss_syntax.specs.declared.tree.stmt.LoopHead.{LoopHead}
use Rattle.oss_syntax.specs.declared.tree.stmt.Stmt.{Stmt}
use Rattle.oss_syntax.specs.declared.tree.stmt.StmtKind.{StmtKind, out-StmtKind}
use Rattle.oss_syntax.specs.declared.tree.stmt.StmtKind.TheOpen.{StmtKind-F}
use Rattle.oss_syntax.specs.declared.tree.stmt.StmtKind.TheOpen as open_stmt
use Rattle.oss_syntax.specs.declared.tree.stmt.StmtKind.TheVariants as stmts
use Rattle.oss_grammar.specs.Scopes.{loop_locals}

-- It is one of these.
pub data IsOneOf {A : Type 0} (x : A) : List A → Type 0 where
  first_of_them : {y : A} {rest : List A} → y ≡ x → IsOneOf x (y ∷ rest)
  later_of_them : {y : A} {rest : List A} → IsOneOf x rest → IsOneOf x (y ∷ rest)

-- the declarators of a declaration; no other statement has any
abbrev pub declarators_of : StmtKind-F StmtKind Stmt → List Local
declarators_of (open_stmt.Declare locals) = locals
declarators_of _ = []

-- the locals in scope behind a statement
abbrev pub locals_behind : Stmt → List Local → List Local
locals_behind s locals = locals ++ declarators_of (out-StmtKind s.what)

-- the same behind the first part of a `for`, which may be left out
abbrev pub locals_behind_part : Option Stmt → List Local → List Local
locals_behind_part None locals = locals
locals_behind_part (Some s) locals = locals_behind s locals

-- A statement stands in another, or is it, with these locals in scope there, if those are in scope at the other. The first part of a
-- `for` is in scope in all of it, and the locals of a task loop in its statement.
mutual
  pub data StandsIn (visible : List Local) (t : Stmt) : List Local → Stmt → Type 0 where
    itself : StandsIn visible t visible t
    in_block : {locals : List Local} {s : Stmt} (body : List Stmt) → s.what ≡ stmts.Block body → StandsAmong visible t locals body → StandsIn visible t locals s
    in_then : {locals : List Local} {s : Stmt} (e : Expr) (branch : Stmt) (other : Option Stmt) → s.what ≡ stmts.If e branch other → StandsIn visible t locals branch
        → StandsIn visible t locals s
    in_else : {locals : List Local} {s : Stmt} (e : Expr) (branch other : Stmt) → s.what ≡ stmts.If e branch (Some other) → StandsIn visible t locals other → StandsIn visible t locals s
    in_while : {locals : List Local} {s : Stmt} (e : Expr) (body : Stmt) → s.what ≡ stmts.While e body → StandsIn visible t locals body → StandsIn visible t locals s
    in_for_start : {locals : List Local} {s : Stmt} (start : Stmt) (test : Option Expr) (last : Option Stmt) (body : Stmt) → s.what ≡ stmts.For (Some start) test last body
        → StandsIn visible t locals start → StandsIn visible t locals s
    in_for_last : {locals : List Local} {s : Stmt} (start : Option Stmt) (test : Option Expr) (last body : Stmt) → s.what ≡ stmts.For start test (Some last) body
        → StandsIn visible t (locals_behind_part start locals) last → StandsIn visible t locals s
    in_for_body : {locals : List Local} {s : Stmt} (start : Option Stmt) (test : Option Expr) (last : Option Stmt) (body : Stmt) → s.what ≡ stmts.For start test last body
        → StandsIn visible t (locals_behind_part start locals) body → StandsIn visible t locals s
    in_task_body : {locals : List Local} {s : Stmt} (mark : TaskMark) (body : Stmt) → s.what ≡ stmts.Task mark body → StandsIn visible t locals body → StandsIn visible t locals s
    in_task_loop_body : {locals : List Local} {s : Stmt} (head : LoopHead) (body : Stmt) → s.what ≡ stmts.TaskLoop head body → StandsIn visible t (loop_locals head locals) body
        → StandsIn visible t locals s

  -- the same of statements in a row: behind a declaration its locals are in scope
  pub data StandsAmong (visible : List Local) (t : Stmt) : List Local → List Stmt → Type 0 where
    in_first : {locals : List Local} {s : Stmt} {rest : List Stmt} → StandsIn visible t locals s → StandsAmong visible t locals (s ∷ rest)
    in_rest : {locals : List Local} {s : Stmt} {rest : List Stmt} → StandsAmong visible t (locals_behind s locals) rest → StandsAmong visible t locals (s ∷ rest)

-- A statement of a program: it stands in the body of this function, whose parameters are in scope there.
pub record Stands (p : Program) (f : Function) (visible : List Local) (t : Stmt) : Type 0 where
  pub is_item : IsOneOf (items.Function f) p.items
  pub stands : StandsAmong visible t f.params f.body
