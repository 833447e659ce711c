-- Redeclarations (C11 6.7): a name is declared once in its scope. Globals and functions share one scope; the parameters of a function
-- share one with its outermost block.
-- Read against: `long x; void x() {}` declares `x` again at the function, `void f(long n) { long n; }` declares `n` again in the
-- block, and `long n; void f(long n) { { long n; } }` declares nothing again.
use Rattle.std.specs.Prelude.{◌≡◌, ℕ, List, [], ◌∷◌, ◌++◌, Option, Some}
use Rattle.oss_syntax.specs.declared.refusal.RefusedKind.TheVariants as refused
use Rattle.oss_syntax.specs.declared.tree.expr.Expr.{Expr}
use Rattle.oss_syntax.specs.declared.tree.pragma.TaskMark.{TaskMark}
use Rattle.oss_syntax.specs.declared.tree.program.Function.{Function}
use Rattle.oss_syntax.specs.declared.tree.program.Item.{Item}
use Rattle.oss_syntax.specs.declared.tree.program.Item.TheVariants as items
use Rattle.oss_syntax.specs.declared.tree.program.Local.{Local}
use Rattle.oss_syntax.specs.declared.tree.program.Program.{Program}
use Rattle.oss_syntax.specs.declared.tree.stmt.LoopHead.{LoopHead}
use Rattle.oss_syntax.specs.declared.tree.stmt.Stmt.{Stmt}
use Rattle.oss_syntax.specs.declared.tree.stmt.StmtKind.TheVariants as stmts
use Rattle.oss_grammar.specs.Broken.{broken}
use Rattle.oss_grammar.specs.Places.{IsOneOf, locals_behind}
use Rattle.oss_grammar.specs.ProgramRules.{program_rules}
use Rattle.oss_grammar.specs.Scopes.{item_name}

-- the line of an item's name
abbrev pub item_line : Item → ℕ
item_line (items.Global g) = g.line
item_line (items.Function f) = f.line

-- An item with this name is one of these.
pub record NamesItem (all : List Item) (name : List ℕ) : Type 0 where
  pub item : Item
  pub is_listed : IsOneOf item all
  pub has_name : item_name item ≡ name

-- A local with this name is one of these.
pub record NamesLocal (locals : List Local) (name : List ℕ) : Type 0 where
  pub named : Local
  pub is_listed : IsOneOf named locals
  pub has_name : named.name ≡ name

-- An item on this line has the name of an item before it.
pub record ItemAgain (all : List Item) (line : ℕ) : Type 0 where
  pub before : List Item
  pub item : Item
  pub behind : List Item
  pub split : all ≡ before ++ (item ∷ behind)
  pub earlier : NamesItem before (item_name item)
  pub on_line : item_line item ≡ line

-- A declarator on this line has the name of one that is declared before it: among these, or before it in its declaration.
pub record DeclaratorAgain (before declared : List Local) (line : ℕ) : Type 0 where
  pub front : List Local
  pub again : Local
  pub behind : List Local
  pub split : declared ≡ front ++ (again ∷ behind)
  pub earlier : NamesLocal (before ++ front) again.name
  pub on_line : again.line ≡ line

-- On this line a name is declared again in its scope by statements in a row, in whose scope these are declared before them: in a
-- declaration of theirs, or in a statement, in a scope of its own. Each block is such a scope, and so is a branch, the body of a
-- loop or of a task, and each part of a `for`.
mutual
  pub data AgainAmong (line : ℕ) : List Local → List Stmt → Type 0 where
    at_declaration : {before : List Local} {s : Stmt} {rest : List Stmt} (declared : List Local) → s.what ≡ stmts.Declare declared → DeclaratorAgain before declared line
        → AgainAmong line before (s ∷ rest)
    in_statement : {before : List Local} {s : Stmt} {rest : List Stmt} → AgainInside line s → AgainAmong line before (s ∷ rest)
    behind_statement : {before : List Local} {s : Stmt} {rest : List Stmt} → AgainAmong line (locals_behind s before) rest → AgainAmong line before (s ∷ rest)

  -- the same inside of one statement, in a scope that begins there
  pub data AgainInside (line : ℕ) : Stmt → Type 0 where
    in_block : {s : Stmt} (body : List Stmt) → s.what ≡ stmts.Block body → AgainAmong line [] body → AgainInside line s
    in_then : {s : Stmt} (e : Expr) (branch : Stmt) (other : Option Stmt) → s.what ≡ stmts.If e branch other → AgainAmong line [] (branch ∷ []) → AgainInside line s
    in_else : {s : Stmt} (e : Expr) (branch other : Stmt) → s.what ≡ stmts.If e branch (Some other) → AgainAmong line [] (other ∷ []) → AgainInside line s
    in_while : {s : Stmt} (e : Expr) (body : Stmt) → s.what ≡ stmts.While e body → AgainAmong line [] (body ∷ []) → AgainInside line s
    in_for_start : {s : Stmt} (start : Stmt) (test : Option Expr) (last : Option Stmt) (body : Stmt) → s.what ≡ stmts.For (Some start) test last body → AgainAmong line [] (start ∷ [])
        → AgainInside line s
    in_for_last : {s : Stmt} (start : Option Stmt) (test : Option Expr) (last body : Stmt) → s.what ≡ stmts.For start test (Some last) body → AgainAmong line [] (last ∷ []) → AgainInside line s
    in_for_body : {s : Stmt} (start : Option Stmt) (test : Option Expr) (last : Option Stmt) (body : Stmt) → s.what ≡ stmts.For start test last body → AgainAmong line [] (body ∷ [])
        → AgainInside line s
    in_task_body : {s : Stmt} (mark : TaskMark) (body : Stmt) → s.what ≡ stmts.Task mark body → AgainAmong line [] (body ∷ []) → AgainInside line s
    in_task_loop_body : {s : Stmt} (head : LoopHead) (body : Stmt) → s.what ≡ stmts.TaskLoop head body → AgainAmong line [] (body ∷ []) → AgainInside line s

-- On this line of a program a name is declared again: that of an item, of a parameter, or of a local of a block.
pub data DeclaresAgain (p : Program) (line : ℕ) : Type 0 where
  item_again : ItemAgain p.items line → DeclaresAgain p line
  parameter_again : (f : Function) → IsOneOf (items.Function f) p.items → DeclaratorAgain [] f.params line → DeclaresAgain p line
  local_again : (f : Function) → IsOneOf (items.Function f) p.items → AgainAmong line f.params f.body → DeclaresAgain p line

-- DuplicateName is among the broken rules of a program, with a line, exactly where a name is declared again on that line.
pub record RedeclarationsAreTold (p : Program) : Type 0 where
  pub told : (line : ℕ) → DeclaresAgain p line → IsOneOf (broken refused.DuplicateName line) (program_rules p)
  pub only : (line : ℕ) → IsOneOf (broken refused.DuplicateName line) (program_rules p) → DeclaresAgain p line
