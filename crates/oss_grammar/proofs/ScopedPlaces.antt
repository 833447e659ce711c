-- Places with all that the rules on statements know there: what is around, and the locals, of which a name that is declared again adds none.
use Rattle.std.proofs.Common.{◌≡◌, ℕ, List, [], ◌∷◌, length, Option, Some, None}
use Rattle.oss_syntax.specs.declared.tree.expr.Expr.{Expr}
use Rattle.oss_syntax.specs.declared.tree.pragma.TaskMark.{TaskMark}
use Rattle.oss_syntax.specs.declared.tree.program.Function.{Function}
use Rattle.oss_syntax.specs.declared.tree.program.Item.TheVariants as items
use Rattle.oss_syntax.specs.declared.tree.program.Local.{Local}
use Rattle.oss_syntax.specs.declared.tree.program.Program.{Program}
use Rattle.oss_syntax.specs.declared.tree.stmt.LoopHead.{LoopHead}
use Rattle.oss_syntax.specs.declared.tree.stmt.Stmt.{Stmt}
use Rattle.oss_syntax.specs.declared.tree.stmt.StmtKind.{out-StmtKind}
use Rattle.oss_syntax.specs.declared.tree.stmt.StmtKind.TheVariants as stmts
use Rattle.oss_grammar.specs.declared.kinds.Around.{Around}
use Rattle.oss_grammar.specs.ProgramRules.{body_around}
use Rattle.oss_grammar.specs.Scopes.{is_local_again, loop_locals}
use Rattle.oss_grammar.specs.StaticRules.{in_a_loop, in_a_task, in_a_task_loop, scope_in, with_local}
use Rattle.oss_grammar.specs.Places.{IsOneOf, declarators_of}

-- The locals in scope behind declarators: each comes into scope behind its own, unless its name is declared in this scope before.
abbrev pub scope_behind : ℕ → List Local → List Local → List Local
scope_behind start [] locals = locals
scope_behind start (l ∷ rest) locals = scope_behind start rest (with_local (is_local_again start locals l.name) l locals)

-- the locals in scope behind a statement: only a declaration declares any
abbrev pub locals_behind : ℕ → Stmt → List Local → List Local
locals_behind start s locals = scope_behind start (declarators_of (out-StmtKind s.what)) locals

-- the same behind the first part of a `for`, which may be left out
abbrev pub locals_behind_part : ℕ → Option Stmt → List Local → List Local
locals_behind_part start None locals = locals
locals_behind_part start (Some s) locals = locals_behind start s locals

-- A statement stands in another, or is it: with these things around it and these locals in scope, if the other has those. Each block
-- is a scope of its own, and so is a branch, the body of a loop or of a task, and a whole `for`, whose first part is in scope
-- in all of it. The body of a loop stands in a loop; the body of a task stands in a task, and in no loop of those around the task; the
-- statement of a task loop stands in a task too, behind the locals of the loop.
mutual
  pub data StandsIn (b : Around) (visible : List Local) (t : Stmt) : Around → List Local → Stmt → Type 0 where
    itself : StandsIn b visible t b visible t
    in_block : {a : Around} {locals : List Local} {s : Stmt} (body : List Stmt) → s.what ≡ stmts.Block body
        → StandsAmong b visible t (scope_in a locals) locals body → StandsIn b visible t a locals s
    in_then : {a : Around} {locals : List Local} {s : Stmt} (e : Expr) (branch : Stmt) (other : Option Stmt) → s.what ≡ stmts.If e branch other
        → StandsIn b visible t (scope_in a locals) locals branch → StandsIn b visible t a locals s
    in_else : {a : Around} {locals : List Local} {s : Stmt} (e : Expr) (branch other : Stmt) → s.what ≡ stmts.If e branch (Some other)
        → StandsIn b visible t (scope_in a locals) locals other → StandsIn b visible t a locals s
    in_while : {a : Around} {locals : List Local} {s : Stmt} (e : Expr) (body : Stmt) → s.what ≡ stmts.While e body
        → StandsIn b visible t (scope_in (in_a_loop a) locals) locals body → StandsIn b visible t a locals s
    in_for_start : {a : Around} {locals : List Local} {s : Stmt} (start : Stmt) (test : Option Expr) (last : Option Stmt) (body : Stmt) → s.what ≡ stmts.For (Some start) test last body
        → StandsIn b visible t (scope_in a locals) locals start → StandsIn b visible t a locals s
    in_for_last : {a : Around} {locals : List Local} {s : Stmt} (start : Option Stmt) (test : Option Expr) (last body : Stmt) → s.what ≡ stmts.For start test (Some last) body
        → StandsIn b visible t (scope_in a (locals_behind_part (length locals) start locals)) (locals_behind_part (length locals) start locals) last → StandsIn b visible t a locals s
    in_for_body : {a : Around} {locals : List Local} {s : Stmt} (start : Option Stmt) (test : Option Expr) (last : Option Stmt) (body : Stmt) → s.what ≡ stmts.For start test last body
        → StandsIn b visible t (scope_in (in_a_loop a) (locals_behind_part (length locals) start locals)) (locals_behind_part (length locals) start locals) body → StandsIn b visible t a locals s
    in_task_body : {a : Around} {locals : List Local} {s : Stmt} (mark : TaskMark) (body : Stmt) → s.what ≡ stmts.Task mark body
        → StandsIn b visible t (scope_in (in_a_task a) locals) locals body → StandsIn b visible t a locals s
    in_task_loop_body : {a : Around} {locals : List Local} {s : Stmt} (head : LoopHead) (body : Stmt) → s.what ≡ stmts.TaskLoop head body
        → StandsIn b visible t (scope_in (in_a_task_loop a) (loop_locals head locals)) (loop_locals head locals) body → StandsIn b visible t a locals s

  -- the same of statements in a row: behind a declaration its locals are in scope
  pub data StandsAmong (b : Around) (visible : List Local) (t : Stmt) : Around → List Local → List Stmt → Type 0 where
    in_first : {a : Around} {locals : List Local} {s : Stmt} {rest : List Stmt} → StandsIn b visible t a locals s → StandsAmong b visible t a locals (s ∷ rest)
    in_rest : {a : Around} {locals : List Local} {s : Stmt} {rest : List Stmt} → StandsAmong b visible t a (locals_behind a.start s locals) rest → StandsAmong b visible t a locals (s ∷ rest)

-- A statement of a program: it stands in the body of this function, whose parameters are in scope there.
pub record Stands (p : Program) (f : Function) (b : Around) (visible : List Local) (t : Stmt) : Type 0 where
  pub is_item : IsOneOf (items.Function f) p.items
  pub stands : StandsAmong b visible t (body_around f.result) (scope_behind 0 f.params []) f.body
