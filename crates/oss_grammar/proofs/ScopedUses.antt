-- Uses and declarations of names at such places, as the rules of statements see them.
use Rattle.oss_grammar.proofs.ScopedPlaces.{Stands, locals_behind_part, scope_behind}
use Rattle.oss_grammar.specs.Places.{IsOneOf}
use Rattle.oss_grammar.specs.Redeclarations.{ItemAgain, NamesLocal}
use Rattle.oss_grammar.specs.Scopes.{loop_locals}
use Rattle.oss_grammar.specs.UnknownNames.{IsUnknown, Uses, UsesInClauses, UsesInSections, UsesInSome}
use Rattle.oss_grammar.specs.declared.kinds.Around.{Around}
use Rattle.oss_syntax.specs.declared.tree.expr.BinOp.{BinOp}
use Rattle.oss_syntax.specs.declared.tree.expr.Expr.{Expr}
use Rattle.oss_syntax.specs.declared.tree.pragma.Clause.{Clause}
use Rattle.oss_syntax.specs.declared.tree.pragma.Section.{Section}
use Rattle.oss_syntax.specs.declared.tree.pragma.TaskMark.{TaskMark}
use Rattle.oss_syntax.specs.declared.tree.program.Function.{Function}
use Rattle.oss_syntax.specs.declared.tree.program.Item.TheVariants as items
use Rattle.oss_syntax.specs.declared.tree.program.Local.{Local}
use Rattle.oss_syntax.specs.declared.tree.program.Program.{Program}
use Rattle.oss_syntax.specs.declared.tree.stmt.LoopHead.{LoopHead}
use Rattle.oss_syntax.specs.declared.tree.stmt.Stmt.{Stmt}
use Rattle.oss_syntax.specs.declared.tree.stmt.StmtKind.TheVariants as stmts
use Rattle.std.proofs.Common.{◌≡◌, ℕ, List, [], ◌∷◌, ◌++◌, length, drop, Option, Some}

-- The name is used in the initial value of a declarator, where these locals are in scope: those before the declarator, so not its own.
pub record UsesInInitial (start : ℕ) (visible declared : List Local) (scope : List Local) (name : List ℕ) (line : ℕ) : Type 0 where
  pub before : List Local
  pub declarator : Local
  pub behind : List Local
  pub split : declared ≡ before ++ (declarator ∷ behind)
  pub value : Expr
  pub is_initial : declarator.first ≡ Some value
  pub scope_is : scope_behind start before visible ≡ scope
  pub uses : Uses name line value

-- The name is used in a statement itself, not in one that stands in it, where these locals are in scope.
pub data UsesIn (a : Around) (visible : List Local) (s : Stmt) : List Local → List ℕ → ℕ → Type 0 where
  in_initial : {scope : List Local} {name : List ℕ} {line : ℕ} (declared : List Local) → s.what ≡ stmts.Declare declared → UsesInInitial a.start visible declared scope name line
      → UsesIn a visible s scope name line
  in_target : {name : List ℕ} {line : ℕ} (target : Expr) (o : Option BinOp) (value : Expr) → s.what ≡ stmts.Assign target o value → Uses name line target → UsesIn a visible s visible name line
  in_stored : {name : List ℕ} {line : ℕ} (target : Expr) (o : Option BinOp) (value : Expr) → s.what ≡ stmts.Assign target o value → Uses name line value → UsesIn a visible s visible name line
  as_called : {name : List ℕ} {line : ℕ} (arguments : List Expr) → s.what ≡ stmts.Call name arguments → s.line ≡ line → UsesIn a visible s visible name line
  in_passed : {name : List ℕ} {line : ℕ} (callee : List ℕ) (arguments : List Expr) → s.what ≡ stmts.Call callee arguments → UsesInSome name line arguments → UsesIn a visible s visible name line
  in_printed : {name : List ℕ} {line : ℕ} (format : List ℕ) (arguments : List Expr) → s.what ≡ stmts.Print format arguments → UsesInSome name line arguments → UsesIn a visible s visible name line
  in_if_test : {name : List ℕ} {line : ℕ} (e : Expr) (branch : Stmt) (other : Option Stmt) → s.what ≡ stmts.If e branch other → Uses name line e → UsesIn a visible s visible name line
  in_while_test : {name : List ℕ} {line : ℕ} (e : Expr) (body : Stmt) → s.what ≡ stmts.While e body → Uses name line e → UsesIn a visible s visible name line
  in_for_test : {name : List ℕ} {line : ℕ} (start : Option Stmt) (e : Expr) (last : Option Stmt) (body : Stmt) → s.what ≡ stmts.For start (Some e) last body → Uses name line e
      → UsesIn a visible s (locals_behind_part (length visible) start visible) name line
  in_returned : {name : List ℕ} {line : ℕ} (e : Expr) → s.what ≡ stmts.Return (Some e) → Uses name line e → UsesIn a visible s visible name line
  in_task_clauses : {scope : List Local} {name : List ℕ} {line : ℕ} (mark : TaskMark) (body : Stmt) → s.what ≡ stmts.Task mark body
      → UsesInClauses visible visible name line mark.clauses scope → UsesIn a visible s scope name line
  in_loop_clauses : {scope : List Local} {name : List ℕ} {line : ℕ} (head : LoopHead) (body : Stmt) → s.what ≡ stmts.TaskLoop head body
      → UsesInClauses visible (loop_locals head visible) name line head.mark.clauses scope → UsesIn a visible s scope name line
  in_loop_first : {name : List ℕ} {line : ℕ} (head : LoopHead) (body : Stmt) (e : Expr) → s.what ≡ stmts.TaskLoop head body → head.variable.first ≡ Some e → Uses name line e
      → UsesIn a visible s visible name line
  in_loop_end : {name : List ℕ} {line : ℕ} (head : LoopHead) (body : Stmt) → s.what ≡ stmts.TaskLoop head body → Uses name line head.end → UsesIn a visible s visible name line
  in_wait_sections : {scope : List Local} {name : List ℕ} {line : ℕ} (sections : List Section) → s.what ≡ stmts.TaskWait (Some sections)
      → UsesInSections visible name line sections scope → UsesIn a visible s scope name line
  in_release_clauses : {scope : List Local} {name : List ℕ} {line : ℕ} (clauses : List Clause) → s.what ≡ stmts.Release clauses
      → UsesInClauses visible visible name line clauses scope → UsesIn a visible s scope name line

-- On this line of a program a name is used that is unknown there: in the pragma of a function, in the initial value of a parameter,
-- which no text has, or in a statement.
pub data UsesUnknown (p : Program) (line : ℕ) : Type 0 where
  in_pragma : (f : Function) (mark : TaskMark) (scope : List Local) (name : List ℕ) → IsOneOf (items.Function f) p.items → f.mark ≡ Some mark
      → UsesInClauses (scope_behind 0 f.params []) (scope_behind 0 f.params []) name line mark.clauses scope → IsUnknown p.items scope name → UsesUnknown p line
  in_parameter : (f : Function) (scope : List Local) (name : List ℕ) → IsOneOf (items.Function f) p.items → UsesInInitial 0 [] f.params scope name line
      → IsUnknown p.items scope name → UsesUnknown p line
  in_statement : (f : Function) (around : Around) (visible : List Local) (s : Stmt) (scope : List Local) (name : List ℕ) → Stands p f around visible s → UsesIn around visible s scope name line
      → IsUnknown p.items scope name → UsesUnknown p line

-- A declarator on this line has the name of a local that is declared before it in the same scope, which begins at this place of the
-- locals: `long x, x` behind no local.
pub record LocalAgain (start : ℕ) (visible declared : List Local) (line : ℕ) : Type 0 where
  pub before : List Local
  pub again : Local
  pub behind : List Local
  pub split : declared ≡ before ++ (again ∷ behind)
  pub earlier : NamesLocal (drop start (scope_behind start before visible)) again.name
  pub on_line : again.line ≡ line

-- On this line of a program a name is declared again: that of an item, of a parameter, or of a local of a block.
pub data DeclaresAgain (p : Program) (line : ℕ) : Type 0 where
  item_again : ItemAgain p.items line → DeclaresAgain p line
  parameter_again : (f : Function) → IsOneOf (items.Function f) p.items → LocalAgain 0 [] f.params line → DeclaresAgain p line
  local_again : (f : Function) (around : Around) (visible : List Local) (s : Stmt) (declared : List Local)
      → Stands p f around visible s → s.what ≡ stmts.Declare declared → LocalAgain around.start visible declared line → DeclaresAgain p line
