-- Unknown names (C11 6.2.1, 6.5.1): a name that is used where it is neither a local in scope nor a global or a function.
-- Read against: in `int main() { long x = y + x; { long z; } f(z); }` the names `y`, the `x` behind it, `f` and the `z` of the call are
-- unknown, each on its line; the label of a pragma is no use of a name.
use Rattle.std.specs.Prelude.{◌≡◌, ℕ, Bool, true, false, List, [], ◌∷◌, ◌++◌, Option, Some}
use Rattle.oss_syntax.specs.declared.access.Mode.{Mode}
use Rattle.oss_syntax.specs.declared.refusal.RefusedKind.TheVariants as refused
use Rattle.oss_syntax.specs.declared.tree.expr.BinOp.{BinOp}
use Rattle.oss_syntax.specs.declared.tree.expr.UnOp.{UnOp}
use Rattle.oss_syntax.specs.declared.tree.expr.Expr.{Expr}
use Rattle.oss_syntax.specs.declared.tree.expr.ExprKind.TheVariants as exprs
use Rattle.oss_syntax.specs.declared.tree.pragma.Clause.{Clause}
use Rattle.oss_syntax.specs.declared.tree.pragma.Clause.TheVariants as clause
use Rattle.oss_syntax.specs.declared.tree.pragma.Form.{Form}
use Rattle.oss_syntax.specs.declared.tree.pragma.Form.TheVariants as form
use Rattle.oss_syntax.specs.declared.tree.pragma.Inner.{Inner}
use Rattle.oss_syntax.specs.declared.tree.pragma.Inner.TheVariants as inner_forms
use Rattle.oss_syntax.specs.declared.tree.pragma.Section.{Section}
use Rattle.oss_syntax.specs.declared.tree.pragma.TaskMark.{TaskMark}
use Rattle.oss_syntax.specs.declared.tree.pragma.Turns.{Turns}
use Rattle.oss_syntax.specs.declared.tree.program.Function.{Function}
use Rattle.oss_syntax.specs.declared.tree.program.Item.{Item}
use Rattle.oss_syntax.specs.declared.tree.program.Item.TheVariants as items
use Rattle.oss_syntax.specs.declared.tree.program.Local.{Local}
use Rattle.oss_syntax.specs.declared.tree.program.Program.{Program}
use Rattle.oss_syntax.specs.declared.tree.stmt.LoopHead.{LoopHead}
use Rattle.oss_syntax.specs.declared.tree.stmt.Stmt.{Stmt}
use Rattle.oss_syntax.specs.declared.tree.stmt.StmtKind.TheVariants as stmts
use Rattle.oss_grammar.specs.Broken.{broken}
use Rattle.oss_grammar.specs.Places.{IsOneOf, Stands, locals_behind_part}
use Rattle.oss_grammar.specs.ProgramRules.{program_rules}
use Rattle.oss_grammar.specs.Redeclarations.{NamesItem, NamesLocal}
use Rattle.oss_grammar.specs.Scopes.{loop_locals}
use Rattle.oss_grammar.specs.SectionRules.{begins_with_base}

-- Neither one of the locals nor an item has this name.
pub record IsUnknown (all : List Item) (visible : List Local) (name : List ℕ) : Type 0 where
  pub no_local : NamesLocal visible name → ⊥
  pub no_item : NamesItem all name → ⊥

-- The name is used in an expression, on this line: as a value, as what is called, or in a part.
pub data Uses (name : List ℕ) (line : ℕ) : Expr → Type 0 where
  as_value : {e : Expr} → e.what ≡ exprs.Name name → e.line ≡ line → Uses name line e
  as_callee : {e : Expr} (arguments : List Expr) → e.what ≡ exprs.Call name arguments → e.line ≡ line → Uses name line e
  in_array : {e : Expr} (array at : Expr) → e.what ≡ exprs.Index array at → Uses name line array → Uses name line e
  in_index : {e : Expr} (array at : Expr) → e.what ≡ exprs.Index array at → Uses name line at → Uses name line e
  in_operand : {e : Expr} (o : UnOp) (operand : Expr) → e.what ≡ exprs.Unary o operand → Uses name line operand → Uses name line e
  in_left : {e : Expr} (o : BinOp) (left right : Expr) → e.what ≡ exprs.Binary o left right → Uses name line left → Uses name line e
  in_right : {e : Expr} (o : BinOp) (left right : Expr) → e.what ≡ exprs.Binary o left right → Uses name line right → Uses name line e
  in_argument : {e : Expr} (callee : List ℕ) (arguments : List Expr) (argument : Expr) → e.what ≡ exprs.Call callee arguments → IsOneOf argument arguments
      → Uses name line argument → Uses name line e

-- The expression is one of those of one dimension.
pub data InInner (e : Expr) : Inner → Type 0 where
  of_one : InInner e (inner_forms.Element e)
  of_first : (count : Expr) → InInner e (inner_forms.Length e count)
  of_count : (first : Expr) → InInner e (inner_forms.Length first e)
  of_lower : (last : Option Expr) → InInner e (inner_forms.Span (Some e) last)
  of_upper : (first : Option Expr) → InInner e (inner_forms.Span first (Some e))

-- The expression is one of those of a section's form, and these locals are in scope in it, where `visible` are in scope at the section: the
-- variable of a multidependency is in scope in its indices alone.
pub data InForm (visible : List Local) (e : Expr) : Form → List Local → Type 0 where
  of_shape : InForm visible e (form.Shape e) visible
  of_element : InForm visible e (form.Element e) visible
  of_length_first : (count : Expr) → InForm visible e (form.Length e count) visible
  of_length_count : (first : Expr) → InForm visible e (form.Length first e) visible
  of_span_first : (last : Option Expr) → InForm visible e (form.Span (Some e) last) visible
  of_span_last : (first : Option Expr) → InForm visible e (form.Span first (Some e)) visible
  of_rows : {rows : Inner} (columns : Inner) → InInner e rows → InForm visible e (form.Grid rows columns) visible
  of_columns : {columns : Inner} (rows : Inner) → InInner e columns → InForm visible e (form.Grid rows columns) visible
  of_index : (second : Option Expr) (turns : Turns) → InForm visible e (form.Many e second turns) (visible ++ turns.variable ∷ [])
  of_second_index : (first : Expr) (turns : Turns) → InForm visible e (form.Many first (Some e) turns) (visible ++ turns.variable ∷ [])
  of_first_turn : (first : Expr) (second : Option Expr) (turns : Turns) → turns.variable.first ≡ Some e → InForm visible e (form.Many first second turns) visible
  of_turns : (first : Expr) (second : Option Expr) (turns : Turns) → turns.count ≡ e → InForm visible e (form.Many first second turns) visible

-- The name is used in a section, where these locals are in scope: as its base, at its first token or not, or in an expression of its
-- form.
pub data UsesInSection (visible : List Local) (name : List ℕ) (line : ℕ) (s : Section) : List Local → Type 0 where
  as_first_base : s.base ≡ name → begins_with_base s.form ≡ true → s.line ≡ line → UsesInSection visible name line s visible
  as_later_base : s.base ≡ name → begins_with_base s.form ≡ false → s.base_line ≡ line → UsesInSection visible name line s visible
  in_form : {scope : List Local} (e : Expr) → InForm visible e s.form scope → Uses name line e → UsesInSection visible name line s scope

-- The name is used in a clause of a pragma: in a section, or in its expression. The grainsize of a task loop stands outside of the scope
-- of its other clauses.
pub data UsesInClause (outer visible : List Local) (name : List ℕ) (line : ℕ) : Clause → List Local → Type 0 where
  in_section : {scope : List Local} (mode : Mode) (strong fresh : Bool) (sections : List Section) (s : Section) → IsOneOf s sections → UsesInSection visible name line s scope
      → UsesInClause outer visible name line (clause.Depend mode strong fresh sections) scope
  in_if : (e : Expr) → Uses name line e → UsesInClause outer visible name line (clause.If e) visible
  in_final : (e : Expr) → Uses name line e → UsesInClause outer visible name line (clause.Final e) visible
  in_priority : (e : Expr) → Uses name line e → UsesInClause outer visible name line (clause.Priority e) visible
  in_grain : (e : Expr) → Uses name line e → UsesInClause outer visible name line (clause.Grain e) outer

-- The name is used in one of these clauses.
pub record UsesInClauses (outer visible : List Local) (name : List ℕ) (line : ℕ) (clauses : List Clause) (scope : List Local) : Type 0 where
  pub clause : Clause
  pub is_listed : IsOneOf clause clauses
  pub uses : UsesInClause outer visible name line clause scope

-- The name is used in one of these sections.
pub record UsesInSections (visible : List Local) (name : List ℕ) (line : ℕ) (sections : List Section) (scope : List Local) : Type 0 where
  pub section : Section
  pub is_listed : IsOneOf section sections
  pub uses : UsesInSection visible name line section scope

-- The name is used in one of these expressions.
pub record UsesInSome (name : List ℕ) (line : ℕ) (es : List Expr) : Type 0 where
  pub value : Expr
  pub is_listed : IsOneOf value es
  pub uses : Uses name line value

-- The name is used in the initial value of a declarator, where these locals are in scope: those before the declarator, so not its own.
pub record UsesInInitial (visible declared : List Local) (scope : List Local) (name : List ℕ) (line : ℕ) : Type 0 where
  pub before : List Local
  pub declarator : Local
  pub behind : List Local
  pub split : declared ≡ before ++ (declarator ∷ behind)
  pub value : Expr
  pub is_initial : declarator.first ≡ Some value
  pub scope_is : visible ++ before ≡ scope
  pub uses : Uses name line value

-- The name is used in a statement itself, not in one that stands in it, where these locals are in scope.
pub data UsesIn (visible : List Local) (s : Stmt) : List Local → List ℕ → ℕ → Type 0 where
  in_initial : {scope : List Local} {name : List ℕ} {line : ℕ} (declared : List Local) → s.what ≡ stmts.Declare declared → UsesInInitial visible declared scope name line
      → UsesIn visible s scope name line
  in_target : {name : List ℕ} {line : ℕ} (target : Expr) (o : Option BinOp) (value : Expr) → s.what ≡ stmts.Assign target o value → Uses name line target → UsesIn visible s visible name line
  in_stored : {name : List ℕ} {line : ℕ} (target : Expr) (o : Option BinOp) (value : Expr) → s.what ≡ stmts.Assign target o value → Uses name line value → UsesIn visible s visible name line
  as_called : {name : List ℕ} {line : ℕ} (arguments : List Expr) → s.what ≡ stmts.Call name arguments → s.line ≡ line → UsesIn visible s visible name line
  in_passed : {name : List ℕ} {line : ℕ} (callee : List ℕ) (arguments : List Expr) → s.what ≡ stmts.Call callee arguments → UsesInSome name line arguments → UsesIn visible s visible name line
  in_printed : {name : List ℕ} {line : ℕ} (format : List ℕ) (arguments : List Expr) → s.what ≡ stmts.Print format arguments → UsesInSome name line arguments → UsesIn visible s visible name line
  in_if_test : {name : List ℕ} {line : ℕ} (e : Expr) (branch : Stmt) (other : Option Stmt) → s.what ≡ stmts.If e branch other → Uses name line e → UsesIn visible s visible name line
  in_while_test : {name : List ℕ} {line : ℕ} (e : Expr) (body : Stmt) → s.what ≡ stmts.While e body → Uses name line e → UsesIn visible s visible name line
  in_for_test : {name : List ℕ} {line : ℕ} (start : Option Stmt) (e : Expr) (last : Option Stmt) (body : Stmt) → s.what ≡ stmts.For start (Some e) last body → Uses name line e
      → UsesIn visible s (locals_behind_part start visible) name line
  in_returned : {name : List ℕ} {line : ℕ} (e : Expr) → s.what ≡ stmts.Return (Some e) → Uses name line e → UsesIn visible s visible name line
  in_task_clauses : {scope : List Local} {name : List ℕ} {line : ℕ} (mark : TaskMark) (body : Stmt) → s.what ≡ stmts.Task mark body
      → UsesInClauses visible visible name line mark.clauses scope → UsesIn visible s scope name line
  in_loop_clauses : {scope : List Local} {name : List ℕ} {line : ℕ} (head : LoopHead) (body : Stmt) → s.what ≡ stmts.TaskLoop head body
      → UsesInClauses visible (loop_locals head visible) name line head.mark.clauses scope → UsesIn visible s scope name line
  in_loop_first : {name : List ℕ} {line : ℕ} (head : LoopHead) (body : Stmt) (e : Expr) → s.what ≡ stmts.TaskLoop head body → head.variable.first ≡ Some e → Uses name line e
      → UsesIn visible s visible name line
  in_loop_end : {name : List ℕ} {line : ℕ} (head : LoopHead) (body : Stmt) → s.what ≡ stmts.TaskLoop head body → Uses name line head.end → UsesIn visible s visible name line
  in_wait_sections : {scope : List Local} {name : List ℕ} {line : ℕ} (sections : List Section) → s.what ≡ stmts.TaskWait (Some sections)
      → UsesInSections visible name line sections scope → UsesIn visible s scope name line
  in_release_clauses : {scope : List Local} {name : List ℕ} {line : ℕ} (clauses : List Clause) → s.what ≡ stmts.Release clauses
      → UsesInClauses visible visible name line clauses scope → UsesIn visible s scope name line

-- On this line of a program a name is used that is unknown there: in the pragma of a function, in the initial value of a parameter,
-- which no text has, or in a statement.
pub data UsesUnknown (p : Program) (line : ℕ) : Type 0 where
  in_pragma : (f : Function) (mark : TaskMark) (scope : List Local) (name : List ℕ) → IsOneOf (items.Function f) p.items → f.mark ≡ Some mark
      → UsesInClauses f.params f.params name line mark.clauses scope → IsUnknown p.items scope name → UsesUnknown p line
  in_parameter : (f : Function) (scope : List Local) (name : List ℕ) → IsOneOf (items.Function f) p.items → UsesInInitial [] f.params scope name line
      → IsUnknown p.items scope name → UsesUnknown p line
  in_statement : (f : Function) (visible : List Local) (s : Stmt) (scope : List Local) (name : List ℕ) → Stands p f visible s → UsesIn visible s scope name line
      → IsUnknown p.items scope name → UsesUnknown p line

-- UnknownName is among the broken rules of a program, with a line, exactly where an unknown name is used on that line.
pub record UnknownNamesAreTold (p : Program) : Type 0 where
  pub told : (line : ℕ) → UsesUnknown p line → IsOneOf (broken refused.UnknownName line) (program_rules p)
  pub only : (line : ℕ) → IsOneOf (broken refused.UnknownName line) (program_rules p) → UsesUnknown p line
