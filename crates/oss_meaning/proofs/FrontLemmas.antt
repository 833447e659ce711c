-- What the form of an expression says where a run comes to it: these equations show all that goes on behind it, so that a rewriting by them
-- leaves what stands there as it is.
use Rattle.std.proofs.Common.{◌≡◌, ℕ, Bool, List, Option, map, ap}
use Rattle.oss_syntax.specs.declared.tree.expr.BinOp.{BinOp}
use Rattle.oss_syntax.specs.declared.tree.expr.Expr.{Expr}
use Rattle.oss_syntax.specs.declared.tree.expr.ExprKind.TheOpen as open_expr
use Rattle.oss_syntax.specs.declared.tree.expr.ExprKind.TheVariants as exprs
use Rattle.oss_syntax.specs.declared.tree.expr.UnOp.{UnOp}
use Rattle.oss_syntax.specs.declared.tree.program.Item.{Item}
use Rattle.oss_syntax.specs.declared.tree.program.Local.{Local}
use Rattle.oss_grammar.specs.declared.kinds.ValueKind.{ValueKind}
use Rattle.oss_meaning.specs.declared.value.Value.{Value}
use Rattle.oss_meaning.specs.Expressions.{Here, Sense, TreeRun, expr_step, index_place, index_value, sense_of}
use Rattle.oss_meaning.specs.Operators.{operated_by}
use Rattle.oss_meaning.specs.Pointers.{Extent}
use Rattle.oss_meaning.specs.Statements.{assigned}
use Rattle.oss_meaning.proofs.FormLemmas.{sense-number, sense-name, sense-index, sense-unary, sense-binary, sense-call, statement_forms, expression_forms}

-- An expression that is evaluated.
module _ (all : List Item) (scope : List Local) (line at : ℕ) (here : Here) (locals : List Value) (go : Value → TreeRun) (vs : List ℕ) where
  pub value-number : (n : ℕ) (unsigned : Bool) → (sense_of all scope (record { what = exprs.Number n unsigned; line = line })).value at here locals go vs ≡ (expr_step all scope (open_expr.Number n unsigned)).value at here locals go vs
  value-number n unsigned = ap (λ s. s.value at here locals go vs) (sense-number all scope line n unsigned)

  pub value-name : (text : List ℕ) → (sense_of all scope (record { what = exprs.Name text; line = line })).value at here locals go vs ≡ (expr_step all scope (open_expr.Name text)).value at here locals go vs
  value-name text = ap (λ s. s.value at here locals go vs) (sense-name all scope line text)

  pub value-index : (a e : Expr) → (sense_of all scope (record { what = exprs.Index a e; line = line })).value at here locals go vs ≡ (expr_step all scope (open_expr.Index (sense_of all scope a) (sense_of all scope e))).value at here locals go vs
  value-index a e = ap (λ s. s.value at here locals go vs) (sense-index all scope line a e)

  pub value-unary : (o : UnOp) (e : Expr) → (sense_of all scope (record { what = exprs.Unary o e; line = line })).value at here locals go vs ≡ (expr_step all scope (open_expr.Unary o (sense_of all scope e))).value at here locals go vs
  value-unary o e = ap (λ s. s.value at here locals go vs) (sense-unary all scope line o e)

  pub value-binary : (o : BinOp) (a b : Expr) → (sense_of all scope (record { what = exprs.Binary o a b; line = line })).value at here locals go vs ≡ (expr_step all scope (open_expr.Binary o (sense_of all scope a) (sense_of all scope b))).value at here locals go vs
  value-binary o a b = ap (λ s. s.value at here locals go vs) (sense-binary all scope line o a b)

  pub value-call : (text : List ℕ) (es : List Expr) → (sense_of all scope (record { what = exprs.Call text es; line = line })).value at here locals go vs ≡ (expr_step all scope (open_expr.Call text (map (sense_of all scope) es))).value at here locals go vs
  value-call text es = ap (λ s. s.value at here locals go vs) (sense-call all scope line text es)

-- A target that is assigned to.
module _ (all : List Item) (scope : List Local) (line at : ℕ) (globals : List Extent) (change : Option BinOp) (right : Sense) (here : Here) (locals : List Value) (go : List Value → TreeRun) (vs : List ℕ) where
  pub assigned-name : (text : List ℕ) → assigned globals at (sense_of all scope (record { what = exprs.Name text; line = line })).typed.target (sense_of all scope (record { what = exprs.Name text; line = line })) change right here locals go vs ≡ assigned globals at (expr_step all scope (open_expr.Name text)).typed.target (expr_step all scope (open_expr.Name text)) change right here locals go vs
  assigned-name text = ap (λ s. assigned globals at s.typed.target s change right here locals go vs) (sense-name all scope line text)

  pub assigned-index : (a e : Expr) → assigned globals at (sense_of all scope (record { what = exprs.Index a e; line = line })).typed.target (sense_of all scope (record { what = exprs.Index a e; line = line })) change right here locals go vs ≡ assigned globals at (expr_step all scope (open_expr.Index (sense_of all scope a) (sense_of all scope e))).typed.target (expr_step all scope (open_expr.Index (sense_of all scope a) (sense_of all scope e))) change right here locals go vs
  assigned-index a e = ap (λ s. assigned globals at s.typed.target s change right here locals go vs) (sense-index all scope line a e)

  pub assigned-unary : (o : UnOp) (e : Expr) → assigned globals at (sense_of all scope (record { what = exprs.Unary o e; line = line })).typed.target (sense_of all scope (record { what = exprs.Unary o e; line = line })) change right here locals go vs ≡ assigned globals at (expr_step all scope (open_expr.Unary o (sense_of all scope e))).typed.target (expr_step all scope (open_expr.Unary o (sense_of all scope e))) change right here locals go vs
  assigned-unary o e = ap (λ s. assigned globals at s.typed.target s change right here locals go vs) (sense-unary all scope line o e)

-- An operand to which an operator is applied.
module _ (all : List Item) (scope : List Local) (line : ℕ) (made : BinOp) (other : ValueKind) (v w : Value) where
  pub left-number : (n : ℕ) (unsigned : Bool) → operated_by made (sense_of all scope (record { what = exprs.Number n unsigned; line = line })).typed.kind other v w ≡ operated_by made (expr_step all scope (open_expr.Number n unsigned)).typed.kind other v w
  left-number n unsigned = ap (λ s. operated_by made s.typed.kind other v w) (sense-number all scope line n unsigned)

  pub right-number : (n : ℕ) (unsigned : Bool) → operated_by made other (sense_of all scope (record { what = exprs.Number n unsigned; line = line })).typed.kind v w ≡ operated_by made other (expr_step all scope (open_expr.Number n unsigned)).typed.kind v w
  right-number n unsigned = ap (λ s. operated_by made other s.typed.kind v w) (sense-number all scope line n unsigned)

  pub left-name : (text : List ℕ) → operated_by made (sense_of all scope (record { what = exprs.Name text; line = line })).typed.kind other v w ≡ operated_by made (expr_step all scope (open_expr.Name text)).typed.kind other v w
  left-name text = ap (λ s. operated_by made s.typed.kind other v w) (sense-name all scope line text)

  pub right-name : (text : List ℕ) → operated_by made other (sense_of all scope (record { what = exprs.Name text; line = line })).typed.kind v w ≡ operated_by made other (expr_step all scope (open_expr.Name text)).typed.kind v w
  right-name text = ap (λ s. operated_by made other s.typed.kind v w) (sense-name all scope line text)

  pub left-index : (a e : Expr) → operated_by made (sense_of all scope (record { what = exprs.Index a e; line = line })).typed.kind other v w ≡ operated_by made (expr_step all scope (open_expr.Index (sense_of all scope a) (sense_of all scope e))).typed.kind other v w
  left-index a e = ap (λ s. operated_by made s.typed.kind other v w) (sense-index all scope line a e)

  pub right-index : (a e : Expr) → operated_by made other (sense_of all scope (record { what = exprs.Index a e; line = line })).typed.kind v w ≡ operated_by made other (expr_step all scope (open_expr.Index (sense_of all scope a) (sense_of all scope e))).typed.kind v w
  right-index a e = ap (λ s. operated_by made other s.typed.kind v w) (sense-index all scope line a e)

  pub left-unary : (o : UnOp) (e : Expr) → operated_by made (sense_of all scope (record { what = exprs.Unary o e; line = line })).typed.kind other v w ≡ operated_by made (expr_step all scope (open_expr.Unary o (sense_of all scope e))).typed.kind other v w
  left-unary o e = ap (λ s. operated_by made s.typed.kind other v w) (sense-unary all scope line o e)

  pub right-unary : (o : UnOp) (e : Expr) → operated_by made other (sense_of all scope (record { what = exprs.Unary o e; line = line })).typed.kind v w ≡ operated_by made other (expr_step all scope (open_expr.Unary o (sense_of all scope e))).typed.kind v w
  right-unary o e = ap (λ s. operated_by made other s.typed.kind v w) (sense-unary all scope line o e)

  pub left-binary : (o : BinOp) (a b : Expr) → operated_by made (sense_of all scope (record { what = exprs.Binary o a b; line = line })).typed.kind other v w ≡ operated_by made (expr_step all scope (open_expr.Binary o (sense_of all scope a) (sense_of all scope b))).typed.kind other v w
  left-binary o a b = ap (λ s. operated_by made s.typed.kind other v w) (sense-binary all scope line o a b)

  pub right-binary : (o : BinOp) (a b : Expr) → operated_by made other (sense_of all scope (record { what = exprs.Binary o a b; line = line })).typed.kind v w ≡ operated_by made other (expr_step all scope (open_expr.Binary o (sense_of all scope a) (sense_of all scope b))).typed.kind v w
  right-binary o a b = ap (λ s. operated_by made other s.typed.kind v w) (sense-binary all scope line o a b)

  pub left-call : (text : List ℕ) (es : List Expr) → operated_by made (sense_of all scope (record { what = exprs.Call text es; line = line })).typed.kind other v w ≡ operated_by made (expr_step all scope (open_expr.Call text (map (sense_of all scope) es))).typed.kind other v w
  left-call text es = ap (λ s. operated_by made s.typed.kind other v w) (sense-call all scope line text es)

  pub right-call : (text : List ℕ) (es : List Expr) → operated_by made other (sense_of all scope (record { what = exprs.Call text es; line = line })).typed.kind v w ≡ operated_by made other (expr_step all scope (open_expr.Call text (map (sense_of all scope) es))).typed.kind v w
  right-call text es = ap (λ s. operated_by made other s.typed.kind v w) (sense-call all scope line text es)

-- What stands before an index.
module _ (all : List Item) (scope : List Local) (line at : ℕ) (globals : List Extent) (index : Sense) (here : Here) (locals : List Value) (go : Value → TreeRun) (vs : List ℕ) where
  pub indexed_value-name : (text : List ℕ) → index_value globals (sense_of all scope (record { what = exprs.Name text; line = line })).typed.target (sense_of all scope (record { what = exprs.Name text; line = line })) index at here locals go vs ≡ index_value globals (expr_step all scope (open_expr.Name text)).typed.target (expr_step all scope (open_expr.Name text)) index at here locals go vs
  indexed_value-name text = ap (λ s. index_value globals s.typed.target s index at here locals go vs) (sense-name all scope line text)

  pub indexed_place-name : (text : List ℕ) → index_place globals (sense_of all scope (record { what = exprs.Name text; line = line })).typed.target (sense_of all scope (record { what = exprs.Name text; line = line })) index at here locals go vs ≡ index_place globals (expr_step all scope (open_expr.Name text)).typed.target (expr_step all scope (open_expr.Name text)) index at here locals go vs
  indexed_place-name text = ap (λ s. index_place globals s.typed.target s index at here locals go vs) (sense-name all scope line text)

  pub indexed_value-index : (a e : Expr) → index_value globals (sense_of all scope (record { what = exprs.Index a e; line = line })).typed.target (sense_of all scope (record { what = exprs.Index a e; line = line })) index at here locals go vs ≡ index_value globals (expr_step all scope (open_expr.Index (sense_of all scope a) (sense_of all scope e))).typed.target (expr_step all scope (open_expr.Index (sense_of all scope a) (sense_of all scope e))) index at here locals go vs
  indexed_value-index a e = ap (λ s. index_value globals s.typed.target s index at here locals go vs) (sense-index all scope line a e)

  pub indexed_place-index : (a e : Expr) → index_place globals (sense_of all scope (record { what = exprs.Index a e; line = line })).typed.target (sense_of all scope (record { what = exprs.Index a e; line = line })) index at here locals go vs ≡ index_place globals (expr_step all scope (open_expr.Index (sense_of all scope a) (sense_of all scope e))).typed.target (expr_step all scope (open_expr.Index (sense_of all scope a) (sense_of all scope e))) index at here locals go vs
  indexed_place-index a e = ap (λ s. index_place globals s.typed.target s index at here locals go vs) (sense-index all scope line a e)

  pub indexed_value-unary : (o : UnOp) (e : Expr) → index_value globals (sense_of all scope (record { what = exprs.Unary o e; line = line })).typed.target (sense_of all scope (record { what = exprs.Unary o e; line = line })) index at here locals go vs ≡ index_value globals (expr_step all scope (open_expr.Unary o (sense_of all scope e))).typed.target (expr_step all scope (open_expr.Unary o (sense_of all scope e))) index at here locals go vs
  indexed_value-unary o e = ap (λ s. index_value globals s.typed.target s index at here locals go vs) (sense-unary all scope line o e)

  pub indexed_place-unary : (o : UnOp) (e : Expr) → index_place globals (sense_of all scope (record { what = exprs.Unary o e; line = line })).typed.target (sense_of all scope (record { what = exprs.Unary o e; line = line })) index at here locals go vs ≡ index_place globals (expr_step all scope (open_expr.Unary o (sense_of all scope e))).typed.target (expr_step all scope (open_expr.Unary o (sense_of all scope e))) index at here locals go vs
  indexed_place-unary o e = ap (λ s. index_place globals s.typed.target s index at here locals go vs) (sense-unary all scope line o e)

  pub indexed_value-binary : (o : BinOp) (a b : Expr) → index_value globals (sense_of all scope (record { what = exprs.Binary o a b; line = line })).typed.target (sense_of all scope (record { what = exprs.Binary o a b; line = line })) index at here locals go vs ≡ index_value globals (expr_step all scope (open_expr.Binary o (sense_of all scope a) (sense_of all scope b))).typed.target (expr_step all scope (open_expr.Binary o (sense_of all scope a) (sense_of all scope b))) index at here locals go vs
  indexed_value-binary o a b = ap (λ s. index_value globals s.typed.target s index at here locals go vs) (sense-binary all scope line o a b)

  pub indexed_place-binary : (o : BinOp) (a b : Expr) → index_place globals (sense_of all scope (record { what = exprs.Binary o a b; line = line })).typed.target (sense_of all scope (record { what = exprs.Binary o a b; line = line })) index at here locals go vs ≡ index_place globals (expr_step all scope (open_expr.Binary o (sense_of all scope a) (sense_of all scope b))).typed.target (expr_step all scope (open_expr.Binary o (sense_of all scope a) (sense_of all scope b))) index at here locals go vs
  indexed_place-binary o a b = ap (λ s. index_place globals s.typed.target s index at here locals go vs) (sense-binary all scope line o a b)

-- what a run comes to first, for `simp`
pub ruleset fronts = (value-number, value-name, value-index, value-unary, value-binary, value-call, assigned-name, assigned-index, assigned-unary, indexed_value-name, indexed_place-name, indexed_value-index, indexed_place-index, indexed_value-unary, indexed_place-unary, indexed_value-binary, indexed_place-binary, left-number, right-number, left-name, right-name, left-index, right-index, left-unary, right-unary, left-binary, right-binary, left-call, right-call, statement_forms)

-- the same, and all expressions at once
pub ruleset fronts_and_forms = (expression_forms, value-number, value-name, value-index, value-unary, value-binary, value-call, statement_forms)
