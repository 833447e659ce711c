-- The rules that expressions break (C11 6.5): names that are not in scope, values of another kind than their place allows, and
-- calls that are not allowed.
-- Read against: where `y` is not in scope `*(y < 1)` breaks two rules at `y`, the name before the kind, and `*(y + 1)` one; with
-- `void f(long a) {}` the operand `f(1)` breaks WrongKind at `f`, `f();` WrongCount, and the operand `f()` both, WrongKind first.
use Rattle.std.specs.Prelude.{ℕ, ◌==◌, Bool, false, not, ◌&&◌, ◌||◌, List, [], ◌∷◌, ◌++◌, length, Option, Some, None, is_some}
use Rattle.oss_syntax.specs.declared.tree.expr.Expr.{Expr}
use Rattle.oss_syntax.specs.declared.tree.expr.ExprKind.TheOpen.{ExprKind-F, Expr-F}
use Rattle.oss_syntax.specs.declared.tree.expr.ExprKind.TheOpen as open_expr
use Rattle.oss_syntax.specs.declared.tree.expr.ExprKind.TheFolds.{fold-Expr}
use Rattle.oss_syntax.specs.declared.tree.program.Function.{Function}
use Rattle.oss_syntax.specs.declared.tree.program.Item.{Item}
use Rattle.oss_syntax.specs.declared.tree.program.Local.{Local}
use Rattle.oss_grammar.specs.declared.kinds.Named.{Named}
use Rattle.oss_grammar.specs.declared.kinds.Named.TheVariants as named
use Rattle.oss_grammar.specs.declared.kinds.Object.TheVariants as object
use Rattle.oss_grammar.specs.declared.kinds.ValueKind.{ValueKind}
use Rattle.oss_grammar.specs.declared.kinds.ValueKind.TheVariants as value
use Rattle.oss_grammar.specs.declared.kinds.Wanted.{Wanted}
use Rattle.oss_grammar.specs.declared.kinds.Wanted.TheVariants as wanted
use Rattle.oss_syntax.specs.declared.refusal.Refused.{Refused}
use Rattle.oss_syntax.specs.declared.refusal.RefusedKind.TheVariants as refused
use Rattle.oss_grammar.specs.Broken.{broken, where_so}
use Rattle.oss_grammar.specs.Kinds.{Findings, all_of, binary_findings, index_findings, name_findings, number_findings, placed, unary_findings, value_kind, wanted_by}
use Rattle.oss_grammar.specs.Scopes.{is_main, meaning, function_named}

-- A call of this function as a statement or not: `main` is never called, and a function of a task as a statement alone; and there
-- are as many arguments as parameters.
abbrev pub callee_rules : Function → ℕ → Bool → ℕ → List Refused
callee_rules f line as_statement count =
    where_so (is_main f.name || (is_some f.mark && not as_statement)) refused.WrongKind line ++ where_so (not (count == length f.params)) refused.WrongCount line

-- the rules on the name that is called
abbrev pub call_rules : Named → Option Function → ℕ → Bool → ℕ → List Refused
call_rules named.Missing f line as_statement count = broken refused.UnknownName line ∷ []
call_rules named.Function None line as_statement count = []
call_rules named.Function (Some f) line as_statement count = callee_rules f line as_statement count
call_rules _ f line as_statement count = broken refused.WrongKind line ∷ []

abbrev pub parameters_of : Named → Option Function → List Local
parameters_of named.Function (Some f) = f.params
parameters_of _ _ = []

-- A call has the kind of what its function returns, also where it breaks a rule itself. A name that is no function gives it none.
abbrev pub call_kind : Named → Option Function → ValueKind
call_kind named.Function (Some f) = value_kind f.result
call_kind _ _ = value.Unknown

-- each argument takes the place of a parameter, and one too many has none
abbrev pub argument_wanted : List Local → Wanted
argument_wanted [] = wanted.Anything
argument_wanted (p ∷ rest) = wanted_by p.kind

abbrev pub parameters_behind : List Local → List Local
parameters_behind [] = []
parameters_behind (p ∷ rest) = rest

abbrev pub argument_rules : List Local → List Findings → List Refused
argument_rules params [] = []
argument_rules params (a ∷ rest) = all_of (placed (argument_wanted params) a) ++ argument_rules (parameters_behind params) rest

abbrev pub call_of : Named → Option Function → ℕ → Bool → List Findings → Findings
call_of m f line as_statement arguments = record {
  line = line;
  at_first = call_rules m f line as_statement (length arguments);
  behind = argument_rules (parameters_of m f) arguments;
  kind = call_kind m f;
  object = object.ValueOnly;
}

abbrev pub call_findings : List Item → List Local → List ℕ → ℕ → Bool → List Findings → Findings
call_findings all locals name line as_statement arguments = call_of (meaning all locals name) (function_named all name) line as_statement arguments

-- what is found of an expression, where these items and locals are in scope
abbrev pub expr_step : List Item → List Local → ExprKind-F (ℕ → Findings) Findings → ℕ → Findings
expr_step all locals (open_expr.Number n unsigned) line = number_findings unsigned line
expr_step all locals (open_expr.Name name) line = name_findings (meaning all locals name) line
expr_step all locals (open_expr.Index a e) line = index_findings line a e
expr_step all locals (open_expr.Unary o e) line = unary_findings line o e
expr_step all locals (open_expr.Binary o a b) line = binary_findings line o a b
expr_step all locals (open_expr.Call name arguments) line = call_findings all locals name line false arguments

abbrev pub findings : List Item → List Local → Expr → Findings
findings all locals = fold-Expr (ℕ → Findings) Findings (expr_step all locals) (λ e. e.what e.line)

-- the rules that an expression breaks at a place
abbrev pub value_rules : List Item → List Local → Wanted → Expr → List Refused
value_rules all locals w e = all_of (placed w (findings all locals e))
