-- The rules of an expression stand between the lines of its first and its last token, in rising order.
use Rattle.std.proofs.Common.{ℕ, ◌≤◌, ◌==◌, ◌&&◌, ◌||◌, Bool, false, not, List, [], ◌∷◌, ◌++◌, length, map, refl, Option, Some, None, arith}
use Rattle.std.specs.Prelude.{is_some}
use Rattle.oss_syntax.specs.declared.refusal.RefusedKind.TheVariants as refused
use Rattle.oss_syntax.specs.declared.token.Token.{Token}
use Rattle.oss_syntax.specs.declared.tree.expr.BinOp.{BinOp}
use Rattle.oss_syntax.specs.declared.tree.expr.UnOp.{UnOp}
use Rattle.oss_syntax.specs.declared.tree.expr.UnOp.TheVariants as prefix
use Rattle.oss_syntax.specs.declared.tree.expr.Expr.{Expr}
use Rattle.oss_syntax.specs.declared.tree.expr.ExprKind.TheVariants as exprs
use Rattle.oss_syntax.specs.declared.tree.program.Function.{Function}
use Rattle.oss_syntax.specs.declared.tree.program.Item.{Item}
use Rattle.oss_syntax.specs.declared.tree.program.Local.{Local}
use Rattle.oss_grammar.specs.declared.kinds.Named.{Named}
use Rattle.oss_grammar.specs.declared.kinds.Named.TheVariants as named
use Rattle.oss_grammar.specs.declared.kinds.Wanted.{Wanted}
use Rattle.oss_grammar.specs.declared.kinds.Wanted.TheVariants as wanted
use Rattle.oss_grammar.specs.ExpressionRules.{argument_rules, argument_wanted, call_findings, call_rules, findings, parameters_behind, parameters_of, value_rules}
use Rattle.oss_grammar.specs.Expressions.{IsExpr, IsIndexed, IsArguments, IsArgumentList}
use Rattle.oss_grammar.specs.Expressions.IsExpr.{number, name, call, brackets, indexed, indexed_again, prefixed, joined, tighter}
use Rattle.oss_grammar.specs.Expressions.IsIndexed.{index}
use Rattle.oss_grammar.specs.Expressions.IsArguments.{no_arguments, arguments}
use Rattle.oss_grammar.specs.Expressions.IsArgumentList.{last_argument, next_argument}
use Rattle.oss_grammar.specs.Kinds.{Findings, binary_findings, has_address, index_findings, left_wanted, name_rules, placed, unary_findings}
use Rattle.oss_grammar.specs.Scopes.{function_named, is_main, meaning}
use Rattle.oss_grammar.proofs.LineSpans.{AllOn, Cut, Lies, Span, Within, behind_first, cut, first_is, first_on, lies_all, lies_higher, lies_of, lies_placed, lies_unless, on_both, on_one, on_where, skip, span_of, span_order, within_both, within_higher}
use Rattle.oss_grammar.proofs.LineSpans.AllOn.{on_end}
use Rattle.oss_grammar.proofs.LineSpans.Within.{within_end}
use Rattle.oss_grammar.proofs.RuleEquations.{found-number, found-name, found-index, found-unary, found-binary, found-call}

-- what stands between two marks
pub record Inner (P : ℕ → Type 0) (high low : ℕ) (inner : List Token) : Type 0 where
  pub last : ℕ
  pub span : Span P last low inner
  pub ends : last ≤ high

pub between : {P : ℕ → Type 0} {high low : ℕ} (inner : List Token) (closed : Token) (behind : List Token) → Span P high low (inner ++ (closed ∷ behind)) → Inner P high low inner
between {P = P} {high = high} {low = low} inner closed behind w = put (cut inner (closed ∷ behind) w) where
  put : Cut P high low inner (closed ∷ behind) → Inner P high low inner
  put c = record { last = c.middle; span = c.before; ends = span_order c.behind }

pub on_name : (m : Named) (line : ℕ) → AllOn line (name_rules m line)
on_name named.Missing line = on_one refused.UnknownName line
on_name named.Function line = on_one refused.WrongKind line
on_name (named.Local k) line = on_end
on_name (named.Scalar k) line = on_end
on_name (named.Array k) line = on_end
on_name (named.Grid k) line = on_end

pub on_call : (m : Named) (f : Option Function) (line : ℕ) (as_statement : Bool) (n : ℕ) → AllOn line (call_rules m f line as_statement n)
on_call named.Missing f line as_statement n = on_one refused.UnknownName line
on_call named.Function None line as_statement n = on_end
on_call named.Function (Some f) line as_statement n =
    on_both (on_where (is_main f.name || (is_some f.mark && not as_statement)) refused.WrongKind line) (on_where (not (n == length f.params)) refused.WrongCount line)
on_call (named.Local k) f line as_statement n = on_one refused.WrongKind line
on_call (named.Scalar k) f line as_statement n = on_one refused.WrongKind line
on_call (named.Array k) f line as_statement n = on_one refused.WrongKind line
on_call (named.Grid k) f line as_statement n = on_one refused.WrongKind line

pub lies_unary : {P : ℕ → Type 0} {high low line first : ℕ} (o : UnOp) {f : Findings} → low ≤ line → P line → Lies P high line first f → Lies P high low line (unary_findings line o f)
lies_unary prefix.Minus {f = f} le has l = record { at = refl; low_is = le; has = has; first = on_end; behind = lies_all (lies_placed wanted.Number f l) }
lies_unary prefix.Plus {f = f} le has l = record { at = refl; low_is = le; has = has; first = on_end; behind = lies_all (lies_placed wanted.Number f l) }
lies_unary prefix.Invert {f = f} le has l = record { at = refl; low_is = le; has = has; first = on_end; behind = lies_all (lies_placed wanted.Number f l) }
lies_unary prefix.Not {f = f} le has l = record { at = refl; low_is = le; has = has; first = on_end; behind = lies_all (lies_placed wanted.Number f l) }
lies_unary prefix.Deref {f = f} le has l = record { at = refl; low_is = le; has = has; first = on_end; behind = lies_all (lies_placed wanted.Pointer f l) }
lies_unary prefix.Address {f = f} le has l = record { at = refl; low_is = le; has = has; first = on_end; behind = lies_all (lies_unless (has_address f.kind f.object) f l) }

-- one expression behind another
pub lies_index : {P : ℕ → Type 0} {high middle low line first : ℕ} {a e : Findings} → Lies P middle low line a → Lies P high middle first e → Lies P high low line (index_findings line a e)
lies_index {P = P} {high = high} {middle = middle} {low = low} {line = line} {a = a} {e = e} l m = put (lies_placed wanted.Indexed a l) where
  put : Lies P middle low line (placed wanted.Indexed a) → Lies P high low line (index_findings line a e)
  put p = record { at = refl; low_is = p.low_is; has = p.has; first = p.first; behind = within_both p.behind (lies_all (lies_placed wanted.Number e m)) }

lies_binary : {P : ℕ → Type 0} {high middle low line first : ℕ} (o : BinOp) {a e : Findings} → Lies P middle low line a → Lies P high middle first e → Lies P high low line (binary_findings line o a e)
lies_binary {P = P} {high = high} {middle = middle} {low = low} {line = line} o {a = a} {e = e} l m = put (lies_placed (left_wanted o) a l) where
  put : Lies P middle low line (placed (left_wanted o) a) → Lies P high low line (binary_findings line o a e)
  put p = record { at = refl; low_is = p.low_is; has = p.has; first = p.first; behind = within_both p.behind (lies_all (lies_placed wanted.Number e m)) }

module _ (all : List Item) (locals : List Local) where
  abbrev Good : (ℕ → Type 0) → ℕ → ℕ → Expr → Type 0
  Good P high low e = Lies P high low e.line (findings all locals e)

  pub lies_call : {P : ℕ → Type 0} {high low : ℕ} (word : List ℕ) (line : ℕ) (as_statement : Bool) (values : List Expr) → low ≤ line → P line
      → Within P high line (argument_rules (parameters_of (meaning all locals word) (function_named all word)) (map (findings all locals) values))
      → Lies P high low line (call_findings all locals word line as_statement (map (findings all locals) values))
  lies_call word line as_statement values le has w =
      record { at = refl; low_is = le; has = has; first = on_call (meaning all locals word) (function_named all word) line as_statement (length (map (findings all locals) values)); behind = w }

  one_indexed : {P : ℕ → Type 0} {high low : ℕ} (a e : Expr) (front : List Token) (opened closed : Token) (inner : List Token) (c : Cut P high low front (opened ∷ (inner ++ (closed ∷ []))))
      → Good P c.middle low a → (i : Inner P high c.middle inner) → Good P i.last c.middle e → Good P high low (record { what = exprs.Index a e; line = a.line })
  one_indexed a e front opened closed inner c l i m =
      lies_of (found-index all locals (record { what = exprs.Index a e; line = a.line }) a e refl) (lies_index l (lies_higher i.ends m))

  mutual
    pub expr_lies : {P : ℕ → Type 0} {k : ℕ} {ts : List Token} {e : Expr} {high low : ℕ} → IsExpr k ts e → Span P high low ts → Lies P high low e.line (findings all locals e)
    expr_lies {e = e} (number t value unsigned split is) w =
        (let v = span_of split w in lies_of (found-number all locals e value unsigned refl) (record { at = refl; low_is = first_on v; has = first_is v; first = on_end; behind = within_end (span_order (behind_first v)) }))
    expr_lies {e = e} (name t word split is) w =
        (let v = span_of split w in lies_of (found-name all locals e word refl) (record { at = refl; low_is = first_on v; has = first_is v; first = on_name (meaning all locals word) t.line; behind = within_end (span_order (behind_first v)) }))
    expr_lies {e = e} (call {values = values} t opened closed word inner split is o c args) w =
        (let v = span_of split w in
        let i = between inner closed [] (skip (behind_first v)) in
        lies_of (found-call all locals e word values refl) (lies_call word t.line false values (first_on v) (first_is v) (within_higher i.ends (arguments_lie (parameters_of (meaning all locals word) (function_named all word)) args i.span))))
    expr_lies {e = e} (brackets opened closed inner split o c d) w =
        (let v = span_of split w in let i = between inner closed [] (skip v) in lies_higher i.ends (expr_lies d i.span))
    expr_lies (indexed d) w = indexed_lies d w
    expr_lies (indexed_again {a = a} {e = e} front opened closed inner split o c d f) w =
        (let q = cut front (opened ∷ (inner ++ (closed ∷ []))) (span_of split w) in
        let i = between inner closed [] (skip q.behind) in
        one_indexed a e front opened closed inner q (indexed_lies d q.before) i (expr_lies f i.span))
    expr_lies {e = e} (prefixed {e = a} t sign operand split is d) w =
        (let v = span_of split w in lies_of (found-unary all locals e sign a refl) (lies_unary sign (first_on v) (first_is v) (expr_lies d (behind_first v))))
    expr_lies {e = e} (joined {a = a} {b = b} front t operator back split is d f) w =
        (let q = cut front (t ∷ back) (span_of split w) in lies_of (found-binary all locals e operator a b refl) (lies_binary operator (expr_lies d q.before) (expr_lies f (skip q.behind))))
    expr_lies (tighter d) w = expr_lies d w

    pub indexed_lies : {P : ℕ → Type 0} {ts : List Token} {e : Expr} {high low : ℕ} → IsIndexed ts e → Span P high low ts → Lies P high low e.line (findings all locals e)
    indexed_lies (index {a = a} {e = e} front opened closed inner split o c d f) w =
        (let q = cut front (opened ∷ (inner ++ (closed ∷ []))) (span_of split w) in
        let i = between inner closed [] (skip q.behind) in
        one_indexed a e front opened closed inner q (expr_lies d q.before) i (expr_lies f i.span))

    pub arguments_lie : {P : ℕ → Type 0} {ts : List Token} {values : List Expr} {high low : ℕ} (params : List Local) → IsArguments ts values → Span P high low ts → Within P high low (argument_rules params (map (findings all locals) values))
    arguments_lie params (no_arguments split) w = within_end (span_order w)
    arguments_lie params (arguments d) w = list_lies params d w

    pub list_lies : {P : ℕ → Type 0} {ts : List Token} {values : List Expr} {high low : ℕ} (params : List Local) → IsArgumentList ts values → Span P high low ts → Within P high low (argument_rules params (map (findings all locals) values))
    list_lies params (last_argument {e = e} d) w = within_both (lies_all (lies_placed (argument_wanted params) (findings all locals e) (expr_lies d w))) (within_end (omega arith))
    list_lies params (next_argument {e = e} front comma back split is d more) w =
        (let q = cut front (comma ∷ back) (span_of split w) in
        within_both (lies_all (lies_placed (argument_wanted params) (findings all locals e) (expr_lies d q.before))) (list_lies (parameters_behind params) more (skip q.behind)))

  pub value_lies : {P : ℕ → Type 0} {ts : List Token} {e : Expr} {k high low : ℕ} (w : Wanted) → IsExpr k ts e → Span P high low ts → Within P high low (value_rules all locals w e)
  value_lies {e = e} wanted_here d w = lies_all (lies_placed wanted_here (findings all locals e) (expr_lies d w))
