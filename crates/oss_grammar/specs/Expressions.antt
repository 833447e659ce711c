-- Expressions (C11 6.5): which list of tokens is an expression, and what its tree is. The grammar is C's own, left recursion
-- and all, and speaks of whole lists: nothing is greedy, and nothing is left over. Where brackets, arguments and operands of a
-- prefix begin, and where operators stand, is told of each derivation, since a text may not nest too deeply.
-- Read against: `a - b - 1` is `(a - b) - 1`; `- a[i] * 2` is `(-(a[i])) * 2`; `a[1][2]` is the tree of `(a[1])[2]`; `a[1][2][3]` and
-- `a -` are no expressions.
use Rattle.std.specs.Prelude.{◌≡◌, ℕ, suc, Bool, if◌then◌else◌, List, [], ◌∷◌, ◌++◌, codes, Option, Some, None}
use Rattle.oss_syntax.specs.declared.token.Token.{Token}
use Rattle.oss_syntax.specs.declared.token.TokenKind.{TokenKind}
use Rattle.oss_syntax.specs.declared.token.TokenKind.TheVariants as kinds
use Rattle.oss_syntax.specs.declared.tree.expr.BinOp.{BinOp}
use Rattle.oss_syntax.specs.declared.tree.expr.BinOp.TheVariants as op
use Rattle.oss_syntax.specs.declared.tree.expr.UnOp.{UnOp}
use Rattle.oss_syntax.specs.declared.tree.expr.UnOp.TheVariants as prefix
use Rattle.oss_syntax.specs.declared.tree.expr.Expr.{Expr}
use Rattle.oss_syntax.specs.declared.tree.expr.ExprKind.TheVariants as exprs
use Rattle.oss_grammar.specs.OneToken.{is_symbol, IsOpen, IsClose, IsIndexOpen, IsIndexClose, IsComma}

-- How tightly the parts of an expression hold together, from 0: a primary expression, 1 one with an index or two, 2 one with
-- prefixes, and then the binary operators, from 3, `*`, to 12, `||`, which is a whole expression (C11 6.5.1 to 6.5.14).
-- `a[i]` is of level 1 and, as each tighter one, of all levels above; `a + b` is of level 4.
abbrev pub primary_level : ℕ
primary_level = 0

-- `a[i]` has this level, and so has `a`.
abbrev pub postfix_level : ℕ
postfix_level = 1

-- `-a` has this level, and so has `a[i]`.
abbrev pub prefix_level : ℕ
prefix_level = 2

-- Every expression has this level: `a || b` has no tighter one.
abbrev pub loosest_level : ℕ
loosest_level = 12

-- The prefix operators (C11 6.5.3): `-` is one, and `*` too; `++` is none, since it stands in statements alone.
unfoldable pub prefix_of : TokenKind → Option UnOp
prefix_of k =
    if is_symbol (codes "-") k then Some prefix.Minus
    else (if is_symbol (codes "+") k then Some prefix.Plus
    else (if is_symbol (codes "!") k then Some prefix.Not
    else (if is_symbol (codes "~") k then Some prefix.Invert
    else (if is_symbol (codes "*") k then Some prefix.Deref
    else (if is_symbol (codes "&") k then Some prefix.Address
    else None)))))

-- The binary operators with their levels (C11 6.5.5 to 6.5.14): `*` has 3 and `+` has 4, so `a + b * c` is `a + (b * c)`; `&`
-- has 8, tighter than `|` with 10 and looser than `==` with 7, so `a & b == c` is `a & (b == c)`. `=` is none.
unfoldable pub operator_of : TokenKind → Option (ℕ × BinOp)
operator_of k =
    if is_symbol (codes "*") k then Some (3, op.Mul)
    else (if is_symbol (codes "/") k then Some (3, op.Div)
    else (if is_symbol (codes "%") k then Some (3, op.Rem)
    else (if is_symbol (codes "+") k then Some (4, op.Add)
    else (if is_symbol (codes "-") k then Some (4, op.Sub)
    else (if is_symbol (codes "<<") k then Some (5, op.Left)
    else (if is_symbol (codes ">>") k then Some (5, op.Right)
    else (if is_symbol (codes "<") k then Some (6, op.Less)
    else (if is_symbol (codes "<=") k then Some (6, op.LessEqual)
    else (if is_symbol (codes ">") k then Some (6, op.More)
    else (if is_symbol (codes ">=") k then Some (6, op.MoreEqual)
    else (if is_symbol (codes "==") k then Some (7, op.Equal)
    else (if is_symbol (codes "!=") k then Some (7, op.Differ)
    else (if is_symbol (codes "&") k then Some (8, op.And)
    else (if is_symbol (codes "^") k then Some (9, op.Xor)
    else (if is_symbol (codes "|") k then Some (10, op.Or)
    else (if is_symbol (codes "&&") k then Some (11, op.AndAlso)
    else (if is_symbol (codes "||") k then Some (12, op.OrElse)
    else None)))))))))))))))))

-- The tokens are an expression of this level with this tree. Its line is that of its first token that is no `(`: so `(a)` is the
-- same tree as `a`, and `(a) + b` has the line of `a`. `f(1, x)` is a call with two arguments, `f(1,)` and `f(,1)` are none.
-- Checked on `a - b - 1`, which is `joined` of `a - b` at level 4 and of `1` at level 3, and nothing else, since `b - 1` is not
-- of level 3; on `- a * b`, `joined` at level 3 of `- a`; and on `a[1][2]`, `indexed_again` of `a[1]`, behind which no third index stands.
mutual
  pub data IsExpr : ℕ → List Token → Expr → Type 0 where
    number : {ts : List Token} (t : Token) (value : ℕ) (unsigned : Bool) → ts ≡ t ∷ [] → t.what ≡ kinds.Number value unsigned
        → IsExpr primary_level ts (record { what = exprs.Number value unsigned; line = t.line })
    name : {ts : List Token} (t : Token) (word : List ℕ) → ts ≡ t ∷ [] → t.what ≡ kinds.Name word
        → IsExpr primary_level ts (record { what = exprs.Name word; line = t.line })
    call : {ts : List Token} {values : List Expr} (t opened closed : Token) (word : List ℕ) (inner : List Token)
        → ts ≡ t ∷ opened ∷ (inner ++ closed ∷ []) → t.what ≡ kinds.Name word → IsOpen opened → IsClose closed
        → IsArguments inner values
        → IsExpr primary_level ts (record { what = exprs.Call word values; line = t.line })
    brackets : {ts : List Token} {e : Expr} (opened closed : Token) (inner : List Token)
        → ts ≡ opened ∷ (inner ++ closed ∷ []) → IsOpen opened → IsClose closed
        → IsExpr loosest_level inner e → IsExpr primary_level ts e
    indexed : {ts : List Token} {e : Expr} → IsIndexed ts e → IsExpr postfix_level ts e
    indexed_again : {ts : List Token} {a e : Expr} (front : List Token) (opened closed : Token) (inner : List Token)
        → ts ≡ front ++ (opened ∷ (inner ++ closed ∷ [])) → IsIndexOpen opened → IsIndexClose closed
        → IsIndexed front a → IsExpr loosest_level inner e
        → IsExpr postfix_level ts (record { what = exprs.Index a e; line = a.line })
    prefixed : {ts : List Token} {e : Expr} (t : Token) (sign : UnOp) (operand : List Token)
        → ts ≡ t ∷ operand → prefix_of t.what ≡ Some sign
        → IsExpr prefix_level operand e
        → IsExpr prefix_level ts (record { what = exprs.Unary sign e; line = t.line })
    joined : {k : ℕ} {ts : List Token} {a b : Expr} (front : List Token) (t : Token) (operator : BinOp) (back : List Token)
        → ts ≡ front ++ (t ∷ back) → operator_of t.what ≡ Some (suc k, operator)
        → IsExpr (suc k) front a → IsExpr k back b
        → IsExpr (suc k) ts (record { what = exprs.Binary operator a b; line = a.line })
    tighter : {k : ℕ} {ts : List Token} {e : Expr} → IsExpr k ts e → IsExpr (suc k) ts e

  -- an index behind a primary expression, behind which a second one may stand: `a[1]` is one, `a` is none
  pub data IsIndexed : List Token → Expr → Type 0 where
    index : {ts : List Token} {a e : Expr} (front : List Token) (opened closed : Token) (inner : List Token)
        → ts ≡ front ++ (opened ∷ (inner ++ closed ∷ [])) → IsIndexOpen opened → IsIndexClose closed
        → IsExpr primary_level front a → IsExpr loosest_level inner e
        → IsIndexed ts (record { what = exprs.Index a e; line = a.line })

  -- the arguments of a call: none, or expressions with a comma between each two (C11 6.5.2)
  pub data IsArguments : List Token → List Expr → Type 0 where
    no_arguments : {ts : List Token} → ts ≡ [] → IsArguments ts []
    arguments : {ts : List Token} {values : List Expr} → IsArgumentList ts values → IsArguments ts values

  -- arguments with a comma between each two, one at least: `1, x`, and not `1,`
  pub data IsArgumentList : List Token → List Expr → Type 0 where
    last_argument : {ts : List Token} {e : Expr} → IsExpr loosest_level ts e → IsArgumentList ts (e ∷ [])
    next_argument : {ts : List Token} {e : Expr} {values : List Expr} (front : List Token) (comma : Token) (back : List Token)
        → ts ≡ front ++ (comma ∷ back) → IsComma comma
        → IsExpr loosest_level front e → IsArgumentList back values → IsArgumentList ts (e ∷ values)

-- A whole expression: `a || b` is one.
abbrev pub IsWhole : List Token → Expr → Type 0
IsWhole = IsExpr loosest_level
