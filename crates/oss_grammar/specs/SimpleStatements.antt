-- Assignments, calls and declarations (C11 6.5.16, 6.5.2.2, 6.7): which list of tokens is one, and what its tree is. The relations
-- speak of whole lists: nothing is greedy, and nothing is left over. A statement has the line of its first token, a local that of
-- its name.
-- Read against: `a[i] += 1`, `*(p + 1) = 2`, `m[1][2] = 3`, `++x` and `f(1, x)` are simple statements; `1 = x`, `a[1][2][3] = 3` and `(x) = 1` are
-- none.
use Rattle.std.specs.Prelude.{◌≡◌, ℕ, false, if◌then◌else◌, List, [], ◌∷◌, ◌++◌, codes, Option, Some, None}
use Rattle.oss_syntax.specs.declared.token.Token.{Token}
use Rattle.oss_syntax.specs.declared.token.TokenKind.{TokenKind}
use Rattle.oss_syntax.specs.declared.token.TokenKind.TheVariants as kinds
use Rattle.oss_syntax.specs.declared.tree.expr.BinOp.{BinOp}
use Rattle.oss_syntax.specs.declared.tree.expr.BinOp.TheVariants as op
use Rattle.oss_syntax.specs.declared.tree.expr.Expr.{Expr}
use Rattle.oss_syntax.specs.declared.tree.expr.ExprKind.TheVariants as exprs
use Rattle.oss_syntax.specs.declared.tree.expr.UnOp.TheVariants as prefix
use Rattle.oss_syntax.specs.declared.tree.program.Kind.{Kind}
use Rattle.oss_syntax.specs.declared.tree.program.Kind.TheVariants as kind
use Rattle.oss_syntax.specs.declared.tree.program.Local.{Local}
use Rattle.oss_syntax.specs.declared.tree.program.NumKind.{NumKind}
use Rattle.oss_syntax.specs.declared.tree.program.NumKind.TheVariants as num
use Rattle.oss_syntax.specs.declared.tree.stmt.Stmt.{Stmt}
use Rattle.oss_syntax.specs.declared.tree.stmt.StmtKind.TheVariants as stmts
use Rattle.oss_grammar.specs.Expressions.{IsWhole, IsArguments}
use Rattle.oss_grammar.specs.OneToken.{is_symbol, IsSymbol, IsKeyword, IsOpen, IsClose, IsIndexOpen, IsIndexClose, IsComma}

-- The element of this expression with this index: `a[i]`, and `m[i][j]` as that of `m[i]`.
abbrev pub element_of : Expr → Expr → Expr
element_of base at = record { what = exprs.Index base at; line = base.line }

-- The tokens are what may be assigned to: a name, an element, or what a pointer points to. `x`, `a[i]`, `m[i][j]`, `*p` and `*(p + 1)`
-- are, `**p` and `(x)` are not. An element has the line of its name, `*p` that of the `*`.
pub data IsTarget : List Token → Expr → Type 0 where
  name_target : {ts : List Token} (t : Token) (word : List ℕ) → ts ≡ t ∷ [] → t.what ≡ kinds.Name word
      → IsTarget ts (record { what = exprs.Name word; line = t.line })
  element_target : {ts : List Token} {at : Expr} (t : Token) (word : List ℕ) (opened : Token) (inner : List Token) (closed : Token)
      → ts ≡ t ∷ opened ∷ (inner ++ (closed ∷ [])) → t.what ≡ kinds.Name word → IsIndexOpen opened → IsIndexClose closed → IsWhole inner at
      → IsTarget ts (element_of (record { what = exprs.Name word; line = t.line }) at)
  grid_target : {ts : List Token} {row column : Expr} (t : Token) (word : List ℕ) (opened : Token) (first : List Token) (closed again : Token) (second : List Token) (ended : Token)
      → ts ≡ t ∷ opened ∷ (first ++ (closed ∷ again ∷ (second ++ (ended ∷ [])))) → t.what ≡ kinds.Name word → IsIndexOpen opened → IsIndexClose closed
      → IsIndexOpen again → IsIndexClose ended → IsWhole first row → IsWhole second column
      → IsTarget ts (element_of (element_of (record { what = exprs.Name word; line = t.line }) row) column)
  pointer_target : {ts : List Token} (star t : Token) (word : List ℕ) → ts ≡ star ∷ t ∷ [] → IsSymbol (codes "*") star → t.what ≡ kinds.Name word
      → IsTarget ts (record { what = exprs.Unary prefix.Deref (record { what = exprs.Name word; line = t.line }); line = star.line })
  pointed_target : {ts : List Token} {e : Expr} (star opened : Token) (inner : List Token) (closed : Token)
      → ts ≡ star ∷ opened ∷ (inner ++ (closed ∷ [])) → IsSymbol (codes "*") star → IsOpen opened → IsClose closed → IsWhole inner e
      → IsTarget ts (record { what = exprs.Unary prefix.Deref e; line = star.line })

-- The assignments, each with its operator if it is a compound one (C11 6.5.16): `=` has none, `<<=` shifts to the left. `==` is none.
unfoldable pub assignment_of : TokenKind → Option (Option BinOp)
assignment_of k =
    if is_symbol (codes "=") k then Some None
    else (if is_symbol (codes "+=") k then Some (Some op.Add)
    else (if is_symbol (codes "-=") k then Some (Some op.Sub)
    else (if is_symbol (codes "*=") k then Some (Some op.Mul)
    else (if is_symbol (codes "/=") k then Some (Some op.Div)
    else (if is_symbol (codes "%=") k then Some (Some op.Rem)
    else (if is_symbol (codes "&=") k then Some (Some op.And)
    else (if is_symbol (codes "|=") k then Some (Some op.Or)
    else (if is_symbol (codes "^=") k then Some (Some op.Xor)
    else (if is_symbol (codes "<<=") k then Some (Some op.Left)
    else (if is_symbol (codes ">>=") k then Some (Some op.Right)
    else None))))))))))

-- `++` adds one and `--` takes one away (C11 6.5.2.4, 6.5.3.1).
unfoldable pub step_of : TokenKind → Option BinOp
step_of k = if is_symbol (codes "++") k then Some op.Add else (if is_symbol (codes "--") k then Some op.Sub else None)

-- The number one, which such a step takes; it has the line of its mark.
abbrev pub one_at : ℕ → Expr
one_at line = record { what = exprs.Number 1 false; line = line }

-- The tokens are a simple statement, without its `;`: an assignment, a step before or behind its target, which means the assignment
-- `x += 1` or `x -= 1`, or a call. Checked on `a[0]--`, which is `stepped` of the target `a[0]`: the tree of `a[0] -= 1`.
pub data IsSimple : List Token → Stmt → Type 0 where
  assigned : {ts : List Token} {target value : Expr} (front : List Token) (mark : Token) (operator : Option BinOp) (back : List Token)
      → ts ≡ front ++ (mark ∷ back) → assignment_of mark.what ≡ Some operator → IsTarget front target → IsWhole back value
      → IsSimple ts (record { what = stmts.Assign target operator value; line = target.line })
  stepped : {ts : List Token} {target : Expr} (front : List Token) (mark : Token) (operator : BinOp)
      → ts ≡ front ++ (mark ∷ []) → step_of mark.what ≡ Some operator → IsTarget front target
      → IsSimple ts (record { what = stmts.Assign target (Some operator) (one_at mark.line); line = target.line })
  step_first : {ts : List Token} {target : Expr} (mark : Token) (operator : BinOp) (back : List Token)
      → ts ≡ mark ∷ back → step_of mark.what ≡ Some operator → IsTarget back target
      → IsSimple ts (record { what = stmts.Assign target (Some operator) (one_at mark.line); line = mark.line })
  called : {ts : List Token} {values : List Expr} (t opened : Token) (word : List ℕ) (inner : List Token) (closed : Token)
      → ts ≡ t ∷ opened ∷ (inner ++ (closed ∷ [])) → t.what ≡ kinds.Name word → IsOpen opened → IsClose closed → IsArguments inner values
      → IsSimple ts (record { what = stmts.Call word values; line = t.line })

-- The tokens are the type of numbers (C11 6.7.2): `int`, `long` or `unsigned long`.
pub data IsNumKind : List Token → NumKind → Type 0 where
  int_kind : {ts : List Token} (t : Token) → ts ≡ t ∷ [] → IsKeyword (codes "int") t → IsNumKind ts num.Int
  long_kind : {ts : List Token} (t : Token) → ts ≡ t ∷ [] → IsKeyword (codes "long") t → IsNumKind ts num.Long
  unsigned_kind : {ts : List Token} (t u : Token) → ts ≡ t ∷ u ∷ [] → IsKeyword (codes "unsigned") t → IsKeyword (codes "long") u → IsNumKind ts num.Ulong

-- The tokens are a name, with a `*` before it where it is a pointer: `*p` behind `int` is a pointer to numbers of that type.
pub data IsDeclared (numbers : NumKind) : List Token → Kind → List ℕ → ℕ → Type 0 where
  number_declared : {ts : List Token} (t : Token) (word : List ℕ) → ts ≡ t ∷ [] → t.what ≡ kinds.Name word → IsDeclared numbers ts (kind.Num numbers) word t.line
  pointer_declared : {ts : List Token} (star t : Token) (word : List ℕ) → ts ≡ star ∷ t ∷ [] → IsSymbol (codes "*") star → t.what ≡ kinds.Name word
      → IsDeclared numbers ts (kind.Pointer numbers) word t.line

-- The tokens are the declarator of a local (C11 6.7.6, 6.7.9): `x`, `*p`, `x = 1`.
pub data IsLocal (numbers : NumKind) : List Token → Local → Type 0 where
  plain_local : {ts : List Token} {k : Kind} {word : List ℕ} {line : ℕ} → IsDeclared numbers ts k word line
      → IsLocal numbers ts (record { name = word; kind = k; first = None; line = line })
  first_local : {ts : List Token} {k : Kind} {word : List ℕ} {line : ℕ} {value : Expr} (front : List Token) (mark : Token) (back : List Token)
      → ts ≡ front ++ (mark ∷ back) → IsSymbol (codes "=") mark → IsDeclared numbers front k word line → IsWhole back value
      → IsLocal numbers ts (record { name = word; kind = k; first = Some value; line = line })

-- The tokens are declarators with a comma between each two, one at least.
pub data IsLocals (numbers : NumKind) : List Token → List Local → Type 0 where
  last_local : {ts : List Token} {l : Local} → IsLocal numbers ts l → IsLocals numbers ts (l ∷ [])
  next_local : {ts : List Token} {l : Local} {more : List Local} (front : List Token) (comma : Token) (back : List Token)
      → ts ≡ front ++ (comma ∷ back) → IsComma comma → IsLocal numbers front l → IsLocals numbers back more → IsLocals numbers ts (l ∷ more)

-- The line of the first of some tokens.
abbrev pub first_line : List Token → ℕ
first_line [] = 0
first_line (t ∷ ts) = t.line

-- The tokens are a declaration without its `;` (C11 6.7): `unsigned long i = 0, *p`.
pub data IsDeclaration : List Token → Stmt → Type 0 where
  declaration : {ts : List Token} {numbers : NumKind} {locals : List Local} (front back : List Token)
      → ts ≡ front ++ back → IsNumKind front numbers → IsLocals numbers back locals
      → IsDeclaration ts (record { what = stmts.Declare locals; line = first_line front })
