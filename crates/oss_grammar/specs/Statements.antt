-- Statements (C11 6.8, and OmpSs-2's task, taskloop, taskwait and release): which list of tokens is a statement, and what its tree is. The
-- relations speak of whole lists: nothing is greedy, and nothing is left over. A statement has the line of its first token.
-- Read against: `if (a) if (b) x = 1; else x = 2;` has one tree, in which the `else` belongs to the second `if`.
use Rattle.std.specs.Prelude.{◌≡◌, ℕ, Bool, true, false, List, [], ◌∷◌, ◌++◌, codes, Option, Some, None}
use Rattle.oss_syntax.specs.declared.token.Token.{Token}
use Rattle.oss_syntax.specs.declared.token.TokenKind.TheVariants as kinds
use Rattle.oss_syntax.specs.declared.tree.expr.Expr.{Expr}
use Rattle.oss_syntax.specs.declared.tree.pragma.Clause.{Clause}
use Rattle.oss_syntax.specs.declared.tree.pragma.Directive.TheVariants as directive
use Rattle.oss_syntax.specs.declared.tree.pragma.Section.{Section}
use Rattle.oss_syntax.specs.declared.tree.pragma.TaskMark.{TaskMark}
use Rattle.oss_syntax.specs.declared.tree.stmt.LoopHead.{LoopHead}
use Rattle.oss_syntax.specs.declared.tree.stmt.NameUse.{NameUse}
use Rattle.oss_syntax.specs.declared.tree.stmt.Stmt.{Stmt}
use Rattle.oss_syntax.specs.declared.tree.stmt.StmtKind.TheVariants as stmts
use Rattle.oss_grammar.specs.Expressions.{IsWhole, IsArgumentList}
use Rattle.oss_grammar.specs.OneToken.{IsSymbol, IsKeyword, IsOpen, IsClose, IsComma}
use Rattle.oss_grammar.specs.Pragmas.{IsPragma, counter}
use Rattle.oss_grammar.specs.SimpleStatements.{IsSimple, IsDeclaration, first_line}

-- The tokens are an expression, or nothing.
pub data IsMaybeWhole : List Token → Option Expr → Type 0 where
  no_expression : {ts : List Token} → ts ≡ [] → IsMaybeWhole ts None
  some_expression : {ts : List Token} {e : Expr} → IsWhole ts e → IsMaybeWhole ts (Some e)

-- The tokens are a simple statement, or nothing.
pub data IsMaybeSimple : List Token → Option Stmt → Type 0 where
  no_simple : {ts : List Token} → ts ≡ [] → IsMaybeSimple ts None
  some_simple : {ts : List Token} {s : Stmt} → IsSimple ts s → IsMaybeSimple ts (Some s)

-- The tokens are the first part of a `for`: a declaration, a simple statement, or nothing.
pub data IsForFirst : List Token → Option Stmt → Type 0 where
  declared_first : {ts : List Token} {s : Stmt} → IsDeclaration ts s → IsForFirst ts (Some s)
  other_first : {ts : List Token} {s : Option Stmt} → IsMaybeSimple ts s → IsForFirst ts s

-- The tokens are the beginning of the head of a task loop up to the name of its variable: `for (long i`.
pub data IsLoopVariable : List Token → List ℕ → ℕ → Type 0 where
  loop_variable : {ts : List Token} (t opened kind named : Token) (word : List ℕ) → ts ≡ t ∷ opened ∷ kind ∷ named ∷ [] → IsKeyword (codes "for") t → IsOpen opened
      → IsKeyword (codes "long") kind → named.what ≡ kinds.Name word → IsLoopVariable ts word named.line

-- The tokens are a name and `<`.
pub data IsTested : List Token → NameUse → Type 0 where
  tested : {ts : List Token} (t less : Token) (word : List ℕ) → ts ≡ t ∷ less ∷ [] → t.what ≡ kinds.Name word → IsSymbol (codes "<") less
      → IsTested ts (record { name = word; line = t.line })

-- The tokens are a name and `++`.
pub data IsStepped : List Token → NameUse → Type 0 where
  stepped : {ts : List Token} (t twice : Token) (word : List ℕ) → ts ≡ t ∷ twice ∷ [] → t.what ≡ kinds.Name word → IsSymbol (codes "++") twice
      → IsStepped ts (record { name = word; line = t.line })

-- The tokens are the head of a task loop, behind its pragma (OmpSs-2, the taskloop directive): `for (long i = 0; i < 8; i++)`. That the
-- three names are one is a static rule. `for (long i = 0; i <= 8; i++)` and `for (int i = 0; i < 8; i++)` are none.
pub data IsLoopHead (mark : TaskMark) : List Token → LoopHead → Type 0 where
  loop_head : {ts : List Token} {word : List ℕ} {line : ℕ} {first end : Expr} {tests steps : NameUse}
      (front : List Token) (set : Token) (start : List Token) (ended : Token) (test limit : List Token) (other : Token) (step : List Token) (closed : Token)
      → ts ≡ front ++ (set ∷ (start ++ (ended ∷ (test ++ (limit ++ (other ∷ (step ++ closed ∷ []))))))) → IsLoopVariable front word line → IsSymbol (codes "=") set
      → IsWhole start first → IsSymbol (codes ";") ended → IsTested test tests → IsWhole limit end → IsSymbol (codes ";") other → IsStepped step steps → IsClose closed
      → IsLoopHead mark ts (record { mark = mark; variable = counter word first line; tested = tests; end = end; stepped = steps; for_line = first_line front })

-- The tokens are what follows the string of a `printf`: nothing, or a comma and arguments.
pub data IsPrinted : List Token → List Expr → Type 0 where
  nothing_printed : {ts : List Token} → ts ≡ [] → IsPrinted ts []
  values_printed : {ts : List Token} {values : List Expr} (comma : Token) (back : List Token)
      → ts ≡ comma ∷ back → IsComma comma → IsArgumentList back values → IsPrinted ts values

-- The tokens are a statement. The test tells whether it ends in an `if` without an `else`, which an `else` behind it would belong
-- to; before an `else` stands one that does not. Checked on `if (a) if (b) ; else ;`: the inner `if` with its `else` ends in none,
-- and it stands alone in the outer one; `if (a) if (b) ;` before the `else` would end in one, so the `else` is not the outer's.
mutual
  pub data IsStmt : Bool → List Token → Stmt → Type 0 where
    block : {ts : List Token} {body : List Stmt} (opened : Token) (inner : List Token) (closed : Token)
        → ts ≡ opened ∷ (inner ++ (closed ∷ [])) → IsSymbol (codes "{") opened → IsSymbol (codes "}") closed → IsItems inner body
        → IsStmt false ts (record { what = stmts.Block body; line = opened.line })
    empty : {ts : List Token} (mark : Token) → ts ≡ mark ∷ [] → IsSymbol (codes ";") mark
        → IsStmt false ts (record { what = stmts.Empty; line = mark.line })
    simple : {ts : List Token} {s : Stmt} (front : List Token) (mark : Token)
        → ts ≡ front ++ (mark ∷ []) → IsSymbol (codes ";") mark → IsSimple front s → IsStmt false ts s
    if_alone : {o : Bool} {ts : List Token} {test : Expr} {s : Stmt} (t opened : Token) (inner : List Token) (closed : Token) (back : List Token)
        → ts ≡ t ∷ opened ∷ (inner ++ (closed ∷ back)) → IsKeyword (codes "if") t → IsOpen opened → IsClose closed
        → IsWhole inner test → IsStmt o back s
        → IsStmt true ts (record { what = stmts.If test s None; line = t.line })
    if_else : {o : Bool} {ts : List Token} {test : Expr} {s other : Stmt} (t opened : Token) (inner : List Token) (closed : Token) (front : List Token) (mark : Token) (back : List Token)
        → ts ≡ t ∷ opened ∷ (inner ++ (closed ∷ (front ++ (mark ∷ back)))) → IsKeyword (codes "if") t → IsOpen opened → IsClose closed → IsKeyword (codes "else") mark
        → IsWhole inner test → IsStmt false front s → IsStmt o back other
        → IsStmt o ts (record { what = stmts.If test s (Some other); line = t.line })
    while_loop : {o : Bool} {ts : List Token} {test : Expr} {s : Stmt} (t opened : Token) (inner : List Token) (closed : Token) (back : List Token)
        → ts ≡ t ∷ opened ∷ (inner ++ (closed ∷ back)) → IsKeyword (codes "while") t → IsOpen opened → IsClose closed
        → IsWhole inner test → IsStmt o back s
        → IsStmt o ts (record { what = stmts.While test s; line = t.line })
    for_loop : {o : Bool} {ts : List Token} {first : Option Stmt} {test : Option Expr} {last : Option Stmt} {s : Stmt} (t opened : Token) (start : List Token) (mark : Token) (middle : List Token) (other : Token)
        (end : List Token) (closed : Token) (back : List Token)
        → ts ≡ t ∷ opened ∷ (start ++ (mark ∷ (middle ++ (other ∷ (end ++ (closed ∷ back))))))
        → IsKeyword (codes "for") t → IsOpen opened → IsSymbol (codes ";") mark → IsSymbol (codes ";") other → IsClose closed
        → IsForFirst start first → IsMaybeWhole middle test → IsMaybeSimple end last → IsStmt o back s
        → IsStmt o ts (record { what = stmts.For first test last s; line = t.line })
    return_jump : {ts : List Token} {value : Option Expr} (t : Token) (inner : List Token) (mark : Token)
        → ts ≡ t ∷ (inner ++ (mark ∷ [])) → IsKeyword (codes "return") t → IsSymbol (codes ";") mark → IsMaybeWhole inner value
        → IsStmt false ts (record { what = stmts.Return value; line = t.line })
    break_jump : {ts : List Token} (t mark : Token) → ts ≡ t ∷ mark ∷ [] → IsKeyword (codes "break") t → IsSymbol (codes ";") mark
        → IsStmt false ts (record { what = stmts.Break; line = t.line })
    continue_jump : {ts : List Token} (t mark : Token) → ts ≡ t ∷ mark ∷ [] → IsKeyword (codes "continue") t → IsSymbol (codes ";") mark
        → IsStmt false ts (record { what = stmts.Continue; line = t.line })
    print : {ts : List Token} {values : List Expr} (t opened string : Token) (bytes : List ℕ) (inner : List Token) (closed mark : Token)
        → ts ≡ t ∷ opened ∷ string ∷ (inner ++ (closed ∷ mark ∷ [])) → IsKeyword (codes "printf") t → IsOpen opened → string.what ≡ kinds.Text bytes
        → IsClose closed → IsSymbol (codes ";") mark → IsPrinted inner values
        → IsStmt false ts (record { what = stmts.Print bytes values; line = t.line })
    task : {o : Bool} {ts : List Token} {mark : TaskMark} {s : Stmt} (front back : List Token)
        → ts ≡ front ++ back → IsPragma front (directive.Task mark) → IsStmt o back s
        → IsStmt o ts (record { what = stmts.Task mark s; line = mark.line })
    task_loop : {o : Bool} {ts : List Token} {mark : TaskMark} {head : LoopHead} {s : Stmt} (front middle back : List Token)
        → ts ≡ front ++ (middle ++ back) → IsPragma front (directive.TaskLoop mark) → IsLoopHead mark middle head → IsStmt o back s
        → IsStmt o ts (record { what = stmts.TaskLoop head s; line = mark.line })
    task_wait : {ts : List Token} {sections : Option (List Section)} → IsPragma ts (directive.TaskWait sections)
        → IsStmt false ts (record { what = stmts.TaskWait sections; line = first_line ts })
    release : {ts : List Token} {clauses : List Clause} → IsPragma ts (directive.Release clauses)
        → IsStmt false ts (record { what = stmts.Release clauses; line = first_line ts })

  -- what stands in a block: declarations and statements, in any number
  pub data IsItems : List Token → List Stmt → Type 0 where
    no_item : {ts : List Token} → ts ≡ [] → IsItems ts []
    declaration_item : {ts : List Token} {s : Stmt} {more : List Stmt} (front : List Token) (mark : Token) (back : List Token)
        → ts ≡ front ++ (mark ∷ back) → IsSymbol (codes ";") mark → IsDeclaration front s → IsItems back more → IsItems ts (s ∷ more)
    statement_item : {o : Bool} {ts : List Token} {s : Stmt} {more : List Stmt} (front back : List Token)
        → ts ≡ front ++ back → IsStmt o front s → IsItems back more → IsItems ts (s ∷ more)

-- A statement, whether it ends in an `if` without an `else` or not.
pub record IsAnyStmt (ts : List Token) (s : Stmt) : Type 0 where
  pub ends_open : Bool
  pub is : IsStmt ends_open ts s
