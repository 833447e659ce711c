-- Where a text of statements passes a limit: a statement begins a level too many, or an expression in it passes one. The statements
-- of a function's block have level 1, and a statement inside another has one more; so has what stands in a block. What is told here
-- is told of a beginning of a text and the token behind it.
-- Read against: in `{ if (x) ; }` of a function's block the block has level 1, the `if` level 2, and `;` level 3.
use Rattle.std.specs.Prelude.{◌≡◌, ℕ, suc, false, List, [], ◌∷◌, ◌++◌, codes, Option, Some}
use Rattle.oss_syntax.specs.declared.token.Token.{Token}
use Rattle.oss_syntax.specs.declared.token.TokenKind.TheVariants as kinds
use Rattle.oss_syntax.specs.declared.tree.expr.BinOp.{BinOp}
use Rattle.oss_syntax.specs.declared.tree.expr.Expr.{Expr}
use Rattle.oss_syntax.specs.declared.tree.pragma.Clause.{Clause}
use Rattle.oss_syntax.specs.declared.tree.pragma.Directive.TheVariants as directive
use Rattle.oss_syntax.specs.declared.tree.pragma.TaskMark.{TaskMark}
use Rattle.oss_syntax.specs.declared.tree.program.Item.{Item}
use Rattle.oss_syntax.specs.declared.tree.program.Kind.{Kind}
use Rattle.oss_syntax.specs.declared.tree.program.Local.{Local}
use Rattle.oss_syntax.specs.declared.tree.program.NumKind.{NumKind}
use Rattle.oss_syntax.specs.declared.tree.stmt.Stmt.{Stmt}
use Rattle.oss_grammar.specs.Expressions.{IsWhole, IsArgumentList}
use Rattle.oss_grammar.specs.Fronts.{Viable}
use Rattle.oss_grammar.specs.Levels.{IsExpressionExcess, IsExcessBehind, AfterComma, OpensClause, OpensPragma, most_levels}
use Rattle.oss_grammar.specs.OneToken.{IsSymbol, IsKeyword, IsWord, IsOpen, IsClose, IsIndexOpen, IsIndexClose, IsComma}
use Rattle.oss_grammar.specs.Pragmas.{IsPragma, IsClauses, HasEachOnce, HasNoGrain}
use Rattle.oss_grammar.specs.Programs.{IsMark, IsResult, IsParameters, IsItem}
use Rattle.oss_grammar.specs.SimpleStatements.{IsTarget, IsNumKind, IsDeclared, IsLocal, IsDeclaration, assignment_of, step_of}
use Rattle.oss_syntax.specs.declared.tree.stmt.LoopHead.{LoopHead}
use Rattle.oss_syntax.specs.declared.tree.stmt.NameUse.{NameUse}
use Rattle.oss_grammar.specs.Statements.{IsStmt, IsAnyStmt, IsForFirst, IsLoopHead, IsLoopVariable, IsTested, IsMaybeWhole, IsMaybeSimple, IsPrinted}

-- Behind these tokens of a target a whole expression begins: behind `a[`, behind `m[i][`, and behind `*(`.
pub data OpensTarget (xs : List Token) : Type 0 where
  element_place : (t : Token) (word : List ℕ) (opened : Token) → xs ≡ t ∷ opened ∷ [] → t.what ≡ kinds.Name word → IsIndexOpen opened → OpensTarget xs
  column_place : {row : Expr} (t : Token) (word : List ℕ) (opened : Token) (first : List Token) (closed again : Token)
      → xs ≡ t ∷ opened ∷ (first ++ (closed ∷ again ∷ [])) → t.what ≡ kinds.Name word → IsIndexOpen opened → IsWhole first row → IsIndexClose closed → IsIndexOpen again → OpensTarget xs
  pointed_place : (star opened : Token) → xs ≡ star ∷ opened ∷ [] → IsSymbol (codes "*") star → IsOpen opened → OpensTarget xs

-- The same in a simple statement: in its target, behind the mark of an assignment, and at the arguments of a call.
pub data OpensSimple (xs : List Token) : Type 0 where
  simple_target : OpensTarget xs → OpensSimple xs
  simple_value : {target : Expr} (front : List Token) (mark : Token) (operator : Option BinOp)
      → xs ≡ front ++ (mark ∷ []) → IsTarget front target → assignment_of mark.what ≡ Some operator → OpensSimple xs
  stepped_target : (mark : Token) (operator : BinOp) (front : List Token) → xs ≡ mark ∷ front → step_of mark.what ≡ Some operator → OpensTarget front → OpensSimple xs
  first_value : (t opened : Token) (word : List ℕ) → xs ≡ t ∷ opened ∷ [] → t.what ≡ kinds.Name word → IsOpen opened → OpensSimple xs
  later_value : {values : List Expr} (t opened : Token) (word : List ℕ) (before : List Token) (comma : Token)
      → xs ≡ t ∷ opened ∷ (before ++ (comma ∷ [])) → t.what ≡ kinds.Name word → IsOpen opened → IsArgumentList before values → IsComma comma → OpensSimple xs

-- The same in the declarators of locals: behind `x =`.
pub data OpensLocals (numbers : NumKind) : List Token → Type 0 where
  local_value : {xs : List Token} {k : Kind} {word : List ℕ} {line : ℕ} (front : List Token) (mark : Token)
      → xs ≡ front ++ (mark ∷ []) → IsDeclared numbers front k word line → IsSymbol (codes "=") mark → OpensLocals numbers xs
  later_local : {xs : List Token} {l : Local} (front : List Token) (comma : Token) (back : List Token)
      → xs ≡ front ++ (comma ∷ back) → IsLocal numbers front l → IsComma comma → OpensLocals numbers back → OpensLocals numbers xs

-- The same in a declaration: in its declarators.
pub record OpensDeclaration (xs : List Token) : Type 0 where
  pub numbers : NumKind
  pub front : List Token
  pub back : List Token
  pub split : xs ≡ front ++ back
  pub typed : IsNumKind front numbers
  pub opens : OpensLocals numbers back

-- The same in the head of a task loop: behind `for (long i =`, and behind `for (long i = l; i <`.
pub data OpensLoopHead (xs : List Token) : Type 0 where
  loop_first : {word : List ℕ} {line : ℕ} (front : List Token) (set : Token) → xs ≡ front ++ (set ∷ []) → IsLoopVariable front word line → IsSymbol (codes "=") set → OpensLoopHead xs
  loop_end : {word : List ℕ} {line : ℕ} {first : Expr} {tested : NameUse} (front : List Token) (set : Token) (start : List Token) (mark : Token) (test : List Token)
      → xs ≡ front ++ (set ∷ (start ++ (mark ∷ test))) → IsLoopVariable front word line → IsSymbol (codes "=") set → IsWhole start first → IsSymbol (codes ";") mark
      → IsTested test tested → OpensLoopHead xs

-- The same in a statement, outside of the statements in it.
pub data OpensStatement (xs : List Token) : Type 0 where
  in_simple : OpensSimple xs → OpensStatement xs
  in_if_test : (t opened : Token) → xs ≡ t ∷ opened ∷ [] → IsKeyword (codes "if") t → IsOpen opened → OpensStatement xs
  in_while_test : (t opened : Token) → xs ≡ t ∷ opened ∷ [] → IsKeyword (codes "while") t → IsOpen opened → OpensStatement xs
  in_for_declaration : (t opened : Token) (front : List Token) → xs ≡ t ∷ opened ∷ front → IsKeyword (codes "for") t → IsOpen opened → OpensDeclaration front → OpensStatement xs
  in_for_first : (t opened : Token) (front : List Token) → xs ≡ t ∷ opened ∷ front → IsKeyword (codes "for") t → IsOpen opened → OpensSimple front → OpensStatement xs
  in_for_test : {first : Option Stmt} (t opened : Token) (start : List Token) (mark : Token)
      → xs ≡ t ∷ opened ∷ (start ++ (mark ∷ [])) → IsKeyword (codes "for") t → IsOpen opened → IsForFirst start first → IsSymbol (codes ";") mark → OpensStatement xs
  in_for_last : {first : Option Stmt} {test : Option Expr} (t opened : Token) (start : List Token) (mark : Token) (middle : List Token) (other : Token) (front : List Token)
      → xs ≡ t ∷ opened ∷ (start ++ (mark ∷ (middle ++ (other ∷ front)))) → IsKeyword (codes "for") t → IsOpen opened → IsForFirst start first → IsSymbol (codes ";") mark
      → IsMaybeWhole middle test → IsSymbol (codes ";") other → OpensSimple front → OpensStatement xs
  in_return : (t : Token) → xs ≡ t ∷ [] → IsKeyword (codes "return") t → OpensStatement xs
  in_print : {values : List Expr} (t opened string : Token) (bytes : List ℕ) (inner : List Token) (comma : Token)
      → xs ≡ t ∷ opened ∷ string ∷ (inner ++ (comma ∷ [])) → IsKeyword (codes "printf") t → IsOpen opened → string.what ≡ kinds.Text bytes
      → IsPrinted inner values → IsComma comma → OpensStatement xs
  in_pragma : OpensPragma xs → OpensStatement xs
  in_loop_head : {mark : TaskMark} (front back : List Token) → xs ≡ front ++ back → IsPragma front (directive.TaskLoop mark) → OpensLoopHead back → OpensStatement xs

-- The tokens are what stands in a block: a declaration with its `;`, or a statement.
pub data IsOneItem (ts : List Token) (s : Stmt) : Type 0 where
  declared_item : (front : List Token) (mark : Token) → ts ≡ front ++ (mark ∷ []) → IsSymbol (codes ";") mark → IsDeclaration front s → IsOneItem ts s
  stated_item : IsAnyStmt ts s → IsOneItem ts s

-- Behind these tokens of a statement in which so many levels may begin, its own with them, the next token passes a limit: no level
-- is left and it begins a statement; or an expression passes one there, as `Excess` tells; or a statement inside does, in which one level less may begin.
-- Checked on `{ { ;` with two levels: behind `{ {` the token `;` passes the limit, since it would begin a third.
mutual
  pub data IsStatementExcess (Excess : List Token → Token → Type 0) : ℕ → List Token → Token → Type 0 where
    no_level : {xs : List Token} {t : Token} → xs ≡ [] → Viable IsAnyStmt (t ∷ []) → IsStatementExcess Excess 0 xs t
    in_expression : {n : ℕ} {xs : List Token} {t : Token} → IsExcessBehind OpensStatement Excess xs t → IsStatementExcess Excess (suc n) xs t
    in_block : {n : ℕ} {xs : List Token} {t : Token} (opened : Token) (front : List Token)
        → xs ≡ opened ∷ front → IsSymbol (codes "{") opened → IsItemsExcess Excess n front t → IsStatementExcess Excess (suc n) xs t
    under_if : {n : ℕ} {xs : List Token} {t : Token} {test : Expr} (word opened : Token) (inner : List Token) (closed : Token) (front : List Token)
        → xs ≡ word ∷ opened ∷ (inner ++ (closed ∷ front)) → IsKeyword (codes "if") word → IsOpen opened → IsWhole inner test → IsClose closed
        → IsStatementExcess Excess n front t → IsStatementExcess Excess (suc n) xs t
    under_else : {n : ℕ} {xs : List Token} {t : Token} {test : Expr} {s : Stmt} (word opened : Token) (inner : List Token) (closed : Token) (middle : List Token) (other : Token) (front : List Token)
        → xs ≡ word ∷ opened ∷ (inner ++ (closed ∷ (middle ++ (other ∷ front)))) → IsKeyword (codes "if") word → IsOpen opened → IsWhole inner test → IsClose closed
        → IsStmt false middle s → IsKeyword (codes "else") other → IsStatementExcess Excess n front t → IsStatementExcess Excess (suc n) xs t
    under_while : {n : ℕ} {xs : List Token} {t : Token} {test : Expr} (word opened : Token) (inner : List Token) (closed : Token) (front : List Token)
        → xs ≡ word ∷ opened ∷ (inner ++ (closed ∷ front)) → IsKeyword (codes "while") word → IsOpen opened → IsWhole inner test → IsClose closed
        → IsStatementExcess Excess n front t → IsStatementExcess Excess (suc n) xs t
    under_for : {n : ℕ} {xs : List Token} {t : Token} {first : Option Stmt} {test : Option Expr} {last : Option Stmt} (word opened : Token) (start : List Token) (mark : Token) (middle : List Token) (other : Token)
        (end : List Token) (closed : Token) (front : List Token)
        → xs ≡ word ∷ opened ∷ (start ++ (mark ∷ (middle ++ (other ∷ (end ++ (closed ∷ front)))))) → IsKeyword (codes "for") word → IsOpen opened
        → IsForFirst start first → IsSymbol (codes ";") mark → IsMaybeWhole middle test → IsSymbol (codes ";") other → IsMaybeSimple end last → IsClose closed
        → IsStatementExcess Excess n front t → IsStatementExcess Excess (suc n) xs t
    under_task : {n : ℕ} {xs : List Token} {t : Token} {mark : TaskMark} (front back : List Token)
        → xs ≡ front ++ back → IsPragma front (directive.Task mark) → IsStatementExcess Excess n back t → IsStatementExcess Excess (suc n) xs t
    under_task_loop : {n : ℕ} {xs : List Token} {t : Token} {mark : TaskMark} {head : LoopHead} (front middle back : List Token)
        → xs ≡ front ++ (middle ++ back) → IsPragma front (directive.TaskLoop mark) → IsLoopHead mark middle head → IsStatementExcess Excess n back t
        → IsStatementExcess Excess (suc n) xs t

  -- the same of one thing in a block
  pub data IsItemExcess (Excess : List Token → Token → Type 0) : ℕ → List Token → Token → Type 0 where
    no_item_level : {xs : List Token} {t : Token} → xs ≡ [] → Viable IsOneItem (t ∷ []) → IsItemExcess Excess 0 xs t
    in_declaration : {n : ℕ} {xs : List Token} {t : Token} → IsExcessBehind OpensDeclaration Excess xs t → IsItemExcess Excess (suc n) xs t
    in_statement : {n : ℕ} {xs : List Token} {t : Token} → IsStatementExcess Excess (suc n) xs t → IsItemExcess Excess (suc n) xs t

  -- the same of what stands in a block: of its first thing, or of one behind others
  pub data IsItemsExcess (Excess : List Token → Token → Type 0) : ℕ → List Token → Token → Type 0 where
    first_item : {n : ℕ} {xs : List Token} {t : Token} → IsItemExcess Excess n xs t → IsItemsExcess Excess n xs t
    later_item : {n : ℕ} {xs : List Token} {t : Token} {s : Stmt} (front back : List Token)
        → xs ≡ front ++ back → IsOneItem front s → IsItemsExcess Excess n back t → IsItemsExcess Excess n xs t

-- Behind these tokens of the pragma of a task a whole expression begins.
pub data OpensMark (xs : List Token) : Type 0 where
  in_mark : {found : List Clause} (start word : Token) (front back : List Token)
      → xs ≡ start ∷ word ∷ (front ++ back) → start.what ≡ kinds.PragmaOss → IsWord (codes "task") word
      → IsClauses front found → HasEachOnce found → HasNoGrain found → AfterComma (OpensClause found) back
      → OpensMark xs

-- Behind these tokens of a program the next token passes a limit: in the pragma before a function, in a function's block, whose
-- statements have 64 levels, or in an item behind others.
pub data IsProgramExcess : List Token → Token → Type 0 where
  in_marked : {xs : List Token} {t : Token} → IsExcessBehind OpensMark IsExpressionExcess xs t → IsProgramExcess xs t
  in_body : {xs : List Token} {t : Token} {mark : Option TaskMark} {result : Kind} {params : List Local}
      (marked front : List Token) (name : Token) (word : List ℕ) (opened : Token) (inner : List Token) (closed begins : Token) (within : List Token)
      → xs ≡ marked ++ (front ++ (name ∷ opened ∷ (inner ++ (closed ∷ begins ∷ within))))
      → IsMark marked mark → IsResult front result → name.what ≡ kinds.Name word → IsOpen opened → IsParameters inner params → IsClose closed
      → IsSymbol (codes "{") begins → IsItemsExcess IsExpressionExcess most_levels within t → IsProgramExcess xs t
  in_later_item : {xs : List Token} {t : Token} {found : List Item} (front back : List Token)
      → xs ≡ front ++ back → IsItem front found → IsProgramExcess back t → IsProgramExcess xs t
