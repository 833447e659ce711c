-- Where a text passes a limit: it nests too deeply, or one expression has too many operators (C11 5.2.4.1 gives each translator
-- limits of its own). A whole expression has level 1; one in brackets, in an index, in an argument or under a prefix operator has
-- one more than what holds it. What is told here is told of a beginning of a text and the token behind it.
-- Read against: in `-(a)` the whole expression begins at `-` with level 1, `(a)` at `(` with level 2, `a` with level 3.
use Rattle.std.specs.Prelude.{◌≡◌, ℕ, suc, Bool, true, ◌||◌, List, [], ◌∷◌, ◌++◌, codes, Option, Some, is_some}
use Rattle.std.specs.List.{count_by}
use Rattle.oss_syntax.specs.declared.access.Mode.{Mode}
use Rattle.oss_syntax.specs.declared.access.Op.{Op}
use Rattle.oss_syntax.specs.declared.token.Token.{Token}
use Rattle.oss_syntax.specs.declared.token.TokenKind.TheVariants as kinds
use Rattle.oss_syntax.specs.declared.tree.expr.BinOp.{BinOp}
use Rattle.oss_syntax.specs.declared.tree.expr.Expr.{Expr}
use Rattle.oss_syntax.specs.declared.tree.expr.UnOp.{UnOp}
use Rattle.oss_syntax.specs.declared.tree.pragma.Clause.{Clause}
use Rattle.oss_syntax.specs.declared.tree.pragma.Inner.{Inner}
use Rattle.oss_syntax.specs.declared.tree.pragma.Section.{Section}
use Rattle.oss_grammar.specs.Expressions.{IsExpr, IsIndexed, IsArgumentList, IsWhole, primary_level, postfix_level, prefix_level, loosest_level, prefix_of, operator_of}
use Rattle.oss_grammar.specs.Fronts.{Viable}
use Rattle.oss_grammar.specs.OneToken.{IsSymbol, IsKeyword, IsWord, IsOpen, IsIndexOpen, IsIndexClose, IsComma}
use Rattle.oss_grammar.specs.Pragmas.{IsBound, IsInner, IsIndices, IsSection, IsDepend, IsClauses, IsMoreDepends, HasEachOnce, HasNoGrain, is_single, access_of, reduction_of, fold_of}
use Rattle.oss_grammar.specs.Pragmas.Single.{once_if, once_final, once_priority, once_grain}

-- A thing has at most 64 levels, and a whole expression at most 256 operators.
abbrev pub most_levels : ℕ
most_levels = 64

-- `1` and 256 times `+ 1` has as many operators as it may.
abbrev pub most_operators : ℕ
most_operators = 256

-- In an expression that holds together as tightly as this level of the grammar tells, and that begins with the tokens, the next
-- token begins a part so many levels further in. Each way into brackets of both kinds, into an argument or under a prefix is one
-- level; the sides of a binary operator have no level of their own.
-- Checked on `- (a + b)[i]`: behind `-` the token `(` begins a part 1 further in; behind `- (` so does `a` by 2; behind `- (a +`
-- the token `b` begins one 2 further in too, as a side of `+`; behind `- (a + b)[` the token `i` begins one by 2, and so does a token
-- behind `- m[i][`.
pub data Begins : ℕ → ℕ → List Token → Token → Type 0 where
  at_once : {k : ℕ} {xs : List Token} {t : Token} → xs ≡ [] → Viable (IsExpr k) (t ∷ []) → Begins k 0 xs t
  in_brackets : {n : ℕ} {xs : List Token} {t : Token} (opened : Token) (front : List Token)
      → xs ≡ opened ∷ front → IsOpen opened → Begins loosest_level n front t → Begins primary_level (suc n) xs t
  in_first_argument : {n : ℕ} {xs : List Token} {t : Token} (name opened : Token) (word : List ℕ) (front : List Token)
      → xs ≡ name ∷ opened ∷ front → name.what ≡ kinds.Name word → IsOpen opened → Begins loosest_level n front t
      → Begins primary_level (suc n) xs t
  in_later_argument : {n : ℕ} {xs : List Token} {t : Token} {values : List Expr} (name opened : Token) (word : List ℕ) (before : List Token) (comma : Token) (front : List Token)
      → xs ≡ name ∷ opened ∷ (before ++ (comma ∷ front)) → name.what ≡ kinds.Name word → IsOpen opened
      → IsArgumentList before values → IsComma comma → Begins loosest_level n front t
      → Begins primary_level (suc n) xs t
  in_index : {n : ℕ} {xs : List Token} {t : Token} {base : Expr} (before : List Token) (opened : Token) (front : List Token)
      → xs ≡ before ++ (opened ∷ front) → IsExpr primary_level before base → IsIndexOpen opened → Begins loosest_level n front t
      → Begins postfix_level (suc n) xs t
  in_second_index : {n : ℕ} {xs : List Token} {t : Token} {base : Expr} (before : List Token) (opened : Token) (front : List Token)
      → xs ≡ before ++ (opened ∷ front) → IsIndexed before base → IsIndexOpen opened → Begins loosest_level n front t
      → Begins postfix_level (suc n) xs t
  under_prefix : {n : ℕ} {xs : List Token} {t : Token} (p : Token) (sign : UnOp) (front : List Token)
      → xs ≡ p ∷ front → prefix_of p.what ≡ Some sign → Begins prefix_level n front t
      → Begins prefix_level (suc n) xs t
  on_the_right : {k n : ℕ} {xs : List Token} {t : Token} {left : Expr} (before : List Token) (o : Token) (operator : BinOp) (front : List Token)
      → xs ≡ before ++ (o ∷ front) → operator_of o.what ≡ Some (suc k, operator) → IsExpr (suc k) before left → Begins k n front t
      → Begins (suc k) n xs t
  in_tighter : {k n : ℕ} {xs : List Token} {t : Token} → Begins k n xs t → Begins (suc k) n xs t

-- A token is an operator of an expression in which it stands: the prefixes are, and the binary ones.
abbrev pub is_operator : Token → Bool
is_operator t = is_some (prefix_of t.what) || is_some (operator_of t.what)

-- Behind these tokens of a whole expression the next token passes a limit: it begins a part of level 65, which is 64 levels further
-- in than the whole; or it is the 257th operator.
-- Checked on 64 times `-` and then `1`: `1` begins level 65. And on `1` and 257 times `+ 1`, at the last `+`.
pub data IsExpressionExcess (xs : List Token) (t : Token) : Type 0 where
  too_deep : Begins loosest_level most_levels xs t → IsExpressionExcess xs t
  too_long : count_by is_operator xs ≡ most_operators → is_operator t ≡ true → Viable IsWhole (xs ++ (t ∷ [])) → IsExpressionExcess xs t

-- Behind these tokens, which stand between the brackets behind the base of a section, a whole expression begins: at once, behind
-- `l;`, and behind `l:` or `:`. Checked on `2;`, behind which the count begins.
pub data OpensInner (xs : List Token) : Type 0 where
  inner_first : xs ≡ [] → OpensInner xs
  inner_count : {first : Expr} (front : List Token) (mark : Token)
      → xs ≡ front ++ (mark ∷ []) → IsSymbol (codes ";") mark → IsWhole front first → OpensInner xs
  inner_last : {first : Option Expr} (front : List Token) (mark : Token)
      → xs ≡ front ++ (mark ∷ []) → IsSymbol (codes ":") mark → IsBound front first → OpensInner xs

-- The same in the indices of a multidependency: behind `[`, and behind `[e][`.
pub data OpensIndices (xs : List Token) : Type 0 where
  first_index : (opened : Token) → xs ≡ opened ∷ [] → IsIndexOpen opened → OpensIndices xs
  second_index : {e : Expr} (opened : Token) (first : List Token) (closed again : Token)
      → xs ≡ opened ∷ (first ++ (closed ∷ again ∷ [])) → IsIndexOpen opened → IsWhole first e → IsIndexClose closed → IsIndexOpen again → OpensIndices xs

-- The same in its turns: behind `k =`, and behind `k = l;`.
pub data OpensTurns (xs : List Token) : Type 0 where
  turns_first : (t set : Token) (word : List ℕ) → xs ≡ t ∷ set ∷ [] → t.what ≡ kinds.Name word → IsSymbol (codes "=") set → OpensTurns xs
  turns_count : {first : Expr} (t set : Token) (word : List ℕ) (front : List Token) (mark : Token)
      → xs ≡ t ∷ set ∷ (front ++ (mark ∷ [])) → t.what ≡ kinds.Name word → IsSymbol (codes "=") set → IsWhole front first → IsSymbol (codes ";") mark → OpensTurns xs

-- The same in a section: behind `[`, behind `p[`, and behind `m[1:][`.
pub data OpensSection (xs : List Token) : Type 0 where
  section_shape : (opened : Token) → xs ≡ opened ∷ [] → IsIndexOpen opened → OpensSection xs
  section_part : (t : Token) (base : List ℕ) (opened : Token) (inner : List Token)
      → xs ≡ t ∷ opened ∷ inner → t.what ≡ kinds.Name base → IsIndexOpen opened → OpensInner inner → OpensSection xs
  section_columns : {rows : Inner} (t : Token) (base : List ℕ) (opened : Token) (first : List Token) (closed again : Token) (inner : List Token)
      → xs ≡ t ∷ opened ∷ (first ++ (closed ∷ again ∷ inner)) → t.what ≡ kinds.Name base → IsIndexOpen opened → IsInner first rows → IsIndexClose closed
      → IsIndexOpen again → OpensInner inner → OpensSection xs
  section_indices : (opened t : Token) (base : List ℕ) (indices : List Token)
      → xs ≡ opened ∷ t ∷ indices → IsSymbol (codes "{") opened → t.what ≡ kinds.Name base → OpensIndices indices → OpensSection xs
  section_turns : {e : Expr} {f : Option Expr} (opened t : Token) (base : List ℕ) (indices : List Token) (comma : Token) (counted : List Token)
      → xs ≡ opened ∷ t ∷ (indices ++ (comma ∷ counted)) → IsSymbol (codes "{") opened → t.what ≡ kinds.Name base → IsIndices indices e f → IsComma comma
      → OpensTurns counted → OpensSection xs

-- The same in a list of sections: in the first, or in one behind a comma.
pub data OpensSections : List Token → Type 0 where
  sections_first : {xs : List Token} → OpensSection xs → OpensSections xs
  sections_later : {xs : List Token} {s : Section} (front : List Token) (comma : Token) (back : List Token)
      → xs ≡ front ++ (comma ∷ back) → IsSection front s → IsComma comma → OpensSections back → OpensSections xs

-- The same in a dependency: in its sections.
pub data OpensDepend (xs : List Token) : Type 0 where
  depend_sections : (t opened : Token) (mode : Mode) (strong fresh : Bool) (inner : List Token)
      → xs ≡ t ∷ opened ∷ inner → access_of t.what ≡ Some (mode, strong, fresh) → IsOpen opened → OpensSections inner → OpensDepend xs

-- The same in a clause of a task, behind the clauses that were there: in its sections, or behind the bracket of a clause with an
-- expression, of whose kind none was there.
pub data OpensClause (found : List Clause) (xs : List Token) : Type 0 where
  clause_dependency : OpensDepend xs → OpensClause found xs
  clause_reduction : (t opened o colon : Token) (strong : Bool) (operator : Op) (inner : List Token)
      → xs ≡ t ∷ opened ∷ o ∷ colon ∷ inner
      → reduction_of t.what ≡ Some strong → IsOpen opened → fold_of o.what ≡ Some operator → IsSymbol (codes ":") colon
      → OpensSections inner → OpensClause found xs
  clause_condition : (t opened : Token) → xs ≡ t ∷ opened ∷ [] → IsKeyword (codes "if") t → IsOpen opened
      → count_by (is_single once_if) found ≡ 0 → OpensClause found xs
  clause_final : (t opened : Token) → xs ≡ t ∷ opened ∷ [] → IsWord (codes "final") t → IsOpen opened
      → count_by (is_single once_final) found ≡ 0 → OpensClause found xs
  clause_priority : (t opened : Token) → xs ≡ t ∷ opened ∷ [] → IsWord (codes "priority") t → IsOpen opened
      → count_by (is_single once_priority) found ≡ 0 → OpensClause found xs

-- The same in a clause of a task loop, which may be its grainsize too.
pub data OpensLoopClause (found : List Clause) (xs : List Token) : Type 0 where
  task_clause : OpensClause found xs → OpensLoopClause found xs
  clause_grain : (t opened : Token) → xs ≡ t ∷ opened ∷ [] → IsWord (codes "grainsize") t → IsOpen opened
      → count_by (is_single once_grain) found ≡ 0 → OpensLoopClause found xs

-- The same behind a comma, or without one.
pub data AfterComma (Opens : List Token → Type 0) (xs : List Token) : Type 0 where
  with_comma : (comma : Token) (back : List Token) → xs ≡ comma ∷ back → IsComma comma → Opens back → AfterComma Opens xs
  without_comma : Opens xs → AfterComma Opens xs

-- The same in a pragma: in a clause of a task behind others, in the sections of `taskwait on`, and in a dependency of `release`.
-- Checked on `task in(x) if(`, behind which a whole expression begins; it does not behind `task if(1) if(`.
pub data OpensPragma (xs : List Token) : Type 0 where
  in_task : {found : List Clause} (start word : Token) (front back : List Token)
      → xs ≡ start ∷ word ∷ (front ++ back) → start.what ≡ kinds.PragmaOss → IsWord (codes "task") word
      → IsClauses front found → HasEachOnce found → HasNoGrain found → AfterComma (OpensClause found) back
      → OpensPragma xs
  in_task_loop : {found : List Clause} (start word : Token) (front back : List Token)
      → xs ≡ start ∷ word ∷ (front ++ back) → start.what ≡ kinds.PragmaOss → IsWord (codes "taskloop") word
      → IsClauses front found → HasEachOnce found → AfterComma (OpensLoopClause found) back
      → OpensPragma xs
  in_wait : (start word on opened : Token) (inner : List Token)
      → xs ≡ start ∷ word ∷ on ∷ opened ∷ inner
      → start.what ≡ kinds.PragmaOss → IsWord (codes "taskwait") word → IsWord (codes "on") on → IsOpen opened
      → OpensSections inner → OpensPragma xs
  in_release : (start word : Token) (inner : List Token)
      → xs ≡ start ∷ word ∷ inner → start.what ≡ kinds.PragmaOss → IsWord (codes "release") word
      → OpensDepend inner → OpensPragma xs
  in_more_release : {c : Clause} {more : List Clause} (start word : Token) (front between back : List Token)
      → xs ≡ start ∷ word ∷ (front ++ (between ++ back)) → start.what ≡ kinds.PragmaOss → IsWord (codes "release") word
      → IsDepend front c → IsMoreDepends between more → AfterComma OpensDepend back
      → OpensPragma xs

-- A limit is passed in a whole expression that begins behind tokens of which `Opens` tells that one does; `Excess` tells where one
-- is passed in a whole expression.
pub record IsExcessBehind (Opens : List Token → Type 0) (Excess : List Token → Token → Type 0) (xs : List Token) (t : Token) : Type 0 where
  pub front : List Token
  pub inner : List Token
  pub split : xs ≡ front ++ inner
  pub opens : Opens front
  pub excess : Excess inner t

-- Behind these tokens of a pragma the next token passes a limit, in one of its whole expressions.
abbrev pub IsPragmaExcess : List Token → Token → Type 0
IsPragmaExcess = IsExcessBehind OpensPragma IsExpressionExcess
