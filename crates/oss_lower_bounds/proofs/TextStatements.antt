-- Statements of a text have no more than four times as much size as tokens.
use Rattle.std.proofs.Common.{◌≡◌, ℕ, ◌+◌, ◌*◌, ◌≤◌, Bool, false, List, [], ◌∷◌, ◌++◌, length, map, Option, Some, None, option_map, arith, length-append}
use Rattle.oss_syntax.specs.declared.token.Token.{Token}
use Rattle.oss_syntax.specs.declared.tree.expr.Expr.{Expr}
use Rattle.oss_syntax.specs.declared.tree.expr.UnOp.TheVariants as prefix
use Rattle.oss_syntax.specs.declared.tree.pragma.TaskMark.{TaskMark}
use Rattle.oss_syntax.specs.declared.tree.program.Kind.{Kind}
use Rattle.oss_syntax.specs.declared.tree.program.Local.{Local}
use Rattle.oss_syntax.specs.declared.tree.program.NumKind.{NumKind}
use Rattle.oss_syntax.specs.declared.tree.stmt.LoopHead.{LoopHead}
use Rattle.oss_syntax.specs.declared.tree.stmt.NameUse.{NameUse}
use Rattle.oss_syntax.specs.declared.tree.stmt.Stmt.{Stmt}
use Rattle.oss_syntax.specs.declared.tree.expr.ExprKind.TheVariants as exprs
use Rattle.oss_grammar.specs.SimpleStatements.{IsDeclaration, IsDeclared, IsLocal, IsLocals, IsNumKind, IsSimple, IsTarget, element_of, one_at}
use Rattle.oss_grammar.specs.SimpleStatements.IsDeclaration.{declaration}
use Rattle.oss_grammar.specs.SimpleStatements.IsDeclared.{number_declared, pointer_declared}
use Rattle.oss_grammar.specs.SimpleStatements.IsLocal.{first_local, plain_local}
use Rattle.oss_grammar.specs.SimpleStatements.IsLocals.{last_local, next_local}
use Rattle.oss_grammar.specs.SimpleStatements.IsNumKind.{int_kind, long_kind, unsigned_kind}
use Rattle.oss_grammar.specs.SimpleStatements.IsSimple.{assigned, called, step_first, stepped}
use Rattle.oss_grammar.specs.SimpleStatements.IsTarget.{element_target, grid_target, name_target, pointed_target, pointer_target}
use Rattle.oss_grammar.specs.Statements.{IsForFirst, IsItems, IsLoopHead, IsLoopVariable, IsMaybeSimple, IsMaybeWhole, IsPrinted, IsStepped, IsStmt, IsTested}
use Rattle.oss_grammar.specs.Statements.IsForFirst.{declared_first, other_first}
use Rattle.oss_grammar.specs.Statements.IsItems.{declaration_item, no_item, statement_item}
use Rattle.oss_grammar.specs.Statements.IsLoopHead.{loop_head}
use Rattle.oss_grammar.specs.Statements.IsLoopVariable.{loop_variable}
use Rattle.oss_grammar.specs.Statements.IsMaybeSimple.{no_simple, some_simple}
use Rattle.oss_grammar.specs.Statements.IsMaybeWhole.{no_expression, some_expression}
use Rattle.oss_grammar.specs.Statements.IsPrinted.{nothing_printed, values_printed}
use Rattle.oss_grammar.specs.Statements.IsStepped.{stepped as stepped_by}
use Rattle.oss_grammar.specs.Statements.IsStmt.{block, break_jump, continue_jump, empty, for_loop, if_alone, if_else, print, release, return_jump, simple, task, task_loop, task_wait, while_loop}
use Rattle.oss_grammar.specs.Statements.IsTested.{tested}
use Rattle.oss_lower_bounds.specs.Sizes.{body_size, clauses_size, expr_size, if_any, locals_size, optional_size, stmt_size, total}
use Rattle.oss_lower_bounds.proofs.SizeForms.{size-assign, size-block, size-break, size-call, size-continue, size-declare, size-empty, size-for, size-if, size-index, size-name, size-number, size-print, size-release, size-return, size-task, size-task_loop, size-unary, size-wait, size-while}
use Rattle.oss_lower_bounds.proofs.TextExpressions.{arguments_few, closed_by, expr_few, list_few, pragma_few, tokens}

-- Assignments, calls and declarations

-- the name of a target
abbrev named : Token → List ℕ → Expr
named t word = record { what = exprs.Name word; line = t.line }

target_few : {ts : List Token} {e : Expr} → IsTarget ts e → expr_size e ≤ length ts
target_few (name_target t word split is) = omega (arith, tokens split, size-name t.line word)
target_few (element_target {at = e} t word opened inner closed split is1 is2 is3 d) =
    omega (arith, tokens split, closed_by inner closed, size-index t.line (named t word) e, size-name t.line word, expr_few d)
target_few (grid_target {row = e} {column = f} t word opened first closed again second ended split is1 is2 is3 is4 is5 d g) =
    omega (
      arith,
      tokens split,
      length-append first (closed ∷ again ∷ (second ++ (ended ∷ []))),
      closed_by second ended,
      size-index t.line (element_of (named t word) e) f,
      size-index t.line (named t word) e,
      size-name t.line word,
      expr_few d,
      expr_few g,
    )
target_few (pointer_target star t word split is1 is2) = omega (arith, tokens split, size-unary star.line prefix.Deref (named t word), size-name t.line word)
target_few (pointed_target {e = e} star opened inner closed split is1 is2 is3 d) = omega (arith, tokens split, closed_by inner closed, size-unary star.line prefix.Deref e, expr_few d)

-- a step is an assignment of the number 1, which is no token
pub simple_few : {ts : List Token} {s : Stmt} → IsSimple ts s → stmt_size s ≤ 4 * length ts
simple_few (assigned {target = t} {value = e} front mark operator back split is d f) =
    omega (arith, tokens split, length-append front (mark ∷ back), size-assign t.line t operator e, target_few d, expr_few f)
simple_few (stepped {target = t} front mark operator split is d) =
    omega (arith, tokens split, length-append front (mark ∷ []), size-assign t.line t (Some operator) (one_at mark.line), size-number mark.line 1 false, target_few d)
simple_few (step_first {target = t} mark operator back split is d) =
    omega (arith, tokens split, size-assign mark.line t (Some operator) (one_at mark.line), size-number mark.line 1 false, target_few d)
simple_few (called {values = es} t opened word inner closed split is1 is2 is3 d) = omega (arith, tokens split, closed_by inner closed, size-call t.line word es, arguments_few d)

pub declared_some : {numbers : NumKind} {ts : List Token} {k : Kind} {word : List ℕ} {line : ℕ} → IsDeclared numbers ts k word line → 1 ≤ length ts
declared_some (number_declared t word split is) = omega (arith, tokens split)
declared_some (pointer_declared star t word split is1 is2) = omega (arith, tokens split)

pub numbers_some : {ts : List Token} {numbers : NumKind} → IsNumKind ts numbers → 1 ≤ length ts
numbers_some (int_kind t split is) = omega (arith, tokens split)
numbers_some (long_kind t split is) = omega (arith, tokens split)
numbers_some (unsigned_kind t u split is1 is2) = omega (arith, tokens split)

local_few : {numbers : NumKind} {ts : List Token} {l : Local} → IsLocal numbers ts l → 1 + optional_size l.first ≤ length ts
local_few (plain_local d) = omega (arith, declared_some d)
local_few (first_local front mark back split is d f) = omega (arith, tokens split, length-append front (mark ∷ back), expr_few f)

locals_few : {numbers : NumKind} {ts : List Token} {ls : List Local} → IsLocals numbers ts ls → locals_size ls ≤ length ts
locals_few (last_local d) = omega (arith, local_few d)
locals_few (next_local front comma back split is d rest) = omega (arith, tokens split, length-append front (comma ∷ back), local_few d, locals_few rest)

pub declaration_few : {ts : List Token} {s : Stmt} → IsDeclaration ts s → stmt_size s ≤ 4 * length ts
declaration_few {s = s} (declaration {locals = ls} front back split d f) = omega (arith, tokens split, length-append front back, size-declare s.line ls, numbers_some d, locals_few f)

-- Parts of statements

maybe_few : {ts : List Token} {o : Option Expr} → IsMaybeWhole ts o → optional_size o ≤ length ts
maybe_few (no_expression split) = omega arith
maybe_few (some_expression d) = expr_few d

last_few : {ts : List Token} {o : Option Stmt} → IsMaybeSimple ts o → if_any (option_map stmt_size o) ≤ 4 * length ts
last_few (no_simple split) = omega arith
last_few (some_simple d) = simple_few d

first_few : {ts : List Token} {o : Option Stmt} → IsForFirst ts o → if_any (option_map stmt_size o) ≤ 4 * length ts
first_few (declared_first d) = declaration_few d
first_few (other_first d) = last_few d

printed_few : {ts : List Token} {es : List Expr} → IsPrinted ts es → total (map expr_size es) ≤ length ts
printed_few (nothing_printed split) = omega arith
printed_few (values_printed comma back split is d) = omega (arith, tokens split, list_few d)

-- the head of a task loop has twelve tokens beside its expressions
variable_few : {ts : List Token} {word : List ℕ} {line : ℕ} → IsLoopVariable ts word line → length ts ≡ 4
variable_few (loop_variable t opened kind named word split is1 is2 is3 is4) = tokens split

tested_few : {ts : List Token} {named_so : NameUse} → IsTested ts named_so → length ts ≡ 2
tested_few (tested t less word split is1 is2) = tokens split

stepped_few : {ts : List Token} {named_so : NameUse} → IsStepped ts named_so → length ts ≡ 2
stepped_few (stepped_by t twice word split is1 is2) = tokens split

head_few : {mark : TaskMark} {ts : List Token} {head : LoopHead} → IsLoopHead mark ts head → 12 + (optional_size head.variable.first + expr_size head.end) ≤ length ts
head_few (loop_head front set start ended test limit other step closed split is1 is2 d is3 is4 f is5 is6 is7) =
    omega (
      arith,
      tokens split,
      length-append front (set ∷ (start ++ (ended ∷ (test ++ (limit ++ (other ∷ (step ++ closed ∷ []))))))),
      length-append start (ended ∷ (test ++ (limit ++ (other ∷ (step ++ closed ∷ []))))),
      length-append test (limit ++ (other ∷ (step ++ closed ∷ []))),
      length-append limit (other ∷ (step ++ closed ∷ [])),
      closed_by step closed,
      variable_few is1,
      tested_few is4,
      stepped_few is6,
      expr_few d,
      expr_few f,
    )

head_mark : {mark : TaskMark} {ts : List Token} {head : LoopHead} → IsLoopHead mark ts head → clauses_size head.mark.clauses ≡ clauses_size mark.clauses
head_mark (loop_head front set start ended test limit other step closed split is1 is2 d is3 is4 f is5 is6 is7) = omega arith

-- Statements

mutual
  pub stmt_few : {o : Bool} {ts : List Token} {s : Stmt} → IsStmt o ts s → stmt_size s ≤ 4 * length ts
  stmt_few (block {body = body} opened inner closed split is1 is2 d) = omega (arith, tokens split, closed_by inner closed, size-block opened.line body, items_few d)
  stmt_few (empty mark split is) = omega (arith, tokens split, size-empty mark.line)
  stmt_few (simple front mark split is d) = omega (arith, tokens split, length-append front (mark ∷ []), simple_few d)
  stmt_few (if_alone {test = e} {s = s} t opened inner closed back split is1 is2 is3 d f) =
      omega (arith, tokens split, length-append inner (closed ∷ back), size-if t.line e s None, expr_few d, stmt_few f)
  stmt_few (if_else {test = e} {s = s} {other = r} t opened inner closed front mark back split is1 is2 is3 is4 d f g) =
      omega (arith, tokens split, length-append inner (closed ∷ (front ++ (mark ∷ back))), length-append front (mark ∷ back), size-if t.line e s (Some r), expr_few d, stmt_few f, stmt_few g)
  stmt_few (while_loop {test = e} {s = s} t opened inner closed back split is1 is2 is3 d f) =
      omega (arith, tokens split, length-append inner (closed ∷ back), size-while t.line e s, expr_few d, stmt_few f)
  stmt_few (for_loop {first = first} {test = e} {last = last} {s = s} t opened start mark middle other end closed back split is1 is2 is3 is4 is5 d f g h) =
      omega (
        arith,
        tokens split,
        length-append start (mark ∷ (middle ++ (other ∷ (end ++ (closed ∷ back))))),
        length-append middle (other ∷ (end ++ (closed ∷ back))),
        length-append end (closed ∷ back),
        size-for t.line first e last s,
        first_few d,
        maybe_few f,
        last_few g,
        stmt_few h,
      )
  stmt_few (return_jump {value = e} t inner mark split is1 is2 d) = omega (arith, tokens split, closed_by inner mark, size-return t.line e, maybe_few d)
  stmt_few (break_jump t mark split is1 is2) = omega (arith, tokens split, size-break t.line)
  stmt_few (continue_jump t mark split is1 is2) = omega (arith, tokens split, size-continue t.line)
  stmt_few (print {values = es} t opened string bytes inner closed mark split is1 is2 is3 is4 is5 d) =
      omega (arith, tokens split, length-append inner (closed ∷ mark ∷ []), size-print t.line bytes es, printed_few d)
  stmt_few (task {mark = mark} {s = s} front back split d f) = omega (arith, tokens split, length-append front back, size-task mark.line mark s, pragma_few d, stmt_few f)
  stmt_few (task_loop {mark = mark} {head = head} {s = s} front middle back split d g f) =
      omega (arith, tokens split, length-append front (middle ++ back), length-append middle back, size-task_loop mark.line head s, pragma_few d, head_few g, head_mark g, stmt_few f)
  stmt_few {s = s} (task_wait {sections = sections} d) = omega (arith, size-wait s.line sections, pragma_few d)
  stmt_few {s = s} (release {clauses = clauses} d) = omega (arith, size-release s.line clauses, pragma_few d)

  pub items_few : {ts : List Token} {ss : List Stmt} → IsItems ts ss → body_size ss ≤ 4 * length ts
  items_few (no_item split) = omega arith
  items_few (declaration_item front mark back split is d rest) = omega (arith, tokens split, length-append front (mark ∷ back), declaration_few d, items_few rest)
  items_few (statement_item front back split d rest) = omega (arith, tokens split, length-append front back, stmt_few d, items_few rest)
