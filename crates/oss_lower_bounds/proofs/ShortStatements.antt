-- The instructions of a statement are at most sixteen for each of its parts, and none of them stands behind more values than it has parts.
use Rattle.std.proofs.Common.{ℕ, ◌+◌, ◌*◌, ◌≤◌, List, [], ◌∷◌, ◌++◌, length, map, Option, Some, None, arith}
use Rattle.oss_syntax.specs.declared.access.Op.{Op}
use Rattle.oss_syntax.specs.declared.tree.expr.BinOp.{BinOp}
use Rattle.oss_syntax.specs.declared.tree.expr.Expr.{Expr}
use Rattle.oss_syntax.specs.declared.tree.pragma.Clause.{Clause}
use Rattle.oss_syntax.specs.declared.tree.pragma.Section.{Section}
use Rattle.oss_syntax.specs.declared.tree.program.Item.{Item}
use Rattle.oss_syntax.specs.declared.tree.program.Kind.{Kind}
use Rattle.oss_syntax.specs.declared.tree.program.Local.{Local}
use Rattle.oss_syntax.specs.declared.tree.program.NumKind.{NumKind}
use Rattle.oss_syntax.specs.declared.tree.stmt.Stmt.{Stmt}
use Rattle.oss_syntax.specs.declared.tree.stmt.StmtKind.TheOpen.{StmtKind-F}
use Rattle.oss_syntax.specs.declared.tree.stmt.StmtKind.TheOpen as open_stmt
use Rattle.oss_grammar.specs.Formats.{pieces_of}
use Rattle.oss_meaning.specs.declared.names.Target.{Target}
use Rattle.oss_meaning.specs.declared.names.Target.TheVariants as target
use Rattle.oss_meaning.specs.Clauses.{waited_for}
use Rattle.oss_meaning.specs.Names.{item_found}
use Rattle.oss_meaning.specs.Statements.{folded_by}
use Rattle.oss_code.specs.declared.instr.Instr.TheVariants as i
use Rattle.oss_lower_laws.specs.declared.lined.Lined.{Lined}
use Rattle.oss_lower_laws.specs.ExpressionCode.{ExprCode, expr_code, one, operator_by}
use Rattle.oss_lower_laws.specs.StatementCode.{Codes, Spot, StmtCode, assigned_code, assignment_code, behind, call_done_code, cell_assigned_code, cell_changed_code, choice_codes, codes_in_order, declared_code, enclosed_code, enclosed_spot, end_code, end_length, first_code, first_instr, for_codes, given_code, in_scope, last_spot, local_assigned_code, loop_body, loop_code, loop_last, loop_spot, no_code, other_spot, part_code, pieces_in, print_code, release_code, returned_code, side_spot, stmt_code, stmt_code_step, stmt_codes, task_codes, test_code, ticked_code, wait_code}
use Rattle.oss_lower_laws.proofs.ExpressionFolds.{Pair}
use Rattle.oss_lower_laws.proofs.StatementFolds as folds
use Rattle.oss_lower_laws.proofs.StatementFolds.{AtLines, Keeps}
use Rattle.oss_lower_bounds.specs.Sizes.{body_size, clauses_size, expr_size, locals_size, loop_size, optional_size, sections_size, stmt_counts, stmt_size, total, waits_size}
use Rattle.oss_lower_bounds.proofs.ShortCode.{IsShortList, deeper, short_as, short_none, short_one, short_then}
use Rattle.oss_lower_bounds.proofs.ShortExpressions.{call_short, expr_short, expr_some, value_short, values_short}
use Rattle.oss_lower_bounds.proofs.ShortSections.{clauses_short, created_short, exprs_size, first_value, first_values, sections_short, values_few}

-- Instructions of statements, at each spot.
abbrev pub AreShortCodes : ℕ → ℕ → Codes → Type 0
AreShortCodes count most codes = (spot : Spot) → IsShortList count most (codes spot)

-- A statement of this size.
pub record IsShortStmt (c : StmtCode) (n : ℕ) : Type 0 where
  pub some : 1 ≤ n
  pub code : AreShortCodes (16 * n) n c.code

-- The end of a body

given_short : (line : ℕ) (result : Kind) (most : ℕ) → 1 ≤ most → IsShortList 2 most (given_code line result)
given_short line result most some = short_then (short_one line 1 most (i.Convert result) some) (short_one line 1 most i.Return some)

end_short : (line : ℕ) (result : Kind) (most : ℕ) → 1 ≤ most → IsShortList 3 most (end_code line result)
end_short line result most some = short_then (short_one line 0 most (i.Push 0) (omega arith)) (given_short line result most some)

-- a body of a function or of a task
pub enclosed_short : (line : ℕ) (result : Kind) (body : List Lined) (a most : ℕ) → 1 ≤ most → IsShortList a most body → IsShortList (a + 6) most (enclosed_code line result body)
enclosed_short line result body a most some h =
    short_as (3 + (a + 3)) (a + 6) most most (short_then (end_short line result most some) (short_then h (end_short line result most some))) (omega arith) (omega arith)

module _ (all : List Item) where
  abbrev Sized : Type 0
  Sized = Pair IsShortStmt

  abbrev code_in : Sized → StmtCode
  code_in p = p.left

  abbrev size_in : Sized → ℕ
  size_in p = p.right

  -- a tick first
  ticked : (line : ℕ) (codes : Codes) (a n : ℕ) → AreShortCodes a n codes → 1 + a ≤ 16 * n → AreShortCodes (16 * n) n (ticked_code line codes)
  ticked line codes a n h few spot = short_as (1 + a) (16 * n) n n (short_then (short_one line 0 n i.Tick (omega arith)) (h (behind 1 spot))) few (omega arith)

  in_order : (ps : List Sized) → AreShortCodes (16 * total (map size_in ps)) (total (map size_in ps)) (codes_in_order (map code_in ps))
  in_order [] spot = short_none 0
  in_order (p ∷ ps) spot =
      let rest = total (map size_in ps) in
      short_as (16 * p.right + 16 * rest) (16 * (p.right + rest)) (p.right + rest) (p.right + rest)
      (short_then (deeper (16 * p.right) p.right (p.right + rest) (p.related.code spot) (omega arith))
      (deeper (16 * rest) rest (p.right + rest) (in_order ps (in_scope (p.left.scope spot.scope) (behind (length (p.left.code spot)) spot))) (omega arith))) (omega arith) (omega arith)

  blocked : (line : ℕ) (ps : List Sized) → AreShortCodes (16 * (1 + total (map size_in ps))) (1 + total (map size_in ps)) (λ spot. codes_in_order (map code_in ps) spot ++ one line 0 (i.Keep (length spot.scope)))
  blocked line ps spot =
      let inside = total (map size_in ps) in
      short_as (16 * inside + 1) (16 * (1 + inside)) inside (1 + inside) (short_then (in_order ps spot) (short_one line 0 inside (i.Keep (length spot.scope)) (omega arith))) (omega arith) (omega arith)

  -- Declarations and assignments

  first_short : (scope : List Local) (k : Kind) (o : Option Expr) (line : ℕ) → IsShortList (1 + 16 * optional_size o) (optional_size o) (first_code all scope k o line)
  first_short scope k None line = short_one line 0 0 (first_instr k) (omega arith)
  first_short scope k (Some e) line = short_as (16 * expr_size e) (1 + 16 * expr_size e) (expr_size e) (expr_size e) (first_value all scope e line) (omega arith) (omega arith)

  declared_short : (line : ℕ) (ls scope : List Local) → IsShortList (16 * locals_size ls) (locals_size ls) (declared_code all line ls scope)
  declared_short line [] scope = short_none 0
  declared_short line (l ∷ ls) scope =
      let first = optional_size l.first in
      let rest = locals_size ls in
      let most = locals_size (l ∷ ls) in
      short_as (1 + 16 * first + (1 + 16 * rest)) (16 * most) most most
      (short_then (deeper (1 + 16 * first) first most (first_short scope l.kind l.first line) (omega arith))
      (short_then (short_one line 1 most (i.Bind l.kind) (omega arith)) (deeper (16 * rest) rest most (declared_short line ls (scope ++ l ∷ [])) (omega arith))))
      (omega arith) (omega arith)

  module _ (scope : List Local) (te e : Expr) (line : ℕ) where
    abbrev t : ExprCode
    t = expr_code all scope te

    abbrev r : ExprCode
    r = expr_code all scope e

    -- the size of the whole assignment
    abbrev most : ℕ
    most = 1 + (expr_size te + expr_size e)

    -- what both sides and five instructions more are
    abbrev count : ℕ
    count = 16 * expr_size te + (16 * expr_size e + 5)

    right : (depth : ℕ) → depth ≤ 1 → IsShortList (16 * expr_size e) most (r.value line depth)
    right depth le = deeper (16 * expr_size e) (depth + expr_size e) most (value_short all scope e line depth) (omega (arith, le, expr_some te))

    left : IsShortList (16 * expr_size te) most (t.place line 0)
    left = deeper (16 * expr_size te) (0 + expr_size te) most ((expr_short all scope te).place line 0) (omega arith)

    three : 3 ≤ most
    three = omega (arith, expr_some te, expr_some e)

    two : 2 ≤ most
    two = omega (arith, three)

    local_short : (o : Option BinOp) (slot : ℕ) (k : Kind) → IsShortList count most (local_assigned_code line t o r slot k)
    local_short None slot k = short_as (16 * expr_size e + 1) count most most (short_then (right 0 (omega arith)) (short_one line 1 most (i.SetLocal slot k) (omega arith))) (omega arith) (omega arith)
    local_short (Some o) slot k =
        short_as (1 + (16 * expr_size e + (1 + 1))) count most most
        (short_then (short_one line 0 most (i.Local slot) (omega arith)) (short_then (right 1 (omega arith))
        (short_then (short_one line 2 most (operator_by o t.typed.kind r.typed.kind) two) (short_one line 1 most (i.SetLocal slot k) (omega arith))))) (omega arith) (omega arith)

    changed_short : (f : Option Op) (o : BinOp) (k : NumKind) → IsShortList 5 most (cell_changed_code line f t o r k)
    changed_short (Some f) o k = short_as 1 5 most most (short_one line 2 most (i.Fold f) two) (omega arith) (omega arith)
    changed_short None o k =
        short_then (short_one line 2 most i.Under two) (short_then (short_one line 3 most i.Load three) (short_then (short_one line 3 most i.Swap three)
        (short_then (short_one line 3 most (operator_by o t.typed.kind r.typed.kind) three) (short_one line 2 most (i.Store k) two))))

    cell_short : (o : Option BinOp) (k : NumKind) → IsShortList count most (cell_assigned_code line t o r k)
    cell_short None k =
        short_as (16 * expr_size te + (16 * expr_size e + 1)) count most most (short_then left (short_then (right 1 (omega arith)) (short_one line 2 most (i.Store k) two))) (omega arith) (omega arith)
    cell_short (Some o) k = short_then left (short_then (right 1 (omega arith)) (changed_short (folded_by k o) o k))

    no_short : IsShortList count most []
    no_short = short_as 0 count most most (short_none most) (omega arith) (omega arith)

    assigned_short : (g : Target) (o : Option BinOp) → IsShortList count most (assigned_code line g t o r)
    assigned_short (target.Local slot k) o = local_short o slot k
    assigned_short (target.Cell k) o = cell_short o k
    assigned_short target.Nothing o = no_short
    assigned_short (target.Grid g k) o = no_short
    assigned_short (target.Row g k) o = no_short

  assignment_short : (line : ℕ) (t : Expr) (o : Option BinOp) (e : Expr) → AreShortCodes (16 * expr_size t + (16 * expr_size e + 5)) (1 + (expr_size t + expr_size e)) (assignment_code all line t o e)
  assignment_short line t o e spot = assigned_short spot.scope t e line (expr_code all spot.scope t).typed.target o

  -- Calls, prints and returns

  call_done_short : (line : ℕ) (name : List ℕ) (es : List Expr) → AreShortCodes (16 * exprs_size es + 2) (1 + exprs_size es) (call_done_code all line name es)
  call_done_short line name es spot =
      let most = 1 + exprs_size es in
      short_as (16 * exprs_size es + 1 + 1) (16 * exprs_size es + 2) most most
      (short_then (deeper (16 * exprs_size es + 1) (0 + most) most (call_short all (item_found all name) (map (expr_code all spot.scope) es) (exprs_size es) (values_short all spot.scope es) line 0) (omega arith))
      (short_one line 1 most i.Drop (omega arith))) (omega arith) (omega arith)

  print_short : (line : ℕ) (format : List ℕ) (es : List Expr) → AreShortCodes (16 * exprs_size es + 1) (1 + exprs_size es) (print_code all line format es)
  print_short line format es spot =
      deeper (16 * exprs_size es + 1) (exprs_size es) (1 + exprs_size es)
      (short_then (first_values all spot.scope es line) (short_one line (length es) (exprs_size es) (i.Print (pieces_in (pieces_of format)) (length es)) (values_few all es))) (omega arith)

  returned_short : (line : ℕ) (o : Option Expr) → AreShortCodes (16 * optional_size o + 3) (1 + optional_size o) (returned_code all line o)
  returned_short line None spot = short_then (short_one line 0 1 (i.Push 0) (omega arith)) (given_short line spot.result 1 (omega arith))
  returned_short line (Some e) spot =
      short_as (16 * expr_size e + 2) (16 * expr_size e + 3) (1 + expr_size e) (1 + expr_size e)
      (short_then (deeper (16 * expr_size e) (expr_size e) (1 + expr_size e) (first_value all spot.scope e line) (omega arith)) (given_short line spot.result (1 + expr_size e) (omega arith)))
      (omega arith) (omega arith)

  -- Choices

  abbrev code_part : Option Sized → Option StmtCode
  code_part None = None
  code_part (Some p) = Some p.left

  abbrev size_part : Option Sized → ℕ
  size_part None = 0
  size_part (Some p) = p.right

  part_short : (o : Option Sized) → AreShortCodes (16 * size_part o) (size_part o) (part_code (code_part o))
  part_short None spot = short_none 0
  part_short (Some p) spot = p.related.code spot

  choice_short : (line : ℕ) (e : Expr) (side : Sized) (other : Option Sized)
      → AreShortCodes (16 * expr_size e + (1 + (16 * side.right + (1 + 16 * size_part other)))) (1 + (expr_size e + (side.right + size_part other))) (choice_codes all line e side.left (code_part other))
  choice_short line e side other spot =
      let most = 1 + (expr_size e + (side.right + size_part other)) in
      short_then (deeper (16 * expr_size e) (expr_size e) most (first_value all spot.scope e line) (omega arith))
      (short_then (short_one line 1 most _ (omega arith))
      (short_then (deeper (16 * side.right) side.right most (side.related.code (side_spot all line e spot)) (omega arith))
      (short_then (short_one line 0 most _ (omega arith)) (deeper (16 * size_part other) (size_part other) most (part_short other (other_spot all line e side.left spot)) (omega arith)))))

  -- Loops

  tested_short : (o : Option Expr) (line : ℕ) (scope : List Local) (past : ℕ) → IsShortList (16 * optional_size o + 1) (1 + optional_size o) (test_code all o line scope past)
  tested_short None line scope past = short_as 0 1 1 1 (short_none 1) (omega arith) (omega arith)
  tested_short (Some e) line scope past =
      short_then (deeper (16 * expr_size e) (expr_size e) (1 + expr_size e) (first_value all scope e line) (omega arith)) (short_one line 1 (1 + expr_size e) (i.SkipUnless past) (omega arith))

  -- the pieces before the test
  pads_short : (line kept past past_body most : ℕ) → IsShortList 6 most (one line 0 (i.Skip 4) ++ (one line 0 (i.Keep kept) ++ (one line 0 (i.Skip past) ++ (one line 0 (i.Keep kept) ++ (one line 0 (i.Skip past_body) ++ one line 0 i.Tick)))))
  pads_short line kept past past_body most =
      short_then (short_one line 0 most (i.Skip 4) (omega arith)) (short_then (short_one line 0 most (i.Keep kept) (omega arith)) (short_then (short_one line 0 most (i.Skip past) (omega arith))
      (short_then (short_one line 0 most (i.Keep kept) (omega arith)) (short_then (short_one line 0 most (i.Skip past_body) (omega arith)) (short_one line 0 most i.Tick (omega arith))))))

  loop_short : (line : ℕ) (test : Option Expr) (last : Option Sized) (body : Sized)
      → AreShortCodes (6 + (16 * optional_size test + 1 + (16 * body.right + (16 * size_part last + 1)))) (1 + (optional_size test + (size_part last + body.right))) (loop_code all line test (code_part last) body.left)
  loop_short line test last body spot =
      let most = 1 + (optional_size test + (size_part last + body.right)) in
      let bodies = loop_body all line test body.left spot in
      let lasts = loop_last all line test (code_part last) body.left spot in
      short_then (pads_short line (length spot.scope) _ _ most)
      (short_then (deeper (16 * optional_size test + 1) (1 + optional_size test) most (tested_short test line spot.scope (1 + length bodies + length lasts)) (omega arith))
      (short_then (deeper (16 * body.right) body.right most (body.related.code _) (omega arith))
      (short_then (deeper (16 * size_part last) (size_part last) most (part_short last (last_spot all line test body.left spot)) (omega arith)) (short_one line 0 most _ (omega arith)))))

  for_short : (line : ℕ) (first : Option Sized) (test : Option Expr) (last : Option Sized) (body : Sized)
      → AreShortCodes (16 * (size_part first + (optional_size test + (size_part last + body.right))) + 9) (1 + (size_part first + (optional_size test + (size_part last + body.right)))) (for_codes all line (code_part first) test (code_part last) body.left)
  for_short line first test last body spot =
      let inside = optional_size test + (size_part last + body.right) in
      let most = 1 + (size_part first + inside) in
      let turning = 6 + (16 * optional_size test + 1 + (16 * body.right + (16 * size_part last + 1))) in
      short_as (16 * size_part first + (turning + 1)) (16 * (size_part first + inside) + 9) most most
      (short_then (deeper (16 * size_part first) (size_part first) most (part_short first spot) (omega arith))
      (short_then (deeper turning (1 + inside) most (loop_short line test last body (loop_spot (code_part first) spot)) (omega arith)) (short_one line 0 most (i.Keep (length spot.scope)) (omega arith))))
      (omega arith) (omega arith)

  -- Directives

  task_short : (line : ℕ) (clauses : List Clause) (body : Sized) → AreShortCodes (16 * (clauses_size clauses + body.right) + 9) (1 + (clauses_size clauses + body.right)) (task_codes all line clauses body.left)
  task_short line clauses body spot =
      let most = 1 + (clauses_size clauses + body.right) in
      let inside = body.left.code (enclosed_spot spot) in
      short_as (16 * clauses_size clauses + 2 + (1 + (16 * body.right + 6))) (16 * (clauses_size clauses + body.right) + 9) most most
      (short_then (deeper (16 * clauses_size clauses + 2) (clauses_size clauses) most (created_short all spot.scope (1 + end_length) clauses line) (omega arith))
      (short_then (short_one line 0 most (i.Skip (length (enclosed_code line spot.result inside))) (omega arith))
      (enclosed_short line spot.result inside (16 * body.right) most (omega arith) (deeper (16 * body.right) body.right most (body.related.code (enclosed_spot spot)) (omega arith)))))
      (omega arith) (omega arith)

  wait_short : (line : ℕ) (o : Option (List Section)) → AreShortCodes (16 * waits_size o + 1) (1 + waits_size o) (wait_code all line o)
  wait_short line None spot = short_one line 0 1 i.Wait (omega arith)
  wait_short line (Some sections) spot =
      deeper (16 * sections_size sections + 1) (sections_size sections) (1 + sections_size sections)
      (short_then (sections_short all spot.scope waited_for sections line) (short_one line 0 (sections_size sections) i.WaitOn (omega arith))) (omega arith)

  release_short : (line : ℕ) (cs : List Clause) → AreShortCodes (16 * clauses_size cs + 1) (1 + clauses_size cs) (release_code all line cs)
  release_short line cs spot =
      deeper (16 * clauses_size cs + 1) (clauses_size cs) (1 + clauses_size cs) (short_then (clauses_short all spot.scope cs line) (short_one line 0 (clauses_size cs) i.Release (omega arith))) (omega arith)

  for_kept : (line : ℕ) (first : Option Sized) (test : Option Expr) (last : Option Sized) (body : Sized)
      → AreShortCodes (16 * (1 + (size_part first + (optional_size test + (size_part last + body.right))))) (1 + (size_part first + (optional_size test + (size_part last + body.right))))
      (ticked_code line (for_codes all line (code_part first) test (code_part last) body.left))
  for_kept line first test last body =
      let n = size_part first + (optional_size test + (size_part last + body.right)) in
      ticked line (for_codes all line (code_part first) test (code_part last) body.left) (16 * n + 9) (1 + n) (for_short line first test last body) (omega arith)

  -- each kind of statement is short, if the statements in it are
  keeps : (z : StmtKind-F (Pair (AtLines IsShortStmt)) Sized) → Keeps IsShortStmt (stmt_code_step all) stmt_counts z
  keeps (open_stmt.Block ps) line = record { some = omega arith; code = blocked line ps }
  keeps open_stmt.Empty line = record { some = omega arith; code = ticked line no_code 0 1 (λ spot. short_none 1) (omega arith) }
  keeps (open_stmt.Declare ls) line = record {
    some = omega arith;
    code = ticked line (λ spot. declared_code all line ls spot.scope) (16 * locals_size ls) (1 + locals_size ls)
        (λ spot. deeper (16 * locals_size ls) (locals_size ls) (1 + locals_size ls) (declared_short line ls spot.scope) (omega arith)) (omega arith);
  }
  keeps (open_stmt.Assign t o e) line = record { some = omega arith; code = ticked line (assignment_code all line t o e) (16 * expr_size t + (16 * expr_size e + 5)) (1 + (expr_size t + expr_size e)) (assignment_short line t o e) (omega arith) }
  keeps (open_stmt.Call name es) line = record { some = omega arith; code = ticked line (call_done_code all line name es) (16 * exprs_size es + 2) (1 + exprs_size es) (call_done_short line name es) (omega arith) }
  keeps (open_stmt.Print format es) line = record { some = omega arith; code = ticked line (print_code all line format es) (16 * exprs_size es + 1) (1 + exprs_size es) (print_short line format es) (omega arith) }
  keeps (open_stmt.If e side None) line = record { some = omega arith; code = ticked line (choice_codes all line e side.left None) (16 * expr_size e + (1 + (16 * side.right + (1 + 16 * 0)))) (1 + (expr_size e + (side.right + 0))) (choice_short line e side None) (omega arith) }
  keeps (open_stmt.If e side (Some other)) line = record { some = omega arith; code = ticked line (choice_codes all line e side.left (Some other.left)) (16 * expr_size e + (1 + (16 * side.right + (1 + 16 * other.right)))) (1 + (expr_size e + (side.right + other.right))) (choice_short line e side (Some other)) (omega arith) }
  keeps (open_stmt.While e body) line = record {
    some = omega arith;
    code = ticked line (for_codes all line None (Some e) None body.left) (16 * (0 + (expr_size e + (0 + body.right))) + 9) (1 + (expr_size e + body.right))
        (λ spot. deeper _ (1 + (0 + (expr_size e + (0 + body.right)))) (1 + (expr_size e + body.right)) (for_short line None (Some e) None body spot) (omega arith)) (omega arith);
  }
  keeps (open_stmt.For None test None body) line = record { some = omega arith; code = for_kept line None test None body }
  keeps (open_stmt.For None test (Some last) body) line = record { some = omega arith; code = for_kept line None test (Some last) body }
  keeps (open_stmt.For (Some first) test None body) line = record { some = omega arith; code = for_kept line (Some first) test None body }
  keeps (open_stmt.For (Some first) test (Some last) body) line = record { some = omega arith; code = for_kept line (Some first) test (Some last) body }
  keeps (open_stmt.Return e) line = record { some = omega arith; code = ticked line (returned_code all line e) (16 * optional_size e + 3) (1 + optional_size e) (returned_short line e) (omega arith) }
  keeps open_stmt.Break line = record { some = omega arith; code = λ spot. short_as 1 (16 * 1) 1 1 (short_one line 0 1 _ (omega arith)) (omega arith) (omega arith) }
  keeps open_stmt.Continue line = record { some = omega arith; code = λ spot. short_as 1 (16 * 1) 1 1 (short_one line 0 1 _ (omega arith)) (omega arith) (omega arith) }
  keeps (open_stmt.Task mark body) line = record { some = omega arith; code = ticked line (task_codes all line mark.clauses body.left) (16 * (clauses_size mark.clauses + body.right) + 9) (1 + (clauses_size mark.clauses + body.right)) (task_short line mark.clauses body) (omega arith) }
  keeps (open_stmt.TaskLoop head body) line =
      let n = loop_size + (optional_size head.variable.first + (expr_size head.end + (clauses_size head.mark.clauses + body.right))) in record { some = omega arith; code = ticked line no_code 0 n (λ spot. short_none n) (omega arith) }
  keeps (open_stmt.TaskWait sections) line = record { some = omega arith; code = ticked line (wait_code all line sections) (16 * waits_size sections + 1) (1 + waits_size sections) (wait_short line sections) (omega arith) }
  keeps (open_stmt.Release clauses) line = record { some = omega arith; code = ticked line (release_code all line clauses) (16 * clauses_size clauses + 1) (1 + clauses_size clauses) (release_short line clauses) (omega arith) }

  pub stmt_short : (s : Stmt) → IsShortStmt (stmt_code all s) (stmt_size s)
  stmt_short = folds.both IsShortStmt (stmt_code_step all) stmt_counts keeps

  -- the statements of a body
  pub body_short : (ss : List Stmt) → AreShortCodes (16 * body_size ss) (body_size ss) (codes_in_order (stmt_codes all ss))
  body_short [] spot = short_none 0
  body_short (s ∷ ss) spot =
      let here = stmt_size s in
      let rest = body_size ss in
      let c = stmt_code all s in
      short_as (16 * here + 16 * rest) (16 * (here + rest)) (here + rest) (here + rest)
      (short_then (deeper (16 * here) here (here + rest) ((stmt_short s).code spot) (omega arith))
      (deeper (16 * rest) rest (here + rest) (body_short ss (in_scope (c.scope spot.scope) (behind (length (c.code spot)) spot))) (omega arith))) (omega arith) (omega arith)
