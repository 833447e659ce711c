-- The creations in the code of statements lead to where the bodies of their task statements begin.
use Rattle.std.proofs.Common.{◌≡◌, ◌∙◌, ℕ, ◌+◌, List, [], ◌∷◌, ◌++◌, length, map, Option, Some, None, refl, sym, ap, subst, arith, length-append}
use Rattle.std.proofs.lemmas.List.{append-nil}
use Rattle.oss_syntax.specs.declared.access.Op.{Op}
use Rattle.oss_syntax.specs.declared.tree.expr.BinOp.{BinOp}
use Rattle.oss_syntax.specs.declared.tree.expr.Expr.{Expr}
use Rattle.oss_syntax.specs.declared.tree.pragma.Clause.{Clause}
use Rattle.oss_syntax.specs.declared.tree.pragma.Section.{Section}
use Rattle.oss_syntax.specs.declared.tree.program.Item.{Item}
use Rattle.oss_syntax.specs.declared.tree.program.Kind.{Kind}
use Rattle.oss_syntax.specs.declared.tree.program.Kind.TheVariants as kind
use Rattle.oss_syntax.specs.declared.tree.program.Local.{Local}
use Rattle.oss_syntax.specs.declared.tree.program.NumKind.{NumKind}
use Rattle.oss_syntax.specs.declared.tree.stmt.Stmt.{Stmt}
use Rattle.oss_syntax.specs.declared.tree.stmt.StmtKind.TheOpen.{StmtKind-F}
use Rattle.oss_syntax.specs.declared.tree.stmt.StmtKind.TheOpen as open_stmt
use Rattle.oss_meaning.specs.declared.names.Target.{Target}
use Rattle.oss_meaning.specs.declared.names.Target.TheVariants as target
use Rattle.oss_meaning.specs.Clauses.{waited_for}
use Rattle.oss_meaning.specs.Names.{item_found}
use Rattle.oss_meaning.specs.Statements.{folded_by}
use Rattle.oss_code.specs.declared.instr.Instr.TheVariants as i
use Rattle.oss_lower_laws.specs.declared.lined.Lined.{Lined}
use Rattle.oss_lower_laws.specs.ExpressionCode.{ExprCode, expr_code, one, operator_by}
use Rattle.oss_lower_laws.specs.SectionCode.{created_code}
use Rattle.oss_lower_laws.specs.StatementCode.{Codes, Entries, Spot, StmtCode, assigned_code, assignment_code, behind, body_spot, call_done_code, cell_assigned_code, cell_changed_code, choice_codes, choice_entries, choice_test, codes_in_order, declared_code, enclosed_code, enclosed_spot, end_code, end_length, entries_in_order, first_code, for_codes, for_entries, given_code, in_scope, last_spot, local_assigned_code, loop_body, loop_code, loop_entries, loop_last, loop_spot, no_code, no_entries, other_spot, pads_code, part_code, part_entries, print_code, release_code, returned_code, side_length, side_spot, stmt_code, stmt_code_step, stmt_codes, task_codes, task_entries, task_entry, test_code, test_length, ticked_code, ticked_entries, wait_code}
use Rattle.oss_lower_laws.proofs.ExpressionFolds.{Pair}
use Rattle.oss_lower_laws.proofs.StatementFolds as folds
use Rattle.oss_lower_laws.proofs.StatementFolds.{AtLines, Keeps}
use Rattle.oss_labels.specs.Labels.{StmtLabels, body_labels, both_labels, labels_in_order, labels_step, loop_labels, no_labels, part_labels, stmt_labels, task_labels}
use Rattle.oss_labels.proofs.CreatedLists.{IsPlain, made, made_append, made_before, made_behind, plain_none, plain_one, plain_then}
use Rattle.oss_labels.proofs.EntryLists.{Agrees, agrees_both, agrees_loop, agrees_none, agrees_task, agrees_within}
use Rattle.oss_labels.proofs.PlainExpressions.{call_plain, expr_plain, operated_quiet, value_plain, values_plain}
use Rattle.oss_labels.proofs.PlainSections.{clauses_plain, created_made, sections_plain}

-- The creations of a piece that begins at this place lead to these entries, whose tasks have these labels; each of them stands behind its begin.
abbrev pub Stands : ℕ → List Lined → List ℕ → StmtLabels → Type 0
Stands at code es ls = Agrees (at + 1) (at + length code) (made at code) es ls

-- the same at each spot and place
abbrev pub CodesStand : Codes → Entries → StmtLabels → Type 0
CodesStand codes entries ls = (spot : Spot) (at : ℕ) → Stands at (codes spot) (entries spot at) ls

-- Pieces that follow each other

pub stands_then : (at mid : ℕ) (a b : List Lined) {es fs : List ℕ} {ls ks : StmtLabels} → mid ≡ at + length a → Stands at a es ls → Stands mid b fs ks → Stands at (a ++ b) (es ++ fs) (both_labels ls ks)
stands_then at mid a b {es = es} {fs = fs} {ls = ls} {ks = ks} e h k =
    subst (λ ms. Agrees (at + 1) (at + length (a ++ b)) ms (es ++ fs) (both_labels ls ks)) (sym (made_append at mid a b e))
    (agrees_within (at + 1) (at + length (a ++ b)) (omega arith) (omega (arith, e, length-append a b))
    (agrees_both (omega (arith, e)) (omega (arith, e)) (omega (arith, e)) h k))

-- the body of a loop, and its last part
stands_loop : (at mid : ℕ) (a b : List Lined) {es fs : List ℕ} {ls ks : StmtLabels} → mid ≡ at + length a → Stands at a es ls → Stands mid b fs ks → Stands at (a ++ b) (fs ++ es) (loop_labels ks ls)
stands_loop at mid a b {es = es} {fs = fs} {ls = ls} {ks = ks} e h k =
    subst (λ ms. Agrees (at + 1) (at + length (a ++ b)) ms (fs ++ es) (loop_labels ks ls)) (sym (made_append at mid a b e))
    (agrees_within (at + 1) (at + length (a ++ b)) (omega arith) (omega (arith, e, length-append a b))
    (agrees_loop (omega (arith, e)) (omega (arith, e)) (omega (arith, e)) h k))

pub stands_plain : (at : ℕ) (a : List Lined) → IsPlain a → Stands at a [] no_labels
stands_plain at a plain = subst (λ ms. Agrees (at + 1) (at + length a) ms [] no_labels) (sym (plain.none at)) (agrees_none (at + 1) (at + length a))

-- behind instructions that create nothing, and before them
pub stands_front : (at mid : ℕ) (a b : List Lined) {es : List ℕ} {ls : StmtLabels} → mid ≡ at + length a → IsPlain a → Stands mid b es ls → Stands at (a ++ b) es ls
stands_front at mid a b {es = es} {ls = ls} e plain h =
    subst (λ ms. Agrees (at + 1) (at + length (a ++ b)) ms es ls) (sym (made_behind at mid a b e plain))
    (agrees_within (at + 1) (at + length (a ++ b)) (omega (arith, e)) (omega (arith, e, length-append a b)) h)

pub stands_behind : (at : ℕ) (a b : List Lined) {es : List ℕ} {ls : StmtLabels} → Stands at a es ls → IsPlain b → Stands at (a ++ b) es ls
stands_behind at a b {es = es} {ls = ls} h plain =
    subst (λ ms. Agrees (at + 1) (at + length (a ++ b)) ms es ls) (sym (made_before at a b plain))
    (agrees_within (at + 1) (at + length (a ++ b)) (omega arith) (omega (arith, length-append a b)) h)

-- Bodies

given_plain : (line : ℕ) (result : Kind) → IsPlain (given_code line result)
given_plain line result = plain_then (plain_one line 1 (i.Convert result) (λ at. refl)) (plain_one line 1 i.Return (λ at. refl))

pub end_plain : (line : ℕ) (result : Kind) → IsPlain (end_code line result)
end_plain line result = plain_then (plain_one line 0 (i.Push 0) (λ at. refl)) (given_plain line result)

-- the creations of a body of a function or of a task are those of its instructions
pub enclosed_made : (line : ℕ) (result : Kind) (body : List Lined) (at entry : ℕ) → entry ≡ at + end_length → made at (enclosed_code line result body) ≡ made entry body
enclosed_made line result body at entry e =
    made_behind at entry (end_code line result) (body ++ end_code line result) (omega (arith, e)) (end_plain line result) ∙ made_before entry body (end_code line result) (end_plain line result)

pub enclosed_long : (line : ℕ) (result : Kind) (body : List Lined) → length (enclosed_code line result body) ≡ length body + 6
enclosed_long line result body =
    omega (arith, length-append (end_code line result) (body ++ end_code line result), length-append body (end_code line result))

module _ (all : List Item) where
  abbrev StmtStands : StmtCode → StmtLabels → Type 0
  StmtStands c ls = CodesStand c.code c.entries ls

  abbrev Stated : Type 0
  Stated = Pair StmtStands

  abbrev code_in : Stated → StmtCode
  code_in p = p.left

  abbrev labels_in : Stated → StmtLabels
  labels_in p = p.right

  -- a tick first
  ticked : (line : ℕ) (codes : Codes) (entries : Entries) (ls : StmtLabels) → CodesStand codes entries ls → CodesStand (ticked_code line codes) (ticked_entries entries) ls
  ticked line codes entries ls h spot at =
      stands_front at (at + 1) (one line 0 i.Tick) (codes (behind 1 spot)) (omega arith) (plain_one line 0 i.Tick (λ p. refl)) (h (behind 1 spot) (at + 1))

  -- a statement without others in it
  simple : (line : ℕ) (codes : Codes) → ((spot : Spot) → IsPlain (codes spot)) → CodesStand (ticked_code line codes) no_entries no_labels
  simple line codes plain spot at = stands_plain at (ticked_code line codes spot) (plain_then (plain_one line 0 i.Tick (λ p. refl)) (plain (behind 1 spot)))

  in_order : (ps : List Stated) → CodesStand (codes_in_order (map code_in ps)) (entries_in_order (map code_in ps)) (labels_in_order (map labels_in ps))
  in_order [] spot at = agrees_none (at + 1) (at + length (codes_in_order [] spot))
  in_order (p ∷ ps) spot at =
      let k = length (p.left.code spot) in
      let inner = in_scope (p.left.scope spot.scope) (behind k spot) in
      stands_then at (at + k) (p.left.code spot) (codes_in_order (map code_in ps) inner) refl (p.related spot at) (in_order ps inner (at + k))

  blocked : (line : ℕ) (ps : List Stated) → CodesStand (λ spot. codes_in_order (map code_in ps) spot ++ one line 0 (i.Keep (length spot.scope))) (entries_in_order (map code_in ps)) (labels_in_order (map labels_in ps))
  blocked line ps spot at = stands_behind at (codes_in_order (map code_in ps) spot) (one line 0 (i.Keep (length spot.scope))) (in_order ps spot at) (plain_one line 0 (i.Keep (length spot.scope)) (λ p. refl))

  -- Declarations and assignments

  first_plain : (scope : List Local) (k : Kind) (o : Option Expr) (line : ℕ) → IsPlain (first_code all scope k o line)
  first_plain scope (kind.Num n) None line = plain_one line 0 (i.Push 0) (λ at. refl)
  first_plain scope (kind.Pointer n) None line = plain_one line 0 i.Nothing (λ at. refl)
  first_plain scope kind.Nothing None line = plain_one line 0 (i.Push 0) (λ at. refl)
  first_plain scope k (Some e) line = value_plain all scope e line 0

  declared_plain : (line : ℕ) (ls scope : List Local) → IsPlain (declared_code all line ls scope)
  declared_plain line [] scope = plain_none
  declared_plain line (l ∷ ls) scope =
      plain_then (first_plain scope l.kind l.first line) (plain_then (plain_one line 1 (i.Bind l.kind) (λ at. refl)) (declared_plain line ls (scope ++ l ∷ [])))

  module _ (scope : List Local) (te e : Expr) (line : ℕ) where
    abbrev t : ExprCode
    t = expr_code all scope te

    abbrev r : ExprCode
    r = expr_code all scope e

    right : (depth : ℕ) → IsPlain (r.value line depth)
    right depth = value_plain all scope e line depth

    left : IsPlain (t.place line 0)
    left = (expr_plain all scope te).place line 0

    local_plain : (o : Option BinOp) (slot : ℕ) (k : Kind) → IsPlain (local_assigned_code line t o r slot k)
    local_plain None slot k = plain_then (right 0) (plain_one line 1 (i.SetLocal slot k) (λ at. refl))
    local_plain (Some o) slot k =
        plain_then (plain_one line 0 (i.Local slot) (λ at. refl)) (plain_then (right 1)
        (plain_then (plain_one line 2 (operator_by o t.typed.kind r.typed.kind) (operated_quiet o t.typed.kind r.typed.kind)) (plain_one line 1 (i.SetLocal slot k) (λ at. refl))))

    changed_plain : (f : Option Op) (o : BinOp) (k : NumKind) → IsPlain (cell_changed_code line f t o r k)
    changed_plain (Some f) o k = plain_one line 2 (i.Fold f) (λ at. refl)
    changed_plain None o k =
        plain_then (plain_one line 2 i.Under (λ at. refl)) (plain_then (plain_one line 3 i.Load (λ at. refl)) (plain_then (plain_one line 3 i.Swap (λ at. refl))
        (plain_then (plain_one line 3 (operator_by o t.typed.kind r.typed.kind) (operated_quiet o t.typed.kind r.typed.kind)) (plain_one line 2 (i.Store k) (λ at. refl)))))

    cell_plain : (o : Option BinOp) (k : NumKind) → IsPlain (cell_assigned_code line t o r k)
    cell_plain None k = plain_then left (plain_then (right 1) (plain_one line 2 (i.Store k) (λ at. refl)))
    cell_plain (Some o) k = plain_then left (plain_then (right 1) (changed_plain (folded_by k o) o k))

    assigned_plain : (g : Target) (o : Option BinOp) → IsPlain (assigned_code line g t o r)
    assigned_plain (target.Local slot k) o = local_plain o slot k
    assigned_plain (target.Cell k) o = cell_plain o k
    assigned_plain target.Nothing o = plain_none
    assigned_plain (target.Grid g k) o = plain_none
    assigned_plain (target.Row g k) o = plain_none

  assignment_plain : (line : ℕ) (t : Expr) (o : Option BinOp) (e : Expr) (spot : Spot) → IsPlain (assignment_code all line t o e spot)
  assignment_plain line t o e spot = assigned_plain spot.scope t e line (expr_code all spot.scope t).typed.target o

  -- Calls, prints and returns

  call_done_plain : (line : ℕ) (name : List ℕ) (es : List Expr) (spot : Spot) → IsPlain (call_done_code all line name es spot)
  call_done_plain line name es spot =
      plain_then (call_plain all (item_found all name) (map (expr_code all spot.scope) es) (values_plain all spot.scope es) line 0) (plain_one line 1 i.Drop (λ at. refl))

  print_plain : (line : ℕ) (format : List ℕ) (es : List Expr) (spot : Spot) → IsPlain (print_code all line format es spot)
  print_plain line format es spot = plain_then (values_plain all spot.scope es line 0) (plain_one line (length es) _ (λ at. refl))

  returned_plain : (line : ℕ) (o : Option Expr) (spot : Spot) → IsPlain (returned_code all line o spot)
  returned_plain line None spot = plain_then (plain_one line 0 (i.Push 0) (λ at. refl)) (given_plain line spot.result)
  returned_plain line (Some e) spot = plain_then (value_plain all spot.scope e line 0) (given_plain line spot.result)

  -- Choices

  abbrev code_part : Option Stated → Option StmtCode
  code_part None = None
  code_part (Some p) = Some p.left

  abbrev labels_part : Option Stated → Option StmtLabels
  labels_part None = None
  labels_part (Some p) = Some p.right

  part_stands : (o : Option Stated) → CodesStand (part_code (code_part o)) (part_entries (code_part o)) (part_labels (labels_part o))
  part_stands None spot at = agrees_none (at + 1) (at + length (part_code None spot))
  part_stands (Some p) spot at = p.related spot at

  choice_stands : (line : ℕ) (e : Expr) (side : Stated) (other : Option Stated)
      → CodesStand (choice_codes all line e side.left (code_part other)) (choice_entries all line e side.left (code_part other)) (both_labels side.right (part_labels (labels_part other)))
  choice_stands line e side other spot at =
      stands_front at (at + length test) test (jump ++ (first ++ (past ++ second))) refl (value_plain all spot.scope e line 0)
      (stands_front (at + length test) from jump (first ++ (past ++ second)) (omega (arith, length-append test jump)) (plain_one line 1 _ (λ p. refl))
      (stands_then from (from + length first) first (past ++ second) refl (side.related (side_spot all line e spot) from)
      (stands_front (from + length first) to past second (omega arith) (plain_one line 0 _ (λ p. refl)) (part_stands other (other_spot all line e side.left spot) to))))
    where
      test : List Lined
      test = (expr_code all spot.scope e).value line 0

      first : List Lined
      first = side.left.code (side_spot all line e spot)

      second : List Lined
      second = part_code (code_part other) (other_spot all line e side.left spot)

      jump : List Lined
      jump = one line 1 (i.SkipUnless (length first + 1))

      past : List Lined
      past = one line 0 (i.Skip (length second))

      from : ℕ
      from = at + choice_test all line e spot

      to : ℕ
      to = at + (choice_test all line e spot + side_length all line e side.left spot + 1)

  -- Loops

  tested_plain : (o : Option Expr) (line : ℕ) (scope : List Local) (past : ℕ) → IsPlain (test_code all o line scope past)
  tested_plain None line scope past = plain_none
  tested_plain (Some e) line scope past = plain_then (value_plain all scope e line 0) (plain_one line 1 (i.SkipUnless past) (λ at. refl))

  tested_long : (o : Option Expr) (line : ℕ) (scope : List Local) (past : ℕ) → length (test_code all o line scope past) ≡ test_length all o line scope
  tested_long None line scope past = refl
  tested_long (Some e) line scope past =
      omega (arith, length-append ((expr_code all scope e).value line 0) (one line 1 (i.SkipUnless past)), length-append ((expr_code all scope e).value line 0) (one line 1 (i.SkipUnless 0)))

  -- the pieces before the test
  pads_plain : (line kept past past_body : ℕ) → IsPlain (pads_code line kept past past_body)
  pads_plain line kept past past_body =
      plain_then (plain_one line 0 (i.Skip 4) (λ at. refl)) (plain_then (plain_one line 0 (i.Keep kept) (λ at. refl)) (plain_then (plain_one line 0 (i.Skip past) (λ at. refl))
      (plain_then (plain_one line 0 (i.Keep kept) (λ at. refl)) (plain_then (plain_one line 0 (i.Skip past_body) (λ at. refl)) (plain_one line 0 i.Tick (λ at. refl))))))

  loop_stands : (line : ℕ) (test : Option Expr) (last : Option Stated) (body : Stated)
      → CodesStand (loop_code all line test (code_part last) body.left) (loop_entries all line test (code_part last) body.left) (loop_labels (part_labels (labels_part last)) body.right)
  loop_stands line test last body spot at =
      stands_front at (at + 6) pads (tested ++ (bodies ++ (lasts ++ again))) (omega arith) (pads_plain line (length spot.scope) _ _)
      (stands_front (at + 6) from tested (bodies ++ (lasts ++ again)) (omega (arith, tested_long test line spot.scope (1 + length bodies + length lasts))) (tested_plain test line spot.scope (1 + length bodies + length lasts))
      (stands_loop from to bodies (lasts ++ again) (omega arith) (body.related (body_spot all line test spot) from)
      (stands_behind to lasts again (part_stands last (last_spot all line test body.left spot) to) (plain_one line 0 _ (λ p. refl)))))
    where
      bodies : List Lined
      bodies = loop_body all line test body.left spot

      lasts : List Lined
      lasts = loop_last all line test (code_part last) body.left spot

      tested : List Lined
      tested = test_code all test line spot.scope (1 + length bodies + length lasts)

      pads : List Lined
      pads = pads_code line (length spot.scope) (4 + length tested + length bodies + length lasts) (1 + length tested + length bodies)

      again : List Lined
      again = one line 0 (i.Again (length tested + length bodies + length lasts))

      from : ℕ
      from = at + (6 + test_length all test line spot.scope)

      to : ℕ
      to = at + (6 + test_length all test line spot.scope + length bodies)

  for_stands : (line : ℕ) (first : Option Stated) (test : Option Expr) (last : Option Stated) (body : Stated)
      → CodesStand (for_codes all line (code_part first) test (code_part last) body.left) (for_entries all line (code_part first) test (code_part last) body.left)
      (both_labels (part_labels (labels_part first)) (loop_labels (part_labels (labels_part last)) body.right))
  for_stands line first test last body spot at =
      let begins = part_code (code_part first) spot in
      let inner = loop_spot (code_part first) spot in
      let turning = loop_code all line test (code_part last) body.left inner in
      let kept = one line 0 (i.Keep (length spot.scope)) in
      stands_then at (at + length begins) begins (turning ++ kept) refl (part_stands first spot at)
      (stands_behind (at + length begins) turning kept (loop_stands line test last body inner (at + length begins)) (plain_one line 0 (i.Keep (length spot.scope)) (λ p. refl)))

  -- a loop without a last part has the labels of its body
  alone_labels : (ls : StmtLabels) → both_labels no_labels (loop_labels no_labels ls) ≡ ls
  alone_labels ls = ap {B = StmtLabels} (λ l. record { in_text = ls.in_text; in_code = l }) (append-nil ls.in_code)

  while_stands : (line : ℕ) (e : Expr) (body : Stated) → CodesStand (for_codes all line None (Some e) None body.left) (for_entries all line None (Some e) None body.left) body.right
  while_stands line e body spot at =
      subst (λ ls. Stands at (for_codes all line None (Some e) None body.left spot) (for_entries all line None (Some e) None body.left spot at) ls) (alone_labels body.right) (for_stands line None (Some e) None body spot at)

  -- Directives

  task_made : (line : ℕ) (clauses : List Clause) (body : StmtCode) (spot : Spot) (at entry : ℕ) → entry ≡ at + task_entry all line clauses spot
      → made at (task_codes all line clauses body spot) ≡ entry ∷ made entry (body.code (enclosed_spot spot))
  task_made line clauses body spot at entry e =
      made_append at behind_it creation (past ++ inside) refl
      ∙ ap (λ ms. ms ++ made behind_it (past ++ inside)) (created_made all spot.scope (1 + end_length) clauses line at entry (omega (arith, e)))
      ∙ ap (λ ms. entry ∷ ms) (made_behind behind_it (behind_it + 1) past inside (omega arith) (plain_one line 0 _ (λ p. refl))
      ∙ enclosed_made line spot.result (body.code (enclosed_spot spot)) (behind_it + 1) entry (omega (arith, e)))
    where
      creation : List Lined
      creation = created_code all spot.scope (1 + end_length) clauses line

      inside : List Lined
      inside = enclosed_code line spot.result (body.code (enclosed_spot spot))

      past : List Lined
      past = one line 0 (i.Skip (length inside))

      behind_it : ℕ
      behind_it = at + length creation

  task_long : (line : ℕ) (clauses : List Clause) (body : StmtCode) (spot : Spot)
      → length (task_codes all line clauses body spot) ≡ task_entry all line clauses spot + length (body.code (enclosed_spot spot)) + 3
  task_long line clauses body spot =
      let creation = created_code all spot.scope (1 + end_length) clauses line in
      let inside = enclosed_code line spot.result (body.code (enclosed_spot spot)) in
      let past = one line 0 (i.Skip (length inside)) in
      omega (arith, length-append creation (past ++ inside), length-append past inside, enclosed_long line spot.result (body.code (enclosed_spot spot)))

  task_stands : (line : ℕ) (clauses : List Clause) (body : Stated) → CodesStand (task_codes all line clauses body.left) (task_entries all line clauses body.left) (task_labels clauses body.right)
  task_stands line clauses body spot at =
      let entry = at + task_entry all line clauses spot in
      let code = task_codes all line clauses body.left spot in
      let inner = body.left.code (enclosed_spot spot) in
      subst (λ ms. Agrees (at + 1) (at + length code) ms (entry ∷ body.left.entries (enclosed_spot spot) entry) (task_labels clauses body.right)) (sym (task_made line clauses body.left spot at entry refl))
      (agrees_task (at + 1) entry clauses (omega arith) (omega (arith, task_long line clauses body.left spot)) refl
      (agrees_within (entry + 1) (at + length code) (omega arith) (omega (arith, task_long line clauses body.left spot)) (body.related (enclosed_spot spot) entry)))

  wait_plain : (line : ℕ) (o : Option (List Section)) (spot : Spot) → IsPlain (wait_code all line o spot)
  wait_plain line None spot = plain_one line 0 i.Wait (λ at. refl)
  wait_plain line (Some sections) spot = plain_then (sections_plain all spot.scope waited_for sections line) (plain_one line 0 i.WaitOn (λ at. refl))

  release_plain : (line : ℕ) (clauses : List Clause) (spot : Spot) → IsPlain (release_code all line clauses spot)
  release_plain line clauses spot = plain_then (clauses_plain all spot.scope clauses line) (plain_one line 0 i.Release (λ at. refl))

  jump_stands : (line : ℕ) (back : Spot → ℕ) → CodesStand (λ spot. one line 0 (i.Again (back spot))) no_entries no_labels
  jump_stands line back spot at = stands_plain at (one line 0 (i.Again (back spot))) (plain_one line 0 (i.Again (back spot)) (λ p. refl))

  -- each kind of statement stands so, if those in it do
  keeps : (z : StmtKind-F (Pair (AtLines StmtStands)) Stated) → Keeps StmtStands (stmt_code_step all) labels_step z
  keeps (open_stmt.Block ps) line = blocked line ps
  keeps open_stmt.Empty line = simple line no_code (λ spot. plain_none)
  keeps (open_stmt.Declare ls) line = simple line (λ spot. declared_code all line ls spot.scope) (λ spot. declared_plain line ls spot.scope)
  keeps (open_stmt.Assign t o e) line = simple line (assignment_code all line t o e) (assignment_plain line t o e)
  keeps (open_stmt.Call name es) line = simple line (call_done_code all line name es) (call_done_plain line name es)
  keeps (open_stmt.Print format es) line = simple line (print_code all line format es) (print_plain line format es)
  keeps (open_stmt.If e side None) line = ticked line (choice_codes all line e side.left None) (choice_entries all line e side.left None) (both_labels side.right no_labels) (choice_stands line e side None)
  keeps (open_stmt.If e side (Some other)) line =
      ticked line (choice_codes all line e side.left (Some other.left)) (choice_entries all line e side.left (Some other.left)) (both_labels side.right other.right) (choice_stands line e side (Some other))
  keeps (open_stmt.While e body) line = ticked line (for_codes all line None (Some e) None body.left) (for_entries all line None (Some e) None body.left) body.right (while_stands line e body)
  keeps (open_stmt.For None test None body) line =
      ticked line (for_codes all line None test None body.left) (for_entries all line None test None body.left) (both_labels no_labels (loop_labels no_labels body.right)) (for_stands line None test None body)
  keeps (open_stmt.For None test (Some last) body) line =
      ticked line (for_codes all line None test (Some last.left) body.left) (for_entries all line None test (Some last.left) body.left) (both_labels no_labels (loop_labels last.right body.right)) (for_stands line None test (Some last) body)
  keeps (open_stmt.For (Some first) test None body) line =
      ticked line (for_codes all line (Some first.left) test None body.left) (for_entries all line (Some first.left) test None body.left) (both_labels first.right (loop_labels no_labels body.right)) (for_stands line (Some first) test None body)
  keeps (open_stmt.For (Some first) test (Some last) body) line =
      ticked line (for_codes all line (Some first.left) test (Some last.left) body.left) (for_entries all line (Some first.left) test (Some last.left) body.left) (both_labels first.right (loop_labels last.right body.right)) (for_stands line (Some first) test (Some last) body)
  keeps (open_stmt.Return e) line = simple line (returned_code all line e) (returned_plain line e)
  keeps open_stmt.Break line = jump_stands line (λ spot. spot.pads.stop)
  keeps open_stmt.Continue line = jump_stands line (λ spot. spot.pads.again)
  keeps (open_stmt.Task mark body) line = ticked line (task_codes all line mark.clauses body.left) (task_entries all line mark.clauses body.left) (task_labels mark.clauses body.right) (task_stands line mark.clauses body)
  keeps (open_stmt.TaskLoop head body) line = simple line no_code (λ spot. plain_none)
  keeps (open_stmt.TaskWait sections) line = simple line (wait_code all line sections) (wait_plain line sections)
  keeps (open_stmt.Release clauses) line = simple line (release_code all line clauses) (release_plain line clauses)

  pub stmt_stands : (s : Stmt) → CodesStand (stmt_code all s).code (stmt_code all s).entries (stmt_labels s)
  stmt_stands = folds.both StmtStands (stmt_code_step all) labels_step keeps

  -- the statements of a body
  pub body_stands : (ss : List Stmt) → CodesStand (codes_in_order (stmt_codes all ss)) (entries_in_order (stmt_codes all ss)) (body_labels ss)
  body_stands [] spot at = agrees_none (at + 1) (at + length (codes_in_order [] spot))
  body_stands (s ∷ ss) spot at =
      let c = stmt_code all s in
      let k = length (c.code spot) in
      let inner = in_scope (c.scope spot.scope) (behind k spot) in
      stands_then at (at + k) (c.code spot) (codes_in_order (stmt_codes all ss) inner) refl (stmt_stands s spot at) (body_stands ss inner (at + k))
