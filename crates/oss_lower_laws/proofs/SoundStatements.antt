-- The instructions of statements are sound.
use Rattle.std.proofs.Common.{◌≡◌, ℕ, ◌+◌, ◌-◌, ◌≤◌, List, [], ◌∷◌, ◌++◌, length, map, Option, Some, None, refl, arith, length-append}
use Rattle.oss_syntax.specs.declared.access.Op.{Op}
use Rattle.oss_syntax.specs.declared.tree.expr.BinOp.{BinOp}
use Rattle.oss_syntax.specs.declared.tree.expr.Expr.{Expr}
use Rattle.oss_syntax.specs.declared.tree.pragma.Clause.{Clause}
use Rattle.oss_syntax.specs.declared.tree.pragma.Section.{Section}
use Rattle.oss_syntax.specs.declared.tree.program.Item.{Item}
use Rattle.oss_syntax.specs.declared.tree.program.Kind.{Kind}
use Rattle.oss_syntax.specs.declared.tree.program.Kind.TheVariants as kind
use Rattle.oss_syntax.specs.declared.tree.program.Local.{Local}
use Rattle.oss_syntax.specs.declared.tree.program.NumKind.{NumKind}
use Rattle.oss_syntax.specs.declared.tree.stmt.Stmt.{Stmt}
use Rattle.oss_syntax.specs.declared.tree.stmt.StmtKind.TheOpen.{StmtKind-F}
use Rattle.oss_syntax.specs.declared.tree.stmt.StmtKind.TheOpen as open_stmt
use Rattle.oss_grammar.specs.Formats.{pieces_of}
use Rattle.oss_meaning.specs.declared.names.Target.{Target}
use Rattle.oss_meaning.specs.declared.names.Target.TheVariants as target
use Rattle.oss_meaning.specs.Clauses.{waited_for}
use Rattle.oss_meaning.specs.Names.{item_found}
use Rattle.oss_meaning.specs.Operators.{is_pointer, is_unsigned_kind}
use Rattle.oss_meaning.specs.Statements.{folded_by}
use Rattle.oss_code.specs.Soundness.{IsAtDepth, IsSoundAt}
use Rattle.oss_code.specs.declared.code.CodeParts.{CodeParts}
use Rattle.oss_code.specs.declared.instr.Instr.TheVariants as i
use Rattle.oss_lower_laws.specs.declared.lined.Lined.{Lined}
use Rattle.oss_lower_laws.specs.declared.lined.Pads.{Pads}
use Rattle.oss_lower_laws.specs.ExpressionCode.{ExprCode, arguments_code, call_code, expr_code, one, operator_by}
use Rattle.oss_lower_laws.specs.SectionCode.{clauses_code, created_code, sections_code}
use Rattle.oss_lower_laws.specs.StatementCode.{Codes, Spot, StmtCode, assigned_code, assignment_code, behind, body_spot, call_done_code, cell_assigned_code, cell_changed_code, choice_codes, codes_in_order, declared_code, enclosed_code, enclosed_spot, end_code, end_length, first_code, first_instr, for_codes, given_code, in_scope, last_spot, local_assigned_code, loop_body, loop_code, loop_last, loop_spot, no_code, other_spot, part_code, pieces_in, print_code, release_code, returned_code, side_spot, stmt_code, stmt_code_step, task_codes, test_code, test_length, ticked_code, wait_code}
use Rattle.oss_lower_laws.proofs.ExpressionFolds.{Pair}
use Rattle.oss_lower_laws.proofs.StatementFolds as folds
use Rattle.oss_lower_laws.proofs.StatementFolds.{AtLines, Keeps}
use Rattle.oss_lower_laws.proofs.NestedLemmas.{test_long}
use Rattle.oss_lower_laws.proofs.FlowLemmas.{DepthsAt, Flows, IsSimple, SoundFrom, again_sound, at_depth, depths_back, depths_front, flows_none, flows_one, flows_then, return_sound, simple_sound, skip_sound, sound_append, unless_sound}
use Rattle.oss_lower_laws.proofs.SoundExpressions.{FunctionsThere, call_sound_of, clauses_sound, created_sound, expressions_sound, operator_simple, sections_sound, value_sound, values_sound}

-- The pieces for `break` and `continue` stand so far before a place, and begin with no value.
pub record PadsAt (code : CodeParts) (pc : ℕ) (pads : Pads) : Type 0 where
  pub stop_within : pads.stop ≤ pc
  pub again_within : pads.again ≤ pc
  pub stop : IsAtDepth code (pc - pads.stop) 0
  pub again : IsAtDepth code (pc - pads.again) 0

-- Instructions of statements: sound, without a value before them and behind them.
abbrev pub CodesSound : CodeParts → Codes → Type 0
CodesSound code codes = (spot : Spot) (pc : ℕ) → PadsAt code pc spot.pads → Flows code pc (codes spot) 0 0

module _ (code : CodeParts) where
  pub pads_behind : (pc k to : ℕ) (pads : Pads) → to ≡ pc + k → PadsAt code pc pads → PadsAt code to (record { stop = pads.stop + k; again = pads.again + k })
  pads_behind pc k to pads t p = record {
    stop_within = omega (arith, t, p.stop_within);
    again_within = omega (arith, t, p.again_within);
    stop = at_depth code (pc - pads.stop) (to - (pads.stop + k)) 0 0 (omega (arith, t)) refl p.stop;
    again = at_depth code (pc - pads.again) (to - (pads.again + k)) 0 0 (omega (arith, t)) refl p.again;
  }

  pub given_sound : (pc line : ℕ) (result : Kind) (after : ℕ) → Flows code pc (given_code line result) 1 after
  given_sound pc line result after =
      flows_then code pc (one line 1 (i.Convert result)) (one line 1 i.Return) 1 1 after
      (flows_one code pc line 1 1 1 1 (i.Convert result) (record { takes_is = refl; leaves_is = refl; leads_is = refl; enters_is = refl }) (omega arith) (omega arith))
      (λ depths exit. (depths.0, (return_sound code (pc + 1), tt)))

  pushed_zero : (pc line : ℕ) → Flows code pc (one line 0 (i.Push 0)) 0 1
  pushed_zero pc line = flows_one code pc line 0 0 1 1 (i.Push 0) (record { takes_is = refl; leaves_is = refl; leads_is = refl; enters_is = refl }) (omega arith) (omega arith)

  -- an end leads nowhere
  pub end_sound : (pc line : ℕ) (result : Kind) → DepthsAt code pc (end_code line result) → SoundFrom code pc (end_code line result)
  end_sound pc line result depths = (
    simple_sound code pc 0 0 1 1 (i.Push 0) (record { takes_is = refl; leaves_is = refl; leads_is = refl; enters_is = refl }) (omega arith) (omega arith) depths.1.0,
    (
      simple_sound code (pc + 1) 1 1 1 1 (i.Convert result) (record { takes_is = refl; leaves_is = refl; leads_is = refl; enters_is = refl }) (omega arith) (omega arith) depths.1.1.0,
      (return_sound code (pc + 1 + 1), tt),
    ),
  )

  -- a body of a function or of a task, which begins with no value
  pub enclosed_sound : (codes : Codes) → CodesSound code codes → (spot : Spot) (pc line : ℕ) → DepthsAt code pc (enclosed_code line spot.result (codes (enclosed_spot spot)))
      → IsAtDepth code (pc + end_length) 0 × SoundFrom code pc (enclosed_code line spot.result (codes (enclosed_spot spot)))
  enclosed_sound codes ok spot pc line depths = (body.0, sound_append code pc end _ (end_sound pc line spot.result (depths_front code pc end _ depths)) (sound_append code (pc + end_length) inside end body.1 (end_sound _ line spot.result last)))
    where
      end : List Lined
      end = end_code line spot.result

      inside : List Lined
      inside = codes (enclosed_spot spot)

      rest : DepthsAt code (pc + end_length) (inside ++ end)
      rest = depths_back code pc end (inside ++ end) depths

      last : DepthsAt code (pc + end_length + length inside) end
      last = depths_back code (pc + end_length) inside end rest

      before : IsAtDepth code (pc + end_length - end_length) 0
      before = at_depth code pc (pc + end_length - end_length) 0 0 (omega arith) refl depths.0

      body : IsAtDepth code (pc + end_length) 0 × SoundFrom code (pc + end_length) inside
      body =
          ok (enclosed_spot spot) (pc + end_length) (record { stop_within = omega arith; again_within = omega arith; stop = before; again = before })
          (depths_front code (pc + end_length) inside end rest) last.0

module _ (all : List Item) (code : CodeParts) (there : FunctionsThere all code) where
  abbrev IsSoundStmt : StmtCode → StmtCode → Type 0
  IsSoundStmt left c = CodesSound code c.code

  abbrev Sound : Type 0
  Sound = Pair IsSoundStmt

  abbrev code_in : Sound → StmtCode
  code_in p = p.right

  ticked : (line : ℕ) (codes : Codes) → CodesSound code codes → CodesSound code (ticked_code line codes)
  ticked line codes ok spot pc pads =
      flows_then code pc (one line 0 i.Tick) (codes (behind 1 spot)) 0 0 0
      (flows_one code pc line 0 0 0 0 i.Tick (record { takes_is = refl; leaves_is = refl; leads_is = refl; enters_is = refl }) (omega arith) (omega arith))
      (ok (behind 1 spot) (pc + 1) (pads_behind code pc 1 (pc + 1) spot.pads refl pads))

  nothing : CodesSound code no_code
  nothing spot pc pads = flows_none code pc 0

  keep : (pc line kept : ℕ) → Flows code pc (one line 0 (i.Keep kept)) 0 0
  keep pc line kept = flows_one code pc line 0 0 0 0 (i.Keep kept) (record { takes_is = refl; leaves_is = refl; leads_is = refl; enters_is = refl }) (omega arith) (omega arith)

  in_order : (ms : List Sound) → CodesSound code (codes_in_order (map code_in ms))
  in_order [] spot pc pads = flows_none code pc 0
  in_order (m ∷ ms) spot pc pads =
      let k = length (m.right.code spot) in
      flows_then code pc (m.right.code spot) _ 0 0 0 (m.related spot pc pads) (in_order ms (in_scope (m.right.scope spot.scope) (behind k spot)) (pc + k) (pads_behind code pc k (pc + k) spot.pads refl pads))

  blocked : (line : ℕ) (ms : List Sound) → CodesSound code (λ spot. codes_in_order (map code_in ms) spot ++ one line 0 (i.Keep (length spot.scope)))
  blocked line ms spot pc pads = flows_then code pc (codes_in_order (map code_in ms) spot) _ 0 0 0 (in_order ms spot pc pads) (keep _ line (length spot.scope))

  first_simple : (k : Kind) → IsSimple (first_instr k) 0 1
  first_simple (kind.Pointer m) = record { takes_is = refl; leaves_is = refl; leads_is = refl; enters_is = refl }
  first_simple (kind.Num m) = record { takes_is = refl; leaves_is = refl; leads_is = refl; enters_is = refl }
  first_simple kind.Nothing = record { takes_is = refl; leaves_is = refl; leads_is = refl; enters_is = refl }

  first_sound : (scope : List Local) (k : Kind) (o : Option Expr) (pc line : ℕ) → Flows code pc (first_code all scope k o line) 0 1
  first_sound scope k None pc line = flows_one code pc line 0 0 1 1 (first_instr k) (first_simple k) (omega arith) (omega arith)
  first_sound scope k (Some e) pc line = value_sound all code there scope e pc line 0

  declared_sound : (line : ℕ) (ls scope : List Local) (pc : ℕ) → Flows code pc (declared_code all line ls scope) 0 0
  declared_sound line [] scope pc = flows_none code pc 0
  declared_sound line (d ∷ ds) scope pc =
      flows_then code pc (first_code all scope d.kind d.first line) _ 0 1 0 (first_sound scope d.kind d.first pc line)
      (flows_then code _ (one line 1 (i.Bind d.kind)) _ 1 0 0
      (flows_one code _ line 1 1 0 0 (i.Bind d.kind) (record { takes_is = refl; leaves_is = refl; leads_is = refl; enters_is = refl }) (omega arith) (omega arith))
      (declared_sound line ds (scope ++ d ∷ []) _))

  -- Assignments

  operator_sound : (t e : ExprCode) (o : BinOp) (pc line depth after : ℕ) → 2 ≤ depth → depth - 2 + 1 ≡ after → Flows code pc (one line depth (operator_by o t.typed.kind e.typed.kind)) depth after
  operator_sound t e o pc line depth after le same =
      flows_one code pc line depth 2 1 after (operator_by o t.typed.kind e.typed.kind) (operator_simple (is_pointer t.typed.kind) (is_unsigned_kind t.typed.kind) (is_unsigned_kind e.typed.kind) o) le same

  set_sound : (pc line slot : ℕ) (k : Kind) → Flows code pc (one line 1 (i.SetLocal slot k)) 1 0
  set_sound pc line slot k = flows_one code pc line 1 1 0 0 (i.SetLocal slot k) (record { takes_is = refl; leaves_is = refl; leads_is = refl; enters_is = refl }) (omega arith) (omega arith)

  store_sound : (pc line : ℕ) (k : NumKind) → Flows code pc (one line 2 (i.Store k)) 2 0
  store_sound pc line k = flows_one code pc line 2 2 0 0 (i.Store k) (record { takes_is = refl; leaves_is = refl; leads_is = refl; enters_is = refl }) (omega arith) (omega arith)

  module _ (scope : List Local) (te e : Expr) (line : ℕ) where
    abbrev t : ExprCode
    t = expr_code all scope te

    abbrev r : ExprCode
    r = expr_code all scope e

    local_sound : (o : Option BinOp) (slot : ℕ) (k : Kind) (pc : ℕ) → Flows code pc (local_assigned_code line t o r slot k) 0 0
    local_sound None slot k pc = flows_then code pc (r.value line 0) _ 0 1 0 (value_sound all code there scope e pc line 0) (set_sound _ line slot k)
    local_sound (Some o) slot k pc =
        flows_then code pc (one line 0 (i.Local slot)) (r.value line 1 ++ (one line 2 (operator_by o t.typed.kind r.typed.kind) ++ one line 1 (i.SetLocal slot k))) 0 1 0
        (flows_one code pc line 0 0 1 1 (i.Local slot) (record { takes_is = refl; leaves_is = refl; leads_is = refl; enters_is = refl }) (omega arith) (omega arith))
        (flows_then code _ (r.value line 1) _ 1 2 0 (value_sound all code there scope e _ line 1)
        (flows_then code _ (one line 2 (operator_by o t.typed.kind r.typed.kind)) (one line 1 (i.SetLocal slot k)) 2 1 0 (operator_sound t r o _ line 2 1 (omega arith) (omega arith)) (set_sound _ line slot k)))

    changed_sound : (f : Option Op) (o : BinOp) (k : NumKind) (pc : ℕ) → Flows code pc (cell_changed_code line f t o r k) 2 0
    changed_sound (Some f) o k pc = flows_one code pc line 2 2 0 0 (i.Fold f) (record { takes_is = refl; leaves_is = refl; leads_is = refl; enters_is = refl }) (omega arith) (omega arith)
    changed_sound None o k pc =
        flows_then code pc (one line 2 i.Under) (one line 3 i.Load ++ (one line 3 i.Swap ++ (one line 3 (operator_by o t.typed.kind r.typed.kind) ++ one line 2 (i.Store k)))) 2 3 0 (flows_one code pc line 2 2 3 3 i.Under (record { takes_is = refl; leaves_is = refl; leads_is = refl; enters_is = refl }) (omega arith) (omega arith))
        (flows_then code _ (one line 3 i.Load) (one line 3 i.Swap ++ (one line 3 (operator_by o t.typed.kind r.typed.kind) ++ one line 2 (i.Store k))) 3 3 0 (flows_one code _ line 3 1 1 3 i.Load (record { takes_is = refl; leaves_is = refl; leads_is = refl; enters_is = refl }) (omega arith) (omega arith))
        (flows_then code _ (one line 3 i.Swap) (one line 3 (operator_by o t.typed.kind r.typed.kind) ++ one line 2 (i.Store k)) 3 3 0 (flows_one code _ line 3 2 2 3 i.Swap (record { takes_is = refl; leaves_is = refl; leads_is = refl; enters_is = refl }) (omega arith) (omega arith))
        (flows_then code _ (one line 3 (operator_by o t.typed.kind r.typed.kind)) (one line 2 (i.Store k)) 3 2 0 (operator_sound t r o _ line 3 2 (omega arith) (omega arith)) (store_sound _ line k))))

    cell_sound : (o : Option BinOp) (k : NumKind) (pc : ℕ) → Flows code pc (cell_assigned_code line t o r k) 0 0
    cell_sound None k pc =
        flows_then code pc (t.place line 0) _ 0 1 0 ((expressions_sound all code there scope te).place pc line 0)
        (flows_then code _ (r.value line 1) _ 1 2 0 (value_sound all code there scope e _ line 1) (store_sound _ line k))
    cell_sound (Some o) k pc =
        flows_then code pc (t.place line 0) _ 0 1 0 ((expressions_sound all code there scope te).place pc line 0)
        (flows_then code _ (r.value line 1) _ 1 2 0 (value_sound all code there scope e _ line 1) (changed_sound (folded_by k o) o k _))

    assigned_sound : (g : Target) (o : Option BinOp) (pc : ℕ) → Flows code pc (assigned_code line g t o r) 0 0
    assigned_sound (target.Local slot k) o pc = local_sound o slot k pc
    assigned_sound (target.Cell k) o pc = cell_sound o k pc
    assigned_sound target.Nothing o pc = flows_none code pc 0
    assigned_sound (target.Grid g k) o pc = flows_none code pc 0
    assigned_sound (target.Row g k) o pc = flows_none code pc 0

  assignment_sound : (line : ℕ) (t : Expr) (o : Option BinOp) (e : Expr) → CodesSound code (assignment_code all line t o e)
  assignment_sound line t o e spot pc pads = assigned_sound spot.scope t e line (expr_code all spot.scope t).typed.target o pc

  -- Calls, prints and returns

  call_done_sound : (line : ℕ) (name : List ℕ) (es : List Expr) → CodesSound code (call_done_code all line name es)
  call_done_sound line name es spot pc pads =
      flows_then code pc (call_code all (item_found all name) (map (expr_code all spot.scope) es) line 0) _ 0 1 0 (call_sound_of all code there spot.scope name es pc line 0)
      (flows_one code _ line 1 1 0 0 i.Drop (record { takes_is = refl; leaves_is = refl; leads_is = refl; enters_is = refl }) (omega arith) (omega arith))

  print_sound : (line : ℕ) (format : List ℕ) (es : List Expr) → CodesSound code (print_code all line format es)
  print_sound line format es spot pc pads =
      flows_then code pc (arguments_code (map (expr_code all spot.scope) es) line 0) _ 0 (length es) 0 (values_sound all code there spot.scope es pc line)
      (flows_one code _ line (length es) (length es) 0 0 (i.Print (pieces_in (pieces_of format)) (length es)) (record { takes_is = refl; leaves_is = refl; leads_is = refl; enters_is = refl }) (omega arith) (omega arith))

  returned_sound : (line : ℕ) (o : Option Expr) → CodesSound code (returned_code all line o)
  returned_sound line None spot pc pads = flows_then code pc (one line 0 (i.Push 0)) (given_code line spot.result) 0 1 0 (pushed_zero code pc line) (given_sound code _ line spot.result 0)
  returned_sound line (Some e) spot pc pads = flows_then code pc ((expr_code all spot.scope e).value line 0) _ 0 1 0 (value_sound all code there spot.scope e pc line 0) (given_sound code _ line spot.result 0)

  -- Choices

  abbrev code_part : Option Sound → Option StmtCode
  code_part None = None
  code_part (Some m) = Some m.right

  part_sound : (o : Option Sound) → CodesSound code (part_code (code_part o))
  part_sound None spot pc pads = flows_none code pc 0
  part_sound (Some m) spot pc pads = m.related spot pc pads

  choice_sound : (line : ℕ) (e : Expr) (side : Sound) (other : Option Sound) → CodesSound code (choice_codes all line e side.right (code_part other))
  choice_sound line e side other spot pc pads =
      flows_then code pc tests _ 0 1 0 (value_sound all code there spot.scope e pc line 0)
      (λ depths exit.
      let after_side : DepthsAt code p2 (one line 0 (i.Skip (length others)) ++ others) = depths_back code (p1 + 1) sides _ depths.1 in
      let out : IsAtDepth code (p2 + 1 + length others) 0 = at_depth code _ _ 0 0 (omega (arith, length-append sides (one line 0 (i.Skip (length others)) ++ others))) refl exit in
      let second = part_sound other (other_spot all line e side.right spot) (p2 + 1) (pads_behind code pc (length tests + 1 + length sides + 1) (p2 + 1) spot.pads (omega arith) pads) after_side.1 out in
      let first = side.related (side_spot all line e spot) (p1 + 1) (pads_behind code pc (length tests + 1) (p1 + 1) spot.pads (omega arith) pads) (depths_front code (p1 + 1) sides _ depths.1) after_side.0 in (
        depths.0,
        (
          unless_sound code p1 0 (length sides + 1) (p2 + 1) (omega arith) first.0 second.0,
          sound_append code (p1 + 1) sides _ first.1 (skip_sound code p2 0 (length others) (p2 + 1 + length others) refl out, second.1),
        ),
      ))
    where
      tests : List Lined
      tests = (expr_code all spot.scope e).value line 0

      sides : List Lined
      sides = side.right.code (side_spot all line e spot)

      others : List Lined
      others = part_code (code_part other) (other_spot all line e side.right spot)

      p1 : ℕ
      p1 = pc + length tests

      p2 : ℕ
      p2 = p1 + 1 + length sides

  -- Loops

  tested_sound : (o : Option Expr) (line past pc to : ℕ) (scope : List Local) → to ≡ pc + length (test_code all o line scope past) + past → IsAtDepth code to 0 → Flows code pc (test_code all o line scope past) 0 0
  tested_sound None line past pc to scope t h = flows_none code pc 0
  tested_sound (Some e) line past pc to scope t h =
      flows_then code pc ((expr_code all scope e).value line 0) (one line 1 (i.SkipUnless past)) 0 1 0 (value_sound all code there scope e pc line 0)
      (λ depths exit. (depths.0, (unless_sound code _ 0 past to (omega (arith, t, length-append ((expr_code all scope e).value line 0) (one line 1 (i.SkipUnless past)))) exit h, tt)))

  loop_sound : (line : ℕ) (test : Option Expr) (last : Option Sound) (body : Sound) → CodesSound code (loop_code all line test (code_part last) body.right)
  loop_sound line test last body spot pc pads depths exit = (
    depths.0,
    (
      skip_sound code pc 0 4 (pc + 1 + 1 + 1 + 1 + 1) (omega arith) depths.1.1.1.1.1.0,
      (
        keep_here (pc + 1) depths.1.1.0,
        (
          skip_sound code (pc + 1 + 1) 0 (4 + length tests + length bodies + length lasts) out_at (omega arith) out,
          (
            keep_here (pc + 1 + 1 + 1) depths.1.1.1.1.0,
            (
              skip_sound code (pc + 1 + 1 + 1 + 1) 0 (1 + length tests + length bodies) q8 (omega arith) last_part.0,
              (
                simple_sound code (pc + 1 + 1 + 1 + 1 + 1) 0 0 0 0 i.Tick (record { takes_is = refl; leaves_is = refl; leads_is = refl; enters_is = refl }) (omega arith) (omega arith) test_part.0,
                sound_append code q6 tests _ test_part.1 (sound_append code q7 bodies _ body_part.1 (sound_append code q8 lasts _ last_part.1 (
                  again_sound code q9 (length tests + length bodies + length lasts) (omega arith)
                      (at_depth code q6 (q9 - (length tests + length bodies + length lasts)) 0 0 (omega arith) refl test_part.0),
                  tt,
                ))),
              ),
            ),
          ),
        ),
      ),
    ),
  )
    where
      bodies : List Lined
      bodies = loop_body all line test body.right spot

      lasts : List Lined
      lasts = loop_last all line test (code_part last) body.right spot

      past : ℕ
      past = 1 + length bodies + length lasts

      tests : List Lined
      tests = test_code all test line spot.scope past

      again_code : List Lined
      again_code = one line 0 (i.Again (length tests + length bodies + length lasts))

      tests_long : length tests ≡ test_length all test line spot.scope
      tests_long = test_long all test line past spot.scope

      q6 : ℕ
      q6 = pc + 1 + 1 + 1 + 1 + 1 + 1

      q7 : ℕ
      q7 = q6 + length tests

      q8 : ℕ
      q8 = q7 + length bodies

      q9 : ℕ
      q9 = q8 + length lasts

      out_at : ℕ
      out_at = q9 + 1

      out : IsAtDepth code out_at 0
      out = at_depth code _ _ 0 0 (omega (arith, length-append tests (bodies ++ (lasts ++ again_code)), length-append bodies (lasts ++ again_code), length-append lasts again_code)) refl exit

      keep_here : (q : ℕ) → IsAtDepth code (q + 1) 0 → IsSoundAt code q 0 (i.Keep (length spot.scope))
      keep_here q h = simple_sound code q 0 0 0 0 (i.Keep (length spot.scope)) (record { takes_is = refl; leaves_is = refl; leads_is = refl; enters_is = refl }) (omega arith) (omega arith) h

      at_tests : DepthsAt code q6 (tests ++ (bodies ++ (lasts ++ again_code)))
      at_tests = depths.1.1.1.1.1.1

      at_bodies : DepthsAt code q7 (bodies ++ (lasts ++ again_code))
      at_bodies = depths_back code q6 tests _ at_tests

      at_lasts : DepthsAt code q8 (lasts ++ again_code)
      at_lasts = depths_back code q7 bodies _ at_bodies

      last_part : IsAtDepth code q8 0 × SoundFrom code q8 lasts
      last_part =
          part_sound last (last_spot all line test body.right spot) q8 (pads_behind code pc (6 + test_length all test line spot.scope + length bodies) q8 spot.pads (omega (arith, tests_long)) pads)
          (depths_front code q8 lasts _ at_lasts) (depths_back code q8 lasts _ at_lasts).0

      body_pads : PadsAt code q7 (body_spot all line test spot).pads
      body_pads = record {
        stop_within = omega (arith, tests_long);
        again_within = omega (arith, tests_long);
        stop = at_depth code (pc + 1) (q7 - (5 + test_length all test line spot.scope)) 0 0 (omega (arith, tests_long)) refl depths.1.0;
        again = at_depth code (pc + 1 + 1 + 1) (q7 - (3 + test_length all test line spot.scope)) 0 0 (omega (arith, tests_long)) refl depths.1.1.1.0;
      }

      body_part : IsAtDepth code q7 0 × SoundFrom code q7 bodies
      body_part = body.related (body_spot all line test spot) q7 body_pads (depths_front code q7 bodies _ at_bodies) last_part.0

      test_part : IsAtDepth code q6 0 × SoundFrom code q6 tests
      test_part = tested_sound test line past q6 out_at spot.scope (omega arith) out (depths_front code q6 tests _ at_tests) body_part.0

  for_sound : (line : ℕ) (first : Option Sound) (test : Option Expr) (last : Option Sound) (body : Sound) → CodesSound code (for_codes all line (code_part first) test (code_part last) body.right)
  for_sound line first test last body spot pc pads =
      let k = length (part_code (code_part first) spot) in
      flows_then code pc (part_code (code_part first) spot) _ 0 0 0 (part_sound first spot pc pads)
      (flows_then code (pc + k) (loop_code all line test (code_part last) body.right (loop_spot (code_part first) spot)) _ 0 0 0
      (loop_sound line test last body (loop_spot (code_part first) spot) (pc + k) (pads_behind code pc k (pc + k) spot.pads refl pads)) (keep _ line (length spot.scope)))

  -- Directives

  task_sound : (line : ℕ) (clauses : List Clause) (body : Sound) → CodesSound code (task_codes all line clauses body.right)
  task_sound line clauses body spot pc pads depths exit =
      (creation_part.0, sound_append code pc creation _ creation_part.1 (skip_sound code p1 0 (length inside) (p1 + 1 + length inside) refl out, inside_part.1))
    where
      creation : List Lined
      creation = created_code all spot.scope (1 + end_length) clauses line

      inside : List Lined
      inside = enclosed_code line spot.result (body.right.code (enclosed_spot spot))

      p1 : ℕ
      p1 = pc + length creation

      rest : DepthsAt code p1 (one line 0 (i.Skip (length inside)) ++ inside)
      rest = depths_back code pc creation _ depths

      out : IsAtDepth code (p1 + 1 + length inside) 0
      out = at_depth code _ _ 0 0 (omega (arith, length-append creation (one line 0 (i.Skip (length inside)) ++ inside))) refl exit

      inside_part : IsAtDepth code (p1 + 1 + end_length) 0 × SoundFrom code (p1 + 1) inside
      inside_part = enclosed_sound code body.right.code body.related spot (p1 + 1) line rest.1

      creation_part : IsAtDepth code pc 0 × SoundFrom code pc creation
      creation_part = created_sound all code there spot.scope (1 + end_length) clauses pc line (p1 + 1 + end_length) (omega arith) inside_part.0 (depths_front code pc creation _ depths) rest.0

  wait_sound : (line : ℕ) (o : Option (List Section)) → CodesSound code (wait_code all line o)
  wait_sound line None spot pc pads = flows_one code pc line 0 0 0 0 i.Wait (record { takes_is = refl; leaves_is = refl; leads_is = refl; enters_is = refl }) (omega arith) (omega arith)
  wait_sound line (Some sections) spot pc pads =
      flows_then code pc (sections_code all spot.scope waited_for sections line) _ 0 0 0 (sections_sound all code there spot.scope waited_for sections pc line)
      (flows_one code _ line 0 0 0 0 i.WaitOn (record { takes_is = refl; leaves_is = refl; leads_is = refl; enters_is = refl }) (omega arith) (omega arith))

  release_sound : (line : ℕ) (cs : List Clause) → CodesSound code (release_code all line cs)
  release_sound line cs spot pc pads =
      flows_then code pc (clauses_code all spot.scope cs line) _ 0 0 0 (clauses_sound all code there spot.scope cs pc line)
      (flows_one code _ line 0 0 0 0 i.Release (record { takes_is = refl; leaves_is = refl; leads_is = refl; enters_is = refl }) (omega arith) (omega arith))

  -- each kind of statement is sound, if the statements in it are
  keeps : (z : StmtKind-F (Pair (AtLines IsSoundStmt)) Sound) → Keeps IsSoundStmt (stmt_code_step all) (stmt_code_step all) z
  keeps (open_stmt.Block ms) line = blocked line ms
  keeps open_stmt.Empty line = ticked line no_code nothing
  keeps (open_stmt.Declare ls) line = ticked line (λ spot. declared_code all line ls spot.scope) (λ spot pc pads. declared_sound line ls spot.scope pc)
  keeps (open_stmt.Assign t o e) line = ticked line (assignment_code all line t o e) (assignment_sound line t o e)
  keeps (open_stmt.Call name es) line = ticked line (call_done_code all line name es) (call_done_sound line name es)
  keeps (open_stmt.Print format es) line = ticked line (print_code all line format es) (print_sound line format es)
  keeps (open_stmt.If e side None) line = ticked line (choice_codes all line e side.right None) (choice_sound line e side None)
  keeps (open_stmt.If e side (Some other)) line = ticked line (choice_codes all line e side.right (Some other.right)) (choice_sound line e side (Some other))
  keeps (open_stmt.While e body) line = ticked line (for_codes all line None (Some e) None body.right) (for_sound line None (Some e) None body)
  keeps (open_stmt.For None test None body) line = ticked line (for_codes all line None test None body.right) (for_sound line None test None body)
  keeps (open_stmt.For None test (Some last) body) line = ticked line (for_codes all line None test (Some last.right) body.right) (for_sound line None test (Some last) body)
  keeps (open_stmt.For (Some first) test None body) line = ticked line (for_codes all line (Some first.right) test None body.right) (for_sound line (Some first) test None body)
  keeps (open_stmt.For (Some first) test (Some last) body) line = ticked line (for_codes all line (Some first.right) test (Some last.right) body.right) (for_sound line (Some first) test (Some last) body)
  keeps (open_stmt.Return e) line = ticked line (returned_code all line e) (returned_sound line e)
  keeps open_stmt.Break line = λ spot pc pads depths exit. (depths.0, (again_sound code pc spot.pads.stop pads.stop_within pads.stop, tt))
  keeps open_stmt.Continue line = λ spot pc pads depths exit. (depths.0, (again_sound code pc spot.pads.again pads.again_within pads.again, tt))
  keeps (open_stmt.Task mark body) line = ticked line (task_codes all line mark.clauses body.right) (task_sound line mark.clauses body)
  keeps (open_stmt.TaskLoop head body) line = ticked line no_code nothing
  keeps (open_stmt.TaskWait sections) line = ticked line (wait_code all line sections) (wait_sound line sections)
  keeps (open_stmt.Release clauses) line = ticked line (release_code all line clauses) (release_sound line clauses)

  pub statements_sound : (s : Stmt) → CodesSound code (stmt_code all s).code
  statements_sound = folds.both IsSoundStmt (stmt_code_step all) (stmt_code_step all) keeps

  pub list_sound : (ss : List Stmt) → CodesSound code (codes_in_order (map (stmt_code all) ss))
  list_sound [] spot pc pads = flows_none code pc 0
  list_sound (s ∷ ss) spot pc pads =
      let first = (stmt_code all s).code spot in
      let k = length first in
      flows_then code pc first _ 0 0 0 (statements_sound s spot pc pads)
      (list_sound ss (in_scope ((stmt_code all s).scope spot.scope) (behind k spot)) (pc + k) (pads_behind code pc k (pc + k) spot.pads refl pads))
