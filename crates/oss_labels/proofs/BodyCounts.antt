-- A program has as many bodies of task statements as there are places where one begins in its code.
use Rattle.std.proofs.Common.{◌≡◌, ℕ, ◌+◌, List, [], ◌∷◌, ◌++◌, length, map, Option, Some, None, refl, arith, length-append}
use Rattle.oss_syntax.specs.declared.tree.program.Function.{Function}
use Rattle.oss_syntax.specs.declared.tree.program.Item.{Item}
use Rattle.oss_syntax.specs.declared.tree.stmt.Stmt.{Stmt}
use Rattle.oss_syntax.specs.declared.tree.stmt.StmtKind.TheOpen.{StmtKind-F}
use Rattle.oss_syntax.specs.declared.tree.stmt.StmtKind.TheOpen as open_stmt
use Rattle.oss_meaning.specs.Meaning.{bodies_from, function_place, tasks_behind}
use Rattle.oss_meaning.specs.Statements.{Around, Meaning, bodies_of_all, meaning_of, meanings_of, part_bodies, part_behind, body_place, other_place, in_task, stmt_step}
use Rattle.oss_lower_laws.specs.Lowered.{body_entry, function_code, function_spot, statements_from}
use Rattle.oss_lower_laws.specs.StatementCode.{Spot, StmtCode, behind, enclosed_spot, entries_in_order, in_scope, part_entries, stmt_code, stmt_code_step, stmt_codes, task_entry}
use Rattle.oss_lower_laws.proofs.ExpressionFolds.{Pair}
use Rattle.oss_lower_laws.proofs.StatementFolds as folds
use Rattle.oss_lower_laws.proofs.StatementFolds.{AtLines, Keeps}

-- A statement has as many bodies by its meaning as by its code, wherever it stands.
abbrev AsMany : Meaning → StmtCode → Type 0
AsMany m c = (around : Around) (spot : Spot) (at : ℕ) → length (m.bodies around) ≡ length (c.entries spot at)

abbrev Counted : Type 0
Counted = Pair AsMany

abbrev meaning_in : Counted → Meaning
meaning_in p = p.left

abbrev code_in : Counted → StmtCode
code_in p = p.right

abbrev meaning_part : Option Counted → Option Meaning
meaning_part None = None
meaning_part (Some p) = Some p.left

abbrev code_part : Option Counted → Option StmtCode
code_part None = None
code_part (Some p) = Some p.right

in_order : (ps : List Counted) (around : Around) (spot : Spot) (at : ℕ) → length (bodies_of_all (map meaning_in ps) around) ≡ length (entries_in_order (map code_in ps) spot at)
in_order [] around spot at = refl
in_order (p ∷ ps) around spot at =
    let k = length (p.right.code spot) in
    let inner = in_scope (p.right.scope spot.scope) (behind k spot) in
    omega (
      arith,
      length-append (p.left.bodies around) (bodies_of_all (map meaning_in ps) (p.left.behind around)),
      length-append (p.right.entries spot at) (entries_in_order (map code_in ps) inner (at + k)),
      p.related around spot at,
      in_order ps (p.left.behind around) inner (at + k),
    )

part : (o : Option Counted) (around : Around) (spot : Spot) (at : ℕ) → length (part_bodies (meaning_part o) around) ≡ length (part_entries (code_part o) spot at)
part None around spot at = refl
part (Some p) around spot at = p.related around spot at

module _ (all : List Item) where
  choices : (line : ℕ) (side : Counted) (other : Option Counted) (around : Around) (inner outer : Spot) (at to : ℕ)
      → length (side.left.bodies around ++ part_bodies (meaning_part other) (other_place side.left around)) ≡ length (side.right.entries inner at ++ part_entries (code_part other) outer to)
  choices line side other around inner outer at to =
      omega (
        arith,
        length-append (side.left.bodies around) (part_bodies (meaning_part other) (other_place side.left around)),
        length-append (side.right.entries inner at) (part_entries (code_part other) outer to),
        side.related around inner at,
        part other (other_place side.left around) outer to,
      )

  loops : (last : Option Counted) (body : Counted) (around : Around) (inner outer : Spot) (at to : ℕ)
      → length (part_bodies (meaning_part last) around ++ body.left.bodies (body_place (meaning_part last) around)) ≡ length (part_entries (code_part last) outer to ++ body.right.entries inner at)
  loops last body around inner outer at to =
      omega (
        arith,
        length-append (part_bodies (meaning_part last) around) (body.left.bodies (body_place (meaning_part last) around)),
        length-append (part_entries (code_part last) outer to) (body.right.entries inner at),
        part last around outer to,
        body.related (body_place (meaning_part last) around) inner at,
      )

  fors : (first last : Option Counted) (body : Counted) (around : Around) (spot inner outer : Spot) (at from to : ℕ)
      → length (part_bodies (meaning_part first) around ++ part_bodies (meaning_part last) (part_behind (meaning_part first) around) ++ body.left.bodies (body_place (meaning_part last) (part_behind (meaning_part first) around)))
      ≡ length (part_entries (code_part first) spot at ++ (part_entries (code_part last) outer to ++ body.right.entries inner from))
  fors first last body around spot inner outer at from to =
      let behind_first = part_behind (meaning_part first) around in
      omega (
        arith,
        length-append (part_bodies (meaning_part first) around ++ part_bodies (meaning_part last) behind_first) (body.left.bodies (body_place (meaning_part last) behind_first)),
        length-append (part_bodies (meaning_part first) around) (part_bodies (meaning_part last) behind_first),
        length-append (part_bodies (meaning_part last) behind_first) (body.left.bodies (body_place (meaning_part last) behind_first)),
        length-append (part_entries (code_part first) spot at) (part_entries (code_part last) outer to ++ body.right.entries inner from),
        part first around spot at,
        loops last body behind_first inner outer from to,
      )

  keeps : (z : StmtKind-F (Pair (AtLines AsMany)) Counted) → Keeps AsMany (stmt_step all) (stmt_code_step all) z
  keeps (open_stmt.Block ps) line around spot at = in_order ps around spot at
  keeps open_stmt.Empty line around spot at = refl
  keeps (open_stmt.Declare ls) line around spot at = refl
  keeps (open_stmt.Assign t o e) line around spot at = refl
  keeps (open_stmt.Call name es) line around spot at = refl
  keeps (open_stmt.Print format es) line around spot at = refl
  keeps (open_stmt.If e side None) line around spot at = choices line side None around _ spot _ at
  keeps (open_stmt.If e side (Some other)) line around spot at = choices line side (Some other) around _ _ _ _
  keeps (open_stmt.While e body) line around spot at = fors None None body around spot _ spot at _ at
  keeps (open_stmt.For None test None body) line around spot at = fors None None body around spot _ spot at _ at
  keeps (open_stmt.For None test (Some last) body) line around spot at = fors None (Some last) body around spot _ _ at _ _
  keeps (open_stmt.For (Some first) test None body) line around spot at = fors (Some first) None body around _ _ spot _ _ at
  keeps (open_stmt.For (Some first) test (Some last) body) line around spot at = fors (Some first) (Some last) body around _ _ _ _ _ _
  keeps (open_stmt.Return e) line around spot at = refl
  keeps open_stmt.Break line around spot at = refl
  keeps open_stmt.Continue line around spot at = refl
  keeps (open_stmt.Task mark body) line around spot at =
      omega (arith, body.related (in_task around) (enclosed_spot (behind 1 spot)) (at + 1 + task_entry all line mark.clauses (behind 1 spot)))
  keeps (open_stmt.TaskLoop head body) line around spot at = refl
  keeps (open_stmt.TaskWait sections) line around spot at = refl
  keeps (open_stmt.Release clauses) line around spot at = refl

  stmt_many : (s : Stmt) → AsMany (meaning_of all s) (stmt_code all s)
  stmt_many = folds.both AsMany (stmt_step all) (stmt_code_step all) keeps

  body_many : (ss : List Stmt) (around : Around) (spot : Spot) (at : ℕ) → length (bodies_of_all (meanings_of all ss) around) ≡ length (entries_in_order (stmt_codes all ss) spot at)
  body_many [] around spot at = refl
  body_many (s ∷ ss) around spot at =
      let m = meaning_of all s in
      let c = stmt_code all s in
      let k = length (c.code spot) in
      let inner = in_scope (c.scope spot.scope) (behind k spot) in
      omega (
        arith,
        length-append (m.bodies around) (bodies_of_all (meanings_of all ss) (m.behind around)),
        length-append (c.entries spot at) (entries_in_order (stmt_codes all ss) inner (at + k)),
        stmt_many s around spot at,
        body_many ss (m.behind around) inner (at + k),
      )

  pub bodies_many : (fs : List Function) (tasks from : ℕ) → length (bodies_from all fs tasks) ≡ length (statements_from all from fs)
  bodies_many [] tasks from = refl
  bodies_many (f ∷ fs) tasks from =
      let around = function_place f.params tasks in
      let next = from + length (function_code all f) in
      omega (
        arith,
        length-append (bodies_of_all (meanings_of all f.body) around) (bodies_from all fs (tasks_behind all f tasks)),
        length-append (entries_in_order (stmt_codes all f.body) (function_spot f) (body_entry all f from)) (statements_from all next fs),
        body_many f.body around (function_spot f) (body_entry all f from),
        bodies_many fs (tasks_behind all f tasks) next,
      )
