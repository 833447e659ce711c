-- The code of a program is not long, and its places and depths are no great numbers.
use Rattle.std.proofs.Common.{ℕ, zero, suc, ◌+◌, ◌*◌, ◌≤◌, List, [], ◌∷◌, ◌++◌, length, Option, Some, None, arith, length-append}
use Rattle.std.specs.Prelude.{All, ◌-◌}
use Rattle.oss_syntax.specs.declared.tree.pragma.TaskMark.{TaskMark}
use Rattle.oss_syntax.specs.declared.tree.program.Function.{Function}
use Rattle.oss_syntax.specs.declared.tree.program.Item.{Item}
use Rattle.oss_syntax.specs.declared.tree.program.Item.TheVariants as items
use Rattle.oss_syntax.specs.declared.tree.program.Local.{Local}
use Rattle.oss_meaning.specs.Meaning.{main_number}
use Rattle.oss_meaning.specs.Names.{functions_of}
use Rattle.oss_code.specs.declared.instr.Instr.TheVariants as i
use Rattle.oss_lower_laws.specs.declared.lined.Lined.{Lined}
use Rattle.oss_lower_laws.specs.ExpressionCode.{expr_code}
use Rattle.oss_lower_laws.specs.Lowered.{bodies_from, body_code, body_place, bound_code, entered_code, entries_from, function_code, function_codes, function_spot, head_code, program_code}
use Rattle.oss_lower_laws.specs.StatementCode.{enclosed_code, end_code, end_length}
use Rattle.oss_lower_bounds.specs.Bounds.{CodesAreShort, PlacesAreShort}
use Rattle.oss_lower_bounds.specs.Sizes.{body_size, clauses_size, expr_size, function_size, items_size, locals_size, mark_size}
use Rattle.oss_lower_bounds.proofs.ShortCode.{AreShallow, IsShortList, deeper, short_as, short_none, short_one, short_then}
use Rattle.oss_lower_bounds.proofs.ShortExpressions.{expr_short}
use Rattle.oss_lower_bounds.proofs.ShortSections.{created_short}
use Rattle.oss_lower_bounds.proofs.ShortStatements.{body_short, enclosed_short}

bound_short : (line slot : ℕ) (ps : List Local) → IsShortList (16 * locals_size ps) (locals_size ps) (bound_code line slot ps)
bound_short line slot [] = short_none 0
bound_short line slot (p ∷ ps) =
    let rest = locals_size ps in
    let most = locals_size (p ∷ ps) in
    short_as (1 + (1 + 16 * rest)) (16 * most) most most
    (short_then (short_one line 0 most (i.Local slot) (omega arith)) (short_then (short_one line 1 most (i.SetLocal slot p.kind) (omega arith))
    (deeper (16 * rest) rest most (bound_short line (slot + 1) ps) (omega arith)))) (omega arith) (omega arith)

module _ (all : List Item) where
  entered_short : (f : Function) (o : Option TaskMark) → IsShortList (16 * mark_size o + 4) (1 + mark_size o) (entered_code all f o)
  entered_short f None = short_as 1 4 1 1 (short_one f.line 0 1 (i.Skip end_length) (omega arith)) (omega arith) (omega arith)
  entered_short f (Some mark) =
      let n = clauses_size mark.clauses in
      short_as (16 * n + 2 + (1 + 1)) (16 * n + 4) (1 + n) (1 + n)
      (short_then (deeper (16 * n + 2) n (1 + n) (created_short all f.params (2 + end_length) mark.clauses f.line) (omega arith))
      (short_then (short_one f.line 0 (1 + n) (i.Push 0) (omega arith)) (short_one f.line 1 (1 + n) i.Return (omega arith)))) (omega arith) (omega arith)

  function_short : (f : Function) → IsShortList (16 * function_size f) (function_size f) (function_code all f)
  function_short f =
      let params = locals_size f.params in
      let mark = mark_size f.mark in
      let body = body_size f.body in
      let most = function_size f in
      short_as (16 * params + (16 * mark + 4) + (16 * body + 6)) (16 * most) most most
      (short_then (short_then (deeper (16 * params) params most (bound_short f.line 0 f.params) (omega arith)) (deeper (16 * mark + 4) (1 + mark) most (entered_short f f.mark) (omega arith)))
      (enclosed_short f.line f.result (body_code all f) (16 * body) most (omega arith) (deeper (16 * body) body most (body_short all f.body (function_spot f)) (omega arith))))
      (omega arith) (omega arith)

  functions_short : (xs : List Item) → IsShortList (16 * items_size xs) (items_size xs) (function_codes all (functions_of xs))
  functions_short [] = short_none 0
  functions_short (items.Global g ∷ xs) = short_as (16 * items_size xs) (16 * (1 + items_size xs)) (items_size xs) (1 + items_size xs) (functions_short xs) (omega arith) (omega arith)
  functions_short (items.Function f ∷ xs) =
      let here = function_size f in
      let rest = items_size xs in
      short_as (16 * here + 16 * rest) (16 * (here + rest)) (here + rest) (here + rest)
      (short_then (deeper (16 * here) here (here + rest) (function_short f) (omega arith)) (deeper (16 * rest) rest (here + rest) (functions_short xs) (omega arith))) (omega arith) (omega arith)

  program_short : IsShortList (16 * items_size all + 3) (items_size all + 1) (program_code all)
  program_short =
      let n = items_size all in
      short_as (1 + (1 + (1 + 16 * n))) (16 * n + 3) (n + 1) (n + 1)
      (short_then (short_one 0 0 (n + 1) (i.Skip (body_place all (main_number all) - 1)) (omega arith))
      (short_then (short_one 0 0 (n + 1) (i.Push 0) (omega arith)) (short_then (short_one 0 1 (n + 1) i.Return (omega arith)) (deeper (16 * n) n (n + 1) (functions_short all) (omega arith)))))
      (omega arith) (omega arith)

  -- functions begin in the code, or at its end
  pub entries_within : (fs : List Function) (at : ℕ) → All (λ entry. entry ≤ at + length (function_codes all fs)) (entries_from all at fs)
  entries_within [] at k d less = absurd (omega (arith, less))
  entries_within (f ∷ fs) at zero d less = omega arith
  entries_within (f ∷ fs) at (suc k) d less =
      omega (arith, entries_within fs (at + length (function_code all f)) k d (omega (arith, less)), length-append (function_code all f) (function_codes all fs))

  -- and so do their bodies
  pub bodies_within : (fs : List Function) (at : ℕ) → All (λ entry. entry ≤ at + length (function_codes all fs)) (bodies_from all at fs)
  bodies_within [] at k d less = absurd (omega (arith, less))
  bodies_within (f ∷ fs) at zero d less =
      omega (
        arith,
        length-append (function_code all f) (function_codes all fs),
        length-append (head_code all f) (enclosed_code f.line f.result (body_code all f)),
        length-append (end_code f.line f.result) (body_code all f ++ end_code f.line f.result),
      )
  bodies_within (f ∷ fs) at (suc k) d less =
      omega (arith, bodies_within fs (at + length (function_code all f)) k d (omega (arith, less)), length-append (function_code all f) (function_codes all fs))

-- each of them is below a greater number
pub all_shallow : (most more : ℕ) (ls : List Lined) → most ≤ more → AreShallow most ls → All (λ l. l.depth ≤ more) ls
all_shallow most more [] le h k d less = absurd (omega (arith, less))
all_shallow most more (l ∷ ls) le h zero d less = omega (arith, le, h.0)
all_shallow most more (l ∷ ls) le h (suc k) d less = all_shallow most more ls le h.1 k d (omega (arith, less))

pub codes_are_short : CodesAreShort
codes_are_short all = record {
  short = omega (arith, (program_short all).few);
  shallow = all_shallow (items_size all + 1) (items_size all + 1) (program_code all) (omega arith) (program_short all).shallow;
}

-- those of a place, wherever it is written
pub places_are_short : PlacesAreShort
places_are_short all scope e line depth =
    let code = (expr_code all scope e).place line depth in
    let short = (expr_short all scope e).place line depth in
    let most = depth + expr_size e in
    record { short = short.few; shallow = all_shallow most most code (omega arith) short.shallow }
