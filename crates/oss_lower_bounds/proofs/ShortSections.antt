-- The instructions of sections and clauses are at most sixteen for each of their parts, and none of them stands behind more values than there are parts.
use Rattle.std.proofs.Common.{◌≡◌, ℕ, ◌+◌, ◌*◌, ◌≤◌, List, [], ◌∷◌, ◌++◌, length, map, Option, Some, None, arith}
use Rattle.std.proofs.lemmas.List.{length-map}
use Rattle.oss_syntax.specs.declared.tree.expr.Expr.{Expr}
use Rattle.oss_syntax.specs.declared.tree.pragma.Clause.{Clause}
use Rattle.oss_syntax.specs.declared.tree.pragma.Clause.TheVariants as clause
use Rattle.oss_syntax.specs.declared.tree.pragma.Form.{Form}
use Rattle.oss_syntax.specs.declared.tree.pragma.Form.TheVariants as form
use Rattle.oss_syntax.specs.declared.tree.pragma.Inner.{Inner}
use Rattle.oss_syntax.specs.declared.tree.pragma.Inner.TheVariants as inner
use Rattle.oss_syntax.specs.declared.tree.pragma.Section.{Section}
use Rattle.oss_syntax.specs.declared.tree.pragma.Turns.{Turns}
use Rattle.oss_syntax.specs.declared.tree.program.Item.{Item}
use Rattle.oss_syntax.specs.declared.tree.program.Local.{Local}
use Rattle.oss_meaning.specs.declared.clauses.Declared.{Declared}
use Rattle.oss_meaning.specs.Names.{found}
use Rattle.oss_meaning.specs.Sections.{inner_operands, operands_in, optional}
use Rattle.oss_code.specs.declared.instr.Instr.{Instr}
use Rattle.oss_code.specs.declared.instr.Instr.TheVariants as i
use Rattle.oss_code.specs.declared.instr.SectionBase.{SectionBase}
use Rattle.oss_lower_laws.specs.declared.lined.Lined.{Lined}
use Rattle.oss_lower_laws.specs.ExpressionCode.{arguments_code, expr_code, one}
use Rattle.oss_lower_laws.specs.SectionCode.{base_code, clause_code, clauses_code, created_code, form_code, indices_code, many_code, optional_code, plain_code, section_code, sections_code, turn_code}
use Rattle.oss_lower_bounds.specs.Sizes.{clause_size, clauses_size, expr_size, form_size, inner_size, optional_size, sections_size, total}
use Rattle.oss_lower_bounds.proofs.ShortCode.{IsShortList, deeper, short_as, short_none, short_one, short_then}
use Rattle.oss_lower_bounds.proofs.ShortExpressions.{expr_some, value_short, values_short}

-- The expressions of a section

abbrev pub exprs_size : List Expr → ℕ
exprs_size es = total (map expr_size es)

both_size : (xs ys : List Expr) → exprs_size (xs ++ ys) ≡ exprs_size xs + exprs_size ys
both_size [] ys = omega arith
both_size (x ∷ xs) ys = omega (arith, both_size xs ys)

optional_operand : (o : Option Expr) → exprs_size (optional o) ≡ optional_size o
optional_operand None = omega arith
optional_operand (Some e) = omega arith

inner_operand : (x : Inner) → exprs_size (inner_operands x) ≡ inner_size x
inner_operand (inner.Element e) = omega arith
inner_operand (inner.Length e n) = omega arith
inner_operand (inner.Span l u) = omega (arith, both_size (optional l) (optional u), optional_operand l, optional_operand u)

form_operand : (x : Form) → exprs_size (operands_in x) ≤ form_size x
form_operand form.Whole = omega arith
form_operand form.Deref = omega arith
form_operand (form.Shape n) = omega arith
form_operand (form.Element e) = omega arith
form_operand (form.Length e n) = omega arith
form_operand (form.Span l u) = omega (arith, both_size (optional l) (optional u), optional_operand l, optional_operand u)
form_operand (form.Grid rows columns) = omega (arith, both_size (inner_operands rows) (inner_operands columns), inner_operand rows, inner_operand columns)
form_operand (form.Many e f turns) = omega arith

module _ (all : List Item) where
  -- a value, with nothing before it
  pub first_value : (scope : List Local) (e : Expr) (line : ℕ) → IsShortList (16 * expr_size e) (expr_size e) ((expr_code all scope e).value line 0)
  first_value scope e line = deeper (16 * expr_size e) (0 + expr_size e) (expr_size e) (value_short all scope e line 0) (omega arith)

  second_value : (scope : List Local) (e : Expr) (line : ℕ) → IsShortList (16 * expr_size e) (1 + expr_size e) ((expr_code all scope e).value line 1)
  second_value scope e line = value_short all scope e line 1

  pub first_values : (scope : List Local) (es : List Expr) (line : ℕ) → IsShortList (16 * exprs_size es) (exprs_size es) (arguments_code (map (expr_code all scope) es) line 0)
  first_values scope es line = deeper (16 * exprs_size es) (0 + exprs_size es) (exprs_size es) ((values_short all scope es).code line 0) (omega arith)

  pub values_few : (es : List Expr) → length es ≤ exprs_size es
  values_few es = omega (arith, (values_short all [] es).count, length-map es (expr_code all []))

  plain_short : (scope : List Local) (d : Declared) (s : Section) (line : ℕ) → IsShortList (16 * (1 + form_size s.form)) (1 + form_size s.form) (plain_code all scope d s line)
  plain_short scope d s line =
      let es = operands_in s.form in
      short_as (16 * exprs_size es + 1) (16 * (1 + form_size s.form)) (exprs_size es) (1 + form_size s.form)
      (short_then (first_values scope es line) (short_one line (length es) (exprs_size es) (i.Section (base_code (found all scope s.base)) (form_code s.form) d) (values_few es)))
      (omega (arith, form_operand s.form)) (omega (arith, form_operand s.form))

  optional_short : (scope : List Local) (o : Option Expr) (line : ℕ) → IsShortList (1 + 16 * optional_size o) (optional_size o) (optional_code all scope o line)
  optional_short scope None line = short_one line 0 0 (i.Push 0) (omega arith)
  optional_short scope (Some e) line = short_as (16 * expr_size e) (1 + 16 * expr_size e) (expr_size e) (expr_size e) (first_value scope e line) (omega arith) (omega arith)

  turn_short : (scope : List Local) (over : SectionBase) (e : Expr) (o : Option Expr) (line : ℕ)
      → IsShortList (16 * (expr_size e + optional_size o) + 1) (expr_size e + optional_size o) (turn_code all scope over e o line)
  turn_short scope over e None line =
      short_as (16 * expr_size e + 1) (16 * (expr_size e + 0) + 1) (expr_size e) (expr_size e + 0)
      (short_then (first_value scope e line) (short_one line 1 (expr_size e) (i.Turn over (indices_code None)) (expr_some e))) (omega arith) (omega arith)
  turn_short scope over e (Some f) line =
      let most = expr_size e + expr_size f in
      short_as (16 * expr_size e + (16 * expr_size f + 1)) (16 * most + 1) most most
      (short_then (deeper (16 * expr_size e) (expr_size e) most (first_value scope e line) (omega arith))
      (short_then (deeper (16 * expr_size f) (1 + expr_size f) most (second_value scope f line) (omega (arith, expr_some e)))
      (short_one line 2 most (i.Turn over (indices_code (Some f))) (omega (arith, expr_some e, expr_some f))))) (omega arith) (omega arith)

  many_short : (scope : List Local) (d : Declared) (over : SectionBase) (e : Expr) (o : Option Expr) (turns : Turns) (line : ℕ)
      → IsShortList (16 * (1 + form_size (form.Many e o turns))) (1 + form_size (form.Many e o turns)) (many_code all scope d over e o turns line)
  many_short scope d over e o turns line =
      short_as (1 + 16 * starts + (16 * count + (1 + (16 * indices + 1 + (1 + 1))))) (16 * (1 + form_size (form.Many e o turns))) most most
      (short_then (deeper (1 + 16 * starts) starts most (optional_short scope turns.variable.first line) (omega arith))
      (short_then (deeper (16 * count) (1 + count) most (second_value scope turns.count line) (omega arith))
      (short_then (short_one line 2 most (i.Turns (length turn + 1)) (omega (arith, expr_some e, expr_some turns.count)))
      (short_then (deeper (16 * indices + 1) indices most (turn_short (scope ++ turns.variable ∷ []) over e o line) (omega arith))
      (short_then (short_one line 0 most (i.NextTurn (length turn)) (omega arith)) (short_one line 0 most (i.EndTurns d) (omega arith)))))))
      (omega arith) (omega arith)
    where
      starts : ℕ
      starts = optional_size turns.variable.first

      count : ℕ
      count = expr_size turns.count

      indices : ℕ
      indices = expr_size e + optional_size o

      most : ℕ
      most = 1 + form_size (form.Many e o turns)

      turn : List Lined
      turn = turn_code all (scope ++ turns.variable ∷ []) over e o line

  abbrev section_by : List ℕ → Form → ℕ → ℕ → Section
  section_by base f first name_line = record { base = base; form = f; line = first; base_line = name_line }

  section_by_short : (scope : List Local) (d : Declared) (base : List ℕ) (f : Form) (first name_line line : ℕ)
      → IsShortList (16 * (1 + form_size f)) (1 + form_size f) (section_code all scope d (section_by base f first name_line) line)
  section_by_short scope d base (form.Many e o turns) first name_line line = many_short scope d (base_code (found all scope base)) e o turns line
  section_by_short scope d base form.Whole first name_line line = plain_short scope d (section_by base form.Whole first name_line) line
  section_by_short scope d base form.Deref first name_line line = plain_short scope d (section_by base form.Deref first name_line) line
  section_by_short scope d base (form.Shape m) first name_line line = plain_short scope d (section_by base (form.Shape m) first name_line) line
  section_by_short scope d base (form.Element e) first name_line line = plain_short scope d (section_by base (form.Element e) first name_line) line
  section_by_short scope d base (form.Length l m) first name_line line = plain_short scope d (section_by base (form.Length l m) first name_line) line
  section_by_short scope d base (form.Span l u) first name_line line = plain_short scope d (section_by base (form.Span l u) first name_line) line
  section_by_short scope d base (form.Grid rows columns) first name_line line = plain_short scope d (section_by base (form.Grid rows columns) first name_line) line

  pub sections_short : (scope : List Local) (d : Declared) (ss : List Section) (line : ℕ) → IsShortList (16 * sections_size ss) (sections_size ss) (sections_code all scope d ss line)
  sections_short scope d [] line = short_none 0
  sections_short scope d (s ∷ ss) line =
      let here = 1 + form_size s.form in
      let most = sections_size (s ∷ ss) in
      short_as (16 * here + 16 * sections_size ss) (16 * most) most most
      (short_then (deeper (16 * here) here most (section_by_short scope d s.base s.form s.line s.base_line line) (omega arith))
      (deeper (16 * sections_size ss) (sections_size ss) most (sections_short scope d ss line) (omega arith))) (omega arith) (omega arith)

  -- Clauses

  valued_short : (scope : List Local) (e : Expr) (what : Instr) (line : ℕ) → IsShortList (16 * (1 + expr_size e)) (1 + expr_size e) ((expr_code all scope e).value line 0 ++ one line 1 what)
  valued_short scope e what line =
      short_as (16 * expr_size e + 1) (16 * (1 + expr_size e)) (expr_size e) (1 + expr_size e)
      (short_then (first_value scope e line) (short_one line 1 (expr_size e) what (expr_some e))) (omega arith) (omega arith)

  clause_short : (scope : List Local) (c : Clause) (line : ℕ) → IsShortList (16 * clause_size c) (clause_size c) (clause_code all scope c line)
  clause_short scope (clause.Depend mode strong fresh sections) line =
      short_as (16 * sections_size sections) (16 * (1 + sections_size sections)) (sections_size sections) (1 + sections_size sections)
      (sections_short scope (record { mode = mode; strong = strong; fresh = fresh }) sections line) (omega arith) (omega arith)
  clause_short scope (clause.If e) line = valued_short scope e i.When line
  clause_short scope (clause.Final e) line = valued_short scope e i.Final line
  clause_short scope clause.Wait line = short_as 1 (16 * 1) 1 1 (short_one line 0 1 i.Late (omega arith)) (omega arith) (omega arith)
  clause_short scope (clause.Label text) line = short_as 0 (16 * 1) 1 1 (short_none 1) (omega arith) (omega arith)
  clause_short scope (clause.Priority e) line = valued_short scope e i.Priority line
  clause_short scope (clause.Grain e) line = short_as 0 (16 * (1 + expr_size e)) 1 (1 + expr_size e) (short_none 1) (omega arith) (omega arith)

  pub clauses_short : (scope : List Local) (cs : List Clause) (line : ℕ) → IsShortList (16 * clauses_size cs) (clauses_size cs) (clauses_code all scope cs line)
  clauses_short scope [] line = short_none 0
  clauses_short scope (c ∷ cs) line =
      let most = clauses_size (c ∷ cs) in
      short_as (16 * clause_size c + 16 * clauses_size cs) (16 * most) most most
      (short_then (deeper (16 * clause_size c) (clause_size c) most (clause_short scope c line) (omega arith))
      (deeper (16 * clauses_size cs) (clauses_size cs) most (clauses_short scope cs line) (omega arith))) (omega arith) (omega arith)

  -- a creation
  pub created_short : (scope : List Local) (passed : ℕ) (cs : List Clause) (line : ℕ) → IsShortList (16 * clauses_size cs + 2) (clauses_size cs) (created_code all scope passed cs line)
  created_short scope passed cs line =
      short_as (1 + (16 * clauses_size cs + 1)) (16 * clauses_size cs + 2) (clauses_size cs) (clauses_size cs)
      (short_then (short_one line 0 (clauses_size cs) i.Begin (omega arith)) (short_then (clauses_short scope cs line) (short_one line 0 (clauses_size cs) (i.Create passed) (omega arith))))
      (omega arith) (omega arith)
