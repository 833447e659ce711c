-- No instruction of sections and clauses creates a task; that of a creation stands at its end.
use Rattle.std.proofs.Common.{◌≡◌, ◌∙◌, ℕ, ◌+◌, List, [], ◌∷◌, ◌++◌, length, Option, Some, None, refl, ap, arith, length-append}
use Rattle.oss_syntax.specs.declared.tree.expr.Expr.{Expr}
use Rattle.oss_syntax.specs.declared.tree.pragma.Clause.{Clause}
use Rattle.oss_syntax.specs.declared.tree.pragma.Clause.TheVariants as clause
use Rattle.oss_syntax.specs.declared.tree.pragma.Form.{Form}
use Rattle.oss_syntax.specs.declared.tree.pragma.Form.TheVariants as form
use Rattle.oss_syntax.specs.declared.tree.pragma.Section.{Section}
use Rattle.oss_syntax.specs.declared.tree.pragma.Turns.{Turns}
use Rattle.oss_syntax.specs.declared.tree.program.Item.{Item}
use Rattle.oss_syntax.specs.declared.tree.program.Local.{Local}
use Rattle.oss_meaning.specs.declared.clauses.Declared.{Declared}
use Rattle.oss_meaning.specs.Names.{found}
use Rattle.oss_meaning.specs.Sections.{operands_in}
use Rattle.oss_code.specs.declared.instr.Instr.{Instr}
use Rattle.oss_code.specs.declared.instr.Instr.TheVariants as i
use Rattle.oss_code.specs.declared.instr.SectionBase.{SectionBase}
use Rattle.oss_lower_laws.specs.ExpressionCode.{expr_code, one}
use Rattle.oss_lower_laws.specs.SectionCode.{base_code, clause_code, clauses_code, created_code, form_code, indices_code, many_code, optional_code, plain_code, section_code, sections_code, turn_code}
use Rattle.oss_labels.proofs.CreatedLists.{IsPlain, IsQuiet, made, made_behind, plain_none, plain_one, plain_then}
use Rattle.oss_labels.proofs.PlainExpressions.{value_plain, values_plain}

module _ (all : List Item) where
  plain_plain : (scope : List Local) (d : Declared) (s : Section) (line : ℕ) → IsPlain (plain_code all scope d s line)
  plain_plain scope d s line =
      plain_then (values_plain all scope (operands_in s.form) line 0) (plain_one line (length (operands_in s.form)) (i.Section (base_code (found all scope s.base)) (form_code s.form) d) (λ at. refl))

  optional_plain : (scope : List Local) (o : Option Expr) (line : ℕ) → IsPlain (optional_code all scope o line)
  optional_plain scope None line = plain_one line 0 (i.Push 0) (λ at. refl)
  optional_plain scope (Some e) line = value_plain all scope e line 0

  turn_plain : (scope : List Local) (over : SectionBase) (e : Expr) (o : Option Expr) (line : ℕ) → IsPlain (turn_code all scope over e o line)
  turn_plain scope over e None line = plain_then (value_plain all scope e line 0) (plain_one line 1 (i.Turn over (indices_code None)) (λ at. refl))
  turn_plain scope over e (Some f) line =
      plain_then (value_plain all scope e line 0) (plain_then (value_plain all scope f line 1) (plain_one line 2 (i.Turn over (indices_code (Some f))) (λ at. refl)))

  many_plain : (scope : List Local) (d : Declared) (over : SectionBase) (e : Expr) (o : Option Expr) (turns : Turns) (line : ℕ) → IsPlain (many_code all scope d over e o turns line)
  many_plain scope d over e o turns line =
      plain_then (optional_plain scope turns.variable.first line)
      (plain_then (value_plain all scope turns.count line 1)
      (plain_then (plain_one line 2 _ (λ at. refl))
      (plain_then (turn_plain (scope ++ turns.variable ∷ []) over e o line)
      (plain_then (plain_one line 0 _ (λ at. refl)) (plain_one line 0 (i.EndTurns d) (λ at. refl))))))

  abbrev section_by : List ℕ → Form → ℕ → ℕ → Section
  section_by base f first name_line = record { base = base; form = f; line = first; base_line = name_line }

  section_by_plain : (scope : List Local) (d : Declared) (base : List ℕ) (f : Form) (first name_line line : ℕ) → IsPlain (section_code all scope d (section_by base f first name_line) line)
  section_by_plain scope d base (form.Many e o turns) first name_line line = many_plain scope d (base_code (found all scope base)) e o turns line
  section_by_plain scope d base form.Whole first name_line line = plain_plain scope d (section_by base form.Whole first name_line) line
  section_by_plain scope d base form.Deref first name_line line = plain_plain scope d (section_by base form.Deref first name_line) line
  section_by_plain scope d base (form.Shape m) first name_line line = plain_plain scope d (section_by base (form.Shape m) first name_line) line
  section_by_plain scope d base (form.Element e) first name_line line = plain_plain scope d (section_by base (form.Element e) first name_line) line
  section_by_plain scope d base (form.Length l m) first name_line line = plain_plain scope d (section_by base (form.Length l m) first name_line) line
  section_by_plain scope d base (form.Span l u) first name_line line = plain_plain scope d (section_by base (form.Span l u) first name_line) line
  section_by_plain scope d base (form.Grid rows columns) first name_line line = plain_plain scope d (section_by base (form.Grid rows columns) first name_line) line

  pub sections_plain : (scope : List Local) (d : Declared) (ss : List Section) (line : ℕ) → IsPlain (sections_code all scope d ss line)
  sections_plain scope d [] line = plain_none
  sections_plain scope d (s ∷ ss) line = plain_then (section_by_plain scope d s.base s.form s.line s.base_line line) (sections_plain scope d ss line)

  -- Clauses

  valued_plain : (scope : List Local) (e : Expr) (what : Instr) (line : ℕ) → IsQuiet what → IsPlain ((expr_code all scope e).value line 0 ++ one line 1 what)
  valued_plain scope e what line quiet = plain_then (value_plain all scope e line 0) (plain_one line 1 what quiet)

  clause_plain : (scope : List Local) (c : Clause) (line : ℕ) → IsPlain (clause_code all scope c line)
  clause_plain scope (clause.Depend mode strong fresh sections) line = sections_plain scope (record { mode = mode; strong = strong; fresh = fresh }) sections line
  clause_plain scope (clause.If e) line = valued_plain scope e i.When line (λ at. refl)
  clause_plain scope (clause.Final e) line = valued_plain scope e i.Final line (λ at. refl)
  clause_plain scope clause.Wait line = plain_one line 0 i.Late (λ at. refl)
  clause_plain scope (clause.Label text) line = plain_none
  clause_plain scope (clause.Priority e) line = valued_plain scope e i.Priority line (λ at. refl)
  clause_plain scope (clause.Grain e) line = plain_none

  pub clauses_plain : (scope : List Local) (cs : List Clause) (line : ℕ) → IsPlain (clauses_code all scope cs line)
  clauses_plain scope [] line = plain_none
  clauses_plain scope (c ∷ cs) line = plain_then (clause_plain scope c line) (clauses_plain scope cs line)

  -- how long a creation is
  pub created_long : (scope : List Local) (passed : ℕ) (cs : List Clause) (line : ℕ) → length (created_code all scope passed cs line) ≡ length (clauses_code all scope cs line) + 2
  created_long scope passed cs line = omega (arith, length-append (clauses_code all scope cs line) (one line 0 (i.Create passed)))

  -- A creation leads behind its end, past so many instructions.
  pub created_made : (scope : List Local) (passed : ℕ) (cs : List Clause) (line at entry : ℕ) → entry ≡ at + length (created_code all scope passed cs line) + passed
      → made at (created_code all scope passed cs line) ≡ entry ∷ []
  created_made scope passed cs line at entry e =
      let inside = clauses_code all scope cs line in
      let last = at + 1 + length inside in
      made_behind at (at + 1) (one line 0 i.Begin) (inside ++ one line 0 (i.Create passed)) (omega arith) (plain_one line 0 i.Begin (λ p. refl))
      ∙ made_behind (at + 1) last inside (one line 0 (i.Create passed)) refl (clauses_plain scope cs line)
      ∙ ap (λ n. n ∷ []) (omega (arith, e, created_long scope passed cs line))
