-- The instructions of array sections and clauses: the expressions of a section in text order, and then the instruction that adds its cells; a
-- multidependency makes its turns; and each clause keeps what it gives in the frame.
-- Read against: with `long a[4];` and the local `n` in the place 0 the clauses `in(a[1;n]) if(n)` are `Push 1, Local 0, Section a of a length, Local 0,
-- When`; `in({ a[k], k = 0; n })` is `Push 0, Local 0, Turns 3, Local 1, Turn a of one index, NextTurn 2, EndTurns`.
use Rattle.std.specs.Prelude.{ℕ, ◌+◌, List, [], ◌∷◌, ◌++◌, length, map, Option, Some, None, is_some}
use Rattle.oss_syntax.specs.declared.tree.expr.Expr.{Expr}
use Rattle.oss_syntax.specs.declared.tree.pragma.Clause.{Clause}
use Rattle.oss_syntax.specs.declared.tree.pragma.Clause.TheVariants as clause
use Rattle.oss_syntax.specs.declared.tree.pragma.Form.{Form}
use Rattle.oss_syntax.specs.declared.tree.pragma.Form.TheVariants as form
use Rattle.oss_syntax.specs.declared.tree.pragma.Inner.{Inner}
use Rattle.oss_syntax.specs.declared.tree.pragma.Inner.TheVariants as inner
use Rattle.oss_syntax.specs.declared.tree.pragma.Section.{Section}
use Rattle.oss_syntax.specs.declared.tree.pragma.Turns.{Turns}
use Rattle.oss_syntax.specs.declared.tree.program.Item.{Item}
use Rattle.oss_syntax.specs.declared.tree.program.Local.{Local}
use Rattle.oss_meaning.specs.declared.clauses.Declared.{Declared}
use Rattle.oss_meaning.specs.declared.names.Found.{Found}
use Rattle.oss_meaning.specs.declared.names.Found.TheVariants as names
use Rattle.oss_meaning.specs.Names.{found}
use Rattle.oss_meaning.specs.Sections.{operands_in}
use Rattle.oss_code.specs.declared.instr.Indices.{Indices}
use Rattle.oss_code.specs.declared.instr.Indices.TheVariants as indices
use Rattle.oss_code.specs.declared.instr.Instr.TheVariants as i
use Rattle.oss_code.specs.declared.instr.PartForm.{PartForm}
use Rattle.oss_code.specs.declared.instr.PartForm.TheVariants as part_form
use Rattle.oss_code.specs.declared.instr.SectionBase.{SectionBase}
use Rattle.oss_code.specs.declared.instr.SectionBase.TheVariants as section_base
use Rattle.oss_code.specs.declared.instr.SectionForm.{SectionForm}
use Rattle.oss_code.specs.declared.instr.SectionForm.TheVariants as section_form
use Rattle.oss_lower_laws.specs.declared.lined.Lined.{Lined}
use Rattle.oss_lower_laws.specs.ExpressionCode.{arguments_code, expr_code, one}

-- Sections

-- what a section is over, its name standing for this
abbrev pub base_code : Found → SectionBase
base_code (names.Scalar g n) = section_base.Global g
base_code (names.Array g n) = section_base.Global g
base_code (names.Grid g n) = section_base.Global g
base_code (names.Variable slot k) = section_base.Pointer slot
base_code _ = section_base.Nothing

-- how a section names a part of one dimension
abbrev pub inner_code : Inner → PartForm
inner_code (inner.Element e) = part_form.Element
inner_code (inner.Length l n) = part_form.Length
inner_code (inner.Span l u) = part_form.Span (is_some l) (is_some u)

-- how a section that is no multidependency names its cells
abbrev pub form_code : Form → SectionForm
form_code form.Whole = section_form.Whole
form_code form.Deref = section_form.Deref
form_code (form.Shape n) = section_form.Shape
form_code (form.Element e) = section_form.Line part_form.Element
form_code (form.Length l n) = section_form.Line part_form.Length
form_code (form.Span l u) = section_form.Line (part_form.Span (is_some l) (is_some u))
form_code (form.Grid rows columns) = section_form.Grid (inner_code rows) (inner_code columns)
form_code (form.Many e f turns) = section_form.Whole

-- a section that is no multidependency: its expressions, and then its cells are added
abbrev pub plain_code : List Item → List Local → Declared → Section → ℕ → List Lined
plain_code all scope d s line =
    arguments_code (map (expr_code all scope) (operands_in s.form)) line 0
    ++ one line (length (operands_in s.form)) (i.Section (base_code (found all scope s.base)) (form_code s.form) d)

-- the value of an expression that may be left out: 0
abbrev pub optional_code : List Item → List Local → Option Expr → ℕ → List Lined
optional_code all scope None line = one line 0 (i.Push 0)
optional_code all scope (Some e) line = (expr_code all scope e).value line 0

-- how many indices a turn has
abbrev pub indices_code : Option Expr → Indices
indices_code None = indices.One
indices_code (Some f) = indices.Two

-- the second index of a turn, if one is written
abbrev pub second_code : List Item → List Local → Option Expr → ℕ → List Lined
second_code all scope None line = []
second_code all scope (Some f) line = (expr_code all scope f).value line 1

-- how many values stand before the cells of a turn are added
abbrev pub index_count : Option Expr → ℕ
index_count None = 1
index_count (Some f) = 2

-- the indices of a turn, and the cells that they name
abbrev pub turn_code : List Item → List Local → SectionBase → Expr → Option Expr → ℕ → List Lined
turn_code all scope base e f line =
    (expr_code all scope e).value line 0 ++ (second_code all scope f line ++ one line (index_count f) (i.Turn base (indices_code f)))

-- a multidependency: the first value of its variable, the number of its turns, a turn, and what leads to the next one
abbrev pub many_code : List Item → List Local → Declared → SectionBase → Expr → Option Expr → Turns → ℕ → List Lined
many_code all scope d base e f turns line =
    optional_code all scope turns.variable.first line ++ ((expr_code all scope turns.count).value line 1
    ++ (one line 2 (i.Turns (length (turn_code all (scope ++ turns.variable ∷ []) base e f line) + 1))
    ++ (turn_code all (scope ++ turns.variable ∷ []) base e f line
    ++ (one line 0 (i.NextTurn (length (turn_code all (scope ++ turns.variable ∷ []) base e f line))) ++ one line 0 (i.EndTurns d)))))

-- a section: `{ a[k], k = 0; n }` makes turns, and each other form is one instruction behind its expressions
abbrev pub section_code : List Item → List Local → Declared → Section → ℕ → List Lined
section_code all scope d s line = elim (s.form) [
  | form.Many e f turns ↦ many_code all scope d (base_code (found all scope s.base)) e f turns line
  | form.Whole ↦ plain_code all scope d s line
  | form.Deref ↦ plain_code all scope d s line
  | form.Shape n ↦ plain_code all scope d s line
  | form.Element e ↦ plain_code all scope d s line
  | form.Length l n ↦ plain_code all scope d s line
  | form.Span l u ↦ plain_code all scope d s line
  | form.Grid rows columns ↦ plain_code all scope d s line
]

-- sections in text order
abbrev pub sections_code : List Item → List Local → Declared → List Section → ℕ → List Lined
sections_code all scope d [] line = []
sections_code all scope d (s ∷ rest) line = section_code all scope d s line ++ sections_code all scope d rest line

-- Clauses

-- a clause: what it gives is kept in the frame
abbrev pub clause_code : List Item → List Local → Clause → ℕ → List Lined
clause_code all scope (clause.Depend mode strong fresh sections) line = sections_code all scope (record { mode = mode; strong = strong; fresh = fresh }) sections line
clause_code all scope (clause.If e) line = (expr_code all scope e).value line 0 ++ one line 1 i.When
clause_code all scope (clause.Final e) line = (expr_code all scope e).value line 0 ++ one line 1 i.Final
clause_code all scope clause.Wait line = one line 0 i.Late
clause_code all scope (clause.Label text) line = []
clause_code all scope (clause.Priority e) line = (expr_code all scope e).value line 0 ++ one line 1 i.Priority
clause_code all scope (clause.Grain e) line = []

-- clauses in text order
abbrev pub clauses_code : List Item → List Local → List Clause → ℕ → List Lined
clauses_code all scope [] line = []
clauses_code all scope (c ∷ rest) line = clause_code all scope c line ++ clauses_code all scope rest line

-- A creation: its tests, its clauses, and the creation of a task whose body begins so many instructions behind it.
abbrev pub created_code : List Item → List Local → ℕ → List Clause → ℕ → List Lined
created_code all scope passed clauses line = one line 0 i.Begin ++ (clauses_code all scope clauses line ++ one line 0 (i.Create passed))
