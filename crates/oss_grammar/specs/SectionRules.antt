-- The rules on array sections and on the clauses of a pragma: a section has a base that its form allows, its expressions are
-- numbers, a reduction names numbers of 64 bits, and a pragma has at most 64 sections.
-- Read against: with `long x, a[4], m[3][4];` and a local `long *p` the sections `x`, `a`, `a[1]`, `p[0;2]`, `*p`, `m`, `m[1:]` and `m[1][0;2]`
-- break no rule; `x[0]`, `p`, `p[1:]`, `*m`, `[2]m` and `a[1][2]` break one each, at their first token.
use Rattle.std.specs.Prelude.{ℕ, ◌+◌, ◌==◌, nat_le, Bool, true, false, not, ◌&&◌, ◌||◌, List, [], ◌∷◌, ◌++◌, length, Option, Some, None}
use Rattle.oss_syntax.specs.declared.access.Mode.{Mode}
use Rattle.oss_syntax.specs.declared.access.Mode.TheVariants as mode
use Rattle.oss_syntax.specs.declared.tree.expr.Expr.{Expr}
use Rattle.oss_syntax.specs.declared.tree.pragma.Clause.{Clause}
use Rattle.oss_syntax.specs.declared.tree.pragma.Clause.TheVariants as clause
use Rattle.oss_syntax.specs.declared.tree.pragma.Form.{Form}
use Rattle.oss_syntax.specs.declared.tree.pragma.Form.TheVariants as form
use Rattle.oss_syntax.specs.declared.tree.pragma.Inner.{Inner}
use Rattle.oss_syntax.specs.declared.tree.pragma.Inner.TheVariants as inner_forms
use Rattle.oss_syntax.specs.declared.tree.pragma.Section.{Section}
use Rattle.oss_syntax.specs.declared.tree.pragma.Turns.{Turns}
use Rattle.oss_syntax.specs.declared.tree.program.Item.{Item}
use Rattle.oss_syntax.specs.declared.tree.program.Kind.TheVariants as kind
use Rattle.oss_syntax.specs.declared.tree.program.Local.{Local}
use Rattle.oss_syntax.specs.declared.tree.program.NumKind.{NumKind}
use Rattle.oss_syntax.specs.declared.tree.program.NumKind.TheVariants as num
use Rattle.oss_grammar.specs.declared.kinds.Named.{Named}
use Rattle.oss_grammar.specs.declared.kinds.Named.TheVariants as named
use Rattle.oss_grammar.specs.declared.kinds.Wanted.TheVariants as wanted
use Rattle.oss_syntax.specs.declared.refusal.Refused.{Refused}
use Rattle.oss_syntax.specs.declared.refusal.RefusedKind.TheVariants as refused
use Rattle.oss_grammar.specs.Broken.{where_so}
use Rattle.oss_grammar.specs.ExpressionRules.{value_rules}
use Rattle.oss_grammar.specs.Scopes.{meaning}

abbrev pub is_missing : Named → Bool
is_missing named.Missing = true
is_missing _ = false

abbrev pub is_global : Named → Bool
is_global (named.Scalar n) = true
is_global (named.Array n) = true
is_global (named.Grid n) = true
is_global _ = false

abbrev pub is_array : Named → Bool
is_array (named.Array n) = true
is_array (named.Grid n) = true
is_array _ = false

abbrev pub is_grid : Named → Bool
is_grid (named.Grid n) = true
is_grid _ = false

-- a global array of one dimension or a local pointer
abbrev pub has_elements : Named → Bool
has_elements (named.Array n) = true
has_elements (named.Local (kind.Pointer n)) = true
has_elements _ = false

abbrev pub is_int : NumKind → Bool
is_int num.Int = true
is_int num.Long = false
is_int num.Ulong = false

-- whether the cells that a base names are of type `int`
abbrev pub has_ints : Named → Bool
has_ints (named.Scalar n) = is_int n
has_ints (named.Array n) = is_int n
has_ints (named.Grid n) = is_int n
has_ints (named.Local (kind.Pointer n)) = is_int n
has_ints _ = false

-- whether a form allows a base: a name alone is that of a global, an upper end is left out of an array alone, one pair of brackets
-- behind an array of two dimensions names whole rows, and no other has two
abbrev pub fits_base : Form → Named → Bool
fits_base form.Whole m = is_global m
fits_base form.Deref m = has_elements m
fits_base (form.Shape n) m = has_elements m
fits_base (form.Span lower None) m = is_array m
fits_base (form.Grid rows columns) m = is_grid m
fits_base (form.Many e (Some f) turns) m = is_grid m
fits_base _ m = has_elements m || is_grid m

-- what is wrong with the form of a section whose base is in scope
abbrev pub is_wrong_section : Bool → Form → Named → Bool
is_wrong_section fold f named.Missing = false
is_wrong_section fold f m = not (fits_base f m) || (fold && has_ints m)

-- whether the base is the first token of a section
abbrev pub begins_with_base : Form → Bool
begins_with_base form.Deref = false
begins_with_base (form.Shape e) = false
begins_with_base (form.Many e f turns) = false
begins_with_base _ = true

abbrev pub optional_rules : List Item → List Local → Option Expr → List Refused
optional_rules all locals None = []
optional_rules all locals (Some e) = value_rules all locals wanted.Number e

-- the rules that the expressions of one dimension break
abbrev pub inner_rules : List Item → List Local → Inner → List Refused
inner_rules all locals (inner_forms.Element e) = value_rules all locals wanted.Number e
inner_rules all locals (inner_forms.Length e n) = value_rules all locals wanted.Number e ++ value_rules all locals wanted.Number n
inner_rules all locals (inner_forms.Span e u) = optional_rules all locals e ++ optional_rules all locals u

-- The rules that the expressions of a multidependency break. Its variable is in scope in the indices alone, and is one local more there.
abbrev pub many_rules : List Item → List Local → Expr → Option Expr → Turns → List Refused
many_rules all locals e f turns =
    value_rules all (locals ++ turns.variable ∷ []) wanted.Number e
    ++ (optional_rules all (locals ++ turns.variable ∷ []) f
    ++ (where_so (nat_le 255 (length locals)) refused.TooLarge turns.variable.line
    ++ (optional_rules all locals turns.variable.first
    ++ value_rules all locals wanted.Number turns.count)))

-- the rules that the expressions of a section break
abbrev pub form_rules : List Item → List Local → Form → List Refused
form_rules all locals form.Whole = []
form_rules all locals form.Deref = []
form_rules all locals (form.Shape e) = value_rules all locals wanted.Number e
form_rules all locals (form.Element e) = value_rules all locals wanted.Number e
form_rules all locals (form.Length e n) = value_rules all locals wanted.Number e ++ value_rules all locals wanted.Number n
form_rules all locals (form.Span e u) = optional_rules all locals e ++ optional_rules all locals u
form_rules all locals (form.Grid rows columns) = inner_rules all locals rows ++ inner_rules all locals columns
form_rules all locals (form.Many e f turns) = many_rules all locals e f turns

-- whether the base is the last token of a section
abbrev pub ends_with_base : Form → Bool
ends_with_base form.Deref = true
ends_with_base (form.Shape e) = true
ends_with_base _ = false

-- The rules that a section breaks behind so many others of its pragma. Its base stands at its first token, behind the `{` of a
-- multidependency, or behind all else.
-- Checked on `[y]` and `p` on the next line, neither in scope: UnknownName with the line of `y`, then with that of `p`.
abbrev pub section_rules : List Item → List Local → Bool → ℕ → Section → List Refused
section_rules all locals fold before s =
    where_so (begins_with_base s.form && is_missing (meaning all locals s.base)) refused.UnknownName s.line
    ++ (where_so (is_wrong_section fold s.form (meaning all locals s.base)) refused.WrongKind s.line
    ++ (where_so (before == 64) refused.TooLarge s.line
    ++ (where_so (not (begins_with_base s.form || ends_with_base s.form) && is_missing (meaning all locals s.base)) refused.UnknownName s.base_line
    ++ (form_rules all locals s.form
    ++ where_so (ends_with_base s.form && is_missing (meaning all locals s.base)) refused.UnknownName s.base_line))))

abbrev pub sections_rules : List Item → List Local → Bool → ℕ → List Section → List Refused
sections_rules all locals fold before [] = []
sections_rules all locals fold before (s ∷ rest) = section_rules all locals fold before s ++ sections_rules all locals fold (before + 1) rest

abbrev pub is_fold : Mode → Bool
is_fold mode.Read = false
is_fold mode.Write = false
is_fold (mode.Fold o) = true

abbrev pub sections_in : Clause → List Section
sections_in (clause.Depend m strong fresh sections) = sections
sections_in _ = []

-- the rules that a clause breaks behind so many sections of its pragma
abbrev pub clause_rules : List Item → List Local → ℕ → Clause → List Refused
clause_rules all locals before (clause.Depend m strong fresh sections) = sections_rules all locals (is_fold m) before sections
clause_rules all locals before (clause.If e) = value_rules all locals wanted.Number e
clause_rules all locals before (clause.Final e) = value_rules all locals wanted.Number e
clause_rules all locals before clause.Wait = []
clause_rules all locals before (clause.Label name) = []
clause_rules all locals before (clause.Priority e) = value_rules all locals wanted.Number e
clause_rules all locals before (clause.Grain e) = value_rules all locals wanted.Number e

-- In a task loop the grainsize stands outside of the scope of the other clauses.
abbrev pub loop_clause_rules : List Item → List Local → List Local → ℕ → Clause → List Refused
loop_clause_rules all outer inside before (clause.Grain e) = value_rules all outer wanted.Number e
loop_clause_rules all outer inside before c = clause_rules all inside before c

abbrev pub loop_clauses_rules : List Item → List Local → List Local → ℕ → List Clause → List Refused
loop_clauses_rules all outer inside before [] = []
loop_clauses_rules all outer inside before (c ∷ rest) = loop_clause_rules all outer inside before c ++ loop_clauses_rules all outer inside (before + length (sections_in c)) rest

abbrev pub clauses_rules : List Item → List Local → ℕ → List Clause → List Refused
clauses_rules all locals before [] = []
clauses_rules all locals before (c ∷ rest) = clause_rules all locals before c ++ clauses_rules all locals (before + length (sections_in c)) rest
