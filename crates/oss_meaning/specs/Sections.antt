-- What array sections evaluate, and the cells and ranges that they name then (OmpSs-2, array sections): the expressions of a section in
-- text order, then its test; of a multidependency its first value, its number of turns, and in each turn its indices and their test.
-- Read against: with `long x, a[4];` the section `a[1;n]` loads what `n` needs, and with 2 it names the range 2..4; with -1 it fails. The multidependency
-- `{ a[k], k = 0; 3 }` is the one range 1..4, and `{ a[3 - k], k = 0; 2 }` the two ranges 4..5 and 3..4.
use Rattle.std.specs.Prelude.{ℕ, zero, suc, ◌+◌, ◌==◌, min, nat_le, if◌then◌else◌, List, [], ◌∷◌, ◌++◌, drop, length, map, reverse, Option, Some, None, slice_get, slice_index_or, Err}
use Rattle.std.proofs.Math.Nat.{min-le_right, lt_of_le_of_lt}
use Rattle.oss_syntax.specs.declared.access.Access.{Access}
use Rattle.oss_syntax.specs.declared.access.Range.{Range}
use Rattle.oss_syntax.specs.declared.fault.FaultKind.TheVariants as fault
use Rattle.oss_syntax.specs.declared.tree.expr.Expr.{Expr}
use Rattle.oss_syntax.specs.declared.tree.pragma.Form.{Form}
use Rattle.oss_syntax.specs.declared.tree.pragma.Form.TheVariants as form
use Rattle.oss_syntax.specs.declared.tree.pragma.Inner.{Inner}
use Rattle.oss_syntax.specs.declared.tree.pragma.Inner.TheVariants as inner
use Rattle.oss_syntax.specs.declared.tree.pragma.Section.{Section}
use Rattle.oss_syntax.specs.declared.tree.pragma.Turns.{Turns}
use Rattle.oss_syntax.specs.declared.tree.program.Item.{Item}
use Rattle.oss_syntax.specs.declared.tree.program.Local.{Local}
use Rattle.oss_grammar.specs.SectionCells.{Base, Extent, Part, most_turns, place_cells, section_cells}
use Rattle.oss_grammar.specs.Values.{sum_of}
use Rattle.oss_model.specs.Cells.{cell_range}
use Rattle.oss_meaning.specs.declared.clauses.Declared.{Declared}
use Rattle.oss_meaning.specs.declared.names.Found.{Found}
use Rattle.oss_meaning.specs.declared.names.Found.TheVariants as names
use Rattle.oss_meaning.specs.declared.value.Value.{Value}
use Rattle.oss_meaning.specs.declared.value.Value.TheVariants as value
use Rattle.oss_meaning.specs.Expressions.{Evaluation, Here, TreeRun, arguments, sense_of, unless_fault, value_at}
use Rattle.oss_meaning.specs.Names.{found}
use Rattle.oss_meaning.specs.Pointers.{extents_of, global_base, number_in, value_base}
use Rattle.oss_meaning.specs.Pointers as pointers

-- Ranges

-- a range, begun with this cell if it begins behind it
abbrev pub longer_by : ℕ → Range → Range
longer_by c r = record { lo = min c r.lo; hi = r.hi; ordered = lt_of_le_of_lt (min-le_right c r.lo) r.ordered; within = r.within }

-- one cell before ranges: the first of them begins with it where it stands directly before that one
abbrev pub cell_before : ℕ → List Range → List Range
cell_before c [] = cell_range c ∷ []
cell_before c (r ∷ rest) = if r.lo == c + 1 then longer_by c r ∷ rest else cell_range c ∷ r ∷ rest

-- The ranges of a list of cells: the longest runs of cells of which each follows the one before it. Those of 1, 2, 5 and 6 are 1..3 and
-- 5..7, and those of 4 and 3 are 4..5 and 3..4.
abbrev pub ranges_of : List ℕ → List Range
ranges_of [] = []
ranges_of (c ∷ rest) = cell_before c (ranges_of rest)

-- the accesses that a clause declares of the cells of these ranges
abbrev pub declared_on : Declared → List Range → List Access
declared_on d ranges = map (λ r. record { range = r; mode = d.mode; strong = d.strong; fresh = d.fresh }) ranges

-- What a section evaluates

-- the base of a section, its name standing for this: a global, or what a local pointer points to
abbrev pub base_of : List pointers.Extent → Found → List Value → Base
base_of globals (names.Scalar g n) locals = global_base (slice_get globals g)
base_of globals (names.Array g n) locals = global_base (slice_get globals g)
base_of globals (names.Grid g n) locals = global_base (slice_get globals g)
base_of globals (names.Variable slot k) locals = value_base globals (value_at locals slot)
base_of globals _ locals = global_base None

-- an expression that may be left out
abbrev pub optional : Option Expr → List Expr
optional None = []
optional (Some e) = e ∷ []

-- the expressions of one dimension of a section, in text order
abbrev pub inner_operands : Inner → List Expr
inner_operands (inner.Element e) = e ∷ []
inner_operands (inner.Length l n) = l ∷ n ∷ []
inner_operands (inner.Span l u) = optional l ++ optional u

-- the expressions of a section, in text order; those of a multidependency are evaluated apart
abbrev pub operands_in : Form → List Expr
operands_in form.Whole = []
operands_in form.Deref = []
operands_in (form.Shape n) = n ∷ []
operands_in (form.Element e) = e ∷ []
operands_in (form.Length l n) = l ∷ n ∷ []
operands_in (form.Span l u) = optional l ++ optional u
operands_in (form.Grid rows columns) = inner_operands rows ++ inner_operands columns
operands_in (form.Many e f turns) = []

-- the number at this place; one that is not there is 0
abbrev pub number_at : List ℕ → ℕ → ℕ
number_at vs i = slice_index_or vs i 0

-- a span by which of its ends are written, with their numbers in text order
abbrev pub span_at : Option Expr → Option Expr → List ℕ → Part
span_at None None vs = Part.span None None
span_at (Some l) None vs = Part.span (Some (number_at vs 0)) None
span_at None (Some u) vs = Part.span None (Some (number_at vs 0))
span_at (Some l) (Some u) vs = Part.span (Some (number_at vs 0)) (Some (number_at vs 1))

-- what one dimension of a section names, its expressions having these values in text order
abbrev pub part_at : Inner → List ℕ → Part
part_at (inner.Element e) vs = Part.elements (number_at vs 0) 1
part_at (inner.Length l n) vs = Part.elements (number_at vs 0) (number_at vs 1)
part_at (inner.Span l u) vs = span_at l u vs

-- what a section names of its base, its expressions having these values in text order: `*p` is `p[0;1]`, `[n]p` is `p[0;n]`, and `a[e]` is `a[e;1]`
abbrev pub extent_at : Form → List ℕ → Extent
extent_at form.Whole vs = Extent.whole
extent_at form.Deref vs = Extent.part (Part.elements 0 1)
extent_at (form.Shape n) vs = Extent.part (Part.elements 0 (number_at vs 0))
extent_at (form.Element e) vs = Extent.part (Part.elements (number_at vs 0) 1)
extent_at (form.Length l n) vs = Extent.part (Part.elements (number_at vs 0) (number_at vs 1))
extent_at (form.Span l u) vs = Extent.part (span_at l u vs)
extent_at (form.Grid rows columns) vs = Extent.grid (part_at rows vs) (part_at columns (drop (length (inner_operands rows)) vs))
extent_at (form.Many e f turns) vs = Extent.whole

-- What goes on with the cells of a section.
abbrev pub WithCells : Type 0
WithCells = (List ℕ → TreeRun) → TreeRun

-- A section that is no multidependency: its expressions, and then its test.
abbrev pub plain_section : List Item → List Local → Section → ℕ → Here → List Value → WithCells
plain_section all scope s line here locals go =
    arguments (map (sense_of all scope) (operands_in s.form)) line here locals [] (λ made.
    unless_fault (section_cells (base_of (extents_of all) (found all scope s.base) locals) (extent_at s.form (map number_in (reverse made)))) line go)

-- The value of an expression that may be left out: 0.
abbrev pub optional_value : List Item → List Local → Option Expr → Evaluation
optional_value all scope None line here locals go = go (value.Num 0)
optional_value all scope (Some e) line here locals go = (sense_of all scope e).value line here locals go

-- the second index of a turn, if one is written
abbrev pub second_index : List Item → List Local → Option Expr → ℕ → Here → List Value → (Option ℕ → TreeRun) → TreeRun
second_index all scope None line here locals go = go None
second_index all scope (Some f) line here locals go = (sense_of all scope f).value line here locals (λ w. go (Some (number_in w)))

-- One turn of a multidependency, its variable being the last local: the indices, and the test of the element or row that they name.
abbrev pub turn_cells : List Item → List Local → Base → Expr → Option Expr → ℕ → Here → List Value → WithCells
turn_cells all scope base e f line here locals go =
    (sense_of all scope e).value line here locals (λ v. second_index all scope f line here locals (λ w. unless_fault (place_cells base base.columns (number_in v, w)) line go))

-- So many turns from this value of the variable on, behind these cells of earlier turns.
abbrev pub turns_run : List Item → List Local → Base → Expr → Option Expr → Local → ℕ → Here → List Value → ℕ → ℕ → List ℕ → WithCells
turns_run all scope base e f variable line here locals zero from cells go = go cells
turns_run all scope base e f variable line here locals (suc more) from cells go =
    turn_cells all (scope ++ variable ∷ []) base e f line here (locals ++ value.Num from ∷ []) (λ found_cells.
    turns_run all scope base e f variable line here locals more (sum_of from 1) (cells ++ found_cells) go)

-- A multidependency: the first value of its variable, and then the number of its turns, which may be at most 1,048,576 and not negative.
abbrev pub many_section : List Item → List Local → Base → Expr → Option Expr → Turns → ℕ → Here → List Value → WithCells
many_section all scope base e f turns line here locals go =
    optional_value all scope turns.variable.first line here locals (λ l. (sense_of all scope turns.count).value line here locals (λ n.
    if nat_le (number_in n) most_turns then turns_run all scope base e f turns.variable line here locals (number_in n) (number_in l) [] go
    else unless_fault (Err fault.OutOfRange) line go))

-- The cells of a section.
abbrev pub section_run : List Item → List Local → Section → ℕ → Here → List Value → WithCells
section_run all scope s line here locals go = elim (s.form) [
  | form.Many e f turns ↦ many_section all scope (base_of (extents_of all) (found all scope s.base) locals) e f turns line here locals go
  | form.Whole ↦ plain_section all scope s line here locals go
  | form.Deref ↦ plain_section all scope s line here locals go
  | form.Shape n ↦ plain_section all scope s line here locals go
  | form.Element e ↦ plain_section all scope s line here locals go
  | form.Length l n ↦ plain_section all scope s line here locals go
  | form.Span l u ↦ plain_section all scope s line here locals go
  | form.Grid rows columns ↦ plain_section all scope s line here locals go
]

-- The accesses that a clause declares of its sections, behind these.
abbrev pub sections_run : List Item → List Local → Declared → List Section → ℕ → Here → List Value → List Access → (List Access → TreeRun) → TreeRun
sections_run all scope d [] line here locals made go = go made
sections_run all scope d (s ∷ rest) line here locals made go =
    section_run all scope s line here locals (λ cells. sections_run all scope d rest line here locals (made ++ declared_on d (ranges_of cells)) go)
