-- The sections of the turns of a multidependency name its cells: with each cell alone, the clauses are the same.
use Rattle.std.proofs.Common.{◌≡◌, ◌∙◌, ℕ, zero, suc, ◌+◌, ◌-◌, ◌<◌, min, eqb, Bool, true, false, List, [], ◌∷◌, ◌++◌, length, map, Option, Some, None, refl, sym, ap, arith, append_assoc}
use Rattle.std.specs.Prelude.{◌^◌, if◌then◌else◌}
use Rattle.std.specs.List.{range_with_len}
use Rattle.std.proofs.lemmas.Bool.Decides.{nat_tests}
use Rattle.oss_syntax.specs.declared.access.Access.{Access}
use Rattle.oss_syntax.specs.declared.access.Range.{Range}
use Rattle.oss_syntax.specs.declared.tree.expr.Expr.{Expr}
use Rattle.oss_syntax.specs.declared.tree.pragma.Section.{Section}
use Rattle.oss_syntax.specs.declared.tree.program.Item.{Item}
use Rattle.oss_syntax.specs.declared.tree.program.Local.{Local}
use Rattle.oss_grammar.specs.SectionCells.{Base, Extent, Part, place_cells, section_cells}
use Rattle.oss_grammar.specs.Values.{sum_of}
use Rattle.oss_model.specs.Cells.{cell_range}
use Rattle.oss_sections.specs.RangeCells.{cells_of}
use Rattle.oss_meaning.specs.declared.clauses.Declared.{Declared}
use Rattle.oss_meaning.specs.declared.value.Value.{Value}
use Rattle.oss_meaning.specs.declared.value.Value.TheVariants as value
use Rattle.oss_meaning.specs.Expressions.{Here, TreeRun, sense_of, unless_fault}
use Rattle.oss_meaning.specs.Names.{found}
use Rattle.oss_meaning.specs.Pointers.{extents_of, number_in}
use Rattle.oss_meaning.specs.Sections.{base_of, cell_before, declared_on, longer_by, ranges_of, section_run, sections_run, turn_cells, turns_run}
use Rattle.oss_multidependency_laws.specs.Unrolling.{is_signed, spelled, turn_section, turn_sections}
use Rattle.oss_multidependency_laws.specs.Grouping.{IsSteady, singles, singles_of}
use Rattle.oss_multidependency_laws.proofs.SpelledValues.{spells}

-- Cells of ranges

-- a cell as a range has it
abbrev clipped : ℕ → ℕ
clipped c = min c 1048575

own_cells : (c : ℕ) (rest : List Range) → cells_of (cell_range c ∷ rest) ≡ clipped c ∷ cells_of rest
own_cells c rest =
    let size : min c 1048575 + 1 - min c 1048575 ≡ suc zero = omega arith in
    ap (λ n. range_with_len (min c 1048575) n ++ cells_of rest) size

longer_cells : (c : ℕ) (r : Range) (rest : List Range) → r.lo ≡ c + 1 → cells_of (longer_by c r ∷ rest) ≡ clipped c ∷ cells_of (r ∷ rest)
longer_cells c r rest e =
    let o = r.ordered in
    let w = r.within in
    let low : min c r.lo ≡ min c 1048575 = omega arith in
    let size : r.hi - min c r.lo ≡ suc (r.hi - r.lo) = omega arith in
    let next : min c r.lo + 1 ≡ r.lo = omega arith in
    ap (λ n. range_with_len (min c r.lo) n ++ cells_of rest) size
    ∙ ap (λ k. (min c r.lo ∷ range_with_len k (r.hi - r.lo)) ++ cells_of rest) next
    ∙ ap (λ k. (k ∷ range_with_len r.lo (r.hi - r.lo)) ++ cells_of rest) low

before_cells : (c : ℕ) (rs : List Range) → cells_of (cell_before c rs) ≡ clipped c ∷ cells_of rs
before_cells c [] = own_cells c []
before_cells c (r ∷ rest) = by (eqb r.lo (c + 1)) refl
  where
    by : (b : Bool) → eqb r.lo (c + 1) ≡ b → cells_of (if b then longer_by c r ∷ rest else cell_range c ∷ r ∷ rest) ≡ clipped c ∷ cells_of (r ∷ rest)
    by true e = let next : r.lo ≡ c + 1 = grind (arith, nat_tests) in longer_cells c r rest next
    by false e = own_cells c (r ∷ rest)

pub cells_are : (cs : List ℕ) → cells_of (ranges_of cs) ≡ map clipped cs
cells_are [] = refl
cells_are (c ∷ cs) = before_cells c (ranges_of cs) ∙ ap (λ xs. clipped c ∷ xs) (cells_are cs)

-- the access of one cell that a clause declares
abbrev one_of : Declared → ℕ → Access
one_of d c = record { range = cell_range c; mode = d.mode; strong = d.strong; fresh = d.fresh }

map_append : {A B : Type 0} (f : A → B) (xs ys : List A) → map f (xs ++ ys) ≡ map f xs ++ map f ys
map_append f [] ys = refl
map_append f (x ∷ xs) ys = ap (λ l. f x ∷ l) (map_append f xs ys)

singles_declared : (d : Declared) (rs : List Range) → singles (declared_on d rs) ≡ map (one_of d) (cells_of rs)
singles_declared d [] = refl
singles_declared d (r ∷ rest) =
    ap (λ l. map (one_of d) (range_with_len r.lo (r.hi - r.lo)) ++ l) (singles_declared d rest)
    ∙ sym (map_append (one_of d) (range_with_len r.lo (r.hi - r.lo)) (cells_of rest))

-- what a clause declares of cells, each alone
abbrev alone : Declared → List ℕ → List Access
alone d cs = map (one_of d) (map clipped cs)

pub declared_alone : (d : Declared) (cs : List ℕ) → singles (declared_on d (ranges_of cs)) ≡ alone d cs
declared_alone d cs = singles_declared d (ranges_of cs) ∙ ap (map (one_of d)) (cells_are cs)

alone_append : (d : Declared) (xs ys : List ℕ) → alone d (xs ++ ys) ≡ alone d xs ++ alone d ys
alone_append d xs ys = ap (map (one_of d)) (map_append clipped xs ys) ∙ map_append (one_of d) (map clipped xs) (map clipped ys)

pub singles_append : (xs ys : List Access) → singles (xs ++ ys) ≡ singles xs ++ singles ys
singles_append [] ys = refl
singles_append (x ∷ xs) ys = ap (λ l. singles_of x ++ l) (singles_append xs ys) ∙ sym (append_assoc (singles_of x) (singles xs) (singles ys))

-- clauses that are the same with each cell alone stay so behind more
pub behind_same : (d : Declared) (a b : List Access) (cs : List ℕ) → singles a ≡ singles b → singles (a ++ declared_on d (ranges_of cs)) ≡ singles (b ++ declared_on d (ranges_of cs))
behind_same d a b cs e =
    singles_append a (declared_on d (ranges_of cs)) ∙ ap (λ l. l ++ singles (declared_on d (ranges_of cs))) e ∙ sym (singles_append b (declared_on d (ranges_of cs)))

-- cells of one more turn, in one group or in two
pub grouped_same : (d : Declared) (a b : List Access) (cs more : List ℕ) → singles (a ++ declared_on d (ranges_of cs)) ≡ singles b
    → singles (a ++ declared_on d (ranges_of (cs ++ more))) ≡ singles (b ++ declared_on d (ranges_of more))
grouped_same d a b cs more e =
    singles_append a (declared_on d (ranges_of (cs ++ more)))
    ∙ ap (λ l. singles a ++ l) (declared_alone d (cs ++ more) ∙ alone_append d cs more)
    ∙ sym (append_assoc (singles a) (alone d cs) (alone d more))
    ∙ ap (λ l. (singles a ++ l) ++ alone d more) (sym (declared_alone d cs))
    ∙ ap (λ l. l ++ alone d more) (sym (singles_append a (declared_on d (ranges_of cs))) ∙ e)
    ∙ ap (λ l. singles b ++ l) (sym (declared_alone d more))
    ∙ sym (singles_append b (declared_on d (ranges_of more)))

-- Turns

one_place : (b : Base) (columns : Option ℕ) (i : ℕ) → place_cells b columns (i, None) ≡ section_cells (record b { columns = columns }) (Extent.part (Part.elements i 1))
one_place b None i = refl
one_place b (Some m) i = refl

two_places : (b : Base) (columns : Option ℕ) (i j : ℕ) → place_cells b columns (i, Some j) ≡ section_cells (record b { columns = columns }) (Extent.grid (Part.elements i 1) (Part.elements j 1))
two_places b None i j = refl
two_places b (Some m) i j = refl

pub wraps_not : (k : ℕ) → k + 1 < 2 ^ 64 → sum_of k 1 ≡ k + 1
wraps_not k h = omega arith

pub steady_behind : (all : List Item) (scope : List Local) (d : Declared) (rest : List Section) (line : ℕ) (here : Here) (locals : List Value) (go : List Access → TreeRun)
    → IsSteady go → IsSteady (λ made. sections_run all scope d rest line here locals made go)
steady_behind all scope d [] line here locals go steady a b e = steady a b e
steady_behind all scope d (s ∷ rest) line here locals go steady a b e =
    ap (λ (f : List ℕ → TreeRun). section_run all scope s line here locals f)
    (λ i. λ cells. steady_behind all scope d rest line here locals go steady (a ++ declared_on d (ranges_of cells)) (b ++ declared_on d (ranges_of cells)) (behind_same d a b cells e) i)

module _ (all : List Item) (scope : List Local) (v : Local) (signed : is_signed v.kind ≡ true) (s : Section) (e : Expr) (line : ℕ) (here : Here) (locals : List Value) (size : length locals ≡ length scope) where
  abbrev base : Base
  base = base_of (extents_of all) (found all scope s.base) locals

  -- one turn is its section
  pub turn_is : (f : Option Expr) (k : ℕ) (go : List ℕ → TreeRun)
      → turn_cells all (scope ++ v ∷ []) base e f line here (locals ++ value.Num k ∷ []) go ≡ section_run all scope (turn_section s e f v.name k) line here locals go
  turn_is None k go =
      (spells all scope v k signed e).value line here locals size (λ x. unless_fault (place_cells base base.columns (number_in x, None)) line go)
      ∙ ap (λ (g : Value → TreeRun). (sense_of all scope (spelled v.name k e)).value line here locals g) (λ i. λ x. unless_fault (one_place base base.columns (number_in x) i) line go)
  turn_is (Some f) k go =
      (spells all scope v k signed e).value line here locals size
      (λ x. (sense_of all (scope ++ v ∷ []) f).value line here (locals ++ value.Num k ∷ []) (λ w. unless_fault (place_cells base base.columns (number_in x, Some (number_in w))) line go))
      ∙ ap (λ (g : Value → TreeRun). (sense_of all scope (spelled v.name k e)).value line here locals g)
      (λ i. λ x. (spells all scope v k signed f).value line here locals size (λ w. unless_fault (place_cells base base.columns (number_in x, Some (number_in w))) line go) i)
      ∙ ap (λ (g : Value → TreeRun). (sense_of all scope (spelled v.name k e)).value line here locals g)
      (λ i. λ x. (sense_of all scope (spelled v.name k f)).value line here locals (λ w. unless_fault (two_places base base.columns (number_in x) (number_in w) i) line go))

  module _ (f : Option Expr) (d : Declared) (rest : List Section) (go : List Access → TreeRun) (steady : IsSteady go) where
    -- what goes on with the cells of all turns
    abbrev onward : List Access → List ℕ → TreeRun
    onward made cells = sections_run all scope d rest line here locals (made ++ declared_on d (ranges_of cells)) go

    pub turns_are : (n k : ℕ) (made other : List Access) (cells : List ℕ) → k + n < 2 ^ 64 → singles (made ++ declared_on d (ranges_of cells)) ≡ singles other
        → turns_run all scope base e f v line here locals n k cells (onward made) ≡ sections_run all scope d (turn_sections s e f v.name k n ++ rest) line here locals other go
    turns_are zero k made other cells few same = steady_behind all scope d rest line here locals go steady (made ++ declared_on d (ranges_of cells)) other same
    turns_are (suc n) k made other cells few same =
        turn_is f k (λ more. turns_run all scope base e f v line here locals n (sum_of k 1) (cells ++ more) (onward made))
        ∙ ap (λ (g : List ℕ → TreeRun). section_run all scope (turn_section s e f v.name k) line here locals g)
        (λ i. λ more. turns_run all scope base e f v line here locals n (wraps_not k (omega (arith, few)) i) (cells ++ more) (onward made))
        ∙ ap (λ (g : List ℕ → TreeRun). section_run all scope (turn_section s e f v.name k) line here locals g)
        (λ i. λ more. turns_are n (k + 1) made (other ++ declared_on d (ranges_of more)) (cells ++ more) (omega (arith, few)) (grouped_same d made other cells more same) i)
