-- What is known of a task on the second walk over the free run, by the clauses that all tasks have once what they lack is mended: what it has lent to its children, what it has released, and what was told of it.
-- Read against: main creates a task with `out(x)` on line 3 and reads x on line 7. Child 0 hinders that: it is told, and the walk goes on as if main had waited there, so that a second read is not told. A task that folds into x under a reduction is
-- hindered by no child. A task with `out(x)` that has released x and then writes it on line 9 is told of for that, once; and what it has lent of x hinders it there as if it had not released it.
use Rattle.std.specs.Prelude.{◌≡◌, ℕ, ◌==◌, Bool, true, false, ◌&&◌, ◌||◌, if◌then◌else◌, List, [], ◌∷◌, ◌++◌, Option, Some, None}
use Rattle.oss_syntax.specs.declared.access.Access.{Access}
use Rattle.oss_syntax.specs.declared.access.Mode.{Mode}
use Rattle.oss_syntax.specs.declared.access.Mode.TheVariants.{Fold, Write}
use Rattle.oss_model.specs.Context.{in_clauses}
use Rattle.oss_model.specs.Rights.{Reads, Touch}
use Rattle.oss_needs.specs.declared.clause.Clause.{Clause}
use Rattle.oss_lent_cells.specs.declared.holder.Holder.{Holder}
use Rattle.oss_lent_cells.specs.declared.holder.Lent.{Lent}
use Rattle.oss_lent_cells.specs.Lent.{LentCells, first_holder, first_writer, lends, nothing_lent, waited_for}

-- What is told of a task: that a wait is missing before a touch of a cell on this line, which this child hinders; or that it uses these cells on this line behind a release.
pub data Told : Type 0 where
  Waits : (touch : Touch) (cell line : ℕ) (child : Holder) → Told
  Uses : (cells : ℕ → Bool) (line : ℕ) → Told

pub record Holding : Type 0 where
  pub path : List ℕ
  -- the line of its creation
  pub line : ℕ
  -- by what it has each cell
  pub has : ℕ → Option Clause
  pub lent : LentCells
  pub released : ℕ → Bool
  -- in the order of the run
  pub told : List Told

-- Main may write each cell.
abbrev pub main : Holding
main = record { path = []; line = 0; has = λ c. Some (record { mode = Write; strong = true; fresh = false }); lent = nothing_lent; released = λ c. false; told = [] }

-- a task that was created at this path, on this line, and has each cell by this
abbrev pub new_task : List ℕ → ℕ → (ℕ → Option Clause) → Holding
new_task path line has = record { path = path; line = line; has = has; lent = nothing_lent; released = λ c. false; told = [] }

abbrev pub with_lent : LentCells → Holding → Holding
with_lent lent h = record { path = h.path; line = h.line; has = h.has; lent = lent; released = h.released; told = h.told }

abbrev pub with_released : (ℕ → Bool) → Holding → Holding
with_released released h = record { path = h.path; line = h.line; has = h.has; lent = h.lent; released = released; told = h.told }

abbrev pub with_told : Told → Holding → Holding
with_told t h = record { path = h.path; line = h.line; has = h.has; lent = h.lent; released = h.released; told = h.told ++ t ∷ [] }

-- That a wait is missing was told of the task on this line; that it uses what it has released was.
abbrev pub has_wait : List Told → ℕ → Bool
has_wait [] line = false
has_wait (Waits touch c l h ∷ rest) line = l == line || has_wait rest line
has_wait (Uses cells l ∷ rest) line = has_wait rest line

abbrev pub has_use : List Told → ℕ → Bool
has_use [] line = false
has_use (Waits touch c l h ∷ rest) line = has_use rest line
has_use (Uses cells l ∷ rest) line = l == line || has_use rest line

-- On this line the task uses the cells of which the test holds. Of those that it has released it is told, the first time on the line.
pub data IsUse (cells : ℕ → Bool) (line : ℕ) (h : Holding) : Holding → Type 0 where
  none : ((c : ℕ) → cells c ≡ true → h.released c ≡ true → ⊥) → IsUse cells line h h
  known : has_use h.told line ≡ true → IsUse cells line h h
  told : (c : ℕ) → cells c ≡ true → h.released c ≡ true → has_use h.told line ≡ false → IsUse cells line h (with_told (Uses (λ d. cells d && h.released d) line) h)

-- The first child that hinders such a touch of a cell. Under a reduction none does.
abbrev pub hinders_touch : Touch → Option Lent → Option Holder
hinders_touch Reads lent = first_writer lent
hinders_touch touch lent = first_holder lent

abbrev pub hinders_under : Mode → Touch → Option Lent → Option Holder
hinders_under (Fold op) touch lent = None
hinders_under m touch lent = hinders_touch touch lent

abbrev pub hinderer : Option Clause → Touch → Option Lent → Option Holder
hinderer None touch lent = None
hinderer (Some c) touch lent = hinders_under c.mode touch lent

-- The task touches the cell on this line. Where a child hinders that, it is told, the first time on the line, and the walk goes on as if the task had waited for all its children.
abbrev pub told_wait : Touch → ℕ → ℕ → Holder → Holding → Holding
told_wait touch c line child h = if has_wait h.told line then h else with_told (Waits touch c line child) h

abbrev pub waits_before : Touch → ℕ → ℕ → Option Holder → Holding → Holding
waits_before touch c line None h = h
waits_before touch c line (Some child) h = with_lent nothing_lent (told_wait touch c line child h)

abbrev pub touched : Touch → ℕ → ℕ → Holding → Holding
touched touch c line h = waits_before touch c line (hinderer (h.has c) touch (h.lent c)) h

-- It creates the child with this number on this line, to which it lends, or does not.
abbrev pub lent_when : Bool → ℕ → ℕ → (ℕ → Option Clause) → Holding → Holding
lent_when true number line clauses h = with_lent (lends number line clauses h.lent) h
lent_when false number line clauses h = h

-- It releases the cells that clauses name; it waits for those that clauses name.
abbrev pub releases : List Access → Holding → Holding
releases clauses h = with_released (λ c. in_clauses clauses c || h.released c) h

abbrev pub waits_on : List Access → Holding → Holding
waits_on named h = with_lent (waited_for (in_clauses named) h.lent) h
