use Rattle.std.proofs.Common.{◌≡◌, ◌≤◌, ℕ, Bool, true, false, refl, ◌∙◌, arith, List, None, if◌then◌else◌}
use Rattle.std.proofs.lemmas.Bool.Decides.{nat_tests}
use Rattle.oss_ranges.proofs.MapLemmas.{none_past}
use Rattle.oss_ranges.specs.Cells.{is_within, Rises, value_at}
use Rattle.oss_ranges.specs.declared.piece.Piece.{Piece}
use Rattle.oss_ranges.proofs.map.RangeMap.truncate.Goals as goal

-- behind a cell from which all values were taken away there is none, and there was none behind the last cell
cleared_past : {T : Type 0} (cells cell : ℕ) (xs : List (Piece T)) → Rises 0 xs 1048576 → cells ≤ cell → (if is_within cells 1048576 cell then None else value_at xs cell) ≡ None
cleared_past cells cell xs rises far = by (is_within cells 1048576 cell) refl where
  by : (t : Bool) → is_within cells 1048576 cell ≡ t → (if t then None else value_at xs cell) ≡ None
  by true e = refl
  by false e = none_past 0 1048576 cell xs rises (grind (arith, nat_tests))

pub returns-in_ok-clear-clause-past : goal.returns-in_ok-clear-clause-past
returns-in_ok-clear-clause-past g c = λ cell far.
    let rising : Rises 0 c.args.self.now.pieces 1048576 = rw (← c.self.view_is) c.self.invariant in
    c.in_ok-clear.ensures.map cell ∙ cleared_past c.args.cells cell c.args.self.now.pieces rising far

pub returns-else-cells-lt-CELLS-clause-past : goal.returns-else-cells-lt-CELLS-clause-past
returns-else-cells-lt-CELLS-clause-past g c = λ cell far.
    let rising : Rises 0 c.args.self.now.pieces 1048576 = rw (← c.self.view_is) c.self.invariant in
    let high = c.if-cells-lt-CELLS.false in none_past 0 1048576 cell c.args.self.now.pieces rising (omega arith)
