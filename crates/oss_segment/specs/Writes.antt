-- The cells that a part has changed, beside the memory with which its wave began, which nobody changes meanwhile.
-- Read against: a task of a wave over the memory 5, 6, 7 that has stored 9 in cell 1 reads 5, 9, 7, and its writes give 9 to cell 1 and nothing
-- to the cells 0 and 2. A store of 6 in cell 1 is a write too. A fold into a slot changes no cell.
use Rattle.std.specs.Prelude.{◌≡◌, ◌<◌, ℕ, if◌then◌else◌, List, length, Option, Some, None, slice_index}
use Rattle.oss_model.specs.Bodies.{Act, Program, Start}
use Rattle.oss_model.specs.Moves.{cells_after}
use Rattle.oss_ranges.specs.declared.piece.Piece.{Piece}
use Rattle.oss_ranges.specs.Cells.{value_at}
use Rattle.oss_wave_laws.specs.AtOnce.{changes_cell, is_changed}
use Rattle.oss_wave_laws.specs.Parts.{Stage, stage_after}

-- The written number, or else that of the memory: of nothing written and 5 it is 5.
abbrev pub or_kept : Option ℕ → ℕ → ℕ
or_kept None v = v
or_kept (Some w) v = w

-- These are the cells that one finds who looks into the writes first and then into the memory: of the memory 5, 6, 7 with 9 written to cell 1 they
-- are 5, 9, 7.
pub record Shows (memory : List ℕ) (writes : List (Piece ℕ)) (cells : List ℕ) : Type 0 where
  pub size : length cells ≡ length memory
  pub each : (c : ℕ) → c < length memory → slice_index cells c ≡ or_kept (value_at writes c) (slice_index memory c)

-- Writes over these cells, and what they are behind an act: the cell that the act changes has its new value, and no other is written.
abbrev pub Leaves : {S : Type 0} → Act S → List ℕ → List (Piece ℕ) → List (Piece ℕ) → Type 0
Leaves act cells old new = (c : ℕ) → c < length cells → value_at new c ≡ (if changes_cell act c then Some (slice_index (cells_after act cells) c) else value_at old c)

-- The writes are those of so many acts of a body from this stage on: each cell that one of them changes has the value that the body finds there
-- behind them all, and no other cell has one.
abbrev pub AreWritten : {S : Type 0} → Program S → Start S → Stage → ℕ → List (Piece ℕ) → Type 0
AreWritten P start first acts writes =
    (c : ℕ) → c < length first.cells → value_at writes c ≡ (if is_changed P start first acts c then Some (slice_index (stage_after P start first acts).cells c) else None)
