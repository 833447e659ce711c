-- What a context keeps: maps that tell nothing of cells behind the last one of the program.
use Rattle.std.specs.Prelude.{◌≡◌, ◌≤◌, ◌+◌, ℕ, Bool, List, None, length}
use Rattle.oss_ranges.specs.Cells.{value_at}
use Rattle.oss_ranges.specs.declared.piece.Piece.{Piece}
use Rattle.oss_model.specs.Context.{Context, table_from}
use Rattle.oss_model.specs.Rights.{Free, Mark, Right}

-- a map tells nothing of the cells from this one on
abbrev pub EndsBefore : {T : Type 0} → ℕ → List (Piece T) → Type 0
EndsBefore cells pieces = (cell : ℕ) → cells ≤ cell → value_at pieces cell ≡ None

-- the context in which a new task starts that has these rights and marks
abbrev pub start_context : Context → (ℕ → Right) → (ℕ → Mark) → Bool → Context
start_context x right mark final = record {
  entries = table_from (λ c. record { right = right c; lent = Free; mark = mark c }) 0 (length x.entries);
  ticks = 0;
  fuel = x.fuel;
  created = 0;
  depth = x.depth + 1;
  final = final;
}
