-- What a step of a seat on one word of a field's table asks, if it takes no slot and gives none back.
-- Read against: the load of cell 4 in a field with 6 cells: it leaves word 5 as it is, whatever stands there, and the seat knows an answer more;
-- with that view of the seat in place of the old one the rule holds again.
use Rattle.std.specs.Prelude.{◌≡◌, ◌<◌, ℕ, List, set, slice_index}
use mathlib.Core.Option as maybe
use lib.ListN.{get_elem?}
use Rattle.oss_code.specs.declared.code.CodeParts.{CodeParts}
use Rattle.oss_field.specs.declared.view.SeatView.{SeatView}
use Rattle.oss_field.specs.Known.{Known}
use Rattle.oss_field.specs.Table.{Slot, Stands}

-- Whatever the table is when the word i becomes f of what it was, the seat may know something that keeps the rule and is what the step tells.
abbrev pub Steps : CodeParts → ℕ → ℕ → ℕ → SeatView → ℕ → (ℕ → ℕ) → (ℕ → Known → Type 0) → Type 0
Steps code fuel n id v i f tells = (ws : List ℕ) (homes : List (maybe.Option Slot)) (views : List SeatView)
    → Stands code fuel n ws homes views → get_elem? views id ≡ maybe.some v → slice_index ws i < 18446744073709551616
    → (l : Known) × Stands code fuel n (set ws i (f (slice_index ws i))) homes (set views id (record { known = l })) × tells (slice_index ws i) l
