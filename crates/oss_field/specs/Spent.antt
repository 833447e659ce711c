-- What is left of seats that were joined to others, and the whole rule of a field's table with it; and what a table leaves once all seats are joined.
-- Read against: a field with two seats, of which one is joined to the other. What is left of the joined one has no part of the table, bears no job and
-- makes no task. The other has all 65,537 parts. Once it has put back every job that it took, and given up each entry whose value it has joined, no seat has
-- work, and the table is taken apart: each job that its rule speaks of lies in the slot of its number.
use Rattle.std.specs.Prelude.{◌≡◌, ◌<◌, ◌≤◌, ℕ, List, [], length}
use mathlib.Core.Option as maybe
use lib.ListN.{get_elem?}
use Rattle.oss_code.specs.declared.code.CodeParts.{CodeParts}
use Rattle.oss_field.specs.declared.view.SeatView.{SeatView}
use Rattle.oss_field.specs.Known.{Known}
use Rattle.oss_field.specs.Table.{Slot, Stands}

-- The seat holds no job, makes no task, has joined no value whose entry is not given up yet, and owes no count down.
pub record HasNoWork (k : Known) : Type 0 where
  pub bears : k.bears ≡ []
  pub makes : k.makes ≡ []
  pub joined : k.joined ≡ []
  pub owes : k.owes ≡ []

-- A seat that has no part of the table has no work: it was joined to another.
abbrev pub AreSpent : List SeatView → Type 0
AreSpent views = (id : ℕ) (v : SeatView) → get_elem? views id ≡ maybe.some v → v.known.words.parts ≡ 0 → HasNoWork v.known

-- The rule of the table of a field of n entries, with what is left of seats that were joined to others.
abbrev pub Rules : CodeParts → ℕ → ℕ → List ℕ → List (maybe.Option Slot) → List SeatView → Type 0
Rules code fuel n ws homes views = Stands code fuel n ws homes views × AreSpent views

-- No seat has work.
abbrev pub AreWithoutWork : List SeatView → Type 0
AreWithoutWork views = (id : ℕ) (v : SeatView) → get_elem? views id ≡ maybe.some v → HasNoWork v.known

-- The words and slots of a field of n entries, as its table has left them: they meet the rule, and no seat has work.
pub record IsApart (code : CodeParts) (fuel n : ℕ) (ws : List ℕ) (slots : List Slot) : Type 0 where
  pub some : 0 < n
  pub few : n ≤ 16777216
  pub homes : List (maybe.Option Slot)
  pub views : List SeatView
  pub stands : Stands code fuel n ws homes views
  pub without : AreWithoutWork views
  -- what the rule says of a slot at home is so of what lies there
  pub size : length slots ≡ n
  pub home : (e : ℕ) (x : Slot) → get_elem? homes e ≡ maybe.some (maybe.some x) → get_elem? slots e ≡ maybe.some x
