-- Ticks, loads and stores of a task over the cells of memory: when one may happen, and what it does.
-- Read against: a load of cell 2, in which 5 stands, finds 5, if the task may read the cell, and changes nothing; a store of 6 there finds 0, if the task may write the cell, and the cell has 6 then. A
-- store that marks its cell as written is none of these.
use Rattle.std.specs.Prelude.{◌≡◌, ℕ, ◌+◌, List, None, Vec, slice_index, slice_set}
use Rattle.std.specs.declared.alloc.Global.{Global}
use Rattle.oss_machine.specs.Frames.{CodeScript}
use Rattle.oss_model.specs.Bodies.{Ask, word_of}
use Rattle.oss_model.specs.Bodies.Ask.{Read, Tick, Write}
use Rattle.oss_model.specs.Context.{lent_of, mark_of, right_of, tick_fault, wrote}
use Rattle.oss_model.specs.Rights.{Reads, Writes, touch_fault}
use Rattle.oss_body.specs.Places.{Placed}

-- The judge finds no fault in what is asked for, which changes no mark, and it finds this number.
abbrev pub MayTouch : Placed → List ℕ → Ask CodeScript → ℕ → Type 0
MayTouch p cells Tick v = (tick_fault p.context ≡ None) × (v ≡ 0)
MayTouch p cells (Read c) v = (touch_fault (right_of p.context c) (lent_of p.context c) (mark_of p.context c) Reads ≡ None) × (v ≡ slice_index cells c)
MayTouch p cells (Write c x) v = (touch_fault (right_of p.context c) (lent_of p.context c) (mark_of p.context c) Writes ≡ None) × (wrote c p.context ≡ p.context) × (v ≡ 0)
MayTouch p cells _ v = ⊥

-- The task behind it: a tick is counted.
abbrev pub touched_place : Ask CodeScript → Placed → Placed
touched_place Tick p = record { context = record (p.context) { ticks = p.context.ticks + 1 }; path = p.path }
touched_place _ p = p

-- Memory behind it: a store puts a number of 64 bits into its cell.
abbrev pub touched_cells : Ask CodeScript → List ℕ → List ℕ
touched_cells (Write c x) cells = slice_set cells c (word_of x)
touched_cells _ cells = cells

-- It has happened.
pub record IsMade (p : Placed) (cells : Vec ℕ Global) (ask : Ask CodeScript) (v : ℕ) (q : Placed) (after : Vec ℕ Global) : Type 0 where
  pub may : MayTouch p cells.items ask v
  pub place : q ≡ touched_place ask p
  pub memory : after.items ≡ touched_cells ask cells.items
