-- Edges that are put together of parts.
-- Read against: the parts from 0 with the cells 1..3, from 2 with 3..4 and from 0 with 5..6 give two edges: that from 0, with the cells 1, 2 and 5, and that from 2, with the cell 3. The first is weak if both of its parts are.
use Rattle.std.specs.Prelude.{◌≡◌, ◌≤◌, ◌<◌, ℕ, ◌||◌, Bool, true, false, not, List, [], ◌∷◌, length, slice_index_or}
use Rattle.oss_syntax.specs.declared.tree.program.Item.{Item}
use Rattle.oss_model.specs.Order.{IsIn}
use Rattle.oss_ranges.specs.Cells.{is_within}
use Rattle.oss_pieces.specs.Pieces.{ArePieces}
use Rattle.oss_task_graph.specs.declared.graph.Edge.{Edge}
use Rattle.oss_task_graph.specs.Edges.{Accesses, StandsAt}
use Rattle.oss_task_graph.specs.Groups.{are_strong}
use Rattle.oss_task_edges.specs.declared.part.Part.{Part}

-- the cell is one of the part
abbrev pub in_part : Part → ℕ → Bool
in_part p c = is_within p.range.lo p.range.hi c

-- the cell is one of a part
abbrev pub in_parts : List Part → ℕ → Bool
in_parts [] c = false
in_parts (p ∷ rest) c = in_part p c || in_parts rest c

-- a part is strong
abbrev pub any_strong : List Part → Bool
any_strong [] = false
any_strong (p ∷ rest) = p.strong || any_strong rest

-- The part is one of the edge from this child.
pub record IsPartOf (parts : List Part) (from : ℕ) (p : Part) : Type 0 where
  pub there : IsIn p parts
  pub from_is : p.from ≡ from

-- The edge is put together of all parts from its earlier child, of which there is one.
pub record IsJoined (all : List Item) (parts : List Part) (e : Edge) : Type 0 where
  pub test : ℕ → Bool
  pub pieces : ArePieces test all 0 0 e.cells
  pub only : (c : ℕ) → test c ≡ true → (p : Part) × (IsPartOf parts e.from p × (in_part p c ≡ true))
  pub every : (p : Part) → IsPartOf parts e.from p → (c : ℕ) → in_part p c ≡ true → test c ≡ true
  pub some : (p : Part) × IsPartOf parts e.from p
  pub weak : e.weak ≡ true → (p : Part) → IsPartOf parts e.from p → p.strong ≡ false
  pub strong : e.weak ≡ false → (p : Part) × (IsPartOf parts e.from p × (p.strong ≡ true))

-- The edges rise by the earlier child.
abbrev pub Rise : List Edge → Type 0
Rise [] = Unit {0}
Rise (e ∷ []) = Unit {0}
Rise (e ∷ d ∷ more) = (e.from < d.from) × Rise (d ∷ more)

-- These are the edges of all parts.
pub record AreJoined (all : List Item) (parts : List Part) (es : List Edge) : Type 0 where
  pub rise : Rise es
  pub each : (e : Edge) → IsIn e es → IsJoined all parts e
  pub every : (p : Part) → IsIn p parts → (e : Edge) × (IsIn e es × (e.from ≡ p.from))

-- The part is right: the new child with this number stands on the earlier one for each of its cells, by strong accesses of both as it says.
abbrev pub IsPart : Accesses → ℕ → Part → Type 0
IsPart accesses n p = (c : ℕ) → in_part p c ≡ true → StandsAt accesses p.from n c × (p.strong ≡ are_strong (accesses p.from c) (accesses n c))

-- A part says that the new child stands on the earlier one for the cell.
pub record HasPart (parts : List Part) (j c : ℕ) : Type 0 where
  pub part : Part
  pub there : IsIn part parts
  pub from_is : part.from ≡ j
  pub cell : in_part part c ≡ true

-- The parts tell all of the new child with this number.
pub record AreParts (accesses : Accesses) (n : ℕ) (parts : List Part) : Type 0 where
  pub only : (p : Part) → IsIn p parts → IsPart accesses n p
  pub every : (j c : ℕ) → StandsAt accesses j n c → HasPart parts j c

-- The parts from one place up to another are those of one earlier child that follow one another, the first of them at this place; the part behind them, if there is one, is of another child.
pub record IsRunOf (parts : List Part) (at end : ℕ) : Type 0 where
  pub some : at < end
  pub within : end ≤ length parts
  pub same : (i : ℕ) (d : Part) → at ≤ i → i < end → (slice_index_or parts i d).from ≡ (slice_index_or parts at d).from
  pub other : (d : Part) → end < length parts → (slice_index_or parts end d).from ≡ (slice_index_or parts at d).from → ⊥

-- The edge is put together of these parts: it has their cells, is weak if none of them is strong, and comes from the earlier child of the first.
pub record IsGathered (all : List Item) (parts : List Part) (e : Edge) : Type 0 where
  pub from : (d : Part) → e.from ≡ (slice_index_or parts 0 d).from
  pub test : ℕ → Bool
  pub pieces : ArePieces test all 0 0 e.cells
  pub cells : (c : ℕ) → test c ≡ in_parts parts c
  pub weak : e.weak ≡ not (any_strong parts)
