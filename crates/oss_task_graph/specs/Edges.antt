-- The edges to one task, over the accesses of its creator's children.
-- Read against: of `reduction(+: s) weakreduction(+: t)` twice, `reduction(|: s)`, `reduction(|: s) in(t)`, child 3 has the edges from 0 and from 1, each with the pieces of s and t; on s both accesses are strong, so
-- neither edge is weak. Child 4 with `weakreduction(+: s)` has the weak edges from 2 and 3. `weakinout(a)` before `in(a[2;2])`: one weak edge, with the piece a[2:3].
use Rattle.std.specs.Prelude.{◌≡◌, ◌<◌, ℕ, Bool, true, false, List, [], ◌∷◌}
use Rattle.oss_syntax.specs.declared.tree.program.Item.{Item}
use Rattle.oss_model.specs.Order.{IsIn}
use Rattle.oss_model.specs.Rights.{Right}
use Rattle.oss_pieces.specs.Pieces.{ArePieces}
use Rattle.oss_task_graph.specs.declared.graph.Edge.{Edge}
use Rattle.oss_task_graph.specs.Groups.{StandsOn, are_strong}

-- What contracts see of the accesses of a task's children: the right of each to each cell, by the child's number.
abbrev pub Accesses : Type 0
Accesses = ℕ → ℕ → Right

-- The child with this number stands on an earlier one for this cell.
abbrev pub StandsAt : Accesses → ℕ → ℕ → ℕ → Type 0
StandsAt accesses j k c = StandsOn (λ i. accesses i c) j k

-- The accesses of both to the cell are strong, and the second child stands on the first for it.
pub record IsStrongAt (accesses : Accesses) (j k c : ℕ) : Type 0 where
  pub stands : StandsAt accesses j k c
  pub strong : are_strong (accesses j c) (accesses k c) ≡ true

-- This is the edge to the child with this number from an earlier one: the cells for which it stands on that one, of which there are some, as pieces of the globals; weak if it is strong at none.
pub record IsEdge (all : List Item) (accesses : Accesses) (k : ℕ) (e : Edge) : Type 0 where
  pub test : ℕ → Bool
  pub pieces : ArePieces test all 0 0 e.cells
  pub only : (c : ℕ) → test c ≡ true → StandsAt accesses e.from k c
  pub every : (c : ℕ) → StandsAt accesses e.from k c → test c ≡ true
  pub some : (c : ℕ) × (test c ≡ true)
  pub weak : e.weak ≡ true → (c : ℕ) → IsStrongAt accesses e.from k c → ⊥
  pub strong : e.weak ≡ false → (c : ℕ) × IsStrongAt accesses e.from k c

-- The edges rise by the earlier child, which comes before this one.
abbrev pub RiseTo : ℕ → List Edge → Type 0
RiseTo n [] = Unit {0}
RiseTo n (e ∷ []) = e.from < n
RiseTo n (e ∷ d ∷ more) = (e.from < d.from) × RiseTo n (d ∷ more)

-- These are all edges to the child with this number.
pub record AreEdges (all : List Item) (accesses : Accesses) (k : ℕ) (es : List Edge) : Type 0 where
  pub rise : RiseTo k es
  pub each : (e : Edge) → IsIn e es → IsEdge all accesses k e
  pub every : (j c : ℕ) → StandsAt accesses j k c → (e : Edge) × (IsIn e es × (e.from ≡ j))
