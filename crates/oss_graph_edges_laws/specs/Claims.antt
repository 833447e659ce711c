-- What the edges of a graph say of waiting. A child stands on those of the group directly before its own, and on no others: to what is further back a way leads.
-- Read against: `out(x)`, `in(x)`, `in(x)`, `inout(x)` are the children 0 to 3. The read of 1 is satisfied only where the write of 0 is done, and the write of 3 only where the reads of 1 and 2 are. 0 and 3 conflict, and no
-- edge leads from 0 to 3, but a way does: 0, 1, 3. Two reductions by `+` and then one by `|`, 0 to 2: the join of 2 is satisfied only where the accesses of 0 and 1 are done; 0 and 1 do not conflict, and no way
-- leads from 0 to 1.
-- Of the first four, 1 lies between the ends of the edge from 0 to 2: it conflicts with 0 alone, and no way leads from 1 to 2; 2 lies between those of the edge from 1 to 3, and conflicts with 3 alone. 1 conflicts with both 0 and 3: so no edge leads from 0 to 3. 3 stands on 1 and 2, which are one whole
-- group. All four are nodes: the edge from 0 to 2 leads from the node 0.0 to the node 0.2.
use Rattle.std.specs.Prelude.{◌≡◌, ◌<◌, ◌↔◌, ◌⊎◌, ℕ, true, false, List, ◌∷◌}
use Rattle.oss_syntax.specs.declared.access.Mode.{Mode}
use Rattle.oss_syntax.specs.declared.access.Mode.TheVariants.{Fold, Read, Write}
use Rattle.oss_syntax.specs.declared.tree.program.Item.{Item}
use Rattle.oss_model.specs.Agreement.{MainStarts}
use Rattle.oss_model.specs.Bodies.{Program, Start}
use Rattle.oss_model.specs.Forest.{Forest, IsDone, IsJoinSatisfied, IsReadSatisfied, IsWriteSatisfied}
use Rattle.oss_model.specs.Machine.{State, accesses, find, mode_in}
use Rattle.oss_model.specs.Order.{IsIn, written}
use Rattle.oss_model.specs.Rights.{Right}
use Rattle.oss_task_graph.specs.declared.graph.Edge.{Edge}
use Rattle.oss_task_graph.specs.declared.graph.Graph.{Graph}
use Rattle.oss_task_graph.specs.declared.graph.Node.{Node}
use Rattle.oss_task_graph.specs.Edges.{StandsAt}
use Rattle.oss_task_graph.specs.Graphs.{IsGraph, accesses_below}
use Rattle.oss_task_graph.specs.Groups.{AreOneGroup, StandsOn, go_together, is_held}

-- Nothing earlier stands in the way of an access of this mode: of a read, of a write, or of the join of a fold.
abbrev pub IsSatisfied : Mode → Forest (List ℕ) → List ℕ → Type 0
IsSatisfied Read F p = IsReadSatisfied F p
IsSatisfied Write F p = IsWriteSatisfied F p
IsSatisfied (Fold op) F p = IsJoinSatisfied F op p

-- Where a child stands on an earlier one for a cell, its access is satisfied only if that of the earlier one is done.
abbrev pub EdgesAreWaits : Type 0 → Type 0
EdgesAreWaits S = (s : State S) (q : List ℕ) (c j k : ℕ) → StandsAt (accesses_below s q) j k c
    → IsSatisfied (mode_in (find s.tasks (k ∷ q)) c) (accesses s c) (k ∷ q) → IsDone (accesses s c) (j ∷ q)

-- A way leads from one access of a list to a later one: each stands on the one before it.
pub data IsWay (rights : ℕ → Right) (j : ℕ) : ℕ → Type 0 where
  edge : {k : ℕ} → StandsOn rights j k → IsWay rights j k
  further : {i k : ℕ} → IsWay rights j i → StandsOn rights i k → IsWay rights j k

-- Two accesses of a list conflict: they may not go side by side, as two reads may, and two folds by one operator.
pub record DoConflict (rights : ℕ → Right) (j k : ℕ) : Type 0 where
  pub first : is_held (rights j) ≡ true
  pub second : is_held (rights k) ≡ true
  pub apart : go_together (rights j) (rights k) ≡ false

-- Of two accesses in conflict, a way leads from the earlier one to the later one.
abbrev pub WaysAreDrawn : Type 0
WaysAreDrawn = (rights : ℕ → Right) (j k : ℕ) → j < k → DoConflict rights j k → IsWay rights j k

-- Each edge leads from an earlier access that conflicts with the later one, and none that lies between the two conflicts with both.
pub record IsNearest (rights : ℕ → Right) (j k : ℕ) : Type 0 where
  pub rises : j < k
  pub conflict : DoConflict rights j k
  pub between : (i : ℕ) → j < i → i < k → DoConflict rights j i → DoConflict rights i k → ⊥

abbrev pub EdgesAreNearest : Type 0
EdgesAreNearest = (rights : ℕ → Right) (j k : ℕ) → StandsOn rights j k → IsNearest rights j k

-- No edge leads past an access: beside it no way goes from its one end to the other by a third.
abbrev pub NoEdgeLeadsPast : Type 0
NoEdgeLeadsPast = (rights : ℕ → Right) (j i k : ℕ) → StandsOn rights j k → IsWay rights j i → IsWay rights i k → ⊥

-- The accesses on which one stands are a whole group, and no others: where it stands on one, it stands on those that are of one group with that.
abbrev pub GroupsAreWhole : Type 0
GroupsAreWhole = (rights : ℕ → Right) (i j k : ℕ) → StandsOn rights j k → StandsOn rights i k ↔ (AreOneGroup rights i j ⊎ AreOneGroup rights j i)

-- The edge leads to this node from another one: that of the child with its number, which the same task has created before.
pub record LeadsBetween (ns : List Node) (n : Node) (e : Edge) : Type 0 where
  pub creator : List ℕ
  pub number : ℕ
  pub later : n.task ≡ written (number ∷ creator)
  pub rises : e.from < number
  pub node : Node
  pub there : IsIn node ns
  pub earlier : node.task ≡ written (e.from ∷ creator)

-- Both ends of each edge are nodes of the graph.
abbrev pub EdgesJoinNodes : Type 0 → Type 0
EdgesJoinNodes S = (P : Program S) (place : S → ℕ) (main : Start S) → MainStarts main → (first : List ℕ) (all : List Item) (g : Graph) → IsGraph P place main first all g
    → (n : Node) → IsIn n g.nodes → (e : Edge) → IsIn e n.edges → LeadsBetween g.nodes n e
