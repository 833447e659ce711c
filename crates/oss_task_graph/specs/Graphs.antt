-- The graph of the tasks of a program's sequential run: each task that was created and is not included, in point order, with the edges to it, and the fault that stopped the run.
-- Read against the worked pictures. `task out(x) .. task in(x) out(y) ..` in main: the nodes 0.0 and 0.1, in this order, and one edge, from 0 to 0.1, with x. `task weakinout(a) { task inout(a[0;2]) { task inout(a[0]) .. } task inout(a[2;2]) .. }`
-- and then `task in(a[2;2])`: the nodes 0.0, 0.0.0, 0.0.0.0, 0.0.1, 0.1; only 0.1 has an edge. `task out(a) .. task weakinout(a) final(1) { task inout(a[0]) .. }`: two nodes, since the third task is included. A fault in the third of three
-- tasks: all three are nodes, and the fault is told of 0.2; one in an included task is told of the one whose body that runs in. A fault in main is told of the point 0. A program without tasks has no node.
use Rattle.std.specs.Prelude.{◌≡◌, ℕ, false, List, [], ◌∷◌, Option, Some, None}
use Rattle.oss_syntax.specs.declared.fault.FaultKind.{FaultKind}
use Rattle.oss_syntax.specs.declared.tree.program.Item.{Item}
use Rattle.oss_model.specs.Bodies.{Order, Program, Start}
use Rattle.oss_model.specs.Bodies.Act.{Fault, Over}
use Rattle.oss_model.specs.Context.{Context, right_of}
use Rattle.oss_model.specs.Machine.{State, Task, find}
use Rattle.oss_model.specs.Moves.{act_now}
use Rattle.oss_model.specs.Order.{IsBefore, IsIn, written}
use Rattle.oss_model.specs.Rights.{NoRight, Right}
use Rattle.oss_model.specs.Sequence.{IsAtEnd, Running, Sequential}
use Rattle.oss_code.specs.declared.code.CodeParts.{CodeParts}
use Rattle.oss_machine.specs.Frames.{CodeScript}
use Rattle.oss_machine.specs.Machines.{asks}
use Rattle.oss_body.specs.Mains.{code_main}
use Rattle.oss_explanation.specs.Lives.{IsCreated}
use Rattle.oss_task_graph.specs.declared.graph.Graph.{Graph}
use Rattle.oss_task_graph.specs.declared.graph.Node.{Node}
use Rattle.oss_task_graph.specs.declared.graph.Stop.{Stop}
use Rattle.oss_task_graph.specs.Edges.{Accesses, AreEdges}

-- the right of a task to a cell from its creation on; none where there is no task
abbrev pub right_in : {S : Type 0} → Option (Task S) → ℕ → Right
right_in (Some t) c = right_of t.body.start.context c
right_in None c = NoRight

-- The accesses of the children of the task at this path. One that runs in its creator's body is no task of the state, and has none.
abbrev pub accesses_below : {S : Type 0} → State S → List ℕ → Accesses
accesses_below s q k c = right_in (find s.tasks (k ∷ q)) c

-- This tells of the child with this number of the task at this path. Bodies begin at these places.
pub record IsNode {S : Type 0} (P : Program S) (place : S → ℕ) (s : State S) (all : List Item) (k : ℕ) (q : List ℕ) (n : Node) : Type 0 where
  pub point : n.task ≡ written (k ∷ q)
  pub context : Context
  pub created : IsCreated P s (k ∷ q) false n.line context
  pub entry : n.entry ≡ place created.order.script
  pub edges : AreEdges all (accesses_below s q) k n.edges

-- The nodes rise in point order.
abbrev pub AreInOrder : List Node → Type 0
AreInOrder [] = Unit {0}
AreInOrder (n ∷ []) = Unit {0}
AreInOrder (n ∷ m ∷ more) = IsBefore n.task m.task × AreInOrder (m ∷ more)

-- These tell of all tasks of the state that were created and are not included.
pub record AreNodes {S : Type 0} (P : Program S) (place : S → ℕ) (s : State S) (all : List Item) (ns : List Node) : Type 0 where
  pub rise : AreInOrder ns
  pub each : (n : Node) → IsIn n ns → (k : ℕ) × ((q : List ℕ) × IsNode P place s all k q n)
  pub every : (k : ℕ) (q : List ℕ) (line : ℕ) (x : Context) → IsCreated P s (k ∷ q) false line x → (n : Node) × (IsIn n ns × (n.task ≡ written (k ∷ q)))

-- The sequential run of the program, over these globals, ends with this graph: main has ended; or a fault stopped it, in the body of the task that ran.
pub data IsGraph {S : Type 0} (P : Program S) (place : S → ℕ) (main : Start S) (first : List ℕ) (all : List Item) : Graph → Type 0 where
  done : {z : Running S} {ns : List Node} → Sequential P main first z → (end : IsAtEnd P z) → act_now P end.task.body ≡ Over → AreNodes P place z.state all ns
      → IsGraph P place main first all (record { nodes = ns; fault = None })
  fault : {z : Running S} {ns : List Node} {stop : Stop} {key : List ℕ} → Sequential P main first z → (end : IsAtEnd P z) → act_now P end.task.body ≡ Fault stop.kind stop.line key
      → stop.task ≡ written z.active → AreNodes P place z.state all ns → IsGraph P place main first all (record { nodes = ns; fault = Some stop })

-- where the body of a task of a code begins
abbrev pub entry_of : CodeScript → ℕ
entry_of s = s.entry

-- The sequential run of the code, with this much fuel for each task, ends with this graph.
abbrev pub IsGraphOf : CodeParts → ℕ → List Item → Graph → Type 0
IsGraphOf code fuel all g = IsGraph (asks code) entry_of (code_main code fuel) code.first all g
