-- Both ends of an edge are nodes: who has an access is a task of the state, and each task but main was created.
use Rattle.std.proofs.Common.{◌≡◌, ℕ, refl, sym, subst, ap, ◌∙◌, List, ◌∷◌, true, false, Option, Some, None}
use Rattle.oss_syntax.specs.declared.tree.program.Item.{Item}
use Rattle.oss_model.specs.Agreement.{MainStarts}
use Rattle.oss_model.specs.Bodies.{Frame, Order, Program, Start, stack_from, stage_act, stage_created, top_frame}
use Rattle.oss_model.specs.Bodies.Act.{Created}
use Rattle.oss_model.specs.Context.{Context}
use Rattle.oss_model.specs.History.{IsMade}
use Rattle.oss_model.specs.Machine.{At, State, Task, find}
use Rattle.oss_model.specs.Memory.{Event}
use Rattle.oss_model.specs.Order.{IsIn, written}
use Rattle.oss_model.proofs.BodyLemmas.{stack_ok}
use Rattle.oss_model.proofs.SequenceLemmas.{stands}
use Rattle.oss_model.proofs.StageLemmas.{creating}
use Rattle.oss_model.proofs.TreeLemmas.{path_found}
use Rattle.oss_body.specs.Acting.{acting}
use Rattle.oss_explanation.specs.Lives.{IsCreated, born_with, line_at}
use Rattle.oss_task_graph.specs.declared.graph.Edge.{Edge}
use Rattle.oss_task_graph.specs.declared.graph.Graph.{Graph}
use Rattle.oss_task_graph.specs.declared.graph.Node.{Node}
use Rattle.oss_task_graph.specs.Edges.{IsEdge, StandsAt}
use Rattle.oss_task_graph.specs.Graphs.{AreNodes, IsGraph, accesses_below, right_in}
use Rattle.oss_task_graph.specs.Graphs.IsGraph.{done, fault}
use Rattle.oss_task_graph.specs.Groups.{is_held}
use Rattle.oss_graph_edges_laws.specs.Claims.{EdgesJoinNodes, LeadsBetween}
use Rattle.oss_graph_edges_laws.proofs.GroupLemmas.{stands_first, stands_up}

-- Who creates a task that is not included is the body's own task.
creator_is : {S : Type 0} (P : Program S) (b : Start S) (past : List ℕ) (o : Order S) → stage_act P b past ≡ Created o false → (acting P b past).context.created ∷ (acting P b past).path ≡ stage_created P b past ∷ b.path
unfolding stage_created
creator_is P b past o e =
    let s = stack_from P b past in
    let own : acting P b past ≡ s.base = ap (λ (fs : List (Frame _)). top_frame s.base fs) (creating P b past o e).alone in
    ap (λ (f : Frame _). f.context.created ∷ f.path) own ∙ ap (λ (p : List ℕ). s.base.context.created ∷ p) (stack_ok P b past).path

-- a task that has a cell is one
held_task : {S : Type 0} (o : Option (Task S)) (c : ℕ) → is_held (right_in o c) ≡ true → (u : Task S) × (o ≡ Some u)
held_task (Some u) c h = (u, refl)
held_task None c h = absurd cc

-- That a task was created, on some line and with some context.
record WasCreated {S : Type 0} (P : Program S) (s : State S) (p : List ℕ) : Type 0 where
  pub line : ℕ
  pub context : Context
  pub created : IsCreated P s p false line context

module _ {S : Type 0} (P : Program S) (main : Start S) (s : State S) (made : IsMade P main s) where
  -- each task but main was created, and is not included
  was_created : (k : ℕ) (q : List ℕ) (v : Task S) → At s (k ∷ q) v → WasCreated P s (k ∷ q)
  was_created k q v h =
      let b = made.child k q v h in
      let event : Event S = record { start = b.creator.body.start; past = b.past; answer = b.answer } in
      let path : b.creator.body.start.path ≡ q = path_found s.tasks q b.creator b.at_ in
      record {
        line = line_at P event;
        context = born_with P event b.order;
        created = record {
          event = event;
          happened = record { task = b.creator; at_ = subst (λ (x : List ℕ). At s x b.creator) (sym path) b.at_; start = refl; found = b.happened };
          order = b.order;
          creates = b.act;
          path = ap (λ (x : List ℕ). k ∷ x) (sym path) ∙ ap (λ (n : ℕ). n ∷ b.creator.body.start.path) (sym b.number) ∙ sym (creator_is P b.creator.body.start b.past b.order b.act);
          on_line = refl;
          context = refl;
        };
      }

  module _ (place : S → ℕ) (all : List Item) (ns : List Node) (are : AreNodes P place s all ns) where
    -- the node of the earlier child
    leads : (n : Node) (k : ℕ) (q : List ℕ) → n.task ≡ written (k ∷ q) → (e : Edge) → IsEdge all (accesses_below s q) k e → LeadsBetween ns n e
    leads n k q point e is =
        let c = is.some in
        let stands_on : StandsAt (accesses_below s q) e.from k c.0 = is.only c.0 c.1 in
        let held : is_held (accesses_below s q e.from c.0) ≡ true = stands_first (λ i. accesses_below s q i c.0) e.from k stands_on in
        let u = held_task (find s.tasks (e.from ∷ q)) c.0 held in
        let w = was_created e.from q u.0 u.1 in
        let m = are.every e.from q w.line w.context w.created in
        record {
          creator = q;
          number = k;
          later = point;
          rises = stands_up (λ i. accesses_below s q i c.0) e.from k stands_on;
          node = m.0;
          there = m.1.0;
          earlier = m.1.1;
        }

    pub joins : (n : Node) → IsIn n ns → (e : Edge) → IsIn e n.edges → LeadsBetween ns n e
    joins n i e h = let x = are.each n i in leads n x.0 x.1.0 x.1.1.point e (x.1.1.edges.each e h)

module _ {S : Type 0} (P : Program S) (place : S → ℕ) (main : Start S) (ms : MainStarts main) (first : List ℕ) (all : List Item) where
  of_graph : (g : Graph) → IsGraph P place main first all g → (n : Node) → IsIn n g.nodes → (e : Edge) → IsIn e n.edges → LeadsBetween g.nodes n e
  of_graph _ (done {z = z} {ns = ns} run end over are) n i e h = joins P main z.state (stands P main first ms z run).made place all ns are n i e h
  of_graph _ (fault {z = z} {ns = ns} run end fails at are) n i e h = joins P main z.state (stands P main first ms z run).made place all ns are n i e h

pub edges_join_nodes : (S : Type 0) → EdgesJoinNodes S
edges_join_nodes S P place main ms first all g is n i e h = of_graph P place main ms first all g is n i e h
