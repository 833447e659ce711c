-- States of two programs in which the same tasks were created with the same rights, whose bodies are named alike: what is told of the one is told of the other.
use Rattle.std.proofs.Common.{◌≡◌, ◌∙◌, ℕ, false, List, ◌∷◌, sym, subst}
use Rattle.oss_syntax.specs.declared.tree.program.Item.{Item}
use Rattle.oss_model.specs.Bodies.{Program}
use Rattle.oss_model.specs.Context.{Context}
use Rattle.oss_model.specs.Machine.{State, find}
use Rattle.oss_explanation.specs.Lives.{IsCreated}
use Rattle.oss_task_graph.specs.declared.graph.Node.{Node}
use Rattle.oss_task_graph.specs.Edges.{Accesses, AreEdges}
use Rattle.oss_task_graph.specs.Graphs.{AreNodes, IsNode, accesses_below, right_in}

-- The task at this path was created so, and its body is named so.
pub record Made {T : Type 0} (Q : Program T) (place : T → ℕ) (n : State T) (p : List ℕ) (line : ℕ) (x : Context) (entry : ℕ) : Type 0 where
  pub created : IsCreated Q n p false line x
  pub named : place created.order.script ≡ entry

-- The same tasks were made in both states, and have the same rights.
pub record MadeAlike {S T : Type 0} (P : Program S) (Q : Program T) (place : S → ℕ) (spot : T → ℕ) (s : State S) (n : State T) : Type 0 where
  pub there : (p : List ℕ) (line : ℕ) (x : Context) → (h : IsCreated P s p false line x) → Made Q spot n p line x (place h.order.script)
  pub back : (p : List ℕ) (line : ℕ) (x : Context) → IsCreated Q n p false line x → IsCreated P s p false line x
  pub rights : (p : List ℕ) (c : ℕ) → right_in (find s.tasks p) c ≡ right_in (find n.tasks p) c

module _ {S T : Type 0} (P : Program S) (Q : Program T) (place : S → ℕ) (spot : T → ℕ) (s : State S) (n : State T) (same : MadeAlike P Q place spot s n) (all : List Item) where
  node_there : (k : ℕ) (q : List ℕ) (m : Node) → IsNode P place s all k q m → IsNode Q spot n all k q m
  node_there k q m h =
      let made = same.there (k ∷ q) m.line h.context h.created in
      let accesses : accesses_below s q ≡ accesses_below n q = λ i j c. same.rights (j ∷ q) c i in
      record {
        point = h.point;
        context = h.context;
        created = made.created;
        entry = h.entry ∙ sym made.named;
        edges = subst (λ (a : Accesses). AreEdges all a k m.edges) accesses h.edges;
      }

  pub nodes_there : (ns : List Node) → AreNodes P place s all ns → AreNodes Q spot n all ns
  nodes_there ns h = record {
    rise = h.rise;
    each = λ m i. let is = h.each m i in (is.0, (is.1.0, node_there is.0 is.1.0 m is.1.1));
    every = λ k q line x c. h.every k q line x (same.back (k ∷ q) line x c);
  }
