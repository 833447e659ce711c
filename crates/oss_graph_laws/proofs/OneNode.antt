-- The nodes of a state are one list.
use Rattle.std.proofs.Common.{◌≡◌, ◌∙◌, ℕ, Bool, false, List, [], ◌∷◌, reverse, refl, sym, ap, subst}
use Rattle.std.proofs.lemmas.List.{reverse-reverse}
use Rattle.oss_syntax.specs.declared.tree.program.Item.{Item}
use Rattle.oss_model.specs.Bodies.{Order, Program, Start, stage_act}
use Rattle.oss_model.specs.Bodies.Act.{Created}
use Rattle.oss_model.specs.Context.{Context}
use Rattle.oss_model.specs.History.{IsMade}
use Rattle.oss_model.specs.Machine.{State}
use Rattle.oss_model.specs.Order.{IsBefore, IsIn, written}
use Rattle.oss_model.proofs.OrderLemmas.{before_not, before_trans}
use Rattle.oss_explanation.specs.Lives.{IsCreated}
use Rattle.oss_explain_laws.proofs.OneEvent.{one_created, one_creation}
use Rattle.oss_task_graph.specs.declared.graph.Node.{Node}
use Rattle.oss_task_graph.specs.Graphs.{AreInOrder, AreNodes, IsNode, accesses_below}
use Rattle.oss_graph_laws.proofs.OneEdge.{one_edges}
use Rattle.oss_graph_laws.proofs.RisingLemmas.{IsRising, one_list}

node_is : (n m : Node) → n.task ≡ m.task → n.line ≡ m.line → n.entry ≡ m.entry → n.edges ≡ m.edges → n ≡ m
node_is n m p q r t i = record { task = p i; line = q i; entry = r i; edges = t i }

-- a node comes before another where its point does
abbrev Before : Node → Node → Type 0
Before n m = IsBefore n.task m.task

rising : (ns : List Node) → AreInOrder ns → IsRising Before ns
rising [] r = tt
rising (n ∷ []) r = tt
rising (n ∷ m ∷ more) r = (r.0, rising (m ∷ more) r.1)

-- one point has one path
path_is : (p q : List ℕ) → written p ≡ written q → p ≡ q
path_is p q e = sym (reverse-reverse p) ∙ ap (λ (x : List ℕ). reverse x) (tail (reverse p) (reverse q) e) ∙ reverse-reverse q
  where
    tail : (xs ys : List ℕ) → 0 ∷ xs ≡ 0 ∷ ys → xs ≡ ys
    tail xs ys h = cc

head_is : (j k : ℕ) (p q : List ℕ) → j ∷ p ≡ k ∷ q → j ≡ k
head_is j k p q e = cc

rest_is : (j k : ℕ) (p q : List ℕ) → j ∷ p ≡ k ∷ q → p ≡ q
rest_is j k p q e = cc

module _ {S : Type 0} (P : Program S) (main : Start S) (s : State S) (made : IsMade P main s) where
  order_of : (o u : Order S) (i j : Bool) → Created o i ≡ Created u j → o ≡ u
  order_of o u i j e = cc

  -- a task was created by one order
  pub one_order : (p : List ℕ) (line other : ℕ) (x y : Context) (h : IsCreated P s p false line x) (g : IsCreated P s p false other y) → h.order ≡ g.order
  one_order p line other x y h g =
      let same = one_creation P main s made h.event g.event h.happened g.happened h.order g.order false false h.creates g.creates (sym h.path ∙ g.path) in
      order_of h.order g.order false false (sym h.creates ∙ (λ i. stage_act P (same.0 i) (same.1 i)) ∙ g.creates)

  module _ (place : S → ℕ) (all : List Item) where
    -- two nodes of one task, by their paths
    at_path : (k : ℕ) (q : List ℕ) (n m : Node) → IsNode P place s all k q n → IsNode P place s all k q m → n ≡ m
    at_path k q n m h g =
        node_is n m (h.point ∙ sym g.point) (one_created P main s made (k ∷ q) false false n.line m.line h.context g.context h.created g.created).1
        (h.entry ∙ ap (λ (o : Order S). place o.script) (one_order (k ∷ q) n.line m.line h.context g.context h.created g.created) ∙ sym g.entry)
        (one_edges all (accesses_below s q) k n.edges m.edges h.edges g.edges)

    one_node : (j k : ℕ) (p q : List ℕ) (n m : Node) → IsNode P place s all j p n → IsNode P place s all k q m → n.task ≡ m.task → n ≡ m
    one_node j k p q n m h g same =
        let e : j ∷ p ≡ k ∷ q = path_is (j ∷ p) (k ∷ q) (sym h.point ∙ same ∙ g.point) in
        at_path k q n m (subst (λ (i : ℕ). IsNode P place s all i q n) (head_is j k p q e) (subst (λ (r : List ℕ). IsNode P place s all j r n) (rest_is j k p q e) h)) g

    node_there : (ns ms : List Node) → AreNodes P place s all ns → AreNodes P place s all ms → (n : Node) → IsIn n ns → IsIn n ms
    node_there ns ms h g n i =
        let is = h.each n i in
        let node = is.1.1 in
        let m = g.every is.0 is.1.0 n.line node.context node.created in
        let other = g.each m.0 m.1.0 in
        subst (λ (x : Node). IsIn x ms) (one_node other.0 is.0 other.1.0 is.1.0 m.0 n other.1.1 node (m.1.1 ∙ sym node.point)) m.1.0

    pub one_nodes : (ns ms : List Node) → AreNodes P place s all ns → AreNodes P place s all ms → ns ≡ ms
    one_nodes ns ms h g =
        one_list Before (λ x y z p q. before_trans p q) (λ x p. before_not p refl) ns ms (rising ns h.rise) (rising ms g.rise) (node_there ns ms h g) (node_there ms ns g h)
