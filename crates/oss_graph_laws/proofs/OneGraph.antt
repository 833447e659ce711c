-- The run of a program has one graph.
use Rattle.std.proofs.Common.{◌≡◌, ◌∙◌, ℕ, false, List, Some, None, refl, sym, ap}
use Rattle.oss_syntax.specs.declared.fault.FaultKind.{FaultKind}
use Rattle.oss_syntax.specs.declared.tree.program.Item.{Item}
use Rattle.oss_model.specs.Agreement.{MainStarts}
use Rattle.oss_model.specs.Bodies.{Act, Program, Start}
use Rattle.oss_model.specs.Bodies.Act.{Fault, Over}
use Rattle.oss_model.specs.Context.{Context}
use Rattle.oss_model.specs.Machine.{State, Task, find}
use Rattle.oss_model.specs.Moves.{act_now}
use Rattle.oss_model.specs.Order.{written}
use Rattle.oss_model.specs.Sequence.{IsAtEnd, Running, Sequential}
use Rattle.oss_model.proofs.SequenceLemmas.{stands}
use Rattle.oss_model.proofs.TreeLemmas.{at_same}
use Rattle.oss_lower_laws.proofs.OneResult.{Same, one_end}
use Rattle.oss_explanation.specs.Lives.{IsCreated}
use Rattle.oss_explain_laws.proofs.Alike.{created_there, listed_alike}
use Rattle.oss_task_graph.specs.declared.graph.Graph.{Graph}
use Rattle.oss_task_graph.specs.declared.graph.Node.{Node}
use Rattle.oss_task_graph.specs.declared.graph.Stop.{Stop}
use Rattle.oss_task_graph.specs.Graphs.{AreNodes, IsGraph, right_in}
use Rattle.oss_task_graph.specs.Graphs.IsGraph.{done, fault}
use Rattle.oss_graph_laws.specs.Claims.{GraphsAreOne}
use Rattle.oss_graph_laws.proofs.Alike.{Made, MadeAlike, nodes_there}
use Rattle.oss_graph_laws.proofs.OneNode.{one_nodes}

stop_is : (s t : Stop) → s.task ≡ t.task → s.kind ≡ t.kind → s.line ≡ t.line → s ≡ t
stop_is s t p q r i = record { task = p i; kind = q i; line = r i }

module _ {S : Type 0} (P : Program S) (place : S → ℕ) (main : Start S) (ms : MainStarts main) (first : List ℕ) where
  -- Two states that list the same tasks, of which the second was reached, have made the same.
  pub listed : (s : State S) (z : Running S) → Sequential P main first z → ((p : List ℕ) → find s.tasks p ≡ find z.state.tasks p) → MadeAlike P P place place s z.state
  listed s z run same =
      let made = (stands P main first ms z run).made in
      let alike = listed_alike place P s z.state same in
      let back = listed_alike place P z.state s (λ p. sym (same p)) in
      record {
        there = λ p line x h. moved p line x h;
        back = λ p line x h. created_there P P z.state s back p false line x h;
        rights = λ p c i. right_in (same p i) c;
      }
    where
      -- an event of the one is an event of the other
      moved : (p : List ℕ) (line : ℕ) (x : Context) (h : IsCreated P s p false line x) → Made P place z.state p line x (place h.order.script)
      moved p line x h = record {
        created = record {
          event = h.event;
          happened = record {
            task = h.happened.task;
            at_ = sym (same h.event.start.path) ∙ h.happened.at_;
            start = h.happened.start;
            found = h.happened.found;
          };
          order = h.order;
          creates = h.creates;
          path = h.path;
          on_line = h.on_line;
          context = h.context;
        };
        named = refl;
      }

  kind_one : (j k : FaultKind) (l m : ℕ) (p q : List ℕ) → ◌≡◌ {A = Act S} (Fault j l p) (Fault k m q) → j ≡ k
  kind_one j k l m p q e = cc

  line_one : (j k : FaultKind) (l m : ℕ) (p q : List ℕ) → ◌≡◌ {A = Act S} (Fault j l p) (Fault k m q) → l ≡ m
  line_one j k l m p q e = cc

  not_both : (k : FaultKind) (l : ℕ) (p : List ℕ) → ◌≡◌ {A = Act S} Over (Fault k l p) → ⊥
  not_both k l p e = cc

  module _ (y z : Running S) (a : Sequential P main first y) (b : Sequential P main first z) (end : IsAtEnd P y) (last : IsAtEnd P z) where
    same : Same P y z
    same = one_end P a end b last

    -- the task that runs is one
    task : end.task ≡ last.task
    task = at_same z.state z.active end.task last.task (sym (same.found z.active) ∙ ap (λ (p : List ℕ). find y.state.tasks p) (sym same.active) ∙ end.at_) last.at_

    acts : act_now P end.task.body ≡ act_now P last.task.body
    acts = ap (λ (x : Task S). act_now P x.body) task

    nodes : (all : List Item) (ns os : List Node) → AreNodes P place y.state all ns → AreNodes P place z.state all os → ns ≡ os
    nodes all ns os h g = one_nodes P main z.state (stands P main first ms z b).made place all ns os (nodes_there P P place place y.state z.state (listed y.state z b same.found) all ns h) g

  one_graph : (all : List Item) (g h : Graph) → IsGraph P place main first all g → IsGraph P place main first all h → g ≡ h
  one_graph all _ _ (done {z = y} {ns = ns} a end over ours) (done {z = z} {ns = os} b last over' theirs) =
      let e = nodes y z a b end last all ns os ours theirs in
      λ i. record { nodes = e i; fault = None }
  one_graph all _ _ (done {z = y} a end over ours) (fault {z = z} {stop = t} {key = k} b last fails at theirs) = absurd (not_both t.kind t.line k (sym over ∙ acts y z a b end last ∙ fails))
  one_graph all _ _ (fault {z = y} {stop = t} {key = k} a end fails at ours) (done {z = z} b last over theirs) = absurd (not_both t.kind t.line k (sym over ∙ sym (acts y z a b end last) ∙ fails))
  one_graph all _ _ (fault {z = y} {ns = ns} {stop = t} {key = j} a end fails at ours) (fault {z = z} {ns = os} {stop = u} {key = k} b last fails' at' theirs) =
      let e = nodes y z a b end last all ns os ours theirs in
      let act : ◌≡◌ {A = Act S} (Fault t.kind t.line j) (Fault u.kind u.line k) = sym fails ∙ acts y z a b end last ∙ fails' in
      let stop : t ≡ u = stop_is t u (at ∙ ap (λ (p : List ℕ). written p) (same y z a b end last).active ∙ sym at') (kind_one t.kind u.kind t.line u.line j k act) (line_one t.kind u.kind t.line u.line j k act) in
      λ i. record { nodes = e i; fault = Some (stop i) }

pub graphs_are_one : (S : Type 0) → GraphsAreOne S
graphs_are_one S P place main ms first all g h a b = one_graph P place main ms first all g h a b
