-- The run of a program has the graph of its code's run, whose scripts are moved.
use Rattle.std.proofs.Common.{◌≡◌, ◌∙◌, ℕ, false, List, ◌∷◌, Option, Some, None, option_map, refl, sym, ap, subst}
use Rattle.oss_syntax.specs.declared.fault.FaultKind.{FaultKind}
use Rattle.oss_syntax.specs.declared.tree.program.Item.{Item}
use Rattle.oss_model.specs.Agreement.{AreWords, Setting}
use Rattle.oss_model.specs.Bodies.{Act, IsHalt, Order, Program, Start}
use Rattle.oss_model.specs.Bodies.Act.{Fault, Over}
use Rattle.oss_model.specs.Context.{Context, child_context}
use Rattle.oss_model.specs.Machine.{State, Task, find}
use Rattle.oss_model.specs.Moves.{act_now}
use Rattle.oss_model.specs.Order.{written}
use Rattle.oss_model.specs.Sequence.{IsAtEnd, Running, Sequential}
use Rattle.oss_model.proofs.SequenceLemmas.{stands}
use Rattle.oss_model.proofs.TreeLemmas.{at_same}
use Rattle.oss_meaning.specs.Expressions.{TaskBody, TreeScript}
use Rattle.oss_meaning.specs.Meaning.{asks_of}
use Rattle.oss_meaning.specs.Results.{IsOutcome, Outcome, first_cells, main_of}
use Rattle.oss_meaning.specs.Results.IsOutcome.{ends, fails}
use Rattle.oss_code.specs.declared.code.CodeParts.{CodeParts}
use Rattle.oss_machine.specs.Frames.{CodeScript}
use Rattle.oss_machine.specs.Machines.{asks}
use Rattle.oss_body.specs.Mains.{code_main}
use Rattle.oss_lower_laws.specs.Programs.{IsCodeOf, moved_order, moved_start}
use Rattle.oss_lower_laws.proofs.LiveLemmas.{programs_are_lively}
use Rattle.oss_lower_laws.proofs.MovedBodies.{acts_alike, moved_act}
use Rattle.oss_lower_laws.proofs.MovedRuns.{moved_running, moved_state, moved_task, sequential_alike}
use Rattle.oss_lower_laws.proofs.OneResult.{one_end}
use Rattle.oss_lower_laws.proofs.OutcomeLaws.{main_setting, start_is}
use Rattle.oss_lower_laws.proofs.OutcomeLemmas.{run_has_one}
use Rattle.oss_explanation.specs.Lives.{IsCreated}
use Rattle.oss_explain_laws.proofs.Alike.{created_there, turned}
use Rattle.oss_explain_laws.proofs.MovedEndings.{act_is, at_moved, event_forth, find_is, halts, happened_forth, moved_alike, moved_event}
use Rattle.oss_task_graph.specs.declared.graph.Graph.{Graph}
use Rattle.oss_task_graph.specs.declared.graph.Node.{Node}
use Rattle.oss_task_graph.specs.Graphs.{AreNodes, IsGraph, entry_of, right_in}
use Rattle.oss_task_graph.specs.Graphs.IsGraph.{done, fault}
use Rattle.oss_graph_laws.specs.Claims.{GraphsAlike}
use Rattle.oss_graph_laws.proofs.Alike.{Made, MadeAlike, nodes_there}
use Rattle.oss_graph_laws.proofs.OneGraph.{listed}
use Rattle.oss_graph_laws.proofs.OneNode.{one_order}

-- a moved task has the rights of the task
right_moved : (places : TaskBody → ℕ) (t : Option (Task TreeScript)) (c : ℕ) → right_in t c ≡ right_in (option_map (moved_task places) t) c
right_moved places None c = refl
right_moved places (Some t) c = refl

module _ (all : List Item) (code : CodeParts) (of : IsCodeOf all code) where
  abbrev P : Program TreeScript
  P = asks_of all

  abbrev Q : Program CodeScript
  Q = asks code

  -- the name of a body of the program is its place
  abbrev place : TreeScript → ℕ
  place s = of.places s.body

  -- A task of the program is one of the code.
  made_forth : (s : State TreeScript) (p : List ℕ) (line : ℕ) (x : Context) (h : IsCreated P s p false line x) → Made Q entry_of (moved_state of.places s) p line x (place h.order.script)
  made_forth s p line x h =
      let m = event_forth all code of h.event in
      record {
        created = record {
          event = moved_event all code of h.event;
          happened = happened_forth all code of s h.event h.happened;
          order = moved_order of.places h.order;
          creates = acts_alike all code of h.event.start h.event.past ∙ ap (moved_act of.places) h.creates;
          path = h.path ∙ (λ i. (m.context i).created ∷ m.path i);
          on_line = h.on_line ∙ m.on_line;
          context = h.context ∙ (λ i. child_context (m.context i) h.order.clauses h.order.last);
        };
        named = refl;
      }

  rights : (s : State TreeScript) (p : List ℕ) (c : ℕ) → right_in (find s.tasks p) c ≡ right_in (find (moved_state of.places s).tasks p) c
  rights s p c = right_moved of.places (find s.tasks p) c ∙ ap (λ (t : Option (Task CodeScript)). right_in t c) (sym (find_is of.places s.tasks p))

  forth : (s : State TreeScript) → MadeAlike P Q place entry_of s (moved_state of.places s)
  forth s = record {
    there = made_forth s;
    back = λ p line x h. created_there Q P (moved_state of.places s) s (turned (moved_alike all code of s)) p false line x h;
    rights = rights s;
  }

  module _ (main : Start TreeScript) (cells : List ℕ) where
    moved_end : (z : Running TreeScript) (end : IsAtEnd P z) → IsAtEnd Q (moved_running of.places z)
    moved_end z end = record {
      task = moved_task of.places end.task;
      at_ = at_moved of.places z.state z.active end.task end.at_;
      stops = subst IsHalt (sym (act_is all code of end.task.body)) (halts of.places (act_now P end.task.body) end.stops);
    }

    graph_forth : (g : Graph) → IsGraph P place main cells all g → IsGraph Q entry_of (moved_start of.places main) cells all g
    unfolding moved_end
    graph_forth _ (done {z = z} {ns = ns} run end over nodes) =
        done (sequential_alike all code of run) (moved_end z end) (act_is all code of end.task.body ∙ ap (moved_act of.places) over)
        (nodes_there P Q place entry_of z.state (moved_state of.places z.state) (forth z.state) all ns nodes)
    graph_forth _ (fault {z = z} {ns = ns} run end faulty at nodes) =
        fault (sequential_alike all code of run) (moved_end z end) (act_is all code of end.task.body ∙ ap (moved_act of.places) faulty) at
        (nodes_there P Q place entry_of z.state (moved_state of.places z.state) (forth z.state) all ns nodes)

    module _ (setting : Setting main cells) (starts : Setting (moved_start of.places main) cells) where
      -- A task of the code is one of the program: it was created there, by one order.
      back : (z : Running TreeScript) → Sequential P main cells z → MadeAlike Q P entry_of place (moved_state of.places z.state) z.state
      back z run = record {
        there = λ p line x h. made_back p line x h;
        back = λ p line x h. (made_forth z.state p line x h).created;
        rights = λ p c. sym (rights z.state p c);
      }
        where
          made_back : (p : List ℕ) (line : ℕ) (x : Context) (h : IsCreated Q (moved_state of.places z.state) p false line x) → Made P place z.state p line x (entry_of h.order.script)
          made_back p line x h =
              let own = created_there Q P (moved_state of.places z.state) z.state (turned (moved_alike all code of z.state)) p false line x h in
              let again = made_forth z.state p line x own in
              let made = (stands Q (moved_start of.places main) cells starts.starts (moved_running of.places z) (sequential_alike all code of run)).made in
              record {
                created = own;
                named = sym again.named ∙ ap (λ (o : Order CodeScript). entry_of o.script) (one_order Q (moved_start of.places main) (moved_state of.places z.state) made p line line x x again.created h);
              }

      module _ (y : Running TreeScript) (run : Sequential P main cells y) (end : IsAtEnd P y) (z : Running CodeScript) (other : Sequential Q (moved_start of.places main) cells z) (last : IsAtEnd Q z) where
        -- the code's run ends where the program's does
        task : moved_task of.places end.task ≡ last.task
        unfolding moved_end
        task =
            let same = one_end Q (sequential_alike all code of run) (moved_end y end) other last in
            at_same z.state z.active (moved_task of.places end.task) last.task
            (sym (same.found z.active) ∙ ap (λ (p : List ℕ). find (moved_state of.places y.state).tasks p) (sym same.active) ∙ at_moved of.places y.state y.active end.task end.at_) last.at_

        acts : moved_act of.places (act_now P end.task.body) ≡ act_now Q last.task.body
        acts = sym (act_is all code of end.task.body) ∙ ap (λ (x : Task CodeScript). act_now Q x.body) task

        active : y.active ≡ z.active
        active = (one_end Q (sequential_alike all code of run) (moved_end y end) other last).active

        nodes : (ns : List Node) → AreNodes Q entry_of z.state all ns → AreNodes P place y.state all ns
        nodes ns h =
            let same = one_end Q (sequential_alike all code of run) (moved_end y end) other last in
            nodes_there Q P entry_of place (moved_state of.places y.state) y.state (back y run) all ns
            (nodes_there Q Q entry_of entry_of z.state (moved_state of.places y.state)
            (listed Q entry_of (moved_start of.places main) starts.starts cells z.state (moved_running of.places y) (sequential_alike all code of run) (λ p. sym (same.found p))) all ns h)

      fault_there : (j k : FaultKind) (l m : ℕ) (p q : List ℕ) → ◌≡◌ {A = Act CodeScript} (Fault j l p) (Fault k m q) → ◌≡◌ {A = Act TreeScript} (Fault j l p) (Fault k m q)
      fault_there j k l m p q e = cc

      not_both : (k : FaultKind) (l : ℕ) (p : List ℕ) → ◌≡◌ {A = Act CodeScript} Over (Fault k l p) → ⊥
      not_both k l p e = cc

      by_outcome : (o : Outcome) → IsOutcome P main cells o → (g : Graph) → IsGraph Q entry_of (moved_start of.places main) cells all g → IsGraph P place main cells all g
      by_outcome _ (ends {z = y} run end over) _ (done {z = z} {ns = ns} other last over' theirs) = done run end over (nodes y run end z other last ns theirs)
      by_outcome _ (ends {z = y} run end over) _ (fault {z = z} {stop = t} {key = k} other last faulty at theirs) =
          absurd (not_both t.kind t.line k (ap (moved_act of.places) (sym over) ∙ acts y run end z other last ∙ faulty))
      by_outcome _ (fails {z = y} {kind = kind} {line = line} {key = key} run end faulty) _ (done {z = z} other last over theirs) =
          absurd (not_both kind line key (sym over ∙ sym (acts y run end z other last) ∙ ap (moved_act of.places) faulty))
      by_outcome _ (fails {z = y} {kind = kind} {line = line} {key = key} run end faulty) _ (fault {z = z} {ns = ns} {stop = t} {key = k} other last faulty' at theirs) =
          fault run end (faulty ∙ fault_there kind t.kind line t.line key k (ap (moved_act of.places) (sym faulty) ∙ acts y run end z other last ∙ faulty'))
          (at ∙ ap (λ (p : List ℕ). written p) (sym (active y run end z other last))) (nodes y run end z other last ns theirs)

      graph_back : (g : Graph) → IsGraph Q entry_of (moved_start of.places main) cells all g → IsGraph P place main cells all g
      graph_back g is =
          let own = (run_has_one (asks_of all) main cells setting (programs_are_lively all code of)).some in
          by_outcome own.0 own.1 g is

pub graphs_alike : GraphsAlike
graphs_alike all code of words fuel g =
    let from = start_is all code of fuel in
    let setting = main_setting all fuel (subst AreWords of.first words) in
    let there : Start CodeScript → List ℕ → Type 0 = λ main cells. IsGraph (asks code) entry_of main cells all g in
    let starts : Setting (moved_start of.places (main_of all fuel)) (first_cells all) = record { starts = record { final = refl; created = refl; path = refl }; memory = setting.memory; words = setting.words; writes = setting.writes } in (
      λ h. subst (λ cells. there (code_main code fuel) cells) (sym of.first) (subst (λ main. there main (first_cells all)) from (graph_forth all code of (main_of all fuel) (first_cells all) g h)),
      λ h. graph_back all code of (main_of all fuel) (first_cells all) setting starts g
          (subst (λ main. there main (first_cells all)) (sym from) (subst (λ cells. there (code_main code fuel) cells) of.first h)),
    )
