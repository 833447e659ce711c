-- One act of the sequential run: which tasks there are behind it, with which accesses and how they came to be.
use Rattle.std.proofs.Common.{◌≡◌, ◌≢◌, ℕ, ◌+◌, ◌≤◌, ◌<◌, ◌⊎◌, inl, inr, refl, sym, subst, ap, ◌∙◌, List, [], ◌∷◌, ◌++◌, reverse, arith, true, false, Option, None, Some}
use Rattle.oss_syntax.specs.declared.tree.program.Item.{Item}
use Rattle.oss_model.specs.Agreement.{MainStarts}
use Rattle.oss_model.specs.Bodies.{Act, Frame, Order, Program, Start, stack_from, stage_act, stage_created, top_frame}
use Rattle.oss_model.specs.Bodies.Act.{Created}
use Rattle.oss_model.specs.Context.{Context}
use Rattle.oss_model.specs.History.{IsMade}
use Rattle.oss_model.specs.Machine.{At, State, Task, find}
use Rattle.oss_model.specs.Memory.{Event, Happened}
use Rattle.oss_model.specs.Moves.{act_now, after_answer, created_now, found_by}
use Rattle.oss_model.specs.Order.{IsBefore, IsIn, IsSuffix, here, same, there, whole, written}
use Rattle.oss_model.specs.Sequence.{Running, RunsOn, path_above}
use Rattle.oss_model.proofs.BodyLemmas.{stack_ok}
use Rattle.oss_model.proofs.MoveLemmas.{fresh_child, step_grown, which_path}
use Rattle.oss_model.proofs.OrderLemmas.{suffix_trans}
use Rattle.oss_model.proofs.Places.{IsEarlierPlace}
use Rattle.oss_model.proofs.SequenceLemmas.{Stands, Turn, down, event_back, old_ahead, seq_event, seq_made, stage_of, stay, turn, up}
use Rattle.oss_model.proofs.SortLemmas.{in_append, in_last, in_left}
use Rattle.oss_model.proofs.StageLemmas.{created_grows, creating, creation_counts}
use Rattle.oss_model.proofs.TreeLemmas.{at_same, path_found}
use Rattle.oss_body.specs.Acting.{acting}
use Rattle.oss_explanation.specs.Lives.{IsCreated, act_at, actor, born_with, line_at}
use Rattle.oss_task_graph.specs.declared.graph.Node.{Node}
use Rattle.oss_task_graph.specs.Edges.{AreEdges}
use Rattle.oss_task_graph.specs.Graphs.{AreInOrder, AreNodes, IsNode, accesses_below, right_in}
use Rattle.oss_task_graph.specs.Groups.{is_held}
use Rattle.oss_task_edges.proofs.AgreeLemmas.{edges_agree}

first_same : (j k : ℕ) (p q : List ℕ) → j ∷ p ≡ k ∷ q → j ≡ k
first_same j k p q e = cc

rest_same : (j k : ℕ) (p q : List ℕ) → j ∷ p ≡ k ∷ q → p ≡ q
rest_same j k p q e = cc

-- Who creates a task that is not included is the body's own task.
pub creator_is : {S : Type 0} (P : Program S) (b : Start S) (past : List ℕ) (o : Order S) → stage_act P b past ≡ Created o false → (acting P b past).context.created ∷ (acting P b past).path ≡ stage_created P b past ∷ b.path
unfolding stage_created
creator_is P b past o e =
    let s = stack_from P b past in
    let own : acting P b past ≡ s.base = ap (λ (fs : List (Frame _)). top_frame s.base fs) (creating P b past o e).alone in
    ap (λ (f : Frame _). f.context.created ∷ f.path) own ∙ ap (λ (p : List ℕ). s.base.context.created ∷ p) (stack_ok P b past).path

-- a task that has a cell is one
pub held_task : {S : Type 0} (o : Option (Task S)) (c : ℕ) → is_held (right_in o c) ≡ true → (u : Task S) × (o ≡ Some u)
held_task (Some u) c h = (u, refl)
held_task None c h = absurd cc

module _ {S : Type 0} (P : Program S) (main : Start S) (s : State S) (made : IsMade P main s) where
  -- a child has a number below that of the next one
  pub number_below : (q : List ℕ) (k : ℕ) (u v : Task S) → At s q u → At s (k ∷ q) v → k < created_now P u.body
  number_below q k u v h i =
      let b = made.child k q v i in
      let f = at_same s q b.creator u b.at_ h in
      let d : IsSuffix (b.answer ∷ b.past) u.body.found = subst (λ (z : Task S). IsSuffix (b.answer ∷ b.past) z.body.found) f b.happened in
      let num : stage_created P u.body.start b.past ≡ k = subst (λ (z : Task S). stage_created P z.body.start b.past ≡ k) f b.number in
      let act : stage_act P u.body.start b.past ≡ Created b.order false = subst (λ (z : Task S). stage_act P z.body.start b.past ≡ Created b.order false) f b.act in
      let one = creation_counts P u.body.start b.answer b.past b.order act in
      let l = created_grows P u.body.start d in
      omega (arith, num, one, l)

  -- what was created and is not included is a task
  pub created_task : (p : List ℕ) (line : ℕ) (x : Context) → IsCreated P s p false line x → (v : Task S) × At s p v
  created_task p line x h =
      let e = h.event in
      let t = h.happened.task in
      let act : stage_act P t.body.start e.past ≡ Created h.order false = subst (λ (b : Start S). stage_act P b e.past ≡ Created h.order false) (sym h.happened.start) h.creates in
      let r = made.made e.start.path t e.past e.answer h.order h.happened.at_ h.happened.found act in
      let path : stage_created P t.body.start e.past ∷ e.start.path ≡ p =
      ap (λ (b : Start S). stage_created P b e.past ∷ e.start.path) h.happened.start ∙ sym (creator_is P e.start e.past h.order h.creates) ∙ sym h.path in
      (r.0, subst (λ (w : List ℕ). At s w r.0) path r.1)

-- nodes that rise, and one more behind them
in_order_more : (ns : List Node) (n : Node) → AreInOrder ns → ((m : Node) → IsIn m ns → IsBefore m.task n.task) → AreInOrder (ns ++ n ∷ [])
in_order_more [] n h b = tt
in_order_more (m ∷ []) n h b = (b m here, tt)
in_order_more (m ∷ k ∷ more) n h b = (h.0, in_order_more (k ∷ more) n h.1 (λ x i. b x (there i)))

module _ {S : Type 0} (P : Program S) (main : Start S) (ms : MainStarts main) (z y : Running S) (st : Stands P main z) (r : RunsOn P z y) where
  abbrev pub now : Act S
  now = act_now P r.task.body

  -- the number of the next child
  abbrev pub next : ℕ
  next = created_now P r.task.body

  abbrev ev : Event S
  ev = seq_event P main z y ms st r

  path_t : r.task.body.start.path ≡ z.active
  path_t = path_found z.state.tasks z.active r.task r.at_

  made_y : IsMade P main y.state
  made_y = seq_made P main z y ms st r

  -- Accesses

  -- the accesses of a task that was there are the same
  pub rights_same : (p : List ℕ) → ((o : Order S) → now ≡ Created o false → p ≢ next ∷ z.active) → (c : ℕ) → right_in (find y.state.tasks p) c ≡ right_in (find z.state.tasks p) c
  rights_same p none c = go (which_path p z.active)
    where
      go : (p ≡ z.active) ⊎ (p ≢ z.active) → right_in (find y.state.tasks p) c ≡ right_in (find z.state.tasks p) c
      go (inl e) =
          ap (λ (w : List ℕ). right_in (find y.state.tasks w) c) e ∙ ap (λ (o : Option (Task S)). right_in o c) r.tasks.own
          ∙ sym (ap (λ (w : List ℕ). right_in (find z.state.tasks w) c) e ∙ ap (λ (o : Option (Task S)). right_in o c) r.at_)
      go (inr ne) = ap (λ (o : Option (Task S)). right_in o c) (r.tasks.others p ne none)

  pub accesses_same : (q : List ℕ) → ((k : ℕ) (o : Order S) → now ≡ Created o false → k ∷ q ≢ next ∷ z.active) → accesses_below y.state q ≡ accesses_below z.state q
  accesses_same q none = λ i k c. rights_same (k ∷ q) (none k) c i

  -- no child from the next one on
  pub none_before : (i c : ℕ) → next ≤ i → is_held (accesses_below z.state z.active i c) ≡ true → ⊥
  none_before i c l h =
      let u = held_task (find z.state.tasks (i ∷ z.active)) c h in
      let k = number_below P main z.state st.made z.active i r.task u.0 r.at_ u.1 in
      omega (arith, l, k)

  pub none_behind : (o : Order S) → now ≡ Created o false → (i c : ℕ) → next + 1 ≤ i → is_held (accesses_below y.state z.active i c) ≡ true → ⊥
  none_behind o e i c l h =
      let u = held_task (find y.state.tasks (i ∷ z.active)) c h in
      let t = after_answer (found_by now z.state.cells) r.task in
      let k = number_below P main y.state made_y z.active i t u.0 r.tasks.own u.1 in
      let n = creation_counts P r.task.body.start (found_by now z.state.cells) r.task.body.found o e in
      omega (arith, l, k, n)

  -- Creations

  happened_forth : (e : Event S) → Happened z.state e → Happened y.state e
  happened_forth e h =
      let grown = step_grown P main z.state y.state z.active r.task (found_by now z.state.cells) st.made r.at_ r.goes r.tasks in
      let g = grown.keeps e.start.path h.task h.at_ in
      record { task = g.0; at_ = g.1; start = g.2.start ∙ h.start; found = suffix_trans h.found g.2.found }

  happened_now : Happened y.state ev
  happened_now =
      record {
        task = after_answer (found_by now z.state.cells) r.task;
        at_ = subst (λ (x : List ℕ). At y.state x (after_answer (found_by now z.state.cells) r.task)) (sym path_t) r.tasks.own;
        start = refl;
        found = whole;
      }

  key_now : (o : Order S) → now ≡ Created o false → (actor P ev).context.created ∷ (actor P ev).path ≡ next ∷ z.active
  key_now o e = creator_is P r.task.body.start r.task.body.found o e ∙ ap (λ (p : List ℕ). next ∷ p) path_t

  created_forth : (p : List ℕ) (line : ℕ) (x : Context) → IsCreated P z.state p false line x → IsCreated P y.state p false line x
  created_forth p line x h =
      record { event = h.event; happened = happened_forth h.event h.happened; order = h.order; creates = h.creates; path = h.path; on_line = h.on_line; context = h.context }

  created_back : (p : List ℕ) (line : ℕ) (x : Context) → IsCreated P y.state p false line x → IsCreated P z.state p false line x ⊎ ((o : Order S) × ((now ≡ Created o false) × (p ≡ next ∷ z.active)))
  created_back p line x h = go (event_back P main z y ms st r h.event h.happened)
    where
      go : Happened z.state h.event ⊎ (h.event ≡ ev) → IsCreated P z.state p false line x ⊎ ((o : Order S) × ((now ≡ Created o false) × (p ≡ next ∷ z.active)))
      go (inl k) = inl (record { event = h.event; happened = k; order = h.order; creates = h.creates; path = h.path; on_line = h.on_line; context = h.context })
      go (inr k) =
          let e : now ≡ Created h.order false = subst (λ (g : Event S). act_at P g ≡ Created h.order false) k h.creates in
          inr (h.order, (e, h.path ∙ ap (λ (g : Event S). (actor P g).context.created ∷ (actor P g).path) k ∙ key_now h.order e))

  created_now_is : (o : Order S) → now ≡ Created o false → IsCreated P y.state (next ∷ z.active) false (line_at P ev) (born_with P ev o)
  created_now_is o e = record { event = ev; happened = happened_now; order = o; creates = e; path = sym (key_now o e); on_line = refl; context = refl }

  -- a task that was created before stands before the new one
  before_new : (p : List ℕ) (line : ℕ) (x : Context) → IsCreated P z.state p false line x → IsBefore (reverse p) (reverse (next ∷ z.active))
  before_new p line x h = go (old_ahead P main z y ms st r h.event h.happened)
    where
      place : stage_created P h.event.start h.event.past ∷ h.event.start.path ≡ p
      place = sym (creator_is P h.event.start h.event.past h.order h.creates) ∙ sym h.path

      here_ : next ∷ r.task.body.start.path ≡ next ∷ z.active
      here_ = ap (λ (q : List ℕ). next ∷ q) path_t

      go : IsEarlierPlace P h.event (stage_of r.task.body) → IsBefore (reverse p) (reverse (next ∷ z.active))
      go (inl b) =
          subst (λ (w : List ℕ). IsBefore (reverse w) (reverse (next ∷ z.active))) place
          (subst (λ (w : List ℕ). IsBefore (reverse (stage_created P h.event.start h.event.past ∷ h.event.start.path)) (reverse w)) here_ b)
      go (inr (e, l)) =
          let v = created_task P main z.state st.made p line x h in
          absurd (fresh_child P main z.state z.active r.task v.0 st.made r.at_ (subst (λ (w : List ℕ). At z.state w v.0) (sym place ∙ e ∙ here_) v.1))

  -- Nodes

  module _ (at : S → ℕ) (all : List Item) where
    node_still : (k : ℕ) (q : List ℕ) (n : Node) → IsNode P at z.state all k q n → IsNode P at y.state all k q n
    unfolding created_forth
    node_still k q n h =
        record {
          point = h.point;
          context = h.context;
          created = created_forth (k ∷ q) n.line h.context h.created;
          entry = h.entry;
          edges = edges_agree all (accesses_below z.state q) (accesses_below y.state q) k (λ i c l. sym (rights_same (i ∷ q) (λ o e p. other i l p) c)) n.edges h.edges;
        }
      where
        v : (u : Task S) × At z.state (k ∷ q) u
        v = created_task P main z.state st.made (k ∷ q) n.line h.context h.created

        other : (i : ℕ) → i ≤ k → i ∷ q ≡ next ∷ z.active → ⊥
        other i l p =
            let f : i ≡ next = first_same i next q z.active p in
            let g : q ≡ z.active = rest_same i next q z.active p in
            let b = number_below P main z.state st.made z.active k r.task v.0 r.at_ (subst (λ (w : List ℕ). At z.state (k ∷ w) v.0) g v.1) in
            omega (arith, l, f, b)

    pub nodes_still : (ns : List Node) → ((o : Order S) → now ≡ Created o false → ⊥) → AreNodes P at z.state all ns → AreNodes P at y.state all ns
    nodes_still ns none h =
        record {
          rise = h.rise;
          each = λ n i. let k = h.each n i in (k.0, (k.1.0, node_still k.0 k.1.0 n k.1.1));
          every = λ k q line x i. go k q line x (created_back (k ∷ q) line x i);
        }
      where
        go : (k : ℕ) (q : List ℕ) (line : ℕ) (x : Context) → IsCreated P z.state (k ∷ q) false line x ⊎ ((o : Order S) × ((now ≡ Created o false) × (k ∷ q ≡ next ∷ z.active))) → (n : Node) × (IsIn n ns × (n.task ≡ written (k ∷ q)))
        go k q line x (inl i) = h.every k q line x i
        go k q line x (inr (o, (e, p))) = absurd (none o e)

    pub nodes_more : (ns : List Node) (n : Node) (o : Order S) → now ≡ Created o false → n.task ≡ written (next ∷ z.active) → n.line ≡ line_at P ev → n.entry ≡ at o.script
        → AreEdges all (accesses_below y.state z.active) next n.edges → AreNodes P at z.state all ns → AreNodes P at y.state all (ns ++ n ∷ [])
    nodes_more ns n o e point line entry edges h =
        record {
          rise = in_order_more ns n h.rise before;
          each = λ m i. each m (in_append ns i);
          every = λ k q line x i. every k q line x (created_back (k ∷ q) line x i);
        }
      where
        before : (m : Node) → IsIn m ns → IsBefore m.task n.task
        before m i =
            let k = h.each m i in
            let b : IsBefore (written (k.0 ∷ k.1.0)) (written (next ∷ z.active)) = same (before_new (k.0 ∷ k.1.0) m.line k.1.1.context k.1.1.created) in
            subst (λ (w : List ℕ). IsBefore w n.task) (sym k.1.1.point) (subst (λ (w : List ℕ). IsBefore (written (k.0 ∷ k.1.0)) w) (sym point) b)

        new : IsNode P at y.state all next z.active n
        new =
            record {
              point = point;
              context = born_with P ev o;
              created = record { event = ev; happened = happened_now; order = o; creates = e; path = sym (key_now o e); on_line = line; context = refl };
              entry = entry;
              edges = edges;
            }

        each : (m : Node) → IsIn m ns ⊎ (m ≡ n) → (k : ℕ) × ((q : List ℕ) × IsNode P at y.state all k q m)
        each m (inl i) = let k = h.each m i in (k.0, (k.1.0, node_still k.0 k.1.0 m k.1.1))
        each m (inr f) = (next, (z.active, subst (λ (x : Node). IsNode P at y.state all next z.active x) (sym f) new))

        every : (k : ℕ) (q : List ℕ) (line : ℕ) (x : Context) → IsCreated P z.state (k ∷ q) false line x ⊎ ((o : Order S) × ((now ≡ Created o false) × (k ∷ q ≡ next ∷ z.active)))
            → (m : Node) × (IsIn m (ns ++ n ∷ []) × (m.task ≡ written (k ∷ q)))
        every k q line x (inl i) = let m = h.every k q line x i in (m.0, (in_left n ns m.1.0, m.1.1))
        every k q line x (inr (p, (f, g))) = (n, (in_last ns, point ∙ ap (λ (w : List ℕ). written w) (sym g)))

  -- Which task runs

  pub down_is : (o : Order S) → now ≡ Created o false → y.active ≡ next ∷ z.active
  down_is o e = go y.active (subst (λ (w : List ℕ). Turn P r.task z.active (found_by now z.state.cells) w) (sym r.active) (turn P r.task z.active (found_by now z.state.cells)))
    where
      go : (w : List ℕ) → Turn P r.task z.active (found_by now z.state.cells) w → w ≡ next ∷ z.active
      go _ (down p f) = refl
      go _ (up n p) = absurd (n o e)
      go _ (stay n p) = absurd (n o e)

  -- the same one, or its creator
  pub back_is : ((o : Order S) → now ≡ Created o false → ⊥) → (y.active ≡ z.active) ⊎ ((k : ℕ) × (z.active ≡ k ∷ y.active))
  back_is none = go y.active (subst (λ (w : List ℕ). Turn P r.task z.active (found_by now z.state.cells) w) (sym r.active) (turn P r.task z.active (found_by now z.state.cells)))
    where
      above : (p : List ℕ) → (path_above p ≡ p) ⊎ ((k : ℕ) × (p ≡ k ∷ path_above p))
      above [] = inl refl
      above (k ∷ p) = inr (k, refl)

      go : (w : List ℕ) → Turn P r.task z.active (found_by now z.state.cells) w → (w ≡ z.active) ⊎ ((k : ℕ) × (z.active ≡ k ∷ w))
      go _ (down p f) = absurd (none p f)
      go _ (up n p) = above z.active
      go _ (stay n p) = inl refl
