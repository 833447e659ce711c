-- What is found follows the sequential run of a code.
use Rattle.std.proofs.Common.{◌≡◌, ◌≢◌, ℕ, suc, ◌+◌, ◌≤◌, ◌<◌, ◌⊎◌, inl, inr, refl, sym, subst, ap, ◌∙◌, List, [], ◌∷◌, ◌++◌, length, reverse, arith, true, false, Option, None, Some, Result, Ok, Err}
use Rattle.std.specs.Prelude.{OnOk}
use Rattle.std.proofs.lemmas.List.{length-reverse, reverse-append}
use Rattle.oss_syntax.specs.declared.tree.program.Item.{Item}
use Rattle.oss_judge.specs.Joined.{held_right}
use Rattle.oss_model.specs.Agreement.{MainStarts, Setting}
use Rattle.oss_model.specs.Bodies.{Act, Body, Frame, IsHalt, Order, Program, Start, ask_of, child_start, stage_act}
use Rattle.oss_model.specs.Bodies.Act.{Created}
use Rattle.oss_model.specs.Context.{right_of}
use Rattle.oss_model.specs.Machine.{At, State, Task, find}
use Rattle.oss_model.specs.Memory.{Event, Happened}
use Rattle.oss_model.specs.Moves.{act_now, created_now, new_task, opening}
use Rattle.oss_model.specs.Order.{IsSuffix, whole, written}
use Rattle.oss_model.specs.Sequence.{IsAtEnd, Running, RunsOn}
use Rattle.oss_model.proofs.OrderLemmas.{suffix_drop}
use Rattle.oss_model.proofs.SequenceLemmas.{Stands, not_itself, opening_at, seq_made, stands}
use Rattle.oss_model.proofs.StageLemmas.{start_created}
use Rattle.oss_model.proofs.TreeLemmas.{at_same}
use Rattle.oss_code.specs.declared.code.CodeParts.{CodeParts}
use Rattle.oss_machine.specs.Asks.{meant_order}
use Rattle.oss_machine.specs.Frames.{CodeScript}
use Rattle.oss_machine.specs.Machines.{asks}
use Rattle.oss_body.specs.declared.act.Act.{Act as CodeAct}
use Rattle.oss_body.specs.declared.act.Act.TheVariants as acts
use Rattle.oss_body.specs.declared.body.Body.{Body as Kept}
use Rattle.oss_body.specs.Acting.{acting}
use Rattle.oss_body.specs.Acts.{act_seen}
use Rattle.oss_body.specs.Mains.{code_main}
use Rattle.oss_serial.specs.declared.stage.Stage.{Stage}
use Rattle.oss_serial.specs.Stages.{AreBodies, IsFirstStage, IsNext, IsStage, StandsBeforeFault}
use Rattle.oss_serial.specs.Turns.{AreWaiting, Ends, whole_task}
use Rattle.oss_task_graph.specs.declared.graph.Node.{Node}
use Rattle.oss_task_graph.specs.declared.graph.Stop.{Stop}
use Rattle.oss_task_graph.specs.Edges.{Accesses, AreEdges}
use Rattle.oss_task_graph.specs.Graphs.{AreNodes, IsGraphOf, accesses_below, done, entry_of, fault, right_in}
use Rattle.oss_task_edges.specs.declared.siblings.Siblings.{Siblings}
use Rattle.oss_task_edges.specs.Kept.{Keeps}
use Rattle.oss_task_edges.proofs.AgreeLemmas.{keeps_agree, keeps_either}
use Rattle.oss_graph.specs.declared.coming.Coming.{Coming}
use Rattle.oss_graph.specs.declared.found.Found.{Found}
use Rattle.oss_graph.specs.Coming.{coming_by}
use Rattle.oss_graph.specs.Finding.{IsBack, IsDown, IsEmpty, IsFollowed, IsNewIn}
use Rattle.oss_graph.specs.Following.{AreBelow, AreOnWay, IsFollowing, KeepsAll, at_child, at_main}
use Rattle.oss_graph.proofs.TurnLemmas.{accesses_same, back_is, creator_is, down_is, held_task, next, nodes_more, nodes_still, none_before, none_behind, number_below, rights_same}

-- The children of a task

keeps_all_same : (a b : Accesses) (s : Siblings) → b ≡ a → KeepsAll a s → KeepsAll b s
keeps_all_same a b s e h = subst (λ (x : Accesses). KeepsAll x s) (sym e) h

-- of a task without children
keeps_none : (a : Accesses) (s : Siblings) → AreBelow a 0 → IsEmpty s → KeepsAll a s
keeps_none a s none empty n below = keeps_either a 0 n s none below (empty a)

way_length : {S : Type 0} (s : State S) (q : List ℕ) (bs : List Siblings) → AreOnWay s q bs → length bs ≡ length q + 1
way_length s _ _ (at_main h) = omega arith
way_length s _ _ (at_child {q = q} {rest = rest} h more) = let n = way_length s q rest more in omega (arith, n)

way_top : {S : Type 0} (s : State S) (q : List ℕ) (b : Siblings) (rest : List Siblings) → AreOnWay s q (b ∷ rest) → KeepsAll (accesses_below s q) b
way_top s _ b _ (at_main h) = h
way_top s _ b _ (at_child h more) = h

-- One act

module _ {S : Type 0} (P : Program S) (main : Start S) (ms : MainStarts main) (z y : Running S) (st : Stands P main z) (r : RunsOn P z y) where
  abbrev now : Act S
  now = act_now P r.task.body

  abbrev number : ℕ
  number = created_now P r.task.body

  -- where no task is created
  module _ (none : (o : Order S) → now ≡ Created o false → ⊥) where
    way_same : {q : List ℕ} {bs : List Siblings} → AreOnWay z.state q bs → AreOnWay y.state q bs
    way_same (at_main {b = b} h) = at_main (keeps_all_same (accesses_below z.state []) (accesses_below y.state []) b (accesses_same P main ms z y st r [] (λ k o e. absurd (none o e))) h)
    way_same (at_child {k = k} {q = q} {b = b} h more) =
        at_child (keeps_all_same (accesses_below z.state (k ∷ q)) (accesses_below y.state (k ∷ q)) b (accesses_same P main ms z y st r (k ∷ q) (λ i o e. absurd (none o e))) h) (way_same more)

    way_rest : (k : ℕ) (q : List ℕ) (b : Siblings) (rest : List Siblings) → AreOnWay z.state (k ∷ q) (b ∷ rest) → AreOnWay y.state q rest
    way_rest k q b rest (at_child h more) = way_same more

  -- the tasks above that which runs
  other : (q : List ℕ) (k : ℕ) → IsSuffix (k ∷ q) z.active → (i : ℕ) (o : Order S) → now ≡ Created o false → i ∷ q ≢ number ∷ z.active
  other q k s i o e p = not_itself s (rest i number q z.active p)
    where
      rest : (i j : ℕ) (p q : List ℕ) → i ∷ p ≡ j ∷ q → p ≡ q
      rest i j p q e = cc

  way_above : {q : List ℕ} {bs : List Siblings} (k : ℕ) → IsSuffix (k ∷ q) z.active → AreOnWay z.state q bs → AreOnWay y.state q bs
  way_above k s (at_main {b = b} h) = at_main (keeps_all_same (accesses_below z.state []) (accesses_below y.state []) b (accesses_same P main ms z y st r [] (other [] k s)) h)
  way_above k s (at_child {k = j} {q = q} {b = b} h more) =
      at_child (keeps_all_same (accesses_below z.state (j ∷ q)) (accesses_below y.state (j ∷ q)) b (accesses_same P main ms z y st r (j ∷ q) (other (j ∷ q) k s)) h) (way_above j (suffix_drop s) more)

  -- the task that runs, and those above it
  way_with : (q : List ℕ) (b creator : Siblings) (rest : List Siblings) → q ≡ z.active → KeepsAll (accesses_below y.state q) creator → AreOnWay z.state q (b ∷ rest) → AreOnWay y.state q (creator ∷ rest)
  way_with _ b creator _ e keeps (at_main h) = at_main keeps
  way_with _ b creator _ e keeps (at_child {k = k} {q = q} h more) = at_child keeps (way_above k (subst (λ (w : List ℕ). IsSuffix (k ∷ q) w) e whole) more)

  -- a task is created
  module _ (o : Order S) (e : now ≡ Created o false) where
    abbrev child : Task S
    child = new_task P r.task.body o

    at_child_now : At y.state (number ∷ z.active) child
    at_child_now = r.tasks.made o e

    no_child : AreBelow (accesses_below y.state (number ∷ z.active)) 0
    unfolding child_start
    no_child i c l h =
        let u = held_task (find y.state.tasks (i ∷ number ∷ z.active)) c h in
        let b = number_below P main y.state (seq_made P main z y ms st r) (number ∷ z.active) i child u.0 at_child_now u.1 in
        let n : created_now P child.body ≡ 0 = start_created P child.body.start refl in
        omega (arith, b, n)

    -- what was kept before
    kept_before : (b : Siblings) → KeepsAll (accesses_below z.state z.active) b → Keeps (accesses_below y.state z.active) number b
    kept_before b h =
        keeps_agree (accesses_below z.state z.active) (accesses_below y.state z.active) number b (λ i c l. sym (rights_same P main ms z y st r (i ∷ z.active) (λ p f g. earlier i l g) c))
        (h number (none_before P main ms z y st r))
      where
        earlier : (i : ℕ) → i < number → i ∷ z.active ≡ number ∷ z.active → ⊥
        earlier i l g = let k : i ≡ number = first i number z.active z.active g in omega (arith, l, k)
          where
            first : (i j : ℕ) (p q : List ℕ) → i ∷ p ≡ j ∷ q → i ≡ j
            first i j p q e = cc

    keeps_now : (creator : Siblings) → Keeps (accesses_below y.state z.active) (number + 1) creator → KeepsAll (accesses_below y.state z.active) creator
    keeps_now creator h n below = keeps_either (accesses_below y.state z.active) (number + 1) n creator (none_behind P main ms z y st r o e) below h

    way_down : (b creator new : Siblings) (rest : List Siblings) → Keeps (accesses_below y.state z.active) (number + 1) creator → IsEmpty new → AreOnWay z.state z.active (b ∷ rest)
        → AreOnWay y.state (number ∷ z.active) (new ∷ creator ∷ rest)
    way_down b creator new rest h empty way = at_child (keeps_none (accesses_below y.state (number ∷ z.active)) new no_child empty) (way_with z.active b creator rest refl (keeps_now creator h) way)

-- The beginning

module _ {S : Type 0} (P : Program S) (main : Start S) (ms : MainStarts main) (cells : List ℕ) where
  no_child_yet : AreBelow (accesses_below (opening main cells) []) 0
  no_child_yet i c l h =
      let u = held_task (find (opening main cells).tasks (i ∷ [])) c h in
      let e = (opening_at main cells (i ∷ []) u.0 ms.path u.1).0 in
      none i e
    where
      none : (i : ℕ) → i ∷ [] ≡ [] → ⊥
      none i e = cc

  first_way : (b : Siblings) → IsEmpty b → AreOnWay (opening main cells) [] (b ∷ [])
  first_way b empty = at_main (keeps_none (accesses_below (opening main cells) []) b no_child_yet empty)

  first_nodes : (place : S → ℕ) (all : List Item) → AreNodes P place (opening main cells) all []
  first_nodes place all = record { rise = tt; each = λ n i. absurd (elim i [ ]); every = λ k q line x h. absurd (nothing h.event h.happened) }
    where
      nothing : (e : Event S) → Happened (opening main cells) e → ⊥
      nothing e h = none (subst (λ (t : Task S). IsSuffix (e.answer ∷ e.past) t.body.found) (opening_at main cells e.start.path h.task ms.path h.at_).1 h.found)
        where
          none : IsSuffix (e.answer ∷ e.past) [] → ⊥
          none i = elim i [ ]

-- As many bodies wait as tasks stand above

bodies_length : (code : CodeParts) (bs : List (Body CodeScript)) (ks : List Kept) → AreBodies code bs ks → length ks ≡ length bs
bodies_length code [] [] h = refl
bodies_length code (b ∷ bs) (k ∷ ks) h = ap suc (bodies_length code bs ks h.1)
bodies_length code [] (k ∷ ks) h = absurd h
bodies_length code (b ∷ bs) [] h = absurd h

waiting_length : {S : Type 0} (P : Program S) (s : State S) (bs : List (Body S)) (path : List ℕ) → AreWaiting P s bs path → length bs ≡ length path
waiting_length P s [] path h = ap (λ (p : List ℕ). length p) (sym h)
waiting_length P s (b ∷ bs) path (k, e, at_, alive, more) =
    let n = waiting_length P s bs b.start.path more in
    let l : length path ≡ length (k ∷ b.start.path) = ap (λ (p : List ℕ). length p) e in
    omega (arith, n, l)

module _ (code : CodeParts) (fuel : ℕ) (all : List Item) where
  abbrev P : Program CodeScript
  P = asks code

  abbrev main : Start CodeScript
  main = code_main code fuel

  waiting_is : (s : Stage) (is : IsStage code (code_main code fuel) code.first s) → length s.above ≡ length is.stands.stage.active
  waiting_is s is =
      bodies_length code is.above s.above is.are_above ∙ sym (length-reverse is.above) ∙ waiting_length (asks code) is.stands.stage.state (reverse is.above) is.stands.stage.active is.stands.waiting

  pub following_begins : (s : Stage) (f : Found) → IsFirstStage code (code_main code fuel) code.first s → Setting (code_main code fuel) code.first → IsNewIn all f → IsFollowing code fuel all s f
  following_begins s f h setting new =
      record {
        setting = setting;
        is_stage = h.stage;
        layout = new.layout;
        way = subst (λ (z : Running CodeScript). AreOnWay z.state z.active (f.top ∷ reverse f.above)) (sym h.opens)
            (subst (λ (bs : List Siblings). AreOnWay (opening (code_main code fuel) code.first) [] (f.top ∷ reverse bs)) (sym new.above) (first_way (asks code) (code_main code fuel) setting.starts code.first f.top new.top));
        nodes = subst (λ (z : Running CodeScript). AreNodes (asks code) entry_of z.state all f.nodes) (sym h.opens)
            (subst (λ (ns : List Node). AreNodes (asks code) entry_of (opening (code_main code fuel) code.first) all ns) (sym new.nodes) (first_nodes (asks code) (code_main code fuel) setting.starts code.first entry_of all));
      }

  module _ (s : Stage) (f : Found) (st : IsFollowing code fuel all s f) where
    abbrev z : Running CodeScript
    z = st.is_stage.stands.stage

    abbrev current : Body CodeScript
    current = st.is_stage.current

    abbrev frame : Frame CodeScript
    frame = acting (asks code) current.start current.found

    stands_now : Stands (asks code) (code_main code fuel) z
    stands_now = stands (asks code) (code_main code fuel) code.first st.setting.starts z st.is_stage.stands.run

    module _ (a : CodeAct) (seen : act_seen a ≡ stage_act (asks code) current.start current.found) (line created : ℕ) (line_is : line ≡ (ask_of (asks code) frame).line) (created_is : created ≡ frame.context.created) where
      -- An act that leads on
      module _ (y : Running CodeScript) (r : RunsOn (asks code) z y) where
        same_task : r.task ≡ whole_task current
        same_task = at_same z.state z.active r.task (whole_task current) r.at_ st.is_stage.stands.at_

        seen_now : act_seen a ≡ act_now (asks code) r.task.body
        seen_now = seen ∙ ap (λ (t : Task CodeScript). act_now (asks code) t.body) (sym same_task)

        none_created : coming_by a line created ≡ None → (o : Order CodeScript) → act_now (asks code) r.task.body ≡ Created o false → ⊥
        none_created e o h = go a e (seen_now ∙ h)
          where
            go : (b : CodeAct) → coming_by b line created ≡ None → act_seen b ≡ Created o false → ⊥
            go (acts.Create creation false) k g = cc
            go (acts.Create creation true) k g = cc
            go (acts.Load c) k g = cc
            go (acts.Store c v) k g = cc
            go (acts.Fold c op v slot) k g = cc
            go acts.End k g = cc
            go acts.Tick k g = cc
            go acts.Await k g = cc
            go acts.Wait k g = cc
            go (acts.WaitOn ranges) k g = cc
            go (acts.Release clauses included) k g = cc
            go (acts.Print key text) k g = cc
            go (acts.Fault kind l key) k g = cc

        -- What is told of a task that the act creates.
        record CreatesTask (coming : Coming) : Type 0 where
          pub order : Order CodeScript
          pub creates : act_now (asks code) r.task.body ≡ Created order false
          pub number_is : coming.number ≡ created
          pub line_of : coming.line ≡ line
          pub entry_is : coming.entry ≡ order.script.entry

        created_so : (coming : Coming) → coming_by a line created ≡ Some coming → CreatesTask coming
        created_so coming e = go a e seen_now
          where
            go : (b : CodeAct) → coming_by b line created ≡ Some coming → act_seen b ≡ act_now (asks code) r.task.body → CreatesTask coming
            go (acts.Create creation false) k g = record {
              order = meant_order creation.order;
              creates = sym g;
              number_is = sym (ap (λ (x : Coming). x.number) (some_is (record { number = created; line = line; entry = creation.order.entry }) coming k));
              line_of = sym (ap (λ (x : Coming). x.line) (some_is (record { number = created; line = line; entry = creation.order.entry }) coming k));
              entry_is = sym (ap (λ (x : Coming). x.entry) (some_is (record { number = created; line = line; entry = creation.order.entry }) coming k));
            }
              where
                some_is : (x w : Coming) → Some x ≡ Some w → x ≡ w
                some_is x w h = cc
            go (acts.Create creation true) k g = absurd cc
            go (acts.Load c) k g = absurd cc
            go (acts.Store c v) k g = absurd cc
            go (acts.Fold c op v slot) k g = absurd cc
            go acts.End k g = absurd cc
            go acts.Tick k g = absurd cc
            go acts.Await k g = absurd cc
            go acts.Wait k g = absurd cc
            go (acts.WaitOn ranges) k g = absurd cc
            go (acts.Release clauses included) k g = absurd cc
            go (acts.Print key text) k g = absurd cc
            go (acts.Fault kind l key) k g = absurd cc

        number_now : (o : Order CodeScript) → act_now (asks code) r.task.body ≡ Created o false → created ≡ created_now (asks code) r.task.body
        number_now o e =
            created_is ∙ ap (λ (t : Task CodeScript). (acting (asks code) t.body.start t.body.found).context.created) (sym same_task)
            ∙ first _ _ _ _ (creator_is (asks code) r.task.body.start r.task.body.found o e)
          where
            first : (i j : ℕ) (p q : List ℕ) → i ∷ p ≡ j ∷ q → i ≡ j
            first i j p q h = cc

      module _ (x : Stage) (g : IsNext code (code_main code fuel) code.first s st.is_stage x) where
        abbrev y : Running CodeScript
        y = g.stage.stands.stage

        abbrev r : RunsOn (asks code) z y
        r = g.runs

        abbrev body : Body CodeScript
        body = g.stage.current

        -- the run goes down
        module _ (coming : Coming) (e : coming_by a line created ≡ Some coming) (m : Found) (d : IsDown x.current coming f m) where
          told : CreatesTask y r coming
          told = created_so y r coming e

          down_now : y.active ≡ created_now (asks code) r.task.body ∷ z.active
          down_now = down_is (asks code) (code_main code fuel) st.setting.starts z y stands_now r told.order told.creates

          number_is : coming.number ≡ created_now (asks code) r.task.body
          number_is = told.number_is ∙ number_now y r told.order told.creates

          here : (c : ℕ) → accesses_below y.state z.active (created_now (asks code) r.task.body) c ≡ right_of body.start.context c
          here c =
              ap (λ (w : List ℕ). right_in (find y.state.tasks w) c) (sym down_now) ∙ ap (λ (o : Option (Task CodeScript)). right_in o c) g.stage.stands.at_

          kept : Keeps (accesses_below y.state z.active) (created_now (asks code) r.task.body) f.top
          kept = kept_before (asks code) (code_main code fuel) st.setting.starts z y stands_now r told.order told.creates f.top (way_top z.state z.active f.top (reverse f.above) st.way)

          keeps : Keeps (accesses_below y.state z.active) (created_now (asks code) r.task.body + 1) d.creator
          keeps =
              subst (λ (n : ℕ). Keeps (accesses_below y.state z.active) n f.top → ((c : ℕ) → held_right (accesses_below y.state z.active n c) ≡ held_right (right_of body.start.context c)) → Keeps (accesses_below y.state z.active) (n + 1) d.creator)
              number_is (λ h k. d.keeps (accesses_below y.state z.active) h code body.start body.found g.stage.is_current k) kept (λ c. ap held_right (here c))

          edges : AreEdges all (accesses_below y.state z.active) (created_now (asks code) r.task.body) d.node.edges
          edges =
              subst (λ (n : ℕ). Keeps (accesses_below y.state z.active) n f.top → ((c : ℕ) → held_right (accesses_below y.state z.active n c) ≡ held_right (right_of body.start.context c)) → AreEdges all (accesses_below y.state z.active) n d.node.edges)
              number_is (λ h k. d.edges all st.layout (accesses_below y.state z.active) h code body.start body.found g.stage.is_current k) kept (λ c. ap held_right (here c))

          list : reverse m.above ≡ d.creator ∷ reverse f.above
          list = ap (λ (bs : List Siblings). reverse bs) d.above ∙ reverse-append f.above (d.creator ∷ [])

          pub following_down : IsFollowing code fuel all x m
          following_down =
              record {
                setting = st.setting;
                is_stage = g.stage;
                layout = d.layout ∙ st.layout;
                way = subst (λ (w : List ℕ). AreOnWay y.state w (m.top ∷ reverse m.above)) (sym down_now)
                    (subst (λ (bs : List Siblings). AreOnWay y.state (created_now (asks code) r.task.body ∷ z.active) (m.top ∷ bs)) (sym list)
                    (way_down (asks code) (code_main code fuel) st.setting.starts z y stands_now r told.order told.creates f.top d.creator m.top (reverse f.above) keeps d.top st.way));
                nodes = subst (λ (ns : List Node). AreNodes (asks code) entry_of y.state all ns) (sym d.nodes)
                    (nodes_more (asks code) (code_main code fuel) st.setting.starts z y stands_now r entry_of all f.nodes d.node told.order told.creates
                    (d.point code body.start body.found g.stage.is_current ∙ ap (λ (w : List ℕ). written w) (sym g.stage.stands.path ∙ down_now))
                    (d.line ∙ told.line_of ∙ line_is ∙ ap (λ (t : Task CodeScript). (ask_of (asks code) (acting (asks code) t.body.start t.body.found)).line) (sym (same_task y r)))
                    (d.entry ∙ told.entry_is) edges st.nodes);
              }

        -- the run stays, or goes up
        module _ (e : coming_by a line created ≡ None) (m : Found) (d : IsBack (length x.above) f m) where
          none : (o : Order CodeScript) → act_now (asks code) r.task.body ≡ Created o false → ⊥
          none = none_created y r e

          above_length : length f.above ≡ length z.active
          above_length =
              let n = way_length z.state z.active (f.top ∷ reverse f.above) st.way in
              let l : length (reverse f.above) ≡ length f.above = length-reverse f.above in
              omega (arith, n, l)

          waiting : length x.above ≡ length y.active
          waiting = waiting_is x g.stage

          way_now : AreOnWay y.state y.active (m.top ∷ reverse m.above)
          way_now = go (back_is (asks code) (code_main code fuel) st.setting.starts z y stands_now r none) d.way
            where
              go : (y.active ≡ z.active) ⊎ ((k : ℕ) × (z.active ≡ k ∷ y.active)) → ((length x.above < length f.above) × (f.above ≡ m.above ++ m.top ∷ [])) ⊎ ((length f.above ≤ length x.above) × (m.top ≡ f.top) × (m.above ≡ f.above))
                  → AreOnWay y.state y.active (m.top ∷ reverse m.above)
              go (inl same) (inl (less, up)) =
                  let n : length y.active ≡ length z.active = ap (λ (w : List ℕ). length w) same in
                  absurd (omega (arith, less, n, above_length, waiting))
              go (inl same) (inr (more, top, above)) =
                  subst (λ (w : List ℕ). AreOnWay y.state w (m.top ∷ reverse m.above)) (sym same)
                  (subst (λ (b : Siblings). AreOnWay y.state z.active (b ∷ reverse m.above)) (sym top)
                  (subst (λ (bs : List Siblings). AreOnWay y.state z.active (f.top ∷ reverse bs)) (sym above) (way_same (asks code) (code_main code fuel) st.setting.starts z y stands_now r none st.way)))
              go (inr (k, one)) (inl (less, up)) =
                  way_rest (asks code) (code_main code fuel) st.setting.starts z y stands_now r none k y.active f.top (m.top ∷ reverse m.above)
                  (subst (λ (w : List ℕ). AreOnWay z.state w (f.top ∷ m.top ∷ reverse m.above)) one
                  (subst (λ (bs : List Siblings). AreOnWay z.state z.active (f.top ∷ bs)) (ap (λ (bs : List Siblings). reverse bs) up ∙ reverse-append m.above (m.top ∷ [])) st.way))
              go (inr (k, one)) (inr (more, top, above)) =
                  let n : length z.active ≡ length (k ∷ y.active) = ap (λ (w : List ℕ). length w) one in
                  absurd (omega (arith, more, n, above_length, waiting))

          pub following_back : IsFollowing code fuel all x m
          following_back =
              record {
                setting = st.setting;
                is_stage = g.stage;
                layout = d.layout ∙ st.layout;
                way = way_now;
                nodes = subst (λ (ns : List Node). AreNodes (asks code) entry_of y.state all ns) (sym d.nodes) (nodes_still (asks code) (code_main code fuel) st.setting.starts z y stands_now r entry_of all f.nodes none st.nodes);
              }

        -- both
        pub following_next : (o : Option Coming) → o ≡ coming_by a line created → (m : Found) → IsFollowed x.current (length x.above) o f m → IsFollowing code fuel all x m
        following_next (Some coming) e m d = following_down coming (sym e) m d
        following_next None e m d = following_back (sym e) m d

    -- The end

    -- main has ended
    pub graph_done : (cells output : List ℕ) (tasks : ℕ) → Ends (asks code) (code_main code fuel) code.first z cells output tasks → IsGraphOf code fuel all (record { nodes = f.nodes; fault = None })
    graph_done cells output tasks h =
        done h.run h.end h.over (nodes_still (asks code) (code_main code fuel) st.setting.starts z h.stage stands_now h.runs entry_of all f.nodes none st.nodes)
      where
        none : (o : Order CodeScript) → act_now (asks code) h.runs.task.body ≡ Created o false → ⊥
        none o e =
            let d : h.stage.active ≡ next (asks code) (code_main code fuel) st.setting.starts z h.stage stands_now h.runs ∷ z.active = down_is (asks code) (code_main code fuel) st.setting.starts z h.stage stands_now h.runs o e in
            not_empty _ _ (sym d ∙ h.at_main)
          where
            not_empty : (k : ℕ) (q : List ℕ) → k ∷ q ≡ [] → ⊥
            not_empty k q g = cc

    -- a fault stops the run
    pub graph_failed : (stop : Stop) → StandsBeforeFault code (code_main code fuel) code.first s st.is_stage stop.kind stop.line → stop.task ≡ written current.start.path → IsGraphOf code fuel all (record { nodes = f.nodes; fault = Some stop })
    graph_failed stop h point = fault st.is_stage.stands.run end h.fault (point ∙ ap (λ (w : List ℕ). written w) (sym st.is_stage.stands.path)) st.nodes
      where
        end : IsAtEnd (asks code) z
        end = record { task = whole_task current; at_ = st.is_stage.stands.at_; stops = subst (λ (b : Act CodeScript). IsHalt b) (sym h.fault) tt }

-- what follows where a call did not want memory
pub on_ok : {A E : Type 0} {T U : Type 0} (r : Result A E) → (T → U) → OnOk r T → OnOk r U
on_ok (Ok x) h t = h t
on_ok (Err e) h t = tt
