-- The record is right at each stage of the run.
use Rattle.std.proofs.Common.{◌≡◌, ◌≢◌, ◌<◌, refl, sym, subst, ap, ◌∙◌, ℕ, suc, ◌+◌, true, false, List, [], ◌∷◌, ◌++◌, length, reverse, Option, Some, None, arith}
use Rattle.std.proofs.lemmas.List.{length-reverse, reverse-append, reverse-reverse}
use Rattle.oss_code.specs.declared.code.CodeParts.{CodeParts}
use Rattle.oss_judge.specs.Joined.{held_right}
use Rattle.oss_machine.specs.Frames.{CodeScript}
use Rattle.oss_machine.specs.Machines.{asks}
use Rattle.oss_model.specs.Agreement.{Setting}
use Rattle.oss_model.specs.Bodies.{Act, Body, Order, Program, Start}
use Rattle.oss_model.specs.Bodies.Act.{Created}
use Rattle.oss_model.specs.Context.{right_of}
use Rattle.oss_model.specs.Machine.{At, State, Task}
use Rattle.oss_model.specs.Moves.{act_now, after_answer, created_now, found_by, is_ended, new_task, opening}
use Rattle.oss_model.specs.Order.{IsIn, written}
use Rattle.oss_model.specs.Sequence.{Running, RunsOn, path_above}
use Rattle.oss_model.proofs.MoveLemmas.{others_forth}
use Rattle.oss_model.proofs.SequenceLemmas.{Stands, Turn, down, up, stay, turn, stands, opening_at}
use Rattle.oss_model.proofs.TreeLemmas.{at_same}
use Rattle.oss_body.specs.declared.act.Act.{Act as CodeAct}
use Rattle.oss_body.specs.declared.body.Body.{Body as Kept}
use Rattle.oss_body.specs.Acts.{act_seen}
use Rattle.oss_body.specs.Mains.{code_main}
use Rattle.oss_serial.specs.declared.stage.Stage.{Stage}
use Rattle.oss_serial.specs.Stages.{AreBodies, IsFirstStage, IsNext, IsStage}
use Rattle.oss_serial.specs.Turns.{AreWaiting, Ends, whole_task}
use Rattle.oss_chain_laws.specs.Happenings.{Does}
use Rattle.oss_span_check.specs.declared.note.Made.{Made}
use Rattle.oss_span_check.specs.declared.note.Note.{Note}
use Rattle.oss_span_check.specs.declared.note.What.{What}
use Rattle.oss_span_check.specs.declared.watch.Watch.{Watch}
use Rattle.oss_span_check.specs.Following.{IsDown, IsFollowed, IsOn, IsStill, IsUp, IsWhatOf, with_note}
use Rattle.oss_span_check.specs.Recording.{AreDone, IsDoneRecord, IsRecording}
use Rattle.oss_span_check.specs.Records.{IsNoted, IsRecord, IsSeen}
use Rattle.oss_span_check.proofs.RecordLemmas.{MadeOn, NotesOn, made_more, made_same, notes_on, now_what, record_on}

-- the tasks above are as many as the numbers of the path
bodies_many : (code : CodeParts) (bs : List (Body CodeScript)) (ks : List Kept) → AreBodies code bs ks → length bs ≡ length ks
bodies_many code [] [] h = refl
bodies_many code (b ∷ bs) (k ∷ ks) h = ap suc (bodies_many code bs ks h.1)
bodies_many code [] (k ∷ ks) h = absurd h
bodies_many code (b ∷ bs) [] h = absurd h

waiting_many : (P : Program CodeScript) (s : State CodeScript) (bs : List (Body CodeScript)) (p : List ℕ) → AreWaiting P s bs p → length bs ≡ length p
waiting_many P s [] p e = sym (ap (λ (q : List ℕ). length q) e)
waiting_many P s (b ∷ older) p (k, e, a, v, w) = ap suc (waiting_many P s older b.start.path w) ∙ sym (ap (λ (q : List ℕ). length q) e)

depth_is : (code : CodeParts) (main : Start CodeScript) (first : List ℕ) (stage : Stage) (st : IsStage code main first stage) → length stage.above ≡ length st.stands.stage.active
depth_is code main first stage st =
    sym (bodies_many code st.above stage.above st.are_above) ∙ (sym (length-reverse st.above) ∙ waiting_many (asks code) st.stands.stage.state (reverse st.above) st.stands.stage.active st.stands.waiting)

-- what is above a task that goes on stays
done_keeps : {S : Type 0} (x y : State S) (p ns : List ℕ) → ((q : List ℕ) (u : Task S) → length q < length p → At x q u → At y q u) → AreDone x p ns → AreDone y p ns
done_keeps x y [] [] keeps h = tt
done_keeps x y [] (n ∷ ns) keeps h = absurd h
done_keeps x y (k ∷ p) [] keeps h = absurd h
done_keeps x y (k ∷ p) (n ∷ ns) keeps h = ((h.0.0, keeps p h.0.0 (omega arith) h.0.1, h.0.2), done_keeps x y p ns (λ q u l i. keeps q u (omega (arith, l)) i) h.1)

record Front (k : ℕ) (s : State CodeScript) (p ns : List ℕ) : Type 0 where
  number : ℕ
  rest : List ℕ
  whole_is : ns ≡ number ∷ rest
  task : Task CodeScript
  at_ : At s p task
  acts : number ≡ length task.body.found
  above : AreDone s p rest

front : (k : ℕ) (s : State CodeScript) (p ns : List ℕ) → AreDone s (k ∷ p) ns → Front k s p ns
front k s p [] h = absurd h
front k s p (n ∷ ns) h = record { number = n; rest = ns; whole_is = refl; task = h.0.0; at_ = h.0.1; acts = h.0.2; above = h.1 }

module _ (code : CodeParts) (fuel : ℕ) (old : Stage) (watch : Watch) (rec : IsRecording code fuel old watch) (act : CodeAct) (seen : act_seen act ≡ act_now (asks code) rec.is_stage.current) (mid : Watch) (noted : IsOn act old.current watch mid) where
  P : Program CodeScript
  P = asks code

  main : Start CodeScript
  main = code_main code fuel

  module _ (y : Running CodeScript) (r : RunsOn (asks code) rec.is_stage.stands.stage y) where
    abbrev z : Running CodeScript
    z = rec.is_stage.stands.stage

    task_is : r.task ≡ whole_task rec.is_stage.current
    task_is = at_same rec.is_stage.stands.stage.state rec.is_stage.stands.stage.active r.task (whole_task rec.is_stage.current) r.at_ rec.is_stage.stands.at_

    model : Stands (asks code) (code_main code fuel) rec.is_stage.stands.stage
    model = stands (asks code) (code_main code fuel) code.first rec.setting.starts rec.is_stage.stands.stage rec.is_stage.stands.run

    same_act : act_seen act ≡ act_now (asks code) r.task.body
    same_act = seen ∙ sym (ap (λ (t : Task CodeScript). act_now (asks code) t.body) task_is)

    acts_are : watch.acts ≡ length r.task.body.found
    acts_are = rec.acts ∙ sym (ap (λ (t : Task CodeScript). length t.body.found) task_is)

    point_is : noted.point ≡ written rec.is_stage.stands.stage.active
    point_is = noted.is_point code rec.is_stage.current.start rec.is_stage.current.found rec.is_stage.is_current ∙ ap (λ (q : List ℕ). written q) (sym rec.is_stage.stands.path)

    what_is : (w : Option What) → IsWhatOf act w → now_what (asks code) (code_main code fuel) code.first rec.setting.starts rec.is_stage.stands.stage y model r watch.recorded rec.kept w
    what_is None h = λ i. h (subst IsNoted (sym same_act) i)
    what_is (Some w) h = subst (λ (b : Act CodeScript). IsSeen w b) same_act h

    notes_now : NotesOn (asks code) (code_main code fuel) code.first rec.setting.starts rec.is_stage.stands.stage y model r watch.recorded rec.kept mid.recorded.notes
    notes_now =
        subst (λ (xs : List Note). NotesOn (asks code) (code_main code fuel) code.first rec.setting.starts rec.is_stage.stands.stage y model r watch.recorded rec.kept xs)
        (sym (noted.notes ∙ ap (λ (n : ℕ). with_note watch.recorded.notes noted.point n noted.what) acts_are))
        (notes_on (asks code) (code_main code fuel) code.first rec.setting.starts rec.is_stage.stands.stage y model r watch.recorded rec.kept noted.point noted.what point_is (what_is noted.what noted.is_what))

    -- nothing was created
    same_made : ((o : Order CodeScript) → act_now (asks code) r.task.body ≢ Created o false) → IsRecord (asks code) y.state mid.recorded
    same_made ne =
        record_on (asks code) (code_main code fuel) code.first rec.setting.starts rec.is_stage.stands.stage y model r watch.recorded rec.kept mid.recorded notes_now
        (subst (λ (xs : List Made). MadeOn (asks code) (code_main code fuel) code.first rec.setting.starts rec.is_stage.stands.stage y model r watch.recorded rec.kept xs) (sym noted.rest.0)
        (made_same (asks code) (code_main code fuel) code.first rec.setting.starts rec.is_stage.stands.stage y model r watch.recorded rec.kept ne))

    keeps : (q : List ℕ) (u : Task CodeScript) → length q < length rec.is_stage.stands.stage.active → At rec.is_stage.stands.stage.state q u → At y.state q u
    keeps q u l h =
        others_forth (asks code) (code_main code fuel) rec.is_stage.stands.stage.state y.state rec.is_stage.stands.stage.active r.task (found_by (act_now (asks code) r.task.body) rec.is_stage.stands.stage.state.cells) model.made r.at_ r.goes r.tasks q u
        (λ e. let k : length q ≡ length rec.is_stage.stands.stage.active = ap (λ (x : List ℕ). length x) e in omega (arith, k, l)) h

    above_now : AreDone y.state rec.is_stage.stands.stage.active (reverse watch.above)
    above_now = done_keeps rec.is_stage.stands.stage.state y.state rec.is_stage.stands.stage.active (reverse watch.above) keeps rec.above

  -- the run goes on
  module _ (new : Stage) (go : IsNext code (code_main code fuel) code.first old rec.is_stage new) (next : Watch) (follows : IsFollowed (length old.above) (length new.above) new.current mid next) where
    abbrev r : RunsOn (asks code) rec.is_stage.stands.stage go.stage.stands.stage
    r = go.runs

    abbrev found_now : ℕ
    found_now = found_by (act_now (asks code) go.runs.task.body) rec.is_stage.stands.stage.state.cells

    deep : length new.above ≡ length go.stage.stands.stage.active
    deep = depth_is code (code_main code fuel) code.first new go.stage

    was_deep : length old.above ≡ length rec.is_stage.stands.stage.active
    was_deep = depth_is code (code_main code fuel) code.first old rec.is_stage

    -- the task that runs now
    runs_now : (u : Task CodeScript) → At go.stage.stands.stage.state go.stage.stands.stage.active u → u ≡ whole_task go.stage.current
    runs_now u h = at_same go.stage.stands.stage.state go.stage.stands.stage.active u (whole_task go.stage.current) h go.stage.stands.at_

    make : IsRecord (asks code) go.stage.stands.stage.state next.recorded → next.acts ≡ length go.stage.current.found → AreDone go.stage.stands.stage.state go.stage.stands.stage.active (reverse next.above) → IsRecording code fuel new next
    make k a b = record { setting = rec.setting; is_stage = go.stage; kept = k; acts = a; above = b }

    goes_down : (o : Order CodeScript) → act_now (asks code) go.runs.task.body ≡ Created o false → go.stage.stands.stage.active ≡ created_now (asks code) go.runs.task.body ∷ rec.is_stage.stands.stage.active → IsRecording code fuel new next
    goes_down o a q =
        make
        (record_on (asks code) (code_main code fuel) code.first rec.setting.starts rec.is_stage.stands.stage go.stage.stands.stage (model go.stage.stands.stage go.runs) go.runs watch.recorded rec.kept next.recorded
        (subst (λ (xs : List Note). NotesOn (asks code) (code_main code fuel) code.first rec.setting.starts rec.is_stage.stands.stage go.stage.stands.stage (model go.stage.stands.stage go.runs) go.runs watch.recorded rec.kept xs) (sym k.rest.0) (notes_now go.stage.stands.stage go.runs))
        (subst (λ (xs : List Made). MadeOn (asks code) (code_main code fuel) code.first rec.setting.starts rec.is_stage.stands.stage go.stage.stands.stage (model go.stage.stands.stage go.runs) go.runs watch.recorded rec.kept xs)
        (sym (k.all ∙ ap (λ (xs : List Made). xs ++ k.made ∷ []) noted.rest.0))
        (made_more (asks code) (code_main code fuel) code.first rec.setting.starts rec.is_stage.stands.stage go.stage.stands.stage (model go.stage.stands.stage go.runs) go.runs watch.recorded rec.kept o a k.made point
        (k.number ∙ (noted.rest.1 ∙ acts_are go.stage.stands.stage go.runs))
        (k.wait code go.stage.current.start go.stage.current.found go.stage.is_current ∙ ap (λ (t : Task CodeScript). t.body.start.order.wait) (sym child))
        (λ c. k.rights code go.stage.current.start go.stage.current.found go.stage.is_current c ∙ ap (λ (t : Task CodeScript). held_right (right_of t.body.start.context c)) (sym child)) k.rising)))
        (k.rest.1 ∙ ap (λ (t : Task CodeScript). length t.body.found) child)
        (subst (λ (xs : List ℕ). AreDone go.stage.stands.stage.state go.stage.stands.stage.active (reverse xs)) (sym (k.rest.2 ∙ (ap (λ (xs : List ℕ). xs ++ (mid.acts + 1) ∷ []) noted.rest.2)))
        (subst (λ (xs : List ℕ). AreDone go.stage.stands.stage.state go.stage.stands.stage.active xs) (sym (reverse-append watch.above ((mid.acts + 1) ∷ [])))
        (subst (λ (x : List ℕ). AreDone go.stage.stands.stage.state x ((mid.acts + 1) ∷ reverse watch.above)) (sym q)
        ((after_answer found_now go.runs.task, go.runs.tasks.own, more), above_now go.stage.stands.stage go.runs))))
      where
        few : length old.above < length new.above
        few = let e : length go.stage.stands.stage.active ≡ length (created_now (asks code) go.runs.task.body ∷ rec.is_stage.stands.stage.active) = ap (λ (x : List ℕ). length x) q in let d = deep in let w = was_deep in omega (arith, e, d, w)

        k : IsDown new.current mid next
        k = follows.deeper few

        child : new_task (asks code) go.runs.task.body o ≡ whole_task go.stage.current
        child = runs_now (new_task (asks code) go.runs.task.body o) (subst (λ (x : List ℕ). At go.stage.stands.stage.state x (new_task (asks code) go.runs.task.body o)) (sym q) (go.runs.tasks.made o a))

        point : k.made.point ≡ written (created_now (asks code) go.runs.task.body ∷ rec.is_stage.stands.stage.active)
        point = k.is_point code go.stage.current.start go.stage.current.found go.stage.is_current ∙ ap (λ (x : List ℕ). written x) (sym go.stage.stands.path ∙ q)

        more : mid.acts + 1 ≡ suc (length go.runs.task.body.found)
        more = let e = noted.rest.1 in let f = acts_are go.stage.stands.stage go.runs in omega (arith, e, f)

    goes_up : ((o : Order CodeScript) → act_now (asks code) go.runs.task.body ≢ Created o false) → (p : List ℕ) → rec.is_stage.stands.stage.active ≡ p → is_ended (asks code) (after_answer found_now go.runs.task).body ≡ true → go.stage.stands.stage.active ≡ path_above p → IsRecording code fuel new next
    goes_up ne [] e over q =
        let t = runs_now (after_answer found_now go.runs.task) (subst (λ (x : List ℕ). At go.stage.stands.stage.state x (after_answer found_now go.runs.task)) (e ∙ sym q) go.runs.tasks.own) in
        let a : is_ended (asks code) go.stage.current ≡ true = sym (ap (λ (t : Task CodeScript). is_ended (asks code) t.body) t) ∙ over in
        let b = go.stage.stands.alive in
        absurd (cc)
    goes_up ne (k ∷ p) e over q =
        make
        (subst (λ (x : Rattle.oss_span_check.specs.declared.record.Record.Record). IsRecord (asks code) go.stage.stands.stage.state x) (sym u.same) (same_made go.stage.stands.stage go.runs ne))
        (c.1 ∙ (f.acts ∙ ap (λ (t : Task CodeScript). length t.body.found) creator))
        (subst (λ (xs : List ℕ). AreDone go.stage.stands.stage.state go.stage.stands.stage.active (reverse xs)) (sym c.0)
        (subst (λ (xs : List ℕ). AreDone go.stage.stands.stage.state go.stage.stands.stage.active xs) (sym (reverse-reverse f.rest))
        (subst (λ (x : List ℕ). AreDone go.stage.stands.stage.state x f.rest) (sym q) f.above)))
      where
        few : length new.above < length old.above
        few =
            let a : length go.stage.stands.stage.active ≡ length p = ap (λ (x : List ℕ). length x) q in
            let b : length rec.is_stage.stands.stage.active ≡ length (k ∷ p) = ap (λ (x : List ℕ). length x) e in
            let d = deep in
            let w = was_deep in
            omega (arith, a, b, d, w)

        u : IsUp mid next
        u = follows.higher few

        f : Front k go.stage.stands.stage.state p (reverse watch.above)
        f = front k go.stage.stands.stage.state p (reverse watch.above) (subst (λ (x : List ℕ). AreDone go.stage.stands.stage.state x (reverse watch.above)) e (above_now go.stage.stands.stage go.runs))

        older : mid.above ≡ reverse f.rest ++ f.number ∷ []
        older = noted.rest.2 ∙ (sym (reverse-reverse watch.above) ∙ (ap (λ (x : List ℕ). reverse x) f.whole_is ∙ reverse-append (f.number ∷ []) f.rest))

        c : (next.above ≡ reverse f.rest) × (next.acts ≡ f.number)
        c = u.creator (reverse f.rest) f.number older

        creator : f.task ≡ whole_task go.stage.current
        creator = runs_now f.task (subst (λ (x : List ℕ). At go.stage.stands.stage.state x f.task) (sym q) f.at_)

    stays : ((o : Order CodeScript) → act_now (asks code) go.runs.task.body ≢ Created o false) → go.stage.stands.stage.active ≡ rec.is_stage.stands.stage.active → IsRecording code fuel new next
    stays ne q =
        make
        (subst (λ (x : Rattle.oss_span_check.specs.declared.record.Record.Record). IsRecord (asks code) go.stage.stands.stage.state x) (sym k.same) (same_made go.stage.stands.stage go.runs ne))
        (k.rest.1 ∙ (more ∙ ap (λ (t : Task CodeScript). length t.body.found) own))
        (subst (λ (xs : List ℕ). AreDone go.stage.stands.stage.state go.stage.stands.stage.active (reverse xs)) (sym (k.rest.0 ∙ noted.rest.2))
        (subst (λ (x : List ℕ). AreDone go.stage.stands.stage.state x (reverse watch.above)) (sym q) (above_now go.stage.stands.stage go.runs)))
      where
        same : length new.above ≡ length old.above
        same = deep ∙ (ap (λ (x : List ℕ). length x) q ∙ sym was_deep)

        k : IsStill mid next
        k = follows.still same

        own : after_answer found_now go.runs.task ≡ whole_task go.stage.current
        own = runs_now (after_answer found_now go.runs.task) (subst (λ (x : List ℕ). At go.stage.stands.stage.state x (after_answer found_now go.runs.task)) (sym q) go.runs.tasks.own)

        more : mid.acts + 1 ≡ suc (length go.runs.task.body.found)
        more = let e = noted.rest.1 in let f = acts_are go.stage.stands.stage go.runs in omega (arith, e, f)

    pub recording_next : IsRecording code fuel new next
    recording_next = by_turn go.stage.stands.stage.active refl (subst (λ (x : List ℕ). Turn (asks code) go.runs.task rec.is_stage.stands.stage.active found_now x) (sym go.runs.active) (turn (asks code) go.runs.task rec.is_stage.stands.stage.active found_now))
      where
        by_turn : (a : List ℕ) → go.stage.stands.stage.active ≡ a → Turn (asks code) go.runs.task rec.is_stage.stands.stage.active found_now a → IsRecording code fuel new next
        by_turn a q (down o e) = goes_down o e q
        by_turn a q (up ne e) = goes_up ne rec.is_stage.stands.stage.active refl e q
        by_turn a q (stay ne e) = stays ne q

  -- main has ended
  pub recording_ends : {cells output : List ℕ} {tasks : ℕ} → Ends (asks code) (code_main code fuel) code.first rec.is_stage.stands.stage cells output tasks → IsDoneRecord code fuel mid.recorded
  recording_ends ends = record { setting = rec.setting; stage = ends.stage; run = ends.run; end_ = ends.end; over = ends.over; kept = same_made ends.stage ends.runs none }
    where
      found : ℕ
      found = found_by (act_now (asks code) ends.runs.task.body) rec.is_stage.stands.stage.state.cells

      not_nil : (k : ℕ) (p : List ℕ) → k ∷ p ≡ [] → ⊥
      not_nil k p e = cc

      none : (o : Order CodeScript) → act_now (asks code) ends.runs.task.body ≢ Created o false
      none = by_turn ends.stage.active refl (subst (λ (x : List ℕ). Turn (asks code) ends.runs.task rec.is_stage.stands.stage.active found x) (sym ends.runs.active) (turn (asks code) ends.runs.task rec.is_stage.stands.stage.active found))
        where
          by_turn : (a : List ℕ) → ends.stage.active ≡ a → Turn (asks code) ends.runs.task rec.is_stage.stands.stage.active found a → (o : Order CodeScript) → act_now (asks code) ends.runs.task.body ≢ Created o false
          by_turn a q (down o e) = absurd (not_nil _ _ (sym q ∙ ends.at_main))
          by_turn a q (up ne e) = ne
          by_turn a q (stay ne e) = ne

module _ (code : CodeParts) (fuel : ℕ) (stage : Stage) (is_first : IsFirstStage code (code_main code fuel) code.first stage) (setting : Setting (code_main code fuel) code.first) (watch : Watch) (notes : watch.recorded.notes ≡ []) (made : watch.recorded.made ≡ []) (acts : watch.acts ≡ 0) (above : watch.above ≡ []) where
  opened_at : (p : List ℕ) (t : Task CodeScript) → At is_first.stage.stands.stage.state p t → (p ≡ []) × (t ≡ record { body = record { start = code_main code fuel; found = [] }; given = [] })
  opened_at p t h = opening_at (code_main code fuel) code.first p t setting.starts.path (subst (λ (z : Running CodeScript). At z.state p t) is_first.opens h)

  nothing_done : {p : List ℕ} {n k : ℕ} {a : Act CodeScript} → Does (asks code) is_first.stage.stands.stage.state p n k a → ⊥
  nothing_done {p = p} d =
      let e = (opened_at p d.task d.at_).1 in
      let l = Rattle.oss_model.proofs.OrderLemmas.suffix_length d.done_ in
      let q : length d.task.body.found ≡ 0 = ap (λ (t : Task CodeScript). length t.body.found) e in
      omega (arith, l, q)

  no_path : (k : ℕ) (p : List ℕ) → k ∷ p ≡ [] → ⊥
  no_path k p e = cc

  nothing_in : {A : Type 0} {x : A} (xs : List A) → xs ≡ [] → IsIn x xs → ⊥
  nothing_in {x = x} xs e i = let h : IsIn x [] = subst (λ (ys : List _). IsIn x ys) e i in elim h [ ]

  pub recording_first : IsRecording code fuel stage watch
  recording_first = record {
    setting = setting;
    is_stage = is_first.stage;
    kept = record {
      notes_so = λ x i. absurd (nothing_in watch.recorded.notes notes i);
      noted = λ p n k a d i. absurd (nothing_done d);
      once = subst (λ (xs : List Note). Rattle.oss_span_check.specs.Records.AreOnce xs) (sym notes) tt;
      made_so = λ m i. absurd (nothing_in watch.recorded.made made i);
      made = λ k p t h. absurd (no_path k p (opened_at (k ∷ p) t h).0);
    };
    acts = acts ∙ sym (ap (λ (t : Task CodeScript). length t.body.found) (opened_at is_first.stage.stands.stage.active (whole_task is_first.stage.current) is_first.stage.stands.at_).1);
    above = subst (λ (z : Running CodeScript). AreDone z.state z.active (reverse watch.above)) (sym is_first.opens) (subst (λ (xs : List ℕ). AreDone (opening (code_main code fuel) code.first) [] (reverse xs)) (sym above) tt);
  }
