-- Where no move is left, the state has done what the sequential run has done.
use Rattle.oss_model.specs.Context.{right_of}
use Rattle.oss_syntax.specs.declared.access.Mode.{Mode}
use Rattle.oss_syntax.specs.declared.access.Op.{Op}
use Rattle.oss_syntax.specs.declared.access.Mode.TheVariants.{Fold}
use Rattle.oss_model.specs.Agreement.{Compatible, Setting, Agrees}
use Rattle.std.proofs.Common.{◌≡◌, ◌≢◌, ℕ, ◌+◌, ◌<◌, ◌≤◌, ◌⊎◌, inl, inr, refl, sym, subst, ap, ◌∙◌, List, [], ◌∷◌, length, reverse, arith, Bool, true, false, Option, Some, None}
use Rattle.std.specs.Prelude.{slice_index}
use Rattle.oss_model.specs.Order.{IsSuffix, whole, IsIn, IsBefore}
use Rattle.oss_model.specs.Rights.{Holds}
use Rattle.oss_model.specs.Bodies.{Program, Act, Start, Body, stage_act, stage_created, IsHalt, IsFault}
use Rattle.oss_model.specs.Bodies.Act.{Created, Over, Fault}
use Rattle.oss_model.specs.Machine.{Task, State, At, find}
use Rattle.oss_model.specs.History.{MadeBy, IsMade, IsComparable}
use Rattle.oss_model.specs.Moves.{act_now, created_now, is_ended, IsClosed}
use Rattle.oss_model.specs.Memory.{Event, Happened, Changes, DoneChange, replay, IsValue}
use Rattle.oss_model.specs.Sequence.{Running, Sequential, IsAtEnd}
use Rattle.oss_model.proofs.StageLemmas.{created_grows, stage_touch}
use Rattle.oss_model.proofs.OrderLemmas.{suffix_trans, suffix_drop, suffix_length, suffix_linear, suffix_full, before_child, before_up, before_across}
use Rattle.oss_model.proofs.TreeLemmas.{at_same, over_stops, path_found, next_of, starts_well}
use Rattle.oss_model.proofs.SortLemmas.{event_trans, sorted_one}
use Rattle.oss_model.specs.Claims.{IsStoppedAs, ended, failed, EveryStopIsTheEnd}
use Rattle.oss_model.proofs.Places.{IsLeastPlace, place, IsEarlierPlace}
use Rattle.oss_model.proofs.KeyOrder.{placed, least_key}
use Rattle.oss_model.proofs.ProgressTheorem.{Outlook, progress}
use Rattle.oss_model.proofs.MoveLemmas.{which_path}
use Rattle.oss_model.proofs.SequenceLemmas.{Stands, stands, stage_of, stage_later, on_way, not_itself}
use Rattle.oss_model.proofs.MemoryLemmas.{change_touch, fold_mode}
use Rattle.oss_model.proofs.RecallLemmas.{RunChange, RunValue, recalls}

le_or : (m n : ℕ) → (m < n) ⊎ (n ≤ m)
le_or m n = grind arith

lt_or : (m n : ℕ) → n ≤ m → (n < m) ⊎ (m ≡ n)
lt_or m n h = grind arith

module _ {S : Type 0} (P : Program S) (main : Start S) (cells : List ℕ) (z : Running S) (s : State S) (set_ : Setting main cells) (run : Sequential P main cells z) (agrees : Agrees P main cells z s) where
  st : Stands P main z
  st = stands P main cells set_.starts z run

  made : IsMade P main s
  made = agrees.made

  comp : Compatible z.state s
  comp = agrees.same

  -- a task of s that stands at or before an event of the sequential run which is not done in s
  record Behind (q : List ℕ) (e : Event S) : Type 0 where
    task : Task S
    at_ : At s q task
    start : task.body.start ≡ e.start
    stage : IsSuffix task.body.found e.past
    open_ : is_ended P task.body ≡ true → ⊥

  -- an event of the sequential run is done in s, or its task stands behind it, or a task above does
  caught_at : (q : List ℕ) (e : Event S) → e.start.path ≡ q → Happened z.state e → (u : Task S) → At s q u → Happened s e ⊎ Behind q e
  caught_at q e path h u at_ = go (comp q h.task u (subst (λ (x : List ℕ). At z.state x h.task) path h.at_) at_)
    where
      into : IsComparable h.task.body u.body → IsSuffix (e.answer ∷ e.past) u.body.found → Happened s e
      into c f = record { task = u; at_ = subst (λ (x : List ℕ). At s x u) (sym path) at_; start = sym c.start ∙ h.start; found = f }

      behind : IsComparable h.task.body u.body → IsSuffix u.body.found e.past → Behind q e
      behind c k =
          record {
            task = u;
            at_ = at_;
            start = sym c.start ∙ h.start;
            stage = k;
            open_ = λ o.
                let n = next_of (suffix_trans k (suffix_drop h.found)) (let a = suffix_length k in let b = suffix_length h.found in omega arith) in
                let x : IsHalt (stage_act P u.body.start u.body.found) = subst IsHalt (sym (over_stops P u.body.start u.body.found o)) tt in
                st.made.goes e.start.path h.task u.body.found n.0 h.at_ n.1 (subst (λ (y : Start S). IsHalt (stage_act P y u.body.found)) (sym c.start) x);
          }

      go : IsComparable h.task.body u.body → Happened s e ⊎ Behind q e
      go c = split c.found
        where
          short : IsSuffix u.body.found h.task.body.found → (length e.past < length u.body.found) ⊎ (length u.body.found ≤ length e.past) → Happened s e ⊎ Behind q e
          short k (inl l) = inl (into c (suffix_linear h.found k (omega arith)))
          short k (inr l) = inr (behind c (suffix_linear k (suffix_drop h.found) l))

          split : IsSuffix h.task.body.found u.body.found ⊎ IsSuffix u.body.found h.task.body.found → Happened s e ⊎ Behind q e
          split (inl k) = inl (into c (suffix_trans h.found k))
          split (inr k) = short k (le_or (length e.past) (length u.body.found))

  -- the creation of a task of the sequential run, as an event
  creation_of : (k : ℕ) (q : List ℕ) (u : Task S) (b : MadeBy P z.state k q u) → Happened z.state (record { start = b.creator.body.start; past = b.past; answer = b.answer })
  creation_of k q u b =
      let p = path_found z.state.tasks q b.creator b.at_ in
      record { task = b.creator; at_ = subst (λ (x : List ℕ). At z.state x b.creator) (sym p) b.at_; start = refl; found = b.happened }

  creation_before : (k : ℕ) (q : List ℕ) (u : Task S) (b : MadeBy P z.state k q u) (e : Event S) → e.start.path ≡ k ∷ q → IsEarlierPlace P (record { start = b.creator.body.start; past = b.past; answer = b.answer }) e
  creation_before k q u b e path =
      let p = path_found z.state.tasks q b.creator b.at_ in
      inl (subst (λ (x : List ℕ). IsBefore (reverse (stage_created P b.creator.body.start b.past ∷ x)) (reverse (place P e))) (sym p)
      (subst (λ (x : ℕ). IsBefore (reverse (x ∷ q)) (reverse (place P e))) (sym b.number)
      (subst (λ (x : List ℕ). IsBefore (reverse (k ∷ q)) (reverse (stage_created P e.start e.past ∷ x))) (sym path) (before_child (stage_created P e.start e.past) k q))))

  -- a condition under which a task that stands behind an event is impossible
  module _ (Early : Event S → Type 0) (earlier : (e g : Event S) → IsEarlierPlace P e g → Early g → Early e) (never : (q : List ℕ) (e : Event S) → e.start.path ≡ q → Early e → Behind q e → ⊥) where
    caught : (q : List ℕ) (e : Event S) → e.start.path ≡ q → Early e → Happened z.state e → Happened s e
    caught [] e path early h = settle (caught_at [] e path h made.main_task made.main_at)
      where
        settle : Happened s e ⊎ Behind [] e → Happened s e
        settle (inl x) = x
        settle (inr b) = absurd (never [] e path early b)
    caught (k ∷ q) e path early h =
        let at_ : At z.state (k ∷ q) h.task = subst (λ (x : List ℕ). At z.state x h.task) path h.at_ in
        let b = st.made.child k q h.task at_ in
        let pb = path_found z.state.tasks q b.creator b.at_ in
        let cr : Event S = record { start = b.creator.body.start; past = b.past; answer = b.answer } in
        child b (caught q cr pb (earlier cr e (creation_before k q h.task b e path) early) (creation_of k q h.task b))
      where
        settle : Happened s e ⊎ Behind (k ∷ q) e → Happened s e
        settle (inl x) = x
        settle (inr b) = absurd (never (k ∷ q) e path early b)

        child : (b : MadeBy P z.state k q h.task) → Happened s (record { start = b.creator.body.start; past = b.past; answer = b.answer }) → Happened s e
        child b c =
            let pb = path_found z.state.tasks q b.creator b.at_ in
            let act : stage_act P c.task.body.start b.past ≡ Created b.order false = subst (λ (x : Start S). stage_act P x b.past ≡ Created b.order false) (sym c.start) b.act in
            let m = made.made b.creator.body.start.path c.task b.past b.answer b.order c.at_ c.found act in
            let num : stage_created P c.task.body.start b.past ≡ k = subst (λ (x : Start S). stage_created P x b.past ≡ k) (sym c.start) b.number in
            let at2 : At s (k ∷ b.creator.body.start.path) m.0 = subst (λ (x : ℕ). At s (x ∷ b.creator.body.start.path) m.0) num m.1 in
            settle (caught_at (k ∷ q) e path h m.0 (subst (λ (x : List ℕ). At s (k ∷ x) m.0) pb at2))

  module _ (over : IsAtEnd P z) where
    f : Task S
    f = over.task

    -- where a stage of s stands: within the sequential run, or past all that it has done
    pub data Where (q : List ℕ) (x : Event S) : Type 0 where
      within : (w : Task S) → At z.state q w → w.body.start ≡ x.start → IsSuffix x.past w.body.found → Where q x
      beyond : (j : ℕ) (a : List ℕ) → q ≢ z.active → IsSuffix (j ∷ a) z.active → IsEarlierPlace P (stage_of over.task.body) x → Where q x

    pub active_path : over.task.body.start.path ≡ z.active
    active_path = path_found z.state.tasks z.active over.task over.at_

    is_active : (q : List ℕ) (w : Task S) → At z.state q w → q ≡ z.active → IsHalt (act_now P w.body)
    is_active q w h e =
        let k = at_same z.state z.active over.task w over.at_ (subst (λ (x : List ℕ). At z.state x w) e h) in
        subst (λ (x : Task S). IsHalt (act_now P x.body)) k over.stops

    -- a task of z that s has gone beyond waits for a child
    pub passed : (q : List ℕ) (w : Task S) → At z.state q w → (IsHalt (act_now P w.body) → ⊥) → (j : ℕ) × IsSuffix (j ∷ q) z.active
    passed q w h goes = go (st.others q w h)
      where
        go : IsSuffix q z.active ⊎ (is_ended P w.body ≡ true) → (j : ℕ) × IsSuffix (j ∷ q) z.active
        go (inl k) = on_way k (λ e. goes (is_active q w h e))
        go (inr o) = absurd (goes (subst IsHalt (sym (over_stops P w.body.start w.body.found o)) tt))

    pub active_before : (q : List ℕ) (j n : ℕ) (x : Event S) → x.start.path ≡ q → IsSuffix (j ∷ q) z.active → j < stage_created P x.start x.past → IsEarlierPlace P (stage_of over.task.body) x
    active_before q j n x path k l =
        inl (subst (λ (y : List ℕ). IsBefore (reverse (created_now P over.task.body ∷ y)) (reverse (place P x))) (sym active_path)
        (subst (λ (y : List ℕ). IsBefore (reverse (created_now P over.task.body ∷ z.active)) (reverse (stage_created P x.start x.past ∷ y))) (sym path)
        (before_up j (stage_created P x.start x.past) (created_now P over.task.body) q k l)))

    at_task : (q : List ℕ) (x : Event S) → x.start.path ≡ q → (u : Task S) → At s q u → u.body.start ≡ x.start → IsSuffix x.past u.body.found → (w : Task S) → At z.state q w → Where q x
    at_task q x path u hu su fu w hw = go (comp q w u hw hu)
      where
        far : IsComparable w.body u.body → IsSuffix w.body.found u.body.found → length w.body.found < length x.past → Where q x
        far c k l =
            let n = next_of k (let a = suffix_length fu in omega arith) in
            let goes : IsHalt (act_now P w.body) → ⊥ = λ e. made.goes q u w.body.found n.0 hu n.1 (subst (λ (y : Start S). IsHalt (stage_act P y w.body.found)) c.start e) in
            let p = passed q w hw goes in
            let m = st.chain q p.0 w p.1 hw in
            let g : stage_created P w.body.start w.body.found ≤ stage_created P w.body.start x.past = created_grows P w.body.start (suffix_linear k fu (omega arith)) in
            let e : w.body.start ≡ x.start = c.start ∙ su in
            let g' : stage_created P w.body.start w.body.found ≤ stage_created P x.start x.past = subst (λ (y : Start S). stage_created P w.body.start w.body.found ≤ stage_created P y x.past) e g in
            beyond p.0 q (not_itself p.1) p.1 (active_before q p.0 0 x path p.1 (omega arith))

        near : IsComparable w.body u.body → IsSuffix w.body.found u.body.found → (length w.body.found < length x.past) ⊎ (length x.past ≤ length w.body.found) → Where q x
        near c k (inl l) = far c k l
        near c k (inr l) = within w hw (c.start ∙ su) (suffix_linear fu k l)

        go : IsComparable w.body u.body → Where q x
        go c = split c.found
          where
            split : IsSuffix w.body.found u.body.found ⊎ IsSuffix u.body.found w.body.found → Where q x
            split (inl k) = near c k (le_or (length w.body.found) (length x.past))
            split (inr k) = within w hw (c.start ∙ su) (suffix_trans fu k)

    pub where_is : (q : List ℕ) (x : Event S) → x.start.path ≡ q → (u : Task S) → At s q u → u.body.start ≡ x.start → IsSuffix x.past u.body.found → Where q x
    where_is [] x path u hu su fu = at_task [] x path u hu su fu st.made.main_task st.made.main_at
    where_is (k ∷ q) x path u hu su fu =
        let b = made.child k q u hu in
        go (find z.state.tasks (k ∷ q)) refl b
        (where_is q (record { start = b.creator.body.start; past = b.past; answer = b.answer }) (path_found s.tasks q b.creator b.at_) b.creator b.at_ refl (suffix_drop b.happened))
      where
        earlier : (b : MadeBy P s k q u) → IsEarlierPlace P (record { start = b.creator.body.start; past = b.past; answer = b.answer }) x
        earlier b =
            let p = path_found s.tasks q b.creator b.at_ in
            inl (subst (λ (y : List ℕ). IsBefore (reverse (stage_created P b.creator.body.start b.past ∷ y)) (reverse (place P x))) (sym p)
            (subst (λ (y : ℕ). IsBefore (reverse (y ∷ q)) (reverse (place P x))) (sym b.number)
            (subst (λ (y : List ℕ). IsBefore (reverse (k ∷ q)) (reverse (stage_created P x.start x.past ∷ y))) (sym path) (before_child (stage_created P x.start x.past) k q))))

        not_active : find z.state.tasks (k ∷ q) ≡ None → (k ∷ q) ≢ z.active
        not_active e x = let h : At z.state (k ∷ q) over.task = subst (λ (y : List ℕ). At z.state y over.task) (sym x) over.at_ in absurd (cc (sym e ∙ h))

        go : (o : Option (Task S)) → find z.state.tasks (k ∷ q) ≡ o → (b : MadeBy P s k q u) → Where q (record { start = b.creator.body.start; past = b.past; answer = b.answer }) → Where (k ∷ q) x
        go (Some w) e b r = at_task (k ∷ q) x path u hu su fu w e
        go None e b (beyond j a ne i l) = beyond j a (not_active e) i (event_trans P (stage_of over.task.body) (record { start = b.creator.body.start; past = b.past; answer = b.answer }) x l (earlier b))
        go None e b (within w hw sw fw) = split (lt_or (length w.body.found) (length b.past) (suffix_length fw))
          where
            act_w : stage_act P w.body.start b.past ≡ Created b.order false
            act_w = subst (λ (y : Start S). stage_act P y b.past ≡ Created b.order false) (sym sw) b.act

            num_w : stage_created P w.body.start b.past ≡ k
            num_w = subst (λ (y : Start S). stage_created P y b.past ≡ k) (sym sw) b.number

            goes : {p : List ℕ} → b.past ≡ p → IsHalt (stage_act P w.body.start p) → ⊥
            goes e2 h = no_stop (subst (λ (y : List ℕ). stage_act P w.body.start y ≡ Created b.order false) e2 act_w) h
              where
                no_stop : {a : Act S} → a ≡ Created b.order false → IsHalt a → ⊥
                no_stop e3 h3 = subst IsHalt e3 h3

            split : (length b.past < length w.body.found) ⊎ (length w.body.found ≡ length b.past) → Where (k ∷ q) x
            split (inl l) =
                let n = next_of fw l in
                let m = st.made.made q w b.past n.0 b.order hw n.1 act_w in
                let h : find z.state.tasks (k ∷ q) ≡ Some m.0 = subst (λ (y : ℕ). At z.state (y ∷ q) m.0) num_w m.1 in
                absurd (cc (sym e ∙ h))
            split (inr l) =
                let same : b.past ≡ w.body.found = suffix_full fw (omega arith) in
                let p = passed q w hw (goes same) in
                let m = st.chain q p.0 w p.1 hw in
                let m2 : created_now P w.body ≡ k = subst (λ (y : List ℕ). stage_created P w.body.start y ≡ k) same num_w in
                beyond p.0 q (not_active e) p.1 (inl (subst (λ (y : List ℕ). IsBefore (reverse (created_now P over.task.body ∷ y)) (reverse (place P x))) (sym active_path)
                (subst (λ (y : List ℕ). IsBefore (reverse (created_now P over.task.body ∷ z.active)) (reverse (stage_created P x.start x.past ∷ y))) (sym path)
                (before_across q p.0 k (created_now P over.task.body) (stage_created P x.start x.past) (omega arith) p.1 whole))))

    -- the task at which the run is over is there in s, and stands where it stands in the run, once all before it is caught
    active_in_s : ((e : Event S) → Happened z.state e → IsEarlierPlace P e (stage_of over.task.body) → Happened s e) → (u : Task S) × At s z.active u × (u.body.start ≡ over.task.body.start) × (u.body.found ≡ over.task.body.found)
    active_in_s caught_ = go z.active refl
      where
        at_path : (p : List ℕ) → z.active ≡ p → (u : Task S) → At s p u → (u : Task S) × At s z.active u × (u.body.start ≡ over.task.body.start) × (u.body.found ≡ over.task.body.found)
        at_path p e u h =
            let h2 : At s z.active u = subst (λ (y : List ℕ). At s y u) (sym e) h in
            let c = comp z.active over.task u over.at_ h2 in
            (u, h2, sym c.start, found_same c h2 c.found)
          where
            found_same : IsComparable over.task.body u.body → At s z.active u → IsSuffix over.task.body.found u.body.found ⊎ IsSuffix u.body.found over.task.body.found → u.body.found ≡ over.task.body.found
            found_same c h2 (inl k) = equal (lt_or (length u.body.found) (length over.task.body.found) (suffix_length k))
              where
                equal : (length over.task.body.found < length u.body.found) ⊎ (length u.body.found ≡ length over.task.body.found) → u.body.found ≡ over.task.body.found
                equal (inl l) =
                    let n = next_of k l in
                    absurd (made.goes z.active u over.task.body.found n.0 h2 n.1 (subst (λ (y : Start S). IsHalt (stage_act P y over.task.body.found)) c.start over.stops))
                equal (inr l) = sym (suffix_full k (omega arith))
            found_same c h2 (inr k) = equal (lt_or (length over.task.body.found) (length u.body.found) (suffix_length k))
              where
                equal : (length u.body.found < length over.task.body.found) ⊎ (length over.task.body.found ≡ length u.body.found) → u.body.found ≡ over.task.body.found
                equal (inl l) =
                    let n = next_of k l in
                    let e1 : Event S = record { start = over.task.body.start; past = u.body.found; answer = n.0 } in
                    let h3 : Happened z.state e1 = record { task = over.task; at_ = subst (λ (y : List ℕ). At z.state y over.task) (sym active_path) over.at_; start = refl; found = n.1 } in
                    let r = caught_ e1 h3 (stage_later P over.task.body.start u.body.found over.task.body.found n.0 0 k l) in
                    let same = at_same s z.active r.task u (subst (λ (y : List ℕ). At s y r.task) active_path r.at_) h2 in
                    let g = suffix_length (subst (λ (y : Task S). IsSuffix (n.0 ∷ u.body.found) y.body.found) same r.found) in
                    absurd (omega arith)
                equal (inr l) = suffix_full k (omega arith)

        go : (p : List ℕ) → z.active ≡ p → (u : Task S) × At s z.active u × (u.body.start ≡ over.task.body.start) × (u.body.found ≡ over.task.body.found)
        go [] e = at_path [] e made.main_task made.main_at
        go (k ∷ q) e =
            let hz : At z.state (k ∷ q) over.task = subst (λ (y : List ℕ). At z.state y over.task) e over.at_ in
            let b = st.made.child k q over.task hz in
            let cr : Event S = record { start = b.creator.body.start; past = b.past; answer = b.answer } in
            let h = creation_of k q over.task b in
            let c = caught_ cr h (creation_before k q over.task b (stage_of over.task.body) (active_path ∙ e)) in
            let pb = path_found z.state.tasks q b.creator b.at_ in
            let act : stage_act P c.task.body.start b.past ≡ Created b.order false = subst (λ (x : Start S). stage_act P x b.past ≡ Created b.order false) (sym c.start) b.act in
            let m = made.made b.creator.body.start.path c.task b.past b.answer b.order c.at_ c.found act in
            let num : stage_created P c.task.body.start b.past ≡ k = subst (λ (x : Start S). stage_created P x b.past ≡ k) (sym c.start) b.number in
            let at2 : At s (k ∷ b.creator.body.start.path) m.0 = subst (λ (x : ℕ). At s (x ∷ b.creator.body.start.path) m.0) num m.1 in
            at_path (k ∷ q) e m.0 (subst (λ (x : List ℕ). At s (k ∷ x) m.0) pb at2)

    later_stage : (b : Start S) (past more : List ℕ) (v w : ℕ) → IsSuffix past more → (IsEarlierPlace P (record { start = b; past = past; answer = v }) (record { start = b; past = more; answer = w })) ⊎ (past ≡ more)
    later_stage b past more v w k = go (lt_or (length more) (length past) (suffix_length k))
      where
        go : (length past < length more) ⊎ (length more ≡ length past) → (IsEarlierPlace P (record { start = b; past = past; answer = v }) (record { start = b; past = more; answer = w })) ⊎ (past ≡ more)
        go (inl l) = inl (stage_later P b past more v w k l)
        go (inr l) = inr (suffix_full k (omega arith))

    module _ (p : List ℕ) (t : Task S) (at_ : At s p t) (least : IsLeastPlace P s p t) where
      path_t : t.body.start.path ≡ p
      path_t = path_found s.tasks p t at_

      -- no open task of s stands before the least one
      no_open : (q : List ℕ) (u : Task S) → At s q u → (is_ended P u.body ≡ true → ⊥) → IsEarlierPlace P (stage_of u.body) (stage_of t.body) → ⊥
      no_open q u h open_ (inl l) =
          let pu = path_found s.tasks q u h in
          open_ (least q u h (subst (λ (y : List ℕ). IsBefore (reverse (created_now P u.body ∷ y)) (reverse (created_now P t.body ∷ p))) pu
          (subst (λ (y : List ℕ). IsBefore (reverse (created_now P u.body ∷ u.body.start.path)) (reverse (created_now P t.body ∷ y))) path_t l))).ended
      no_open q u h open_ (inr l) =
          let e : u.body.start.path ≡ t.body.start.path = cc (l.0) in
          let q2 : q ≡ p = sym (path_found s.tasks q u h) ∙ (e ∙ path_t) in
          let same = at_same s p u t (subst (λ (y : List ℕ). At s y u) q2 h) at_ in
          let g : length u.body.found ≡ length t.body.found = ap (λ (y : Task S). length y.body.found) same in
          let m = l.1 in
          omega arith

      never_behind : (q : List ℕ) (e : Event S) → e.start.path ≡ q → IsEarlierPlace P e (stage_of t.body) → Behind q e → ⊥
      never_behind q e path early b = no_open q b.task b.at_ b.open_ (before (later_stage b.task.body.start b.task.body.found e.past 0 e.answer b.stage))
        where
          before : (IsEarlierPlace P (stage_of b.task.body) (record { start = b.task.body.start; past = e.past; answer = e.answer })) ⊎ (b.task.body.found ≡ e.past) → IsEarlierPlace P (stage_of b.task.body) (stage_of t.body)
          before (inl l) = event_trans P (stage_of b.task.body) e (stage_of t.body) (subst (λ (y : Start S). IsEarlierPlace P (stage_of b.task.body) (record { start = y; past = e.past; answer = e.answer })) b.start l) early
          before (inr l) = free (subst (λ (y : List ℕ). IsEarlierPlace P (record { start = b.task.body.start; past = y; answer = e.answer }) (stage_of t.body)) (sym l)
              (subst (λ (y : Start S). IsEarlierPlace P (record { start = y; past = e.past; answer = e.answer }) (stage_of t.body)) (sym b.start) early))
            where
              free : IsEarlierPlace P (record { start = b.task.body.start; past = b.task.body.found; answer = e.answer }) (stage_of t.body) → IsEarlierPlace P (stage_of b.task.body) (stage_of t.body)
              free (inl x) = inl x
              free (inr x) = inr x

      -- what the run does before the least open task is done in s
      caught_before : (e : Event S) → IsEarlierPlace P e (stage_of t.body) → Happened z.state e → Happened s e
      caught_before e early h = caught (λ g. IsEarlierPlace P g (stage_of t.body)) (λ g i k l. event_trans P g i (stage_of t.body) k l) never_behind e.start.path e refl early h

      ahead_active : (e : Event S) → Happened z.state e → IsEarlierPlace P e (stage_of over.task.body)
      ahead_active e h = st.ahead z.active over.task over.at_ whole e h

      -- the run can't be over before the least open task
      not_before : (j : ℕ) (a : List ℕ) → IsSuffix (j ∷ a) z.active → IsEarlierPlace P (stage_of over.task.body) (stage_of t.body) → ⊥
      not_before j a way l =
          let k = active_in_s (λ e h b. caught_before e (event_trans P e (stage_of over.task.body) (stage_of t.body) b l) h) in
          let live = st.alive over.task over.at_ (λ e. no_way (subst (λ (y : List ℕ). IsSuffix (j ∷ a) y) e way)) in
          let same : k.0.body ≡ over.task.body = λ i. record { start = k.2 i; found = k.3 i } in
          let open_ : is_ended P k.0.body ≡ true → ⊥ = λ o. let x : true ≡ false = sym o ∙ (ap (λ (y : Body S). is_ended P y) same ∙ live) in cc in
          no_open z.active k.0 k.1 open_ (subst (λ (y : Body S). IsEarlierPlace P (stage_of y) (stage_of t.body)) (sym same) l)
        where
          no_way : IsSuffix (j ∷ a) [] → ⊥
          no_way h = elim h [ ]

      -- where the least open task stands before a fault, the run is over there
      pub fault_is : IsFault (act_now P t.body) → (z.active ≡ p) × (over.task.body ≡ t.body) × ((e : Event S) → Happened z.state e → Happened s e)
      fault_is fault = go (where_is p (stage_of t.body) path_t t at_ refl whole)
        where
          stops : IsHalt (act_now P t.body)
          stops = fault_stops (act_now P t.body) fault
            where
              fault_stops : (a : Act S) → IsFault a → IsHalt a
              fault_stops (Fault kind line key) h = tt
              fault_stops Over h = tt
              fault_stops _ h = absurd h

          not_ended : is_ended P t.body ≡ true → ⊥
          not_ended o = no_fault (act_now P t.body) (over_stops P t.body.start t.body.found o) fault
            where
              no_fault : (a : Act S) → a ≡ Over → IsFault a → ⊥
              no_fault a e h = subst IsFault e h

          here_ : (w : Task S) → At z.state p w → w.body ≡ t.body → IsSuffix p z.active → (z.active ≡ p) × (over.task.body ≡ t.body) × ((e : Event S) → Happened z.state e → Happened s e)
          here_ w hw same k = split (which_path p z.active)
            where
              split : (p ≡ z.active) ⊎ (p ≢ z.active) → (z.active ≡ p) × (over.task.body ≡ t.body) × ((e : Event S) → Happened z.state e → Happened s e)
              split (inl e) =
                  let m = at_same z.state z.active over.task w over.at_ (subst (λ (y : List ℕ). At z.state y w) e hw) in
                  let b : over.task.body ≡ t.body = ap (λ (y : Task S). y.body) m ∙ same in
                  (sym e, b, λ ev h. caught_before ev (subst (λ (y : Body S). IsEarlierPlace P ev (stage_of y)) b (ahead_active ev h)) h)
              split (inr ne) =
                  let j = on_way k ne in
                  let m = st.chain p j.0 w j.1 hw in
                  let n : created_now P t.body ≡ j.0 + 1 = ap (λ (y : Body S). created_now P y) (sym same) ∙ m in
                  absurd (not_before j.0 p j.1 (active_before p j.0 0 (stage_of t.body) path_t j.1 (omega arith)))

          go : Where p (stage_of t.body) → (z.active ≡ p) × (over.task.body ≡ t.body) × ((e : Event S) → Happened z.state e → Happened s e)
          go (beyond j a ne i l) = absurd (not_before j a i l)
          go (within w hw sw fw) = split (lt_or (length w.body.found) (length t.body.found) (suffix_length fw))
            where
              split : (length t.body.found < length w.body.found) ⊎ (length w.body.found ≡ length t.body.found) → (z.active ≡ p) × (over.task.body ≡ t.body) × ((e : Event S) → Happened z.state e → Happened s e)
              split (inl l) =
                  let n = next_of fw l in
                  absurd (st.made.goes p w t.body.found n.0 hw n.1 (subst (λ (y : Start S). IsHalt (stage_act P y t.body.found)) (sym sw) stops))
              split (inr l) =
                  let same_found : t.body.found ≡ w.body.found = suffix_full fw (omega arith) in
                  let same : w.body ≡ t.body = λ i. record { start = sw i; found = sym same_found i } in
                  chain_of (st.others p w hw) w hw same
                where
                  chain_of : IsSuffix p z.active ⊎ (is_ended P w.body ≡ true) → (w : Task S) → At z.state p w → w.body ≡ t.body → (z.active ≡ p) × (over.task.body ≡ t.body) × ((e : Event S) → Happened z.state e → Happened s e)
                  chain_of (inl k) w hw same = here_ w hw same k
                  chain_of (inr o) w2 hw2 same2 =
                      let m = at_same z.state p w w2 hw hw2 in
                      absurd (not_ended (subst (λ (y : Body S). is_ended P y ≡ true) (ap (λ (y : Task S). y.body) m ∙ same2) o))

    -- where every task of s is closed, the run is over at main's end, and has done the same
    module _ (closed : (q : List ℕ) (u : Task S) → At s q u → IsClosed P q u) where
      all_caught : (e : Event S) → Happened z.state e → Happened s e
      all_caught e h = caught (λ g. Unit {0}) (λ g i k l. tt) (λ q g path l b. b.open_ (closed q b.task b.at_).ended) e.start.path e refl tt h

      pub run_ended : is_ended P over.task.body ≡ true
      run_ended =
          let k = active_in_s (λ e h b. all_caught e h) in
          let same : k.0.body ≡ over.task.body = λ i. record { start = k.2 i; found = k.3 i } in
          subst (λ (y : Body S). is_ended P y ≡ true) same (closed z.active k.0 k.1).ended

      at_main : z.active ≡ []
      at_main = go (which_path z.active [])
        where
          go : (z.active ≡ []) ⊎ (z.active ≢ []) → z.active ≡ []
          go (inl e) = e
          go (inr ne) = let x : true ≡ false = sym run_ended ∙ st.alive over.task over.at_ ne in cc

      all_back : (e : Event S) → Happened s e → Happened z.state e
      all_back e h = go (where_is e.start.path (record { start = e.start; past = e.answer ∷ e.past; answer = 0 }) refl h.task h.at_ h.start h.found)
        where
          no_way : (j : ℕ) (a : List ℕ) → IsSuffix (j ∷ a) [] → ⊥
          no_way j a k = elim k [ ]

          go : Where e.start.path (record { start = e.start; past = e.answer ∷ e.past; answer = 0 }) → Happened z.state e
          go (within w hw sw fw) = record { task = w; at_ = hw; start = sw; found = fw }
          go (beyond j a ne i l) = absurd (no_way j a (subst (λ (y : List ℕ). IsSuffix (j ∷ a) y) at_main i))

      -- a fold into a slot of a closed task is joined
      joined : (c : ℕ) (e : Event S) (h : Happened s e) → Changes (stage_act P e.start e.past) c true → IsIn c h.task.given
      joined c e h k =
          let ct = change_touch k in
          let fd = ct.fold refl in
          let w = subst (λ (y : Start S). (d : ℕ) (m : Mode) (b : Bool) → y.context.final ≡ true → (right_of y.context) d ≡ Holds m b → b ≡ true) h.start (starts_well P main s set_.starts made e.start.path h.task h.at_).0 in
          let r = stage_touch P e.start e.past c ct.touch true w ct.touches in
          let m = fold_mode r.mode ct.touch true fd.0 r.permits fd.1 refl in
          let right : (right_of h.task.body.start.context) c ≡ Holds (Fold fd.0) true = subst (λ (y : Start S). (right_of y.context) c ≡ Holds (Fold fd.0) true) (sym h.start) (r.holds ∙ ap (λ (y : Mode). Holds y true) m) in
          go e.start.path h.at_ right
        where
          go : (q : List ℕ) → At s q h.task → {op : Op} → (right_of h.task.body.start.context) c ≡ Holds (Fold op) true → IsIn c h.task.given
          go [] at_ {op = op} right =
              let same = at_same s [] h.task made.main_task at_ made.main_at in
              let r2 : (right_of main.context) c ≡ Holds (Fold op) true = subst (λ (y : Start S). (right_of y.context) c ≡ Holds (Fold op) true) made.main_start (subst (λ (y : Task S). (right_of y.body.start.context) c ≡ Holds (Fold op) true) same right) in
              let x = set_.writes c (Fold op) true r2 in
              cc
          go (k ∷ q) at_ {op = op} right = (closed (k ∷ q) h.task at_).given c (Fold op, true, right)

      -- the cells are those of the run
      pub cells_same : (c : ℕ) → c < length cells → slice_index s.cells c ≡ slice_index z.state.cells c
      cells_same c l =
          let v = agrees.value c l in
          let w = (recalls P main cells set_.starts set_.memory z run).value c l in
          v.value ∙ (ap (λ (y : List (Event S)). replay P y (slice_index cells c)) (sorted_one P v.list w.list (placed P main s made v.list (λ e i. (v.only e i).happened) v.sorted) w.sorted (λ e i. forth w e (v.only e i)) (λ e i. back v e (w.only e i))) ∙ sym w.value)
        where
          forth : (w : RunValue P z cells c) (e : Event S) → DoneChange P s c e → IsIn e w.list
          forth w e d = w.all e (record { slot = d.slot; changes = d.changes; happened = all_back e d.happened })

          back : (v : IsValue P s cells c) (e : Event S) → RunChange P z c e → IsIn e v.list
          back v e d =
              let h = all_caught e d.happened in
              v.all e (record { slot = d.slot; changes = d.changes; happened = h; joined = λ x. joined c e h (subst (λ (y : Bool). Changes (stage_act P e.start e.past) c y) x d.changes) })

pub every_stop_is_the_end : (S : Type 0) → EveryStopIsTheEnd S
every_stop_is_the_end S P main cells z over s set_ run a none = go (progress P main cells s a.made set_.memory)
  where
    go : Outlook P main cells s a.made set_.memory → IsStoppedAs P cells z over s
    go (Outlook.finished f) =
        ended f (run_ended P main cells z s set_ run a over f) (record { forth = λ e h. all_caught P main cells z s set_ run a over f e h; back = λ e h. all_back P main cells z s set_ run a over f e h }) (λ c l. cells_same P main cells z s set_ run a over f c l)
    go (Outlook.moves_on m) = absurd (none m)
    go (Outlook.faulted p t at_ least x) =
        let k = fault_is P main cells z s set_ run a over p t at_ least x in
        failed p t at_ (least_key P main s a.made p t at_ least) x k.0 k.1 k.2
