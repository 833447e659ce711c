-- The acts that a task does alone from the beginning of a wave may be made after the parts of other tasks.
use Rattle.std.proofs.Common.{◌≡◌, ◌≢◌, ℕ, ◌<◌, ◌≤◌, ◌⊎◌, inl, inr, refl, sym, subst, ap, ◌∙◌, List, ◌∷◌, length, arith, Bool, true, false}
use Rattle.std.proofs.lemmas.List.{get_or_past}
use Rattle.std.specs.Prelude.{slice_index, if◌then◌else◌}
use Rattle.oss_model.specs.Order.{IsSuffix, whole, longer}
use Rattle.oss_model.specs.Rights.{Touch, Reads, Writes, Folds, Conflicts}
use Rattle.oss_model.specs.Context.{Context}
use Rattle.oss_model.specs.Bodies.{Program, Act, Start, Touches, load, store, folded, stage_act, stage_created}
use Rattle.oss_model.specs.Bodies.Act.{Ticked, Load, Store, Folded, Created, Awaited, Waited, WaitedOn, Releases, Printed, Ended, Fault, Over}
use Rattle.oss_model.specs.Machine.{Task, State, At, IsReady, IsWaitMet, same_path}
use Rattle.oss_model.specs.Moves.{steps, act_now, created_now, after_answer, found_by, cells_after, CanStep, Stepped}
use Rattle.oss_model.specs.Memory.{Changes, value_after}
use Rattle.oss_model.specs.Sequence.{Running, Sequential}
use Rattle.oss_model.specs.Agreement.{Setting, Agrees}
use Rattle.oss_model.proofs.StageLemmas.{created_grows}
use Rattle.oss_model.proofs.TreeLemmas.{at_same, same_path_is}
use Rattle.oss_model.proofs.MoveLemmas.{which_path, others_forth}
use Rattle.oss_model.proofs.MemoryLemmas.{answer_cases, effect, Effect}
use Rattle.oss_model.proofs.AgreementTheorem.{moved_agrees}
use Rattle.oss_model.proofs.StayLemmas.{ready_law, wait_law, task_law}
use Rattle.oss_model.proofs.Exclusive.{same_self}
use Rattle.oss_wave_laws.specs.Alone.{RunsAlone, begins, goes, Runs, stays, moves, NewTouch, IsChange, ChangedSince, IsInWave, IsWaiting, with_part, GoesInWave, WaveBegins, WaveGoesOn}
use Rattle.oss_wave_laws.proofs.AloneLemmas.{alone_agrees, alone_own, alone_still, alone_first, no_clash}

change_clashes : (x y : Touch) → IsChange x → Conflicts x false y false
change_clashes Reads y h = absurd h
change_clashes Writes y h = tt
change_clashes (Folds op) y h = tt

change_clashes_back : (x y : Touch) → IsChange x → Conflicts y false x false
change_clashes_back Reads y h = absurd h
change_clashes_back Writes Reads h = tt
change_clashes_back Writes Writes h = tt
change_clashes_back Writes (Folds q) h = tt
change_clashes_back (Folds op) Reads h = tt
change_clashes_back (Folds op) Writes h = tt
change_clashes_back (Folds op) (Folds q) h = tt

-- a change is a touch
changing_touch : {S : Type 0} {act : Act S} {c : ℕ} → Changes act c false → (x : Touch) × IsChange x × Touches act c x false
changing_touch Changes.store = (Writes, tt, store)
changing_touch (Changes.folded {op = op}) = (Folds op, tt, folded)

pub waits_or_not : {S : Type 0} (P : Program S) (act : Act S) → IsWaiting act ⊎ ((s : State S) (p : List ℕ) (k : ℕ) → IsWaitMet P s p k act)
waits_or_not P Awaited = inl tt
waits_or_not P Waited = inl tt
waits_or_not P (WaitedOn named) = inl tt
waits_or_not P Ticked = inr (λ s p k. tt)
waits_or_not P (Load c) = inr (λ s p k. tt)
waits_or_not P (Store c v) = inr (λ s p k. tt)
waits_or_not P (Folded c op v slot) = inr (λ s p k. tt)
waits_or_not P (Created o included) = inr (λ s p k. tt)
waits_or_not P (Releases clauses included) = inr (λ s p k. tt)
waits_or_not P (Printed key text) = inr (λ s p k. tt)
waits_or_not P Ended = inr (λ s p k. tt)
waits_or_not P (Fault kind line key) = inr (λ s p k. tt)
waits_or_not P Over = inr (λ s p k. tt)

lt_or : (m n : ℕ) → (m < n) ⊎ (n ≤ m)
lt_or m n = grind arith

-- an act finds the same in memories that have the same at the cell that it touches
found_same : {S : Type 0} (act : Act S) (xs ys : List ℕ) → ((c : ℕ) (x : Touch) → Touches act c x false → slice_index xs c ≡ slice_index ys c) → found_by act xs ≡ found_by act ys
found_same (Load c) xs ys h = h c Reads load
found_same _ xs ys h = refl

-- and leaves the same there
left_same : {S : Type 0} (act : Act S) (xs ys : List ℕ) (c : ℕ) → c < length xs → c < length ys → slice_index xs c ≡ slice_index ys c → slice_index (cells_after act xs) c ≡ slice_index (cells_after act ys) c
unfolding Effect
left_same act xs ys c l m e = go (effect act c xs l) (effect act c ys m)
  where
    go : Effect act c xs → Effect act c ys → slice_index (cells_after act xs) c ≡ slice_index (cells_after act ys) c
    go (inl a) (inl b) = a.1 ∙ ap (value_after act) e ∙ sym b.1
    go (inl a) (inr b) = absurd (b.0 a.0)
    go (inr a) (inl b) = absurd (a.0 b.0)
    go (inr a) (inr b) = a.1 ∙ e ∙ sym b.1

-- the parts by path
pub part_own : {S : Type 0} (p : List ℕ) (b : State S) (alone : List ℕ → State S) → with_part p b alone p ≡ b
part_own p b alone = rw (same_self p) refl

pub part_other : {S : Type 0} (p : List ℕ) (b : State S) (alone : List ℕ → State S) (q : List ℕ) → q ≢ p → with_part p b alone q ≡ alone q
part_other p b alone q ne = go (same_path q p) refl
  where
    go : (k : Bool) → same_path q p ≡ k → (if k then b else alone q) ≡ alone q
    go true e = absurd (ne (same_path_is q p e))
    go false e = refl

pub wave_begins : (S : Type 0) → WaveBegins S
wave_begins S P s = record { run = stays; each = λ q t h. begins; same = λ q t w h k. k; touched = λ q t c x h i l. refl; rest = λ c l. inl refl }

module _ {S : Type 0} (P : Program S) (main : Start S) (cells : List ℕ) (z : Running S) (set_ : Setting main cells) (run : Sequential P main cells z) (s : State S) (s_agrees : Agrees P main cells z s) where
  pub runs_agree : {n : State S} → Runs P s n → Agrees P main cells z n
  runs_agree stays = s_agrees
  runs_agree {n = n} (moves {m = m} r k) = moved_agrees P main cells z set_ run m n (runs_agree r) k

  -- a ready task is ready later
  ready_later : (p : List ℕ) (x : Context) {n : State S} → Runs P s n → IsReady s p x → IsReady n p x
  ready_later p x stays h = h
  ready_later p x {n = n} (moves {m = m} r k) h = ready_law S p x P main cells z m n (runs_agree r) k (ready_later p x r h)

  record Waited_later (n : State S) (p : List ℕ) (k : ℕ) (act : Act S) : Type 0 where
    pub task : Task S
    pub at_ : At n p task
    pub number : k ≤ created_now P task.body
    pub met : IsWaitMet P n p k act

  -- what was waited for is met later
  wait_later : (p : List ℕ) (t : Task S) (act : Act S) {n : State S} → Runs P s n → At s p t → IsWaitMet P s p (created_now P t.body) act → Waited_later n p (created_now P t.body) act
  wait_later p t act stays h w = record { task = t; at_ = h; number = omega arith; met = w }
  wait_later p t act {n = n} (moves {m = m} r k) h w =
      let l = wait_later p t act r h w in
      let g = task_law S P main cells z m n p l.task (runs_agree r) k l.at_ in
      let grows : created_now P l.task.body ≤ created_now P g.0.body = subst (λ (b : Start S). created_now P l.task.body ≤ stage_created P b g.0.body.found) (sym g.2.start) (created_grows P l.task.body.start g.2.found) in
      record { task = g.0; at_ = g.1; number = omega (arith, grows, l.number); met = wait_law S P main cells z m n p l.task (created_now P t.body) act (runs_agree r) k l.at_ l.number l.met }

  module _ (p : List ℕ) (t : Task S) (at_s : At s p t) {a b : State S} (r : RunsAlone P p s a) (w : Task S) (can : CanStep P a p w) (step : Stepped P a p w b) where
    abbrev v : ℕ
    v = found_by (act_now P w.body) a.cells

    abbrev next : Task S
    next = after_answer v w

    since_old : (old : Task S) → At s p old → IsSuffix old.body.found w.body.found
    since_old old h =
        let g = alone_own P main cells z set_ run s s_agrees p r old h in
        subst (λ (x : Task S). IsSuffix old.body.found x.body.found) (at_same a p g.task w g.at_ can.at_) g.found

    -- the act is new
    new_act : (c : ℕ) (x : Touch) → Touches (act_now P w.body) c x false → NewTouch P s b p c x
    new_act c x h = record { old = t; at_old = at_s; new = next; at_new = step.tasks.own; past = w.body.found; answer = v; done_ = whole; since = since_old t at_s; touches = h }

    -- what was new is new
    new_still : (c : ℕ) (x : Touch) → NewTouch P s a p c x → NewTouch P s b p c x
    new_still c x i =
        let e : i.new ≡ w = at_same a p i.new w i.at_new can.at_ in
        record {
          old = i.old;
          at_old = i.at_old;
          new = next;
          at_new = step.tasks.own;
          past = i.past;
          answer = i.answer;
          done_ = longer (subst (λ (y : Task S). IsSuffix (i.answer ∷ i.past) y.body.found) e i.done_);
          since = i.since;
          touches = subst (λ (y : Task S). Touches (stage_act P y.body.start i.past) c x false) e i.touches;
        }

    -- what is new was new, or is the act
    new_before : (c : ℕ) (x : Touch) → NewTouch P s b p c x → NewTouch P s a p c x ⊎ Touches (act_now P w.body) c x false
    new_before c x i =
        let e : i.new ≡ next = at_same b p i.new next i.at_new step.tasks.own in
        by_answer (answer_cases (subst (λ (y : Task S). IsSuffix (i.answer ∷ i.past) y.body.found) e i.done_)) (subst (λ (y : Task S). Touches (stage_act P y.body.start i.past) c x false) e i.touches)
      where
        by_answer : ((i.answer ≡ v) × (i.past ≡ w.body.found)) ⊎ IsSuffix (i.answer ∷ i.past) w.body.found → Touches (stage_act P w.body.start i.past) c x false → NewTouch P s a p c x ⊎ Touches (act_now P w.body) c x false
        by_answer (inl e) h = inr (subst (λ (past : List ℕ). Touches (stage_act P w.body.start past) c x false) e.1 h)
        by_answer (inr f) h = inl (record { old = i.old; at_old = i.at_old; new = w; at_new = can.at_; past = i.past; answer = i.answer; done_ = f; since = i.since; touches = h })

  -- a cell that a task alone has not changed is as it was
  pub record AloneChanged (a : State S) (p : List ℕ) (c : ℕ) : Type 0 where
    pub touch : Touch
    pub change : IsChange touch
    pub new : NewTouch P s a p c touch

  alone_rest : (p : List ℕ) (t : Task S) → At s p t → {a : State S} → RunsAlone P p s a → (c : ℕ) → c < length s.cells → (slice_index a.cells c ≡ slice_index s.cells c) ⊎ AloneChanged a p c
  unfolding Effect
  alone_rest p t h begins c l = inl refl
  alone_rest p t h {a = b} (goes {a = a} {t = w} r can step) c l = by_effect (effect (act_now P w.body) c a.cells inside) (alone_rest p t h r c l)
    where
      inside : c < length a.cells
      inside = let k = (alone_agrees P main cells z set_ run s s_agrees p r).size in let m = s_agrees.size in omega arith

      by_effect : Effect (act_now P w.body) c a.cells → (slice_index a.cells c ≡ slice_index s.cells c) ⊎ AloneChanged a p c → (slice_index b.cells c ≡ slice_index s.cells c) ⊎ AloneChanged b p c
      by_effect (inl e) before = let x = changing_touch e.0 in inr (record { touch = x.0; change = x.1; new = new_act p t h r w can step c x.0 x.2 })
      by_effect (inr e) (inl k) = inl (ap (λ xs. slice_index xs c) step.cells ∙ e.1 ∙ k)
      by_effect (inr e) (inr k) = inr (record { touch = k.touch; change = k.change; new = new_still p t h r w can step c k.touch k.new })

  module _ (alone : List ℕ → State S) (n : State S) (wave : IsInWave P s alone n) (p : List ℕ) (t w : Task S) (b : State S) (at_s : At s p t) (can : CanStep P (alone p) p w) (step : Stepped P (alone p) p w b)
      (first : IsWaiting (act_now P w.body) → w.body.found ≡ t.body.found) where
    abbrev act : Act S
    act = act_now P w.body

    abbrev a : State S
    a = alone p

    alone_p : RunsAlone P p s a
    alone_p = wave.each p t at_s

    n_agrees : Agrees P main cells z n
    n_agrees = runs_agree wave.run

    within : (c : ℕ) → c < length s.cells → (c < length n.cells) × (c < length a.cells)
    within c l =
        let k = s_agrees.size in
        let m = n_agrees.size in
        let o = (alone_agrees P main cells z set_ run s s_agrees p alone_p).size in
        (omega arith, omega arith)

    -- what another task has touched since the act does not clash with
    clear : (q : List ℕ) → q ≢ p → (tq : Task S) → At s q tq → (c : ℕ) (x y : Touch) → Touches act c x false → NewTouch P s (alone q) q c y → Conflicts x false y false → Conflicts y false x false → ⊥
    clear q ne tq hq c x y h j k l =
        no_clash P main cells z set_ run s s_agrees p q (λ e. ne (sym e)) (goes alone_p can step) (wave.each q tq hq) c x y (new_act p t at_s alone_p w can step c x h) j k l

    -- the cell that the act touches is in the wave as it is alone
    cell_same : (c : ℕ) (x : Touch) → Touches act c x false → slice_index n.cells c ≡ slice_index a.cells c
    cell_same c x h = by_size (lt_or c (length s.cells))
      where
        by_path : (k : ChangedSince P s alone c) → c < length s.cells → (k.path ≡ p) ⊎ (k.path ≢ p) → slice_index n.cells c ≡ slice_index a.cells c
        by_path k l (inl e) = subst (λ (q : List ℕ). slice_index n.cells c ≡ slice_index (alone q).cells c) e (wave.touched k.path k.task c k.touch k.at_ k.new l)
        by_path k l (inr ne) = absurd (clear k.path ne k.task k.at_ c x k.touch h k.new (change_clashes_back k.touch x k.change) (change_clashes k.touch x k.change))

        by_rest : c < length s.cells → (slice_index n.cells c ≡ slice_index s.cells c) ⊎ ChangedSince P s alone c → (slice_index a.cells c ≡ slice_index s.cells c) ⊎ AloneChanged a p c → slice_index n.cells c ≡ slice_index a.cells c
        by_rest l (inl e) (inl f) = e ∙ sym f
        by_rest l (inl e) (inr k) = wave.touched p t c k.touch at_s k.new l
        by_rest l (inr k) f = by_path k l (which_path k.path p)

        by_size : (c < length s.cells) ⊎ (length s.cells ≤ c) → slice_index n.cells c ≡ slice_index a.cells c
        by_size (inl l) = by_rest l (wave.rest c l) (alone_rest p t at_s alone_p c l)
        by_size (inr l) =
            let k = s_agrees.size in
            let m = n_agrees.size in
            let o = (alone_agrees P main cells z set_ run s s_agrees p alone_p).size in
            get_or_past n.cells c 0 (omega arith) ∙ sym (get_or_past a.cells c 0 (omega arith))

    -- the act finds what it finds alone
    finds_same : found_by act n.cells ≡ found_by act a.cells
    finds_same = found_same act n.cells a.cells (λ c x h. cell_same c x h)

    at_n : At n p w
    at_n = wave.same p t w at_s can.at_

    -- where nothing is done yet, alone is the beginning
    at_first : w.body.found ≡ t.body.found → (a ≡ s) × (w ≡ t)
    at_first e =
        let k = alone_still P main cells z set_ run s s_agrees p alone_p t w at_s can.at_ e in
        (k, at_same s p w t (subst (λ (x : State S). At x p w) k can.at_) at_s)

    can_now : CanStep P n p w
    can_now = record {
      at_ = at_n;
      goes = can.goes;
      ready = λ e.
          let k = alone_first P main cells z set_ run s s_agrees p alone_p t w at_s can.at_ e in
          ready_later p w.body.start.context wave.run (subst (λ (x : State S). IsReady x p w.body.start.context) k (can.ready e));
      waits = by_act (waits_or_not P act);
    }
      where
        by_act : IsWaiting act ⊎ ((x : State S) (q : List ℕ) (k : ℕ) → IsWaitMet P x q k act) → IsWaitMet P n p (created_now P w.body) act
        by_act (inr h) = h n p (created_now P w.body)
        by_act (inl h) =
            let k = at_first (first h) in
            let met : IsWaitMet P s p (created_now P w.body) act = subst (λ (x : State S). IsWaitMet P x p (created_now P w.body) act) k.0 can.waits in
            (wait_later p w act wave.run (subst (λ (x : Task S). At s p x) (sym k.1) at_s) met).met

    module _ (m : State S) (done_ : Stepped P n p w m) where
      abbrev parts : List ℕ → State S
      parts = with_part p b alone

      own_part : parts p ≡ b
      own_part = part_own p b alone

      other_part : (q : List ℕ) → q ≢ p → parts q ≡ alone q
      other_part q ne = part_other p b alone q ne

      alone_b : RunsAlone P p s b
      alone_b = goes alone_p can step

      on_each : (q : List ℕ) (u : Task S) → At s q u → (q ≡ p) ⊎ (q ≢ p) → RunsAlone P q s (parts q)
      on_each q u h (inl e) = subst (λ (x : List ℕ). RunsAlone P x s (parts x)) (sym e) (subst (λ (x : State S). RunsAlone P p s x) (sym own_part) alone_b)
      on_each q u h (inr ne) = subst (λ (x : State S). RunsAlone P q s x) (sym (other_part q ne)) (wave.each q u h)

      own_same : (x : Task S) → At b p x → At m p x
      own_same x h =
          let e : x ≡ after_answer (found_by act a.cells) w = at_same b p x _ h step.tasks.own in
          subst (λ (y : Task S). At m p y) (sym e) (subst (λ (v : ℕ). At m p (after_answer v w)) finds_same done_.tasks.own)

      on_same : (q : List ℕ) (u x : Task S) → At s q u → At (parts q) q x → (q ≡ p) ⊎ (q ≢ p) → At m q x
      on_same q u x h k (inl e) = subst (λ (r : List ℕ). At m r x) (sym e) (own_same x (subst (λ (y : State S). At y p x) own_part (subst (λ (r : List ℕ). At (parts r) r x) e k)))
      on_same q u x h k (inr ne) =
          others_forth P main n m p w (found_by act n.cells) n_agrees.made at_n can.goes done_.tasks q x ne (wave.same q u x h (subst (λ (y : State S). At y q x) (other_part q ne) k))

      after_n : (c : ℕ) → slice_index m.cells c ≡ slice_index (cells_after act n.cells) c
      after_n c = ap (λ xs. slice_index xs c) done_.cells

      own_touched : (c : ℕ) (x : Touch) → NewTouch P s b p c x → c < length s.cells → slice_index m.cells c ≡ slice_index b.cells c
      own_touched c x i l = after_n c ∙ left_same act n.cells a.cells c (within c l).0 (within c l).1 (before (new_before p t at_s alone_p w can step c x i)) ∙ sym (ap (λ xs. slice_index xs c) step.cells)
        where
          before : NewTouch P s a p c x ⊎ Touches act c x false → slice_index n.cells c ≡ slice_index a.cells c
          before (inl k) = wave.touched p t c x at_s k l
          before (inr k) = cell_same c x k

      other_touched : (q : List ℕ) (u : Task S) (c : ℕ) (x : Touch) → q ≢ p → At s q u → NewTouch P s (alone q) q c x → c < length s.cells → slice_index m.cells c ≡ slice_index (alone q).cells c
      unfolding Effect
      other_touched q u c x ne h i l = after_n c ∙ by_effect (effect act c n.cells (within c l).0) ∙ wave.touched q u c x h i l
        where
          by_effect : Effect act c n.cells → slice_index (cells_after act n.cells) c ≡ slice_index n.cells c
          by_effect (inr e) = e.1
          by_effect (inl e) = let y = changing_touch e.0 in absurd (clear q ne u h c y.0 x y.2 i (change_clashes y.0 x y.1) (change_clashes_back y.0 x y.1))

      on_touched : (q : List ℕ) (u : Task S) (c : ℕ) (x : Touch) → At s q u → NewTouch P s (parts q) q c x → c < length s.cells → (q ≡ p) ⊎ (q ≢ p) → slice_index m.cells c ≡ slice_index (parts q).cells c
      on_touched q u c x h i l (inl e) =
          let j : NewTouch P s b p c x = subst (λ (y : State S). NewTouch P s y p c x) own_part (subst (λ (r : List ℕ). NewTouch P s (parts r) r c x) e i) in
          subst (λ (r : List ℕ). slice_index m.cells c ≡ slice_index (parts r).cells c) (sym e) (subst (λ (y : State S). slice_index m.cells c ≡ slice_index y.cells c) (sym own_part) (own_touched c x j l))
      on_touched q u c x h i l (inr ne) =
          let f = other_part q ne in
          subst (λ (y : State S). slice_index m.cells c ≡ slice_index y.cells c) (sym f) (other_touched q u c x ne h (subst (λ (y : State S). NewTouch P s y q c x) f i) l)

      -- a cell that was changed since is so still
      changed_still : (c : ℕ) → (k : ChangedSince P s alone c) → (k.path ≡ p) ⊎ (k.path ≢ p) → ChangedSince P s parts c
      changed_still c k (inl e) =
          let i : NewTouch P s a p c k.touch = subst (λ (r : List ℕ). NewTouch P s (alone r) r c k.touch) e k.new in
          record { path = p; task = t; at_ = at_s; touch = k.touch; change = k.change; new = subst (λ (y : State S). NewTouch P s y p c k.touch) (sym own_part) (new_still p t at_s alone_p w can step c k.touch i) }
      changed_still c k (inr ne) = record { path = k.path; task = k.task; at_ = k.at_; touch = k.touch; change = k.change; new = subst (λ (y : State S). NewTouch P s y k.path c k.touch) (sym (other_part k.path ne)) k.new }

      on_rest : (c : ℕ) → c < length s.cells → (slice_index m.cells c ≡ slice_index s.cells c) ⊎ ChangedSince P s parts c
      unfolding Effect
      on_rest c l = by_effect (effect act c n.cells (within c l).0) (wave.rest c l)
        where
          by_effect : Effect act c n.cells → (slice_index n.cells c ≡ slice_index s.cells c) ⊎ ChangedSince P s alone c → (slice_index m.cells c ≡ slice_index s.cells c) ⊎ ChangedSince P s parts c
          by_effect (inl e) k =
              let y = changing_touch e.0 in
              inr (record { path = p; task = t; at_ = at_s; touch = y.0; change = y.1; new = subst (λ (x : State S). NewTouch P s x p c y.0) (sym own_part) (new_act p t at_s alone_p w can step c y.0 y.2) })
          by_effect (inr e) (inl k) = inl (after_n c ∙ e.1 ∙ k)
          by_effect (inr e) (inr k) = inr (changed_still c k (which_path k.path p))

      in_wave : IsInWave P s parts m
      in_wave = record {
        run = moves wave.run (steps can_now done_);
        each = λ q u h. on_each q u h (which_path q p);
        same = λ q u x h k. on_same q u x h k (which_path q p);
        touched = λ q u c x h i l. on_touched q u c x h i l (which_path q p);
        rest = λ c l. on_rest c l;
      }

    pub goes_in_wave : GoesInWave P s alone n p w b
    goes_in_wave = record { can = can_now; found = finds_same; after = λ m done_. in_wave m done_ }

pub wave_goes_on : (S : Type 0) → WaveGoesOn S
wave_goes_on S P main cells z s n b alone p t w set_ run s_agrees wave at_s can step first = goes_in_wave P main cells z set_ run s s_agrees alone n wave p t w b at_s can step first
