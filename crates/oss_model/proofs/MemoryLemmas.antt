-- The cells after a move have the value that the done changes give.
use Rattle.std.proofs.Common.{◌≡◌, ◌≢◌, ℕ, ◌<◌, ◌⊎◌, inl, inr, refl, sym, subst, ap, ◌∙◌, List, [], ◌∷◌, ◌++◌, length, arith, Bool, true, false, get_or, get_or-set_same, get_or-set_other, length-set}
use Rattle.oss_syntax.specs.declared.access.Mode.{Mode}
use Rattle.oss_syntax.specs.declared.access.Op.{Op}
use Rattle.oss_syntax.specs.declared.access.Mode.TheVariants.{Fold}
use Rattle.std.specs.Prelude.{slice_index}
use Rattle.oss_model.specs.Context.{right_of}
use Rattle.oss_model.specs.Order.{IsSuffix, whole, longer, IsIn}
use Rattle.oss_model.specs.Rights.{Holds, Touch, Reads, Writes, Folds, Conflicts}
use Rattle.oss_model.specs.Bodies.{Program, Act, Start, stage_act, Touches, IsHalt}
use Rattle.oss_model.specs.Bodies.Act.{Store, Folded}
use Rattle.oss_model.specs.Machine.{Task, State, At, IsReady}
use Rattle.oss_model.specs.History.{IsMade, IsStarted, IsComparable}
use Rattle.oss_model.specs.Moves.{act_now, after_answer, combine, cells_after, found_by, CanStep, Stepped}
use Rattle.oss_model.specs.Memory.{Event, Happened, Changes, store, folded, DoneChange, value_after}
use Rattle.oss_model.specs.Agreement.{MainStarts, Compatible}
use Rattle.oss_model.proofs.Places.{IsEarlierPlace, PlacedValue}
use Rattle.oss_model.proofs.JudgeLemmas.{Permits}
use Rattle.oss_model.proofs.StageLemmas.{stage_touch, StartsWell}
use Rattle.oss_model.proofs.OrderLemmas.{suffix_trans, suffix_drop, suffix_length}
use Rattle.oss_model.proofs.TreeLemmas.{at_same, over_stops, starts_well}
use Rattle.oss_model.proofs.GrowLemmas.{Grown}
use Rattle.oss_model.proofs.MoveLemmas.{StepView, own, new, old, step_view, step_grown, step_made}
use Rattle.oss_model.proofs.OrderTheorem.{TouchIn, Granted, in_order}
use Rattle.oss_model.proofs.SortLemmas.{Ordered, first, same, last, in_order_or_one, in_append, in_left, in_last, sorted_append, replay-append}

-- a change is a touch that is no read
pub record ChangeTouch {S : Type 0} (a : Act S) (c : ℕ) (slot : Bool) : Type 0 where
  pub touch : Touch
  pub touches : Touches a c touch slot
  pub clash : (u : Touch) (b : Bool) → slot ≡ false → Conflicts touch slot u b
  pub clash_back : (u : Touch) → Conflicts u false touch slot
  pub clash_read : Conflicts touch slot Reads false
  pub fold : slot ≡ true → (op : Op) × (touch ≡ Folds op)

unfoldable pub change_touch : {S : Type 0} {a : Act S} {c : ℕ} {slot : Bool} → Changes a c slot → ChangeTouch a c slot
change_touch store = record { touch = Writes; touches = Touches.store; clash = λ u b e. tt; clash_back = λ u. back u; clash_read = tt; fold = λ e. cc }
  where
    back : (u : Touch) → Conflicts u false Writes false
    back Reads = tt
    back Writes = tt
    back (Folds op) = tt
change_touch (folded {op = op} {slot = false}) = record { touch = Folds op; touches = Touches.folded; clash = λ u b e. tt; clash_back = λ u. back u; clash_read = tt; fold = λ e. cc }
  where
    back : (u : Touch) → Conflicts u false (Folds op) false
    back Reads = tt
    back Writes = tt
    back (Folds q) = tt
change_touch (folded {op = op} {slot = true}) = record { touch = Folds op; touches = Touches.folded; clash = λ u b e. cc; clash_back = λ u. back u; clash_read = tt; fold = λ e. (op, refl) }
  where
    back : (u : Touch) → Conflicts u false (Folds op) true
    back Reads = tt
    back Writes = tt
    back (Folds q) = tt

abbrev pub IsChanging : {S : Type 0} → Act S → ℕ → Bool → Type 0
IsChanging (Store d v) c z = (d ≡ c) × (false ≡ z)
IsChanging (Folded d op v y) c z = (d ≡ c) × (y ≡ z)
IsChanging _ c z = ⊥

pub changing : {S : Type 0} {a : Act S} {c : ℕ} {z : Bool} → Changes a c z → IsChanging a c z
changing store = (refl, refl)
changing folded = (refl, refl)

which_cell : (x y : ℕ) → (x ≡ y) ⊎ (x ≢ y)
which_cell x y = grind arith

-- an act that changes the cell at once, or leaves it
unfoldable pub Effect : {S : Type 0} → Act S → ℕ → List ℕ → Type 0
Effect a c cells = ((Changes a c false) × (slice_index (cells_after a cells) c ≡ value_after a (slice_index cells c))) ⊎ ((Changes a c false → ⊥) × (slice_index (cells_after a cells) c ≡ slice_index cells c))

stored_at : (S : Type 0) (d v c : ℕ) (cells : List ℕ) → c < length cells → (d ≡ c) ⊎ (d ≢ c) → Effect {S = S} (Store d v) c cells
unfolding Effect
stored_at S d v c cells l (inl e) = inl (subst (λ (z : ℕ). Changes {S = S} (Store d v) z false) e store, rw e (get_or-set_same cells c v 0 l))
stored_at S d v c cells l (inr ne) = inr ((λ h. ne (changing h).0), get_or-set_other cells d c v 0 (λ e. ne (sym e)))

folded_at : (S : Type 0) (d : ℕ) (op : Op) (v c : ℕ) (cells : List ℕ) → c < length cells → (d ≡ c) ⊎ (d ≢ c) → Effect {S = S} (Folded d op v false) c cells
unfolding Effect
folded_at S d op v c cells l (inl e) = inl (subst (λ (z : ℕ). Changes {S = S} (Folded d op v false) z false) e folded, rw e (get_or-set_same cells c (combine op (get_or cells c 0) v) 0 l))
folded_at S d op v c cells l (inr ne) = inr ((λ h. ne (changing h).0), get_or-set_other cells d c (combine op (get_or cells d 0) v) 0 (λ e. ne (sym e)))

pub effect : {S : Type 0} (a : Act S) (c : ℕ) (cells : List ℕ) → c < length cells → Effect a c cells
unfolding Effect
effect {S = S} (Store d v) c cells l = stored_at S d v c cells l (which_cell d c)
effect {S = S} (Folded d op v false) c cells l = folded_at S d op v c cells l (which_cell d c)
effect (Folded d op v true) c cells l = inr ((λ h. let e = (changing h).1 in cc), refl)
effect _ c cells l = inr ((λ h. changing h), refl)

pub cells_length : {S : Type 0} (a : Act S) (cells : List ℕ) → length (cells_after a cells) ≡ length cells
cells_length (Store d v) cells = length-set cells d v
cells_length (Folded d op v false) cells = length-set cells d (combine op (get_or cells d 0) v)
cells_length _ cells = refl

pub last_one : {xs past : List ℕ} {v : ℕ} → IsSuffix (v ∷ past) xs → past ≡ xs → ⊥
last_one {xs = xs} {past = past} h e =
    let l = suffix_length h in let f : length past ≡ length xs = ap (λ (z : List ℕ). length z) e in omega arith

pub answer_cases : {x v : ℕ} {past ys : List ℕ} → IsSuffix (v ∷ past) (x ∷ ys) → ((v ≡ x) × (past ≡ ys)) ⊎ IsSuffix (v ∷ past) ys
answer_cases whole = inl (refl, refl)
answer_cases (longer h) = inr h

pub fold_mode : (m : Mode) (t : Touch) (slot : Bool) (op : Op) → Permits m t slot → t ≡ Folds op → slot ≡ true → m ≡ Fold op
fold_mode m t slot op Permits.read e f = cc
fold_mode m t slot op Permits.write e f = cc
fold_mode (Fold q) t slot op Permits.fold e f = let d : q ≡ op = cc (e) in ap (λ (z : Op). Fold z) d

-- a done change is a touch that is granted
pub granted_change : {S : Type 0} (P : Program S) (main : Start S) (x s : State S) (ms : MainStarts main) (xm : IsMade P main x) (sm : IsMade P main s) (st : IsStarted P s) (comp : Compatible x s) (c : ℕ) (g : Event S) (d : DoneChange P s c g)
    → Granted P main x s ms xm sm st comp g c (change_touch d.changes).touch d.slot
granted_change {S = S} P main x s ms xm sm st comp c g d =
    let k = change_touch d.changes in
    let h = d.happened in
    record {
      task = h.task;
      at_ = h.at_;
      start = h.start;
      stage = suffix_drop h.found;
      touches = k.touches;
      direct = λ e. subst (λ (z : Start S). IsReady s g.start.path z.context) h.start (st.ready g.start.path h.task g.answer g.past h.at_ h.found);
      joined = λ op e f.
          let w : StartsWell g.start.context = subst (λ (z : Start S). StartsWell z.context) h.start (starts_well P main s ms sm g.start.path h.task h.at_).0 in
          let t = stage_touch P g.start g.past c k.touch d.slot w k.touches in
          let r : (right_of h.task.body.start.context) c ≡ Holds (Fold op) true = subst (λ (z : Start S). (right_of z.context) c ≡ Holds (Fold op) true) (sym h.start) (t.holds ∙ ap (λ (z : Mode). Holds z true) (fold_mode t.mode k.touch d.slot op t.permits e f)) in
          st.joined g.start.path h.task c op h.at_ r (d.joined f);
    }

module _ {S : Type 0} (P : Program S) (main : Start S) (s n : State S) (p : List ℕ) (t : Task S) (ms : MainStarts main) (made : IsMade P main s) (started : IsStarted P s) (can : CanStep P s p t) (step : Stepped P s p t n) where
  -- the act of the step, as an event
  abbrev pub new_event : Event S
  new_event = record { start = t.body.start; past = t.body.found; answer = found_by (act_now P t.body) s.cells }

  pub n_made : IsMade P main n
  n_made = step_made P main s n p t (found_by (act_now P t.body) s.cells) made can.at_ can.goes step.tasks

  n_grown : Grown P s n
  n_grown = step_grown P main s n p t (found_by (act_now P t.body) s.cells) made can.at_ can.goes step.tasks

  pub comp_after : Compatible n s
  comp_after q u w h k =
      let g = n_grown.keeps q w k in
      let e = at_same n q u g.0 h g.1 in
      subst (λ (z : Task S). IsComparable z.body w.body) (sym e) (record { start = g.2.start; found = inr g.2.found })

  -- no done change stands after a touch that is no fold in a slot and may happen now
  pub no_later : (path : t.body.start.path ≡ p) (c : ℕ) (u : Touch) → Touches (act_now P t.body) c u false → (g : Event S) → DoneChange P s c g → IsEarlierPlace P new_event g → ⊥
  no_later path c u h g d l =
      let k = change_touch d.changes in
      let in_x : TouchIn P main n s ms n_made made started comp_after new_event c u false =
      record { task = after_answer (found_by (act_now P t.body) s.cells) t; at_ = subst (λ (z : List ℕ). At n z (after_answer (found_by (act_now P t.body) s.cells) t)) (sym path) step.tasks.own; start = refl; found = whole; touches = h } in
      let r = in_order P main n s ms n_made made started comp_after new_event g c u k.touch false d.slot in_x (granted_change P main n s ms n_made made started comp_after c g d) (clash_of u k) l in
      let e : r.happened.task ≡ t = at_same s p r.happened.task t (subst (λ (z : List ℕ). At s z r.happened.task) path r.happened.at_) can.at_ in
      let f : IsSuffix (found_by (act_now P t.body) s.cells ∷ t.body.found) t.body.found = subst (λ (z : Task S). IsSuffix (found_by (act_now P t.body) s.cells ∷ t.body.found) z.body.found) e r.happened.found in
      last_one f refl
    where
      clash_of : (u : Touch) (k : ChangeTouch (stage_act P g.start g.past) c d.slot) → Conflicts u false k.touch d.slot
      clash_of u k = k.clash_back u

  -- a change that is done after the step was done before, or is the step
  change_view : (r : List ℕ) (u : Task S) → StepView P s p t (found_by (act_now P t.body) s.cells) r u → (c : ℕ) (e : Event S) → r ≡ e.start.path → u.body.start ≡ e.start → IsSuffix (e.answer ∷ e.past) u.body.found
      → (slot : Bool) → Changes (stage_act P e.start e.past) c slot → (slot ≡ true → IsIn c u.given) → DoneChange P s c e ⊎ ((e ≡ new_event) × Changes (act_now P t.body) c false)
  change_view r u own c e re se f slot ch j = go (answer_cases f)
    where
      go : ((e.answer ≡ found_by (act_now P t.body) s.cells) × (e.past ≡ t.body.found)) ⊎ IsSuffix (e.answer ∷ e.past) t.body.found → DoneChange P s c e ⊎ ((e ≡ new_event) × Changes (act_now P t.body) c false)
      go (inl q) =
          let a : Changes (act_now P t.body) c slot = subst (λ (z : List ℕ). Changes (stage_act P t.body.start z) c slot) q.1 (subst (λ (z : Start S). Changes (stage_act P z e.past) c slot) (sym se) ch) in
          inr ((λ i. record { start = sym se i; past = q.1 i; answer = q.0 i }), flag slot refl a)
        where
          flag : (b : Bool) → slot ≡ b → Changes (act_now P t.body) c slot → Changes (act_now P t.body) c false
          flag false e1 a = subst (λ (z : Bool). Changes (act_now P t.body) c z) e1 a
          flag true e1 a =
              let a' : Changes (act_now P t.body) c true = subst (λ (z : Bool). Changes (act_now P t.body) c z) e1 a in
              let k = change_touch a' in
              let w = (starts_well P main s ms made p t can.at_).0 in
              let tt1 = stage_touch P t.body.start t.body.found c k.touch true w k.touches in
              let o = (started.given p t c can.at_ (j e1)).fold_over (k.fold refl).0 (tt1.holds ∙ ap (λ (z : Mode). Holds z true) (fold_mode tt1.mode k.touch true (k.fold refl).0 tt1.permits (k.fold refl).1 refl)) in
              absurd (can.goes (subst IsHalt (sym (over_stops P t.body.start t.body.found o)) tt))
      go (inr g) = inl (record { slot = slot; changes = ch; happened = record { task = t; at_ = subst (λ (z : List ℕ). At s z t) re can.at_; start = se; found = g }; joined = j })
  change_view r u (new o a) c e re se f slot ch j = elim f [ ]
  change_view r u (old ne h) c e re se f slot ch j = inl (record { slot = slot; changes = ch; happened = record { task = u; at_ = subst (λ (z : List ℕ). At s z u) re h; start = se; found = f }; joined = j })

  change_back : (c : ℕ) (e : Event S) → DoneChange P n c e → DoneChange P s c e ⊎ ((e ≡ new_event) × Changes (act_now P t.body) c false)
  change_back c e d =
      let h = d.happened in
      change_view e.start.path h.task (step_view P main s n p t (found_by (act_now P t.body) s.cells) made can.at_ can.goes step.tasks e.start.path h.task h.at_) c e refl h.start h.found d.slot d.changes d.joined

  pub change_forth : (c : ℕ) (e : Event S) → DoneChange P s c e → DoneChange P n c e
  change_forth c e d =
      let h = d.happened in
      let g = n_grown.keeps e.start.path h.task h.at_ in
      record { slot = d.slot; changes = d.changes; happened = record { task = g.0; at_ = g.1; start = g.2.start ∙ h.start; found = suffix_trans h.found g.2.found }; joined = λ q. g.2.given c (d.joined q) }

  change_new : (path : t.body.start.path ≡ p) (c : ℕ) → Changes (act_now P t.body) c false → DoneChange P n c new_event
  change_new path c h =
      record {
        slot = false;
        changes = h;
        happened = record { task = after_answer (found_by (act_now P t.body) s.cells) t; at_ = subst (λ (z : List ℕ). At n z (after_answer (found_by (act_now P t.body) s.cells) t)) (sym path) step.tasks.own; start = refl; found = whole };
        joined = λ e. cc;
      }

  -- the new event is after each done change of a cell that it touches at once
  pub after_all : (path : t.body.start.path ≡ p) (c : ℕ) (u : Touch) → Touches (act_now P t.body) c u false → (g : Event S) → DoneChange P s c g → IsEarlierPlace P g new_event
  after_all path c u h g d = go (in_order_or_one P n new_event g (happens h) (change_forth c g d).happened)
    where
      happens : Touches (act_now P t.body) c u false → Happened n new_event
      happens h = record { task = after_answer (found_by (act_now P t.body) s.cells) t; at_ = subst (λ (z : List ℕ). At n z (after_answer (found_by (act_now P t.body) s.cells) t)) (sym path) step.tasks.own; start = refl; found = whole }

      go : Ordered P new_event g → IsEarlierPlace P g new_event
      go (first l) = absurd (no_later path c u h g d l)
      go (last l) = l
      go (same e) =
          let hp = d.happened in
          let hp2 : Happened s new_event = subst (λ (z : Event S). Happened s z) (sym e) hp in
          let q : hp2.task ≡ t = at_same s p hp2.task t (subst (λ (z : List ℕ). At s z hp2.task) path hp2.at_) can.at_ in
          absurd (last_one (subst (λ (z : Task S). IsSuffix (found_by (act_now P t.body) s.cells ∷ t.body.found) z.body.found) q hp2.found) refl)

  -- a step keeps that a cell has the value of its done changes
  pub value_step : (path : t.body.start.path ≡ p) (cells : List ℕ) (c : ℕ) → c < length s.cells → PlacedValue P s cells c → PlacedValue P n cells c
  unfolding Effect
  value_step path cells c l v = go (effect (act_now P t.body) c s.cells l)
    where
      here_value : slice_index n.cells c ≡ slice_index (cells_after (act_now P t.body) s.cells) c
      here_value = ap (λ (z : List ℕ). slice_index z c) step.cells

      go : Effect (act_now P t.body) c s.cells → PlacedValue P n cells c
      go (inl k) =
          let h = change_touch k.0 in
          record {
            list = v.list ++ new_event ∷ [];
            sorted = sorted_append P new_event v.list v.sorted (λ g i. after_all path c h.touch h.touches g (v.only g i));
            only = λ e i. only e (in_append v.list i);
            all = λ e d. all e (change_back c e d);
            value = here_value ∙ (k.1 ∙ (ap (λ (z : ℕ). value_after (act_now P t.body) z) v.value ∙ sym (replay-append P new_event v.list (slice_index cells c))));
          }
        where
          only : (e : Event S) → IsIn e v.list ⊎ (e ≡ new_event) → DoneChange P n c e
          only e (inl i) = change_forth c e (v.only e i)
          only e (inr q) = subst (λ (z : Event S). DoneChange P n c z) (sym q) (change_new path c k.0)

          all : (e : Event S) → DoneChange P s c e ⊎ ((e ≡ new_event) × Changes (act_now P t.body) c false) → IsIn e (v.list ++ new_event ∷ [])
          all e (inl d) = in_left new_event v.list (v.all e d)
          all e (inr q) = subst (λ (z : Event S). IsIn z (v.list ++ new_event ∷ [])) (sym q.0) (in_last v.list)
      go (inr k) =
          record {
            list = v.list;
            sorted = v.sorted;
            only = λ e i. change_forth c e (v.only e i);
            all = λ e d. all e (change_back c e d);
            value = here_value ∙ (k.1 ∙ v.value);
          }
        where
          all : (e : Event S) → DoneChange P s c e ⊎ ((e ≡ new_event) × Changes (act_now P t.body) c false) → IsIn e v.list
          all e (inl d) = v.all e d
          all e (inr q) = absurd (k.0 q.1)
