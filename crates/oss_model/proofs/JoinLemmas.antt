-- A join keeps that a cell has the value of its done changes.
use Rattle.oss_model.specs.Context.{right_of}
use Rattle.oss_syntax.specs.declared.access.Mode.{Mode}
use Rattle.oss_syntax.specs.declared.access.Op.{Op}
use Rattle.oss_syntax.specs.declared.access.Op.TheVariants.{Add, And, Or, Xor}
use Rattle.oss_syntax.specs.declared.access.Mode.TheVariants.{Fold}
use Rattle.oss_model.specs.Agreement.{MainStarts, Compatible}
use Rattle.std.proofs.Common.{◌≡◌, ◌≢◌, ℕ, ◌^◌, ◌<◌, ◌⊎◌, inl, inr, refl, sym, subst, ap, ◌∙◌, List, [], ◌∷◌, length, arith, Bool, true, false, get_or, get_or-set_same}
use Rattle.std.specs.Prelude.{slice_index, ◌==◌}
use Rattle.std.proofs.lemmas.Bool.Decides.{nat_tests}
use Rattle.oss_model.specs.Order.{IsSuffix, whole, longer, IsIn, here, there}
use Rattle.oss_model.specs.Rights.{Holds, Touch, Folds, Conflicts}
use Rattle.oss_model.specs.Bodies.{Program, Act, Start, stage_act, Touches}
use Rattle.oss_model.specs.Bodies.Act.{Created, Awaited, Waited, WaitedOn, Over, Ticked, Load, Store, Folded, Releases, Printed, Ended, Fault}
use Rattle.oss_model.specs.Machine.{Task, State, At}
use Rattle.oss_model.specs.History.{IsMade, IsStarted, IsComparable}
use Rattle.oss_model.specs.Moves.{after_giving, combine, slot_more, slot_of, CanJoin, GaveUp, joined_cells}
use Rattle.oss_model.specs.Memory.{Event, Happened, Changes, store, folded, DoneChange, value_after, replay}
use Rattle.oss_model.proofs.Places.{IsEarlierPlace, IsPlaced, PlacedValue}
use Rattle.oss_model.proofs.StageLemmas.{stage_touch, StartsWell}
use Rattle.oss_model.proofs.OrderLemmas.{suffix_trans, suffix_drop}
use Rattle.oss_model.proofs.TreeLemmas.{at_same, starts_well, path_found}
use Rattle.oss_model.proofs.MoveLemmas.{MayGive, join_may, GaveUpView, own, old, gave_view, in_cons, which_path}
use Rattle.oss_model.proofs.OrderTheorem.{TouchIn, in_order}
use Rattle.oss_model.proofs.SortLemmas.{Ordered, first, same, last, in_order_or_one, Inserted, Commutes, insert}
use Rattle.oss_model.proofs.MemoryLemmas.{change_touch, granted_change, fold_mode, changing, last_one}
use Rattle.oss_model.proofs.Algebra.{fold_assoc, fold_swap, fold_none}

which_op : (a b : Op) → (a ≡ b) ⊎ (a ≢ b)
which_op Add Add = inl refl
which_op And And = inl refl
which_op Or Or = inl refl
which_op Xor Xor = inl refl
which_op Add And = inr (λ e. cc)
which_op Add Or = inr (λ e. cc)
which_op Add Xor = inr (λ e. cc)
which_op And Add = inr (λ e. cc)
which_op And Or = inr (λ e. cc)
which_op And Xor = inr (λ e. cc)
which_op Or Add = inr (λ e. cc)
which_op Or And = inr (λ e. cc)
which_op Or Xor = inr (λ e. cc)
which_op Xor Add = inr (λ e. cc)
which_op Xor And = inr (λ e. cc)
which_op Xor Or = inr (λ e. cc)

-- a fold into the slot, by its operator
data IsSlotFold {S : Type 0} (op : Op) : Act S → Type 0 where
  slot_fold : {c v : ℕ} → IsSlotFold op (Folded c op v true)

folds_swap : {S : Type 0} {op : Op} {a b : Act S} → IsSlotFold op a → IsSlotFold op b → (w : ℕ) → value_after b (value_after a w) ≡ value_after a (value_after b w)
folds_swap {op = op} (slot_fold {v = x}) (slot_fold {v = y}) w = fold_swap op w x y

-- a change that doesn't clash with a fold into a slot is such a fold
no_clash : {S : Type 0} {a : Act S} {c : ℕ} {slot : Bool} (op : Op) (h : Changes a c slot) → (Conflicts (Folds op) true (change_touch h).touch slot → ⊥) → IsSlotFold op a
unfolding change_touch
no_clash op store n = absurd (n tt)
no_clash op (folded {slot = false}) n = absurd (n tt)
no_clash {S = S} op (folded {c = c} {op = q} {v = v} {slot = true}) n = go (which_op op q)
  where
    go : (op ≡ q) ⊎ (op ≢ q) → IsSlotFold {S = S} op (Folded c q v true)
    go (inl e) = subst (λ (z : Op). IsSlotFold {S = S} op (Folded c z v true)) e slot_fold
    go (inr e) = absurd (n e)

module _ {S : Type 0} (P : Program S) (main : Start S) (s : State S) (p : List ℕ) (c : ℕ) (op : Op) (t : Task S) (ms : MainStarts main) (made : IsMade P main s) (started : IsStarted P s) (can : CanJoin P s p c op t) (cells : List ℕ) (value : PlacedValue P s cells c) (word : slice_index s.cells c < 2 ^ 64) where
  self : Compatible s s
  self q u v h k = subst (λ (z : Task S). IsComparable u.body z.body) (at_same s q u v h k) (record { start = refl; found = inl whole })

  path_t : t.body.start.path ≡ p
  path_t = path_found s.tasks p t can.at_

  -- a fold of the task into its slot, within these answers
  record SlotEvent (past : List ℕ) (g : Event S) : Type 0 where
    start : g.start ≡ t.body.start
    within : IsSuffix (g.answer ∷ g.past) past
    changes : Changes (stage_act P g.start g.past) c true

  happened_here : (g : Event S) (past : List ℕ) → IsSuffix past t.body.found → SlotEvent past g → Happened s g
  happened_here g past h k =
      record { task = t; at_ = subst (λ (z : Start S). At s z.path t) (sym k.start) (subst (λ (z : List ℕ). At s z t) (sym path_t) can.at_); start = sym k.start; found = suffix_trans k.within h }

  -- the task's folds have the operator of its right
  slot_op : (g : Event S) (past : List ℕ) → SlotEvent past g → IsSlotFold op (stage_act P g.start g.past)
  slot_op g past k =
      let w : StartsWell g.start.context = subst (λ (z : Start S). StartsWell z.context) (sym k.start) (starts_well P main s ms made p t can.at_).0 in
      let ct = change_touch k.changes in
      let f = ct.fold refl in
      let r = stage_touch P g.start g.past c ct.touch true w ct.touches in
      let m = fold_mode r.mode ct.touch true f.0 r.permits f.1 refl in
      let right : (right_of t.body.start.context) c ≡ Holds r.mode true = subst (λ (z : Start S). (right_of z.context) c ≡ Holds r.mode true) k.start r.holds in
      let e : f.0 ≡ op = same_op f.0 op (ap (λ (z : Mode). Holds z true) (sym m) ∙ (sym right ∙ can.right)) in
      by_touch f.0 (stage_act P g.start g.past) k.changes ct.touches f.1 e
    where
      same_op : (a b : Op) → Holds (Fold a) true ≡ Holds (Fold b) true → a ≡ b
      same_op a b h = cc

      by_touch : (q : Op) (a : Act S) → Changes a c true → Touches a c (change_touch k.changes).touch true → (change_touch k.changes).touch ≡ Folds q → q ≡ op → IsSlotFold op a
      by_touch q a ch h e1 e2 = go a h
        where
          go : (a : Act S) → Touches a c (change_touch k.changes).touch true → IsSlotFold op a
          go a h = from a (change_touch k.changes).touch h e1
            where
              from : (a : Act S) (u : Touch) → Touches a c u true → u ≡ Folds q → IsSlotFold op a
              from a u (Touches.folded {op = o2} {v = v}) e3 =
                  let f : o2 ≡ op = cc (e3, e2) in subst (λ (z : Op). IsSlotFold {S = S} op (Folded c z v true)) (sym f) slot_fold

  -- a done change later than a fold of the slot is a fold of the same kind
  later_folds : (e : Event S) (past : List ℕ) → IsSuffix past t.body.found → SlotEvent past e → (g : Event S) → DoneChange P s c g → IsEarlierPlace P e g → IsSlotFold op (stage_act P g.start g.past)
  later_folds e past h k g d l = no_clash op d.changes (λ clash. contradiction clash)
    where
      op_e : IsSlotFold op (stage_act P e.start e.past)
      op_e = slot_op e past k

      touches_e : (a : Act S) → IsSlotFold op a → Changes a c true → Touches a c (Folds op) true
      touches_e a (slot_fold {c = d} {v = v}) ch = subst (λ (z : ℕ). Touches {S = S} (Folded d op v true) z (Folds op) true) (changing ch).0 Touches.folded

      contradiction : Conflicts (Folds op) true (change_touch d.changes).touch d.slot → ⊥
      contradiction clash =
          let hp = happened_here e past h k in
          let tin : TouchIn P main s s ms made made started self e c (Folds op) true = record { task = hp.task; at_ = hp.at_; start = hp.start; found = hp.found; touches = touches_e (stage_act P e.start e.past) op_e k.changes } in
          let r = in_order P main s s ms made made started self e g c (Folds op) (change_touch d.changes).touch true d.slot tin (granted_change P main s s ms made made started self c g d) clash l in
          let q = r.given refl in
          let w = at_same s p q.task t (subst (λ (z : List ℕ). At s z q.task) (ap (λ (z : Start S). z.path) k.start ∙ path_t) q.at_) can.at_ in
          can.kept (subst (λ (z : Task S). IsIn c z.given) w q.given)

  -- the done changes, with the task's folds within these answers
  record Part (past : List ℕ) : Type 0 where
    list : List (Event S)
    sorted : IsPlaced P list
    only : (g : Event S) → IsIn g list → DoneChange P s c g ⊎ SlotEvent past g
    done : (g : Event S) → DoneChange P s c g → IsIn g list
    slots : (g : Event S) → SlotEvent past g → IsIn g list
    total : replay P list (slice_index cells c) ≡ combine op (slice_index s.cells c) (slot_of P t.body.start c op past)

  -- an act that folds into the slot, or leaves it
  data SlotStep (a : Act S) : Type 0 where
    adds : (v : ℕ) → a ≡ Folded c op v true → SlotStep a
    leaves : ((b : Bool) → Changes a c true → ⊥) → ((w : ℕ) → slot_more a c op w ≡ w) → SlotStep a

  slot_step : (vs : List ℕ) → SlotStep (stage_act P t.body.start vs)
  slot_step vs = go (stage_act P t.body.start vs) refl
    where
      which_cell : (x y : ℕ) → (x ≡ y) ⊎ (x ≢ y)
      which_cell x y = grind arith

      none : (a : Act S) → stage_act P t.body.start vs ≡ a → ((b : Bool) → Changes a c true → ⊥) → ((w : ℕ) → slot_more a c op w ≡ w) → SlotStep (stage_act P t.body.start vs)
      none a e f g = subst SlotStep (sym e) (leaves f g)

      into : (q : Op) (v : ℕ) → stage_act P t.body.start vs ≡ Folded c q v true → SlotStep (stage_act P t.body.start vs)
      into q v e =
          let w : StartsWell t.body.start.context = (starts_well P main s ms made p t can.at_).0 in
          let r = stage_touch P t.body.start vs c (Folds q) true w (subst (λ (z : Act S). Touches z c (Folds q) true) (sym e) Touches.folded) in
          let m = fold_mode r.mode (Folds q) true q r.permits refl refl in
          let f : q ≡ op = same_op q op (ap (λ (z : Mode). Holds z true) (sym m) ∙ (sym r.holds ∙ can.right)) in
          adds v (e ∙ ap (λ (z : Op). Folded c z v true) f)
        where
          same_op : (a b : Op) → Holds (Fold a) true ≡ Holds (Fold b) true → a ≡ b
          same_op a b h = cc

      folds : (d : ℕ) (q : Op) (v : ℕ) → stage_act P t.body.start vs ≡ Folded d q v true → (d ≡ c) ⊎ (d ≢ c) → SlotStep (stage_act P t.body.start vs)
      folds d q v e (inl f) = into q v (e ∙ ap (λ (z : ℕ). Folded z q v true) f)
      folds d q v e (inr ne) = none (Folded d q v true) e (λ b h. ne (changing h).0) (λ w. stays w)
        where
          stays : (w : ℕ) → slot_more {S = S} (Folded d q v true) c op w ≡ w
          stays w = let k : (d == c) ≡ false = grind (arith, nat_tests) in rw k refl

      go : (a : Act S) → stage_act P t.body.start vs ≡ a → SlotStep (stage_act P t.body.start vs)
      go (Folded d q v true) e = folds d q v e (which_cell d c)
      go (Folded d q v false) e = none (Folded d q v false) e (λ b h. let k = (changing h).1 in cc) (λ w. refl)
      go (Store d v) e = none (Store d v) e (λ b h. let k = (changing h).1 in cc) (λ w. refl)
      go Ticked e = none Ticked e (λ b h. changing h) (λ w. refl)
      go (Load d) e = none (Load d) e (λ b h. changing h) (λ w. refl)
      go (Created o i) e = none (Created o i) e (λ b h. changing h) (λ w. refl)
      go Awaited e = none Awaited e (λ b h. changing h) (λ w. refl)
      go Waited e = none Waited e (λ b h. changing h) (λ w. refl)
      go (WaitedOn named) e = none (WaitedOn named) e (λ b h. changing h) (λ w. refl)
      go (Releases cl i) e = none (Releases cl i) e (λ b h. changing h) (λ w. refl)
      go (Printed key text) e = none (Printed key text) e (λ b h. changing h) (λ w. refl)
      go Ended e = none Ended e (λ b h. changing h) (λ w. refl)
      go (Fault kind line key) e = none (Fault kind line key) e (λ b h. changing h) (λ w. refl)
      go Over e = none Over e (λ b h. changing h) (λ w. refl)

  start_part : Part []
  unfolding slot_of
  start_part =
      record {
        list = value.list;
        sorted = value.sorted;
        only = λ g i. inl (value.only g i);
        done = λ g d. value.all g d;
        slots = λ g k. none g k.within;
        total = sym value.value ∙ sym (fold_none op (slice_index s.cells c) word);
      }
    where
      none : (g : Event S) → IsSuffix (g.answer ∷ g.past) [] → IsIn g value.list
      none g h = elim h [ ]

  more_part : (v : ℕ) (vs : List ℕ) → IsSuffix (v ∷ vs) t.body.found → Part vs → Part (v ∷ vs)
  unfolding slot_of
  more_part v vs h q = go (slot_step vs)
    where
      ev : Event S
      ev = record { start = t.body.start; past = vs; answer = v }

      widen : (g : Event S) → SlotEvent vs g → SlotEvent (v ∷ vs) g
      widen g k = record { start = k.start; within = longer k.within; changes = k.changes }

      narrow : (g : Event S) → SlotEvent (v ∷ vs) g → ((g ≡ record { start = t.body.start; past = vs; answer = v }) × Changes (stage_act P t.body.start vs) c true) ⊎ SlotEvent vs g
      narrow g k = cases (answer_split k.within)
        where
          answer_split : {x w : ℕ} {past ys : List ℕ} → IsSuffix (w ∷ past) (x ∷ ys) → ((w ≡ x) × (past ≡ ys)) ⊎ IsSuffix (w ∷ past) ys
          answer_split whole = inl (refl, refl)
          answer_split (longer i) = inr i

          cases : ((g.answer ≡ v) × (g.past ≡ vs)) ⊎ IsSuffix (g.answer ∷ g.past) vs → ((g ≡ record { start = t.body.start; past = vs; answer = v }) × Changes (stage_act P t.body.start vs) c true) ⊎ SlotEvent vs g
          cases (inl e) =
              inl (
                (λ i. record { start = k.start i; past = e.1 i; answer = e.0 i }),
                subst (λ (z : Start S). Changes (stage_act P z vs) c true) k.start (subst (λ (z : List ℕ). Changes (stage_act P g.start z) c true) e.1 k.changes),
              )
          cases (inr i) = inr (record { start = k.start; within = i; changes = k.changes })

      same_part : ((b : Bool) → Changes (stage_act P t.body.start vs) c true → ⊥) → ((w : ℕ) → slot_more (stage_act P t.body.start vs) c op w ≡ w) → Part (v ∷ vs)
      same_part f g =
          record {
            list = q.list;
            sorted = q.sorted;
            only = λ e i. only e (q.only e i);
            done = q.done;
            slots = λ e k. slots e (narrow e k);
            total = q.total ∙ ap (λ (z : ℕ). combine op (slice_index s.cells c) z) (sym (g (slot_of P t.body.start c op vs)));
          }
        where
          only : (e : Event S) → DoneChange P s c e ⊎ SlotEvent vs e → DoneChange P s c e ⊎ SlotEvent (v ∷ vs) e
          only e (inl d) = inl d
          only e (inr k) = inr (widen e k)

          slots : (e : Event S) → ((e ≡ record { start = t.body.start; past = vs; answer = v }) × Changes (stage_act P t.body.start vs) c true) ⊎ SlotEvent vs e → IsIn e q.list
          slots e (inl k) = absurd (f true k.1)
          slots e (inr k) = q.slots e k

      added : (x : ℕ) → stage_act P t.body.start vs ≡ Folded c op x true → Part (v ∷ vs)
      added x a = build (insert P ev2 q.list q.sorted (λ g i. place_of g (q.only g i)) (λ g i l. commute g l (q.only g i)))
        where
          ev2 : Event S
          ev2 = record { start = t.body.start; past = vs; answer = v }

          ch : Changes (stage_act P t.body.start vs) c true
          ch = subst (λ (z : Act S). Changes z c true) (sym a) folded

          mine : SlotEvent (v ∷ vs) (record { start = t.body.start; past = vs; answer = v })
          mine = record { start = refl; within = whole; changes = ch }

          slot_here : IsSlotFold op (stage_act P t.body.start vs)
          slot_here = subst (λ (z : Act S). IsSlotFold op z) (sym a) slot_fold

          happened_of : (g : Event S) → DoneChange P s c g ⊎ SlotEvent vs g → Happened s g
          happened_of g (inl d) = d.happened
          happened_of g (inr k) = happened_here g vs (suffix_drop h) k

          not_old : (g : Event S) → DoneChange P s c g ⊎ SlotEvent vs g → record { start = t.body.start; past = vs; answer = v } ≡ g → ⊥
          not_old g (inl d) e =
              let d2 : DoneChange P s c (record { start = t.body.start; past = vs; answer = v }) = subst (λ (z : Event S). DoneChange P s c z) (sym e) d in
              let w = at_same s p d2.happened.task t (subst (λ (z : List ℕ). At s z d2.happened.task) path_t d2.happened.at_) can.at_ in
              can.kept (subst (λ (z : Task S). IsIn c z.given) w (d2.joined (flag d2.slot d2.changes)))
            where
              flag : (b : Bool) → Changes (stage_act P t.body.start vs) c b → b ≡ true
              flag b h2 = let k = (changing (subst (λ (z : Act S). Changes z c b) a h2)).1 in sym k
          not_old g (inr k) e =
              let k2 : SlotEvent vs (record { start = t.body.start; past = vs; answer = v }) = subst (λ (z : Event S). SlotEvent vs z) (sym e) k in
              last_one k2.within refl

          place_of : (g : Event S) → DoneChange P s c g ⊎ SlotEvent vs g → IsEarlierPlace P (record { start = t.body.start; past = vs; answer = v }) g ⊎ IsEarlierPlace P g (record { start = t.body.start; past = vs; answer = v })
          place_of g k = go2 (in_order_or_one P s (record { start = t.body.start; past = vs; answer = v }) g (happened_here (record { start = t.body.start; past = vs; answer = v }) (v ∷ vs) h mine) (happened_of g k))
            where
              go2 : Ordered P (record { start = t.body.start; past = vs; answer = v }) g → IsEarlierPlace P (record { start = t.body.start; past = vs; answer = v }) g ⊎ IsEarlierPlace P g (record { start = t.body.start; past = vs; answer = v })
              go2 (first l) = inl l
              go2 (last l) = inr l
              go2 (same e) = absurd (not_old g k e)

          commute : (g : Event S) → IsEarlierPlace P (record { start = t.body.start; past = vs; answer = v }) g → DoneChange P s c g ⊎ SlotEvent vs g → Commutes P (record { start = t.body.start; past = vs; answer = v }) g
          commute g l (inl d) = folds_swap slot_here (later_folds (record { start = t.body.start; past = vs; answer = v }) (v ∷ vs) h mine g d l)
          commute g l (inr k) = folds_swap slot_here (slot_op g vs k)

          build : Inserted P (record { start = t.body.start; past = vs; answer = v }) q.list → Part (v ∷ vs)
          build r =
              record {
                list = r.list;
                sorted = r.sorted;
                only = λ e i. only e (r.only e i);
                done = λ e d. r.old e (q.done e d);
                slots = λ e k. slots e (narrow e k);
                total = r.value (slice_index cells c) ∙ (ap (λ (z : ℕ). value_after (stage_act P t.body.start vs) z) q.total ∙ one_more);
              }
            where
              only : (e : Event S) → (e ≡ record { start = t.body.start; past = vs; answer = v }) ⊎ IsIn e q.list → DoneChange P s c e ⊎ SlotEvent (v ∷ vs) e
              only e (inl k) = inr (subst (λ (z : Event S). SlotEvent (v ∷ vs) z) (sym k) mine)
              only e (inr i) = wide (q.only e i)
                where
                  wide : DoneChange P s c e ⊎ SlotEvent vs e → DoneChange P s c e ⊎ SlotEvent (v ∷ vs) e
                  wide (inl d) = inl d
                  wide (inr k) = inr (widen e k)

              slots : (e : Event S) → ((e ≡ record { start = t.body.start; past = vs; answer = v }) × Changes (stage_act P t.body.start vs) c true) ⊎ SlotEvent vs e → IsIn e r.list
              slots e (inl k) = subst (λ (z : Event S). IsIn z r.list) (sym k.0) r.new
              slots e (inr k) = r.old e (q.slots e k)

              one_more : value_after (stage_act P t.body.start vs) (combine op (slice_index s.cells c) (slot_of P t.body.start c op vs)) ≡ combine op (slice_index s.cells c) (slot_more (stage_act P t.body.start vs) c op (slot_of P t.body.start c op vs))
              one_more =
                  let k : (c == c) ≡ true = grind (arith, nat_tests) in
                  rw (a, k) (fold_assoc op (slice_index s.cells c) (slot_of P t.body.start c op vs) x)

      go : SlotStep (stage_act P t.body.start vs) → Part (v ∷ vs)
      go (adds x a) = added x a
      go (leaves f g) = same_part f g

  part : (past : List ℕ) → IsSuffix past t.body.found → Part past
  part [] h = start_part
  part (v ∷ vs) h = more_part v vs h (part vs (suffix_drop h))

-- the done changes after a cell was given up
module _ {S : Type 0} (P : Program S) (main : Start S) (s n : State S) (p : List ℕ) (d : ℕ) (t : Task S) (made : IsMade P main s) (started : IsStarted P s) (at_ : At s p t) (may : MayGive P s p d t) (gave : GaveUp s p d t n) where
  gave_forth : (c : ℕ) (e : Event S) → DoneChange P s c e → DoneChange P n c e
  gave_forth c e k = go (which_path e.start.path p)
    where
      h : Happened s e
      h = k.happened

      go : (e.start.path ≡ p) ⊎ (e.start.path ≢ p) → DoneChange P n c e
      go (inl q) =
          let w = at_same s p k.happened.task t (subst (λ (z : List ℕ). At s z k.happened.task) q k.happened.at_) at_ in
          record {
            slot = k.slot;
            changes = k.changes;
            happened = record { task = after_giving d t; at_ = subst (λ (z : List ℕ). At n z (after_giving d t)) (sym q) gave.own; start = ap (λ (z : Task S). z.body.start) (sym w) ∙ k.happened.start; found = subst (λ (z : Task S). IsSuffix (e.answer ∷ e.past) z.body.found) w k.happened.found };
            joined = λ f. there (subst (λ (z : Task S). IsIn c z.given) w (k.joined f));
          }
      go (inr q) =
          record {
            slot = k.slot;
            changes = k.changes;
            happened = record { task = k.happened.task; at_ = gave.others e.start.path q ∙ k.happened.at_; start = k.happened.start; found = k.happened.found };
            joined = k.joined;
          }

  -- a change that is done now was done, or is a fold in the slot that was joined
  gave_back : (c : ℕ) (e : Event S) → DoneChange P n c e → DoneChange P s c e ⊎ ((c ≡ d) × (e.start ≡ t.body.start) × IsSuffix (e.answer ∷ e.past) t.body.found × Changes (stage_act P e.start e.past) c true)
  gave_back c e k = view e.start.path k.happened.task (gave_view P main s n p d t made started at_ may gave e.start.path k.happened.task k.happened.at_) refl k.happened.start k.happened.found k.joined
    where
      view : (r : List ℕ) (u : Task S) → GaveUpView s p d t r u → r ≡ e.start.path → u.body.start ≡ e.start → IsSuffix (e.answer ∷ e.past) u.body.found → (k.slot ≡ true → IsIn c u.given)
          → DoneChange P s c e ⊎ ((c ≡ d) × (e.start ≡ t.body.start) × IsSuffix (e.answer ∷ e.past) t.body.found × Changes (stage_act P e.start e.past) c true)
      view r u (old ne h) q1 q2 f j = inl (record { slot = k.slot; changes = k.changes; happened = record { task = u; at_ = subst (λ (z : List ℕ). At s z u) q1 h; start = q2; found = f }; joined = j })
      view r u own q1 q2 f j = flag k.slot refl
        where
          flag : (b : Bool) → k.slot ≡ b → DoneChange P s c e ⊎ ((c ≡ d) × (e.start ≡ t.body.start) × IsSuffix (e.answer ∷ e.past) t.body.found × Changes (stage_act P e.start e.past) c true)
          flag false g = inl (record { slot = k.slot; changes = k.changes; happened = record { task = t; at_ = subst (λ (z : List ℕ). At s z t) q1 at_; start = q2; found = f }; joined = λ g2. let x : true ≡ false = sym g2 ∙ g in cc })
          flag true g = split (in_cons (j g))
            where
              split : (c ≡ d) ⊎ IsIn c t.given → DoneChange P s c e ⊎ ((c ≡ d) × (e.start ≡ t.body.start) × IsSuffix (e.answer ∷ e.past) t.body.found × Changes (stage_act P e.start e.past) c true)
              split (inl x) = inr (x, sym q2, f, subst (λ (z : Bool). Changes (stage_act P e.start e.past) c z) g k.changes)
              split (inr x) = inl (record { slot = k.slot; changes = k.changes; happened = record { task = t; at_ = subst (λ (z : List ℕ). At s z t) q1 at_; start = q2; found = f }; joined = λ g2. x })

  -- a cell of which no fold is joined by this keeps its value
  pub gave_value : (cells : List ℕ) (c : ℕ) → (n.cells ≡ s.cells) ⊎ (c ≢ d) → slice_index n.cells c ≡ slice_index s.cells c → ((e : Event S) → c ≡ d → e.start ≡ t.body.start → Changes (stage_act P e.start e.past) c true → ⊥) → PlacedValue P s cells c → PlacedValue P n cells c
  gave_value cells c which_ same_value none v =
      record {
        list = v.list;
        sorted = v.sorted;
        only = λ e i. gave_forth c e (v.only e i);
        all = λ e k. all e (gave_back c e k);
        value = same_value ∙ v.value;
      }
    where
      all : (e : Event S) → DoneChange P s c e ⊎ ((c ≡ d) × (e.start ≡ t.body.start) × IsSuffix (e.answer ∷ e.past) t.body.found × Changes (stage_act P e.start e.past) c true) → IsIn e v.list
      all e (inl k) = v.all e k
      all e (inr k) = absurd (none e k.0 k.1 k.3)

-- the value of the joined cell
pub join_value : {S : Type 0} (P : Program S) (main : Start S) (s n : State S) (p : List ℕ) (c : ℕ) (op : Op) (t : Task S) (ms : MainStarts main) (made : IsMade P main s) (started : IsStarted P s) (can : CanJoin P s p c op t) (gave : GaveUp s p c t n) → n.cells ≡ joined_cells P c op t s.cells
    → (cells : List ℕ) → c < length s.cells → slice_index s.cells c < 2 ^ 64 → PlacedValue P s cells c → PlacedValue P n cells c
join_value {S = S} P main s n p c op t ms made started can gave cells_are cells l word v =
    let q = part P main s p c op t ms made started can cells v word t.body.found whole in
    record {
      list = q.list;
      sorted = q.sorted;
      only = λ e i. only e (q.only e i);
      all = λ e k. all e (gave_back P main s n p c t made started can.at_ (join_may P s p c op t can) gave c e k);
      value = ap (λ (z : List ℕ). slice_index z c) cells_are ∙ (get_or-set_same s.cells c (combine op (get_or s.cells c 0) (slot_of P t.body.start c op t.body.found)) 0 l ∙ sym q.total);
    }
  where
    only : (e : Event S) → DoneChange P s c e ⊎ SlotEvent P main s p c op t ms made started can cells v word t.body.found e → DoneChange P n c e
    only e (inl d) = gave_forth P main s n p c t made started can.at_ (join_may P s p c op t can) gave c e d
    only e (inr k) =
        record {
          slot = true;
          changes = k.changes;
          happened = record { task = after_giving c t; at_ = subst (λ (z : List ℕ). At n z (after_giving c t)) (sym (ap (λ (z : Start S). z.path) k.start ∙ path_found s.tasks p t can.at_)) gave.own; start = sym k.start; found = k.within };
          joined = λ e2. here;
        }

    all : (e : Event S) → DoneChange P s c e ⊎ ((c ≡ c) × (e.start ≡ t.body.start) × IsSuffix (e.answer ∷ e.past) t.body.found × Changes (stage_act P e.start e.past) c true) → IsIn e (part P main s p c op t ms made started can cells v word t.body.found whole).list
    all e (inl d) = (part P main s p c op t ms made started can cells v word t.body.found whole).done e d
    all e (inr k) = (part P main s p c op t ms made started can cells v word t.body.found whole).slots e (record { start = k.1; within = k.2; changes = k.3 })
