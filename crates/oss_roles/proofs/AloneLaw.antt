-- What a body does by itself is a run of the machine.
use Rattle.std.proofs.Common.{◌≡◌, ◌≢◌, sym, subst, refl, ◌∙◌, ap, ℕ, true, false, List}
use Rattle.oss_model.specs.Bodies.{Order, Program, Act, Start, Body, IsHalt}
use Rattle.oss_model.specs.Bodies.Act.{Ticked, Load, Store, Folded, Created, Awaited, Waited, WaitedOn, Releases, Printed, Ended, Fault, Over}
use Rattle.oss_model.specs.Machine.{Task, State, At, IsReady}
use Rattle.oss_model.specs.Moves.{act_now, created_now, cells_after, found_by, after_answer, CanStep, Stepped, Reached, moves, steps}
use Rattle.oss_model.specs.Order.{whole, longer}
use Rattle.oss_model.proofs.TreeLemmas.{over_stops}
use Rattle.oss_roles.specs.Alone.{IsOwnAct, with_answer, GoesAlone, rests, acts_on}
use Rattle.oss_roles.proofs.Going.{with_task, Went}
use Rattle.oss_roles.proofs.StateLemmas.{turned_by, continues_turned, continues_on, continues_self, turned_on, turned_self, ready_on, waits_on}

own_goes : {S : Type 0} (a : Act S) → IsOwnAct a → IsHalt a → ⊥
own_goes (Fault kind line key) o h = o
own_goes Over o h = o
own_goes Ticked o h = h
own_goes (Load c) o h = h
own_goes (Store c v) o h = h
own_goes (Folded c op v z) o h = h
own_goes (Created q z) o h = h
own_goes Awaited o h = h
own_goes Waited o h = h
own_goes (WaitedOn named) o h = h
own_goes (Releases cl z) o h = h
own_goes (Printed key text) o h = h
own_goes Ended o h = h

own_cells : {S : Type 0} (a : Act S) (cells : List ℕ) → IsOwnAct a → (cells_after a cells ≡ cells) × (found_by a cells ≡ 0)
own_cells (Fault kind line key) cells o = absurd o
own_cells Over cells o = absurd o
own_cells Ticked cells o = (refl, refl)
own_cells (Load c) cells o = absurd o
own_cells (Store c v) cells o = absurd o
own_cells (Folded c op v true) cells o = (refl, refl)
own_cells (Folded c op v false) cells o = absurd o
own_cells (Created q z) cells o = (refl, refl)
own_cells Awaited cells o = (refl, refl)
own_cells Waited cells o = (refl, refl)
own_cells (WaitedOn named) cells o = (refl, refl)
own_cells (Releases cl z) cells o = (refl, refl)
own_cells (Printed key text) cells o = (refl, refl)
own_cells Ended cells o = (refl, refl)

own_makes : {S : Type 0} (a : Act S) → IsOwnAct a → (o : Order S) → a ≢ Created o false
own_makes (Created q true) own o e = cc
own_makes (Created q false) own o e = own
own_makes Ticked own o e = cc
own_makes (Load c) own o e = cc
own_makes (Store c v) own o e = cc
own_makes (Folded c op v z) own o e = cc
own_makes Awaited own o e = cc
own_makes Waited own o e = cc
own_makes (WaitedOn named) own o e = cc
own_makes (Releases cl z) own o e = cc
own_makes (Printed key text) own o e = cc
own_makes Ended own o e = cc
own_makes (Fault kind line key) own o e = cc
own_makes Over own o e = cc

module _ {S : Type 0} (P : Program S) (main : Start S) (first : List ℕ) where
  -- an act that makes no task, as a move
  pub step_once : (s : State S) (p : List ℕ) (t : Task S) → Reached P main first s → CanStep P s p t → ((o : Order S) → act_now P t.body ≢ Created o false)
      → Went P main first s p (with_task (after_answer (found_by (act_now P t.body) s.cells) t) (cells_after (act_now P t.body) s.cells) s) (after_answer (found_by (act_now P t.body) s.cells) t)
  step_once s p t r can none =
      let v = found_by (act_now P t.body) s.cells in
      let turned = turned_by s p t (after_answer v t) (cells_after (act_now P t.body) s.cells) can.at_ refl in
      let n = with_task (after_answer v t) (cells_after (act_now P t.body) s.cells) s in
      let step : Stepped P s p t n = record { cells = refl; tasks = record { own = turned.own; made = λ o a. absurd (none o a); others = λ q ne f. turned.others q ne } } in
      record {
        reached = moves r (steps can step);
        continues = continues_turned P s n p t (after_answer v t) can.at_ turned (record { start = refl; found = longer whole; given = λ c i. i }) (λ k. absurd (can.goes (subst IsHalt (sym (over_stops P t.body.start t.body.found k)) tt)));
        turned = turned;
      }

  pub went_on : (s m n : State S) (p : List ℕ) (t u : Task S) → Went P main first s p m t → Went P main first m p n u → Went P main first s p n u
  went_on s m n p t u a b = record { reached = b.reached; continues = continues_on P s m n a.continues b.continues; turned = turned_on s m n p t u a.turned b.turned }

  pub alone_goes : (s : State S) (p : List ℕ) (t : Task S) (x : Body S) → Reached P main first s → At s p t → IsReady s p t.body.start.context → GoesAlone P s p t.body x
      → (n : State S) × Went P main first s p n (record { body = x; given = t.given }) × (n.cells ≡ s.cells) × (x.start ≡ t.body.start)
  alone_goes s p t x r at_ ready rests = (s, record { reached = r; continues = continues_self P s; turned = turned_self s p t at_ }, refl, refl)
  alone_goes s p t x r at_ ready (acts_on {x = y} run own met) =
      let k = alone_goes s p t y r at_ ready run in
      let m = k.0 in
      let u : Task S = record { body = y; given = t.given } in
      let can : CanStep P m p u = record {
        at_ = k.1.turned.own;
        goes = own_goes (act_now P y) own;
        ready = λ e. ready_on P s m k.1.continues p u.body.start.context (subst (λ (z : Start S). IsReady s p z.context) (sym k.3) ready);
        waits = waits_on P s m k.1.continues p (created_now P y) (act_now P y) met;
      } in
      let step = step_once m p u k.1.reached can (own_makes (act_now P y) own) in
      let cells = own_cells (act_now P y) m.cells own in
      let n = with_task (after_answer (found_by (act_now P y) m.cells) u) (cells_after (act_now P y) m.cells) m in
      let same : after_answer (found_by (act_now P y) m.cells) u ≡ record { body = with_answer 0 y; given = t.given } = ap (λ (z : ℕ). after_answer z u) cells.1 in
      (n, subst (λ (z : Task S). Went P main first s p n z) same (went_on s m n p u (after_answer (found_by (act_now P y) m.cells) u) k.1 step), cells.0 ∙ k.2, k.3)
