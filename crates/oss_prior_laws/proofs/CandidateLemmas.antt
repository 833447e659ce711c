-- A candidate stays one until its turn.
use Rattle.std.proofs.Common.{◌≡◌, ◌≢◌, ℕ, zero, suc, ◌≤◌, ◌⊎◌, inl, inr, refl, sym, subst, ap, ◌∙◌, arith, List, [], ◌∷◌, false}
use Rattle.oss_syntax.specs.declared.access.Op.{Op}
use Rattle.oss_model.specs.Bodies.{Body, Order, Program, Start, IsHalt}
use Rattle.oss_model.specs.Bodies.Act.{Created}
use Rattle.oss_model.specs.Machine.{Task, State, At, IsReady, IsWaitMet}
use Rattle.oss_model.specs.Moves.{act_now, created_now, after_giving, CanStep, Stepped, GaveUp, Moved, Reached, opening, steps, lets, joins}
use Rattle.oss_model.specs.Sequence.{Running, Sequential}
use Rattle.oss_model.specs.Sequence as sequence
use Rattle.oss_model.specs.Agreement.{Setting, Agrees}
use Rattle.oss_model.proofs.AgreementTheorem.{every_state_agrees, moved_agrees}
use Rattle.oss_model.proofs.MoveLemmas.{fresh_child, which_path}
use Rattle.oss_model.proofs.StayLemmas.{ready_law, wait_law}
use Rattle.oss_model.proofs.TreeLemmas.{at_same}
use Rattle.oss_wave_laws.specs.Waves.{Takes, takes_more, takes_none}
use Rattle.oss_wave_laws.specs.Passes.{GivenUp, Passes, Place, Visits, gives, idles, keeps, merges, passes, visits_none}
use Rattle.oss_prior_laws.specs.Turns.{Candidate, Turn}
use Rattle.oss_prior_laws.specs.Claims.{CandidatesStay}

module _ {S : Type 0} (P : Program S) (main : Start S) (cells : List ℕ) (z : Running S) (set_ : Setting main cells) (run : Sequential P main cells z) where
  -- a move leaves a task as able to step as it was, if it leaves its body
  moved : (s n : State S) → Agrees P main cells z s → Moved P s n → (q : List ℕ) (u w : Task S) → CanStep P s q u → At n q w → w.body ≡ u.body → CanStep P n q w
  moved s n agrees m q u w can h e = record {
    at_ = h;
    goes = subst (λ (b : Body S). IsHalt (act_now P b) → ⊥) (sym e) can.goes;
    ready = λ f. subst (λ (b : Body S). IsReady n q b.start.context) (sym e) (ready_law S q u.body.start.context P main cells z s n agrees m (can.ready (ap (λ (b : Body S). b.found) (sym e) ∙ f)));
    waits = subst (λ (b : Body S). IsWaitMet P n q (created_now P b) (act_now P b)) (sym e) (wait_law S P main cells z s n q u (created_now P u.body) (act_now P u.body) agrees m can.at_ (omega arith) can.waits);
  }

  -- a state on the way, in which the task is a candidate still
  record Still (q : List ℕ) (n : State S) : Type 0 where
    pub agrees : Agrees P main cells z n
    pub candidate : Candidate P n q

  by_step : {s n : State S} (q p : List ℕ) (t : Task S) → Still q s → q ≢ p → CanStep P s p t → Stepped P s p t n → Still q n
  by_step {s = s} {n = n} q p t h ne can step = record { agrees = moved_agrees P main cells z set_ run s n h.agrees (steps can step); candidate = record { task = c.task; can = moved s n h.agrees (steps can step) q c.task c.task c.can there_ refl } }
    where
      c : Candidate P s q
      c = h.candidate

      no_child : (o : Order S) → act_now P t.body ≡ Created o false → q ≢ created_now P t.body ∷ p
      no_child o e f = fresh_child P main s p t c.task h.agrees.made can.at_ (subst (λ (r : List ℕ). At s r c.task) f c.can.at_)

      there_ : At n q c.task
      there_ = step.tasks.others q ne no_child ∙ c.can.at_

  by_gift : {s n : State S} (q p : List ℕ) (c : ℕ) (t : Task S) → Still q s → At s p t → GaveUp s p c t n → Moved P s n → Still q n
  by_gift {s = s} {n = n} q p c t h at_ gave m = record { agrees = moved_agrees P main cells z set_ run s n h.agrees m; candidate = go (which_path q p) }
    where
      x : Candidate P s q
      x = h.candidate

      go : (q ≡ p) ⊎ (q ≢ p) → Candidate P n q
      go (inl e) =
          let own = subst (λ (r : List ℕ). At n r (after_giving c t)) (sym e) gave.own in
          let one : t ≡ x.task = at_same s q t x.task (subst (λ (r : List ℕ). At s r t) (sym e) at_) x.can.at_ in
          record { task = after_giving c t; can = moved s n h.agrees m q x.task (after_giving c t) x.can own (ap (λ (u : Task S). u.body) one) }
      go (inr ne) = record { task = x.task; can = moved s n h.agrees m q x.task x.task x.can (gave.others q ne ∙ x.can.at_) refl }

  by_takes : (q p : List ℕ) (k : ℕ) {s n : State S} → q ≢ p → Still q s → Takes P p s k n → Still q n
  by_takes q p zero ne h takes_none = h
  by_takes q p (suc k) ne h (takes_more {t = t} r can step) = by_step q p t (by_takes q p k ne h r) ne can step

  by_visits : (q : List ℕ) (places : List Place) {s n : State S} {done : List GivenUp} → Still q s → Visits P s places done n → Still q n
  by_visits q [] h visits_none = h
  by_visits q (a ∷ rest) h (keeps k v) = by_visits q rest h v
  by_visits q (a ∷ rest) h (gives {t = t} can go v) = by_visits q rest (by_gift q a.path a.cell t h can.at_ go.tasks (lets can go)) v
  by_visits q (a ∷ rest) h (merges {t = t} can go v) = by_visits q rest (by_gift q a.path a.cell t h can.at_ go.tasks (joins can go)) v

  by_passes : (q : List ℕ) {lists : List (List GivenUp)} {s n : State S} → Still q s → Passes P s lists n → Still q n
  by_passes q h (idles a) = by_visits q a.places h a.visits
  by_passes q h (passes a r) = by_passes q (by_visits q a.places h a.visits) r

pub candidates_stay : (S : Type 0) → CandidatesStay S
candidates_stay S P main cells s n p k q set_ reached turn ne c =
    let z : Running S = record { state = opening main cells; active = []; printed = [] } in
    let run : Sequential P main cells z = sequence.opens in
    (by_passes P main cells z set_ run q (by_takes P main cells z set_ run q p k ne (record { agrees = every_state_agrees S P main cells z s set_ run reached; candidate = c }) turn.takes) turn.behind).candidate
