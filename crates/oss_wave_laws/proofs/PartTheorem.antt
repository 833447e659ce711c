-- Parts of a wave as bodies compute them, over a memory of their own.
use Rattle.std.proofs.Common.{◌≡◌, ◌≢◌, ℕ, ◌⊎◌, inl, inr, refl, sym, subst, ap, ◌∙◌, List, [], ◌∷◌, Bool, true, false}
use Rattle.std.specs.Prelude.{if◌then◌else◌}
use Rattle.oss_model.specs.Order.{IsIn, here, there}
use Rattle.oss_model.specs.Bodies.{Program, Act, Start, stage_act, IsHalt}
use Rattle.oss_model.specs.Machine.{Task, State, At, IsReady, IsWaitMet, same_path}
use Rattle.oss_model.specs.Moves.{act_now, created_now, after_answer, found_by, cells_after, CanStep, TaskStep, Stepped}
use Rattle.oss_model.specs.Sequence.{Running, Sequential}
use Rattle.oss_model.specs.Agreement.{Setting, Agrees}
use Rattle.oss_model.proofs.TreeLemmas.{at_same}
use Rattle.oss_model.proofs.RunLemmas.{next}
use Rattle.oss_model.proofs.TreeLemmas.{same_path_is}
use Rattle.oss_wave_laws.specs.Alone.{RunsAlone, begins, goes as acts_on, IsInWave, IsWaiting, with_part, GoesInWave, RunsPart, part_begins, part_goes, with_found, IsAlonePart, PartGoes, PartGoesOn, PartDone, PartFollows, TaskPart, AreDifferent, WaveDone, WaveFollows}
use Rattle.oss_wave_laws.proofs.AloneLemmas.{alone_still, alone_first}
use Rattle.oss_wave_laws.proofs.WaveTheorem.{waits_or_not, goes_in_wave, part_own, part_other, wave_begins}

-- the state after an act
pub record StepMade {S : Type 0} (P : Program S) (s : State S) (p : List ℕ) (t : Task S) : Type 0 where
  pub state : State S
  pub step : Stepped P s p t state

pub step_made : {S : Type 0} (P : Program S) (s : State S) (p : List ℕ) (t : Task S) → At s p t → (IsHalt (act_now P t.body) → ⊥) → StepMade P s p t
step_made P s p t at_ goes =
    let y = next P (record { state = s; active = p; printed = [] }) t at_ goes in
    let e : y.runs.task ≡ t = at_same s p y.runs.task t y.runs.at_ at_ in
    let k : TaskStep P s p t (found_by (act_now P t.body) s.cells) y.stage.state = subst (λ (u : Task _). TaskStep P s p u (found_by (act_now P u.body) s.cells) y.stage.state) e y.runs.tasks in
    record {
      state = record { cells = cells_after (act_now P t.body) s.cells; tasks = y.stage.state.tasks };
      step = record { cells = refl; tasks = record { own = k.own; made = λ o a. k.made o a; others = λ q ne f. k.others q ne f } };
    }

module _ {S : Type 0} (P : Program S) (main : Start S) (cells : List ℕ) (z : Running S) (set_ : Setting main cells) (run : Sequential P main cells z) (s : State S) (s_agrees : Agrees P main cells z s) (p : List ℕ) (t : Task S) (can : CanStep P s p t) where
  module _ (alone : List ℕ → State S) (n : State S) (wave : IsInWave P s alone n) (mid past : List ℕ) (is : IsAlonePart p t mid past (alone p)) (goes : IsHalt (stage_act P t.body.start past) → ⊥) (first : IsWaiting (stage_act P t.body.start past) → past ≡ t.body.found) where
    abbrev act : Act S
    act = stage_act P t.body.start past

    abbrev w : Task S
    w = with_found past t

    abbrev a : State S
    a = alone p

    alone_p : RunsAlone P p s a
    alone_p = wave.each p t can.at_

    -- the act may be made alone
    can_alone : CanStep P a p w
    can_alone = record {
      at_ = is.at_;
      goes = goes;
      ready = λ e.
          let k = alone_first P main cells z set_ run s s_agrees p alone_p t w can.at_ is.at_ e in
          let f : w ≡ t = at_same s p w t (subst (λ (x : State S). At x p w) k is.at_) can.at_ in
          subst (λ (x : State S). IsReady x p t.body.start.context) (sym k) (can.ready (sym (ap (λ (x : Task S). x.body.found) f) ∙ e));
      waits = by_act (waits_or_not P act);
    }
      where
        by_act : IsWaiting act ⊎ ((x : State S) (q : List ℕ) (k : ℕ) → IsWaitMet P x q k act) → IsWaitMet P a p (created_now P w.body) act
        by_act (inr h) = h a p (created_now P w.body)
        by_act (inl h) =
            let k = alone_still P main cells z set_ run s s_agrees p alone_p t w can.at_ is.at_ (first h) in
            let f : w ≡ t = at_same s p w t (subst (λ (x : State S). At x p w) k is.at_) can.at_ in
            subst (λ (x : State S). IsWaitMet P x p (created_now P w.body) act) (sym k) (subst (λ (x : Task S). IsWaitMet P s p (created_now P x.body) (act_now P x.body)) (sym f) can.waits)

    made : StepMade P a p w
    made = step_made P a p w is.at_ goes

    inside : GoesInWave P s alone n p w made.state
    inside = goes_in_wave P main cells z set_ run s s_agrees alone n wave p t w made.state can.at_ can_alone made.step first

    pub goes_on : PartGoes P s alone n p t mid past
    goes_on = record {
      can = inside.can;
      found = inside.found ∙ ap (found_by act) is.cells;
      b = made.state;
      part = record {
        cells = made.step.cells ∙ ap (cells_after act) is.cells;
        at_ = subst (λ (v : ℕ). At made.state p (after_answer v w)) (ap (found_by act) is.cells) made.step.tasks.own;
      };
      after = λ m done_. inside.after m done_;
    }

  -- the parts, of which that of one task is twice another
  pub part_twice : (b d : State S) (alone : List ℕ → State S) (q : List ℕ) → with_part p d (with_part p b alone) q ≡ with_part p d alone q
  part_twice b d alone q = by_test (same_path q p)
    where
      by_test : (k : Bool) → (if k then d else (if k then b else alone q)) ≡ (if k then d else alone q)
      by_test true = refl
      by_test false = refl

  pub own_same : (alone : List ℕ → State S) (b : State S) → alone p ≡ b → (q : List ℕ) → alone q ≡ with_part p b alone q
  own_same alone b e q = by_test (same_path q p) refl
    where
      by_test : (k : Bool) → same_path q p ≡ k → alone q ≡ (if k then b else alone q)
      by_test true f = ap alone (same_path_is q p f) ∙ e
      by_test false f = refl

  pub follows : (alone : List ℕ → State S) (n : State S) → IsInWave P s alone n → alone p ≡ s → {mid past : List ℕ} → RunsPart P t.body.start s.cells t.body.found mid past → PartDone P s alone n p t mid past
  follows alone n wave e part_begins = record {
    m = n;
    a = s;
    run = begins;
    part = record { cells = refl; at_ = can.at_ };
    wave = subst (λ (g : List ℕ → State S). IsInWave P s g n) (λ i q. own_same alone s e q i) wave;
  }
  follows alone n wave e (part_goes {mid = mid} {past = past} r stop first) =
      let d = follows alone n wave e r in
      let is : IsAlonePart p t mid past (with_part p d.a alone p) = subst (λ (x : State S). IsAlonePart p t mid past x) (sym (part_own p d.a alone)) d.part in
      let g = goes_on (with_part p d.a alone) d.m d.wave mid past is stop first in
      let y = step_made P d.m p (with_found past t) g.can.at_ stop in
      record {
        m = y.state;
        a = g.b;
        run = acts_on d.run g.can y.step;
        part = g.part;
        wave = subst (λ (f : List ℕ → State S). IsInWave P s f y.state) (λ i q. part_twice d.a g.b alone q i) (g.after y.state y.step);
      }

pub part_goes_on : (S : Type 0) → PartGoesOn S
part_goes_on S P main cells z s n alone p t mid past set_ run s_agrees wave can is goes first = goes_on P main cells z set_ run s s_agrees p t can alone n wave mid past is goes first

pub part_follows : (S : Type 0) → PartFollows S
part_follows S P main cells z s n alone p t mid past set_ run s_agrees wave can e r = follows P main cells z set_ run s s_agrees p t can alone n wave e r

module _ {S : Type 0} (P : Program S) (main : Start S) (cells : List ℕ) (z : Running S) (set_ : Setting main cells) (run : Sequential P main cells z) (s : State S) (s_agrees : Agrees P main cells z s) where
  no_part : {k : TaskPart P s} → IsIn k [] → ⊥
  no_part h = elim h [ ]

  -- one more part is done
  one_more : (k : TaskPart P s) (rest : List (TaskPart P s)) → ((j : TaskPart P s) → IsIn j rest → j.path ≢ k.path) → WaveDone P s rest → WaveDone P s (k ∷ rest)
  one_more k rest apart d = record {
    n = y.m;
    alone = parts;
    wave = y.wave;
    each = λ j h. on_each j h;
    there = λ j h. y.wave.same j.path j.task (with_found j.past j.task) j.can.at_ (on_each j h).at_;
    others = λ q free. part_other k.path y.a d.alone q (λ e. free k here (sym e)) ∙ d.others q (λ j h. free j (there h));
  }
    where
      y : PartDone P s d.alone d.n k.path k.task k.mid k.past
      y = follows P main cells z set_ run s s_agrees k.path k.task k.can d.alone d.n d.wave (d.others k.path apart) k.run

      parts : List ℕ → State S
      parts = with_part k.path y.a d.alone

      on_each : (j : TaskPart P s) → IsIn j (k ∷ rest) → IsAlonePart j.path j.task j.mid j.past (parts j.path)
      on_each j here = subst (λ (x : State S). IsAlonePart k.path k.task k.mid k.past x) (sym (part_own k.path y.a d.alone)) y.part
      on_each j (there h) = subst (λ (x : State S). IsAlonePart j.path j.task j.mid j.past x) (sym (part_other k.path y.a d.alone j.path (apart j h))) (d.each j h)

  all_done : (parts : List (TaskPart P s)) → AreDifferent parts → WaveDone P s parts
  all_done [] h = record { n = s; alone = λ q. s; wave = wave_begins S P s; each = λ k i. absurd (no_part i); there = λ k i. absurd (no_part i); others = λ q free. refl }
  all_done (k ∷ rest) h = one_more k rest h.0 (all_done rest h.1)

pub wave_follows : (S : Type 0) → WaveFollows S
wave_follows S P main cells z s parts set_ run s_agrees h = all_done P main cells z set_ run s s_agrees parts h
