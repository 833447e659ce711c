-- The turns of a wave: each act may be made at its turn, and each task comes where its part has come alone.
use Rattle.std.proofs.Common.{◌≡◌, ◌≢◌, ℕ, zero, suc, ◌<◌, ◌≤◌, refl, sym, subst, ap, ◌∙◌, arith, List, [], ◌∷◌, reverse}
use Rattle.oss_model.specs.Order.{IsIn, here, there, IsEarlierKey}
use Rattle.oss_model.specs.Bodies.{Program, Start}
use Rattle.oss_model.specs.Machine.{Task, State, At}
use Rattle.oss_model.specs.Moves.{CanStep, Stepped}
use Rattle.oss_model.specs.Sequence.{Running, Sequential}
use Rattle.oss_model.specs.Agreement.{Setting, Agrees}
use Rattle.oss_model.proofs.OrderLemmas.{before_not}
use Rattle.oss_model.proofs.TreeLemmas.{at_same}
use Rattle.oss_wave_laws.specs.Alone.{IsInWave, with_part, with_found, IsAlonePart, PartGoes}
use Rattle.oss_wave_laws.specs.Parts.{Stage, stage_after, act_after, ticks_after, IsPart}
use Rattle.oss_wave_laws.specs.Waves.{Turn, first_stage, part_stage, wave_ticks, IsTurn, Takes, takes_none, takes_more, TakeTurns, no_turns, turn_first, AreInOrder, AreTurns, IsWave, WaveStands, TurnsStand, WaveCanBeMade}
use Rattle.oss_wave_laws.proofs.WaveTheorem.{part_own, part_other, wave_begins}
use Rattle.oss_wave_laws.proofs.PartTheorem.{goes_on, step_made, part_twice, own_same}
use Rattle.oss_wave_laws.proofs.PartLemmas.{goes_from}

-- tasks in point order have different paths
pub apart : (k j : Turn) → IsEarlierKey k.path j.path → j.path ≢ k.path
apart k j h e = before_not h (ap reverse (sym e))

module _ {S : Type 0} (P : Program S) (main : Start S) (cells : List ℕ) (z : Running S) (set_ : Setting main cells) (run : Sequential P main cells z) (s : State S) (s_agrees : Agrees P main cells z s) where
  -- a task that has done so many acts of its part, the others as they were
  pub record Taken (alone : List ℕ → State S) (p : List ℕ) (t : Task S) (k : ℕ) (m : State S) : Type 0 where
    pub a : State S
    pub part : IsAlonePart p t (stage_after P t.body.start (first_stage s t) k).cells (stage_after P t.body.start (first_stage s t) k).found a
    pub wave : IsInWave P s (with_part p a alone) m

  module _ (alone : List ℕ → State S) (n : State S) (wave : IsInWave P s alone n) (p : List ℕ) (t : Task S) (can : CanStep P s p t) (free : alone p ≡ s) (count : ℕ) (is : IsPart P t.body.start (first_stage s t) wave_ticks count) where
    abbrev stage : ℕ → Stage
    stage k = stage_after P t.body.start (first_stage s t) k

    at_start : (k : ℕ) → k ≡ zero → (stage k).found ≡ t.body.found
    unfolding stage_after
    at_start k e = rw e refl

    -- the next act of the part
    next_goes : (k : ℕ) (m : State S) → k < count → (d : Taken alone p t k m) → PartGoes P s (with_part p d.a alone) m p t (stage k).cells (stage k).found
    next_goes k m l d =
        let g = goes_from (act_after P t.body.start (first_stage s t) k) k (ticks_after P t.body.start (first_stage s t) k) wave_ticks (is.goes k l) in
        goes_on P main cells z set_ run s s_agrees p t can (with_part p d.a alone) m d.wave (stage k).cells (stage k).found
        (subst (λ (x : State S). IsAlonePart p t (stage k).cells (stage k).found x) (sym (part_own p d.a alone)) d.part) g.halt (λ w. at_start k (g.first w))

    begun : Taken alone p t zero n
    unfolding stage_after
    begun = record {
      a = s;
      part = record { cells = refl; at_ = can.at_ };
      wave = subst (λ (g : List ℕ → State S). IsInWave P s g n) (λ i q. own_same P main cells z set_ run s s_agrees p t can alone s free q i) wave;
    }

    -- whichever state follows that act, the part has done it there
    one_on : (k : ℕ) (m b : State S) (u : Task S) → k < count → Taken alone p t k m → At m p u → Stepped P m p u b → Taken alone p t (suc k) b
    unfolding stage_after
    one_on k m b u l d at_ step =
        let g = next_goes k m l d in
        let e : u ≡ with_found (stage k).found t = at_same m p u _ at_ g.can.at_ in
        record {
          a = g.b;
          part = g.part;
          wave = subst (λ (f : List ℕ → State S). IsInWave P s f b) (λ i q. part_twice P main cells z set_ run s s_agrees p t can d.a g.b alone q i) (g.after b (subst (λ (x : Task S). Stepped P m p x b) e step));
        }

    pub taken : (k : ℕ) {m : State S} → k ≤ count → Takes P p n k m → Taken alone p t k m
    taken zero l takes_none = begun
    taken (suc k) {m = b} l (takes_more {a = a} {t = u} r c step) = one_on k a b u (omega (arith, l)) (taken k (omega (arith, l)) r) c.at_ step

    pub takes : (k : ℕ) → k ≤ count → (m : State S) × Takes P p n k m
    takes zero l = (n, takes_none)
    takes (suc k) l = on (takes k (omega (arith, l)))
      where
        on : (m : State S) × Takes P p n k m → (m : State S) × Takes P p n (suc k) m
        on r =
            let g = next_goes k r.0 (omega (arith, l)) (taken k (omega (arith, l)) r.1) in
            let y = step_made P r.0 p (with_found (stage k).found t) g.can.at_ g.can.goes in
            (y.state, takes_more r.1 g.can y.step)

  -- the turns that are left are done
  record Finished (alone : List ℕ → State S) (turns : List Turn) (n : State S) : Type 0 where
    pub ended : List ℕ → State S
    pub wave : IsInWave P s ended n
    pub each : (k : Turn) → IsIn k turns → (turn : IsTurn P s k) → IsAlonePart k.path turn.task (part_stage P s turn.task k).cells (part_stage P s turn.task k).found (ended k.path)
    pub others : (q : List ℕ) → ((k : Turn) → IsIn k turns → k.path ≢ q) → ended q ≡ alone q

  -- the turn of the task that is there
  same_turn : (k : Turn) (x y : IsTurn P s k) → y.task ≡ x.task
  same_turn k x y = at_same s k.path y.task x.task y.can.at_ x.can.at_

  after_first : (alone : List ℕ → State S) (k : Turn) (rest : List Turn) (m n : State S) (turn : IsTurn P s k) → ((j : Turn) → IsIn j rest → j.path ≢ k.path)
      → (d : Taken alone k.path turn.task k.acts m) → Finished (with_part k.path d.a alone) rest n → Finished alone (k ∷ rest) n
  after_first alone k rest m n turn different d f = record {
    ended = f.ended;
    wave = f.wave;
    each = λ j h x. on_each j h x;
    others = λ q free. f.others q (λ j h. free j (there h)) ∙ part_other k.path d.a alone q (λ e. free k here (sym e));
  }
    where
      own : f.ended k.path ≡ d.a
      own = f.others k.path different ∙ part_own k.path d.a alone

      on_each : (j : Turn) → IsIn j (k ∷ rest) → (x : IsTurn P s j) → IsAlonePart j.path x.task (part_stage P s x.task j).cells (part_stage P s x.task j).found (f.ended j.path)
      on_each j here x =
          subst (λ (u : Task S). IsAlonePart k.path u (part_stage P s u k).cells (part_stage P s u k).found (f.ended k.path)) (sym (same_turn k turn x))
          (subst (λ (y : State S). IsAlonePart k.path turn.task (part_stage P s turn.task k).cells (part_stage P s turn.task k).found y) (sym own) d.part)
      on_each j (there h) x = f.each j h x

  no_turn : {k : Turn} → IsIn k [] → ⊥
  no_turn h = elim h [ ]

  finish : (alone : List ℕ → State S) (m n : State S) (turns : List Turn) → IsInWave P s alone m → AreInOrder turns → ((k : Turn) → IsIn k turns → IsTurn P s k) → ((k : Turn) → IsIn k turns → alone k.path ≡ s) → TakeTurns P m turns n → Finished alone turns n
  finish alone m n [] wave order only free no_turns = record { ended = alone; wave = wave; each = λ k h x. absurd (no_turn h); others = λ q h. refl }
  finish alone m n (k ∷ rest) wave order only free (turn_first {m = b} r more) =
      let turn = only k here in
      let d = taken alone m wave k.path turn.task turn.can (free k here) k.acts turn.part k.acts (omega arith) r in
      let different : (j : Turn) → IsIn j rest → j.path ≢ k.path = λ j h. apart k j (order.0 j h) in
      after_first alone k rest b n turn different d
      (finish (with_part k.path d.a alone) b n rest d.wave order.1 (λ j h. only j (there h)) (λ j h. part_other k.path d.a alone j.path (different j h) ∙ free j (there h)) more)

  pub stands : (turns : List Turn) (n : State S) → IsWave P s turns n → WaveStands P s turns n
  stands turns n w =
      let f = finish (λ q. s) s n turns (wave_begins S P s) w.turns_are.ordered w.turns_are.only (λ k h. refl) w.acts in
      record {
        alone = f.ended;
        wave = f.wave;
        each = λ k h turn. f.each k h turn;
        there = λ k h turn. f.wave.same k.path turn.task (with_found (part_stage P s turn.task k).found turn.task) turn.can.at_ (f.each k h turn).at_;
      }

  make : (alone : List ℕ → State S) (m : State S) (turns : List Turn) → IsInWave P s alone m → AreInOrder turns → ((k : Turn) → IsIn k turns → IsTurn P s k) → ((k : Turn) → IsIn k turns → alone k.path ≡ s) → (n : State S) × TakeTurns P m turns n
  make alone m [] wave order only free = (m, no_turns)
  make alone m (k ∷ rest) wave order only free =
      let turn = only k here in
      let t = takes alone m wave k.path turn.task turn.can (free k here) k.acts turn.part k.acts (omega arith) in
      let d = taken alone m wave k.path turn.task turn.can (free k here) k.acts turn.part k.acts (omega arith) t.1 in
      let more = make (with_part k.path d.a alone) t.0 rest d.wave order.1 (λ j h. only j (there h)) (λ j h. part_other k.path d.a alone j.path (apart k j (order.0 j h)) ∙ free j (there h)) in
      (more.0, turn_first t.1 more.1)

  pub made : (turns : List Turn) → AreTurns P s turns → (n : State S) × IsWave P s turns n
  made turns are =
      let r = make (λ q. s) s turns (wave_begins S P s) are.ordered are.only (λ k h. refl) in
      (r.0, record { turns_are = are; acts = r.1 })

pub turns_stand : (S : Type 0) → TurnsStand S
turns_stand S P main cells z s n turns set_ run s_agrees wave = stands P main cells z set_ run s s_agrees turns n wave

pub wave_can_be_made : (S : Type 0) → WaveCanBeMade S
wave_can_be_made S P main cells z s turns set_ run s_agrees are = made P main cells z set_ run s s_agrees turns are
