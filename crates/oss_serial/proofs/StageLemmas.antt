-- What is kept of a stage stands for a stage of the run, and each turn of the code is one of the run.
use Rattle.std.proofs.Common.{◌≡◌, ◌≢◌, ℕ, ◌+◌, ◌<◌, refl, sym, subst, ap, ◌∙◌, List, [], ◌∷◌, ◌++◌, arith, Bool, true, false}
use Rattle.std.specs.Prelude.{slice_index}
use Rattle.oss_syntax.specs.declared.fault.FaultKind.{FaultKind}
use Rattle.oss_model.specs.Agreement.{Setting}
use Rattle.oss_model.specs.Bodies.{Act, Body, IsHalt, Order, Start, child_start, stack_from, stage_act}
use Rattle.oss_model.specs.Bodies.Act.{Created, Fault}
use Rattle.oss_model.specs.Moves.{act_now, found_by, is_ended, new_task}
use Rattle.oss_model.specs.Sequence.{direct_cells, printed_after}
use Rattle.oss_model.specs.declared.answer.Answer.TheVariants as answers
use Rattle.oss_model.specs.Sequence.{Running}
use Rattle.oss_meaning.specs.Results.{IsOutcome}
use Rattle.oss_code.specs.declared.code.CodeParts.{CodeParts}
use Rattle.oss_machine.specs.Asks.{meant_order}
use Rattle.oss_machine.specs.Frames.{CodeScript}
use Rattle.oss_machine.specs.Machines.{asks}
use Rattle.oss_machine.proofs.LiveTheorem.{lively}
use Rattle.oss_body.specs.declared.act.Act.{Act as CodeAct}
use Rattle.oss_body.specs.declared.act.Act.TheVariants as acts
use Rattle.oss_body.specs.declared.body.Body.{Body as Kept}
use Rattle.oss_body.specs.Acts.{act_seen, answer_to, creates, goes_on}
use Rattle.oss_body.specs.Left.{body_left}
use Rattle.oss_body.specs.Relation.{IsBody, is_over}
use Rattle.oss_body.proofs.LeftLemmas.{left_is}
use Rattle.oss_serial.specs.declared.stage.Stage.{Stage}
use Rattle.oss_serial.specs.declared.stage.Turned.{Turned}
use Rattle.oss_serial.specs.declared.stage.Turned.TheVariants as turned
use Rattle.oss_serial.specs.declared.turn.Turn.TheVariants as turns
use Rattle.oss_serial.specs.Stages.{AreBodies, IsFirstStage, IsNext, IsStage, IsTurned, IsUp, StandsBeforeFault, bodies_left, left_at, turn_of}
use Rattle.oss_body.specs.Mains.{code_main}
use Rattle.oss_serial.specs.Turns.{Begins, Ends, Goes, answered}
use Rattle.oss_serial.proofs.TurnLemmas.{begins, creates_less, ends_all, goes_down, goes_less, goes_on as runs_on, goes_up, more_tasks, stops}

-- What a turn of the code tells of the act

-- the act goes on with this answer
pub record GoesOn (a : CodeAct) (cells : List ℕ) (v : ℕ) : Type 0 where
  pub found : found_by (act_seen a) cells ≡ v
  pub answer : answer_to (act_seen a) v ≡ v
  pub alive : IsHalt (act_seen a) → ⊥
  pub alone : (o : Order CodeScript) → act_seen a ≢ Created o false
  pub tested : goes_on a ≡ true

goes_same : (v w : ℕ) → turns.Goes v ≡ turns.Goes w → v ≡ w
goes_same v w e = cc

with_zero : (a : CodeAct) (cells : List ℕ) (v : ℕ) → v ≡ 0 → found_by (act_seen a) cells ≡ 0 → answer_to (act_seen a) 0 ≡ 0 → (IsHalt (act_seen a) → ⊥) → ((o : Order CodeScript) → act_seen a ≢ Created o false) → goes_on a ≡ true → GoesOn a cells v
with_zero a cells v e f g h k l = subst (λ (z : ℕ). GoesOn a cells z) (sym e) (record { found = f; answer = g; alive = h; alone = k; tested = l })

pub shown_goes : (a : CodeAct) (cells : List ℕ) (v : ℕ) → turns.Goes v ≡ turn_of a cells → GoesOn a cells v
shown_goes (acts.Load c) cells v e = record { found = sym (goes_same v (slice_index cells c) e); answer = refl; alive = λ i. i; alone = λ o k. cc; tested = refl }
shown_goes (acts.Create creation true) cells v e = with_zero (acts.Create creation true) cells v (goes_same v 0 e) refl refl (λ i. i) (λ o k. cc) refl
shown_goes (acts.Create creation false) cells v e = absurd cc
shown_goes (acts.Fault kind line key) cells v e = absurd cc
shown_goes acts.Tick cells v e = with_zero acts.Tick cells v (goes_same v 0 e) refl refl (λ i. i) (λ o k. cc) refl
shown_goes (acts.Store c w) cells v e = with_zero (acts.Store c w) cells v (goes_same v 0 e) refl refl (λ i. i) (λ o k. cc) refl
shown_goes (acts.Fold c op w slot) cells v e = with_zero (acts.Fold c op w slot) cells v (goes_same v 0 e) refl refl (λ i. i) (λ o k. cc) refl
shown_goes acts.Await cells v e = with_zero acts.Await cells v (goes_same v 0 e) refl refl (λ i. i) (λ o k. cc) refl
shown_goes acts.Wait cells v e = with_zero acts.Wait cells v (goes_same v 0 e) refl refl (λ i. i) (λ o k. cc) refl
shown_goes (acts.WaitOn ranges) cells v e = with_zero (acts.WaitOn ranges) cells v (goes_same v 0 e) refl refl (λ i. i) (λ o k. cc) refl
shown_goes (acts.Release clauses included) cells v e = with_zero (acts.Release clauses included) cells v (goes_same v 0 e) refl refl (λ i. i) (λ o k. cc) refl
shown_goes (acts.Print key text) cells v e = with_zero (acts.Print key text) cells v (goes_same v 0 e) refl refl (λ i. i) (λ o k. cc) refl
shown_goes acts.End cells v e = with_zero acts.End cells v (goes_same v 0 e) refl refl (λ i. i) (λ o k. cc) refl

-- the act is the creation of a task that is not included
pub record Creates (a : CodeAct) (cells : List ℕ) : Type 0 where
  pub order : Order CodeScript
  pub is : act_seen a ≡ Created order false
  pub tested : goes_on a ≡ true
  pub created : creates a ≡ true

pub shown_creates : (a : CodeAct) (cells : List ℕ) → turns.Creates ≡ turn_of a cells → Creates a cells
shown_creates (acts.Create creation false) cells e = record { order = meant_order creation.order; is = refl; tested = refl; created = refl }
shown_creates (acts.Create creation true) cells e = absurd cc
shown_creates (acts.Load c) cells e = absurd cc
shown_creates (acts.Fault kind line key) cells e = absurd cc
shown_creates acts.Tick cells e = absurd cc
shown_creates (acts.Store c w) cells e = absurd cc
shown_creates (acts.Fold c op w slot) cells e = absurd cc
shown_creates acts.Await cells e = absurd cc
shown_creates acts.Wait cells e = absurd cc
shown_creates (acts.WaitOn ranges) cells e = absurd cc
shown_creates (acts.Release clauses included) cells e = absurd cc
shown_creates (acts.Print key text) cells e = absurd cc
shown_creates acts.End cells e = absurd cc

stops_same : (k m : FaultKind) (l n : ℕ) → turns.Stops k l ≡ turns.Stops m n → (k ≡ m) × (l ≡ n)
stops_same k m l n e = (cc, cc)

pub shown_stops : (a : CodeAct) (cells : List ℕ) (k : FaultKind) (l : ℕ) → turns.Stops k l ≡ turn_of a cells → (key : List ℕ) × (act_seen a ≡ Fault k l key)
shown_stops (acts.Fault kind line key) cells k l e = let s = stops_same k kind l line e in (Rattle.oss_body.specs.Places.unwritten key, rw (s.0, s.1) refl)
shown_stops (acts.Create creation false) cells k l e = absurd cc
shown_stops (acts.Create creation true) cells k l e = absurd cc
shown_stops (acts.Load c) cells k l e = absurd cc
shown_stops acts.Tick cells k l e = absurd cc
shown_stops (acts.Store c w) cells k l e = absurd cc
shown_stops (acts.Fold c op w slot) cells k l e = absurd cc
shown_stops acts.Await cells k l e = absurd cc
shown_stops acts.Wait cells k l e = absurd cc
shown_stops (acts.WaitOn ranges) cells k l e = absurd cc
shown_stops (acts.Release clauses included) cells k l e = absurd cc
shown_stops (acts.Print key text) cells k l e = absurd cc
shown_stops acts.End cells k l e = absurd cc

-- a fault prints nothing
fault_output : (a : Act CodeScript) (k : FaultKind) (l : ℕ) (key output : List ℕ) → a ≡ Fault k l key → printed_after a output ≡ output
fault_output a k l key output e = rw e refl

-- Bodies that wait

pub bodies_pushed : (code : CodeParts) (bs : List (Body CodeScript)) (ks : List Kept) (b : Body CodeScript) (k : Kept) → AreBodies code bs ks → IsBody code b.start b.found k → AreBodies code (bs ++ b ∷ []) (ks ++ k ∷ [])
bodies_pushed code [] [] b k h i = (i, tt)
bodies_pushed code (x ∷ bs) (y ∷ ks) b k h i = (h.0, bodies_pushed code bs ks b k h.1 i)
bodies_pushed code [] (y ∷ ks) b k h i = absurd h
bodies_pushed code (x ∷ bs) [] b k h i = absurd h

pub bodies_none : (code : CodeParts) (bs : List (Body CodeScript)) → AreBodies code bs [] → bs ≡ []
bodies_none code [] h = refl
bodies_none code (b ∷ bs) h = absurd h

-- the last of them
pub record LastBody (code : CodeParts) (bs : List (Body CodeScript)) (ks : List Kept) (k : Kept) : Type 0 where
  pub older : List (Body CodeScript)
  pub last : Body CodeScript
  pub parts : bs ≡ older ++ last ∷ []
  pub are_older : AreBodies code older ks
  pub is_last : IsBody code last.start last.found k

pub bodies_popped : (code : CodeParts) (bs : List (Body CodeScript)) (ks : List Kept) (k : Kept) → AreBodies code bs (ks ++ k ∷ []) → LastBody code bs ks k
bodies_popped code [] [] k h = absurd h
bodies_popped code [] (y ∷ ks) k h = absurd h
bodies_popped code (b ∷ bs) [] k h = let e = bodies_none code bs h.1 in record { older = []; last = b; parts = ap (λ (z : List (Body CodeScript)). b ∷ z) e; are_older = tt; is_last = h.0 }
bodies_popped code (b ∷ bs) (y ∷ ks) k h =
    let r = bodies_popped code bs ks k h.1 in
    record { older = b ∷ r.older; last = r.last; parts = ap (λ (z : List (Body CodeScript)). b ∷ z) r.parts; are_older = (h.0, r.are_older); is_last = r.is_last }

-- What is left to do

bodies_left_last : (code : CodeParts) (ks : List Kept) (k : Kept) → bodies_left code (ks ++ k ∷ []) ≡ body_left code k + bodies_left code ks
bodies_left_last code [] k = omega arith
bodies_left_last code (x ∷ ks) k = let r = bodies_left_last code ks k in omega (arith, r)

-- Turns

module _ (code : CodeParts) (main : Start CodeScript) (first : List ℕ) where
  -- the next stage of the run, with what is equal to its parts
  same_stage : (z : Running CodeScript) (b : Body CodeScript) (above : List (Body CodeScript)) (a : Act CodeScript) (v w : ℕ) (cells output more text : List ℕ) (tasks count : ℕ)
      → Goes (asks code) main first z (answered w b) above (direct_cells a cells) (printed_after a output) tasks → v ≡ w → more ≡ direct_cells a cells → text ≡ printed_after a output → count ≡ tasks
      → Goes (asks code) main first z (answered v b) above more text count
  same_stage z b above a v w cells output more text tasks count h e f g k = rw (e, f, g, k) h

  module _ (s n : Stage) (a : CodeAct) (st : IsStage code main first s) (seen : act_seen a ≡ act_now (asks code) st.current)
      (cells_are : n.cells.items ≡ direct_cells (act_seen a) s.cells.items) (output_is : n.output.items ≡ printed_after (act_seen a) s.output.items) where
    now : Act CodeScript
    now = act_now (asks code) st.current

    cells_now : n.cells.items ≡ direct_cells (act_now (asks code) st.current) s.cells.items
    cells_now = cells_are ∙ ap (λ (x : Act CodeScript). direct_cells x s.cells.items) seen

    output_now : n.output.items ≡ printed_after (act_now (asks code) st.current) s.output.items
    output_now = output_is ∙ ap (λ (x : Act CodeScript). printed_after x s.output.items) seen

    module _ (v : ℕ) (after : Kept) (told : turns.Goes v ≡ turn_of a s.cells.items) (is_after : IsBody code st.current.start (answer_to (act_seen a) v ∷ st.current.found) after) where
      g : GoesOn a s.cells.items v
      g = shown_goes a s.cells.items v told

      alive_now : IsHalt (act_now (asks code) st.current) → ⊥
      alive_now h = (shown_goes a s.cells.items v told).alive (subst IsHalt (sym seen) h)

      alone_now : (o : Order CodeScript) → act_now (asks code) st.current ≢ Created o false
      alone_now o e = (shown_goes a s.cells.items v told).alone o (seen ∙ e)

      found_now : v ≡ found_by (act_now (asks code) st.current) s.cells.items
      found_now = sym (shown_goes a s.cells.items v told).found ∙ ap (λ (x : Act CodeScript). found_by x s.cells.items) seen

      is_next : IsBody code st.current.start (v ∷ st.current.found) after
      is_next = subst (λ (w : ℕ). IsBody code st.current.start (w ∷ st.current.found) after) (shown_goes a s.cells.items v told).answer is_after

      ended_now : (b : Bool) → is_over after ≡ b → is_ended (asks code) (answered (found_by (act_now (asks code) st.current) s.cells.items) st.current) ≡ b
      ended_now b e = ap (λ (w : ℕ). is_ended (asks code) (answered w st.current)) (sym found_now) ∙ sym is_next.ended ∙ e

      falls : body_left code after < body_left code s.current
      falls =
          let l = goes_less (lively code) st.current v alive_now alone_now in
          let x = left_is code (answered v st.current) after is_next in
          let y = left_is code st.current s.current st.is_current in
          omega (arith, l, x, y)

      pub turn_on : n.current ≡ after → n.above ≡ s.above → n.tasks ≡ s.tasks → is_over after ≡ false → IsNext code main first s st n
      turn_on c e t alive =
          let went = same_stage st.stands.stage st.current st.above (act_now (asks code) st.current) v (found_by (act_now (asks code) st.current) s.cells.items) s.cells.items s.output.items n.cells.items n.output.items s.tasks n.tasks
          (runs_on (asks code) main first st.current st.above s.cells.items s.output.items s.tasks st.stands alive_now alone_now (ended_now false alive)) found_now cells_now output_now t in
          record {
            stage = record {
              current = answered v st.current;
              above = st.above;
              is_current = subst (λ (k : Kept). IsBody code st.current.start (v ∷ st.current.found) k) (sym c) is_next;
              are_above = subst (λ (ks : List Kept). AreBodies code st.above ks) (sym e) st.are_above;
              stands = went.stands;
            };
            runs = went.runs;
            less = less;
          }
        where
          less : left_at code n < left_at code s
          less = let l = falls in let x = ap (λ (k : Kept). body_left code k) c in let y = ap (λ (ks : List Kept). bodies_left code ks) e in omega (arith, l, x, y)

      pub turn_up : s.above ≡ n.above ++ n.current ∷ [] → n.tasks ≡ s.tasks → is_over after ≡ true → IsNext code main first s st n
      turn_up e t over = go (bodies_popped code st.above n.above n.current (subst (λ (ks : List Kept). AreBodies code st.above ks) e st.are_above))
        where
          less : left_at code n < left_at code s
          less =
              let l = falls in
              let x = ap (λ (ks : List Kept). bodies_left code ks) e in
              let y = bodies_left_last code n.above n.current in
              omega (arith, l, x, y)

          go : LastBody code st.above n.above n.current → IsNext code main first s st n
          go r =
              let up : Goes (asks code) main first st.stands.stage r.last r.older n.cells.items n.output.items n.tasks =
              rw (cells_now, output_now, t) (goes_up (asks code) main first st.current st.above s.cells.items s.output.items s.tasks st.stands alive_now r.last r.older alone_now (ended_now true over) r.parts) in
              record {
                stage = record { current = r.last; above = r.older; is_current = r.is_last; are_above = r.are_older; stands = up.stands };
                runs = up.runs;
                less = less;
              }

      pub turn_ends : s.above ≡ [] → n.tasks ≡ s.tasks → is_over after ≡ true → Ends (asks code) main first st.stands.stage n.cells.items n.output.items n.tasks
      turn_ends e t over =
          let none = bodies_none code st.above (subst (λ (ks : List Kept). AreBodies code st.above ks) e st.are_above) in
          rw (cells_now, output_now, t) (ends_all (asks code) main first st.current st.above s.cells.items s.output.items s.tasks st.stands alive_now alone_now (ended_now true over) none)

    module _ (setting : Setting main first) (told : turns.Creates ≡ turn_of a s.cells.items) (after : Kept) where
      pub order_of : Order CodeScript
      order_of = (shown_creates a s.cells.items told).order

      created_now_is : act_now (asks code) st.current ≡ Created (shown_creates a s.cells.items told).order false
      created_now_is = sym seen ∙ (shown_creates a s.cells.items told).is

      no_halt : IsHalt (act_now (asks code) st.current) → ⊥
      no_halt h = subst IsHalt created_now_is h

      found_zero : (x : Act CodeScript) (o : Order CodeScript) → x ≡ Created o false → found_by x s.cells.items ≡ 0
      found_zero x o e = rw e refl

      answer_zero : (x : Act CodeScript) (o : Order CodeScript) → x ≡ Created o false → answer_to x 0 ≡ 0
      answer_zero x o e = rw e refl

      pub turn_down : IsBody code st.current.start (answer_to (act_seen a) 0 ∷ st.current.found) after
          → ((o : Order CodeScript) → stage_act (asks code) st.current.start st.current.found ≡ Created o false → IsBody code (child_start (stack_from (asks code) st.current.start st.current.found).base o) [] n.current)
          → n.above ≡ s.above ++ after ∷ [] → n.tasks ≡ more_tasks s.tasks → IsNext code main first s st n
      turn_down is_after is_child e t =
          let went : Goes (asks code) main first st.stands.stage (new_task (asks code) st.current o).body (st.above ++ answered 0 st.current ∷ []) n.cells.items n.output.items n.tasks = rw (cells_now, output_now, t) down in
          record {
            stage = record {
              current = (new_task (asks code) st.current o).body;
              above = st.above ++ answered 0 st.current ∷ [];
              is_current = child;
              are_above = subst (λ (ks : List Kept). AreBodies code (st.above ++ answered 0 st.current ∷ []) ks) (sym e) (bodies_pushed code st.above s.above (answered 0 st.current) after st.are_above next);
              stands = went.stands;
            };
            runs = went.runs;
            less = less;
          }
        where
          o : Order CodeScript
          o = (shown_creates a s.cells.items told).order

          child : IsBody code (child_start (stack_from (asks code) st.current.start st.current.found).base (shown_creates a s.cells.items told).order) [] n.current
          child = is_child (shown_creates a s.cells.items told).order created_now_is

          next : IsBody code st.current.start (0 ∷ st.current.found) after
          next = subst (λ (w : ℕ). IsBody code st.current.start (w ∷ st.current.found) after) (answer_zero (act_seen a) (shown_creates a s.cells.items told).order (shown_creates a s.cells.items told).is) is_after

          down : Goes (asks code) main first st.stands.stage (new_task (asks code) st.current (shown_creates a s.cells.items told).order).body (st.above ++ answered 0 st.current ∷ []) (direct_cells (act_now (asks code) st.current) s.cells.items) (printed_after (act_now (asks code) st.current) s.output.items) (more_tasks s.tasks)
          down =
              subst (λ (w : ℕ). Goes (asks code) main first st.stands.stage (new_task (asks code) st.current (shown_creates a s.cells.items told).order).body (st.above ++ answered w st.current ∷ []) (direct_cells (act_now (asks code) st.current) s.cells.items) (printed_after (act_now (asks code) st.current) s.output.items) (more_tasks s.tasks))
              (found_zero (act_now (asks code) st.current) (shown_creates a s.cells.items told).order created_now_is)
              (goes_down (asks code) main first st.current st.above s.cells.items s.output.items s.tasks st.stands no_halt setting (shown_creates a s.cells.items told).order created_now_is)

          less : left_at code n < left_at code s
          less =
              let l = creates_less (lively code) st.current 0 (shown_creates a s.cells.items told).order created_now_is in
              let x = left_is code (answered 0 st.current) after next in
              let y = left_is code st.current s.current st.is_current in
              let z = left_is code (new_task (asks code) st.current (shown_creates a s.cells.items told).order).body n.current child in
              let u = ap (λ (ks : List Kept). bodies_left code ks) e in
              let w = bodies_left_last code s.above after in
              omega (arith, l, x, y, z, u, w)

    pub turn_stops : (k : FaultKind) (l : ℕ) → turns.Stops k l ≡ turn_of a s.cells.items → n.tasks ≡ s.tasks → n.current ≡ s.current
        → ((entries : ℕ) × IsOutcome (asks code) main first (record { answer = answers.Fault k l n.output.items; tasks = n.tasks; entries = entries })) × ((n.current ≡ s.current) × StandsBeforeFault code main first s st k l)
    turn_stops k l told t same =
        let f = shown_stops a s.cells.items k l told in
        let r = stops (asks code) main first st.current st.above s.cells.items s.output.items s.tasks k l f.0 st.stands (sym seen ∙ f.1) in
        let e : n.output.items ≡ s.output.items = output_is ∙ fault_output (act_seen a) k l f.0 s.output.items f.1 in
        ((r.0, rw (e, t) r.1), (same, record { key = f.0; fault = sym seen ∙ f.1 }))

-- the body that runs has not ended
pub runs_still : (code : CodeParts) (main : Start CodeScript) (first : List ℕ) (s : Stage) → IsStage code main first s → is_over s.current ≡ false
runs_still code main first s st = st.is_current.ended ∙ st.stands.alive

-- the end of a body goes up to its creator, or ends the run
pub gone_up : (code : CodeParts) (main : Start CodeScript) (first : List ℕ) (s old n : Stage) (a : CodeAct) (st : IsStage code main first s) → act_seen a ≡ act_now (asks code) st.current
    → (t : Turned) → old.cells.items ≡ direct_cells (act_seen a) s.cells.items → old.output.items ≡ printed_after (act_seen a) s.output.items → (v : ℕ) (after : Kept) → turns.Goes v ≡ turn_of a s.cells.items
    → IsBody code st.current.start (answer_to (act_seen a) v ∷ st.current.found) after → old.above ≡ s.above → old.tasks ≡ s.tasks → is_over after ≡ true → IsUp old n t → IsTurned code main first s st n t
gone_up code main first s old n a st seen turned.On cells output v after told is_after above tasks over (b, e) =
    turn_up code main first s n a st seen (b.cells ∙ cells) (b.output ∙ output) v after told is_after (sym above ∙ e) (b.tasks ∙ tasks) over
gone_up code main first s old n a st seen turned.Ended cells output v after told is_after above tasks over (b, e) =
    turn_ends code main first s n a st seen (b.cells ∙ cells) (b.output ∙ output) v after told is_after (sym above ∙ e) (b.tasks ∙ tasks) over
gone_up code main first s old n a st seen (turned.Failed kind line) cells output v after told is_after above tasks over up = absurd up

-- what is told of a body that has gone on behind the act that it kept
pub shown_after : (code : CodeParts) (b : Body CodeScript) (a kept_act : CodeAct) (v : ℕ) (after : Kept) → a ≡ kept_act → IsBody code b.start (answer_to (act_seen kept_act) v ∷ b.found) after → IsBody code b.start (answer_to (act_seen a) v ∷ b.found) after
shown_after code b a kept_act v after e h = subst (λ (x : CodeAct). IsBody code b.start (answer_to (act_seen x) v ∷ b.found) after) (sym e) h

-- the run at its beginning
pub begun : (code : CodeParts) (fuel : ℕ) (s : Stage) → IsBody code (code_main code fuel) [] s.current → s.above ≡ [] → s.cells.items ≡ code.first → s.output.items ≡ [] → s.tasks ≡ 1 → Setting (code_main code fuel) code.first
    → IsFirstStage code (code_main code fuel) code.first s
begun code fuel s is above cells output tasks setting =
    let at_first : Begins (asks code) (code_main code fuel) code.first (record { start = code_main code fuel; found = [] }) [] s.cells.items s.output.items s.tasks =
    rw (cells, output, tasks) (begins (asks code) (code_main code fuel) code.first setting) in
    record {
      stage = record {
        current = record { start = code_main code fuel; found = [] };
        above = [];
        is_current = is;
        are_above = subst (λ (ks : List Kept). AreBodies code [] ks) (sym above) tt;
        stands = at_first.stands;
      };
      opens = at_first.opens;
    }
