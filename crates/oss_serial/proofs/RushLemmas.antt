-- A rush of the body that runs is made of turns.
use Rattle.std.proofs.Common.{◌≡◌, ◌≢◌, ℕ, ◌≤◌, refl, sym, subst, ap, List, [], ◌∷◌, arith, false}
use Rattle.oss_model.specs.Bodies.{Act, Body, Frame, IsHalt, Order, Program, Start, act_of, settled_stack, stack_after, stack_from, stage_act}
use Rattle.oss_model.specs.Bodies.Act.{Awaited, Created, Ended, Fault, Folded, Load, Over, Printed, Releases, Store, Ticked, Waited, WaitedOn}
use Rattle.oss_model.specs.Moves.{act_now, found_by, is_ended}
use Rattle.oss_model.specs.Potential.{potential}
use Rattle.oss_model.specs.Sequence.{direct_cells, printed_after}
use Rattle.oss_model.specs.Termination.{IsLively}
use Rattle.oss_code.specs.declared.code.CodeParts.{CodeParts}
use Rattle.oss_machine.specs.Frames.{CodeScript}
use Rattle.oss_machine.specs.Machines.{asks}
use Rattle.oss_machine.proofs.LiveTheorem.{lively}
use Rattle.oss_body.specs.declared.body.Body.{Body as Kept}
use Rattle.oss_body.specs.Rushed.{HasRushed, IsTouch, Passes}
use Rattle.oss_body.specs.Rushed.Passes.{begins, passes}
use Rattle.oss_body.proofs.LeftLemmas.{left_is}
use Rattle.oss_serial.specs.declared.stage.Stage.{Stage}
use Rattle.oss_serial.specs.Rushings.{IsFurther}
use Rattle.oss_serial.specs.Stages.{AreBodies, IsStage, bodies_left}
use Rattle.oss_serial.specs.Turns.{Stands, answered}
use Rattle.oss_serial.proofs.TurnLemmas.{goes_less, goes_on}

-- what a touch leaves alone: it does not halt, creates no task and prints nothing
record IsPlain {S : Type 0} (a : Act S) : Type 0 where
  alive : IsHalt a → ⊥
  alone : (o : Order S) → a ≢ Created o false
  silent : (output : List ℕ) → printed_after a output ≡ output

plain : {S : Type 0} (a : Act S) → IsTouch a → IsPlain a
plain Ticked t = record { alive = λ h. h; alone = λ o e. cc; silent = λ x. refl }
plain (Load c) t = record { alive = λ h. h; alone = λ o e. cc; silent = λ x. refl }
plain (Store c v) t = record { alive = λ h. h; alone = λ o e. cc; silent = λ x. refl }
plain (Folded c op v slot) t = absurd t
plain (Created o included) t = absurd t
plain Awaited t = absurd t
plain Waited t = absurd t
plain (WaitedOn named) t = absurd t
plain (Releases clauses included) t = absurd t
plain (Printed key text) t = absurd t
plain Ended t = absurd t
plain (Fault kind line key) t = absurd t
plain Over t = absurd t

module _ {S : Type 0} (P : Program S) where
  -- nor does it end a body
  not_ended : (a : Act S) (v : ℕ) (base : Frame S) (inner : List (Frame S)) → IsTouch a → (settled_stack P (stack_after a v base inner)).ended ≡ false
  not_ended Ticked v base [] t = refl
  not_ended Ticked v base (f ∷ fs) t = refl
  not_ended (Load c) v base [] t = refl
  not_ended (Load c) v base (f ∷ fs) t = refl
  not_ended (Store c x) v base [] t = refl
  not_ended (Store c x) v base (f ∷ fs) t = refl
  not_ended (Folded c op x slot) v base inner t = absurd t
  not_ended (Created o included) v base inner t = absurd t
  not_ended Awaited v base inner t = absurd t
  not_ended Waited v base inner t = absurd t
  not_ended (WaitedOn named) v base inner t = absurd t
  not_ended (Releases clauses included) v base inner t = absurd t
  not_ended (Printed key text) v base inner t = absurd t
  not_ended Ended v base inner t = absurd t
  not_ended (Fault kind line key) v base inner t = absurd t
  not_ended Over v base inner t = absurd t

  goes_alive : (b : Body S) (v : ℕ) → IsTouch (act_now P b) → is_ended P (answered v b) ≡ false
  unfolding stack_from stage_act act_of
  goes_alive b v t = not_ended (act_now P b) v (stack_from P b.start b.found).base (stack_from P b.start b.found).inner t

  module _ (main : Start S) (first : List ℕ) where
    stands_as : (b : Body S) (above : List (Body S)) (v w : ℕ) (cells after output text : List ℕ) (tasks : ℕ) → Stands P main first (answered w b) above cells text tasks → v ≡ w → after ≡ cells → text ≡ output
        → Stands P main first (answered v b) above after output tasks
    stands_as b above v w cells after output text tasks h e f g =
        subst (λ (x : List ℕ). Stands P main first (answered v b) above after x tasks) g
        (subst (λ (x : List ℕ). Stands P main first (answered v b) above x text tasks) (sym f) (subst (λ (x : ℕ). Stands P main first (answered x b) above cells text tasks) (sym e) h))

    -- the run comes to where the body has rushed
    passed_stands : (start : Start S) (above : List (Body S)) (output : List ℕ) (tasks : ℕ) {found before past after : List ℕ} → Passes P start found before past after
        → Stands P main first (record { start = start; found = found }) above before output tasks → Stands P main first (record { start = start; found = past }) above after output tasks
    passed_stands start above output tasks begins s = s
    passed_stands start above output tasks (passes {past = past} {now = now} {after = after} {v = v} r t e f) s =
        let b : Body S = record { start = start; found = past } in
        let k = passed_stands start above output tasks r s in
        let a = plain (act_now P b) t in
        let on = goes_on P main first b above now output tasks k a.alive a.alone (goes_alive b (found_by (act_now P b) now) t) in
        stands_as b above v (found_by (act_now P b) now) (direct_cells (act_now P b) now) after output (printed_after (act_now P b) output) tasks on.stands e f (a.silent output)

  -- and has less left to do
  passed_less : (lively : IsLively P) (start : Start S) {found before past after : List ℕ} → Passes P start found before past after
      → potential lively (record { start = start; found = past }) ≤ potential lively (record { start = start; found = found })
  passed_less lively start begins = omega arith
  passed_less lively start (passes {past = past} {v = v} r t e f) =
      let b : Body S = record { start = start; found = past } in
      let a = plain (act_now P b) t in
      let k = passed_less lively start r in
      let l = goes_less lively b v a.alive a.alone in
      omega (arith, k, l)

-- the stage of which this is what is kept
pub rushed_on : (code : CodeParts) (main : Start CodeScript) (first : List ℕ) (s n : Stage) (count : ℕ) (st : IsStage code main first s) → HasRushed code st.current.start st.current.found s.cells.items count n.current n.cells.items
    → n.above ≡ s.above → n.output ≡ s.output → n.tasks ≡ s.tasks → IsFurther code main first s n
rushed_on code main first s n count st r above output tasks =
    let x = left_is code (record { start = st.current.start; found = r.past }) n.current r.is in
    let y = left_is code st.current s.current st.is_current in
    let l : potential (lively code) (record { start = st.current.start; found = r.past }) ≤ potential (lively code) st.current = passed_less (asks code) (lively code) st.current.start r.passed in
    let z = ap (λ (ks : List Kept). bodies_left code ks) above in
    let stands = passed_stands (asks code) main first st.current.start st.above s.output.items s.tasks r.passed st.stands in
    record {
      stage = record {
        current = record { start = st.current.start; found = r.past };
        above = st.above;
        is_current = r.is;
        are_above = subst (λ (ks : List Kept). AreBodies code st.above ks) (sym above) st.are_above;
        stands = rw (output, tasks) stands;
      };
      less = omega (arith, x, y, l, z);
    }
