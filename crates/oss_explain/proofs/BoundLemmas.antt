-- How deep the task stands that acts in a run, and how many of its children can hinder a touch.
use Rattle.std.proofs.Common.{◌≡◌, ℕ, ◌+◌, ◌<◌, ◌≤◌, refl, sym, subst, ap, ◌∙◌, List, [], ◌∷◌, length, reverse, arith, Bool, false}
use Rattle.std.proofs.lemmas.List.{length-reverse}
use Rattle.oss_syntax.specs.declared.fault.FaultKind.{FaultKind}
use Rattle.oss_model.specs.Agreement.{MainStarts}
use Rattle.oss_model.specs.Bodies.{Act, Frame, Order, Program, Start}
use Rattle.oss_model.specs.Bodies.Act.{Created, Ended}
use Rattle.oss_model.specs.Context.{Context}
use Rattle.oss_model.specs.Machine.{At, State, Task}
use Rattle.oss_model.specs.Moves.{act_now}
use Rattle.oss_model.specs.Order.{IsIn, here, there, written}
use Rattle.oss_model.specs.Rights.{Touch}
use Rattle.oss_model.specs.Sequence.{Running, Sequential, opens, runs_on}
use Rattle.oss_model.proofs.SequenceLemmas.{opening_at, stands, stands_on}
use Rattle.oss_audit.specs.Auditing.{place_in}
use Rattle.oss_audit.specs.Trails.{Place, above, place_next}
use Rattle.oss_audit.proofs.ActingLemmas.{acting_next}
use Rattle.oss_audit.proofs.DepthLemmas.{acting_deep, acting_may}
use Rattle.oss_audit.proofs.PlaceLemmas.{place_first}
use Rattle.oss_code.specs.declared.code.CodeParts.{CodeParts}
use Rattle.oss_machine.specs.Frames.{CodeScript}
use Rattle.oss_machine.specs.Machines.{asks}
use Rattle.oss_body.specs.Acting.{acting}
use Rattle.oss_body.specs.Mains.{code_main}
use Rattle.oss_body.specs.declared.body.Body.{Body as Kept}
use Rattle.oss_serial.specs.Turns.{whole_task}
use Rattle.oss_explain.specs.declared.begun.Begun.{Begun}
use Rattle.oss_explain.specs.declared.begun.Child.{Child}
use Rattle.oss_explain.specs.declared.ledger.Ledger.{Ledger}
use Rattle.oss_explanation.specs.Lives.{IsHolder}
use Rattle.oss_explain.specs.Noting.{IsRight, RiseTo, StandsBefore, hindering}

-- Children

-- rising numbers that begin here, and how many they are
rise_length : (n : ℕ) (k : Child) (ks : List Child) → RiseTo n (k ∷ ks) → k.number + length (k ∷ ks) ≤ n
rise_length n k [] h = omega (arith, h)
rise_length n k (j ∷ more) h =
    let first = h.0 in
    let rest = rise_length n j more h.1 in
    omega (arith, first, rest)

few_below : (n : ℕ) (ks : List Child) → RiseTo n ks → length ks ≤ n
few_below n [] h = omega arith
few_below n (k ∷ ks) h = let l = rise_length n k ks h in omega (arith, l)

-- rising numbers, each of which is below another bound
rise_within : (n m : ℕ) (ks : List Child) → ((k : Child) → IsIn k ks → k.number < m) → RiseTo n ks → RiseTo m ks
rise_within n m [] below h = tt
rise_within n m (k ∷ []) below h = below k here
rise_within n m (k ∷ j ∷ more) below h = (h.0, rise_within n m (j ∷ more) (λ i w. below i (there w)) h.1)

module _ (P : Program CodeScript) (s : State CodeScript) where
  -- a creation is refused behind 65,535 of them
  holder_below : (q : List ℕ) (c : ℕ) (touch : Touch) (k line : ℕ) (x : Context) → IsHolder P s q c touch k line x → k < 65535
  holder_below q c touch k line x h = subst (λ (n : ℕ). n < 65535) (sym h.number) (acting_may P h.event.start h.event.past h.order false h.creates).few

  -- no more children hinder a touch than a task may create
  pub few_hinder : (q : List ℕ) (count : ℕ) (b : Begun) → IsRight P s q count b → (c : ℕ) (touch : Touch) → length (hindering c touch b.noted) ≤ 65535
  few_hinder q count b h c touch =
      let held = h.held c touch in
      few_below 65535 (hindering c touch b.noted)
      (rise_within count 65535 (hindering c touch b.noted) (λ k i. let g = held.only k i in holder_below q c touch k.number k.line g.context g.holder) (h.rise c touch))

-- The task that acts

longer_low : (n : ℕ) (q : List ℕ) → length q < 64 → length (n ∷ q) ≤ 64
longer_low n q h = omega (arith, h)

above_low : (q : List ℕ) (n : ℕ) → length q ≤ 64 → length (above q n).path ≤ 64
above_low [] n h = h
above_low (k ∷ q) n h = rest_low k q h
  where
    rest_low : (j : ℕ) (p : List ℕ) → length (j ∷ p) ≤ 64 → length p ≤ 64
    rest_low j p l = omega (arith, l)

-- an act leads to no place that is too deep
place_low : {S : Type 0} (a : Act S) (p : Place) → ((o : Order S) (i : Bool) → a ≡ Created o i → length p.path < 64) → length p.path ≤ 64 → length (place_next a p).path ≤ 64
place_low (Created o i) p may h = longer_low p.created p.path (may o i refl)
place_low Ended p may h = above_low p.path p.created h
place_low _ p may h = h

point_short : (p q : List ℕ) → p ≡ written q → length q ≤ 64 → length p < 66
point_short p q e h =
    let l : length p ≡ length (0 ∷ reverse q) = ap (λ (x : List ℕ). length x) e in
    let r : length (reverse q) ≡ length q = length-reverse q in
    omega (arith, h, l, r)

module _ {S : Type 0} (P : Program S) (main : Start S) (cells : List ℕ) (ms : MainStarts main) (deep : main.context.depth ≡ 0) where
  -- it stands at most 64 deep
  acts_low : (z : Running S) → Sequential P main cells z → (t : Task S) → At z.state z.active t → length (acting P t.body.start t.body.found).path ≤ 64
  acts_low z opens t h =
      let body = (opening_at main cells [] t ms.path h).1 in
      let place : place_in (acting P t.body.start t.body.found) ≡ record { path = []; created = 0 } =
      ap (λ (u : Task S). place_in (acting P u.body.start u.body.found)) body ∙ place_first P main ∙ (λ i. record { path = ms.path i; created = ms.created i }) in
      subst (λ (p : Place). length p.path ≤ 64) (sym place) (omega arith)
  acts_low z (runs_on {z = w} run step) t h =
      let st = stands P main cells ms w run in
      let f = acting P step.task.body.start step.task.body.found in
      let before = acts_low w run step.task step.at_ in
      let level = acting_deep P main ms deep w.state st.made w.active step.task step.at_ in
      subst (λ (p : Place). length p.path ≤ 64) (sym (acting_next P main ms w z st step (stands_on P main w z ms st step).made t h))
      (place_low (act_now P step.task.body) (place_in f)
      (λ o i e. subst (λ (n : ℕ). n < 64) level (acting_may P step.task.body.start step.task.body.found o i e).shallow) before)

module _ (code : CodeParts) (fuel : ℕ) (kept : Kept) (l : Ledger) (kind : FaultKind) (line : ℕ) (st : StandsBefore code fuel kept l kind line) where
  abbrev f : Frame CodeScript
  f = acting (asks code) st.body.start st.body.found

  -- What is right of a task that stands before a fault is bounded.
  pub record IsBounded : Type 0 where
    pub few : (c : ℕ) (touch : Touch) → length (hindering c touch l.top.noted) ≤ 65535
    pub short : length l.top.point < 66

  pub bounded_before : IsRight (asks code) st.stage.state f.path f.context.created l.top → IsBounded
  bounded_before right =
      record {
        few = few_hinder (asks code) st.stage.state f.path f.context.created l.top right;
        short = point_short l.top.point f.path right.point (acts_low (asks code) (code_main code fuel) code.first st.setting.starts refl st.stage st.run (whole_task st.body) st.at_);
      }
