-- The sequential run of a lively program comes to its end.
use Rattle.std.proofs.Common.{◌≡◌, ◌≢◌, ℕ, zero, suc, ◌+◌, ◌<◌, ◌≤◌, ◌⊎◌, inl, inr, refl, sym, subst, ap, ◌∙◌, List, [], ◌∷◌, arith, Bool, true, false}
use Rattle.oss_syntax.specs.declared.fault.FaultKind.{FaultKind}
use Rattle.oss_model.specs.declared.answer.Answer.{Answer}
use Rattle.oss_model.specs.declared.answer.Answer.TheVariants as answers
use Rattle.oss_model.specs.Order.{IsSuffix, whole, longer}
use Rattle.oss_model.specs.Context.{Context, right_of, child_context}
use Rattle.oss_model.specs.Rights.{Right}
use Rattle.oss_model.specs.Bodies.{Order, Program, Act, Frame, Stack, Start, frame_act, stack_act, child_frame, one_more_created, lent_when, after_creation, frame_after, including_frame, base_after, inner_after, stack_after, settled_frame, settled_parts, settled_stack, next_stack, start_frame, stack_from, act_of, stage_act, IsHalt}
use Rattle.oss_model.specs.Bodies.Act.{Ticked, Load, Store, Folded, Created, Awaited, Waited, WaitedOn, Releases, Printed, Ended, Fault, Over}
use Rattle.oss_model.specs.Machine.{Task, At}
use Rattle.oss_model.specs.Moves.{act_now, created_now, is_ended, found_by, after_answer, new_task}
use Rattle.oss_model.specs.Sequence.{Running, path_above, active_after, Sequential, opens, IsAtEnd}
use Rattle.oss_model.specs.Agreement.{Setting}
use Rattle.oss_model.specs.Answers.{IsResult, ends, fails}
use Rattle.oss_model.specs.Termination.{IsLively, RunEnds, RunHasResult}
use Rattle.oss_model.proofs.BodyLemmas.{settle_same}
use Rattle.oss_model.proofs.StageLemmas.{creating}
use Rattle.oss_model.proofs.TreeLemmas.{over_stops}
use Rattle.oss_model.proofs.MoveLemmas.{which_path}
use Rattle.oss_model.proofs.SequenceLemmas.{Turn, down, up, stay, turn, opening_main}
use Rattle.oss_model.proofs.WeightLemmas.{weight, settled_less, Costs, act_costs}
use Rattle.oss_model.proofs.RunLemmas.{child_depth, Leads, still, on, leads_trans, leads_run, Next, next, AboveSame, above_next}

-- the run goes on until the task that runs has ended, or to its end
pub data OwnDone {S : Type 0} (P : Program S) (z : Running S) : Type 0 where
  own_end : (x : Running S) → Leads P z x → IsAtEnd P x → OwnDone P z
  own_finished : (x : Running S) → Leads P z x → x.active ≡ path_above z.active → z.active ≢ [] → AboveSame z x → OwnDone P z

-- the run goes on until the included task on top has ended, or to its end
pub data IncludedDone {S : Type 0} (P : Program S) (z : Running S) (base : Frame S) (fs : List (Frame S)) : Type 0 where
  included_end : (x : Running S) → Leads P z x → IsAtEnd P x → IncludedDone P z base fs
  included_finished : (x : Running S) (u : Task S) → Leads P z x → x.active ≡ z.active → At x.state z.active u → stack_from P u.body.start u.body.found ≡ settled_parts P base fs false → AboveSame z x → IncludedDone P z base fs

-- what an act is for the frame on top
pub data Kind {S : Type 0} : Act S → Type 0 where
  halts : {a : Act S} → IsHalt a → Kind a
  last_act : Kind Ended
  creates : (o : Order S) (i : Bool) → Kind (Created o i)
  plain : {a : Act S} → (a ≢ Ended) → ((o : Order S) (i : Bool) → a ≢ Created o i) → (IsHalt a → ⊥) → ((v : ℕ) (base : Frame S) → base_after a v base ≡ record { base = frame_after a v base; inner = []; ended = false })
      → ((v : ℕ) (base f : Frame S) (fs : List (Frame S)) → inner_after a v base f fs ≡ record { base = base; inner = frame_after a v f ∷ fs; ended = false }) → Kind a

pub kind : {S : Type 0} (a : Act S) → Kind a
kind (Fault k l key) = halts tt
kind Over = halts tt
kind Ended = last_act
kind (Created o i) = creates o i
kind Ticked = plain (λ e. cc) (λ o i e. cc) (λ h. h) (λ v b. refl) (λ v b f fs. refl)
kind (Load c) = plain (λ e. cc) (λ o i e. cc) (λ h. h) (λ v b. refl) (λ v b f fs. refl)
kind (Store c w) = plain (λ e. cc) (λ o i e. cc) (λ h. h) (λ v b. refl) (λ v b f fs. refl)
kind (Folded c op w s) = plain (λ e. cc) (λ o i e. cc) (λ h. h) (λ v b. refl) (λ v b f fs. refl)
kind Awaited = plain (λ e. cc) (λ o i e. cc) (λ h. h) (λ v b. refl) (λ v b f fs. refl)
kind Waited = plain (λ e. cc) (λ o i e. cc) (λ h. h) (λ v b. refl) (λ v b f fs. refl)
kind (WaitedOn named) = plain (λ e. cc) (λ o i e. cc) (λ h. h) (λ v b. refl) (λ v b f fs. refl)
kind (Releases cl i) = plain (λ e. cc) (λ o i e. cc) (λ h. h) (λ v b. refl) (λ v b f fs. refl)
kind (Printed key text) = plain (λ e. cc) (λ o i e. cc) (λ h. h) (λ v b. refl) (λ v b f fs. refl)

pub act_at : {S : Type 0} (P : Program S) (b : Start S) (past : List ℕ) (base : Frame S) (inner : List (Frame S)) → stack_from P b past ≡ record { base = base; inner = inner; ended = false } → stage_act P b past ≡ stack_act P (right_of b.context) base inner false
unfolding stage_act act_of
act_at P b past base inner e = ap (λ (s : Stack _). stack_act P (right_of b.context) s.base s.inner s.ended) e

pub next_at : {S : Type 0} (P : Program S) (b : Start S) (past : List ℕ) (v : ℕ) (base : Frame S) (inner : List (Frame S)) → stack_from P b past ≡ record { base = base; inner = inner; ended = false } → stack_from P b (v ∷ past) ≡ settled_stack P (stack_after (stack_act P (right_of b.context) base inner false) v base inner)
unfolding stack_from
next_at P b past v base inner e = ap (λ (s : Stack _). next_stack P (right_of b.context) v s) e

pub start_at : {S : Type 0} (P : Program S) (b : Start S) → stack_from P b [] ≡ record { base = settled_frame P (start_frame P b); inner = []; ended = false }
unfolding stack_from
start_at P b = refl

lent_depth : (w : Bool) (given : ℕ → Right) (x : Context) → (lent_when w given x).depth ≡ x.depth
lent_depth true given x = refl
lent_depth false given x = refl

pub after_depth : {S : Type 0} (a : Act S) (v : ℕ) (f : Frame S) → (frame_after a v f).context.depth ≡ f.context.depth
after_depth (Created o i) v f = lent_depth o.when (right_of (child_context f.context o.clauses o.last)) (one_more_created f.context)
after_depth _ v f = refl

pub settled_depth : {S : Type 0} (P : Program S) (f : Frame S) → (settled_frame P f).context.depth ≡ f.context.depth
settled_depth P f = ap (λ (x : Context). x.depth) (settle_same P f).context

pub parts_ended : {S : Type 0} (P : Program S) (base : Frame S) (fs : List (Frame S)) → (settled_parts P base fs false).ended ≡ false
parts_ended P base [] = refl
parts_ended P base (f ∷ fs) = refl

pub not_halting : {S : Type 0} {a b : Act S} → a ≡ b → (IsHalt b → ⊥) → IsHalt a → ⊥
not_halting e g h = g (subst IsHalt e h)

-- the path of the task that runs after an act
pub active_stay : {S : Type 0} (P : Program S) (t : Task S) (p : List ℕ) (v : ℕ) → ((o : Order S) → act_now P t.body ≢ Created o false) → is_ended P (after_answer v t).body ≡ false → active_after P t p v (act_now P t.body) ≡ p
active_stay P t p v n e = go (active_after P t p v (act_now P t.body)) (turn P t p v)
  where
    go : (a : List ℕ) → Turn P t p v a → a ≡ p
    go a (down o k) = absurd (n o k)
    go a (up m k) = let x : true ≡ false = sym k ∙ e in cc
    go a (stay m k) = refl

pub active_up : {S : Type 0} (P : Program S) (t : Task S) (p : List ℕ) (v : ℕ) → ((o : Order S) → act_now P t.body ≢ Created o false) → is_ended P (after_answer v t).body ≡ true → active_after P t p v (act_now P t.body) ≡ path_above p
active_up P t p v n e = go (active_after P t p v (act_now P t.body)) (turn P t p v)
  where
    go : (a : List ℕ) → Turn P t p v a → a ≡ path_above p
    go a (down o k) = absurd (n o k)
    go a (up m k) = refl
    go a (stay m k) = let x : true ≡ false = sym e ∙ k in cc

pub active_down : {S : Type 0} (P : Program S) (t : Task S) (p : List ℕ) (v : ℕ) (o : Order S) → act_now P t.body ≡ Created o false → active_after P t p v (act_now P t.body) ≡ created_now P t.body ∷ p
active_down P t p v o e = go (active_after P t p v (act_now P t.body)) (turn P t p v)
  where
    go : (a : List ℕ) → Turn P t p v a → a ≡ created_now P t.body ∷ p
    go a (down o2 k) = refl
    go a (up m k) = absurd (m o e)
    go a (stay m k) = absurd (m o e)

above_trans : {S : Type 0} (x y z : Running S) → y.active ≡ x.active → AboveSame x y → AboveSame y z → AboveSame x z
above_trans x y z e a b q j u h k = b q j u (subst (λ (w : List ℕ). IsSuffix (j ∷ q) w) (sym e) h) (a q j u h k)

-- what comes of a later stage of the same task comes of the earlier
own_carry : {S : Type 0} (P : Program S) (z x : Running S) → Leads P z x → x.active ≡ z.active → AboveSame z x → OwnDone P x → OwnDone P z
own_carry P z x l e a (own_end y k h) = own_end y (leads_trans l k) h
own_carry P z x l e a (own_finished y k q ne b) = own_finished y (leads_trans l k) (q ∙ ap path_above e) (λ w. ne (e ∙ w)) (above_trans z x y e a b)

included_carry : {S : Type 0} (P : Program S) (z x : Running S) (base : Frame S) (fs : List (Frame S)) → Leads P z x → x.active ≡ z.active → AboveSame z x → IncludedDone P x base fs → IncludedDone P z base fs
included_carry P z x base fs l e a (included_end y k h) = included_end y (leads_trans l k) h
included_carry P z x base fs l e a (included_finished y u k q hu su b) =
    included_finished y u (leads_trans l k) (q ∙ e) (subst (λ (w : List ℕ). At y.state w u) e hu) su (above_trans z x y e a b)

module _ {S : Type 0} (P : Program S) (lively : IsLively P) where
  -- a task whose own frame acts comes to its end, and an included task on top does
  abbrev Own : ℕ → ℕ → Type 0
  Own n m = (z : Running S) (t : Task S) (base : Frame S) → At z.state z.active t → stack_from P t.body.start t.body.found ≡ record { base = base; inner = []; ended = false } → 64 ≤ base.context.depth + n → weight P lively base < m → OwnDone P z

  abbrev Included : ℕ → ℕ → Type 0
  Included n m = (z : Running S) (t : Task S) (base f : Frame S) (fs : List (Frame S)) → At z.state z.active t → stack_from P t.body.start t.body.found ≡ record { base = base; inner = f ∷ fs; ended = false } → 64 ≤ f.context.depth + n → weight P lively f < m → IncludedDone P z base fs

  record Both (n : ℕ) : Type 0 where
    own : (m : ℕ) → Own n m
    included : (m : ℕ) → Included n m

  abbrev Deeper : ℕ → Type 0
  Deeper zero = Unit {0}
  Deeper (suc n) = Both n

  child_own : (n : ℕ) → Deeper n → (d : ℕ) → d < 64 → 64 ≤ d + n → (z : Running S) (t : Task S) (base : Frame S) → At z.state z.active t → stack_from P t.body.start t.body.found ≡ record { base = base; inner = []; ended = false } → base.context.depth ≡ d + 1 → OwnDone P z
  child_own zero q d l k z t base at_ s e = absurd (omega arith)
  child_own (suc n) q d l k z t base at_ s e = q.own (suc (weight P lively base)) z t base at_ s (omega arith) (omega arith)

  child_included : (n : ℕ) → Deeper n → (d : ℕ) → d < 64 → 64 ≤ d + n → (z : Running S) (t : Task S) (base f : Frame S) (fs : List (Frame S)) → At z.state z.active t → stack_from P t.body.start t.body.found ≡ record { base = base; inner = f ∷ fs; ended = false } → f.context.depth ≡ d + 1 → IncludedDone P z base fs
  child_included zero q d l k z t base f fs at_ s e = absurd (omega arith)
  child_included (suc n) q d l k z t base f fs at_ s e = q.included (suc (weight P lively f)) z t base f fs at_ s (omega arith) (omega arith)

  own_turn : (n m : ℕ) → Deeper n → Own n m → Own n (suc m)
  own_turn n m deeper again z t base at_ s d l = go (frame_act P (right_of t.body.start.context) false base base.awaits) refl (kind (frame_act P (right_of t.body.start.context) false base base.awaits))
    where
      act_is : act_now P t.body ≡ frame_act P (right_of t.body.start.context) false base base.awaits
      act_is = act_at P t.body.start t.body.found base [] s

      after : (a : Act S) → frame_act P (right_of t.body.start.context) false base base.awaits ≡ a → stack_from P t.body.start (found_by (act_now P t.body) z.state.cells ∷ t.body.found) ≡ settled_stack P (base_after a (found_by (act_now P t.body) z.state.cells) base)
      after a e = next_at P t.body.start t.body.found (found_by (act_now P t.body) z.state.cells) base [] s ∙ ap (λ (x : Act S). settled_stack P (base_after x (found_by (act_now P t.body) z.state.cells) base)) e

      go : (a : Act S) → frame_act P (right_of t.body.start.context) false base base.awaits ≡ a → Kind a → OwnDone P z
      go a e (halts h) = own_end z still (record { task = t; at_ = at_; stops = subst IsHalt (sym (act_is ∙ e)) h })
      go a e last_act = ending (after Ended e)
        where
          goes : IsHalt (act_now P t.body) → ⊥
          goes = not_halting (act_is ∙ e) (λ h. h)

          nx : Next P z t
          nx = next P z t at_ goes

          ending : stack_from P t.body.start (found_by (act_now P t.body) z.state.cells ∷ t.body.found) ≡ settled_stack P (base_after Ended (found_by (act_now P t.body) z.state.cells) base) → OwnDone P z
          ending k = main_or (which_path z.active [])
            where
              over : is_ended P (after_answer (found_by (act_now P t.body) z.state.cells) t).body ≡ true
              over = ap (λ (x : Stack S). x.ended) k

              up_ : nx.stage.active ≡ path_above z.active
              up_ = nx.active ∙ active_up P t z.active (found_by (act_now P t.body) z.state.cells) (λ o h. let x : Ended ≡ Created o false = sym e ∙ (sym act_is ∙ h) in cc) over

              main_or : (z.active ≡ []) ⊎ (z.active ≢ []) → OwnDone P z
              main_or (inl m0) =
                  let y_at : nx.stage.active ≡ z.active = up_ ∙ (ap path_above m0 ∙ sym m0) in
                  own_end nx.stage (on still nx.runs) (record {
                    task = after_answer (found_by (act_now P t.body) z.state.cells) t;
                    at_ = subst (λ (w : List ℕ). At nx.stage.state w (after_answer (found_by (act_now P t.body) z.state.cells) t)) (sym y_at) nx.own;
                    stops = subst IsHalt (sym (over_stops P t.body.start (found_by (act_now P t.body) z.state.cells ∷ t.body.found) over)) tt;
                  })
              main_or (inr ne) = own_finished nx.stage (on still nx.runs) up_ ne (above_next P z nx.stage nx.runs)
      go a e (creates o true) = including (after (Created o true) e)
        where
          goes : IsHalt (act_now P t.body) → ⊥
          goes = not_halting (act_is ∙ e) (λ h. h)

          nx : Next P z t
          nx = next P z t at_ goes

          costs : Costs P lively base (Created o true)
          costs = act_costs P lively (right_of t.body.start.context) false base (Created o true) e (λ h. h)

          including : stack_from P t.body.start (found_by (act_now P t.body) z.state.cells ∷ t.body.found) ≡ settled_stack P (base_after (Created o true) (found_by (act_now P t.body) z.state.cells) base) → OwnDone P z
          including k =
              then_ (child_included n deeper base.context.depth (costs.depth o true refl) d nx.stage (after_answer (found_by (act_now P t.body) z.state.cells) t) (including_frame o base) (settled_frame P (child_frame base o)) [] here k (settled_depth P (child_frame base o)))
            where
              same : nx.stage.active ≡ z.active
              same = nx.active ∙ active_stay P t z.active (found_by (act_now P t.body) z.state.cells) (λ o2 h. let x : Created o true ≡ Created o2 false = sym e ∙ (sym act_is ∙ h) in cc) (ap (λ (x : Stack S). x.ended) k)

              here : At nx.stage.state nx.stage.active (after_answer (found_by (act_now P t.body) z.state.cells) t)
              here = subst (λ (w : List ℕ). At nx.stage.state w (after_answer (found_by (act_now P t.body) z.state.cells) t)) (sym same) nx.own

              then_ : IncludedDone P nx.stage (including_frame o base) [] → OwnDone P z
              then_ (included_end x j h) = own_end x (leads_trans (on still nx.runs) j) h
              then_ (included_finished x u j xa hu su ab) =
                  let b = settled_less P lively (including_frame o base) in
                  let c = costs.including o true refl in
                  let e2 = settled_depth P (including_frame o base) in
                  own_carry P z x (leads_trans (on still nx.runs) j) (xa ∙ same) (above_trans z nx.stage x same (above_next P z nx.stage nx.runs) ab)
                  (again x u (settled_frame P (including_frame o base)) (subst (λ (w : List ℕ). At x.state w u) (sym xa) hu) su (omega arith) (omega arith))
      go a e (creates o false) = creation (after (Created o false) e)
        where
          goes : IsHalt (act_now P t.body) → ⊥
          goes = not_halting (act_is ∙ e) (λ h. h)

          nx : Next P z t
          nx = next P z t at_ goes

          costs : Costs P lively base (Created o false)
          costs = act_costs P lively (right_of t.body.start.context) false base (Created o false) e (λ h. h)

          creation : stack_from P t.body.start (found_by (act_now P t.body) z.state.cells ∷ t.body.found) ≡ settled_stack P (base_after (Created o false) (found_by (act_now P t.body) z.state.cells) base) → OwnDone P z
          creation k = then_ (child_own n deeper base.context.depth (costs.depth o false refl) d nx.stage (new_task P t.body o) (settled_frame P (start_frame P (new_task P t.body o).body.start)) there (start_at P (new_task P t.body o).body.start) deep)
            where
              down_ : nx.stage.active ≡ created_now P t.body ∷ z.active
              down_ = nx.active ∙ active_down P t z.active (found_by (act_now P t.body) z.state.cells) o (act_is ∙ e)

              there : At nx.stage.state nx.stage.active (new_task P t.body o)
              there = subst (λ (w : List ℕ). At nx.stage.state w (new_task P t.body o)) (sym down_) (nx.made o (act_is ∙ e))

              deep : (settled_frame P (start_frame P (new_task P t.body o).body.start)).context.depth ≡ base.context.depth + 1
              deep = settled_depth P (start_frame P (new_task P t.body o).body.start) ∙ (child_depth (stack_from P t.body.start t.body.found).base o ∙ ap (λ (x : Stack S). x.base.context.depth + 1) s)

              then_ : OwnDone P nx.stage → OwnDone P z
              then_ (own_end x j h) = own_end x (leads_trans (on still nx.runs) j) h
              then_ (own_finished x j xa ne ab) =
                  let back : x.active ≡ z.active = xa ∙ ap path_above down_ in
                  let b = settled_less P lively (after_creation o base) in
                  let c = costs.less (found_by (act_now P t.body) z.state.cells) (λ h. cc) in
                  let e1 = after_depth (Created o false) (found_by (act_now P t.body) z.state.cells) base in
                  let e2 = settled_depth P (after_creation o base) in
                  own_carry P z x (leads_trans (on still nx.runs) j) back (below_trans x ab)
                  (again x (after_answer (found_by (act_now P t.body) z.state.cells) t) (settled_frame P (after_creation o base)) (subst (λ (w : List ℕ). At x.state w (after_answer (found_by (act_now P t.body) z.state.cells) t)) (sym back) (creator_at x ab)) k (omega arith) (omega arith))
                where
                  creator_at : (x : Running S) → AboveSame nx.stage x → At x.state z.active (after_answer (found_by (act_now P t.body) z.state.cells) t)
                  creator_at x ab = ab z.active (created_now P t.body) (after_answer (found_by (act_now P t.body) z.state.cells) t) (subst (λ (w : List ℕ). IsSuffix (created_now P t.body ∷ z.active) w) (sym down_) whole) nx.own

                  below_trans : (x : Running S) → AboveSame nx.stage x → AboveSame z x
                  below_trans x ab q j u h i = ab q j u (subst (λ (w : List ℕ). IsSuffix (j ∷ q) w) (sym down_) (longer h)) (above_next P z nx.stage nx.runs q j u h i)
      go a e (plain ne nc ng eb ei) = going (after a e)
        where
          goes : IsHalt (act_now P t.body) → ⊥
          goes = not_halting (act_is ∙ e) ng

          nx : Next P z t
          nx = next P z t at_ goes

          costs : Costs P lively base a
          costs = act_costs P lively (right_of t.body.start.context) false base a e ng

          going : stack_from P t.body.start (found_by (act_now P t.body) z.state.cells ∷ t.body.found) ≡ settled_stack P (base_after a (found_by (act_now P t.body) z.state.cells) base) → OwnDone P z
          going k =
              let b = settled_less P lively (frame_after a (found_by (act_now P t.body) z.state.cells) base) in
              let c = costs.less (found_by (act_now P t.body) z.state.cells) ne in
              let e1 = after_depth a (found_by (act_now P t.body) z.state.cells) base in
              let e2 = settled_depth P (frame_after a (found_by (act_now P t.body) z.state.cells) base) in
              own_carry P z nx.stage (on still nx.runs) same (above_next P z nx.stage nx.runs)
              (again nx.stage (after_answer (found_by (act_now P t.body) z.state.cells) t) (settled_frame P (frame_after a (found_by (act_now P t.body) z.state.cells) base)) here k2 (omega arith) (omega arith))
            where
              k2 : stack_from P t.body.start (found_by (act_now P t.body) z.state.cells ∷ t.body.found) ≡ record { base = settled_frame P (frame_after a (found_by (act_now P t.body) z.state.cells) base); inner = []; ended = false }
              k2 = k ∙ ap (λ (x : Stack S). settled_stack P x) (eb (found_by (act_now P t.body) z.state.cells) base)

              same : nx.stage.active ≡ z.active
              same = nx.active ∙ active_stay P t z.active (found_by (act_now P t.body) z.state.cells) (λ o h. nc o false (sym e ∙ (sym act_is ∙ h))) (ap (λ (x : Stack S). x.ended) k2)

              here : At nx.stage.state nx.stage.active (after_answer (found_by (act_now P t.body) z.state.cells) t)
              here = subst (λ (w : List ℕ). At nx.stage.state w (after_answer (found_by (act_now P t.body) z.state.cells) t)) (sym same) nx.own

  included_turn : (n m : ℕ) → Deeper n → Included n m → Included n (suc m)
  included_turn n m deeper again z t base f fs at_ s d l = go (frame_act P (right_of t.body.start.context) true f f.awaits) refl (kind (frame_act P (right_of t.body.start.context) true f f.awaits))
    where
      act_is : act_now P t.body ≡ frame_act P (right_of t.body.start.context) true f f.awaits
      act_is = act_at P t.body.start t.body.found base (f ∷ fs) s

      after : (a : Act S) → frame_act P (right_of t.body.start.context) true f f.awaits ≡ a → stack_from P t.body.start (found_by (act_now P t.body) z.state.cells ∷ t.body.found) ≡ settled_stack P (inner_after a (found_by (act_now P t.body) z.state.cells) base f fs)
      after a e = next_at P t.body.start t.body.found (found_by (act_now P t.body) z.state.cells) base (f ∷ fs) s ∙ ap (λ (x : Act S). settled_stack P (inner_after x (found_by (act_now P t.body) z.state.cells) base f fs)) e

      go : (a : Act S) → frame_act P (right_of t.body.start.context) true f f.awaits ≡ a → Kind a → IncludedDone P z base fs
      go a e (halts h) = included_end z still (record { task = t; at_ = at_; stops = subst IsHalt (sym (act_is ∙ e)) h })
      go a e last_act = ending (after Ended e)
        where
          goes : IsHalt (act_now P t.body) → ⊥
          goes = not_halting (act_is ∙ e) (λ h. h)

          nx : Next P z t
          nx = next P z t at_ goes

          ending : stack_from P t.body.start (found_by (act_now P t.body) z.state.cells ∷ t.body.found) ≡ settled_stack P (inner_after Ended (found_by (act_now P t.body) z.state.cells) base f fs) → IncludedDone P z base fs
          ending k =
              let same : nx.stage.active ≡ z.active = nx.active ∙ active_stay P t z.active (found_by (act_now P t.body) z.state.cells) (λ o h. let x : Ended ≡ Created o false = sym e ∙ (sym act_is ∙ h) in cc) (ap (λ (x : Stack S). x.ended) k ∙ parts_ended P base fs) in
              included_finished nx.stage (after_answer (found_by (act_now P t.body) z.state.cells) t) (on still nx.runs) same nx.own k (above_next P z nx.stage nx.runs)
      go a e (creates o false) = let c = (creating P t.body.start t.body.found o (act_is ∙ e)).alone in absurd (two_inner (ap (λ (x : Stack S). x.inner) (sym s) ∙ c))
        where
          two_inner : f ∷ fs ≡ [] → ⊥
          two_inner q = cc
      go a e (creates o true) = including (after (Created o true) e)
        where
          goes : IsHalt (act_now P t.body) → ⊥
          goes = not_halting (act_is ∙ e) (λ h. h)

          nx : Next P z t
          nx = next P z t at_ goes

          costs : Costs P lively f (Created o true)
          costs = act_costs P lively (right_of t.body.start.context) true f (Created o true) e (λ h. h)

          including : stack_from P t.body.start (found_by (act_now P t.body) z.state.cells ∷ t.body.found) ≡ settled_stack P (inner_after (Created o true) (found_by (act_now P t.body) z.state.cells) base f fs) → IncludedDone P z base fs
          including k =
              then_ (child_included n deeper f.context.depth (costs.depth o true refl) d nx.stage (after_answer (found_by (act_now P t.body) z.state.cells) t) base (settled_frame P (child_frame f o)) (including_frame o f ∷ fs) here k (settled_depth P (child_frame f o)))
            where
              same : nx.stage.active ≡ z.active
              same = nx.active ∙ active_stay P t z.active (found_by (act_now P t.body) z.state.cells) (λ o2 h. let x : Created o true ≡ Created o2 false = sym e ∙ (sym act_is ∙ h) in cc) (ap (λ (x : Stack S). x.ended) k)

              here : At nx.stage.state nx.stage.active (after_answer (found_by (act_now P t.body) z.state.cells) t)
              here = subst (λ (w : List ℕ). At nx.stage.state w (after_answer (found_by (act_now P t.body) z.state.cells) t)) (sym same) nx.own

              then_ : IncludedDone P nx.stage base (including_frame o f ∷ fs) → IncludedDone P z base fs
              then_ (included_end x j h) = included_end x (leads_trans (on still nx.runs) j) h
              then_ (included_finished x u j xa hu su ab) =
                  let b = settled_less P lively (including_frame o f) in
                  let c = costs.including o true refl in
                  let e2 = settled_depth P (including_frame o f) in
                  included_carry P z x base fs (leads_trans (on still nx.runs) j) (xa ∙ same) (above_trans z nx.stage x same (above_next P z nx.stage nx.runs) ab)
                  (again x u base (settled_frame P (including_frame o f)) fs (subst (λ (w : List ℕ). At x.state w u) (sym xa) hu) su (omega arith) (omega arith))
      go a e (plain ne nc ng eb ei) = going (after a e)
        where
          goes : IsHalt (act_now P t.body) → ⊥
          goes = not_halting (act_is ∙ e) ng

          nx : Next P z t
          nx = next P z t at_ goes

          costs : Costs P lively f a
          costs = act_costs P lively (right_of t.body.start.context) true f a e ng

          going : stack_from P t.body.start (found_by (act_now P t.body) z.state.cells ∷ t.body.found) ≡ settled_stack P (inner_after a (found_by (act_now P t.body) z.state.cells) base f fs) → IncludedDone P z base fs
          going k =
              let b = settled_less P lively (frame_after a (found_by (act_now P t.body) z.state.cells) f) in
              let c = costs.less (found_by (act_now P t.body) z.state.cells) ne in
              let e1 = after_depth a (found_by (act_now P t.body) z.state.cells) f in
              let e2 = settled_depth P (frame_after a (found_by (act_now P t.body) z.state.cells) f) in
              included_carry P z nx.stage base fs (on still nx.runs) same (above_next P z nx.stage nx.runs)
              (again nx.stage (after_answer (found_by (act_now P t.body) z.state.cells) t) base (settled_frame P (frame_after a (found_by (act_now P t.body) z.state.cells) f)) fs here k2 (omega arith) (omega arith))
            where
              k2 : stack_from P t.body.start (found_by (act_now P t.body) z.state.cells ∷ t.body.found) ≡ record { base = base; inner = settled_frame P (frame_after a (found_by (act_now P t.body) z.state.cells) f) ∷ fs; ended = false }
              k2 = k ∙ ap (λ (x : Stack S). settled_stack P x) (ei (found_by (act_now P t.body) z.state.cells) base f fs)

              same : nx.stage.active ≡ z.active
              same = nx.active ∙ active_stay P t z.active (found_by (act_now P t.body) z.state.cells) (λ o h. nc o false (sym e ∙ (sym act_is ∙ h))) (ap (λ (x : Stack S). x.ended) k2)

              here : At nx.stage.state nx.stage.active (after_answer (found_by (act_now P t.body) z.state.cells) t)
              here = subst (λ (w : List ℕ). At nx.stage.state w (after_answer (found_by (act_now P t.body) z.state.cells) t)) (sym same) nx.own

  own_loop : (n : ℕ) → Deeper n → (m : ℕ) → Own n m
  own_loop n q zero z t base at_ s d l = absurd (omega arith)
  own_loop n q (suc m) z t base at_ s d l = own_turn n m q (λ z2 t2 base2 a2 s2 d2 l2. own_loop n q m z2 t2 base2 a2 s2 d2 l2) z t base at_ s d l

  included_loop : (n : ℕ) → Deeper n → (m : ℕ) → Included n m
  included_loop n q zero z t base f fs at_ s d l = absurd (omega arith)
  included_loop n q (suc m) z t base f fs at_ s d l = included_turn n m q (λ z2 t2 base2 f2 fs2 a2 s2 d2 l2. included_loop n q m z2 t2 base2 f2 fs2 a2 s2 d2 l2) z t base f fs at_ s d l

  level : (n : ℕ) → Both n
  level zero = record { own = λ m z t base a s d l. own_loop zero tt m z t base a s d l; included = λ m z t base f fs a s d l. included_loop zero tt m z t base f fs a s d l }
  level (suc n) =
      let q = level n in
      record { own = λ m z t base a s d l. own_loop (suc n) q m z t base a s d l; included = λ m z t base f fs a s d l. included_loop (suc n) q m z t base f fs a s d l }

  -- main's own frame comes to its end
  pub main_ends : (main : Start S) (cells : List ℕ) → Setting main cells → (z : Running S) × Sequential P main cells z × IsAtEnd P z
  main_ends main cells set_ = go ((level 64).own (suc (weight P lively (settled_frame P (start_frame P main)))) first (record { body = record { start = main; found = [] }; given = [] }) (settled_frame P (start_frame P main)) (opening_main main cells set_.starts.path) (start_at P main) (omega arith) (omega arith))
    where
      first : Running S
      first = record { state = record { cells = cells; tasks = record { body = record { start = main; found = [] }; given = [] } ∷ [] }; active = []; printed = [] }

      go : OwnDone P first → (z : Running S) × Sequential P main cells z × IsAtEnd P z
      go (own_end x k h) = (x, leads_run P main cells opens k, h)
      go (own_finished x k e ne ab) = absurd (ne refl)

pub run_ends : (S : Type 0) → RunEnds S
run_ends S P main cells set_ lively = main_ends P lively main cells set_

halt_cases : {S : Type 0} (a : Act S) → IsHalt a → (a ≡ Over) ⊎ ((k : FaultKind) × (line : ℕ) × (key : List ℕ) × (a ≡ Fault k line key))
halt_cases (Fault k line key) h = inr (k, line, key, refl)
halt_cases Over h = inl refl
halt_cases _ h = absurd h

pub run_has_result : (S : Type 0) → RunHasResult S
run_has_result S P main cells set_ lively =
    let r = main_ends P lively main cells set_ in
    go r.0 r.1 r.2 (halt_cases (act_now P r.2.task.body) r.2.stops)
  where
    go : (z : Running S) → Sequential P main cells z → (end : IsAtEnd P z) → (act_now P end.task.body ≡ Over) ⊎ ((k : FaultKind) × (line : ℕ) × (key : List ℕ) × (act_now P end.task.body ≡ Fault k line key)) → (b : Answer) × IsResult P main cells b
    go z run end (inl o) = (answers.Done z.printed z.state.cells, ends run end o)
    go z run end (inr (k, line, key, a)) = (answers.Fault k line z.printed, fails run end a)
