-- Which task acts, from stage to stage of the sequential run.
use Rattle.std.proofs.Common.{◌≡◌, ℕ, ◌+◌, refl, sym, subst, ap, ◌∙◌, List, [], ◌∷◌, true, false}
use Rattle.oss_model.specs.Context.{right_of}
use Rattle.oss_model.specs.Bodies.{Order, Program, Act, Frame, Start, top_frame, base_after, inner_after, stack_after, stack_act, stack_from, stage_act, stage_created, act_of, child_start}
use Rattle.oss_model.specs.Bodies.Act.{Created, Awaited, Waited, WaitedOn, Over, Ticked, Load, Store, Folded, Releases, Printed, Ended, Fault}
use Rattle.oss_model.specs.Machine.{Task, At}
use Rattle.oss_model.specs.Moves.{act_now, created_now, is_ended, after_answer, new_task, found_by}
use Rattle.oss_model.specs.History.{IsMade}
use Rattle.oss_model.specs.Agreement.{MainStarts}
use Rattle.oss_model.specs.Order.{IsSuffix, whole}
use Rattle.oss_model.specs.Sequence.{Running, RunsOn, path_above}
use Rattle.oss_model.proofs.BodyLemmas.{stack_ok}
use Rattle.oss_model.proofs.RunLemmas.{above_next}
use Rattle.oss_model.proofs.StageLemmas.{no_inner_of_open, creating}
use Rattle.oss_model.proofs.TreeLemmas.{at_same, path_found}
use Rattle.oss_model.proofs.SequenceLemmas.{Stands, Turn, down, up, stay, turn}
use Rattle.oss_audit.specs.Auditing.{place_in}
use Rattle.oss_body.specs.Acting.{acting}
use Rattle.oss_audit.specs.Trails.{Place, above, place_next}
use Rattle.oss_audit.proofs.PlaceLemmas.{place_within, place_first, place_last, settled_end}

-- a body ends by the end of its own task
ends_base : {S : Type 0} (a : Act S) (v : ℕ) (base : Frame S) → (base_after a v base).ended ≡ true → a ≡ Ended
ends_base Ended v base e = refl
ends_base (Created o true) v base e = cc
ends_base (Created o false) v base e = cc
ends_base Ticked v base e = cc
ends_base (Load c) v base e = cc
ends_base (Store c w) v base e = cc
ends_base (Folded c op w b) v base e = cc
ends_base Awaited v base e = cc
ends_base Waited v base e = cc
ends_base (WaitedOn named) v base e = cc
ends_base (Releases clauses b) v base e = cc
ends_base (Printed key text) v base e = cc
ends_base (Fault kind line key) v base e = cc
ends_base Over v base e = cc

ends_inner : {S : Type 0} (a : Act S) (v : ℕ) (base f : Frame S) (fs : List (Frame S)) → (inner_after a v base f fs).ended ≡ true → ⊥
ends_inner Ended v base f fs e = cc
ends_inner (Created o b) v base f fs e = cc
ends_inner Ticked v base f fs e = cc
ends_inner (Load c) v base f fs e = cc
ends_inner (Store c w) v base f fs e = cc
ends_inner (Folded c op w b) v base f fs e = cc
ends_inner Awaited v base f fs e = cc
ends_inner Waited v base f fs e = cc
ends_inner (WaitedOn named) v base f fs e = cc
ends_inner (Releases clauses b) v base f fs e = cc
ends_inner (Printed key text) v base f fs e = cc
ends_inner (Fault kind line key) v base f fs e = cc
ends_inner Over v base f fs e = cc

ends_by : {S : Type 0} (a : Act S) (v : ℕ) (base : Frame S) (inner : List (Frame S)) → (stack_after a v base inner).ended ≡ true → (inner ≡ []) × (a ≡ Ended)
ends_by a v base [] e = (refl, ends_base a v base e)
ends_by a v base (f ∷ fs) e = absurd (ends_inner a v base f fs e)

place_same : (p q : List ℕ) (m n : ℕ) → p ≡ q → m ≡ n → ◌≡◌ {A = Place} (record { path = p; created = m }) (record { path = q; created = n })
place_same p q m n e k i = record { path = e i; created = k i }

module _ {S : Type 0} (P : Program S) where
  last_ends : (b : Start S) (v : ℕ) (vs : List ℕ) → (stack_from P b (v ∷ vs)).ended ≡ true → ((stack_from P b vs).inner ≡ []) × (stage_act P b vs ≡ Ended)
  unfolding stack_from stage_act act_of
  last_ends b v vs e =
      let s = stack_from P b vs in
      let a = stack_act P (right_of b.context) s.base s.inner s.ended in
      let n = stack_after a v s.base s.inner in
      ends_by a v s.base s.inner (sym (settled_end P n.base n.inner n.ended) ∙ e)

  -- where no included task acts, the body's own does
  pub alone_is : (b : Start S) (past : List ℕ) → (stack_from P b past).inner ≡ [] → place_in (acting P b past) ≡ record { path = b.path; created = (stack_from P b past).base.context.created }
  alone_is b past e =
      ap (λ (z : List (Frame S)). place_in (top_frame (stack_from P b past).base z)) e
      ∙ place_same (stack_from P b past).base.path b.path (stack_from P b past).base.context.created (stack_from P b past).base.context.created (stack_ok P b past).path refl

  alone_counts : (b : Start S) (past : List ℕ) → (stack_from P b past).inner ≡ [] → place_in (acting P b past) ≡ record { path = b.path; created = created_now P (record { start = b; found = past }) }
  unfolding stage_created
  alone_counts b past e = alone_is b past e

  child_place : (b : Start S) (past : List ℕ) (o : Order S) → (stack_from P b past).inner ≡ []
      → ◌≡◌ {A = Place} (record { path = (child_start (stack_from P b past).base o).path; created = (child_start (stack_from P b past).base o).context.created }) (record { path = (acting P b past).context.created ∷ (acting P b past).path; created = 0 })
  unfolding child_start
  child_place b past o e = ap {B = Place} (λ (z : List (Frame S)). record { path = (top_frame (stack_from P b past).base z).context.created ∷ (top_frame (stack_from P b past).base z).path; created = 0 }) (sym e)

  module _ (main : Start S) (ms : MainStarts main) (z y : Running S) (st : Stands P main z) (r : RunsOn P z y) (made : IsMade P main y.state) where
    abbrev found_now : ℕ
    found_now = found_by (act_now P r.task.body) z.state.cells

    abbrev after : Task S
    after = after_answer found_now r.task

    abbrev place_now : Place
    place_now = place_in (acting P r.task.body.start r.task.body.found)

    -- each task that has created one is not final
    creator_open : (j : ℕ) (q : List ℕ) (t u : Task S) → At y.state q t → At y.state (j ∷ q) u → t.body.start.context.final ≡ false
    creator_open j q t u h k =
        let b = made.child j q u k in
        subst (λ (x : Task S). x.body.start.context.final ≡ false) (at_same y.state q b.creator t b.at_ h) (creating P b.creator.body.start b.past b.order b.act).open_

    -- main ends
    main_next : act_now P r.task.body ≡ Ended → (stack_from P r.task.body.start r.task.body.found).inner ≡ [] → z.active ≡ [] → (u : Task S) → At y.state [] u
        → place_in (acting P u.body.start u.body.found) ≡ place_next (act_now P r.task.body) place_now
    main_next a alone e u k =
        let t : u ≡ after = at_same y.state [] u after k (subst (λ (x : List ℕ). At y.state x after) e r.tasks.own) in
        let path : r.task.body.start.path ≡ [] = path_found z.state.tasks z.active r.task r.at_ ∙ e in
        let here = alone_is r.task.body.start r.task.body.found alone in
        ap (λ (x : Task S). place_in (acting P x.body.start x.body.found)) t
        ∙ place_last P r.task.body.start found_now r.task.body.found a alone
        ∙ sym (ap (λ (x : Act S). place_next x place_now) a ∙ ap (λ (x : Place). above x.path x.created) (here ∙ place_same r.task.body.start.path [] _ _ path refl)
        ∙ sym (here ∙ place_same r.task.body.start.path [] _ _ path refl))

    -- another task ends, and its creator goes on
    creator_next : act_now P r.task.body ≡ Ended → (stack_from P r.task.body.start r.task.body.found).inner ≡ [] → (j : ℕ) (q : List ℕ) → z.active ≡ j ∷ q → (u : Task S) → At y.state q u
        → place_in (acting P u.body.start u.body.found) ≡ place_next (act_now P r.task.body) place_now
    creator_next a alone j q e u k =
        let own : At z.state (j ∷ q) r.task = subst (λ (x : List ℕ). At z.state x r.task) e r.at_ in
        let b = st.made.child j q r.task own in
        let s : IsSuffix (j ∷ q) z.active = subst (λ (x : List ℕ). IsSuffix (j ∷ q) x) (sym e) whole in
        let c : created_now P b.creator.body ≡ j + 1 = st.chain q j b.creator s b.at_ in
        let n = above_next P z y r q j b.creator s b.at_ in
        let t : b.creator ≡ u = at_same y.state q b.creator u n k in
        let d : created_now P u.body ≡ j + 1 = ap (λ (x : Task S). created_now P x.body) (sym t) ∙ c in
        let o = creator_open j q u after k (subst (λ (x : List ℕ). At y.state x after) e r.tasks.own) in
        let v = stack_from P u.body.start u.body.found in
        let none = no_inner_of_open u.body.start.context u.body.start.path v.base v.inner (stack_ok P u.body.start u.body.found) o in
        let path : r.task.body.start.path ≡ j ∷ q = path_found z.state.tasks z.active r.task r.at_ ∙ e in
        let here = alone_is r.task.body.start r.task.body.found alone in
        alone_counts u.body.start u.body.found none ∙ place_same u.body.start.path q _ (j + 1) (path_found y.state.tasks q u k) d
        ∙ sym (ap (λ (x : Act S). place_next x place_now) a ∙ ap (λ (x : Place). above x.path x.created) (here ∙ place_same r.task.body.start.path (j ∷ q) _ _ path refl))

    -- the task that acts at the next stage is the one to which the act leads
    pub acting_next : (u : Task S) → At y.state y.active u → place_in (acting P u.body.start u.body.found) ≡ place_next (act_now P r.task.body) place_now
    acting_next u h = go _ r.active h (turn P r.task z.active found_now)
      where
        ended : (p : List ℕ) → z.active ≡ p → is_ended P after.body ≡ true → At y.state (path_above p) u → place_in (acting P u.body.start u.body.found) ≡ place_next (act_now P r.task.body) place_now
        ended [] q e k = let l = last_ends r.task.body.start found_now r.task.body.found e in main_next l.1 l.0 q u k
        ended (j ∷ p) q e k = let l = last_ends r.task.body.start found_now r.task.body.found e in creator_next l.1 l.0 j p q u k

        go : (a : List ℕ) → y.active ≡ a → At y.state y.active u → Turn P r.task z.active found_now a → place_in (acting P u.body.start u.body.found) ≡ place_next (act_now P r.task.body) place_now
        go a q k (stay ne e) =
            let t = at_same y.state z.active u after (subst (λ (x : List ℕ). At y.state x u) q k) r.tasks.own in
            ap (λ (x : Task S). place_in (acting P x.body.start x.body.found)) t ∙ place_within P r.task.body.start found_now r.task.body.found e ne
        go a q k (up ne e) = ended z.active refl e (subst (λ (x : List ℕ). At y.state x u) q k)
        go a q k (down o e) =
            let n = new_task P r.task.body o in
            let t = at_same y.state (created_now P r.task.body ∷ z.active) u n (subst (λ (x : List ℕ). At y.state x u) q k) (r.tasks.made o e) in
            let c = creating P r.task.body.start r.task.body.found o e in
            ap (λ (x : Task S). place_in (acting P x.body.start x.body.found)) t ∙ place_first P n.body.start ∙ child_place r.task.body.start r.task.body.found o c.alone ∙ ap (λ (x : Act S). place_next x place_now) (sym e)
