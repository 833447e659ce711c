-- In the sequential run the task that acts goes one further in at each creation and one further out at each end, whether tasks are included or not.
use Rattle.std.proofs.Common.{◌≡◌, ◌≢◌, ℕ, ◌+◌, refl, sym, subst, ap, ◌∙◌, List, [], ◌∷◌, Bool, true, false}
use Rattle.oss_model.specs.Context.{right_of}
use Rattle.oss_model.specs.Bodies.{Order, Program, Act, Frame, Start, start_frame, top_frame, base_after, inner_after, stack_after, settled_frame, settled_parts, stack_act, stack_from, stage_act, act_of}
use Rattle.oss_model.specs.Bodies.Act.{Created, Awaited, Waited, WaitedOn, Over, Ticked, Load, Store, Folded, Releases, Printed, Ended, Fault}
use Rattle.oss_model.proofs.BodyLemmas.{settle_same}
use Rattle.oss_audit.specs.Auditing.{place_in}
use Rattle.oss_body.specs.Acting.{acting}
use Rattle.oss_audit.specs.Trails.{Place, above, place_next}

-- each included task is the last one that the task below it has created
pub data Nests {S : Type 0} : Frame S → List (Frame S) → Type 0 where
  flat : {base : Frame S} → Nests base []
  deeper : {base f : Frame S} {fs : List (Frame S)} (k : ℕ) → f.path ≡ k ∷ (top_frame base fs).path → (top_frame base fs).context.created ≡ k + 1 → Nests base fs → Nests base (f ∷ fs)

base_nests : {S : Type 0} (a : Act S) (v : ℕ) (base : Frame S) → Nests (base_after a v base).base (base_after a v base).inner
base_nests (Created o true) v base = deeper base.context.created refl refl flat
base_nests _ v base = flat

inner_nests : {S : Type 0} (a : Act S) (v : ℕ) (base f : Frame S) (fs : List (Frame S)) → Nests base (f ∷ fs) → Nests (inner_after a v base f fs).base (inner_after a v base f fs).inner
inner_nests Ended v base f fs (deeper k e l n) = n
inner_nests (Created o i) v base f fs (deeper k e l n) = deeper f.context.created refl refl (deeper k e l n)
inner_nests Ticked v base f fs (deeper k e l n) = deeper k e l n
inner_nests (Load c) v base f fs (deeper k e l n) = deeper k e l n
inner_nests (Store c w) v base f fs (deeper k e l n) = deeper k e l n
inner_nests (Folded c op w b) v base f fs (deeper k e l n) = deeper k e l n
inner_nests Awaited v base f fs (deeper k e l n) = deeper k e l n
inner_nests Waited v base f fs (deeper k e l n) = deeper k e l n
inner_nests (WaitedOn named) v base f fs (deeper k e l n) = deeper k e l n
inner_nests (Releases clauses b) v base f fs (deeper k e l n) = deeper k e l n
inner_nests (Printed key text) v base f fs (deeper k e l n) = deeper k e l n
inner_nests (Fault kind line key) v base f fs (deeper k e l n) = deeper k e l n
inner_nests Over v base f fs (deeper k e l n) = deeper k e l n

step_nests : {S : Type 0} (a : Act S) (v : ℕ) (base : Frame S) (inner : List (Frame S)) → Nests base inner → Nests (stack_after a v base inner).base (stack_after a v base inner).inner
step_nests a v base [] n = base_nests a v base
step_nests a v base (f ∷ fs) n = inner_nests a v base f fs n

settled_nests : {S : Type 0} (P : Program S) (base : Frame S) (inner : List (Frame S)) (over : Bool) → Nests base inner → Nests (settled_parts P base inner over).base (settled_parts P base inner over).inner
settled_nests P base [] over n = flat
settled_nests P base (f ∷ fs) over (deeper k e l n) = deeper k ((settle_same P f).path ∙ e) l n

pub stack_nests : {S : Type 0} (P : Program S) (b : Start S) (past : List ℕ) → Nests (stack_from P b past).base (stack_from P b past).inner
unfolding stack_from
stack_nests P b [] = flat
stack_nests P b (v ∷ vs) =
    let s = stack_from P b vs in
    let a = stack_act P (right_of b.context) s.base s.inner s.ended in
    let n = stack_after a v s.base s.inner in
    settled_nests P n.base n.inner n.ended (step_nests a v s.base s.inner (stack_nests P b vs))

-- a child ends
child_ends : (at : Place) (k : ℕ) (p : List ℕ) → at.path ≡ k ∷ p → above at.path at.created ≡ record { path = p; created = k + 1 }
child_ends at k p e = rw e refl

place_same : (m n : ℕ) (p : List ℕ) → m ≡ n → ◌≡◌ {A = Place} (record { path = p; created = m }) (record { path = p; created = n })
place_same m n p e = ap (λ (x : ℕ). record { path = p; created = x }) e

base_place : {S : Type 0} (a : Act S) (v : ℕ) (base : Frame S) → (base_after a v base).ended ≡ false → ((o : Order S) → a ≢ Created o false) → place_in (top_frame (base_after a v base).base (base_after a v base).inner) ≡ place_next a (place_in base)
base_place (Created o true) v base e ne = refl
base_place (Created o false) v base e ne = absurd (ne o refl)
base_place Ended v base e ne = cc
base_place Ticked v base e ne = refl
base_place (Load c) v base e ne = refl
base_place (Store c w) v base e ne = refl
base_place (Folded c op w b) v base e ne = refl
base_place Awaited v base e ne = refl
base_place Waited v base e ne = refl
base_place (WaitedOn named) v base e ne = refl
base_place (Releases clauses b) v base e ne = refl
base_place (Printed key text) v base e ne = refl
base_place (Fault kind line key) v base e ne = refl
base_place Over v base e ne = refl

inner_place : {S : Type 0} (a : Act S) (v : ℕ) (base f : Frame S) (fs : List (Frame S)) → Nests base (f ∷ fs) → place_in (top_frame (inner_after a v base f fs).base (inner_after a v base f fs).inner) ≡ place_next a (place_in f)
inner_place Ended v base f fs (deeper k e l n) = place_same (top_frame base fs).context.created (k + 1) (top_frame base fs).path l ∙ sym (child_ends (place_in f) k (top_frame base fs).path e)
inner_place (Created o i) v base f fs n = refl
inner_place Ticked v base f fs n = refl
inner_place (Load c) v base f fs n = refl
inner_place (Store c w) v base f fs n = refl
inner_place (Folded c op w b) v base f fs n = refl
inner_place Awaited v base f fs n = refl
inner_place Waited v base f fs n = refl
inner_place (WaitedOn named) v base f fs n = refl
inner_place (Releases clauses b) v base f fs n = refl
inner_place (Printed key text) v base f fs n = refl
inner_place (Fault kind line key) v base f fs n = refl
inner_place Over v base f fs n = refl

step_place : {S : Type 0} (a : Act S) (v : ℕ) (base : Frame S) (inner : List (Frame S)) → Nests base inner → (stack_after a v base inner).ended ≡ false → ((o : Order S) → a ≢ Created o false)
    → place_in (top_frame (stack_after a v base inner).base (stack_after a v base inner).inner) ≡ place_next a (place_in (top_frame base inner))
step_place a v base [] n e ne = base_place a v base e ne
step_place a v base (f ∷ fs) n e ne = inner_place a v base f fs n

settled_frame_place : {S : Type 0} (f g : Frame S) → g.path ≡ f.path → g.context ≡ f.context → place_in g ≡ place_in f
settled_frame_place f g e k i = record { path = e i; created = (k i).created }

settled_place : {S : Type 0} (P : Program S) (base : Frame S) (inner : List (Frame S)) (over : Bool) → place_in (top_frame (settled_parts P base inner over).base (settled_parts P base inner over).inner) ≡ place_in (top_frame base inner)
settled_place P base [] over = settled_frame_place base (settled_frame P base) (settle_same P base).path (settle_same P base).context
settled_place P base (f ∷ fs) over = settled_frame_place f (settled_frame P f) (settle_same P f).path (settle_same P f).context

pub settled_end : {S : Type 0} (P : Program S) (base : Frame S) (inner : List (Frame S)) (over : Bool) → (settled_parts P base inner over).ended ≡ over
settled_end P base [] over = refl
settled_end P base (f ∷ fs) over = refl

module _ {S : Type 0} (P : Program S) (b : Start S) where
  -- within one body
  pub place_within : (v : ℕ) (vs : List ℕ) → (stack_from P b (v ∷ vs)).ended ≡ false → ((o : Order S) → stage_act P b vs ≢ Created o false)
      → place_in (acting P b (v ∷ vs)) ≡ place_next (stage_act P b vs) (place_in (acting P b vs))
  unfolding stack_from stage_act act_of
  place_within v vs e ne =
      let s = stack_from P b vs in
      let a = stack_act P (right_of b.context) s.base s.inner s.ended in
      let n = stack_after a v s.base s.inner in
      settled_place P n.base n.inner n.ended ∙ step_place a v s.base s.inner (stack_nests P b vs) (sym (settled_end P n.base n.inner n.ended) ∙ e) ne

  -- of a new body
  pub place_first : place_in (acting P b []) ≡ record { path = b.path; created = b.context.created }
  unfolding stack_from
  place_first = settled_place P (start_frame P b) [] false

  -- of a body whose own task has ended
  pub place_last : (v : ℕ) (vs : List ℕ) → stage_act P b vs ≡ Ended → (stack_from P b vs).inner ≡ [] → place_in (acting P b (v ∷ vs)) ≡ place_in (acting P b vs)
  unfolding stack_from stage_act act_of
  place_last v vs a e =
      let s = stack_from P b vs in
      let n = stack_after Ended v s.base [] in
      let m : place_in (top_frame (settled_parts P n.base n.inner n.ended).base (settled_parts P n.base n.inner n.ended).inner) ≡ place_in (top_frame s.base []) = settled_place P n.base n.inner n.ended in
      subst (λ (x : Act S). let r = stack_after x v s.base s.inner in place_in (top_frame (settled_parts P r.base r.inner r.ended).base (settled_parts P r.base r.inner r.ended).inner) ≡ place_in (top_frame s.base s.inner)) (sym a)
      (subst (λ (i : List (Frame S)). let r = stack_after Ended v s.base i in place_in (top_frame (settled_parts P r.base r.inner r.ended).base (settled_parts P r.base r.inner r.ended).inner) ≡ place_in (top_frame s.base i)) (sym e) m)
