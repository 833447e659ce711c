-- What the stages of a body tell of its touches and creations.
use Rattle.std.proofs.Common.{◌≡◌, ℕ, ◌+◌, ◌<◌, ◌≤◌, ◌⊎◌, inl, inr, refl, sym, subst, ap, ◌∙◌, List, [], ◌∷◌, arith, Bool, true, false, None}
use Rattle.oss_syntax.specs.declared.access.Mode.{Mode}
use Rattle.oss_syntax.specs.declared.access.Op.{Op}
use Rattle.std.specs.Prelude.{◌||◌}
use Rattle.oss_model.specs.Order.{IsSuffix, whole, longer, here}
use Rattle.oss_model.specs.Rights.{Right, Released, Holds, Touch, Reads, Writes, Folds, touch_fault, is_fold}
use Rattle.oss_model.specs.Context.{Context, child_context, create_fault, release_fault, wait_on_fault, tick_fault, right_of, lent_of, mark_of, creation_fault}
use Rattle.oss_model.specs.Bodies.{Order, Ask, Program, Act, Frame, Stack, Start, act_of_ask, ask_of, frame_act, stack_act, one_more_created, lent_when, frame_after, base_after, inner_after, stack_after, settled_parts, next_stack, start_frame, stack_from, act_of, stage_act, stage_created, Touches, load, store, folded, word_of, IsHalt}
use Rattle.oss_model.specs.Bodies.Act.{Ticked, Load, Store, Folded, Created, Awaited, Waited, WaitedOn, Releases, Printed, Ended, Fault, Over}
use Rattle.oss_model.proofs.ContextLemmas.{child_right}
use Rattle.oss_model.proofs.JudgeLemmas.{Covered, clauses_covered, Passes, Permits, touch_passes, covers_permits}
use Rattle.oss_model.proofs.BodyLemmas.{judged_goes, nothing_lost, StackOk, InnerOk, stack_ok, base_created, inner_created, FrameKept, frame_same, frame_after_kept, lost_right, settle_kept, settle_same}

-- a touch by the top frame passes the judge
pub record TouchedBy {S : Type 0} (slots : ℕ → Right) (f : Frame S) (c : ℕ) (t : Touch) (slot : Bool) : Type 0 where
  pub fault : touch_fault ((right_of f.context) c) ((lent_of f.context) c) ((mark_of f.context) c) t ≡ None
  -- a read or a write goes to no slot, and a fold where the body's own right is a fold
  pub flag : (m : Mode) → Permits m t (is_fold (slots c)) → slot ≡ is_fold (slots c)

abbrev pub IsTouch : {S : Type 0} → Act S → ℕ → Touch → Bool → Type 0
IsTouch (Load d) c Reads slot = (d ≡ c) × (slot ≡ false)
IsTouch (Store d v) c Writes slot = (d ≡ c) × (slot ≡ false)
IsTouch (Folded d op v flag) c (Folds a) slot = (d ≡ c) × (op ≡ a) × (slot ≡ flag)
IsTouch _ c t slot = ⊥

pub touch_is : {S : Type 0} {a : Act S} {c : ℕ} {t : Touch} {slot : Bool} → Touches a c t slot → IsTouch a c t slot
touch_is load = (refl, refl)
touch_is store = (refl, refl)
touch_is folded = (refl, refl, refl)

is_touch : {S : Type 0} (a : Act S) (c : ℕ) (t : Touch) (slot : Bool) → IsTouch a c t slot → IsHalt a → ⊥
is_touch (Fault kind line key) c t slot h s = h
is_touch Over c t slot h s = h
is_touch _ c t slot h s = s

same_flag : (m : Mode) (b : Bool) (t : Touch) → (t ≡ Reads) ⊎ (t ≡ Writes) → Permits m t b → false ≡ b
same_flag m b Reads h Permits.read = refl
same_flag m b t h Permits.write = refl
same_flag m b (Folds op) (inl h) p = cc
same_flag m b (Folds op) (inr h) p = cc

touched_by : {S : Type 0} (slots : ℕ → Right) (inc : Bool) (f : Frame S) (a : Ask S) (line : ℕ) (act : Act S) (c : ℕ) (t : Touch) (slot : Bool) → act_of_ask slots inc f a line ≡ act → IsTouch act c t slot → TouchedBy slots f c t slot
touched_by slots inc f Ask.Begin line act c t slot h i = let k = judged_goes f line (create_fault f.context) _ act h (is_touch act c t slot i) in absurd (subst (λ (z : Act _). IsTouch z c t slot) (sym k.1) i)
touched_by slots inc f Ask.Tick line act c t slot h i = let k = judged_goes f line (tick_fault f.context) Ticked act h (is_touch act c t slot i) in absurd (subst (λ (z : Act _). IsTouch z c t slot) (sym k.1) i)
touched_by {S = S} slots inc f (Ask.Read d) line act c t slot h i =
    let k = judged_goes f line (touch_fault ((right_of f.context) d) ((lent_of f.context) d) ((mark_of f.context) d) Reads) (Load d) act h (is_touch act c t slot i) in
    go t k.0 (subst (λ (z : Act _). IsTouch z c t slot) (sym k.1) i)
  where
    go : (t : Touch) → touch_fault ((right_of f.context) d) ((lent_of f.context) d) ((mark_of f.context) d) Reads ≡ None → IsTouch {S = S} (Load d) c t slot → TouchedBy slots f c t slot
    go Reads n j = record { fault = subst (λ (z : ℕ). touch_fault ((right_of f.context) z) ((lent_of f.context) z) ((mark_of f.context) z) Reads ≡ None) j.0 n; flag = λ m p. j.1 ∙ same_flag m _ Reads (inl refl) p }
    go Writes n j = absurd j
    go (Folds op) n j = absurd j
touched_by {S = S} slots inc f (Ask.Write d v) line act c t slot h i =
    let k = judged_goes f line (touch_fault ((right_of f.context) d) ((lent_of f.context) d) ((mark_of f.context) d) Writes) (Store d (word_of v)) act h (is_touch act c t slot i) in
    go t k.0 (subst (λ (z : Act _). IsTouch z c t slot) (sym k.1) i)
  where
    go : (t : Touch) → touch_fault ((right_of f.context) d) ((lent_of f.context) d) ((mark_of f.context) d) Writes ≡ None → IsTouch {S = S} (Store d (word_of v)) c t slot → TouchedBy slots f c t slot
    go Writes n j = record { fault = subst (λ (z : ℕ). touch_fault ((right_of f.context) z) ((lent_of f.context) z) ((mark_of f.context) z) Writes ≡ None) j.0 n; flag = λ m p. j.1 ∙ same_flag m _ Writes (inr refl) p }
    go Reads n j = absurd j
    go (Folds op) n j = absurd j
touched_by {S = S} slots inc f (Ask.Fold d op v) line act c t slot h i =
    let k = judged_goes f line (touch_fault ((right_of f.context) d) ((lent_of f.context) d) ((mark_of f.context) d) (Folds op)) (Folded d op (word_of v) (is_fold (slots d))) act h (is_touch act c t slot i) in
    go t k.0 (subst (λ (z : Act _). IsTouch z c t slot) (sym k.1) i)
  where
    go : (t : Touch) → touch_fault ((right_of f.context) d) ((lent_of f.context) d) ((mark_of f.context) d) (Folds op) ≡ None → IsTouch {S = S} (Folded d op (word_of v) (is_fold (slots d))) c t slot → TouchedBy slots f c t slot
    go (Folds b) n j =
        record {
          fault = subst (λ (z : ℕ). touch_fault ((right_of f.context) z) ((lent_of f.context) z) ((mark_of f.context) z) (Folds b) ≡ None) j.0 (subst (λ (z : Op). touch_fault ((right_of f.context) d) ((lent_of f.context) d) ((mark_of f.context) d) (Folds z) ≡ None) j.1 n);
          flag = λ m p. j.2 ∙ ap (λ (z : ℕ). is_fold (slots z)) j.0;
        }
    go Reads n j = absurd j
    go Writes n j = absurd j
touched_by slots inc f (Ask.Create o) line act c t slot h i = let k = judged_goes f line (creation_fault f.context o.clauses (f.context.final || o.last)) _ act h (is_touch act c t slot i) in absurd (subst (λ (z : Act _). IsTouch z c t slot) (sym k.1) i)
touched_by slots inc f Ask.Await line act c t slot h i = absurd (subst (λ (z : Act _). IsTouch z c t slot) (sym h) i)
touched_by slots inc f Ask.Wait line act c t slot h i = absurd (subst (λ (z : Act _). IsTouch z c t slot) (sym h) i)
touched_by slots inc f (Ask.WaitOn named) line act c t slot h i = let k = judged_goes f line (wait_on_fault f.context named) _ act h (is_touch act c t slot i) in absurd (subst (λ (z : Act _). IsTouch z c t slot) (sym k.1) i)
touched_by slots inc f (Ask.Release clauses) line act c t slot h i = let k = judged_goes f line (release_fault f.context clauses) _ act h (is_touch act c t slot i) in absurd (subst (λ (z : Act _). IsTouch z c t slot) (sym k.1) i)
touched_by slots inc f (Ask.Print text) line act c t slot h i = absurd (subst (λ (z : Act _). IsTouch z c t slot) (sym h) i)
touched_by slots inc f Ask.End line act c t slot h i = absurd (subst (λ (z : Act _). IsTouch z c t slot) (sym h) i)
touched_by slots inc f (Ask.Fails kind) line act c t slot h i = absurd (subst (λ (z : Act _). IsTouch z c t slot) (sym h) i)

pub frame_touched : {S : Type 0} (P : Program S) (slots : ℕ → Right) (inc : Bool) (f : Frame S) (w : Bool) (c : ℕ) (t : Touch) (slot : Bool) → IsTouch (frame_act P slots inc f w) c t slot → TouchedBy slots f c t slot
frame_touched P slots inc f true c t slot i = absurd i
frame_touched P slots inc f false c t slot i = touched_by slots inc f (ask_of P f).ask (ask_of P f).line _ c t slot refl i

-- a touch has a right of the task itself behind it, which is not released, and permits it
pub record Touching (x now : Right) (t : Touch) (slot : Bool) : Type 0 where
  pub mode : Mode
  pub holds : x ≡ Holds mode true
  pub stands : now ≡ Holds mode true
  pub permits : Permits mode t slot

-- the context of a task at its start: each right of a final task is strong
abbrev pub StartsWell : Context → Type 0
StartsWell x = (c : ℕ) (m : Mode) (strong : Bool) → x.final ≡ true → (right_of x) c ≡ Holds m strong → strong ≡ true

still_held : (x now : Right) (m : Mode) (strong : Bool) → (now ≡ x) ⊎ (now ≡ Released) → now ≡ Holds m strong → x ≡ Holds m strong
still_held x now m strong (inl e) h = sym e ∙ h
still_held x now m strong (inr e) h = cc

base_touch : {S : Type 0} (x : ℕ → Right) (base : Frame S) (c : ℕ) (t : Touch) (slot : Bool) → ((right_of base.context) c ≡ x c) ⊎ ((right_of base.context) c ≡ Released) → TouchedBy x base c t slot
    → Touching (x c) ((right_of base.context) c) t slot
base_touch x base c t slot keep k =
    let p = touch_passes ((right_of base.context) c) ((lent_of base.context) c) ((mark_of base.context) c) t k.fault in
    let h = still_held (x c) ((right_of base.context) c) p.mode true keep p.holds in
    let q : Permits p.mode t (is_fold (x c)) = subst (λ (r : Right). Permits p.mode t (is_fold r)) (p.holds ∙ sym h) p.permits in
    record { mode = p.mode; holds = h; stands = p.holds; permits = subst (λ (z : Bool). Permits p.mode t z) (sym (k.flag p.mode q)) q }

inner_touch : {S : Type 0} (x : Context) (base : Context) (f : Frame S) (c : ℕ) (t : Touch) (slot : Bool) → StartsWell x → base.final ≡ x.final → ((right_of base) c ≡ (right_of x) c) ⊎ ((right_of base) c ≡ Released) → InnerOk base f → TouchedBy (right_of x) f c t slot
    → Touching ((right_of x) c) ((right_of base) c) t slot
inner_touch x base f c t slot well fin keep ok k =
    let p = touch_passes ((right_of f.context) c) ((lent_of f.context) c) ((mark_of f.context) c) t k.fault in
    let v = ok.covered c p.mode true p.holds in
    let h = still_held ((right_of x) c) ((right_of base) c) v.1.mode v.1.strong keep v.1.holds in
    let s = well c v.1.mode v.1.strong (sym fin ∙ ok.owner) h in
    let a : Permits p.mode t (is_fold (Holds p.mode true)) = subst (λ (r : Right). Permits p.mode t (is_fold r)) p.holds p.permits in
    let d : Permits v.1.mode t (is_fold (Holds v.1.mode true)) = covers_permits v.1.mode p.mode t slot true true v.1.covers a in
    let g : (right_of x) c ≡ Holds v.1.mode true = h ∙ ap (λ (z : Bool). Holds v.1.mode z) s in
    let q : Permits v.1.mode t (is_fold ((right_of x) c)) = subst (λ (r : Right). Permits v.1.mode t (is_fold r)) (sym g) d in
    record { mode = v.1.mode; holds = g; stands = v.1.holds ∙ ap (λ (z : Bool). Holds v.1.mode z) s; permits = subst (λ (z : Bool). Permits v.1.mode t z) (sym (k.flag v.1.mode q)) q }

stack_touch : {S : Type 0} (P : Program S) (x : Context) (p : List ℕ) (base : Frame S) (inner : List (Frame S)) (over : Bool) (c : ℕ) (t : Touch) (slot : Bool) → StartsWell x → StackOk x p base inner → IsTouch (stack_act P (right_of x) base inner over) c t slot
    → Touching ((right_of x) c) ((right_of base.context) c) t slot
stack_touch P x p base inner true c t slot well ok i = absurd i
stack_touch P x p base [] false c t slot well ok i = base_touch (right_of x) base c t slot (ok.right c) (frame_touched P (right_of x) false base base.awaits c t slot i)
stack_touch P x p base (f ∷ fs) false c t slot well ok i = inner_touch x base.context f c t slot well ok.final (ok.right c) (ok.inner f here) (frame_touched P (right_of x) true f f.awaits c t slot i)

abbrev pub stage_right : {S : Type 0} → Program S → Start S → List ℕ → ℕ → Right
stage_right P b past c = (right_of (stack_from P b past).base.context) c

-- each touch of a body has a strong right of its task behind it, which stands at that stage
pub stage_touch : {S : Type 0} (P : Program S) (b : Start S) (past : List ℕ) (c : ℕ) (t : Touch) (slot : Bool) → StartsWell b.context → Touches (stage_act P b past) c t slot → Touching ((right_of b.context) c) (stage_right P b past c) t slot
unfolding stage_act act_of
stage_touch P b past c t slot well h =
    let s = stack_from P b past in
    stack_touch P b.context b.path s.base s.inner s.ended c t slot well (stack_ok P b past) (touch_is h)

-- the own frame of a body after an act
base_after_kept : {S : Type 0} (a : Act S) (v : ℕ) (base : Frame S) → FrameKept base (base_after a v base).base
base_after_kept Ended v base = frame_same base
base_after_kept (Created o true) v base = nothing_lost o base
base_after_kept (Created o false) v base = frame_after_kept (Created o false) v base
base_after_kept Ticked v base = frame_after_kept Ticked v base
base_after_kept (Load c) v base = frame_after_kept (Load c) v base
base_after_kept (Store c w) v base = frame_after_kept (Store c w) v base
base_after_kept (Folded c op w slot) v base = frame_after_kept (Folded c op w slot) v base
base_after_kept Awaited v base = frame_after_kept Awaited v base
base_after_kept Waited v base = frame_after_kept Waited v base
base_after_kept (WaitedOn named) v base = frame_after_kept (WaitedOn named) v base
base_after_kept (Releases clauses included) v base = frame_after_kept (Releases clauses included) v base
base_after_kept (Printed key text) v base = frame_after_kept (Printed key text) v base
base_after_kept (Fault kind line key) v base = frame_after_kept (Fault kind line key) v base
base_after_kept Over v base = frame_after_kept Over v base

inner_after_base : {S : Type 0} (a : Act S) (v : ℕ) (base f : Frame S) (fs : List (Frame S)) → (inner_after a v base f fs).base ≡ base
inner_after_base Ended v base f fs = refl
inner_after_base (Created o i) v base f fs = refl
inner_after_base _ v base f fs = refl

stepped_kept : {S : Type 0} (a : Act S) (v : ℕ) (base : Frame S) (inner : List (Frame S)) → FrameKept base (stack_after a v base inner).base
stepped_kept a v base [] = base_after_kept a v base
stepped_kept a v base (f ∷ fs) = subst (λ (g : Frame _). FrameKept base g) (sym (inner_after_base a v base f fs)) (frame_same base)

pub kept_trans : {S : Type 0} {f g h : Frame S} → FrameKept f g → FrameKept g h → FrameKept f h
kept_trans {f = f} {g = g} {h = h} a b =
    record {
      path = b.path ∙ a.path;
      final = b.final ∙ a.final;
      right = λ c. lost_right ((right_of f.context) c) ((right_of g.context) c) ((right_of h.context) c) (a.right c) (b.right c);
    }

settled_kept : {S : Type 0} (P : Program S) (base : Frame S) (inner : List (Frame S)) (over : Bool) → FrameKept base (settled_parts P base inner over).base
settled_kept P base [] ended = settle_kept P base
settled_kept P base (f ∷ fs) ended = frame_same base

pub next_kept : {S : Type 0} (P : Program S) (slots : ℕ → Right) (v : ℕ) (s : Stack S) → FrameKept s.base (next_stack P slots v s).base
next_kept P slots v s =
    let n = stack_after (stack_act P slots s.base s.inner s.ended) v s.base s.inner in
    kept_trans (stepped_kept (stack_act P slots s.base s.inner s.ended) v s.base s.inner) (settled_kept P n.base n.inner n.ended)

-- a later stage has lost at most rights
pub later_kept : {S : Type 0} (P : Program S) (b : Start S) {past more : List ℕ} → IsSuffix past more → FrameKept (stack_from P b past).base (stack_from P b more).base
unfolding stack_from
later_kept P b {past = past} whole = frame_same (stack_from P b past).base
later_kept P b {past = past} (longer {y = v} {ys = vs} h) =
    kept_trans (later_kept P b h) (next_kept P (right_of b.context) v (stack_from P b vs))

released_still : (r s : Right) → (s ≡ r) ⊎ (s ≡ Released) → r ≡ Released → s ≡ Released
released_still r s (inl e) h = e ∙ h
released_still r s (inr e) h = e

-- what a task released stays released
pub released_stays : {S : Type 0} (P : Program S) (b : Start S) (past more : List ℕ) (c : ℕ) → IsSuffix past more → stage_right P b past c ≡ Released → stage_right P b more c ≡ Released
released_stays P b past more c h r = released_still (stage_right P b past c) (stage_right P b more c) ((later_kept P b h).right c) r

-- one for a creation by the task itself
abbrev pub own_creation : {S : Type 0} → List (Frame S) → Act S → ℕ
own_creation [] (Created o included) = 1
own_creation [] _ = 0
own_creation (f ∷ fs) a = 0

lend_when_created : (w : Bool) (given : ℕ → Right) (x : Context) → (lent_when w given x).created ≡ x.created
lend_when_created true given x = refl
lend_when_created false given x = refl

pub frame_after_created : {S : Type 0} (a : Act S) (v : ℕ) (f : Frame S) → (frame_after a v f).context.created ≡ f.context.created + own_creation {S = S} [] a
frame_after_created Ticked v f = omega arith
frame_after_created (Created o included) v f = lend_when_created o.when (right_of (child_context f.context o.clauses o.last)) (one_more_created f.context)
frame_after_created Awaited v f = omega arith
frame_after_created Waited v f = omega arith
frame_after_created (WaitedOn named) v f = omega arith
frame_after_created (Releases clauses included) v f = omega arith
frame_after_created _ v f = omega arith

base_after_created : {S : Type 0} (a : Act S) (v : ℕ) (base : Frame S) → (base_after a v base).base.context.created ≡ base.context.created + own_creation {S = S} [] a
base_after_created Ended v base = omega arith
base_after_created (Created o true) v base = refl
base_after_created (Created o false) v base = frame_after_created (Created o false) v base
base_after_created Ticked v base = frame_after_created Ticked v base
base_after_created (Load c) v base = frame_after_created (Load c) v base
base_after_created (Store c w) v base = frame_after_created (Store c w) v base
base_after_created (Folded c op w slot) v base = frame_after_created (Folded c op w slot) v base
base_after_created Awaited v base = frame_after_created Awaited v base
base_after_created Waited v base = frame_after_created Waited v base
base_after_created (WaitedOn named) v base = frame_after_created (WaitedOn named) v base
base_after_created (Releases clauses included) v base = frame_after_created (Releases clauses included) v base
base_after_created (Printed key text) v base = frame_after_created (Printed key text) v base
base_after_created (Fault kind line key) v base = frame_after_created (Fault kind line key) v base
base_after_created Over v base = frame_after_created Over v base

stepped_created : {S : Type 0} (a : Act S) (v : ℕ) (base : Frame S) (inner : List (Frame S)) → (stack_after a v base inner).base.context.created ≡ base.context.created + own_creation inner a
stepped_created a v base [] = base_after_created a v base
stepped_created a v base (f ∷ fs) = ap (λ (g : Frame _). g.context.created) (inner_after_base a v base f fs) ∙ (omega arith)

settled_created : {S : Type 0} (P : Program S) (base : Frame S) (inner : List (Frame S)) (over : Bool) → (settled_parts P base inner over).base.context.created ≡ base.context.created
settled_created P base [] ended = ap (λ (x : Context). x.created) (settle_same P base).context
settled_created P base (f ∷ fs) ended = refl

-- a body's own creations are counted
pub created_next : {S : Type 0} (P : Program S) (b : Start S) (v : ℕ) (vs : List ℕ) → stage_created P b (v ∷ vs) ≡ stage_created P b vs + own_creation (stack_from P b vs).inner (stage_act P b vs)
unfolding stage_created stage_act act_of stack_from
created_next P b v vs =
    let s = stack_from P b vs in
    let n = stack_after (stack_act P (right_of b.context) s.base s.inner s.ended) v s.base s.inner in
    settled_created P n.base n.inner n.ended ∙ stepped_created (stack_act P (right_of b.context) s.base s.inner s.ended) v s.base s.inner

pub created_grows : {S : Type 0} (P : Program S) (b : Start S) {past more : List ℕ} → IsSuffix past more → stage_created P b past ≤ stage_created P b more
created_grows P b {past = past} whole = omega arith
created_grows P b (longer {y = v} {ys = vs} h) = let a = created_grows P b h in let e = created_next P b v vs in omega arith

-- what stands behind a creation of a task that isn't included
pub record Creating {S : Type 0} (P : Program S) (b : Start S) (past : List ℕ) (o : Order S) : Type 0 where
  pub alone : (stack_from P b past).inner ≡ []
  pub open_ : b.context.final ≡ false
  pub covered : (c : ℕ) (m : Mode) (strong : Bool) → (right_of (child_context (stack_from P b past).base.context o.clauses o.last)) c ≡ Holds m strong → Covered (stage_right P b past c) m

stack_create : {S : Type 0} (P : Program S) (x : Context) (p : List ℕ) (base : Frame S) (inner : List (Frame S)) (over : Bool) (o : Order S) → StackOk x p base inner → stack_act P (right_of x) base inner over ≡ Created o false
    → (inner ≡ []) × (x.final ≡ false) × ((c : ℕ) (m : Mode) (strong : Bool) → (right_of (child_context base.context o.clauses o.last)) c ≡ Holds m strong → Covered ((right_of base.context) c) m)
stack_create P x p base [] over o ok h =
    let k = base_created P (right_of x) base over o false h in
    (refl, sym (k.flag ∙ ok.final), λ c m strong r. clauses_covered base.context o.clauses (base.context.final || o.last) k.fault c m strong (child_right base.context o.clauses o.last c m strong r).0)
stack_create P x p base (f ∷ fs) over o ok h =
    let k = inner_created P (right_of x) base f fs over o false h in
    let e : false ≡ true = k.flag ∙ (ok.inner f here).final in
    cc

pub creating : {S : Type 0} (P : Program S) (b : Start S) (past : List ℕ) (o : Order S) → stage_act P b past ≡ Created o false → Creating P b past o
unfolding stage_act act_of
creating P b past o h =
    let s = stack_from P b past in
    let k = stack_create P b.context b.path s.base s.inner s.ended o (stack_ok P b past) h in
    record { alone = k.0; open_ = k.1; covered = k.2 }

-- a creation counts
pub creation_counts : {S : Type 0} (P : Program S) (b : Start S) (v : ℕ) (past : List ℕ) (o : Order S) → stage_act P b past ≡ Created o false → stage_created P b (v ∷ past) ≡ stage_created P b past + 1
creation_counts P b v past o h =
    let k = creating P b past o h in
    let e : own_creation (stack_from P b past).inner (stage_act P b past) ≡ 1 = rw (k.alone, h) refl in
    created_next P b v past ∙ ap (λ (n : ℕ). stage_created P b past + n) e

-- a creation with each lower number has happened
pub record CreationAt {S : Type 0} (P : Program S) (b : Start S) (more : List ℕ) (i : ℕ) : Type 0 where
  pub past : List ℕ
  pub answer : ℕ
  pub order : Order S
  pub happened : IsSuffix (answer ∷ past) more
  pub number : stage_created P b past ≡ i
  pub act : stage_act P b past ≡ Created order false

pub no_inner_of_open : {S : Type 0} (x : Context) (p : List ℕ) (base : Frame S) (inner : List (Frame S)) → StackOk x p base inner → x.final ≡ false → inner ≡ []
no_inner_of_open x p base [] ok h = refl
no_inner_of_open x p base (f ∷ fs) ok h = let e : true ≡ false = sym (ok.inner f here).owner ∙ (ok.final ∙ h) in cc

own_creation_one : {S : Type 0} (inner : List (Frame S)) (a : Act S) → 1 ≤ own_creation inner a → (o : Order S) × (i : Bool) × (a ≡ Created o i)
own_creation_one [] (Created o i) h = (o, i, refl)
own_creation_one [] _ h = absurd (omega arith)
own_creation_one (f ∷ fs) a h = absurd (omega arith)

not_included : {S : Type 0} (P : Program S) (x : Context) (p : List ℕ) (base : Frame S) (inner : List (Frame S)) (over : Bool) (o : Order S) (i : Bool) → StackOk x p base inner → x.final ≡ false → stack_act P (right_of x) base inner over ≡ Created o i → i ≡ false
not_included P x p base [] over o i ok open_ h = (base_created P (right_of x) base over o i h).flag ∙ (ok.final ∙ open_)
not_included P x p base (f ∷ fs) over o i ok open_ h = let e : true ≡ false = sym (ok.inner f here).owner ∙ (ok.final ∙ open_) in cc

one_creation : {S : Type 0} (P : Program S) (b : Start S) (past : List ℕ) → b.context.final ≡ false → 1 ≤ own_creation (stack_from P b past).inner (stage_act P b past) → (o : Order S) × (stage_act P b past ≡ Created o false)
unfolding stage_act act_of
one_creation {S = S} P b past open_ h =
    let s = stack_from P b past in
    let k = own_creation_one s.inner (stage_act P b past) h in
    let n : k.1 ≡ false = not_included P b.context b.path s.base s.inner s.ended k.0 k.1 (stack_ok P b past) open_ k.2 in
    (k.0, k.2 ∙ ap (λ (i : Bool). Created k.0 i) n)

pub start_created : {S : Type 0} (P : Program S) (b : Start S) → b.context.created ≡ 0 → stage_created P b [] ≡ 0
unfolding stage_created stack_from
start_created P b h = ap (λ (x : Context). x.created) (settle_same P (start_frame P b)).context ∙ h

earlier_or_now : (i n d : ℕ) → i < n + d → d ≤ 1 → (i < n) ⊎ ((i ≡ n) × (1 ≤ d))
earlier_or_now i n d h k = grind arith

own_creation_small : {S : Type 0} (inner : List (Frame S)) (a : Act S) → own_creation inner a ≤ 1
own_creation_small [] (Created o i) = omega arith
own_creation_small [] _ = omega arith
own_creation_small (f ∷ fs) a = omega arith

pub creation_at : {S : Type 0} (P : Program S) (b : Start S) (more : List ℕ) (i : ℕ) → b.context.final ≡ false → b.context.created ≡ 0 → i < stage_created P b more → CreationAt P b more i
creation_at P b [] i open_ zero_ h = let e = start_created P b zero_ in absurd (omega arith)
creation_at P b (v ∷ vs) i open_ zero_ h =
    let e = created_next P b v vs in
    go (creation_at P b vs i open_ zero_) (earlier_or_now i (stage_created P b vs) (own_creation (stack_from P b vs).inner (stage_act P b vs)) (omega arith) (own_creation_small (stack_from P b vs).inner (stage_act P b vs)))
  where
    go : (i < stage_created P b vs → CreationAt P b vs i) → (i < stage_created P b vs) ⊎ ((i ≡ stage_created P b vs) × (1 ≤ own_creation (stack_from P b vs).inner (stage_act P b vs))) → CreationAt P b (v ∷ vs) i
    go before (inl l) = let k = before l in record { past = k.past; answer = k.answer; order = k.order; happened = longer k.happened; number = k.number; act = k.act }
    go before (inr r) = let k = one_creation P b vs open_ r.1 in record { past = vs; answer = v; order = k.0; happened = whole; number = sym r.0; act = k.1 }

stack_unlent : {S : Type 0} (P : Program S) (x : Context) (p : List ℕ) (base : Frame S) (inner : List (Frame S)) (over : Bool) (c : ℕ) (t : Touch) (slot : Bool) → StackOk x p base inner → x.final ≡ false → IsTouch (stack_act P (right_of x) base inner over) c t slot
    → Passes ((right_of base.context) c) ((lent_of base.context) c) t
stack_unlent P x p base inner true c t slot ok open_ i = absurd i
stack_unlent P x p base [] false c t slot ok open_ i = touch_passes ((right_of base.context) c) ((lent_of base.context) c) ((mark_of base.context) c) t (frame_touched P (right_of x) false base base.awaits c t slot i).fault
stack_unlent P x p base (f ∷ fs) false c t slot ok open_ i = let e : true ≡ false = sym (ok.inner f here).owner ∙ (ok.final ∙ open_) in cc

-- a touch by a task that is not final passes the lending of the task itself
pub stage_passes : {S : Type 0} (P : Program S) (b : Start S) (past : List ℕ) (c : ℕ) (t : Touch) (slot : Bool) → b.context.final ≡ false → Touches (stage_act P b past) c t slot → Passes (stage_right P b past c) ((lent_of (stack_from P b past).base.context) c) t
unfolding stage_act act_of
stage_passes P b past c t slot open_ h =
    let s = stack_from P b past in
    stack_unlent P b.context b.path s.base s.inner s.ended c t slot (stack_ok P b past) open_ (touch_is h)

settled_over : {S : Type 0} (P : Program S) (base : Frame S) (inner : List (Frame S)) (over : Bool) → (settled_parts P base inner over).ended ≡ over
settled_over P base [] ended = refl
settled_over P base (f ∷ fs) ended = refl

create_over : {S : Type 0} (P : Program S) (slots : ℕ → Right) (v : ℕ) (base : Frame S) (inner : List (Frame S)) (over : Bool) (o : Order S) → inner ≡ [] → stack_act P slots base inner over ≡ Created o false → (stack_after (stack_act P slots base inner over) v base inner).ended ≡ false
create_over P slots v base [] over o e a = rw a refl
create_over P slots v base (f ∷ fs) over o e a = cc (e)

-- a body goes on after a creation, and from its start
pub created_goes_on : {S : Type 0} (P : Program S) (b : Start S) (v : ℕ) (past : List ℕ) (o : Order S) → stage_act P b past ≡ Created o false → (stack_from P b (v ∷ past)).ended ≡ false
unfolding stack_from stage_act act_of
created_goes_on P b v past o a =
    let s = stack_from P b past in
    let n = stack_after (stack_act P (right_of b.context) s.base s.inner s.ended) v s.base s.inner in
    settled_over P n.base n.inner n.ended ∙ create_over P (right_of b.context) v s.base s.inner s.ended o (creating P b past o a).alone a

pub start_goes_on : {S : Type 0} (P : Program S) (b : Start S) → (stack_from P b []).ended ≡ false
unfolding stack_from
start_goes_on P b = refl
