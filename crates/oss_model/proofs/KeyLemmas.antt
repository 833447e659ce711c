-- The keys of a body's acts grow.
use Rattle.std.proofs.Common.{◌≡◌, ℕ, ◌<◌, ◌≤◌, ◌⊎◌, inl, inr, refl, sym, subst, ap, ◌∙◌, List, [], ◌∷◌, reverse, arith, Bool, true, false}
use Rattle.oss_model.specs.Order.{IsSuffix, whole, longer, IsBefore, IsEarlierKey}
use Rattle.oss_model.specs.Context.{right_of}
use Rattle.oss_model.specs.Bodies.{Program, Act, Frame, Start, key_of, top_frame, frame_after, base_after, inner_after, stack_after, settled_parts, stack_act, stack_from, stage_key, stage_created}
use Rattle.oss_model.specs.Bodies.Act.{Created, Ended}
use Rattle.oss_model.proofs.BodyLemmas.{frame_after_kept, settle_same, stack_ok}
use Rattle.oss_model.proofs.StageLemmas.{frame_after_created, no_inner_of_open}
use Rattle.oss_model.proofs.OrderLemmas.{before_trans, before_number, before_child, before_up}

-- each included task has the path of the task below it, with a number that is counted there
pub data Nested {S : Type 0} : Frame S → List (Frame S) → Type 0 where
  flat : {base : Frame S} → Nested base []
  deeper : {base f : Frame S} {fs : List (Frame S)} (k : ℕ) → f.path ≡ k ∷ (top_frame base fs).path → k < (top_frame base fs).context.created → Nested base fs → Nested base (f ∷ fs)

base_nested : {S : Type 0} (a : Act S) (v : ℕ) (base : Frame S) → Nested (base_after a v base).base (base_after a v base).inner
base_nested (Created o true) v base = deeper base.context.created refl (omega arith) flat
base_nested _ v base = flat

inner_nested : {S : Type 0} (a : Act S) (v : ℕ) (base f : Frame S) (fs : List (Frame S)) → Nested base (f ∷ fs) → Nested (inner_after a v base f fs).base (inner_after a v base f fs).inner
inner_nested Ended v base f fs (deeper k e l n) = n
inner_nested (Created o i) v base f fs (deeper k e l n) = deeper f.context.created refl (omega arith) (deeper k e l n)
inner_nested a v base f fs (deeper k e l n) = deeper k ((frame_after_kept a v f).path ∙ e) l n

step_nested : {S : Type 0} (a : Act S) (v : ℕ) (base : Frame S) (inner : List (Frame S)) → Nested base inner → Nested (stack_after a v base inner).base (stack_after a v base inner).inner
step_nested a v base [] n = base_nested a v base
step_nested a v base (f ∷ fs) n = inner_nested a v base f fs n

settled_nested : {S : Type 0} (P : Program S) (base : Frame S) (inner : List (Frame S)) (over : Bool) → Nested base inner → Nested (settled_parts P base inner over).base (settled_parts P base inner over).inner
settled_nested P base [] over n = flat
settled_nested P base (f ∷ fs) over (deeper k e l n) = deeper k ((settle_same P f).path ∙ e) l n

stack_nested : {S : Type 0} (P : Program S) (b : Start S) (past : List ℕ) → Nested (stack_from P b past).base (stack_from P b past).inner
unfolding stack_from
stack_nested P b [] = flat
stack_nested P b (v ∷ vs) =
    let s = stack_from P b vs in
    let a = stack_act P (right_of b.context) s.base s.inner s.ended in
    let n = stack_after a v s.base s.inner in
    settled_nested P n.base n.inner n.ended (step_nested a v s.base s.inner (stack_nested P b vs))

-- the first key is not after the second
abbrev pub IsUpTo : List ℕ → List ℕ → Type 0
IsUpTo k l = IsEarlierKey k l ⊎ (k ≡ l)

up_to_trans : {k l m : List ℕ} → IsUpTo k l → IsUpTo l m → IsUpTo k m
up_to_trans (inl a) (inl b) = inl (before_trans a b)
up_to_trans {k = k} (inl a) (inr b) = inl (subst (λ (z : List ℕ). IsBefore (reverse k) (reverse z)) b a)
up_to_trans {m = m} (inr a) (inl b) = inl (subst (λ (z : List ℕ). IsBefore (reverse z) (reverse m)) (sym a) b)
up_to_trans (inr a) (inr b) = inr (a ∙ b)

frame_up : {S : Type 0} (f g : Frame S) → g.path ≡ f.path → f.context.created ≤ g.context.created → IsUpTo (key_of f) (key_of g)
frame_up f g e l = subst (λ (q : List ℕ). IsUpTo (key_of f) (g.context.created ∷ q)) (sym e) (go (less_or f.context.created g.context.created l))
  where
    less_or : (m n : ℕ) → m ≤ n → (m < n) ⊎ (m ≡ n)
    less_or m n h = grind arith

    go : (f.context.created < g.context.created) ⊎ (f.context.created ≡ g.context.created) → IsUpTo (key_of f) (g.context.created ∷ f.path)
    go (inl m) = inl (before_number f.context.created g.context.created f.path m)
    go (inr m) = inr (ap (λ (z : ℕ). z ∷ f.path) m)

kept_up : {S : Type 0} (a : Act S) (v : ℕ) (f : Frame S) → IsUpTo (key_of f) (key_of (frame_after a v f))
kept_up a v f = let c = frame_after_created a v f in frame_up f (frame_after a v f) (frame_after_kept a v f).path (omega arith)

base_up : {S : Type 0} (a : Act S) (v : ℕ) (base : Frame S) → IsUpTo (key_of base) (key_of (top_frame (base_after a v base).base (base_after a v base).inner))
base_up Ended v base = inr refl
base_up (Created o true) v base = inl (before_child 0 base.context.created base.path)
base_up a v base = kept_up a v base

inner_up : {S : Type 0} (a : Act S) (v : ℕ) (base f : Frame S) (fs : List (Frame S)) → Nested base (f ∷ fs) → IsUpTo (key_of f) (key_of (top_frame (inner_after a v base f fs).base (inner_after a v base f fs).inner))
inner_up Ended v base f fs (deeper k e l n) =
    let g = top_frame base fs in
    inl (subst (λ (z : List ℕ). IsBefore (reverse (f.context.created ∷ z)) (reverse (g.context.created ∷ g.path))) (sym e) (before_up k g.context.created f.context.created g.path whole l))
inner_up (Created o i) v base f fs n = inl (before_child 0 f.context.created f.path)
inner_up a v base f fs n = kept_up a v f

step_up : {S : Type 0} (a : Act S) (v : ℕ) (base : Frame S) (inner : List (Frame S)) → Nested base inner → IsUpTo (key_of (top_frame base inner)) (key_of (top_frame (stack_after a v base inner).base (stack_after a v base inner).inner))
step_up a v base [] n = base_up a v base
step_up a v base (f ∷ fs) n = inner_up a v base f fs n

settled_key : {S : Type 0} (P : Program S) (base : Frame S) (inner : List (Frame S)) (over : Bool) → key_of (top_frame (settled_parts P base inner over).base (settled_parts P base inner over).inner) ≡ key_of (top_frame base inner)
settled_key P base [] over = let k = settle_same P base in λ i. (k.context i).created ∷ k.path i
settled_key P base (f ∷ fs) over = let k = settle_same P f in λ i. (k.context i).created ∷ k.path i

next_up : {S : Type 0} (P : Program S) (b : Start S) (v : ℕ) (vs : List ℕ) → IsUpTo (stage_key P b vs) (stage_key P b (v ∷ vs))
unfolding stage_key stack_from
next_up P b v vs =
    let s = stack_from P b vs in
    let a = stack_act P (right_of b.context) s.base s.inner s.ended in
    let n = stack_after a v s.base s.inner in
    subst (λ (z : List ℕ). IsUpTo (key_of (top_frame s.base s.inner)) z) (sym (settled_key P n.base n.inner n.ended)) (step_up a v s.base s.inner (stack_nested P b vs))

-- a later stage of a body has no earlier key
pub key_grows : {S : Type 0} (P : Program S) (b : Start S) {past more : List ℕ} → IsSuffix past more → IsUpTo (stage_key P b past) (stage_key P b more)
key_grows P b whole = inr refl
key_grows P b (longer {y = v} {ys = vs} h) = up_to_trans (key_grows P b h) (next_up P b v vs)

nested_below : {S : Type 0} {base : Frame S} {inner : List (Frame S)} → Nested base inner → IsSuffix base.path (top_frame base inner).path
nested_below flat = whole
nested_below {base = base} (deeper k e l n) = subst (λ (z : List ℕ). IsSuffix base.path z) (sym e) (longer (nested_below n))

-- the key of a stage is that of a task at or below the body's own, and the own one where the body can't include tasks
pub record KeyForm {S : Type 0} (P : Program S) (b : Start S) (past : List ℕ) : Type 0 where
  pub number : ℕ
  pub path : List ℕ
  pub key : stage_key P b past ≡ number ∷ path
  pub below : IsSuffix b.path path
  pub own : b.context.final ≡ false → stage_key P b past ≡ stage_created P b past ∷ b.path

pub key_form : {S : Type 0} (P : Program S) (b : Start S) (past : List ℕ) → KeyForm P b past
unfolding stage_key stage_created
key_form P b past =
    let s = stack_from P b past in
    let f = top_frame s.base s.inner in
    let ok = stack_ok P b past in
    record {
      number = f.context.created;
      path = f.path;
      key = refl;
      below = subst (λ (z : List ℕ). IsSuffix z f.path) ok.path (nested_below (stack_nested P b past));
      own = λ open_. ap (λ (z : List (Frame _)). key_of (top_frame s.base z)) (no_inner_of_open b.context b.path s.base s.inner ok open_) ∙ ap (λ (z : List ℕ). s.base.context.created ∷ z) ok.path;
    }
