-- What was lent stays lent until a wait.
use Rattle.std.proofs.Common.{◌≡◌, ℕ, ◌⊎◌, inl, inr, refl, sym, subst, ap, ◌∙◌, List, [], ◌∷◌, Bool, true, false, length, ◌<◌}
use Rattle.oss_syntax.specs.declared.access.Access.{Access}
use Rattle.oss_syntax.specs.declared.access.Mode.{Mode}
use Rattle.oss_syntax.specs.declared.access.Op.{Op}
use Rattle.oss_syntax.specs.declared.access.Mode.TheVariants.{Read, Write, Fold}
use Rattle.std.specs.Prelude.{not, if◌then◌else◌}
use Rattle.oss_model.specs.Order.{IsSuffix, whole, longer}
use Rattle.oss_model.specs.Rights.{Right, NoRight, Released, Holds, Lending, Free, Reading, Writing, Touch, Reads}
use Rattle.oss_model.specs.Context.{Context, child_context, in_clauses, lend_cell, right_of, lent_of, mark_of, Entry, with_entries, waited_on, lend, made, wrote}
use Rattle.oss_model.specs.Bodies.{Order, Program, Act, Frame, Stack, Start, stack_act, lent_when, one_more_created, frame_after, base_after, inner_after, stack_after, settled_frame, settled_parts, next_stack, stack_from, act_of, stage_act}
use Rattle.oss_model.specs.Bodies.Act.{Store, Folded, Created, Awaited, Waited, WaitedOn, Ended, Releases}
use Rattle.oss_model.proofs.ContextLemmas.{new_lent, made_lent, wrote_lent, lent_past, child_right}
use Rattle.oss_model.proofs.JudgeLemmas.{Unlent}
use Rattle.oss_model.proofs.BodyLemmas.{settle_same}
use Rattle.oss_model.proofs.StageLemmas.{creating}

-- the lending stands for an access of this mode
abbrev pub LentFor : Mode → Lending → Type 0
LentFor m Free = ⊥
LentFor Read Reading = Unit {0}
LentFor Write Reading = ⊥
LentFor (Fold op) Reading = ⊥
LentFor m Writing = Unit {0}

-- the act ends the lending of the cell
abbrev pub Clears : {S : Type 0} → Act S → ℕ → Type 0
Clears Waited c = Unit {0}
Clears (WaitedOn named) c = in_clauses named c ≡ true
Clears _ c = ⊥

lend_cell_keeps : (r : Right) (m : Mode) (l : Lending) → LentFor m l → LentFor m (lend_cell r l)
lend_cell_keeps r m Free h = absurd h
lend_cell_keeps NoRight m Reading h = h
lend_cell_keeps Released m Reading h = h
lend_cell_keeps (Holds Read s) m Reading h = h
lend_cell_keeps (Holds Write s) m Reading h = tt
lend_cell_keeps (Holds (Fold op) s) m Reading h = tt
lend_cell_keeps NoRight m Writing h = h
lend_cell_keeps Released m Writing h = h
lend_cell_keeps (Holds Read s) m Writing h = h
lend_cell_keeps (Holds Write s) m Writing h = tt
lend_cell_keeps (Holds (Fold op) s) m Writing h = tt

lend_cell_lends : (m : Mode) (strong : Bool) (l : Lending) → LentFor m (lend_cell (Holds m strong) l)
lend_cell_lends Read s Free = tt
lend_cell_lends Read s Reading = tt
lend_cell_lends Read s Writing = tt
lend_cell_lends Write s l = tt
lend_cell_lends (Fold op) s l = tt

-- a cell that is lent keeps its entry
lent_kept : (f : ℕ → Entry) (x : Context) (m : Mode) (c : ℕ) → LentFor m (lent_of x c) → LentFor m (f c).lent → LentFor m (lent_of (with_entries f x) c)
lent_kept f x m c h k = go (lent_past x c)
  where
    go : (c < length x.entries) ⊎ (lent_of x c ≡ Free) → LentFor m (lent_of (with_entries f x) c)
    go (inl l) = subst (λ (z : Lending). LentFor m z) (sym (new_lent f x c l)) k
    go (inr e) = absurd (subst (λ (z : Lending). LentFor m z) e h)

lend_when_keeps : (w : Bool) (given : ℕ → Right) (x : Context) (m : Mode) (c : ℕ) → LentFor m (lent_of x c) → LentFor m (lent_of (lent_when w given x) c)
lend_when_keeps true given x m c h = lent_kept (λ d. record { right = right_of x d; lent = lend_cell (given d) (lent_of x d); mark = mark_of x d }) x m c h (lend_cell_keeps (given c) m (lent_of x c) h)
lend_when_keeps false given x m c h = h

waited_on_keeps : (named : List Access) (x : Context) (m : Mode) (c : ℕ) → LentFor m (lent_of x c) → (in_clauses named c ≡ true) ⊎ LentFor m (lent_of (waited_on named x) c)
waited_on_keeps named x m c h = go (in_clauses named c) refl
  where
    go : (b : Bool) → in_clauses named c ≡ b → (in_clauses named c ≡ true) ⊎ LentFor m (lent_of (waited_on named x) c)
    go true e = inl e
    go false e = inr (lent_kept (λ d. record { right = right_of x d; lent = if in_clauses named d then Free else lent_of x d; mark = mark_of x d }) x m c h (rw e h))

made_keeps : (given : ℕ → Right) (x : Context) (m : Mode) (c : ℕ) → LentFor m (lent_of x c) → LentFor m (lent_of (made given x) c)
made_keeps given x m c h = subst (λ (z : Lending). LentFor m z) (sym (made_lent given x c)) h

wrote_keeps : (cell : ℕ) (x : Context) (m : Mode) (c : ℕ) → LentFor m (lent_of x c) → LentFor m (lent_of (wrote cell x) c)
wrote_keeps cell x m c h = subst (λ (z : Lending). LentFor m z) (sym (wrote_lent cell x c)) h

frame_lent : {S : Type 0} (a : Act S) (v : ℕ) (f : Frame S) (m : Mode) (c : ℕ) → LentFor m (lent_of f.context c) → Clears a c ⊎ LentFor m (lent_of (frame_after a v f).context c)
frame_lent Waited v f m c h = inl tt
frame_lent (WaitedOn named) v f m c h = waited_on_keeps named f.context m c h
frame_lent (Store cell value) v f m c h = inr (wrote_keeps cell f.context m c h)
frame_lent (Folded cell op value slot) v f m c h = inr (wrote_keeps cell f.context m c h)
frame_lent (Created o i) v f m c h =
    let given = right_of (child_context f.context o.clauses o.last) in
    inr (made_keeps given (lent_when o.when given (one_more_created f.context)) m c (lend_when_keeps o.when given (one_more_created f.context) m c h))
frame_lent (Releases clauses i) v f m c h = inr (lent_kept (λ d. record { right = if in_clauses clauses d then Released else right_of f.context d; lent = lent_of f.context d; mark = mark_of f.context d }) f.context m c h h)
frame_lent _ v f m c h = inr h

base_lent : {S : Type 0} (a : Act S) (v : ℕ) (f : Frame S) (m : Mode) (c : ℕ) → LentFor m (lent_of f.context c) → Clears a c ⊎ LentFor m (lent_of (base_after a v f).base.context c)
base_lent Ended v f m c h = inr h
base_lent (Created o true) v f m c h = inr (made_keeps (right_of (child_context f.context o.clauses o.last)) (one_more_created f.context) m c h)
base_lent (Store cell value) v f m c h = frame_lent (Store cell value) v f m c h
base_lent (Folded cell op value slot) v f m c h = frame_lent (Folded cell op value slot) v f m c h
base_lent Waited v f m c h = frame_lent Waited v f m c h
base_lent (WaitedOn named) v f m c h = frame_lent (WaitedOn named) v f m c h
base_lent (Created o false) v f m c h = frame_lent (Created o false) v f m c h
base_lent (Releases clauses i) v f m c h = frame_lent (Releases clauses i) v f m c h
base_lent _ v f m c h = inr h

inner_lent : {S : Type 0} (a : Act S) (v : ℕ) (base f : Frame S) (fs : List (Frame S)) (m : Mode) (c : ℕ) → LentFor m ((lent_of base.context) c) → LentFor m ((lent_of (inner_after a v base f fs).base.context) c)
inner_lent Ended v base f fs m c h = h
inner_lent (Created o i) v base f fs m c h = h
inner_lent _ v base f fs m c h = h

stepped_lent : {S : Type 0} (a : Act S) (v : ℕ) (base : Frame S) (inner : List (Frame S)) (m : Mode) (c : ℕ) → LentFor m ((lent_of base.context) c) → Clears a c ⊎ LentFor m ((lent_of (stack_after a v base inner).base.context) c)
stepped_lent a v base [] m c h = base_lent a v base m c h
stepped_lent a v base (f ∷ fs) m c h = inr (inner_lent a v base f fs m c h)

settled_lent : {S : Type 0} (P : Program S) (base : Frame S) (inner : List (Frame S)) (over : Bool) (m : Mode) (c : ℕ) → LentFor m ((lent_of base.context) c) → LentFor m ((lent_of (settled_parts P base inner over).base.context) c)
settled_lent P base [] over m c h = subst (λ (x : Context). LentFor m ((lent_of x) c)) (sym (settle_same P base).context) h
settled_lent P base (f ∷ fs) over m c h = h

abbrev pub stage_lent : {S : Type 0} → Program S → Start S → List ℕ → ℕ → Lending
stage_lent P b past c = (lent_of (stack_from P b past).base.context) c

next_lent : {S : Type 0} (P : Program S) (b : Start S) (v : ℕ) (vs : List ℕ) (m : Mode) (c : ℕ) → LentFor m (stage_lent P b vs c) → Clears (stage_act P b vs) c ⊎ LentFor m (stage_lent P b (v ∷ vs) c)
unfolding stack_from stage_act act_of
next_lent P b v vs m c h = go (stepped_lent (stage_act P b vs) v (stack_from P b vs).base (stack_from P b vs).inner m c h)
  where
    go : Clears (stage_act P b vs) c ⊎ LentFor m ((lent_of (stack_after (stage_act P b vs) v (stack_from P b vs).base (stack_from P b vs).inner).base.context) c) → Clears (stage_act P b vs) c ⊎ LentFor m (stage_lent P b (v ∷ vs) c)
    go (inl k) = inl k
    go (inr k) = inr (let n = stack_after (stage_act P b vs) v (stack_from P b vs).base (stack_from P b vs).inner in settled_lent P n.base n.inner n.ended m c k)

-- a stage at which the body passed a wait for the cell
pub record Cleared {S : Type 0} (P : Program S) (b : Start S) (from to : List ℕ) (c : ℕ) : Type 0 where
  pub past : List ℕ
  pub answer : ℕ
  pub after : IsSuffix from past
  pub happened : IsSuffix (answer ∷ past) to
  pub clears : Clears (stage_act P b past) c

-- from where a cell was lent on, a wait for it was passed or it is lent
pub lent_or_cleared : {S : Type 0} (P : Program S) (b : Start S) (from : List ℕ) {to : List ℕ} (m : Mode) (c : ℕ) → LentFor m (stage_lent P b from c) → IsSuffix from to → Cleared P b from to c ⊎ LentFor m (stage_lent P b to c)
lent_or_cleared P b from m c h whole = inr h
lent_or_cleared P b from m c h (longer {y = v} {ys = vs} k) = go (lent_or_cleared P b from m c h k)
  where
    at : Clears (stage_act P b vs) c ⊎ LentFor m (stage_lent P b (v ∷ vs) c) → Cleared P b from (v ∷ vs) c ⊎ LentFor m (stage_lent P b (v ∷ vs) c)
    at (inl e) = inl (record { past = vs; answer = v; after = k; happened = whole; clears = e })
    at (inr e) = inr e

    go : Cleared P b from vs c ⊎ LentFor m (stage_lent P b vs c) → Cleared P b from (v ∷ vs) c ⊎ LentFor m (stage_lent P b (v ∷ vs) c)
    go (inl e) = inl (record { past = e.past; answer = e.answer; after = e.after; happened = longer e.happened; clears = e.clears })
    go (inr e) = at (next_lent P b v vs m c e)

stack_create_lends : {S : Type 0} (P : Program S) (slots : ℕ → Right) (v : ℕ) (base : Frame S) (inner : List (Frame S)) (over : Bool) (o : Order S) (c : ℕ) (m : Mode) (strong : Bool)
    → inner ≡ [] → stack_act P slots base inner over ≡ Created o false → o.when ≡ true → (right_of (child_context base.context o.clauses o.last)) c ≡ Holds m strong
    → LentFor m ((lent_of (next_stack P slots v (record { base = base; inner = inner; ended = over })).base.context) c)
stack_create_lends P slots v base (f ∷ fs) over o c m strong e a w r = absurd (cc (e))
stack_create_lends P slots v base [] over o c m strong e a w r =
    let n = stack_after (stack_act P slots base [] over) v base [] in
    let within = (child_right base.context o.clauses o.last c m strong r).1 in
    let given = right_of (child_context base.context o.clauses o.last) in
    let x = one_more_created base.context in
    let k : lent_of (made given (lend given x)) c ≡ lend_cell (given c) (lent_of x c) = made_lent given (lend given x) c ∙ new_lent (λ d. record { right = right_of x d; lent = lend_cell (given d) (lent_of x d); mark = mark_of x d }) x c within in
    let l : LentFor m (lend_cell (given c) (lent_of x c)) = subst (λ (z : Right). LentFor m (lend_cell z (lent_of x c))) (sym r) (lend_cell_lends m strong (lent_of x c)) in
    settled_lent P n.base n.inner n.ended m c (rw (a, w) (subst (λ (z : Lending). LentFor m z) (sym k) l))

-- a creation that is awaited by no false if lends the cells of the new task
pub created_lends : {S : Type 0} (P : Program S) (b : Start S) (v : ℕ) (past : List ℕ) (o : Order S) (c : ℕ) (m : Mode) (strong : Bool)
    → stage_act P b past ≡ Created o false → o.when ≡ true → (right_of (child_context (stack_from P b past).base.context o.clauses o.last)) c ≡ Holds m strong → LentFor m (stage_lent P b (v ∷ past) c)
unfolding stack_from stage_act act_of
created_lends P b v past o c m strong a w r =
    let s = stack_from P b past in
    stack_create_lends P (right_of b.context) v s.base s.inner s.ended o c m strong (creating P b past o a).alone a w r

awaited : {S : Type 0} (P : Program S) (slots : ℕ → Right) (base : Frame S) (inner : List (Frame S)) (over : Bool) → base.awaits ≡ true → inner ≡ [] → over ≡ false → stack_act P slots base inner over ≡ Awaited
awaited P slots base inner over a b c = rw (c, b, a) refl

stack_create_awaits : {S : Type 0} (P : Program S) (slots : ℕ → Right) (v : ℕ) (base : Frame S) (inner : List (Frame S)) (over : Bool) (o : Order S)
    → inner ≡ [] → stack_act P slots base inner over ≡ Created o false → o.when ≡ false
    → act_of P slots (next_stack P slots v (record { base = base; inner = inner; ended = over })) ≡ Awaited
unfolding act_of
stack_create_awaits P slots v base (f ∷ fs) over o e a w = absurd (cc (e))
stack_create_awaits {S = S} P slots v base [] over o e a w =
    let n = stack_after (stack_act P slots base [] over) v base [] in
    let d : n ≡ record { base = frame_after (Created o false) v base; inner = []; ended = false } = rw a refl in
    let k : (settled_frame P (frame_after (Created o false) v base)).awaits ≡ true = (settle_same P (frame_after (Created o false) v base)).awaits ∙ ap not w in
    subst (λ (z : Stack S). stack_act P slots (settled_parts P z.base z.inner z.ended).base (settled_parts P z.base z.inner z.ended).inner (settled_parts P z.base z.inner z.ended).ended ≡ Awaited) (sym d) (awaited P slots (settled_frame P (frame_after (Created o false) v base)) [] false k refl refl)

-- after a creation under a false if the await stands next
pub created_awaits : {S : Type 0} (P : Program S) (b : Start S) (v : ℕ) (past : List ℕ) (o : Order S) → stage_act P b past ≡ Created o false → o.when ≡ false → stage_act P b (v ∷ past) ≡ Awaited
unfolding stack_from stage_act act_of
created_awaits P b v past o a w =
    let s = stack_from P b past in
    stack_create_awaits P (right_of b.context) v s.base s.inner s.ended o (creating P b past o a).alone a w

-- a touch under lending: both read, or the right is a fold
pub lent_touch : (held m : Mode) (t : Touch) (l : Lending) → Unlent held t l → LentFor m l → ((t ≡ Reads) × (m ≡ Read)) ⊎ ((op : Op) × (held ≡ Fold op))
lent_touch Read m t Free (Unlent.read n) h = absurd h
lent_touch Read Read t Reading (Unlent.read n) h = inl (refl, refl)
lent_touch Read Write t Reading (Unlent.read n) h = absurd h
lent_touch Read (Fold op) t Reading (Unlent.read n) h = absurd h
lent_touch Read m t Writing (Unlent.read n) h = absurd (n refl)
lent_touch Write m t Free (Unlent.write_read n) h = absurd h
lent_touch Write Read t Reading (Unlent.write_read n) h = inl (refl, refl)
lent_touch Write Write t Reading (Unlent.write_read n) h = absurd h
lent_touch Write (Fold op) t Reading (Unlent.write_read n) h = absurd h
lent_touch Write m t Writing (Unlent.write_read n) h = absurd (n refl)
lent_touch Write m t l Unlent.write h = absurd h
lent_touch (Fold op) m t l Unlent.fold h = inr (op, refl)
