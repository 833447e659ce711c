-- What the stack of a body keeps.
use Rattle.std.proofs.Common.{◌≡◌, ℕ, ◌⊎◌, inl, inr, refl, sym, subst, ap, ◌∙◌, List, [], ◌∷◌, Bool, true, false, Option, Some, None}
use Rattle.oss_syntax.specs.declared.access.Access.{Access}
use Rattle.oss_syntax.specs.declared.access.Mode.{Mode}
use Rattle.oss_syntax.specs.declared.access.Op.TheVariants.{Add, And, Or, Xor}
use Rattle.oss_syntax.specs.declared.access.Mode.TheVariants.{Read, Write, Fold}
use Rattle.oss_syntax.specs.declared.fault.FaultKind.{FaultKind}
use Rattle.std.specs.Prelude.{◌||◌, if◌then◌else◌}
use Rattle.oss_model.specs.Order.{IsIn, here, there}
use Rattle.oss_model.specs.Rights.{Right, NoRight, Released, Holds, Reads, Writes, Folds, covers, touch_fault, in_access, right_from, joined_mode, right_held, joined_right, Free}
use Rattle.oss_model.specs.Context.{Context, clause_fault, child_context, in_clauses, create_fault, release_fault, wait_on_fault, tick_fault, right_of, lent_of, mark_of, release, lend_cell, or_else, creation_fault}
use Rattle.oss_model.specs.Bodies.{Order, Ask, Program, Act, Frame, Stack, Start, judged_act, act_of_ask, ask_of, frame_act, stack_act, answered_frame, child_frame, one_more_created, lent_when, frame_after, including_frame, base_after, inner_after, stack_after, past_ask, past_silent, settled_frame, settled_parts, next_stack, start_frame, stack_from, IsHalt}
use Rattle.oss_model.specs.Bodies.Act.{Ticked, Load, Store, Folded, Created, Awaited, Waited, WaitedOn, Releases, Printed, Ended, Fault, Over}
use Rattle.oss_model.proofs.ContextLemmas.{same_right, made_right, wrote_right, entry_cases, child_right}
use Rattle.oss_model.proofs.JudgeLemmas.{Covered, covers_trans, clauses_covered}

-- the second frame is of the same task, and has lost at most rights
pub record FrameKept {S : Type 0} (f g : Frame S) : Type 0 where
  pub path : g.path ≡ f.path
  pub final : g.context.final ≡ f.context.final
  pub right : (c : ℕ) → ((right_of g.context) c ≡ (right_of f.context) c) ⊎ ((right_of g.context) c ≡ Released)

pub frame_same : {S : Type 0} (f : Frame S) → FrameKept f f
frame_same f = record { path = refl; final = refl; right = λ c. inl refl }

release_right : (b : Bool) (r : Right) → ((if b then Released else r) ≡ r) ⊎ ((if b then Released else r) ≡ Released)
release_right true r = inr refl
release_right false r = inl refl

released_right : (clauses : List Access) (x : Context) (c : ℕ) → (right_of (release clauses x) c ≡ right_of x c) ⊎ (right_of (release clauses x) c ≡ Released)
released_right clauses x c = go (entry_cases (λ d. record { right = if in_clauses clauses d then Released else right_of x d; lent = lent_of x d; mark = mark_of x d }) x c) (release_right (in_clauses clauses c) (right_of x c))
  where
    go : (right_of (release clauses x) c ≡ (if in_clauses clauses c then Released else right_of x c)) ⊎ ((right_of (release clauses x) c ≡ NoRight) × (right_of x c ≡ NoRight))
        → ((if in_clauses clauses c then Released else right_of x c) ≡ right_of x c) ⊎ ((if in_clauses clauses c then Released else right_of x c) ≡ Released)
        → (right_of (release clauses x) c ≡ right_of x c) ⊎ (right_of (release clauses x) c ≡ Released)
    go (inl e) (inl h) = inl (e ∙ h)
    go (inl e) (inr h) = inr (e ∙ h)
    go (inr e) h = inl (e.0 ∙ sym e.1)

lend_when_right : (w : Bool) (given : ℕ → Right) (x : Context) (c : ℕ) → (right_of (lent_when w given x)) c ≡ (right_of x) c
lend_when_right true given x c = same_right (λ d. record { right = right_of x d; lent = lend_cell (given d) (lent_of x d); mark = mark_of x d }) x c refl
lend_when_right false given x c = refl

lend_when_final : (w : Bool) (given : ℕ → Right) (x : Context) → (lent_when w given x).final ≡ x.final
lend_when_final true given x = refl
lend_when_final false given x = refl

pub frame_after_kept : {S : Type 0} (act : Act S) (v : ℕ) (f : Frame S) → FrameKept f (frame_after act v f)
frame_after_kept Ticked v f = record { path = refl; final = refl; right = λ c. inl refl }
frame_after_kept (Store cell value) v f = record { path = refl; final = refl; right = λ c. inl (wrote_right cell f.context c) }
frame_after_kept (Folded cell op value slot) v f = record { path = refl; final = refl; right = λ c. inl (wrote_right cell f.context c) }
frame_after_kept (Created o included) v f =
    let given = right_of (child_context f.context o.clauses o.last) in
    let lent = lent_when o.when given (one_more_created f.context) in
    record {
      path = refl;
      final = lend_when_final o.when given (one_more_created f.context);
      right = λ c. inl (made_right given lent c ∙ lend_when_right o.when given (one_more_created f.context) c);
    }
frame_after_kept Awaited v f = record { path = refl; final = refl; right = λ c. inl refl }
frame_after_kept Waited v f = record { path = refl; final = refl; right = λ c. inl (same_right (λ d. record { right = right_of f.context d; lent = Free; mark = mark_of f.context d }) f.context c refl) }
frame_after_kept (WaitedOn named) v f = record { path = refl; final = refl; right = λ c. inl (same_right (λ d. record { right = right_of f.context d; lent = if in_clauses named d then Free else lent_of f.context d; mark = mark_of f.context d }) f.context c refl) }
frame_after_kept (Releases clauses included) v f = record { path = refl; final = refl; right = λ c. released_right clauses f.context c }
frame_after_kept _ v f = record { path = refl; final = refl; right = λ c. inl refl }

-- the second frame differs in its answers alone
pub record SameButAnswers {S : Type 0} (f g : Frame S) : Type 0 where
  pub context : g.context ≡ f.context
  pub path : g.path ≡ f.path
  pub awaits : g.awaits ≡ f.awaits

passed_same : {S : Type 0} (P : Program S) (f : Frame S) (a : Ask S) → SameButAnswers f (past_ask P f a)
passed_same P f Ask.Begin = split (create_fault f.context)
  where
    split : (o : Option FaultKind) → SameButAnswers f (elim o [ None ↦ answered_frame 0 f | Some kind ↦ f ])
    split None = record { context = refl; path = refl; awaits = refl }
    split (Some kind) = record { context = refl; path = refl; awaits = refl }
passed_same P f Ask.Await = split f.awaits
  where
    split : (b : Bool) → SameButAnswers f (if b then f else answered_frame 0 f)
    split true = record { context = refl; path = refl; awaits = refl }
    split false = record { context = refl; path = refl; awaits = refl }
passed_same P f _ = record { context = refl; path = refl; awaits = refl }

pub settle_same : {S : Type 0} (P : Program S) (f : Frame S) → SameButAnswers f (settled_frame P f)
settle_same P f =
    let a = passed_same P f (ask_of P f).ask in
    let b = passed_same P (past_silent P f) (ask_of P (past_silent P f)).ask in
    record { context = b.context ∙ a.context; path = b.path ∙ a.path; awaits = b.awaits ∙ a.awaits }

pub judged_goes : {S : Type 0} (f : Frame S) (line : ℕ) (r : Option FaultKind) (act a : Act S) → judged_act f line r act ≡ a → (IsHalt a → ⊥) → (r ≡ None) × (act ≡ a)
judged_goes f line None act a h g = (refl, h)
judged_goes f line (Some kind) act a h g = absurd (g (subst IsHalt h tt))

creation_clauses : (a b : Option FaultKind) → or_else a b ≡ None → b ≡ None
creation_clauses None b h = h
creation_clauses (Some kind) b h = cc

-- what stands behind a creation
pub record CreatedBy {S : Type 0} (f : Frame S) (o : Order S) (included : Bool) : Type 0 where
  pub fault : clause_fault f.context o.clauses (f.context.final || o.last) ≡ None
  pub flag : included ≡ f.context.final

created_by : {S : Type 0} (slots : ℕ → Right) (inc : Bool) (f : Frame S) (a : Ask S) (line : ℕ) (o : Order S) (i : Bool) → act_of_ask slots inc f a line ≡ Created o i → CreatedBy f o i
created_by slots inc f Ask.Begin line o i h = let k = judged_goes f line (create_fault f.context) _ (Created o i) h (λ s. s) in cc (k.1)
created_by slots inc f Ask.Tick line o i h = let k = judged_goes f line (tick_fault f.context) Ticked (Created o i) h (λ s. s) in cc (k.1)
created_by slots inc f (Ask.Read c) line o i h = let k = judged_goes f line (touch_fault ((right_of f.context) c) ((lent_of f.context) c) ((mark_of f.context) c) Reads) (Load c) (Created o i) h (λ s. s) in cc (k.1)
created_by slots inc f (Ask.Write c v) line o i h = let k = judged_goes f line (touch_fault ((right_of f.context) c) ((lent_of f.context) c) ((mark_of f.context) c) Writes) _ (Created o i) h (λ s. s) in cc (k.1)
created_by slots inc f (Ask.Fold c op v) line o i h = let k = judged_goes f line (touch_fault ((right_of f.context) c) ((lent_of f.context) c) ((mark_of f.context) c) (Folds op)) _ (Created o i) h (λ s. s) in cc (k.1)
created_by slots inc f (Ask.Create p) line o i h =
    let k = judged_goes f line (creation_fault f.context p.clauses (f.context.final || p.last)) (Created p f.context.final) (Created o i) h (λ s. s) in
    let k0 = creation_clauses (create_fault f.context) (clause_fault f.context p.clauses (f.context.final || p.last)) k.0 in
    let e : p ≡ o = cc (k.1) in
    record { fault = subst (λ (q : Order _). clause_fault f.context q.clauses (f.context.final || q.last) ≡ None) e k0; flag = cc (k.1) }
created_by slots inc f Ask.Await line o i h = cc
created_by slots inc f Ask.Wait line o i h = cc
created_by slots inc f (Ask.WaitOn named) line o i h = let k = judged_goes f line (wait_on_fault f.context named) (WaitedOn named) (Created o i) h (λ s. s) in cc (k.1)
created_by slots inc f (Ask.Release clauses) line o i h = let k = judged_goes f line (release_fault f.context clauses) (Releases clauses inc) (Created o i) h (λ s. s) in cc (k.1)
created_by slots inc f (Ask.Print text) line o i h = cc
created_by slots inc f Ask.End line o i h = cc
created_by slots inc f (Ask.Fails kind) line o i h = cc

frame_created : {S : Type 0} (P : Program S) (slots : ℕ → Right) (inc : Bool) (f : Frame S) (w : Bool) (o : Order S) (i : Bool) → frame_act P slots inc f w ≡ Created o i → CreatedBy f o i
frame_created P slots inc f true o i h = cc
frame_created P slots inc f false o i h = created_by slots inc f (ask_of P f).ask (ask_of P f).line o i h

-- a creation of the task itself, and one of a task that it includes
pub base_created : {S : Type 0} (P : Program S) (slots : ℕ → Right) (base : Frame S) (over : Bool) (o : Order S) (i : Bool) → stack_act P slots base [] over ≡ Created o i → CreatedBy base o i
base_created P slots base true o i h = cc
base_created P slots base false o i h = frame_created P slots false base base.awaits o i h

pub inner_created : {S : Type 0} (P : Program S) (slots : ℕ → Right) (base f : Frame S) (fs : List (Frame S)) (over : Bool) (o : Order S) (i : Bool) → stack_act P slots base (f ∷ fs) over ≡ Created o i → CreatedBy f o i
inner_created P slots base f fs true o i h = cc
inner_created P slots base f fs false o i h = frame_created P slots true f f.awaits o i h

pub record InnerOk {S : Type 0} (base : Context) (f : Frame S) : Type 0 where
  pub final : f.context.final ≡ true
  pub owner : base.final ≡ true
  pub covered : (c : ℕ) (m : Mode) (strong : Bool) → (right_of f.context) c ≡ Holds m strong → (strong ≡ true) × Covered ((right_of base) c) m

pub record StackOk {S : Type 0} (x : Context) (p : List ℕ) (base : Frame S) (included : List (Frame S)) : Type 0 where
  pub path : base.path ≡ p
  pub final : base.context.final ≡ x.final
  pub right : (c : ℕ) → ((right_of base.context) c ≡ (right_of x) c) ⊎ ((right_of base.context) c ≡ Released)
  pub inner : (f : Frame S) → IsIn f included → InnerOk base.context f

no_inner : {S : Type 0} (f : Frame S) {A : Type 0} → IsIn f [] → A
no_inner f h = elim h [ ]

pub lost_right : (r s t : Right) → (s ≡ r) ⊎ (s ≡ Released) → (t ≡ s) ⊎ (t ≡ Released) → (t ≡ r) ⊎ (t ≡ Released)
lost_right r s t (inl e) (inl g) = inl (g ∙ e)
lost_right r s t (inr e) (inl g) = inr (g ∙ e)
lost_right r s t h (inr g) = inr g

-- the base of a body with no included task goes on
base_kept : {S : Type 0} {x : Context} {path : List ℕ} {base g : Frame S} → StackOk x path base [] → FrameKept base g → StackOk x path g []
base_kept {base = base} {g = g} ok k =
    record {
      path = k.path ∙ ok.path;
      final = k.final ∙ ok.final;
      right = λ c. lost_right _ _ _ (ok.right c) (k.right c);
      inner = λ f h. no_inner f h;
    }

-- a change of the top frame that loses at most rights keeps it covered
covered_still : (r s t : Right) (m : Mode) (strong : Bool) → (s ≡ r) ⊎ (s ≡ Released) → s ≡ Holds m strong → r ≡ Holds m strong
covered_still r s t m strong (inl e) h = sym e ∙ h
covered_still r s t m strong (inr e) h = cc

inner_kept : {S : Type 0} {x : Context} {f g : Frame S} → InnerOk x f → FrameKept f g → InnerOk x g
inner_kept {f = f} {g = g} ok k =
    record {
      final = k.final ∙ ok.final;
      owner = ok.owner;
      covered = λ c m strong h. ok.covered c m strong (covered_still ((right_of f.context) c) ((right_of g.context) c) ((right_of g.context) c) m strong (k.right c) h);
    }

top_kept : {S : Type 0} {x : Context} {path : List ℕ} {base f g : Frame S} {fs : List (Frame S)} → StackOk x path base (f ∷ fs) → FrameKept f g → StackOk x path base (g ∷ fs)
top_kept {base = base} {f = f} {g = g} {fs = fs} ok k =
    record { path = ok.path; final = ok.final; right = ok.right; inner = λ h i. go h i }
  where
    go : (h : Frame _) → IsIn h (g ∷ fs) → InnerOk base.context h
    go h here = inner_kept (ok.inner f here) k
    go h (there i) = ok.inner h (there i)

join_strong : (o : Option Mode) (s : Bool) (m : Mode) (strong : Bool) → right_held o s ≡ Holds m strong → strong ≡ s
join_strong (Some n) s m strong h = cc
join_strong None s m strong h = cc

-- each access of a final task is strong
pub final_strong : (final : Bool) (xs : List Access) (c : ℕ) (m : Mode) (strong : Bool) → final ≡ true → right_from final xs c ≡ Holds m strong → strong ≡ true
final_strong final [] c m strong f h = cc
final_strong final (a ∷ rest) c m strong f h = split (in_access a c) refl (λ e. final_strong final rest c m strong f (rw e at h))
  where
    joined : (r : Right) → joined_right a.mode (final || a.strong) r ≡ Holds m strong → strong ≡ true
    joined NoRight k = rw f at (let e : strong ≡ (final || a.strong) = cc in e)
    joined Released k = rw f at (let e : strong ≡ (final || a.strong) = cc in e)
    joined (Holds n other) k = rw f at (join_strong (joined_mode a.mode n) ((final || a.strong) || other) m strong k)

    split : (b : Bool) → in_access a c ≡ b → (in_access a c ≡ false → strong ≡ true) → strong ≡ true
    split true e g = joined (right_from final rest c) (rw e at h)
    split false e g = g e

pub nothing_lost : {S : Type 0} (o : Order S) (f : Frame S) → FrameKept f (including_frame o f)
nothing_lost o f = record { path = refl; final = refl; right = λ c. inl (made_right (right_of (child_context f.context o.clauses o.last)) (one_more_created f.context) c) }

pub or_true : (a b : Bool) → a ≡ true → (a || b) ≡ true
or_true a b h = rw h refl

-- the frame of an included task
child_ok : {S : Type 0} (x : Context) (f : Frame S) (o : Order S) → f.context.final ≡ true → x.final ≡ true → clause_fault f.context o.clauses (f.context.final || o.last) ≡ None
    → ((c : ℕ) (m : Mode) (strong : Bool) → (right_of f.context) c ≡ Holds m strong → Covered ((right_of x) c) m) → InnerOk x (child_frame f o)
child_ok x f o fin own none cov =
    record {
      final = or_true f.context.final o.last fin;
      owner = own;
      covered = λ c m strong h.
          let h2 = (child_right f.context o.clauses o.last c m strong h).0 in
          let k = clauses_covered f.context o.clauses (f.context.final || o.last) none c m strong h2 in
          let l = cov c k.mode k.strong k.holds in
          (final_strong (f.context.final || o.last) o.clauses c m strong (or_true f.context.final o.last fin) h2, record { mode = l.mode; strong = l.strong; holds = l.holds; covers = covers_trans l.mode k.mode m l.covers k.covers });
    }

one_inner : {S : Type 0} {x : Context} {p : List ℕ} {base f g : Frame S} → StackOk x p base [] → FrameKept base g → ((c : ℕ) → right_of g.context c ≡ right_of base.context c) → InnerOk base.context f → StackOk x p g (f ∷ [])
one_inner {base = base} {f = f} {g = g} ok k e i =
    let b = base_kept ok k in
    record { path = b.path; final = b.final; right = b.right; inner = λ h j. go h j }
  where
    go : (h : Frame _) → IsIn h (f ∷ []) → InnerOk g.context h
    go h here =
        record {
          final = i.final;
          owner = k.final ∙ i.owner;
          covered = λ c m strong r. let l = i.covered c m strong r in (l.0, subst (λ (z : Right). Covered z m) (sym (e c)) l.1);
        }
    go h (there j) = elim j [ ]

deeper : {S : Type 0} {x : Context} {p : List ℕ} {base f g : Frame S} {fs : List (Frame S)} → StackOk x p base (f ∷ fs) → InnerOk base.context g → StackOk x p base (g ∷ f ∷ fs)
deeper {base = base} {f = f} {g = g} {fs = fs} ok i = record { path = ok.path; final = ok.final; right = ok.right; inner = λ h j. go h j }
  where
    go : (h : Frame _) → IsIn h (g ∷ f ∷ fs) → InnerOk base.context h
    go h here = i
    go h (there j) = ok.inner h j

less_inner : {S : Type 0} {x : Context} {p : List ℕ} {base f : Frame S} {fs : List (Frame S)} → StackOk x p base (f ∷ fs) → StackOk x p base fs
less_inner ok = record { path = ok.path; final = ok.final; right = ok.right; inner = λ h j. ok.inner h (there j) }

-- a stack after an act
base_step : {S : Type 0} (P : Program S) (slots : ℕ → Right) (x : Context) (p : List ℕ) (base : Frame S) (over : Bool) (v : ℕ) (a : Act S) → stack_act P slots base [] over ≡ a → StackOk x p base [] → StackOk x p (base_after a v base).base (base_after a v base).inner
base_step P slots x p base over v Ended h ok = ok
base_step P slots x p base over v (Created o true) h ok =
    let k = base_created P slots base over o true h in
    one_inner ok (nothing_lost o base) (made_right (right_of (child_context base.context o.clauses o.last)) (one_more_created base.context)) (child_ok base.context base o (sym k.flag) (sym k.flag) k.fault (λ c m strong r. record { mode = m; strong = strong; holds = r; covers = covers_self m }))
  where
    covers_self : (m : Mode) → covers m m ≡ true
    covers_self Read = refl
    covers_self Write = refl
    covers_self (Fold Add) = refl
    covers_self (Fold And) = refl
    covers_self (Fold Or) = refl
    covers_self (Fold Xor) = refl
base_step P slots x p base over v (Created o false) h ok = base_kept ok (frame_after_kept (Created o false) v base)
base_step P slots x p base over v Ticked h ok = base_kept ok (frame_after_kept Ticked v base)
base_step P slots x p base over v (Load c) h ok = base_kept ok (frame_after_kept (Load c) v base)
base_step P slots x p base over v (Store c w) h ok = base_kept ok (frame_after_kept (Store c w) v base)
base_step P slots x p base over v (Folded c op w slot) h ok = base_kept ok (frame_after_kept (Folded c op w slot) v base)
base_step P slots x p base over v Awaited h ok = base_kept ok (frame_after_kept Awaited v base)
base_step P slots x p base over v Waited h ok = base_kept ok (frame_after_kept Waited v base)
base_step P slots x p base over v (WaitedOn named) h ok = base_kept ok (frame_after_kept (WaitedOn named) v base)
base_step P slots x p base over v (Releases clauses included) h ok = base_kept ok (frame_after_kept (Releases clauses included) v base)
base_step P slots x p base over v (Printed key text) h ok = base_kept ok (frame_after_kept (Printed key text) v base)
base_step P slots x p base over v (Fault kind line key) h ok = base_kept ok (frame_after_kept (Fault kind line key) v base)
base_step P slots x p base over v Over h ok = base_kept ok (frame_after_kept Over v base)

inner_step : {S : Type 0} (P : Program S) (slots : ℕ → Right) (x : Context) (p : List ℕ) (base f : Frame S) (fs : List (Frame S)) (over : Bool) (v : ℕ) (a : Act S) → stack_act P slots base (f ∷ fs) over ≡ a → StackOk x p base (f ∷ fs) → StackOk x p (inner_after a v base f fs).base (inner_after a v base f fs).inner
inner_step P slots x p base f fs over v Ended h ok = less_inner ok
inner_step P slots x p base f fs over v (Created o i) h ok =
    let k = inner_created P slots base f fs over o i h in
    let j = ok.inner f here in
    deeper (top_kept ok (nothing_lost o f)) (child_ok base.context f o j.final j.owner k.fault (λ c m strong r. (j.covered c m strong r).1))
inner_step P slots x p base f fs over v Ticked h ok = top_kept ok (frame_after_kept Ticked v f)
inner_step P slots x p base f fs over v (Load c) h ok = top_kept ok (frame_after_kept (Load c) v f)
inner_step P slots x p base f fs over v (Store c w) h ok = top_kept ok (frame_after_kept (Store c w) v f)
inner_step P slots x p base f fs over v (Folded c op w slot) h ok = top_kept ok (frame_after_kept (Folded c op w slot) v f)
inner_step P slots x p base f fs over v Awaited h ok = top_kept ok (frame_after_kept Awaited v f)
inner_step P slots x p base f fs over v Waited h ok = top_kept ok (frame_after_kept Waited v f)
inner_step P slots x p base f fs over v (WaitedOn named) h ok = top_kept ok (frame_after_kept (WaitedOn named) v f)
inner_step P slots x p base f fs over v (Releases clauses included) h ok = top_kept ok (frame_after_kept (Releases clauses included) v f)
inner_step P slots x p base f fs over v (Printed key text) h ok = top_kept ok (frame_after_kept (Printed key text) v f)
inner_step P slots x p base f fs over v (Fault kind line key) h ok = top_kept ok (frame_after_kept (Fault kind line key) v f)
inner_step P slots x p base f fs over v Over h ok = top_kept ok (frame_after_kept Over v f)

pub settle_kept : {S : Type 0} (P : Program S) (f : Frame S) → FrameKept f (settled_frame P f)
settle_kept P f =
    let k = settle_same P f in
    record { path = k.path; final = ap (λ (x : Context). x.final) k.context; right = λ c. inl (ap (λ (x : Context). (right_of x) c) k.context) }

settle_ok : {S : Type 0} (P : Program S) (x : Context) (p : List ℕ) (base : Frame S) (inner : List (Frame S)) (over : Bool) → StackOk x p base inner → StackOk x p (settled_parts P base inner over).base (settled_parts P base inner over).inner
settle_ok P x p base [] over ok = base_kept ok (settle_kept P base)
settle_ok P x p base (f ∷ fs) over ok = top_kept ok (settle_kept P f)

step_ok : {S : Type 0} (P : Program S) (slots : ℕ → Right) (x : Context) (p : List ℕ) (base : Frame S) (inner : List (Frame S)) (over : Bool) (v : ℕ) → StackOk x p base inner
    → StackOk x p (stack_after (stack_act P slots base inner over) v base inner).base (stack_after (stack_act P slots base inner over) v base inner).inner
step_ok P slots x p base [] over v ok = base_step P slots x p base over v (stack_act P slots base [] over) refl ok
step_ok P slots x p base (f ∷ fs) over v ok = inner_step P slots x p base f fs over v (stack_act P slots base (f ∷ fs) over) refl ok

pub next_ok : {S : Type 0} (P : Program S) (slots : ℕ → Right) (x : Context) (p : List ℕ) (v : ℕ) (s : Stack S) → StackOk x p s.base s.inner → StackOk x p (next_stack P slots v s).base (next_stack P slots v s).inner
next_ok P slots x p v s ok =
    settle_ok P x p _ _ (stack_after (stack_act P slots s.base s.inner s.ended) v s.base s.inner).ended (step_ok P slots x p s.base s.inner s.ended v ok)

pub stack_ok : {S : Type 0} (P : Program S) (b : Start S) (past : List ℕ) → StackOk b.context b.path (stack_from P b past).base (stack_from P b past).inner
unfolding stack_from
stack_ok P b [] =
    base_kept {base = start_frame P b} (record { path = refl; final = refl; right = λ c. inl refl; inner = λ f h. no_inner f h }) (settle_kept P (start_frame P b))
stack_ok P b (v ∷ vs) = next_ok P (right_of b.context) b.context b.path v (stack_from P b vs) (stack_ok P b vs)
