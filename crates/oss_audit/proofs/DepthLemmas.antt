-- A task stands as deep as its path is long, and creates only where another may stand below it.
use Rattle.std.proofs.Common.{◌≡◌, ℕ, ◌+◌, ◌<◌, refl, sym, subst, ap, ◌∙◌, List, [], ◌∷◌, length, arith, Bool, true, false, Option, None, Some}
use Rattle.std.specs.Prelude.{◌||◌, nat_le, if◌then◌else◌}
use Rattle.std.proofs.lemmas.Bool.Decides.{nat_tests}
use Rattle.oss_syntax.specs.declared.fault.FaultKind.{FaultKind}
use Rattle.oss_syntax.specs.declared.fault.FaultKind.TheVariants as fault
use Rattle.oss_model.specs.Context.{Context, create_fault, clause_fault, creation_fault, or_else, right_of, tick_fault, wait_on_fault, release_fault, lent_of, mark_of}
use Rattle.oss_model.specs.Rights.{Right, Reads, Writes, Folds, touch_fault}
use Rattle.oss_model.specs.Bodies.{Ask, Order, Program, Act, Frame, Start, act_of, act_of_ask, ask_of, base_after, child_start, frame_act, frame_after, inner_after, lent_when, settled_frame, settled_parts, stack_act, stack_after, stack_from, stage_act, start_frame, top_frame}
use Rattle.oss_model.specs.Bodies.Act.{Created, Awaited, Waited, WaitedOn, Over, Ticked, Load, Store, Folded, Releases, Printed, Ended, Fault}
use Rattle.oss_model.specs.History.{IsMade}
use Rattle.oss_model.specs.Machine.{At, State, Task}
use Rattle.oss_model.specs.Agreement.{MainStarts}
use Rattle.oss_model.proofs.BodyLemmas.{judged_goes, settle_same}
use Rattle.oss_model.proofs.TreeLemmas.{at_same}
use Rattle.oss_body.specs.Acting.{acting}

-- the task stands as deep as its path is long
abbrev IsDeep : {S : Type 0} → Frame S → Type 0
IsDeep f = f.context.depth ≡ length f.path

abbrev AreDeep : {S : Type 0} → List (Frame S) → Type 0
AreDeep [] = Unit {0}
AreDeep (f ∷ fs) = IsDeep f × AreDeep fs

lent_depth : (w : Bool) (given : ℕ → Right) (x : Context) → (lent_when w given x).depth ≡ x.depth
lent_depth true given x = refl
lent_depth false given x = refl

child_deep : (n d : ℕ) (p : List ℕ) → d ≡ length p → d + 1 ≡ length (n ∷ p)
child_deep n d p h = omega (arith, h)

module _ {S : Type 0} where
  frame_deep : (a : Act S) (v : ℕ) (f : Frame S) → IsDeep f → IsDeep (frame_after a v f)
  frame_deep (Created o i) v f h = lent_depth o.when _ _ ∙ h
  frame_deep Ticked v f h = h
  frame_deep (Load c) v f h = h
  frame_deep (Store c w) v f h = h
  frame_deep (Folded c op w b) v f h = h
  frame_deep Awaited v f h = h
  frame_deep Waited v f h = h
  frame_deep (WaitedOn named) v f h = h
  frame_deep (Releases clauses b) v f h = h
  frame_deep (Printed key text) v f h = h
  frame_deep Ended v f h = h
  frame_deep (Fault kind line key) v f h = h
  frame_deep Over v f h = h

  base_deep : (a : Act S) (v : ℕ) (base : Frame S) → IsDeep base → AreDeep ((base_after a v base).base ∷ (base_after a v base).inner)
  base_deep Ended v base h = (h, tt)
  base_deep (Created o true) v base h = (h, (child_deep base.context.created base.context.depth base.path h, tt))
  base_deep (Created o false) v base h = (frame_deep (Created o false) v base h, tt)
  base_deep Ticked v base h = (h, tt)
  base_deep (Load c) v base h = (h, tt)
  base_deep (Store c w) v base h = (h, tt)
  base_deep (Folded c op w b) v base h = (h, tt)
  base_deep Awaited v base h = (h, tt)
  base_deep Waited v base h = (h, tt)
  base_deep (WaitedOn named) v base h = (h, tt)
  base_deep (Releases clauses b) v base h = (h, tt)
  base_deep (Printed key text) v base h = (h, tt)
  base_deep (Fault kind line key) v base h = (h, tt)
  base_deep Over v base h = (h, tt)

  inner_deep : (a : Act S) (v : ℕ) (base f : Frame S) (fs : List (Frame S)) → AreDeep (base ∷ f ∷ fs) → AreDeep ((inner_after a v base f fs).base ∷ (inner_after a v base f fs).inner)
  inner_deep Ended v base f fs (h, (k, more)) = (h, more)
  inner_deep (Created o i) v base f fs (h, (k, more)) = (h, (child_deep f.context.created f.context.depth f.path k, (k, more)))
  inner_deep Ticked v base f fs h = h
  inner_deep (Load c) v base f fs h = h
  inner_deep (Store c w) v base f fs h = h
  inner_deep (Folded c op w b) v base f fs h = h
  inner_deep Awaited v base f fs h = h
  inner_deep Waited v base f fs h = h
  inner_deep (WaitedOn named) v base f fs h = h
  inner_deep (Releases clauses b) v base f fs h = h
  inner_deep (Printed key text) v base f fs h = h
  inner_deep (Fault kind line key) v base f fs h = h
  inner_deep Over v base f fs h = h

  step_deep : (a : Act S) (v : ℕ) (base : Frame S) (inner : List (Frame S)) → AreDeep (base ∷ inner) → AreDeep ((stack_after a v base inner).base ∷ (stack_after a v base inner).inner)
  step_deep a v base [] h = base_deep a v base h.0
  step_deep a v base (f ∷ fs) h = inner_deep a v base f fs h

  settled_one : (P : Program S) (f : Frame S) → IsDeep f → IsDeep (settled_frame P f)
  settled_one P f h = let k = settle_same P f in ap (λ (x : Context). x.depth) k.context ∙ h ∙ sym (ap (λ (x : List ℕ). length x) k.path)

  settled_deep : (P : Program S) (base : Frame S) (inner : List (Frame S)) (over : Bool) → AreDeep (base ∷ inner) → AreDeep ((settled_parts P base inner over).base ∷ (settled_parts P base inner over).inner)
  settled_deep P base [] over h = (settled_one P base h.0, tt)
  settled_deep P base (f ∷ fs) over (h, (k, more)) = (h, (settled_one P f k, more))

  stack_deep : (P : Program S) (b : Start S) → b.context.depth ≡ length b.path → (past : List ℕ) → AreDeep ((stack_from P b past).base ∷ (stack_from P b past).inner)
  unfolding stack_from
  stack_deep P b h [] = (settled_one P (start_frame P b) h, tt)
  stack_deep P b h (v ∷ vs) =
      let s = stack_from P b vs in
      let a = stack_act P (right_of b.context) s.base s.inner s.ended in
      let n = stack_after a v s.base s.inner in
      settled_deep P n.base n.inner n.ended (step_deep a v s.base s.inner (stack_deep P b h vs))

  top_deep : (base : Frame S) (inner : List (Frame S)) → AreDeep (base ∷ inner) → IsDeep (top_frame base inner)
  top_deep base [] h = h.0
  top_deep base (f ∷ fs) h = h.1.0

  child_start_deep : (f : Frame S) (o : Order S) → IsDeep f → (child_start f o).context.depth ≡ length (child_start f o).path
  unfolding child_start
  child_start_deep f o h = child_deep f.context.created f.context.depth f.path h

  -- each task starts as deep as its path is long
  start_deep : (P : Program S) (main : Start S) → MainStarts main → main.context.depth ≡ 0 → (s : State S) → IsMade P main s → (p : List ℕ) (t : Task S) → At s p t → t.body.start.context.depth ≡ length t.body.start.path
  start_deep P main ms d s made [] t h =
      let e : main ≡ t.body.start = sym made.main_start ∙ ap (λ (x : Task S). x.body.start) (at_same s [] made.main_task t made.main_at h) in
      subst (λ (x : Start S). x.context.depth ≡ length x.path) e (d ∙ ap (λ (x : List ℕ). length x) (sym ms.path))
  start_deep P main ms d s made (k ∷ p) t h =
      let b = made.child k p t h in
      let g = start_deep P main ms d s made p b.creator b.at_ in
      let f = stack_from P b.creator.body.start b.past in
      subst (λ (x : Start S). x.context.depth ≡ length x.path) (sym b.start) (child_start_deep f.base b.order (stack_deep P b.creator.body.start g b.past).0)

  pub acting_deep : (P : Program S) (main : Start S) → MainStarts main → main.context.depth ≡ 0 → (s : State S) → IsMade P main s → (p : List ℕ) (t : Task S) → At s p t
      → (acting P t.body.start t.body.found).context.depth ≡ length (acting P t.body.start t.body.found).path
  acting_deep P main ms d s made p t h =
      let f = stack_from P t.body.start t.body.found in
      top_deep f.base f.inner (stack_deep P t.body.start (start_deep P main ms d s made p t h) t.body.found)

-- A creation is no fault

-- the task may create one more
pub record MayCreate (x : Context) : Type 0 where
  pub shallow : x.depth < 64
  pub few : x.created < 65535

may_create : (x : Context) → create_fault x ≡ None → MayCreate x
may_create x h = go (nat_le 64 x.depth) refl (nat_le 65535 x.created) refl h
  where
    less : (m n : ℕ) → nat_le m n ≡ false → n < m
    less m n e = grind (arith, nat_tests)

    go : (a : Bool) → nat_le 64 x.depth ≡ a → (b : Bool) → nat_le 65535 x.created ≡ b → (if a then Some fault.TooDeep else (if b then Some fault.TooManyTasks else None)) ≡ None → MayCreate x
    go true e b f h = absurd cc
    go false e true f h = absurd cc
    go false e false f h = record { shallow = less 64 x.depth e; few = less 65535 x.created f }

first_none : (a b : Option FaultKind) → or_else a b ≡ None → a ≡ None
first_none None b h = refl
first_none (Some kind) b h = absurd cc

module _ {S : Type 0} where
  ask_may : (slots : ℕ → Right) (included : Bool) (f : Frame S) (a : Ask S) (line : ℕ) (o : Order S) (i : Bool) → act_of_ask slots included f a line ≡ Created o i → MayCreate f.context
  ask_may slots included f (Ask.Create p) line o i h =
      may_create f.context (first_none (create_fault f.context) (clause_fault f.context p.clauses (f.context.final || p.last)) (judged_goes f line (creation_fault f.context p.clauses (f.context.final || p.last)) _ (Created o i) h (λ s. s)).0)
  ask_may slots included f Ask.Begin line o i h = let k = judged_goes f line (create_fault f.context) _ (Created o i) h (λ s. s) in cc (k.1)
  ask_may slots included f Ask.Tick line o i h = let k = judged_goes f line (tick_fault f.context) _ (Created o i) h (λ s. s) in cc (k.1)
  ask_may slots included f (Ask.Read c) line o i h = let k = judged_goes f line (touch_fault (right_of f.context c) (lent_of f.context c) (mark_of f.context c) Reads) _ (Created o i) h (λ s. s) in cc (k.1)
  ask_may slots included f (Ask.Write c v) line o i h = let k = judged_goes f line (touch_fault (right_of f.context c) (lent_of f.context c) (mark_of f.context c) Writes) _ (Created o i) h (λ s. s) in cc (k.1)
  ask_may slots included f (Ask.Fold c op v) line o i h = let k = judged_goes f line (touch_fault (right_of f.context c) (lent_of f.context c) (mark_of f.context c) (Folds op)) _ (Created o i) h (λ s. s) in cc (k.1)
  ask_may slots included f Ask.Await line o i h = absurd cc
  ask_may slots included f Ask.Wait line o i h = absurd cc
  ask_may slots included f (Ask.WaitOn named) line o i h = let k = judged_goes f line (wait_on_fault f.context named) _ (Created o i) h (λ s. s) in cc (k.1)
  ask_may slots included f (Ask.Release clauses) line o i h = let k = judged_goes f line (release_fault f.context clauses) _ (Created o i) h (λ s. s) in cc (k.1)
  ask_may slots included f (Ask.Print text) line o i h = absurd cc
  ask_may slots included f Ask.End line o i h = absurd cc
  ask_may slots included f (Ask.Fails kind) line o i h = absurd cc

  module _ (P : Program S) where
    frame_may : (slots : ℕ → Right) (included : Bool) (f : Frame S) (w : Bool) (o : Order S) (i : Bool) → frame_act P slots included f w ≡ Created o i → MayCreate f.context
    frame_may slots included f true o i h = absurd cc
    frame_may slots included f false o i h = ask_may slots included f (ask_of P f).ask (ask_of P f).line o i h

    stack_may : (slots : ℕ → Right) (base : Frame S) (inner : List (Frame S)) (over : Bool) (o : Order S) (i : Bool) → stack_act P slots base inner over ≡ Created o i → MayCreate (top_frame base inner).context
    stack_may slots base inner true o i h = absurd cc
    stack_may slots base [] false o i h = frame_may slots false base base.awaits o i h
    stack_may slots base (f ∷ fs) false o i h = frame_may slots true f f.awaits o i h

    pub acting_may : (b : Start S) (past : List ℕ) (o : Order S) (i : Bool) → stage_act P b past ≡ Created o i → MayCreate (acting P b past).context
    unfolding stage_act act_of
    acting_may b past o i h = let s = stack_from P b past in stack_may (right_of b.context) s.base s.inner s.ended o i h
