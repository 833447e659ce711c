-- Each task of a body of the freed program may write every cell, and the judge finds no fault of annotations in what it asks for.
use Rattle.std.proofs.Common.{◌≡◌, ℕ, ◌+◌, ◌<◌, ◌≤◌, ◌⊎◌, inl, inr, refl, sym, subst, ap, ◌∙◌, List, [], ◌∷◌, arith, Bool, true, false, Option, Some, None}
use Rattle.std.specs.Prelude.{◌||◌, if◌then◌else◌, nat_le, nat_lt}
use Rattle.oss_syntax.specs.declared.access.Access.{Access}
use Rattle.oss_syntax.specs.declared.access.Mode.TheVariants.{Write}
use Rattle.oss_syntax.specs.declared.fault.FaultKind.{FaultKind}
use Rattle.oss_syntax.specs.declared.fault.FaultKind.TheVariants as fault
use Rattle.oss_model.specs.Order.{IsIn, here, there}
use Rattle.oss_model.specs.Rights.{Right, Holds, Free, Written, Touch, Reads, Writes, Folds, touch_fault, is_fold}
use Rattle.oss_model.specs.Context.{Entry, Context, made, waited_on, release, child_context, create_fault, tick_fault, creation_fault, clause_fault, or_else, wait_on_fault, release_fault, right_of, lent_of, mark_of}
use Rattle.oss_model.specs.Bodies.{Order, Ask, Program, Act, Frame, Start, judged_act, act_of_ask, ask_of, frame_act, stack_act, one_more_created, lent_when, frame_after, base_after, inner_after, stack_after, settled_parts, start_frame, stack_from, act_of, stage_act, top_frame, key_of, word_of}
use Rattle.oss_model.specs.Bodies.Act.{Ticked, Load, Store, Folded, Created, Awaited, Waited, WaitedOn, Releases, Printed, Ended, Fault, Over}
use Rattle.oss_model.proofs.BodyLemmas.{settle_same}
use Rattle.oss_freed.specs.Freed.{all_cells, freed_ask, freed, IsOfAnnotations, IsOwn}
use Rattle.oss_freed.proofs.WholeContexts.{IsWhole, wrote_whole, made_whole, waited_whole, waited_on_whole, release_whole, child_whole, no_clause_fault}

-- what an act of the freed program names
abbrev pub IsFreed : {S : Type 0} → ℕ → Act S → Type 0
IsFreed n (Created o i) = (o.clauses ≡ all_cells n) × (o.when ≡ false)
IsFreed n (WaitedOn named) = named ≡ []
IsFreed n (Releases clauses i) = clauses ≡ []
IsFreed n _ = Unit {0}

judged_freed : {S : Type 0} (n : ℕ) (f : Frame S) (line : ℕ) (r : Option FaultKind) (act : Act S) → IsFreed n act → IsFreed n (judged_act f line r act)
judged_freed n f line None act h = h
judged_freed n f line (Some kind) act h = tt

ask_freed : {S : Type 0} (n : ℕ) (slots : ℕ → Right) (inc : Bool) (f : Frame S) (q : Ask S) (line : ℕ) → IsFreed n (act_of_ask slots inc f (freed_ask n q) line)
ask_freed n slots inc f Ask.Begin line = judged_freed n f line (create_fault f.context) (Fault fault.TooManyTasks line (key_of f)) tt
ask_freed n slots inc f Ask.Tick line = judged_freed n f line (tick_fault f.context) Ticked tt
ask_freed n slots inc f (Ask.Read c) line = judged_freed n f line (touch_fault (right_of f.context c) (lent_of f.context c) (mark_of f.context c) Reads) (Load c) tt
ask_freed n slots inc f (Ask.Write c v) line = judged_freed n f line (touch_fault (right_of f.context c) (lent_of f.context c) (mark_of f.context c) Writes) (Store c (word_of v)) tt
ask_freed n slots inc f (Ask.Fold c op v) line = judged_freed n f line (touch_fault (right_of f.context c) (lent_of f.context c) (mark_of f.context c) (Folds op)) (Folded c op (word_of v) (is_fold (slots c))) tt
ask_freed n slots inc f (Ask.Create o) line = judged_freed n f line (creation_fault f.context (all_cells n) (f.context.final || o.last)) (Created (record o { clauses = all_cells n; when = false }) f.context.final) (refl, refl)
ask_freed n slots inc f Ask.Await line = tt
ask_freed n slots inc f Ask.Wait line = tt
ask_freed n slots inc f (Ask.WaitOn named) line = judged_freed n f line (wait_on_fault f.context []) (WaitedOn []) refl
ask_freed n slots inc f (Ask.Release clauses) line = judged_freed n f line (release_fault f.context []) (Releases [] inc) refl
ask_freed n slots inc f (Ask.Print text) line = tt
ask_freed n slots inc f Ask.End line = tt
ask_freed n slots inc f (Ask.Fails kind) line = tt

frame_freed : {S : Type 0} (P : Program S) (n : ℕ) (slots : ℕ → Right) (inc : Bool) (f : Frame S) (w : Bool) → IsFreed n (frame_act (freed n P) slots inc f w)
frame_freed P n slots inc f true = tt
frame_freed P n slots inc f false = ask_freed n slots inc f (ask_of P f).ask (ask_of P f).line

pub stack_freed : {S : Type 0} (P : Program S) (n : ℕ) (slots : ℕ → Right) (base : Frame S) (inner : List (Frame S)) (over : Bool) → IsFreed n (stack_act (freed n P) slots base inner over)
stack_freed P n slots base inner true = tt
stack_freed P n slots base [] false = frame_freed P n slots false base base.awaits
stack_freed P n slots base (f ∷ fs) false = frame_freed P n slots true f f.awaits

-- one more act or count leaves the cells
counted : (n : ℕ) (x : Context) → IsWhole n x → IsWhole n (one_more_created x)
counted n x w = record { size = w.size; entry_at = w.entry_at }

ticked : (n : ℕ) (x : Context) → IsWhole n x → IsWhole n (record x { ticks = x.ticks + 1 })
ticked n x w = record { size = w.size; entry_at = w.entry_at }

new_whole : {S : Type 0} (n : ℕ) (f : Frame S) (o : Order S) → n ≤ 1048576 → o.clauses ≡ all_cells n → IsWhole n f.context → IsWhole n (child_context f.context o.clauses o.last)
new_whole n f o h e w = subst (λ (xs : List Access). IsWhole n (child_context f.context xs o.last)) (sym e) (child_whole n f.context o.last h w)

frame_whole : {S : Type 0} (n : ℕ) (a : Act S) (v : ℕ) (f : Frame S) → IsFreed n a → IsWhole n f.context → IsWhole n (frame_after a v f).context
frame_whole n Ticked v f h w = ticked n f.context w
frame_whole n (Store c value) v f h w = wrote_whole n c f.context w
frame_whole n (Folded c op value slot) v f h w = wrote_whole n c f.context w
frame_whole n (Created o i) v f h w =
    let given = right_of (child_context f.context o.clauses o.last) in
    subst (λ (b : Bool). IsWhole n (made given (lent_when b given (one_more_created f.context)))) (sym h.1) (made_whole n given (one_more_created f.context) (counted n f.context w))
frame_whole n Waited v f h w = waited_whole n f.context w
frame_whole n (WaitedOn named) v f h w = subst (λ (xs : List Access). IsWhole n (waited_on xs f.context)) (sym h) (waited_on_whole n f.context w)
frame_whole n (Releases clauses i) v f h w = subst (λ (xs : List Access). IsWhole n (release xs f.context)) (sym h) (release_whole n f.context w)
frame_whole n _ v f h w = w

-- each task of the body may write every cell
pub record AreWhole {S : Type 0} (n : ℕ) (base : Frame S) (included : List (Frame S)) : Type 0 where
  pub first : IsWhole n base.context
  pub inner : (f : Frame S) → IsIn f included → IsWhole n f.context

alone : {S : Type 0} {n : ℕ} {base : Frame S} → IsWhole n base.context → AreWhole n base []
alone w = record { first = w; inner = λ f i. elim i [ ] }

on_top : {S : Type 0} {n : ℕ} {base f : Frame S} {fs : List (Frame S)} → IsWhole n f.context → AreWhole n base fs → AreWhole n base (f ∷ fs)
on_top {S = S} {n = n} {f = f} {fs = fs} w all = record { first = all.first; inner = go }
  where
    go : (g : Frame S) → IsIn g (f ∷ fs) → IsWhole n g.context
    go g here = w
    go g (there i) = all.inner g i

less : {S : Type 0} {n : ℕ} {base f : Frame S} {fs : List (Frame S)} → AreWhole n base (f ∷ fs) → AreWhole n base fs
less all = record { first = all.first; inner = λ g i. all.inner g (there i) }

including_whole : {S : Type 0} (n : ℕ) (f : Frame S) (o : Order S) → IsWhole n f.context → IsWhole n (made (right_of (child_context f.context o.clauses o.last)) (one_more_created f.context))
including_whole n f o w = made_whole n (right_of (child_context f.context o.clauses o.last)) (one_more_created f.context) (counted n f.context w)

base_whole : {S : Type 0} (n : ℕ) (a : Act S) (v : ℕ) (base : Frame S) → n ≤ 1048576 → IsFreed n a → IsWhole n base.context → AreWhole n (base_after a v base).base (base_after a v base).inner
base_whole n Ended v base h k w = alone w
base_whole n (Created o true) v base h k w = on_top (new_whole n base o h k.0 w) (alone (including_whole n base o w))
base_whole n (Created o false) v base h k w = alone (frame_whole n (Created o false) v base k w)
base_whole n Ticked v base h k w = alone (frame_whole n Ticked v base k w)
base_whole n (Load c) v base h k w = alone (frame_whole n (Load c) v base k w)
base_whole n (Store c value) v base h k w = alone (frame_whole n (Store c value) v base k w)
base_whole n (Folded c op value slot) v base h k w = alone (frame_whole n (Folded c op value slot) v base k w)
base_whole n Awaited v base h k w = alone (frame_whole n Awaited v base k w)
base_whole n Waited v base h k w = alone (frame_whole n Waited v base k w)
base_whole n (WaitedOn named) v base h k w = alone (frame_whole n (WaitedOn named) v base k w)
base_whole n (Releases clauses i) v base h k w = alone (frame_whole n (Releases clauses i) v base k w)
base_whole n (Printed key text) v base h k w = alone (frame_whole n (Printed key text) v base k w)
base_whole n (Fault kind line key) v base h k w = alone (frame_whole n (Fault kind line key) v base k w)
base_whole n Over v base h k w = alone (frame_whole n Over v base k w)

inner_whole : {S : Type 0} (n : ℕ) (a : Act S) (v : ℕ) (base f : Frame S) (fs : List (Frame S)) → n ≤ 1048576 → IsFreed n a → AreWhole n base (f ∷ fs) → AreWhole n (inner_after a v base f fs).base (inner_after a v base f fs).inner
inner_whole n Ended v base f fs h k all = less all
inner_whole n (Created o i) v base f fs h k all =
    on_top (new_whole n f o h k.0 (all.inner f here)) (on_top (including_whole n f o (all.inner f here)) (less all))
inner_whole n Ticked v base f fs h k all = on_top (frame_whole n Ticked v f k (all.inner f here)) (less all)
inner_whole n (Load c) v base f fs h k all = on_top (frame_whole n (Load c) v f k (all.inner f here)) (less all)
inner_whole n (Store c value) v base f fs h k all = on_top (frame_whole n (Store c value) v f k (all.inner f here)) (less all)
inner_whole n (Folded c op value slot) v base f fs h k all = on_top (frame_whole n (Folded c op value slot) v f k (all.inner f here)) (less all)
inner_whole n Awaited v base f fs h k all = on_top (frame_whole n Awaited v f k (all.inner f here)) (less all)
inner_whole n Waited v base f fs h k all = on_top (frame_whole n Waited v f k (all.inner f here)) (less all)
inner_whole n (WaitedOn named) v base f fs h k all = on_top (frame_whole n (WaitedOn named) v f k (all.inner f here)) (less all)
inner_whole n (Releases clauses i) v base f fs h k all = on_top (frame_whole n (Releases clauses i) v f k (all.inner f here)) (less all)
inner_whole n (Printed key text) v base f fs h k all = on_top (frame_whole n (Printed key text) v f k (all.inner f here)) (less all)
inner_whole n (Fault kind line key) v base f fs h k all = on_top (frame_whole n (Fault kind line key) v f k (all.inner f here)) (less all)
inner_whole n Over v base f fs h k all = on_top (frame_whole n Over v f k (all.inner f here)) (less all)

step_whole : {S : Type 0} (n : ℕ) (a : Act S) (v : ℕ) (base : Frame S) (inner : List (Frame S)) → n ≤ 1048576 → IsFreed n a → AreWhole n base inner → AreWhole n (stack_after a v base inner).base (stack_after a v base inner).inner
step_whole n a v base [] h k all = base_whole n a v base h k all.first
step_whole n a v base (f ∷ fs) h k all = inner_whole n a v base f fs h k all

settled_whole : {S : Type 0} (P : Program S) (n : ℕ) (base : Frame S) (inner : List (Frame S)) (over : Bool) → AreWhole n base inner → AreWhole n (settled_parts P base inner over).base (settled_parts P base inner over).inner
settled_whole P n base [] over all = alone (subst (IsWhole n) (sym (settle_same P base).context) all.first)
settled_whole P n base (f ∷ fs) over all = on_top (subst (IsWhole n) (sym (settle_same P f).context) (all.inner f here)) (less all)

-- so each stage of a body stands well that starts so
pub stage_whole : {S : Type 0} (P : Program S) (n : ℕ) (b : Start S) (past : List ℕ) → n ≤ 1048576 → IsWhole n b.context → AreWhole n (stack_from (freed n P) b past).base (stack_from (freed n P) b past).inner
unfolding stack_from
stage_whole P n b [] h w = settled_whole (freed n P) n (start_frame (freed n P) b) [] false (alone w)
stage_whole P n b (v ∷ vs) h w =
    let s = stack_from (freed n P) b vs in
    let a = stack_act (freed n P) (right_of b.context) s.base s.inner s.ended in
    let m = stack_after a v s.base s.inner in
    settled_whole (freed n P) n m.base m.inner m.ended
    (step_whole n a v s.base s.inner h (stack_freed P n (right_of b.context) s.base s.inner s.ended) (stage_whole P n b vs h w))

-- a fault of annotations is the ask's own
abbrev IsMild : {S : Type 0} → ℕ → Ask S → Option FaultKind → Type 0
IsMild n q None = Unit {0}
IsMild n q (Some kind) = IsOfAnnotations kind → IsOwn n kind q

abbrev IsMildAct : {S : Type 0} → ℕ → Ask S → Act S → Type 0
IsMildAct n q (Fault kind line key) = IsOfAnnotations kind → IsOwn n kind q
IsMildAct n q _ = Unit {0}

judged_mild : {S : Type 0} (n : ℕ) (q : Ask S) (f : Frame S) (line : ℕ) (r : Option FaultKind) (act : Act S) → IsMild n q r → IsMildAct n q act → IsMildAct n q (judged_act f line r act)
judged_mild n q f line None act h k = k
judged_mild n q f line (Some kind) act h k = h

ticks_mild : {S : Type 0} (n : ℕ) (q : Ask S) (b : Bool) → IsMild n q (if b then None else Some fault.OutOfFuel)
ticks_mild n q true = tt
ticks_mild n q false = λ h. absurd h

limits_mild : {S : Type 0} (n : ℕ) (q : Ask S) (a b : Bool) → IsMild n q (if a then Some fault.TooDeep else if b then Some fault.TooManyTasks else None)
limits_mild n q true b = λ h. absurd h
limits_mild n q false true = λ h. absurd h
limits_mild n q false false = tt

either_mild : {S : Type 0} (n : ℕ) (q : Ask S) (a b : Option FaultKind) → IsMild n q a → b ≡ None → IsMild n q (or_else a b)
either_mild n q None b h e = subst (λ (r : Option FaultKind). IsMild n q r) (sym e) tt
either_mild n q (Some kind) b h e = h

mild_past : {S : Type 0} (n : ℕ) (q : Ask S) (r : Option FaultKind) → ((kind : FaultKind) → IsOwn n kind q) → IsMild n q r
mild_past n q None h = tt
mild_past n q (Some kind) h = λ a. h kind

le_or : (m n : ℕ) → (m < n) ⊎ (n ≤ m)
le_or m n = grind arith

touch_none : (t : Touch) → touch_fault (Holds Write true) Free Written t ≡ None
touch_none Reads = refl
touch_none Writes = refl
touch_none (Folds op) = refl

touch_mild : {S : Type 0} (n : ℕ) (q : Ask S) (x : Context) (c : ℕ) (t : Touch) → IsWhole n x → (n ≤ c → (kind : FaultKind) → IsOwn n kind q) → IsMild n q (touch_fault (right_of x c) (lent_of x c) (mark_of x c) t)
touch_mild {S = S} n q x c t w own = go (le_or c n)
  where
    go : (c < n) ⊎ (n ≤ c) → IsMild n q (touch_fault (right_of x c) (lent_of x c) (mark_of x c) t)
    go (inl l) =
        let e : touch_fault (right_of x c) (lent_of x c) (mark_of x c) t ≡ None = ap (λ (y : Entry). touch_fault y.right y.lent y.mark t) (w.entry_at c l) ∙ touch_none t in
        subst (λ (r : Option FaultKind). IsMild n q r) (sym e) tt
    go (inr l) = mild_past n q (touch_fault (right_of x c) (lent_of x c) (mark_of x c) t) (own l)

ask_mild : {S : Type 0} (n : ℕ) (slots : ℕ → Right) (inc : Bool) (f : Frame S) (q : Ask S) (line : ℕ) → n ≤ 1048576 → IsWhole n f.context → IsMildAct n q (act_of_ask slots inc f (freed_ask n q) line)
ask_mild {S = S} n slots inc f Ask.Begin line h w = judged_mild {S = S} n Ask.Begin f line (create_fault f.context) (Fault fault.TooManyTasks line (key_of f)) (limits_mild {S = S} n Ask.Begin (nat_le 64 f.context.depth) (nat_le 65535 f.context.created)) (λ k. absurd k)
ask_mild {S = S} n slots inc f Ask.Tick line h w = judged_mild {S = S} n Ask.Tick f line (tick_fault f.context) Ticked (ticks_mild {S = S} n Ask.Tick (nat_lt f.context.ticks f.context.fuel)) tt
ask_mild {S = S} n slots inc f (Ask.Read c) line h w = judged_mild {S = S} n (Ask.Read c) f line (touch_fault (right_of f.context c) (lent_of f.context c) (mark_of f.context c) Reads) (Load c) (touch_mild {S = S} n (Ask.Read c) f.context c Reads w (λ l kind. l)) tt
ask_mild {S = S} n slots inc f (Ask.Write c v) line h w = judged_mild {S = S} n (Ask.Write c v) f line (touch_fault (right_of f.context c) (lent_of f.context c) (mark_of f.context c) Writes) (Store c (word_of v)) (touch_mild {S = S} n (Ask.Write c v) f.context c Writes w (λ l kind. l)) tt
ask_mild {S = S} n slots inc f (Ask.Fold c op v) line h w = judged_mild {S = S} n (Ask.Fold c op v) f line (touch_fault (right_of f.context c) (lent_of f.context c) (mark_of f.context c) (Folds op)) (Folded c op (word_of v) (is_fold (slots c))) (touch_mild {S = S} n (Ask.Fold c op v) f.context c (Folds op) w (λ l kind. l)) tt
ask_mild {S = S} n slots inc f (Ask.Create o) line h w =
    judged_mild {S = S} n (Ask.Create o) f line (creation_fault f.context (all_cells n) (f.context.final || o.last)) (Created (record o { clauses = all_cells n; when = false }) f.context.final)
    (either_mild {S = S} n (Ask.Create o) (create_fault f.context) (clause_fault f.context (all_cells n) (f.context.final || o.last))
    (limits_mild {S = S} n (Ask.Create o) (nat_le 64 f.context.depth) (nat_le 65535 f.context.created)) (no_clause_fault n f.context (f.context.final || o.last) h w)) tt
ask_mild {S = S} n slots inc f Ask.Await line h w = λ k. absurd k
ask_mild {S = S} n slots inc f Ask.Wait line h w = tt
ask_mild {S = S} n slots inc f (Ask.WaitOn named) line h w = tt
ask_mild {S = S} n slots inc f (Ask.Release clauses) line h w = tt
ask_mild {S = S} n slots inc f (Ask.Print text) line h w = tt
ask_mild {S = S} n slots inc f Ask.End line h w = tt
ask_mild {S = S} n slots inc f (Ask.Fails kind) line h w = λ k. refl

frame_mild : {S : Type 0} (P : Program S) (n : ℕ) (slots : ℕ → Right) (inc : Bool) (f : Frame S) (w : Bool) → n ≤ 1048576 → IsWhole n f.context → IsMildAct n (ask_of P f).ask (frame_act (freed n P) slots inc f w)
frame_mild P n slots inc f true h w = tt
frame_mild P n slots inc f false h w = ask_mild n slots inc f (ask_of P f).ask (ask_of P f).line h w

stack_mild : {S : Type 0} (P : Program S) (n : ℕ) (slots : ℕ → Right) (base : Frame S) (inner : List (Frame S)) (over : Bool) → n ≤ 1048576 → AreWhole n base inner → IsMildAct n (ask_of P (top_frame base inner)).ask (stack_act (freed n P) slots base inner over)
stack_mild P n slots base inner true h all = tt
stack_mild P n slots base [] false h all = frame_mild P n slots false base base.awaits h all.first
stack_mild P n slots base (f ∷ fs) false h all = frame_mild P n slots true f f.awaits h (all.inner f here)

-- the fault of a stage
pub stage_own : {S : Type 0} (P : Program S) (n : ℕ) (b : Start S) (past : List ℕ) (kind : FaultKind) (line : ℕ) (key : List ℕ) → n ≤ 1048576 → IsWhole n b.context → stage_act (freed n P) b past ≡ Fault kind line key → IsOfAnnotations kind
    → IsOwn n kind (ask_of P (top_frame (stack_from (freed n P) b past).base (stack_from (freed n P) b past).inner)).ask
unfolding stage_act act_of
stage_own P n b past kind line key h w e a =
    let s = stack_from (freed n P) b past in
    let m = stack_mild P n (right_of b.context) s.base s.inner s.ended h (stage_whole P n b past h w) in
    let g : IsOfAnnotations kind → IsOwn n kind (ask_of P (top_frame s.base s.inner)).ask = subst (λ (x : Act _). IsMildAct n (ask_of P (top_frame s.base s.inner)).ask x) e m in
    g a
