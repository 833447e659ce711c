-- A mark tells exactly what the done acts of a task have written.
use Rattle.std.proofs.Common.{◌≡◌, ℕ, ◌<◌, ◌≤◌, ◌⊎◌, inl, inr, refl, sym, subst, ap, ◌∙◌, List, [], ◌∷◌, length, arith, Bool, true, false, Option, Some, None}
use Rattle.std.specs.Prelude.{◌==◌, ◌&&◌, ◌||◌, if◌then◌else◌}
use Rattle.std.proofs.lemmas.Bool.Decides.{nat_tests}
use Rattle.std.proofs.lemmas.List.{get_or_past}
use Rattle.oss_syntax.specs.declared.access.Access.{Access}
use Rattle.oss_syntax.specs.declared.access.Mode.{Mode}
use Rattle.oss_syntax.specs.declared.access.Mode.TheVariants.{Read, Write, Fold}
use Rattle.oss_syntax.specs.declared.fault.FaultKind.{FaultKind}
use Rattle.oss_syntax.specs.declared.fault.FaultKind.TheVariants as fault
use Rattle.oss_model.specs.Order.{IsSuffix, whole, longer, IsIn, here, there}
use Rattle.oss_model.specs.Rights.{Right, NoRight, Released, Holds, Lending, Free, Reading, Writing, Mark, Unwritten, Written, Touch, Reads, Writes, Folds, op_eq, touch_fault, in_access, is_fresh, right_from, first_mark}
use Rattle.oss_model.specs.Context.{Entry, Context, no_entry, right_of, lent_of, mark_of, with_entries, child_context, lend_cell, made, made_mark, wrote, in_clauses}
use Rattle.oss_model.specs.Bodies.{Order, Ask, Program, Act, Frame, Start, act_of_ask, ask_of, stack_act, judged_act, lent_when, made_by, one_more_created, frame_after, base_after, inner_after, stack_after, settled_parts, start_frame, stack_from, act_of, stage_act}
use Rattle.oss_model.specs.Bodies.Act.{Ticked, Load, Store, Folded, Created, Awaited, Waited, WaitedOn, Releases, Printed, Ended, Fault, Over}
use Rattle.oss_model.specs.Marks.{IsWriting, stores, folds, creates, WrittenBefore, HasValue, NeedsValue, AsksFor, EveryReadHasAValue, NoValueIsMissed, OutStartsUnwritten}
use Rattle.oss_model.proofs.ContextLemmas.{tabled_at, tabled_past}
use Rattle.oss_model.proofs.JudgeLemmas.{touch_passes}
use Rattle.oss_model.proofs.BodyLemmas.{settle_same, stack_ok}
use Rattle.oss_model.proofs.StageLemmas.{touch_is, frame_touched, IsTouch}

le_or : (m n : ℕ) → (m < n) ⊎ (n ≤ m)
le_or m n = grind arith

-- a cell has the new mark, or is past the table
mark_cases : (f : ℕ → Entry) (x : Context) (c : ℕ) → (mark_of (with_entries f x) c ≡ (f c).mark) ⊎ ((mark_of (with_entries f x) c ≡ Written) × (mark_of x c ≡ Written))
mark_cases f x c = go (le_or c (length x.entries))
  where
    go : (c < length x.entries) ⊎ (length x.entries ≤ c) → (mark_of (with_entries f x) c ≡ (f c).mark) ⊎ ((mark_of (with_entries f x) c ≡ Written) × (mark_of x c ≡ Written))
    go (inl l) = inl (ap (λ (e : Entry). e.mark) (tabled_at f (length x.entries) c no_entry l))
    go (inr l) = inr (ap (λ (e : Entry). e.mark) (tabled_past f (length x.entries) c no_entry l), ap (λ (e : Entry). e.mark) (get_or_past x.entries c no_entry l))

same_mark : (f : ℕ → Entry) (x : Context) (c : ℕ) → (f c).mark ≡ mark_of x c → mark_of (with_entries f x) c ≡ mark_of x c
same_mark f x c h = go (mark_cases f x c)
  where
    go : (mark_of (with_entries f x) c ≡ (f c).mark) ⊎ ((mark_of (with_entries f x) c ≡ Written) × (mark_of x c ≡ Written)) → mark_of (with_entries f x) c ≡ mark_of x c
    go (inl e) = e ∙ h
    go (inr e) = e.0 ∙ sym e.1

set_mark : (f : ℕ → Entry) (x : Context) (c : ℕ) → (f c).mark ≡ Written → mark_of (with_entries f x) c ≡ Written
set_mark f x c h = go (mark_cases f x c)
  where
    go : (mark_of (with_entries f x) c ≡ (f c).mark) ⊎ ((mark_of (with_entries f x) c ≡ Written) × (mark_of x c ≡ Written)) → mark_of (with_entries f x) c ≡ Written
    go (inl e) = e ∙ h
    go (inr e) = e.0

-- the entries behind a write, and behind a creation
wrote_entry : ℕ → Context → ℕ → Entry
wrote_entry cell x d = record { right = right_of x d; lent = lent_of x d; mark = if d == cell then Written else mark_of x d }

made_entry : (ℕ → Right) → Context → ℕ → Entry
made_entry given x d = record { right = right_of x d; lent = lent_of x d; mark = made_mark (given d) (mark_of x d) }

wrote_here : (x : Context) (c : ℕ) → mark_of (wrote c x) c ≡ Written
unfolding wrote_entry
wrote_here x c = let e : (c == c) ≡ true = grind (arith, nat_tests) in set_mark (wrote_entry c x) x c (rw e refl)

made_here : (given : ℕ → Right) (x : Context) (c : ℕ) (strong : Bool) → given c ≡ Holds Write strong → mark_of (made given x) c ≡ Written
unfolding made_entry
made_here given x c strong e = set_mark (made_entry given x) x c (rw e refl)

-- how an act of a task leaves the mark of a cell
data MarkStep {S : Type 0} (f : Frame S) (a : Act S) (c : ℕ) (y : Context) : Type 0 where
  stays : mark_of y c ≡ mark_of f.context c → MarkStep f a c y
  writes : IsWriting f a c → mark_of y c ≡ Written → MarkStep f a c y

wrote_step : {S : Type 0} (a : Act S) (f : Frame S) (cell c : ℕ) → (cell ≡ c → IsWriting f a c) → MarkStep f a c (wrote cell f.context)
unfolding wrote_entry
wrote_step a f cell c w = go (c == cell) refl
  where
    go : (t : Bool) → (c == cell) ≡ t → MarkStep f a c (wrote cell f.context)
    go true e = let k : cell ≡ c = grind (arith, nat_tests, e) in writes (w k) (set_mark (wrote_entry cell f.context) f.context c (rw e refl))
    go false e = stays (same_mark (wrote_entry cell f.context) f.context c (rw e refl))

made_step : {S : Type 0} (o : Order S) (i : Bool) (f : Frame S) (x : Context) (c : ℕ) → mark_of x c ≡ mark_of f.context c → MarkStep f (Created o i) c (made_by o f x)
unfolding made_entry
made_step {S = S} o i f x c h = go (given c) refl
  where
    given : ℕ → Right
    given = right_of (child_context f.context o.clauses o.last)

    go : (r : Right) → right_of (child_context f.context o.clauses o.last) c ≡ r → MarkStep {S = S} f (Created o i) c (made_by o f x)
    go (Holds Write strong) e = writes (creates e) (made_here (right_of (child_context f.context o.clauses o.last)) x c strong e)
    go (Holds Read strong) e = stays (same_mark (made_entry (right_of (child_context f.context o.clauses o.last)) x) x c (rw e refl) ∙ h)
    go (Holds (Fold op) strong) e = stays (same_mark (made_entry (right_of (child_context f.context o.clauses o.last)) x) x c (rw e refl) ∙ h)
    go NoRight e = stays (same_mark (made_entry (right_of (child_context f.context o.clauses o.last)) x) x c (rw e refl) ∙ h)
    go Released e = stays (same_mark (made_entry (right_of (child_context f.context o.clauses o.last)) x) x c (rw e refl) ∙ h)

lent_when_mark : (w : Bool) (given : ℕ → Right) (x : Context) (c : ℕ) → mark_of (lent_when w given x) c ≡ mark_of x c
lent_when_mark true given x c = same_mark (λ d. record { right = right_of x d; lent = lend_cell (given d) (lent_of x d); mark = mark_of x d }) x c refl
lent_when_mark false given x c = refl

frame_step : {S : Type 0} (a : Act S) (v : ℕ) (f : Frame S) (c : ℕ) → MarkStep f a c (frame_after a v f).context
frame_step (Store cell value) v f c = wrote_step (Store cell value) f cell c (λ e. subst (λ (z : ℕ). IsWriting f (Store cell value) z) e stores)
frame_step (Folded cell op value slot) v f c = wrote_step (Folded cell op value slot) f cell c (λ e. subst (λ (z : ℕ). IsWriting f (Folded cell op value slot) z) e folds)
frame_step (Created o i) v f c =
    let given = right_of (child_context f.context o.clauses o.last) in
    made_step o i f (lent_when o.when given (one_more_created f.context)) c (lent_when_mark o.when given (one_more_created f.context) c)
frame_step Waited v f c = stays (same_mark (λ d. record { right = right_of f.context d; lent = Free; mark = mark_of f.context d }) f.context c refl)
frame_step (WaitedOn named) v f c = stays (same_mark (λ d. record { right = right_of f.context d; lent = if in_clauses named d then Free else lent_of f.context d; mark = mark_of f.context d }) f.context c refl)
frame_step (Releases clauses i) v f c = stays (same_mark (λ d. record { right = if in_clauses clauses d then Released else right_of f.context d; lent = lent_of f.context d; mark = mark_of f.context d }) f.context c refl)
frame_step _ v f c = stays refl

base_step : {S : Type 0} (a : Act S) (v : ℕ) (f : Frame S) (c : ℕ) → MarkStep f a c (base_after a v f).base.context
base_step Ended v f c = stays refl
base_step (Created o true) v f c = made_step o true f (one_more_created f.context) c refl
base_step (Created o false) v f c = frame_step (Created o false) v f c
base_step (Store cell value) v f c = frame_step (Store cell value) v f c
base_step (Folded cell op value slot) v f c = frame_step (Folded cell op value slot) v f c
base_step Waited v f c = frame_step Waited v f c
base_step (WaitedOn named) v f c = frame_step (WaitedOn named) v f c
base_step (Releases clauses i) v f c = frame_step (Releases clauses i) v f c
base_step _ v f c = stays refl

-- an act that writes marks the cell
writing_marks : {S : Type 0} (a : Act S) (v : ℕ) (f : Frame S) (c : ℕ) → IsWriting f a c → mark_of (base_after a v f).base.context c ≡ Written
writing_marks Ticked v f c x' = elim x' [ ]
writing_marks (Load cell) v f c x'' = elim x'' [ ]
writing_marks Awaited v f c x3 = elim x3 [ ]
writing_marks Waited v f c x4 = elim x4 [ ]
writing_marks (WaitedOn named) v f c x5 = elim x5 [ ]
writing_marks (Releases clauses included) v f c x6 = elim x6 [ ]
writing_marks (Printed key text) v f c x7 = elim x7 [ ]
writing_marks Ended v f c x8 = elim x8 [ ]
writing_marks (Fault kind line key) v f c x9 = elim x9 [ ]
writing_marks Over v f c x10 = elim x10 [ ]
writing_marks (Store d w) v f c stores = wrote_here f.context c
writing_marks (Folded d op w slot) v f c folds = wrote_here f.context c
writing_marks (Created o true) v f c (creates {strong = s} e) = made_here (right_of (child_context f.context o.clauses o.last)) (one_more_created f.context) c s e
writing_marks (Created o false) v f c (creates {strong = s} e) =
    let given = right_of (child_context f.context o.clauses o.last) in
    made_here given (lent_when o.when given (one_more_created f.context)) c s e

-- the acting task is the body's own, or the own frame stays as it is
stepped : {S : Type 0} (a : Act S) (v : ℕ) (base : Frame S) (inner : List (Frame S)) (c : ℕ) → ((inner ≡ []) × MarkStep base a c (stack_after a v base inner).base.context) ⊎ (mark_of (stack_after a v base inner).base.context c ≡ mark_of base.context c)
stepped a v base [] c = inl (refl, base_step a v base c)
stepped a v base (f ∷ fs) c = inr (below a)
  where
    below : (a : Act _) → mark_of (inner_after a v base f fs).base.context c ≡ mark_of base.context c
    below Ended = refl
    below (Created o i) = refl
    below _ = refl

settled_mark : {S : Type 0} (P : Program S) (base : Frame S) (inner : List (Frame S)) (over : Bool) (c : ℕ) → mark_of (settled_parts P base inner over).base.context c ≡ mark_of base.context c
settled_mark P base [] over c = ap (λ (x : Context). mark_of x c) (settle_same P base).context
settled_mark P base (f ∷ fs) over c = refl

abbrev pub stage_mark : {S : Type 0} → Program S → Start S → List ℕ → ℕ → Mark
stage_mark P b past c = mark_of (stack_from P b past).base.context c

-- the next stage, by the act before it
next_mark : {S : Type 0} (P : Program S) (b : Start S) (v : ℕ) (vs : List ℕ) (c : ℕ)
    → (((stack_from P b vs).inner ≡ []) × IsWriting (stack_from P b vs).base (stage_act P b vs) c × (stage_mark P b (v ∷ vs) c ≡ Written)) ⊎ (stage_mark P b (v ∷ vs) c ≡ stage_mark P b vs c)
unfolding stack_from stage_act act_of
next_mark {S = S} P b v vs c =
    let s = stack_from P b vs in
    let n = stack_after (stage_act P b vs) v s.base s.inner in
    at (settled_mark P n.base n.inner n.ended c) (stepped (stage_act P b vs) v s.base s.inner c)
  where
    at : stage_mark P b (v ∷ vs) c ≡ mark_of (stack_after (stage_act P b vs) v (stack_from P b vs).base (stack_from P b vs).inner).base.context c
        → (((stack_from P b vs).inner ≡ []) × MarkStep (stack_from P b vs).base (stage_act P b vs) c (stack_after (stage_act P b vs) v (stack_from P b vs).base (stack_from P b vs).inner).base.context)
        ⊎ (mark_of (stack_after (stage_act P b vs) v (stack_from P b vs).base (stack_from P b vs).inner).base.context c ≡ mark_of (stack_from P b vs).base.context c)
        → (((stack_from P b vs).inner ≡ []) × IsWriting (stack_from P b vs).base (stage_act P b vs) c × (stage_mark P b (v ∷ vs) c ≡ Written)) ⊎ (stage_mark P b (v ∷ vs) c ≡ stage_mark P b vs c)
    at e (inl (alone, writes w m)) = inl (alone, w, e ∙ m)
    at e (inl (alone, stays m)) = inr (e ∙ m)
    at e (inr m) = inr (e ∙ m)

-- a mark is that of the start, or the task has written the cell
written_or : {S : Type 0} (P : Program S) (b : Start S) (past : List ℕ) (c : ℕ) → (stage_mark P b past c ≡ mark_of b.context c) ⊎ WrittenBefore P b past c
unfolding stack_from
written_or P b [] c = inl (ap (λ (x : Context). mark_of x c) (settle_same P (start_frame P b)).context)
written_or P b (v ∷ vs) c = go (written_or P b vs c) (next_mark P b v vs c)
  where
    go : (stage_mark P b vs c ≡ mark_of b.context c) ⊎ WrittenBefore P b vs c
        → (((stack_from P b vs).inner ≡ []) × IsWriting (stack_from P b vs).base (stage_act P b vs) c × (stage_mark P b (v ∷ vs) c ≡ Written)) ⊎ (stage_mark P b (v ∷ vs) c ≡ stage_mark P b vs c)
        → (stage_mark P b (v ∷ vs) c ≡ mark_of b.context c) ⊎ WrittenBefore P b (v ∷ vs) c
    go (inr w) k = inr (record { before = w.before; answer = w.answer; happened = longer w.happened; alone = w.alone; writes = w.writes })
    go (inl e) (inr k) = inl (k ∙ e)
    go (inl e) (inl k) = inr (record { before = vs; answer = v; happened = whole; alone = k.0; writes = k.1 })

-- what is written stays so
written_stays : {S : Type 0} (P : Program S) (b : Start S) (past : List ℕ) {more : List ℕ} (c : ℕ) → stage_mark P b past c ≡ Written → IsSuffix past more → stage_mark P b more c ≡ Written
written_stays P b past c h whole = h
written_stays P b past c h (longer {y = v} {ys = vs} k) = go (written_stays P b past c h k) (next_mark P b v vs c)
  where
    go : stage_mark P b vs c ≡ Written
        → (((stack_from P b vs).inner ≡ []) × IsWriting (stack_from P b vs).base (stage_act P b vs) c × (stage_mark P b (v ∷ vs) c ≡ Written)) ⊎ (stage_mark P b (v ∷ vs) c ≡ stage_mark P b vs c)
        → stage_mark P b (v ∷ vs) c ≡ Written
    go e (inl k) = k.2
    go e (inr k) = k ∙ e

alone_marks : {S : Type 0} (P : Program S) (a : Act S) (v : ℕ) (base : Frame S) (inner : List (Frame S)) (c : ℕ) → inner ≡ [] → IsWriting base a c → mark_of (stack_after a v base inner).base.context c ≡ Written
alone_marks P a v base [] c e w = writing_marks a v base c w
alone_marks P a v base (f ∷ fs) c e w = cc (e)

written_marks : {S : Type 0} (P : Program S) (b : Start S) (past : List ℕ) (c : ℕ) → WrittenBefore P b past c → stage_mark P b past c ≡ Written
unfolding stack_from stage_act act_of
written_marks P b past c w =
    let s = stack_from P b w.before in
    let n = stack_after (stage_act P b w.before) w.answer s.base s.inner in
    let k : mark_of n.base.context c ≡ Written = alone_marks P (stage_act P b w.before) w.answer s.base s.inner c w.alone w.writes in
    written_stays P b (w.answer ∷ w.before) c (settled_mark P n.base n.inner n.ended c ∙ k) w.happened

has_value_marks : {S : Type 0} (P : Program S) (b : Start S) (past : List ℕ) (c : ℕ) → HasValue P b past c → stage_mark P b past c ≡ Written
has_value_marks P b past c (inr w) = written_marks P b past c w
has_value_marks P b past c (inl e) = go (written_or P b past c)
  where
    go : (stage_mark P b past c ≡ mark_of b.context c) ⊎ WrittenBefore P b past c → stage_mark P b past c ≡ Written
    go (inl k) = k ∙ e
    go (inr w) = written_marks P b past c w

-- what the judge's tests tell of the mark
marked : (l : Lending) (k : Mark) (t : Touch) → NeedsValue t → touch_fault (Holds Write true) l k t ≡ None → k ≡ Written
marked l Written t n h = refl
marked l Unwritten Writes n h = absurd n
marked Free Unwritten Reads n h = cc
marked Reading Unwritten Reads n h = cc
marked Writing Unwritten Reads n h = cc
marked Free Unwritten (Folds op) n h = cc
marked Reading Unwritten (Folds op) n h = cc
marked Writing Unwritten (Folds op) n h = cc

missed : (r : Right) (l : Lending) (k : Mark) (t : Touch) → touch_fault r l k t ≡ Some fault.Unwritten → k ≡ Written → ⊥
missed r l Unwritten t h e = cc
missed NoRight l Written t h e = cc
missed Released l Written t h e = cc
missed (Holds m false) l Written t h e = cc
missed (Holds Read true) Free Written Reads h e = cc
missed (Holds Read true) Reading Written Reads h e = cc
missed (Holds Read true) Writing Written Reads h e = cc
missed (Holds Read true) Free Written Writes h e = cc
missed (Holds Read true) Reading Written Writes h e = cc
missed (Holds Read true) Writing Written Writes h e = cc
missed (Holds Read true) Free Written (Folds op) h e = cc
missed (Holds Read true) Reading Written (Folds op) h e = cc
missed (Holds Read true) Writing Written (Folds op) h e = cc
missed (Holds Write true) Free Written Reads h e = cc
missed (Holds Write true) Free Written Writes h e = cc
missed (Holds Write true) Free Written (Folds op) h e = cc
missed (Holds Write true) Reading Written Reads h e = cc
missed (Holds Write true) Reading Written Writes h e = cc
missed (Holds Write true) Reading Written (Folds op) h e = cc
missed (Holds Write true) Writing Written Reads h e = cc
missed (Holds Write true) Writing Written Writes h e = cc
missed (Holds Write true) Writing Written (Folds op) h e = cc
missed (Holds (Fold a) true) l Written Reads h e = cc
missed (Holds (Fold a) true) l Written Writes h e = cc
missed (Holds (Fold a) true) l Written (Folds b) h e = go (op_eq a b) h
  where
    go : (t : Bool) → (if t then None else Some fault.BadReduction) ≡ Some fault.Unwritten → ⊥
    go true h = cc
    go false h = cc

still : (x now : Right) → (now ≡ x) ⊎ (now ≡ Released) → (m : Mode) → now ≡ Holds m true → x ≡ Holds Write true → now ≡ Holds Write true
still x now (inl e) m h k = e ∙ k
still x now (inr e) m h k = cc

alone_reads : {S : Type 0} (P : Program S) (x : Context) (base : Frame S) (inner : List (Frame S)) (over : Bool) (c : ℕ) (t : Touch) (slot : Bool) → inner ≡ [] → ((right_of base.context c) ≡ right_of x c) ⊎ (right_of base.context c ≡ Released) → right_of x c ≡ Holds Write true
    → IsTouch (stack_act P (right_of x) base inner over) c t slot → NeedsValue t → mark_of base.context c ≡ Written
alone_reads P x base inner true c t slot e keep r i n = absurd i
alone_reads P x base (f ∷ fs) false c t slot e keep r i n = cc (e)
alone_reads P x base [] false c t slot e keep r i n =
    let k = (frame_touched P (right_of x) false base base.awaits c t slot i).fault in
    let p = touch_passes (right_of base.context c) (lent_of base.context c) (mark_of base.context c) t k in
    let h = still (right_of x c) (right_of base.context c) keep p.mode p.holds r in
    marked (lent_of base.context c) (mark_of base.context c) t n (subst (λ (z : Right). touch_fault z (lent_of base.context c) (mark_of base.context c) t ≡ None) h k)

pub every_read_has_a_value : (S : Type 0) → EveryReadHasAValue S
unfolding stage_act act_of
every_read_has_a_value S P b past c t slot alone r h n = go (written_or P b past c)
  where
    at : stage_mark P b past c ≡ Written
    at = let s = stack_from P b past in alone_reads P b.context s.base s.inner s.ended c t slot alone ((stack_ok P b past).right c) r (touch_is h) n

    go : (stage_mark P b past c ≡ mark_of b.context c) ⊎ WrittenBefore P b past c → HasValue P b past c
    go (inl e) = inl (sym e ∙ at)
    go (inr w) = inr w

judged_kind : {S : Type 0} (f : Frame S) (line other : ℕ) (key : List ℕ) (r : Option FaultKind) (a : Act S) (k : FaultKind) → judged_act f line r a ≡ Fault k other key → (a ≡ Fault k other key → ⊥) → r ≡ Some k
judged_kind f line other key None a k h n = absurd (n h)
judged_kind f line other key (Some j) a k h n = cc

asked_missed : {S : Type 0} (slots : ℕ → Right) (f : Frame S) (a : Ask S) (line other : ℕ) (key : List ℕ) (c : ℕ) → AsksFor a c → mark_of f.context c ≡ Written → act_of_ask slots false f a line ≡ Fault fault.Unwritten other key → ⊥
asked_missed slots f (Ask.Read d) line other key c e m h =
    let k = judged_kind f line other key (touch_fault (right_of f.context d) (lent_of f.context d) (mark_of f.context d) Reads) (Load d) fault.Unwritten h (λ q. cc) in
    missed (right_of f.context d) (lent_of f.context d) (mark_of f.context d) Reads k (ap (λ (z : ℕ). mark_of f.context z) e ∙ m)
asked_missed slots f (Ask.Write d v) line other key c e m h =
    let k = judged_kind f line other key (touch_fault (right_of f.context d) (lent_of f.context d) (mark_of f.context d) Writes) _ fault.Unwritten h (λ q. cc) in
    missed (right_of f.context d) (lent_of f.context d) (mark_of f.context d) Writes k (ap (λ (z : ℕ). mark_of f.context z) e ∙ m)
asked_missed slots f (Ask.Fold d op v) line other key c e m h =
    let k = judged_kind f line other key (touch_fault (right_of f.context d) (lent_of f.context d) (mark_of f.context d) (Folds op)) _ fault.Unwritten h (λ q. cc) in
    missed (right_of f.context d) (lent_of f.context d) (mark_of f.context d) (Folds op) k (ap (λ (z : ℕ). mark_of f.context z) e ∙ m)
asked_missed slots f _ line other key c e m h = absurd e

alone_missed : {S : Type 0} (P : Program S) (slots : ℕ → Right) (base : Frame S) (inner : List (Frame S)) (over : Bool) (w : Bool) (c line : ℕ) (key : List ℕ) → inner ≡ [] → base.awaits ≡ w → AsksFor (ask_of P base).ask c → mark_of base.context c ≡ Written
    → stack_act P slots base inner over ≡ Fault fault.Unwritten line key → ⊥
alone_missed P slots base inner true w c line key e q a m h = cc
alone_missed P slots base (f ∷ fs) false w c line key e q a m h = cc (e)
alone_missed P slots base [] false true c line key e q a m h = let k : Awaited ≡ Fault fault.Unwritten line key = rw q at h in cc
alone_missed P slots base [] false false c line key e q a m h = asked_missed slots base (ask_of P base).ask (ask_of P base).line line key c a m (rw q at h)

pub no_value_is_missed : (S : Type 0) → NoValueIsMissed S
unfolding stage_act act_of
no_value_is_missed S P b past c line key alone a v h =
    let s = stack_from P b past in
    alone_missed P (right_of b.context) s.base s.inner s.ended s.base.awaits c line key alone refl a (has_value_marks P b past c v) h

both_true : (a b : Bool) → (a && b) ≡ true → (a ≡ true) × (b ≡ true)
both_true true b h = (refl, h)
both_true false b h = cc

in_cases : {A : Type 0} {a x : A} {xs : List A} → IsIn a (x ∷ xs) → (a ≡ x) ⊎ IsIn a xs
in_cases here = inl refl
in_cases (there i) = inr i

-- each access that names the cell is fresh, where the test says so
fresh_each : (xs : List Access) (c : ℕ) → is_fresh xs c ≡ true → (a : Access) → IsIn a xs → in_access a c ≡ true → a.fresh ≡ true
fresh_each [] c h a i k = elim i [ ]
fresh_each (x ∷ rest) c h a i k = go (in_access x c) refl (in_cases i) (λ n j. fresh_each rest c n a j k)
  where
    go : (t : Bool) → in_access x c ≡ t → (a ≡ x) ⊎ IsIn a rest → (is_fresh rest c ≡ true → IsIn a rest → a.fresh ≡ true) → a.fresh ≡ true
    go true e (inl q) more = subst (λ (z : Access). z.fresh ≡ true) (sym q) (both_true x.fresh (is_fresh rest c) (rw e at h)).0
    go true e (inr j) more = more (both_true x.fresh (is_fresh rest c) (rw e at h)).1 j
    go false e (inl q) more = let n : false ≡ true = sym e ∙ subst (λ (z : Access). in_access z c ≡ true) q k in cc
    go false e (inr j) more = more (rw e at h) j

each_fresh : (xs : List Access) (c : ℕ) → ((a : Access) → IsIn a xs → in_access a c ≡ true → a.fresh ≡ true) → is_fresh xs c ≡ true
each_fresh [] c h = refl
each_fresh (x ∷ rest) c h = go (in_access x c) refl (each_fresh rest c (λ a i k. h a (there i) k))
  where
    go : (t : Bool) → in_access x c ≡ t → is_fresh rest c ≡ true → (if in_access x c then x.fresh && is_fresh rest c else is_fresh rest c) ≡ true
    go true e below = let k : x.fresh ≡ true = h x here e in rw (e, k) below
    go false e below = rw e below

first_unwritten : (r : Right) (b : Bool) → first_mark r b ≡ Unwritten → ((strong : Bool) × (r ≡ Holds Write strong)) × (b ≡ true)
first_unwritten (Holds Write strong) true h = ((strong, refl), refl)
first_unwritten (Holds Write strong) false h = cc
first_unwritten (Holds Read strong) true h = cc
first_unwritten (Holds Read strong) false h = cc
first_unwritten (Holds (Fold op) strong) true h = cc
first_unwritten (Holds (Fold op) strong) false h = cc
first_unwritten NoRight true h = cc
first_unwritten NoRight false h = cc
first_unwritten Released true h = cc
first_unwritten Released false h = cc

-- the entry of a new task, or none past the table
new_entry : Context → List Access → Bool → ℕ → Entry
new_entry x clauses final c = record { right = right_from final clauses c; lent = Free; mark = first_mark (right_from final clauses c) (is_fresh clauses c) }

child_cases : (x : Context) (clauses : List Access) (last : Bool) (c : ℕ)
    → ((right_of (child_context x clauses last) c ≡ right_from (x.final || last) clauses c) × (mark_of (child_context x clauses last) c ≡ first_mark (right_from (x.final || last) clauses c) (is_fresh clauses c)))
    ⊎ ((right_of (child_context x clauses last) c ≡ NoRight) × (mark_of (child_context x clauses last) c ≡ Written))
unfolding new_entry
child_cases x clauses last c = go (le_or c (length x.entries))
  where
    go : (c < length x.entries) ⊎ (length x.entries ≤ c)
        → ((right_of (child_context x clauses last) c ≡ right_from (x.final || last) clauses c) × (mark_of (child_context x clauses last) c ≡ first_mark (right_from (x.final || last) clauses c) (is_fresh clauses c)))
        ⊎ ((right_of (child_context x clauses last) c ≡ NoRight) × (mark_of (child_context x clauses last) c ≡ Written))
    go (inl l) =
        let e = tabled_at (new_entry x clauses (x.final || last)) (length x.entries) c no_entry l in
        inl (ap (λ (e : Entry). e.right) e, ap (λ (e : Entry). e.mark) e)
    go (inr l) =
        let e = tabled_past (new_entry x clauses (x.final || last)) (length x.entries) c no_entry l in
        inr (ap (λ (e : Entry). e.right) e, ap (λ (e : Entry). e.mark) e)

pub out_starts_unwritten : (S : Type 0) → OutStartsUnwritten S
out_starts_unwritten S f o c = go (child_cases f.context o.clauses o.last c)
  where
    last : Bool
    last = f.context.final || o.last

    go : ((right_of (child_context f.context o.clauses o.last) c ≡ right_from (f.context.final || o.last) o.clauses c) × (mark_of (child_context f.context o.clauses o.last) c ≡ first_mark (right_from (f.context.final || o.last) o.clauses c) (is_fresh o.clauses c)))
        ⊎ ((right_of (child_context f.context o.clauses o.last) c ≡ NoRight) × (mark_of (child_context f.context o.clauses o.last) c ≡ Written))
        → (mark_of (child_context f.context o.clauses o.last) c ≡ Unwritten → ((strong : Bool) × (right_of (child_context f.context o.clauses o.last) c ≡ Holds Write strong)) × ((a : Access) → IsIn a o.clauses → in_access a c ≡ true → a.fresh ≡ true))
        × (((strong : Bool) × (right_of (child_context f.context o.clauses o.last) c ≡ Holds Write strong)) × ((a : Access) → IsIn a o.clauses → in_access a c ≡ true → a.fresh ≡ true) → mark_of (child_context f.context o.clauses o.last) c ≡ Unwritten)
    go (inl k) = (
      λ m. let u = first_unwritten (right_from (f.context.final || o.last) o.clauses c) (is_fresh o.clauses c) (sym k.1 ∙ m) in ((u.0.0, k.0 ∙ u.0.1), λ a i h. fresh_each o.clauses c u.1 a i h),
      λ w. let r : right_from (f.context.final || o.last) o.clauses c ≡ Holds Write w.0.0 = sym k.0 ∙ w.0.1 in let n : is_fresh o.clauses c ≡ true = each_fresh o.clauses c w.1 in k.1 ∙ rw (r, n) refl,
    )
    go (inr k) = (
      λ m. let q : Written ≡ Unwritten = sym k.1 ∙ m in cc,
      λ w. let q : NoRight ≡ Holds Write w.0.0 = sym k.0 ∙ w.0.1 in cc,
    )
