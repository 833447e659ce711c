-- What a body has lent of a cell, told by its own events: a creation that lends, and no wait since.
use Rattle.std.proofs.Common.{◌≡◌, ℕ, ◌<◌, ◌≤◌, ◌⊎◌, inl, inr, refl, sym, subst, ap, ◌∙◌, List, [], ◌∷◌, length, arith, Bool, true, false, Some, None}
use Rattle.std.specs.Prelude.{◌||◌, if◌then◌else◌}
use Rattle.std.proofs.lemmas.List.{get_or_past}
use Rattle.oss_syntax.specs.declared.access.Access.{Access}
use Rattle.oss_syntax.specs.declared.access.Mode.{Mode}
use Rattle.oss_syntax.specs.declared.access.Mode.TheVariants.{Read, Write, Fold}
use Rattle.oss_syntax.specs.declared.fault.FaultKind.TheVariants as fault
use Rattle.oss_model.specs.Bodies.{Act, Frame, Order, Program, Start, act_of, base_after, inner_after, lent_when, one_more_created, settled_frame, settled_parts, stack_act, stack_after, stack_from, stage_act, start_frame, top_frame}
use Rattle.oss_model.specs.Bodies.Act.{Created, Ended, Folded, Releases, Store, Waited, WaitedOn}
use Rattle.oss_model.specs.Context.{Context, Entry, child_context, in_clauses, lend, lend_cell, lent_of, made, main_context, mark_of, no_entry, right_of, waited_on, with_entries}
use Rattle.oss_model.specs.Order.{IsSuffix, longer, whole}
use Rattle.oss_model.specs.Rights.{Folds, Free, Holds, Lending, Mark, NoRight, Reading, Reads, Released, Right, Touch, Unwritten, Writes, Writing, Written, mark_from, op_eq, right_from, touch_fault}
use Rattle.oss_model.proofs.BodyLemmas.{settle_same, stack_ok}
use Rattle.oss_model.proofs.ContextLemmas.{made_lent, tabled_at, tabled_past, wrote_lent}
use Rattle.oss_model.proofs.LendLemmas.{Cleared, Clears, LentFor, created_lends, lent_or_cleared, stage_lent}
use Rattle.oss_model.proofs.OrderLemmas.{suffix_length}
use Rattle.oss_model.proofs.StageLemmas.{creating, no_inner_of_open}
use Rattle.oss_explanation.specs.Lives.{hinders, waits_for}

-- What is lent

-- The context has lent nothing.
abbrev pub LendsNothing : Context → Type 0
LendsNothing x = (c : ℕ) → lent_of x c ≡ Free

-- What is lent hinders the touch.
abbrev pub Hindered : Touch → Lending → Type 0
Hindered Reads l = l ≡ Writing
Hindered _ l = l ≡ Free → ⊥

pub not_free : (touch : Touch) (l : Lending) → l ≡ Free → Hindered touch l → ⊥
not_free Reads l e h = let k : Free ≡ Writing = sym e ∙ h in cc
not_free Writes l e h = h e
not_free (Folds op) l e h = h e

-- a touch that is refused as Lent is hindered
pub lent_is_hindered : (r : Right) (l : Lending) (m : Mark) (touch : Touch) → touch_fault r l m touch ≡ Some fault.Lent → Hindered touch l
lent_is_hindered Released l m touch h = absurd cc
lent_is_hindered NoRight l m touch h = absurd cc
lent_is_hindered (Holds mode false) l m touch h = absurd cc
lent_is_hindered (Holds Read true) Writing m Reads h = refl
lent_is_hindered (Holds Read true) Free m Reads h = absurd cc
lent_is_hindered (Holds Read true) Reading m Reads h = absurd cc
lent_is_hindered (Holds Read true) Free m Writes h = absurd cc
lent_is_hindered (Holds Read true) Reading m Writes h = absurd cc
lent_is_hindered (Holds Read true) Writing m Writes h = absurd cc
lent_is_hindered (Holds Read true) Free m (Folds op) h = absurd cc
lent_is_hindered (Holds Read true) Reading m (Folds op) h = absurd cc
lent_is_hindered (Holds Read true) Writing m (Folds op) h = absurd cc
lent_is_hindered (Holds Write true) Free Unwritten Reads h = absurd cc
lent_is_hindered (Holds Write true) Free Written Reads h = absurd cc
lent_is_hindered (Holds Write true) Free Unwritten Writes h = absurd cc
lent_is_hindered (Holds Write true) Free Written Writes h = absurd cc
lent_is_hindered (Holds Write true) Free Unwritten (Folds op) h = absurd cc
lent_is_hindered (Holds Write true) Free Written (Folds op) h = absurd cc
lent_is_hindered (Holds Write true) Reading Unwritten Reads h = absurd cc
lent_is_hindered (Holds Write true) Reading Written Reads h = absurd cc
lent_is_hindered (Holds Write true) Reading m Writes h = λ e. cc
lent_is_hindered (Holds Write true) Reading m (Folds op) h = λ e. cc
lent_is_hindered (Holds Write true) Writing m Reads h = refl
lent_is_hindered (Holds Write true) Writing m Writes h = λ e. cc
lent_is_hindered (Holds Write true) Writing m (Folds op) h = λ e. cc
lent_is_hindered (Holds (Fold a) true) l m (Folds b) h = absurd (go (op_eq a b) h)
  where
    go : (same : Bool) → (if same then None else Some fault.BadReduction) ≡ Some fault.Lent → ⊥
    go true e = cc
    go false e = cc
lent_is_hindered (Holds (Fold a) true) l m Reads h = absurd cc
lent_is_hindered (Holds (Fold a) true) l m Writes h = absurd cc

-- what a child is lent hinders, or what was lent before
lent_by : (touch : Touch) (r : Right) (old : Lending) → Hindered touch (lend_cell r old) → (hinders touch r ≡ true) ⊎ Hindered touch old
lent_by Reads NoRight old h = inr h
lent_by Reads Released old h = inr h
lent_by Reads (Holds Read s) Free h = absurd cc
lent_by Reads (Holds Read s) Reading h = absurd cc
lent_by Reads (Holds Read s) Writing h = inr refl
lent_by Reads (Holds Write s) old h = inl refl
lent_by Reads (Holds (Fold op) s) old h = inl refl
lent_by Writes NoRight old h = inr h
lent_by Writes Released old h = inr h
lent_by Writes (Holds m s) old h = inl refl
lent_by (Folds op) NoRight old h = inr h
lent_by (Folds op) Released old h = inr h
lent_by (Folds op) (Holds m s) old h = inl refl

-- a child that hinders has a right
holds_by : (touch : Touch) (r : Right) → hinders touch r ≡ true → (m : Mode) × ((strong : Bool) × (r ≡ Holds m strong))
holds_by Reads NoRight h = absurd cc
holds_by Reads Released h = absurd cc
holds_by Writes NoRight h = absurd cc
holds_by Writes Released h = absurd cc
holds_by (Folds op) NoRight h = absurd cc
holds_by (Folds op) Released h = absurd cc
holds_by touch (Holds m s) h = (m, (s, refl))

lends_for : (touch : Touch) (m : Mode) (strong : Bool) (l : Lending) → hinders touch (Holds m strong) ≡ true → LentFor m l → Hindered touch l
lends_for Reads Read s l h k = absurd cc
lends_for Reads Write s Free h k = absurd k
lends_for Reads Write s Reading h k = absurd k
lends_for Reads Write s Writing h k = refl
lends_for Reads (Fold op) s Free h k = absurd k
lends_for Reads (Fold op) s Reading h k = absurd k
lends_for Reads (Fold op) s Writing h k = refl
lends_for Writes m s Free h k = absurd k
lends_for Writes m s Reading h k = λ e. cc
lends_for Writes m s Writing h k = λ e. cc
lends_for (Folds op) m s Free h k = absurd k
lends_for (Folds op) m s Reading h k = λ e. cc
lends_for (Folds op) m s Writing h k = λ e. cc

-- Entries

le_or : (m n : ℕ) → (m < n) ⊎ (n ≤ m)
le_or m n = grind arith

-- a cell has the new lending, or is past the table
lent_cases : (f : ℕ → Entry) (x : Context) (c : ℕ) → (lent_of (with_entries f x) c ≡ (f c).lent) ⊎ ((lent_of (with_entries f x) c ≡ Free) × (lent_of x c ≡ Free))
lent_cases f x c = go (le_or c (length x.entries))
  where
    go : (c < length x.entries) ⊎ (length x.entries ≤ c) → (lent_of (with_entries f x) c ≡ (f c).lent) ⊎ ((lent_of (with_entries f x) c ≡ Free) × (lent_of x c ≡ Free))
    go (inl l) = inl (ap (λ (e : Entry). e.lent) (tabled_at f (length x.entries) c no_entry l))
    go (inr l) = inr (ap (λ (e : Entry). e.lent) (tabled_past f (length x.entries) c no_entry l), ap (λ (e : Entry). e.lent) (get_or_past x.entries c no_entry l))

same_lent : (f : ℕ → Entry) (x : Context) (c : ℕ) → (f c).lent ≡ lent_of x c → lent_of (with_entries f x) c ≡ lent_of x c
same_lent f x c h = go (lent_cases f x c)
  where
    go : (lent_of (with_entries f x) c ≡ (f c).lent) ⊎ ((lent_of (with_entries f x) c ≡ Free) × (lent_of x c ≡ Free)) → lent_of (with_entries f x) c ≡ lent_of x c
    go (inl e) = e ∙ h
    go (inr e) = e.0 ∙ sym e.1

freed : (f : ℕ → Entry) (x : Context) (c : ℕ) → (f c).lent ≡ Free → lent_of (with_entries f x) c ≡ Free
freed f x c h = go (lent_cases f x c)
  where
    go : (lent_of (with_entries f x) c ≡ (f c).lent) ⊎ ((lent_of (with_entries f x) c ≡ Free) × (lent_of x c ≡ Free)) → lent_of (with_entries f x) c ≡ Free
    go (inl e) = e ∙ h
    go (inr e) = e.0

-- a new task has lent nothing
pub child_lends_nothing : (x : Context) (clauses : List Access) (last : Bool) → LendsNothing (child_context x clauses last)
child_lends_nothing x clauses last c =
    freed (λ d. record { right = right_from (x.final || last) clauses d; lent = Free; mark = mark_from (x.final || last) clauses d }) x c refl

-- main has lent nothing at its start
pub main_lends_nothing : (cells fuel : ℕ) → LendsNothing (main_context cells fuel)
main_lends_nothing cells fuel c = go (le_or c cells)
  where
    go : (c < cells) ⊎ (cells ≤ c) → lent_of (main_context cells fuel) c ≡ Free
    go (inl l) = ap (λ (e : Entry). e.lent) (tabled_at (λ d. record { right = Holds Write true; lent = Free; mark = Written }) cells c no_entry l)
    go (inr l) = ap (λ (e : Entry). e.lent) (tabled_past (λ d. record { right = Holds Write true; lent = Free; mark = Written }) cells c no_entry l)

-- One act

-- how an act of a task leaves what is lent of a cell
data LendStep {S : Type 0} (f : Frame S) (a : Act S) (c : ℕ) (l : Lending) : Type 0 where
  stays : waits_for a c ≡ false → l ≡ lent_of f.context c → LendStep f a c l
  frees : l ≡ Free → LendStep f a c l
  lends : {o : Order S} → a ≡ Created o false → o.when ≡ true → l ≡ lend_cell (right_of (child_context f.context o.clauses o.last) c) (lent_of f.context c) → LendStep f a c l

-- the entries behind a wait for some cells
abbrev waited_entry : List Access → Context → ℕ → Entry
waited_entry named x d = record { right = right_of x d; lent = if in_clauses named d then Free else lent_of x d; mark = mark_of x d }

waited_step : {S : Type 0} (named : List Access) (f : Frame S) (c : ℕ) → LendStep f (WaitedOn named) c (lent_of (waited_on named f.context) c)
waited_step named f c = go (in_clauses named c) refl
  where
    go : (b : Bool) → in_clauses named c ≡ b → LendStep f (WaitedOn named) c (lent_of (waited_on named f.context) c)
    go true e = frees (freed (waited_entry named f.context) f.context c (rw e refl))
    go false e = stays e (same_lent (waited_entry named f.context) f.context c (rw e refl))

created_step : {S : Type 0} (o : Order S) (f : Frame S) (c : ℕ) (w : Bool) → o.when ≡ w
    → LendStep f (Created o false) c (lent_of (made (right_of (child_context f.context o.clauses o.last)) (lent_when w (right_of (child_context f.context o.clauses o.last)) (one_more_created f.context))) c)
created_step {S = S} o f c false e = stays refl (made_lent (right_of (child_context f.context o.clauses o.last)) (one_more_created f.context) c)
created_step {S = S} o f c true e =
    let given = right_of (child_context f.context o.clauses o.last) in
    let x = one_more_created f.context in
    go (made_lent given (lend given x) c) (lent_cases (λ d. record { right = right_of x d; lent = lend_cell (given d) (lent_of x d); mark = mark_of x d }) x c)
  where
    go : lent_of (made (right_of (child_context f.context o.clauses o.last)) (lend (right_of (child_context f.context o.clauses o.last)) (one_more_created f.context))) c
        ≡ lent_of (lend (right_of (child_context f.context o.clauses o.last)) (one_more_created f.context)) c
        → (lent_of (lend (right_of (child_context f.context o.clauses o.last)) (one_more_created f.context)) c ≡ lend_cell (right_of (child_context f.context o.clauses o.last) c) (lent_of f.context c))
        ⊎ ((lent_of (lend (right_of (child_context f.context o.clauses o.last)) (one_more_created f.context)) c ≡ Free) × (lent_of f.context c ≡ Free))
        → LendStep {S = S} f (Created o false) c (lent_of (made (right_of (child_context f.context o.clauses o.last)) (lend (right_of (child_context f.context o.clauses o.last)) (one_more_created f.context))) c)
    go m (inl k) = lends refl e (m ∙ k)
    go m (inr k) = stays refl (m ∙ k.0 ∙ sym k.1)

base_lends : {S : Type 0} (a : Act S) (v : ℕ) (f : Frame S) (c : ℕ) → LendStep f a c (lent_of (base_after a v f).base.context c)
base_lends Ended v f c = stays refl refl
base_lends (Created o true) v f c = stays refl (made_lent (right_of (child_context f.context o.clauses o.last)) (one_more_created f.context) c)
base_lends (Created o false) v f c = created_step o f c o.when refl
base_lends (Store cell value) v f c = stays refl (wrote_lent cell f.context c)
base_lends (Folded cell op value slot) v f c = stays refl (wrote_lent cell f.context c)
base_lends Waited v f c = frees (freed (λ d. record { right = right_of f.context d; lent = Free; mark = mark_of f.context d }) f.context c refl)
base_lends (WaitedOn named) v f c = waited_step named f c
base_lends (Releases clauses i) v f c = stays refl (same_lent (λ d. record { right = if in_clauses clauses d then Released else right_of f.context d; lent = lent_of f.context d; mark = mark_of f.context d }) f.context c refl)
base_lends _ v f c = stays refl refl

alone_lends : {S : Type 0} (a : Act S) (v : ℕ) (base : Frame S) (inner : List (Frame S)) (c : ℕ) → inner ≡ [] → LendStep base a c (lent_of (stack_after a v base inner).base.context c)
alone_lends a v base [] c e = base_lends a v base c
alone_lends a v base (f ∷ fs) c e = absurd (cc (e))

settled_lent : {S : Type 0} (P : Program S) (base : Frame S) (inner : List (Frame S)) (over : Bool) (c : ℕ) → lent_of (settled_parts P base inner over).base.context c ≡ lent_of base.context c
settled_lent P base [] over c = ap (λ (x : Context). lent_of x c) (settle_same P base).context
settled_lent P base (f ∷ fs) over c = refl

stage_lends : {S : Type 0} (P : Program S) (b : Start S) (v : ℕ) (vs : List ℕ) (c : ℕ) → (stack_from P b vs).inner ≡ [] → LendStep (stack_from P b vs).base (stage_act P b vs) c (stage_lent P b (v ∷ vs) c)
unfolding stack_from stage_act act_of
stage_lends P b v vs c alone =
    let s = stack_from P b vs in
    let a = stage_act P b vs in
    let n = stack_after a v s.base s.inner in
    subst (λ (l : Lending). LendStep s.base a c l) (sym (settled_lent P n.base n.inner n.ended c)) (alone_lends a v s.base s.inner c alone)

first_lent : {S : Type 0} (P : Program S) (b : Start S) (c : ℕ) → stage_lent P b [] c ≡ lent_of b.context c
unfolding stack_from
first_lent P b c = ap (λ (x : Context). lent_of x c) (settle_same P (start_frame P b)).context

clears_waits : {S : Type 0} (a : Act S) (c : ℕ) → Clears a c → waits_for a c ≡ true
clears_waits Waited c h = refl
clears_waits (WaitedOn named) c h = h
clears_waits _ c h = absurd h

-- Events of a body

-- The body has lent the cell to a child that hinders such a touch, and has not waited for the cell since.
pub record LentAt {S : Type 0} (P : Program S) (b : Start S) (past : List ℕ) (c : ℕ) (touch : Touch) : Type 0 where
  pub before : List ℕ
  pub answer : ℕ
  pub order : Order S
  pub happened : IsSuffix (answer ∷ before) past
  pub creates : stage_act P b before ≡ Created order false
  pub lends : order.when ≡ true
  pub hindering : hinders touch (right_of (child_context (stack_from P b before).base.context order.clauses order.last) c) ≡ true
  pub since : (w : ℕ) (ws : List ℕ) → IsSuffix (w ∷ ws) past → length before < length ws → waits_for (stage_act P b ws) c ≡ true → ⊥

module _ {S : Type 0} (P : Program S) (b : Start S) (c : ℕ) (touch : Touch) where
  -- an act that is no wait for the cell leaves it lent
  later : (v : ℕ) (vs : List ℕ) → LentAt P b vs c touch → waits_for (stage_act P b vs) c ≡ false → LentAt P b (v ∷ vs) c touch
  later v vs h n =
      record {
        before = h.before;
        answer = h.answer;
        order = h.order;
        happened = longer h.happened;
        creates = h.creates;
        lends = h.lends;
        hindering = h.hindering;
        since = λ w ws i l e. go w ws i l e;
      }
    where
      go : (w : ℕ) (ws : List ℕ) → IsSuffix (w ∷ ws) (v ∷ vs) → length h.before < length ws → waits_for (stage_act P b ws) c ≡ true → ⊥
      go w ws whole l e = let k : false ≡ true = sym n ∙ e in cc
      go w ws (longer i) l e = h.since w ws i l e

  lent_now : (v : ℕ) (vs : List ℕ) (o : Order S) → stage_act P b vs ≡ Created o false → o.when ≡ true
      → hinders touch (right_of (child_context (stack_from P b vs).base.context o.clauses o.last) c) ≡ true → LentAt P b (v ∷ vs) c touch
  lent_now v vs o a w h =
      record {
        before = vs;
        answer = v;
        order = o;
        happened = whole;
        creates = a;
        lends = w;
        hindering = h;
        since = λ w ws i l e. let n = suffix_length i in omega (arith, l, n);
      }

  module _ (nothing : LendsNothing b.context) (open_ : b.context.final ≡ false) where
    alone : (past : List ℕ) → (stack_from P b past).inner ≡ []
    alone past = let s = stack_from P b past in no_inner_of_open b.context b.path s.base s.inner (stack_ok P b past) open_

    -- what is lent was lent by a creation
    pub lent_at : (past : List ℕ) → Hindered touch (stage_lent P b past c) → LentAt P b past c touch
    lent_at [] h = absurd (not_free touch (stage_lent P b [] c) (first_lent P b c ∙ nothing c) h)
    lent_at (v ∷ vs) h = go (lent_at vs) (stage_lends P b v vs c (alone vs))
      where
        creation : (Hindered touch (stage_lent P b vs c) → LentAt P b vs c touch) → (o : Order S) → stage_act P b vs ≡ Created o false → o.when ≡ true
            → (hinders touch (right_of (child_context (stack_from P b vs).base.context o.clauses o.last) c) ≡ true) ⊎ Hindered touch (stage_lent P b vs c) → LentAt P b (v ∷ vs) c touch
        creation again o a w (inl k) = lent_now v vs o a w k
        creation again o a w (inr k) = later v vs (again k) (ap (λ (x : Act S). waits_for x c) a)

        go : (Hindered touch (stage_lent P b vs c) → LentAt P b vs c touch) → LendStep (stack_from P b vs).base (stage_act P b vs) c (stage_lent P b (v ∷ vs) c) → LentAt P b (v ∷ vs) c touch
        go again (stays n e) = later v vs (again (subst (λ (l : Lending). Hindered touch l) e h)) n
        go again (frees e) = absurd (not_free touch (stage_lent P b (v ∷ vs) c) e h)
        go again (lends {o = o} a w e) =
            creation again o a w (lent_by touch (right_of (child_context (stack_from P b vs).base.context o.clauses o.last) c) (stage_lent P b vs c) (subst (λ (l : Lending). Hindered touch l) e h))

  -- and what a creation has lent is lent until a wait
  still : (past : List ℕ) (h : LentAt P b past c touch) (m : Mode) (strong : Bool) → right_of (child_context (stack_from P b h.before).base.context h.order.clauses h.order.last) c ≡ Holds m strong
      → Cleared P b (h.answer ∷ h.before) past c ⊎ LentFor m (stage_lent P b past c) → Hindered touch (stage_lent P b past c)
  still past h m strong e (inl k) = let n = suffix_length k.after in absurd (h.since k.answer k.past k.happened (omega (arith, n)) (clears_waits (stage_act P b k.past) c k.clears))
  still past h m strong e (inr k) = lends_for touch m strong (stage_lent P b past c) (subst (λ (r : Right). hinders touch r ≡ true) e h.hindering) k

  pub lent_still : (past : List ℕ) → LentAt P b past c touch → Hindered touch (stage_lent P b past c)
  lent_still past h = go (holds_by touch (right_of (child_context (stack_from P b h.before).base.context h.order.clauses h.order.last) c) h.hindering)
    where
      go : (m : Mode) × ((strong : Bool) × (right_of (child_context (stack_from P b h.before).base.context h.order.clauses h.order.last) c ≡ Holds m strong)) → Hindered touch (stage_lent P b past c)
      go (m, (strong, e)) =
          let lent = created_lends P b h.answer h.before h.order c m strong h.creates h.lends e in
          still past h m strong e (lent_or_cleared P b (h.answer ∷ h.before) m c lent h.happened)

-- Bodies of final tasks

-- none of these tasks has lent anything
abbrev pub AreFree : {S : Type 0} → List (Frame S) → Type 0
AreFree [] = Unit {0}
AreFree (f ∷ fs) = LendsNothing f.context × AreFree fs

module _ {S : Type 0} where
  frame_free : (a : Act S) (v : ℕ) (f : Frame S) → ((o : Order S) → a ≡ Created o false → ⊥) → LendsNothing f.context → LendsNothing (base_after a v f).base.context
  frame_free a v f apart h c = go (base_lends a v f c)
    where
      go : LendStep f a c (lent_of (base_after a v f).base.context c) → lent_of (base_after a v f).base.context c ≡ Free
      go (stays n e) = e ∙ h c
      go (frees e) = e
      go (lends {o = o} e w l) = absurd (apart o e)

  base_free : (a : Act S) (v : ℕ) (base : Frame S) → ((o : Order S) → a ≡ Created o false → ⊥) → LendsNothing base.context → AreFree ((base_after a v base).base ∷ (base_after a v base).inner)
  base_free (Created o true) v base apart h = (frame_free (Created o true) v base apart h, (child_lends_nothing base.context o.clauses o.last, tt))
  base_free (Created o false) v base apart h = absurd (apart o refl)
  base_free a v base apart h = (frame_free a v base apart h, tt)

  inner_free : (a : Act S) (v : ℕ) (base f : Frame S) (fs : List (Frame S)) → ((o : Order S) → a ≡ Created o false → ⊥) → AreFree (base ∷ f ∷ fs)
      → AreFree ((inner_after a v base f fs).base ∷ (inner_after a v base f fs).inner)
  inner_free Ended v base f fs apart (h, (k, more)) = (h, more)
  inner_free (Created o i) v base f fs apart (h, (k, more)) =
      (h, (child_lends_nothing f.context o.clauses o.last, (λ c. made_lent (right_of (child_context f.context o.clauses o.last)) (one_more_created f.context) c ∙ k c, more)))
  inner_free a v base f fs apart (h, (k, more)) = (h, (frame_free a v f apart k, more))

  step_free : (a : Act S) (v : ℕ) (base : Frame S) (inner : List (Frame S)) → ((o : Order S) → a ≡ Created o false → ⊥) → AreFree (base ∷ inner) → AreFree ((stack_after a v base inner).base ∷ (stack_after a v base inner).inner)
  step_free a v base [] apart h = base_free a v base apart h.0
  step_free a v base (f ∷ fs) apart h = inner_free a v base f fs apart h

  settled_one : (P : Program S) (f : Frame S) → LendsNothing f.context → LendsNothing (settled_frame P f).context
  settled_one P f h = subst LendsNothing (sym (settle_same P f).context) h

  settled_free : (P : Program S) (base : Frame S) (inner : List (Frame S)) (over : Bool) → AreFree (base ∷ inner) → AreFree ((settled_parts P base inner over).base ∷ (settled_parts P base inner over).inner)
  settled_free P base [] over h = (settled_one P base h.0, tt)
  settled_free P base (f ∷ fs) over (h, (k, more)) = (h, (settled_one P f k, more))

  none_created : (P : Program S) (b : Start S) (past : List ℕ) → b.context.final ≡ true → (o : Order S) → stage_act P b past ≡ Created o false → ⊥
  none_created P b past final o a = let e : true ≡ false = sym final ∙ (creating P b past o a).open_ in cc

  stack_free : (P : Program S) (b : Start S) → b.context.final ≡ true → LendsNothing b.context → (past : List ℕ) → AreFree ((stack_from P b past).base ∷ (stack_from P b past).inner)
  unfolding stack_from stage_act act_of
  stack_free P b final h [] = (settled_one P (start_frame P b) h, tt)
  stack_free P b final h (v ∷ vs) =
      let s = stack_from P b vs in
      let a = stack_act P (right_of b.context) s.base s.inner s.ended in
      let n = stack_after a v s.base s.inner in
      settled_free P n.base n.inner n.ended (step_free a v s.base s.inner (none_created P b vs final) (stack_free P b final h vs))

  top_free : (base : Frame S) (inner : List (Frame S)) → AreFree (base ∷ inner) → LendsNothing (top_frame base inner).context
  top_free base [] h = h.0
  top_free base (f ∷ fs) h = h.1.0

  -- a final task, and one that it includes, lends nothing
  pub final_lends_nothing : (P : Program S) (b : Start S) → b.context.final ≡ true → LendsNothing b.context → (past : List ℕ) → LendsNothing (top_frame (stack_from P b past).base (stack_from P b past).inner).context
  final_lends_nothing P b final h past = top_free (stack_from P b past).base (stack_from P b past).inner (stack_free P b final h past)
