-- What a task has released, it has released by an act of its own.
use Rattle.std.proofs.Common.{◌≡◌, ℕ, ◌⊎◌, inl, inr, refl, sym, subst, ap, ◌∙◌, List, [], ◌∷◌, Bool, true, false}
use Rattle.std.specs.Prelude.{◌||◌, if◌then◌else◌}
use Rattle.oss_syntax.specs.declared.access.Access.{Access}
use Rattle.oss_model.specs.Bodies.{Act, Frame, Order, Program, Start, act_of, base_after, child_frame, child_start, frame_after, including_frame, inner_after, lent_when, one_more_created, settled_frame, settled_parts, stack_act, stack_after, stack_from, stage_act, start_frame, top_frame}
use Rattle.oss_model.specs.Bodies.Act.{Awaited, Created, Ended, Fault, Folded, Load, Over, Printed, Releases, Store, Ticked, Waited, WaitedOn}
use Rattle.oss_model.specs.Context.{Context, child_context, in_clauses, lend_cell, lent_of, mark_of, release, right_of, waited, waited_on}
use Rattle.oss_model.specs.History.{IsMade}
use Rattle.oss_model.specs.Machine.{At, State, Task}
use Rattle.oss_model.specs.Memory.{Event}
use Rattle.oss_model.specs.Order.{IsSuffix, longer, whole}
use Rattle.oss_model.specs.Rights.{Free, Holds, NoRight, Released, Right, joined_mode, joined_right, mark_from, right_from, right_held, in_access}
use Rattle.oss_model.proofs.BodyLemmas.{settle_same}
use Rattle.oss_model.proofs.ContextLemmas.{entry_cases, made_right, same_right, wrote_right}
use Rattle.oss_model.proofs.TreeLemmas.{at_same, path_found}
use Rattle.oss_body.specs.Acting.{acting}
use Rattle.oss_explanation.specs.Lives.{IsReleased, line_at}

-- Contexts

lent_right : (w : Bool) (given : ℕ → Right) (x : Context) (c : ℕ) → right_of (lent_when w given x) c ≡ right_of x c
lent_right true given x c = same_right (λ c. record { right = right_of x c; lent = lend_cell (given c) (lent_of x c); mark = mark_of x c }) x c refl
lent_right false given x c = refl

waited_right : (x : Context) (c : ℕ) → right_of (waited x) c ≡ right_of x c
waited_right x c = same_right (λ c. record { right = right_of x c; lent = Free; mark = mark_of x c }) x c refl

waited_on_right : (named : List Access) (x : Context) (c : ℕ) → right_of (waited_on named x) c ≡ right_of x c
waited_on_right named x c = same_right (λ c. record { right = right_of x c; lent = if in_clauses named c then Free else lent_of x c; mark = mark_of x c }) x c refl

by_release : (clauses : List Access) (x : Context) (c : ℕ) → right_of (release clauses x) c ≡ Released → (right_of x c ≡ Released) ⊎ (in_clauses clauses c ≡ true)
by_release clauses x c h = go (entry_cases (λ c. record { right = if in_clauses clauses c then Released else right_of x c; lent = lent_of x c; mark = mark_of x c }) x c)
  where
    split : (b : Bool) → in_clauses clauses c ≡ b → (if b then Released else right_of x c) ≡ Released → (right_of x c ≡ Released) ⊎ (in_clauses clauses c ≡ true)
    split true e k = inr e
    split false e k = inl k

    go : (right_of (release clauses x) c ≡ (if in_clauses clauses c then Released else right_of x c)) ⊎ ((right_of (release clauses x) c ≡ NoRight) × (right_of x c ≡ NoRight)) → (right_of x c ≡ Released) ⊎ (in_clauses clauses c ≡ true)
    go (inl e) = split (in_clauses clauses c) refl (sym e ∙ h)
    go (inr e) = let k : NoRight ≡ Released = sym e.0 ∙ h in cc

-- no clause gives a released right
from_none : (final : Bool) (clauses : List Access) (c : ℕ) → right_from final clauses c ≡ Released → ⊥
from_none final [] c h = cc
from_none final (a ∷ rest) c h = go (in_access a c) (right_from final rest c) (λ k. from_none final rest c k) h
  where
    joined : (m : Rattle.oss_syntax.specs.declared.access.Mode.Mode) (strong : Bool) (r : Right) → joined_right m strong r ≡ Released → ⊥
    joined m strong NoRight k = cc
    joined m strong Released k = cc
    joined m strong (Holds n other) k = held (joined_mode m n) k
      where
        held : (o : Rattle.std.specs.Prelude.Option Rattle.oss_syntax.specs.declared.access.Mode.Mode) → right_held o (strong || other) ≡ Released → ⊥
        held (Rattle.std.specs.Prelude.Some n) k = cc
        held Rattle.std.specs.Prelude.None k = cc

    go : (b : Bool) (r : Right) → (r ≡ Released → ⊥) → (if b then joined_right a.mode (final || a.strong) r else r) ≡ Released → ⊥
    go true r none k = joined a.mode (final || a.strong) r k
    go false r none k = none k

-- The context has released nothing.
abbrev pub HasAll : Context → Type 0
HasAll x = (c : ℕ) → right_of x c ≡ Released → ⊥

child_has_all : (x : Context) (clauses : List Access) (last : Bool) → HasAll (child_context x clauses last)
child_has_all x clauses last c h = go (entry_cases (λ c. record { right = right_from (x.final || last) clauses c; lent = Free; mark = mark_from (x.final || last) clauses c }) x c)
  where
    go : (right_of (child_context x clauses last) c ≡ right_from (x.final || last) clauses c) ⊎ ((right_of (child_context x clauses last) c ≡ NoRight) × (right_of x c ≡ NoRight)) → ⊥
    go (inl e) = from_none (x.final || last) clauses c (sym e ∙ h)
    go (inr e) = let k : NoRight ≡ Released = sym e.0 ∙ h in cc

-- Frames

module _ {S : Type 0} (P : Program S) (b : Start S) where
  -- The task at the path has released the cell in this body by then.
  pub record ReleasedIn (past path : List ℕ) (c : ℕ) : Type 0 where
    pub before : List ℕ
    pub answer : ℕ
    pub happened : IsSuffix (answer ∷ before) past
    pub clauses : List Access
    pub included : Bool
    pub releases : stage_act P b before ≡ Releases clauses included
    pub by : (acting P b before).path ≡ path
    pub named : in_clauses clauses c ≡ true

  -- Each cell that the task has released, it has released so.
  abbrev pub IsTold : List ℕ → Frame S → Type 0
  IsTold past f = (c : ℕ) → right_of f.context c ≡ Released → ReleasedIn past f.path c

  abbrev pub AreTold : List ℕ → List (Frame S) → Type 0
  AreTold past [] = Unit {0}
  AreTold past (f ∷ fs) = IsTold past f × AreTold past fs

  later : (v : ℕ) {past path : List ℕ} {c : ℕ} → ReleasedIn past path c → ReleasedIn (v ∷ past) path c
  later v h = record { before = h.before; answer = h.answer; happened = longer h.happened; clauses = h.clauses; included = h.included; releases = h.releases; by = h.by; named = h.named }

  told_later : (v : ℕ) (past : List ℕ) (f : Frame S) → IsTold past f → IsTold (v ∷ past) f
  told_later v past f h c r = later v (h c r)

  all_later : (v : ℕ) (past : List ℕ) (fs : List (Frame S)) → AreTold past fs → AreTold (v ∷ past) fs
  all_later v past [] h = tt
  all_later v past (f ∷ fs) h = (told_later v past f h.0, all_later v past fs h.1)

  told_child : (past : List ℕ) (f : Frame S) (o : Order S) → IsTold past (child_frame f o)
  told_child past f o c r = absurd (child_has_all f.context o.clauses o.last c r)

  told_including : (v : ℕ) (past : List ℕ) (f : Frame S) (o : Order S) → IsTold past f → IsTold (v ∷ past) (including_frame o f)
  told_including v past f o h c r = later v (h c (sym (made_right (right_of (child_context f.context o.clauses o.last)) (one_more_created f.context) c) ∙ r))

  module _ (v : ℕ) (past : List ℕ) where
    -- the task that acts
    told_after : (a : Act S) (f : Frame S) → stage_act P b past ≡ a → (acting P b past).path ≡ f.path → IsTold past f → IsTold (v ∷ past) (frame_after a v f)
    told_after (Created o i) f e p h c r =
        later v (h c (sym (lent_right o.when (right_of (child_context f.context o.clauses o.last)) (one_more_created f.context) c)
        ∙ sym (made_right (right_of (child_context f.context o.clauses o.last)) (lent_when o.when (right_of (child_context f.context o.clauses o.last)) (one_more_created f.context)) c) ∙ r))
    told_after (Store d w) f e p h c r = later v (h c (sym (wrote_right d f.context c) ∙ r))
    told_after (Folded d op w s) f e p h c r = later v (h c (sym (wrote_right d f.context c) ∙ r))
    told_after Waited f e p h c r = later v (h c (sym (waited_right f.context c) ∙ r))
    told_after (WaitedOn named) f e p h c r = later v (h c (sym (waited_on_right named f.context c) ∙ r))
    told_after (Releases clauses i) f e p h c r = go (by_release clauses f.context c r)
      where
        go : (right_of f.context c ≡ Released) ⊎ (in_clauses clauses c ≡ true) → ReleasedIn (v ∷ past) f.path c
        go (inl k) = later v (h c k)
        go (inr k) = record { before = past; answer = v; happened = whole; clauses = clauses; included = i; releases = e; by = p; named = k }
    told_after Ticked f e p h c r = later v (h c r)
    told_after (Load d) f e p h c r = later v (h c r)
    told_after Awaited f e p h c r = later v (h c r)
    told_after (Printed key text) f e p h c r = later v (h c r)
    told_after Ended f e p h c r = later v (h c r)
    told_after (Fault kind line key) f e p h c r = later v (h c r)
    told_after Over f e p h c r = later v (h c r)

    told_base : (a : Act S) (base : Frame S) → stage_act P b past ≡ a → (acting P b past).path ≡ base.path → IsTold past base → AreTold (v ∷ past) ((base_after a v base).base ∷ (base_after a v base).inner)
    told_base Ended base e p h = (told_later v past base h, tt)
    told_base (Created o true) base e p h = (told_including v past base o h, (told_child (v ∷ past) base o, tt))
    told_base (Created o false) base e p h = (told_after (Created o false) base e p h, tt)
    told_base Ticked base e p h = (told_after Ticked base e p h, tt)
    told_base (Load d) base e p h = (told_after (Load d) base e p h, tt)
    told_base (Store d w) base e p h = (told_after (Store d w) base e p h, tt)
    told_base (Folded d op w s) base e p h = (told_after (Folded d op w s) base e p h, tt)
    told_base Awaited base e p h = (told_after Awaited base e p h, tt)
    told_base Waited base e p h = (told_after Waited base e p h, tt)
    told_base (WaitedOn named) base e p h = (told_after (WaitedOn named) base e p h, tt)
    told_base (Releases clauses i) base e p h = (told_after (Releases clauses i) base e p h, tt)
    told_base (Printed key text) base e p h = (told_after (Printed key text) base e p h, tt)
    told_base (Fault kind line key) base e p h = (told_after (Fault kind line key) base e p h, tt)
    told_base Over base e p h = (told_after Over base e p h, tt)

    told_inner : (a : Act S) (base f : Frame S) (fs : List (Frame S)) → stage_act P b past ≡ a → (acting P b past).path ≡ f.path → IsTold past base → IsTold past f → AreTold past fs
        → AreTold (v ∷ past) ((inner_after a v base f fs).base ∷ (inner_after a v base f fs).inner)
    told_inner Ended base f fs e p g h more = (told_later v past base g, all_later v past fs more)
    told_inner (Created o i) base f fs e p g h more = (told_later v past base g, (told_child (v ∷ past) f o, (told_including v past f o h, all_later v past fs more)))
    told_inner Ticked base f fs e p g h more = (told_later v past base g, (told_after Ticked f e p h, all_later v past fs more))
    told_inner (Load d) base f fs e p g h more = (told_later v past base g, (told_after (Load d) f e p h, all_later v past fs more))
    told_inner (Store d w) base f fs e p g h more = (told_later v past base g, (told_after (Store d w) f e p h, all_later v past fs more))
    told_inner (Folded d op w s) base f fs e p g h more = (told_later v past base g, (told_after (Folded d op w s) f e p h, all_later v past fs more))
    told_inner Awaited base f fs e p g h more = (told_later v past base g, (told_after Awaited f e p h, all_later v past fs more))
    told_inner Waited base f fs e p g h more = (told_later v past base g, (told_after Waited f e p h, all_later v past fs more))
    told_inner (WaitedOn named) base f fs e p g h more = (told_later v past base g, (told_after (WaitedOn named) f e p h, all_later v past fs more))
    told_inner (Releases clauses i) base f fs e p g h more = (told_later v past base g, (told_after (Releases clauses i) f e p h, all_later v past fs more))
    told_inner (Printed key text) base f fs e p g h more = (told_later v past base g, (told_after (Printed key text) f e p h, all_later v past fs more))
    told_inner (Fault kind line key) base f fs e p g h more = (told_later v past base g, (told_after (Fault kind line key) f e p h, all_later v past fs more))
    told_inner Over base f fs e p g h more = (told_later v past base g, (told_after Over f e p h, all_later v past fs more))

    told_step : (a : Act S) (base : Frame S) (inner : List (Frame S)) → stage_act P b past ≡ a → (acting P b past).path ≡ (top_frame base inner).path → AreTold past (base ∷ inner)
        → AreTold (v ∷ past) ((stack_after a v base inner).base ∷ (stack_after a v base inner).inner)
    told_step a base [] e p h = told_base a base e p h.0
    told_step a base (f ∷ fs) e p h = told_inner a base f fs e p h.0 h.1.0 h.1.1

  settled_one : (past : List ℕ) (f : Frame S) → IsTold past f → IsTold past (settled_frame P f)
  settled_one past f h c r =
      let k = settle_same P f in
      subst (λ (x : List ℕ). ReleasedIn past x c) (sym k.path) (h c (ap (λ (x : Context). right_of x c) (sym k.context) ∙ r))

  settled_told : (past : List ℕ) (base : Frame S) (inner : List (Frame S)) (over : Bool) → AreTold past (base ∷ inner) → AreTold past ((settled_parts P base inner over).base ∷ (settled_parts P base inner over).inner)
  settled_told past base [] over h = (settled_one past base h.0, tt)
  settled_told past base (f ∷ fs) over h = (h.0, (settled_one past f h.1.0, h.1.1))

  stack_told : HasAll b.context → (past : List ℕ) → AreTold past ((stack_from P b past).base ∷ (stack_from P b past).inner)
  unfolding stack_from stage_act act_of
  stack_told none [] = (settled_one [] (start_frame P b) (λ c r. absurd (none c r)), tt)
  stack_told none (v ∷ vs) =
      let s = stack_from P b vs in
      let a = stack_act P (right_of b.context) s.base s.inner s.ended in
      let n = stack_after a v s.base s.inner in
      settled_told (v ∷ vs) n.base n.inner n.ended (told_step v vs a s.base s.inner refl refl (stack_told none vs))

  top_told : (past : List ℕ) (base : Frame S) (inner : List (Frame S)) → AreTold past (base ∷ inner) → IsTold past (top_frame base inner)
  top_told past base [] h = h.0
  top_told past base (f ∷ fs) h = h.1.0

  -- the task that acts has released its cells so
  pub acting_told : HasAll b.context → (past : List ℕ) → IsTold past (acting P b past)
  acting_told none past = top_told past (stack_from P b past).base (stack_from P b past).inner (stack_told none past)

-- Tasks

module _ {S : Type 0} (P : Program S) (main : Start S) (all : HasAll main.context) (s : State S) (made : IsMade P main s) where
  starts_whole : (p : List ℕ) (t : Task S) → At s p t → HasAll t.body.start.context
  unfolding child_start
  starts_whole [] t h =
      subst (λ (x : Start S). HasAll x.context) (sym made.main_start ∙ ap (λ (x : Task S). x.body.start) (at_same s [] made.main_task t made.main_at h)) all
  starts_whole (k ∷ p) t h =
      let m = made.child k p t h in
      subst (λ (x : Start S). HasAll x.context) (sym m.start) (child_has_all (stack_from P m.creator.body.start m.past).base.context m.order.clauses m.order.last)

  -- what the task that acts in the body of a task has released, it has released by an act of its own
  pub released_by : (p : List ℕ) (t : Task S) → At s p t → (c : ℕ) → right_of (acting P t.body.start t.body.found).context c ≡ Released
      → (line : ℕ) × IsReleased P s (acting P t.body.start t.body.found).path c line
  released_by p t h c r =
      let k = acting_told P t.body.start (starts_whole p t h) t.body.found c r in
      let e : Event S = record { start = t.body.start; past = k.before; answer = k.answer } in
      let own : At s t.body.start.path t = subst (λ (x : List ℕ). At s x t) (sym (path_found s.tasks p t h)) h in (
        line_at P e,
        record {
          event = e;
          own = record { happened = record { task = t; at_ = own; start = refl; found = k.happened }; path = k.by };
          clauses = k.clauses;
          included = k.included;
          releases = k.releases;
          named = k.named;
          on_line = refl;
        },
      )
