-- A task that has released a cell has done so once: from then on it has no right to it, and a release of such a cell is a fault.
use Rattle.std.proofs.Common.{◌≡◌, ℕ, ◌+◌, ◌<◌, ◌≤◌, ◌⊎◌, inl, inr, refl, sym, subst, ap, ◌∙◌, List, [], ◌∷◌, length, arith, Bool, true, false, Option, Some, None}
use Rattle.std.specs.Prelude.{◌||◌, if◌then◌else◌}
use Rattle.std.proofs.lemmas.List.{get_or_past}
use Rattle.oss_syntax.specs.declared.access.Access.{Access}
use Rattle.oss_syntax.specs.declared.fault.FaultKind.{FaultKind}
use Rattle.oss_syntax.specs.declared.fault.FaultKind.TheVariants as fault
use Rattle.oss_model.specs.Bodies.{Act, Ask, Asked, Frame, Order, Program, Start, act_of, act_of_ask, ask_of, base_after, child_frame, frame_act, frame_after, including_frame, inner_after, key_of, lent_when, one_more_created, settled_frame, settled_parts, stack_act, stack_after, stack_from, stage_act, stage_key, start_frame, top_frame}
use Rattle.oss_model.specs.Bodies.Act.{Awaited, Created, Ended, Fault, Folded, Load, Over, Printed, Releases, Store, Ticked, Waited, WaitedOn}
use Rattle.oss_model.specs.Context.{Context, Entry, child_context, create_fault, creation_fault, in_clauses, lent_of, mark_of, no_entry, release, release_fault, right_of, tick_fault, wait_on_fault}
use Rattle.oss_model.specs.History.{IsMade}
use Rattle.oss_model.specs.Machine.{At, State, Task}
use Rattle.oss_model.specs.Memory.{Event, Happened}
use Rattle.oss_model.specs.Order.{IsEarlierKey, IsSuffix, longer, whole}
use Rattle.oss_model.specs.Rights.{Folds, NoRight, Reads, Released, Right, Writes, any_cell, holds_uncovered, is_released, right_from, touch_fault}
use Rattle.oss_model.proofs.BodyLemmas.{frame_after_kept, judged_goes, settle_same}
use Rattle.oss_model.proofs.ContextLemmas.{length-table_from, made_right, same_right, tabled_at, wrote_right}
use Rattle.oss_model.proofs.JudgeLemmas.{any_cell_none}
use Rattle.oss_model.proofs.KeyLemmas.{key_grows}
use Rattle.oss_model.proofs.OrderLemmas.{before_child, suffix_drop}
use Rattle.oss_body.specs.Acting.{acting}
use Rattle.oss_explanation.specs.Lives.{IsEventOf, IsReleased, act_at, actor, line_at}
use Rattle.oss_explain_laws.proofs.OneEvent.{Compared, after, before, compared, key_is, not_before, one, one_place, own_at, then_up}

le_or : (m n : ℕ) → (m < n) ⊎ (n ≤ m)
le_or m n = grind arith

-- The tasks of a body

module _ {S : Type 0} where
  -- the paths of the tasks of a body get longer, from its own on
  abbrev Longer : Frame S → List (Frame S) → Type 0
  Longer base [] = Unit {0}
  Longer base (f ∷ fs) = (length (top_frame base fs).path < length f.path) × Longer base fs

  base_longer : (a : Act S) (v : ℕ) (base : Frame S) → Longer (base_after a v base).base (base_after a v base).inner
  base_longer (Created o true) v base = (omega arith, tt)
  base_longer _ v base = tt

  inner_longer : (a : Act S) (v : ℕ) (base f : Frame S) (fs : List (Frame S)) → Longer base (f ∷ fs) → Longer (inner_after a v base f fs).base (inner_after a v base f fs).inner
  inner_longer Ended v base f fs (l, n) = n
  inner_longer (Created o i) v base f fs (l, n) = (omega arith, (l, n))
  inner_longer a v base f fs (l, n) = (subst (λ (q : List ℕ). length (top_frame base fs).path < length q) (sym (frame_after_kept a v f).path) l, n)

  step_longer : (a : Act S) (v : ℕ) (base : Frame S) (inner : List (Frame S)) → Longer base inner → Longer (stack_after a v base inner).base (stack_after a v base inner).inner
  step_longer a v base [] n = base_longer a v base
  step_longer a v base (f ∷ fs) n = inner_longer a v base f fs n

  settled_longer : (P : Program S) (base : Frame S) (inner : List (Frame S)) (over : Bool) → Longer base inner → Longer (settled_parts P base inner over).base (settled_parts P base inner over).inner
  settled_longer P base [] over n = tt
  settled_longer P base (f ∷ fs) over (l, n) = (subst (λ (q : List ℕ). length (top_frame base fs).path < length q) (sym (settle_same P f).path) l, n)

  stack_longer : (P : Program S) (b : Start S) (past : List ℕ) → Longer (stack_from P b past).base (stack_from P b past).inner
  unfolding stack_from
  stack_longer P b [] = tt
  stack_longer P b (v ∷ vs) =
      let s = stack_from P b vs in
      let a = stack_act P (right_of b.context) s.base s.inner s.ended in
      let n = stack_after a v s.base s.inner in
      settled_longer P n.base n.inner n.ended (step_longer a v s.base s.inner (stack_longer P b vs))

-- what is true of a task of a body as long as it is one
record Lasts {S : Type 0} (P : Program S) (K : Frame S → Type 0) : Type 0 where
  acts : (a : Act S) (v : ℕ) (f : Frame S) → K f → K (frame_after a v f)
  includes : (o : Order S) (f : Frame S) → K f → K (including_frame o f)
  settles : (f : Frame S) → K f → K (settled_frame P f)

module _ {S : Type 0} (P : Program S) (K : Frame S → Type 0) (lasts : Lasts P K) (q : List ℕ) where
  -- it is true of the task at this path
  abbrev AreSo : List (Frame S) → Type 0
  AreSo [] = Unit {0}
  AreSo (f ∷ fs) = (f.path ≡ q → K f) × AreSo fs

  base_so : (a : Act S) (v : ℕ) (base : Frame S) → ((o : Order S) (i : Bool) → a ≡ Created o i → key_of base ≡ q → ⊥) → (base.path ≡ q → K base) → AreSo ((base_after a v base).base ∷ (base_after a v base).inner)
  base_so Ended v base fresh h = (h, tt)
  base_so (Created o true) v base fresh h = (λ e. lasts.includes o base (h e), (λ e. absurd (fresh o true refl e), tt))
  base_so a v base fresh h = (λ e. lasts.acts a v base (h (sym (frame_after_kept a v base).path ∙ e)), tt)

  inner_so : (a : Act S) (v : ℕ) (base f : Frame S) (fs : List (Frame S)) → ((o : Order S) (i : Bool) → a ≡ Created o i → key_of f ≡ q → ⊥) → AreSo (base ∷ f ∷ fs) → AreSo ((inner_after a v base f fs).base ∷ (inner_after a v base f fs).inner)
  inner_so Ended v base f fs fresh (h, (k, more)) = (h, more)
  inner_so (Created o i) v base f fs fresh (h, (k, more)) = (h, (λ e. absurd (fresh o i refl e), (λ e. lasts.includes o f (k e), more)))
  inner_so a v base f fs fresh (h, (k, more)) = (h, (λ e. lasts.acts a v f (k (sym (frame_after_kept a v f).path ∙ e)), more))

  step_so : (a : Act S) (v : ℕ) (base : Frame S) (inner : List (Frame S)) → ((o : Order S) (i : Bool) → a ≡ Created o i → key_of (top_frame base inner) ≡ q → ⊥) → AreSo (base ∷ inner)
      → AreSo ((stack_after a v base inner).base ∷ (stack_after a v base inner).inner)
  step_so a v base [] fresh h = base_so a v base fresh h.0
  step_so a v base (f ∷ fs) fresh h = inner_so a v base f fs fresh h

  settled_so : (base : Frame S) (inner : List (Frame S)) (over : Bool) → AreSo (base ∷ inner) → AreSo ((settled_parts P base inner over).base ∷ (settled_parts P base inner over).inner)
  settled_so base [] over h = (λ e. lasts.settles base (h.0 (sym (settle_same P base).path ∙ e)), tt)
  settled_so base (f ∷ fs) over (h, (k, more)) = (h, (λ e. lasts.settles f (k (sym (settle_same P f).path ∙ e)), more))

  next_so : (b : Start S) (v : ℕ) (vs : List ℕ) → ((o : Order S) (i : Bool) → stage_act P b vs ≡ Created o i → key_of (acting P b vs) ≡ q → ⊥) → AreSo ((stack_from P b vs).base ∷ (stack_from P b vs).inner)
      → AreSo ((stack_from P b (v ∷ vs)).base ∷ (stack_from P b (v ∷ vs)).inner)
  unfolding stack_from stage_act act_of
  next_so b v vs fresh h =
      let s = stack_from P b vs in
      let a = stack_act P (right_of b.context) s.base s.inner s.ended in
      let n = stack_after a v s.base s.inner in
      settled_so n.base n.inner n.ended (step_so a v s.base s.inner fresh h)

  -- the tasks below the one that acts have shorter paths
  shorter_so : (base : Frame S) (fs : List (Frame S)) → Longer base fs → length (top_frame base fs).path < length q → AreSo fs
  shorter_so base [] n l = tt
  shorter_so base (g ∷ gs) (m, n) l =
      (λ e. let k : length g.path ≡ length q = ap (λ (x : List ℕ). length x) e in absurd (omega (arith, k, l)), shorter_so base gs n (omega (arith, m, l)))

  base_shorter : (base : Frame S) (fs : List (Frame S)) → Longer base fs → length (top_frame base fs).path < length q → length base.path < length q
  base_shorter base [] n l = l
  base_shorter base (g ∷ gs) (m, n) l = base_shorter base gs n (omega (arith, m, l))

  top_so : (base : Frame S) (inner : List (Frame S)) → Longer base inner → (top_frame base inner).path ≡ q → K (top_frame base inner) → AreSo (base ∷ inner)
  top_so base [] n e k = (λ x. k, tt)
  top_so base (f ∷ fs) (m, n) e k =
      let p : length f.path ≡ length q = ap (λ (x : List ℕ). length x) e in
      let l : length (top_frame base fs).path < length q = omega (arith, m, p) in
      let low = base_shorter base fs n l in
      (λ x. let w : length base.path ≡ length q = ap (λ (y : List ℕ). length y) x in absurd (omega (arith, low, w)), (λ x. k, shorter_so base fs n l))

  so_top : (base : Frame S) (inner : List (Frame S)) → AreSo (base ∷ inner) → (top_frame base inner).path ≡ q → K (top_frame base inner)
  so_top base [] h e = h.0 e
  so_top base (f ∷ fs) (h, (k, more)) e = k e

  -- it lasts from one stage at which the task acts to a later one
  module _ (b : Start S) (past : List ℕ) (own : (acting P b past).path ≡ q) (so : K (acting P b past)) where
    fresh_at : (more : List ℕ) → IsSuffix past more → key_of (acting P b more) ≡ q → ⊥
    unfolding stage_key
    fresh_at more h e =
        let f = acting P b more in
        let n = (acting P b past).context.created in
        let child = before_child n f.context.created f.path in
        let key : n ∷ key_of f ≡ stage_key P b past = λ i. n ∷ (e ∙ sym own) i in
        not_before (key_of f) (stage_key P b more) refl (then_up (key_of f) (stage_key P b past) (stage_key P b more) (subst (λ (k : List ℕ). IsEarlierKey (key_of f) k) key child) (key_grows P b h))

    later_so : {more : List ℕ} → IsSuffix past more → AreSo ((stack_from P b more).base ∷ (stack_from P b more).inner)
    later_so whole = let s = stack_from P b past in top_so s.base s.inner (stack_longer P b past) own so
    later_so (longer {y = v} {ys = vs} h) = next_so b v vs (λ o i a e. fresh_at vs h e) (later_so h)

    so_later : (more : List ℕ) → IsSuffix past more → (acting P b more).path ≡ q → K (acting P b more)
    so_later more h e = let s = stack_from P b more in so_top s.base s.inner (later_so h) e

-- What lasts

module _ {S : Type 0} (P : Program S) (c : ℕ) where
  -- the cell is none of the program
  IsPast : Frame S → Type 0
  IsPast f = length f.context.entries ≤ c

  IsLost : Frame S → Type 0
  IsLost f = right_of f.context c ≡ Released

  same_size : (f : Frame S) (g : Frame S) → length g.context.entries ≡ length f.context.entries → IsPast f → IsPast g
  unfolding IsPast
  same_size f g e h = omega (arith, e, h)

  lent_size : (w : Bool) (given : ℕ → Right) (x : Context) → length (lent_when w given x).entries ≡ length x.entries
  lent_size true given x = length-table_from _ 0 (length x.entries)
  lent_size false given x = refl

  size_after : (a : Act S) (v : ℕ) (f : Frame S) → length (frame_after a v f).context.entries ≡ length f.context.entries
  size_after (Store cell value) v f = length-table_from _ 0 (length f.context.entries)
  size_after (Folded cell op value slot) v f = length-table_from _ 0 (length f.context.entries)
  size_after (Created o i) v f =
      let given = right_of (child_context f.context o.clauses o.last) in
      length-table_from _ 0 (length (lent_when o.when given (one_more_created f.context)).entries) ∙ lent_size o.when given (one_more_created f.context)
  size_after Waited v f = length-table_from _ 0 (length f.context.entries)
  size_after (WaitedOn named) v f = length-table_from _ 0 (length f.context.entries)
  size_after (Releases clauses i) v f = length-table_from _ 0 (length f.context.entries)
  size_after _ v f = refl

  past_lasts : Lasts P IsPast
  past_lasts = record {
    acts = λ a v f h. same_size f (frame_after a v f) (size_after a v f) h;
    includes = λ o f h. same_size f (including_frame o f) (length-table_from _ 0 (length f.context.entries)) h;
    settles = λ f h. same_size f (settled_frame P f) (ap (λ (x : Context). length x.entries) (settle_same P f).context) h;
  }

  still_lost : (r s : Right) → (s ≡ r) ⊎ (s ≡ Released) → r ≡ Released → s ≡ Released
  still_lost r s (inl e) h = e ∙ h
  still_lost r s (inr e) h = e

  lost_lasts : Lasts P IsLost
  unfolding IsLost
  lost_lasts = record {
    acts = λ a v f h. still_lost (right_of f.context c) (right_of (frame_after a v f).context c) ((frame_after_kept a v f).right c) h;
    includes = λ o f h. made_right (right_of (child_context f.context o.clauses o.last)) (one_more_created f.context) c ∙ h;
    settles = λ f h. ap (λ (x : Context). right_of x c) (settle_same P f).context ∙ h;
  }

  -- such a cell is not released
  past_not_lost : (f : Frame S) → IsPast f → IsLost f → ⊥
  unfolding IsPast IsLost
  past_not_lost f h e =
      let n : right_of f.context c ≡ NoRight = ap (λ (x : Entry). x.right) (get_or_past f.context.entries c no_entry h) in
      let k : NoRight ≡ Released = sym n ∙ e in
      cc

-- Releases

module _ {S : Type 0} where
  ask_releases : (slots : ℕ → Right) (included : Bool) (f : Frame S) (a : Ask S) (line : ℕ) (clauses : List Access) (i : Bool) → act_of_ask slots included f a line ≡ Releases clauses i → release_fault f.context clauses ≡ None
  ask_releases slots included f (Ask.Release named) line clauses i h =
      let k = judged_goes f line (release_fault f.context named) _ (Releases clauses i) h (λ s. s) in
      subst (λ (xs : List Access). release_fault f.context xs ≡ None) (same_clauses named clauses included i k.1) k.0
    where
      same_clauses : (xs ys : List Access) (l m : Bool) → ◌≡◌ {A = Act S} (Releases xs l) (Releases ys m) → xs ≡ ys
      same_clauses xs ys l m e = cc
  ask_releases slots included f (Ask.Create p) line clauses i h = let k = judged_goes f line (creation_fault f.context p.clauses (f.context.final || p.last)) _ (Releases clauses i) h (λ s. s) in cc (k.1)
  ask_releases slots included f Ask.Begin line clauses i h = let k = judged_goes f line (create_fault f.context) _ (Releases clauses i) h (λ s. s) in cc (k.1)
  ask_releases slots included f Ask.Tick line clauses i h = let k = judged_goes f line (tick_fault f.context) _ (Releases clauses i) h (λ s. s) in cc (k.1)
  ask_releases slots included f (Ask.Read d) line clauses i h = let k = judged_goes f line (touch_fault (right_of f.context d) (lent_of f.context d) (mark_of f.context d) Reads) _ (Releases clauses i) h (λ s. s) in cc (k.1)
  ask_releases slots included f (Ask.Write d v) line clauses i h = let k = judged_goes f line (touch_fault (right_of f.context d) (lent_of f.context d) (mark_of f.context d) Writes) _ (Releases clauses i) h (λ s. s) in cc (k.1)
  ask_releases slots included f (Ask.Fold d op v) line clauses i h = let k = judged_goes f line (touch_fault (right_of f.context d) (lent_of f.context d) (mark_of f.context d) (Folds op)) _ (Releases clauses i) h (λ s. s) in cc (k.1)
  ask_releases slots included f Ask.Await line clauses i h = absurd cc
  ask_releases slots included f Ask.Wait line clauses i h = absurd cc
  ask_releases slots included f (Ask.WaitOn named) line clauses i h = let k = judged_goes f line (wait_on_fault f.context named) _ (Releases clauses i) h (λ s. s) in cc (k.1)
  ask_releases slots included f (Ask.Print text) line clauses i h = absurd cc
  ask_releases slots included f Ask.End line clauses i h = absurd cc
  ask_releases slots included f (Ask.Fails kind) line clauses i h = absurd cc

  module _ (P : Program S) where
    frame_releases : (slots : ℕ → Right) (included : Bool) (f : Frame S) (w : Bool) (clauses : List Access) (i : Bool) → frame_act P slots included f w ≡ Releases clauses i → release_fault f.context clauses ≡ None
    frame_releases slots included f true clauses i h = absurd cc
    frame_releases slots included f false clauses i h = ask_releases slots included f (ask_of P f).ask (ask_of P f).line clauses i h

    stack_releases : (slots : ℕ → Right) (base : Frame S) (inner : List (Frame S)) (over : Bool) (clauses : List Access) (i : Bool) → stack_act P slots base inner over ≡ Releases clauses i → release_fault (top_frame base inner).context clauses ≡ None
    stack_releases slots base inner true clauses i h = absurd cc
    stack_releases slots base [] false clauses i h = frame_releases slots false base base.awaits clauses i h
    stack_releases slots base (f ∷ fs) false clauses i h = frame_releases slots true f f.awaits clauses i h

    acting_releases : (b : Start S) (past : List ℕ) (clauses : List Access) (i : Bool) → stage_act P b past ≡ Releases clauses i → release_fault (acting P b past).context clauses ≡ None
    unfolding stage_act act_of
    acting_releases b past clauses i h = let s = stack_from P b past in stack_releases (right_of b.context) s.base s.inner s.ended clauses i h

    first_false : (b : Bool) (rest : Option FaultKind) → (if b then Some fault.Released else rest) ≡ None → b ≡ false
    first_false true rest h = absurd cc
    first_false false rest h = refl

    not_lost : (x : Context) (clauses : List Access) (c : ℕ) → release_fault x clauses ≡ None → in_clauses clauses c ≡ true → is_released (right_of x c) ≡ false
    not_lost x clauses c h named =
        any_cell_none (λ (d : ℕ). is_released (right_of x d)) clauses
        (first_false (any_cell (λ (d : ℕ). is_released (right_of x d)) clauses) (if any_cell (λ (d : ℕ). holds_uncovered (right_of x d) (right_from false clauses d)) clauses then Some fault.NotCovered else None) h) c named

    -- behind a release the same task acts, without the right
    step_releases : (clauses : List Access) (i : Bool) (v : ℕ) (base : Frame S) (inner : List (Frame S))
        → ((top_frame (stack_after (Releases clauses i) v base inner).base (stack_after (Releases clauses i) v base inner).inner).context ≡ release clauses (top_frame base inner).context)
        × ((top_frame (stack_after (Releases clauses i) v base inner).base (stack_after (Releases clauses i) v base inner).inner).path ≡ (top_frame base inner).path)
    step_releases clauses i v base [] = (refl, refl)
    step_releases clauses i v base (f ∷ fs) = (refl, refl)

    settled_top : (base : Frame S) (inner : List (Frame S)) (over : Bool)
        → ((top_frame (settled_parts P base inner over).base (settled_parts P base inner over).inner).context ≡ (top_frame base inner).context)
        × ((top_frame (settled_parts P base inner over).base (settled_parts P base inner over).inner).path ≡ (top_frame base inner).path)
    settled_top base [] over = ((settle_same P base).context, (settle_same P base).path)
    settled_top base (f ∷ fs) over = ((settle_same P f).context, (settle_same P f).path)

    behind_release : (b : Start S) (v : ℕ) (vs : List ℕ) (clauses : List Access) (i : Bool) → stage_act P b vs ≡ Releases clauses i
        → ((acting P b (v ∷ vs)).context ≡ release clauses (acting P b vs).context) × ((acting P b (v ∷ vs)).path ≡ (acting P b vs).path)
    unfolding stack_from stage_act act_of
    behind_release b v vs clauses i a =
        let s = stack_from P b vs in
        let n = stack_after (stage_act P b vs) v s.base s.inner in
        let k = settled_top n.base n.inner n.ended in
        let m = subst (λ (x : Act S). ((top_frame (stack_after x v s.base s.inner).base (stack_after x v s.base s.inner).inner).context ≡ release clauses (top_frame s.base s.inner).context)
        × ((top_frame (stack_after x v s.base s.inner).base (stack_after x v s.base s.inner).inner).path ≡ (top_frame s.base s.inner).path)) (sym a) (step_releases clauses i v s.base s.inner) in
        (k.0 ∙ m.0, k.1 ∙ m.1)

    released_here : (clauses : List Access) (x : Context) (c : ℕ) → in_clauses clauses c ≡ true → c < length x.entries → right_of (release clauses x) c ≡ Released
    released_here clauses x c named l =
        ap (λ (e : Entry). e.right) (tabled_at (λ d. record { right = if in_clauses clauses d then Released else right_of x d; lent = lent_of x d; mark = mark_of x d }) (length x.entries) c no_entry l) ∙ rw named refl

module _ {S : Type 0} (P : Program S) (main : Start S) (s : State S) (made : IsMade P main s) (t : Task S) (at : At s t.body.start.path t) (c : ℕ) (lost : right_of (acting P t.body.start t.body.found).context c ≡ Released) where
  abbrev q : List ℕ
  q = (acting P t.body.start t.body.found).path

  -- a second release of the cell is none
  clash : (e g : Event S) → Happened s e → (actor P e).path ≡ q → (actor P g).path ≡ q → e.start ≡ g.start → IsSuffix (e.answer ∷ e.past) g.past → (xs ys : List Access) (i j : Bool)
      → act_at P e ≡ Releases xs i → act_at P g ≡ Releases ys j → in_clauses xs c ≡ true → in_clauses ys c ≡ true → ⊥
  unfolding IsPast IsLost
  clash e g h p r start sooner xs ys i j a b named too = go (le_or c (length (actor P e).context.entries))
    where
      same : h.task ≡ t
      same = one_place P main s made h.task t e.past t.body.found (own_at P main s made e h) at (ap (λ (x : Start S). (acting P x e.past).path) h.start ∙ p)

      there : e.start ≡ t.body.start
      there = sym h.start ∙ ap (λ (x : Task S). x.body.start) same

      found : IsSuffix e.past t.body.found
      found = suffix_drop (subst (λ (x : Task S). IsSuffix (e.answer ∷ e.past) x.body.found) same h.found)

      go : (c < length (actor P e).context.entries) ⊎ (length (actor P e).context.entries ≤ c) → ⊥
      go (inl l) =
          let n = behind_release P e.start e.answer e.past xs i a in
          let k : right_of (acting P e.start (e.answer ∷ e.past)).context c ≡ Released = ap (λ (x : Context). right_of x c) n.0 ∙ released_here P xs (actor P e).context c named l in
          let r' : (acting P e.start g.past).path ≡ q = ap (λ (x : Start S). (acting P x g.past).path) start ∙ r in
          let m : right_of (acting P e.start g.past).context c ≡ Released = so_later P (IsLost P c) (lost_lasts P c) q e.start (e.answer ∷ e.past) (n.1 ∙ p) k g.past sooner r' in
          let m' : right_of (actor P g).context c ≡ Released = ap (λ (x : Start S). right_of (acting P x g.past).context c) (sym start) ∙ m in
          let no : is_released (right_of (actor P g).context c) ≡ false = not_lost P (actor P g).context ys c (acting_releases P g.start g.past ys j b) too in
          let w : true ≡ false = sym (ap is_released m') ∙ no in
          cc
      go (inr l) =
          let k : length (acting P e.start t.body.found).context.entries ≤ c = so_later P (IsPast P c) (past_lasts P c) q e.start e.past p l t.body.found found (ap (λ (x : Start S). (acting P x t.body.found).path) there) in
          let k' = subst (λ (x : Start S). length (acting P x t.body.found).context.entries ≤ c) there k in
          past_not_lost P c (acting P t.body.start t.body.found) k' lost

  -- so the line of the release is one
  pub one_released : (line other : ℕ) → IsReleased P s q c line → IsReleased P s q c other → line ≡ other
  one_released line other h k = go (compared P main s made h.event k.event h.own.happened k.own.happened (h.own.path ∙ sym k.own.path))
    where
      go : Compared P main s made h.event k.event → line ≡ other
      go (one x y) = h.on_line ∙ (λ n. (ask_of P (acting P (x n) (y n))).line) ∙ sym k.on_line
      go (before x y) = absurd (clash h.event k.event h.own.happened h.own.path k.own.path x y h.clauses k.clauses h.included k.included h.releases k.releases h.named k.named)
      go (after x y) = absurd (clash k.event h.event k.own.happened k.own.path h.own.path (sym x) y k.clauses h.clauses k.included h.included k.releases h.releases k.named h.named)
