-- What hinders a task goes on to do so behind a wave and behind a pass, unless a task at or below the one that hinders it has ended or given something up; and who is still or spent stays so.
use Rattle.std.proofs.Common.{◌≡◌, ℕ, suc, ◌<◌, ◌⊎◌, inl, inr, refl, sym, ap, ◌∙◌, subst, List, [], ◌∷◌, ◌++◌, append_assoc, length, Bool, true, false, Option, Some, None}
use Rattle.std.specs.Prelude.{slice_get}
use Rattle.std.proofs.lemmas.List.{append-nil}
use Rattle.std.proofs.lemmas.Option.{slice_get_within}
use Rattle.oss_model.specs.Forest.{IsDone}
use Rattle.oss_model.specs.Order.{IsIn, here, there}
use Rattle.oss_model.specs.declared.task_no.TaskNo.{TaskNo}
use Rattle.oss_ranges.specs.Cells.{value_at}
use Rattle.oss_code.specs.declared.code.CodeParts.{CodeParts}
use Rattle.oss_body.specs.declared.body.Body.{Body}
use Rattle.oss_body.specs.Acts.{goes_on}
use Rattle.oss_body.specs.Relation.{pending_of, is_over}
use Rattle.oss_tree.specs.declared.task.Task.{Task as TreeTask}
use Rattle.oss_tree.specs.Tasks.{IsClosed, IsComplete, IsTree, given_task, number}
use Rattle.oss_tree.proofs.ListLemmas.{some_is, none_some}
use Rattle.oss_deps.specs.declared.opened.Open.{Open}
use Rattle.oss_deps.specs.Hindrances.{HasUndoneChild, Hinders}
use Rattle.oss_deps.specs.Opens.{AreOpens, HasOpened, IsMet, opened_forest}
use Rattle.oss_kept_tasks.specs.declared.held.Held.{Held}
use Rattle.oss_kept_tasks.specs.declared.held.Owed.{Owed}
use Rattle.oss_enabled_moves.specs.Enabled.{IsActMet, MayGoOn, MayStep}
use Rattle.oss_enabled_moves.specs.Reasons.{IsChildIn, IsNewestIn, IsReason, access, child, newest, use_}
use Rattle.oss_enabled_moves.proofs.CallLemmas.{in_range_of}
use Rattle.oss_core.specs.declared.passing.Passed.{Passed}
use Rattle.oss_core.specs.declared.turns.Turn.{Turn}
use Rattle.oss_core.specs.Awake.{IsStill}
use Rattle.oss_core.specs.Hindered.{IsHindered, IsSpent}
use Rattle.oss_core.specs.Kept.{IsRunning, Kept}
use Rattle.oss_core.specs.Leaving.{HasGiven, HasTurn, OwesLess}
use Rattle.oss_core.proofs.AwakeLemmas.{below_in_tree, rest_is_still, still_after}
use Rattle.oss_wakeups.specs.Watches.{HasNoLet, IsAboveEnded, IsAbovePassed, IsPassOf, IsWaveOf}
use Rattle.oss_wakeups.specs.Watching.{IsAtOrAbove, above, itself}
use Rattle.oss_wakeups.proofs.CompleteLemmas.{complete_before, done_before}

-- a member of a list, by a place
place_of : {A : Type 0} {x : A} (xs : List A) → IsIn x xs → (i : ℕ) × (slice_get xs i ≡ Some x)
place_of [] i = elim i [ ]
place_of (x ∷ xs) here = (0, refl)
place_of (y ∷ xs) (there i) = let p = place_of xs i in (suc p.0, p.1)

-- a task of which the tree knows a parent, among those above
pub above_more : (tasks : List TreeTask) (u c : ℕ) (one : TreeTask) → slice_get tasks c ≡ Some one → one.parent ≡ Some (number u) → (g : ℕ) → IsAtOrAbove tasks c g → IsAtOrAbove tasks u g
above_more tasks u c one is parent g itself = above u one is parent itself
above_more tasks u c one is parent g (above p other get up_is up) = above p other get up_is (above_more tasks u c one is parent p up)

-- a task that waits may not step

may_not : (tree : List TreeTask) (k : Kept) (v u : ℕ) (b : Body) → AreOpens k.seen.opens → IsReason tree k.seen v b u → MayGoOn b tree k.seen v → ⊥
may_not tree k v u b opens (access begun main h) may = go (may.met begun)
  where
    nil : k.seen.opens ++ [] ≡ k.seen.opens
    nil = append-nil k.seen.opens

    go : (v ≡ 0) ⊎ IsMet k.seen.opens k.seen.given v → ⊥
    go (inl e) = main e
    go (inr met) = h.bars [] k.seen.given (subst AreOpens (sym nil) opens) (subst (λ (os : List Open). IsDone (opened_forest os k.seen.given h.cell) u → ⊥) (sym nil) h.undone) (subst (λ (os : List Open). IsMet os k.seen.given v) (sym nil) met)
may_not tree k v u b opens (newest act n open_) may = open_ (subst (λ (a : Rattle.oss_body.specs.declared.act.Act.Act). IsActMet tree k.seen v a) act may.waits n.child.creator n.child.at_ n.child.place u n.last n.child.is)
may_not tree k v u b opens (child act n open_) may = open_ (subst (λ (a : Rattle.oss_body.specs.declared.act.Act.Act). IsActMet tree k.seen v a) act may.waits n.creator n.at_ n.place u n.is)
may_not tree k v u b opens (use_ ranges one act i h) may =
    let p = place_of ranges i in
    h.undone (subst (λ (n : ℕ). IsDone (opened_forest k.seen.opens k.seen.given h.cell) n) h.number
    (subst (λ (a : Rattle.oss_body.specs.declared.act.Act.Act). IsActMet tree k.seen v a) act may.waits h.cell (in_range_of ranges h.cell p.0 one p.1 h.from h.before) h.entry h.listed h.parent h.named))

pub hindered_may_not : {code : CodeParts} {k : Kept} → IsRunning code k → (v u : ℕ) → IsHindered k v u → MayStep k.tasks k.tree.tasks k.seen v → ⊥
hindered_may_not {k = k} running v u h may =
    may_not k.tree.tasks k v u h.held.body running.core.sound.tasks.opens_are h.reason (subst (λ (x : Held). MayGoOn x.body k.tree.tasks k.seen v) (some_is may.is h.is) may.goes)

pub spent_may_not : (k : Kept) (v : ℕ) → IsSpent k v → MayStep k.tasks k.tree.tasks k.seen v → ⊥
spent_may_not k v s may = absurd (never (sym may.goes.running ∙ (ap (λ (x : Held). is_over x.body) (some_is may.is s.is) ∙ s.over)))
  where
    never : false ≡ true → ⊥
    never e = cc

-- who owes nothing is still, and so is who waits where no cell may be given up
pub spent_still : (k : Kept) (v : ℕ) → IsSpent k v → IsStill k v
spent_still k v s = record { held = s.held; is = s.is; still = λ c way e. absurd (none_some (s.none c) e) }

pub hindered_still : (k : Kept) (v u : ℕ) → HasNoLet k → IsHindered k v u → IsStill k v
hindered_still k v u quiet h = rest_is_still k v h.held h.is h.running (quiet v)

-- opens that grow

opened_later : (old new : List Open) (c v : ℕ) → ((o : Open) → IsIn o old → IsIn o new) → HasOpened old c v → HasOpened new c v
opened_later old new c v more o = record { entry = o.entry; listed = more o.entry o.listed; number = o.number; named = o.named }

in_longer : {A : Type 0} {x : A} (xs ys : List A) → IsIn x xs → IsIn x (xs ++ ys)
in_longer [] ys i = elim i [ ]
in_longer (x ∷ xs) ys here = here
in_longer (x ∷ xs) ys (there i) = there (in_longer xs ys i)

hinders_later : (old new opened : List Open) (given later_given : ℕ → ℕ → Bool) (v u : ℕ) → new ≡ old ++ opened → ((c : ℕ) → IsDone (opened_forest new later_given c) u → IsDone (opened_forest old given c) u) → Hinders old given v u → Hinders new later_given v u
hinders_later old new opened given later_given v u e back h = record {
  cell = h.cell;
  opened = opened_later old new h.cell u (λ o i. subst (IsIn o) (sym e) (in_longer old opened i)) h.opened;
  undone = λ d. h.undone (back h.cell d);
  bars = λ more then_given right not_done met.
      let f : new ++ more ≡ old ++ (opened ++ more) = ap (λ (os : List Open). os ++ more) e ∙ append_assoc old opened more in
      h.bars (opened ++ more) then_given (subst AreOpens f right) (subst (λ (os : List Open). IsDone (opened_forest os then_given h.cell) u → ⊥) f not_done) (subst (λ (os : List Open). IsMet os then_given v) f met);
}

undone_later : (old new opened : List Open) (given later_given : ℕ → ℕ → Bool) (v lo hi u : ℕ) → new ≡ old ++ opened → ((c : ℕ) → IsDone (opened_forest new later_given c) u → IsDone (opened_forest old given c) u) → HasUndoneChild old given v lo hi u
    → HasUndoneChild new later_given v lo hi u
undone_later old new opened given later_given v lo hi u e back h = record {
  cell = h.cell;
  from = h.from;
  before = h.before;
  entry = h.entry;
  listed = subst (IsIn h.entry) (sym e) (in_longer old opened h.listed);
  number = h.number;
  parent = h.parent;
  named = h.named;
  undone = λ d. h.undone (back h.cell d);
}

-- children of a task of which the tree knows the same children
abbrev child_later : (old new : List TreeTask) (v u : ℕ) → ((one : TreeTask) → slice_get old v ≡ Some one → (other : TreeTask) × (slice_get new v ≡ Some other) × (other.children ≡ one.children)) → IsChildIn old v u → IsChildIn new v u
child_later old new v u same c = let s = same c.creator c.at_ in record { creator = s.0; at_ = s.1; place = c.place; is = ap (λ (xs : List TaskNo). slice_get xs c.place) s.2 ∙ c.is }

newest_later : (old new : List TreeTask) (v u : ℕ) → ((one : TreeTask) → slice_get old v ≡ Some one → (other : TreeTask) × (slice_get new v ≡ Some other) × (other.children ≡ one.children)) → IsNewestIn old v u → IsNewestIn new v u
newest_later old new v u same n = record { child = child_later old new v u same n.child; last = n.last ∙ sym (ap length (same n.child.creator n.child.at_).2) }

-- so a reason stays
reason_later : (old new : Kept) (opened : List Open) (v u : ℕ) (b : Body) → new.seen.opens ≡ old.seen.opens ++ opened
    → ((one : TreeTask) → slice_get old.tree.tasks v ≡ Some one → (other : TreeTask) × (slice_get new.tree.tasks v ≡ Some other) × (other.children ≡ one.children))
    → ((c : ℕ) → IsDone (opened_forest new.seen.opens new.seen.given c) u → IsDone (opened_forest old.seen.opens old.seen.given c) u) → (u < length old.tree.tasks → IsComplete new.tree.tasks u → IsComplete old.tree.tasks u)
    → (IsChildIn old.tree.tasks v u → u < length old.tree.tasks) → IsReason old.tree.tasks old.seen v b u → IsReason new.tree.tasks new.seen v b u
reason_later old new opened v u b e same back completes inside (access begun main h) = access begun main (hinders_later old.seen.opens new.seen.opens opened old.seen.given new.seen.given v u e back h)
reason_later old new opened v u b e same back completes inside (newest act n open_) = newest act (newest_later old.tree.tasks new.tree.tasks v u same n) (λ c. open_ (completes (inside n.child) c))
reason_later old new opened v u b e same back completes inside (child act n open_) = child act (child_later old.tree.tasks new.tree.tasks v u same n) (λ c. open_ (completes (inside n) c))
reason_later old new opened v u b e same back completes inside (use_ ranges one act i h) = use_ ranges one act i (undone_later old.seen.opens new.seen.opens opened old.seen.given new.seen.given v one.lo one.hi u e back h)

child_inside : (tasks : List TreeTask) → IsTree tasks → (v u : ℕ) → IsChildIn tasks v u → u < length tasks
child_inside tasks tree v u c = let d = tree.children v c.creator c.at_ c.place u c.is in slice_get_within tasks u d.task d.at_

-- a wave: whether a task had a turn
has_turn : (turns : List Turn) (v : ℕ) → HasTurn turns v ⊎ (HasTurn turns v → ⊥)
has_turn [] v = inr (λ h. elim h.listed [ ])
has_turn (t ∷ turns) v = go (Rattle.oss_tree.proofs.ListLemmas.which t.task.0 v) (has_turn turns v)
  where
    rest : (t.task.0 ≡ v → ⊥) → (HasTurn turns v → ⊥) → (one : Turn) → IsIn one (t ∷ turns) → one.task.0 ≡ v → ⊥
    rest n m one here e = n e
    rest n m one (there i) e = m (record { one = one; listed = i; task = e })

    go : (t.task.0 ≡ v) ⊎ (t.task.0 ≡ v → ⊥) → HasTurn turns v ⊎ (HasTurn turns v → ⊥) → HasTurn (t ∷ turns) v ⊎ (HasTurn (t ∷ turns) v → ⊥)
    go (inl e) more = inl (record { one = t; listed = here; task = e })
    go (inr n) (inl h) = inl (record { one = h.one; listed = there h.listed; task = h.task })
    go (inr n) (inr m) = inr (λ h. rest n m h.one h.listed h.task)

has_given : (passed : List Passed) (v : ℕ) → HasGiven passed v ⊎ (HasGiven passed v → ⊥)
has_given [] v = inr (λ h. elim h.listed [ ])
has_given (t ∷ passed) v = go (Rattle.oss_tree.proofs.ListLemmas.which t.task.0 v) (has_given passed v)
  where
    rest : (t.task.0 ≡ v → ⊥) → (HasGiven passed v → ⊥) → (one : Passed) → IsIn one (t ∷ passed) → one.task.0 ≡ v → ⊥
    rest n m one here e = n e
    rest n m one (there i) e = m (record { one = one; listed = i; task = e })

    go : (t.task.0 ≡ v) ⊎ (t.task.0 ≡ v → ⊥) → HasGiven passed v ⊎ (HasGiven passed v → ⊥) → HasGiven (t ∷ passed) v ⊎ (HasGiven (t ∷ passed) v → ⊥)
    go (inl e) more = inl (record { one = t; listed = here; task = e })
    go (inr n) (inl h) = inl (record { one = h.one; listed = there h.listed; task = h.task })
    go (inr n) (inr m) = inr (λ h. rest n m h.one h.listed h.task)

module _ {code other : CodeParts} {old new : Kept} (turns : List Turn) (ran : IsRunning code old) (running : IsRunning other new) (wave : IsWaveOf turns old new) where
  -- a task that had no turn is kept as it was
  pub held_waved : (v : ℕ) (held : Held) → (HasTurn turns v → ⊥) → slice_get old.tasks v ≡ Some held → slice_get new.tasks v ≡ Some held
  held_waved v held none e = wave.wave.turned.held v (slice_get_within old.tasks v held e) none ∙ e

  tree_waved : (v : ℕ) (one : TreeTask) → (HasTurn turns v → ⊥) → slice_get old.tree.tasks v ≡ Some one → slice_get new.tree.tasks v ≡ Some one
  tree_waved v one none e = wave.wave.turned.tree v (slice_get_within old.tree.tasks v one e) none ∙ e

  record Apart (x : ℕ) : Type 0 where
    inside : x < length old.tree.tasks
    not_above : IsAboveEnded new.tree.tasks turns x → ⊥

  -- complete tasks were so before, but above one that has ended in the wave
  completes_waved : (u : ℕ) → (IsAboveEnded new.tree.tasks turns u → ⊥) → u < length old.tree.tasks → IsComplete new.tree.tasks u → IsComplete old.tree.tasks u
  completes_waved u n l c = complete_before old.tree.tasks new.tree.tasks Apart same below u c (record { inside = l; not_above = n })
    where
      turned : (x : ℕ) → Apart x → (one : TreeTask) → slice_get new.tree.tasks x ≡ Some one → IsClosed one → HasTurn turns x → ⊥
      turned x a one e closed h = a.not_above (record { turn = h.one; listed = h.listed; one = one; at_ = ap (λ (y : ℕ). slice_get new.tree.tasks y) h.task ∙ e; ended = closed.0; above = subst (λ (y : ℕ). IsAtOrAbove new.tree.tasks x y) (sym h.task) itself })

      same : (x : ℕ) → Apart x → (one : TreeTask) → slice_get new.tree.tasks x ≡ Some one → IsClosed one → slice_get old.tree.tasks x ≡ Some one
      same x a one e closed = sym (wave.wave.turned.tree x a.inside (turned x a one e closed)) ∙ e

      below : (x : ℕ) → Apart x → (one : TreeTask) → slice_get new.tree.tasks x ≡ Some one → IsClosed one → (k c : ℕ) → slice_get one.children k ≡ Some (number c) → Apart c
      below x a one e closed k c i =
          let was = ran.core.known.tree_is.children x one (same x a one e closed) k c i in
          let is = running.core.known.tree_is.children x one e k c i in
          record {
            inside = slice_get_within old.tree.tasks c was.task was.at_;
            not_above = λ m. a.not_above (record { turn = m.turn; listed = m.listed; one = m.one; at_ = m.at_; ended = m.ended; above = above_more new.tree.tasks x c is.task is.at_ is.parent m.turn.task.0 m.above });
          }

  done_waved : (u c : ℕ) → IsDone (opened_forest new.seen.opens new.seen.given c) u → IsDone (opened_forest old.seen.opens old.seen.given c) u
  done_waved u c d = done_before old.seen.opens new.seen.opens old.seen.given new.seen.given c (λ x. Unit {0}) (λ o i. subst (IsIn o) (sym wave.wave.turned.opens) (in_longer old.seen.opens wave.wave.turned.opened i)) (λ t x e. sym (wave.wave.turned.given t c) ∙ e) (λ o i x. tt) u d tt

  -- who waits and had no turn waits still, but for one above a task that has ended in the wave
  pub hindered_waved : (v u : ℕ) → IsHindered old v u → (IsAboveEnded new.tree.tasks turns u → ⊥) → IsHindered new v u
  hindered_waved v u h n = record {
    held = h.held;
    is = held_waved v h.held none h.is;
    running = h.running;
    goes = h.goes;
    reason = reason_later old new wave.wave.turned.opened v u h.held.body wave.wave.turned.opens (λ one e. (one, tree_waved v one none e, refl)) (λ c d. done_waved u c d) (λ l c. completes_waved u n l c) (child_inside old.tree.tasks ran.core.known.tree_is v u) h.reason;
  }
    where
      none : HasTurn turns v → ⊥
      none t = hindered_may_not ran v u h (wave.wave.may v t)

  pub still_waved : (v u : ℕ) → IsHindered old v u → IsStill old v → IsStill new v
  still_waved v u h s = record { held = s.held; is = held_waved v s.held (λ t. hindered_may_not ran v u h (wave.wave.may v t)) s.is; still = s.still }

  pub spent_waved : (v : ℕ) → IsSpent old v → IsSpent new v
  spent_waved v s = record { held = s.held; is = held_waved v s.held (λ t. spent_may_not old v s (wave.wave.may v t)) s.is; over = s.over; none = s.none }

module _ {code other : CodeParts} {old new : Kept} (passed : List Passed) (ran : IsRunning code old) (running : IsRunning other new) (pass : IsPassOf passed old new) where
  -- the tree knows the same children
  same_children : (v : ℕ) (one : TreeTask) → slice_get old.tree.tasks v ≡ Some one → (other : TreeTask) × (slice_get new.tree.tasks v ≡ Some other) × (other.children ≡ one.children)
  same_children v one e = go (pass.tasks.each v one e)
    where
      go : (slice_get new.tree.tasks v ≡ Some one) ⊎ (slice_get new.tree.tasks v ≡ Some (given_task one)) → (other : TreeTask) × (slice_get new.tree.tasks v ≡ Some other) × (other.children ≡ one.children)
      go (inl f) = (one, f, refl)
      go (inr f) = (given_task one, f, refl)

  record Beside (x : ℕ) : Type 0 where
    not_above : IsAbovePassed new.tree.tasks passed x → ⊥

  untouched : (x : ℕ) → Beside x → HasGiven passed x → ⊥
  untouched x a h = a.not_above (record { one = h.one; listed = h.listed; above = subst (λ (y : ℕ). IsAtOrAbove new.tree.tasks x y) (sym h.task) itself })

  completes_passed : (u : ℕ) → Beside u → IsComplete new.tree.tasks u → IsComplete old.tree.tasks u
  completes_passed u n c = complete_before old.tree.tasks new.tree.tasks Beside (λ x a one e closed. sym (pass.given_up.tree x (untouched x a)) ∙ e) below u c n
    where
      below : (x : ℕ) → Beside x → (one : TreeTask) → slice_get new.tree.tasks x ≡ Some one → IsClosed one → (k c : ℕ) → slice_get one.children k ≡ Some (number c) → Beside c
      below x a one e closed k c i =
          let is = running.core.known.tree_is.children x one e k c i in
          record { not_above = λ m. a.not_above (record { one = m.one; listed = m.listed; above = above_more new.tree.tasks x c is.task is.at_ is.parent m.one.task.0 m.above }) }

  done_passed : (u c : ℕ) → Beside u → IsDone (opened_forest new.seen.opens new.seen.given c) u → IsDone (opened_forest old.seen.opens old.seen.given c) u
  done_passed u c n d = done_before old.seen.opens new.seen.opens old.seen.given new.seen.given c Beside (λ o i. subst (IsIn o) (sym pass.given_up.opens) i) kept below u d n
    where
      kept : (t : ℕ) → Beside t → new.seen.given t c ≡ true → old.seen.given t c ≡ true
      kept t a e = go (pass.given_up.given t c e)
        where
          go : (old.seen.given t c ≡ true) ⊎ HasGiven passed t → old.seen.given t c ≡ true
          go (inl f) = f
          go (inr h) = absurd (untouched t a h)

      below : (o : Open) → IsIn o old.seen.opens → Beside o.parent → Beside o.task
      below o i a =
          let p = below_in_tree running.core o (subst (IsIn o) (sym pass.given_up.opens) i) o.task o.parent refl refl in
          record { not_above = λ m. a.not_above (record { one = m.one; listed = m.listed; above = above_more new.tree.tasks o.parent o.task p.0 p.1 p.2 m.one.task.0 m.above }) }

  -- who waits waits still, but for one above a task of which something was passed
  pub hindered_passed : (v u : ℕ) → IsHindered old v u → (IsAbovePassed new.tree.tasks passed u → ⊥) → IsHindered new v u
  hindered_passed v u h n =
      let m = pass.given_up.held v h.held h.is in
      let a : Beside u = record { not_above = n } in
      record {
        held = m.0;
        is = m.1;
        running = ap is_over m.2.body ∙ h.running;
        goes = ap (λ (b : Body). goes_on (pending_of b)) m.2.body ∙ h.goes;
        reason = subst (λ (b : Body). IsReason new.tree.tasks new.seen v b u) (sym m.2.body)
            (reason_later old new [] v u h.held.body (pass.given_up.opens ∙ sym (append-nil old.seen.opens)) (same_children v) (λ c d. done_passed u c a d) (λ l c. completes_passed u a c) (child_inside old.tree.tasks ran.core.known.tree_is v u) h.reason);
      }

  pub still_passed : (v : ℕ) → IsStill old v → IsStill new v
  still_passed v s = still_after passed old new v pass.given_up s

  pub spent_passed : (v : ℕ) → IsSpent old v → IsSpent new v
  spent_passed v s =
      let m = pass.given_up.held v s.held s.is in
      record { held = m.0; is = m.1; over = ap is_over m.2.body ∙ s.over; none = λ c. none c m.0 m.2 (value_at m.0.owed.pieces c) refl }
    where
      none : (c : ℕ) (after : Held) → OwesLess s.held after → (o : Option Owed) → value_at after.owed.pieces c ≡ o → value_at after.owed.pieces c ≡ None
      none c after less None e = e
      none c after less (Some way) e = absurd (none_some (s.none c) (less.owed c way e))

-- who hinders another is a task of the tree
pub hindered_there : {code : CodeParts} {k : Kept} → IsRunning code k → (v u : ℕ) → IsHindered k v u → u < length k.tree.tasks
hindered_there {k = k} running v u h = go h.held.body h.reason
  where
    opened : (o : Open) → IsIn o k.seen.opens → o.task ≡ u → u < length k.tree.tasks
    opened o i e = let p = below_in_tree running.core o i o.task o.parent refl refl in subst (λ (n : ℕ). n < length k.tree.tasks) e (slice_get_within k.tree.tasks o.task p.0 p.1)

    go : (b : Body) → IsReason k.tree.tasks k.seen v b u → u < length k.tree.tasks
    go b (access begun main x) = opened x.opened.entry x.opened.listed x.opened.number
    go b (newest act n open_) = child_inside k.tree.tasks running.core.known.tree_is v u n.child
    go b (child act n open_) = child_inside k.tree.tasks running.core.known.tree_is v u n
    go b (use_ ranges one act i x) = opened x.entry x.listed x.number
