-- One run of cells that a pass comes to, and what it leaves.
use Rattle.std.proofs.Common.{◌≡◌, ℕ, zero, suc, ◌+◌, ◌-◌, ◌<◌, ◌≤◌, ◌⊎◌, inl, inr, refl, sym, subst, ap, ◌∙◌, arith, List, [], ◌++◌, length, Bool, true, false, Option, Some, None, length-set}
use Rattle.std.specs.Prelude.{slice_get, slice_set}
use Rattle.std.proofs.lemmas.Option.{slice_get_within}
use Rattle.oss_syntax.specs.declared.access.Op.{Op}
use Rattle.oss_model.specs.Order.{IsIn, written}
use Rattle.oss_model.specs.Bodies.{Start}
use Rattle.oss_model.specs.Machine.{State, Task}
use Rattle.oss_model.specs.Moves.{CanJoin}
use Rattle.oss_wave_laws.specs.Passes.{GivenUp, IsKept, Place, Visits, merges, visits_none}
use Rattle.oss_wave_laws.specs.Rounds.{Span, spans}
use Rattle.oss_wave_laws.proofs.SumLemmas.{in_cases, in_none}
use Rattle.oss_code.specs.declared.code.CodeParts.{CodeParts}
use Rattle.oss_machine.specs.Frames.{CodeScript}
use Rattle.oss_machine.specs.Machines.{asks}
use Rattle.oss_tree.specs.declared.task.Task.{Task as TreeTask}
use Rattle.oss_tree.specs.Tasks.{HasPoint, IsTree, changed_to, given_task}
use Rattle.oss_tree.proofs.ListLemmas.{get_set_other, get_set_same, there_is}
use Rattle.oss_enabled_moves.specs.Enabled.{MayJoin}
use Rattle.oss_core.specs.declared.passing.Passed.{Passed}
use Rattle.oss_core.specs.Changes.{noted_given}
use Rattle.oss_core.specs.Kept.{IsCore, IsRunning, Kept}
use Rattle.oss_core.specs.Passing.{CellsPassed, HaveGiven, IsToldOf, LetsRange, MayNothing, RunPassed, Tells, TellsOf, joins, lets, more_cells, no_cells, stays}
use Rattle.oss_core.proofs.ExactLemmas.{join_tells, join_told, let_tells}
use Rattle.oss_core.proofs.GivesLemmas.{joins_made}
use Rattle.oss_core.proofs.KeepLemmas.{some_is, which}
use Rattle.oss_core.proofs.RangeLemmas.{range_made}
use Rattle.oss_core.proofs.SpanLemmas.{cells_of, spans_behind, spans_of}
use Rattle.oss_core.proofs.ToldLemmas.{added_tells}
use Rattle.oss_core.proofs.TreeFacts.{at_number, one_path, point_of_path, sizes}
use Rattle.oss_core.proofs.WalkLemmas.{place, row, visits_kept, with_none}

-- a task that may have given up all its cells
pub given_itself : (tasks : List TreeTask) → HaveGiven tasks tasks
given_itself tasks = record { size = refl; each = λ v one e. inl e }

pub given_noted : (tasks : List TreeTask) (v : ℕ) (last : Bool) → HaveGiven tasks (noted_given v last tasks)
given_noted tasks v false = given_itself tasks
given_noted tasks v true = go (slice_get tasks v) refl
  where
    go : (o : Option TreeTask) → slice_get tasks v ≡ o → HaveGiven tasks (changed_to tasks v given_task o)
    go None e = given_itself tasks
    go (Some one) e = record { size = length-set tasks v (given_task one); each = λ w other h. each w other h (which w v) }
      where
        each : (w : ℕ) (other : TreeTask) → slice_get tasks w ≡ Some other → (w ≡ v) ⊎ (w ≡ v → ⊥) → (slice_get (slice_set tasks v (given_task one)) w ≡ Some other) ⊎ (slice_get (slice_set tasks v (given_task one)) w ≡ Some (given_task other))
        each w other h (inl f) =
            let same : one ≡ other = some_is (sym e ∙ ap (λ (z : ℕ). slice_get tasks z) (sym f) ∙ h) in
            inr (ap (λ (z : ℕ). slice_get (slice_set tasks v (given_task one)) z) f ∙ get_set_same tasks v one (given_task one) e ∙ ap (λ (t : TreeTask). Some (given_task t)) same)
        each w other h (inr n) = inl (get_set_other tasks v w (given_task one) n ∙ h)

pub given_then : {a b c : List TreeTask} → HaveGiven a b → HaveGiven b c → HaveGiven a c
given_then {a = a} {b = b} {c = c} x y = record { size = y.size ∙ x.size; each = λ v one e. go v one (x.each v one e) }
  where
    given : (v : ℕ) (one : TreeTask) → (slice_get c v ≡ Some (given_task one)) ⊎ (slice_get c v ≡ Some (given_task (given_task one))) → (slice_get c v ≡ Some one) ⊎ (slice_get c v ≡ Some (given_task one))
    given v one (inl h) = inr h
    given v one (inr h) = inr h

    go : (v : ℕ) (one : TreeTask) → (slice_get b v ≡ Some one) ⊎ (slice_get b v ≡ Some (given_task one)) → (slice_get c v ≡ Some one) ⊎ (slice_get c v ≡ Some (given_task one))
    go v one (inl h) = y.each v one h
    go v one (inr h) = given v one (y.each v (given_task one) h)

-- points stay, and no others come
pub point_after : {old new : List TreeTask} → HaveGiven old new → (v : ℕ) (p : List ℕ) → HasPoint old v p → HasPoint new v p
point_after {new = new} x v p h = go (x.each v h.task h.at_)
  where
    go : (slice_get new v ≡ Some h.task) ⊎ (slice_get new v ≡ Some (given_task h.task)) → HasPoint new v p
    go (inl e) = record { task = h.task; at_ = e; point = h.point }
    go (inr e) = record { task = given_task h.task; at_ = e; point = h.point }

pub point_before : {old new : List TreeTask} → HaveGiven old new → (v : ℕ) (p : List ℕ) → HasPoint new v p → HasPoint old v p
point_before {old = old} {new = new} x v p h = back (there_is old v (subst (λ (n : ℕ). v < n) x.size (slice_get_within new v h.task h.at_)))
  where
    back : (one : TreeTask) × (slice_get old v ≡ Some one) → HasPoint old v p
    back (one, e) = go (x.each v one e)
      where
        go : (slice_get new v ≡ Some one) ⊎ (slice_get new v ≡ Some (given_task one)) → HasPoint old v p
        go (inl f) = record { task = one; at_ = e; point = ap (λ (t : TreeTask). t.point) (some_is (sym f ∙ h.at_)) ∙ h.point }
        go (inr f) = record { task = one; at_ = e; point = ap (λ (t : TreeTask). t.point) (some_is (sym f ∙ h.at_)) ∙ h.point }

-- so many cells in a row
in_row : (n : ℕ) (p : List ℕ) (lo : ℕ) (a : Place) → IsIn a (row p lo n) → (c : ℕ) × (a ≡ place p c) × (lo ≤ c) × (c < lo + n)
in_row zero p lo a h = absurd (in_none h)
in_row (suc n) p lo a h = go (in_cases h) (λ k. in_row n p (suc lo) a k)
  where
    go : (a ≡ place p lo) ⊎ IsIn a (row p (suc lo) n) → (IsIn a (row p (suc lo) n) → (c : ℕ) × (a ≡ place p c) × (suc lo ≤ c) × (c < suc lo + n)) → (c : ℕ) × (a ≡ place p c) × (lo ≤ c) × (c < lo + suc n)
    go (inl e) f = (lo, e, omega arith, omega arith)
    go (inr k) f = let x = f k in let l = x.2 in let m = x.3 in (x.0, x.1, omega (arith, l), omega (arith, m))

module _ {code : CodeParts} {main : Start CodeScript} {first : List ℕ} {k : Kept} {s : State CodeScript} (core : IsCore code main first k s) where
  -- a cell of which nothing may be given up is kept
  pub cell_kept : (v lo hi : ℕ) (p : List ℕ) → HasPoint k.tree.tasks v (written p) → MayNothing k v lo hi → (c : ℕ) → lo ≤ c → c < hi → IsKept (asks code) s (place p c)
  cell_kept v lo hi p point none c low high = record {
    no_let = λ t can. none.no_let c low high (let_tells core v c p t point can);
    no_join = λ op t can. none.no_join c op low high (join_tells core v c op p t point can);
  }

  -- a join that may be made can be made of the task with this path
  pub can_join : (v c : ℕ) (op : Op) (p : List ℕ) → HasPoint k.tree.tasks v (written p) → MayJoin k.tasks k.tree.tasks k.seen v c op → (t : Task CodeScript) × CanJoin (asks code) s p c op t
  can_join v c op p point may =
      let r = join_told core v c op may in
      let same : r.0 ≡ p = one_path r.0 p (sym r.2.point ∙ ap (λ (t : TreeTask). t.point) (some_is (sym r.2.at_ ∙ point.at_)) ∙ point.point) in
      (r.1, subst (λ (q : List ℕ). CanJoin (asks code) s q c op r.1) same r.3)

-- what is told behind a run: it is one span more
pub told_more : (tasks : List TreeTask) → IsTree tasks → (v lo count : ℕ) (joined : Bool) (p : List ℕ) → HasPoint tasks v (written p) → (before after : List Passed) → IsToldOf v lo (lo + suc count) joined before after
    → (list : List GivenUp) → TellsOf tasks before (spans list) → TellsOf tasks after (spans (list ++ cells_of p lo (suc count) joined))
told_more tasks tree v lo count joined p point before after (one, is, added) list t =
    let span : Span = record { path = p; first = lo; count = suc count; joined = joined } in
    let tells : Tells tasks one span = record { point = subst (λ (w : ℕ). HasPoint tasks w (written p)) (sym is.task) point; first = is.lo_is; last = is.hi_is; joined = is.joined_is } in
    subst (λ (ss : List Span). TellsOf tasks after ss) (sym (spans_behind list (cells_of p lo (suc count) joined) span (spans_of p count lo joined)))
    (added_tells tasks tree one span before after (spans list) t tells added)

-- what a run leaves
pub record RunMade (code : CodeParts) (main : Start CodeScript) (first : List ℕ) (v : ℕ) (p : List ℕ) (lo hi : ℕ) (old new : Kept) (before after : List Passed) (s : State CodeScript) : Type 0 where
  pub state : State CodeScript
  pub count : ℕ
  pub count_is : lo + suc count ≡ hi
  pub more : List GivenUp
  pub visits : Visits (asks code) s (row p lo (suc count)) more state
  pub core : IsCore code main first new state
  pub told : (tasks : List TreeTask) → IsTree tasks → HasPoint tasks v (written p) → (list : List GivenUp) → TellsOf tasks before (spans list) → TellsOf tasks after (spans (list ++ more))
  pub given : HaveGiven old.tree.tasks new.tree.tasks

pub run_made : (code : CodeParts) (main : Start CodeScript) (first : List ℕ) (v : ℕ) (p : List ℕ) (lo hi : ℕ) (old new : Kept) (before after : List Passed) (s : State CodeScript) → IsCore code main first old s → HasPoint old.tree.tasks v (written p) → lo < hi
    → RunPassed code v lo hi old new before after → RunMade code main first v p lo hi old new before after s
run_made code main first v p lo hi old new before after s core point l run = go (count l) run
  where
    count : lo < hi → (n : ℕ) × (lo + suc n ≡ hi)
    count m = (hi - suc lo, omega (arith, m))

    go : (n : ℕ) × (lo + suc n ≡ hi) → RunPassed code v lo hi old new before after → RunMade code main first v p lo hi old new before after s
    go (n, e) (stays none same told) = record {
      state = s;
      count = n;
      count_is = e;
      more = [];
      visits = visits_kept (asks code) s (row p lo (suc n)) (λ a h. let x = in_row (suc n) p lo a h in let m = x.3 in subst (λ (b : Place). IsKept (asks code) s b) (sym x.1) (cell_kept core v lo hi p point none x.0 x.2 (omega (arith, m, e))));
      core = subst (λ (k : Kept). IsCore code main first k s) (sym same) core;
      told = λ tasks tree has list t. subst (λ (ps : List Passed). TellsOf tasks ps (spans (list ++ []))) (sym told) (subst (λ (xs : List GivenUp). TellsOf tasks before (spans xs)) (sym (with_none list)) t);
      given = subst (λ (k : Kept). HaveGiven old.tree.tasks k.tree.tasks) (sym same) (given_itself old.tree.tasks);
    }
    go (n, e) (lets may range told) =
        let m = range_made code main first n lo old new s core v p point (λ c low high. may c low (subst (λ (d : ℕ). c < d) e high)) (subst (λ (d : ℕ). LetsRange v lo d old new) (sym e) range) in
        record {
          state = m.0;
          count = n;
          count_is = e;
          more = cells_of p lo (suc n) false;
          visits = m.1;
          core = m.2;
          told = λ tasks tree has list t. told_more tasks tree v lo n false p has before after (subst (λ (d : ℕ). IsToldOf v lo d false before after) (sym e) told) list t;
          given = subst (λ (ts : List TreeTask). HaveGiven old.tree.tasks ts) (sym range.tasks) (given_noted old.tree.tasks v range.last);
        }
    go (n, e) (joins op one may made told) =
        let zero_is : n ≡ zero = omega (arith, e, one) in
        let f : lo + suc zero ≡ hi = omega (arith, one) in
        let can = can_join core v lo op p point may in
        let m = joins_made code main first old new s core v lo op p can.0 point can.1 made in
        record {
          state = m.0;
          count = zero;
          count_is = f;
          more = cells_of p lo (suc zero) true;
          visits = merges can.1 m.1 visits_none;
          core = m.2;
          told = λ tasks tree has list t. told_more tasks tree v lo zero true p has before after (subst (λ (d : ℕ). IsToldOf v lo d true before after) (sym f) told) list t;
          given = subst (λ (ts : List TreeTask). HaveGiven old.tree.tasks ts) (sym made.gives.tasks) (given_noted old.tree.tasks v made.gives.last);
        }

-- the number of a task of a core that goes on
pub record KeepsGoing (code : CodeParts) (v : ℕ) (old new : Kept) : Type 0 where
  pub running : IsRunning code new
  pub there : v < length new.tasks
  pub given : HaveGiven old.tree.tasks new.tree.tasks

there_after : {code : CodeParts} {old new : Kept} → (a : IsRunning code old) (b : IsRunning code new) → HaveGiven old.tree.tasks new.tree.tasks → (v : ℕ) → v < length old.tasks → v < length new.tasks
there_after {old = old} {new = new} a b given v l = subst (λ (n : ℕ). v < n) (sym (sizes a.core) ∙ sym given.size ∙ sizes b.core) l

-- a task of the tree is one of those that are kept later
pub there_in : {code : CodeParts} {tasks : List TreeTask} {new : Kept} → (b : IsRunning code new) → HaveGiven tasks new.tree.tasks → (v : ℕ) → v < length tasks → v < length new.tasks
there_in b given v l = subst (λ (n : ℕ). v < n) (sym given.size ∙ sizes b.core) l

-- behind a run the core goes on
pub run_goes : {code : CodeParts} {v lo hi : ℕ} {old new : Kept} {before after : List Passed} → IsRunning code old → v < length old.tasks → lo < hi → RunPassed code v lo hi old new before after → KeepsGoing code v old new
run_goes {code = code} {v = v} {lo = lo} {hi = hi} {old = old} {new = new} {before = before} {after = after} running there l run =
    let x = at_number running.core v there in
    let point = point_of_path running.core v x.body.start.path (record { one = x.body; is = x.body_at; path = refl }) in
    let m = run_made code running.main running.first v x.body.start.path lo hi old new before after running.state running.core point l run in
    let now : IsRunning code new = record { main = running.main; first = running.first; state = m.state; core = m.core } in
    record { running = now; there = there_after running now m.given v there; given = m.given }

-- and behind all cells of a task
pub cells_go : {code : CodeParts} {v : ℕ} {old : Kept} {before : List Passed} {hi : ℕ} {new : Kept} {after : List Passed} → IsRunning code old → v < length old.tasks → CellsPassed code v old before hi new after → KeepsGoing code v old new
cells_go {old = old} running there no_cells = record { running = running; there = there; given = given_itself old.tree.tasks }
cells_go running there (more_cells c l r) =
    let x = cells_go running there c in
    let y = run_goes x.running x.there l r in
    record { running = y.running; there = y.there; given = given_then x.given y.given }
