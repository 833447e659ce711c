-- The sequential run from stage to stage: an act that is no fault can be made.
use Rattle.std.proofs.Common.{◌≡◌, ◌≢◌, ℕ, ◌+◌, ◌⊎◌, inl, inr, refl, sym, subst, ap, ◌∙◌, List, ◌∷◌, length, arith, Bool, true, false, Some}
use Rattle.oss_model.specs.Order.{IsSuffix}
use Rattle.oss_model.specs.Bodies.{Order, Program, Frame, Start, stack_from, stage_created, child_start, IsHalt}
use Rattle.oss_model.specs.Bodies.Act.{Created}
use Rattle.oss_model.specs.Machine.{Task, At, find, same_path}
use Rattle.oss_model.specs.Moves.{act_now, created_now, found_by, after_answer, new_task, TaskStep}
use Rattle.oss_model.specs.Sequence.{Running, direct_cells, printed_after, active_after, RunsOn, Sequential, runs_on}
use Rattle.oss_model.proofs.BodyLemmas.{stack_ok}
use Rattle.oss_model.proofs.OrderLemmas.{suffix_length}
use Rattle.oss_model.proofs.TreeLemmas.{path_found, same_path_is}
use Rattle.oss_model.proofs.MoveLemmas.{is_creation}
use Rattle.oss_model.proofs.SequenceLemmas.{not_itself}
use Rattle.oss_model.proofs.Exclusive.{same_self}

pub child_depth : {S : Type 0} (f : Frame S) (o : Order S) → (child_start f o).context.depth ≡ f.context.depth + 1
unfolding child_start
child_depth f o = refl

-- from one stage of the run to another
pub data Leads {S : Type 0} (P : Program S) (z : Running S) : Running S → Type 0 where
  still : Leads P z z
  on : {x y : Running S} → Leads P z x → RunsOn P x y → Leads P z y

pub leads_trans : {S : Type 0} {P : Program S} {x y z : Running S} → Leads P x y → Leads P y z → Leads P x z
leads_trans h still = h
leads_trans h (on k r) = on (leads_trans h k) r

pub leads_run : {S : Type 0} (P : Program S) (main : Start S) (cells : List ℕ) {z y : Running S} → Sequential P main cells z → Leads P z y → Sequential P main cells y
leads_run P main cells h still = h
leads_run P main cells h (on k r) = runs_on (leads_run P main cells h k) r

pub other_path : (p q : List ℕ) → p ≢ q → same_path p q ≡ false
other_path p q ne = go (same_path p q) refl
  where
    go : (b : Bool) → same_path p q ≡ b → same_path p q ≡ false
    go true e = absurd (ne (same_path_is p q e))
    go false e = e

pub not_child : (k : ℕ) (p : List ℕ) → p ≢ k ∷ p
not_child k p e = let l : length p ≡ length (k ∷ p) = ap (λ (z : List ℕ). length z) e in omega arith

pub no_creation_path : {S : Type 0} (P : Program S) (b : Start S) (past : List ℕ) (o : Order S) → (child_start (stack_from P b past).base o).path ≡ stage_created P b past ∷ b.path
unfolding child_start stage_created
no_creation_path P b past o = ap (λ (z : List ℕ). (stack_from P b past).base.context.created ∷ z) (stack_ok P b past).path

-- an act of the run that is no fault can be made
pub record Next {S : Type 0} (P : Program S) (z : Running S) (t : Task S) : Type 0 where
  pub stage : Running S
  pub runs : RunsOn P z stage
  pub own : At stage.state z.active (after_answer (found_by (act_now P t.body) z.state.cells) t)
  pub made : (o : Order S) → act_now P t.body ≡ Created o false → At stage.state (created_now P t.body ∷ z.active) (new_task P t.body o)
  pub active : stage.active ≡ active_after P t z.active (found_by (act_now P t.body) z.state.cells) (act_now P t.body)
  -- the list of its tasks has the task as it stands now in front, and behind it a task that it created
  pub plain_tasks : ((o : Order S) → act_now P t.body ≢ Created o false) → stage.state.tasks ≡ after_answer (found_by (act_now P t.body) z.state.cells) t ∷ z.state.tasks
  pub grown_tasks : (o : Order S) → act_now P t.body ≡ Created o false → stage.state.tasks ≡ after_answer (found_by (act_now P t.body) z.state.cells) t ∷ new_task P t.body o ∷ z.state.tasks

module _ {S : Type 0} (P : Program S) (z : Running S) (t : Task S) (at_ : At z.state z.active t) (goes : IsHalt (act_now P t.body) → ⊥) where
  answer : ℕ
  answer = found_by (act_now P t.body) z.state.cells

  path_t : t.body.start.path ≡ z.active
  path_t = path_found z.state.tasks z.active t at_

  tasks_after : ((o : Order S) × (act_now P t.body ≡ Created o false)) ⊎ ((o : Order S) → act_now P t.body ≢ Created o false) → List (Task S)
  tasks_after (inl o) = after_answer (found_by (act_now P t.body) z.state.cells) t ∷ new_task P t.body o.0 ∷ z.state.tasks
  tasks_after (inr n) = after_answer (found_by (act_now P t.body) z.state.cells) t ∷ z.state.tasks

  stage_after : ((o : Order S) × (act_now P t.body ≡ Created o false)) ⊎ ((o : Order S) → act_now P t.body ≢ Created o false) → Running S
  stage_after c =
      record {
        state = record { cells = direct_cells (act_now P t.body) z.state.cells; tasks = tasks_after c };
        active = active_after P t z.active (found_by (act_now P t.body) z.state.cells) (act_now P t.body);
        printed = printed_after (act_now P t.body) z.printed;
      }

  own_first : (rest : List (Task S)) → find (after_answer (found_by (act_now P t.body) z.state.cells) t ∷ rest) z.active ≡ Some (after_answer (found_by (act_now P t.body) z.state.cells) t)
  unfolding find
  own_first rest =
      subst (λ (q : List ℕ). find (after_answer (found_by (act_now P t.body) z.state.cells) t ∷ rest) q ≡ Some (after_answer (found_by (act_now P t.body) z.state.cells) t)) path_t (rw (same_self t.body.start.path) refl)

  past_own : (rest : List (Task S)) (q : List ℕ) → q ≢ z.active → find (after_answer (found_by (act_now P t.body) z.state.cells) t ∷ rest) q ≡ find rest q
  unfolding find
  past_own rest q ne = rw (other_path t.body.start.path q (λ e. ne (sym e ∙ path_t))) refl

  new_path : (o : Order S) → (new_task P t.body o).body.start.path ≡ created_now P t.body ∷ z.active
  new_path o = no_creation_path P t.body.start t.body.found o ∙ ap (λ (q : List ℕ). created_now P t.body ∷ q) path_t

  new_first : (o : Order S) (rest : List (Task S)) → find (new_task P t.body o ∷ rest) (created_now P t.body ∷ z.active) ≡ Some (new_task P t.body o)
  unfolding find
  new_first o rest =
      subst (λ (q : List ℕ). find (new_task P t.body o ∷ rest) q ≡ Some (new_task P t.body o)) (new_path o) (rw (same_self (new_task P t.body o).body.start.path) refl)

  past_new : (o : Order S) (rest : List (Task S)) (q : List ℕ) → q ≢ created_now P t.body ∷ z.active → find (new_task P t.body o ∷ rest) q ≡ find rest q
  unfolding find
  past_new o rest q ne = rw (other_path (new_task P t.body o).body.start.path q (λ e. ne (sym e ∙ new_path o))) refl

  step_tasks : (c : ((o : Order S) × (act_now P t.body ≡ Created o false)) ⊎ ((o : Order S) → act_now P t.body ≢ Created o false)) → TaskStep P z.state z.active t (found_by (act_now P t.body) z.state.cells) (stage_after c).state
  unfolding stage_after tasks_after
  step_tasks (inl o) =
      record {
        own = own_first (new_task P t.body o.0 ∷ z.state.tasks);
        made = λ o2 a. subst (λ (x : Order S). find (after_answer (found_by (act_now P t.body) z.state.cells) t ∷ new_task P t.body o.0 ∷ z.state.tasks) (created_now P t.body ∷ z.active) ≡ Some (new_task P t.body x)) (one o2 a)
            (past_own (new_task P t.body o.0 ∷ z.state.tasks) (created_now P t.body ∷ z.active) (λ e. not_child (created_now P t.body) z.active (sym e)) ∙ new_first o.0 z.state.tasks);
        others = λ q ne f. past_own (new_task P t.body o.0 ∷ z.state.tasks) q ne ∙ past_new o.0 z.state.tasks q (f o.0 o.1);
      }
    where
      one : (o2 : Order S) → act_now P t.body ≡ Created o2 false → o.0 ≡ o2
      one o2 a = let e : Created o.0 false ≡ Created o2 false = sym o.1 ∙ a in cc
  step_tasks (inr n) =
      record { own = own_first z.state.tasks; made = λ o a. absurd (n o a); others = λ q ne f. past_own z.state.tasks q ne }

  plain_after : (c : ((o : Order S) × (act_now P t.body ≡ Created o false)) ⊎ ((o : Order S) → act_now P t.body ≢ Created o false)) → ((o : Order S) → act_now P t.body ≢ Created o false)
      → tasks_after c ≡ after_answer (found_by (act_now P t.body) z.state.cells) t ∷ z.state.tasks
  unfolding tasks_after
  plain_after (inl o) n = absurd (n o.0 o.1)
  plain_after (inr m) n = refl

  grown_after : (c : ((o : Order S) × (act_now P t.body ≡ Created o false)) ⊎ ((o : Order S) → act_now P t.body ≢ Created o false)) → (o : Order S) → act_now P t.body ≡ Created o false
      → tasks_after c ≡ after_answer (found_by (act_now P t.body) z.state.cells) t ∷ new_task P t.body o ∷ z.state.tasks
  unfolding tasks_after
  grown_after (inl p) o e = ap (λ (x : Order S). after_answer (found_by (act_now P t.body) z.state.cells) t ∷ new_task P t.body x ∷ z.state.tasks) (same_order p.0 p.1)
    where
      same_order : (q : Order S) → act_now P t.body ≡ Created q false → q ≡ o
      same_order q k = let c : Created q false ≡ Created o false = sym k ∙ e in cc
  grown_after (inr n) o e = absurd (n o e)

  pub next : Next P z t
  unfolding stage_after
  next =
      let c = is_creation (act_now P t.body) in
      let k = step_tasks c in
      record {
        stage = stage_after c;
        runs = record { task = t; at_ = at_; goes = goes; tasks = k; cells = refl; active = refl; printed = refl };
        own = k.own;
        made = k.made;
        active = refl;
        plain_tasks = plain_after c;
        grown_tasks = grown_after c;
      }

-- the tasks above the one that runs are as before
abbrev pub AboveSame : {S : Type 0} → Running S → Running S → Type 0
AboveSame z x = (q : List ℕ) (j : ℕ) (u : Task _) → IsSuffix (j ∷ q) z.active → At z.state q u → At x.state q u

pub above_next : {S : Type 0} (P : Program S) (z y : Running S) → RunsOn P z y → AboveSame z y
above_next P z y r q j u h k = r.tasks.others q (not_itself h) (λ o a e. too_long (created_now P r.task.body) e) ∙ k
  where
    too_long : (i : ℕ) → q ≡ i ∷ z.active → ⊥
    too_long i e = let l = suffix_length h in let m : length q ≡ length (i ∷ z.active) = ap (λ (w : List ℕ). length w) e in omega arith
