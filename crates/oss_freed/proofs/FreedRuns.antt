-- Each task of the free run starts with every cell, so no clause stops it.
use Rattle.std.proofs.Common.{◌≡◌, ℕ, ◌<◌, ◌≤◌, refl, sym, subst, List, length, arith, Bool, false}
use Rattle.oss_syntax.specs.declared.access.Access.{Access}
use Rattle.oss_syntax.specs.declared.fault.FaultKind.{FaultKind}
use Rattle.oss_model.specs.Context.{right_of, child_context}
use Rattle.oss_model.specs.Bodies.{Order, Ask, Program, Act, Start, ask_of, stack_from, act_of, stage_act, child_start}
use Rattle.oss_model.specs.Bodies.Act.{Created}
use Rattle.oss_model.specs.Machine.{Task, State, At}
use Rattle.oss_model.specs.Moves.{act_now, new_task, found_by}
use Rattle.oss_model.specs.Sequence.{Running, Sequential, opens, runs_on}
use Rattle.oss_model.specs.Agreement.{MainStarts, main_start}
use Rattle.oss_model.specs.Answers.IsResult.{fails}
use Rattle.oss_model.specs.Marks.{AsksFor}
use Rattle.oss_model.specs.Termination.{IsBusy}
use Rattle.oss_model.proofs.MoveLemmas.{StepView, own, new, old, step_view}
use Rattle.oss_model.proofs.SequenceLemmas.{opening_at, stands}
use Rattle.oss_freed.specs.Freed.{all_cells, freed_ask, freed, acting, IsOfAnnotations, IsOwn}
use Rattle.oss_freed.specs.Claims.{FreedFaultsAreItsOwn, FreedRunsNeedNoClauses, FreedIsLively}
use Rattle.oss_freed.proofs.WholeContexts.{IsWhole, main_whole, child_whole}
use Rattle.oss_freed.proofs.FreedBodies.{IsFreed, stack_freed, stage_whole, stage_own}

main_starts : {S : Type 0} (order : Order S) (cells fuel : ℕ) → MainStarts (main_start order cells fuel)
main_starts order cells fuel = record { final = refl; created = refl; path = refl }

-- a creation names every cell
created_all : {S : Type 0} (P : Program S) (n : ℕ) (b : Start S) (past : List ℕ) (o : Order S) (i : Bool) → stage_act (freed n P) b past ≡ Created o i → o.clauses ≡ all_cells n
unfolding stage_act act_of
created_all P n b past o i e =
    let s = stack_from (freed n P) b past in
    let k : (o.clauses ≡ all_cells n) × (o.when ≡ false) = subst (λ (x : Act _). IsFreed n x) e (stack_freed P n (right_of b.context) s.base s.inner s.ended) in
    k.0

new_starts : {S : Type 0} (P : Program S) (n : ℕ) (t : Task S) (o : Order S) → n ≤ 1048576 → IsWhole n t.body.start.context → act_now (freed n P) t.body ≡ Created o false → IsWhole n (new_task (freed n P) t.body o).body.start.context
unfolding child_start
new_starts P n t o h w e =
    let s = stack_from (freed n P) t.body.start t.body.found in
    let b = (stage_whole P n t.body.start t.body.found h w).first in
    subst (λ (xs : List Access). IsWhole n (child_context s.base.context xs o.last)) (sym (created_all P n t.body.start t.body.found o false e)) (child_whole n s.base.context o.last h b)

step_starts : {S : Type 0} (P : Program S) (n : ℕ) (s : State S) (p : List ℕ) (t : Task S) (v : ℕ) → n ≤ 1048576 → At s p t → ((q : List ℕ) (u : Task S) → At s q u → IsWhole n u.body.start.context) → (q : List ℕ) (u : Task S) → StepView (freed n P) s p t v q u → IsWhole n u.body.start.context
step_starts P n s p t v h at_ all q u own = all p t at_
step_starts P n s p t v h at_ all q u (new o e) = new_starts P n t o h (all p t at_) e
step_starts P n s p t v h at_ all q u (old ne k) = all q u k

-- each task of each stage of the run
pub run_starts : {S : Type 0} (P : Program S) (order : Order S) (cells : List ℕ) (fuel : ℕ) (z : Running S) → length cells ≤ 1048576 → Sequential (freed (length cells) P) (main_start order (length cells) fuel) cells z → (q : List ℕ) (u : Task S) → At z.state q u → IsWhole (length cells) u.body.start.context
run_starts P order cells fuel z h opens q u k =
    let e = (opening_at (main_start order (length cells) fuel) cells q u refl k).1 in
    subst (λ (x : Task _). IsWhole (length cells) x.body.start.context) (sym e) (main_whole (length cells) fuel)
run_starts P order cells fuel z h (runs_on {z = w} run r) q u k =
    let F = freed (length cells) P in
    let st = stands F (main_start order (length cells) fuel) cells (main_starts order (length cells) fuel) w run in
    step_starts P (length cells) w.state w.active r.task (found_by (act_now F r.task.body) w.state.cells) h r.at_ (run_starts P order cells fuel w h run) q u
    (step_view F (main_start order (length cells) fuel) w.state z.state w.active r.task (found_by (act_now F r.task.body) w.state.cells) st.made r.at_ r.goes r.tasks q u k)

pub freed_faults_are_its_own : (S : Type 0) → FreedFaultsAreItsOwn S
freed_faults_are_its_own S P order cells fuel z p t kind line key h run k e a =
    stage_own P (length cells) t.body.start t.body.found kind line key h (run_starts P order cells fuel z h run p t k) e a

-- a program that keeps to its cells, and asks for no such fault, has none of its own
no_own : {S : Type 0} (n : ℕ) (kind : FaultKind) (q : Ask S) → ((c : ℕ) → AsksFor q c → c < n) → ((other : FaultKind) → q ≡ Ask.Fails other → IsOfAnnotations other → ⊥) → IsOfAnnotations kind → IsOwn n kind q → ⊥
no_own n kind Ask.Begin t l a o = o
no_own n kind Ask.Tick t l a o = o
no_own n kind (Ask.Read c) t l a o = let k = t c refl in omega arith
no_own n kind (Ask.Write c v) t l a o = let k = t c refl in omega arith
no_own n kind (Ask.Fold c op v) t l a o = let k = t c refl in omega arith
no_own n kind (Ask.Create order) t l a o = o
no_own n kind Ask.Await t l a o = o
no_own n kind Ask.Wait t l a o = o
no_own n kind (Ask.WaitOn named) t l a o = o
no_own n kind (Ask.Release clauses) t l a o = o
no_own n kind (Ask.Print text) t l a o = o
no_own n kind Ask.End t l a o = o
no_own n kind (Ask.Fails other) t l a o = l other refl (subst IsOfAnnotations (sym o) a)

pub freed_runs_need_no_clauses : (S : Type 0) → FreedRunsNeedNoClauses S
freed_runs_need_no_clauses S P order cells fuel kind line output h t l (fails {z = z} {key = key} run stop e) a =
    let f = acting (freed (length cells) P) stop.task.body in
    no_own (length cells) kind (ask_of P f).ask (t f.script f.answers) (l f.script f.answers) a
    (freed_faults_are_its_own S P order cells fuel z z.active stop.task kind line key h run stop.at_ e a)

pub busy_still : {S : Type 0} (n : ℕ) (q : Ask S) → IsBusy (freed_ask n q) → IsBusy q
busy_still n Ask.Begin h = tt
busy_still n Ask.Tick h = h
busy_still n (Ask.Read c) h = tt
busy_still n (Ask.Write c v) h = tt
busy_still n (Ask.Fold c op v) h = tt
busy_still n (Ask.Create order) h = tt
busy_still n Ask.Await h = tt
busy_still n Ask.Wait h = tt
busy_still n (Ask.WaitOn named) h = tt
busy_still n (Ask.Release clauses) h = tt
busy_still n (Ask.Print text) h = tt
busy_still n Ask.End h = h
busy_still n (Ask.Fails kind) h = h

unfoldable pub freed_is_lively : (S : Type 0) → FreedIsLively S
freed_is_lively S P n live = record {
  bound = live.bound;
  rank = live.rank;
  below = live.below;
  falls = λ script answers answer b. live.falls script answers answer (busy_still n (P script answers).ask b);
}
