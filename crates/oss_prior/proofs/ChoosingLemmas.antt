-- The tasks that can step, in their order, and which of them is the next.
use Rattle.std.proofs.Common.{◌≡◌, ◌≢◌, ℕ, zero, suc, ◌<◌, ◌↔◌, ◌⊎◌, inl, inr, refl, sym, ap, ◌∙◌, subst, arith, List, [], ◌∷◌, ◌++◌, length, get_or, false, Option, Some, None}
use Rattle.std.specs.Prelude.{ℤ, ◌<ℤ◌, IsTrue, slice_get}
use Rattle.std.specs.BTreeSet.{BTreeSet}
use Rattle.std.specs.Ordering.{is_gt}
use Rattle.std.proofs.lemmas.Option.{slice_get_within}
use Rattle.oss_model.specs.Bodies.{Program, Start}
use Rattle.oss_model.specs.Machine.{State, Task, At}
use Rattle.oss_model.specs.Moves.{CanStep}
use Rattle.oss_model.specs.Order.{IsBefore, IsEarlierKey, IsIn, here, less, same, there, written}
use Rattle.oss_model.specs.declared.task_no.TaskNo.{TaskNo}
use Rattle.oss_code.specs.declared.code.CodeParts.{CodeParts}
use Rattle.oss_machine.specs.Frames.{CodeScript}
use Rattle.oss_machine.specs.Machines.{asks}
use Rattle.oss_body.specs.declared.body.Body.{Body as Known}
use Rattle.oss_body.specs.Relation.{IsBody}
use Rattle.oss_kept_tasks.specs.declared.held.Held.{Held}
use Rattle.oss_tree.specs.Tasks.{HasPoint, number}
use Rattle.oss_tree.proofs.ListLemmas.{some_is, which}
use Rattle.oss_enabled_moves.specs.Enabled.{MayStep}
use Rattle.oss_core.specs.Kept.{IsCore, IsRunning, Kept}
use Rattle.oss_core.specs.Turns.{KeepsTasks}
use Rattle.oss_core.proofs.CoreLemmas.{held_at}
use Rattle.oss_core.proofs.ExactLemmas.{step_tells, step_told}
use Rattle.oss_core.proofs.SteppersLemmas.{in_cases, in_either, in_front, in_rest}
use Rattle.oss_core.proofs.TreeFacts.{at_place, one_path, path_of_point, point_of_path, point_unique, sizes}
use Rattle.oss_wakeups.specs.Asides.{AreFree, CanAct, StoodAside}
use Rattle.oss_prior_laws.specs.Turns.{Candidate, GoesBefore, IsNext, Successor, is_candidate, is_successor, priority_of}
use Rattle.oss_prior.specs.declared.choosing.Before.{Before}
use Rattle.oss_prior.specs.declared.ready.Ready.{Ready}
use Rattle.oss_prior.specs.Choosing.{AddsSuccessor, AreAdded, AreReady, AreSuccessors, Has, HasWaited, IsChosen, IsPriority, IsTask, KeepsOthers, by_turn}
use Rattle.oss_prior.specs.Turning.{IsNextTask}
use Rattle.oss_prior.proofs.ReadyLemmas.{none_has, order_told, ready_is}
use Rattle.oss_prior.proofs.SteppingLemmas.{path_is, path_of, point_is}

earlier : (p q : List ℕ) → IsBefore (written p) (written q) → IsEarlierKey p q
earlier p q (less l) = absurd (omega (arith, l))
earlier p q (same h) = h

-- states and numbers
module _ {code : CodeParts} {main : Start CodeScript} {first : List ℕ} {k : Kept} {s : State CodeScript} (core : IsCore code main first k s) where
  -- a task of the state at the path of a number
  pub task_at : (v : ℕ) (p : List ℕ) → HasPoint k.tree.tasks v (written p) → (t : Task CodeScript) × At s p t
  task_at v p h =
      let n = path_of_point core v p h in
      let t = core.stands.there v n.one n.is in
      (t.0, subst (λ (q : List ℕ). At s q t.0) n.path t.1)

  -- the number of a task of the state
  pub number_at : (p : List ℕ) (t : Task CodeScript) → At s p t → (v : ℕ) × HasPoint k.tree.tasks v (written p)
  number_at p t h = let b = core.stands.back p t h in (b.0, point_of_path core b.0 p b.1)

  pub main_point : HasPoint k.tree.tasks 0 (written [])
  main_point = point_of_path core 0 [] core.sound.tasks.main

  -- a candidate may step, and who may step is a candidate
  pub candidate_told : (v : ℕ) (p : List ℕ) → HasPoint k.tree.tasks v (written p) → MayStep k.tasks k.tree.tasks k.seen v → Candidate (asks code) s p
  candidate_told v p h may =
      let t = step_told core v may in
      record { task = t.1; can = subst (λ (q : List ℕ). CanStep (asks code) s q t.1) (path_is t.2 h) t.3 }

  pub candidate_tells : (v : ℕ) (p : List ℕ) → HasPoint k.tree.tasks v (written p) → Candidate (asks code) s p → MayStep k.tasks k.tree.tasks k.seen v
  candidate_tells v p h c = step_tells core v p c.task h c.can

  -- its priority
  pub priority_is : (v : ℕ) (p : List ℕ) (t : Task CodeScript) (x : ℤ) → HasPoint k.tree.tasks v (written p) → At s p t → IsPriority k v x → x ≡ priority_of p t
  priority_is v [] t x h a is = is.main (point_unique core v 0 (written []) h main_point)
  priority_is v (j ∷ p) t x h a is =
      let l = slice_get_within k.tree.tasks v h.task h.at_ in
      let held = at_place k.tasks v (subst (λ (n : ℕ). v < n) (sizes core) l) in
      is.clause (λ e. none e) code t.body.start t.body.found held.0 held.1 (held_at code main first k s core v (j ∷ p) t h a held.0 held.1).body_is
    where
      none : v ≡ 0 → ⊥
      none e = let f : j ∷ p ≡ [] = path_is (subst (λ (n : ℕ). HasPoint k.tree.tasks n (written (j ∷ p))) e h) main_point in cc

-- a task has one point and one priority
pub task_unique : {code : CodeParts} {main : Start CodeScript} {first : List ℕ} {k : Kept} {s : State CodeScript} (core : IsCore code main first k s) (v : ℕ) (x y : Ready) → IsTask k v x → IsTask k v y → x ≡ y
task_unique {k = k} {s = s} core v x y a b =
    let p = path_of core v (slice_get_within k.tree.tasks v a.point.task a.point.at_) in
    let t = task_at core v p.0 p.1 in
    ready_is x y (priority_is core v p.0 t.0 x.priority p.1 t.1 a.priority ∙ sym (priority_is core v p.0 t.0 y.priority p.1 t.1 b.priority)) (point_is a.point b.point) (a.number ∙ sym b.number)

-- a task of which the body stays is kept
pub task_stays : {code : CodeParts} {main : Start CodeScript} {first : List ℕ} {k : Kept} {s : State CodeScript} (core : IsCore code main first k s) (new : Kept) (task v : ℕ) (one : Ready) → (v ≡ task → ⊥) → KeepsTasks k.tree.tasks new.tree.tasks → KeepsOthers task k new → IsTask k v one → IsTask new v one
task_stays {k = k} core new task v one n keeps others is = record { number = is.number; point = keeps.points v one.point is.point; priority = record { main = is.priority.main; clause = clause } }
  where
    held : (h : Held) × (slice_get k.tasks v ≡ Some h)
    held = at_place k.tasks v (subst (λ (m : ℕ). v < m) (sizes core) (slice_get_within k.tree.tasks v is.point.task is.point.at_))

    clause : (v ≡ 0 → ⊥) → (code : CodeParts) (start : Start CodeScript) (found : List ℕ) (after : Held) → slice_get new.tasks v ≡ Some after → IsBody code start found after.body → one.priority ≡ start.order.priority
    clause z code start found after e body =
        let o = others.body v held.0 n held.1 in
        let f : after.body ≡ held.0.body = ap (λ (h : Held). h.body) (some_is e o.1) ∙ o.2 in
        is.priority.clause z code start found held.0 held.1 (subst (λ (b : Known). IsBody code start found b) f body)

module _ {code : CodeParts} {main : Start CodeScript} {first : List ℕ} (old new : Kept) (s n : State CodeScript) (was : IsCore code main first old s) (core : IsCore code main first new n) (keeps : KeepsTasks old.tree.tasks new.tree.tasks) (task : TaskNo) (others : KeepsOthers task.0 old new)
    (stay : (v : ℕ) → StoodAside old task.0 v → CanAct new v) (before : Before) (count_is : before.count ≡ length old.tree.tasks) (task_is : before.task ≡ task) (first_queue queue later successors : BTreeSet Ready) (ready : AreReady old first_queue) (own : Ready) (own_is : IsTask old task.0 own)
    (able : IsTrue before.able ↔ Has first_queue own) (left : (x : Ready) → Has queue x ↔ (Has first_queue x × (x ≡ own → ⊥))) (free : List TaskNo) (are_free : AreFree new free) (all : (v : ℕ) → CanAct new v → IsIn (number v) free ⊎ StoodAside old task.0 v)
    (are : AreSuccessors new before queue free successors) (added : AreAdded new free queue later) where
  abbrev P : Program CodeScript
  P = asks code

  -- a task of the first queue with the number of the turn's task is that
  own_one : (x : Ready) → Has first_queue x → x.number ≡ task.0 → x ≡ own
  own_one x h e = task_unique was task.0 x own (subst (λ (v : ℕ). IsTask old v x) e (ready.only x h).0) own_is

  not_own : (x : Ready) (v : ℕ) → x.number ≡ v → (v ≡ task.0 → ⊥) → x ≡ own → ⊥
  not_own x v e ne f = ne (sym e ∙ (ap (λ (r : Ready). r.number) f ∙ own_is.number))

  -- the queue has those that can step now
  pub ready_now : AreReady new later
  ready_now = record { only = λ one h. only one (added.only one h); all = λ v can. every v (all v can) }
    where
      only : (one : Ready) → Has queue one ⊎ ((v : TaskNo) × IsIn v free × IsTask new v.0 one) → IsTask new one.number one × CanAct new one.number
      only one (inl h) =
          let l = (left one).0 h in
          let r = ready.only one l.0 in
          let ne : one.number ≡ task.0 → ⊥ = λ e. l.1 (own_one one l.0 e) in
          (task_stays was new task.0 one.number one ne keeps others r.0, stay one.number (r.1, ne))
      only one (inr (v, i, is)) = (subst (λ (m : ℕ). IsTask new m one) (sym is.number) is, subst (CanAct new) (sym is.number) (are_free v i))

      every : (v : ℕ) → IsIn (number v) free ⊎ StoodAside old task.0 v → (one : Ready) × Has later one × (one.number ≡ v)
      every v (inl i) = added.all (number v) i
      every v (inr a) =
          let r = ready.all v a.0 in
          (r.0, added.kept r.0 ((left r.0).1 (r.1, not_own r.0 v r.2 a.1)), r.2)

  -- who waited is a successor
  waited : (one : Ready) (v : ℕ) (q : List ℕ) → HasPoint new.tree.tasks v (written q) → HasPoint old.tree.tasks v (written q) → IsTask new v one → HasWaited before queue v one → Candidate P s q → ⊥
  waited one v q has had is w c = go (which v task.0)
    where
      r : (x : Ready) × Has first_queue x × (x.number ≡ v)
      r = ready.all v (candidate_tells was v q had c)

      go : (v ≡ task.0) ⊎ (v ≡ task.0 → ⊥) → ⊥
      go (inl e) = w.other (able.1 (subst (Has first_queue) (own_one r.0 r.1 (r.2 ∙ e)) r.1)) (e ∙ sym (ap (λ (t : TaskNo). t.0) task_is))
      go (inr ne) =
          let known = task_stays was new task.0 v r.0 ne keeps others (subst (λ (m : ℕ). IsTask old m r.0) r.2 (ready.only r.0 r.1).0) in
          w.apart (subst (Has queue) (task_unique core v r.0 one known is) ((left r.0).1 (r.1, not_own r.0 v r.2 ne)))

  told_at : (one : Ready) (v : TaskNo) (q : List ℕ) → IsIn v free → IsTask new v.0 one → HasWaited before queue v.0 one → HasPoint new.tree.tasks v.0 (written q) → Successor P s n q
  told_at one v q i is w has = record { candidate = candidate_told core v.0 q has (are_free v i); before = t.0; was = t.1; waited = waited one v.0 q has had is w }
    where
      p : (r : List ℕ) × HasPoint old.tree.tasks v.0 (written r)
      p = path_of was v.0 (subst (λ (m : ℕ). v.0 < m) count_is w.there_)

      had : HasPoint old.tree.tasks v.0 (written q)
      had = let e : p.0 ≡ q = path_is (keeps.points v.0 (written p.0) p.1) has in subst (λ (r : List ℕ). HasPoint old.tree.tasks v.0 (written r)) e p.1

      t : (u : Task CodeScript) × At s q u
      t = task_at was v.0 q had

  -- a task that was told of
  record IsTold (one : Ready) : Type 0 where
    pub v : TaskNo
    pub listed : IsIn v free
    pub is : IsTask new v.0 one
    pub waits : HasWaited before queue v.0 one

  told : (one : Ready) → Has successors one → IsTold one
  told one h = let x = are.only one h in record { v = x.0; listed = x.1; is = x.2; waits = x.3 }

  succeeds : (one : Ready) → Has successors one → (q : List ℕ) → HasPoint new.tree.tasks one.number (written q) → Successor P s n q
  succeeds one h q has = let x = told one h in told_at one x.v q x.listed x.is x.waits (subst (λ (m : ℕ). HasPoint new.tree.tasks m (written q)) x.is.number has)

  successor_is : (one : Ready) → Has successors one → IsTask new one.number one
  successor_is one h = let x = told one h in subst (λ (m : ℕ). IsTask new m one) (sym x.is.number) x.is

  -- and a successor waited
  listed : (q : List ℕ) (v : ℕ) → HasPoint new.tree.tasks v (written q) → Successor P s n q → (one : Ready) × Has successors one × (one.number ≡ v)
  listed q v has x = go (all v (candidate_tells core v q has x.candidate))
    where
      w : (u : ℕ) × HasPoint old.tree.tasks u (written q)
      w = number_at was q x.before x.was

      had : HasPoint old.tree.tasks v (written q)
      had = subst (λ (u : ℕ). HasPoint old.tree.tasks u (written q)) (point_unique core w.0 v (written q) (keeps.points w.0 (written q) w.1) has) w.1

      never : CanAct old v → ⊥
      never can = x.waited (candidate_told was v q had can)

      waits : (one : Ready) → IsTask new v one → HasWaited before queue v one
      waits one is = record {
        there_ = subst (λ (m : ℕ). v < m) (sym count_is) (slice_get_within old.tree.tasks v had.task had.at_);
        apart = λ h. never (subst (CanAct old) is.number (ready.only one ((left one).0 h).0).1);
        other = λ a e. never (subst (CanAct old) (own_is.number ∙ (sym (ap (λ (t : TaskNo). t.0) task_is) ∙ sym e)) (ready.only own (able.0 a)).1);
      }

      go : IsIn (number v) free ⊎ StoodAside old task.0 v → (one : Ready) × Has successors one × (one.number ≡ v)
      go (inl i) = are.all (number v) i waits
      go (inr a) = absurd (never a.0)

  -- the first of some goes before the others
  goes : (x y : Ready) (q r : List ℕ) → IsTask new x.number x → IsTask new y.number y → HasPoint new.tree.tasks x.number (written q) → HasPoint new.tree.tasks y.number (written r) → r ≢ q → is_gt (by_turn x y) ≡ false → GoesBefore n q r
  goes x y q r a b hq hr ne e t u at_q at_r = go (order_told x y e)
    where
      pq : x.priority ≡ priority_of q t
      pq = priority_is core x.number q t x.priority hq at_q a.priority

      pr : y.priority ≡ priority_of r u
      pr = priority_is core y.number r u y.priority hr at_r b.priority

      wq : x.point ≡ written q
      wq = point_is a.point hq

      wr : y.point ≡ written r
      wr = point_is b.point hr

      place : IsBefore x.point y.point ⊎ (x.point ≡ y.point) → IsEarlierKey q r
      place (inl l) = earlier q r (subst (λ (z : List ℕ). IsBefore (written q) z) wr (subst (λ (z : List ℕ). IsBefore z y.point) wq l))
      place (inr f) = absurd (ne (one_path r q (sym wr ∙ (sym f ∙ wq))))

      go : (y.priority <ℤ x.priority) ⊎ ((x.priority ≡ y.priority) × (IsBefore x.point y.point ⊎ (x.point ≡ y.point))) → (priority_of r u <ℤ priority_of q t) ⊎ ((priority_of q t ≡ priority_of r u) × IsEarlierKey q r)
      go (inl l) = inl (subst (λ (z : ℤ). priority_of r u <ℤ z) pq (subst (λ (z : ℤ). z <ℤ x.priority) pr l))
      go (inr (f, o)) = inr (sym pq ∙ (f ∙ pr), place o)

  -- its path
  path_at : (x : Ready) → IsTask new x.number x → (q : List ℕ) × HasPoint new.tree.tasks x.number (written q)
  path_at x a = path_of core x.number (slice_get_within new.tree.tasks x.number a.point.task a.point.at_)

  first_successor : (x : Ready) → Has successors x → ((y : Ready) → Has successors y → is_gt (by_turn x y) ≡ false) → (q : List ℕ) → HasPoint new.tree.tasks x.number (written q) → IsNext P s n q
  first_successor x h least q has = is_successor (succeeds x h q has, λ r sr ne. before_it r sr ne)
    where
      before_it : (r : List ℕ) → Successor P s n r → r ≢ q → GoesBefore n q r
      before_it r sr ne =
          let w = number_at core r sr.candidate.task sr.candidate.can.at_ in
          let y = listed r w.0 w.1 sr in
          goes x y.0 q r (successor_is x h) (successor_is y.0 y.1) has (subst (λ (m : ℕ). HasPoint new.tree.tasks m (written r)) (sym y.2) w.1) ne (least y.0 y.1)

  none_listed : ((x : Ready) → Has successors x → ⊥) → (r : List ℕ) → Successor P s n r → ⊥
  none_listed none r sr =
      let w = number_at core r sr.candidate.task sr.candidate.can.at_ in
      let y = listed r w.0 w.1 sr in
      none y.0 y.1

  first_candidate : ((x : Ready) → Has successors x → ⊥) → (x : Ready) → Has later x → ((y : Ready) → Has later y → is_gt (by_turn x y) ≡ false) → (q : List ℕ) → HasPoint new.tree.tasks x.number (written q) → IsNext P s n q
  first_candidate none x h least q has = is_candidate (none_listed none) (candidate_told core x.number q has (ready_now.only x h).1, λ r c ne. before_it r c ne)
    where
      before_it : (r : List ℕ) → Candidate P n r → r ≢ q → GoesBefore n q r
      before_it r c ne =
          let w = number_at core r c.task c.can.at_ in
          let y = ready_now.all w.0 (candidate_tells core w.0 r w.1 c) in
          goes x y.0 q r (ready_now.only x h).0 (ready_now.only y.0 y.1).0 has (subst (λ (m : ℕ). HasPoint new.tree.tasks m (written r)) (sym y.2) w.1) ne (least y.0 y.1)

  -- the one that is chosen is the next, and without one there is no candidate
  pub chosen_next : (next : Option TaskNo) → IsChosen successors later next → IsNextTask next P new.tree.tasks s n
  chosen_next None (a, b) = λ q c.
      let w = number_at core q c.task c.can.at_ in
      let y = ready_now.all w.0 (candidate_tells core w.0 q w.1 c) in
      b y.0 y.1
  chosen_next (Some t) (inl (x, e, h, least)) =
      let p = path_at x (successor_is x h) in
      (p.0, subst (λ (m : ℕ). HasPoint new.tree.tasks m (written p.0)) e p.1, first_successor x h least p.0 p.1)
  chosen_next (Some t) (inr (none, (x, e, h, least))) =
      let p = path_at x (ready_now.only x h).0 in
      (p.0, subst (λ (m : ℕ). HasPoint new.tree.tasks m (written p.0)) e p.1, first_candidate none x h least p.0 p.1)

-- a member of a list by its place
pub in_list : (list : List TaskNo) (i : ℕ) (d : TaskNo) → i < length list → IsIn (get_or list i d) list
in_list [] i d l = absurd (omega (arith, l))
in_list (x ∷ list) zero d l = here
in_list (x ∷ list) (suc i) d l = there (in_list list i d (omega (arith, l)))

-- the successors, one after the other

-- nobody as yet
pub no_successors : (k : Kept) (before : Before) (queue empty : BTreeSet Ready) → empty.keys ≡ [] → AreSuccessors k before queue [] empty
no_successors k before queue empty e = record { only = λ one h. absurd (none_has empty e one h); all = λ v i. elim i [ ] }

-- one more task is looked at
pub more_successors : (k : Kept) (before : Before) (queue : BTreeSet Ready) (free : List TaskNo) (task : TaskNo) (old new : BTreeSet Ready) → AreSuccessors k before queue free old → AddsSuccessor k before queue task old new → AreSuccessors k before queue (free ++ task ∷ []) new
more_successors k before queue free task old new are (one, is, inr (none, unchanged)) = subst (λ (s : BTreeSet Ready). AreSuccessors k before queue (free ++ task ∷ []) s) (sym unchanged) (record {
  only = λ x h. let y = are.only x h in (y.0, in_front free (task ∷ []) y.1, y.2, y.3);
  all = λ v i waits. every v (in_either free (task ∷ []) i) waits;
})
  where
    last : (v : TaskNo) → (v ≡ task) ⊎ IsIn v [] → ((x : Ready) → IsTask k v.0 x → HasWaited before queue v.0 x) → ⊥
    last v (inl e) waits = none (subst (λ (t : TaskNo). HasWaited before queue t.0 one) e (waits one (subst (λ (t : TaskNo). IsTask k t.0 one) (sym e) is)))
    last v (inr i) waits = elim i [ ]

    every : (v : TaskNo) → IsIn v free ⊎ IsIn v (task ∷ []) → ((x : Ready) → IsTask k v.0 x → HasWaited before queue v.0 x) → (x : Ready) × Has old x × (x.number ≡ v.0)
    every v (inl i) waits = are.all v i waits
    every v (inr i) waits = absurd (last v (in_cases i) waits)
more_successors k before queue free task old new are (one, is, inl (waits, added)) = record { only = λ x h. only x ((added x).0 h); all = λ v i w. every v (in_either free (task ∷ []) i) w }
  where
    only : (x : Ready) → (x ≡ one) ⊎ Has old x → (v : TaskNo) × IsIn v (free ++ task ∷ []) × IsTask k v.0 x × HasWaited before queue v.0 x
    only x (inl e) = (task, in_rest free (task ∷ []) here, subst (λ (y : Ready). IsTask k task.0 y) (sym e) is, subst (λ (y : Ready). HasWaited before queue task.0 y) (sym e) waits)
    only x (inr h) = let y = are.only x h in (y.0, in_front free (task ∷ []) y.1, y.2, y.3)

    last : (v : TaskNo) → (v ≡ task) ⊎ IsIn v [] → (x : Ready) × Has new x × (x.number ≡ v.0)
    last v (inl e) = (one, (added one).1 (inl refl), is.number ∙ sym (ap (λ (t : TaskNo). t.0) e))
    last v (inr i) = elim i [ ]

    every : (v : TaskNo) → IsIn v free ⊎ IsIn v (task ∷ []) → ((x : Ready) → IsTask k v.0 x → HasWaited before queue v.0 x) → (x : Ready) × Has new x × (x.number ≡ v.0)
    every v (inl i) w = let y = are.all v i w in (y.0, (added y.0).1 (inr y.1), y.2)
    every v (inr i) w = last v (in_cases i)

-- the queue, one after the other

pub none_added : (k : Kept) (queue : BTreeSet Ready) → AreAdded k [] queue queue
none_added k queue = record { only = λ one h. inl h; kept = λ one h. h; all = λ v i. elim i [ ] }

pub more_added : (k : Kept) (free : List TaskNo) (task : TaskNo) (one : Ready) (first old new : BTreeSet Ready) → AreAdded k free first old → IsTask k task.0 one → ((x : Ready) → Has new x ↔ ((x ≡ one) ⊎ Has old x)) → AreAdded k (free ++ task ∷ []) first new
more_added k free task one first old new are is added = record { only = λ x h. only x ((added x).0 h); kept = λ x h. (added x).1 (inr (are.kept x h)); all = λ v i. every v (in_either free (task ∷ []) i) }
  where
    before_ : (x : Ready) → Has first x ⊎ ((v : TaskNo) × IsIn v free × IsTask k v.0 x) → Has first x ⊎ ((v : TaskNo) × IsIn v (free ++ task ∷ []) × IsTask k v.0 x)
    before_ x (inl h) = inl h
    before_ x (inr (v, i, t)) = inr (v, in_front free (task ∷ []) i, t)

    only : (x : Ready) → (x ≡ one) ⊎ Has old x → Has first x ⊎ ((v : TaskNo) × IsIn v (free ++ task ∷ []) × IsTask k v.0 x)
    only x (inl e) = inr (task, in_rest free (task ∷ []) here, subst (λ (y : Ready). IsTask k task.0 y) (sym e) is)
    only x (inr h) = before_ x (are.only x h)

    last : (v : TaskNo) → (v ≡ task) ⊎ IsIn v [] → (x : Ready) × Has new x × (x.number ≡ v.0)
    last v (inl e) = (one, (added one).1 (inl refl), is.number ∙ sym (ap (λ (t : TaskNo). t.0) e))
    last v (inr i) = elim i [ ]

    every : (v : TaskNo) → IsIn v free ⊎ IsIn v (task ∷ []) → (x : Ready) × Has new x × (x.number ≡ v.0)
    every v (inl i) = let y = are.all v i in (y.0, (added y.0).1 (inr y.1), y.2)
    every v (inr i) = last v (in_cases i)

-- the first queue

-- a core without tasks, in which nobody can act
abbrev pub without_tasks : Kept → Kept
without_tasks k = record { tasks = []; tree = k.tree; seen = k.seen; cells = k.cells }

pub nobody_acts : (k : Kept) (v : ℕ) → CanAct (without_tasks k) v → ⊥
nobody_acts k v can = let e = can.is in cc

pub first_ready : (k from : Kept) → ((v : ℕ) → CanAct from v → ⊥) → (free : List TaskNo) (empty queue : BTreeSet Ready) → empty.keys ≡ [] → AreFree k free → ((v : ℕ) → CanAct k v → IsIn (number v) free ⊎ StoodAside from 0 v) → AreAdded k free empty queue → AreReady k queue
first_ready k from nobody free empty queue e are_free all added = record { only = λ one h. only one (added.only one h); all = λ v can. every v (all v can) }
  where
    only : (one : Ready) → Has empty one ⊎ ((v : TaskNo) × IsIn v free × IsTask k v.0 one) → IsTask k one.number one × CanAct k one.number
    only one (inl h) = absurd (none_has empty e one h)
    only one (inr (v, i, is)) = (subst (λ (m : ℕ). IsTask k m one) (sym is.number) is, subst (CanAct k) (sym is.number) (are_free v i))

    every : (v : ℕ) → IsIn (number v) free ⊎ StoodAside from 0 v → (one : Ready) × Has queue one × (one.number ≡ v)
    every v (inl i) = added.all (number v) i
    every v (inr a) = absurd (nobody v a.0)

-- those that can act are tasks of the core
pub free_there : {code : CodeParts} {k : Kept} → IsRunning code k → (free : List TaskNo) → AreFree k free → (v : TaskNo) → IsIn v free → v.0 < length k.tree.tasks
free_there {k = k} running free are v i = let m = are v i in subst (λ (n : ℕ). v.0 < n) (sym (sizes running.core)) (slice_get_within k.tasks v.0 m.held m.is)

pub free_held : (k : Kept) (free : List TaskNo) → AreFree k free → (v : TaskNo) → IsIn v free → v.0 < length k.tasks
free_held k free are v i = let m = are v i in slice_get_within k.tasks v.0 m.held m.is
