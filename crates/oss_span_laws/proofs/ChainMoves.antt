-- Two programs whose bodies do the same acts have the same events in states that are alike, and the same of them wait for the same.
use Rattle.std.proofs.Common.{◌≡◌, ◌∙◌, ◌≤◌, ℕ, suc, ◌<◌, Bool, true, false, List, [], ◌∷◌, length, reverse, Option, Some, None, refl, sym, ap, subst}
use Rattle.oss_syntax.specs.declared.access.Access.{Access}
use Rattle.oss_syntax.specs.declared.access.Op.{Op}
use Rattle.oss_syntax.specs.declared.access.Mode.TheVariants.{Read, Write, Fold}
use Rattle.oss_model.specs.Bodies.{Act, Frame, Order, Program, Start, stack_from, stage_act, stage_created}
use Rattle.oss_model.specs.Bodies.Act.{Awaited, Created, Releases, Ticked, Waited, WaitedOn}
use Rattle.oss_model.specs.Forest.{InRun, IsRead}
use Rattle.oss_model.specs.Machine.{At, HasAccess, IsChild, IsEarlier, State, Task, accesses, find, mode_in}
use Rattle.oss_model.specs.Moves.{act_now, is_ended}
use Rattle.oss_model.specs.Order.{IsIn, IsSuffix}
use Rattle.oss_model.specs.Rights.{Holds, Right}
use Rattle.oss_same_acts_laws.specs.Alike.{AreActsAlike, AreFoundAlike, AreTasksAlike, IsAlike, IsBisimulation, both_await, both_create, both_end, both_fault, both_fold, both_include, both_load, both_over, both_print, both_release, both_store, both_tick, both_wait, both_wait_on, turned}
use Rattle.oss_same_acts_laws.proofs.ActLemmas.{bodies_created, creation_forth, now, right_alike}
use Rattle.oss_same_acts_laws.proofs.MayLemmas.{access_forth, child_forth, earlier_forth, ended_forth, mode_alike}
use Rattle.oss_same_acts_laws.proofs.TurnLemmas.{alike_back, at_forth, bisimulation_back}
use Rattle.oss_chain_laws.specs.Chains.{IsChain, IsTrail, more, none, one, ticks_in}
use Rattle.oss_chain_laws.specs.Happenings.{Acting, Does, EndsWith, Frees, Giving, Happening, IsEvent, IsHappening, IsLeft, KeepsCell, StartsWith, WaitsFor, awaits, begins, ends, ends_below, follows, joins, last_act, last_cell, reads, released, tick_of, waits, waits_on, writes}
use Rattle.oss_chain_laws.specs.Named.{IsAtOrBelow, JoinNames, ReadNames, WriteNames, below, itself, join_above_fold, join_above_write, join_here, read_above, read_here, write_above, write_here}
use Rattle.oss_chain_laws.specs.Runs.{IsEventChain, IsLongest, answers_before, ticks_at, ticks_of_act}

-- Acts that are alike

module _ {S T : Type 0} {R : Start S → Start T → Type 0} {f : Frame S} {g : Frame T} where
  wait_forth : {a : Act S} {b : Act T} → AreActsAlike R f g a b → a ≡ Waited → b ≡ Waited
  wait_forth both_wait e = refl
  wait_forth both_tick e = cc
  wait_forth both_load e = cc
  wait_forth both_store e = cc
  wait_forth both_fold e = cc
  wait_forth (both_create r) e = cc
  wait_forth both_include e = cc
  wait_forth both_await e = cc
  wait_forth both_wait_on e = cc
  wait_forth both_release e = cc
  wait_forth both_print e = cc
  wait_forth both_end e = cc
  wait_forth both_fault e = cc
  wait_forth both_over e = cc

  await_forth : {a : Act S} {b : Act T} → AreActsAlike R f g a b → a ≡ Awaited → b ≡ Awaited
  await_forth both_await e = refl
  await_forth both_wait e = cc
  await_forth both_tick e = cc
  await_forth both_load e = cc
  await_forth both_store e = cc
  await_forth both_fold e = cc
  await_forth (both_create r) e = cc
  await_forth both_include e = cc
  await_forth both_wait_on e = cc
  await_forth both_release e = cc
  await_forth both_print e = cc
  await_forth both_end e = cc
  await_forth both_fault e = cc
  await_forth both_over e = cc

  wait_on_forth : {a : Act S} {b : Act T} (named : List Access) → AreActsAlike R f g a b → a ≡ WaitedOn named → b ≡ WaitedOn named
  wait_on_forth named both_wait_on e = cc
  wait_on_forth named both_await e = cc
  wait_on_forth named both_wait e = cc
  wait_on_forth named both_tick e = cc
  wait_on_forth named both_load e = cc
  wait_on_forth named both_store e = cc
  wait_on_forth named both_fold e = cc
  wait_on_forth named (both_create r) e = cc
  wait_on_forth named both_include e = cc
  wait_on_forth named both_release e = cc
  wait_on_forth named both_print e = cc
  wait_on_forth named both_end e = cc
  wait_on_forth named both_fault e = cc
  wait_on_forth named both_over e = cc

  release_forth : {a : Act S} {b : Act T} (clauses : List Access) → AreActsAlike R f g a b → a ≡ Releases clauses false → b ≡ Releases clauses false
  release_forth clauses both_release e = cc
  release_forth clauses both_await e = cc
  release_forth clauses both_wait e = cc
  release_forth clauses both_tick e = cc
  release_forth clauses both_load e = cc
  release_forth clauses both_store e = cc
  release_forth clauses both_fold e = cc
  release_forth clauses (both_create r) e = cc
  release_forth clauses both_include e = cc
  release_forth clauses both_wait_on e = cc
  release_forth clauses both_print e = cc
  release_forth clauses both_end e = cc
  release_forth clauses both_fault e = cc
  release_forth clauses both_over e = cc

  pub tick_alike : {a : Act S} {b : Act T} → AreActsAlike R f g a b → tick_of a ≡ tick_of b
  tick_alike both_tick = refl
  tick_alike both_load = refl
  tick_alike both_store = refl
  tick_alike both_fold = refl
  tick_alike (both_create r) = refl
  tick_alike both_include = refl
  tick_alike both_await = refl
  tick_alike both_wait = refl
  tick_alike both_wait_on = refl
  tick_alike both_release = refl
  tick_alike both_print = refl
  tick_alike both_end = refl
  tick_alike both_fault = refl
  tick_alike both_over = refl

-- The act of the other task, which is alike.
record DoesToo {S T : Type 0} (Q : Program T) (R : Start S → Start T → Type 0) (n : State T) (p : List ℕ) (number created : ℕ) (a : Act S) : Type 0 where
  act : Act T
  frame : Frame S
  other : Frame T
  alike : AreActsAlike R frame other a act
  does : Does Q n p number created act

module _ {S T : Type 0} (P : Program S) (Q : Program T) (R : Start S → Start T → Type 0) (is : IsBisimulation P Q R) {s : State S} {n : State T} (same : IsAlike R s n) where
  does_too : {p : List ℕ} {i k : ℕ} {a : Act S} → Does P s p i k a → DoesToo Q R n p i k a
  does_too {p = p} {i = i} {k = k} {a = a} h =
      let w = at_forth same p h.task h.at_ in
      let each = (is h.task.body.start w.0.body.start w.2.start).each h.past in
      record {
        act = stage_act Q w.0.body.start h.past;
        frame = (stack_from P h.task.body.start h.past).base;
        other = (stack_from Q w.0.body.start h.past).base;
        alike = subst (λ (x : Act S). AreActsAlike R (stack_from P h.task.body.start h.past).base (stack_from Q w.0.body.start h.past).base x (stage_act Q w.0.body.start h.past)) h.act_is each.acts;
        does = record {
          task = w.0;
          at_ = w.1;
          past = h.past;
          answer = h.answer;
          done_ = subst (λ (found : List ℕ). IsSuffix (h.answer ∷ h.past) found) w.2.found h.done_;
          number_is = h.number_is;
          created_is = sym (bodies_created each) ∙ h.created_is;
          act_is = refl;
        };
      }

  -- the same act, where nothing is created
  does_the_same : {p : List ℕ} {i k : ℕ} (a : Act S) (b : Act T) → ((x : Act T) (f : Frame S) (g : Frame T) → AreActsAlike R f g a x → x ≡ b) → Does P s p i k a → Does Q n p i k b
  does_the_same {p = p} {i = i} {k = k} a b is_b h =
      let d = does_too h in
      subst (λ (x : Act T). Does Q n p i k x) (is_b d.act d.frame d.other d.alike) d.does

  pub starts_forth : {p : List ℕ} {c : ℕ} {right : Right} → StartsWith s p c right → StartsWith n p c right
  starts_forth {p = p} {c = c} h =
      let w = at_forth same p h.task h.at_ in
      record { task = w.0; at_ = w.1; right_is = sym (right_alike P Q R is w.2 c) ∙ h.right_is }

  ends_forth : {p : List ℕ} {i : ℕ} → EndsWith P s p i → EndsWith Q n p i
  ends_forth {p = p} h =
      let w = at_forth same p h.task h.at_ in
      record { task = w.0; at_ = w.1; ended = ended_forth P Q R is same w.2 h.ended; number_is = sym (ap length w.2.found) ∙ h.number_is }

  left_forth : {q : List ℕ} {f : Happening} → IsLeft P s q f → IsLeft Q n q f
  left_forth (last_act e) = last_act (ends_forth e)
  left_forth {q = q} (last_cell {c = c} h) = last_cell (access_forth P Q R is same c q h)

  happening_forth : (e : Happening) → IsHappening P s e → IsHappening Q n e
  happening_forth (Acting p i) (k, a, d) = let w = does_too d in (k, w.act, w.does)
  happening_forth (Giving [] c) h = h
  happening_forth (Giving (k ∷ p) c) h = access_forth P Q R is same c (k ∷ p) h

  event_forth : (e : Happening) → IsEvent P s e → IsEvent Q n e
  event_forth e h = record { happens = happening_forth e h.happens; numbered = h.numbered }

  -- the modes of accesses are the same
  modes : (c : ℕ) (p : List ℕ) → mode_in (find s.tasks p) c ≡ mode_in (find n.tasks p) c
  modes c p = mode_alike P Q R is same (find s.tasks p) (find n.tasks p) c (same.tasks p)

  below_forth : (c : ℕ) {u w : List ℕ} → IsAtOrBelow (accesses s c) u w → IsAtOrBelow (accesses n c) u w
  below_forth c itself = itself
  below_forth c (below {u = u} {v = v} h b) = below (child_forth P Q R is same c u v h) (below_forth c b)

  write_forth : (c : ℕ) {v w : List ℕ} → WriteNames (accesses s c) v w → WriteNames (accesses n c) v w
  write_forth c (write_here {u = u} {v = v} h b) = write_here (earlier_forth P Q R is same c u v h) (below_forth c b)
  write_forth c (write_above {p = p} {v = v} h b) = write_above (child_forth P Q R is same c p v h) (write_forth c b)

  read_forth : (c : ℕ) {v w : List ℕ} → ReadNames (accesses s c) v w → ReadNames (accesses n c) v w
  read_forth c (read_here {u = u} {v = v} h not b) = read_here (earlier_forth P Q R is same c u v h) (λ r. not (subst IsRead (sym (modes c u)) r)) (below_forth c b)
  read_forth c (read_above {p = p} {v = v} h b) = read_above (child_forth P Q R is same c p v h) (read_forth c b)

module _ {S T : Type 0} (P : Program S) (Q : Program T) (R : Start S → Start T → Type 0) (is : IsBisimulation P Q R) {s : State S} {n : State T} (same : IsAlike R s n) where
  is_back : IsBisimulation Q P (turned R)
  is_back = bisimulation_back is

  same_back : IsAlike (turned R) n s
  same_back = alike_back same

  run_back : (c : ℕ) (op : Op) (u v : List ℕ) → InRun (accesses n c) op u v → InRun (accesses s c) op u v
  run_back c op u v h = record {
    first = modes P Q R is same c u ∙ h.first;
    between = λ w e f. modes P Q R is same c w ∙ h.between w (earlier_forth P Q R is same c u w e) (earlier_forth P Q R is same c w v f);
  }

  join_forth : (c : ℕ) (op : Op) {v w : List ℕ} → JoinNames (accesses s c) op v w → JoinNames (accesses n c) op v w
  join_forth c op (join_here {u = u} {v = v} h not b) = join_here (earlier_forth P Q R is same c u v h) (λ r. not (run_back c op u v r)) (below_forth P Q R is same c b)
  join_forth c op (join_above_fold {p = p} {v = v} h m b) = join_above_fold (child_forth P Q R is same c p v h) (sym (modes P Q R is same c p) ∙ m) (join_forth c op b)
  join_forth c op (join_above_write {p = p} {v = v} h m b) = join_above_write (child_forth P Q R is same c p v h) (sym (modes P Q R is same c p) ∙ m) (write_forth P Q R is same c b)

  frees_forth : {p : List ℕ} {c i : ℕ} → Frees P s p c i → Frees Q n p c i
  frees_forth {p = p} {c = c} {i = i} h = record {
    created = h.created;
    clauses = h.clauses;
    does = does_the_same P Q R is same (Releases h.clauses false) (Releases h.clauses false) (λ x f g a. release_forth h.clauses a refl) h.does;
    named = h.named;
    plain = λ op m. h.plain op (starts_forth Q P (turned R) is_back same_back m);
  }

module _ {S T : Type 0} (P : Program S) (Q : Program T) (R : Start S → Start T → Type 0) (is : IsBisimulation P Q R) {s : State S} {n : State T} (same : IsAlike R s n) where
  keeps_forth : {p : List ℕ} {c : ℕ} {wait : Bool} → KeepsCell P s p c wait → KeepsCell Q n p c wait
  keeps_forth {p = p} {c = c} h =
      let w = at_forth same p h.task h.at_ in
      record {
        task = w.0;
        at_ = w.1;
        access = access_forth P Q R is same c p h.access;
        kept = λ i f. h.kept i (frees_forth Q P (turned R) (bisimulation_back is) (alike_back same) f);
        wait_is = sym (is h.task.body.start w.0.body.start w.2.start).wait ∙ h.wait_is;
      }

  creation_too : {p : List ℕ} {i k : ℕ} {o : Order S} → Does P s p i k (Created o false) → (q : Order T) × Does Q n p i k (Created q false)
  creation_too {p = p} {i = i} {k = k} {o = o} h =
      let d = does_too P Q R is same h in
      let c = creation_forth d.alike o refl in
      (c.0, subst (λ (x : Act T). Does Q n p i k x) c.1 d.does)

  -- What waits for an event in one state waits for it in the other.
  pub waits_forth : {e f : Happening} → WaitsFor P s e f → WaitsFor Q n e f
  waits_forth (follows d) = follows (does_too P Q R is same d).does
  waits_forth (begins d e) = begins (creation_too d).1 (does_too P Q R is same e).does
  waits_forth (reads {c = c} d r h) = reads (does_too P Q R is same d).does (starts_forth P Q R is same r) (read_forth P Q R is same c h)
  waits_forth (writes {c = c} d r h) = writes (does_too P Q R is same d).does (starts_forth P Q R is same r) (write_forth P Q R is same c h)
  waits_forth (waits d l i h) = waits (does_the_same P Q R is same Waited Waited (λ x f g a. wait_forth a refl) d) l i (left_forth P Q R is same h)
  waits_forth (awaits d i h) = awaits (does_the_same P Q R is same Awaited Awaited (λ x f g a. await_forth a refl) d) i (left_forth P Q R is same h)
  waits_forth (waits_on {p = p} {i = i} {c = c} {named = named} d l m a h) =
      waits_on (does_the_same P Q R is same (WaitedOn named) (WaitedOn named) (λ x f g b. wait_on_forth named b refl) d) l m (access_forth P Q R is same c (i ∷ p) a) (below_forth P Q R is same c h)
  waits_forth (released {p = p} {j = j} {c = c} a f) = released (access_forth P Q R is same c (j ∷ p) a) (frees_forth P Q R is same f)
  waits_forth (ends k e) = ends (keeps_forth k) (ends_forth P Q R is same e)
  waits_forth (ends_below k i h) = ends_below (keeps_forth k) i (left_forth P Q R is same h)
  waits_forth (joins {c = c} {op = op} r h) = joins (starts_forth P Q R is same r) (join_forth P Q R is same c op h)

  trail_forth : {es : List Happening} → IsTrail (WaitsFor P s) es → IsTrail (WaitsFor Q n) es
  trail_forth none = none
  trail_forth one = one
  trail_forth (more w h) = more (waits_forth w) (trail_forth h)

  pub chain_forth : (es : List Happening) → IsEventChain P s es → IsEventChain Q n es
  chain_forth es h = record { happen = λ e i. event_forth P Q R is same e (h.happen e i); waits = trail_forth h.waits }

  -- Events have as many ticks in both.
  act_ticks : (o : Option (Task S)) (q : Option (Task T)) (i : ℕ) → AreFoundAlike R o q → ticks_of_act P o i ≡ ticks_of_act Q q i
  act_ticks None None i h = refl
  act_ticks None (Some u) i h = absurd h
  act_ticks (Some t) None i h = absurd h
  act_ticks (Some t) (Some u) i h =
      tick_alike ((is t.body.start u.body.start h.start).each (answers_before i t.body.found)).acts
      ∙ ap (λ (found : List ℕ). tick_of (stage_act Q u.body.start (answers_before i found))) h.found

  event_ticks : (e : Happening) → ticks_at P s e ≡ ticks_at Q n e
  event_ticks (Acting p i) = act_ticks (find s.tasks p) (find n.tasks p) i (same.tasks p)
  event_ticks (Giving p c) = refl

  pub ticks_alike : (es : List Happening) → ticks_in (ticks_at P s) es ≡ ticks_in (ticks_at Q n) es
  ticks_alike es = λ i. ticks_in (λ (e : Happening). event_ticks e i) es

-- A longest chain of the one is one of the other.
pub longest_forth : {S T : Type 0} (P : Program S) (Q : Program T) (R : Start S → Start T → Type 0) → IsBisimulation P Q R → {s : State S} {n : State T} → IsAlike R s n → (es : List Happening)
    → IsLongest P s es → IsLongest Q n es
longest_forth P Q R is {s = s} {n = n} same es h = record {
  is_chain = chain_forth P Q R is same es h.is_chain;
  most = λ other c.
      subst (λ (k : ℕ). ticks_in (ticks_at Q n) other ≤ k) (ticks_alike P Q R is same es)
      (subst (λ (k : ℕ). k ≤ ticks_in (ticks_at P s) es) (ticks_alike P Q R is same other) (h.most other (chain_forth Q P (turned R) (bisimulation_back is) (alike_back same) other c)));
}
