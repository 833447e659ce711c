-- A program does the same acts as itself; and if a second does the same as a first, and a third as the second, the third does the same as the first.
use Rattle.std.proofs.Common.{◌≡◌, refl, subst, ◌∙◌, Option, Some, None, true, false}
use Rattle.oss_model.specs.Bodies.{Program, Act, Frame, Start, Body}
use Rattle.oss_model.specs.Bodies.Act.{Ticked, Load, Store, Folded, Created, Awaited, Waited, WaitedOn, Releases, Printed, Ended, Fault, Over}
use Rattle.oss_model.specs.Machine.{Task, State, find}
use Rattle.oss_same_acts_laws.specs.Alike.{AreActsAlike, both_tick, both_load, both_store, both_fold, both_create, both_include, both_await, both_wait, both_wait_on, both_release, both_print, both_end, both_fault, both_over, AreBodiesAlike, AreStartsAlike, IsBisimulation, AreTasksAlike, AreFoundAlike, IsAlike}

-- the beginnings are one
abbrev pub is_one : {S : Type 0} → Start S → Start S → Type 0
is_one b c = b ≡ c

-- a beginning between the two goes together with each of them
abbrev pub through : {S T U : Type 0} → (Start S → Start T → Type 0) → (Start T → Start U → Type 0) → Start S → Start U → Type 0
through R V b d = (c : Start _) × R b c × V c d

acts_itself : {S : Type 0} {f : Frame S} (a : Act S) → AreActsAlike is_one f f a a
acts_itself Ticked = both_tick
acts_itself (Load c) = both_load
acts_itself (Store c v) = both_store
acts_itself (Folded c op v slot) = both_fold
acts_itself (Created o false) = both_create refl
acts_itself (Created o true) = both_include
acts_itself Awaited = both_await
acts_itself Waited = both_wait
acts_itself (WaitedOn named) = both_wait_on
acts_itself (Releases clauses included) = both_release
acts_itself (Printed key text) = both_print
acts_itself Ended = both_end
acts_itself (Fault kind line key) = both_fault
acts_itself Over = both_over

bodies_itself : {S : Type 0} (P : Program S) (b : Body S) → AreBodiesAlike P P is_one b b
bodies_itself P b = record { ended = refl; context = refl; key = refl; acts = acts_itself _ }

-- a program does the same acts as itself
pub bisimulation_itself : {S : Type 0} (P : Program S) → IsBisimulation P P is_one
bisimulation_itself P b c e =
    subst (λ (x : Start _). AreStartsAlike P P is_one b x) e (record { path = refl; context = refl; wait = refl; each = λ found. bodies_itself P (record { start = b; found = found }) })

module _ {S T U : Type 0} {R : Start S → Start T → Type 0} {V : Start T → Start U → Type 0} where
  acts_together : {f : Frame S} {g : Frame T} {h : Frame U} {a : Act S} {b : Act T} {c : Act U} → AreActsAlike R f g a b → AreActsAlike V g h b c → AreActsAlike (through R V) f h a c
  acts_together both_tick both_tick = both_tick
  acts_together both_load both_load = both_load
  acts_together both_store both_store = both_store
  acts_together both_fold both_fold = both_fold
  acts_together (both_create r) (both_create v) = both_create (_, r, v)
  acts_together both_include both_include = both_include
  acts_together both_await both_await = both_await
  acts_together both_wait both_wait = both_wait
  acts_together both_wait_on both_wait_on = both_wait_on
  acts_together both_release both_release = both_release
  acts_together both_print both_print = both_print
  acts_together both_end both_end = both_end
  acts_together both_fault both_fault = both_fault
  acts_together both_over both_over = both_over

  bodies_together : {P : Program S} {Q : Program T} {W : Program U} {b : Body S} {c : Body T} {d : Body U} → AreBodiesAlike P Q R b c → AreBodiesAlike Q W V c d → AreBodiesAlike P W (through R V) b d
  bodies_together h k = record { ended = h.ended ∙ k.ended; context = h.context ∙ k.context; key = h.key ∙ k.key; acts = acts_together h.acts k.acts }

  -- programs that do the same acts as one between them do the same
  pub bisimulations_together : {P : Program S} {Q : Program T} {W : Program U} → IsBisimulation P Q R → IsBisimulation Q W V → IsBisimulation P W (through R V)
  bisimulations_together is are b d r =
      let h = is b r.0 r.1 in
      let k = are r.0 d r.2 in
      record { path = h.path ∙ k.path; context = h.context ∙ k.context; wait = h.wait ∙ k.wait; each = λ found. bodies_together (h.each found) (k.each found) }

  tasks_together : {t : Task S} {u : Task T} {w : Task U} → AreTasksAlike R t u → AreTasksAlike V u w → AreTasksAlike (through R V) t w
  tasks_together {u = u} h k = record { start = (u.body.start, h.start, k.start); found = h.found ∙ k.found; given = h.given ∙ k.given }

module _ {S T U : Type 0} (R : Start S → Start T → Type 0) (V : Start T → Start U → Type 0) where
  found_together : (a : Option (Task S)) (b : Option (Task T)) (c : Option (Task U)) → AreFoundAlike R a b → AreFoundAlike V b c → AreFoundAlike (through R V) a c
  found_together None None None h k = tt
  found_together None None (Some w) h k = absurd k
  found_together None (Some u) c h k = absurd h
  found_together (Some t) None c h k = absurd h
  found_together (Some t) (Some u) None h k = absurd k
  found_together (Some t) (Some u) (Some w) h k = tasks_together h k

-- and so it is with states
pub alike_together : {S T U : Type 0} {R : Start S → Start T → Type 0} {V : Start T → Start U → Type 0} {s : State S} {n : State T} {m : State U} → IsAlike R s n → IsAlike V n m → IsAlike (through R V) s m
alike_together {R = R} {V = V} {s = s} {n = n} {m = m} h k =
    record { cells = h.cells ∙ k.cells; tasks = λ p. found_together R V (find s.tasks p) (find n.tasks p) (find m.tasks p) (h.tasks p) (k.tasks p) }
