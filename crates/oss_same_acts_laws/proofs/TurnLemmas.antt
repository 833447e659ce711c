-- What is alike from the one side is alike from the other; and what stands at one path of two states that are alike.
use Rattle.std.proofs.Common.{◌≡◌, ℕ, refl, sym, subst, ◌∙◌, List, Option, Some, None}
use Rattle.oss_model.specs.Bodies.{Program, Act, Frame, Start, Body}
use Rattle.oss_model.specs.Machine.{Task, State, At, find}
use Rattle.oss_same_acts_laws.specs.Alike.{AreActsAlike, both_tick, both_load, both_store, both_fold, both_create, both_include, both_await, both_wait, both_wait_on, both_release, both_print, both_end, both_fault, both_over, AreBodiesAlike, IsBisimulation, turned, AreTasksAlike, AreFoundAlike, IsAlike}

module _ {S T : Type 0} {R : Start S → Start T → Type 0} where
  pub acts_back : {f : Frame S} {g : Frame T} {a : Act S} {b : Act T} → AreActsAlike R f g a b → AreActsAlike (turned R) g f b a
  acts_back both_tick = both_tick
  acts_back both_load = both_load
  acts_back both_store = both_store
  acts_back both_fold = both_fold
  acts_back (both_create r) = both_create r
  acts_back both_include = both_include
  acts_back both_await = both_await
  acts_back both_wait = both_wait
  acts_back both_wait_on = both_wait_on
  acts_back both_release = both_release
  acts_back both_print = both_print
  acts_back both_end = both_end
  acts_back both_fault = both_fault
  acts_back both_over = both_over

  pub bodies_back : {P : Program S} {Q : Program T} {b : Body S} {c : Body T} → AreBodiesAlike P Q R b c → AreBodiesAlike Q P (turned R) c b
  bodies_back h = record { ended = sym h.ended; context = sym h.context; key = sym h.key; acts = acts_back h.acts }

  -- the programs do the same acts from the other side too
  pub bisimulation_back : {P : Program S} {Q : Program T} → IsBisimulation P Q R → IsBisimulation Q P (turned R)
  bisimulation_back is c b r =
      let h = is b c r in
      record { path = sym h.path; context = sym h.context; wait = sym h.wait; each = λ found. bodies_back (h.each found) }

  pub tasks_back : {t : Task S} {u : Task T} → AreTasksAlike R t u → AreTasksAlike (turned R) u t
  tasks_back h = record { start = h.start; found = sym h.found; given = sym h.given }

some_one : {A : Type 0} {a b : A} → Some a ≡ Some b → a ≡ b
some_one e = cc

not_none : {A : Type 0} {a : A} → None ≡ Some a → ⊥
not_none e = cc

module _ {S T : Type 0} (R : Start S → Start T → Type 0) where
  found_back : (o : Option (Task S)) (q : Option (Task T)) → AreFoundAlike R o q → AreFoundAlike (turned R) q o
  found_back None None h = tt
  found_back None (Some u) h = absurd h
  found_back (Some t) None h = absurd h
  found_back (Some t) (Some u) h = tasks_back h

  partner : (o : Option (Task S)) (q : Option (Task T)) (t : Task S) → AreFoundAlike R o q → o ≡ Some t → (u : Task T) × (q ≡ Some u) × AreTasksAlike R t u
  partner None q t h e = absurd (not_none e)
  partner (Some v) None t h e = absurd h
  partner (Some v) (Some u) t h e = (u, refl, subst (λ (x : Task S). AreTasksAlike R x u) (some_one e) h)

  both_there : (o : Option (Task S)) (q : Option (Task T)) (t : Task S) (u : Task T) → AreFoundAlike R o q → o ≡ Some t → q ≡ Some u → AreTasksAlike R t u
  both_there o q t u h e f = let k = partner o q t h e in subst (λ (x : Task T). AreTasksAlike R t x) (some_one (sym k.1 ∙ f)) k.2

module _ {S T : Type 0} {R : Start S → Start T → Type 0} where
  -- and so are the states
  pub alike_back : {s : State S} {n : State T} → IsAlike R s n → IsAlike (turned R) n s
  alike_back {s = s} {n = n} h = record { cells = sym h.cells; tasks = λ p. found_back R (find s.tasks p) (find n.tasks p) (h.tasks p) }

  -- the task at the same path of the other state
  pub at_forth : {s : State S} {n : State T} → IsAlike R s n → (p : List ℕ) (t : Task S) → At s p t → (u : Task T) × At n p u × AreTasksAlike R t u
  at_forth {s = s} {n = n} same p t h = partner R (find s.tasks p) (find n.tasks p) t (same.tasks p) h

  -- tasks at one path are alike
  pub at_both : {s : State S} {n : State T} → IsAlike R s n → (p : List ℕ) (t : Task S) (u : Task T) → At s p t → At n p u → AreTasksAlike R t u
  at_both {s = s} {n = n} same p t u h k = both_there R (find s.tasks p) (find n.tasks p) t u (same.tasks p) h k

  -- and where tasks are alike, what was found is
  pub found_both : (o : Option (Task S)) (q : Option (Task T)) (t : Task S) (u : Task T) → AreTasksAlike R t u → o ≡ Some t → q ≡ Some u → AreFoundAlike R o q
  found_both o q t u h e f = subst (λ (x : Option (Task S)). AreFoundAlike R x q) (sym e) (subst (λ (y : Option (Task T)). AreFoundAlike R (Some t) y) (sym f) h)

-- the task at the same path of the first state
pub at_back : {S T : Type 0} {R : Start S → Start T → Type 0} {s : State S} {n : State T} → IsAlike R s n → (p : List ℕ) (u : Task T) → At n p u → (t : Task S) × At s p t × AreTasksAlike R t u
at_back same p u h = let k = at_forth (alike_back same) p u h in (k.0, k.1, tasks_back k.2)
