-- Acts that are alike find the same, leave the same memory, wait for the same, and make tasks that begin alike; and so do tasks that are alike.
use Rattle.std.proofs.Common.{◌≡◌, ℕ, refl, subst, ap, ◌∙◌, List, [], ◌∷◌, true, false}
use Rattle.oss_syntax.specs.declared.access.Op.{Op}
use Rattle.oss_model.specs.Context.{right_of}
use Rattle.oss_model.specs.Bodies.{Order, Program, Act, Frame, Start, Body, stage_act, stage_created, child_start, IsHalt}
use Rattle.oss_model.specs.Bodies.Act.{Created}
use Rattle.oss_model.specs.Machine.{Task}
use Rattle.oss_model.specs.Moves.{created_now, cells_after, found_by, slot_more, slot_of, after_answer, after_giving}
use Rattle.oss_same_acts_laws.specs.Alike.{AreActsAlike, both_tick, both_load, both_store, both_fold, both_create, both_include, both_await, both_wait, both_wait_on, both_release, both_print, both_end, both_fault, both_over, AreBodiesAlike, IsBisimulation, AreTasksAlike}

not_include : {S : Type 0} {o p : Order S} → Created o true ≡ Created p false → ⊥
not_include e = cc

one_order : {S : Type 0} {o p : Order S} → Created o false ≡ Created p false → o ≡ p
one_order e = cc

module _ {S T : Type 0} {R : Start S → Start T → Type 0} {f : Frame S} {g : Frame T} where
  pub found_alike : {a : Act S} {b : Act T} → AreActsAlike R f g a b → (cells : List ℕ) → found_by a cells ≡ found_by b cells
  found_alike both_tick cells = refl
  found_alike both_load cells = refl
  found_alike both_store cells = refl
  found_alike both_fold cells = refl
  found_alike (both_create r) cells = refl
  found_alike both_include cells = refl
  found_alike both_await cells = refl
  found_alike both_wait cells = refl
  found_alike both_wait_on cells = refl
  found_alike both_release cells = refl
  found_alike both_print cells = refl
  found_alike both_end cells = refl
  found_alike both_fault cells = refl
  found_alike both_over cells = refl

  pub cells_alike : {a : Act S} {b : Act T} → AreActsAlike R f g a b → (cells : List ℕ) → cells_after a cells ≡ cells_after b cells
  cells_alike both_tick cells = refl
  cells_alike both_load cells = refl
  cells_alike both_store cells = refl
  cells_alike (both_fold {slot = true}) cells = refl
  cells_alike (both_fold {slot = false}) cells = refl
  cells_alike (both_create r) cells = refl
  cells_alike both_include cells = refl
  cells_alike both_await cells = refl
  cells_alike both_wait cells = refl
  cells_alike both_wait_on cells = refl
  cells_alike both_release cells = refl
  cells_alike both_print cells = refl
  cells_alike both_end cells = refl
  cells_alike both_fault cells = refl
  cells_alike both_over cells = refl

  pub slot_more_alike : {a : Act S} {b : Act T} → AreActsAlike R f g a b → (c : ℕ) (own : Op) (held : ℕ) → slot_more a c own held ≡ slot_more b c own held
  slot_more_alike both_tick c own held = refl
  slot_more_alike both_load c own held = refl
  slot_more_alike both_store c own held = refl
  slot_more_alike (both_fold {slot = true}) c own held = refl
  slot_more_alike (both_fold {slot = false}) c own held = refl
  slot_more_alike (both_create r) c own held = refl
  slot_more_alike both_include c own held = refl
  slot_more_alike both_await c own held = refl
  slot_more_alike both_wait c own held = refl
  slot_more_alike both_wait_on c own held = refl
  slot_more_alike both_release c own held = refl
  slot_more_alike both_print c own held = refl
  slot_more_alike both_end c own held = refl
  slot_more_alike both_fault c own held = refl
  slot_more_alike both_over c own held = refl

  -- where the second body does not go on, neither does the first
  pub halt_back : {a : Act S} {b : Act T} → AreActsAlike R f g a b → IsHalt b → IsHalt a
  halt_back both_tick h = h
  halt_back both_load h = h
  halt_back both_store h = h
  halt_back both_fold h = h
  halt_back (both_create r) h = h
  halt_back both_include h = h
  halt_back both_await h = h
  halt_back both_wait h = h
  halt_back both_wait_on h = h
  halt_back both_release h = h
  halt_back both_print h = h
  halt_back both_end h = h
  halt_back both_fault h = h
  halt_back both_over h = h

  -- where the first makes a task, the second makes one that begins as the relation says
  pub creation_forth : {a : Act S} {b : Act T} → AreActsAlike R f g a b → (o : Order S) → a ≡ Created o false → (q : Order T) × (b ≡ Created q false) × R (child_start f o) (child_start g q)
  creation_forth both_tick o e = absurd (cc (e))
  creation_forth both_load o e = absurd (cc (e))
  creation_forth both_store o e = absurd (cc (e))
  creation_forth both_fold o e = absurd (cc (e))
  creation_forth (both_create {q = q} r) o e = (q, refl, subst (λ (x : Order S). R (child_start f x) (child_start g q)) (one_order e) r)
  creation_forth both_include o e = absurd (not_include e)
  creation_forth both_await o e = absurd (cc (e))
  creation_forth both_wait o e = absurd (cc (e))
  creation_forth both_wait_on o e = absurd (cc (e))
  creation_forth both_release o e = absurd (cc (e))
  creation_forth both_print o e = absurd (cc (e))
  creation_forth both_end o e = absurd (cc (e))
  creation_forth both_fault o e = absurd (cc (e))
  creation_forth both_over o e = absurd (cc (e))

-- bodies that stand alike have created as many tasks
pub bodies_created : {S T : Type 0} {P : Program S} {Q : Program T} {R : Start S → Start T → Type 0} {b : Body S} {c : Body T} → AreBodiesAlike P Q R b c → created_now P b ≡ created_now Q c
unfolding stage_created
bodies_created h = ap (λ x. x.created) h.context

module _ {S T : Type 0} (P : Program S) (Q : Program T) (R : Start S → Start T → Type 0) (is : IsBisimulation P Q R) where
  -- tasks that are alike stand alike
  pub now : {t : Task S} {u : Task T} → AreTasksAlike R t u → AreBodiesAlike P Q R t.body u.body
  now {t = t} {u = u} h = subst (λ (found : List ℕ). AreBodiesAlike P Q R t.body (record { start = u.body.start; found = found })) h.found ((is t.body.start u.body.start h.start).each t.body.found)

  -- their bodies have created as many tasks
  pub created_alike : {t : Task S} {u : Task T} → AreTasksAlike R t u → created_now P t.body ≡ created_now Q u.body
  created_alike h = bodies_created (now h)

  pub right_alike : {t : Task S} {u : Task T} → AreTasksAlike R t u → (c : ℕ) → right_of t.body.start.context c ≡ right_of u.body.start.context c
  right_alike {t = t} {u = u} h c = ap (λ x. right_of x c) (is t.body.start u.body.start h.start).context

  -- and fold the same into their slots
  slots_alike : {b : Start S} {e : Start T} → R b e → (c : ℕ) (op : Op) (found : List ℕ) → slot_of P b c op found ≡ slot_of Q e c op found
  unfolding slot_of
  slots_alike r c op [] = refl
  slots_alike {b = b} {e = e} r c op (v ∷ vs) =
      slot_more_alike ((is b e r).each vs).acts c op (slot_of P b c op vs) ∙ ap (λ held. slot_more (stage_act Q e vs) c op held) (slots_alike r c op vs)

  pub slot_alike : {t : Task S} {u : Task T} → AreTasksAlike R t u → (c : ℕ) (op : Op) → slot_of P t.body.start c op t.body.found ≡ slot_of Q u.body.start c op u.body.found
  slot_alike {t = t} {u = u} h c op = slots_alike h.start c op t.body.found ∙ ap (λ found. slot_of Q u.body.start c op found) h.found

module _ {S T : Type 0} {R : Start S → Start T → Type 0} {t : Task S} {u : Task T} (h : AreTasksAlike R t u) where
  -- they are alike after an answer, and after they have given up a cell
  pub answered_alike : (v w : ℕ) → v ≡ w → AreTasksAlike R (after_answer v t) (after_answer w u)
  answered_alike v w e = record { start = h.start; found = longer h.found; given = h.given }
    where
      longer : {xs ys : List ℕ} → xs ≡ ys → v ∷ xs ≡ w ∷ ys
      longer f = cc

  pub given_alike : (c : ℕ) → AreTasksAlike R (after_giving c t) (after_giving c u)
  given_alike c = record { start = h.start; found = h.found; given = ap (λ xs. c ∷ xs) h.given }
