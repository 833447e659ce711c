-- From states that are alike, moves of two programs whose bodies do the same acts lead to states that are alike.
use Rattle.std.proofs.Common.{◌≡◌, ◌≢◌, ℕ, ◌⊎◌, inl, inr, refl, sym, subst, ap, ◌∙◌, List, ◌∷◌, slice_index, slice_set, Bool, Some, Option, true, false}
use Rattle.oss_syntax.specs.declared.access.Op.{Op}
use Rattle.oss_model.specs.Bodies.{Order, Program, Start}
use Rattle.oss_model.specs.Bodies.Act.{Created}
use Rattle.oss_model.specs.Machine.{Task, State, find, same_path}
use Rattle.oss_model.specs.Moves.{act_now, created_now, cells_after, found_by, combine, joined_cells, after_answer, after_giving, new_task, TaskStep, CanStep, Stepped, CanLet, LetGo, CanJoin, Joined, GaveUp, Moved, steps, lets, joins, opening, Reached, opens, moves}
use Rattle.oss_model.proofs.MoveLemmas.{which_path, is_creation}
use Rattle.oss_same_acts_laws.specs.Alike.{IsBisimulation, AreTasksAlike, AreFoundAlike, IsAlike}
use Rattle.oss_same_acts_laws.specs.Claims.{StepsToo, LetsToo, JoinsToo, MovesToo, RunsToo}
use Rattle.oss_same_acts_laws.proofs.TurnLemmas.{acts_back, at_forth, found_both}
use Rattle.oss_same_acts_laws.proofs.ActLemmas.{found_alike, cells_alike, creation_forth, now, created_alike, slot_alike, answered_alike, given_alike}
use Rattle.oss_same_acts_laws.proofs.MayLemmas.{can_step_forth, can_let_forth, can_join_forth}
use Rattle.oss_same_acts_laws.proofs.MakeLemmas.{giving, gives, giving_cells, acting, acts, acting_cells}

opening_found : {S T : Type 0} (R : Start S → Start T → Type 0) (main : Start S) (other : Start T) (cells : List ℕ) → main.path ≡ other.path → R main other
    → (p : List ℕ) (b : Bool) → same_path main.path p ≡ b → AreFoundAlike R (find (opening main cells).tasks p) (find (opening other cells).tasks p)
unfolding find
opening_found R main other cells e r p b k = go b k (ap (λ (q : List ℕ). same_path q p) (sym e) ∙ k)
  where
    go : (b : Bool) → same_path main.path p ≡ b → same_path other.path p ≡ b → AreFoundAlike R (find (opening main cells).tasks p) (find (opening other cells).tasks p)
    go true k l = rw k (rw l (record { start = r; found = refl; given = refl }))
    go false k l = rw k (rw l tt)

-- where main begins alike, so does the machine
pub opening_alike : {S T : Type 0} (P : Program S) (Q : Program T) (R : Start S → Start T → Type 0) → IsBisimulation P Q R → (main : Start S) (other : Start T) (cells : List ℕ)
    → R main other → IsAlike R (opening main cells) (opening other cells)
opening_alike P Q R is main other cells r =
    record { cells = refl; tasks = λ p. opening_found R main other cells (is main other r).path r p (same_path main.path p) refl }

module _ {S T : Type 0} (P : Program S) (Q : Program T) (R : Start S → Start T → Type 0) (is : IsBisimulation P Q R) {s : State S} {n : State T} (same : IsAlike R s n) where
  -- acts of tasks that are alike leave tasks that are alike
  acted_alike : {x : State S} {y : State T} (p : List ℕ) {t : Task S} {u : Task T} (v w : ℕ) → v ≡ w → AreTasksAlike R t u → TaskStep P s p t v x → TaskStep Q n p u w y
      → (q : List ℕ) → AreFoundAlike R (find x.tasks q) (find y.tasks q)
  acted_alike {x = x} {y = y} p {t = t} {u = u} v w answer k a b q = by_path q (which_path q p) (is_creation (act_now P t.body))
    where
      made : created_now P t.body ∷ p ≡ created_now Q u.body ∷ p
      made = ap (λ (i : ℕ). i ∷ p) (created_alike P Q R is k)

      past : (q : List ℕ) → q ≢ p → ((o : Order S) → act_now P t.body ≡ Created o false → q ≢ created_now P t.body ∷ p) → AreFoundAlike R (find x.tasks q) (find y.tasks q)
      past q ne f =
          subst (λ (o : Option (Task S)). AreFoundAlike R o (find y.tasks q)) (sym (a.others q ne f))
          (subst (λ (o : Option (Task T)). AreFoundAlike R (find s.tasks q) o) (sym (b.others q ne other)) (same.tasks q))
        where
          other : (o : Order T) → act_now Q u.body ≡ Created o false → q ≢ created_now Q u.body ∷ p
          other o e g = let c = creation_forth (acts_back (now P Q R is k).acts) o e in f c.0 c.1 (g ∙ sym made)

      child : (o : Order S) → act_now P t.body ≡ Created o false → AreFoundAlike R (find x.tasks (created_now P t.body ∷ p)) (find y.tasks (created_now P t.body ∷ p))
      child o e =
          let c = creation_forth (now P Q R is k).acts o e in
          found_both (find x.tasks (created_now P t.body ∷ p)) (find y.tasks (created_now P t.body ∷ p)) (new_task P t.body o) (new_task Q u.body c.0)
          (record { start = c.2; found = refl; given = refl }) (a.made o e)
          (subst (λ (q : List ℕ). find y.tasks q ≡ Some (new_task Q u.body c.0)) (sym made) (b.made c.0 c.1))

      by_child : (q : List ℕ) (o : Order S) → act_now P t.body ≡ Created o false → q ≢ p → (q ≡ created_now P t.body ∷ p) ⊎ (q ≢ created_now P t.body ∷ p) → AreFoundAlike R (find x.tasks q) (find y.tasks q)
      by_child q o e ne (inl f) = subst (λ (r : List ℕ). AreFoundAlike R (find x.tasks r) (find y.tasks r)) (sym f) (child o e)
      by_child q o e ne (inr f) = past q ne (λ o2 e2. f)

      by_path : (q : List ℕ) → (q ≡ p) ⊎ (q ≢ p) → ((o : Order S) × (act_now P t.body ≡ Created o false)) ⊎ ((o : Order S) → act_now P t.body ≢ Created o false) → AreFoundAlike R (find x.tasks q) (find y.tasks q)
      by_path q (inl e) c =
          subst (λ (r : List ℕ). AreFoundAlike R (find x.tasks r) (find y.tasks r)) (sym e)
          (found_both (find x.tasks p) (find y.tasks p) (after_answer v t) (after_answer w u)
          (answered_alike k v w answer) a.own b.own)
      by_path q (inr ne) (inl o) = by_child q o.0 o.1 ne (which_path q (created_now P t.body ∷ p))
      by_path q (inr ne) (inr none) = past q ne (λ o e. absurd (none o e))

  pub answer_alike : {t : Task S} {u : Task T} → AreTasksAlike R t u → found_by (act_now P t.body) s.cells ≡ found_by (act_now Q u.body) n.cells
  answer_alike {t = t} k = ap (found_by (act_now P t.body)) same.cells ∙ found_alike (now P Q R is k).acts n.cells

  -- so they leave the same
  pub task_step_alike : {x : State S} {y : State T} (p : List ℕ) {t : Task S} {u : Task T} → AreTasksAlike R t u
      → TaskStep P s p t (found_by (act_now P t.body) s.cells) x → TaskStep Q n p u (found_by (act_now Q u.body) n.cells) y → (q : List ℕ) → AreFoundAlike R (find x.tasks q) (find y.tasks q)
  task_step_alike p {t = t} {u = u} k a b q = acted_alike p (found_by (act_now P t.body) s.cells) (found_by (act_now Q u.body) n.cells) (answer_alike k) k a b q

  pub stepped_alike : {x : State S} {y : State T} (p : List ℕ) {t : Task S} {u : Task T} → AreTasksAlike R t u → Stepped P s p t x → Stepped Q n p u y → IsAlike R x y
  stepped_alike p {t = t} k a b = record {
    cells = a.cells ∙ (ap (cells_after (act_now P t.body)) same.cells ∙ (cells_alike (now P Q R is k).acts n.cells ∙ sym b.cells));
    tasks = λ q. task_step_alike p k a.tasks b.tasks q;
  }

  -- and so do cells that they give up
  gave_alike : {x : State S} {y : State T} (p : List ℕ) (c : ℕ) {t : Task S} {u : Task T} → AreTasksAlike R t u → GaveUp s p c t x → GaveUp n p c u y → (q : List ℕ) → AreFoundAlike R (find x.tasks q) (find y.tasks q)
  gave_alike {x = x} {y = y} p c {t = t} {u = u} k a b q = by_path (which_path q p)
    where
      by_path : (q ≡ p) ⊎ (q ≢ p) → AreFoundAlike R (find x.tasks q) (find y.tasks q)
      by_path (inl e) =
          subst (λ (r : List ℕ). AreFoundAlike R (find x.tasks r) (find y.tasks r)) (sym e)
          (found_both (find x.tasks p) (find y.tasks p) (after_giving c t) (after_giving c u) (given_alike k c) a.own b.own)
      by_path (inr ne) =
          subst (λ (o : Option (Task S)). AreFoundAlike R o (find y.tasks q)) (sym (a.others q ne))
          (subst (λ (o : Option (Task T)). AreFoundAlike R (find s.tasks q) o) (sym (b.others q ne)) (same.tasks q))

  pub let_alike : {x : State S} {y : State T} (p : List ℕ) (c : ℕ) {t : Task S} {u : Task T} → AreTasksAlike R t u → LetGo s p c t x → LetGo n p c u y → IsAlike R x y
  let_alike p c k a b = record { cells = a.cells ∙ (same.cells ∙ sym b.cells); tasks = λ q. gave_alike p c k a.tasks b.tasks q }

  joined_same : (c : ℕ) (op : Op) {t : Task S} {u : Task T} → AreTasksAlike R t u → joined_cells P c op t s.cells ≡ joined_cells Q c op u n.cells
  joined_same c op {t = t} {u = u} k =
      ap (joined_cells P c op t) same.cells ∙ ap (λ (v : ℕ). slice_set n.cells c (combine op (slice_index n.cells c) v)) (slot_alike P Q R is k c op)

  pub join_alike : {x : State S} {y : State T} (p : List ℕ) (c : ℕ) (op : Op) {t : Task S} {u : Task T} → AreTasksAlike R t u → Joined P s p c op t x → Joined Q n p c op u y → IsAlike R x y
  join_alike p c op k a b = record { cells = a.cells ∙ (joined_same c op k ∙ sym b.cells); tasks = λ q. gave_alike p c k a.tasks b.tasks q }

  -- what the one program may do the other may do
  pub step_forth : {x : State S} (p : List ℕ) (t : Task S) → CanStep P s p t → Stepped P s p t x → StepsToo Q R p t x n
  step_forth p t can a =
      let k = at_forth same p t can.at_ in
      let cells = cells_after (act_now Q k.0.body) n.cells in
      let b : Stepped Q n p k.0 (acting n p k.0 k.1 Q cells) = record { cells = acting_cells n p k.0 k.1 Q cells; tasks = acts n p k.0 k.1 Q cells } in
      record {
        task = k.0;
        state = acting n p k.0 k.1 Q cells;
        tasks = k.2;
        can = can_step_forth P Q R is same p t k.0 k.1 k.2 can;
        stepped = b;
        alike = stepped_alike p k.2 a b;
      }

  pub let_forth : {x : State S} (p : List ℕ) (c : ℕ) (t : Task S) → CanLet P s p c t → LetGo s p c t x → LetsToo Q R p c t x n
  let_forth p c t can a =
      let k = at_forth same p t can.at_ in
      let b : LetGo n p c k.0 (giving n p k.0 k.1 c n.cells) = record { cells = giving_cells n p k.0 k.1 c n.cells; tasks = gives n p k.0 k.1 c n.cells } in
      record {
        task = k.0;
        state = giving n p k.0 k.1 c n.cells;
        tasks = k.2;
        can = can_let_forth P Q R is same p c t k.0 k.1 k.2 can;
        let_go = b;
        alike = let_alike p c k.2 a b;
      }

  pub join_forth : {x : State S} (p : List ℕ) (c : ℕ) (op : Op) (t : Task S) → CanJoin P s p c op t → Joined P s p c op t x → JoinsToo Q R p c op t x n
  join_forth p c op t can a =
      let k = at_forth same p t can.at_ in
      let cells = joined_cells Q c op k.0 n.cells in
      let b : Joined Q n p c op k.0 (giving n p k.0 k.1 c cells) = record { cells = giving_cells n p k.0 k.1 c cells; tasks = gives n p k.0 k.1 c cells } in
      record {
        task = k.0;
        state = giving n p k.0 k.1 c cells;
        tasks = k.2;
        can = can_join_forth P Q R is same p c op t k.0 k.1 k.2 can;
        joined = b;
        alike = join_alike p c op k.2 a b;
      }

  -- so each move of the one is a move of the other
  pub move_too : {x : State S} → Moved P s x → MovesToo Q R x n
  move_too (steps {p = p} {t = t} can a) = let k = step_forth p t can a in record { state = k.state; moved = steps k.can k.stepped; alike = k.alike }
  move_too (lets {p = p} {c = c} {t = t} can a) = let k = let_forth p c t can a in record { state = k.state; moved = lets k.can k.let_go; alike = k.alike }
  move_too (joins {p = p} {c = c} {op = op} {t = t} can a) = let k = join_forth p c op t can a in record { state = k.state; moved = joins k.can k.joined; alike = k.alike }

-- and each run of the one is a run of the other
pub run_too : {S T : Type 0} (P : Program S) (Q : Program T) (R : Start S → Start T → Type 0) → IsBisimulation P Q R → (main : Start S) (other : Start T) (cells : List ℕ) → R main other
    → {s : State S} → Reached P main cells s → RunsToo Q R other cells s
run_too P Q R is main other cells r opens = record { state = opening other cells; reached = opens; alike = opening_alike P Q R is main other cells r }
run_too P Q R is main other cells r (moves h a) =
    let k = run_too P Q R is main other cells r h in
    let m = move_too P Q R is k.alike a in
    record { state = m.state; reached = moves k.reached m.moved; alike = m.alike }
