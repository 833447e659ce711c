-- Each act that may be done leads to some state, and so does a cell that is given up.
use Rattle.std.proofs.Common.{◌≡◌, ◌≢◌, ℕ, ◌⊎◌, inl, inr, refl, sym, subst, ap, ◌∙◌, List, ◌∷◌, Some, false}
use Rattle.oss_model.specs.Bodies.{Order, Program}
use Rattle.oss_model.specs.Bodies.Act.{Created}
use Rattle.oss_model.specs.Machine.{Task, State, At, find}
use Rattle.oss_model.specs.Moves.{act_now, created_now, found_by, after_answer, after_giving, new_task, TaskStep, GaveUp}
use Rattle.oss_model.proofs.TreeLemmas.{path_found}
use Rattle.oss_model.proofs.MoveLemmas.{is_creation}
use Rattle.oss_model.proofs.RunLemmas.{other_path, not_child, no_creation_path}
use Rattle.oss_model.proofs.Exclusive.{same_self}

-- a task that is put in front is the one with its path
first_found : {S : Type 0} (t : Task S) (rest : List (Task S)) (p : List ℕ) → t.body.start.path ≡ p → find (t ∷ rest) p ≡ Some t
unfolding find
first_found t rest p e = subst (λ (q : List ℕ). find (t ∷ rest) q ≡ Some t) e (rw (same_self t.body.start.path) refl)

-- and all others are as before
past_first : {S : Type 0} (t : Task S) (rest : List (Task S)) (p q : List ℕ) → t.body.start.path ≡ p → q ≢ p → find (t ∷ rest) q ≡ find rest q
unfolding find
past_first t rest p q e ne = rw (other_path t.body.start.path q (λ f. ne (sym f ∙ e))) refl

module _ {S : Type 0} (s : State S) (p : List ℕ) (t : Task S) (at_ : At s p t) where
  path_t : t.body.start.path ≡ p
  path_t = path_found s.tasks p t at_

  -- the state with this memory in which the task has given up the cell
  pub giving : (c : ℕ) → List ℕ → State S
  giving c cells = record { cells = cells; tasks = after_giving c t ∷ s.tasks }

  pub gives : (c : ℕ) (cells : List ℕ) → GaveUp s p c t (giving c cells)
  unfolding giving
  gives c cells = record {
    own = first_found (after_giving c t) s.tasks p path_t;
    others = λ q ne. past_first (after_giving c t) s.tasks p q path_t ne;
  }

  pub giving_cells : (c : ℕ) (cells : List ℕ) → (giving c cells).cells ≡ cells
  unfolding giving
  giving_cells c cells = refl

  module _ (P : Program S) where
    answer : ℕ
    answer = found_by (act_now P t.body) s.cells

    -- the tasks behind the act
    tasks_after : ((o : Order S) × (act_now P t.body ≡ Created o false)) ⊎ ((o : Order S) → act_now P t.body ≢ Created o false) → List (Task S)
    tasks_after (inl o) = after_answer answer t ∷ new_task P t.body o.0 ∷ s.tasks
    tasks_after (inr none) = after_answer answer t ∷ s.tasks

    -- the state with this memory behind it
    pub acting : List ℕ → State S
    acting cells = record { cells = cells; tasks = tasks_after (is_creation (act_now P t.body)) }

    new_path : (o : Order S) → (new_task P t.body o).body.start.path ≡ created_now P t.body ∷ p
    new_path o = no_creation_path P t.body.start t.body.found o ∙ ap (λ (q : List ℕ). created_now P t.body ∷ q) path_t

    one_order : (o q : Order S) → act_now P t.body ≡ Created o false → act_now P t.body ≡ Created q false → o ≡ q
    one_order o q e f = let g : Created o false ≡ Created q false = sym e ∙ f in cc

    tasks_step : (c : ((o : Order S) × (act_now P t.body ≡ Created o false)) ⊎ ((o : Order S) → act_now P t.body ≢ Created o false)) (cells : List ℕ)
        → TaskStep P s p t answer (record { cells = cells; tasks = tasks_after c })
    unfolding tasks_after
    tasks_step (inl o) cells =
        let rest = new_task P t.body o.0 ∷ s.tasks in
        record {
          own = first_found (after_answer answer t) rest p path_t;
          made = λ q a. subst (λ (x : Order S). find (after_answer answer t ∷ rest) (created_now P t.body ∷ p) ≡ Some (new_task P t.body x)) (one_order o.0 q o.1 a)
              (past_first (after_answer answer t) rest p (created_now P t.body ∷ p) path_t (λ e. not_child (created_now P t.body) p (sym e))
              ∙ first_found (new_task P t.body o.0) s.tasks (created_now P t.body ∷ p) (new_path o.0));
          others = λ q ne f. past_first (after_answer answer t) rest p q path_t ne
              ∙ past_first (new_task P t.body o.0) s.tasks (created_now P t.body ∷ p) q (new_path o.0) (f o.0 o.1);
        }
    tasks_step (inr none) cells = record {
      own = first_found (after_answer answer t) s.tasks p path_t;
      made = λ o a. absurd (none o a);
      others = λ q ne f. past_first (after_answer answer t) s.tasks p q path_t ne;
    }

    pub acts : (cells : List ℕ) → TaskStep P s p t (found_by (act_now P t.body) s.cells) (acting cells)
    unfolding acting answer
    acts cells = tasks_step (is_creation (act_now P t.body)) cells

    pub acting_cells : (cells : List ℕ) → (acting cells).cells ≡ cells
    unfolding acting
    acting_cells cells = refl
