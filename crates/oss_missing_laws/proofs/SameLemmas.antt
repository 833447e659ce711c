-- Stages of a run that are the same but for the order in which they list their tasks, and what stands at them.
use Rattle.std.proofs.Common.{◌≡◌, refl, sym, subst, ap, ◌∙◌, ℕ, ◌⊎◌, inl, inr, Bool, true, false, List, [], ◌∷◌, ◌++◌}
use Rattle.std.specs.Prelude.{◌≢◌}
use Rattle.oss_model.specs.Rights.{Right}
use Rattle.oss_model.specs.Context.{right_of}
use Rattle.oss_model.specs.Bodies.{Body, Frame, IsHalt, Order, Program, Stack, Start, frame_act, stack_from, top_frame}
use Rattle.oss_model.specs.Bodies.Act.{Created}
use Rattle.oss_model.specs.Machine.{At, State, Task, find}
use Rattle.oss_model.specs.Moves.{TaskStep, act_now, created_now, found_by}
use Rattle.oss_model.specs.Sequence.{IsAtEnd, Running, RunsOn, active_after, direct_cells, printed_after}
use Rattle.oss_model.proofs.MoveLemmas.{is_creation, which_path}
use Rattle.oss_model.proofs.TerminationTheorem.{act_at}
use Rattle.oss_model.proofs.TreeLemmas.{some_same}
use Rattle.oss_free_tasks.specs.OpenTasks.{Stands, whole_task}
use Rattle.oss_lacks.specs.Walks.{IsActing}

module _ {S : Type 0} (P : Program S) where
  pub record IsSame (z y : Running S) : Type 0 where
    pub found : (p : List ℕ) → find z.state.tasks p ≡ find y.state.tasks p
    pub cells : z.state.cells ≡ y.state.cells
    pub active : z.active ≡ y.active
    pub printed : z.printed ≡ y.printed

  pub same_still : (z : Running S) → IsSame z z
  same_still z = record { found = λ p. refl; cells = refl; active = refl; printed = refl }

  pub same_back : (z y : Running S) → IsSame z y → IsSame y z
  same_back z y e = record { found = λ p. sym (e.found p); cells = sym e.cells; active = sym e.active; printed = sym e.printed }

  -- the same task runs
  pub one_task : (z y : Running S) (t u : Task S) → IsSame z y → At z.state z.active t → At y.state y.active u → t ≡ u
  one_task z y t u e at_t at_u = some_same t u (find z.state.tasks z.active) at_t (e.found z.active ∙ ap (λ (p : List ℕ). find y.state.tasks p) e.active ∙ at_u)

  -- the tasks behind one act
  tasks_one : (s a b : State S) (p : List ℕ) (t : Task S) (v : ℕ) → TaskStep P s p t v a → TaskStep P s p t v b → (q : List ℕ) → find a.tasks q ≡ find b.tasks q
  tasks_one s a b p t v x y q = own (which_path q p)
    where
      other : q ≢ p → ((o : Order S) × (act_now P t.body ≡ Created o false)) ⊎ ((o : Order S) → act_now P t.body ≢ Created o false) → find a.tasks q ≡ find b.tasks q
      other ne (inr none) = x.others q ne (λ o e. absurd (none o e)) ∙ sym (y.others q ne (λ o e. absurd (none o e)))
      other ne (inl o) = child (which_path q (created_now P t.body ∷ p))
        where
          child : (q ≡ created_now P t.body ∷ p) ⊎ (q ≢ created_now P t.body ∷ p) → find a.tasks q ≡ find b.tasks q
          child (inl e) = ap (λ (r : List ℕ). find a.tasks r) e ∙ x.made o.0 o.1 ∙ sym (y.made o.0 o.1) ∙ ap (λ (r : List ℕ). find b.tasks r) (sym e)
          child (inr k) = x.others q ne (λ u e. k) ∙ sym (y.others q ne (λ u e. k))

      own : (q ≡ p) ⊎ (q ≢ p) → find a.tasks q ≡ find b.tasks q
      own (inl e) = ap (λ (r : List ℕ). find a.tasks r) e ∙ x.own ∙ sym y.own ∙ ap (λ (r : List ℕ). find b.tasks r) (sym e)
      own (inr ne) = other ne (is_creation (act_now P t.body))

  pub on_one : (z a b : Running S) → RunsOn P z a → RunsOn P z b → IsSame a b
  on_one z a b x y =
      let e : y.task ≡ x.task = one_task z z y.task x.task (same_still z) y.at_ x.at_ in
      record {
        found = tasks_one z.state a.state b.state z.active x.task (found_by (act_now P x.task.body) z.state.cells) x.tasks
            (subst (λ (t : Task S). TaskStep P z.state z.active t (found_by (act_now P t.body) z.state.cells) b.state) e y.tasks);
        cells = x.cells ∙ sym (y.cells ∙ ap (λ (t : Task S). direct_cells (act_now P t.body) z.state.cells) e);
        active = x.active ∙ sym (y.active ∙ ap (λ (t : Task S). active_after P t z.active (found_by (act_now P t.body) z.state.cells) (act_now P t.body)) e);
        printed = x.printed ∙ sym (y.printed ∙ ap (λ (t : Task S). printed_after (act_now P t.body) z.printed) e);
      }

  -- what leads on from a stage leads on from one that is the same
  pub on_from : (z y a : Running S) → IsSame z y → RunsOn P y a → RunsOn P z a
  on_from z y a e r = record {
    task = r.task;
    at_ = e.found z.active ∙ ap (λ (p : List ℕ). find y.state.tasks p) e.active ∙ r.at_;
    goes = r.goes;
    tasks = record {
      own = ap (λ (p : List ℕ). find a.state.tasks p) e.active ∙ moved.own;
      made = λ o k. ap (λ (p : List ℕ). find a.state.tasks (created_now P r.task.body ∷ p)) e.active ∙ moved.made o k;
      others = λ q ne none. moved.others q (λ k. ne (k ∙ sym e.active)) (λ o k j. none o k (j ∙ ap (λ (p : List ℕ). created_now P r.task.body ∷ p) (sym e.active))) ∙ sym (e.found q);
    };
    cells = r.cells ∙ ap (λ (cells : List ℕ). direct_cells (act_now P r.task.body) cells) (sym e.cells);
    active = r.active ∙ ap (λ (p : List ℕ). active_after P r.task p (found_by (act_now P r.task.body) y.state.cells) (act_now P r.task.body)) (sym e.active)
        ∙ ap (λ (cells : List ℕ). active_after P r.task z.active (found_by (act_now P r.task.body) cells) (act_now P r.task.body)) (sym e.cells);
    printed = r.printed ∙ ap (λ (text : List ℕ). printed_after (act_now P r.task.body) text) (sym e.printed);
  }
    where
      moved : TaskStep P y.state y.active r.task (found_by (act_now P r.task.body) z.state.cells) a.state
      moved = subst (λ (cells : List ℕ). TaskStep P y.state y.active r.task (found_by (act_now P r.task.body) cells) a.state) (sym e.cells) r.tasks

  pub one_step : (z y a b : Running S) → IsSame z y → RunsOn P z a → RunsOn P y b → IsSame a b
  one_step z y a b e x r = on_one z a b x (on_from z y b e r)

  -- the first open task acts
  pub record IsActingBy (b : Body S) (f : Frame S) : Type 0 where
    pub slots : ℕ → Right
    pub inc : Bool
    pub act : act_now P b ≡ frame_act P slots inc f f.awaits

  pub top_is : (inner : List (Frame S)) (base f : Frame S) (older rest : List (Frame S)) → f ∷ rest ≡ inner ++ (base ∷ older) → top_frame base inner ≡ f
  top_is [] base f older rest e = cc
  top_is (g ∷ gs) base f older rest e = cc

  acting_of : (b : Body S) (base : Frame S) (inner older : List (Frame S)) (f : Frame S) (rest : List (Frame S)) → stack_from P b.start b.found ≡ record { base = base; inner = inner; ended = false } → f ∷ rest ≡ inner ++ (base ∷ older) → IsActingBy b f
  acting_of b base [] older f rest s e =
      let k : f ≡ base = cc in
      subst (λ (x : Frame S). IsActingBy b x) (sym k) (record { slots = right_of b.start.context; inc = false; act = act_at P b.start b.found base [] s })
  acting_of b base (g ∷ gs) older f rest s e =
      let k : f ≡ g = cc in
      subst (λ (x : Frame S). IsActingBy b x) (sym k) (record { slots = right_of b.start.context; inc = true; act = act_at P b.start b.found base (g ∷ gs) s })

  module _ (main : Start S) (first : List ℕ) (f : Frame S) (rest : List (Frame S)) (cells : List ℕ) (s : Stands P main first (f ∷ rest) cells) where
    pub acting : IsActingBy s.body f
    acting = acting_of s.body s.base s.inner s.older f rest s.stack s.parts

    -- it is the one of the walk
    pub acts_first : (z : Running S) (g : Frame S) → IsSame s.stage z → IsActing P z g → g ≡ f
    acts_first z g e a =
        let t : whole_task s.body ≡ a.task = one_task s.stage z (whole_task s.body) a.task e s.at_ a.at_ in
        sym a.acts ∙ ap (λ (x : Task S). top_frame (stack_from P x.body.start x.body.found).base (stack_from P x.body.start x.body.found).inner) (sym t)
        ∙ ap (λ (x : Stack S). top_frame x.base x.inner) s.stack ∙ top_is s.inner s.base f s.older rest s.parts

    -- the run goes on from there
    pub goes_first : (z y : Running S) → IsSame s.stage z → RunsOn P z y → IsHalt (act_now P s.body) → ⊥
    goes_first z y e r h =
        let t : whole_task s.body ≡ r.task = one_task s.stage z (whole_task s.body) r.task e s.at_ r.at_ in
        r.goes (subst (λ (x : Task S). IsHalt (act_now P x.body)) t h)

    pub act_at_end : (z : Running S) → IsSame s.stage z → (end : IsAtEnd P z) → act_now P end.task.body ≡ act_now P s.body
    act_at_end z e end = let t : whole_task s.body ≡ end.task = one_task s.stage z (whole_task s.body) end.task e s.at_ end.at_ in ap (λ (x : Task S). act_now P x.body) (sym t)

    -- the output behind an act
    pub prints : (y : Running S) → RunsOn P s.stage y → y.printed ≡ printed_after (act_now P s.body) s.stage.printed
    prints y r =
        let t : r.task ≡ whole_task s.body = one_task s.stage s.stage r.task (whole_task s.body) (same_still s.stage) r.at_ s.at_ in
        r.printed ∙ ap (λ (x : Task S). printed_after (act_now P x.body) s.stage.printed) t
