-- What a core keeps stands for the state after each move.
use Rattle.std.proofs.Common.{◌≡◌, ◌≢◌, ℕ, ◌<◌, ◌≤◌, refl, sym, subst, ap, ◌∙◌, List, [], ◌∷◌, ◌++◌, ◌⊎◌, inl, inr, Bool, true, false, arith, Some, ◌↔◌, length}
use Rattle.std.specs.Prelude.{slice_get}
use Rattle.oss_syntax.specs.declared.access.Op.{Op}
use Rattle.oss_model.specs.Order.{IsIn, IsSuffix, whole, longer}
use Rattle.oss_model.specs.Bodies.{Order, Program, Act, Body}
use Rattle.oss_model.specs.Bodies.Act.{Created}
use Rattle.oss_model.specs.Machine.{Task, State, IsComplete}
use Rattle.oss_model.specs.Moves.{act_now, created_now, found_by, cells_after, after_answer, new_task, joined_cells, CanStep, Stepped, CanLet, LetGo, CanJoin, Joined}
use Rattle.oss_model.proofs.StageLemmas.{created_grows}
use Rattle.oss_deps.specs.declared.opened.Open.{Open}
use Rattle.oss_core.specs.Standing.{IsNumbered, IsLinked, AreTasks, StandsFor}
use Rattle.oss_core.specs.Moving.{answer_to, body_after, IsAdvanced, AreSound, IsCreated, StepMade}
use Rattle.oss_core.specs.Telling.{IsEnabled, MayLet, MayJoin}
use Rattle.oss_core.proofs.EntryLemmas.{in_added}
use Rattle.oss_core.proofs.KeepLemmas.{some_is, which, HaveStarts, link_over, tasks_keep, Changed, changed_starts, changed_back, TaskOf, step_keeps, let_keeps}
use Rattle.oss_core.proofs.GrowLemmas as grow
use Rattle.oss_core.proofs.TellLemmas.{step_told, let_told, join_told}

pub given_same : {S B : Type 0} (body : B → Body S) (bodies : List B) (given after : ℕ → ℕ → Bool) (cells : List ℕ) (s : State S) → ((w k : ℕ) → after w k ≡ given w k) → StandsFor body bodies given cells s → StandsFor body bodies after cells s
given_same body bodies given after cells s e stands = record {
  cells_are = stands.cells_are;
  there = λ w b h. let r = stands.there w b h in (r.0, r.1, r.2, λ k. (λ i. e w k ∙ (r.3 k).0 i, λ g. (r.3 k).1 (sym (e w k) ∙ g)));
  back = stands.back;
}

-- the core after an act that creates nothing
pub core_step : {S B : Type 0} (P : Program S) (body : B → Body S) (of : B → Type 0) (bodies new : List B) (opens : List Open) (given after : ℕ → ℕ → Bool) (v loaded : ℕ) → AreSound P body of bodies opens given
    → IsAdvanced P body of loaded bodies new v → ((w k : ℕ) → after w k ≡ given w k) → AreSound P body of new opens after
core_step {S = S} {B = B} P body of bodies new opens given after v loaded core adv same =
    record {
      tasks = tasks_keep body bodies new opens forth back core.tasks;
      of_code = λ w b h. of_all w b h (which w v);
      below = λ o i l. below o i l (which o.parent v);
      within = λ w k h. subst (λ (n : ℕ). w < n) (sym adv.size) (core.within w k (sym (same w k) ∙ h));
    }
  where
    changed : Changed bodies new v adv.after
    changed = record { now = adv.is; others = adv.others }

    start_same : (body adv.after).start ≡ (body adv.before).start
    start_same = ap (λ (x : Body S). x.start) adv.body_is

    forth : HaveStarts body bodies new
    forth = changed_starts body bodies new v adv.before adv.after changed adv.was start_same

    back : HaveStarts body new bodies
    back = changed_back body bodies new v adv.before adv.after changed adv.was start_same

    of_all : (w : ℕ) (b : B) → slice_get new w ≡ Some b → (w ≡ v) ⊎ (w ≡ v → ⊥) → of b
    of_all w b h (inl e) = subst of (some_is (sym adv.is ∙ ap (λ (z : ℕ). slice_get new z) (sym e) ∙ h)) adv.of_code
    of_all w b h (inr n) = core.of_code w b (sym (adv.others w n) ∙ h)

    more : created_now P (body adv.before) ≤ created_now P (body adv.after)
    more =
        let sfx : IsSuffix (body adv.before).found (answer_to (act_now P (body adv.before)) loaded ∷ (body adv.before).found) = longer whole in
        let k = created_grows P (body adv.before).start sfx in
        let e = ap (λ (x : Body S). created_now P x) adv.body_is in
        omega (arith, k, e)

    below : (o : Open) → IsIn o opens → (l : IsLinked body new o) → (o.parent ≡ v) ⊎ (o.parent ≡ v → ⊥) → l.child < created_now P (body l.creator)
    below o i l (inl e) =
        let k = link_over body new bodies back o l in
        let n = core.below o i k in
        let a : k.creator ≡ adv.before = some_is (sym k.creator_is ∙ ap (λ (z : ℕ). slice_get bodies z) e ∙ adv.was) in
        let c : l.creator ≡ adv.after = some_is (sym l.creator_is ∙ ap (λ (z : ℕ). slice_get new z) e ∙ adv.is) in
        let x = ap (λ (b : B). created_now P (body b)) a in
        let y = ap (λ (b : B). created_now P (body b)) c in
        let m = more in
        omega (arith, n, x, y, m)
    below o i l (inr ne) =
        let k = link_over body new bodies back o l in
        let n = core.below o i k in
        let a : k.creator ≡ l.creator = some_is (sym k.creator_is ∙ (sym (adv.others o.parent ne) ∙ l.creator_is)) in
        let x = ap (λ (b : B). created_now P (body b)) a in
        omega (arith, n, x)

-- the core after a cell was given up
pub core_give : {S B : Type 0} (P : Program S) (body : B → Body S) (of : B → Type 0) (bodies : List B) (opens : List Open) (given after : ℕ → ℕ → Bool) (v c : ℕ) → AreSound P body of bodies opens given
    → v < length bodies → ((w k : ℕ) → (after w k ≡ true ↔ ((given w k ≡ true) ⊎ ((w ≡ v) × (k ≡ c))))) → AreSound P body of bodies opens after
core_give P body of bodies opens given after v c core l gives = record {
  tasks = core.tasks;
  of_code = core.of_code;
  below = core.below;
  within = λ w k h. within w k ((gives w k).0 h);
}
  where
    within : (w k : ℕ) → (given w k ≡ true) ⊎ ((w ≡ v) × (k ≡ c)) → w < length bodies
    within w k (inl g) = core.within w k g
    within w k (inr e) = subst (λ (x : ℕ). x < length bodies) (sym e.0) l

module _ {S B : Type 0} (P : Program S) (body : B → Body S) (of : B → Type 0) (bodies : List B) (opens : List Open) (given : ℕ → ℕ → Bool) (cells : List ℕ) (s : State S) (core : AreSound P body of bodies opens given)
    (stands : StandsFor body bodies given cells s) (Complete : ℕ → Type 0) (tells : (v : ℕ) (p : List ℕ) → IsNumbered body bodies v p → (Complete v ↔ IsComplete P s p)) where
  -- an act that creates no task
  pub step_made : (v : ℕ) (e : IsEnabled P body bodies opens given Complete v) (loaded : ℕ) → found_by (act_now P (body e.one)) cells ≡ answer_to (act_now P (body e.one)) loaded → ((o : Order S) → act_now P (body e.one) ≢ Created o false)
      → (new : List B) → IsAdvanced P body of loaded bodies new v → (after : ℕ → ℕ → Bool) → ((w k : ℕ) → after w k ≡ given w k) → (more : List ℕ) → more ≡ cells_after (act_now P (body e.one)) cells → StepMade P body bodies new after more v s
  step_made v e loaded found_is none new adv after same_given more more_is =
      let c = step_told P body bodies opens given cells s core.tasks stands core.below Complete tells v e in
      let t = c.0 in
      let a = act_now P (body e.one) in
      let act_same : act_now P t.body ≡ a = ap (λ (x : Body S). act_now P x) c.2 in
      let first : adv.before ≡ e.one = some_is (sym adv.was ∙ e.is) in
      let found : found_by (act_now P t.body) s.cells ≡ answer_to a loaded = ap (λ (x : Act S). found_by x s.cells) act_same ∙ ap (λ (cs : List ℕ). found_by a cs) stands.cells_are ∙ found_is in
      let next_is : body adv.after ≡ (after_answer (found_by (act_now P t.body) s.cells) t).body
      = adv.body_is ∙ ap (λ (b : B). body_after P loaded (body b)) first ∙ ap (λ (x : Body S). body_after P loaded x) (sym c.2) ∙ ap (λ (n : ℕ). (after_answer n t).body) (sym (found ∙ ap (λ (x : Act S). answer_to x loaded) (sym act_same))) in
      let k = step_keeps P body bodies new opens given cells s core.tasks stands v (body e.one).start.path t (record { has = record { one = e.one; is = e.is; path = refl }; at_ = c.1.at_ }) adv.after
      c.1.goes (λ o h. none o (sym act_same ∙ h)) (record { now = adv.is; others = adv.others }) next_is in
      let cells_is : cells_after (act_now P t.body) cells ≡ more = ap (λ (x : Act S). cells_after x cells) act_same ∙ sym more_is in
      record {
        path = (body e.one).start.path;
        task = t;
        state = k.0;
        has = record { one = e.one; is = e.is; path = refl };
        can = c.1;
        stepped = k.1.stepped;
        stands = given_same body new given after more k.0 same_given (subst (λ (cs : List ℕ). StandsFor body new given cs k.0) cells_is k.1.stand_for);
      }

  -- a let
  pub record LetMade (after : ℕ → ℕ → Bool) (v c : ℕ) : Type 0 where
    pub path : List ℕ
    pub task : Task S
    pub state : State S
    pub has : IsNumbered body bodies v path
    pub can : CanLet P s path c task
    pub went : LetGo s path c task state
    pub stand_for : StandsFor body bodies after cells state

  pub let_made : (v c : ℕ) → MayLet P body bodies opens given Complete v c → (after : ℕ → ℕ → Bool) → ((w k : ℕ) → (after w k ≡ true ↔ ((given w k ≡ true) ⊎ ((w ≡ v) × (k ≡ c))))) → LetMade after v c
  let_made v c m after gives =
      let t = let_told P body bodies opens given cells s core.tasks stands core.below Complete tells v c m in
      let own : TaskOf body bodies s v (body m.one).start.path t.0 = record { has = record { one = m.one; is = m.is; path = refl }; at_ = t.1.at_ } in
      let k = let_keeps P body bodies bodies opens given cells s core.tasks stands v (body m.one).start.path t.0 own after c gives in
      record { path = (body m.one).start.path; task = t.0; state = k.0; has = own.has; can = t.1; went = k.1; stand_for = k.2 }

  -- a join
  pub record JoinMade (after : ℕ → ℕ → Bool) (more : List ℕ) (v c : ℕ) (op : Op) : Type 0 where
    pub path : List ℕ
    pub task : Task S
    pub state : State S
    pub has : IsNumbered body bodies v path
    pub can : CanJoin P s path c op task
    pub joined : Joined P s path c op task state
    pub stand_for : StandsFor body bodies after more state

  pub join_made : (v c : ℕ) (op : Op) (m : MayJoin P body bodies opens given Complete v c op) → (after : ℕ → ℕ → Bool) → ((w k : ℕ) → (after w k ≡ true ↔ ((given w k ≡ true) ⊎ ((w ≡ v) × (k ≡ c)))))
      → (more : List ℕ) → more ≡ joined_cells P c op (record { body = body m.one; given = [] }) cells → JoinMade after more v c op
  join_made v c op m after gives more more_is =
      let t = join_told P body bodies opens given cells s core.tasks stands core.below Complete tells v c op m in
      let own : TaskOf body bodies s v (body m.one).start.path t.0 = record { has = record { one = m.one; is = m.is; path = refl }; at_ = t.1.at_ } in
      let k = let_keeps P body bodies bodies opens given cells s core.tasks stands v (body m.one).start.path t.0 own after c gives in
      let same : joined_cells P c op t.0 s.cells ≡ more
      = ap (λ (cs : List ℕ). joined_cells P c op t.0 cs) stands.cells_are ∙ ap (λ (x : Body S). joined_cells P c op (record { body = x; given = [] }) cells) t.2 ∙ sym more_is in
      record {
        path = (body m.one).start.path;
        task = t.0;
        state = record { cells = joined_cells P c op t.0 s.cells; tasks = k.0.tasks };
        has = own.has;
        can = t.1;
        joined = record { cells = refl; tasks = record { own = k.1.tasks.own; others = k.1.tasks.others } };
        stand_for = record { cells_are = same; there = k.2.there; back = k.2.back };
      }

  -- a creation
  pub record Creation (new : List B) (more : List Open) (after : ℕ → ℕ → Bool) (v : ℕ) : Type 0 where
    pub made : StepMade P body bodies new after cells v s
    pub core_is : AreSound P body of new more after

  pub creation_made : (new : List B) (more : List Open) (after : ℕ → ℕ → Bool) (v : ℕ) (e : IsEnabled P body bodies opens given Complete v) → (o : Order S) → act_now P (body e.one) ≡ Created o false → IsCreated P body of bodies new opens more v → ((w k : ℕ) → after w k ≡ given w k) → Creation new more after v
  creation_made new more after v e o act cr same_given =
      record {
        made = record {
          path = (body e.one).start.path;
          task = c.0;
          state = (grow.now P body bodies new opens given cells s core.tasks stands v (body e.one).start.path c.0 own core.below cr.after cr.child (length bodies) cr.grown o act_t next_is child_is cr.entry cr.task_is cr.parent_is cr.rights cr.may free);
          has = record { one = e.one; is = e.is; path = refl };
          can = c.1;
          stepped = g_steps;
          stands = given_same body new given after cells (grow.now P body bodies new opens given cells s core.tasks stands v (body e.one).start.path c.0 own core.below cr.after cr.child (length bodies) cr.grown o act_t next_is child_is cr.entry cr.task_is cr.parent_is cr.rights cr.may free) same_given (subst (λ (cs : List ℕ). StandsFor body new given cs (grow.now P body bodies new opens given cells s core.tasks stands v (body e.one).start.path c.0 own core.below cr.after cr.child (length bodies) cr.grown o act_t next_is child_is cr.entry cr.task_is cr.parent_is cr.rights cr.may free)) (ap (λ (a : Act S). cells_after a cells) act_t) g_stands);
        };
        core_is = record {
          tasks = subst (λ (os : List Open). AreTasks body new os) (sym cr.opens_are) g_tasks;
          of_code = λ w b h. of_all w b h (which w v) (which w (length bodies));
          below = λ q i l. g_below q l (in_added opens cr.entry (subst (λ (os : List Open). IsIn q os) cr.opens_are i));
          within = λ w k h. let l = core.within w k (sym (same_given w k) ∙ h) in let z = cr.size in omega (arith, l, z);
        };
      }
    where
      c : (t : Task S) × CanStep P s (body e.one).start.path t × (t.body ≡ body e.one)
      c = step_told P body bodies opens given cells s core.tasks stands core.below Complete tells v e

      act_t : act_now P c.0.body ≡ Created o false
      act_t = ap (λ (x : Body S). act_now P x) c.2 ∙ act

      before_is : cr.before ≡ e.one
      before_is = some_is (sym cr.was ∙ e.is)

      next_is : body cr.after ≡ (after_answer (found_by (act_now P c.0.body) s.cells) c.0).body
      next_is =
          cr.body_is ∙ ap (λ (b : B). body_after P 0 (body b)) before_is ∙ ap (λ (x : Body S). body_after P 0 x) (sym c.2)
          ∙ ap (λ (n : ℕ). (after_answer n c.0).body) (ap (λ (a : Act S). answer_to a 0) act_t ∙ sym (ap (λ (a : Act S). found_by a s.cells) act_t))

      child_is : body cr.child ≡ (new_task P c.0.body o).body
      child_is = cr.child_is o (ap (λ (b : B). act_now P (body b)) before_is ∙ act) ∙ ap (λ (b : B). (new_task P (body b) o).body) before_is ∙ ap (λ (x : Body S). (new_task P x o).body) (sym c.2)

      free : (k : ℕ) → given (length bodies) k ≡ true → ⊥
      free k h = let l = core.within (length bodies) k h in absurd (omega (arith, l))

      own : TaskOf body bodies s v (body e.one).start.path c.0
      own = record { has = record { one = e.one; is = e.is; path = refl }; at_ = c.1.at_ }

      g_steps : Stepped P s (body e.one).start.path c.0 (grow.now P body bodies new opens given cells s core.tasks stands v (body e.one).start.path c.0 own core.below cr.after cr.child (length bodies) cr.grown o act_t next_is child_is cr.entry cr.task_is cr.parent_is cr.rights cr.may free)
      g_steps = grow.steps P body bodies new opens given cells s core.tasks stands v (body e.one).start.path c.0 own core.below cr.after cr.child (length bodies) cr.grown o act_t next_is child_is cr.entry cr.task_is cr.parent_is cr.rights cr.may free

      g_stands : StandsFor body new given (cells_after (act_now P c.0.body) cells) (grow.now P body bodies new opens given cells s core.tasks stands v (body e.one).start.path c.0 own core.below cr.after cr.child (length bodies) cr.grown o act_t next_is child_is cr.entry cr.task_is cr.parent_is cr.rights cr.may free)
      g_stands = grow.stands_grow P body bodies new opens given cells s core.tasks stands v (body e.one).start.path c.0 own core.below cr.after cr.child (length bodies) cr.grown o act_t next_is child_is cr.entry cr.task_is cr.parent_is cr.rights cr.may free

      g_tasks : AreTasks body new (opens ++ cr.entry ∷ [])
      g_tasks = grow.tasks_grow P body bodies new opens given cells s core.tasks stands v (body e.one).start.path c.0 own core.below cr.after cr.child (length bodies) cr.grown o act_t next_is child_is cr.entry cr.task_is cr.parent_is cr.rights cr.may free

      g_below : (q : Open) (l : IsLinked body new q) → IsIn q opens ⊎ (q ≡ cr.entry) → l.child < created_now P (body l.creator)
      g_below = grow.below_all P body bodies new opens given cells s core.tasks stands v (body e.one).start.path c.0 own core.below cr.after cr.child (length bodies) cr.grown o act_t next_is child_is cr.entry cr.task_is cr.parent_is cr.rights cr.may free

      of_all : (w : ℕ) (b : B) → slice_get new w ≡ Some b → (w ≡ v) ⊎ (w ≡ v → ⊥) → (w ≡ length bodies) ⊎ (w ≡ length bodies → ⊥) → of b
      of_all w b h (inl k) r = subst of (some_is (sym cr.grown.now ∙ ap (λ (z : ℕ). slice_get new z) (sym k) ∙ h)) cr.of_after
      of_all w b h (inr n) (inl k) = subst of (some_is (sym cr.grown.new ∙ ap (λ (z : ℕ). slice_get new z) (sym k) ∙ h)) cr.of_child
      of_all w b h (inr n) (inr k) = core.of_code w b (sym (cr.grown.others w n k) ∙ h)
