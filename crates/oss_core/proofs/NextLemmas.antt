-- The parts of a wave, as a loop comes to them, and where all are put in.
use Rattle.std.proofs.Common.{◌≡◌, ℕ, zero, suc, ◌<◌, refl, sym, subst, ap, ◌∙◌, arith, List, [], ◌∷◌, ◌++◌, length, map, Some}
use Rattle.std.specs.Prelude.{drop, slice_get}
use Rattle.std.proofs.lemmas.List.{append-nil}
use Rattle.oss_model.specs.Order.{IsBefore, IsEarlierKey, IsIn, here, there, written}
use Rattle.oss_model.specs.Bodies.{Start}
use Rattle.oss_model.specs.Machine.{State, Task}
use Rattle.oss_model.specs.Moves.{CanStep}
use Rattle.oss_model.specs.declared.task_no.TaskNo.{TaskNo}
use Rattle.oss_wave_laws.specs.Waves as waves
use Rattle.oss_wave_laws.specs.Waves.{AreInOrder, IsWave, no_turns}
use Rattle.oss_wave_laws.proofs.WaveTheorem.{wave_begins}
use Rattle.oss_code.specs.declared.code.CodeParts.{CodeParts}
use Rattle.oss_machine.specs.Frames.{CodeScript}
use Rattle.oss_machine.specs.Machines.{asks}
use Rattle.oss_body.specs.declared.body.Body.{Body}
use Rattle.oss_tree.specs.declared.task.Task.{Task as TreeTask}
use Rattle.oss_tree.specs.Tasks.{HasPoint, number}
use Rattle.oss_segment.specs.declared.segment.Segment.{Segment}
use Rattle.oss_kept_tasks.specs.declared.held.Held.{Held}
use Rattle.oss_enabled_moves.specs.Enabled.{MayStep}
use Rattle.oss_core.specs.declared.creating.Newborn.{Newborn}
use Rattle.oss_core.specs.declared.turns.Turn.{Turn}
use Rattle.oss_core.specs.Kept.{IsCore, Kept}
use Rattle.oss_core.specs.Leaving.{HasTurn, HaveTurned}
use Rattle.oss_core.specs.PointOrder.{AreInPointOrder}
use Rattle.oss_core.specs.Putting.{AreNewborns, IsPut, IsWritten, MayAdd}
use Rattle.oss_core.specs.Steppers.{AreSteppers}
use Rattle.oss_core.specs.Turns.{ArePartsOf, AreTold, IsFilled, IsMidway, Midway, with_held}
use Rattle.oss_core.proofs.ExactLemmas.{step_tells}
use Rattle.oss_core.proofs.KeepLemmas.{some_is}
use Rattle.oss_core.proofs.LeavingLemmas.{nothing_turned}
use Rattle.oss_core.proofs.MidwayLemmas.{part_may, part_put, part_sizes, part_there}
use Rattle.oss_core.proofs.TreeFacts.{one_path, point_of_path}

-- where a list goes on with an element from a place on
drop_within : {A : Type 0} (xs : List A) (i : ℕ) (x : A) (ys : List A) → drop i xs ≡ x ∷ ys → i < length xs
drop_within [] zero x ys e = absurd (cc (e))
drop_within [] (suc i) x ys e = absurd (cc (e))
drop_within (z ∷ xs) zero x ys e = omega arith
drop_within (z ∷ xs) (suc i) x ys e = let l = drop_within xs i x ys e in omega (arith, l)

drop_at : {A : Type 0} (xs : List A) (i : ℕ) (x : A) (ys : List A) → drop i xs ≡ x ∷ ys → slice_get xs i ≡ Some x
drop_at [] zero x ys e = absurd (cc (e))
drop_at [] (suc i) x ys e = absurd (cc (e))
drop_at (z ∷ xs) zero x ys e = let same : z ≡ x = cc (e) in ap Some same
drop_at (z ∷ xs) (suc i) x ys e = drop_at xs i x ys e

drop_next : {A : Type 0} (xs : List A) (i : ℕ) (x : A) (ys : List A) → drop i xs ≡ x ∷ ys → drop (suc i) xs ≡ ys
drop_next [] zero x ys e = absurd (cc (e))
drop_next [] (suc i) x ys e = absurd (cc (e))
drop_next (z ∷ xs) zero x ys e = cc (e)
drop_next (z ∷ xs) (suc i) x ys e = drop_next xs i x ys e

-- The next part is that of a task, which is there, and whose new tasks may be added.
pub record HasNext (left : List TaskNo) (part : Segment) (k : Kept) : Type 0 where
  pub task : TaskNo
  pub rest : List TaskNo
  pub is : left ≡ task ∷ rest
  pub sizes : length k.tree.tasks ≡ length k.tasks
  pub there_ : task.0 < length k.tasks
  pub may : (xs : List Newborn) → AreNewborns xs part.children.items → MayAdd task.0 (length k.tasks) xs k.tree.tasks k.seen

module _ (code : CodeParts) (main : Start CodeScript) (first : List ℕ) (s : State CodeScript) (before : Kept) (all : List TaskNo) (part : Segment) (more : List Segment) (told : List Turn) (k : Kept) where
  -- what the next part needs
  next_of : (left : List TaskNo) (h : Midway code main first s before all left (part ∷ more) told k) (bodies : List Body) → ArePartsOf code before.cells bodies (part ∷ more) → IsFilled left bodies k.tasks h.filled → HasNext left part k
  next_of [] h [] are filled = absurd are
  next_of [] h (b ∷ bs) are filled = absurd filled
  next_of (v ∷ vs) h [] are filled = absurd are
  next_of (v ∷ vs) h (b ∷ bs) are (mid, mid_is, back) = record {
    task = v;
    rest = vs;
    is = refl;
    sizes = part_sizes code main first s before all v vs part more told k h b bs are.0 are.1 mid mid_is back;
    there_ = part_there code main first s before all v vs part more told k h b bs are.0 are.1 mid mid_is back;
    may = part_may code main first s before all v vs part more told k h b bs are.0 are.1 mid mid_is back;
  }

  -- and what it leaves
  put_of : (left : List TaskNo) (h : Midway code main first s before all left (part ∷ more) told k) (bodies : List Body) → ArePartsOf code before.cells bodies (part ∷ more) → IsFilled left bodies k.tasks h.filled
      → (task : TaskNo) (rest : List TaskNo) → left ≡ task ∷ rest → (new : Kept) (xs : List Newborn) → AreNewborns xs part.children.items → IsPut task.0 xs part.body part.prints.items k new → IsWritten part.writes.pieces k.cells new.cells
      → (one : Turn) → one.task ≡ task → one.acts ≡ part.count → Midway code main first s before all rest more (told ++ one ∷ []) new
  put_of [] h [] are filled task rest e new xs news put wrote one t a = absurd are
  put_of [] h (b ∷ bs) are filled task rest e new xs news put wrote one t a = absurd filled
  put_of (v ∷ vs) h [] are filled task rest e new xs news put wrote one t a = absurd are
  put_of (v ∷ vs) h (b ∷ bs) are (mid, mid_is, back) task rest e new xs news put wrote one t a =
      let same : v ≡ task = cc (e) in
      let tail : vs ≡ rest = cc (e) in
      subst (λ (us : List TaskNo). Midway code main first s before all us more (told ++ one ∷ []) new) tail
      (part_put code main first s before all v vs part more told k h b bs are.0 are.1 mid mid_is back new xs news (subst (λ (u : TaskNo). IsPut u.0 xs part.body part.prints.items k new) (sym same) put) wrote one (t ∙ sym same) a)

-- the next part, by its place
pub has_next : (all : List TaskNo) (at : ℕ) (parts : List Segment) (part : Segment) (more : List Segment) (told : List Turn) (k : Kept) → IsMidway all (drop at all) parts told k → parts ≡ part ∷ more → HasNext (drop at all) part k
has_next all at parts part more told k h e =
    let m = subst (λ (ps : List Segment). Midway h.code h.main h.first h.s h.before all (drop at all) ps told k) e h.midway in
    next_of h.code h.main h.first h.s h.before all part more told k (drop at all) m m.bodies m.parts_are m.filled_is

pub next_within : (all : List TaskNo) (at : ℕ) (part : Segment) (k : Kept) → HasNext (drop at all) part k → at < length all
next_within all at part k h = drop_within all at h.task h.rest h.is

pub next_is : (all : List TaskNo) (at : ℕ) (part : Segment) (k : Kept) (task : TaskNo) (h : HasNext (drop at all) part k) → slice_get all at ≡ Some task → h.task ≡ task
next_is all at part k task h e = some_is (sym (drop_at all at h.task h.rest h.is) ∙ e)

-- a part is put in, by its place
pub one_put : (all : List TaskNo) (at : ℕ) (parts : List Segment) (part : Segment) (more : List Segment) (told : List Turn) (k new : Kept) → parts ≡ part ∷ more → (task : TaskNo) → slice_get all at ≡ Some task → HasNext (drop at all) part k
    → (xs : List Newborn) → AreNewborns xs part.children.items → IsPut task.0 xs part.body part.prints.items k new → IsWritten part.writes.pieces k.cells new.cells → (one : Turn) → one.task ≡ task → one.acts ≡ part.count
    → (code : CodeParts) (main : Start CodeScript) (first : List ℕ) (s : State CodeScript) (before : Kept) → Midway code main first s before all (drop at all) parts told k → Midway code main first s before all (drop (suc at) all) more (told ++ one ∷ []) new
one_put all at parts part more told k new e task is h xs news put wrote one t a code main first s before m =
    let n = subst (λ (ps : List Segment). Midway code main first s before all (drop at all) ps told k) e m in
    let same : h.task ≡ task = next_is all at part k task h is in
    let left : drop at all ≡ task ∷ h.rest = h.is ∙ ap (λ (u : TaskNo). u ∷ h.rest) same in
    subst (λ (us : List TaskNo). Midway code main first s before all us more (told ++ one ∷ []) new) (sym (drop_next all at task h.rest left))
    (put_of code main first s before all part more told k (drop at all) n n.bodies n.parts_are n.filled_is task h.rest left new xs news put wrote one t a)

-- told turns in point order are in order
told_order : (tasks : List TreeTask) (told : List Turn) (turns : List waves.Turn) → AreTold tasks told turns → AreInPointOrder tasks (map (λ (t : Turn). t.task) told) → AreInOrder turns
told_order tasks [] [] h o = tt
told_order tasks [] (x ∷ turns) h o = absurd h
told_order tasks (y ∷ told) [] h o = absurd h
told_order tasks (y ∷ told) (x ∷ turns) h o = (λ j i. behind told turns h.1 j i (λ w k p q a b. o.0 w k p q a b), told_order tasks told turns h.1 o.1)
  where
    tail : {xs ys : List ℕ} → IsBefore (0 ∷ xs) (0 ∷ ys) → IsBefore xs ys
    tail (IsBefore.less l) = absurd (omega (arith, l))
    tail (IsBefore.same b) = b

    behind : (more : List Turn) (rest : List waves.Turn) → AreTold tasks more rest → (j : waves.Turn) → IsIn j rest → ((w : TaskNo) → IsIn w (map (λ (t : Turn). t.task) more) → (p q : List ℕ) → HasPoint tasks y.task.0 p → HasPoint tasks w.0 q → IsBefore p q) → IsEarlierKey x.path j.path
    behind [] [] g j i f = elim i [ ]
    behind [] (r ∷ rest) g j i f = absurd g
    behind (m ∷ more) [] g j i f = absurd g
    behind (m ∷ more) (r ∷ rest) g j here f = tail (f m.task here (written x.path) (written r.path) h.0.point g.0.point)
    behind (m ∷ more) (r ∷ rest) g j (there i) f = behind more rest g.1 j i (λ w k p q a b. f w (there k) p q a b)

-- the turn of a task that was told
told_turn : (tasks : List TreeTask) (told : List Turn) (turns : List waves.Turn) → AreTold tasks told turns → (v : TaskNo) → IsIn v (map (λ (t : Turn). t.task) told) → (turn : waves.Turn) × IsIn turn turns × HasPoint tasks v.0 (written turn.path)
told_turn tasks [] turns h v i = elim i [ ]
told_turn tasks (y ∷ told) [] h v i = absurd h
told_turn tasks (y ∷ told) (x ∷ turns) h v here = (x, here, h.0.point)
told_turn tasks (y ∷ told) (x ∷ turns) h v (there i) = let r = told_turn tasks told turns h.1 v i in (r.0, there r.1, r.2)

-- all parts are put in: the wave is made
-- the tasks of turns
in_tasks : (told : List Turn) (one : Turn) → IsIn one told → IsIn one.task (map (λ (t : Turn). t.task) told)
in_tasks [] one i = elim i [ ]
in_tasks (t ∷ told) one here = here
in_tasks (t ∷ told) one (there i) = there (in_tasks told one i)

module _ (code : CodeParts) (main : Start CodeScript) (first : List ℕ) (s : State CodeScript) (before : Kept) (all : List TaskNo) (told : List Turn) (k : Kept) (h : Midway code main first s before all [] [] told k) where
  told_all : map (λ (t : Turn). t.task) told ≡ all
  told_all = sym (append-nil (map (λ (t : Turn). t.task) told)) ∙ h.split

  filled_is : (bodies : List Body) → ArePartsOf code before.cells bodies [] → IsFilled [] bodies k.tasks h.filled → h.filled ≡ k.tasks
  filled_is [] are filled = filled
  filled_is (b ∷ bs) are filled = absurd are

  turn_of : (p : List ℕ) (t : Task CodeScript) → CanStep (asks code) s p t → (turn : waves.Turn) × IsIn turn h.turns × (turn.path ≡ p)
  turn_of p t can =
      let at = h.begun.stands.back p t can.at_ in
      let point = point_of_path h.begun at.0 p at.1 in
      let may = step_tells h.begun at.0 p t point can in
      let r = told_turn before.tree.tasks told h.turns h.told_are (number at.0) (subst (λ (vs : List TaskNo). IsIn (number at.0) vs) (sym told_all) (h.steppers.all at.0 may)) in
      (r.0, r.1, one_path r.0.path p (sym r.2.point ∙ ap (λ (x : TreeTask). x.point) (some_is (sym r.2.at_ ∙ point.at_)) ∙ point.point))

  pub wave_made : (n : State CodeScript) × (turns : List waves.Turn) × IsWave (asks code) s turns n × AreTold before.tree.tasks told turns × IsCore code main first k n
  wave_made = (
    h.state,
    h.turns,
    record {
      turns_are = record {
        ordered = told_order before.tree.tasks told h.turns h.told_are (subst (λ (vs : List TaskNo). AreInPointOrder before.tree.tasks vs) (sym told_all) h.steppers.ordered);
        only = h.turns_are;
        all = turn_of;
      };
      acts = h.taken;
    },
    h.told_are,
    subst (λ (ts : List Held). IsCore code main first (with_held ts k) h.state) (filled_is h.bodies h.parts_are h.filled_is) h.core,
  )

  -- and of all tasks that had no turn nothing is kept otherwise
  pub wave_leaves : HaveTurned told before k
  wave_leaves = subst (λ (ts : List Held). HaveTurned told before (with_held ts k)) (filled_is h.bodies h.parts_are h.filled_is) h.leaves

  -- each of those that had one might step
  pub wave_may : (v : ℕ) → HasTurn told v → MayStep before.tasks before.tree.tasks before.seen v
  wave_may v t = subst (λ (n : ℕ). MayStep before.tasks before.tree.tasks before.seen n) t.task (h.steppers.may t.one.task (subst (IsIn t.one.task) told_all (in_tasks told t.one t.listed)))

-- a wave begins: the bodies of the tasks that may act are out
pub wave_begun : (code : CodeParts) (main : Start CodeScript) (first : List ℕ) (s : State CodeScript) (before k : Kept) (steppers : List TaskNo) (bodies : List Body) (parts : List Segment) → IsCore code main first before s → AreSteppers before steppers
    → IsFilled steppers bodies k.tasks before.tasks → k.tree ≡ before.tree → k.seen ≡ before.seen → k.cells ≡ before.cells → ArePartsOf code before.cells bodies parts → Midway code main first s before steppers steppers parts [] k
wave_begun code main first s before k steppers bodies parts core are filled tree_is seen_is cells_is parts_are = record {
  begun = core;
  steppers = are;
  split = refl;
  bodies = bodies;
  parts_are = parts_are;
  filled = before.tasks;
  filled_is = filled;
  state = s;
  core = subst (λ (x : Kept). IsCore code main first x s) same core;
  alone = λ q. s;
  wave = wave_begins CodeScript (asks code) s;
  ahead = λ v i p g. refl;
  points = λ v q g. subst (λ (x : _). HasPoint x.tasks v q) (sym tree_is) g;
  turns = [];
  taken = no_turns;
  turns_are = λ turn i. elim i [ ];
  told_are = tt;
  leaves = subst (λ (x : Kept). HaveTurned [] before x) same (nothing_turned before);
}
  where
    same : before ≡ with_held before.tasks k
    same = λ i. record { tasks = before.tasks; tree = sym tree_is i; seen = sym seen_is i; cells = sym cells_is i }
