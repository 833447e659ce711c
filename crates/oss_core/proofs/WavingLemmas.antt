-- The loops of a wave: bodies that go out, and parts that are put in.
use Rattle.std.proofs.Common.{◌≡◌, ℕ, zero, suc, ◌+◌, ◌<◌, ◌≤◌, refl, sym, subst, ap, ◌∙◌, arith, List, [], ◌∷◌, ◌++◌, length, take, take_all, get_or, Result, Ok, Err, Some}
use Rattle.std.specs.Prelude.{IfOk, OnOk, drop, slice_get}
use Rattle.std.proofs.lemmas.Option.{slice_get_within}
use Rattle.oss_model.specs.Order.{IsIn, here, there, written}
use Rattle.oss_model.specs.Bodies.{Start}
use Rattle.oss_model.specs.Machine.{State}
use Rattle.oss_model.specs.declared.task_no.TaskNo.{TaskNo}
use Rattle.oss_code.specs.declared.code.CodeParts.{CodeParts}
use Rattle.oss_machine.specs.Frames.{CodeScript}
use Rattle.oss_body.specs.declared.body.Body.{Body}
use Rattle.oss_model.proofs.OrderLemmas.{before_not}
use Rattle.oss_tree.specs.declared.task.Task.{Task as TreeTask}
use Rattle.oss_tree.specs.Tasks as tree
use Rattle.oss_tree.specs.Tasks.{HasPoint}
use Rattle.oss_tree.proofs.ListLemmas.{get_set_other, get_set_same, there_is}
use Rattle.oss_segment.specs.declared.segment.Segment.{Segment}
use Rattle.oss_segment.specs.Segments.{IsKnown}
use Rattle.oss_kept_tasks.specs.declared.held.Held.{Held}
use Rattle.oss_core.specs.declared.creating.Newborn.{Newborn}
use Rattle.oss_core.specs.declared.turns.Turn.{Turn}
use Rattle.oss_core.specs.Kept.{IsRunning, Kept}
use Rattle.oss_core.specs.Leaving.{WasWave}
use Rattle.oss_core.specs.PointOrder.{AreInPointOrder}
use Rattle.oss_core.specs.Putting.{AreNewborns, HasBody, IsPut, IsWritten}
use Rattle.oss_core.specs.Steppers.{AreSteppers}
use Rattle.oss_core.specs.Turns.{ArePartsOf, AwaitsParts, HasLent, HasWaved, IsBeside, IsFilled, IsMidway, KeepsPoints, KeepsTasks, Midway}
use Rattle.oss_core.proofs.FillLemmas.{body_back, filled_behind, filled_size}
use Rattle.oss_core.proofs.ExactLemmas.{body_of, step_told}
use Rattle.oss_core.proofs.NextLemmas.{HasNext, has_next, one_put, wave_begun, wave_leaves, wave_made, wave_may}

-- a place of a list has one of its elements
pub at_in : {A : Type 0} (xs : List A) (i : ℕ) (x : A) → slice_get xs i ≡ Some x → IsIn x xs
at_in [] i x e = absurd (cc (e))
at_in {A = A} (y ∷ xs) zero x e = let same : y ≡ x = cc (e) in subst (λ (z : A). IsIn x (z ∷ xs)) (sym same) here
at_in (y ∷ xs) (suc i) x e = there (at_in xs i x e)

-- what stands at a place of a list
pub get_at : {A : Type 0} (xs : List A) (i : ℕ) (d : A) → i < length xs → slice_get xs i ≡ Some (get_or xs i d)
get_at [] i d l = absurd (omega (arith, l))
get_at (x ∷ xs) zero d l = refl
get_at (x ∷ xs) (suc i) d l = get_at xs i d (omega (arith, l))

-- one element more at the front of a list
pub take_one : {A : Type 0} (xs : List A) (i : ℕ) (x : A) → slice_get xs i ≡ Some x → take (i + 1) xs ≡ take i xs ++ x ∷ []
take_one xs i x e = let on : i + 1 ≡ suc i = omega arith in ap (λ n. take n xs) on ∙ go xs i e
  where
    go : (ys : List _) (j : ℕ) → slice_get ys j ≡ Some x → take (suc j) ys ≡ take j ys ++ x ∷ []
    go [] j f = absurd (cc (f))
    go (y ∷ ys) zero f = let same : y ≡ x = cc (f) in ap (λ z. z ∷ []) same
    go (y ∷ ys) (suc j) f = ap (λ zs. y ∷ zs) (go ys j f)

-- The bodies of so many tasks are out.
pub record AreOut (steppers : List TaskNo) (i : ℕ) (bodies : List Body) (start now : Kept) : Type 0 where
  pub filled : IsFilled (take i steppers) bodies now.tasks start.tasks
  pub beside : IsBeside start now

pub none_out : (steppers : List TaskNo) (k : Kept) (bodies : List Body) → bodies ≡ [] → AreOut steppers 0 bodies k k
none_out steppers k bodies e = record { filled = subst (λ (bs : List Body). IsFilled [] bs k.tasks k.tasks) (sym e) refl; beside = record { tree = refl; seen = refl; cells = refl } }

-- as many tasks are there as before
pub out_size : (steppers : List TaskNo) (i : ℕ) (bodies : List Body) (start now : Kept) → AreOut steppers i bodies start now → length now.tasks ≡ length start.tasks
out_size steppers i bodies start now h = sym (filled_size (take i steppers) bodies now.tasks start.tasks h.filled)

-- one more is out
pub one_out : (steppers : List TaskNo) (i : ℕ) (bodies more : List Body) (start now : Kept) (tasks : List Held) (v : TaskNo) (spare body : Body) → AreOut steppers i bodies start now → slice_get steppers i ≡ Some v → HasBody v.0 spare now.tasks tasks
    → ((h : Held) → slice_get now.tasks v.0 ≡ Some h → h.body ≡ body) → more ≡ bodies ++ body ∷ [] → AreOut steppers (i + 1) more start (record { tasks = tasks; tree = now.tree; seen = now.seen; cells = now.cells })
one_out steppers i bodies more start now tasks v spare body h is put taken e = record {
  filled = subst (λ (vs : List TaskNo). IsFilled vs more tasks start.tasks) (sym (take_one steppers i v is))
      (subst (λ (bs : List Body). IsFilled (take i steppers ++ v ∷ []) bs tasks start.tasks) (sym e)
      (filled_behind (take i steppers) bodies tasks now.tasks start.tasks v body h.filled (body_back v.0 spare body now.tasks tasks put.before put.was (taken put.before put.was) put)));
  beside = record { tree = h.beside.tree; seen = h.beside.seen; cells = h.beside.cells };
}

-- all are
pub all_out : (steppers : List TaskNo) (i : ℕ) (bodies : List Body) (start now : Kept) → length steppers ≤ i → AreOut steppers i bodies start now → IsFilled steppers bodies now.tasks start.tasks
all_out steppers i bodies start now l h = subst (λ (vs : List TaskNo). IsFilled vs bodies now.tasks start.tasks) (take_all i steppers l) h.filled

-- So many of the parts are put in.
pub record ArePut (steppers : List TaskNo) (parts : List Segment) (start : Kept) (at : ℕ) (rest : List Segment) (told : List Turn) (now : Kept) : Type 0 where
  pub some : IsMidway steppers (drop at steppers) rest told now
  pub each : (code : CodeParts) (main : Start CodeScript) (first : List ℕ) (s : State CodeScript) (before : Kept) → Midway code main first s before steppers steppers parts [] start → Midway code main first s before steppers (drop at steppers) rest told now

-- the parts begin
pub parts_begin : (steppers : List TaskNo) (parts rest : List Segment) (told : List Turn) (start : Kept) → rest ≡ parts → told ≡ [] → IsMidway steppers steppers parts [] start → ArePut steppers parts start 0 rest told start
parts_begin steppers parts rest told start e f h =
    subst (λ (ps : List Segment). ArePut steppers parts start 0 ps told start) (sym e) (subst (λ (ts : List Turn). ArePut steppers parts start 0 parts ts start) (sym f) (record { some = h; each = λ code main first s before m. m }))

-- the next of them needs this
pub part_next : (steppers : List TaskNo) (parts : List Segment) (start : Kept) (at : ℕ) (rest : List Segment) (told : List Turn) (now : Kept) → ArePut steppers parts start at rest told now → (part : Segment) (more : List Segment) → rest ≡ part ∷ more → HasNext (drop at steppers) part now
part_next steppers parts start at rest told now h part more e = has_next steppers at rest part more told now h.some e

-- and is put in
pub parts_more : (steppers : List TaskNo) (parts : List Segment) (start : Kept) (at : ℕ) (rest : List Segment) (told : List Turn) (now : Kept) → ArePut steppers parts start at rest told now → (part : Segment) (more : List Segment) → rest ≡ part ∷ more
    → (task : TaskNo) → slice_get steppers at ≡ Some task → (new : Kept) (xs : List Newborn) → AreNewborns xs part.children.items → IsPut task.0 xs part.body part.prints.items now new → IsWritten part.writes.pieces now.cells new.cells
    → (all : List Turn) → all ≡ told ++ record { task = task; acts = part.count } ∷ [] → ArePut steppers parts start (at + 1) more all new
parts_more steppers parts start at rest told now h part more e task is new xs news put wrote all f = record { some = some_is_; each = λ code main first s before m. step code main first s before (h.each code main first s before m) }
  where
    next : HasNext (drop at steppers) part now
    next = has_next steppers at rest part more told now h.some e

    on : suc at ≡ at + 1
    on = omega arith

    step : (code : CodeParts) (main : Start CodeScript) (first : List ℕ) (s : State CodeScript) (before : Kept) → Midway code main first s before steppers (drop at steppers) rest told now → Midway code main first s before steppers (drop (at + 1) steppers) more all new
    step code main first s before m =
        subst (λ (i : ℕ). Midway code main first s before steppers (drop i steppers) more all new) on
        (subst (λ (ts : List Turn). Midway code main first s before steppers (drop (suc at) steppers) more ts new) (sym f)
        (one_put steppers at rest part more told now new e task is next xs news put wrote (record { task = task; acts = part.count }) refl refl code main first s before m))

    some_is_ : IsMidway steppers (drop (at + 1) steppers) more all new
    some_is_ = record { code = h.some.code; main = h.some.main; first = h.some.first; s = h.some.s; before = h.some.before; midway = step h.some.code h.some.main h.some.first h.some.s h.some.before h.some.midway }

-- where no part is left, no task is
none_left : (code : CodeParts) (memory : List ℕ) (left : List TaskNo) (bodies : List Body) (tasks filled : List Held) → ArePartsOf code memory bodies [] → IsFilled left bodies tasks filled → left ≡ []
none_left code memory [] [] tasks filled are h = refl
none_left code memory [] (b ∷ bs) tasks filled are h = absurd h
none_left code memory (v ∷ vs) [] tasks filled are h = absurd h
none_left code memory (v ∷ vs) (b ∷ bs) tasks filled are h = absurd are

-- all parts are put in
pub parts_end : (steppers : List TaskNo) (parts : List Segment) (start : Kept) (at : ℕ) (rest : List Segment) (told : List Turn) (now : Kept) → ArePut steppers parts start at rest told now → rest ≡ []
    → (code : CodeParts) (main : Start CodeScript) (first : List ℕ) (s : State CodeScript) (before : Kept) → Midway code main first s before steppers steppers parts [] start → Midway code main first s before steppers [] [] told now
parts_end steppers parts start at rest told now h e code main first s before m =
    let n = subst (λ (ps : List Segment). Midway code main first s before steppers (drop at steppers) ps told now) e (h.each code main first s before m) in
    subst (λ (vs : List TaskNo). Midway code main first s before steppers vs [] told now) (none_left code before.cells (drop at steppers) n.bodies now.tasks n.filled n.parts_are n.filled_is) n

-- a wave that has begun
midway_begun : (code : CodeParts) (before k : Kept) (steppers : List TaskNo) (bodies : List Body) (parts : List Segment) → IsRunning code before → AreSteppers before steppers → IsFilled steppers bodies k.tasks before.tasks → IsBeside before k → ArePartsOf code before.cells bodies parts
    → IsMidway steppers steppers parts [] k
midway_begun code before k steppers bodies parts running are filled beside parts_are = record {
  code = code;
  main = running.main;
  first = running.first;
  s = running.state;
  before = before;
  midway = wave_begun code running.main running.first running.state before k steppers bodies parts running.core are filled beside.tree beside.seen beside.cells parts_are;
}

-- and has ended
waved : (code : CodeParts) (before k new : Kept) (steppers : List TaskNo) (bodies : List Body) (parts : List Segment) (told : List Turn) → AreSteppers before steppers → IsFilled steppers bodies k.tasks before.tasks → IsBeside before k → ArePartsOf code before.cells bodies parts
    → ((c : CodeParts) (main : Start CodeScript) (first : List ℕ) (s : State CodeScript) (b : Kept) → Midway c main first s b steppers steppers parts [] k → Midway c main first s b steppers [] [] told new) → HasWaved code before new told
waved code before k new steppers bodies parts told are filled beside parts_are ends main first s core =
    wave_made code main first s before steppers told new (ends code main first s before (wave_begun code main first s before k steppers bodies parts core are filled beside.tree beside.seen beside.cells parts_are))

-- tasks that keep their points are there
pub points_more : (old new : List TreeTask) → KeepsPoints old new → length old ≤ length new
points_more old new keeps = go (length old) refl
  where
    go : (n : ℕ) → length old ≡ n → n ≤ length new
    go zero e = omega arith
    go (suc n) e =
        let x = there_is old n (omega (arith, e)) in
        let h = keeps n x.0.point (record { task = x.0; at_ = x.1; point = refl }) in
        let l = slice_get_within new n h.task h.at_ in
        omega (arith, l)

keeps_tasks_after : (code : CodeParts) (before k new : Kept) (steppers : List TaskNo) (bodies : List Body) (parts : List Segment) (told : List Turn) → IsRunning code before → AreSteppers before steppers → IsFilled steppers bodies k.tasks before.tasks → IsBeside before k → ArePartsOf code before.cells bodies parts
    → ((c : CodeParts) (main : Start CodeScript) (first : List ℕ) (s : State CodeScript) (b : Kept) → Midway c main first s b steppers steppers parts [] k → Midway c main first s b steppers [] [] told new) → KeepsTasks before.tree.tasks new.tree.tasks
keeps_tasks_after code before k new steppers bodies parts told running are filled beside parts_are ends =
    let m = ends code running.main running.first running.state before (wave_begun code running.main running.first running.state before k steppers bodies parts running.core are filled beside.tree beside.seen beside.cells parts_are) in
    record { points = m.points; more = points_more before.tree.tasks new.tree.tasks m.points }

-- each of these is the body of some task of the code
abbrev AreKnown : CodeParts → List Body → Type 0
AreKnown code [] = Unit {0}
AreKnown code (b ∷ bs) = IsKnown code b × AreKnown code bs

-- the bodies that go out are those of tasks of the code
bodies_known : (code : CodeParts) (points : List TreeTask) (vs : List TaskNo) (bs : List Body) (tasks filled : List Held) → AreInPointOrder points vs → ((v : TaskNo) → IsIn v vs → (q : List ℕ) × HasPoint points v.0 q) → ((v : TaskNo) → IsIn v vs → (h : Held) → slice_get filled v.0 ≡ Some h → IsKnown code h.body)
    → IsFilled vs bs tasks filled → AreKnown code bs
bodies_known code points [] [] tasks filled o there_ known h = tt
bodies_known code points [] (b ∷ bs) tasks filled o there_ known h = absurd h
bodies_known code points (v ∷ vs) [] tasks filled o there_ known h = absurd h
bodies_known code points (v ∷ vs) (b ∷ bs) tasks filled o there_ known (mid, f, h) = (
  subst (λ (x : Body). IsKnown code x) h.body_is (known v here h.after (ap (λ (ts : List Held). slice_get ts v.0) h.tasks ∙ get_set_same mid v.0 h.before h.after h.was)),
  bodies_known code points vs bs tasks mid o.1 (λ u i. there_ u (there i)) (λ u i x e. known u (there i) x (ap (λ (ts : List Held). slice_get ts u.0) h.tasks ∙ get_set_other mid v.0 u.0 h.after (other u i) ∙ e)) f,
)
  where
    other : (u : TaskNo) → IsIn u vs → u.0 ≡ v.0 → ⊥
    other u i e =
        let p = there_ v here in
        before_not (o.0 u i p.0 p.0 p.1 (subst (λ (n : ℕ). HasPoint points n p.0) (sym e) p.1)) refl

lent_known : (code : CodeParts) (before k : Kept) (steppers : List TaskNo) (bodies : List Body) → IsRunning code before → AreSteppers before steppers → IsFilled steppers bodies k.tasks before.tasks → AreKnown code bodies
lent_known code before k steppers bodies running are filled =
    bodies_known code before.tree.tasks steppers bodies k.tasks before.tasks are.ordered
    (λ v i. let r = step_told running.core v.0 (are.may v i) in (written r.0, r.2))
    (λ v i h e. let x = body_of running.core v.0 h e in ∣ (x.body.start, x.body.found, x.is_held.body_is) ∣₁) filled

known_in : (code : CodeParts) (bs : List Body) → AreKnown code bs → (b : Body) → IsIn b bs → IsKnown code b
known_in code [] h b i = elim i [ ]
known_in code (c ∷ bs) h b here = h.0
known_in code (c ∷ bs) h b (there i) = known_in code bs h.1 b i

-- the bodies have gone out
pub lent : (code : CodeParts) (before k : Kept) (steppers : List TaskNo) (bodies : List Body) → IsRunning code before → AreSteppers before steppers → IsFilled steppers bodies k.tasks before.tasks → IsBeside before k → HasLent code before k steppers bodies
lent code before k steppers bodies running are filled beside = record {
  are_steppers = are;
  filled = filled;
  beside = beside;
  known = known_in code bodies (lent_known code before k steppers bodies running are filled);
}

-- a core that awaits the parts of a wave is at its beginning
running_before : {code : CodeParts} {before k : Kept} {steppers : List TaskNo} {parts : List Segment} → AwaitsParts code before k steppers parts → IsRunning code before
running_before h = record { main = h.main; first = h.first; state = h.state; core = h.core }

pub awaited_midway : (code : CodeParts) (before k : Kept) (steppers : List TaskNo) (parts : List Segment) → AwaitsParts code before k steppers parts → IsMidway steppers steppers parts [] k
awaited_midway code before k steppers parts h = midway_begun code before k steppers h.bodies parts (running_before h) h.lent.are_steppers h.lent.filled h.lent.beside h.parts_are

-- and then the wave is made
pub awaited_waved : (code : CodeParts) (before k new : Kept) (steppers : List TaskNo) (parts : List Segment) (told : List Turn) → AwaitsParts code before k steppers parts
    → ((c : CodeParts) (main : Start CodeScript) (first : List ℕ) (s : State CodeScript) (b : Kept) → Midway c main first s b steppers steppers parts [] k → Midway c main first s b steppers [] [] told new) → HasWaved code before new told
awaited_waved code before k new steppers parts told h ends = waved code before k new steppers h.bodies parts told h.lent.are_steppers h.lent.filled h.lent.beside h.parts_are ends

pub awaited_kept : (code : CodeParts) (before k new : Kept) (steppers : List TaskNo) (parts : List Segment) (told : List Turn) → AwaitsParts code before k steppers parts
    → ((c : CodeParts) (main : Start CodeScript) (first : List ℕ) (s : State CodeScript) (b : Kept) → Midway c main first s b steppers steppers parts [] k → Midway c main first s b steppers [] [] told new) → KeepsTasks k.tree.tasks new.tree.tasks
awaited_kept code before k new steppers parts told h ends =
    subst (λ (ts : List TreeTask). KeepsTasks ts new.tree.tasks) (sym (ap (λ (t : tree.Kept). t.tasks) h.lent.beside.tree))
    (keeps_tasks_after code before k new steppers h.bodies parts told (running_before h) h.lent.are_steppers h.lent.filled h.lent.beside h.parts_are ends)

-- what it leaves
pub awaited_turned : (code : CodeParts) (before k new : Kept) (steppers : List TaskNo) (parts : List Segment) (told : List Turn) → AwaitsParts code before k steppers parts
    → ((c : CodeParts) (main : Start CodeScript) (first : List ℕ) (s : State CodeScript) (b : Kept) → Midway c main first s b steppers steppers parts [] k → Midway c main first s b steppers [] [] told new) → WasWave told before new
awaited_turned code before k new steppers parts told h ends =
    let m = ends code h.main h.first h.state before (wave_begun code h.main h.first h.state before k steppers h.bodies parts h.core h.lent.are_steppers h.lent.filled h.lent.beside.tree h.lent.beside.seen h.lent.beside.cells h.parts_are) in
    record { turned = wave_leaves code h.main h.first h.state before steppers told new m; may = wave_may code h.main h.first h.state before steppers told new m }

-- the tasks that may act are there
pub steppers_there : (code : CodeParts) (before : Kept) (steppers : List TaskNo) → IsRunning code before → AreSteppers before steppers → (v : TaskNo) → IsIn v steppers → v.0 < length before.tasks
steppers_there code before steppers running are v i = let m = are.may v i in slice_get_within before.tasks v.0 m.held m.is

-- what follows of an answer, whatever the answer is
pub ok_after : {A E : Type 0} {F : A → Type 0} {U : Type 0} (r : Result A E) → ((x : A) → F x → U) → IfOk r F → OnOk r U
ok_after (Ok x) f t = f x t
ok_after (Err e) f t = tt
