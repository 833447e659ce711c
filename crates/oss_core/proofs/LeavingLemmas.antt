-- What waves and passes leave as it was, run by run and part by part.
use Rattle.std.proofs.Common.{◌≡◌, ℕ, suc, ◌<◌, ◌⊎◌, inl, inr, refl, sym, subst, ap, ◌∙◌, arith, List, [], ◌∷◌, ◌++◌, append_assoc, length, Bool, true, false, Some, None}
use Rattle.std.specs.Prelude.{if◌then◌else◌, slice_get, slice_set, ◌==◌, ◌&&◌, ◌||◌}
use Rattle.std.proofs.lemmas.Bool.Decides.{nat_tests}
use Rattle.std.proofs.lemmas.List.{append-nil}
use Rattle.std.proofs.lemmas.Option.{slice_get_within}
use Rattle.oss_syntax.specs.declared.access.Access.{Access}
use Rattle.oss_model.specs.Order.{IsIn, here, there}
use Rattle.oss_model.specs.declared.task_no.TaskNo.{TaskNo}
use Rattle.oss_ranges.specs.Cells.{Assigns, is_within, value_at}
use Rattle.oss_ranges.specs.declared.piece.Piece.{Piece}
use Rattle.oss_code.specs.declared.code.CodeParts.{CodeParts}
use Rattle.oss_body.specs.declared.body.Body.{Body}
use Rattle.oss_body.specs.Relation.{has_wait, is_over}
use Rattle.oss_tree.specs.declared.output.Print.{Print}
use Rattle.oss_tree.specs.declared.task.Task.{Task as TreeTask}
use Rattle.oss_tree.specs.Tasks.{changed, changed_to, created_by, ended_task, given_task, grown, new_task, with_child}
use Rattle.oss_tree.proofs.ListLemmas.{get_front, get_set_other, there_is}
use Rattle.oss_deps.specs.declared.opened.Open.{Open}
use Rattle.oss_deps.specs.Seen.{Seen}
use Rattle.oss_kept_tasks.specs.declared.held.Held.{Held}
use Rattle.oss_kept_tasks.specs.declared.held.Owed.{Owed}
use Rattle.oss_core.specs.declared.creating.Newborn.{Newborn}
use Rattle.oss_core.specs.declared.passing.Passed.{Passed}
use Rattle.oss_core.specs.declared.turns.Turn.{Turn}
use Rattle.oss_core.specs.Changes.{GivesUp, IsChanged, noted, noted_given, noted_new}
use Rattle.oss_core.specs.Kept.{Kept}
use Rattle.oss_core.specs.Leaving.{HasGiven, HasTurn, HaveGivenUp, HaveTurned, OwesLess}
use Rattle.oss_core.specs.Passing.{CellsPassed, IsAdded, IsToldOf, LetsRange, RunPassed, TasksPassed, joins, lets, more_cells, more_tasks, no_cells, no_tasks, stays}
use Rattle.oss_core.specs.Putting.{IsPut, OpensAll, entry_of, held_of, with_newborn, with_newborns}
use Rattle.oss_core.proofs.EntryLemmas.{both}
use Rattle.oss_core.proofs.FillLemmas.{get_within}
use Rattle.oss_core.proofs.KeepLemmas.{some_is, which}
use Rattle.oss_core.proofs.PutFacts.{some_or_none}
use Rattle.oss_core.proofs.SteppersLemmas.{in_cases, in_front, in_rest}

-- a task of the tree where another changes
changed_other : (change : TreeTask → TreeTask) (tasks : List TreeTask) (m w : ℕ) → (w ≡ m → ⊥) → slice_get (changed tasks m change) w ≡ slice_get tasks w
changed_other change tasks m w n = go (some_or_none (slice_get tasks m))
  where
    go : (slice_get tasks m ≡ None) ⊎ ((one : TreeTask) × (slice_get tasks m ≡ Some one)) → slice_get (changed tasks m change) w ≡ slice_get tasks w
    go (inl e) = ap (λ o. slice_get (changed_to tasks m change o) w) e
    go (inr (one, e)) = ap (λ o. slice_get (changed_to tasks m change o) w) e ∙ get_set_other tasks m w (change one) n

given_other : (tasks : List TreeTask) (v w : ℕ) (last : Bool) → (w ≡ v → ⊥) → slice_get (noted_given v last tasks) w ≡ slice_get tasks w
given_other tasks v w false n = refl
given_other tasks v w true n = changed_other given_task tasks v w n

pub noted_other : (tasks : List TreeTask) (v w : ℕ) (over : Bool) → (w ≡ v → ⊥) → slice_get (noted v over tasks) w ≡ slice_get tasks w
noted_other tasks v w false n = refl
noted_other tasks v w true n = changed_other ended_task tasks v w n

pub new_other : (accesses : List Access) (tasks : List TreeTask) (m w : ℕ) → (w ≡ m → ⊥) → slice_get (noted_new accesses m tasks) w ≡ slice_get tasks w
new_other [] tasks m w n = changed_other given_task tasks m w n
new_other (a ∷ more) tasks m w n = refl

pub grown_other : (tasks : List TreeTask) (v w : ℕ) (wait : Bool) (one : TreeTask) → (w ≡ v → ⊥) → slice_get tasks w ≡ Some one → slice_get (grown tasks v wait) w ≡ Some one
grown_other tasks v w wait one n e = go (some_or_none (slice_get tasks v))
  where
    go : (slice_get tasks v ≡ None) ⊎ ((creator : TreeTask) × (slice_get tasks v ≡ Some creator)) → slice_get (grown tasks v wait) w ≡ Some one
    go (inl f) = ap (λ o. slice_get (created_by tasks v wait o) w) f ∙ e
    go (inr (creator, f)) =
        ap (λ o. slice_get (created_by tasks v wait o) w) f
        ∙ get_front (slice_set tasks v (with_child creator (length tasks))) (new_task creator v wait) w one (get_set_other tasks v w (with_child creator (length tasks)) n ∙ e)

-- what was told of a pass

given_first : {x : Passed} {xs : List Passed} → HasGiven (x ∷ xs) x.task.0
given_first {x = x} = record { one = x; listed = here; task = refl }

given_later : {x : Passed} {xs : List Passed} {v : ℕ} → HasGiven xs v → HasGiven (x ∷ xs) v
given_later h = record { one = h.one; listed = there h.listed; task = h.task }

given_cases : {x : Passed} {xs : List Passed} {v : ℕ} → HasGiven (x ∷ xs) v → (v ≡ x.task.0) ⊎ HasGiven xs v
given_cases {x = x} {xs = xs} {v = v} h = go (in_cases h.listed)
  where
    go : (h.one ≡ x) ⊎ IsIn h.one xs → (v ≡ x.task.0) ⊎ HasGiven xs v
    go (inl e) = inl (sym h.task ∙ ap (λ (p : Passed). p.task.0) e)
    go (inr i) = inr (record { one = h.one; listed = i; task = h.task })

-- the task of one run more is told
added_itself : (one : Passed) (before after : List Passed) → IsAdded one before after → HasGiven after one.task.0
added_itself one [] after e = subst (λ (ps : List Passed). HasGiven ps one.task.0) (sym e) given_first
added_itself one (y ∷ []) after (inl (g, (z, are, e))) =
    subst (λ (ps : List Passed). HasGiven ps one.task.0) (sym e) (subst (λ (v : ℕ). HasGiven (z ∷ []) v) (are.task ∙ g.task) given_first)
added_itself one (y ∷ []) after (inr (apart, e)) = subst (λ (ps : List Passed). HasGiven ps one.task.0) (sym e) (given_later given_first)
added_itself one (y ∷ z ∷ ys) after (more, add, e) = subst (λ (ps : List Passed). HasGiven ps one.task.0) (sym e) (given_later (added_itself one (z ∷ ys) more add))

-- and so are those that were told before
added_before : (one : Passed) (before after : List Passed) → IsAdded one before after → (v : ℕ) → HasGiven before v → HasGiven after v
added_before one [] after e v h = absurd (none h.listed)
  where
    none : IsIn h.one [] → ⊥
    none i = elim i [ ]
added_before one (y ∷ []) after add v h = go add (given_cases h)
  where
    none : HasGiven [] v → ⊥
    none g = elim g.listed [ ]

    go : IsAdded one (y ∷ []) after → (v ≡ y.task.0) ⊎ HasGiven [] v → HasGiven after v
    go a (inr g) = absurd (none g)
    go (inl (g, (z, are, e))) (inl f) = subst (λ (ps : List Passed). HasGiven ps v) (sym e) (subst (λ (w : ℕ). HasGiven (z ∷ []) w) (are.task ∙ sym f) given_first)
    go (inr (apart, e)) (inl f) = subst (λ (ps : List Passed). HasGiven ps v) (sym e) (subst (λ (w : ℕ). HasGiven (y ∷ one ∷ []) w) (sym f) given_first)
added_before one (y ∷ z ∷ ys) after (more, add, e) v h = subst (λ (ps : List Passed). HasGiven ps v) (sym e) (go (given_cases h) (λ g. added_before one (z ∷ ys) more add v g))
  where
    go : (v ≡ y.task.0) ⊎ HasGiven (z ∷ ys) v → (HasGiven (z ∷ ys) v → HasGiven more v) → HasGiven (y ∷ more) v
    go (inl f) on = subst (λ (w : ℕ). HasGiven (y ∷ more) w) (sym f) given_first
    go (inr g) on = given_later (on g)

-- Each task has its body, and owes at most what it owed.
abbrev LessOwed : List Held → List Held → Type 0
LessOwed old new = (v : ℕ) (before : Held) → slice_get old v ≡ Some before → (after : Held) × (slice_get new v ≡ Some after) × OwesLess before after

-- One task has given up cells: no other has, and of no other the tree knows more.
record GivesOne (v : ℕ) (old new : Kept) : Type 0 where
  held : LessOwed old.tasks new.tasks
  tree : (w : ℕ) → (w ≡ v → ⊥) → slice_get new.tree.tasks w ≡ slice_get old.tree.tasks w
  opens : new.seen.opens ≡ old.seen.opens
  given : (t c : ℕ) → new.seen.given t c ≡ true → (old.seen.given t c ≡ true) ⊎ (t ≡ v)

less_itself : (one : Held) → OwesLess one one
less_itself one = record { body = refl; owed = λ c way e. e }

less_then : {a b c : Held} → OwesLess a b → OwesLess b c → OwesLess a c
less_then x y = record { body = y.body ∙ x.body; owed = λ c way e. x.owed c way (y.owed c way e) }

changed_less : (old new : List Held) (v : ℕ) (before after : Held) → IsChanged old new v before after → OwesLess before after → LessOwed old new
changed_less old new v before after ch less w one e = go (which w v)
  where
    go : (w ≡ v) ⊎ (w ≡ v → ⊥) → (other : Held) × (slice_get new w ≡ Some other) × OwesLess one other
    go (inl f) =
        let same : before ≡ one = some_is (sym ch.was ∙ ap (λ (u : ℕ). slice_get old u) (sym f) ∙ e) in
        (after, ap (λ (u : ℕ). slice_get new u) f ∙ ch.is, subst (λ (h : Held). OwesLess h after) same less)
    go (inr n) = (one, ch.others w n ∙ e, less_itself one)

-- what is owed behind a range of cells was owed before
assigned_less : (lo hi : ℕ) (old new : List (Piece Owed)) → Assigns lo hi None old new → (c : ℕ) (way : Owed) → value_at new c ≡ Some way → value_at old c ≡ Some way
assigned_less lo hi old new f c way e = go (is_within lo hi c) (sym (f c) ∙ e)
  where
    go : (b : Bool) → (if b then None else value_at old c) ≡ Some way → value_at old c ≡ Some way
    go true g = absurd cc
    go false g = g

or_cases : (a b : Bool) → (a || b) ≡ true → (a ≡ true) ⊎ (b ≡ true)
or_cases true b e = inl refl
or_cases false b e = inr e

-- a pair of task and cell that is given now
given_pair : (old : Bool) (v t : ℕ) (cell : Bool) (new : Bool) → new ≡ (old || ((v == t) && cell)) → new ≡ true → (old ≡ true) ⊎ (t ≡ v)
given_pair old v t cell new f e = go (or_cases old ((v == t) && cell) (sym f ∙ e))
  where
    go : (old ≡ true) ⊎ (((v == t) && cell) ≡ true) → (old ≡ true) ⊎ (t ≡ v)
    go (inl g) = inl g
    go (inr g) = let h = (both (v == t) cell g).0 in inr (grind (arith, nat_tests, h))

range_gives : (v lo hi : ℕ) (old new : Kept) → LetsRange v lo hi old new → GivesOne v old new
range_gives v lo hi old new x =
    let c = x.cleared in
    record {
      held = changed_less old.tasks new.tasks v c.before c.after c.changed_is (record { body = c.body; owed = assigned_less lo hi c.before.owed.pieces c.after.owed.pieces c.owed });
      tree = λ w n. ap (λ (ts : List TreeTask). slice_get ts w) x.tasks ∙ given_other old.tree.tasks v w x.last n;
      opens = x.opens;
      given = λ t k e. given_pair (old.seen.given t k) v t (is_within lo hi k) (new.seen.given t k) (x.given t k) e;
    }

cell_gives : (v c : ℕ) (old new : Kept) → GivesUp v c old new → GivesOne v old new
cell_gives v c old new x = record {
  held = changed_less old.tasks new.tasks v x.before x.after x.changed_is (record { body = x.body; owed = assigned_less c (suc c) x.before.owed.pieces x.after.owed.pieces x.owed });
  tree = λ w n. ap (λ (ts : List TreeTask). slice_get ts w) x.tasks ∙ given_other old.tree.tasks v w x.last n;
  opens = x.opens;
  given = λ t k e. given_pair (old.seen.given t k) v t (c == k) (new.seen.given t k) (x.given t k) e;
}

-- one run more
one_gives : (v lo hi : ℕ) (joined : Bool) (old mid new : Kept) (told after : List Passed) → HaveGivenUp told old mid → GivesOne v mid new → IsToldOf v lo hi joined told after → HaveGivenUp after old new
one_gives v lo hi joined old mid new told after x g (one, is, add) = record {
  held = λ w before e. let m = x.held w before e in let n = g.held w m.0 m.1 in (n.0, n.1, less_then m.2 n.2);
  tree = λ w none. g.tree w (λ f. none (itself w f)) ∙ x.tree w (λ h. none (added_before one told after add w h));
  opens = g.opens ∙ x.opens;
  given = λ t c e. go t c (g.given t c e);
}
  where
    itself : (w : ℕ) → w ≡ v → HasGiven after w
    itself w f = subst (λ (u : ℕ). HasGiven after u) (is.task ∙ sym f) (added_itself one told after add)

    was : (t c : ℕ) → (old.seen.given t c ≡ true) ⊎ HasGiven told t → (old.seen.given t c ≡ true) ⊎ HasGiven after t
    was t c (inl e) = inl e
    was t c (inr h) = inr (added_before one told after add t h)

    go : (t c : ℕ) → (mid.seen.given t c ≡ true) ⊎ (t ≡ v) → (old.seen.given t c ≡ true) ⊎ HasGiven after t
    go t c (inl e) = was t c (x.given t c e)
    go t c (inr f) = inr (itself t f)

pub run_leaves : {code : CodeParts} {v lo hi : ℕ} {old mid new : Kept} {told after : List Passed} → HaveGivenUp told old mid → RunPassed code v lo hi mid new told after → HaveGivenUp after old new
run_leaves {old = old} {mid = mid} {after = after} x (stays none same e) = subst (λ (k : Kept). HaveGivenUp after old k) (sym same) (subst (λ (ps : List Passed). HaveGivenUp ps old mid) (sym e) x)
run_leaves {v = v} {lo = lo} {hi = hi} {old = old} {mid = mid} {new = new} {told = told} {after = after} x (lets may range is) = one_gives v lo hi false old mid new told after x (range_gives v lo hi mid new range) is
run_leaves {v = v} {lo = lo} {hi = hi} {old = old} {mid = mid} {new = new} {told = told} {after = after} x (joins op e may made is) = one_gives v lo hi true old mid new told after x (cell_gives v lo mid new made.gives) is

-- nothing was passed
pub nothing_given : (k : Kept) → HaveGivenUp [] k k
nothing_given k = record { held = λ v before e. (before, e, less_itself before); tree = λ v none. refl; opens = refl; given = λ t c e. inl e }

-- all cells of a task
cells_leave : {code : CodeParts} {v : ℕ} {old mid : Kept} {told : List Passed} → HaveGivenUp told old mid → {hi : ℕ} {new : Kept} {after : List Passed} → CellsPassed code v mid told hi new after → HaveGivenUp after old new
cells_leave x no_cells = x
cells_leave x (more_cells c l r) = run_leaves (cells_leave x c) r

-- and tasks, one after the other
pub tasks_leave : {code : CodeParts} {left : List TaskNo} {old : Kept} {i : ℕ} {new : Kept} {told : List Passed} → TasksPassed code left old i new told → HaveGivenUp told old new
tasks_leave {old = old} no_tasks = nothing_given old
tasks_leave (more_tasks t e done) = cells_leave (tasks_leave t) done.cells

-- turns of a wave

turn_itself : (told : List Turn) (one : Turn) → HasTurn (told ++ one ∷ []) one.task.0
turn_itself told one = record { one = one; listed = in_rest told (one ∷ []) here; task = refl }

turn_before : (told : List Turn) (one : Turn) (w : ℕ) → HasTurn told w → HasTurn (told ++ one ∷ []) w
turn_before told one w h = record { one = h.one; listed = in_front told (one ∷ []) h.listed; task = h.task }

-- new tasks leave the others
newborns_other : (v w : ℕ) (xs : List Newborn) (tasks : List TreeTask) (one : TreeTask) → (w ≡ v → ⊥) → slice_get tasks w ≡ Some one → slice_get (with_newborns v xs tasks) w ≡ Some one
newborns_other v w [] tasks one n e = e
newborns_other v w (x ∷ xs) tasks one n e =
    newborns_other v w xs (with_newborn v x tasks) one n (new_other x.accesses (grown tasks v (has_wait x.held.body)) (length tasks) w behind ∙ grown_other tasks v w (has_wait x.held.body) one n e)
  where
    behind : w ≡ length tasks → ⊥
    behind f = let l = slice_get_within tasks w one e in omega (arith, l, f)

-- they are opened behind all others, and no cell is given up
opens_all : (creator m : ℕ) (xs : List Newborn) (old new : Seen) → OpensAll creator m xs old new → (opened : List Open) × (new.opens ≡ old.opens ++ opened) × ((t c : ℕ) → new.given t c ≡ old.given t c)
opens_all creator m [] old new h = ([], h.opens ∙ sym (append-nil old.opens), h.given)
opens_all creator m (x ∷ xs) old new (mid, o, h) =
    let r = opens_all creator (suc m) xs mid new h in
    (entry_of m creator x ∷ r.0, r.1 ∙ ap (λ (os : List Open). os ++ r.0) o.opens ∙ append_assoc old.opens (entry_of m creator x ∷ []) r.0, (λ t c. r.2 t c ∙ o.given t c))

-- no turn was taken
pub nothing_turned : (k : Kept) → HaveTurned [] k k
nothing_turned k = record { held = λ v l none. refl; tree = λ v l none. refl; opened = []; opens = sym (append-nil k.seen.opens); given = λ t c. refl }

-- one turn more
pub turn_leaves : (told : List Turn) (one : Turn) (v : ℕ) → one.task.0 ≡ v → (xs : List Newborn) (body : Body) (prints : List Print) (before old new : Kept) → HaveTurned told before old → IsPut v xs body prints old new → HaveTurned (told ++ one ∷ []) before new
turn_leaves told one v is xs body prints before old new x put =
    let r = opens_all v (length old.tasks) xs old.seen new.seen put.seen in
    record {
      held = λ w l none. held w l none;
      tree = λ w l none. tree w l none;
      opened = x.opened ++ r.0;
      opens = r.1 ∙ ap (λ (os : List Open). os ++ r.0) x.opens ∙ append_assoc before.seen.opens x.opened r.0;
      given = λ t c. r.2 t c ∙ x.given t c;
    }
  where
    other : (w : ℕ) → (HasTurn (told ++ one ∷ []) w → ⊥) → w ≡ v → ⊥
    other w none e = none (subst (λ (u : ℕ). HasTurn (told ++ one ∷ []) u) (is ∙ sym e) (turn_itself told one))

    held : (w : ℕ) → w < length before.tasks → (HasTurn (told ++ one ∷ []) w → ⊥) → slice_get new.tasks w ≡ slice_get before.tasks w
    held w l none =
        let b = there_is before.tasks w l in
        let o : slice_get old.tasks w ≡ Some b.0 = x.held w l (λ h. none (turn_before told one w h)) ∙ b.1 in
        ap (λ (ts : List Held). slice_get ts w) put.tasks
        ∙ get_within (slice_set old.tasks v put.after) (held_of xs) w b.0 (get_set_other old.tasks v w put.after (other w none) ∙ o)
        ∙ sym b.1

    tree : (w : ℕ) → w < length before.tree.tasks → (HasTurn (told ++ one ∷ []) w → ⊥) → slice_get new.tree.tasks w ≡ slice_get before.tree.tasks w
    tree w l none =
        let b = there_is before.tree.tasks w l in
        let o : slice_get old.tree.tasks w ≡ Some b.0 = x.tree w l (λ h. none (turn_before told one w h)) ∙ b.1 in
        ap (λ (ts : List TreeTask). slice_get ts w) put.tree
        ∙ noted_other (with_newborns v xs old.tree.tasks) v w (is_over body) (other w none)
        ∙ newborns_other v w xs old.tree.tasks b.0 (other w none) o
        ∙ sym b.1
