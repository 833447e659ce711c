-- The creation of a task: behind it the core stands for the state after the act.
use Rattle.std.proofs.Common.{◌≡◌, ℕ, ◌+◌, refl, sym, subst, ap, ◌∙◌, List, [], ◌∷◌, ◌++◌, Bool, true, false, arith, Some, None, length, length-set}
use Rattle.std.specs.Prelude.{slice_get, slice_set}
use Rattle.std.proofs.lemmas.Option.{slice_get_past, slice_get_within}
use Rattle.oss_syntax.specs.declared.access.Access.{Access}
use Rattle.oss_model.specs.Order.{IsIn, written}
use Rattle.oss_model.specs.Context.{right_of}
use Rattle.oss_model.specs.Bodies.{Order, Start, Act, Body, child_start, stage_created}
use Rattle.oss_model.specs.Bodies.Act.{Created}
use Rattle.oss_model.specs.Machine.{Task, State, Owes}
use Rattle.oss_model.specs.Moves.{act_now, created_now, cells_after, new_task, CanStep, Stepped, moves, steps}
use Rattle.oss_model.proofs.BodyLemmas.{stack_ok}
use Rattle.oss_model.proofs.StageLemmas.{created_goes_on, start_goes_on}
use Rattle.oss_ranges.specs.Cells.{value_at}
use Rattle.oss_code.specs.declared.code.CodeParts.{CodeParts}
use Rattle.oss_machine.specs.Frames.{CodeScript}
use Rattle.oss_machine.specs.Machines.{asks}
use Rattle.oss_body.specs.declared.act.Act.{Act as KeptAct}
use Rattle.oss_body.specs.Relation.{IsBody, has_wait}
use Rattle.oss_tree.specs.declared.task.Task.{Task as TreeTask}
use Rattle.oss_tree.specs.Tasks as tree
use Rattle.oss_tree.specs.Tasks.{HasPoint, IsTree, changed, changed_to, created_by, given_task, with_child}
use Rattle.oss_tree.proofs.ListLemmas.{get_set_other, get_set_same, longer_by}
use Rattle.oss_tree.proofs.ChangeLemmas.{tree_after}
use Rattle.oss_tree.proofs.GrowLemmas.{tree_more}
use Rattle.oss_deps.specs.declared.opened.Open.{Open}
use Rattle.oss_deps.specs.Opens.{IsRising, access_at}
use Rattle.oss_core.specs.Below.{MayOpen}
use Rattle.oss_core.specs.Changes.{Creates, noted_new}
use Rattle.oss_core.specs.Kept.{IsCore, IsHeld, IsKnown, AreHeld, AreKnown, Kept, own, owed_of}
use Rattle.oss_core.specs.Moving.{AreSound, Grown}
use Rattle.oss_core.specs.Standing.{AreRightsOf, AreTasks, StandsFor}
use Rattle.oss_core.proofs.ActLemmas.{created_order, finds_nothing, running, found, next, bodies, act_is, body_goes}
use Rattle.oss_core.proofs.CoreLemmas.{held_same, known_same, sides_grow, made, body_at, held_at, known_at, own_task, own_path}
use Rattle.oss_core.proofs.CountLemmas.{written_child, children_count, room, low}
use Rattle.oss_core.proofs.EntryLemmas.{in_added, rising_once}
use Rattle.oss_core.proofs.GrowLemmas as grow
use Rattle.oss_core.proofs.MadeLemmas.{given_same}
use Rattle.oss_core.proofs.NewLemmas.{follows_rising, are_rights, owed_same, first_cell, owed_by_new}
use Rattle.oss_core.proofs.OpenLemmas.{may_open}
use Rattle.oss_core.proofs.PrintLemmas.{prints_same}
use Rattle.oss_core.proofs.PushLemmas.{grown_list}

module _ (code : CodeParts) (main : Start CodeScript) (first : List ℕ) (old new : Kept) (s : State CodeScript) (core : IsCore code main first old s) (v : ℕ) (p : List ℕ) (t : Task CodeScript) (point : HasPoint old.tree.tasks v (written p))
    (can : CanStep (asks code) s p t) (act : KeptAct) (cr : Creates code v act old new) (order : Order CodeScript) (act_now_is : act_now (asks code) t.body ≡ Created order false) where
  -- the number of the new task, its body and its entry
  abbrev m : ℕ
  m = length old.tasks

  -- the body behind the act
  abbrev now : Body CodeScript
  now = next code main first old s core v p t point can

  -- the body of the new task
  abbrev child : Body CodeScript
  child = (new_task (asks code) t.body order).body

  -- all bodies behind the act
  abbrev more : List (Body CodeScript)
  more = bodies code main first old s core v p t point can ++ child ∷ []

  -- the entry of the new task
  abbrev entry : Open
  entry = record { task = length old.tasks; parent = v; accesses = cr.accesses }

  -- what is kept of the task before the act
  before_held : IsHeld code (old.seen.given v) t.body cr.before
  before_held = held_at code main first old s core v p t point can.at_ cr.before cr.grown_is.was

  -- what is kept of the new task is its body
  child_kept : IsBody code child.start [] cr.child.body
  child_kept = cr.created.body t.body.start t.body.found order before_held.body_is act_now_is

  -- the accesses of the new task rise
  rising : IsRising cr.accesses
  rising = follows_rising cr.accesses cr.created.rising

  -- and they give its rights
  rights : AreRightsOf cr.accesses child.start.context
  rights = are_rights cr.accesses child.start.context rising (cr.created.rights child.start [] child_kept)

  -- the path of the new task
  new_path : child.start.path ≡ created_now (asks code) t.body ∷ p
  unfolding child_start stage_created
  new_path = ap (λ (q : List ℕ). created_now (asks code) t.body ∷ q) ((stack_ok (asks code) t.body.start t.body.found).path ∙ own_path code main first old s core v p t point can.at_)

  -- one body has gone on, and one more is there
  bodies_grown : Grown core.bodies more v now m child
  bodies_grown = grown_list core.bodies v m t.body now child (body_at code main first old s core v p t point can.at_) core.held.size

  -- there is one body more
  size_more : length more ≡ length core.bodies + 1
  size_more = let a = longer_by (bodies code main first old s core v p t point can) child in let b = length-set core.bodies v now in omega (arith, a, b)

  -- the entry may be opened
  may : MayOpen old.seen.opens entry
  may = may_open (asks code) own core.bodies old.seen.opens core.sound.tasks v t.body (body_at code main first old s core v p t point can.at_) order act_now_is child refl entry bodies_grown.fresh refl rights (rising_once cr.accesses rising)

  -- the new number has given up nothing
  free : (k : ℕ) → old.seen.given m k ≡ true → ⊥
  free k h = let l = core.sound.within m k h in let z = core.held.size in absurd (omega (arith, l, z))

  -- nor has it behind the act
  not_given : (k : ℕ) → new.seen.given m k ≡ false
  not_given k = go (new.seen.given m k) refl
    where
      go : (b : Bool) → new.seen.given m k ≡ b → new.seen.given m k ≡ false
      go true e = absurd (free k (sym (cr.seen.given m k) ∙ e))
      go false e = e

  -- the state behind the creation
  abbrev after : State CodeScript
  after = grow.now (asks code) own core.bodies more old.seen.opens old.seen.given old.cells s core.sound.tasks core.stands v p t (own_task code main first old s core v p t point can.at_) core.sound.below now child m bodies_grown order act_now_is refl refl entry refl refl rights may free

  -- the act leads to it
  stepped : Stepped (asks code) s p t after
  stepped = grow.steps (asks code) own core.bodies more old.seen.opens old.seen.given old.cells s core.sound.tasks core.stands v p t (own_task code main first old s core v p t point can.at_) core.sound.below now child m bodies_grown order act_now_is refl refl entry refl refl rights may free

  -- bodies and entries are of the same tasks
  tasks_now : AreTasks own more (old.seen.opens ++ entry ∷ [])
  tasks_now = grow.tasks_grow (asks code) own core.bodies more old.seen.opens old.seen.given old.cells s core.sound.tasks core.stands v p t (own_task code main first old s core v p t point can.at_) core.sound.below now child m bodies_grown order act_now_is refl refl entry refl refl rights may free

  -- what is kept of bodies and entries goes on to be sound
  sound_now : AreSound (asks code) own (λ b. Unit {0}) more new.seen.opens new.seen.given
  sound_now = record {
    tasks = subst (λ (os : List Open). AreTasks own more os) (sym cr.seen.opens) tasks_now;
    of_code = λ w b h. tt;
    below = λ o i l. grow.below_all (asks code) own core.bodies more old.seen.opens old.seen.given old.cells s core.sound.tasks core.stands v p t (own_task code main first old s core v p t point can.at_) core.sound.below now child m bodies_grown order act_now_is refl refl entry refl refl rights may free
        o l (in_added old.seen.opens entry (subst (λ (os : List Open). IsIn o os) cr.seen.opens i));
    within = λ w k h. let l = core.sound.within w k (sym (cr.seen.given w k) ∙ h) in let z = size_more in omega (arith, l, z);
  }

  -- and stands for the state
  stands_now : StandsFor own more new.seen.given new.cells after
  stands_now =
      given_same own more old.seen.given new.seen.given new.cells after cr.seen.given
      (subst (λ (cs : List ℕ). StandsFor own more old.seen.given cs after) (ap (λ (a : Act CodeScript). cells_after a old.cells) act_now_is ∙ sym cr.cells)
      (grow.stands_grow (asks code) own core.bodies more old.seen.opens old.seen.given old.cells s core.sound.tasks core.stands v p t (own_task code main first old s core v p t point can.at_) core.sound.below now child m bodies_grown order act_now_is refl refl entry refl refl rights may free))

  -- what is kept of the tasks
  own_held : IsHeld code (new.seen.given v) now cr.after
  own_held = record {
    body_is = body_goes code main first old s core v p t point can act cr.before cr.after cr.grown_is.was 0 cr.goes (finds_nothing act old.cells cr.creates_is);
    owed_is = λ c. ap (λ ps. value_at ps c) cr.goes.owed ∙ before_held.owed_is c ∙ ap (λ (g : Bool). owed_of t.body.start.path g (right_of t.body.start.context c)) (sym (cr.seen.given v c));
  }

  -- what is kept of the new task
  child_held : IsHeld code (new.seen.given m) child cr.child
  child_held = record {
    body_is = child_kept;
    owed_is = λ c. cr.created.owed c ∙ owed_same cr.accesses child.start.context rising (cr.created.rights child.start [] child_kept) c
        ∙ sym (owed_by_new child.start.path (created_now (asks code) t.body) p (new.seen.given m c) (right_of child.start.context c) new_path (not_given c));
  }

  -- what is kept of all
  held_now : AreHeld code new.seen.given more new.tasks
  held_now = record {
    size = let a = cr.grown_is.size in let b = core.held.size in let z = size_more in omega (arith, a, b, z);
    each = sides_grow (λ w x y. IsHeld code (old.seen.given w) x y) (λ w x y. IsHeld code (new.seen.given w) x y) core.bodies more old.tasks new.tasks v now cr.after m child cr.child bodies_grown
        (record { now = cr.grown_is.is; new = cr.grown_is.added; others = cr.grown_is.others; fresh = slice_get_past old.tasks m (omega arith) })
        core.held.each (λ w x y h. held_same code (old.seen.given w) (new.seen.given w) x y (cr.seen.given w) h) own_held child_held;
  }

  -- what the tree knows of the tasks
  abbrev wait : Bool
  wait = has_wait cr.child.body

  -- the creator in the tree
  abbrev creator_task : TreeTask
  creator_task = with_child point.task (length old.tree.tasks)

  -- the new task in the tree
  abbrev child_task : TreeTask
  child_task = tree.new_task point.task v wait

  -- all tasks of the tree
  abbrev tasks_more : List TreeTask
  tasks_more = slice_set old.tree.tasks v creator_task ++ child_task ∷ []

  -- the new task has one number
  same_number : m ≡ length old.tree.tasks
  same_number = core.held.size ∙ sym core.known.size

  -- one task has one child more, and one more task is there
  tree_grown : Grown old.tree.tasks tasks_more v creator_task m child_task
  tree_grown = grown_list old.tree.tasks v m point.task creator_task child_task point.at_ same_number

  -- they are those of a tree
  tree_is : IsTree tasks_more
  tree_is = tree_more old.tree.tasks v point.task wait point.at_ core.known.tree_is (room code main first old s core v p t point can.at_ order act_now_is) (low code main first old s core v p t point can.at_ order act_now_is)

  -- there is one task more
  size_tree : length tasks_more ≡ length old.tree.tasks + 1
  size_tree = let a = longer_by (slice_set old.tree.tasks v creator_task) child_task in let b = length-set old.tree.tasks v creator_task in omega (arith, a, b)

  -- what is known of the creator
  creator_known : IsKnown (asks code) (new.seen.given v) now creator_task
  creator_known =
      let k = known_same code (old.seen.given v) (new.seen.given v) t.body point.task (cr.seen.given v) (known_at code main first old s core v p t point can.at_) in
      record {
        point = k.point;
        ended = k.ended ∙ running code main first old s core v p t point can ∙ sym (created_goes_on (asks code) t.body.start (found code main first old s core v p t point can) t.body.found order act_now_is);
        gave_all = k.gave_all;
      }

  -- the point of the new task
  child_point : child_task.point ≡ written child.start.path
  child_point =
      ap (λ (q : List ℕ). q ++ length point.task.children ∷ []) point.point
      ∙ ap (λ (k : ℕ). written p ++ k ∷ []) (children_count code main first old s core v p t point can.at_ order act_now_is)
      ∙ sym (written_child (created_now (asks code) t.body) p) ∙ ap written (sym new_path)

  -- the tree behind a creation, where the new task stands in it so
  known_grown : (tasks : List TreeTask) (one : TreeTask) → IsTree tasks → length tasks ≡ length old.tree.tasks + 1 → Grown old.tree.tasks tasks v creator_task m one → IsKnown (asks code) (new.seen.given m) child one → AreKnown (asks code) new.seen.given more tasks
  known_grown tasks one is size g k = record {
    tree_is = is;
    size = let a = core.known.size in let z = size_more in omega (arith, a, size, z);
    each = sides_grow (λ w x y. IsKnown (asks code) (old.seen.given w) x y) (λ w x y. IsKnown (asks code) (new.seen.given w) x y) core.bodies more old.tree.tasks tasks v now creator_task m child one bodies_grown g
        core.known.each (λ w x y h. known_same code (old.seen.given w) (new.seen.given w) x y (cr.seen.given w) h) creator_known k;
  }

  -- with accesses, or without: then the new task has given up all
  known_by : (accesses : List Access) → cr.accesses ≡ accesses → AreKnown (asks code) new.seen.given more (noted_new accesses (length old.tree.tasks) tasks_more)
  known_by (a ∷ rest) e =
      known_grown tasks_more child_task tree_is size_tree tree_grown (record {
        point = child_point;
        ended = sym (start_goes_on (asks code) child.start);
        gave_all = ((λ g. absurd cc), (λ f. let z : false ≡ true = sym (not_given a.range.lo) ∙ f a.range.lo owes in absurd cc));
      })
    where
      owes : Owes child.start.path child.start.context a.range.lo
      owes = subst (λ (q : List ℕ). Owes q child.start.context a.range.lo) (sym new_path) (a.mode, a.strong, rights.held a.range.lo a (ap (λ (xs : List Access). access_at xs a.range.lo) e ∙ first_cell a rest))
  known_by [] e =
      let is : slice_get tasks_more (length old.tree.tasks) ≡ Some child_task = ap (λ (i : ℕ). slice_get tasks_more i) (sym same_number) ∙ tree_grown.new in
      subst (λ (tasks : List TreeTask). AreKnown (asks code) new.seen.given more tasks) (sym (ap (λ o. changed_to tasks_more (length old.tree.tasks) given_task o) is))
      (known_grown (slice_set tasks_more (length old.tree.tasks) (given_task child_task)) (given_task child_task)
      (tree_after tasks_more (length old.tree.tasks) child_task (given_task child_task) is (record { point = refl; parent = refl; children = refl }) tree_is)
      (length-set tasks_more (length old.tree.tasks) (given_task child_task) ∙ size_tree)
      (record {
        now = get_set_other tasks_more (length old.tree.tasks) v (given_task child_task) (λ h. let l = slice_get_within old.tree.tasks v point.task point.at_ in absurd (omega (arith, l, h))) ∙ tree_grown.now;
        new = ap (λ (i : ℕ). slice_get (slice_set tasks_more (length old.tree.tasks) (given_task child_task)) i) same_number ∙ get_set_same tasks_more (length old.tree.tasks) child_task (given_task child_task) is;
        others = λ w a b. get_set_other tasks_more (length old.tree.tasks) w (given_task child_task) (λ h. b (h ∙ sym same_number)) ∙ tree_grown.others w a b;
        fresh = tree_grown.fresh;
      })
      (record { point = child_point; ended = sym (start_goes_on (asks code) child.start); gave_all = ((λ g c o. absurd (owes c (subst (λ (q : List ℕ). Owes q child.start.context c) new_path o))), (λ f. refl)) }))
    where
      owes : (c : ℕ) → Owes (created_now (asks code) t.body ∷ p) child.start.context c → ⊥
      owes c o = let x = rights.given c o.0 o.1 o.2 in let z : None ≡ Some x.0 = sym (ap (λ (xs : List Access). access_at xs c) e) ∙ x.1 in cc

  -- what is known of all
  known_now : AreKnown (asks code) new.seen.given more new.tree.tasks
  known_now = subst (λ (tasks : List TreeTask). AreKnown (asks code) new.seen.given more tasks)
      (sym (cr.tasks ∙ ap (λ o. noted_new cr.accesses (length old.tree.tasks) (created_by old.tree.tasks v wait o)) point.at_)) (known_by cr.accesses refl)

  -- the core stands for the state behind the creation
  core_now : IsCore code main first new after
  core_now = record {
    setting = core.setting;
    depth = core.depth;
    reached = moves core.reached (steps can stepped);
    bodies = more;
    sound = sound_now;
    stands = stands_now;
    held = held_now;
    known = known_now;
    done = core.done;
    are_prints = prints_same (asks code) main s (made code main first old s core) core.done core.are_prints after p t can stepped (λ k u e. let z = sym act_now_is ∙ e in cc);
    prints_are = cr.prints ∙ core.prints_are;
  }

-- a creation
pub creates_made : (code : CodeParts) (main : Start CodeScript) (first : List ℕ) (old new : Kept) (s : State CodeScript) → IsCore code main first old s → (v : ℕ) (p : List ℕ) (t : Task CodeScript)
    → HasPoint old.tree.tasks v (written p) → CanStep (asks code) s p t → (act : KeptAct) → Creates code v act old new → (n : State CodeScript) × Stepped (asks code) s p t n × IsCore code main first new n
creates_made code main first old new s core v p t point can act cr =
    let o = created_order act cr.creates_is in
    let a : act_now (asks code) t.body ≡ Created o.0 false = sym (act_is code main first old s core v p t point can act cr.before cr.after cr.grown_is.was 0 cr.goes) ∙ o.1 in (
      after code main first old new s core v p t point can act cr o.0 a,
      stepped code main first old new s core v p t point can act cr o.0 a,
      core_now code main first old new s core v p t point can act cr o.0 a,
    )
