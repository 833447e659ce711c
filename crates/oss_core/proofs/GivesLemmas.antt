-- A cell that is given up: behind the let or the join the core stands for the state after it.
use Rattle.std.proofs.Common.{◌≡◌, ℕ, suc, refl, sym, subst, ap, ◌∙◌, List, [], ◌∷◌, ◌⊎◌, inl, inr, Bool, true, false, arith, None, ◌↔◌, length-set}
use Rattle.std.specs.Prelude.{slice_set, slice_index, ◌==◌, ◌&&◌, ◌||◌, nat_le, nat_lt, if◌then◌else◌}
use Rattle.std.proofs.lemmas.Bool.Decides.{nat_tests}
use Rattle.std.proofs.lemmas.Option.{slice_get_within}
use Rattle.oss_syntax.specs.declared.access.Mode.{Mode}
use Rattle.oss_syntax.specs.declared.access.Mode.TheVariants.{Fold}
use Rattle.oss_syntax.specs.declared.access.Op.{Op}
use Rattle.oss_model.specs.Order.{written}
use Rattle.oss_model.specs.Rights.{Right, NoRight, Released, Holds}
use Rattle.oss_model.specs.Context.{Context, right_of}
use Rattle.oss_model.specs.Bodies.{Start}
use Rattle.oss_model.specs.Machine.{Task, State, At, Owes}
use Rattle.oss_model.specs.Moves.{CanLet, LetGo, CanJoin, Joined, combine, joined_cells, moves, lets, joins}
use Rattle.oss_model.proofs.MoveLemmas.{let_may, join_may}
use Rattle.oss_ranges.specs.Cells.{value_at, is_within}
use Rattle.oss_body.specs.Relation.{IsBody}
use Rattle.oss_code.specs.declared.code.CodeParts.{CodeParts}
use Rattle.oss_machine.specs.Frames.{CodeScript}
use Rattle.oss_machine.specs.Machines.{asks}
use Rattle.oss_tree.specs.declared.task.Task.{Task as TreeTask}
use Rattle.oss_tree.specs.Tasks.{HasPoint, changed_to, given_task}
use Rattle.oss_tree.proofs.ListLemmas.{get_set_other, get_set_same}
use Rattle.oss_tree.proofs.ChangeLemmas.{tree_after}
use Rattle.oss_deps.specs.declared.opened.Open.{Open}
use Rattle.oss_core.specs.Kept.{IsCore, IsHeld, IsKnown, AreHeld, AreKnown, Kept, own, owed_by, owed_of}
use Rattle.oss_core.specs.Changes.{GivesUp, Lets, Joins, noted_given}
use Rattle.oss_core.specs.Moving.{AreSound}
use Rattle.oss_core.specs.Standing.{StandsFor}
use Rattle.oss_core.proofs.CoreLemmas.{held_same, known_same, sides_change, made, started, body_at, held_at, known_at, own_task}
use Rattle.oss_core.proofs.EntryLemmas.{both, both_of}
use Rattle.oss_core.proofs.KeepLemmas.{which, Changed, let_keeps}
use Rattle.oss_core.proofs.MadeLemmas.{core_give}
use Rattle.oss_core.proofs.PrintLemmas.{prints_kept}

-- the test that one pair more is given
given_test : (x : Bool) (v w c k : ℕ) → ((x || ((v == w) && (c == k))) ≡ true ↔ ((x ≡ true) ⊎ ((w ≡ v) × (k ≡ c))))
given_test true v w c k = ((λ h. inl refl), (λ h. refl))
given_test false v w c k = ((λ h. forth (both (v == w) (c == k) h)), back)
  where
    forth : ((v == w) ≡ true) × ((c == k) ≡ true) → (false ≡ true) ⊎ ((w ≡ v) × (k ≡ c))
    forth (a, b) = inr (grind (arith, nat_tests, a), grind (arith, nat_tests, b))

    back : (false ≡ true) ⊎ ((w ≡ v) × (k ≡ c)) → ((v == w) && (c == k)) ≡ true
    back (inl e) = absurd cc
    back (inr (a, b)) = both_of (v == w) (c == k) (grind (arith, nat_tests, a)) (grind (arith, nat_tests, b))

-- tests that are true together are one
same_test : (a b : Bool) → (a ≡ true → b ≡ true) → (b ≡ true → a ≡ true) → a ≡ b
same_test true b f g = sym (f refl)
same_test false true f g = g refl
same_test false false f g = refl

-- a cell to which there is a right is to be given up in some way
owed_some : (m : Mode) (strong : Bool) → owed_by (Holds m strong) ≡ None → ⊥
owed_some (Fold op) true e = cc
owed_some _ _ e = cc

-- of a cell that the task must give up nothing is owed only once it is given
pub owed_none : (path : List ℕ) (given : Bool) (x : Context) (c : ℕ) → Owes path x c → owed_of path given (right_of x c) ≡ None → given ≡ true
owed_none [] given x c o e = absurd o
owed_none (k ∷ p) true x c o e = refl
owed_none (k ∷ p) false x c (m, strong, h) e = absurd (owed_some m strong (ap owed_by (sym h) ∙ e))

-- nothing is owed of a cell that is given, or that the task need not give up
pub none_owed : (path : List ℕ) (given : Bool) (x : Context) (c : ℕ) → (Owes path x c → given ≡ true) → owed_of path given (right_of x c) ≡ None
none_owed [] given x c f = refl
none_owed (k ∷ p) true x c f = refl
none_owed (k ∷ p) false x c f = go (right_of x c) (λ m strong e. f (m, strong, e))
  where
    go : (r : Right) → ((m : Mode) (strong : Bool) → r ≡ Holds m strong → false ≡ true) → owed_by r ≡ None
    go NoRight g = refl
    go Released g = refl
    go (Holds m strong) g = let e = g m strong refl in absurd cc

-- nothing is owed of a cell that is given
given_none : (path : List ℕ) (r : Right) → owed_of path true r ≡ None
given_none [] r = refl
given_none (k ∷ p) r = refl

-- a cell is within the range of one cell that it is
is_within_one : (c k : ℕ) → k ≡ c → is_within c (suc c) k ≡ true
is_within_one c k e = both_of (nat_le c k) (nat_lt k (suc c)) (grind (arith, nat_tests, e)) (grind (arith, nat_tests, e))

-- and no other is
not_within_one : (c k : ℕ) → (k ≡ c → ⊥) → is_within c (suc c) k ≡ false
not_within_one c k n = go (is_within c (suc c) k) refl
  where
    go : (b : Bool) → is_within c (suc c) k ≡ b → is_within c (suc c) k ≡ false
    go true e = let h = both (nat_le c k) (nat_lt k (suc c)) e in let a = h.0 in let b = h.1 in absurd (n (grind (arith, nat_tests, a, b)))
    go false e = e

module _ (code : CodeParts) (main : Start CodeScript) (first : List ℕ) (old new : Kept) (s : State CodeScript) (core : IsCore code main first old s) (v c : ℕ) (p : List ℕ) (t : Task CodeScript) (point : HasPoint old.tree.tasks v (written p))
    (at_ : At s p t) (gives : GivesUp v c old new) where
  -- one more pair of task and cell is given
  pub gave : (w k : ℕ) → (new.seen.given w k ≡ true ↔ ((old.seen.given w k ≡ true) ⊎ ((w ≡ v) × (k ≡ c))))
  gave w k = let h = given_test (old.seen.given w k) v w c k in ((λ g. h.0 (sym (gives.given w k) ∙ g)), (λ g. gives.given w k ∙ h.1 g))

  -- no other is
  gave_same : (w k : ℕ) → ((w ≡ v) × (k ≡ c) → ⊥) → new.seen.given w k ≡ old.seen.given w k
  gave_same w k n = same_test (new.seen.given w k) (old.seen.given w k) (λ g. only ((gave w k).0 g)) (λ g. (gave w k).1 (inl g))
    where
      only : (old.seen.given w k ≡ true) ⊎ ((w ≡ v) × (k ≡ c)) → old.seen.given w k ≡ true
      only (inl g) = g
      only (inr h) = absurd (n h)

  -- what the task still owes
  owed_now : (k : ℕ) → value_at gives.after.owed.pieces k ≡ owed_of t.body.start.path (new.seen.given v k) (right_of t.body.start.context k)
  owed_now k = go (which k c)
    where
      go : (k ≡ c) ⊎ (k ≡ c → ⊥) → value_at gives.after.owed.pieces k ≡ owed_of t.body.start.path (new.seen.given v k) (right_of t.body.start.context k)
      go (inl e) =
          gives.owed k ∙ ap (λ (b : Bool). if b then None else value_at gives.before.owed.pieces k) (is_within_one c k e)
          ∙ sym (ap (λ (b : Bool). owed_of t.body.start.path b (right_of t.body.start.context k)) ((gave v k).1 (inr (refl, e))) ∙ given_none t.body.start.path (right_of t.body.start.context k))
      go (inr n) =
          gives.owed k ∙ ap (λ (b : Bool). if b then None else value_at gives.before.owed.pieces k) (not_within_one c k n)
          ∙ (held_at code main first old s core v p t point at_ gives.before gives.changed_is.was).owed_is k
          ∙ ap (λ (b : Bool). owed_of t.body.start.path b (right_of t.body.start.context k)) (sym (gave_same v k (λ h. n h.1)))

  -- no body is another now
  bodies_same : Changed core.bodies core.bodies v t.body
  bodies_same = record { now = body_at code main first old s core v p t point at_; others = λ w n. refl }

  -- what is kept of the tasks
  pub held_after : AreHeld code new.seen.given core.bodies new.tasks
  held_after =
      let h = held_at code main first old s core v p t point at_ gives.before gives.changed_is.was in
      record {
        size = gives.changed_is.size ∙ core.held.size;
        each = sides_change (λ w x y. IsHeld code (old.seen.given w) x y) (λ w x y. IsHeld code (new.seen.given w) x y) core.bodies core.bodies old.tasks new.tasks v t.body gives.after bodies_same
            (record { now = gives.changed_is.is; others = gives.changed_is.others })
            core.held.each (λ w x y n k. held_same code (old.seen.given w) (new.seen.given w) x y (λ d. gave_same w d (λ e. n e.0)) k)
            (record { body_is = subst (λ b. IsBody code t.body.start t.body.found b) (sym gives.body) h.body_is; owed_is = owed_now });
      }

  -- what the tree knows of the tasks
  known_after : (last : Bool) → ((last ≡ true) ↔ ((k : ℕ) → value_at gives.after.owed.pieces k ≡ None)) → AreKnown (asks code) new.seen.given core.bodies (noted_given v last old.tree.tasks)
  known_after true is =
      let k = known_at code main first old s core v p t point at_ in
      subst (λ (tasks : List TreeTask). AreKnown (asks code) new.seen.given core.bodies tasks) (sym (ap (λ o. changed_to old.tree.tasks v given_task o) point.at_)) (record {
        tree_is = tree_after old.tree.tasks v point.task (given_task point.task) point.at_ (record { point = refl; parent = refl; children = refl }) core.known.tree_is;
        size = length-set old.tree.tasks v (given_task point.task) ∙ core.known.size;
        each = sides_change (λ w x y. IsKnown (asks code) (old.seen.given w) x y) (λ w x y. IsKnown (asks code) (new.seen.given w) x y) core.bodies core.bodies old.tree.tasks (slice_set old.tree.tasks v (given_task point.task)) v t.body (given_task point.task) bodies_same
            (record { now = get_set_same old.tree.tasks v point.task (given_task point.task) point.at_; others = λ w n. get_set_other old.tree.tasks v w (given_task point.task) n })
            core.known.each (λ w x y n h. known_same code (old.seen.given w) (new.seen.given w) x y (λ d. gave_same w d (λ e. n e.0)) h)
            (record {
              point = k.point;
              ended = k.ended;
              gave_all = ((λ g d o. owed_none t.body.start.path (new.seen.given v d) t.body.start.context d o (sym (owed_now d) ∙ is.0 refl d)), (λ f. refl));
            });
      })
  known_after false is =
      let k = known_at code main first old s core v p t point at_ in
      record {
        tree_is = core.known.tree_is;
        size = core.known.size;
        each = sides_change (λ w x y. IsKnown (asks code) (old.seen.given w) x y) (λ w x y. IsKnown (asks code) (new.seen.given w) x y) core.bodies core.bodies old.tree.tasks old.tree.tasks v t.body point.task bodies_same
            (record { now = point.at_; others = λ w n. refl })
            core.known.each (λ w x y n h. known_same code (old.seen.given w) (new.seen.given w) x y (λ d. gave_same w d (λ e. n e.0)) h)
            (record {
              point = k.point;
              ended = k.ended;
              gave_all = (
                (λ g d o. (gave v d).1 (inl (k.gave_all.0 g d o))),
                (λ f. let z : false ≡ true = is.1 (λ d. owed_now d ∙ none_owed t.body.start.path (new.seen.given v d) t.body.start.context d (f d)) in absurd cc),
              );
            });
      }

  -- what is known of the tasks
  pub known_now : AreKnown (asks code) new.seen.given core.bodies new.tree.tasks
  known_now = subst (λ (tasks : List TreeTask). AreKnown (asks code) new.seen.given core.bodies tasks) (sym gives.tasks) (known_after gives.last gives.last_is)

  -- what is kept of bodies and entries goes on to be sound
  pub sound_after : AreSound (asks code) own (λ b. Unit {0}) core.bodies new.seen.opens new.seen.given
  sound_after =
      subst (λ (os : List Open). AreSound (asks code) own (λ b. Unit {0}) core.bodies os new.seen.given) (sym gives.opens)
      (core_give (asks code) own (λ b. Unit {0}) core.bodies old.seen.opens old.seen.given new.seen.given v c core.sound (slice_get_within core.bodies v t.body (body_at code main first old s core v p t point at_)) gave)

-- a let
pub lets_made : (code : CodeParts) (main : Start CodeScript) (first : List ℕ) (old new : Kept) (s : State CodeScript) → IsCore code main first old s → (v c : ℕ) (p : List ℕ) (t : Task CodeScript)
    → HasPoint old.tree.tasks v (written p) → CanLet (asks code) s p c t → Lets v c old new → (n : State CodeScript) × LetGo s p c t n × IsCore code main first new n
lets_made code main first old new s core v c p t point can lt =
    let k = let_keeps (asks code) own core.bodies core.bodies old.seen.opens old.seen.given old.cells s core.sound.tasks core.stands v p t (own_task code main first old s core v p t point can.at_) new.seen.given c
    (gave code main first old new s core v c p t point can.at_ lt.gives) in (
      k.0,
      k.1,
      record {
        setting = core.setting;
        depth = core.depth;
        reached = moves core.reached (lets can k.1);
        bodies = core.bodies;
        sound = sound_after code main first old new s core v c p t point can.at_ lt.gives;
        stands = subst (λ (cs : List ℕ). StandsFor own core.bodies new.seen.given cs k.0) (sym lt.cells) k.2;
        held = held_after code main first old new s core v c p t point can.at_ lt.gives;
        known = known_now code main first old new s core v c p t point can.at_ lt.gives;
        done = core.done;
        are_prints = prints_kept (asks code) main s (made code main first old s core) core.done core.are_prints (started code main first old s core) k.0 p c t can.at_ (let_may (asks code) s p c t can) k.1.tasks;
        prints_are = lt.gives.prints ∙ core.prints_are;
      },
    )

-- a join
pub joins_made : (code : CodeParts) (main : Start CodeScript) (first : List ℕ) (old new : Kept) (s : State CodeScript) → IsCore code main first old s → (v c : ℕ) (op : Op) (p : List ℕ) (t : Task CodeScript)
    → HasPoint old.tree.tasks v (written p) → CanJoin (asks code) s p c op t → Joins code v c op old new → (n : State CodeScript) × Joined (asks code) s p c op t n × IsCore code main first new n
joins_made code main first old new s core v c op p t point can jn =
    let k = let_keeps (asks code) own core.bodies core.bodies old.seen.opens old.seen.given old.cells s core.sound.tasks core.stands v p t (own_task code main first old s core v p t point can.at_) new.seen.given c
    (gave code main first old new s core v c p t point can.at_ jn.gives) in
    let n : State CodeScript = record { cells = joined_cells (asks code) c op t s.cells; tasks = k.0.tasks } in
    let go : Joined (asks code) s p c op t n = record { cells = refl; tasks = record { own = k.1.tasks.own; others = k.1.tasks.others } } in
    let slot_is = jn.slot_is t.body.start t.body.found (held_at code main first old s core v p t point can.at_ jn.gives.before jn.gives.changed_is.was).body_is can.right in
    let cells_is : n.cells ≡ new.cells
    = ap (λ (cs : List ℕ). joined_cells (asks code) c op t cs) core.stands.cells_are ∙ ap (λ (x : ℕ). slice_set old.cells c (combine op (slice_index old.cells c) x)) (sym slot_is) ∙ sym jn.cells in (
      n,
      go,
      record {
        setting = core.setting;
        depth = core.depth;
        reached = moves core.reached (joins can go);
        bodies = core.bodies;
        sound = sound_after code main first old new s core v c p t point can.at_ jn.gives;
        stands = record { cells_are = cells_is; there = k.2.there; back = k.2.back };
        held = held_after code main first old new s core v c p t point can.at_ jn.gives;
        known = known_now code main first old new s core v c p t point can.at_ jn.gives;
        done = core.done;
        are_prints = prints_kept (asks code) main s (made code main first old s core) core.done core.are_prints (started code main first old s core) n p c t can.at_ (join_may (asks code) s p c op t can) go.tasks;
        prints_are = jn.gives.prints ∙ core.prints_are;
      },
    )
