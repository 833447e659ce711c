-- Tasks that need not be asked: those that are still, and those that are spent.
use Rattle.std.proofs.Common.{◌≡◌, ℕ, ◌⊎◌, inl, inr, refl, sym, ap, ◌∙◌, ◌↔◌, List, Bool, true, false, Some, None}
use Rattle.std.specs.Prelude.{slice_get}
use Rattle.oss_model.specs.Order.{IsIn}
use Rattle.oss_model.specs.Bodies.{Start}
use Rattle.oss_model.specs.Machine.{State}
use Rattle.oss_ranges.specs.Cells.{value_at}
use Rattle.oss_code.specs.declared.code.CodeParts.{CodeParts}
use Rattle.oss_machine.specs.Frames.{CodeScript}
use Rattle.oss_body.specs.declared.body.Body.{Body}
use Rattle.oss_body.specs.Relation.{is_over, released_by}
use Rattle.oss_tree.specs.declared.task.Task.{Task as TreeTask}
use Rattle.oss_tree.specs.Tasks.{number}
use Rattle.oss_deps.specs.declared.opened.Open.{Open}
use Rattle.oss_kept_tasks.specs.declared.held.Held.{Held}
use Rattle.oss_kept_tasks.specs.declared.held.Owed.{Owed}
use Rattle.oss_kept_tasks.specs.declared.held.Owed.TheVariants as owed
use Rattle.oss_enabled_moves.specs.Enabled.{IsThrough, MayLet}
use Rattle.oss_core.specs.declared.passing.Passed.{Passed}
use Rattle.oss_core.specs.Awake.{IsStill}
use Rattle.oss_core.specs.Hindered.{IsSpent}
use Rattle.oss_core.specs.Kept.{IsCore, IsRunning, Kept}
use Rattle.oss_core.specs.Leaving.{HaveGivenUp}
use Rattle.oss_core.specs.Passing.{MayNothing}
use Rattle.oss_core.proofs.ChildFacts.{child_of_link}
use Rattle.oss_core.proofs.GivesLemmas.{none_owed, owed_none}
use Rattle.oss_core.proofs.KeepLemmas.{some_is}
use Rattle.oss_core.proofs.TreeFacts.{AtNumber, at_number, body_within, task_within}

-- the tree knows that a task has given up all its cells just where it owes none
gave_none : {code : CodeParts} {main : Start CodeScript} {first : List ℕ} {k : Kept} {s : State CodeScript} (core : IsCore code main first k s) (v : ℕ) (x : AtNumber core v) → ((x.task.gave_all ≡ true) ↔ ((c : ℕ) → value_at x.held.owed.pieces c ≡ None))
gave_none {k = k} core v x = (
  (λ g c. x.is_held.owed_is c ∙ none_owed x.body.start.path (k.seen.given v c) x.body.start.context c (λ o. x.is_known.gave_all.0 g c o)),
  (λ none. x.is_known.gave_all.1 (λ c o. owed_none x.body.start.path (k.seen.given v c) x.body.start.context c o (sym (x.is_held.owed_is c) ∙ none c))),
)

-- a task that has not ended, and of which no let may be made, is still
pub rest_is_still : (k : Kept) (v : ℕ) (held : Held) → slice_get k.tasks v ≡ Some held → is_over held.body ≡ false → ((c : ℕ) → MayLet k.tasks k.tree.tasks v c → ⊥) → IsStill k v
rest_is_still k v held is running none = record { held = held; is = is; still = λ c way e. (running, λ f. kept c way e f (released_by held.body c) refl) }
  where
    kept : (c : ℕ) (way : Owed) → value_at held.owed.pieces c ≡ Some way → way ≡ owed.Let → (b : Bool) → released_by held.body c ≡ b → released_by held.body c ≡ false
    kept c way e f false g = g
    kept c way e f true g = absurd (none c (record { held = held; is = is; gives = record { owes = e ∙ ap Some f; gone = inl g } }))

-- of a task that is still nothing may be given up
pub still_nothing : (k : Kept) (v lo hi : ℕ) → IsStill k v → MayNothing k v lo hi
still_nothing k v lo hi x = record {
  no_let = λ c low high may. let s = owes c owed.Let may.held may.is may.gives.owes in gone c s.0 (s.1 refl) may.held may.is may.gives.gone;
  no_join = λ c op low high may. let s = owes c (owed.Join op) may.held may.is may.folds.owes in through s.0 may.held may.is may.folds.through;
}
  where
    owes : (c : ℕ) (way : Owed) (held : Held) → slice_get k.tasks v ≡ Some held → value_at held.owed.pieces c ≡ Some way → (is_over x.held.body ≡ false) × (way ≡ owed.Let → released_by x.held.body c ≡ false)
    owes c way held is e = x.still c way (ap (λ (h : Held). value_at h.owed.pieces c) (some_is (sym x.is ∙ is)) ∙ e)

    through : is_over x.held.body ≡ false → (held : Held) → slice_get k.tasks v ≡ Some held → IsThrough k.tree.tasks v held.body → ⊥
    through running held is t = let a : is_over x.held.body ≡ true = ap (λ (h : Held). is_over h.body) (some_is (sym x.is ∙ is)) ∙ t.over in cc

    gone : (c : ℕ) → is_over x.held.body ≡ false → released_by x.held.body c ≡ false → (held : Held) → slice_get k.tasks v ≡ Some held → (released_by held.body c ≡ true) ⊎ IsThrough k.tree.tasks v held.body → ⊥
    gone c running kept held is (inl g) = let a : released_by x.held.body c ≡ true = ap (λ (h : Held). released_by h.body c) (some_is (sym x.is ∙ is)) ∙ g in cc
    gone c running kept held is (inr t) = through running held is t

-- a task that is still is so behind what others, or it, have given up
pub still_after : (passed : List Passed) (old new : Kept) (v : ℕ) → HaveGivenUp passed old new → IsStill old v → IsStill new v
still_after passed old new v g x =
    let m = g.held v x.held x.is in
    record {
      held = m.0;
      is = m.1;
      still = λ c way e. let s = x.still c way (m.2.owed c way e) in (ap is_over m.2.body ∙ s.0, λ f. ap (λ (b : Body). released_by b c) m.2.body ∙ s.1 f);
    }

-- a task has ended and given up all its cells, as the tree knows, just where it is spent
pub spent_told : {code : CodeParts} {k : Kept} → IsRunning code k → (v : ℕ) (one : TreeTask) → slice_get k.tree.tasks v ≡ Some one → (((one.ended ≡ true) × (one.gave_all ≡ true)) ↔ IsSpent k v)
spent_told {k = k} running v one e = (forth, back)
  where
    x : AtNumber running.core v
    x = at_number running.core v (task_within running.core v one e)

    same : x.task ≡ one
    same = some_is (sym x.task_at ∙ e)

    ended_is : one.ended ≡ is_over x.held.body
    ended_is = ap (λ (o : TreeTask). o.ended) (sym same) ∙ x.is_known.ended ∙ sym x.is_held.body_is.ended

    forth : (one.ended ≡ true) × (one.gave_all ≡ true) → IsSpent k v
    forth (a, b) = record { held = x.held; is = x.held_at; over = sym ended_is ∙ a; none = (gave_none running.core v x).0 (ap (λ (o : TreeTask). o.gave_all) same ∙ b) }

    back : IsSpent k v → (one.ended ≡ true) × (one.gave_all ≡ true)
    back h =
        let held : x.held ≡ h.held = some_is (sym x.held_at ∙ h.is) in
        (ended_is ∙ ap (λ (y : Held). is_over y.body) held ∙ h.over, ap (λ (o : TreeTask). o.gave_all) (sym same) ∙ (gave_none running.core v x).1 (λ c. ap (λ (y : Held). value_at y.owed.pieces c) held ∙ h.none c))

-- the creator that an entry names is that which the tree knows
pub below_in_tree : {code : CodeParts} {main : Start CodeScript} {first : List ℕ} {k : Kept} {s : State CodeScript} (core : IsCore code main first k s) (o : Open) → IsIn o k.seen.opens → (g p : ℕ) → o.task ≡ g → o.parent ≡ p
    → (one : TreeTask) × (slice_get k.tree.tasks g ≡ Some one) × (one.parent ≡ Some (number p))
below_in_tree {k = k} core o i g p e f =
    let l = core.sound.tasks.linked o i in
    let x = at_number core o.parent (body_within core o.parent l.creator l.creator_is) in
    let h = core.known.tree_is.children o.parent x.task x.task_at l.child o.task (child_of_link core o l x.task x.task_at) in
    (h.task, ap (λ (n : ℕ). slice_get k.tree.tasks n) (sym e) ∙ h.at_, h.parent ∙ ap (λ (n : ℕ). Some (number n)) f)

-- a child of a task has that task as its creator
pub children_have_parents : {code : CodeParts} {main : Start CodeScript} {first : List ℕ} {k : Kept} {s : State CodeScript} (core : IsCore code main first k s) (v : ℕ) (one : TreeTask) → slice_get k.tree.tasks v ≡ Some one
    → (i u : ℕ) → slice_get one.children i ≡ Some (number u) → (child : TreeTask) × (slice_get k.tree.tasks u ≡ Some child) × (child.parent ≡ Some (number v))
children_have_parents core v one e i u f = let h = core.known.tree_is.children v one e i u f in (h.task, h.at_, h.parent)
