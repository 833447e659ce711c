-- A move that may be made leads to a state; and a core stands still just where its state does.
use Rattle.std.proofs.Common.{◌≡◌, ℕ, ◌<◌, ◌≤◌, refl, sym, subst, ◌∙◌, List, [], ◌∷◌, ◌⊎◌, inl, inr, true, Some}
use Rattle.std.specs.Prelude.{slice_get}
use Rattle.oss_syntax.specs.declared.access.Op.{Op}
use Rattle.oss_model.specs.declared.moving.Move.{Move}
use Rattle.oss_model.specs.declared.moving.Move.TheVariants as moves
use Rattle.oss_model.specs.Bodies.{Program, Start}
use Rattle.oss_model.specs.Machine.{State, Task, At, find}
use Rattle.oss_model.specs.Moves.{CanJoin, CanLet, CanStep, GaveUp, Joined, LetGo, Stepped, TaskStep, a_join, a_let, a_step, act_now, after_giving, cells_after, found_by, joined_cells}
use Rattle.oss_model.specs.Sequence.{Running}
use Rattle.oss_model.specs.Answers.{IsStopped}
use Rattle.oss_model.proofs.Exclusive.{same_self}
use Rattle.oss_model.proofs.RunLemmas.{next, other_path}
use Rattle.oss_model.proofs.TreeLemmas.{at_same, path_found}
use Rattle.oss_ranges.specs.Cells.{value_at}
use Rattle.oss_code.specs.declared.code.CodeParts.{CodeParts}
use Rattle.oss_machine.specs.Frames.{CodeScript}
use Rattle.oss_machine.specs.Machines.{asks}
use Rattle.oss_body.specs.Relation.{released_by}
use Rattle.oss_tree.specs.declared.task.Task.{Task as TreeTask}
use Rattle.oss_deps.specs.Seen.{Seen}
use Rattle.oss_kept_tasks.specs.declared.held.Held.{Held}
use Rattle.oss_kept_tasks.specs.declared.held.Owed.TheVariants as owed
use Rattle.oss_enabled_moves.specs.Enabled.{IsThrough, MayFold, MayGive, MayGoOn}
use Rattle.oss_core.specs.Changes.{IsMove, MayMove}
use Rattle.oss_core.specs.Kept.{IsCore, Kept}
use Rattle.oss_core.specs.Stops.{IsStill}
use Rattle.oss_core.proofs.ExactLemmas.{join_tells, join_told, let_tells, let_told, step_tells, step_told}
use Rattle.oss_core.proofs.TreeFacts.{point_of_path}

-- an act that may be made can be made
pub step_made : {S : Type 0} (P : Program S) (s : State S) (p : List ℕ) (t : Task S) → CanStep P s p t → (n : State S) × Stepped P s p t n
step_made {S = S} P s p t can =
    let z : Running S = record { state = s; active = p; printed = [] } in
    let x = next P z t can.at_ can.goes in
    let same : x.runs.task ≡ t = at_same s p x.runs.task t x.runs.at_ can.at_ in
    let k : TaskStep P s p t (found_by (act_now P t.body) s.cells) x.stage.state = subst (λ (u : Task S). TaskStep P s p u (found_by (act_now P u.body) s.cells) x.stage.state) same x.runs.tasks in
    (record { cells = cells_after (act_now P t.body) s.cells; tasks = x.stage.state.tasks }, record { cells = refl; tasks = record { own = k.own; made = k.made; others = k.others } })

-- a task with one more cell given up, in front of all tasks
gave_up : {S : Type 0} (s : State S) (p : List ℕ) (c : ℕ) (t : Task S) (cells : List ℕ) → At s p t → GaveUp s p c t (record { cells = cells; tasks = after_giving c t ∷ s.tasks })
unfolding find
gave_up s p c t cells at_ = record {
  own = rw (path_found s.tasks p t at_, same_self p) refl;
  others = λ q ne. rw (path_found s.tasks p t at_, other_path p q (λ e. ne (sym e))) refl;
}

-- a let that may be made can be made
pub let_made : {S : Type 0} (P : Program S) (s : State S) (p : List ℕ) (c : ℕ) (t : Task S) → CanLet P s p c t → (n : State S) × LetGo s p c t n
let_made P s p c t can = (record { cells = s.cells; tasks = after_giving c t ∷ s.tasks }, record { cells = refl; tasks = gave_up s p c t s.cells can.at_ })

-- a join that may be made can be made
pub join_made : {S : Type 0} (P : Program S) (s : State S) (p : List ℕ) (c : ℕ) (op : Op) (t : Task S) → CanJoin P s p c op t → (n : State S) × Joined P s p c op t n
join_made P s p c op t can =
    (record { cells = joined_cells P c op t s.cells; tasks = after_giving c t ∷ s.tasks }, record { cells = refl; tasks = gave_up s p c t (joined_cells P c op t s.cells) can.at_ })

module _ {code : CodeParts} {main : Start CodeScript} {first : List ℕ} {k : Kept} {s : State CodeScript} (core : IsCore code main first k s) where
  -- a move that may be made is one of the definitions, to some state
  pub move_told : (m : Move) → MayMove k m → (n : State CodeScript) × IsMove (asks code) k.tree.tasks m s n
  move_told (moves.Step task) may =
      let r = step_told core task.0 may in
      let n = step_made (asks code) s r.0 r.1 r.3 in
      (n.0, (r.0, r.1, r.2, r.3, n.1))
  move_told (moves.Let task cell) may =
      let r = let_told core task.0 cell may in
      let n = let_made (asks code) s r.0 cell r.1 r.3 in
      (n.0, (r.0, r.1, r.2, r.3, n.1))
  move_told (moves.Join task cell) may =
      let r = join_told core task.0 cell may.0 may.1 in
      let n = join_made (asks code) s r.0 cell may.0 r.1 r.3 in
      (n.0, (r.0, r.1, may.0, r.2, r.3, n.1))

  -- and each move of the definitions may be made
  pub move_tells : (m : Move) (n : State CodeScript) → IsMove (asks code) k.tree.tasks m s n → MayMove k m
  move_tells (moves.Step task) n is = step_tells core task.0 is.0 is.1 is.2 is.3
  move_tells (moves.Let task cell) n is = let_tells core task.0 cell is.0 is.1 is.2 is.3
  move_tells (moves.Join task cell) n is = (is.2, join_tells core task.0 cell is.2 is.0 is.1 is.3 is.4)

  -- where no move may be made, none of the state may be made
  pub still_stopped : IsStill k → IsStopped (asks code) s
  still_stopped still (a_step {p = p} {t = t} can) =
      let v = core.stands.back p t can.at_ in
      still (moves.Step (record { 0 = v.0 })) (step_tells core v.0 p t (point_of_path core v.0 p v.1) can)
  still_stopped still (a_let {p = p} {c = c} {t = t} can) =
      let v = core.stands.back p t can.at_ in
      still (moves.Let (record { 0 = v.0 }) c) (let_tells core v.0 c p t (point_of_path core v.0 p v.1) can)
  still_stopped still (a_join {p = p} {c = c} {op = op} {t = t} can) =
      let v = core.stands.back p t can.at_ in
      still (moves.Join (record { 0 = v.0 }) c) (op, join_tells core v.0 c op p t (point_of_path core v.0 p v.1) can)

  -- and the other way
  pub stopped_still : IsStopped (asks code) s → IsStill k
  stopped_still stop (moves.Step task) may = stop (a_step (step_told core task.0 may).3)
  stopped_still stop (moves.Let task cell) may = stop (a_let (let_told core task.0 cell may).3)
  stopped_still stop (moves.Join task cell) may = stop (a_join (join_told core task.0 cell may.0 may.1).3)

-- a core stands still where no task that it keeps may go on, give up a cell, or join a slot
pub still_each : (k : Kept) → ((v : ℕ) (held : Held) → slice_get k.tasks v ≡ Some held → MayGoOn held.body k.tree.tasks k.seen v → ⊥)
    → ((v c : ℕ) (held : Held) → slice_get k.tasks v ≡ Some held → MayGive held k.tree.tasks v c → ⊥)
    → ((v c : ℕ) (op : Op) (held : Held) → slice_get k.tasks v ≡ Some held → MayFold held k.tree.tasks k.seen v c op → ⊥) → IsStill k
still_each k goes gives folds (moves.Step task) may = goes task.0 may.held may.is may.goes
still_each k goes gives folds (moves.Let task cell) may = gives task.0 cell may.held may.is may.gives
still_each k goes gives folds (moves.Join task cell) may = folds task.0 cell may.0 may.1.held may.1.is may.1.folds

-- of two cells that a task owes alike, and of which it has released both or none, it may give up both or none
pub give_alike : (held : Held) (tree : List TreeTask) (v c d : ℕ) → value_at held.owed.pieces d ≡ value_at held.owed.pieces c → released_by held.body d ≡ released_by held.body c → MayGive held tree v c → MayGive held tree v d
give_alike held tree v c d owes released m = record { owes = owes ∙ m.owes; gone = go m.gone }
  where
    go : (released_by held.body c ≡ true) ⊎ IsThrough tree v held.body → (released_by held.body d ≡ true) ⊎ IsThrough tree v held.body
    go (inl r) = inl (released ∙ r)
    go (inr t) = inr t

-- where it may not give up the first cell of a run of such cells, it may give up none of them
pub none_on_run : (held : Held) (tree : List TreeTask) (v lo hi : ℕ) → ((c : ℕ) → lo ≤ c → c < hi → value_at held.owed.pieces c ≡ value_at held.owed.pieces lo) → ((c : ℕ) → lo ≤ c → c < hi → released_by held.body c ≡ released_by held.body lo)
    → (MayGive held tree v lo → ⊥) → (c : ℕ) → lo ≤ c → c < hi → MayGive held tree v c → ⊥
none_on_run held tree v lo hi owes released f c l m g = f (give_alike held tree v c lo (sym (owes c l m)) (sym (released c l m)) g)

-- a task that is not through may give up by a let only what it has released
pub gives_released : (held : Held) (tree : List TreeTask) (v c : ℕ) → (IsThrough tree v held.body → ⊥) → MayGive held tree v c → released_by held.body c ≡ true
gives_released held tree v c f m = go m.gone
  where
    go : (released_by held.body c ≡ true) ⊎ IsThrough tree v held.body → released_by held.body c ≡ true
    go (inl r) = r
    go (inr t) = absurd (f t)

-- a task that is through, and may not give up the cell by a let, does not owe it by one
pub through_owes : (held : Held) (tree : List TreeTask) (v c : ℕ) → IsThrough tree v held.body → (MayGive held tree v c → ⊥) → value_at held.owed.pieces c ≡ Some owed.Let → ⊥
through_owes held tree v c t f e = f (record { owes = e; gone = inr t })

-- a task that is not through may join no slot
pub folds_none : (held : Held) (tree : List TreeTask) (seen : Seen) (v c : ℕ) (op : Op) → (IsThrough tree v held.body → ⊥) → MayFold held tree seen v c op → ⊥
folds_none held tree seen v c op f m = f m.through
