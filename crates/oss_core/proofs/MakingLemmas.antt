-- Moves that may be made, and are.
use Rattle.std.proofs.Common.{◌≡◌, ℕ, sym, ap, subst, ◌∙◌, Bool, true, false, List, length, Some, ◌↔◌}
use Rattle.std.specs.Prelude.{IsTrue, slice_get}
use Rattle.oss_syntax.specs.declared.access.Op.{Op}
use Rattle.oss_syntax.specs.declared.access.Access.{Access}
use Rattle.oss_model.specs.declared.moving.Move.{Move}
use Rattle.oss_model.specs.declared.moving.Move.TheVariants as moves
use Rattle.oss_model.specs.declared.task_no.TaskNo.{TaskNo}
use Rattle.oss_model.specs.Bodies.{Start}
use Rattle.oss_model.specs.Machine.{State}
use Rattle.oss_code.specs.declared.code.CodeParts.{CodeParts}
use Rattle.oss_machine.specs.Frames.{CodeScript}
use Rattle.oss_machine.specs.Machines.{asks}
use Rattle.oss_body.specs.Acts.{creates}
use Rattle.oss_body.specs.Relation.{is_over, pending_of}
use Rattle.oss_ranges.specs.Cells.{value_at}
use Rattle.oss_tree.specs.Tasks as tree
use Rattle.oss_tree.specs.Tasks.{MayCreate}
use Rattle.oss_deps.specs.Seen.{CanOpen, IsSame, Seen}
use Rattle.oss_kept_tasks.specs.declared.held.Held.{Held}
use Rattle.oss_kept_tasks.specs.declared.held.Owed.TheVariants as owed
use Rattle.oss_enabled_moves.specs.Enabled.{IsFoldOf, MayJoin, MayLet, MayStep}
use Rattle.oss_enabled_moves.proofs.CallLemmas.{seen_is}
use Rattle.oss_core.specs.Changes.{IsCreated, IsMade, IsMove, Joins, Lets, MayMove}
use Rattle.oss_core.specs.Giving.{HoldsCell, OwesCell}
use Rattle.oss_core.specs.Going.{HasCreated, HasStepped, StandsBefore}
use Rattle.oss_core.specs.Kept.{IsCore, Kept}
use Rattle.oss_core.proofs.CreatesLemmas.{creates_made}
use Rattle.oss_core.proofs.ExactLemmas.{join_told, let_told, step_told}
use Rattle.oss_core.proofs.GivesLemmas.{joins_made, lets_made}
use Rattle.oss_core.proofs.KeepLemmas.{some_is}
use Rattle.oss_core.proofs.NeedLemmas.{is_folding, is_opened, may_create, may_open}
use Rattle.oss_core.proofs.StepsLemmas.{steps_made}
use Rattle.oss_core.proofs.StopLemmas.{move_tells, move_told}

-- what is kept, by its parts
abbrev pub ap_kept : List Held → tree.Kept → List ℕ → Seen → Kept
ap_kept tasks t cells s = record { tasks = tasks; tree = t; seen = s; cells = cells }

-- so what is kept beside is kept as one
pub kept_is : (tasks : List Held) (t : tree.Kept) (cells : List ℕ) (a b : Seen) → IsSame a b → ap_kept tasks t cells b ≡ ap_kept tasks t cells a
kept_is tasks t cells a b same = ap (λ (s : Seen). ap_kept tasks t cells s) (seen_is a b same)

-- a test of what is kept tells of the states for which it stands
pub enabled_is : {code : CodeParts} {main : Start CodeScript} {first : List ℕ} {k : Kept} {s : State CodeScript} (core : IsCore code main first k s) (m : Move) (b : Bool) → (IsTrue b ↔ MayMove k m)
    → (IsTrue b ↔ ((n : State CodeScript) × IsMove (asks code) k.tree.tasks m s n))
enabled_is core m b h = (λ t. move_told core m (h.0 t), λ r. h.1 (move_tells core m r.0 r.1))

-- each move that was made
pub made_step : (code : CodeParts) (old new : Kept) (task : TaskNo) → MayMove old (moves.Step task) → HasStepped code task.0 old new → IsMade code old new (moves.Step task)
made_step code old new task may steps main first s core =
    let t = step_told core task.0 may in
    let n = steps_made code main first old new s core task.0 t.0 t.1 t.2 t.3 steps.0 steps.1 in
    (n.0, (t.0, t.1, t.2, t.3, n.1), n.2)

pub made_creation : (code : CodeParts) (old new : Kept) (task : TaskNo) → MayMove old (moves.Step task) → HasCreated code task.0 old new → IsMade code old new (moves.Step task)
made_creation code old new task may creates main first s core =
    let t = step_told core task.0 may in
    let n = creates_made code main first old new s core task.0 t.0 t.1 t.2 t.3 creates.0 creates.1 in
    (n.0, (t.0, t.1, t.2, t.3, n.1), n.2)

pub made_let : (code : CodeParts) (old new : Kept) (task : TaskNo) (cell : ℕ) → MayMove old (moves.Let task cell) → Lets task.0 cell old new → IsMade code old new (moves.Let task cell)
made_let code old new task cell may lets main first s core =
    let t = let_told core task.0 cell may in
    let n = lets_made code main first old new s core task.0 cell t.0 t.1 t.2 t.3 lets in
    (n.0, (t.0, t.1, t.2, t.3, n.1), n.2)

pub made_join : (code : CodeParts) (old new : Kept) (task : TaskNo) (cell : ℕ) (op : Op) → MayJoin old.tasks old.tree.tasks old.seen task.0 cell op → Joins code task.0 cell op old new → IsMade code old new (moves.Join task cell)
made_join code old new task cell op may joins main first s core =
    let t = join_told core task.0 cell op may in
    let n = joins_made code main first old new s core task.0 cell op t.0 t.1 t.2 t.3 joins in
    (n.0, (t.0, t.1, op, t.2, t.3, n.1), n.2)

-- a task that may step stands before an act
abbrev pub before_act : (k : Kept) (v : ℕ) → MayStep k.tasks k.tree.tasks k.seen v → StandsBefore k.tasks v
before_act k v may = record { held = may.held; is = may.is; running = may.goes.running; goes = may.goes.goes }

module _ {code : CodeParts} {main : Start CodeScript} {first : List ℕ} {k : Kept} {s : State CodeScript} (core : IsCore code main first k s) where
  -- what a creation needs
  pub creation_room : (v : ℕ) (b : StandsBefore k.tasks v) → creates (pending_of b.held.body) ≡ true → MayCreate k.tree.tasks v
  creation_room v b c = may_create core v b.held b.is b.running c

  pub creation_opens : (v : ℕ) (b : StandsBefore k.tasks v) → creates (pending_of b.held.body) ≡ true → (before child : Held) (accesses : List Access) → slice_get k.tasks v ≡ Some before → IsCreated code before child accesses
      → CanOpen k.seen (record { task = length k.tasks; parent = v; accesses = accesses })
  creation_opens v b c before child accesses is made =
      let same : b.held ≡ before = some_is (sym b.is ∙ is) in
      may_open core v before child accesses is (subst (λ (h : Held). is_over h.body ≡ false) same b.running) (subst (λ (h : Held). creates (pending_of h.body) ≡ true) same c) made.body made.rights made.rising

  -- what a cell that is given up needs
  pub holds_cell : (v c : ℕ) → OwesCell k.tasks v c → HoldsCell k.seen v c
  holds_cell v c o = let h = is_opened core v c o.held o.owed o.is o.owes in record { opened = h.0; kept = h.1 }

  pub fold_of : (v c : ℕ) (held : Held) (op : Op) → slice_get k.tasks v ≡ Some held → value_at held.owed.pieces c ≡ Some (owed.Join op) → IsFoldOf k.seen.opens v c op
  fold_of v c held op is owes = let h = is_folding core v c held op is owes in record { opened = h.0.opened; mode = h.1 }

-- a task that may let or join a cell owes it
pub let_owes : (k : Kept) (v c : ℕ) → MayLet k.tasks k.tree.tasks v c → OwesCell k.tasks v c
let_owes k v c may = record { held = may.held; is = may.is; owed = owed.Let; owes = may.gives.owes }

pub join_owes : (k : Kept) (v c : ℕ) (op : Op) → MayJoin k.tasks k.tree.tasks k.seen v c op → OwesCell k.tasks v c
join_owes k v c op may = record { held = may.held; is = may.is; owed = owed.Join op; owes = may.folds.owes }

-- the operator of a join is that of what is owed
pub one_join : (k : Kept) (v c : ℕ) (op other : Op) (held : Held) → MayJoin k.tasks k.tree.tasks k.seen v c op → slice_get k.tasks v ≡ Some held → value_at held.owed.pieces c ≡ Some (owed.Join other) → op ≡ other
one_join k v c op other held may is owes =
    let same : may.held ≡ held = some_is (sym may.is ∙ is) in
    let e : Some (owed.Join op) ≡ Some (owed.Join other) = sym may.folds.owes ∙ ap (λ (h : Held). value_at h.owed.pieces c) same ∙ owes in
    cc
