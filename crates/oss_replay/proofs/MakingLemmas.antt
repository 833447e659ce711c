-- A core makes the moves of a schedule, a part at a time.
use Rattle.std.proofs.Common.{◌≡◌, ℕ, zero, suc, ◌+◌, ◌<◌, ◌≤◌, ◌^◌, ◌⊎◌, inl, inr, sym, subst, ap, ◌∙◌, arith, List, [], ◌∷◌, length, drop, get_or, true}
use Rattle.std.proofs.Math.ListN.{drop_of_length-le}
use Rattle.std.proofs.Math.Seq.{drop-cons}
use Rattle.oss_syntax.specs.declared.access.Mode.TheVariants.{Fold}
use Rattle.oss_model.specs.Order.{written}
use Rattle.oss_model.specs.Bodies.{Program, Start}
use Rattle.oss_model.specs.Machine.{Task, State, At}
use Rattle.oss_model.specs.Answers.{IsStopped, IsAnswer}
use Rattle.oss_model.specs.declared.answer.Answer.{Answer}
use Rattle.oss_model.specs.declared.task_no.TaskNo.{TaskNo}
use Rattle.oss_model.proofs.RecallLemmas.{right_in_memory}
use Rattle.oss_wave_laws.specs.Claims.{IsSame}
use Rattle.oss_wave_laws.proofs.SameLemmas.{same_itself}
use Rattle.oss_code.specs.declared.code.CodeParts.{CodeParts}
use Rattle.oss_machine.specs.Frames.{CodeScript}
use Rattle.oss_machine.specs.Machines.{asks}
use Rattle.oss_tree.specs.declared.task.Task.{Task as TreeTask}
use Rattle.oss_tree.specs.Tasks.{HasPoint}
use Rattle.oss_core.specs.Kept.{IsCore, IsRunning, Kept}
use Rattle.oss_core.specs.Changes.{IsMove, IsMade}
use Rattle.oss_core.specs.Stops.{HasUnfinished}
use Rattle.oss_core.proofs.KeepLemmas.{some_is}
use Rattle.oss_core.proofs.TreeFacts.{core_made, at_number, task_within, point_of_path}
use Rattle.oss_sched.specs.declared.moves.TextMove.{TextMove}
use Rattle.oss_sched.specs.declared.moves.TextMove.TheVariants.{Step, Let, Join}
use Rattle.oss_replay.specs.declared.replayed.Replayed.{Replayed}
use Rattle.oss_replay.specs.declared.replayed.Replayed.TheVariants.{Answered, NotEnabled, Unfinished}
use Rattle.oss_replay.specs.Replays.{point_in, parts_in, IsPartOf, Makes, makes_none, makes_more, Leads, plays_none, plays_more, stuck_here, stuck_later, IsReplayedFrom}
use Rattle.oss_replay.specs.Making.{part_of, IsBeyond, MakesPart, RefusesPart, MakesParts, MakesMove, RefusesMove, Replays, HasReplayed}
use Rattle.oss_replay.proofs.SameLemmas.{one_path, part_forth, makes_one}

-- the element that stands next is in front of those that are left
pub left_from : {A : Type 0} (xs : List A) (i : ℕ) (x : A) → i < length xs → x ≡ get_or xs i x → drop i xs ≡ x ∷ drop (i + 1) xs
left_from xs i x l e =
    let f : suc i ≡ i + 1 = omega arith in
    drop-cons xs i x l ∙ (λ k. sym e k ∷ drop (f k) xs)

-- and none is left at the end
pub none_left : {A : Type 0} (xs : List A) (i : ℕ) → length xs ≤ i → drop i xs ≡ []
none_left xs i l = drop_of_length-le xs l

-- a task has one point
same_point : (tasks : List TreeTask) (v : ℕ) (p q : List ℕ) → HasPoint tasks v p → HasPoint tasks v q → p ≡ q
same_point tasks v p q h g = sym h.point ∙ (ap (λ (t : TreeTask). t.point) (some_is (sym h.at_ ∙ g.at_)) ∙ g.point)

-- a part is made by a task of the state
part_task : {S : Type 0} (P : Program S) (path : List ℕ) (move : TextMove) (k : ℕ) (s n : State S) → IsPartOf P path move k s n → (task : Task S) × At s path task
part_task P path (Step point count) k s n h = (h.task, h.can.at_)
part_task P path (Let point first count) k s n h = (h.task, h.can.at_)
part_task P path (Join point first count) k s n h = (h.task, h.can.at_)

-- a part of the move of a state is one of the machine, and the other way
part_is : (P : Program CodeScript) (tasks : List TreeTask) (task : TaskNo) (move : TextMove) (k : ℕ) (s n : State CodeScript) → HasPoint tasks task.0 (point_in move)
    → IsMove P tasks (part_of move task k) s n → (path : List ℕ) × (written path ≡ point_in move) × IsPartOf P path move k s n
part_is P tasks task (Step point count) k s n named (path, one, h, can, to) = (path, same_point tasks task.0 (written path) point h named, record { task = one; can = can; stepped = to })
part_is P tasks task (Let point first count) k s n named (path, one, h, can, to) = (path, same_point tasks task.0 (written path) point h named, record { task = one; can = can; let_go = to })
part_is P tasks task (Join point first count) k s n named (path, one, op, h, can, to) =
    (path, same_point tasks task.0 (written path) point h named, record { op = op; task = one; can = can; joined = to })

part_was : (P : Program CodeScript) (tasks : List TreeTask) (task : TaskNo) (move : TextMove) (k : ℕ) (s n : State CodeScript) → HasPoint tasks task.0 (point_in move)
    → (path : List ℕ) → written path ≡ point_in move → IsPartOf P path move k s n → IsMove P tasks (part_of move task k) s n
part_was P tasks task (Step point count) k s n named path e h = (path, h.task, subst (λ (p : List ℕ). HasPoint tasks task.0 p) (sym e) named, h.can, h.stepped)
part_was P tasks task (Let point first count) k s n named path e h = (path, h.task, subst (λ (p : List ℕ). HasPoint tasks task.0 p) (sym e) named, h.can, h.let_go)
part_was P tasks task (Join point first count) k s n named path e h = (path, h.task, h.op, subst (λ (p : List ℕ). HasPoint tasks task.0 p) (sym e) named, h.can, h.joined)

-- what no task of the tree has as its point is the point of none of the state
no_task : (code : CodeParts) (main : Start CodeScript) (first : List ℕ) (k : Kept) (s : State CodeScript) → IsCore code main first k s → (point : List ℕ) → ((t : ℕ) → HasPoint k.tree.tasks t point → ⊥)
    → (path : List ℕ) (task : Task CodeScript) → written path ≡ point → At s path task → ⊥
no_task code main first k s core point none path task e h =
    let b = core.stands.back path task h in
    none b.0 (subst (λ (p : List ℕ). HasPoint k.tree.tasks b.0 p) e (point_of_path core b.0 path b.1))

-- and what one has is that of a task of the state
some_task : (code : CodeParts) (main : Start CodeScript) (first : List ℕ) (k : Kept) (s : State CodeScript) → IsCore code main first k s → (v : ℕ) (point : List ℕ) → HasPoint k.tree.tasks v point
    → (path : List ℕ) × (task : Task CodeScript) × (written path ≡ point) × At s path task
some_task code main first k s core v point h =
    let x = at_number core v (task_within core v h.task h.at_) in
    let r = core.stands.there v x.body x.body_at in
    (x.body.start.path, r.0, sym x.is_known.point ∙ (ap (λ (t : TreeTask). t.point) (some_is (sym x.task_at ∙ h.at_)) ∙ h.point), r.1)

-- a cell that 32 bits cannot tell is none of a task
beyond : (code : CodeParts) (main : Start CodeScript) (first : List ℕ) (kept : Kept) (s n : State CodeScript) → length first ≤ 1048576 → IsCore code main first kept s
    → (path : List ℕ) (move : TextMove) (k : ℕ) → IsBeyond move k → IsPartOf (asks code) path move k s n → ⊥
beyond code main first kept s n few core path (Step point count) k far h = far
beyond code main first kept s n few core path (Let point from count) k far h =
    let l : from + k < length first = right_in_memory (asks code) main s first (from + k) path h.can.mode (core_made core) core.setting.memory
    (record { task = h.task; at_ = h.can.at_; strong = h.can.strong; right = h.can.right }) in
    let big : 1048576 ≤ 2 ^ 32 = omega arith in
    omega (arith, l, few, far, big)
beyond code main first kept s n few core path (Join point from count) k far h =
    let l : from + k < length first = right_in_memory (asks code) main s first (from + k) path (Fold h.op) (core_made core) core.setting.memory
    (record { task = h.task; at_ = h.can.at_; strong = true; right = h.can.right }) in
    let big : 1048576 ≤ 2 ^ 32 = omega arith in
    omega (arith, l, few, far, big)

-- a part that was made
pub makes_part : (code : CodeParts) (old now : Kept) (move : TextMove) (k : ℕ) (task : TaskNo) → HasPoint old.tree.tasks task.0 (point_in move) → IsMade code old now (part_of move task k)
    → MakesPart code old now move k
makes_part code old now move k task named made main first s core =
    let m = made main first s core in
    let p = part_is (asks code) old.tree.tasks task move k s m.0 named m.1 in
    record { path = p.0; point = p.1; state = m.0; part = p.2; core = m.2 }

-- one that is refused since there is no task
pub refuses_none : (code : CodeParts) (now : Kept) (move : TextMove) (k : ℕ) → ((t : ℕ) → HasPoint now.tree.tasks t (point_in move) → ⊥) → RefusesPart code now move k
refuses_none code now move k none main first s few core path n e h =
    let t = part_task (asks code) path move k s n h in
    no_task code main first now s core (point_in move) none path t.0 e t.1

-- or no cell
pub refuses_beyond : (code : CodeParts) (now : Kept) (move : TextMove) (k : ℕ) → IsBeyond move k → RefusesPart code now move k
refuses_beyond code now move k far main first s few core path n e h = beyond code main first now s n few core path move k far h

-- or it may not be made now
pub refuses_part : (code : CodeParts) (now : Kept) (move : TextMove) (k : ℕ) (task : TaskNo) → HasPoint now.tree.tasks task.0 (point_in move)
    → ((main : Start CodeScript) (first : List ℕ) (s : State CodeScript) → IsCore code main first now s → (n : State CodeScript) → IsMove (asks code) now.tree.tasks (part_of move task k) s n → ⊥)
    → RefusesPart code now move k
refuses_part code now move k task named not_now main first s few core path n e h = not_now main first s core n (part_was (asks code) now.tree.tasks task move k s n named path e h)

-- a core that has made a part runs on
pub part_runs : (code : CodeParts) (old now : Kept) (move : TextMove) (k : ℕ) → IsRunning code old → MakesPart code old now move k → IsRunning code now
part_runs code old now move k r made =
    let m = made r.main r.first r.state r.core in
    record { main = r.main; first = r.first; state = m.state; core = m.core }

-- no part is made yet
pub no_parts : (code : CodeParts) (now : Kept) (move : TextMove) (v : ℕ) → HasPoint now.tree.tasks v (point_in move) → MakesParts code now now move zero
no_parts code now move v named main first s core =
    let t = some_task code main first now s core v (point_in move) named in
    record { path = t.0; point = t.2; task = t.1; at_ = t.3; state = s; makes = makes_none; core = core }

-- one more is
pub more_parts : (code : CodeParts) (old mid now : Kept) (move : TextMove) (k : ℕ) → MakesParts code old mid move k → MakesPart code mid now move k → MakesParts code old now move (suc k)
more_parts code old mid now move k made part main first s core =
    let a = made main first s core in
    let b = part main first a.state a.core in
    let e : b.path ≡ a.path = one_path b.path a.path (b.point ∙ sym a.point) in
    record {
      path = a.path;
      point = a.point;
      task = a.task;
      at_ = a.at_;
      state = b.state;
      makes = makes_more a.makes (subst (λ (p : List ℕ). IsPartOf (asks code) p move k a.state b.state) e b.part);
      core = b.core;
    }

-- all are
pub all_parts : (code : CodeParts) (old now : Kept) (move : TextMove) → MakesParts code old now move (parts_in move) → MakesMove code old now move
all_parts code old now move made main first s core =
    let a = made main first s core in
    (a.state, record { path = a.path; point = a.point; task = a.task; at_ = a.at_; makes = a.makes }, a.core)

-- where so many parts of a move can be made, each of them can be, behind those before it
record PartAt {S : Type 0} (P : Program S) (path : List ℕ) (move : TextMove) (k : ℕ) (s : State S) : Type 0 where
  pub before : State S
  pub makes : Makes P path move s k before
  pub after : State S
  pub part : IsPartOf P path move k before after

part_at : {S : Type 0} (P : Program S) (path : List ℕ) (move : TextMove) (k count : ℕ) (s n : State S) → k < count → Makes P path move s count n → PartAt P path move k s
part_at P path move k zero s n l makes_none = absurd (omega (arith, l))
part_at {S = S} P path move k (suc count) s n l (makes_more {a = a} r h) = go (which_less k count l) (λ less. part_at P path move k count s a less r)
  where
    which_less : (x y : ℕ) → x < suc y → (x ≡ y) ⊎ (x < y)
    which_less x y h = grind arith

    go : (k ≡ count) ⊎ (k < count) → (k < count → PartAt P path move k s) → PartAt P path move k s
    go (inl e) f =
        subst (λ (j : ℕ). PartAt P path move j s) (sym e) (record { before = a; makes = r; after = n; part = h })
    go (inr less) f = f less

-- a move of which a part is refused is not enabled
pub refuses_move : (code : CodeParts) (old now : Kept) (move : TextMove) (k : ℕ) → k < parts_in move → MakesParts code old now move k → RefusesPart code now move k → RefusesMove code old move
refuses_move code old now move k l made refused main first s few core enabled =
    let a = made main first s core in
    let b = part_at (asks code) enabled.1.path move k (parts_in move) s enabled.0 l enabled.1.makes in
    let e : enabled.1.path ≡ a.path = one_path enabled.1.path a.path (enabled.1.point ∙ sym a.point) in
    let same : IsSame b.before a.state = makes_one (asks code) (same_itself s) a.path move k (subst (λ (p : List ℕ). Makes (asks code) p move s k b.before) e b.makes) a.makes in
    refused main first a.state few a.core enabled.1.path b.after enabled.1.point (part_forth (asks code) same enabled.1.path move k b.after b.part)

-- so is one whose task there is not
pub refuses_absent : (code : CodeParts) (now : Kept) (move : TextMove) → ((t : ℕ) → HasPoint now.tree.tasks t (point_in move) → ⊥) → RefusesMove code now move
refuses_absent code now move none main first s few core enabled = no_task code main first now s core (point_in move) none enabled.1.path enabled.1.task enabled.1.point enabled.1.at_

-- a core that has made a move runs on
pub move_runs : (code : CodeParts) (old now : Kept) (move : TextMove) → IsRunning code old → MakesMove code old now move → IsRunning code now
move_runs code old now move r made =
    let m = made r.main r.first r.state r.core in
    record { main = r.main; first = r.first; state = m.0; core = m.2 }

-- behind a move, what comes of those that are left comes of all
led : (P : Program CodeScript) (s m : State CodeScript) (number : ℕ) (move : TextMove) (rest : List TextMove) (replayed : Replayed) → Leads P move s m → IsReplayedFrom P m (number + 1) rest replayed
    → IsReplayedFrom P s number (move ∷ rest) replayed
led P s m number move rest (Answered answer) l (n, plays, stopped, h) = (n, plays_more l plays, stopped, h)
led P s m number move rest (NotEnabled at) l h = stuck_later l h
led P s m number move rest (Unfinished count) l (n, plays, left, h) = (n, plays_more l plays, left, h)

pub replays_more : (code : CodeParts) (old mid now : Kept) (number later : ℕ) (list : List TextMove) (move : TextMove) (rest : List TextMove)
    → HasReplayed code old number list mid later (move ∷ rest) → MakesMove code mid now move → HasReplayed code old number list now (later + 1) rest
replays_more code old mid now number later list move rest so_far made replayed h =
    so_far replayed (λ main first s few core.
    let m = made main first s core in
    led (asks code) s m.0 later move rest replayed m.1 (h main first m.0 few m.2))

-- where a move is refused, it is the end of all
pub replays_stuck : (code : CodeParts) (old now : Kept) (number later : ℕ) (list : List TextMove) (move : TextMove) (rest : List TextMove)
    → HasReplayed code old number list now later (move ∷ rest) → RefusesMove code now move → Replays code old number list (NotEnabled later)
replays_stuck code old now number later list move rest so_far refused = so_far (NotEnabled later) (λ main first s few core. stuck_here (refused main first s few core))

-- where no move is left, the end is the answer
pub replays_answered : (code : CodeParts) (now : Kept) (number : ℕ) (answer : Answer)
    → ((code : CodeParts) (main : Start CodeScript) (first : List ℕ) (s : State CodeScript) → IsCore code main first now s → IsStopped (asks code) s × IsAnswer (asks code) s answer)
    → Replays code now number [] (Answered answer)
replays_answered code now number answer told main first s few core = let h = told code main first s core in (s, plays_none, h.0, h.1)

-- and else how many tasks are not complete
pub replays_unfinished : (code : CodeParts) (now : Kept) (number count : ℕ)
    → ((code : CodeParts) (main : Start CodeScript) (first : List ℕ) (s : State CodeScript) → IsCore code main first now s → IsStopped (asks code) s → ⊥)
    → ((code : CodeParts) (main : Start CodeScript) (first : List ℕ) (s : State CodeScript) → IsCore code main first now s → HasUnfinished (asks code) s count)
    → Replays code now number [] (Unfinished count)
replays_unfinished code now number count left told main first s few core = (s, plays_none, left code main first s core, told code main first s core)
