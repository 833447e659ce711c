-- A move of a schedule is enabled in each of two states that are one, or in neither, and leads to states that are one.
use Rattle.std.proofs.Common.{◌≡◌, ℕ, zero, suc, ◌+◌, refl, sym, subst, ap, ◌∙◌, List, [], ◌∷◌, true}
use Rattle.oss_syntax.specs.declared.access.Op.{Op}
use Rattle.oss_syntax.specs.declared.access.Mode.TheVariants.{Fold}
use Rattle.oss_model.specs.Order.{written}
use Rattle.oss_model.specs.Rights.{Holds}
use Rattle.oss_model.specs.Context.{right_of}
use Rattle.oss_model.specs.Bodies.{Program, Start}
use Rattle.oss_model.specs.Machine.{Task, State, At}
use Rattle.oss_model.specs.Moves.{act_now, cells_after, found_by, after_answer, Stepped, GaveUp, LetGo, Joined, joined_cells, Moved, steps, lets, joins, Reached, moves}
use Rattle.oss_model.proofs.SortLemmas.{reverse_same}
use Rattle.oss_model.proofs.TreeLemmas.{at_same}
use Rattle.oss_wave_laws.specs.Claims.{IsSame}
use Rattle.oss_wave_laws.proofs.SameLemmas.{same_itself, same_back, at_forth, complete_forth, can_step_forth, can_let_forth, can_join_forth, step_same, let_same, join_same}
use Rattle.oss_sched.specs.declared.moves.TextMove.{TextMove}
use Rattle.oss_sched.specs.declared.moves.TextMove.TheVariants.{Step, Let, Join}
use Rattle.oss_core.specs.Stops.{IsUnfinished, HasUnfinished}
use Rattle.oss_replay.specs.Replays.{StepsTo, LetsTo, JoinsTo, parts_in, IsPartOf, Makes, makes_none, makes_more, Leads, IsEnabled, Plays, plays_none, plays_more, IsStuckAt, stuck_here, stuck_later}
use Rattle.oss_replay.proofs.ListLemmas.{one_length}

-- paths that are written alike are one
pub one_path : (p q : List ℕ) → written p ≡ written q → p ≡ q
one_path p q e = reverse_same p q (tail e)
  where
    tail : {xs ys : List ℕ} → 0 ∷ xs ≡ 0 ∷ ys → xs ≡ ys
    tail f = cc

module _ {S : Type 0} (P : Program S) {s m : State S} (same : IsSame s m) where
  -- what lies behind a move from the one state lies behind it from the other
  stepped_forth : {p : List ℕ} {t : Task S} {n : State S} → Stepped P s p t n → Stepped P m p t n
  stepped_forth {p = p} {t = t} {n = n} h = record {
    cells = h.cells ∙ sym (ap (cells_after (act_now P t.body)) same.cells);
    tasks = record {
      own = subst (λ (cs : List ℕ). At n p (after_answer (found_by (act_now P t.body) cs) t)) (sym same.cells) h.tasks.own;
      made = h.tasks.made;
      others = λ q ne f. h.tasks.others q ne f ∙ sym (same.tasks q);
    };
  }

  gave_forth : {p : List ℕ} {c : ℕ} {t : Task S} {n : State S} → GaveUp s p c t n → GaveUp m p c t n
  gave_forth h = record { own = h.own; others = λ q ne. h.others q ne ∙ sym (same.tasks q) }

  let_forth : {p : List ℕ} {c : ℕ} {t : Task S} {n : State S} → LetGo s p c t n → LetGo m p c t n
  let_forth h = record { cells = h.cells ∙ sym same.cells; tasks = gave_forth h.tasks }

  joined_forth : {p : List ℕ} {c : ℕ} {op : Op} {t : Task S} {n : State S} → Joined P s p c op t n → Joined P m p c op t n
  joined_forth {c = c} {op = op} {t = t} h = record { cells = h.cells ∙ sym (ap (joined_cells P c op t) same.cells); tasks = gave_forth h.tasks }

  steps_forth : (p : List ℕ) (n : State S) → StepsTo P p s n → StepsTo P p m n
  steps_forth p n h = record { task = h.task; can = can_step_forth P same p h.task h.can; stepped = stepped_forth h.stepped }

  lets_forth : (p : List ℕ) (c : ℕ) (n : State S) → LetsTo P p c s n → LetsTo P p c m n
  lets_forth p c n h = record { task = h.task; can = can_let_forth P same p c h.task h.can; let_go = let_forth h.let_go }

  joins_forth : (p : List ℕ) (c : ℕ) (n : State S) → JoinsTo P p c s n → JoinsTo P p c m n
  joins_forth p c n h = record { op = h.op; task = h.task; can = can_join_forth P same p c h.op h.task h.can; joined = joined_forth h.joined }

  pub part_forth : (p : List ℕ) (move : TextMove) (k : ℕ) (n : State S) → IsPartOf P p move k s n → IsPartOf P p move k m n
  part_forth p (Step point count) k n h = steps_forth p n h
  part_forth p (Let point first count) k n h = lets_forth p (first + k) n h
  part_forth p (Join point first count) k n h = joins_forth p (first + k) n h

  -- and from both a part leads to one state
  steps_one : (p : List ℕ) (x y : State S) → StepsTo P p s x → StepsTo P p m y → IsSame x y
  steps_one p x y a b =
      let e : b.task ≡ a.task = at_same m p b.task a.task b.can.at_ (at_forth same p a.task a.can.at_) in
      step_same P p a.task same a.stepped (subst (λ (z : Task S). Stepped P m p z y) e b.stepped)

  lets_one : (p : List ℕ) (c : ℕ) (x y : State S) → LetsTo P p c s x → LetsTo P p c m y → IsSame x y
  lets_one p c x y a b =
      let e : b.task ≡ a.task = at_same m p b.task a.task b.can.at_ (at_forth same p a.task a.can.at_) in
      let_same p c a.task same a.let_go (subst (λ (z : Task S). LetGo m p c z y) e b.let_go)

  fold_op : (a b : Op) → Holds (Fold a) true ≡ Holds (Fold b) true → a ≡ b
  fold_op a b e = cc

  joins_one : (p : List ℕ) (c : ℕ) (x y : State S) → JoinsTo P p c s x → JoinsTo P p c m y → IsSame x y
  joins_one p c x y a b =
      let e : b.task ≡ a.task = at_same m p b.task a.task b.can.at_ (at_forth same p a.task a.can.at_) in
      let r : Holds (Fold b.op) true ≡ Holds (Fold a.op) true = sym b.can.right ∙ (ap (λ (z : Task S). right_of z.body.start.context c) e ∙ a.can.right) in
      let g : b.op ≡ a.op = fold_op b.op a.op r in
      join_same P p c a.op a.task same a.joined (subst (λ (o : Op). Joined P m p c o a.task y) g (subst (λ (z : Task S). Joined P m p c b.op z y) e b.joined))

  pub part_one : (p : List ℕ) (move : TextMove) (k : ℕ) (x y : State S) → IsPartOf P p move k s x → IsPartOf P p move k m y → IsSame x y
  part_one p (Step point count) k x y a b = steps_one p x y a b
  part_one p (Let point first count) k x y a b = lets_one p (first + k) x y a b
  part_one p (Join point first count) k x y a b = joins_one p (first + k) x y a b

-- a task is not complete in both or in neither
unfinished_forth : {S : Type 0} (P : Program S) {s m : State S} → IsSame s m → (p : List ℕ) → IsUnfinished P s p → IsUnfinished P m p
unfinished_forth P same p h = record { task = h.task; at_ = at_forth same p h.task h.at_; left = λ c. h.left (complete_forth P (same_back same) c) }

-- so as many are not
pub unfinished_one : {S : Type 0} (P : Program S) {s m : State S} (a b : ℕ) → IsSame s m → HasUnfinished P s a → HasUnfinished P m b → a ≡ b
unfinished_one P a b same h k =
    let e = one_length h.list k.list h.apart k.apart (λ p i. (k.exact p).1 (unfinished_forth P same p ((h.exact p).0 i)))
    (λ p i. (h.exact p).1 (unfinished_forth P (same_back same) p ((k.exact p).0 i))) in
    sym h.count ∙ (e ∙ k.count)

module _ {S : Type 0} (P : Program S) where
  -- the first parts of a move lead to one state
  pub makes_one : {s m : State S} → IsSame s m → (p : List ℕ) (move : TextMove) (k : ℕ) {x y : State S} → Makes P p move s k x → Makes P p move m k y → IsSame x y
  makes_one same p move zero makes_none makes_none = same
  makes_one same p move (suc k) {x = x} {y = y} (makes_more r a) (makes_more q b) = part_one P (makes_one same p move k r q) p move k x y a b

  -- a state in which the first parts of a move are made from another state
  record MadeFrom (m : State S) (p : List ℕ) (move : TextMove) (k : ℕ) (x : State S) : Type 0 where
    pub state : State S
    pub makes : Makes P p move m k state
    pub same : IsSame x state

  makes_forth : {s m : State S} → IsSame s m → (p : List ℕ) (move : TextMove) (k : ℕ) (x : State S) → Makes P p move s k x → MadeFrom m p move k x
  makes_forth {m = m} same p move zero x makes_none = record { state = m; makes = makes_none; same = same }
  makes_forth same p move (suc k) x (makes_more {a = a} r h) =
      let f = makes_forth same p move k a r in
      record { state = x; makes = makes_more f.makes (part_forth P f.same p move k x h); same = same_itself x }

  -- a move that leads from the one state to another leads from the other
  pub enabled_forth : {s m : State S} → IsSame s m → (move : TextMove) → IsEnabled P move s → IsEnabled P move m
  enabled_forth same move (x, h) =
      let f = makes_forth same h.path move (parts_in move) x h.makes in
      (f.state, record { path = h.path; point = h.point; task = h.task; at_ = at_forth same h.path h.task h.at_; makes = f.makes })

  -- and both lead to one state
  pub leads_one : {s m : State S} → IsSame s m → (move : TextMove) {x y : State S} → Leads P move s x → Leads P move m y → IsSame x y
  leads_one {m = m} same move {y = y} a b =
      let e : b.path ≡ a.path = one_path b.path a.path (b.point ∙ sym a.point) in
      makes_one same a.path move (parts_in move) a.makes (subst (λ (p : List ℕ). Makes P p move m (parts_in move) y) e b.makes)

  -- so do moves one after the other
  pub plays_one : (list : List TextMove) {s m x y : State S} → IsSame s m → Plays P s list x → Plays P m list y → IsSame x y
  plays_one [] same plays_none plays_none = same
  plays_one (move ∷ rest) same (plays_more a r) (plays_more b q) = plays_one rest (leads_one same move a b) r q

  -- where all are made, none is not enabled
  pub not_stuck : (list : List TextMove) {s m x : State S} {number at : ℕ} → IsSame s m → Plays P s list x → IsStuckAt P m number list at → ⊥
  not_stuck [] same plays_none h = elim h [ ]
  not_stuck (move ∷ rest) same (plays_more {m = n} a r) (stuck_here never) = never (enabled_forth same move (n, a))
  not_stuck (move ∷ rest) same (plays_more a r) (stuck_later b h) = not_stuck rest (leads_one same move a b) r h

  -- and one at most is the first that is not
  pub stuck_one : (list : List TextMove) {s m : State S} (number a b : ℕ) → IsSame s m → IsStuckAt P s number list a → IsStuckAt P m number list b → a ≡ b
  stuck_one [] number a b same h k = elim h [ ]
  stuck_one (move ∷ rest) number a b same (stuck_here never) (stuck_here none) = refl
  stuck_one (move ∷ rest) number a b same (stuck_here never) (stuck_later {m = n} l k) = absurd (never (enabled_forth (same_back same) move (n, l)))
  stuck_one (move ∷ rest) number a b same (stuck_later {m = n} l h) (stuck_here never) = absurd (never (enabled_forth same move (n, l)))
  stuck_one (move ∷ rest) number a b same (stuck_later l h) (stuck_later o k) = stuck_one rest (number + 1) a b (leads_one same move l o) h k

  -- a part of a move is a move of the machine
  part_moves : (p : List ℕ) (move : TextMove) (k : ℕ) (s n : State S) → IsPartOf P p move k s n → Moved P s n
  part_moves p (Step point count) k s n h = steps h.can h.stepped
  part_moves p (Let point first count) k s n h = lets h.can h.let_go
  part_moves p (Join point first count) k s n h = joins h.can h.joined

  -- so it leads from states of a run to such
  makes_reached : (main : Start S) (cells : List ℕ) (p : List ℕ) (move : TextMove) (k : ℕ) (s n : State S) → Reached P main cells s → Makes P p move s k n → Reached P main cells n
  makes_reached main cells p move zero s n h makes_none = h
  makes_reached main cells p move (suc k) s n h (makes_more {a = a} r i) = moves (makes_reached main cells p move k s a h r) (part_moves p move k a n i)

  pub plays_reached : (main : Start S) (cells : List ℕ) (list : List TextMove) (s n : State S) → Reached P main cells s → Plays P s list n → Reached P main cells n
  plays_reached main cells [] s n h plays_none = h
  plays_reached main cells (move ∷ rest) s n h (plays_more {m = m} l r) =
      plays_reached main cells rest m n (makes_reached main cells l.path move (parts_in move) s m h l.makes) r
