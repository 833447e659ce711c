-- A schedule does the same with two programs whose bodies do the same acts: its moves are enabled in both or in neither, they lead to states that are
-- alike, and as many tasks are left.
use Rattle.std.proofs.Common.{◌≡◌, ℕ, zero, suc, ◌+◌, List, [], ◌∷◌, subst}
use Rattle.oss_model.specs.Bodies.{Program, Start}
use Rattle.oss_model.specs.Machine.{State}
use Rattle.oss_same_acts_laws.specs.Alike.{IsAlike, IsBisimulation, turned}
use Rattle.oss_same_acts_laws.proofs.AlikeTheorem.{step_forth, let_forth, join_forth}
use Rattle.oss_same_acts_laws.proofs.MayLemmas.{complete_forth}
use Rattle.oss_same_acts_laws.proofs.TurnLemmas.{alike_back, at_forth, bisimulation_back}
use Rattle.oss_sched.specs.declared.moves.TextMove.{TextMove}
use Rattle.oss_sched.specs.declared.moves.TextMove.TheVariants.{Step, Let, Join}
use Rattle.oss_core.specs.Stops.{IsUnfinished, HasUnfinished}
use Rattle.oss_replay.specs.Replays.{StepsTo, LetsTo, JoinsTo, parts_in, IsPartOf, Makes, makes_none, makes_more, Leads, IsEnabled, Plays, plays_none, plays_more, IsStuckAt, stuck_here, stuck_later}

module _ {S T : Type 0} (P : Program S) (Q : Program T) (R : Start S → Start T → Type 0) (is : IsBisimulation P Q R) where
  -- a part of a move that is made in the other program, too
  record PartToo (p : List ℕ) (move : TextMove) (k : ℕ) (x : State S) (n : State T) : Type 0 where
    pub state : State T
    pub part : IsPartOf Q p move k n state
    pub alike : IsAlike R x state

  steps_too : {s : State S} {n : State T} → IsAlike R s n → (p : List ℕ) (x : State S) → StepsTo P p s x → (m : State T) × StepsTo Q p n m × IsAlike R x m
  steps_too same p x h =
      let d = step_forth P Q R is same p h.task h.can h.stepped in
      (d.state, record { task = d.task; can = d.can; stepped = d.stepped }, d.alike)

  lets_too : {s : State S} {n : State T} → IsAlike R s n → (p : List ℕ) (c : ℕ) (x : State S) → LetsTo P p c s x → (m : State T) × LetsTo Q p c n m × IsAlike R x m
  lets_too same p c x h =
      let d = let_forth P Q R is same p c h.task h.can h.let_go in
      (d.state, record { task = d.task; can = d.can; let_go = d.let_go }, d.alike)

  joins_too : {s : State S} {n : State T} → IsAlike R s n → (p : List ℕ) (c : ℕ) (x : State S) → JoinsTo P p c s x → (m : State T) × JoinsTo Q p c n m × IsAlike R x m
  joins_too same p c x h =
      let d = join_forth P Q R is same p c h.op h.task h.can h.joined in
      (d.state, record { op = h.op; task = d.task; can = d.can; joined = d.joined }, d.alike)

  part_too : {s : State S} {n : State T} → IsAlike R s n → (p : List ℕ) (move : TextMove) (k : ℕ) (x : State S) → IsPartOf P p move k s x → PartToo p move k x n
  part_too same p (Step point count) k x h = let (m, d, a) = steps_too same p x h in record { state = m; part = d; alike = a }
  part_too same p (Let point first count) k x h = let (m, d, a) = lets_too same p (first + k) x h in record { state = m; part = d; alike = a }
  part_too same p (Join point first count) k x h = let (m, d, a) = joins_too same p (first + k) x h in record { state = m; part = d; alike = a }

  -- so are the first parts of a move
  record MadeToo (p : List ℕ) (move : TextMove) (k : ℕ) (x : State S) (n : State T) : Type 0 where
    pub state : State T
    pub makes : Makes Q p move n k state
    pub alike : IsAlike R x state

  makes_too : {s : State S} {n : State T} → IsAlike R s n → (p : List ℕ) (move : TextMove) (k : ℕ) (x : State S) → Makes P p move s k x → MadeToo p move k x n
  makes_too {n = n} same p move zero x makes_none = record { state = n; makes = makes_none; alike = same }
  makes_too same p move (suc k) x (makes_more {a = a} r h) =
      let f = makes_too same p move k a r in
      let d = part_too f.alike p move k x h in
      record { state = d.state; makes = makes_more f.makes d.part; alike = d.alike }

  -- a move that leads to a state leads, in the other program, to one that is alike
  pub record LeadsToo (move : TextMove) (x : State S) (n : State T) : Type 0 where
    pub state : State T
    pub leads : Leads Q move n state
    pub alike : IsAlike R x state

  pub leads_too : {s : State S} {n : State T} → IsAlike R s n → (move : TextMove) (x : State S) → Leads P move s x → LeadsToo move x n
  leads_too same move x h =
      let f = makes_too same h.path move (parts_in move) x h.makes in
      let t = at_forth same h.path h.task h.at_ in
      record { state = f.state; leads = record { path = h.path; point = h.point; task = t.0; at_ = t.1; makes = f.makes }; alike = f.alike }

  pub enabled_too : {s : State S} {n : State T} → IsAlike R s n → (move : TextMove) → IsEnabled P move s → IsEnabled Q move n
  enabled_too same move (x, h) = let d = leads_too same move x h in (d.state, d.leads)

  -- so do moves one after the other
  pub record PlaysToo (list : List TextMove) (x : State S) (n : State T) : Type 0 where
    pub state : State T
    pub plays : Plays Q n list state
    pub alike : IsAlike R x state

  pub plays_too : (list : List TextMove) {s : State S} {n : State T} → IsAlike R s n → (x : State S) → Plays P s list x → PlaysToo list x n
  plays_too [] {n = n} same x plays_none = record { state = n; plays = plays_none; alike = same }
  plays_too (move ∷ rest) same x (plays_more {m = m} h r) =
      let d = leads_too same move m h in
      let f = plays_too rest d.alike x r in
      record { state = f.state; plays = plays_more d.leads f.plays; alike = f.alike }

  -- a task that is not complete is not in the other state
  unfinished_forth : IsBisimulation Q P (turned R) → {s : State S} {n : State T} → IsAlike R s n → (p : List ℕ) → IsUnfinished P s p → IsUnfinished Q n p
  unfinished_forth back same p h =
      let t = at_forth same p h.task h.at_ in
      record { task = t.0; at_ = t.1; left = λ c. h.left (complete_forth Q P (turned R) back (alike_back same) c) }

-- and a move that is not enabled is not in the other program
pub stuck_too : {S T : Type 0} (P : Program S) (Q : Program T) (R : Start S → Start T → Type 0) → IsBisimulation P Q R
    → (list : List TextMove) {s : State S} {n : State T} → IsAlike R s n → (number at : ℕ) → IsStuckAt P s number list at → IsStuckAt Q n number list at
stuck_too P Q R is [] same number at h = elim h [ ]
stuck_too P Q R is (move ∷ rest) same number at (stuck_here never) =
    stuck_here (λ e. never (enabled_too Q P (turned R) (bisimulation_back is) (alike_back same) move e))
stuck_too P Q R is (move ∷ rest) same number at (stuck_later {m = m} h k) =
    let d = leads_too P Q R is same move m h in
    stuck_later d.leads (stuck_too P Q R is rest d.alike (number + 1) at k)

-- as many tasks are left
pub left_too : {S T : Type 0} (P : Program S) (Q : Program T) (R : Start S → Start T → Type 0) → IsBisimulation P Q R
    → {s : State S} {n : State T} → IsAlike R s n → (count : ℕ) → HasUnfinished P s count → HasUnfinished Q n count
left_too P Q R is same count h =
    let back = bisimulation_back is in
    record {
      list = h.list;
      apart = h.apart;
      exact = λ p. (
        λ i. unfinished_forth P Q R is back same p ((h.exact p).0 i),
        λ u. (h.exact p).1 (unfinished_forth Q P (turned R) back is (alike_back same) p u),
      );
      count = h.count;
    }
