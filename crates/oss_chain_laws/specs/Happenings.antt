-- What happens in a program whose run came to its end, and what waits for what.
-- An act of a task waits for the act before it; a first act for the creation of its task and for the accesses
-- that stand in its way; the acts that wait, for tasks below; and a cell that is given up, for a release or for
-- the end of its task. The state is that at the end of the sequential run: what a task could see of others at
-- one of its acts is told there by the numbers of the children that it had created.
-- Read against: a task that writes x and one that reads it, where the second one's first act waits for the first
-- one's giving of x, that for the first one's end, and both first acts for main's creations.
use Rattle.std.specs.Prelude.{◌≡◌, ℕ, suc, ◌<◌, ◌-◌, ◌^◌, Bool, true, false, List, [], ◌∷◌, length}
use Rattle.oss_syntax.specs.declared.access.Access.{Access}
use Rattle.oss_syntax.specs.declared.access.Op.{Op}
use Rattle.oss_syntax.specs.declared.access.Mode.TheVariants.{Read, Write, Fold}
use Rattle.oss_model.specs.Order.{IsSuffix}
use Rattle.oss_model.specs.Rights.{Right, Holds}
use Rattle.oss_model.specs.Context.{in_clauses, right_of}
use Rattle.oss_model.specs.Bodies.{Order, Program, Act, stage_act, stage_created}
use Rattle.oss_model.specs.Bodies.Act.{Ticked, Created, Awaited, Waited, WaitedOn, Releases}
use Rattle.oss_model.specs.Machine.{Task, State, At, HasAccess, accesses}
use Rattle.oss_model.specs.Moves.{is_ended}
use Rattle.oss_chain_laws.specs.Named.{IsAtOrBelow, WriteNames, ReadNames, JoinNames}

-- An act of the task at a path, by its number from 0; and that a task gives up a cell, by its end, a release or
-- a join.
pub data Happening : Type 0 where
  Acting : (path : List ℕ) (number : ℕ) → Happening
  Giving : (path : List ℕ) (cell : ℕ) → Happening

-- The act with this number of the task at this path; the task has created so many tasks before it.
pub record Does {S : Type 0} (P : Program S) (s : State S) (p : List ℕ) (number created : ℕ) (act : Act S) : Type 0 where
  pub task : Task S
  pub at_ : At s p task
  pub past : List ℕ
  pub answer : ℕ
  pub done_ : IsSuffix (answer ∷ past) task.body.found
  pub number_is : length past ≡ number
  pub created_is : stage_created P task.body.start past ≡ created
  pub act_is : stage_act P task.body.start past ≡ act

-- The task starts with this right to the cell.
pub record StartsWith {S : Type 0} (s : State S) (p : List ℕ) (c : ℕ) (right : Right) : Type 0 where
  pub task : Task S
  pub at_ : At s p task
  pub right_is : right_of task.body.start.context c ≡ right

-- The last act of the task, which ended it.
pub record EndsWith {S : Type 0} (P : Program S) (s : State S) (p : List ℕ) (number : ℕ) : Type 0 where
  pub task : Task S
  pub at_ : At s p task
  pub ended : is_ended P task.body ≡ true
  pub number_is : length task.body.found ≡ suc number

-- What a task leaves: its last act, and its cells that are given up.
pub data IsLeft {S : Type 0} (P : Program S) (s : State S) (q : List ℕ) : Happening → Type 0 where
  last_act : {n : ℕ} → EndsWith P s q n → IsLeft P s q (Acting q n)
  last_cell : {c : ℕ} → HasAccess s c q → IsLeft P s q (Giving q c)

-- The act with this number of the task itself releases the cell, which is not one of a strong reduction.
pub record Frees {S : Type 0} (P : Program S) (s : State S) (p : List ℕ) (c number : ℕ) : Type 0 where
  pub created : ℕ
  pub clauses : List Access
  pub does : Does P s p number created (Releases clauses false)
  pub named : in_clauses clauses c ≡ true
  pub plain : (op : Op) → StartsWith s p c (Holds (Fold op) true) → ⊥

-- The task gives up the cell when it has ended, since it has not released it; under the clause wait or not.
pub record KeepsCell {S : Type 0} (P : Program S) (s : State S) (p : List ℕ) (c : ℕ) (wait : Bool) : Type 0 where
  pub task : Task S
  pub at_ : At s p task
  pub access : HasAccess s c p
  pub kept : (n : ℕ) → Frees P s p c n → ⊥
  pub wait_is : task.body.start.order.wait ≡ wait

-- The first waits for the second.
pub data WaitsFor {S : Type 0} (P : Program S) (s : State S) : Happening → Happening → Type 0 where
  -- the act before it
  follows : {p : List ℕ} {n k : ℕ} {a : Act S} → Does P s p (suc n) k a → WaitsFor P s (Acting p (suc n)) (Acting p n)
  -- the creation of its task
  begins : {p : List ℕ} {n k j : ℕ} {o : Order S} {a : Act S} → Does P s p n k (Created o false) → Does P s (k ∷ p) 0 j a → WaitsFor P s (Acting (k ∷ p) 0) (Acting p n)
  -- what stands in the way of its strong reads and writes
  reads : {p q : List ℕ} {k j c : ℕ} {a : Act S} → Does P s (k ∷ p) 0 j a → StartsWith s (k ∷ p) c (Holds Read true) → ReadNames (accesses s c) (k ∷ p) q → WaitsFor P s (Acting (k ∷ p) 0) (Giving q c)
  writes : {p q : List ℕ} {k j c : ℕ} {a : Act S} → Does P s (k ∷ p) 0 j a → StartsWith s (k ∷ p) c (Holds Write true) → WriteNames (accesses s c) (k ∷ p) q → WaitsFor P s (Acting (k ∷ p) 0) (Giving q c)
  -- a wait, for all tasks below
  waits : {p q : List ℕ} {n k i : ℕ} {f : Happening} → Does P s p n k Waited → i < k → IsSuffix (i ∷ p) q → IsLeft P s q f → WaitsFor P s (Acting p n) f
  -- an await, for the newest child and all tasks below it
  awaits : {p q : List ℕ} {n i : ℕ} {f : Happening} → Does P s p n (suc i) Awaited → IsSuffix (i ∷ p) q → IsLeft P s q f → WaitsFor P s (Acting p n) f
  -- a wait on cells, for the children's accesses to them and all below those
  waits_on : {p q : List ℕ} {n k i c : ℕ} {named : List Access} → Does P s p n k (WaitedOn named) → i < k → in_clauses named c ≡ true → HasAccess s c (i ∷ p) → IsAtOrBelow (accesses s c) (i ∷ p) q → WaitsFor P s (Acting p n) (Giving q c)
  -- a cell, for its release
  released : {p : List ℕ} {n j c : ℕ} → HasAccess s c (j ∷ p) → Frees P s (j ∷ p) c n → WaitsFor P s (Giving (j ∷ p) c) (Acting (j ∷ p) n)
  -- without a release for the end of its task, and under the clause wait for all tasks below
  ends : {p : List ℕ} {n j c : ℕ} {wait : Bool} → KeepsCell P s (j ∷ p) c wait → EndsWith P s (j ∷ p) n → WaitsFor P s (Giving (j ∷ p) c) (Acting (j ∷ p) n)
  ends_below : {p q : List ℕ} {i j c : ℕ} {f : Happening} → KeepsCell P s (j ∷ p) c true → IsSuffix (i ∷ j ∷ p) q → IsLeft P s q f → WaitsFor P s (Giving (j ∷ p) c) f
  -- and a join, for what stands in its way
  joins : {p q : List ℕ} {j c : ℕ} {op : Op} → StartsWith s (j ∷ p) c (Holds (Fold op) true) → JoinNames (accesses s c) op (j ∷ p) q → WaitsFor P s (Giving (j ∷ p) c) (Giving q c)

-- It happens in a program whose run ended in this state.
abbrev pub IsHappening : {S : Type 0} → Program S → State S → Happening → Type 0
IsHappening P s (Acting p n) = (k : ℕ) × (a : Act _) × Does P s p n k a
IsHappening P s (Giving [] c) = ⊥
IsHappening P s (Giving (k ∷ p) c) = HasAccess s c (k ∷ p)

-- An act that numbers of 64 bits can tell, with how many acts there are up to it; or a cell that is given up.
abbrev pub IsNumbered : Happening → Type 0
IsNumbered (Acting p n) = n < 2 ^ 64 - 1
IsNumbered (Giving p c) = Unit {0}

-- It is an event of the program: it happens, and is numbered. An act whose number is 18,446,744,073,709,551,615 or more is none.
pub record IsEvent {S : Type 0} (P : Program S) (s : State S) (e : Happening) : Type 0 where
  pub happens : IsHappening P s e
  pub numbered : IsNumbered e

-- Only an act that is a tick has a tick.
abbrev pub tick_of : {S : Type 0} → Act S → ℕ
tick_of Ticked = 1
tick_of _ = 0

-- How many ticks are in a happening, by the one state in which all has happened.
pub record HasTicks {S : Type 0} (P : Program S) (s : State S) (weight : Happening → ℕ) : Type 0 where
  pub acting : {p : List ℕ} {n k : ℕ} {a : Act S} → Does P s p n k a → weight (Acting p n) ≡ tick_of a
  pub giving : (p : List ℕ) (c : ℕ) → weight (Giving p c) ≡ 0
