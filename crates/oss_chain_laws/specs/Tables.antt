-- What one pass over the sequential run keeps the greatest lengths of, for a task and a cell, as its children end
-- one after the other.
use Rattle.std.specs.Prelude.{◌≡◌, ℕ, suc, ◌<◌, ◌≤◌, Bool, true, false, List, ◌∷◌}
use Rattle.oss_syntax.specs.declared.access.Op.{Op}
use Rattle.oss_syntax.specs.declared.access.Mode.TheVariants.{Read, Write, Fold}
use Rattle.oss_model.specs.Order.{IsSuffix}
use Rattle.oss_model.specs.Forest.{IsRead}
use Rattle.oss_model.specs.Rights.{Holds}
use Rattle.oss_model.specs.Context.{in_clauses}
use Rattle.oss_model.specs.Bodies.{Order, Program, Act}
use Rattle.oss_model.specs.Bodies.Act.{Created, Awaited, Waited, WaitedOn}
use Rattle.oss_model.specs.Machine.{State, HasAccess, accesses, find, mode_in}
use Rattle.oss_chain_laws.specs.Named.{IsAtOrBelow, WriteNames, ReadNames, JoinNames}
use Rattle.oss_chain_laws.specs.Happenings.{Happening, Acting, Giving, Does, StartsWith, EndsWith, Frees, IsLeft}

-- the cell is given up by the task or one below it
pub data GivenWith {S : Type 0} (s : State S) (c : ℕ) (u : List ℕ) : Happening → Type 0 where
  given_with : {w : List ℕ} → HasAccess s c u → IsAtOrBelow (accesses s c) u w → GivenWith s c u (Giving w c)

-- by one of the first m children or one below it
pub data GivenBelow {S : Type 0} (s : State S) (c : ℕ) (q : List ℕ) (m : ℕ) : Happening → Type 0 where
  given_below : (i : ℕ) {f : Happening} → i < m → GivenWith s c (i ∷ q) f → GivenBelow s c q m f

-- by one of the first m children whose access is no read, or one below it
pub data ChangedBelow {S : Type 0} (s : State S) (c : ℕ) (q : List ℕ) (m : ℕ) : Happening → Type 0 where
  changed_below : (i : ℕ) {f : Happening} → i < m → (IsRead (mode_in (find s.tasks (i ∷ q)) c) → ⊥) → GivenWith s c (i ∷ q) f → ChangedBelow s c q m f

-- what the task and those below it leave
pub data LeftWith {S : Type 0} (P : Program S) (s : State S) (u : List ℕ) : Happening → Type 0 where
  left_with : {w : List ℕ} {f : Happening} → IsSuffix u w → IsLeft P s w f → LeftWith P s u f

-- what the first m children and those below them leave
pub data LeftBelow {S : Type 0} (P : Program S) (s : State S) (q : List ℕ) (m : ℕ) : Happening → Type 0 where
  left_below : (i : ℕ) {f : Happening} → i < m → LeftWith P s (i ∷ q) f → LeftBelow P s q m f

-- what stands in the way of a write, a read, or the join of a fold
pub data InWriteWay {S : Type 0} (s : State S) (c : ℕ) (p : List ℕ) : Happening → Type 0 where
  in_write_way : {q : List ℕ} → WriteNames (accesses s c) p q → InWriteWay s c p (Giving q c)

pub data InReadWay {S : Type 0} (s : State S) (c : ℕ) (p : List ℕ) : Happening → Type 0 where
  in_read_way : {q : List ℕ} → ReadNames (accesses s c) p q → InReadWay s c p (Giving q c)

pub data InJoinWay {S : Type 0} (s : State S) (c : ℕ) (op : Op) (p : List ℕ) : Happening → Type 0 where
  in_join_way : {q : List ℕ} → JoinNames (accesses s c) op p q → InJoinWay s c op p (Giving q c)

-- what an act waits for as the act that it is, where its task has created k tasks
abbrev pub InActWay : {S : Type 0} → Program S → State S → List ℕ → ℕ → Act S → Happening → Type 0
InActWay P s p k Waited f = LeftBelow P s p k f
InActWay P s p k Awaited f = (i : ℕ) × (k ≡ suc i) × LeftWith P s (i ∷ p) f
InActWay P s p k (WaitedOn named) f = (c : ℕ) × (in_clauses named c ≡ true) × GivenBelow s c p k f
InActWay P s p k _ f = ⊥

-- the act before, and of a first act the creation of its task
pub data JustBefore {S : Type 0} (P : Program S) (s : State S) : List ℕ → ℕ → Happening → Type 0 where
  act_before : {p : List ℕ} {n : ℕ} → JustBefore P s p (suc n) (Acting p n)
  creation_before : {p : List ℕ} {k n : ℕ} (o : Order S) → Does P s p n k (Created o false) → JustBefore P s (k ∷ p) 0 (Acting p n)

-- what an act waits for as the one with its number
pub data InTurnWay {S : Type 0} (P : Program S) (s : State S) : List ℕ → ℕ → Happening → Type 0 where
  turn_way : {p : List ℕ} {n : ℕ} {f : Happening} → JustBefore P s p n f → InTurnWay P s p n f
  read_way : {p : List ℕ} {k : ℕ} {f : Happening} (c : ℕ) → StartsWith s (k ∷ p) c (Holds Read true) → InReadWay s c (k ∷ p) f → InTurnWay P s (k ∷ p) 0 f
  write_way : {p : List ℕ} {k : ℕ} {f : Happening} (c : ℕ) → StartsWith s (k ∷ p) c (Holds Write true) → InWriteWay s c (k ∷ p) f → InTurnWay P s (k ∷ p) 0 f

-- a release of the cell by the task itself
pub data InFreeWay {S : Type 0} (P : Program S) (s : State S) (p : List ℕ) (c : ℕ) : Happening → Type 0 where
  in_free_way : {n : ℕ} → Frees P s p c n → InFreeWay P s p c (Acting p n)

-- the end of the task
pub data InEndWay {S : Type 0} (P : Program S) (s : State S) (p : List ℕ) : Happening → Type 0 where
  in_end_way : {n : ℕ} → EndsWith P s p n → InEndWay P s p (Acting p n)

-- what a cell that the task keeps waits for: the end, under the clause wait what the tasks below leave, and where
-- it is that of a strong reduction what stands in the way of the join
pub data InKeepWay {S : Type 0} (P : Program S) (s : State S) (p : List ℕ) (c k : ℕ) (wait : Bool) : Happening → Type 0 where
  end_way : {f : Happening} → InEndWay P s p f → InKeepWay P s p c k wait f
  wait_way : {f : Happening} → wait ≡ true → LeftBelow P s p k f → InKeepWay P s p c k wait f
  join_way : {f : Happening} (op : Op) → StartsWith s p c (Holds (Fold op) true) → InJoinWay s c op p f → InKeepWay P s p c k wait f

-- what the first m children or those below them give up of the cell, but for the children of the unbroken run of
-- this fold that stands last
pub data BeforeRun {S : Type 0} (s : State S) (c : ℕ) (op : Op) (q : List ℕ) (m : ℕ) : Happening → Type 0 where
  before_run : (i : ℕ) {f : Happening} → i < m → (((j : ℕ) → i ≤ j → j < m → HasAccess s c (j ∷ q) → mode_in (find s.tasks (j ∷ q)) c ≡ Fold op) → ⊥) → GivenWith s c (i ∷ q) f → BeforeRun s c op q m f

-- a release of the cell by one of the first n acts
pub data FreedBefore {S : Type 0} (P : Program S) (s : State S) (p : List ℕ) (c n : ℕ) : Happening → Type 0 where
  freed_before : (i : ℕ) → i < n → Frees P s p c i → FreedBefore P s p c n (Acting p i)
