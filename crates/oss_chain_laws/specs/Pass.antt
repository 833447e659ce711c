-- One pass over the sequential run: what is kept of each task that has not ended, and how it changes.
use Rattle.std.specs.Prelude.{◌≡◌, ◌≢◌, ℕ, suc, ◌<◌, Bool, true, false, if◌then◌else◌, List, [], ◌∷◌}
use Rattle.oss_syntax.specs.declared.access.Op.{Op}
use Rattle.oss_syntax.specs.declared.access.Mode.{Mode}
use Rattle.oss_syntax.specs.declared.access.Mode.TheVariants.{Read, Fold}
use Rattle.oss_model.specs.Rights.{op_eq}
use Rattle.oss_model.specs.Bodies.{Program}
use Rattle.oss_model.specs.Machine.{State, HasAccess, find, mode_in}
use Rattle.oss_chain_laws.specs.Chains.{Best, no_chain, better, IsMost}
use Rattle.oss_chain_laws.specs.Happenings.{Happening, Frees, WaitsFor}
use Rattle.oss_chain_laws.specs.Tables.{GivenBelow, ChangedBelow, BeforeRun, LeftBelow, LeftWith, InWriteWay, InReadWay, InJoinWay, JustBefore, FreedBefore}

-- What is kept of a task.
pub record Kept : Type 0 where
  -- of its last act, or of the creation of it
  pub last : Best Happening
  -- of all that ended tasks below it left, and of what the newest child and those below it left
  pub left : Best Happening
  pub newest : Best Happening
  -- of the givings of a cell by ended tasks below it: of all; of those below no read; and of those before the run
  -- of a fold that stands last
  pub given : ℕ → Best Happening
  pub changed : ℕ → Best Happening
  pub before : Op → ℕ → Best Happening
  -- the task has released the cell, and when
  pub is_freed : ℕ → Bool
  pub freed : ℕ → Best Happening
  -- of what stood in the way of a write, a read and a join when it was created
  pub write_way : ℕ → Best Happening
  pub read_way : ℕ → Best Happening
  pub join_way : Op → ℕ → Best Happening

-- What is kept is right for a task that has done n acts, of whose children the first m have ended.
pub record IsKept {S : Type 0} (P : Program S) (s : State S) (weight : Happening → ℕ) (p : List ℕ) (n m : ℕ) (t : Kept) : Type 0 where
  pub last : IsMost (WaitsFor P s) weight (JustBefore P s p n) t.last
  pub left : IsMost (WaitsFor P s) weight (LeftBelow P s p m) t.left
  pub newest : (i : ℕ) → m ≡ suc i → IsMost (WaitsFor P s) weight (LeftWith P s (i ∷ p)) t.newest
  pub given : (c : ℕ) → IsMost (WaitsFor P s) weight (GivenBelow s c p m) (t.given c)
  pub changed : (c : ℕ) → IsMost (WaitsFor P s) weight (ChangedBelow s c p m) (t.changed c)
  pub before : (op : Op) (c : ℕ) → IsMost (WaitsFor P s) weight (BeforeRun s c op p m) (t.before op c)
  pub freed : (c : ℕ) → IsMost (WaitsFor P s) weight (FreedBefore P s p c n) (t.freed c)
  pub is_freed : (c : ℕ) → t.is_freed c ≡ true → (i : ℕ) × (i < n) × Frees P s p c i
  pub not_freed : (c : ℕ) → t.is_freed c ≡ false → (i : ℕ) → i < n → Frees P s p c i → ⊥
  pub write_way : (c : ℕ) → p ≢ [] → HasAccess s c p → IsMost (WaitsFor P s) weight (InWriteWay s c p) (t.write_way c)
  pub read_way : (c : ℕ) → p ≢ [] → HasAccess s c p → IsMost (WaitsFor P s) weight (InReadWay s c p) (t.read_way c)
  pub join_way : (op : Op) (c : ℕ) → p ≢ [] → HasAccess s c p → mode_in (find s.tasks p) c ≡ Fold op → IsMost (WaitsFor P s) weight (InJoinWay s c op p) (t.join_way op c)

-- The mode is that of the fold.
abbrev pub is_fold_of : Op → Mode → Bool
is_fold_of op (Fold other) = op_eq op other
is_fold_of op _ = false

-- The mode is a read.
abbrev pub is_read : Mode → Bool
is_read Read = true
is_read _ = false

-- What is kept after an act with this value. The test names the cells that it releases.
abbrev pub acted : Best Happening → (ℕ → Bool) → Kept → Kept
acted value releases t = record {
  last = value;
  left = t.left;
  newest = t.newest;
  given = t.given;
  changed = t.changed;
  before = t.before;
  is_freed = λ c. if releases c then true else t.is_freed c;
  freed = λ c. if releases c then better (t.freed c) value else t.freed c;
  write_way = t.write_way;
  read_way = t.read_way;
  join_way = t.join_way;
}

-- What is kept of a task that is created by a creator that is main, or another task, with these modes. What
-- stands in the way of the creator itself stands in the way of its child, but not in main's.
abbrev pub opened : Bool → (ℕ → Mode) → Kept → Kept
opened by_main mode t = record {
  last = t.last;
  left = no_chain;
  newest = no_chain;
  given = λ c. no_chain;
  changed = λ c. no_chain;
  before = λ op c. no_chain;
  is_freed = λ c. false;
  freed = λ c. no_chain;
  write_way = λ c. if by_main then t.given c else better (t.given c) (t.write_way c);
  read_way = λ c. if by_main then t.changed c else better (t.changed c) (t.read_way c);
  join_way = λ op c. if by_main then t.before op c else better (t.before op c) (if is_fold_of op (mode c) then t.join_way op c else t.write_way c);
}

-- What is kept of the creator when a child has ended: what all below the child gave up of a cell, and left.
abbrev pub closed : (ℕ → Bool) → (ℕ → Mode) → (ℕ → Best Happening) → Best Happening → Kept → Kept
closed has mode gave left t = record {
  last = t.last;
  left = better t.left left;
  newest = left;
  given = λ c. if has c then better (t.given c) (gave c) else t.given c;
  changed = λ c. if has c then (if is_read (mode c) then t.changed c else better (t.changed c) (gave c)) else t.changed c;
  before = λ op c. if has c then (if is_fold_of op (mode c) then t.before op c else better (t.given c) (gave c)) else t.before op c;
  is_freed = t.is_freed;
  freed = t.freed;
  write_way = t.write_way;
  read_way = t.read_way;
  join_way = t.join_way;
}
