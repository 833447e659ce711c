-- What an access waits for, and which accesses of earlier siblings it passes.
-- Read against: reduction(+: x), in(x) and in(x) of three tasks, none of which has given up x. The second read passes the first; neither passes the reduction, until
-- that is done. A reduction by + behind them passes the first, and no read: that it may be joined wants all of them from the first that is not done to be such reductions.
use Rattle.std.specs.Prelude.{◌≡◌, ℕ, ◌≤◌, ◌||◌, Bool, true, false, if◌then◌else◌, List, Some, slice_get}
use Rattle.oss_syntax.specs.declared.access.Mode.{Mode}
use Rattle.oss_syntax.specs.declared.access.Op.{Op}
use Rattle.oss_syntax.specs.declared.access.Mode.TheVariants.{Read, Write, Fold}
use Rattle.oss_model.specs.Rights.{op_eq}
use Rattle.oss_model.specs.Forest.{Forest, IsWriteSatisfied, IsReadSatisfied, IsJoinSatisfied}
use Rattle.oss_deps.specs.declared.frame.Frame.{Frame}
use Rattle.oss_deps.specs.declared.frame.Mark.{Mark}
use Rattle.oss_deps.specs.declared.want.Want.{Want}
use Rattle.oss_deps.specs.declared.want.Want.TheVariants.{ToWrite, ToRead, ToJoin}
use Rattle.oss_deps.specs.Places.{IsBelow, IsSibling, closed_at, first_at, mode_at_place}

-- The access is a reduction by this operator.
abbrev pub is_fold_of : Op → Mode → Bool
is_fold_of op (Fold other) = op_eq op other
is_fold_of op _ = false

abbrev pub is_read : Mode → Bool
is_read Read = true
is_read Write = false
is_read (Fold op) = false

-- An access of this mode that is the first one not done, or stands behind that, does not stand in the way.
abbrev pub may_pass : Want → Mode → Bool → Bool
may_pass ToWrite m closed = closed
may_pass ToRead m closed = closed || is_read m
may_pass (ToJoin op) m closed = is_fold_of op m

-- What is wanted of the level above, where the access there has this mode.
abbrev pub want_above : Want → Mode → Want
want_above ToWrite m = ToWrite
want_above ToRead m = ToRead
want_above (ToJoin op) m = if is_fold_of op m then ToJoin op else ToWrite

-- What is wanted has come.
abbrev pub IsSatisfied : {K : Type 0} → Forest K → Want → K → Type 0
IsSatisfied F ToWrite v = IsWriteSatisfied F v
IsSatisfied F ToRead v = IsReadSatisfied F v
IsSatisfied F (ToJoin op) v = IsJoinSatisfied F op v

-- Where a join is wanted, the access is a reduction by its operator.
abbrev pub Fits : List Frame → Want → ℕ → Type 0
Fits frames ToWrite v = Unit {0}
Fits frames ToRead v = Unit {0}
Fits frames (ToJoin op) v = mode_at_place frames v ≡ Fold op

-- An earlier sibling's access that is the first one not done, or stands behind that.
pub record IsAhead (frames : List Frame) (marks : List Mark) (u v : ℕ) : Type 0 where
  pub sibling : IsSibling frames u v
  pub first : ℕ
  pub first_is : first_at marks sibling.creator ≡ Some first
  pub behind : first ≤ u

-- None of these stands in the way.
abbrev pub IsLevelClear : List Frame → List Mark → Want → ℕ → Type 0
IsLevelClear frames marks want v = (u : ℕ) → IsAhead frames marks u v → may_pass want (mode_at_place frames u) (closed_at marks u) ≡ true

-- The access of an earlier sibling stands in the way.
pub record IsBarBeside (frames : List Frame) (marks : List Mark) (want : Want) (u v : ℕ) : Type 0 where
  pub ahead : IsAhead frames marks u v
  pub stops : may_pass want (mode_at_place frames u) (closed_at marks u) ≡ false

-- An access stands in the way on this level, or on one above.
pub data IsBar (frames : List Frame) (marks : List Mark) (u : ℕ) : Want → ℕ → Type 0 where
  bars_here : {want : Want} {v : ℕ} → IsBarBeside frames marks want u v → IsBar frames marks u want v
  bars_above : {want : Want} {p v : ℕ} → IsBelow frames p v → (p ≡ 0 → ⊥) → IsBar frames marks u (want_above want (mode_at_place frames p)) p → IsBar frames marks u want v

-- The same by the task of the access.
pub record IsBarOf (frames : List Frame) (marks : List Mark) (want : Want) (v t : ℕ) : Type 0 where
  pub place : ℕ
  pub frame : Frame
  pub is : slice_get frames place ≡ Some frame
  pub task : frame.task ≡ t
  pub bar : IsBar frames marks place want v
