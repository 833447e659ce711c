-- Rights, lending and the judge of touches.
-- The modes are those of the dependency clauses of OmpSs-2 (task directive: in, out, inout, reduction, and
-- their weak forms, after Perez, Beltran, Labarta and Ayguadé, IPDPS 2017). Which clauses a creator's right
-- covers, what lending forbids, that a cell of `out` is written first and the order of the tests are rules of this
-- language.
-- Read against: a task that writes x under out(x), a task that reads it under in(x), and a read of x in main
-- after a taskwait, which is right; without the taskwait the read in main is Lent. A task with out(x) alone that
-- begins with x = x + 1 reads x Unwritten; under inout(x), or under in(x) out(x), the same is right.
use Rattle.std.specs.Prelude.{◌≡◌, ℕ, zero, suc, ◌+◌, ◌-◌, nat_lt, nat_le, Bool, true, false, ◌&&◌, ◌||◌, not, if◌then◌else◌, List, [], ◌∷◌, Option, Some, None}
use Rattle.oss_syntax.specs.declared.access.Access.{Access}
use Rattle.oss_syntax.specs.declared.access.Mode.{Mode}
use Rattle.oss_syntax.specs.declared.access.Op.{Op}
use Rattle.oss_syntax.specs.declared.access.Op.TheVariants.{Add, And, Or, Xor}
use Rattle.oss_syntax.specs.declared.access.Mode.TheVariants.{Read, Write, Fold}
use Rattle.oss_syntax.specs.declared.fault.FaultKind.{FaultKind}
use Rattle.oss_syntax.specs.declared.fault.FaultKind.TheVariants as fault

-- What a task may do with a cell: nothing; nothing any more, since it has released the cell; or what its
-- clauses say. A weak access is for descendants alone.
pub data Right : Type 0 where
  NoRight : Right
  Released : Right
  Holds : (mode : Mode) (strong : Bool) → Right

-- What a task has lent of a cell to its children, since it last waited for them: nothing, reading, or writing.
pub data Lending : Type 0 where
  Free : Lending
  Reading : Lending
  Writing : Lending

-- Whether a cell has a value for the task. A task that names a cell by `out` alone writes it before it reads it.
pub data Mark : Type 0 where
  Unwritten : Mark
  Written : Mark

-- How an act touches a cell.
pub data Touch : Type 0 where
  Reads : Touch
  Writes : Touch
  Folds : (op : Op) → Touch

-- Two touches of one cell conflict where their order matters: unless both read, or both are folds of one
-- operator into slots. A flag says that a touch is a fold into a slot.
abbrev pub Conflicts : Touch → Bool → Touch → Bool → Type 0
Conflicts Reads a Reads b = ⊥
Conflicts (Folds f) true (Folds g) true = f ≡ g → ⊥
Conflicts _ _ _ _ = Unit {0}

-- The operators are one.
abbrev pub op_eq : Op → Op → Bool
op_eq Add Add = true
op_eq And And = true
op_eq Or Or = true
op_eq Xor Xor = true
op_eq _ _ = false

-- A right of the first mode covers a child's access of the second. Strong and weak cover alike.
abbrev pub covers : Mode → Mode → Bool
covers Write m = true
covers Read Read = true
covers Read _ = false
covers (Fold a) (Fold b) = op_eq a b
covers (Fold a) _ = false

-- A right covers a child's access of the mode.
abbrev pub right_covers : Right → Mode → Bool
right_covers (Holds held strong) m = covers held m
right_covers _ m = false

-- The fault of a touch by what was written: a write needs no value, and a read and a fold need one.
abbrev pub mark_fault : Mark → Touch → Option FaultKind
mark_fault Unwritten Reads = Some fault.Unwritten
mark_fault Unwritten (Folds op) = Some fault.Unwritten
mark_fault _ _ = None

-- The first fault of a touch of a cell, after OutOfRange; None where there is none. A fold under a strong
-- reduction is never Lent. The mark is the last test, and counts under a right to write alone.
abbrev pub touch_fault : Right → Lending → Mark → Touch → Option FaultKind
touch_fault Released lent mark touch = Some fault.Released
touch_fault NoRight lent mark touch = Some fault.NoRight
touch_fault (Holds m false) lent mark touch = Some fault.NoRight
touch_fault (Holds Read true) Writing mark Reads = Some fault.Lent
touch_fault (Holds Read true) _ mark Reads = None
touch_fault (Holds Read true) lent mark _ = Some fault.NoRight
touch_fault (Holds Write true) Free mark touch = mark_fault mark touch
touch_fault (Holds Write true) Reading mark Reads = mark_fault mark Reads
touch_fault (Holds Write true) _ mark touch = Some fault.Lent
touch_fault (Holds (Fold a) true) lent mark (Folds b) = if op_eq a b then None else Some fault.BadReduction
touch_fault (Holds (Fold a) true) lent mark touch = Some fault.BadReduction

-- The cell is one of the access.
abbrev pub in_access : Access → ℕ → Bool
in_access a c = nat_le a.range.lo c && nat_lt c a.range.hi

-- The mode of two clauses that name one cell; None where they cannot be joined, which is MixedAccess.
abbrev pub joined_mode : Mode → Mode → Option Mode
joined_mode Read Read = Some Read
joined_mode Read Write = Some Write
joined_mode Write Read = Some Write
joined_mode Write Write = Some Write
joined_mode (Fold a) (Fold b) = if op_eq a b then Some (Fold a) else None
joined_mode _ _ = None

-- A right of this mode, if there is one.
abbrev pub right_held : Option Mode → Bool → Right
right_held (Some m) strong = Holds m strong
right_held None strong = NoRight

-- A right, with one more clause on its cell.
abbrev pub joined_right : Mode → Bool → Right → Right
joined_right m strong (Holds n other) = right_held (joined_mode m n) (strong || other)
joined_right m strong _ = Holds m strong

-- The right that the clauses of a new task give to a cell. A weak access counts as strong where the task is
-- final.
abbrev pub right_from : Bool → List Access → ℕ → Right
right_from final [] c = NoRight
right_from final (a ∷ rest) c =
    if in_access a c then joined_right a.mode (final || a.strong) (right_from final rest c) else right_from final rest c

-- Every access that names the cell is of `out` or `weakout`.
abbrev pub is_fresh : List Access → ℕ → Bool
is_fresh [] c = true
is_fresh (a ∷ rest) c = if in_access a c then a.fresh && is_fresh rest c else is_fresh rest c

-- The mark with which a cell starts that has this right: it is unwritten under a right to write that `out` and
-- `weakout` alone have given.
abbrev pub first_mark : Right → Bool → Mark
first_mark (Holds Write strong) true = Unwritten
first_mark _ _ = Written

-- The mark that the clauses of a new task give to a cell. in(x) out(x) gives x as written, and so does a reduction.
abbrev pub mark_from : Bool → List Access → ℕ → Mark
mark_from final clauses c = first_mark (right_from final clauses c) (is_fresh clauses c)

-- Two clauses could not be joined.
abbrev pub is_no_join : Option Mode → Bool
is_no_join (Some m) = false
is_no_join None = true

-- A clause of the mode cannot be joined to a right.
abbrev pub is_unjoinable : Mode → Right → Bool
is_unjoinable m (Holds n strong) = is_no_join (joined_mode m n)
is_unjoinable m _ = false

-- Clauses name the cell with modes that cannot be joined.
abbrev pub is_mixed : Bool → List Access → ℕ → Bool
is_mixed final [] c = false
is_mixed final (a ∷ rest) c =
    is_mixed final rest c || (in_access a c && is_unjoinable a.mode (right_from final rest c))

-- One of n cells passes the test, from this one on.
abbrev pub any_from : (ℕ → Bool) → ℕ → ℕ → Bool
any_from test low zero = false
any_from test low (suc n) = test low || any_from test (low + 1) n

-- A cell that the accesses name passes the test.
abbrev pub any_cell : (ℕ → Bool) → List Access → Bool
any_cell test [] = false
any_cell test (a ∷ rest) = any_from test a.range.lo (a.range.hi - a.range.lo) || any_cell test rest

-- The right is released.
abbrev pub is_released : Right → Bool
is_released Released = true
is_released _ = false

-- The creator's right does not cover the right that its clauses would give to a new task.
abbrev pub holds_uncovered : Right → Right → Bool
holds_uncovered creator (Holds m strong) = not (right_covers creator m)
holds_uncovered creator _ = false

-- The right is that of a reduction.
abbrev pub is_fold : Right → Bool
is_fold (Holds (Fold op) strong) = true
is_fold _ = false
