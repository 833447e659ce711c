-- What is asked of the notes of a run.
-- Read against: of the notes `0.1, act 2, Wait`, `0.1, act 3, End` the task 0.1 has a wait with the number 2, and its last act has the number 3; there is no release of cell 4 by it.
use Rattle.std.specs.Prelude.{ℕ, suc, ◌-◌, Bool, true, false, ◌&&◌, not, nat_eq, nat_le, nat_lt, List, length, Option, Some, None}
use Rattle.std.specs.List.{list_any, find}
use Rattle.oss_syntax.specs.declared.access.Access.{Access}
use Rattle.oss_syntax.specs.declared.access.Range.{Range}
use Rattle.oss_model.specs.Rights.{in_access}
use Rattle.oss_span_check.specs.declared.note.Made.{Made}
use Rattle.oss_span_check.specs.declared.note.Note.{Note}
use Rattle.oss_span_check.specs.declared.note.What.{What}
use Rattle.oss_span_check.specs.declared.note.What.TheVariants as what
use Rattle.oss_span_check.specs.declared.sought.Sought.{Sought}
use Rattle.oss_span_check.specs.declared.sought.Sought.TheVariants as sought
use Rattle.oss_span_check.specs.Points.{same_point, below}

-- The cell is one of these ranges.
abbrev pub in_ranges : List Range → ℕ → Bool
in_ranges ranges c = list_any (λ r. nat_le r.lo c && nat_lt c r.hi) ranges

-- The cell is one of these accesses.
abbrev pub is_named : List Access → ℕ → Bool
is_named accesses c = list_any (λ a. in_access a c) accesses

-- The act is of the kind that is looked for.
abbrev pub is_sought : Sought → What → Bool
is_sought sought.Tick what.Tick = true
is_sought sought.Wait what.Wait = true
is_sought sought.Await what.Await = true
is_sought sought.End what.End = true
is_sought (sought.Names c) (what.WaitOn ranges) = in_ranges ranges c
is_sought (sought.Frees c) (what.Release clauses) = is_named clauses c
is_sought _ _ = false

-- The note is of an act of this kind, of the task with this point.
abbrev pub is_of : Sought → List ℕ → Note → Bool
is_of kind p x = is_sought kind x.what && same_point x.point p

-- An act of the task with this point is of the kind.
abbrev pub has_some : List Note → Sought → List ℕ → Bool
has_some notes kind p = list_any (λ x. is_of kind p x) notes

-- The act with this number is.
abbrev pub has_at : List Note → Sought → List ℕ → ℕ → Bool
has_at notes kind p n = list_any (λ x. is_of kind p x && nat_eq x.number n) notes

-- An act with a greater number is.
abbrev pub has_behind : List Note → Sought → List ℕ → ℕ → Bool
has_behind notes kind p n = list_any (λ x. is_of kind p x && nat_lt n x.number) notes

-- It is the last act of the task.
abbrev pub is_last : List Note → List ℕ → ℕ → Bool
is_last notes p n = has_at notes sought.End p n && not (has_behind notes sought.End p n)

-- The task has done so many acts, or more.
abbrev pub has_done : List Note → List ℕ → ℕ → Bool
has_done notes p n = list_any (λ x. is_of sought.End p x && nat_le n (suc x.number)) notes

-- The task with this point, if it was created.
abbrev pub made_of : List Made → List ℕ → Option Made
made_of made p = find (λ m. same_point m.point p) made

-- The access that names a cell.
abbrev pub access_in : List Access → ℕ → Option Access
access_in accesses c = find (λ a. in_access a c) accesses

-- The access of the task to the cell.
abbrev pub access_of : List Made → List ℕ → ℕ → Option Access
access_of made p c = elim (made_of made p) [ None ↦ None | Some m ↦ access_in m.accesses c ]

-- The task has one.
abbrev pub has_access : List Made → List ℕ → ℕ → Bool
has_access made p c = elim (access_of made p c) [ None ↦ false | Some a ↦ true ]

-- The act with this number of its creator, or one before it, created the task.
abbrev pub was_made_before : List Made → List ℕ → ℕ → Bool
was_made_before made p n = elim (made_of made p) [ None ↦ false | Some m ↦ nat_lt m.number n ]

-- The task has the clause `wait`.
abbrev pub has_wait : List Made → List ℕ → Bool
has_wait made p = elim (made_of made p) [ None ↦ false | Some m ↦ m.wait ]

-- The second is the point of a child of the task with the first.
abbrev pub is_child : List ℕ → List ℕ → Bool
is_child p q = below p q && nat_eq (length q - length p) 1
