-- What waits for what, by the notes of a run: events are told by the point of their task and a number or a cell.
-- Read against: behind main's `create 0.0 out(x)`, `create 0.1 in(x)` the first act of 0.1 waits for what 0.0 gives of x, since 0.1 parts from 0.0 behind main's number, where 0.0 has the smaller one and writes x.
use Rattle.std.specs.Prelude.{ℕ, suc, Bool, true, false, ◌&&◌, ◌||◌, not, nat_eq, nat_lt, List, length, take, Option, Some, None}
use Rattle.std.specs.List.{list_any}
use Rattle.oss_syntax.specs.declared.access.Access.{Access}
use Rattle.oss_syntax.specs.declared.access.Mode.{Mode}
use Rattle.oss_syntax.specs.declared.access.Mode.TheVariants.{Read, Write, Fold}
use Rattle.oss_syntax.specs.declared.access.Op.{Op}
use Rattle.oss_model.specs.Rights.{op_eq}
use Rattle.oss_span_check.specs.declared.note.Made.{Made}
use Rattle.oss_span_check.specs.declared.record.Record.{Record}
use Rattle.oss_span_check.specs.declared.sought.Sought.TheVariants as sought
use Rattle.oss_span_check.specs.Points.{same_point, below, parted}
use Rattle.oss_span_check.specs.Queries.{has_some, has_at, is_last, made_of, access_of, access_in, has_access, was_made_before, has_wait, is_child}

-- The child of the task with the first point on the way to the second.
abbrev pub child_on_way : List ℕ → List ℕ → List ℕ
child_on_way p q = take (suc (length p)) q

-- The number is there, and is this one.
abbrev pub is_number : Option ℕ → ℕ → Bool
is_number None n = false
is_number (Some m) n = nat_eq m n

-- The points part, the second having the smaller number there.
abbrev pub is_ahead : List ℕ → List ℕ → Bool
is_ahead p q = elim (parted 0 p q) [ None ↦ false | Some d ↦ true ]

-- Modes

abbrev pub is_read : Mode → Bool
is_read Read = true
is_read _ = false

abbrev pub is_fold : Op → Mode → Bool
is_fold op (Fold other) = op_eq op other
is_fold op _ = false

abbrev pub is_some_fold : Mode → Bool
is_some_fold (Fold op) = true
is_some_fold _ = false

-- There is an access, and it is no read.
abbrev pub is_change : Option Access → Bool
is_change None = false
is_change (Some a) = not (is_read a.mode)

-- There is an access, and it is a reduction by this operator.
abbrev pub is_folded : Op → Option Access → Bool
is_folded op None = false
is_folded op (Some a) = is_fold op a.mode

-- There is an access, and it is no reduction by this operator.
abbrev pub is_unfolded : Op → Option Access → Bool
is_unfolded op None = false
is_unfolded op (Some a) = not (is_fold op a.mode)

-- The access is that of a strong reduction.
abbrev pub is_joined_by : Option Access → Bool
is_joined_by None = false
is_joined_by (Some a) = a.strong && is_some_fold a.mode

-- Waits

-- The task was created between these two acts of its creator.
abbrev pub is_made_between : List ℕ → ℕ → ℕ → Made → Bool
is_made_between p first n m = is_child p m.point && (nat_lt first m.number && nat_lt m.number n)

-- Behind the creation of this task its creator, with this point, created no other one before this act.
abbrev pub is_newest : List Made → List ℕ → List ℕ → ℕ → Bool
is_newest made p q n = elim (made_of made q) [ None ↦ false | Some m ↦ not (list_any (λ x. is_made_between p m.number n x) made) ]

-- The act with this number waits for the task and all below it.
abbrev pub waits_for_child : Record → List ℕ → ℕ → List ℕ → Bool
waits_for_child r p n q = was_made_before r.made q n && (has_at r.notes sought.Wait p n || (has_at r.notes sought.Await p n && is_newest r.made p q n))

-- The act waits for the task with the second point, which stands below its own.
abbrev pub waits_below : Record → List ℕ → ℕ → List ℕ → Bool
waits_below r p n q = below p q && waits_for_child r p n (child_on_way p q)

-- The act waits for the access of the task with the second point to the cell.
abbrev pub waits_on : Record → List ℕ → ℕ → List ℕ → ℕ → Bool
waits_on r p n q c = below p q && (was_made_before r.made (child_on_way p q) n && has_at r.notes (sought.Names c) p n)

-- Beginnings and joins

-- On the level where the points part, the second one's access is no read.
abbrev pub changes_ahead : Record → List ℕ → List ℕ → ℕ → Bool
changes_ahead r p q c = elim (parted 0 p q) [ None ↦ false | Some d ↦ is_change (access_of r.made (take (suc d) q) c) ]

-- What stands before a strong access of this mode.
abbrev pub begins_behind : Record → Mode → List ℕ → List ℕ → ℕ → Bool
begins_behind r Read p q c = changes_ahead r p q c
begins_behind r Write p q c = is_ahead p q
begins_behind r (Fold op) p q c = false

-- The first act of the task waits for what the second one gives of the cell.
abbrev pub starts_behind : Record → List ℕ → List ℕ → ℕ → Bool
starts_behind r p q c = elim (access_of r.made p c) [ None ↦ false | Some a ↦ a.strong && begins_behind r a.mode p q c ]

-- The task is a sibling between two that part at this place, and its access is no reduction by this operator.
abbrev pub breaks : Op → ℕ → List ℕ → List ℕ → ℕ → Made → Bool
breaks op d p q c m =
    nat_eq (length m.point) (suc d) && (is_number (parted 0 m.point q) d && (is_number (parted 0 p m.point) d && is_unfolded op (access_in m.accesses c)))

-- On this level the access of the task, or of one above it, is a reduction by this operator.
abbrev pub is_folded_at : List Made → Op → List ℕ → ℕ → ℕ → Bool
is_folded_at made op p d c = is_folded op (access_of made (take (suc d) p) c)

-- On the level where they part the two stand in one unbroken run of reductions by this operator.
abbrev pub in_run : Record → Op → ℕ → List ℕ → List ℕ → ℕ → Bool
in_run r op d p q c = is_folded_at r.made op p d c && (is_folded_at r.made op q d c && not (list_any (λ m. breaks op d p q c m) r.made))

-- What stands before the join of a reduction by this operator.
abbrev pub folds_behind : Record → Op → List ℕ → List ℕ → ℕ → Bool
folds_behind r op p q c = elim (parted 0 p q) [ None ↦ false | Some d ↦ not (in_run r op d p q c) ]

abbrev pub mode_joins_behind : Record → Mode → List ℕ → List ℕ → ℕ → Bool
mode_joins_behind r (Fold op) p q c = folds_behind r op p q c
mode_joins_behind r _ p q c = false

-- The join of the task's cell waits for what the second one gives of it.
abbrev pub joins_behind : Record → List ℕ → List ℕ → ℕ → Bool
joins_behind r p q c = elim (access_of r.made p c) [ None ↦ false | Some a ↦ a.strong && mode_joins_behind r a.mode p q c ]

-- Releases

-- The cell is one of a strong reduction of the task: its slot is joined.
abbrev pub is_join : Record → List ℕ → ℕ → Bool
is_join r p c = is_joined_by (access_of r.made p c)

-- The task has released the cell.
abbrev pub is_freed : Record → List ℕ → ℕ → Bool
is_freed r p c = has_some r.notes (sought.Frees c) p && not (is_join r p c)

-- It has released it by this act.
abbrev pub frees_at : Record → List ℕ → ℕ → ℕ → Bool
frees_at r p c n = has_at r.notes (sought.Frees c) p n && not (is_join r p c)

-- The task keeps the cell until it has ended, and under the clause `wait` until all below it have.
abbrev pub keeps_for : Record → List ℕ → ℕ → List ℕ → Bool
keeps_for r p c q = not (is_freed r p c) && (has_wait r.made p && below p q)

-- Pairs of events

-- The act with this number of its creator created the task.
abbrev pub is_made_at : List Made → List ℕ → ℕ → Bool
is_made_at made p n = elim (made_of made p) [ None ↦ false | Some m ↦ nat_eq m.number n ]

-- The first creates the task of the second, whose first act waits for it.
abbrev pub creates : Record → List ℕ → List ℕ → ℕ → Bool
creates r p q m = is_child q p && is_made_at r.made p m

-- The first act is the one behind the second, of the same task.
abbrev pub follows : List ℕ → ℕ → List ℕ → ℕ → Bool
follows p n q m = same_point p q && nat_eq n (suc m)

-- An act waits for an act.
abbrev pub act_waits_act : Record → List ℕ → ℕ → List ℕ → ℕ → Bool
act_waits_act r p n q m = follows p n q m || ((nat_eq n 0 && creates r p q m) || (waits_below r p n q && is_last r.notes q m))

-- An act waits for a cell that is given up.
abbrev pub act_waits_cell : Record → List ℕ → ℕ → List ℕ → ℕ → Bool
act_waits_cell r p n q c = has_access r.made q c && ((nat_eq n 0 && starts_behind r p q c) || (waits_below r p n q || waits_on r p n q c))

-- A cell that is given up waits for an act.
abbrev pub cell_waits_act : Record → List ℕ → ℕ → List ℕ → ℕ → Bool
cell_waits_act r p c q m =
    has_access r.made p c && ((same_point p q && frees_at r p c m) || (is_last r.notes q m && ((same_point p q && not (is_freed r p c)) || keeps_for r p c q)))

-- A cell that is given up waits for one.
abbrev pub cell_waits_cell : Record → List ℕ → ℕ → List ℕ → ℕ → Bool
cell_waits_cell r p c q d = has_access r.made p c && (has_access r.made q d && (keeps_for r p c q || (nat_eq c d && joins_behind r p q c)))
