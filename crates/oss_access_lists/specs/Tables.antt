-- The tables that the code keeps, with a row for each access, and what each call makes of them. A row that is not there reads as that of
-- an access which hangs nowhere and has no flags.
-- Read against: the accesses 1 to 5 of `Wires`. The row of 0 has the child 1 and the last 5, that of 1 the child and the last 2 and the next
-- 3, that of 3 the one above 0, the one before 1 and the next 4. Where 1 and then 2 are given up and nothing is settled yet, flags wait at
-- 2, then at 1; the delivery at 2 posts to 1 that it is done.
use Rattle.std.specs.Prelude.{◌≡◌, ℕ, ◌<◌, ◌+◌, ◌==◌, ◌&&◌, ◌||◌, not, if◌then◌else◌, Bool, true, false, List, [], ◌∷◌, ◌++◌, length}
use Rattle.std.proofs.Math.ListN.{get_or, set}
use Rattle.oss_syntax.specs.declared.access.Mode.{Mode}
use Rattle.oss_syntax.specs.declared.access.Mode.TheVariants.{Write}
use Rattle.oss_model.specs.Order.{IsIn}
use Rattle.oss_access_lists.specs.declared.marks.Marks.{Marks}
use Rattle.oss_access_lists.specs.declared.hang.Hang.{Hang}
use Rattle.oss_access_lists.specs.Wires.{Place, loose, first, after, Wires}
use Rattle.oss_access_lists.specs.Flags.{Flag, has, to_next, to_child, is_whole, Stands, IsListed}

-- No flag.
abbrev pub no_marks : Marks
no_marks = record { reads = false; joins = false; writes = false; given = false; done = false; clear = false }

-- Main may read and write from the start.
abbrev pub main_marks : Marks
main_marks = record { reads = true; joins = false; writes = true; given = false; done = false; clear = false }

-- What goes up from the last child.
abbrev pub only_done : Marks
only_done = record { reads = false; joins = false; writes = false; given = false; done = true; clear = false }

-- So main hangs in a new line, and what is no access.
abbrev pub no_hang : Hang
no_hang = record { hung = false; above = 0; before = 0; next = 0; child = 0; last = 0; mode = Write; gave = false }

-- The flags of both.
abbrev pub plus : Marks → Marks → Marks
plus a b = record {
  reads = a.reads || b.reads;
  joins = a.joins || b.joins;
  writes = a.writes || b.writes;
  given = a.given || b.given;
  done = a.done || b.done;
  clear = a.clear || b.clear;
}

-- The flags of the first that the second has not.
abbrev pub minus : Marks → Marks → Marks
minus a b = record {
  reads = a.reads && not b.reads;
  joins = a.joins && not b.joins;
  writes = a.writes && not b.writes;
  given = a.given && not b.given;
  done = a.done && not b.done;
  clear = a.clear && not b.clear;
}

-- There is no flag.
abbrev pub is_none : Marks → Bool
is_none a = not (a.reads || a.joins || a.writes || a.given || a.done || a.clear)

-- The flags of an access.
abbrev pub marks_at : List Marks → ℕ → Marks
marks_at all v = get_or all v no_marks

-- The row of an access.
abbrev pub hang_at : List Hang → ℕ → Hang
hang_at all v = get_or all v no_hang

-- Flags are posted to an access: those that stand there are left out.
abbrev pub post_in : List Marks → List Marks → ℕ → Marks → List Marks
post_in stand posted at flags = set posted at (plus (marks_at posted at) (minus flags (marks_at stand at)))

-- What an access sends to the next sibling.
abbrev pub next_in : List Hang → List Marks → List Marks → ℕ → List Marks
next_in hangs stand posted at =
    if (hang_at hangs at).next == 0 then posted
    else post_in stand posted (hang_at hangs at).next (to_next (hang_at hangs at).mode (hang_at hangs (hang_at hangs at).next).mode (marks_at stand at))

-- What it sends to the first child.
abbrev pub child_in : List Hang → List Marks → List Marks → ℕ → List Marks
child_in hangs stand posted at =
    if (hang_at hangs at).child == 0 then posted
    else post_in stand posted (hang_at hangs at).child (to_child (hang_at hangs at).mode (hang_at hangs (hang_at hangs at).child).mode (marks_at stand at))

-- It is the last in the list of an access that is given up, and all of the list is done.
abbrev pub goes_up : List Hang → List Marks → ℕ → Bool
goes_up hangs stand at =
    (hang_at hangs (hang_at hangs at).above).gave && ((hang_at hangs (hang_at hangs at).above).last == at) && is_whole (marks_at stand at)

-- What it sends up then.
abbrev pub up_in : List Hang → List Marks → List Marks → ℕ → List Marks
up_in hangs stand posted at =
    if goes_up hangs stand at then post_in stand posted (hang_at hangs at).above only_done else posted

-- What stands after a delivery at an access.
abbrev pub stand_after : List Marks → List Marks → ℕ → List Marks
stand_after stand posted at = set stand at (plus (marks_at stand at) (marks_at posted at))

-- And what waits then.
abbrev pub posted_after : List Hang → List Marks → List Marks → ℕ → List Marks
posted_after hangs stand posted at =
    up_in hangs stand (child_in hangs stand (next_in hangs stand (set posted at no_marks) at) at) at

-- What a gift posts: that it is given; and that it is done, where it has no child, or the last child tells that all are.
abbrev pub gift_flags : List Hang → List Marks → ℕ → Marks
gift_flags hangs stand at = record {
  reads = false;
  joins = false;
  writes = false;
  given = true;
  done = ((hang_at hangs at).last == 0) || is_whole (marks_at stand (hang_at hangs at).last);
  clear = false;
}

-- The row once the task has given up the cell.
abbrev pub given_up : Hang → Hang
given_up h = record { hung = h.hung; above = h.above; before = h.before; next = h.next; child = h.child; last = h.last; mode = h.mode; gave = true }

-- The rows then.
abbrev pub gave_in : List Hang → ℕ → List Hang
gave_in hangs at = set hangs at (given_up (hang_at hangs at))

-- The row of the access that is hung next at the end of the list of `above`.
abbrev pub new_hang : List Hang → ℕ → Mode → Hang
new_hang hangs above mode = record { hung = true; above = above; before = (hang_at hangs above).last; next = 0; child = 0; last = 0; mode = mode; gave = false }

-- What is posted to it.
abbrev pub first_flags : List Hang → List Marks → ℕ → Mode → Marks
first_flags hangs stand above mode =
    if (hang_at hangs above).last == 0 then to_child (hang_at hangs above).mode mode (marks_at stand above)
    else to_next (hang_at hangs (hang_at hangs above).last).mode mode (marks_at stand (hang_at hangs above).last)

-- The row of its creator then: it is the last there, and the first too if there was none.
abbrev pub with_last : Hang → ℕ → Hang
with_last h at = record { hung = h.hung; above = h.above; before = h.before; next = h.next; child = if h.last == 0 then at else h.child; last = at; mode = h.mode; gave = h.gave }

-- The row of the one before it.
abbrev pub with_next : Hang → ℕ → Hang
with_next h at = record { hung = h.hung; above = h.above; before = h.before; next = at; child = h.child; last = h.last; mode = h.mode; gave = h.gave }

-- The rows with the creator's changed.
abbrev pub last_in : List Hang → ℕ → ℕ → List Hang
last_in hangs above at = set hangs above (with_last (hang_at hangs above) at)

-- The rows with that of the one before changed, if there is one.
abbrev pub next_link : List Hang → ℕ → ℕ → List Hang
next_link hangs before at = if before == 0 then hangs else set hangs before (with_next (hang_at hangs before) at)

-- The rows once an access of this mode is hung at the end of the list of `above`.
abbrev pub opened_in : List Hang → ℕ → Mode → List Hang
opened_in hangs above mode =
    next_link (last_in (hangs ++ new_hang hangs above mode ∷ []) above (length hangs)) (hang_at hangs above).last (length hangs)

-- Those that wait, by the number that each one keeps of the next; 0 ends the chain.
pub data IsChain (behind : ℕ → ℕ) : ℕ → List ℕ → Type 0 where
  stop : IsChain behind 0 []
  step : {v : ℕ} {rest : List ℕ} → (v ≡ 0 → ⊥) → (IsIn v rest → ⊥) → IsChain behind (behind v) rest → IsChain behind v (v ∷ rest)

-- The number behind an access.
abbrev pub number_at : List ℕ → ℕ → ℕ
number_at all v = get_or all v 0

-- The chain from the head has exactly the accesses at which flags wait.
pub record IsQueue (posted : List Marks) (behind : List ℕ) (from : ℕ) : Type 0 where
  pub list : List ℕ
  pub chain : IsChain (number_at behind) from list
  pub waits : (v : ℕ) → IsIn v list → is_none (marks_at posted v) ≡ false
  pub all : (v : ℕ) → is_none (marks_at posted v) ≡ false → IsIn v list

-- Where the access of a row hangs.
abbrev pub place_of : Hang → Place
place_of h = if h.hung then (if h.before == 0 then first h.above else after h.before) else loose

-- The lists that a table stands for.
abbrev pub wires_of : List Hang → Wires
wires_of hangs = record {
  place = λ v. place_of (hang_at hangs v);
  last = λ v. (hang_at hangs v).last;
  mode = λ v. (hang_at hangs v).mode;
  gave = λ v. (hang_at hangs v).gave;
}

-- All numbers that are named are of the table.
pub record AreWithin (hangs : List Hang) (n : ℕ) : Type 0 where
  pub next : (v : ℕ) → (hang_at hangs v).next < n
  pub child : (v : ℕ) → (hang_at hangs v).child < n
  pub above : (v : ℕ) → (hang_at hangs v).above < n
  pub last : (v : ℕ) → (hang_at hangs v).last < n

-- The links lead where the lists go.
pub record AreLinked (hangs : List Hang) : Type 0 where
  pub next_forth : (v n : ℕ) → place_of (hang_at hangs n) ≡ after v → (hang_at hangs v).next ≡ n
  pub next_back : (v n : ℕ) → (hang_at hangs v).next ≡ n → (n ≡ 0 → ⊥) → place_of (hang_at hangs n) ≡ after v
  pub child_forth : (v n : ℕ) → place_of (hang_at hangs n) ≡ first v → (hang_at hangs v).child ≡ n
  pub child_back : (v n : ℕ) → (hang_at hangs v).child ≡ n → (n ≡ 0 → ⊥) → place_of (hang_at hangs n) ≡ first v
  pub last_above : (p v : ℕ) → (hang_at hangs p).last ≡ v → (v ≡ 0 → ⊥) → (hang_at hangs v).above ≡ p

-- Flags that wait at an access do not stand there yet.
abbrev pub AreNew : List Marks → List Marks → Type 0
AreNew stand posted = (f : Flag) (v : ℕ) → has f (marks_at posted v) ≡ true → has f (marks_at stand v) ≡ false

-- A flag that does not stand counts one.
abbrev pub one_left : Bool → ℕ
one_left true = 0
one_left false = 1

-- How many of the six flags of an access do not stand.
abbrev pub left_of : Marks → ℕ
left_of a = one_left a.reads + one_left a.joins + one_left a.writes + one_left a.given + one_left a.done + one_left a.clear

-- And of all accesses: a delivery makes it less.
abbrev pub left_in : List Marks → ℕ
left_in [] = 0
left_in (a ∷ rest) = left_of a + left_in rest

-- The tables stand for lists in which each access hangs, all flags that are due stand or wait, and those that stand or wait are so; they
-- have as many rows, and the chain from the head has those that wait.
pub record AreTables (hangs : List Hang) (stand posted : List Marks) (behind : List ℕ) (from : ℕ) : Type 0 where
  pub linked : AreLinked hangs
  pub within : AreWithin hangs (length posted)
  pub in_all : length hangs ≡ length posted
  pub listed : (v : ℕ) → (v ≡ 0 → ⊥) → v < length hangs → IsListed (wires_of hangs) v
  pub stands : Stands (wires_of hangs) (marks_at stand) (marks_at posted)
  pub queue : IsQueue posted behind from
  pub news : AreNew stand posted
  pub as_long : length stand ≡ length posted
  pub as_many : length behind ≡ length posted
