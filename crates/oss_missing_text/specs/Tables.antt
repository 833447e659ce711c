-- A table of lines: for each the number of the first task that has it, that of the last, and how many have it.
-- Read against: of four tasks the first and the last two have the line `in(x)`: the first is 0, the last 3, and three have it. At task 0 two later ones are left, and at task 2 the line is not told.
use Rattle.std.specs.Prelude.{◌≡◌, ◌<◌, ◌≤◌, ℕ, suc, ◌+◌, ◌-◌, ◌==◌, nat_lt, min, Bool, true, false, if◌then◌else◌, List, [], ◌∷◌, length, Option, Some, None, count_by}
use Rattle.std.specs.Borrow.{Bor}
use Rattle.std.specs.Str.{bytes_eq}
use Rattle.indexmap.specs.IndexMap.{IndexMap, get_by}
use Rattle.oss_missing_text.specs.declared.alike.Alike.{Alike}
use Rattle.oss_missing_text.specs.Counting.{has_line}

-- what a table has of a line
abbrev pub kept_at : {S : Type 0} → IndexMap (Bor (List ℕ)) Alike S → List ℕ → Option Alike
kept_at table line = get_by (λ key. bytes_eq line key.now) table

-- One task more has the line. A task that is noted already stays noted.
abbrev pub noted_at : ℕ → Option Alike → Alike
noted_at place None = record { first = place; last = place; count = 1 }
noted_at place (Some a) = if a.last == place then a else record { first = a.first; last = place; count = min (a.count + 1) 18446744073709551615 }

-- the same, if the task has the line
abbrev pub noted_if : ℕ → Option Alike → Bool → Option Alike
noted_if place old false = old
noted_if place old true = Some (noted_at place old)

-- The line is noted for this task, and no other line is.
abbrev pub IsNoted : {S : Type 0} → IndexMap (Bor (List ℕ)) Alike S → IndexMap (Bor (List ℕ)) Alike S → List ℕ → ℕ → Type 0
IsNoted old new line place = (other : List ℕ) → kept_at new other ≡ noted_if place (kept_at old other) (bytes_eq line other)

-- These lines are noted for this task, and no other one is.
abbrev pub AreNoted : {S : Type 0} → IndexMap (Bor (List ℕ)) Alike S → IndexMap (Bor (List ℕ)) Alike S → List (List ℕ) → ℕ → Type 0
AreNoted old new lines place = (other : List ℕ) → kept_at new other ≡ noted_if place (kept_at old other) (has_line other lines)

-- The number of the first task that has a line, and how many have it.
pub record Found : Type 0 where
  pub first : ℕ
  pub count : ℕ

-- the same with one task in front
abbrev pub moved : Option Found → Option Found
moved None = None
moved (Some f) = Some (record { first = suc f.first; count = f.count })

-- what is found of a line among the lines of all tasks
abbrev pub found : List (List (List ℕ)) → List ℕ → Option Found
found [] line = None
found (lines ∷ rest) line = if has_line line lines then Some (record { first = 0; count = suc (count_by (has_line line) rest) }) else moved (found rest line)

-- What is kept of a line is what is found of it among so many tasks.
abbrev pub IsKept : Option Alike → Option Found → ℕ → Type 0
IsKept None None size = Unit {0}
IsKept None (Some f) size = ⊥
IsKept (Some a) None size = ⊥
IsKept (Some a) (Some f) size = (a.first ≡ f.first) × (a.count ≡ f.count) × (a.last < size) × (a.count ≤ size)

-- A table has the lines of these tasks.
abbrev pub HasAlike : {S : Type 0} → IndexMap (Bor (List ℕ)) Alike S → List (List (List ℕ)) → Type 0
HasAlike table told = (line : List ℕ) → IsKept (kept_at table line) (found told line) (length told)

-- How many tasks behind that with this number have a line, where no task before it has.
abbrev pub behind_of : ℕ → Option Alike → Option ℕ
behind_of place None = Some 0
behind_of place (Some a) = if nat_lt a.first place then None else (if a.first == place then Some (a.count - 1) else Some a.count)
