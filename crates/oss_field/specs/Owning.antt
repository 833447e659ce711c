-- The entries of a task whose job a seat holds, by the cell or for the task itself.
-- Read against: task 7 has the cells 4 and 5. Its entry on cell 4 is 8, that on cell 5 is 9, and its own is 7. It has no entry on cell 6.
use Rattle.std.specs.Prelude.{◌≡◌, ℕ, Bool, Option, Some, None}
use Rattle.oss_model.specs.Context.{right_of}
use Rattle.oss_model.specs.Rights.{Right, Holds}
use Rattle.oss_syntax.specs.declared.access.Mode.{Mode}
use Rattle.oss_jobs.specs.Entries.{or_zero}
use Rattle.oss_roles.specs.Numbers.{entry_number, entry_on}
use Rattle.oss_roles.specs.Roles.{Site, itself, on}
use Rattle.oss_field.specs.Known.{Holding}

-- The site of a task's access to a cell, or of the task itself; and its entry there.
abbrev pub site_of : Option ℕ → Site
site_of None = itself
site_of (Some c) = on c

abbrev pub entry_of : Holding → Option ℕ → ℕ
entry_of h None = h.number
entry_of h (Some c) = entry_number h.number (right_of h.body.start.context) c

-- The task has an entry there.
abbrev pub HasEntry : Holding → Option ℕ → Type 0
HasEntry h None = Unit {0}
HasEntry h (Some c) = (mode : Mode) × (strong : Bool) × (right_of h.body.start.context c ≡ Holds mode strong)

-- The entry of the task of this number, with these rights, as a job tells it: 0 if there is none.
abbrev pub entry_told_at : ℕ → (ℕ → Right) → Option ℕ → ℕ
entry_told_at t own None = t
entry_told_at t own (Some c) = or_zero (entry_on t own c)
