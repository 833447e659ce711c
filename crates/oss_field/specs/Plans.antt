-- The entries of tasks that are being made: which have a role and hang nowhere yet, and what stands in their words.
-- Read against: the task 7 of the cells 4 and 5, whose count a seat has filled. Its plan tells the job of its creator, and with it the rights of 7. The
-- entries 7, 8 and 9 have roles from then on, no word of theirs is written, and they are the ones that are not linked. Once 7 is linked, 8 and 9 are those that are not. An
-- entry with no role has the state word 0, whoever has drawn it.
use Rattle.std.specs.Prelude.{◌≡◌, ◌≢◌, ◌⊎◌, ◌<◌, ◌==◌, ℕ, Bool, true, false, not, ◌&&◌, List, Option, Some, None}
use mathlib.Core.Option as maybe
use lib.ListN.{get_elem?}
use Rattle.oss_code.specs.declared.code.CodeParts.{CodeParts}
use Rattle.oss_machine.specs.Frames.{CodeScript}
use Rattle.oss_machine.specs.Machines.{asks}
use Rattle.oss_model.specs.Bodies.{Body, Order}
use Rattle.oss_model.specs.Context.{right_of}
use Rattle.oss_model.specs.Moves.{new_task}
use Rattle.oss_model.specs.Rights.{Right, Holds}
use Rattle.oss_syntax.specs.declared.access.Mode.{Mode}
use Rattle.oss_syntax.specs.declared.access.Mode.TheVariants.{Read, Fold}
use Rattle.oss_words.specs.declared.entry.EntryInfo.{EntryInfo}
use Rattle.oss_words.specs.declared.entry.EntryState.{EntryState}
use Rattle.oss_words.specs.Net.{Net, apart}
use Rattle.oss_words.specs.Steps.{no_flags}
use Rattle.oss_words.specs.Views.{Among}
use Rattle.oss_roles.specs.Numbers.{entry_number}
use Rattle.oss_roles.specs.Roles.{Role, itself, on}
use Rattle.oss_field.specs.Heard.{Told}
use Rattle.oss_field.specs.Known.{Holding, Known, Plan, Unlinked, last_of}
use Rattle.oss_field.specs.Marks.{Mark}

-- The right of the new task to each cell, if the body x stands before its creation.
abbrev pub new_rights : CodeParts → Body CodeScript → Order CodeScript → ℕ → Right
new_rights code x order = right_of (new_task (asks code) x order).body.start.context

-- The flags for which a new task waits

-- There is none.
abbrev pub is_missing : Option ℕ → Bool
is_missing None = true
is_missing (Some e) = false

-- The entry on this cell of a new child of the job begins a list of main: the job is that of main, which has no child there.
abbrev pub begins_list : Holding → ℕ → Bool
begins_list h c = (h.number == 0) && is_missing (last_of h (on c))

-- An access of this mode waits for a flag. A reduction waits for none.
abbrev pub needs_flag : Mode → Bool
needs_flag (Fold op) = false
needs_flag _ = true

-- The count of a task waits for the entry on a cell to which it has this right: a strong one that reads or writes, and has not all flags from the start.
abbrev pub waits_for : Right → Bool → Bool
waits_for (Holds mode strong) begins = strong && (needs_flag mode && not begins)
waits_for _ begins = false

-- What seats keep

-- What a seat keeps of the tasks that it is making.
pub record Planned : Type 0 where
  pub plans : List Plan
  pub unlinked : List Unlinked

abbrev pub planned_of : Known → Planned
planned_of k = record { plans = k.plans; unlinked = k.unlinked }

-- What it was told of entries, and what it keeps of those whose values are left.
pub record Hearing : Type 0 where
  pub told : List Told
  pub marks : List Mark

abbrev pub hearing_of : Known → Hearing
hearing_of k = record { told = k.told; marks = k.marks }

-- What it keeps of both, and what it has drawn.
pub record Prepared : Type 0 where
  pub drawn : List ℕ
  pub planned : Planned
  pub heard : Hearing

abbrev pub prepared_of : Known → Prepared
prepared_of k = record { drawn = k.drawn; planned = planned_of k; heard = hearing_of k }

-- What the role of an entry of a planned task says: it is the task's own, for which its count does not wait, or that on a cell to which it has a right.
pub data IsRoleOf (code : CodeParts) (y : Plan) (e : ℕ) (r : Role) : Type 0 where
  is_own : e ≡ y.task → r.site ≡ itself → r.mode ≡ Read → r.strong ≡ false → r.counts ≡ false → IsRoleOf code y e r
  is_cell : (c : ℕ) (mode : Mode) (strong : Bool) → new_rights code y.holding.body y.order c ≡ Holds mode strong → e ≡ entry_number y.task (new_rights code y.holding.body y.order) c
      → r.site ≡ on c → r.mode ≡ mode → r.strong ≡ strong → r.counts ≡ waits_for (Holds mode strong) (begins_list y.holding c) → IsRoleOf code y e r

-- An entry that is kept as not linked: it is one of a task with a plan of the same seat, and its words are as they are kept.
pub record IsLoose (net : Net) (role : ℕ → Option Role) (states : ℕ → EntryState) (infos : ℕ → EntryInfo) (cell_of : ℕ → ℕ) (plans : List Plan) (z : Unlinked) : Type 0 where
  pub plan : Plan
  pub among : Among plan plans
  pub task : plan.task ≡ z.task
  pub it : Role
  pub is : role z.entry ≡ Some it
  pub of_task : it.task ≡ z.task
  pub loose : net.place z.entry ≡ apart
  pub state : states z.entry ≡ z.state
  pub info : (i : EntryInfo) → z.info ≡ Some i → infos z.entry ≡ i
  pub cell : (c : ℕ) → z.cell ≡ Some c → cell_of z.entry ≡ c

-- The entry is among those that are not linked.
pub record IsUnlinked (e : ℕ) (loose : List Unlinked) : Type 0 where
  pub it : Unlinked
  pub among : Among it loose
  pub entry : it.entry ≡ e

-- What all seats keep of the tasks that they are making, in a field of n entries.
pub record ArePlanned (code : CodeParts) (n : ℕ) (net : Net) (role : ℕ → Option Role) (states : ℕ → EntryState) (infos : ℕ → EntryInfo) (cell_of : ℕ → ℕ) (seats : List Planned) : Type 0 where
  -- what has a role is an entry of the table, and what has none was never used
  pub inside : (e : ℕ) (r : Role) → role e ≡ Some r → e < n
  pub blank : (e : ℕ) → role e ≡ None → states e ≡ no_flags
  -- a task with a plan has its roles, and each of its entries hangs or is kept as not linked
  pub own : (id : ℕ) (s : Planned) → get_elem? seats id ≡ maybe.some s → (y : Plan) → Among y s.plans → (q : Role) × (role y.task ≡ Some q)
  pub roles : (id : ℕ) (s : Planned) → get_elem? seats id ≡ maybe.some s → (y : Plan) → Among y s.plans → (e : ℕ) (r : Role) → role e ≡ Some r → r.task ≡ y.task → IsRoleOf code y e r
  pub rest : (id : ℕ) (s : Planned) → get_elem? seats id ≡ maybe.some s → (y : Plan) → Among y s.plans → (e : ℕ) (r : Role) → role e ≡ Some r → r.task ≡ y.task → (net.place e ≢ apart) ⊎ IsUnlinked e s.unlinked
  -- one seat has the plan of a task
  pub one : (i j : ℕ) (s u : Planned) → get_elem? seats i ≡ maybe.some s → get_elem? seats j ≡ maybe.some u → (y z : Plan) → Among y s.plans → Among z u.plans → y.task ≡ z.task → i ≡ j
  pub loose : (id : ℕ) (s : Planned) → get_elem? seats id ≡ maybe.some s → (z : Unlinked) → Among z s.unlinked → IsLoose net role states infos cell_of s.plans z
