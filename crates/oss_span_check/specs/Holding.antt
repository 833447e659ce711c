-- Whether links are a chain, by the notes of a run, and how many ticks they have.
-- Read against: with the notes `0.0, act 1, Tick`, `0.0, act 3, End` the one link `acts 0.0 0 4` holds, and has one tick; `acts 0.0 2 3` does not, since there is no act 4; and no link of no acts does. Nor does
-- `acts 0.0 18446744073709551615 1`, whatever the notes are: that act would be no event.
use Rattle.std.specs.Prelude.{ℕ, ◌+◌, ◌-◌, ◌^◌, Bool, true, false, ◌&&◌, not, nat_eq, nat_le, nat_lt, if◌then◌else◌, List, [], ◌∷◌, Option, Some, None}
use Rattle.oss_chain_laws.specs.Chains.{capped}
use Rattle.oss_span.specs.declared.link.Link.{Link}
use Rattle.oss_span.specs.declared.link.Link.TheVariants as links
use Rattle.oss_span_check.specs.declared.links.Last.{Last}
use Rattle.oss_span_check.specs.declared.links.Last.TheVariants as lasts
use Rattle.oss_span_check.specs.declared.note.Note.{Note}
use Rattle.oss_span_check.specs.declared.record.Record.{Record}
use Rattle.oss_span_check.specs.declared.sought.Sought.TheVariants as sought
use Rattle.oss_span_check.specs.Queries.{has_access, has_done, is_of}
use Rattle.oss_span_check.specs.Waiting.{act_waits_act, act_waits_cell, cell_waits_act, cell_waits_cell, is_join}

-- The point of the task of a link.
abbrev pub point_of : Link → List ℕ
point_of (links.Acts p first count) = p
point_of (links.Let p c) = p
point_of (links.Join p c) = p

-- So many acts from this one on are numbered: up to the last one there are no more than 18,446,744,073,709,551,615.
abbrev pub are_numbered : ℕ → ℕ → Bool
are_numbered first count = nat_le (first + count) (2 ^ 64 - 1)

-- The last of so many acts from this one on, if the task has done them, they are numbered, and there are some.
abbrev pub last_act : Record → List ℕ → ℕ → ℕ → Option Last
last_act r p first count = if nat_le 1 count && (are_numbered first count && has_done r.notes p (first + count)) then Some (lasts.Act (first + (count - 1))) else None

-- The last event of a link, if all its events happened, and there are some.
abbrev pub last_of : Record → Link → Option Last
last_of r (links.Acts p first count) = last_act r p first count
last_of r (links.Let p c) = if has_access r.made p c && not (is_join r p c) then Some (lasts.Cell c) else None
last_of r (links.Join p c) = if has_access r.made p c && is_join r p c then Some (lasts.Cell c) else None

-- An act waits for the event.
abbrev pub act_waits : Record → List ℕ → ℕ → List ℕ → Last → Bool
act_waits r p n q (lasts.Act m) = act_waits_act r p n q m
act_waits r p n q (lasts.Cell c) = act_waits_cell r p n q c

-- A cell that is given up waits for the event.
abbrev pub cell_waits : Record → List ℕ → ℕ → List ℕ → Last → Bool
cell_waits r p c q (lasts.Act m) = cell_waits_act r p c q m
cell_waits r p c q (lasts.Cell d) = cell_waits_cell r p c q d

-- The first event of the link waits for this event of the task with the point.
abbrev pub link_waits : Record → Link → List ℕ → Last → Bool
link_waits r (links.Acts p n count) q last = act_waits r p n q last
link_waits r (links.Let p c) q last = cell_waits r p c q last
link_waits r (links.Join p c) q last = cell_waits r p c q last

-- The links go on from this event of the task with the point.
abbrev pub goes_on : Record → List ℕ → Last → List Link → Bool
goes_on r q last [] = true
goes_on r q last (l ∷ ls) = link_waits r l q last && (elim (last_of r l) [ None ↦ false | Some e ↦ goes_on r (point_of l) e ls ])

-- The links are a chain.
abbrev pub holds : Record → List Link → Bool
holds r [] = true
holds r (l ∷ ls) = elim (last_of r l) [ None ↦ false | Some e ↦ goes_on r (point_of l) e ls ]

-- Ticks

-- The note is of a tick of the task, one of so many acts from this one on.
abbrev pub is_tick_in : List ℕ → ℕ → ℕ → Note → Bool
is_tick_in p first count x = is_of sought.Tick p x && (nat_le first x.number && nat_lt (x.number - first) count)

-- So many ticks, and those of these notes.
abbrev pub ticks_with : List ℕ → ℕ → ℕ → ℕ → List Note → ℕ
ticks_with p first count n [] = n
ticks_with p first count n (x ∷ xs) = ticks_with p first count (if is_tick_in p first count x then capped (n + 1) else n) xs

-- So many ticks, and those of the link.
abbrev pub link_ticks : Record → ℕ → Link → ℕ
link_ticks r n (links.Acts p first count) = ticks_with p first count n r.notes
link_ticks r n (links.Let p c) = n
link_ticks r n (links.Join p c) = n

-- So many ticks, and those of the links.
abbrev pub ticks_of : Record → ℕ → List Link → ℕ
ticks_of r n [] = n
ticks_of r n (l ∷ ls) = ticks_of r (link_ticks r n l) ls

-- The links are a chain with so many ticks.
abbrev pub is_told : Record → List Link → ℕ → Bool
is_told r ls ticks = holds r ls && nat_eq (ticks_of r 0 ls) ticks
