-- The task that an act creates.
-- Read against: of the creation of a task that begins at instruction 7, on line 3, by a task that has created one before, the number is 1, the line 3 and the entry 7; of one that is included nothing is told.
use Rattle.std.specs.Prelude.{ℕ, false, Option, Some, None}
use Rattle.oss_body.specs.declared.act.Act.{Act}
use Rattle.oss_body.specs.declared.act.Act.TheVariants as acts
use Rattle.oss_graph.specs.declared.coming.Coming.{Coming}

-- the task that is created by an act on this line, after so many
abbrev pub coming_by : Act → ℕ → ℕ → Option Coming
coming_by (acts.Create creation false) line number = Some (record { number = number; line = line; entry = creation.order.entry })
coming_by _ line number = None
