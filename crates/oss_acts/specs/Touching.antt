-- The acts that a job does by itself, as they are kept.
-- Read against: a tick, a print, the end, a release and a fold into the slot of the task are own acts, and so is the creation of a task that is included. A load, a fold into a cell, a wait, and the
-- creation of a task that is not included are none.
use Rattle.std.specs.Prelude.{Bool, true, false}
use Rattle.oss_body.specs.declared.act.Act.{Act}
use Rattle.oss_body.specs.declared.act.Act.TheVariants as acts

abbrev pub is_own : Act → Bool
is_own acts.Tick = true
is_own (acts.Load c) = false
is_own (acts.Store c v) = false
is_own (acts.Fold c op v slot) = slot
is_own (acts.Create creation included) = included
is_own acts.Await = false
is_own acts.Wait = false
is_own (acts.WaitOn ranges) = false
is_own (acts.Release clauses included) = true
is_own (acts.Print key text) = true
is_own acts.End = true
is_own (acts.Fault kind line key) = false
