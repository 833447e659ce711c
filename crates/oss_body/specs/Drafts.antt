-- Acts that are made before it is known whether the judge lets them pass: so that this is found without memory.
-- Read against: a task that asks for a read of cell 2 has as its draft the load of cell 2, whatever it may touch; where its right to cell 2 is that
-- of a write and nothing is lent, the draft has no fault and is the act, and where the task has no right the fault stands in its place.
use Rattle.std.specs.Prelude.{◌≡◌, ◌||◌, Bool, length, map, Option, Some, None}
use Rattle.oss_judge.specs.Given.{IsGiven}
use Rattle.oss_judge.specs.Parts.{reading}
use Rattle.oss_machine.specs.Asks.{meant_order}
use Rattle.oss_machine.specs.declared.ask.Ask.{Ask}
use Rattle.oss_machine.specs.declared.ask.Ask.TheVariants as asks
use Rattle.oss_machine.specs.Frames.{CodeScript}
use Rattle.oss_model.specs.Bodies.{Act as Meant}
use Rattle.oss_model.specs.Context.{Context, child_context, create_fault, creation_fault, lent_of, mark_of, or_else, release_fault, right_of, tick_fault, wait_on_fault}
use Rattle.oss_model.specs.Rights.{Folds, Reads, Writes, touch_fault}
use Rattle.oss_syntax.specs.declared.fault.FaultKind.{FaultKind}
use Rattle.oss_syntax.specs.declared.fault.FaultKind.TheVariants as fault
use Rattle.oss_body.specs.declared.act.Act.{Act}
use Rattle.oss_body.specs.declared.act.Act.TheVariants as acts
use Rattle.oss_body.specs.declared.draft.Draft.{Draft}
use Rattle.oss_body.specs.declared.draft.Draft.TheVariants as drafts
use Rattle.oss_body.specs.Acts.{act_seen}

-- What the draft of an ask has in it takes memory: that of a creation, and that of a print, but not that of a read.
abbrev pub needs_memory : Ask → Bool
needs_memory (asks.Create order) = Bool.true
needs_memory (asks.WaitOn ranges) = Bool.true
needs_memory (asks.Release clauses) = Bool.true
needs_memory (asks.Print text) = Bool.true
needs_memory _ = Bool.false

-- The fault of an act that is neither a creation nor a release: of a tick without fuel, OutOfFuel.
abbrev pub plain_fault : Context → Act → Option FaultKind
plain_fault x acts.Tick = tick_fault x
plain_fault x (acts.Load c) = touch_fault (right_of x c) (lent_of x c) (mark_of x c) Reads
plain_fault x (acts.Store c v) = touch_fault (right_of x c) (lent_of x c) (mark_of x c) Writes
plain_fault x (acts.Fold c op v slot) = touch_fault (right_of x c) (lent_of x c) (mark_of x c) (Folds op)
plain_fault x (acts.WaitOn ranges) = wait_on_fault x (map reading ranges)
plain_fault x _ = None

-- What is found in the place of a draft by a task with this context: of a creation the fault of its beginning, or of its clauses.
abbrev pub draft_fault : Context → Draft → Option FaultKind
draft_fault x (drafts.Plain act) = plain_fault x act
draft_fault x (drafts.Creation given creation included) = creation_fault x creation.order.accesses (x.final || creation.order.last)
draft_fault x (drafts.Release given clauses included) = release_fault x clauses
draft_fault x drafts.Begun = or_else (create_fault x) (Some fault.TooManyTasks)
draft_fault x (drafts.Faulty kind) = Some kind

-- The act that a draft is, where nothing is found in its place.
abbrev pub drafted : Draft → Meant CodeScript
drafted (drafts.Plain act) = act_seen act
drafted (drafts.Creation given creation included) = Meant.Created (meant_order creation.order) included
drafted (drafts.Release given clauses included) = Meant.Releases clauses included
drafted drafts.Begun = Meant.Ended
drafted (drafts.Faulty kind) = Meant.Ended

-- The draft is neither a creation nor a release by an act that it has in it.
abbrev pub is_plain : Act → Bool
is_plain (acts.Create creation included) = Bool.false
is_plain (acts.Release clauses included) = Bool.false
is_plain _ = Bool.true

-- What a draft has beside its act is right for a task with this context: the rights that clauses give, and the context of a new task.
abbrev pub IsDraft : Context → Draft → Type 0
IsDraft x (drafts.Plain act) = is_plain act ≡ Bool.true
IsDraft x (drafts.Creation given creation included) = IsGiven (x.final || creation.order.last) creation.order.accesses given × (creation.context ≡ child_context x creation.order.accesses creation.order.last)
IsDraft x (drafts.Release given clauses included) = IsGiven Bool.false clauses given
IsDraft x drafts.Begun = Unit {0}
IsDraft x (drafts.Faulty kind) = Unit {0}

-- Two contexts of one task: they have as many cells, the same fuel and depth, and are final or not. A store changes none of these.
pub record Alike (x y : Context) : Type 0 where
  pub cells : length x.entries ≡ length y.entries
  pub fuel : x.fuel ≡ y.fuel
  pub depth : x.depth ≡ y.depth
  pub final : x.final ≡ y.final
