-- What a seat of a field knows, in a form that a seat can keep.
-- It is what `Sight` of `oss_roles` has, but that the last children of a job that it holds are kept as the job keeps them, by ranges of cells, and
-- not as a function.
-- Read against: a seat has taken the job of the task 7, whose last child is 10, with the entry 11 on cell 5. It bears 7, with one piece, for the cell
-- 5, and 10 as the last child. Seen as in `oss_roles`, the last child on cell 5 is 11, on the task itself 10, and on any other cell there is none. Its
-- last step was the exchange of the body word of 7, which was 1.
use Rattle.std.specs.Prelude.{ℕ, List, [], map, Option}
use Rattle.oss_machine.specs.Frames.{CodeScript}
use Rattle.oss_model.specs.Bodies.{Body, Order}
use Rattle.oss_ranges.specs.declared.piece.Piece.{Piece}
use Rattle.oss_ranges.specs.Cells.{value_at}
use Rattle.oss_words.specs.declared.entry.EntryInfo.{EntryInfo}
use Rattle.oss_words.specs.declared.entry.EntryState.{EntryState}
use Rattle.oss_words.specs.Views.{View, Seen, first_view}
use Rattle.oss_roles.specs.Roles.{Site, itself, on}
use Rattle.oss_roles.specs.Sights.{Bearing, Making, Noted, Fixed, Sight}
use Rattle.oss_jobs.specs.Entries.{entry_told}
use Rattle.oss_field.specs.declared.touched.Touched.{Touched}
use Rattle.oss_field.specs.Heard.{Told, Lowered}
use Rattle.oss_field.specs.Marks.{Mark}

-- A job that a seat holds: the task's number and path, its body as the machine has it, the answers that the body had found when the job was made, and
-- its last children as the job kept them.
pub record Holding : Type 0 where
  pub number : ℕ
  pub path : List ℕ
  pub body : Body CodeScript
  pub before : List ℕ
  pub lasts : List (Piece ℕ)
  pub last_child : Option ℕ

-- Its last child on each site.
abbrev pub last_of : Holding → Site → Option ℕ
last_of h itself = h.last_child
last_of h (on c) = entry_told (value_at h.lasts c) c

abbrev pub bearing_of : Holding → Bearing CodeScript
bearing_of h = record { number = h.number; path = h.path; body = h.body; last = last_of h }

-- What a seat keeps of a task that it is making: its number, the job of its creator, whose body stands before the creation, and the creation.
pub record Plan : Type 0 where
  pub task : ℕ
  pub holding : Holding
  pub order : Order CodeScript

-- An entry of such a task that hangs nowhere yet, and what stands in its words: its state, and its info and the number of its cell once the seat has
-- written them.
pub record Unlinked : Type 0 where
  pub task : ℕ
  pub entry : ℕ
  pub state : EntryState
  pub info : Option EntryInfo
  pub cell : Option ℕ

-- What a seat knows.
pub record Known : Type 0 where
  -- of the words, and of what it has of the field
  pub words : View
  -- the jobs that it holds, the one taken last first, and the tasks that it is making
  pub bears : List Holding
  pub makes : List Making
  pub drawn : List ℕ
  pub ready : List ℕ
  pub loaded : List Noted
  pub joined : List ℕ
  pub owes : List ℕ
  pub seen : List Seen
  pub still : List Fixed
  -- the tasks that it is making, and their entries that hang nowhere yet
  pub plans : List Plan
  pub unlinked : List Unlinked
  -- what it was told of entries that hang, what it keeps of those whose values are left, what its last delivery touched, and the last count that it lowered
  pub told : List Told
  pub marks : List Mark
  pub last : Touched
  pub lowered : Lowered
  -- the number of the word that its last step touched, and what stood there then
  pub word : ℕ
  pub found : ℕ

-- The same as the rule of `oss_roles` reads it.
abbrev pub sight_of : Known → Sight CodeScript
sight_of k = record {
  words = k.words;
  bears = map bearing_of k.bears;
  makes = k.makes;
  drawn = k.drawn;
  ready = k.ready;
  loaded = k.loaded;
  joined = k.joined;
  owes = k.owes;
  seen = k.seen;
  still = k.still;
}

-- What the seat knows with which a field is made.
abbrev pub first_known : Known
first_known = record {
  words = first_view;
  bears = [];
  makes = [];
  drawn = [];
  ready = [];
  loaded = [];
  joined = [];
  owes = [];
  seen = [];
  still = [];
  plans = [];
  unlinked = [];
  told = [];
  marks = [];
  last = record { entry = 0; state = 0; info = 0 };
  lowered = record { task = 0; found = 0 };
  word = 0;
  found = 0;
}
