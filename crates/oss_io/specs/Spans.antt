-- What is seen of a shelf and of a sink before some calls and after them.
-- Read against: a sink that had taken `a`, and then is given `bc` and takes `b` before it fails, has taken a part of `bc`: it had `a`
-- before and has `ab` after, and its count of faults rose.
use Rattle.std.specs.Prelude.{◌≡◌, ℕ, ◌<◌, List, Option, length, take}
use Rattle.std.specs.Io.KnownBytes.{append_known}
use Rattle.oss_io.specs.Faults.{Rises}

-- a shelf at one moment: the bytes under each name, where it tells them, the count of its faults, and the name of the last
pub record ShelfSeen : Type 0 where
  pub held : List ℕ → Option (List ℕ)
  pub faults : ℕ
  pub last : List ℕ

-- a shelf before some calls and after them
pub record ShelfSpan : Type 0 where
  pub before : ShelfSeen
  pub after : ShelfSeen

-- a sink at one moment: the bytes that it has taken, where it tells them, and the count of its faults
pub record SinkSeen : Type 0 where
  pub taken : Option (List ℕ)
  pub faults : ℕ

-- a sink before some calls and after them
pub record SinkSpan : Type 0 where
  pub before : SinkSeen
  pub after : SinkSeen

-- the span between two moments of a shelf, by the ghost members of its trait
abbrev pub shelf_span : {S : Type 0} → (S → List ℕ → Option (List ℕ)) → (S → ℕ) → (S → List ℕ) → S → S → ShelfSpan
shelf_span held faults last old new = record {
  before = record { held = held old; faults = faults old; last = last old };
  after = record { held = held new; faults = faults new; last = last new };
}

-- the span between two moments of a sink, by the ghost members of its trait
abbrev pub sink_span : {K : Type 0} → (K → Option (List ℕ)) → (K → ℕ) → K → K → SinkSpan
sink_span taken faults old new = record {
  before = record { taken = taken old; faults = faults old };
  after = record { taken = taken new; faults = faults new };
}

-- the shelf failed: its count of faults rose
abbrev pub ShelfFailed : ShelfSpan → Type 0
ShelfFailed shelf = Rises shelf.before.faults shelf.after.faults

-- it did not fail
abbrev pub ShelfQuiet : ShelfSpan → Type 0
ShelfQuiet shelf = shelf.after.faults ≡ shelf.before.faults

-- the sink failed
abbrev pub SinkFailed : SinkSpan → Type 0
SinkFailed sink = Rises sink.before.faults sink.after.faults

-- the sink took the whole text without a fault
pub record TookWhole (sink : SinkSpan) (text : List ℕ) : Type 0 where
  pub whole : sink.after.taken ≡ append_known sink.before.taken text
  pub quiet : sink.after.faults ≡ sink.before.faults

-- the sink failed, and took a front of the text that is not the whole of it
pub record TookPart (sink : SinkSpan) (text : List ℕ) : Type 0 where
  pub failed : SinkFailed sink
  pub count : ℕ
  pub short : count < length text
  pub front : sink.after.taken ≡ append_known sink.before.taken (take count text)

-- the sink is as it was
pub record Untouched (sink : SinkSpan) : Type 0 where
  pub same : sink.after.taken ≡ sink.before.taken
  pub quiet : sink.after.faults ≡ sink.before.faults
