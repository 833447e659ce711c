-- What a seat is seen as, and what holds of it between two calls.
-- Read against: a seat that holds (2, 3), (2, 4) and (2, 5), where 2 is of depth 1: the ranks are 12, 11 and 10, so (2, 3) is delivered first.
use Rattle.std.specs.Prelude.{◌≡◌, ◌≢◌, ◌<◌, ◌≤◌, ◌+◌, ◌-◌, ◌*◌, ℕ, List, [], map, slice_index_or}
use Rattle.atomic_table.specs.Seated.{TableId}
use Rattle.oss_words.specs.declared.message.Message.{Message}
use Rattle.oss_words.specs.Bits.{info_at}
use Rattle.oss_words.specs.Sums.{total}
use Rattle.oss_words.specs.Views.{Among}
use Rattle.oss_word_net.specs.declared.held.Held.{Held}
use Rattle.oss_word_net.specs.Calls.{Carries}
use Rattle.oss_word_net.specs.Known.{Known, Told}
use Rattle.oss_word_net.specs.Plays.{Bounded}

-- A net, as its calls name it.
pub record Standing : Type 0 where
  pub net : TableId
  pub id : ℕ
  pub known : Known

-- The order of delivery: the deepest first, and of one depth the least flag.
abbrev pub rank : Held → ℕ
rank h = 8 * (info_at h.info).depth + (7 - h.flag)

-- None of the first n of the list comes before the one at this place.
abbrev pub NoneBefore : List Held → ℕ → ℕ → Type 0
NoneBefore held n best = (k : ℕ) (d : Held) → k < n → rank (slice_index_or held k d) ≤ rank (slice_index_or held best d)

abbrev pub message_of : Held → Message
message_of h = record { entry = h.entry; flag = h.flag }

-- The seat has read info words, and knows nothing else that is new.
pub record Learns (a b : Known) : Type 0 where
  pub added : b.added ≡ a.added
  pub view : b.view ≡ a.view
  pub entries : b.entries ≡ a.entries
  pub filling : b.filling ≡ a.filling
  pub told : (t : Told) → Among t a.told → Among t b.told

-- It has read state words.
pub record Watches (a b : Known) : Type 0 where
  pub held : b.view.held ≡ a.view.held
  pub half : b.view.half ≡ a.view.half
  pub links : b.view.links ≡ a.view.links
  pub gives : b.view.gives ≡ a.view.gives
  pub delivered : b.view.delivered ≡ a.view.delivered
  pub filling : b.filling ≡ a.filling
  pub carries : Carries a b

-- The messages that are ready are these, but for those that are not yet.
pub record Ready (held : List Held) (rest : List Message) (k : Known) : Type 0 where
  pub same : (h : Message → ℕ) → total h (map message_of held) + total h rest ≡ total h k.view.held
  pub told : (x : Held) → Among x held → Among (record { entry = x.entry; info = info_at x.info }) k.told

-- What holds of a seat between two calls, its ready messages aside.
pub record Idle (n : ℕ) (k : Known) : Type 0 where
  pub bounded : Bounded k
  pub whole : k.view.half ≡ []
  pub idle : k.filling ≡ []
  pub live : k.view.parts ≢ 0
  pub size : k.entries ≡ n
  pub some : (0 < n) × (n ≤ 16777216)
  pub owned : (e : ℕ) → Among e k.view.owned → e < n

-- And with them: each message that it holds is ready.
pub record Settled (held : List Held) (k : Known) : Type 0 where
  pub idle : Idle k.entries k
  pub ready : Ready held [] k

-- A net, as its calls name it: its table, and how many entries it has.
pub record Netted : Type 0 where
  pub table : TableId
  pub entries : ℕ
