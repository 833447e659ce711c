-- The messages that a seat holds: which of them comes first, and what their delivery makes of what the seat knows.
-- Read against: entry 8 is a write of cell 4 that was given up, and 12 hangs behind it, a strong read of task 11. The seat holds (12, 3), (12, 4) and (12, 5): 12 may read, may write, and has
-- nothing before it. It was told that 12 is such a read, of depth 1. The ranks are 12, 11 and 10, so (12, 3) comes first. It sets reads of 12, by adding 1 to its state word. A strong read
-- waits for that flag, so the count of 11 is lowered. It was 1, and is 0: the task 11 has nothing to wait for. (12, 4) is the next, and lowers no count.
use Rattle.std.specs.Prelude.{◌≡◌, ◌≢◌, ◌⊎◌, ◌<◌, ◌≤◌, ◌+◌, ◌-◌, ◌*◌, ◌==◌, ◌&&◌, cond, if◌then◌else◌, ℕ, Bool, true, List, [], ◌∷◌, ◌++◌, map, length, slice_index_or, Option, Some, None}
use mathlib.Core.Option as maybe
use lib.ListN.{get_elem?}
use Rattle.oss_words.specs.declared.entry.EntryInfo.{EntryInfo}
use Rattle.oss_words.specs.declared.message.Message.{Message}
use Rattle.oss_words.specs.Bits.{info_at, state_at, weight}
use Rattle.oss_words.specs.Causes.{sent}
use Rattle.oss_words.specs.Members.{Has}
use Rattle.oss_words.specs.Net.{Net, apart}
use Rattle.oss_words.specs.Sums.{total}
use Rattle.oss_words.specs.Views.{Among}
use Rattle.oss_roles.specs.Counting.{needed}
use Rattle.oss_roles.specs.Roles.{Site}
use Rattle.oss_field.specs.declared.held.Held.{Held}
use Rattle.oss_field.specs.declared.view.SeatView.{SeatView}
use Rattle.oss_field.specs.Heard.{Told, Lowered}
use Rattle.oss_field.specs.Known.{Holding, Known, last_of}
use Rattle.oss_field.specs.Marks.{has_last}
use Rattle.oss_field.specs.Layout.{count_word_of, info_word_of, state_word_of}
use Rattle.oss_field.specs.Moves.{touched}
use Rattle.oss_field.specs.Owning.{HasEntry, entry_of}

-- What seats were told is so: the entry hangs, and its info word says this.
pub record AreHeard (net : Net) (infos : ℕ → EntryInfo) (views : List SeatView) : Type 0 where
  pub told : (id : ℕ) (v : SeatView) → get_elem? views id ≡ maybe.some v → (t : Told) → Among t v.known.told → (net.place t.entry ≢ apart) × (infos t.entry ≡ t.info)

-- The order of delivery: the deepest first, and of one depth the least flag.
abbrev pub rank : Held → ℕ
rank h = 8 * (info_at h.info).depth + (7 - h.flag)

-- None of the first n of the list comes before the one at this place.
abbrev pub NoneBefore : List Held → ℕ → ℕ → Type 0
NoneBefore held n best = (k : ℕ) (d : Held) → k < n → rank (slice_index_or held k d) ≤ rank (slice_index_or held best d)

abbrev pub message_of : Held → Message
message_of h = record { entry = h.entry; flag = h.flag }

-- What is left of a list without a message, once.
abbrev pub without : Message → List Message → List Message
without m [] = []
without m (x ∷ xs) = cond ((x.entry == m.entry) && (x.flag == m.flag)) xs (x ∷ without m xs)

-- The message m, of whose entry the info is i, comes before b, or is b: its entry is deeper, or as deep and its flag no greater.
pub data Later (k : Known) (m : Message) (i : EntryInfo) (b : Message) : Type 0 where
  later : (j : EntryInfo) → Among (record { entry = b.entry; info = j }) k.told → (j.depth < i.depth) ⊎ ((j.depth ≡ i.depth) × (m.flag ≤ b.flag)) → Later k m i b

-- The seat holds the message, and none that it holds comes before it.
pub record IsFirst (k : Known) (m : Message) : Type 0 where
  pub held : Has m k.words.held
  pub info : EntryInfo
  pub told : Among (record { entry = m.entry; info = info }) k.told
  pub later : (b : Message) → Has b k.words.held → Later k m info b

-- The join of this entry comes first; and no join comes first.
abbrev pub JoinFirst : Known → ℕ → Type 0
JoinFirst k e = IsFirst k (record { entry = e; flag = 0 })

abbrev pub NoJoinFirst : Known → Type 0
NoJoinFirst k = (m : Message) → IsFirst k m → m.flag ≢ 0

-- What a seat was told of an entry is one info, however often it was told.
abbrev pub OneInfo : Known → Type 0
OneInfo k = (e : ℕ) (i j : EntryInfo) → Among (record { entry = e; info = i }) k.told → Among (record { entry = e; info = j }) k.told → i ≡ j

-- The count of the entry's task waits for this flag.
abbrev pub is_due : EntryInfo → ℕ → Bool
is_due i f = i.strong && needed i.mode f

-- The counts that a seat owes once it has set the flag.
abbrev pub owes_after : EntryInfo → ℕ → List ℕ → List ℕ
owes_after i f owes = if is_due i f then i.task ∷ owes else owes

-- The last count that it lowered, once it has paid, if the count was this.
abbrev pub lowered_after : EntryInfo → ℕ → ℕ → Lowered → Lowered
lowered_after i f count old = if is_due i f then record { task = i.task; found = count } else old

-- The task whose count became 0.
abbrev pub freed : EntryInfo → ℕ → ℕ → Option ℕ
freed i f count = if is_due i f && (count == 1) then Some i.task else None

-- The info word n of the entry e was read, in a field of m cells.
abbrev pub informed : ℕ → ℕ → ℕ → Known → Known
informed m e n k = touched (info_word_of m e) n (record k { told = record { entry = e; info = info_at n } ∷ k.told })

-- The flag of the message was set, of an entry with the info word i, in a state word that was n: what that completes is held.
abbrev pub passed : ℕ → Message → ℕ → ℕ → Known → Known
passed m a i n k = touched (state_word_of m a.entry) n (record k {
  words = record k.words { held = without a k.words.held ++ sent a.entry (state_at n) (state_at (n + weight a.flag)) (info_at i); delivered = 1 + k.words.delivered };
  owes = owes_after (info_at i) a.flag k.owes;
  last = record { entry = a.entry; state = n + weight a.flag; info = i };
})

-- The count of the task t was lowered, which was n.
abbrev pub lowered_by : ℕ → ℕ → ℕ → Known → Known
lowered_by m t n k = touched (count_word_of m t) n (record k { owes = []; lowered = record { task = t; found = n } })

-- All that a delivery makes of what a seat knows, but for what it reads: the message a, of an entry with the info word i, a state word that was n, and a count that was c.
abbrev pub delivered : Message → ℕ → ℕ → ℕ → Known → Known
delivered a i n c k = record k {
  words = record k.words { held = without a k.words.held ++ sent a.entry (state_at n) (state_at (n + weight a.flag)) (info_at i); delivered = 1 + k.words.delivered };
  last = record { entry = a.entry; state = n + weight a.flag; info = i };
  lowered = lowered_after (info_at i) a.flag c k.lowered;
}

-- The seat has read info words, and knows nothing else that is new.
pub record Learns (a b : Known) : Type 0 where
  pub same : b ≡ record a { told = b.told; word = b.word; found = b.found }
  pub told : (t : Told) → Among t a.told → Among t b.told
  pub one : OneInfo a → OneInfo b

-- What a seat holds fits into its room, and names entries of the table.
pub record Bounded (n : ℕ) (k : Known) : Type 0 where
  pub room : length k.words.held ≤ 390
  pub names : (m : Message) → Has m k.words.held → (m.entry < n) × (m.flag ≤ 5)

-- The messages that are ready are these, but for those that are not yet: of each that is ready the seat was told the info.
pub record Ready (held : List Held) (rest : List Message) (k : Known) : Type 0 where
  pub same : (h : Message → ℕ) → total h (map message_of held) + total h rest ≡ total h k.words.held
  pub told : (x : Held) → Among x held → Among (record { entry = x.entry; info = info_at x.info }) k.told

-- What holds of a seat of a table of n entries between two calls: each message that it holds is ready, and nothing is left half done.
pub record Settled (held : List Held) (n : ℕ) (k : Known) : Type 0 where
  pub ready : Ready held [] k
  pub bounded : Bounded n k
  pub whole : k.words.half ≡ []
  pub unjoined : k.joined ≡ []
  pub unowed : k.owes ≡ []
  pub one : OneInfo k

-- Of its messages the seat knows what it knew.
pub record SameMessages (a b : Known) : Type 0 where
  pub held : b.words.held ≡ a.words.held
  pub half : b.words.half ≡ a.words.half
  pub told : b.told ≡ a.told
  pub joined : b.joined ≡ a.joined
  pub owes : b.owes ≡ a.owes
  pub last : b.last ≡ a.last

-- What a seat needs to know of an entry to read its info word: it was told of it, holds a message to it, or holds the job of a task of which it is an entry, or the last child on a site; or it keeps that it is the last child of another.
pub data Hangs (k : Known) (e : ℕ) : Type 0 where
  by_told : (i : EntryInfo) → Among (record { entry = e; info = i }) k.told → Hangs k e
  by_message : (m : Message) → Has m k.words.held → m.entry ≡ e → Hangs k e
  by_entry : (i : ℕ) (h : Holding) → get_elem? k.bears i ≡ maybe.some h → h.number ≢ 0 → (cell : Option ℕ) → HasEntry h cell → entry_of h cell ≡ e → Hangs k e
  by_last : (i : ℕ) (h : Holding) → get_elem? k.bears i ≡ maybe.some h → (y : Site) → last_of h y ≡ Some e → Hangs k e
  by_mark : (f : ℕ) → Among (record { entry = f; fact = has_last e }) k.marks → Hangs k e

-- What the read of an info word tells: if the seat was told of the entry before, it was told the same.
pub record Informs (m e n : ℕ) (k l : Known) : Type 0 where
  pub known : l ≡ informed m e n k
  pub again : (j : EntryInfo) → Among (record { entry = e; info = j }) k.told → info_at n ≡ j

-- To set the flag of a message whose entry has this info word, in a field of n entries: it comes before all others, and nothing is left half done.
pub record MayDeliver (n : ℕ) (k : Known) (m : Message) (i : ℕ) : Type 0 where
  pub held : Has m k.words.held
  pub flag : 1 ≤ m.flag
  pub told : Among (record { entry = m.entry; info = info_at i }) k.told
  pub later : (b : Message) → Has b k.words.held → Later k m (info_at i) b
  pub inside : m.entry < n
  pub whole : k.words.half ≡ []
  pub unjoined : k.joined ≡ []

-- What the step tells, which found this state word, in a field of n entries and m cells.
pub record Passes (n m : ℕ) (a : Message) (i found : ℕ) (k l : Known) : Type 0 where
  pub known : l ≡ passed m a i found k
  pub bounded : Bounded n l
  pub fits : found + weight a.flag < 18446744073709551616
  -- the task to whose count a count down is owed is one of the table
  pub task : is_due (info_at i) a.flag ≡ true → (info_at i).task < n
  -- all seats together deliver at most six messages for each entry
  pub work : l.words.delivered ≤ 6 * n

-- What the step tells by which a count is lowered that is owed.
pub record Lowers (m t found : ℕ) (k l : Known) : Type 0 where
  pub known : l ≡ lowered_by m t found k
  pub some : 0 < found

-- What a seat does once it has set the flag f of an entry with the info word i: it pays what it owes, and the task is told whose count became 0 by that, if one did.
pub record IsPaid (i f : ℕ) (k l : Known) (result : Option ℕ) : Type 0 where
  pub count : ℕ
  pub known : l ≡ record k { owes = []; lowered = lowered_after (info_at i) f count k.lowered; word = l.word; found = l.found }
  pub freed_is : result ≡ freed (info_at i) f count

-- After a delivery: the message that came first was delivered. Its step found this state word of its entry, whose info word is this. If a count waits for the flag, it was lowered; what it
-- was then the seat keeps. What is told is the task whose count became 0 by that, if one did.
pub record Delivered (a b : Known) (result : Option ℕ) : Type 0 where
  pub message : Message
  pub first : IsFirst a message
  pub info : ℕ
  pub told : Among (record { entry = message.entry; info = info_at info }) a.told
  pub one : OneInfo a
  pub found : ℕ
  pub count : ℕ
  pub known : b ≡ record (delivered message info found count a) { told = b.told; word = b.word; found = b.found }
  pub kept : (t : Told) → Among t a.told → Among t b.told
  pub freed_is : result ≡ freed (info_at info) message.flag count
