-- What one seat may hold at a time, so that its room is never spent: of each depth one list, and of each flag
-- one message.
-- Read against: in the net of `Net`, a seat delivers (2, 5) of depth 1 after (4, 3) and (4, 5) of depth 2: all three may be held at once, since
-- 4 lies below 1, which is of the list of 2. (2, 5) and (5, 3) may not, since 5 is of another list of the same depth; and done for 1, which
-- is (1, 1), goes after (4, 3) and before (2, 2), which is for the entry right behind 1.
use Rattle.std.specs.Prelude.{◌≡◌, ◌⊎◌, ◌<◌, ◌≤◌, ◌+◌, ℕ}
use Rattle.oss_words.specs.declared.message.Message.{Message}
use Rattle.oss_words.specs.Net.{Net, first, after}

-- The list of the first entry is that of the second, or of one that the second lies below.
pub data Meets (net : Net) (a : ℕ) : ℕ → Type 0 where
  here : {b : ℕ} → net.lead a ≡ net.lead b → Meets net a b
  over : {b : ℕ} → net.depth b ≡ 1 + net.depth (net.parent b) → Meets net a (net.parent b) → Meets net a b

-- The second entry lies below the first.
pub data Under (net : Net) (q : ℕ) : ℕ → Type 0 where
  child : {b : ℕ} → net.depth b ≡ 1 + net.depth q → net.parent b ≡ q → Under net q b
  lower : {b : ℕ} → net.depth b ≡ 1 + net.depth (net.parent b) → Under net q (net.parent b) → Under net q b

-- What is so of two messages that one seat holds. A join counts as held until its entry is given up and the last
-- child is linked.
pub record Fits (net : Net) (a b : Message) : Type 0 where
  -- the deeper one lies below an entry of the other's list
  pub path : net.depth a.entry ≤ net.depth b.entry → Meets net a.entry b.entry
  -- what is deeper than a join or a done lies below its entry
  pub above : a.flag ≤ 1 → net.depth a.entry < net.depth b.entry → Under net a.entry b.entry
  -- what is deeper than a fold's flag lies below the entry before it
  pub across : a.flag ≡ 2 → net.depth a.entry < net.depth b.entry → (v : ℕ) × (net.place a.entry ≡ after v) × Under net v b.entry
  -- a fold's flag at the depth of a join or of a done is for the next entry
  pub joint : a.flag ≤ 1 → b.flag ≡ 2 → net.depth a.entry ≡ net.depth b.entry → net.place b.entry ≡ after a.entry
  -- a join and a done never meet at one depth
  pub never : a.flag ≡ 1 → b.flag ≡ 0 → net.depth a.entry ≡ net.depth b.entry → ⊥
  -- of one depth and flag there is one message
  pub alike : a.flag ≡ b.flag → net.depth a.entry ≡ net.depth b.entry → a.entry ≡ b.entry

-- All that is held fits together.
abbrev pub Room : Net → (Message → Type 0) → Type 0
Room net Held = (a b : Message) → Held a → Held b → Fits net a b

-- The message stands behind the one for t of flag c in the order of delivery.
abbrev pub Behind : Net → ℕ → ℕ → Message → Type 0
Behind net t c b = (net.depth b.entry < net.depth t) ⊎ ((net.depth b.entry ≡ net.depth t) × (c < b.flag))

-- What may be sent when a flag is set on the entry t: c is the flag, 0 where a join was folded and the entry given
-- up; 6 is a step of the owner, who held nothing: a link, a give, or leaving a fold.
pub data Sends (net : Net) (t c : ℕ) (m : Message) : Type 0 where
  -- to the next sibling
  along : net.place m.entry ≡ after t → 2 ≤ m.flag → Sends net t c m
  -- to the first child
  down : net.place m.entry ≡ first t → 2 ≤ m.flag → 2 ≤ c → Sends net t c m
  -- done, to the parent
  up : m.entry ≡ net.parent t → m.flag ≡ 1 → Sends net t c m
  -- its own join
  self : m.entry ≡ t → m.flag ≡ 0 → (c ≡ 2) ⊎ (c ≡ 6) → Sends net t c m
  -- done, from the last child of a fold that was joined
  back : m.entry ≡ t → m.flag ≡ 1 → c ≡ 0 → Sends net t c m

-- One of the messages that a seat held, when it took the one for t of flag c.
pub record Left (net : Net) (t c : ℕ) (b : Message) : Type 0 where
  pub from : Fits net (record { entry = t; flag = c }) b
  pub to : Fits net b (record { entry = t; flag = c })
  pub late : Behind net t c b

-- What the words tell of a message that was sent and one that is left: of reads, writes and clear only one waits in a
-- list, and a join that waits and a done are never for one entry.
pub record Differ (net : Net) (a b : Message) : Type 0 where
  pub alone : 3 ≤ a.flag → a.flag ≡ b.flag → net.lead a.entry ≡ net.lead b.entry → ⊥
  pub opened : a.flag ≡ 1 → b.flag ≡ 0 → a.entry ≡ b.entry → ⊥
