-- What a net's calls ask of a seat, and what the seat knows behind them.
-- Read against: the seat of `Known` links 2 behind 1. It owns 0, 1 and 2, was told that 1 is of main and of depth 1, and has linked nothing
-- behind 1. Then it has the link (2, after 1), was told of 2, and holds what adding 131136 to the word 39 completes, which is nothing. When it
-- gives up 1, it has no child: 24 is added to 131175, and what that completes, by the info of 1 that it was told, is (2, 3), (2, 4) and (2, 5).
use Rattle.std.specs.Prelude.{◌≡◌, ◌≢◌, ◌⊎◌, ◌<◌, ◌≤◌, ◌+◌, ◌*◌, ℕ, [], ◌∷◌, ◌++◌}
use Rattle.oss_syntax.specs.declared.access.Mode.TheVariants.{Write}
use Rattle.oss_words.specs.declared.entry.EntryInfo.{EntryInfo}
use Rattle.oss_words.specs.declared.entry.After.{After}
use Rattle.oss_words.specs.declared.entry.After.TheVariants.{FirstOf, FirstOfMain, Sibling}
use Rattle.oss_words.specs.declared.message.Message.{Message}
use Rattle.oss_words.specs.Bits.{state_at, weight}
use Rattle.oss_words.specs.Causes.{sent}
use Rattle.oss_words.specs.Members.{Has}
use Rattle.oss_words.specs.Net.{Place, top, first, after}
use Rattle.oss_words.specs.Views.{Seen, Among}
use Rattle.oss_word_net.specs.Known.{Known, Told, Kin}
use Rattle.oss_word_net.specs.Moves.{next_mask, child_mask, without}

-- Where a link hangs an entry.
abbrev pub place_of : After → Place
place_of FirstOfMain = top
place_of (FirstOf p) = first p
place_of (Sibling o) = after o

-- The place at which an entry with this info may be linked: it begins a list of main; it is the first child of its parent; or it goes behind
-- the last of a list of the parent's.
abbrev pub MayStand : Known → ℕ → EntryInfo → After → Type 0
MayStand k e i FirstOfMain = (i.parent ≡ 0) × (i.depth ≡ 1)
MayStand k e i (FirstOf p) = (i.parent ≡ p) × (j : EntryInfo) × Among (record { entry = p; info = j }) k.told × (i.depth ≡ 1 + j.depth) × ((d : ℕ) → Among (record { entry = d; place = first p }) k.view.links → ⊥)
MayStand k e i (Sibling o) = (j : EntryInfo) × Among (record { entry = o; info = j }) k.told × (j.parent ≡ i.parent) × (j.depth ≡ i.depth) × (o < e) × ((d : ℕ) → Among (record { entry = d; place = after o }) k.view.links → ⊥) × (i.parent ≢ 0 → Kin k.view.links i.parent o)

-- A link: the seat holds nothing, and owns the entry, which is not linked, and the parent, which is not given up. The parent is main, or
-- linked and of a mode that covers the entry's. Numbers rise from parents to children, and no entry lies deeper than 64.
pub record MayHang (k : Known) (e : ℕ) (i : EntryInfo) (a : After) : Type 0 where
  pub empty : k.view.held ≡ []
  pub own : Among e k.view.owned
  pub unlinked : (p : Place) → Among (record { entry = e; place = p }) k.view.links → ⊥
  pub own_parent : Among i.parent k.view.owned
  pub ungiven : Among i.parent k.view.gives → ⊥
  pub above : i.parent < e
  pub shallow : i.depth ≤ 64
  pub task : i.task < 16777216
  pub covers : i.parent ≢ 0 → (j : EntryInfo) × Among (record { entry = i.parent; info = j }) k.told × ((j.mode ≡ Write) ⊎ (j.mode ≡ i.mode))
  pub stands : MayStand k e i a

-- A give: the seat holds nothing, and owns the entry, which is linked and not given up.
pub record MayRelease (k : Known) (e : ℕ) : Type 0 where
  pub empty : k.view.held ≡ []
  pub own : Among e k.view.owned
  pub linked : (p : Place) × Among (record { entry = e; place = p }) k.view.links
  pub ungiven : Among e k.view.gives → ⊥

-- What no call but those of entries and seats changes; and of what was read nothing is forgotten.
pub record Carries (a b : Known) : Type 0 where
  pub entries : b.entries ≡ a.entries
  pub owned : b.view.owned ≡ a.view.owned
  pub parts : b.view.parts ≡ a.view.parts
  pub splits : b.view.splits ≡ a.view.splits
  pub failed : b.view.failed ≡ a.view.failed
  pub told : (t : Told) → Among t a.told → Among t b.told
  pub seen : (s : Seen) → Among s a.view.seen → Among s b.view.seen

-- What a step on the state word of the entry e, whose info is i, completed by adding x: the seat, which knows k behind it, holds that and nothing else. It is worked out from the word
-- that this very step found, as the seat keeps it: no step of the call behind it has added to a state word.
pub record Completed (k : Known) (e : ℕ) (i : EntryInfo) (x : ℕ) : Type 0 where
  pub found : ℕ
  pub step : k.added ≡ record { entry = e; found = found; more = x }
  pub messages : k.view.held ≡ sent e (state_at found) (state_at (found + x)) i

-- What a link leaves held: nothing where it begins a list of main; else what the step on the parent or on the sibling completed. The seat knew k, and behind the link it knows b.
abbrev pub LinkSends : Known → Known → ℕ → EntryInfo → After → Type 0
LinkSends k b e i FirstOfMain = b.view.held ≡ []
LinkSends k b e i (FirstOf p) = (j : EntryInfo) × Among (record { entry = p; info = j }) k.told × Completed b p j (child_mask e j.mode i.mode)
LinkSends k b e i (Sibling o) = (j : EntryInfo) × Among (record { entry = o; info = j }) k.told × Completed b o j (next_mask e j.mode i.mode)

-- Behind a link.
pub record Hung (a b : Known) (e : ℕ) (i : EntryInfo) (p : After) : Type 0 where
  pub carries : Carries a b
  pub links : b.view.links ≡ record { entry = e; place = place_of p } ∷ a.view.links
  pub gives : b.view.gives ≡ a.view.gives
  pub delivered : b.view.delivered ≡ a.view.delivered
  pub told : Among (record { entry = e; info = i }) b.told
  pub sends : LinkSends a b e i p

-- What a give leaves held: with no child, what its step completed; else what the link of the last child to the entry did. The seat knew k, and
-- behind the give, by which it is told of the entry or of the child, it knows b.
pub data GiveSends (k b : Known) (e : ℕ) : Type 0 where
  with_none : (i : EntryInfo) → Among (record { entry = e; info = i }) b.told → ((j : ℕ) → Among (record { entry = j; place = first e }) k.view.links → ⊥) → Completed b e i 24 → GiveSends k b e
  with_last : (l : ℕ) (i : EntryInfo) → Among (record { entry = l; info = i }) b.told → Kin k.view.links e l → ((j : ℕ) → Among (record { entry = j; place = after l }) k.view.links → ⊥) → Completed b l i (64 + 65536 * e) → GiveSends k b e

-- Behind a give.
pub record Released (a b : Known) (e : ℕ) : Type 0 where
  pub carries : Carries a b
  pub links : b.view.links ≡ a.view.links
  pub gives : b.view.gives ≡ e ∷ a.view.gives
  pub delivered : b.view.delivered ≡ a.view.delivered
  pub sends : GiveSends a b e

-- The order of delivery: the entry of the first message is deeper than that of the second, or as deep and its flag no greater.
pub data Before (k : Known) (m b : Message) : Type 0 where
  deeper : (i j : EntryInfo) → Among (record { entry = m.entry; info = i }) k.told → Among (record { entry = b.entry; info = j }) k.told → (j.depth < i.depth) ⊎ ((j.depth ≡ i.depth) × (m.flag ≤ b.flag)) → Before k m b

-- Behind a delivery.
pub record Delivered (a b : Known) : Type 0 where
  pub carries : Carries a b
  pub links : b.view.links ≡ a.view.links
  pub gives : b.view.gives ≡ a.view.gives
  pub delivered : b.view.delivered ≡ 1 + a.view.delivered
  pub message : Message
  pub info : EntryInfo
  pub told : Among (record { entry = message.entry; info = info }) a.told
  pub found : ℕ
  -- the word that its step found, as the seat keeps it
  pub step : b.added ≡ record { entry = message.entry; found = found; more = weight message.flag }
  pub held : Has message a.view.held
  pub first : (m : Message) → Has m (without message a.view.held) → Before a message m
  pub sends : b.view.held ≡ without message a.view.held ++ sent message.entry (state_at found) (state_at (found + weight message.flag)) info
