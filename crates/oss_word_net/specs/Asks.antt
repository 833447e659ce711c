-- What the steps ask of a seat, and what they leave.
-- Read against: the seat with which a net is made holds all 65,537 parts and owns entry 0. It may draw; it may link an entry that it drew
-- below main, and give that entry up; and with no message held each flag that it reads is exact.
use Rattle.std.specs.Prelude.{◌≡◌, ◌≢◌, ◌⊎◌, ◌<◌, ◌≤◌, ◌+◌, ◌*◌, ℕ, [], ◌∷◌}
use Rattle.atomic_table.specs.Seated.{TableId}
use Rattle.atomic_table.specs.declared.shared.Seat.{Seat}
use Rattle.oss_words.specs.declared.message.Message.{Message}
use Rattle.oss_words.specs.Members.{Has}
use Rattle.oss_words.specs.Net.{Place, first, after}
use Rattle.oss_words.specs.Steps.{no_flags}
use Rattle.oss_syntax.specs.declared.access.Mode.TheVariants.{Write}
use Rattle.oss_words.specs.declared.entry.EntryState.{EntryState}
use Rattle.oss_words.specs.declared.entry.EntryInfo.{EntryInfo}
use Rattle.oss_words.specs.Views.{Among}
use Rattle.oss_word_net.specs.declared.sight.Sight.{Sight}
use Rattle.oss_word_net.specs.Known.{Known, Kin}

-- What a seat needs to know of an entry to read its info: it has linked it, was told of it, or holds a message to it.
pub data Hangs (k : Known) (e : ℕ) : Type 0 where
  by_link : (p : Place) → Among (record { entry = e; place = p }) k.view.links → Hangs k e
  by_told : (i : EntryInfo) → Among (record { entry = e; info = i }) k.told → Hangs k e
  by_message : (m : Message) → Has m k.view.held → m.entry ≡ e → Hangs k e

-- The seat is one of this table of n entries, and has taken no slot of it.
pub record On (d : TableId) (n : ℕ) (s : Seat ℕ Sight) : Type 0 where
  pub table : s.table_id ≡ d
  pub words : d.words ≡ 1 + 2 * n
  pub bare : s.me.1 ≡ []

-- It is the same seat.
pub record Stays (s t : Seat ℕ Sight) : Type 0 where
  pub table : t.table_id ≡ s.table_id
  pub id : t.id ≡ s.id
  pub bare : t.me.1 ≡ s.me.1

-- To fill the info word of an entry: it is its own, hangs nowhere, and no other is being filled.
pub record MayFill (k : Known) (e : ℕ) : Type 0 where
  pub own : Among e k.view.owned
  pub unlinked : (p : Place) → Among (record { entry = e; place = p }) k.view.links → ⊥
  pub idle : k.filling ≡ []
  pub live : k.view.parts ≢ 0

-- To write the state word of the entry that it fills.
pub record MayStart (k : Known) (e : ℕ) (i : EntryInfo) : Type 0 where
  pub filling : k.filling ≡ record { entry = e; state = no_flags; info = i } ∷ []
  pub live : k.view.parts ≢ 0

-- To link the entry that it fills: the parent is its own, is not given up, and covers the mode.
pub record MayLink (n : ℕ) (k : Known) (e : ℕ) (c : EntryState) (i : EntryInfo) : Type 0 where
  pub filling : k.filling ≡ record { entry = e; state = c; info = i } ∷ []
  pub empty : k.view.held ≡ []
  pub whole : k.view.half ≡ []
  pub own_parent : Among i.parent k.view.owned
  pub ungiven : Among i.parent k.view.gives → ⊥
  pub above : i.parent < e
  pub shallow : i.depth ≤ 64
  pub covers : i.parent ≢ 0 → (j : EntryInfo) × Among (record { entry = i.parent; info = j }) k.told × ((j.mode ≡ Write) ⊎ (j.mode ≡ i.mode))
  pub live : k.view.parts ≢ 0
  pub size : k.entries ≡ n

-- And to link it behind the entry o, which is the last of a list of the parent's.
pub record MayFollow (k : Known) (e : ℕ) (i : EntryInfo) (o : ℕ) (j : EntryInfo) : Type 0 where
  pub told : Among (record { entry = o; info = j }) k.told
  pub parent : j.parent ≡ i.parent
  pub depth : j.depth ≡ i.depth
  pub before : o < e
  pub last : (d : ℕ) → Among (record { entry = d; place = after o }) k.view.links → ⊥
  pub kin : i.parent ≢ 0 → Kin k.view.links i.parent o

-- And to link it as the first child of its parent.
pub record MayHead (k : Known) (i : EntryInfo) (j : EntryInfo) : Type 0 where
  pub told : Among (record { entry = i.parent; info = j }) k.told
  pub depth : i.depth ≡ 1 + j.depth
  pub childless : (d : ℕ) → Among (record { entry = d; place = first i.parent }) k.view.links → ⊥

-- To give up an entry: it is its own, is linked, and was not given up before.
pub record MayGive (n : ℕ) (k : Known) (e : ℕ) : Type 0 where
  pub empty : k.view.held ≡ []
  pub whole : k.view.half ≡ []
  pub own : Among e k.view.owned
  pub place : Place
  pub linked : Among (record { entry = e; place = place }) k.view.links
  pub ungiven : Among e k.view.gives → ⊥
  pub live : k.view.parts ≢ 0
  pub size : k.entries ≡ n

-- A message goes behind the one for m, whose entry has the info i: its entry is less deep, or as deep and its flag no lesser.
pub data Later (k : Known) (m : Message) (i : EntryInfo) (b : Message) : Type 0 where
  later : (j : EntryInfo) → Among (record { entry = b.entry; info = j }) k.told → (j.depth < i.depth) ⊎ ((j.depth ≡ i.depth) × (m.flag ≤ b.flag)) → Later k m i b
