-- What each kind of step tells its caller: what its seat knows behind it, and what follows of it for the entries that it may touch next.
-- Read against: the deliveries of `Moves`. The first takes (2, 3) from a seat that holds three messages; behind it the seat holds two, has
-- delivered 1, and the entry of each is below the number of entries.
use Rattle.std.specs.Prelude.{◌≡◌, ◌<◌, ◌≤◌, ◌+◌, ◌*◌, ℕ, true, false, [], ◌∷◌, length}
use Rattle.atomic_table.specs.Table.{Step, Me}
use Rattle.oss_words.specs.declared.entry.EntryState.{EntryState}
use Rattle.oss_words.specs.declared.entry.EntryInfo.{EntryInfo}
use Rattle.oss_words.specs.declared.message.Message.{Message}
use Rattle.oss_words.specs.Bits.{state_at, info_at, weight}
use Rattle.oss_words.specs.Members.{Has}
use Rattle.oss_words.specs.Net.{Place, first, after}
use Rattle.oss_words.specs.Views.{Among}
use Rattle.oss_word_net.specs.declared.sight.Sight.{Sight}
use Rattle.oss_word_net.specs.Known.{Known, OneInfo, Family, Rests}
use Rattle.oss_word_net.specs.Moves.{informed, looked, drew, missed, passed, gave_up, half_gave, rose, filled_info, filled_state, began, linked_at}

-- The type of what a step tells.
abbrev pub Telling : Type 1
Telling = Step ℕ → Me ℕ Sight → ℕ → Me ℕ Sight → Type 0

-- What every seat holds fits into its room, and names entries of the table.
pub record Bounded (k : Known) : Type 0 where
  pub room : length k.view.held ≤ 390
  pub names : (m : Message) → Has m k.view.held → (m.entry < k.entries) × (1 ≤ m.flag) × (m.flag ≤ 5)

-- The sum that a step wrote fits into a word, and tells of no value beside it.
abbrev pub Sums : ℕ → ℕ → Type 0
Sums n x = (n + x < 18446744073709551616) × ((state_at (n + x)).left ≡ false)

-- The info word of a linked entry was read. It says what the seat was told of it before.
abbrev pub Informs : Telling
Informs s v n w =
    (w.1 ≡ v.1) × ((e : ℕ) → s.word ≡ 2 + 2 * e → w.0.known ≡ informed e n v.0.known)
    × ((e : ℕ) → s.word ≡ 2 + 2 * e → (j : EntryInfo) → Among (record { entry = e; info = j }) v.0.known.told → info_at n ≡ j)

-- A state word was read. Its links lead to entries of the table, and what the seat was told of an entry is its info.
abbrev pub Looks : Telling
Looks s v n w =
    (w.1 ≡ v.1) × ((e : ℕ) → s.word ≡ 1 + 2 * e → w.0.known ≡ looked e n v.0.known)
    × ((state_at n).linked ≡ true → (state_at n).next < v.0.known.entries) × ((state_at n).headed ≡ true → (state_at n).child < v.0.known.entries)
    × ((e : ℕ) → s.word ≡ 1 + 2 * e → Family v.0.known e (state_at n))
    × ((e : ℕ) → s.word ≡ 1 + 2 * e → v.0.known.view.parts ≡ 65537 → v.0.known.view.held ≡ [] → v.0.known.view.half ≡ [] → Rests v.0.known e (state_at n))
    × OneInfo v.0.known

-- Entries were drawn, or too few were left. What was found is above entry 0 and above what the seat owned and had linked.
abbrev pub Draws : Telling
Draws s v n w =
    (w.1 ≡ v.1) × (n < 2199023255552)
    × ((e : ℕ) → Among e v.0.known.view.owned → e < n) × (0 < n)
    × ((e : ℕ) (p : Place) → Among (record { entry = e; place = p }) v.0.known.view.links → e < n)
    × (n + s.first ≤ v.0.known.entries → w.0.known ≡ drew s.first n v.0.known)
    × (v.0.known.entries < n + s.first → w.0.known ≡ missed n v.0.known)

-- A message was delivered. All seats together deliver at most six for each entry.
abbrev pub Passes : Telling
Passes s v n w =
    (w.1 ≡ v.1) × Bounded w.0.known × Sums n s.first × (w.0.known.view.delivered ≤ 6 * v.0.known.entries)
    × ((m : Message) (i : EntryInfo) → 1 ≤ m.flag → m.flag ≤ 5 → s.word ≡ 1 + 2 * m.entry → s.first ≡ weight m.flag → Among (record { entry = m.entry; info = i }) v.0.known.told → w.0.known ≡ passed m i s.first n v.0.known)
    × OneInfo v.0.known

-- An entry with no child was given up.
abbrev pub Gives : Telling
Gives s v n w = (w.1 ≡ v.1) × Bounded w.0.known × Sums n s.first × ((e : ℕ) (i : EntryInfo) → s.word ≡ 1 + 2 * e → Among (record { entry = e; info = i }) v.0.known.told → w.0.known ≡ gave_up e i n v.0.known)

-- An entry with children was given up, and its last child is not linked to it yet.
abbrev pub Begins : Telling
Begins s v n w = (w.1 ≡ v.1) × ((e : ℕ) → s.word ≡ 1 + 2 * e → w.0.known ≡ half_gave e n v.0.known)

-- Its last child was linked to it.
abbrev pub Rises : Telling
Rises s v n w =
    (w.1 ≡ v.1) × Bounded w.0.known × Sums n s.first
    × ((e l : ℕ) (i : EntryInfo) → s.word ≡ 1 + 2 * l → s.first ≡ 64 + 65536 * e → Among (record { entry = l; info = i }) v.0.known.told → w.0.known ≡ rose e l i n v.0.known)

-- The info word of a new entry was written, and its state word.
abbrev pub FillsInfo : Telling
FillsInfo s v n w = (w.1 ≡ v.1) × ((e : ℕ) → s.word ≡ 2 + 2 * e → w.0.known ≡ filled_info e s.first v.0.known)

abbrev pub FillsState : Telling
FillsState s v n w = (w.1 ≡ v.1) × ((e : ℕ) (i : EntryInfo) (c : EntryState) → s.word ≡ 1 + 2 * e → v.0.known.filling ≡ record { entry = e; state = c; info = i } ∷ [] → w.0.known ≡ filled_state e s.first i v.0.known)

-- The state word of a new entry was written, and by that it begins a list of main.
abbrev pub Opens : Telling
Opens s v n w = (w.1 ≡ v.1) × ((e : ℕ) (i : EntryInfo) (c : EntryState) → s.word ≡ 1 + 2 * e → v.0.known.filling ≡ record { entry = e; state = c; info = i } ∷ [] → w.0.known ≡ began e s.first i v.0.known)

-- A new entry was linked behind a sibling, and as the first child of its parent.
abbrev pub Follows : Telling
Follows s v n w =
    (w.1 ≡ v.1) × Bounded w.0.known × Sums n s.first
    × ((e o : ℕ) (i j : EntryInfo) (c : EntryState) → s.word ≡ 1 + 2 * o → v.0.known.filling ≡ record { entry = e; state = c; info = i } ∷ [] → Among (record { entry = o; info = j }) v.0.known.told → w.0.known ≡ linked_at e i (after o) o j s.first n v.0.known)

abbrev pub Heads : Telling
Heads s v n w =
    (w.1 ≡ v.1) × Bounded w.0.known × Sums n s.first
    × ((e o : ℕ) (i j : EntryInfo) (c : EntryState) → s.word ≡ 1 + 2 * o → v.0.known.filling ≡ record { entry = e; state = c; info = i } ∷ [] → Among (record { entry = o; info = j }) v.0.known.told → w.0.known ≡ linked_at e i (first o) o j s.first n v.0.known)
