-- Where the words of a net stand in its table, and what holds of them between any two steps of all seats.
-- Word 0 is the draw word; the state word of the entry e is word 1 + 2 * e, and its info word the one behind.
-- Read against: a net of 2 entries has five words. At first they are 1, 0, 0, 0 and 0: entry 0 is drawn. When the first seat has drawn 1 and
-- linked it as a write below main, a list of its own, they are 2, 0, 0, 39 and 257: 39 is reads, folds, writes and clear, and 257 a write
-- of depth 1.
use Rattle.std.specs.Prelude.{◌≡◌, ◌≢◌, ◌⊎◌, ◌≤◌, ◌+◌, ◌*◌, ℕ, Bool, false, List, [], ◌∷◌, map, length, slice_index}
use mathlib.Core.Option as maybe
use lib.ListN.{get_elem?}
use Rattle.oss_words.specs.declared.entry.EntryState.{EntryState}
use Rattle.oss_words.specs.declared.entry.EntryInfo.{EntryInfo}
use Rattle.oss_words.specs.Bits.{state_at, state_word, info_at}
use Rattle.oss_words.specs.Net.{Net, apart}
use Rattle.oss_words.specs.Rule.{Rule}
use Rattle.oss_words.specs.Steps.{no_flags}
use Rattle.oss_words.specs.Views.{View, Among}
use Rattle.oss_word_net.specs.declared.sight.Sight.{Sight}
use Rattle.oss_word_net.specs.Known.{Known, Told, Filling}

-- The state of each entry, as its word tells it.
abbrev pub states_of : List ℕ → ℕ → EntryState
states_of ws e = state_at (slice_index ws (1 + 2 * e))

-- And its info.
abbrev pub infos_of : List ℕ → ℕ → EntryInfo
infos_of ws e = info_at (slice_index ws (2 + 2 * e))

-- The views of all seats.
abbrev pub views_of : List Sight → List View
views_of = map (λ s. s.known.view)

-- The seat of this number knows this.
abbrev pub Sits : List Sight → ℕ → Sight → Type 0
Sits sights id s = get_elem? sights id ≡ maybe.some s

-- A state whose links are 0 where they are not set.
pub record Neat (c : EntryState) : Type 0 where
  pub next : c.linked ≡ false → (c.next ≡ 0) × (c.next_folds ≡ false) × (c.next_same ≡ false)
  pub child : c.headed ≡ false → (c.child ≡ 0) × (c.child_folds ≡ false) × (c.child_same ≡ false)
  -- there are no values beside the words of a net
  pub left : c.left ≡ false

-- What a seat knows is so.
pub record Knows (n : ℕ) (net : Net) (states : ℕ → EntryState) (infos : ℕ → EntryInfo) (k : Known) : Type 0 where
  pub told : (t : Told) → Among t k.told → (net.place t.entry ≢ apart) × (infos t.entry ≡ t.info)
  pub filling : (f : Filling) (fs : List Filling) → k.filling ≡ f ∷ fs → (net.place f.entry ≡ apart) × Among f.entry k.view.owned × (states f.entry ≡ f.state) × (infos f.entry ≡ f.info)
  pub entries : k.view.parts ≢ 0 → k.entries ≡ n
  -- a seat that was joined to another knows nothing
  pub spent : k.view.parts ≡ 0 → (k.view.links ≡ []) × (k.view.gives ≡ []) × (k.filling ≡ [])

-- Some seat is filling the entry.
pub data Filled (sights : List Sight) (e : ℕ) : Type 0 where
  filled : (id : ℕ) (s : Sight) → Sits sights id s → (f : Filling) (fs : List Filling) → s.known.filling ≡ f ∷ fs → f.entry ≡ e → Filled sights e

-- The rule of the table.
pub record Stands (n : ℕ) (ws : List ℕ) (sights : List Sight) : Type 0 where
  pub net : Net
  pub gave : ℕ → Bool
  pub size : length ws ≡ 1 + 2 * n
  pub rule : Rule n net gave (states_of ws) (infos_of ws) (slice_index ws 0) (views_of sights)
  -- a state word has no bit beside those that its state tells
  pub whole : (e : ℕ) → slice_index ws (1 + 2 * e) ≡ state_word (states_of ws e)
  pub neat : (e : ℕ) → Neat (states_of ws e)
  pub knows : (id : ℕ) (s : Sight) → Sits sights id s → Knows n net (states_of ws) (infos_of ws) s.known
  -- the first seat was split at most 65,536 times, and each split took one part
  pub first : (s : Sight) → Sits sights 0 s → (s.known.view.splits ≤ 65536) × (65537 ≤ s.known.view.parts + s.known.view.splits)
  -- what hangs nowhere has no flag, unless a seat is filling it
  pub blank : (e : ℕ) → net.place e ≡ apart → (states_of ws e ≡ no_flags) ⊎ Filled sights e
