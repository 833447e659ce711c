-- What the words of n entries over some rows tell.
-- Read against: the rows 1 to 7 of `Rows`, of which 2 is given up, in 10 entries. There are 21 words: the draw word, and two of each entry from 0 on; those
-- of 8 and 9 are 0. The net has 4
-- as the first child of 1 and 6 behind it. Since 2 is given up and has no child, and 7 is a write behind it, the state word of 7 has reads, writes and
-- clear.
use Rattle.std.specs.Prelude.{◌≡◌, ◌+◌, ◌*◌, ℕ, Bool, List, [], ◌∷◌, length, Option, Some, None, slice_index}
use Rattle.oss_words.specs.declared.entry.EntryInfo.{EntryInfo}
use Rattle.oss_words.specs.declared.entry.EntryState.{EntryState}
use Rattle.oss_words.specs.Bits.{info_at, state_at, state_word}
use Rattle.oss_words.specs.Net.{Net, Place, apart}
use Rattle.oss_words.specs.Rule.{Kept}
use Rattle.oss_words.specs.Steps.{no_flags}
use Rattle.oss_words.specs.Views.{View}
use Rattle.oss_word_net.specs.Calls.{place_of}
use Rattle.oss_word_net.specs.Table.{Neat}
use Rattle.oss_filing.specs.declared.row.Row.{Row}
use Rattle.oss_filing.specs.Rows.{given_in, row_of}

-- Where an entry hangs by its row.
abbrev pub place_in : Option Row → Place
place_in None = apart
place_in (Some r) = place_of r.after

-- The state of an entry and its info, as the words tell them.
abbrev pub state_in : List ℕ → ℕ → EntryState
state_in ws e = state_at (slice_index ws (1 + 2 * e))

abbrev pub info_in : List ℕ → ℕ → EntryInfo
info_in ws e = info_at (slice_index ws (2 + 2 * e))

-- The words of n entries, of which main has one and each row has one, keep their rule, for one view that holds nothing; each row is linked at its place, its
-- info stands there, and it is given up if the row is.
pub record IsFiled (n : ℕ) (rows : List Row) (ws : List ℕ) : Type 0 where
  pub net : Net
  pub gave : ℕ → Bool
  pub size : length ws ≡ 1 + 2 * n
  pub kept : (v : View) → v.held ≡ [] → v.half ≡ [] → Kept n net gave (state_in ws) (info_in ws) (v ∷ [])
  pub place : (e : ℕ) → net.place e ≡ place_in (row_of rows e)
  pub given : (e : ℕ) → gave e ≡ given_in (row_of rows e)
  pub told : (e : ℕ) (r : Row) → row_of rows e ≡ Some r → info_in ws e ≡ r.info
  -- each state word has the bits of its state, whose links are 0 where they are not set; what hangs nowhere has none
  pub whole : (e : ℕ) → slice_index ws (1 + 2 * e) ≡ state_word (state_in ws e)
  pub neat : (e : ℕ) → Neat (state_in ws e)
  pub blank : (e : ℕ) → row_of rows e ≡ None → state_in ws e ≡ no_flags
