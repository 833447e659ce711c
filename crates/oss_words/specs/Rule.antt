-- The rule that holds between any two steps: of the words, and of the seats.
-- Read against: the net of `Views`. At each moment each of its parts holds: the three messages of the give of 1 are held or delivered, each
-- once; a flag on 2 stands only once 1 is done; what is held is for one list; and once nothing is held, 2 has all three flags.
use Rattle.std.specs.Prelude.{◌≡◌, ◌<◌, ℕ, Bool, List}
use Rattle.oss_words.specs.declared.entry.EntryState.{EntryState}
use Rattle.oss_words.specs.declared.entry.EntryInfo.{EntryInfo}
use Rattle.oss_words.specs.Net.{Net}
use Rattle.oss_words.specs.Flow.{Flow}
use Rattle.oss_words.specs.Modes.{Modes, Starts}
use Rattle.oss_words.specs.Truth.{Truth}
use Rattle.oss_words.specs.Seats.{Seats}
use Rattle.oss_words.specs.Views.{View}

-- Of the words: how messages flow and fit, what the words tell of modes and places, and that each flag that stands is true. Of the views it
-- reads `held` and `half` alone.
pub record Kept (n : ℕ) (net : Net) (gave : ℕ → Bool) (states : ℕ → EntryState) (infos : ℕ → EntryInfo) (views : List View) : Type 0 where
  pub flow : Flow n net states infos views
  pub modes : Modes n net states infos
  pub starts : Starts n net states infos views
  pub truth : Truth n net gave states
  pub given : (e : ℕ) → e < n → (states e).given ≡ gave e

-- The rule.
pub record Rule (n : ℕ) (net : Net) (gave : ℕ → Bool) (states : ℕ → EntryState) (infos : ℕ → EntryInfo) (draw : ℕ) (views : List View) : Type 0 where
  pub kept : Kept n net gave states infos views
  pub seats : Seats n net gave states draw views
