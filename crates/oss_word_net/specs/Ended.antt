-- What the words of a net tell at its end, if it had one seat, which holds nothing.
-- Read against: a net of 3 entries whose one seat drew 1 and 2, linked 1 as a write below main and 2 behind it, gave up 1, and delivered what that
-- sent. Its words are 3, 0, 0, the two of 1 and the two of 2: place 1 is top and place 2 after 1, gave says 1, and the words of 2 tell that it may
-- be read and written.
use Rattle.std.specs.Prelude.{◌≡◌, ◌≢◌, ◌+◌, ◌*◌, ℕ, Bool, true, List, [], ◌∷◌, length, slice_index}
use Rattle.oss_words.specs.Bits.{state_word}
use Rattle.oss_words.specs.Net.{Net, Place, apart}
use Rattle.oss_words.specs.Rule.{Kept}
use Rattle.oss_words.specs.Steps.{no_flags}
use Rattle.oss_words.specs.Views.{Among}
use Rattle.oss_word_net.specs.Known.{Known, Told}
use Rattle.oss_word_net.specs.Table.{Neat, states_of, infos_of}

-- The words of n entries are kept, and the links and gives are those that the seat has made.
pub record Ended (n : ℕ) (ws : List ℕ) (k : Known) : Type 0 where
  pub net : Net
  pub gave : ℕ → Bool
  pub size : length ws ≡ 1 + 2 * n
  -- the seat holds no message, and is not between two steps of a give
  pub held : k.view.held ≡ []
  pub half : k.view.half ≡ []
  pub kept : Kept n net gave (states_of ws) (infos_of ws) (k.view ∷ [])
  pub links : (e : ℕ) → net.place e ≢ apart → Among (record { entry = e; place = net.place e }) k.view.links
  pub linked : (e : ℕ) (p : Place) → Among (record { entry = e; place = p }) k.view.links → (net.place e ≡ p) × (p ≢ apart)
  pub gives : (e : ℕ) → gave e ≡ true → Among e k.view.gives
  pub given : (e : ℕ) → Among e k.view.gives → gave e ≡ true
  pub told : (t : Told) → Among t k.told → infos_of ws t.entry ≡ t.info
  -- each state word has the bits of its state, whose links are 0 where they are not set; what hangs nowhere has none
  pub whole : (e : ℕ) → slice_index ws (1 + 2 * e) ≡ state_word (states_of ws e)
  pub neat : (e : ℕ) → Neat (states_of ws e)
  pub blank : (e : ℕ) → net.place e ≡ apart → states_of ws e ≡ no_flags
