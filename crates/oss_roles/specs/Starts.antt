-- A field with which main alone begins.
-- Read against: a program of 2 cells and a field of 8 entries. Main's job stands in slot 0, its count is 0, no other count is filled, and the
-- cells are the first ones. What stands in info words, value words and cell words does not matter.
use Rattle.std.specs.Prelude.{◌≡◌, ◌≢◌, ◌<◌, ℕ, List, [], Some, None}
use Rattle.oss_words.specs.Steps.{no_flags}
use Rattle.oss_words.specs.Views.{first_view}
use Rattle.oss_roles.specs.Field.{Parts}
use Rattle.oss_roles.specs.Sights.{Sight}

-- The words and slots of n entries at the start, with this job of main, and these cells.
pub record IsFirst {J : Type 0} (n : ℕ) (k : Parts J) (j : J) (first : List ℕ) : Type 0 where
  pub states : (e : ℕ) → k.states e ≡ no_flags
  pub spent : k.counts 0 ≡ 0
  pub counts : (t : ℕ) → t ≢ 0 → t < n → k.counts t ≡ 18446744073709551615
  pub body : k.bodies 0 ≡ 1
  pub bodies : (e : ℕ) → e ≢ 0 → k.bodies e ≡ 0
  pub job : k.jobs 0 ≡ Some j
  pub jobs : (e : ℕ) → e ≢ 0 → k.jobs e ≡ None
  pub cells : k.cells ≡ first

-- The view of the first seat.
abbrev pub first_sight : {S : Type 0} → Sight S
first_sight = record {
  words = first_view;
  bears = [];
  makes = [];
  drawn = [];
  ready = [];
  loaded = [];
  joined = [];
  owes = [];
  seen = [];
  still = [];
}
