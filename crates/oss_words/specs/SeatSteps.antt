-- What each kind of step does to the views beside what is held: what it notes, and how seats draw, split and join.
-- Read against: the first seat of a net has 65,537 parts and owns 0. It draws 3 where the draw word was 1: it owns 1, 2 and 3 too, and the
-- draw word is 4. It is split and hands over 3: it has 65,536 parts and was split once, and the new seat has one part, owns 3, and knows the
-- same links and gives. When that one is joined again, the first has 65,537 parts and owns 0 to 3; the view of the joined one is empty.
use Rattle.std.specs.Prelude.{◌≡◌, ◌≢◌, ◌⊎◌, ◌<◌, ◌≤◌, ◌+◌, ℕ, zero, suc, List, [], ◌∷◌, ◌++◌}
use Rattle.oss_words.specs.declared.entry.EntryState.{EntryState}
use Rattle.oss_words.specs.Net.{Net, Place}
use Rattle.oss_words.specs.Views.{View, Hung, Seen, Among}

-- Nothing of the view but what it holds is new.
pub record NotesNothing (v w : View) : Type 0 where
  pub owned : w.owned ≡ v.owned
  pub links : w.links ≡ v.links
  pub gives : w.gives ≡ v.gives
  pub seen : w.seen ≡ v.seen
  pub delivered : w.delivered ≡ v.delivered
  pub parts : w.parts ≡ v.parts
  pub splits : w.splits ≡ v.splits
  pub failed : w.failed ≡ v.failed

-- A delivery is counted.
pub record NotesDelivery (v w : View) : Type 0 where
  pub owned : w.owned ≡ v.owned
  pub links : w.links ≡ v.links
  pub gives : w.gives ≡ v.gives
  pub seen : w.seen ≡ v.seen
  pub delivered : w.delivered ≡ 1 + v.delivered
  pub parts : w.parts ≡ v.parts
  pub splits : w.splits ≡ v.splits
  pub failed : w.failed ≡ v.failed

-- The give of an entry of its own is noted.
pub record NotesGive (e : ℕ) (v w : View) : Type 0 where
  pub own : Among e v.owned
  pub owned : w.owned ≡ v.owned
  pub links : w.links ≡ v.links
  pub gives : w.gives ≡ e ∷ v.gives
  pub seen : w.seen ≡ v.seen
  pub delivered : w.delivered ≡ v.delivered
  pub parts : w.parts ≡ v.parts
  pub splits : w.splits ≡ v.splits
  pub failed : w.failed ≡ v.failed

-- The link of an entry of its own, below a parent of its own, is noted.
pub record NotesLink (net' : Net) (e : ℕ) (v w : View) : Type 0 where
  pub own : Among e v.owned
  pub own_parent : Among (net'.parent e) v.owned
  pub owned : w.owned ≡ v.owned
  pub links : w.links ≡ record { entry = e; place = net'.place e } ∷ v.links
  pub gives : w.gives ≡ v.gives
  pub seen : w.seen ≡ v.seen
  pub delivered : w.delivered ≡ v.delivered
  pub parts : w.parts ≡ v.parts
  pub splits : w.splits ≡ v.splits
  pub failed : w.failed ≡ v.failed

-- A word was read.
pub record Reads (states : ℕ → EntryState) (e : ℕ) (v w : View) : Type 0 where
  pub held : w.held ≡ v.held
  pub half : w.half ≡ v.half
  pub owned : w.owned ≡ v.owned
  pub links : w.links ≡ v.links
  pub gives : w.gives ≡ v.gives
  pub seen : w.seen ≡ record { entry = e; state = states e } ∷ v.seen
  pub delivered : w.delivered ≡ v.delivered
  pub parts : w.parts ≡ v.parts
  pub splits : w.splits ≡ v.splits
  pub failed : w.failed ≡ v.failed

-- The k numbers from a on.
abbrev pub numbers : ℕ → ℕ → List ℕ
numbers a zero = []
numbers a (suc k) = a ∷ numbers (suc a) k

-- What a draw of k entries finds: enough of them, or too few.
pub data Drawing (n draw k : ℕ) (v w : View) : Type 0 where
  enough : draw + k ≤ n → w.owned ≡ numbers draw k ++ v.owned → w.failed ≡ v.failed → Drawing n draw k v w
  too_few : n < draw + k → w.owned ≡ v.owned → w.failed ≡ 1 → Drawing n draw k v w

-- A draw of k entries, by a seat that was not joined and whose draws have all found enough.
pub record Draws (n draw draw' k : ℕ) (v w : View) : Type 0 where
  pub most : k ≤ 16777216
  pub may : v.failed ≡ 0
  pub live : 0 < v.parts
  pub adds : draw' ≡ draw + k
  pub found : Drawing n draw k v w
  pub held : w.held ≡ v.held
  pub half : w.half ≡ v.half
  pub links : w.links ≡ v.links
  pub gives : w.gives ≡ v.gives
  pub seen : w.seen ≡ v.seen
  pub delivered : w.delivered ≡ v.delivered
  pub parts : w.parts ≡ v.parts
  pub splits : w.splits ≡ v.splits

-- The first seat, whose view was v and is w, is split: the new one, with the view x, has a part of what the first owned.
pub record Splits (v w x : View) : Type 0 where
  pub more : 1 < v.parts
  pub held : w.held ≡ v.held
  pub half : w.half ≡ v.half
  pub stay : (e : ℕ) → Among e w.owned → Among e v.owned
  pub hand : (e : ℕ) → Among e x.owned → Among e v.owned
  pub apart_own : (e : ℕ) → Among e w.owned → Among e x.owned → ⊥
  pub links : w.links ≡ v.links
  pub gives : w.gives ≡ v.gives
  pub seen : w.seen ≡ v.seen
  pub delivered : w.delivered ≡ v.delivered
  pub parts : 1 + w.parts ≡ v.parts
  pub splits : w.splits ≡ 1 + v.splits
  pub failed : w.failed ≡ v.failed
  pub new_held : x.held ≡ []
  pub new_half : x.half ≡ []
  pub new_links : x.links ≡ v.links
  pub new_gives : x.gives ≡ v.gives
  pub new_seen : x.seen ≡ v.seen
  pub new_delivered : x.delivered ≡ 0
  pub new_parts : x.parts ≡ 1
  pub new_splits : x.splits ≡ 0
  pub new_failed : x.failed ≡ 0

-- The seat with the view x, which holds nothing, is joined to the one whose view was v and is w; y is what is left of x.
pub record Joins (v x w y : View) : Type 0 where
  pub live : 0 < v.parts
  pub held : w.held ≡ v.held
  pub half : w.half ≡ v.half
  pub empty : x.held ≡ []
  pub whole : x.half ≡ []
  pub owned : w.owned ≡ v.owned ++ x.owned
  pub links : w.links ≡ v.links ++ x.links
  pub gives : w.gives ≡ v.gives ++ x.gives
  pub seen : w.seen ≡ v.seen ++ x.seen
  pub delivered : w.delivered ≡ v.delivered + x.delivered
  pub parts : w.parts ≡ v.parts + x.parts
  pub splits : w.splits ≡ v.splits
  pub failed : w.failed ≡ v.failed
  pub spent : y ≡ record { held = []; half = []; owned = []; links = []; gives = []; seen = []; delivered = 0; parts = 0; splits = 0; failed = 1 }
