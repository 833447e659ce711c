-- What is known of each seat: its view. The list of all views is the shared knowledge of a table; a step changes the view of its own
-- seat alone, but for the steps that split a seat or join one to another.
-- Read against: a net whose first seat made the entries 1 and 2 and linked 1 as the first of a list of main and 2 behind it. Its view
-- has owned 0, 1 and 2, the links (1, top) and (2, after 1), and holds nothing. It gives up 1: then gives has 1, and the view holds what
-- that completes, which is that 2 may read (flag 3), may write (flag 4) and has nothing before it (flag 5).
use Rattle.std.specs.Prelude.{◌≡◌, ℕ, List, [], ◌∷◌}
use mathlib.Core.Option as maybe
use lib.ListN.{get_elem?}
use Rattle.oss_words.specs.declared.message.Message.{Message}
use Rattle.oss_words.specs.declared.entry.EntryState.{EntryState}
use Rattle.oss_words.specs.Net.{Place}

-- A link that a seat has made: the entry, and where it hangs since then.
pub record Hung : Type 0 where
  pub entry : ℕ
  pub place : Place

-- What a seat has read of an entry.
pub record Seen : Type 0 where
  pub entry : ℕ
  pub state : EntryState

-- The view of a seat.
pub record View : Type 0 where
  -- the messages that it has sent and not delivered yet
  pub held : List Message
  -- no entry, or the one that it gave up while the last child is not linked to it yet
  pub half : List ℕ
  -- the entries that are its own
  pub owned : List ℕ
  -- the links and the gives that it has made
  pub links : List Hung
  pub gives : List ℕ
  pub seen : List Seen
  -- how many messages it has delivered
  pub delivered : ℕ
  -- what it has of the net: all of it is 65,537 parts; a seat that was joined to another has none
  pub parts : ℕ
  -- how often it was split
  pub splits : ℕ
  -- 1 where it was joined to another, or a draw of its own found too few entries; else 0
  pub failed : ℕ

-- It is in the list.
pub data Among {A : Type 0} (x : A) : List A → Type 0 where
  among_first : {y : A} {ys : List A} → y ≡ x → Among x (y ∷ ys)
  among_later : {y : A} {ys : List A} → Among x ys → Among x (y ∷ ys)

-- The seat of this number has this view.
abbrev pub At : List View → ℕ → View → Type 0
At views id v = get_elem? views id ≡ maybe.some v

-- Some seat has linked the entry there.
pub data Named (views : List View) (e : ℕ) (p : Place) : Type 0 where
  named : (id : ℕ) (v : View) → At views id v → Among (record { entry = e; place = p }) v.links → Named views e p

-- Some seat has given up the entry.
pub data Released (views : List View) (e : ℕ) : Type 0 where
  released : (id : ℕ) (v : View) → At views id v → Among e v.gives → Released views e

-- The view of the seat with which a net is made: it owns entry 0, which stands for main.
abbrev pub first_view : View
first_view = record { held = []; half = []; owned = 0 ∷ []; links = []; gives = []; seen = []; delivered = 0; parts = 65537; splits = 0; failed = 0 }
