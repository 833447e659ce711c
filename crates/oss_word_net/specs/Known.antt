-- What a seat knows of its net: its view, the info words that it has read of linked entries, the entry that it is filling, and what its
-- last step touched.
-- Read against: a net of 8 entries whose first seat drew 1 and 2 and linked 1 as the first of a list of main. The view owns 0, 1 and 2 and
-- has the link of 1; told has 1 with its info; nothing is being filled. While 2 is linked behind 1, told has 1 once more, filling has 2
-- with the words that were written, and behind the link filling is empty and told has 2; added says that 131136 was added to the state word of 1,
-- which was 39.
use Rattle.std.specs.Prelude.{◌≡◌, ◌≢◌, ◌<◌, ℕ, Bool, true, false, List, []}
use Rattle.oss_words.specs.declared.entry.EntryState.{EntryState}
use Rattle.oss_words.specs.declared.entry.EntryInfo.{EntryInfo}
use Rattle.oss_words.specs.Net.{Place, apart, first, after}
use Rattle.oss_words.specs.Quiet.{Exact, forest_told}
use Rattle.oss_words.specs.Views.{View, Hung, Among, first_view}

-- An entry that is linked, and what its info word says.
pub record Told : Type 0 where
  pub entry : ℕ
  pub info : EntryInfo

-- An entry that is not linked yet, and what was written in its two words.
pub record Filling : Type 0 where
  pub entry : ℕ
  pub state : EntryState
  pub info : EntryInfo

-- A step by which something was added to the state word of an entry: what stood there in that step, and what was added.
pub record Added : Type 0 where
  pub entry : ℕ
  pub found : ℕ
  pub more : ℕ

pub record Known : Type 0 where
  -- how many entries the net has
  pub entries : ℕ
  pub view : View
  pub told : List Told
  -- none, or one
  pub filling : List Filling
  -- the number of the word that its last step touched, and what stood there then
  pub word : ℕ
  pub found : ℕ
  -- its last step that added to a state word; reads leave it as it is
  pub added : Added

-- What a seat was told of an entry is one info, however often it was told.
abbrev pub OneInfo : Known → Type 0
OneInfo k = (e : ℕ) (i j : EntryInfo) → Among (record { entry = e; info = i }) k.told → Among (record { entry = e; info = j }) k.told → i ≡ j

-- No step has added anything.
abbrev pub none_added : Added
none_added = record { entry = 0; found = 0; more = 0 }

-- What the seat knows with which a net of n entries is made.
abbrev pub first_known : ℕ → Known
first_known n = record { entries = n; view = first_view; told = []; filling = []; word = 0; found = 0; added = none_added }

-- The second entry is a child of the first, as the links tell that a seat has made.
pub data Kin (links : List Hung) (p : ℕ) : ℕ → Type 0 where
  eldest : {e : ℕ} → Among (record { entry = e; place = first p }) links → Kin links p e
  younger : {e d : ℕ} → Kin links p e → Among (record { entry = d; place = after e }) links → Kin links p d

-- What the state word of an entry tells a seat of the links that it has made: those below an entry of its own, and those behind a child of
-- an entry of its own that is not given up.
pub record Family (k : Known) (e : ℕ) (c : EntryState) : Type 0 where
  pub headed : Among e k.view.owned → c.headed ≡ true → Among (record { entry = c.child; place = first e }) k.view.links
  pub unheaded : Among e k.view.owned → c.headed ≡ false → (j : ℕ) → Among (record { entry = j; place = first e }) k.view.links → ⊥
  pub linked : (p : ℕ) → Kin k.view.links p e → Among p k.view.owned → (Among p k.view.gives → ⊥) → c.linked ≡ true → Among (record { entry = c.next; place = after e }) k.view.links × (e < c.next)
  pub unlinked : (p : ℕ) → Kin k.view.links p e → c.linked ≡ false → (j : ℕ) → Among (record { entry = j; place = after e }) k.view.links → ⊥

-- What a seat that holds all parts of a net knows of the flags of an entry: that each stands exactly where its condition holds, over the
-- links and the gives that it has made and the info words that it was told.
pub record Rests (k : Known) (e : ℕ) (c : EntryState) : Type 0 where
  pub place : ℕ → Place
  pub gave : ℕ → Bool
  pub info : ℕ → EntryInfo
  pub links : (j : ℕ) → place j ≢ apart → Among (record { entry = j; place = place j }) k.view.links
  pub linked : (j : ℕ) (p : Place) → Among (record { entry = j; place = p }) k.view.links → (place j ≡ p) × (p ≢ apart)
  pub gives : (j : ℕ) → gave j ≡ true → Among j k.view.gives
  pub given : (j : ℕ) → Among j k.view.gives → gave j ≡ true
  pub told : (t : Told) → Among t k.told → info t.entry ≡ t.info
  pub exact : place e ≢ apart → Exact (forest_told place gave info) e c
