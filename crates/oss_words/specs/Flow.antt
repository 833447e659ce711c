-- How messages flow: each cause that stands has its message delivered or held, once; links lead where the net says; and what a seat
-- holds fits into its room. The words are functions of the entry's number, so that tables of any layout can cite the laws.
-- Read against: the entries 1 and 2 of `Views`, after the give of 1. Due at 1 are three messages to 2 (3, 4 and 5), none has come to 2,
-- and the seat holds all three: 0 + 3 ≡ 3 for the weight that counts each as one. When the first of them is delivered, 1 + 2 ≡ 3.
use Rattle.std.specs.Prelude.{◌≡◌, ◌≢◌, ◌<◌, ◌+◌, ℕ, true, false, List, ◌∷◌}
use mathlib.Core.Option as maybe
use lib.ListN.{get_elem?}
use Rattle.oss_words.specs.declared.message.Message.{Message}
use Rattle.oss_words.specs.declared.entry.EntryState.{EntryState}
use Rattle.oss_words.specs.declared.entry.EntryInfo.{EntryInfo}
use Rattle.oss_words.specs.Sums.{total, below}
use Rattle.oss_words.specs.Net.{Net, Shaped, Place, apart, first, after}
use Rattle.oss_words.specs.Causes.{due, got, has_sibling, is_last}
use Rattle.oss_words.specs.Members.{Has}
use Rattle.oss_words.specs.Views.{View}
use Rattle.oss_words.specs.Room.{Room, Behind}

-- Each message was delivered or is held exactly as often as its cause stands.
abbrev pub Counted : ℕ → (ℕ → Place) → (ℕ → EntryState) → (ℕ → EntryInfo) → List View → Type 0
Counted n place states infos views = (h : Message → ℕ) →
    below (λ e. total h (got (place e) e (states e))) n + total (λ v. total h v.held) views ≡ below (λ e. total h (due e (states e) (infos e))) n

-- The links in a word name entries that hang there.
pub record Wired (net : Net) (e : ℕ) (c : EntryState) (i : EntryInfo) : Type 0 where
  pub sibling : has_sibling c i ≡ true → net.place c.next ≡ after e
  pub rising : is_last c i ≡ true → (net.last i.parent ≡ e) × (net.place i.parent ≢ apart) × (i.parent ≡ net.parent e)
  pub child : c.headed ≡ true → net.place c.child ≡ first e
  pub leaving : c.left ≡ true → net.place e ≢ apart

-- The entry x was given up, and its last child is not linked to it yet: no message that its seat holds stands before
-- the join of x.
pub record Half (n : ℕ) (net : Net) (states : ℕ → EntryState) (infos : ℕ → EntryInfo) (x : ℕ) (v : View) : Type 0 where
  pub inside : x < n
  pub inside_last : net.last x < n
  pub given : (states x).given ≡ true
  pub headed : (states x).headed ≡ true
  pub unlinked : (states (net.last x)).linked ≡ false
  pub child : net.parent (net.last x) ≡ x
  pub told : (infos (net.last x)).parent ≡ x
  pub hangs : net.place x ≢ apart
  pub hangs_last : net.place (net.last x) ≢ apart
  pub late : (b : Message) → Has b v.held → Behind net x 0 b

-- What the words and the views say of each other, but for the room.
pub record Words (n : ℕ) (net : Net) (states : ℕ → EntryState) (infos : ℕ → EntryInfo) (views : List View) : Type 0 where
  pub shaped : Shaped net
  pub wired : (e : ℕ) → e < n → Wired net e (states e) (infos e)
  -- a parent to which a last child leads stands in the table, has a first child, and is given up
  pub parents : (e : ℕ) → e < n → is_last (states e) (infos e) ≡ true → ((infos e).parent < n) × ((states (infos e).parent).headed ≡ true) × ((states (infos e).parent).given ≡ true)
  -- what a link leads to stands in the table
  pub nexts : (e : ℕ) → e < n → has_sibling (states e) (infos e) ≡ true → (states e).next < n
  pub firsts : (e : ℕ) → e < n → (states e).headed ≡ true → (states e).child < n
  -- what hangs is linked to, and its info word tells its parent
  pub hung_next : (s j : ℕ) → net.place j ≡ after s → (s < n) × ((states s).linked ≡ true)
  pub hung_first : (p j : ℕ) → net.place j ≡ first p → (p < n) × ((states p).headed ≡ true)
  pub told : (j : ℕ) → net.place j ≢ apart → (infos j).parent ≡ net.parent j
  pub inside : (j : ℕ) → net.place j ≢ apart → j < n
  -- done stands only with given
  pub finished : (e : ℕ) → e < n → (states e).done ≡ true → (states e).given ≡ true
  pub count : Counted n net.place states infos views
  pub halves : (id : ℕ) (v : View) → get_elem? views id ≡ maybe.some v → (x : ℕ) (xs : List ℕ) → v.half ≡ x ∷ xs → Half n net states infos x v
  -- of one seat at a time
  pub sole : (i j : ℕ) (y z : View) → get_elem? views i ≡ maybe.some y → get_elem? views j ≡ maybe.some z → (x : ℕ) (xs zs : List ℕ) → y.half ≡ x ∷ xs → z.half ≡ x ∷ zs → i ≡ j

-- What counts as held: the messages, and as a join the entry that was given up.
pub data Holding (v : View) (m : Message) : Type 0 where
  message : Has m v.held → Holding v m
  pending : (xs : List ℕ) → v.half ≡ m.entry ∷ xs → m.flag ≡ 0 → Holding v m

-- How messages flow.
pub record Flow (n : ℕ) (net : Net) (states : ℕ → EntryState) (infos : ℕ → EntryInfo) (views : List View) : Type 0 where
  pub words : Words n net states infos views
  pub room : (id : ℕ) (v : View) → get_elem? views id ≡ maybe.some v → Room net (Holding v)
