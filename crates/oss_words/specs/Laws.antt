-- What each kind of step keeps, and what the rule gives, as claims that functions carry. A table of any layout cites them: it says by
-- functions of the entry's number where its words lie. A claim that a step keeps the rule says that it does so between any two steps of all
-- threads, since each step is one atomic operation on one word.
-- Read against: the net of `Views`. The first fill makes 1 hang, a link makes 2 hang behind it, a give of 1 sends three messages, and three
-- deliveries set the flags of 2; each of the six steps is a case of one claim here, and behind the last the words are at rest.
use Rattle.std.specs.Prelude.{◌≡◌, ◌≢◌, ◌<◌, ◌≤◌, ◌*◌, ℕ, Bool, true, false, List, [], ◌∷◌, ◌++◌, length, set}
use Rattle.oss_words.specs.declared.message.Message.{Message}
use Rattle.oss_words.specs.declared.entry.EntryState.{EntryState}
use Rattle.oss_words.specs.declared.entry.EntryInfo.{EntryInfo}
use Rattle.oss_words.specs.Sums.{total}
use Rattle.oss_words.specs.Members.{Has}
use Rattle.oss_words.specs.Net.{Net, Place, apart, first, after, bare}
use Rattle.oss_words.specs.Causes.{Unset}
use Rattle.oss_words.specs.Quiet.{Quiet, Tell, Exact, forest_told}
use Rattle.oss_words.specs.Rule.{Rule}
use Rattle.oss_words.specs.SeatSteps.{NotesNothing, NotesDelivery, NotesGive, NotesLink, Reads, Draws, Splits, Joins}
use Rattle.oss_words.specs.Steps.{Delivers, Gives, Begins, Rises, GivesUp, Links, Fills, Begun, no_flags}
use Rattle.oss_words.specs.Views.{View, Among, At, first_view}

-- Deliver: the first message that a seat holds is taken, its flag is set, and what that completes is held.
abbrev pub DeliveriesKeep : Type 0
DeliveriesKeep = (n draw : ℕ) (net : Net) (gave : ℕ → Bool) (states states' : ℕ → EntryState) (infos : ℕ → EntryInfo) (views : List View) (id : ℕ) (v w : View) (m : Message) (rest : List Message)
    → Rule n net gave states infos draw views → At views id v → Delivers net states states' infos m rest v w → NotesDelivery v w
    → Rule n net gave states' infos draw (set views id w)

-- Give, of an entry with no children: given and done are set in one step.
abbrev pub GivesKeep : Type 0
GivesKeep = (n draw : ℕ) (net : Net) (gave : ℕ → Bool) (states states' : ℕ → EntryState) (infos : ℕ → EntryInfo) (views : List View) (id : ℕ) (v w : View) (gave' : ℕ → Bool) (e : ℕ)
    → Rule n net gave states infos draw views → At views id v → e < n → net.place e ≢ apart → GivesUp gave gave' e → Gives states states' infos e v w → NotesGive e v w
    → Rule n net gave' states' infos draw (set views id w)

-- Give, of an entry with children, its first step: given is set, and the seat is between the two steps then.
abbrev pub BegunGivesKeep : Type 0
BegunGivesKeep = (n draw : ℕ) (net : Net) (gave : ℕ → Bool) (states states' : ℕ → EntryState) (infos : ℕ → EntryInfo) (views : List View) (id : ℕ) (v w : View) (gave' : ℕ → Bool) (e : ℕ)
    → Rule n net gave states infos draw views → At views id v → e < n → net.place e ≢ apart → (states e).headed ≡ true → (states e).given ≡ false → GivesUp gave gave' e → Begins states states' e v w → NotesGive e v w
    → Rule n net gave' states' infos draw (set views id w)

-- Its second step, a link of the last child to the entry that was given up.
abbrev pub LastLinksKeep : Type 0
LastLinksKeep = (n draw : ℕ) (net : Net) (gave : ℕ → Bool) (states states' : ℕ → EntryState) (infos : ℕ → EntryInfo) (views : List View) (id : ℕ) (v w : View) (e : ℕ)
    → Rule n net gave states infos draw views → At views id v → Rises net states states' infos e v w → NotesNothing v w
    → Rule n net gave states' infos draw (set views id w)

-- Link, of a new entry behind its last sibling, or as the first child of its parent.
abbrev pub LinksKeep : Type 0
LinksKeep = (n draw : ℕ) (net : Net) (gave : ℕ → Bool) (states states' : ℕ → EntryState) (infos : ℕ → EntryInfo) (views : List View) (id : ℕ) (v w : View) (net' : Net) (o e : ℕ)
    → Rule n net gave states infos draw views → At views id v → Links n net net' states states' infos o e v w → NotesLink net' e v w
    → Rule n net' gave states' infos draw (set views id w)

-- Fill: the state word or the info word of an entry that hangs nowhere is written.
abbrev pub FillsKeep : Type 0
FillsKeep = (n draw : ℕ) (net : Net) (gave : ℕ → Bool) (states states' : ℕ → EntryState) (infos infos' : ℕ → EntryInfo) (views : List View) (e : ℕ)
    → Rule n net gave states infos draw views → Fills n net states states' infos infos' e
    → Rule n net gave states' infos' draw views

-- The last fill of an entry that begins a list of main's children: by it the entry hangs.
abbrev pub FirstFillsKeep : Type 0
FirstFillsKeep = (n draw : ℕ) (net : Net) (gave : ℕ → Bool) (states states' : ℕ → EntryState) (infos : ℕ → EntryInfo) (views : List View) (id : ℕ) (v w : View) (infos' : ℕ → EntryInfo) (net' : Net) (e : ℕ)
    → Rule n net gave states infos draw views → At views id v → Fills n net states states' infos infos' e → Begun n net net' states' infos' e → w.held ≡ v.held → w.half ≡ v.half → NotesLink net' e v w
    → Rule n net' gave states' infos' draw (set views id w)

-- Read of a word, by a seat that was not joined to another.
abbrev pub ReadsKeep : Type 0
ReadsKeep = (n draw : ℕ) (net : Net) (gave : ℕ → Bool) (states : ℕ → EntryState) (infos : ℕ → EntryInfo) (views : List View) (id : ℕ) (v w : View) (e : ℕ)
    → Rule n net gave states infos draw views → At views id v → v.parts ≢ 0 → Reads states e v w
    → Rule n net gave states infos draw (set views id w)

-- Draw of new entries.
abbrev pub DrawsKeep : Type 0
DrawsKeep = (n draw draw' k : ℕ) (net : Net) (gave : ℕ → Bool) (states : ℕ → EntryState) (infos : ℕ → EntryInfo) (views : List View) (id : ℕ) (v w : View)
    → Rule n net gave states infos draw views → At views id v → Draws n draw draw' k v w
    → Rule n net gave states infos draw' (set views id w)

-- Split of the first seat, which hands some of its entries to the new one.
abbrev pub SplitsKeep : Type 0
SplitsKeep = (n draw : ℕ) (net : Net) (gave : ℕ → Bool) (states : ℕ → EntryState) (infos : ℕ → EntryInfo) (views : List View) (v w x : View)
    → Rule n net gave states infos draw views → At views 0 v → Splits v w x
    → Rule n net gave states infos draw (set views 0 w ++ x ∷ [])

-- Join of a seat that holds nothing to another one.
abbrev pub JoinsKeep : Type 0
JoinsKeep = (n draw : ℕ) (net : Net) (gave : ℕ → Bool) (states : ℕ → EntryState) (infos : ℕ → EntryInfo) (views : List View) (id j : ℕ) (v x w y : View)
    → Rule n net gave states infos draw views → id ≢ j → j ≢ 0 → At views id v → At views j x → Joins v x w y
    → Rule n net gave states infos draw (set (set views id w) j y)

-- The rule at the start: no word is written, entry 0 alone is drawn, and there is one seat.
abbrev pub BeginningsKeep : Type 0
BeginningsKeep = (n : ℕ) (infos : ℕ → EntryInfo)
    → 0 < n → n ≤ 16777216
    → Rule n bare (λ e. false) (λ e. no_flags) infos 1 (first_view ∷ [])

-- A seat never holds more than 390 messages.
abbrev pub RoomIsBounded : Type 0
RoomIsBounded = (n draw : ℕ) (net : Net) (gave : ℕ → Bool) (states : ℕ → EntryState) (infos : ℕ → EntryInfo) (views : List View) (id : ℕ) (v : View)
    → Rule n net gave states infos draw views → At views id v
    → length v.held ≤ 390

-- All seats together never deliver more than six messages for each entry.
abbrev pub WorkIsBounded : Type 0
WorkIsBounded = (n draw : ℕ) (net : Net) (gave : ℕ → Bool) (states : ℕ → EntryState) (infos : ℕ → EntryInfo) (views : List View)
    → Rule n net gave states infos draw views
    → total (λ (v : View). v.delivered) views ≤ n * 6

-- A seat that has all parts, so that every seat that was split off has been joined, and that holds nothing, knows that the words are at rest.
abbrev pub WholeSeatsKnow : Type 0
WholeSeatsKnow = (n draw : ℕ) (net : Net) (gave : ℕ → Bool) (states : ℕ → EntryState) (infos : ℕ → EntryInfo) (views : List View) (id : ℕ) (v : View)
    → Rule n net gave states infos draw views → At views id v → v.parts ≡ 65537 → v.held ≡ [] → v.half ≡ []
    → Quiet views

-- The views name the links and gives that the rule speaks of.
abbrev pub ViewsTell : Type 0
ViewsTell = (n draw : ℕ) (net : Net) (gave : ℕ → Bool) (states : ℕ → EntryState) (infos : ℕ → EntryInfo) (views : List View)
    → Rule n net gave states infos draw views
    → Tell views net.place gave

-- At rest each flag of each linked entry stands exactly where its condition holds, over the links and gives that the views name.
abbrev pub RestIsExact : Type 0
RestIsExact = (n draw : ℕ) (net : Net) (gave : ℕ → Bool) (states : ℕ → EntryState) (infos : ℕ → EntryInfo) (views : List View) (place : ℕ → Place) (gives : ℕ → Bool) (e : ℕ)
    → Rule n net gave states infos draw views → Tell views place gives → Quiet views → place e ≢ apart
    → Exact (forest_told place gives infos) e (states e)

-- What a seat holds but a join has its flag not set yet, so setting it is a sum.
abbrev pub HeldIsUnset : Type 0
HeldIsUnset = (n draw : ℕ) (net : Net) (gave : ℕ → Bool) (states : ℕ → EntryState) (infos : ℕ → EntryInfo) (views : List View) (id : ℕ) (v : View) (m : Message)
    → Rule n net gave states infos draw views → At views id v → Has m v.held
    → Unset (states m.entry) m.flag

-- What the owner of a parent knows of a list: where its view names no link behind an entry, nothing hangs behind it.
abbrev pub OwnersKnowLists : Type 0
OwnersKnowLists = (n draw : ℕ) (net : Net) (gave : ℕ → Bool) (states : ℕ → EntryState) (infos : ℕ → EntryInfo) (views : List View) (id : ℕ) (v : View) (o : ℕ)
    → Rule n net gave states infos draw views → At views id v → Among (net.parent o) v.owned → ((j : ℕ) → Among (record { entry = j; place = after o }) v.links → ⊥)
    → (j : ℕ) → net.place j ≢ after o

-- And of its own children: where its view names no first child, there is none.
abbrev pub OwnersKnowChildren : Type 0
OwnersKnowChildren = (n draw : ℕ) (net : Net) (gave : ℕ → Bool) (states : ℕ → EntryState) (infos : ℕ → EntryInfo) (views : List View) (id : ℕ) (v : View) (o : ℕ)
    → Rule n net gave states infos draw views → At views id v → Among o v.owned → ((j : ℕ) → Among (record { entry = j; place = first o }) v.links → ⊥)
    → (j : ℕ) → net.place j ≢ first o

-- And of gives: where its view names none, the entry is not given up.
abbrev pub OwnersKnowGives : Type 0
OwnersKnowGives = (n draw : ℕ) (net : Net) (gave : ℕ → Bool) (states : ℕ → EntryState) (infos : ℕ → EntryInfo) (views : List View) (id : ℕ) (v : View) (e : ℕ)
    → Rule n net gave states infos draw views → At views id v → Among e v.owned → (Among e v.gives → ⊥)
    → (states e).given ≡ false

-- What a link asks of the word in which it is set: the last of a list below an entry that is not given up has no next link.
abbrev pub LastsAreUnlinked : Type 0
LastsAreUnlinked = (n draw : ℕ) (net : Net) (gave : ℕ → Bool) (states : ℕ → EntryState) (infos : ℕ → EntryInfo) (views : List View) (o : ℕ)
    → Rule n net gave states infos draw views → net.place o ≢ apart → ((j : ℕ) → net.place j ≢ after o) → (states (net.parent o)).given ≡ false
    → (states o).linked ≡ false

-- An entry with no first child has no child link, and what is not given up is not done.
abbrev pub ChildlessAreUnheaded : Type 0
ChildlessAreUnheaded = (n draw : ℕ) (net : Net) (gave : ℕ → Bool) (states : ℕ → EntryState) (infos : ℕ → EntryInfo) (views : List View) (o : ℕ)
    → Rule n net gave states infos draw views → o < n → ((j : ℕ) → net.place j ≢ first o)
    → (states o).headed ≡ false

abbrev pub UngivenAreUndone : Type 0
UngivenAreUndone = (n draw : ℕ) (net : Net) (gave : ℕ → Bool) (states : ℕ → EntryState) (infos : ℕ → EntryInfo) (views : List View) (e : ℕ)
    → Rule n net gave states infos draw views → e < n → (states e).given ≡ false
    → (states e).done ≡ false
