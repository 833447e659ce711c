-- What each kind of step keeps of the words alone, for a table whose seats are told in another way: of the views these claims read what is
-- held, and who is between two steps of a give.
-- Read against: the steps of `Laws`, each a case of one claim here too.
use Rattle.std.specs.Prelude.{◌≡◌, ◌≢◌, ◌<◌, ℕ, Bool, true, false, List, [], ◌∷◌, ◌++◌, set}
use Rattle.oss_words.specs.declared.message.Message.{Message}
use Rattle.oss_words.specs.declared.entry.EntryState.{EntryState}
use Rattle.oss_words.specs.declared.entry.EntryInfo.{EntryInfo}
use Rattle.oss_words.specs.Net.{Net, apart}
use Rattle.oss_words.specs.Rule.{Kept}
use Rattle.oss_words.specs.Steps.{Delivers, Gives, Begins, Rises, Leaves, JoinsGives, JoinsBegins, GivesUp, Links, Fills, Begun}
use Rattle.oss_words.specs.Views.{View, At}

-- A delivery.
abbrev pub WordDeliveriesKeep : Type 0
WordDeliveriesKeep = (n : ℕ) (net : Net) (gave : ℕ → Bool) (states states' : ℕ → EntryState) (infos : ℕ → EntryInfo) (views : List View) (id : ℕ) (v w : View) (m : Message) (rest : List Message)
    → Kept n net gave states infos views → At views id v → Delivers net states states' infos m rest v w
    → Kept n net gave states' infos (set views id w)

-- A give of an entry with no children.
abbrev pub WordGivesKeep : Type 0
WordGivesKeep = (n : ℕ) (net : Net) (gave : ℕ → Bool) (states states' : ℕ → EntryState) (infos : ℕ → EntryInfo) (views : List View) (id : ℕ) (v w : View) (gave' : ℕ → Bool) (e : ℕ)
    → Kept n net gave states infos views → At views id v → e < n → net.place e ≢ apart → GivesUp gave gave' e → Gives states states' infos e v w
    → Kept n net gave' states' infos (set views id w)

-- The first step of a give of an entry with children.
abbrev pub WordBegunGivesKeep : Type 0
WordBegunGivesKeep = (n : ℕ) (net : Net) (gave : ℕ → Bool) (states states' : ℕ → EntryState) (infos : ℕ → EntryInfo) (views : List View) (id : ℕ) (v w : View) (gave' : ℕ → Bool) (e : ℕ)
    → Kept n net gave states infos views → At views id v → e < n → net.place e ≢ apart → (states e).headed ≡ true → (states e).given ≡ false → GivesUp gave gave' e → Begins states states' e v w
    → Kept n net gave' states' infos (set views id w)

-- The link of the last child to the entry that was given up.
abbrev pub WordLastLinksKeep : Type 0
WordLastLinksKeep = (n : ℕ) (net : Net) (gave : ℕ → Bool) (states states' : ℕ → EntryState) (infos : ℕ → EntryInfo) (views : List View) (id : ℕ) (v w : View) (e : ℕ)
    → Kept n net gave states infos views → At views id v → Rises net states states' infos e v w
    → Kept n net gave states' infos (set views id w)

-- The link of a new entry.
abbrev pub WordLinksKeep : Type 0
WordLinksKeep = (n : ℕ) (net : Net) (gave : ℕ → Bool) (states states' : ℕ → EntryState) (infos : ℕ → EntryInfo) (views : List View) (id : ℕ) (v w : View) (net' : Net) (o e : ℕ)
    → Kept n net gave states infos views → At views id v → Links n net net' states states' infos o e v w
    → Kept n net' gave states' infos (set views id w)

-- A fill.
abbrev pub WordFillsKeep : Type 0
WordFillsKeep = (n : ℕ) (net : Net) (gave : ℕ → Bool) (states states' : ℕ → EntryState) (infos infos' : ℕ → EntryInfo) (views : List View) (e : ℕ)
    → Kept n net gave states infos views → Fills n net states states' infos infos' e
    → Kept n net gave states' infos' views

-- An entry whose words are filled begins a list of main's children.
abbrev pub WordBeginsKeep : Type 0
WordBeginsKeep = (n : ℕ) (net net' : Net) (gave : ℕ → Bool) (states : ℕ → EntryState) (infos : ℕ → EntryInfo) (views : List View) (e : ℕ)
    → Kept n net gave states infos views → Begun n net net' states infos e
    → Kept n net' gave states infos views

-- A step that leaves what its seat holds: a read, a draw, and the two views of a join of seats.
abbrev pub WordLooksKeep : Type 0
WordLooksKeep = (n : ℕ) (net : Net) (gave : ℕ → Bool) (states : ℕ → EntryState) (infos : ℕ → EntryInfo) (views : List View) (id : ℕ) (v w : View)
    → Kept n net gave states infos views → At views id v → w.held ≡ v.held → w.half ≡ v.half
    → Kept n net gave states infos (set views id w)

-- A new seat, which holds nothing.
abbrev pub WordNewSeatsKeep : Type 0
WordNewSeatsKeep = (n : ℕ) (net : Net) (gave : ℕ → Bool) (states : ℕ → EntryState) (infos : ℕ → EntryInfo) (views : List View) (w : View)
    → Kept n net gave states infos views → w.held ≡ [] → w.half ≡ []
    → Kept n net gave states infos (views ++ w ∷ [])

-- The value of a reduction is left beside its word.
abbrev pub WordLeavesKeep : Type 0
WordLeavesKeep = (n : ℕ) (net : Net) (gave : ℕ → Bool) (states states' : ℕ → EntryState) (infos : ℕ → EntryInfo) (views : List View) (id : ℕ) (v w : View) (e : ℕ)
    → Kept n net gave states infos views → At views id v → e < n → net.place e ≢ apart → Leaves states states' infos e v w
    → Kept n net gave states' infos (set views id w)

-- The give of a reduction that was joined, with no children.
abbrev pub WordJoinedGivesKeep : Type 0
WordJoinedGivesKeep = (n : ℕ) (net : Net) (gave : ℕ → Bool) (states states' : ℕ → EntryState) (infos : ℕ → EntryInfo) (views : List View) (id : ℕ) (v w : View) (gave' : ℕ → Bool) (e : ℕ) (rest : List Message)
    → Kept n net gave states infos views → At views id v → e < n → GivesUp gave gave' e → JoinsGives net states states' infos e rest v w
    → Kept n net gave' states' infos (set views id w)

-- The first step of the give of a reduction that was joined, with children.
abbrev pub WordJoinedBegunGivesKeep : Type 0
WordJoinedBegunGivesKeep = (n : ℕ) (net : Net) (gave : ℕ → Bool) (states states' : ℕ → EntryState) (infos : ℕ → EntryInfo) (views : List View) (id : ℕ) (v w : View) (gave' : ℕ → Bool) (e : ℕ) (rest : List Message)
    → Kept n net gave states infos views → At views id v → e < n → net.place e ≢ apart → (states e).headed ≡ true → (states e).given ≡ false → GivesUp gave gave' e → JoinsBegins net states states' e rest v w
    → Kept n net gave' states' infos (set views id w)
