-- What each kind of step does to the words and to what its seat holds.
-- Read against: the steps on the net of `Views`. The fills of 1 leave reads, folds, writes and clear in its word, and it begins a list of main.
-- The link sets linked and next 2 in the word of 1; since 1 is a write that is not given up, it sends nothing. The give sets given and done in
-- the word of 1 and sends (2, 3), (2, 4) and (2, 5). The first delivery takes (2, 3), the least flag of one depth, and sets reads in the word of 2.
use Rattle.std.specs.Prelude.{◌≡◌, ◌≢◌, ◌⊎◌, ◌+◌, ◌<◌, ◌≤◌, ℕ, Bool, true, false, not, ◌&&◌, List, [], ◌∷◌, ◌++◌}
use Rattle.oss_syntax.specs.declared.access.Mode.{Mode}
use Rattle.oss_syntax.specs.declared.access.Op.{Op}
use Rattle.oss_syntax.specs.declared.access.Mode.TheVariants.{Write, Fold}
use Rattle.oss_words.specs.declared.message.Message.{Message}
use Rattle.oss_words.specs.declared.entry.EntryState.{EntryState}
use Rattle.oss_words.specs.declared.entry.EntryInfo.{EntryInfo}
use Rattle.oss_words.specs.Sums.{total}
use Rattle.oss_words.specs.Net.{Net, Place, apart, first, after, Adds, top}
use Rattle.oss_words.specs.Members.{Has}
use Rattle.oss_words.specs.Causes.{Sets, sent, is_fold, starts_open, starts_clear}
use Rattle.oss_words.specs.Room.{Behind}
use Rattle.oss_words.specs.Views.{View}

-- A delivery: the first of the held messages is taken, its flag is set in the word of its entry, and the messages
-- whose causes that completes are held from now on.
pub record Delivers (net : Net) (states states' : ℕ → EntryState) (infos : ℕ → EntryInfo) (m : Message) (rest : List Message) (v w : View) : Type 0 where
  pub took : (h : Message → ℕ) → total h v.held ≡ h m + total h rest
  pub first : (b : Message) → Has b rest → Behind net m.entry m.flag b
  pub full : v.half ≡ []
  pub sets : Sets (states m.entry) (states' m.entry) m.flag
  pub others : (j : ℕ) → j ≢ m.entry → states' j ≡ states j
  pub sends : w.held ≡ rest ++ sent m.entry (states m.entry) (states' m.entry) (infos m.entry)
  pub whole : w.half ≡ []

-- A give of an entry with no children.
pub record Gives (states states' : ℕ → EntryState) (infos : ℕ → EntryInfo) (e : ℕ) (v w : View) : Type 0 where
  pub empty : v.held ≡ []
  pub full : v.half ≡ []
  pub childless : (states e).headed ≡ false
  pub stays : (states e).left ≡ false
  pub sets : states' e ≡ record (states e) { given = true; done = true }
  pub others : (j : ℕ) → j ≢ e → states' j ≡ states j
  pub sends : w.held ≡ sent e (states e) (states' e) (infos e)
  pub whole : w.half ≡ []

-- The first step of a give of an entry with children.
pub record Begins (states states' : ℕ → EntryState) (e : ℕ) (v w : View) : Type 0 where
  pub empty : v.held ≡ []
  pub full : v.half ≡ []
  pub stays : (states e).left ≡ false
  pub sets : states' e ≡ record (states e) { given = true }
  pub others : (j : ℕ) → j ≢ e → states' j ≡ states j
  pub sends : w.held ≡ []
  pub whole : w.half ≡ e ∷ []

-- The second step: the last child is linked to the entry.
pub record Rises (net : Net) (states states' : ℕ → EntryState) (infos : ℕ → EntryInfo) (e : ℕ) (v w : View) : Type 0 where
  pub full : v.half ≡ e ∷ []
  pub sets : states' (net.last e) ≡ record (states (net.last e)) { linked = true; next = e }
  pub others : (j : ℕ) → j ≢ net.last e → states' j ≡ states j
  pub sends : w.held ≡ v.held ++ sent (net.last e) (states (net.last e)) (states' (net.last e)) (infos (net.last e))
  pub whole : w.half ≡ []

-- A fold's task has ended, and the value to be joined stands.
pub record Leaves (states states' : ℕ → EntryState) (infos : ℕ → EntryInfo) (e : ℕ) (v w : View) : Type 0 where
  pub empty : v.held ≡ []
  pub full : v.half ≡ []
  pub keeps : (states e).given ≡ false
  pub sets : states' e ≡ record (states e) { left = true }
  pub others : (j : ℕ) → j ≢ e → states' j ≡ states j
  pub sends : w.held ≡ sent e (states e) (states' e) (infos e)
  pub whole : w.half ≡ []

-- The give of a fold that was joined, where it has no children.
pub record JoinsGives (net : Net) (states states' : ℕ → EntryState) (infos : ℕ → EntryInfo) (e : ℕ) (rest : List Message) (v w : View) : Type 0 where
  pub took : (h : Message → ℕ) → total h v.held ≡ h (record { entry = e; flag = 0 }) + total h rest
  pub first : (b : Message) → Has b rest → Behind net e 0 b
  pub full : v.half ≡ []
  pub childless : (states e).headed ≡ false
  pub sets : states' e ≡ record (states e) { given = true; done = true }
  pub others : (j : ℕ) → j ≢ e → states' j ≡ states j
  pub sends : w.held ≡ rest ++ sent e (states e) (states' e) (infos e)
  pub whole : w.half ≡ []

-- The same, where it has children: the first step.
pub record JoinsBegins (net : Net) (states states' : ℕ → EntryState) (e : ℕ) (rest : List Message) (v w : View) : Type 0 where
  pub took : (h : Message → ℕ) → total h v.held ≡ h (record { entry = e; flag = 0 }) + total h rest
  pub first : (b : Message) → Has b rest → Behind net e 0 b
  pub full : v.half ≡ []
  pub sets : states' e ≡ record (states e) { given = true }
  pub others : (j : ℕ) → j ≢ e → states' j ≡ states j
  pub sends : w.held ≡ rest
  pub whole : w.half ≡ e ∷ []

-- What the rule must tell besides of an entry that is given up while it has children.
pub record Parent (n : ℕ) (net : Net) (states : ℕ → EntryState) (infos : ℕ → EntryInfo) (e : ℕ) : Type 0 where
  pub undone : (states e).done ≡ false
  pub open_yet : (states e).given ≡ false
  pub headed : (states e).headed ≡ true
  pub inside_last : net.last e < n
  pub unlinked : (states (net.last e)).linked ≡ false
  pub child : net.parent (net.last e) ≡ e
  pub told : (infos (net.last e)).parent ≡ e
  pub hangs : net.place e ≢ apart
  pub hangs_last : net.place (net.last e) ≢ apart

-- The word before anything is written.
abbrev pub no_flags : EntryState
no_flags = record { reads = false; folds = false; writes = false; given = false; done = false; clear = false; linked = false; headed = false; left = false; next_folds = false; next_same = false; child_folds = false; child_same = false; next = 0; child = 0 }

-- The word of an entry that is not linked yet has the flags with which it starts at its place, and no others.
pub record Blank (p : Place) (c : EntryState) : Type 0 where
  pub linked : c.linked ≡ false
  pub headed : c.headed ≡ false
  pub left : c.left ≡ false
  pub folds : (c.folds && not (starts_open p)) ≡ false
  pub reads : (c.reads && not (starts_open p)) ≡ false
  pub writes : (c.writes && not (starts_open p)) ≡ false
  pub clear : (c.clear && not (starts_clear p)) ≡ false

-- The link that is set in the word of the entry o: to its next sibling, or to its first child.
pub data Linking (net' : Net) (states states' : ℕ → EntryState) (o e : ℕ) : Type 0 where
  to_sibling : net'.place e ≡ after o → (states o).linked ≡ false → (x y : Bool) → states' o ≡ record (states o) { linked = true; next = e; next_folds = x; next_same = y } → Linking net' states states' o e
  to_child : net'.place e ≡ first o → (states o).headed ≡ false → (states o).done ≡ false → (x y : Bool) → states' o ≡ record (states o) { headed = true; child = e; child_folds = x; child_same = y } → Linking net' states states' o e

-- The bits beside a link from an entry of mode a to one of mode b: whether b is a reduction, and whether it is the one that a is.
pub record Compares (a b : Mode) (x y : Bool) : Type 0 where
  pub folds : x ≡ is_fold b
  pub alike : y ≡ true → b ≡ a
  pub unlike : y ≡ false → (op : Op) → b ≡ Fold op → b ≢ a

-- What the info word of an entry tells, which is written before the entry is linked.
pub record Tells (net' : Net) (e : ℕ) (i : EntryInfo) : Type 0 where
  pub mode : i.mode ≡ net'.mode e
  pub depth : i.depth ≡ net'.depth e
  pub shallow : net'.depth e ≤ 64

-- A link of the entry e, by an owner who holds nothing and whose task has not given up the cell.
pub record Links (n : ℕ) (net net' : Net) (states states' : ℕ → EntryState) (infos : ℕ → EntryInfo) (o e : ℕ) (v w : View) : Type 0 where
  pub adds : Adds net net' e
  pub inside : o < n
  pub inside_new : e < n
  pub empty : v.held ≡ []
  pub full : v.half ≡ []
  pub links : Linking net' states states' o e
  pub others : (j : ℕ) → j ≢ o → states' j ≡ states j
  pub blank : Blank (net'.place e) (states e)
  pub info : (infos e).parent ≡ net'.parent e
  pub open_yet : (states (net'.parent e)).given ≡ false
  pub tells : Tells net' e (infos e)
  pub ungiven : (states e).given ≡ false
  pub undone : (states e).done ≡ false
  pub clears : net'.place e ≡ first o → (states e).clear ≡ true
  pub above : net'.place e ≡ first o → o < e
  pub covers : net'.parent e ≢ 0 → (net'.mode (net'.parent e) ≡ Write) ⊎ (net'.mode (net'.parent e) ≡ net'.mode e)
  pub sibling_bits : net'.place e ≡ after o → Compares (net'.mode o) (net'.mode e) (states' o).next_folds (states' o).next_same
  pub child_bits : net'.place e ≡ first o → Compares (net'.mode o) (net'.mode e) (states' o).child_folds (states' o).child_same
  pub sends : w.held ≡ sent o (states o) (states' o) (infos o)
  pub whole : w.half ≡ []

-- A fill of words of the entry e, which hangs nowhere.
pub record Fills (n : ℕ) (net : Net) (states states' : ℕ → EntryState) (infos infos' : ℕ → EntryInfo) (e : ℕ) : Type 0 where
  pub inside : e < n
  pub loose : net.place e ≡ apart
  pub blank_before : Blank apart (states e)
  pub blank_now : Blank apart (states' e)
  pub undone : (states' e).done ≡ false
  pub ungiven_before : (states e).given ≡ false
  pub ungiven : (states' e).given ≡ false
  -- each word is written once
  pub once : (states' e ≡ states e) ⊎ (states e ≡ no_flags)
  pub others : (j : ℕ) → j ≢ e → states' j ≡ states j
  pub other_infos : (j : ℕ) → j ≢ e → infos' j ≡ infos j

-- The entry e, whose words are filled, begins a list of main: no word changes.
pub record Begun (n : ℕ) (net net' : Net) (states : ℕ → EntryState) (infos : ℕ → EntryInfo) (e : ℕ) : Type 0 where
  pub adds : Adds net net' e
  pub begins : net'.place e ≡ top
  pub inside : e < n
  pub blank : Blank (net'.place e) (states e)
  pub info : (infos e).parent ≡ net'.parent e
  pub open_yet : (states (net'.parent e)).given ≡ false
  pub tells : Tells net' e (infos e)
  pub ungiven : (states e).given ≡ false
  pub undone : (states e).done ≡ false
  pub reads : (states e).reads ≡ true
  pub writes : (states e).writes ≡ true
  pub folds : (states e).folds ≡ true
  pub clear : (states e).clear ≡ true

-- The task gives up the entry e.
pub record GivesUp (gave gave' : ℕ → Bool) (e : ℕ) : Type 0 where
  pub now : gave' e ≡ true
  pub same : (j : ℕ) → j ≢ e → gave' j ≡ gave j
