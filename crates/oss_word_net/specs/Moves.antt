-- What each kind of step makes of what its seat knows. A step is told the word that it touches, its operand and what it found.
-- Read against: the net of `Known`. A draw of 2 that finds 1 gives the entries 1 and 2. The first fill of 1, a write below main, notes the link
-- of 1. The link of 2 behind 1 adds 131136 to the state word of 1, which is linked and 2 * 65536: the state word was 39 and is 131175 then, and
-- nothing is sent, since 1 is not given up. The give of 1 adds 24 and sends (2, 3), (2, 4) and (2, 5).
use Rattle.std.specs.Prelude.{◌+◌, ◌*◌, ℕ, Bool, true, false, List, [], ◌∷◌, ◌++◌, ◌-◌, ◌==◌, ◌||◌, ◌&&◌, cond}
use Rattle.oss_words.specs.declared.entry.EntryState.{EntryState}
use Rattle.oss_words.specs.declared.entry.EntryInfo.{EntryInfo}
use Rattle.oss_words.specs.declared.message.Message.{Message}
use Rattle.oss_syntax.specs.declared.access.Mode.{Mode}
use Rattle.oss_words.specs.Bits.{state_at, info_at, mode_number}
use Rattle.oss_words.specs.Sums.{num}
use Rattle.oss_words.specs.Causes.{sent, is_fold}
use Rattle.oss_words.specs.Net.{Place, top}
use Rattle.oss_words.specs.SeatSteps.{numbers}
use Rattle.oss_words.specs.Steps.{no_flags}
use Rattle.oss_word_net.specs.Known.{Known, none_added}

-- The state word of an entry with nothing before it and no other flag.
abbrev pub clear_alone : EntryState
clear_alone = record no_flags { clear = true }

-- That of an entry which begins a list of main.
abbrev pub all_open : EntryState
all_open = record no_flags { reads = true; folds = true; writes = true; clear = true }

-- The info word of a linked entry was read.
abbrev pub informed : ℕ → ℕ → Known → Known
informed e n k = record k { told = record { entry = e; info = info_at n } ∷ k.told; word = 2 + 2 * e; found = n }

-- A state word was read.
abbrev pub looked : ℕ → ℕ → Known → Known
looked e n k = record k { view = record k.view { seen = record { entry = e; state = state_at n } ∷ k.view.seen }; word = 1 + 2 * e; found = n }

-- So many entries were drawn, from the found one on.
abbrev pub drew : ℕ → ℕ → Known → Known
drew count n k = record k { view = record k.view { owned = numbers n count ++ k.view.owned }; word = 0; found = n }

-- Fewer were left.
abbrev pub missed : ℕ → Known → Known
missed n k = record k { view = record k.view { failed = 1 }; word = 0; found = n }

-- The info word of a new entry was written, and then its state word.
abbrev pub filled_info : ℕ → ℕ → Known → Known
filled_info e n k = record k { filling = record { entry = e; state = no_flags; info = info_at n } ∷ []; word = 2 + 2 * e; found = n }

abbrev pub filled_state : ℕ → ℕ → EntryInfo → Known → Known
filled_state e n i k = record k { filling = record { entry = e; state = state_at n; info = i } ∷ []; word = 1 + 2 * e; found = n }

-- The new entry, whose info is i, hangs at this place.
abbrev pub hung : ℕ → EntryInfo → Place → Known → Known
hung e i p k = record k { view = record k.view { links = record { entry = e; place = p } ∷ k.view.links }; told = record { entry = e; info = i } ∷ k.told; filling = [] }

-- It begins a list of main.
abbrev pub began : ℕ → ℕ → EntryInfo → Known → Known
began e n i k = record (hung e i top k) { word = 1 + 2 * e; found = n }

-- It was linked by adding x to the state word of the entry o, whose info is j: what that completes is held.
abbrev pub linked_at : ℕ → EntryInfo → Place → ℕ → EntryInfo → ℕ → ℕ → Known → Known
linked_at e i p o j x n k =
    let h = hung e i p k in
    record h { view = record h.view { held = sent o (state_at n) (state_at (n + x)) j }; word = 1 + 2 * o; found = n; added = record { entry = o; found = n; more = x } }

-- The second mode is the reduction that the first is.
abbrev pub same_fold : Mode → Mode → Bool
same_fold a b = is_fold b && (mode_number a == mode_number b)

-- What is added to the state word of an entry of mode a where the entry e of mode b is linked behind it, and below it.
abbrev pub next_mask : ℕ → Mode → Mode → ℕ
next_mask e a b = 64 + 512 * num (is_fold b) + 1024 * num (same_fold a b) + 65536 * e

abbrev pub child_mask : ℕ → Mode → Mode → ℕ
child_mask e a b = 128 + 2048 * num (is_fold b) + 4096 * num (same_fold a b) + 1099511627776 * e

-- An entry with no child was given up.
abbrev pub gave_up : ℕ → EntryInfo → ℕ → Known → Known
gave_up e i n k = record k { view = record k.view { gives = e ∷ k.view.gives; held = sent e (state_at n) (state_at (n + 24)) i }; word = 1 + 2 * e; found = n; added = record { entry = e; found = n; more = 24 } }

-- One with children was given up, and its last child is not linked to it yet.
abbrev pub half_gave : ℕ → ℕ → Known → Known
half_gave e n k = record k { view = record k.view { gives = e ∷ k.view.gives; half = e ∷ [] }; word = 1 + 2 * e; found = n; added = record { entry = e; found = n; more = 8 } }

-- Its last child, whose info is i, was linked to it.
abbrev pub rose : ℕ → ℕ → EntryInfo → ℕ → Known → Known
rose e l i n k = record k { view = record k.view { half = []; held = k.view.held ++ sent l (state_at n) (state_at (n + (64 + 65536 * e))) i }; word = 1 + 2 * l; found = n; added = record { entry = l; found = n; more = 64 + 65536 * e } }

-- What is left of a list without a message, once.
abbrev pub without : Message → List Message → List Message
without m [] = []
without m (x ∷ xs) = cond ((x.entry == m.entry) && (x.flag == m.flag)) xs (x ∷ without m xs)

-- A held message was taken and its flag set, by adding x to the state word of its entry, whose info is i; what that completes is held.
abbrev pub passed : Message → EntryInfo → ℕ → ℕ → Known → Known
passed m i x n k =
    record k { view = record k.view { held = without m k.view.held ++ sent m.entry (state_at n) (state_at (n + x)) i; delivered = 1 + k.view.delivered }; word = 1 + 2 * m.entry; found = n; added = record { entry = m.entry; found = n; more = x } }

-- The number is in the list.
abbrev pub is_in : ℕ → List ℕ → Bool
is_in e [] = false
is_in e (x ∷ xs) = (x == e) || is_in e xs

-- What is left where some are handed over.
abbrev pub left_over : List ℕ → List ℕ → List ℕ
left_over hand [] = []
left_over hand (x ∷ xs) = cond (is_in x hand) (left_over hand xs) (x ∷ left_over hand xs)

-- A seat was split: what it knows then, and what the new seat knows, to which it handed these entries.
abbrev pub keeping : List ℕ → Known → Known
keeping hand k = record k { view = record k.view { owned = left_over hand k.view.owned; parts = k.view.parts - 1; splits = 1 + k.view.splits } }

abbrev pub handed : List ℕ → Known → Known
handed hand k = record {
  entries = k.entries;
  view = record k.view { held = []; half = []; owned = hand; delivered = 0; parts = 1; splits = 0; failed = 0 };
  told = k.told;
  filling = [];
  word = k.word;
  found = k.found;
  added = k.added;
}

-- A seat took in what another knew, and what is left of the other.
abbrev pub joined : Known → Known → Known
joined k x = record k {
  view = record k.view {
    owned = k.view.owned ++ x.view.owned;
    links = k.view.links ++ x.view.links;
    gives = k.view.gives ++ x.view.gives;
    seen = k.view.seen ++ x.view.seen;
    delivered = k.view.delivered + x.view.delivered;
    parts = k.view.parts + x.view.parts;
  };
  told = k.told ++ x.told;
}

abbrev pub spent : Known
spent = record {
  entries = 0;
  view = record { held = []; half = []; owned = []; links = []; gives = []; seen = []; delivered = 0; parts = 0; splits = 0; failed = 1 };
  told = [];
  filling = [];
  word = 0;
  found = 0;
  added = none_added;
}
