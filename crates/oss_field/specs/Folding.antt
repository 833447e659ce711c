-- A fold: the value that was left in an entry is joined into the cell, by the seat whose first message is the entry's join.
-- Read against: the seat of `Marks` holds the join of entry 14, a reduction by + on cell 5 with the value 6 and the children 20 and 23. It has read the number of the cell and the value. It adds 6
-- to cell 5 in one step, and that is the join of the machine. Then it reads the state word of 14, and those of 20 and 23, and the info word of 23, which is the last child. It adds 8 to the state
-- word of 14, which is given up from then on, and 64 and 65536 * 14 to that of 23, by which 23 leads to 14. What that completes is held, and one message more was delivered. If 14 had no child,
-- 24 would be added to its state word, and that would be all.
use Rattle.std.specs.Prelude.{◌≡◌, ◌<◌, ◌≤◌, ◌+◌, ◌*◌, if◌then◌else◌, ℕ, true, List, [], ◌∷◌, ◌++◌, length, slice_index_or}
use Rattle.oss_syntax.specs.declared.access.Mode.TheVariants.{Fold}
use Rattle.oss_syntax.specs.declared.access.Op.{Op}
use Rattle.oss_words.specs.declared.entry.EntryInfo.{EntryInfo}
use Rattle.oss_words.specs.declared.entry.EntryState.{EntryState}
use Rattle.oss_words.specs.declared.message.Message.{Message}
use Rattle.oss_words.specs.Bits.{info_at, state_at}
use Rattle.oss_words.specs.Causes.{sent}
use Rattle.oss_words.specs.Members.{Has}
use Rattle.oss_words.specs.Views.{Among}
use Rattle.oss_field.specs.declared.held.Held.{Held}
use Rattle.oss_field.specs.Heard.{Told}
use Rattle.oss_field.specs.Known.{Known}
use Rattle.oss_field.specs.Layout.{cell_word, number_word_of, state_word_of, value_word_of}
use Rattle.oss_field.specs.Marks.{Fact, Mark, value_is, cell_is, has_none, has_child, has_last}
use Rattle.oss_field.specs.Messages.{Bounded, JoinFirst, Later, OneInfo, Ready, without}
use Rattle.oss_field.specs.Moves.{touched}

-- The join of an entry, as a message.
abbrev pub join_to : ℕ → Message
join_to e = record { entry = e; flag = 0 }

-- This is kept of the entry e from now on.
abbrev pub marking : ℕ → Fact → Known → Known
marking e t k = record k { marks = record { entry = e; fact = t } ∷ k.marks }

-- What the state of the entry tells of its children, and the state of the child c of those behind it.
abbrev pub below_it : EntryState → Fact
below_it s = if s.headed then has_child s.child else has_none

abbrev pub behind_it : ℕ → EntryState → Fact
behind_it c s = if s.linked then has_child s.next else has_last c

-- Among the first n of the messages that are ready, the join of e is found at this place, if it is there.
abbrev pub FindsJoin : List Held → ℕ → ℕ → ℕ → Type 0
FindsJoin held e n best = (k : ℕ) (d : Held) → k < n → (slice_index_or held k d).entry ≡ e → (slice_index_or held k d).flag ≡ 0
    → (best < length held) × ((slice_index_or held best d).entry ≡ e) × ((slice_index_or held best d).flag ≡ 0)

-- What is read

-- The number of the cell of the entry e, in a field of m cells. The entry is one of a reduction.
pub record ReadsNumber (m e x : ℕ) (k l : Known) : Type 0 where
  pub known : l ≡ touched (number_word_of m e) x (marking e (cell_is x) k)
  pub inside : x < m
  pub reduces : (i : EntryInfo) → Among (record { entry = e; info = i }) k.told → (op : Op) × (i.mode ≡ Fold op)

-- Its value.
abbrev pub read_value : ℕ → ℕ → ℕ → Known → Known
read_value m e x k = touched (value_word_of m e) x (marking e (value_is x) k)

-- Its state word, in a field of n entries.
pub record ReadsBelow (n m e x : ℕ) (k l : Known) : Type 0 where
  pub known : l ≡ touched (state_word_of m e) x (marking e (below_it (state_at x)) k)
  pub inside : (state_at x).headed ≡ true → (state_at x).child < n

-- The state word of its child c.
pub record ReadsChild (n m e c x : ℕ) (k l : Known) : Type 0 where
  pub known : l ≡ touched (state_word_of m c) x (marking e (behind_it c (state_at x)) k)
  pub behind : (state_at x).linked ≡ true → (c < (state_at x).next) × ((state_at x).next < n)

-- The seat has read words, and knows nothing else that is new.
pub record Notes (a b : Known) : Type 0 where
  pub same : b ≡ record a { told = b.told; marks = b.marks; word = b.word; found = b.found }
  pub told : (t : Told) → Among t a.told → Among t b.told
  pub marks : (x : Mark) → Among x a.marks → Among x b.marks
  pub one : OneInfo a → OneInfo b

-- The join

-- To combine the value into the cell, in a field of m cells: the seat holds the join of e, whose info word is w, and keeps of e what the cell and the value are.
pub record MayCombine (m : ℕ) (k : Known) (e w : ℕ) (op : Op) (cell value : ℕ) : Type 0 where
  pub held : Has (join_to e) k.words.held
  pub told : Among (record { entry = e; info = info_at w }) k.told
  pub mode : (info_at w).mode ≡ Fold op
  pub number : Among (record { entry = e; fact = cell_is cell }) k.marks
  pub left : Among (record { entry = e; fact = value_is value }) k.marks
  pub inside : cell < m
  pub unjoined : k.joined ≡ []

-- It was combined into the cell, which was x.
abbrev pub combined : ℕ → ℕ → ℕ → Known → Known
combined e cell x k = touched (cell_word cell) x (record k { joined = e ∷ [] })

-- What was read and combined.
pub record HasJoined (e w : ℕ) (k l : Known) : Type 0 where
  pub op : Op
  pub cell : ℕ
  pub value : ℕ
  pub mode : (info_at w).mode ≡ Fold op
  pub number : Among (record { entry = e; fact = cell_is cell }) l.marks
  pub left : Among (record { entry = e; fact = value_is value }) l.marks
  pub known : l ≡ record k { joined = e ∷ []; marks = l.marks; word = l.word; found = l.found }
  pub marks : (x : Mark) → Among x k.marks → Among x l.marks

-- The give

-- The value of the entry e was joined, and the entry is not given up yet, in a field of n entries.
pub record IsCombined (n : ℕ) (k : Known) (e w : ℕ) : Type 0 where
  pub held : Has (join_to e) k.words.held
  pub told : Among (record { entry = e; info = info_at w }) k.told
  pub later : (b : Message) → Has b k.words.held → Later k (join_to e) (info_at w) b
  pub inside : e < n
  pub whole : k.words.half ≡ []
  pub joined : k.joined ≡ e ∷ []

-- It was given up at once, in a state word that was x.
abbrev pub joined_whole : ℕ → ℕ → ℕ → ℕ → Known → Known
joined_whole m e w x k = touched (state_word_of m e) x (record k {
  words = record k.words { held = without (join_to e) k.words.held ++ sent e (state_at x) (state_at (x + 24)) (info_at w); delivered = 1 + k.words.delivered };
  joined = [];
  last = record { entry = e; state = x + 24; info = w };
})

-- In the first of two steps.
abbrev pub joined_half : ℕ → ℕ → ℕ → ℕ → Known → Known
joined_half m e w x k = touched (state_word_of m e) x (record k {
  words = record k.words { held = without (join_to e) k.words.held; half = e ∷ []; delivered = 1 + k.words.delivered };
  joined = [];
  last = record { entry = e; state = x + 8; info = w };
})

-- What these steps tell.
pub record JoinsWhole (n m e w x : ℕ) (k l : Known) : Type 0 where
  pub known : l ≡ joined_whole m e w x k
  pub bounded : Bounded n l
  pub fits : x + 24 < 18446744073709551616
  -- all seats together deliver at most six messages for each entry
  pub work : l.words.delivered ≤ 6 * n

pub record JoinsHalf (n m e w x : ℕ) (k l : Known) : Type 0 where
  pub known : l ≡ joined_half m e w x k
  pub fits : x + 8 < 18446744073709551616
  pub work : l.words.delivered ≤ 6 * n

-- Between steps

-- What holds of a seat that has taken the join of e out of the messages that are ready, and holds it still; js is what it has joined.
pub record Midway (left : List Held) (n e w : ℕ) (js : List ℕ) (k : Known) : Type 0 where
  pub held : Has (join_to e) k.words.held
  pub told : Among (record { entry = e; info = info_at w }) k.told
  pub later : (b : Message) → Has b k.words.held → Later k (join_to e) (info_at w) b
  pub inside : e < n
  pub whole : k.words.half ≡ []
  pub joined : k.joined ≡ js
  pub unowed : k.owes ≡ []
  pub one : OneInfo k
  pub bounded : Bounded n k
  pub ready : (c : Known) (items : List Message) → c.words.held ≡ without (join_to e) k.words.held ++ items → ((t : Told) → Among t k.told → Among t c.told) → Ready left items c

-- What a fold leaves held, with its state word after it: with no child, what its own step completed; and else what the link of the last child completed. The seat has read which it is.
pub data FoldSends (k : Known) (e w state : ℕ) (sends : List Message) : Type 0 where
  childless : (x : ℕ) → Among (record { entry = e; fact = has_none }) k.marks → state ≡ x + 24 → sends ≡ sent e (state_at x) (state_at (x + 24)) (info_at w) → FoldSends k e w state sends
  above : (x l u y : ℕ) → Among (record { entry = e; fact = has_last l }) k.marks → state ≡ x + 8 → Among (record { entry = l; info = info_at u }) k.told → sends ≡ sent l (state_at y) (state_at (y + (64 + 65536 * e))) (info_at u) → FoldSends k e w state sends

-- The entry was given up, and its join was delivered.
pub record GivesJoin (e w : ℕ) (k l : Known) : Type 0 where
  pub state : ℕ
  pub sends : List Message
  pub sends_is : FoldSends l e w state sends
  pub known : l ≡ record k {
    words = record k.words { held = without (join_to e) k.words.held ++ sends; delivered = 1 + k.words.delivered };
    joined = [];
    last = record { entry = e; state = state; info = w };
    told = l.told;
    marks = l.marks;
    word = l.word;
    found = l.found;
  }
  pub told : (t : Told) → Among t k.told → Among t l.told
  pub marks : (x : Mark) → Among x k.marks → Among x l.marks

-- The whole call

-- After a fold: the join of the entry was delivered, whose info word was this; the value that was left in it was combined by the operator into the cell; the entry is given up, with this state
-- word, and what that completes is held.
pub record Folded (e : ℕ) (a b : Known) : Type 0 where
  pub first : JoinFirst a e
  pub info : ℕ
  pub told : Among (record { entry = e; info = info_at info }) a.told
  pub op : Op
  pub cell : ℕ
  pub value : ℕ
  pub mode : (info_at info).mode ≡ Fold op
  pub number : Among (record { entry = e; fact = cell_is cell }) b.marks
  pub left : Among (record { entry = e; fact = value_is value }) b.marks
  pub state : ℕ
  pub sends : List Message
  pub sends_is : FoldSends b e info state sends
  pub known : b ≡ record a {
    words = record a.words { held = without (join_to e) a.words.held ++ sends; delivered = 1 + a.words.delivered };
    last = record { entry = e; state = state; info = info };
    told = b.told;
    marks = b.marks;
    word = b.word;
    found = b.found;
  }
  pub kept : (t : Told) → Among t a.told → Among t b.told
