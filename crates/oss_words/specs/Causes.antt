-- The messages whose causes stand in the word of an entry, those that a step completes, and those that came.
-- After Álvarez, Sala, Maroñas, Roca and Beltran (PPoPP 2021): an access is a machine of few states that moves by messages between
-- neighbours, and each message is sent by the atomic step that completes its cause.
-- Read against: 1, a write with reads, writes and clear and the sibling 2 behind it, is given up with no child: given and done come to
-- stand, and so do the causes of (2, 3), (2, 4) and (2, 5), none of which stood before. If 1 were a read, (2, 3) would have been due before.
use Rattle.std.specs.Prelude.{◌≡◌, ℕ, Bool, true, false, not, cond, ◌&&◌, ◌||◌, ◌==◌, List, [], ◌∷◌, ◌++◌}
use Rattle.oss_syntax.specs.declared.access.Mode.{Mode}
use Rattle.oss_syntax.specs.declared.access.Mode.TheVariants.{Read, Write, Fold}
use Rattle.oss_words.specs.declared.message.Message.{Message}
use Rattle.oss_words.specs.declared.entry.EntryState.{EntryState}
use Rattle.oss_words.specs.declared.entry.EntryInfo.{EntryInfo}
use Rattle.oss_words.specs.Net.{Place, apart, top, first, after}

-- The mode is Read.
abbrev pub only_reads : Mode → Bool
only_reads Read = true
only_reads Write = false
only_reads (Fold op) = false

-- The mode is a reduction.
abbrev pub is_fold : Mode → Bool
is_fold Read = false
is_fold Write = false
is_fold (Fold op) = true

-- The next link is set, and names a sibling.
abbrev pub has_sibling : EntryState → EntryInfo → Bool
has_sibling c i = c.linked && not (c.next == i.parent)

-- The next link is set, and names the parent.
abbrev pub is_last : EntryState → EntryInfo → Bool
is_last c i = c.linked && (c.next == i.parent)

-- The causes, row by row. The next sibling may read: this entry may, and is a read itself or is given and done.
abbrev pub tells_reads : EntryState → EntryInfo → Bool
tells_reads c i = has_sibling c i && (c.reads && (only_reads i.mode || (c.given && c.done)))

-- The next sibling may write: this entry may, and is given and done.
abbrev pub tells_writes : EntryState → EntryInfo → Bool
tells_writes c i = has_sibling c i && (c.writes && (c.given && c.done))

-- The next sibling, a reduction, may be joined: this entry may, if it is the same reduction, and else may write and is given and done.
abbrev pub tells_folds : EntryState → EntryInfo → Bool
tells_folds c i = has_sibling c i && (c.next_folds && cond c.next_same c.folds (c.writes && (c.given && c.done)))

-- All before the next sibling is done: all before this entry is, and it is given and done itself.
abbrev pub tells_clear : EntryState → EntryInfo → Bool
tells_clear c i = has_sibling c i && (c.clear && (c.given && c.done))

-- The parent is done: this entry is its last child, all before it is done, and it is given and done itself.
abbrev pub tells_done : EntryState → EntryInfo → Bool
tells_done c i = is_last c i && (c.clear && (c.given && c.done))

-- The first child may read: this entry may.
abbrev pub heads_reads : EntryState → Bool
heads_reads c = c.headed && c.reads

-- The first child may write: this entry may.
abbrev pub heads_writes : EntryState → Bool
heads_writes c = c.headed && c.writes

-- The first child, a reduction, may be joined: this entry may, if it is the same reduction, and else may write.
abbrev pub heads_folds : EntryState → Bool
heads_folds c = c.headed && (c.child_folds && cond c.child_same c.folds c.writes)

-- The value left beside the word may be joined into the cell.
abbrev pub joins : EntryState → Bool
joins c = c.folds && c.left

-- The message, where its cause stands.
abbrev pub part : Bool → ℕ → ℕ → List Message
part true e f = record { entry = e; flag = f } ∷ []
part false e f = []

-- The messages whose causes stand in the word of the entry e.
abbrev pub due : ℕ → EntryState → EntryInfo → List Message
due e c i = part (tells_reads c i) c.next 3 ++ (part (tells_writes c i) c.next 4 ++ (part (tells_folds c i) c.next 2 ++ (part (tells_clear c i) c.next 5 ++ (part (tells_done c i) i.parent 1 ++ (part (heads_reads c) c.child 3 ++ (part (heads_writes c) c.child 4 ++ (part (heads_folds c) c.child 2 ++ part (joins c) e 0)))))))

-- Those that a step from the first word to the second completes.
abbrev pub sent : ℕ → EntryState → EntryState → EntryInfo → List Message
sent e a c i = part (tells_reads c i && not (tells_reads a i)) c.next 3 ++ (part (tells_writes c i && not (tells_writes a i)) c.next 4 ++ (part (tells_folds c i && not (tells_folds a i)) c.next 2 ++ (part (tells_clear c i && not (tells_clear a i)) c.next 5 ++ (part (tells_done c i && not (tells_done a i)) i.parent 1 ++ (part (heads_reads c && not (heads_reads a)) c.child 3 ++ (part (heads_writes c && not (heads_writes a)) c.child 4 ++ (part (heads_folds c && not (heads_folds a)) c.child 2 ++ part (joins c && not (joins a)) e 0)))))))

-- Those of them that go to other entries: all but its own join.
abbrev pub posted : EntryState → EntryState → EntryInfo → List Message
posted a c i = part (tells_reads c i && not (tells_reads a i)) c.next 3 ++ part (tells_writes c i && not (tells_writes a i)) c.next 4 ++ part (tells_folds c i && not (tells_folds a i)) c.next 2 ++ part (tells_clear c i && not (tells_clear a i)) c.next 5 ++ part (tells_done c i && not (tells_done a i)) i.parent 1 ++ part (heads_reads c && not (heads_reads a)) c.child 3 ++ part (heads_writes c && not (heads_writes a)) c.child 4 ++ part (heads_folds c && not (heads_folds a)) c.child 2

-- So what is sent is what is posted, and the join behind it.
abbrev pub SentIsPosted : Type 0
SentIsPosted = (e : ℕ) (a c : EntryState) (i : EntryInfo) → sent e a c i ≡ posted a c i ++ part (joins c && not (joins a)) e 0

-- The flags with which an entry starts, by its place.
abbrev pub starts_open : Place → Bool
starts_open apart = true
starts_open top = true
starts_open (first p) = false
starts_open (after s) = false

-- And whether it starts with nothing before it.
abbrev pub starts_clear : Place → Bool
starts_clear apart = true
starts_clear top = true
starts_clear (first p) = true
starts_clear (after s) = false

-- The messages that came to the entry e: its flags that are no starts. Done came only to one with children. A
-- strong fold is given up when its join was done.
abbrev pub got : Place → ℕ → EntryState → List Message
got p e c = part (c.done && c.headed) e 1 ++ (part (c.folds && not (starts_open p)) e 2 ++ (part (c.reads && not (starts_open p)) e 3 ++ (part (c.writes && not (starts_open p)) e 4 ++ (part (c.clear && not (starts_clear p)) e 5 ++ part (c.given && c.left) e 0))))

-- A message that is due at the entry e, by its row.
pub data Due (e : ℕ) (c : EntryState) (i : EntryInfo) (m : Message) : Type 0 where
  due_reads : (tells_reads c i) ≡ true → c.next ≡ m.entry → 3 ≡ m.flag → Due e c i m
  due_writes : (tells_writes c i) ≡ true → c.next ≡ m.entry → 4 ≡ m.flag → Due e c i m
  due_folds : (tells_folds c i) ≡ true → c.next ≡ m.entry → 2 ≡ m.flag → Due e c i m
  due_clear : (tells_clear c i) ≡ true → c.next ≡ m.entry → 5 ≡ m.flag → Due e c i m
  due_done : (tells_done c i) ≡ true → i.parent ≡ m.entry → 1 ≡ m.flag → Due e c i m
  due_first_reads : (heads_reads c) ≡ true → c.child ≡ m.entry → 3 ≡ m.flag → Due e c i m
  due_first_writes : (heads_writes c) ≡ true → c.child ≡ m.entry → 4 ≡ m.flag → Due e c i m
  due_first_folds : (heads_folds c) ≡ true → c.child ≡ m.entry → 2 ≡ m.flag → Due e c i m
  due_join : (joins c) ≡ true → e ≡ m.entry → 0 ≡ m.flag → Due e c i m

-- A message that a step from the word a to the word c completes, by its row.
pub data Completes (e : ℕ) (a c : EntryState) (i : EntryInfo) (m : Message) : Type 0 where
  new_reads : (tells_reads c i) ≡ true → (tells_reads a i) ≡ false → c.next ≡ m.entry → 3 ≡ m.flag → Completes e a c i m
  new_writes : (tells_writes c i) ≡ true → (tells_writes a i) ≡ false → c.next ≡ m.entry → 4 ≡ m.flag → Completes e a c i m
  new_folds : (tells_folds c i) ≡ true → (tells_folds a i) ≡ false → c.next ≡ m.entry → 2 ≡ m.flag → Completes e a c i m
  new_clear : (tells_clear c i) ≡ true → (tells_clear a i) ≡ false → c.next ≡ m.entry → 5 ≡ m.flag → Completes e a c i m
  new_done : (tells_done c i) ≡ true → (tells_done a i) ≡ false → i.parent ≡ m.entry → 1 ≡ m.flag → Completes e a c i m
  new_first_reads : (heads_reads c) ≡ true → (heads_reads a) ≡ false → c.child ≡ m.entry → 3 ≡ m.flag → Completes e a c i m
  new_first_writes : (heads_writes c) ≡ true → (heads_writes a) ≡ false → c.child ≡ m.entry → 4 ≡ m.flag → Completes e a c i m
  new_first_folds : (heads_folds c) ≡ true → (heads_folds a) ≡ false → c.child ≡ m.entry → 2 ≡ m.flag → Completes e a c i m
  new_join : (joins c) ≡ true → (joins a) ≡ false → e ≡ m.entry → 0 ≡ m.flag → Completes e a c i m

-- The second word is the first with the flag set that the message names, and that was not set.
pub data Sets (a c : EntryState) : ℕ → Type 0 where
  sets_done : a.done ≡ false → c ≡ record a { done = true } → Sets a c 1
  sets_folds : a.folds ≡ false → c ≡ record a { folds = true } → Sets a c 2
  sets_reads : a.reads ≡ false → c ≡ record a { reads = true } → Sets a c 3
  sets_writes : a.writes ≡ false → c ≡ record a { writes = true } → Sets a c 4
  sets_clear : a.clear ≡ false → c ≡ record a { clear = true } → Sets a c 5

-- The flag of this number does not stand. Of a join nothing is said.
abbrev pub Unset : EntryState → ℕ → Type 0
Unset c f = ((f ≡ 1 → c.done ≡ false) × (f ≡ 2 → c.folds ≡ false) × (f ≡ 3 → c.reads ≡ false) × (f ≡ 4 → c.writes ≡ false) × (f ≡ 5 → c.clear ≡ false))
