-- A book of rows, with the last row of each list.
-- Read against: the rows 1 to 7 of `Rows` of `oss_filing`. The last child of main itself is 6, that of 1 is 4, and that of 3 is 5; the others have none.
-- Of main's children the last on cell 4 is 7, and the last on cell 5 is 3.
use Rattle.std.specs.Prelude.{◌≡◌, ◌≢◌, ◌⊎◌, ◌<◌, ◌≤◌, ◌+◌, ℕ, zero, suc, ◌==◌, cond, List, [], ◌∷◌, ◌++◌, length, set, Option, Some, None, slice_index}
use Rattle.oss_words.specs.declared.entry.After.{After}
use Rattle.oss_words.specs.declared.entry.After.TheVariants.{FirstOf, FirstOfMain, Sibling}
use Rattle.oss_words.specs.declared.entry.EntryInfo.{EntryInfo}
use Rattle.oss_roles.specs.Field.{AreLast}
use Rattle.oss_roles.specs.Roles.{Role, Site, itself, on}
use Rattle.oss_roles.specs.Sights.{Sight}
use Rattle.oss_filing.specs.Filed.{IsFiled}
use Rattle.oss_filing.specs.declared.row.Row.{Row}
use Rattle.oss_filing.specs.Planned.{ArePlanned, IsAbove, NoneBefore, waits}
use Rattle.oss_rows.specs.declared.book.NewRow.{NewRow}

-- What contracts see of a book.
pub record Contents : Type 0 where
  pub rows : List Row
  pub lasts : List ℕ
  pub mains : List ℕ

-- The entry of the last child at the path p on a site, among the entries below n; 0 where there is none.
pub data IsLast (role : ℕ → Option Role) (n : ℕ) (p : List ℕ) (y : Site) (o : ℕ) : Type 0 where
  is_none : o ≡ 0 → NoneBefore role n p y → IsLast role n p y o
  is_some : (q : Role) (i : ℕ) → role o ≡ Some q → q.path ≡ i ∷ p → q.site ≡ y
      → ((f : ℕ) (x : Role) (j : ℕ) → f < n → role f ≡ Some x → x.path ≡ j ∷ p → x.site ≡ y → (f ≡ o) ⊎ (j < i))
      → IsLast role n p y o

-- The rows of the book are those of these roles, and it has the last of each list.
pub record IsBooked (b : Contents) (role : ℕ → Option Role) : Type 0 where
  pub planned : ArePlanned b.rows role
  pub size : length b.lasts ≡ 1 + length b.rows
  pub below : (e : ℕ) (r : Role) → role e ≡ Some r → IsLast role (1 + length b.rows) r.path r.site (slice_index b.lasts e)
  pub main : IsLast role (1 + length b.rows) [] itself (slice_index b.lasts 0)
  pub cells : (c : ℕ) → c < length b.mains → IsLast role (1 + length b.rows) [] (on c) (slice_index b.mains c)

-- The site of a row, and the last row on it below a parent.
abbrev pub site_for : Option ℕ → Site
site_for None = itself
site_for (Some c) = on c

abbrev pub last_in : List ℕ → List ℕ → ℕ → Option ℕ → ℕ
last_in lasts mains zero None = slice_index lasts 0
last_in lasts mains zero (Some c) = slice_index mains c
last_in lasts mains (suc p) c = slice_index lasts (suc p)

abbrev pub last_for : Contents → ℕ → Option ℕ → ℕ
last_for b p c = last_in b.lasts b.mains p c

-- Where a row stands.
abbrev pub behind : ℕ → ℕ → After
behind zero zero = FirstOfMain
behind (suc p) zero = FirstOf (suc p)
behind p (suc o) = Sibling (suc o)

abbrev pub info_of : NewRow → EntryInfo
info_of w = record { mode = w.mode; strong = w.strong; depth = w.depth; parent = w.parent; task = w.task }

-- The new row of a book.
abbrev pub row_for : Contents → NewRow → Row
row_for b w = record { info = info_of w; after = behind w.parent (last_for b w.parent w.cell); given = w.given }

-- The lists of last rows, where the entry e is the last below a parent.
abbrev pub lasts_with : List ℕ → ℕ → Option ℕ → ℕ → List ℕ
lasts_with lasts zero (Some c) e = lasts
lasts_with lasts zero None e = set lasts 0 e
lasts_with lasts (suc p) c e = set lasts (suc p) e

abbrev pub mains_with : List ℕ → ℕ → Option ℕ → ℕ → List ℕ
mains_with mains zero (Some c) e = set mains c e
mains_with mains zero None e = mains
mains_with mains (suc p) c e = mains

-- The book with one row more.
abbrev pub grown : Contents → NewRow → Contents
grown b w = record {
  rows = b.rows ++ row_for b w ∷ [];
  lasts = lasts_with b.lasts w.parent w.cell (1 + length b.rows) ++ 0 ∷ [];
  mains = mains_with b.mains w.parent w.cell (1 + length b.rows);
}

-- The roles with one more.
abbrev pub and_role : (ℕ → Option Role) → ℕ → Role → ℕ → Option Role
and_role role e r f = cond (f == e) (Some r) (role f)

-- The task of the entry e: the entry is its own, or its own has a row.
pub data IsTask (role : ℕ → Option Role) (e : ℕ) (r : Role) : Type 0 where
  own : r.site ≡ itself → r.task ≡ e → IsTask role e r
  other : (q : Role) → role r.task ≡ Some q → q.path ≡ r.path → q.site ≡ itself → IsTask role e r

-- The new row is that of the role, which stands behind all siblings that have rows on its site; and the entry above has its row.
pub record IsNew (b : Contents) (role : ℕ → Option Role) (w : NewRow) (r : Role) : Type 0 where
  pub index : ℕ
  pub above_path : List ℕ
  pub path : r.path ≡ index ∷ above_path
  pub site : r.site ≡ site_for w.cell
  pub mode : w.mode ≡ r.mode
  pub strong : w.strong ≡ r.strong
  pub task : w.task ≡ r.task
  pub depth : w.depth ≡ length r.path
  pub shallow : length r.path ≤ 64
  pub counts : r.counts ≡ waits (row_for b w)
  pub cell : (c : ℕ) → w.cell ≡ Some c → c < length b.mains
  pub later : (f : ℕ) (x : Role) (j : ℕ) → role f ≡ Some x → x.path ≡ j ∷ above_path → x.site ≡ r.site → j < index
  pub above : IsAbove role (1 + length b.rows) r above_path w.parent
  pub of_task : IsTask role (1 + length b.rows) r

-- A book with one row more has the roles with one more.
abbrev pub GrownBooksAreBooked : Type 0
GrownBooksAreBooked = (b : Contents) (role : ℕ → Option Role) (w : NewRow) (r : Role)
    → IsBooked b role → IsNew b role w r → IsBooked (grown b w) (and_role role (1 + length b.rows) r)

-- The last children that are told of the task at the path p are those of the book.
abbrev pub or_zero : Option ℕ → ℕ
or_zero None = 0
or_zero (Some o) = o

abbrev pub TellsLast : Contents → (ℕ → Option Role) → List ℕ → (Site → Option ℕ) → Type 0
TellsLast b role p last = (y : Site) → IsLast role (1 + length b.rows) p y (or_zero (last y)) × (last y ≢ Some 0)

-- In the net of the rows they are the last that hang, whatever seats make.
abbrev pub ToldAreLast : Type 0 → Type 0
ToldAreLast S = (b : Contents) (role : ℕ → Option Role) (n : ℕ) (ws : List ℕ) (sights : List (Sight S)) (p : List ℕ) (last : Site → Option ℕ)
    → IsBooked b role → (filed : IsFiled n b.rows ws) → TellsLast b role p last
    → AreLast sights filed.net role p last
