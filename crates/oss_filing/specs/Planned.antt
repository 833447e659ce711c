-- Rows that are those of the entries of tasks: whose, for what, and where they stand among those of their siblings and of the task above.
-- Read against: the rows 1 to 7 of `Rows`. The paths are 0 ∷ [] of 1, 2 and 3, 0 ∷ 0 ∷ [] of 4 and 5, and 1 ∷ [] of 6 and 7; the sites are the tasks
-- themselves for 1, 4 and 6, and cells for the others. 5 stands below 3, which is that of the task above on cell 5; 7 stands behind 2, since no row
-- between them is that of a child of main on cell 4. The count of 6 waits for a flag of 7 if 7 is strong and no reduction, and does not wait for 2,
-- which begins a list of main.
use Rattle.std.specs.Prelude.{◌≡◌, ◌≢◌, ◌⊎◌, ◌<◌, ◌≤◌, ℕ, Bool, true, false, not, ◌&&◌, List, [], ◌∷◌, length, Option, Some, None}
use Rattle.oss_syntax.specs.declared.access.Mode.{Mode}
use Rattle.oss_syntax.specs.declared.access.Mode.TheVariants.{Read, Write, Fold}
use Rattle.oss_words.specs.declared.entry.After.{After}
use Rattle.oss_words.specs.declared.entry.After.TheVariants.{FirstOf, FirstOfMain, Sibling}
use Rattle.oss_roles.specs.Roles.{Role, Site, itself}
use Rattle.oss_filing.specs.declared.row.Row.{Row}
use Rattle.oss_filing.specs.Rows.{row_of}

-- It is a reduction; it begins a list of main.
abbrev pub is_fold : Mode → Bool
is_fold Read = false
is_fold Write = false
is_fold (Fold op) = true

abbrev pub is_top : After → Bool
is_top FirstOfMain = true
is_top (FirstOf p) = false
is_top (Sibling o) = false

-- The count of its task waits for a flag of it: it is strong and no reduction, and does not begin a list of main.
abbrev pub waits : Row → Bool
waits r = r.info.strong && (not (is_fold r.info.mode) && not (is_top r.after))

-- The entry above that of the number e: of main there is none, and else it is that of the task above on the same site, whose mode covers that of e.
pub data IsAbove (role : ℕ → Option Role) (e : ℕ) (r : Role) (p : List ℕ) (parent : ℕ) : Type 0 where
  of_main : p ≡ [] → parent ≡ 0 → IsAbove role e r p parent
  of_task : (q : Role) → role parent ≡ Some q → q.path ≡ p → q.site ≡ r.site → (q.mode ≡ Write) ⊎ (q.mode ≡ r.mode) → parent < e
      → IsAbove role e r p parent

-- No row before e is that of a sibling on this site.
abbrev pub NoneBefore : (ℕ → Option Role) → ℕ → List ℕ → Site → Type 0
NoneBefore role e p y = (f : ℕ) (x : Role) (j : ℕ) → f < e → role f ≡ Some x → x.path ≡ j ∷ p → x.site ≡ y → ⊥

-- The entry o is that of the sibling before, of all whose rows stand before e.
pub record IsNext (role : ℕ → Option Role) (e : ℕ) (r : Role) (k : ℕ) (p : List ℕ) (o : ℕ) : Type 0 where
  pub it : Role
  pub index : ℕ
  pub is : role o ≡ Some it
  pub before : o < e
  pub path : it.path ≡ index ∷ p
  pub site : it.site ≡ r.site
  pub less : index < k
  pub last : (f : ℕ) (x : Role) (j : ℕ) → f < e → role f ≡ Some x → x.path ≡ j ∷ p → x.site ≡ r.site → (f ≡ o) ⊎ (j < index)

-- Where the entry stands.
abbrev pub StandsAt : (ℕ → Option Role) → ℕ → Role → ℕ → List ℕ → ℕ → After → Type 0
StandsAt role e r k p parent FirstOfMain = (p ≡ []) × NoneBefore role e p r.site
StandsAt role e r k p parent (FirstOf o) = (parent ≡ o) × (o ≢ 0) × NoneBefore role e p r.site
StandsAt role e r k p parent (Sibling o) = IsNext role e r k p o

-- The row of the number e is that of this role.
pub record IsRowOf (role : ℕ → Option Role) (e : ℕ) (row : Row) (r : Role) : Type 0 where
  pub index : ℕ
  pub above_path : List ℕ
  pub path : r.path ≡ index ∷ above_path
  pub mode : row.info.mode ≡ r.mode
  pub strong : row.info.strong ≡ r.strong
  pub task : row.info.task ≡ r.task
  pub depth : row.info.depth ≡ length r.path
  pub shallow : length r.path ≤ 64
  pub counts : r.counts ≡ waits row
  pub above : IsAbove role e r above_path row.info.parent
  pub stands : StandsAt role e r index above_path row.info.parent row.after

-- The rows are those of these roles.
pub record ArePlanned (rows : List Row) (role : ℕ → Option Role) : Type 0 where
  pub main : role 0 ≡ None
  pub row : (e : ℕ) (r : Role) → role e ≡ Some r → (row : Row) × (row_of rows e ≡ Some row) × IsRowOf role e row r
  pub role_of : (e : ℕ) (row : Row) → row_of rows e ≡ Some row → (r : Role) × (role e ≡ Some r)
  -- no two have the same, and the task's number is that of its own entry
  pub one : (e f : ℕ) (r q : Role) → role e ≡ Some r → role f ≡ Some q → r.path ≡ q.path → r.site ≡ q.site → e ≡ f
  pub number : (e : ℕ) (r : Role) → role e ≡ Some r → (q : Role) × (role r.task ≡ Some q) × (q.path ≡ r.path) × (q.site ≡ itself)
