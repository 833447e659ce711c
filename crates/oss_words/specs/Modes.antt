-- What the words know of modes, depths and starts: what the info word tells, what the bits beside a link compare, and what an entry has
-- from its place alone.
-- Read against: 1 is a write and the first of a list of main, so it starts with reads, folds, writes and clear; its first child 2 is a
-- reduction by +, so 1 has child_folds and not child_same, and 2 starts with clear; 3 behind 2 is the same reduction, so 2 has next_folds
-- and next_same. If 3 were a reduction by ^, 2 would have next_folds alone.
use Rattle.std.specs.Prelude.{◌≡◌, ◌≢◌, ◌⊎◌, ◌<◌, ◌≤◌, ℕ, true, false, List, ◌∷◌}
use Rattle.oss_syntax.specs.declared.access.Op.{Op}
use Rattle.oss_syntax.specs.declared.access.Mode.TheVariants.{Write, Fold}
use Rattle.oss_words.specs.declared.entry.EntryState.{EntryState}
use Rattle.oss_words.specs.declared.entry.EntryInfo.{EntryInfo}
use Rattle.oss_words.specs.Net.{Net, apart, top, first, after, Child}
use Rattle.oss_words.specs.Causes.{has_sibling, is_last, is_fold}
use Rattle.oss_words.specs.Views.{View, At}

-- The info word tells mode and depth, the bits beside a link compare modes, and a parent's mode covers its children's: below a reduction
-- all accesses are that reduction. No entry lies deeper than 64.
pub record Modes (n : ℕ) (net : Net) (states : ℕ → EntryState) (infos : ℕ → EntryInfo) : Type 0 where
  pub mode : (e : ℕ) → net.place e ≢ apart → (infos e).mode ≡ net.mode e
  pub depth : (e : ℕ) → net.place e ≢ apart → (infos e).depth ≡ net.depth e
  pub shallow : (e : ℕ) → net.depth e ≤ 64
  pub next_folds : (e : ℕ) → e < n → has_sibling (states e) (infos e) ≡ true → (states e).next_folds ≡ is_fold (net.mode (states e).next)
  pub next_same : (e : ℕ) → e < n → has_sibling (states e) (infos e) ≡ true → (states e).next_same ≡ true → net.mode (states e).next ≡ net.mode e
  pub next_other : (e : ℕ) → e < n → has_sibling (states e) (infos e) ≡ true → (states e).next_same ≡ false → (op : Op) → net.mode (states e).next ≡ Fold op → net.mode (states e).next ≢ net.mode e
  pub child_folds : (e : ℕ) → e < n → (states e).headed ≡ true → (states e).child_folds ≡ is_fold (net.mode (states e).child)
  pub child_same : (e : ℕ) → e < n → (states e).headed ≡ true → (states e).child_same ≡ true → net.mode (states e).child ≡ net.mode e
  pub child_other : (e : ℕ) → e < n → (states e).headed ≡ true → (states e).child_same ≡ false → (op : Op) → net.mode (states e).child ≡ Fold op → net.mode (states e).child ≢ net.mode e
  pub covers : (p e : ℕ) → Child net.place p e → (net.mode p ≡ Write) ⊎ (net.mode p ≡ net.mode e)
  -- what has a link hangs
  pub sources : (e : ℕ) → e < n → ((states e).linked ≡ true) ⊎ ((states e).headed ≡ true) → net.place e ≢ apart

-- An entry that was given up while it had children: its last child leads to it, or some seat is between the give and that link.
pub data Closed (n : ℕ) (net : Net) (states : ℕ → EntryState) (infos : ℕ → EntryInfo) (views : List View) (e : ℕ) : Type 0 where
  risen : net.last e < n → is_last (states (net.last e)) (infos (net.last e)) ≡ true → Closed n net states infos views e
  rising : (id : ℕ) (v : View) → At views id v → (xs : List ℕ) → v.half ≡ e ∷ xs → Closed n net states infos views e

-- What an entry has from its place alone, and that what hangs is linked to.
pub record Starts (n : ℕ) (net : Net) (states : ℕ → EntryState) (infos : ℕ → EntryInfo) (views : List View) : Type 0 where
  -- a child's number is above its parent's
  pub above : (p e : ℕ) → net.place e ≡ first p → p < e
  pub top_reads : (e : ℕ) → net.place e ≡ top → (states e).reads ≡ true
  pub top_writes : (e : ℕ) → net.place e ≡ top → (states e).writes ≡ true
  pub top_folds : (e : ℕ) → net.place e ≡ top → (states e).folds ≡ true
  pub top_clear : (e : ℕ) → net.place e ≡ top → (states e).clear ≡ true
  pub first_clear : (p e : ℕ) → net.place e ≡ first p → (states e).clear ≡ true
  -- with no children, done is set with the give
  pub childless : (e : ℕ) → e < n → (states e).given ≡ true → (states e).headed ≡ false → (states e).done ≡ true
  pub closed : (e : ℕ) → e < n → (states e).given ≡ true → (states e).headed ≡ true → Closed n net states infos views e
  pub next_is : (s e : ℕ) → net.place e ≡ after s → (has_sibling (states s) (infos s) ≡ true) × ((states s).next ≡ e)
  pub first_is : (p e : ℕ) → net.place e ≡ first p → ((states p).headed ≡ true) × ((states p).child ≡ e)
