-- The lists and the tree that the links between the entries make.
-- Read against: 1 begins a list of main and 2 hangs behind it; 3 is the first child of 1, and 4 hangs behind 3; 5 begins another list of main.
-- Of 1 to 5 the places are top, after 1, first 1, after 3 and top; the parents 0, 0, 1, 1 and 0; the leads 1, 1, 3, 3 and 5; the depths 1,
-- 1, 2, 2 and 1. The last child of 1 is 4. So 1 is an earlier sibling of 2 and not of 5, and 3 and 4 are children of 1.
use Rattle.std.specs.Prelude.{◌≡◌, ◌≢◌, ◌⊎◌, ◌<◌, ◌+◌, ℕ, Bool, true}
use Rattle.oss_syntax.specs.declared.access.Mode.{Mode}
use Rattle.oss_syntax.specs.declared.access.Mode.TheVariants.{Write}
use Rattle.oss_model.specs.Forest.{Forest}

-- Where an entry hangs: nowhere, first in a list of main's children, first below a parent, or behind a sibling.
pub data Place : Type 0 where
  apart : Place
  top : Place
  first : ℕ → Place
  after : ℕ → Place

-- What the links mean. Of an entry that hangs nowhere the other parts are free. Only a link changes it.
pub record Net : Type 0 where
  pub place : ℕ → Place
  pub parent : ℕ → ℕ
  -- the first entry of its list
  pub lead : ℕ → ℕ
  pub depth : ℕ → ℕ
  pub mode : ℕ → Mode
  -- its last child
  pub last : ℕ → ℕ

-- The net in which nothing hangs.
abbrev pub bare : Net
bare = record { place = λ e. apart; parent = λ e. 0; lead = λ e. e; depth = λ e. 0; mode = λ e. Write; last = λ e. 0 }

-- The first entry is an earlier sibling of the second.
pub data Earlier (place : ℕ → Place) (s : ℕ) : ℕ → Type 0 where
  next : {e : ℕ} → place e ≡ after s → Earlier place s e
  back : {t e : ℕ} → place e ≡ after t → Earlier place s t → Earlier place s e

-- The second entry is a child of the first.
pub data Child (place : ℕ → Place) (p : ℕ) : ℕ → Type 0 where
  eldest : {e : ℕ} → place e ≡ first p → Child place p e
  younger : {s e : ℕ} → place e ≡ after s → Child place p s → Child place p e

-- It is a child of main.
pub data Top (place : ℕ → Place) : ℕ → Type 0 where
  top_first : {e : ℕ} → place e ≡ top → Top place e
  top_after : {s e : ℕ} → place e ≡ after s → Top place s → Top place e

-- The forest of accesses that the links and the gives make.
abbrev pub forest : Net → (ℕ → Bool) → Forest ℕ
forest net gave = record {
  Top = Top net.place;
  Child = Child net.place;
  Earlier = Earlier net.place;
  mode = net.mode;
  Given = λ e. gave e ≡ true;
}

-- Lists have one parent and one depth and rise, what hangs below an entry is one deeper, and links lead to one entry.
pub record Shaped (net : Net) : Type 0 where
  pub under : (p e : ℕ) → net.place e ≡ first p → (net.parent e ≡ p) × (net.depth e ≡ 1 + net.depth p)
  pub behind : (s e : ℕ) → net.place e ≡ after s → net.lead e ≡ net.lead s
  pub heads : (e : ℕ) → ((s : ℕ) → net.place e ≢ after s) → net.lead e ≡ e
  pub rises : (s e : ℕ) → net.place e ≡ after s → s < e
  pub level : (a b : ℕ) → net.lead a ≡ net.lead b → (net.depth a ≡ net.depth b) × (net.parent a ≡ net.parent b)
  pub deeper : (e : ℕ) → 0 < net.depth e → net.depth e ≡ 1 + net.depth (net.parent e)
  pub hangs : (e : ℕ) → net.place e ≢ apart → 0 < net.depth e
  pub one_next : (s a b : ℕ) → net.place a ≡ after s → net.place b ≡ after s → a ≡ b
  pub one_first : (p a b : ℕ) → net.place a ≡ first p → net.place b ≡ first p → a ≡ b
  pub main : (net.place 0 ≡ apart) × (net.depth 0 ≡ 0)
  pub parent_is : (e : ℕ) → (net.parent e ≡ 0) ⊎ (net.place (net.parent e) ≢ apart)
  pub lead_is : (e : ℕ) → (net.lead e ≡ e) ⊎ (net.place (net.lead e) ≢ apart)
  pub hung : (s e : ℕ) → (net.place e ≡ after s) ⊎ (net.place e ≡ first s) → net.place s ≢ apart
  pub youngest : (p e : ℕ) → Child net.place p e → (e ≡ net.last p) ⊎ Earlier net.place e (net.last p)

-- Where the entry e is hung up: behind the last sibling, below a parent that has no child, or first in a list of main's children.
pub data How (net net' : Net) (e : ℕ) : Type 0 where
  behind_last : (o : ℕ) → net'.place e ≡ after o → net'.parent e ≡ net.parent o → net'.lead e ≡ net.lead o → net'.depth e ≡ net.depth o → o < e → net.place o ≢ apart → ((j : ℕ) → net.place j ≢ after o) → (net.parent o ≢ 0 → net.last (net.parent o) ≡ o) → How net net' e
  below_parent : (p : ℕ) → net'.place e ≡ first p → net'.parent e ≡ p → net'.lead e ≡ e → net'.depth e ≡ 1 + net.depth p → p ≢ e → net.place p ≢ apart → ((j : ℕ) → net.place j ≢ first p) → How net net' e
  first_of_main : net'.place e ≡ top → net'.parent e ≡ 0 → net'.lead e ≡ e → net'.depth e ≡ 1 → How net net' e

-- The second net is the first with the entry e hung up in it.
pub record Adds (net net' : Net) (e : ℕ) : Type 0 where
  pub fresh : net.place e ≡ apart
  pub not_main : e ≢ 0
  pub place : (j : ℕ) → j ≢ e → net'.place j ≡ net.place j
  pub parent : (j : ℕ) → j ≢ e → net'.parent j ≡ net.parent j
  pub lead : (j : ℕ) → j ≢ e → net'.lead j ≡ net.lead j
  pub depth : (j : ℕ) → j ≢ e → net'.depth j ≡ net.depth j
  pub mode : (j : ℕ) → j ≢ e → net'.mode j ≡ net.mode j
  pub last : (q : ℕ) → q ≢ net'.parent e → net'.last q ≡ net.last q
  pub newest : net'.last (net'.parent e) ≡ e
  pub how : How net net' e
