-- What the tests keep of a seat between its calls: a row of siblings below a weak access, and entries that are given up one after the other.
-- Read against: the first seat of a net of 4 entries drew 1, 2 and 3, links 1 below main, 2 below 1 and 3 behind 2. Its links are the chain of 1
-- with two siblings: (3, after 2), (2, first 1) and (1, top). It gives up 1, and hands 2 to one seat and 3 to another: each of these may give
-- up its entry, since the one give that it knows is below that.
use Rattle.std.specs.Prelude.{◌≡◌, ◌<◌, ◌≤◌, ◌+◌, ℕ, zero, suc, true, false, List, [], ◌∷◌}
use Rattle.oss_syntax.specs.declared.access.Mode.TheVariants.{Write}
use Rattle.atomic_table.specs.Seated.{TableId}
use Rattle.oss_words.specs.declared.entry.EntryInfo.{EntryInfo}
use Rattle.oss_words.specs.Net.{Place, top, first, after}
use Rattle.oss_words.specs.Views.{Hung, Among}
use Rattle.oss_word_net.specs.Calls.{Carries}
use Rattle.oss_word_net.specs.Known.{Known}
use Rattle.oss_word_net.specs.Standing.{Standing}

-- Where the sibling of this number stands, from 0, below the entry t.
abbrev pub spot : ℕ → ℕ → Place
spot t zero = first t
spot t (suc n) = after (t + suc n)

-- The links of the entry t and of so many siblings below it, which are the entries behind it.
abbrev pub chain : ℕ → ℕ → List Hung
chain t zero = record { entry = t + 0; place = top } ∷ []
chain t (suc n) = record { entry = t + suc n; place = spot t n } ∷ chain t n

-- The info of the weak access.
abbrev pub info_above : EntryInfo
info_above = record { mode = Write; strong = false; depth = 1; parent = 0; task = 1 }

-- And of a sibling below it.
abbrev pub info_below : ℕ → EntryInfo
info_below t = record { mode = Write; strong = true; depth = 2; parent = t; task = 2 }

-- The info of the entry that was linked last.
abbrev pub latest : ℕ → ℕ → EntryInfo
latest t zero = info_above
latest t (suc n) = info_below t

-- The seat holds nothing, and has linked the entry t and n siblings below it. It owns these, and the entries behind them up to t + m.
pub record Row (k : Known) (t n m : ℕ) : Type 0 where
  pub empty : k.view.held ≡ []
  pub main : 0 < t
  pub own : (e : ℕ) → t ≤ e → e ≤ t + m → Among e k.view.owned
  pub links : k.view.links ≡ chain t n
  pub gives : k.view.gives ≡ []
  pub told : Among (record { entry = t; info = info_above }) k.told
  pub last : Among (record { entry = t + n; info = latest t n }) k.told
  pub parts : k.view.parts ≡ 65537
  pub splits : k.view.splits ≡ 0

-- Deliveries leave links and gives as they were.
pub record Keeps (a b : Known) : Type 0 where
  pub carries : Carries a b
  pub links : b.view.links ≡ a.view.links
  pub gives : b.view.gives ≡ a.view.gives

-- The seat holds nothing, and may give up the entries from one on and below another, in their order.
pub record ToGive (k : Known) (start end : ℕ) : Type 0 where
  pub empty : k.view.held ≡ []
  pub own : (e : ℕ) → start ≤ e → e < end → Among e k.view.owned
  pub linked : (e : ℕ) → start ≤ e → e < end → (p : Place) × Among (record { entry = e; place = p }) k.view.links
  pub ungiven : (e : ℕ) → Among e k.view.gives → e < start

-- The list has the numbers from one on and below another, and no others.
pub record Spans (xs : List ℕ) (start end : ℕ) : Type 0 where
  pub inside : (e : ℕ) → Among e xs → (start ≤ e) × (e < end)
  pub all : (e : ℕ) → start ≤ e → e < end → Among e xs

-- A seat that was split off for these entries.
pub record Parted (d : TableId) (s : Standing) (start end : ℕ) : Type 0 where
  pub net : s.net ≡ d
  pub may : ToGive s.known start end
  pub parts : s.known.view.parts ≡ 1
  pub splits : s.known.view.splits ≡ 0

-- A seat that comes back from its thread.
pub record Back (d : TableId) (s : Standing) : Type 0 where
  pub net : s.net ≡ d
  pub empty : s.known.view.held ≡ []
  pub parts : s.known.view.parts ≡ 1
  pub splits : s.known.view.splits ≡ 0
