-- Slots after each change of what is kept.
use Rattle.std.proofs.Common.{◌≡◌, ◌≤◌, ◌<◌, ◌+◌, ◌-◌, ℕ, refl, sym, ◌∙◌, List, ◌++◌, length, arith, Bool, true, false, Some, if◌then◌else◌}
use Rattle.std.specs.Prelude.{slice_set}
use Rattle.std.proofs.lemmas.Bool.Decides.{nat_tests}
use Rattle.std.proofs.lemmas.List.{length-append, length-set}
use Rattle.oss_ranges.specs.Cells.{Assigns, is_within, value_at}
use Rattle.oss_ranges.specs.declared.piece.Piece.{Piece}
use Rattle.oss_slots.specs.Slots.{IsHoused, place_of}
use Rattle.oss_slots.specs.declared.home.Home.{Home}

-- a range that was given to a home, and what it kept of another cell
data Found (lo hi : ℕ) (home : Home) (old : List (Piece Home)) (cell : ℕ) (found : Home) : Type 0 where
  here : lo ≤ cell → cell < hi → found ≡ home → Found lo hi home old cell found
  before : value_at old cell ≡ Some found → Found lo hi home old cell found

found_in : (lo hi : ℕ) (home : Home) (old new : List (Piece Home)) → Assigns lo hi (Some home) old new → (cell : ℕ) (found : Home) → value_at new cell ≡ Some found → Found lo hi home old cell found
found_in lo hi home old new assigns cell found e = by (is_within lo hi cell) refl (sym (assigns cell) ∙ e) where
  by : (t : Bool) → is_within lo hi cell ≡ t → (if t then Some home else value_at old cell) ≡ Some found → Found lo hi home old cell found
  by true w f = here (grind (arith, nat_tests)) (grind (arith, nat_tests)) cc
  by false w f = before f

module _ (values more : List ℕ) (lo hi : ℕ) (home : Home) (begins : home.lo ≡ lo) (behind : home.first ≡ length values) (room : length more ≡ hi - lo) (old new : List (Piece Home)) (assigns : Assigns lo hi (Some home) old new) (housed : IsHoused old values) where
  longer : length (values ++ more) ≡ length values + length more
  longer = length-append values more

  place_here : (cell : ℕ) → lo ≤ cell → place_of home cell ≡ length values + (cell - lo)
  place_here cell low = rw (behind, begins) refl

  within_more : (cell : ℕ) (found : Home) → Found lo hi home old cell found → (found.lo ≤ cell) × (place_of found cell < length (values ++ more))
  within_more cell found (here low high e) = rw e (let n = longer in let p = place_here cell low in (omega arith, omega arith))
  within_more cell found (before e) = let w = housed.within cell found e in let low = w.0 in let high = w.1 in let n = longer in (low, omega arith)

  apart_more : (cell other : ℕ) (found neighbour : Home) → Found lo hi home old cell found → Found lo hi home old other neighbour → place_of found cell ≡ place_of neighbour other → cell ≡ other
  apart_more cell other found neighbour (here low high e) (here below above f) same =
      let s : place_of home cell ≡ place_of home other = rw (e, f) at same in
      let p = place_here cell low in let q = place_here other below in omega arith
  apart_more cell other found neighbour (here low high e) (before f) same =
      let s : place_of home cell ≡ place_of neighbour other = rw e at same in
      let p = place_here cell low in let w = (housed.within other neighbour f).1 in absurd (omega arith)
  apart_more cell other found neighbour (before e) (here below above f) same =
      let s : place_of found cell ≡ place_of home other = rw f at same in
      let p = place_here other below in let w = (housed.within cell found e).1 in absurd (omega arith)
  apart_more cell other found neighbour (before e) (before f) same = housed.apart cell other found neighbour e f same

  pub housed_added : IsHoused new (values ++ more)
  housed_added = record {
    within = λ cell found e. within_more cell found (found_in lo hi home old new assigns cell found e);
    apart = λ cell other found neighbour e f. apart_more cell other found neighbour (found_in lo hi home old new assigns cell found e) (found_in lo hi home old new assigns other neighbour f);
  }

-- values behind those that are there leave each its own
pub housed_longer : (homes : List (Piece Home)) (values more : List ℕ) → IsHoused homes values → IsHoused homes (values ++ more)
housed_longer homes values more housed = record {
  within = λ cell home e. let w = housed.within cell home e in (w.0, (let high = w.1 in omega (arith, length-append values more)));
  apart = housed.apart;
}

-- another value in place of one
pub housed_set : (homes : List (Piece Home)) (values : List ℕ) (place value : ℕ) → IsHoused homes values → IsHoused homes (slice_set values place value)
housed_set homes values place value housed = record {
  within = λ cell home e. let w = housed.within cell home e in (w.0, (let high = w.1 in omega (arith, length-set values place value)));
  apart = housed.apart;
}
