-- The walks along the lists of a cell, by the rows of its table.
use Rattle.std.proofs.Common.{◌≡◌, ℕ, ◌<◌, refl, sym, subst, ◌∙◌, ◌⊎◌, inl, inr, Bool, true, false, List, length, arith, eq-eqb, eqb-true}
use Rattle.std.specs.Prelude.{◌==◌}
use Rattle.oss_syntax.specs.declared.access.Mode.{Mode}
use Rattle.oss_access_lists.specs.declared.hang.Hang.{Hang}
use Rattle.oss_access_lists.specs.declared.marks.Marks.{Marks}
use Rattle.oss_access_lists.specs.Wires.{loose, first, after, IsBelow, head, tail}
use Rattle.oss_access_lists.specs.Flags.{AreAtRest, IsListed, is_over}
use Rattle.oss_access_lists.specs.Tables.{hang_at, marks_at, place_of, wires_of}
use Rattle.oss_access_lists.proofs.SoundLemmas.{below_not_main, same_after}
use Rattle.oss_access_lists.proofs.StepLemmas.{same_or}
use Rattle.oss_links.specs.Search.{IsInTheWay, IsUndoneUpTo, passes}
use Rattle.oss_links.proofs.SearchLemmas.{child_search_goes_back, search_ends, search_goes_back, search_goes_up}
use Rattle.oss_regions.specs.Walks.{IsWalking, IsWalkingIn}

test_false : (a b : ℕ) → (a ≡ b → ⊥) → (a == b) ≡ false
test_false a b n = go (a == b) refl
  where
    go : (t : Bool) → (a == b) ≡ t → t ≡ false
    go true e = absurd (n (eqb-true a b e))
    go false e = refl

-- an access that hangs in a list has such a row
hung_of : (hangs : List Hang) (v : ℕ) → IsListed (wires_of hangs) v → (hang_at hangs v).hung ≡ true
hung_of hangs v i = go (hang_at hangs v) i.1
  where
    bare : (h : Hang) → h.hung ≡ false → place_of h ≡ loose
    bare h e = rw e refl

    told : (h : Hang) (b : Bool) → h.hung ≡ b → (place_of h ≡ loose → ⊥) → b ≡ true
    told h true e n = refl
    told h false e n = absurd (n (bare h e))

    go : (h : Hang) → IsBelow (wires_of hangs).place i.0 v → (hang_at hangs v).hung ≡ true
    go h (head e) = told (hang_at hangs v) (hang_at hangs v).hung refl (λ k. let q = sym k ∙ e in cc)
    go h (tail e b) = told (hang_at hangs v) (hang_at hangs v).hung refl (λ k. let q = sym k ∙ e in cc)

first_place : (h : Hang) → h.hung ≡ true → h.before ≡ 0 → place_of h ≡ first h.above
first_place h e z = rw e (rw (eq-eqb h.before 0 z) refl)

next_place : (h : Hang) → h.hung ≡ true → (h.before ≡ 0 → ⊥) → place_of h ≡ after h.before
next_place h e n = rw e (rw (test_false h.before 0 n) refl)

module _ (hangs : List Hang) (stand : List Marks) (rest : AreAtRest (wires_of hangs) (marks_at stand)) (listed : (v : ℕ) → (v ≡ 0 → ⊥) → v < length hangs → IsListed (wires_of hangs) v) where
  -- the first of a list
  pub walks_up : (m : Mode) (at here : ℕ) → IsWalking hangs stand m at here → (hang_at hangs here).before ≡ 0 → IsWalking hangs stand m at (hang_at hangs here).above × ((hang_at hangs here).above < here)
  walks_up m at here is z =
      let h = hang_at hangs here in
      let s = search_goes_up (wires_of hangs) (marks_at stand) rest m at here h.above is.stopped (first_place h (hung_of hangs here (listed here is.stopped.not_main is.within)) z) in
      (record { stopped = s.0; within = omega (arith, s.1, is.within) }, s.1)

  place_here : (here : ℕ) → (here ≡ 0 → ⊥) → here < length hangs → ((hang_at hangs here).before ≡ 0 → ⊥) → (wires_of hangs).place here ≡ after (hang_at hangs here).before
  place_here here main within n = next_place (hang_at hangs here) (hung_of hangs here (listed here main within)) n

  -- past the one before
  pub walks_back : (m : Mode) (at here : ℕ) → IsWalking hangs stand m at here → ((hang_at hangs here).before ≡ 0 → ⊥)
      → passes m (hang_at hangs (hang_at hangs here).before).mode (marks_at stand (hang_at hangs here).before) ≡ true → IsWalking hangs stand m at (hang_at hangs here).before × ((hang_at hangs here).before < here)
  walks_back m at here is n h =
      let s = search_goes_back (wires_of hangs) (marks_at stand) rest m at here (hang_at hangs here).before is.stopped (place_here here is.stopped.not_main is.within n) h in
      (record { stopped = s.0; within = omega (arith, s.1, is.within) }, s.1)

  -- up to the one before
  pub walks_to : (m : Mode) (at here : ℕ) → IsWalking hangs stand m at here → ((hang_at hangs here).before ≡ 0 → ⊥)
      → passes m (hang_at hangs (hang_at hangs here).before).mode (marks_at stand (hang_at hangs here).before) ≡ false → IsInTheWay (wires_of hangs) (marks_at stand) m at (hang_at hangs here).before
  walks_to m at here is n h = search_ends (wires_of hangs) (marks_at stand) m at here (hang_at hangs here).before is.stopped (place_here here is.stopped.not_main is.within n) h

  -- the one before is of the table
  pub before_within : (here : ℕ) → (here ≡ 0 → ⊥) → here < length hangs → ((hang_at hangs here).before ≡ 0 → ⊥) → (hang_at hangs here).before < length hangs
  before_within here main within n =
      let s = rest.wired.behind (hang_at hangs here).before here (place_here here main within n) in omega (arith, s, within)

  -- back in a list of children
  pub walks_in : (p here : ℕ) → IsWalkingIn hangs stand p here → is_over (marks_at stand here) ≡ true → IsWalkingIn hangs stand p (hang_at hangs here).before × ((hang_at hangs here).before < here)
  walks_in p here is over = (subst (λ y. IsWalkingIn hangs stand p y) same (record { undone = s.2; within = omega (arith, s.3, is.within) }), subst (λ y. y < here) same s.3)
    where
      s : (u : ℕ) × ((wires_of hangs).place here ≡ after u) × IsUndoneUpTo (wires_of hangs) (marks_at stand) p u × (u < here)
      s = child_search_goes_back (wires_of hangs) (marks_at stand) rest p here is.undone over

      main : here ≡ 0 → ⊥
      main = below_not_main (wires_of hangs) rest.wired p here is.undone.below

      hung : (hang_at hangs here).hung ≡ true
      hung = hung_of hangs here (listed here main is.within)

      same : s.0 ≡ (hang_at hangs here).before
      same = go (same_or (hang_at hangs here).before 0)
        where
          go : ((hang_at hangs here).before ≡ 0) ⊎ ((hang_at hangs here).before ≡ 0 → ⊥) → s.0 ≡ (hang_at hangs here).before
          go (inl z) = absurd (let e = sym (first_place (hang_at hangs here) hung z) ∙ s.1 in cc)
          go (inr n) = same_after (sym s.1 ∙ next_place (hang_at hangs here) hung n)

  pub in_not_main : (p here : ℕ) → IsWalkingIn hangs stand p here → here ≡ 0 → ⊥
  in_not_main p here is = below_not_main (wires_of hangs) rest.wired p here is.undone.below
