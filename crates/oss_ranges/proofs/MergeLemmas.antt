-- All pieces joined that touch and have one value, from the front on.
use Rattle.std.specs.Prelude.{◌≡◌, ◌≢◌, ◌≤◌, ◌<◌, ◌==◌, ℕ, Bool, true, false, ◌&&◌, nat_lt, if◌then◌else◌, List, [], ◌∷◌, Some, None, refl}
use Rattle.std.proofs.Common.{sym, subst, arith}
use Rattle.std.proofs.lemmas.Bool.Decides.{nat_tests}
use Rattle.oss_ranges.proofs.CutLemmas.{next_within}
use Rattle.oss_ranges.proofs.JoinLemmas.{front_alone, joined_behind}
use Rattle.oss_ranges.specs.Cells.{front_joined, IsApart, IsMerged, joined_at, next_of, Rises}
use Rattle.oss_ranges.specs.declared.piece.Piece.{Piece}

-- a test of three parts that fails by its last
and_last : (x y z : Bool) → ((x && y) && z) ≡ false → x ≡ true → y ≡ true → z ≡ false
and_last x y z e f g = rw (f, g) at e

equals : (m n : ℕ) → m ≡ n → (m == n) ≡ true
equals m n e = grind (arith, nat_tests)

module _ {T : Type 0} (same : T → T → Bool) where
  -- the pieces that end at a cell or before it touch no other of their value
  abbrev pub IsMergedTo : ℕ → List (Piece T) → Type 0
  IsMergedTo cell [] = Unit {0}
  IsMergedTo cell (p ∷ rest) = (p.hi ≤ cell → IsApart same p rest) × IsMergedTo cell rest

  pub merged_behind : (a b cell : ℕ) (xs : List (Piece T)) → Rises a xs b → cell ≤ a → IsMergedTo cell xs
  merged_behind a b cell [] h e = tt
  merged_behind a b cell (p ∷ rest) h e =
      let low = h.0 in let own = h.1 in ((λ k. absurd (omega arith)), merged_behind p.hi b cell rest h.2 (omega arith))

  pub merged_all : (cell : ℕ) (xs : List (Piece T)) → next_of cell xs ≡ None → IsMergedTo cell xs → IsMerged same xs
  merged_all cell [] e h = tt
  merged_all cell (p ∷ rest) e h = by (nat_lt cell p.hi) refl e (λ k. merged_all cell rest k h.1) where
    by : (t : Bool) → nat_lt cell p.hi ≡ t → (if t then Some p else next_of cell rest) ≡ None → (next_of cell rest ≡ None → IsMerged same rest) → IsMerged same (p ∷ rest)
    by true w k more = cc
    by false w k more = (h.0 (grind (arith, nat_tests)), more k)

  -- joining leaves the front of the first piece and its value
  apart_joined : (cell : ℕ) (p : Piece T) (xs : List (Piece T)) → IsApart same p xs → IsApart same p (joined_at same cell xs)
  apart_joined cell p [] h = tt
  apart_joined cell p (q ∷ []) h = h
  apart_joined cell p (q ∷ r ∷ rest) h = by ((q.hi == cell && r.lo == cell) && same q.value r.value) where
    by : (t : Bool) → IsApart same p (front_joined (if t then Some (record q { hi = r.hi }) else None) q (r ∷ rest) (joined_at same cell (r ∷ rest)))
    by true = h
    by false = h

  pub merged_step : (a b cell : ℕ) (p : Piece T) (xs : List (Piece T)) → Rises a xs b → next_of cell xs ≡ Some p → IsMergedTo cell xs → IsMergedTo p.hi (joined_at same p.hi xs)
  merged_step a b cell p [] h e m = tt
  merged_step a b cell p (q ∷ rest) h e m = by (nat_lt cell q.hi) refl e (λ k. merged_step q.hi b cell p rest h.2 k m.1) where
    at : (all : List (Piece T)) → Rises q.hi all b → IsMergedTo q.hi (joined_at same q.hi (q ∷ all))
    at [] k = ((λ i. tt), tt)
    at (r ∷ others) k = pick ((q.hi == q.hi && r.lo == q.hi) && same q.value r.value) refl where
      behind : joined_at same q.hi (r ∷ others) ≡ r ∷ others
      behind = joined_behind same q.hi b q.hi (r ∷ others) k (omega arith)

      untouched : ((q.hi == q.hi && r.lo == q.hi) && same q.value r.value) ≡ false → q.hi ≡ r.lo → same q.value r.value ≡ false
      untouched w i = and_last (q.hi == q.hi) (r.lo == q.hi) (same q.value r.value) w (equals q.hi q.hi refl) (equals r.lo q.hi (sym i))

      pick : (t : Bool) → ((q.hi == q.hi && r.lo == q.hi) && same q.value r.value) ≡ t → IsMergedTo q.hi (front_joined (if t then Some (record q { hi = r.hi }) else None) q (r ∷ others) (joined_at same q.hi (r ∷ others)))
      pick true w = ((λ i. absurd (let low = k.0 in let own = k.1 in omega arith)), merged_behind r.hi b q.hi others k.2 (let low = k.0 in let own = k.1 in omega arith))
      pick false w = rw behind ((λ i. untouched w), merged_behind q.hi b q.hi (r ∷ others) k (omega arith))

    by : (t : Bool) → nat_lt cell q.hi ≡ t → (if t then Some q else next_of cell rest) ≡ Some p → (next_of cell rest ≡ Some p → IsMergedTo p.hi (joined_at same p.hi rest)) → IsMergedTo p.hi (joined_at same p.hi (q ∷ rest))
    by true w k more = let is : q ≡ p = cc in subst (λ z. IsMergedTo z.hi (joined_at same z.hi (q ∷ rest))) is (at rest h.2)
    by false w k more =
        let past : q.hi ≤ cell = grind (arith, nat_tests) in
        let found = next_within q.hi b cell p rest h.2 k in
        let before : cell < p.hi = found.3 in
        let apart : q.hi ≢ p.hi = (λ i. omega arith) in
        rw (front_alone same p.hi q rest apart) ((λ i. apart_joined p.hi q rest (m.0 past)), more k)
