-- Where pieces begin and end.
use Rattle.std.specs.Prelude.{◌≡◌, ◌⊎◌, ℕ, Bool, true, false, nat_lt, ◌&&◌, min, if◌then◌else◌, List, [], ◌∷◌, Some}
use Rattle.std.proofs.Common.{sym, ap, subst, arith, inl, inr}
use Rattle.oss_ranges.specs.Cells.{cut_at, EdgesFrom, inserted, IsEdge, next_of, outside}
use Rattle.oss_ranges.specs.declared.piece.Piece.{Piece}

least : (a b : ℕ) → (min a b ≡ a) ⊎ (min a b ≡ b)
least a b = grind arith

module _ {T : Type 0} where
  -- the first piece behind a cell has its edges among those of all
  pub edges_next : (cell : ℕ) (p : Piece T) (xs : List (Piece T)) → next_of cell xs ≡ Some p → IsEdge p.lo xs × IsEdge p.hi xs
  edges_next cell p [] e = cc
  edges_next cell p (q ∷ rest) e = by (nat_lt cell q.hi) e (λ k. edges_next cell p rest k) where
    by : (t : Bool) → (if t then Some q else next_of cell rest) ≡ Some p → (next_of cell rest ≡ Some p → IsEdge p.lo rest × IsEdge p.hi rest) → IsEdge p.lo (q ∷ rest) × IsEdge p.hi (q ∷ rest)
    by true k more = let same : p ≡ q = cc in (inl (ap (λ (x : Piece T). x.lo) same), inr (inl (ap (λ (x : Piece T). x.hi) same)))
    by false k more = let m = more k in (inr (inr m.0), inr (inr m.1))

  -- the lower one of an edge and a cell
  pub edge_least : (edge to : ℕ) (xs : List (Piece T)) → IsEdge edge xs → (min edge to ≡ to) ⊎ IsEdge (min edge to) xs
  edge_least edge to xs h = by (least edge to) where
    by : (min edge to ≡ edge) ⊎ (min edge to ≡ to) → (min edge to ≡ to) ⊎ IsEdge (min edge to) xs
    by (inl e) = inr (subst (λ (c : ℕ). IsEdge c xs) (sym e) h)
    by (inr e) = inl e

  -- the edges behind the first piece
  edge_later : {A : Type 0} (cell : ℕ) (p : Piece T) (rest : List (Piece T)) → A ⊎ IsEdge cell rest → A ⊎ IsEdge cell (p ∷ rest)
  edge_later cell p rest (inl a) = inl a
  edge_later cell p rest (inr k) = inr (inr (inr k))

  pub edge_cut : (cell other : ℕ) (xs : List (Piece T)) → IsEdge other (cut_at cell xs) → (other ≡ cell) ⊎ IsEdge other xs
  edge_cut cell other [] h = inr h
  edge_cut cell other (p ∷ rest) h = by (nat_lt cell p.hi) (nat_lt p.lo cell) h (λ k. edge_cut cell other rest k) where
    by : (t u : Bool) → IsEdge other (if t then (if u then record p { hi = cell } ∷ record p { lo = cell } ∷ rest else p ∷ rest) else p ∷ cut_at cell rest)
        → (IsEdge other (cut_at cell rest) → (other ≡ cell) ⊎ IsEdge other rest) → (other ≡ cell) ⊎ IsEdge other (p ∷ rest)
    by true true (inl e) more = inr (inl e)
    by true true (inr (inl e)) more = inl e
    by true true (inr (inr (inl e))) more = inl e
    by true true (inr (inr (inr (inl e)))) more = inr (inr (inl e))
    by true true (inr (inr (inr (inr k)))) more = inr (inr (inr k))
    by true false k more = inr k
    by false u (inl e) more = inr (inl e)
    by false u (inr (inl e)) more = inr (inr (inl e))
    by false u (inr (inr k)) more = edge_later other p rest (more k)

  pub edge_outside : (other lo hi : ℕ) (xs : List (Piece T)) → IsEdge other (outside lo hi xs) → IsEdge other xs
  edge_outside other lo hi [] h = h
  edge_outside other lo hi (p ∷ rest) h = by (nat_lt lo p.hi && nat_lt p.lo hi) h (λ k. edge_outside other lo hi rest k) where
    by : (t : Bool) → IsEdge other (if t then outside lo hi rest else p ∷ outside lo hi rest) → (IsEdge other (outside lo hi rest) → IsEdge other rest) → IsEdge other (p ∷ rest)
    by true k more = inr (inr (more k))
    by false (inl e) more = inl e
    by false (inr (inl e)) more = inr (inl e)
    by false (inr (inr k)) more = inr (inr (more k))

  pub edge_inserted : (other : ℕ) (p : Piece T) (xs : List (Piece T)) → IsEdge other (inserted p xs) → (other ≡ p.lo) ⊎ (other ≡ p.hi) ⊎ IsEdge other xs
  edge_inserted other p [] h = h
  edge_inserted other p (q ∷ rest) h = by (nat_lt p.lo q.lo) h (λ k. edge_inserted other p rest k) where
    later : (other ≡ p.lo) ⊎ (other ≡ p.hi) ⊎ IsEdge other rest → (other ≡ p.lo) ⊎ (other ≡ p.hi) ⊎ IsEdge other (q ∷ rest)
    later (inl e) = inl e
    later (inr k) = inr (edge_later other q rest k)

    by : (t : Bool) → IsEdge other (if t then p ∷ q ∷ rest else q ∷ inserted p rest) → (IsEdge other (inserted p rest) → (other ≡ p.lo) ⊎ (other ≡ p.hi) ⊎ IsEdge other rest) → (other ≡ p.lo) ⊎ (other ≡ p.hi) ⊎ IsEdge other (q ∷ rest)
    by true k more = k
    by false (inl e) more = inr (inr (inl e))
    by false (inr (inl e)) more = inr (inr (inr (inl e)))
    by false (inr (inr k)) more = later (more k)

  -- the pieces in two at both ends of a range, and then without those inside
  pub edges_emptied : (lo hi : ℕ) (xs : List (Piece T)) → EdgesFrom lo hi xs (outside lo hi (cut_at hi (cut_at lo xs)))
  edges_emptied lo hi xs cell h = high (edge_cut hi cell (cut_at lo xs) (edge_outside cell lo hi (cut_at hi (cut_at lo xs)) h)) where
    low : (cell ≡ lo) ⊎ IsEdge cell xs → (cell ≡ lo) ⊎ (cell ≡ hi) ⊎ IsEdge cell xs
    low (inl e) = inl e
    low (inr k) = inr (inr k)

    high : (cell ≡ hi) ⊎ IsEdge cell (cut_at lo xs) → (cell ≡ lo) ⊎ (cell ≡ hi) ⊎ IsEdge cell xs
    high (inl e) = inr (inl e)
    high (inr k) = low (edge_cut lo cell xs k)

  pub edges_assigned : (p : Piece T) (xs : List (Piece T)) → EdgesFrom p.lo p.hi xs (inserted p (outside p.lo p.hi (cut_at p.hi (cut_at p.lo xs))))
  edges_assigned p xs cell h = by (edge_inserted cell p (outside p.lo p.hi (cut_at p.hi (cut_at p.lo xs))) h) where
    by : (cell ≡ p.lo) ⊎ (cell ≡ p.hi) ⊎ IsEdge cell (outside p.lo p.hi (cut_at p.hi (cut_at p.lo xs))) → (cell ≡ p.lo) ⊎ (cell ≡ p.hi) ⊎ IsEdge cell xs
    by (inl e) = inl e
    by (inr (inl e)) = inr (inl e)
    by (inr (inr k)) = edges_emptied p.lo p.hi xs cell k

  pub edges_split : (at : ℕ) (xs : List (Piece T)) → EdgesFrom at at xs (cut_at at xs)
  edges_split at xs cell h = by (edge_cut at cell xs h) where
    by : (cell ≡ at) ⊎ IsEdge cell xs → (cell ≡ at) ⊎ (cell ≡ at) ⊎ IsEdge cell xs
    by (inl e) = inl e
    by (inr k) = inr (inr k)

  pub edges_same : (lo hi : ℕ) (xs : List (Piece T)) → EdgesFrom lo hi xs xs
  edges_same lo hi xs cell h = inr (inr h)
