-- Searches in lists, and runs of cells.
use Rattle.std.proofs.Common.{◌≡◌, ℕ, zero, suc, ◌<◌, ◌≤◌, ◌⊎◌, inl, inr, refl, sym, ap, ◌∙◌, List, [], ◌∷◌, length, drop, reverse, take, arith, Bool, true, false, Option, None, Some, if◌then◌else◌}
use Rattle.std.specs.Prelude.{◌&&◌, ◌||◌}
use Rattle.oss_syntax.specs.declared.access.Access.{Access}
use Rattle.oss_syntax.specs.declared.access.Mode.{Mode}
use Rattle.oss_model.specs.Context.{in_clauses}
use Rattle.oss_model.specs.Order.{IsIn, here, there}
use Rattle.oss_model.specs.Rights.{Holds, NoRight, Released, Right, is_mixed, is_no_join, is_unjoinable, joined_mode, joined_right, right_from, right_held}
use Rattle.oss_ranges.specs.Cells.{is_within, value_at}
use Rattle.oss_ranges.specs.declared.piece.Piece.{Piece}
use Rattle.oss_pieces.specs.CellSets.{SetOfCells}
use Rattle.oss_explain.specs.declared.begun.Begun.{Begun}
use Rattle.oss_explain.specs.declared.begun.ReleasedAt.{ReleasedAt}
use Rattle.oss_explain.specs.Failures.{is_uncovered_by}
use Rattle.oss_explain.specs.Ways.{links_to}
use Rattle.oss_explain.specs.Joining.{AreJoined, AreMixed, JoinsMixed, JoinsModes, joined_held, mode_held}

-- what stands in what is left of a list stands in it
pub in_drop : {A : Type 0} (xs : List A) (n : ℕ) (x : A) → IsIn x (drop n xs) → IsIn x xs
in_drop [] zero x h = h
in_drop [] (suc n) x h = h
in_drop (y ∷ xs) zero x h = h
in_drop (y ∷ xs) (suc n) x h = there (in_drop xs n x h)

pub none_left : {A : Type 0} (xs : List A) (n : ℕ) (x : A) → length xs ≤ n → IsIn x (drop n xs) → ⊥
none_left [] zero x l h = elim h [ ]
none_left [] (suc n) x l h = elim h [ ]
none_left (y ∷ xs) zero x l h = omega (arith, l)
none_left (y ∷ xs) (suc n) x l h = none_left xs n x (omega (arith, l)) h

never : (b : Bool) → b ≡ true → b ≡ false → ⊥
never b h k = let e : true ≡ false = sym h ∙ k in cc

pub in_rest : (r a : ReleasedAt) (ys : List ReleasedAt) (cell : ℕ) → IsIn r (a ∷ ys) → in_clauses r.clauses cell ≡ true → in_clauses a.clauses cell ≡ false → IsIn r ys
in_rest r a ys cell here n m = absurd (never (in_clauses r.clauses cell) n m)
in_rest r a ys cell (there h) n m = h

-- a run of cells that are covered
pub covered_next : (x : ℕ → Right) (m : ℕ → Option Mode) (test : ℕ → Bool) (from next end_cell : ℕ) (r : Right) (w : Option Mode) → end_cell ≤ next
    → ((k : ℕ) → from ≤ k → k < end_cell → x k ≡ r) → ((k : ℕ) → from ≤ k → k < next → m k ≡ w) → is_uncovered_by r w ≡ false
    → ((k : ℕ) → k < from → test k ≡ is_uncovered_by (x k) (m k)) → ((k : ℕ) → from ≤ k → test k ≡ false)
    → (k : ℕ) → k < end_cell → test k ≡ is_uncovered_by (x k) (m k)
covered_next x m test from next end_cell r w up rights modes none before past k l = go (at_most k from)
  where
    at_most : (a b : ℕ) → (a < b) ⊎ (b ≤ a)
    at_most a b = grind arith

    go : (k < from) ⊎ (from ≤ k) → test k ≡ is_uncovered_by (x k) (m k)
    go (inl b) = before k b
    go (inr b) = past k b ∙ sym (ap (λ (y : Right). is_uncovered_by y (m k)) (rights k b l) ∙ ap (λ (y : Option Mode). is_uncovered_by r y) (modes k b (omega (arith, l, up))) ∙ none)

-- one clause more

joined_same : (m : Mode) (strong : Bool) (r : Right) → joined_held m (mode_held r) ≡ mode_held (joined_right m strong r)
joined_same m strong NoRight = refl
joined_same m strong Released = refl
joined_same m strong (Holds n other) = go (joined_mode m n)
  where
    go : (o : Option Mode) → o ≡ mode_held (right_held o (strong || other))
    go None = refl
    go (Some k) = refl

mixed_same : (m : Mode) (r : Right) → is_no_join (joined_held m (mode_held r)) ≡ is_unjoinable m r
mixed_same m NoRight = refl
mixed_same m Released = refl
mixed_same m (Holds n other) = refl

pub modes_more : (a : Access) (rest : List Access) (old new : List (Piece Mode)) → AreJoined rest old → JoinsModes a.mode a.range.lo a.range.hi old new → AreJoined (a ∷ rest) new
modes_more a rest old new before now final c = now c ∙ ap (λ (v : Option Mode). if is_within a.range.lo a.range.hi c then joined_held a.mode v else v) (before final c) ∙ go (is_within a.range.lo a.range.hi c)
  where
    go : (w : Bool) → (if w then joined_held a.mode (mode_held (right_from final rest c)) else mode_held (right_from final rest c)) ≡ mode_held (if w then joined_right a.mode (final || a.strong) (right_from final rest c) else right_from final rest c)
    go true = joined_same a.mode (final || a.strong) (right_from final rest c)
    go false = refl

pub mixed_more : (a : Access) (rest : List Access) (modes : List (Piece Mode)) (old new : SetOfCells) → AreJoined rest modes → AreMixed rest old → JoinsMixed a.mode a.range.lo a.range.hi modes old new → AreMixed (a ∷ rest) new
mixed_more a rest modes old new joined before now final c =
    now c ∙ ap (λ (b : Bool). b || (is_within a.range.lo a.range.hi c && is_no_join (joined_held a.mode (value_at modes c)))) (before final c)
    ∙ ap (λ (v : Option Mode). is_mixed final rest c || (is_within a.range.lo a.range.hi c && is_no_join (joined_held a.mode v))) (joined final c)
    ∙ ap (λ (b : Bool). is_mixed final rest c || (is_within a.range.lo a.range.hi c && b)) (mixed_same a.mode (right_from final rest c))

-- Of one task nothing is told.

few_taken : (xs : List Begun) (n : ℕ) → n ≤ 1 → (take n xs ≡ []) ⊎ ((b : Begun) × (take n xs ≡ b ∷ []))
few_taken [] zero l = inl refl
few_taken [] (suc n) l = inl refl
few_taken (b ∷ xs) zero l = inl refl
few_taken (b ∷ xs) (suc n) l = inr (b, ap (λ (ys : List Begun). b ∷ ys) (none_taken xs n (omega (arith, l))))
  where
    none_taken : (ys : List Begun) (k : ℕ) → k ≡ 0 → take k ys ≡ []
    none_taken [] zero e = refl
    none_taken (y ∷ ys) zero e = refl
    none_taken ys (suc k) e = absurd (omega (arith, e))

pub few_links : (xs : List Begun) (n : ℕ) → n ≤ 1 → links_to (reverse (take n xs)) ≡ []
few_links xs n l = go (few_taken xs n l)
  where
    go : (take n xs ≡ []) ⊎ ((b : Begun) × (take n xs ≡ b ∷ [])) → links_to (reverse (take n xs)) ≡ []
    go (inl e) = ap (λ (ys : List Begun). links_to (reverse ys)) e
    go (inr (b, e)) = ap (λ (ys : List Begun). links_to (reverse ys)) e
