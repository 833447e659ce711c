-- Lists of changes that grow along the cells.
use Rattle.std.proofs.Common.{◌≡◌, ◌≤◌, ◌<◌, ℕ, ◌⊎◌, inl, inr, refl, sym, ap, subst, ◌∙◌, List, [], ◌∷◌, ◌++◌, length, length-append, arith, true, false, Option, if◌then◌else◌}
use Rattle.std.proofs.lemmas.Bool.Decides.{nat_tests}
use Rattle.oss_ranges.specs.Cells.{is_within}
use Rattle.oss_judge.specs.Changed.{overlaid}
use Rattle.oss_judge.specs.declared.changes.Change.{Change}

module _ {T : Type 0} where
  pub overlaid_more : (xs : List (Change T)) (x : Change T) (cell : ℕ) (value : Option T) → overlaid (xs ++ x ∷ []) cell value ≡ (if is_within x.range.lo x.range.hi cell then x.value else overlaid xs cell value)
  overlaid_more [] x cell value = refl
  overlaid_more (y ∷ rest) x cell value = overlaid_more rest x cell (if is_within y.range.lo y.range.hi cell then y.value else value)

  pub overlaid_in : (xs : List (Change T)) (x : Change T) (cell : ℕ) (value : Option T) → x.range.lo ≤ cell → cell < x.range.hi → overlaid (xs ++ x ∷ []) cell value ≡ x.value
  overlaid_in xs x cell value low high = overlaid_more xs x cell value ∙ ap (λ b. if b then x.value else overlaid xs cell value) (let inside : is_within x.range.lo x.range.hi cell ≡ true = grind (arith, nat_tests) in inside)

  pub overlaid_before : (xs : List (Change T)) (x : Change T) (cell : ℕ) (value : Option T) → cell < x.range.lo → overlaid (xs ++ x ∷ []) cell value ≡ overlaid xs cell value
  overlaid_before xs x cell value low = overlaid_more xs x cell value ∙ ap (λ b. if b then x.value else overlaid xs cell value) (let outside : is_within x.range.lo x.range.hi cell ≡ false = grind (arith, nat_tests) in outside)

  pub overlaid_behind : (xs : List (Change T)) (x : Change T) (cell : ℕ) (value : Option T) → x.range.hi ≤ cell → overlaid (xs ++ x ∷ []) cell value ≡ overlaid xs cell value
  overlaid_behind xs x cell value high = overlaid_more xs x cell value ∙ ap (λ b. if b then x.value else overlaid xs cell value) (let outside : is_within x.range.lo x.range.hi cell ≡ false = grind (arith, nat_tests) in outside)

  -- changes that were made along the cells up to one: what they make of each of these, and of those behind
  pub record Along (Is : ℕ → Option T → Type 0) (now : ℕ → Option T) (from : ℕ) (xs : List (Change T)) : Type 0 where
    pub few : length xs ≤ from
    pub here : (c : ℕ) → c < from → Is c (overlaid xs c (now c))
    pub past : (c : ℕ) (value : Option T) → from ≤ c → overlaid xs c value ≡ value

  pub along_skip : (Is : ℕ → Option T → Type 0) (now : ℕ → Option T) (from end : ℕ) (xs : List (Change T)) → Along Is now from xs → from ≤ end → ((c : ℕ) → from ≤ c → c < end → Is c (now c)) → Along Is now end xs
  along_skip Is now from end xs h low is = record {
    few = let f = h.few in omega arith;
    here = λ c high. go c high (below_or c from);
    past = λ c value high. h.past c value (omega arith);
  } where
    below_or : (m n : ℕ) → (m < n) ⊎ (n ≤ m)
    below_or m n = grind arith

    go : (c : ℕ) → c < end → (c < from) ⊎ (from ≤ c) → Is c (overlaid xs c (now c))
    go c high (inl before) = h.here c before
    go c high (inr behind) = subst (Is c) (sym (h.past c (now c) behind)) (is c behind high)

  pub along_more : (Is : ℕ → Option T → Type 0) (now : ℕ → Option T) (from end : ℕ) (xs : List (Change T)) (x : Change T) → Along Is now from xs → x.range.lo ≡ from → x.range.hi ≡ end → from < end
      → ((c : ℕ) → from ≤ c → c < end → Is c x.value) → Along Is now end (xs ++ x ∷ [])
  along_more Is now from end xs x h lo hi low is = record {
    few = let f = h.few in grind (arith, length-append, f);
    here = λ c high. go c high (below_or c from);
    past = λ c value high. overlaid_behind xs x c value (omega arith) ∙ h.past c value (omega arith);
  } where
    below_or : (m n : ℕ) → (m < n) ⊎ (n ≤ m)
    below_or m n = grind arith

    go : (c : ℕ) → c < end → (c < from) ⊎ (from ≤ c) → Is c (overlaid (xs ++ x ∷ []) c (now c))
    go c high (inl before) = subst (Is c) (sym (overlaid_before xs x c (now c) (omega arith))) (h.here c before)
    go c high (inr behind) = subst (Is c) (sym (overlaid_in xs x c (now c) (omega arith) (omega arith))) (is c behind high)
