-- Clauses with each cell in an access of its own give the same rights, and they release and name the same cells.
use Rattle.std.proofs.Common.{◌≡◌, ◌∙◌, ℕ, zero, suc, ◌+◌, ◌-◌, ◌<◌, ◌≤◌, min, Bool, true, false, List, [], ◌∷◌, ◌++◌, map, Option, Some, None, refl, sym, ap, arith, length, ◌⊎◌, inl, inr}
use Rattle.std.specs.Prelude.{◌&&◌, ◌||◌, nat_le, nat_lt, if◌then◌else◌}
use Rattle.std.specs.List.{range_with_len}
use Rattle.std.proofs.lemmas.Bool.Decides.{nat_tests}
use Rattle.oss_syntax.specs.declared.access.Access.{Access}
use Rattle.oss_syntax.specs.declared.fault.FaultKind.{FaultKind}
use Rattle.oss_syntax.specs.declared.fault.FaultKind.TheVariants as fault
use Rattle.oss_model.specs.Context.{Context, Entry, child_context, clause_fault, create_fault, creation_fault, in_clauses, lacks_right, lent_of, mark_of, or_else, release, release_fault, right_of, table_from, wait_on_fault, waited_on, with_entries}
use Rattle.oss_multidependency_laws.specs.Grouping.{single, singles}
use Rattle.oss_model.specs.Rights.{Right, Free, Released, any_cell, any_from, first_mark, holds_uncovered, in_access, is_fresh, is_mixed, is_released, is_unjoinable, joined_right, mark_from, right_from}

if_true : {A : Type 0} (b : Bool) (x y : A) → b ≡ true → (if b then x else y) ≡ x
if_true b x y e = ap (λ (c : Bool). if c then x else y) e

if_false : {A : Type 0} (b : Bool) (x y : A) → b ≡ false → (if b then x else y) ≡ y
if_false b x y e = ap (λ (c : Bool). if c then x else y) e

tests_same : (low n c : ℕ) → low < c → (nat_le (low + 1) c && nat_lt c (low + 1 + n)) ≡ (nat_le low c && nat_lt c (low + suc n))
tests_same low n c above =
    let one : nat_le (low + 1) c ≡ true = grind (arith, nat_tests) in
    let other : nat_le low c ≡ true = grind (arith, nat_tests) in
    let size : low + 1 + n ≡ low + suc n = omega arith in
    ap (λ b. b && nat_lt c (low + 1 + n)) one ∙ ap (λ h. nat_lt c h) size ∙ sym (ap (λ b. b && nat_lt c (low + suc n)) other)

-- What is made of accesses by looking at one cell of each in turn.
module _ {T : Type 0} (c : ℕ) (F : List Access → T) (G : Access → T → T)
    (steps : (a : Access) (rest : List Access) → F (a ∷ rest) ≡ (if in_access a c then G a (F rest) else F rest))
    (alike : (a : Access) (k : ℕ) (t : T) → G (single a k) t ≡ G a t) where
  run : (a : Access) (low n : ℕ) (rest : List Access) → low + n ≤ 1048576
      → F (map (single a) (range_with_len low n) ++ rest) ≡ (if nat_le low c && nat_lt c (low + n) then G a (F rest) else F rest)
  run a low zero rest few =
      let none : (nat_le low c && nat_lt c (low + 0)) ≡ false = grind (arith, nat_tests) in
      sym (if_false _ (G a (F rest)) (F rest) none)
  run a low (suc n) rest few = by (run a (low + 1) n rest (omega arith)) (grind arith)
    where
      later : List Access
      later = map (single a) (range_with_len (low + 1) n) ++ rest

      by : F later ≡ (if nat_le (low + 1) c && nat_lt c (low + 1 + n) then G a (F rest) else F rest) → (c < low) ⊎ ((c ≡ low) ⊎ (low < c))
          → F (single a low ∷ later) ≡ (if nat_le low c && nat_lt c (low + suc n) then G a (F rest) else F rest)
      by next (inl below) =
          let here : in_access (single a low) c ≡ false = grind (arith, nat_tests) in
          let past : (nat_le (low + 1) c && nat_lt c (low + 1 + n)) ≡ false = grind (arith, nat_tests) in
          let whole : (nat_le low c && nat_lt c (low + suc n)) ≡ false = grind (arith, nat_tests) in
          steps (single a low) later ∙ if_false _ (G (single a low) (F later)) (F later) here ∙ next ∙ if_false _ (G a (F rest)) (F rest) past ∙ sym (if_false _ (G a (F rest)) (F rest) whole)
      by next (inr (inl same)) =
          let here : in_access (single a low) c ≡ true = grind (arith, nat_tests) in
          let past : (nat_le (low + 1) c && nat_lt c (low + 1 + n)) ≡ false = grind (arith, nat_tests) in
          let whole : (nat_le low c && nat_lt c (low + suc n)) ≡ true = grind (arith, nat_tests) in
          steps (single a low) later ∙ if_true _ (G (single a low) (F later)) (F later) here ∙ alike a low (F later)
          ∙ ap (G a) (next ∙ if_false _ (G a (F rest)) (F rest) past) ∙ sym (if_true _ (G a (F rest)) (F rest) whole)
      by next (inr (inr above)) =
          let here : in_access (single a low) c ≡ false = grind (arith, nat_tests) in
          let same : (nat_le (low + 1) c && nat_lt c (low + 1 + n)) ≡ (nat_le low c && nat_lt c (low + suc n)) = tests_same low n c above in
          steps (single a low) later ∙ if_false _ (G (single a low) (F later)) (F later) here ∙ next ∙ ap (λ (b : Bool). if b then G a (F rest) else F rest) same

  -- So it is the same of each cell alone.
  pub of_singles : (xs : List Access) → F (singles xs) ≡ F xs
  of_singles [] = refl
  of_singles (a ∷ rest) =
      let o = a.range.ordered in
      let w = a.range.within in
      let size : a.range.lo + (a.range.hi - a.range.lo) ≡ a.range.hi = omega arith in
      run a a.range.lo (a.range.hi - a.range.lo) (singles rest) (omega arith)
      ∙ ap (λ h. if nat_le a.range.lo c && nat_lt c h then G a (F (singles rest)) else F (singles rest)) size
      ∙ ap (λ t. if in_access a c then G a t else t) (of_singles rest)
      ∙ sym (steps a rest)

pub right_same : (final : Bool) (xs : List Access) (c : ℕ) → right_from final (singles xs) c ≡ right_from final xs c
right_same final xs c =
    of_singles c (λ ys. right_from final ys c) (λ a r. joined_right a.mode (final || a.strong) r) (λ a rest. refl) (λ a k t. refl) xs

pub fresh_same : (xs : List Access) (c : ℕ) → is_fresh (singles xs) c ≡ is_fresh xs c
fresh_same xs c = of_singles c (λ ys. is_fresh ys c) (λ a r. a.fresh && r) (λ a rest. refl) (λ a k t. refl) xs

pub mark_same : (final : Bool) (xs : List Access) (c : ℕ) → mark_from final (singles xs) c ≡ mark_from final xs c
mark_same final xs c = ap (λ r. first_mark r (is_fresh (singles xs) c)) (right_same final xs c) ∙ ap (λ f. first_mark (right_from final xs c) f) (fresh_same xs c)

-- whether clauses are mixed on a cell, and their right to it
record MixedRight : Type 0 where
  mixed : Bool
  right : Right

or_none : (b : Bool) → (b || false) ≡ b
or_none true = refl
or_none false = refl

mixed_step : (final : Bool) (c : ℕ) (a : Access) (rest : List Access) (here : Bool)
    → ◌≡◌ {A = MixedRight} (record { mixed = is_mixed final rest c || (here && is_unjoinable a.mode (right_from final rest c)); right = if here then joined_right a.mode (final || a.strong) (right_from final rest c) else right_from final rest c })
    (if here then record { mixed = is_mixed final rest c || is_unjoinable a.mode (right_from final rest c); right = joined_right a.mode (final || a.strong) (right_from final rest c) } else record { mixed = is_mixed final rest c; right = right_from final rest c })
mixed_step final c a rest true = refl
mixed_step final c a rest false = ap {B = MixedRight} (λ b. record { mixed = b; right = right_from final rest c }) (or_none (is_mixed final rest c))

pub mixed_same : (final : Bool) (xs : List Access) (c : ℕ) → is_mixed final (singles xs) c ≡ is_mixed final xs c
mixed_same final xs c =
    ap (λ (m : MixedRight). m.mixed)
    (of_singles {T = MixedRight} c (λ ys. record { mixed = is_mixed final ys c; right = right_from final ys c })
    (λ a m. record { mixed = m.mixed || is_unjoinable a.mode m.right; right = joined_right a.mode (final || a.strong) m.right })
    (λ a rest. mixed_step final c a rest (in_access a c)) (λ a k t. refl) xs)

-- Tests of all cells

or_moved : (a b c : Bool) → ((a || b) || c) ≡ (a || (b || c))
or_moved true b c = refl
or_moved false b c = refl

any_one : (test : ℕ → Bool) (a : Access) (low : ℕ) (rest : List Access) → low < 1048576 → any_cell test (single a low ∷ rest) ≡ (test low || any_cell test rest)
any_one test a low rest few =
    let same : min low 1048575 ≡ low = omega arith in
    let size : min low 1048575 + 1 - min low 1048575 ≡ suc 0 = omega arith in
    ap (λ n. any_from test (min low 1048575) n || any_cell test rest) size
    ∙ ap (λ k. any_from test k (suc 0) || any_cell test rest) same
    ∙ ap (λ b. b || any_cell test rest) (or_none (test low))

any_run : (test : ℕ → Bool) (a : Access) (low n : ℕ) (rest : List Access) → low + n ≤ 1048576
    → any_cell test (map (single a) (range_with_len low n) ++ rest) ≡ (any_from test low n || any_cell test rest)
any_run test a low zero rest few = refl
any_run test a low (suc n) rest few =
    any_one test a low (map (single a) (range_with_len (low + 1) n) ++ rest) (omega arith)
    ∙ ap (λ b. test low || b) (any_run test a (low + 1) n rest (omega arith))
    ∙ sym (or_moved (test low) (any_from test (low + 1) n) (any_cell test rest))

pub any_same : (test : ℕ → Bool) (xs : List Access) → any_cell test (singles xs) ≡ any_cell test xs
any_same test [] = refl
any_same test (a ∷ rest) =
    let o = a.range.ordered in
    let w = a.range.within in
    any_run test a a.range.lo (a.range.hi - a.range.lo) (singles rest) (omega arith)
    ∙ ap (λ b. any_from test a.range.lo (a.range.hi - a.range.lo) || b) (any_same test rest)

-- Contexts

pub child_same : (x : Context) (xs : List Access) (last : Bool) → child_context x (singles xs) last ≡ child_context x xs last
child_same x xs last =
    let from : (ℕ → Entry) → Context = λ f. record { entries = table_from f 0 (length x.entries); ticks = 0; fuel = x.fuel; created = 0; depth = x.depth + 1; final = x.final || last } in
    ap from (λ i. λ c. record { right = right_same (x.final || last) xs c i; lent = Free; mark = mark_same (x.final || last) xs c i })

pub clause_same : (x : Context) (xs : List Access) (final : Bool) → clause_fault x (singles xs) final ≡ clause_fault x xs final
clause_same x xs final =
    let rest : Bool → Bool → Bool → Option FaultKind = λ m r n. if m then Some fault.MixedAccess else if r then Some fault.Released else if n then Some fault.NotCovered else None in
    let mixed : any_cell (is_mixed final (singles xs)) (singles xs) ≡ any_cell (is_mixed final xs) xs =
    any_same (is_mixed final (singles xs)) xs ∙ ap (λ (t : ℕ → Bool). any_cell t xs) (λ i. λ c. mixed_same final xs c i) in
    let covered : any_cell (λ c. holds_uncovered (right_of x c) (right_from final (singles xs) c)) (singles xs) ≡ any_cell (λ c. holds_uncovered (right_of x c) (right_from final xs c)) xs =
    any_same (λ c. holds_uncovered (right_of x c) (right_from final (singles xs) c)) xs
    ∙ ap (λ (t : ℕ → Right). any_cell (λ c. holds_uncovered (right_of x c) (t c)) xs) (λ i. λ c. right_same final xs c i) in
    ap (λ m. rest m (any_cell (λ c. is_released (right_of x c)) (singles xs)) (any_cell (λ c. holds_uncovered (right_of x c) (right_from final (singles xs) c)) (singles xs))) mixed
    ∙ ap (λ r. rest (any_cell (is_mixed final xs) xs) r (any_cell (λ c. holds_uncovered (right_of x c) (right_from final (singles xs) c)) (singles xs))) (any_same (λ c. is_released (right_of x c)) xs)
    ∙ ap (λ n. rest (any_cell (is_mixed final xs) xs) (any_cell (λ c. is_released (right_of x c)) xs) n) covered

pub creation_same : (x : Context) (xs : List Access) (final : Bool) → creation_fault x (singles xs) final ≡ creation_fault x xs final
creation_same x xs final = ap (λ o. or_else (create_fault x) o) (clause_same x xs final)

-- Releases and waits

named_step : (b rest : Bool) → (b || rest) ≡ (if b then true else rest)
named_step true rest = refl
named_step false rest = refl

pub named_same : (xs : List Access) (c : ℕ) → in_clauses (singles xs) c ≡ in_clauses xs c
named_same xs c = of_singles c (λ ys. in_clauses ys c) (λ a r. true) (λ a rest. named_step (in_access a c) (in_clauses rest c)) (λ a k t. refl) xs

pub release_same : (x : Context) (xs : List Access) → release (singles xs) x ≡ release xs x
release_same x xs =
    ap {B = Context} (λ (t : ℕ → Bool). with_entries (λ c. record { right = if t c then Released else right_of x c; lent = lent_of x c; mark = mark_of x c }) x) (λ i. λ c. named_same xs c i)

pub waited_same : (x : Context) (xs : List Access) → waited_on (singles xs) x ≡ waited_on xs x
waited_same x xs =
    ap {B = Context} (λ (t : ℕ → Bool). with_entries (λ c. record { right = right_of x c; lent = if t c then Free else lent_of x c; mark = mark_of x c }) x) (λ i. λ c. named_same xs c i)

pub release_fault_same : (x : Context) (xs : List Access) → release_fault x (singles xs) ≡ release_fault x xs
release_fault_same x xs =
    let rest : Bool → Bool → Option FaultKind = λ r n. if r then Some fault.Released else if n then Some fault.NotCovered else None in
    let covered : any_cell (λ c. holds_uncovered (right_of x c) (right_from false (singles xs) c)) (singles xs) ≡ any_cell (λ c. holds_uncovered (right_of x c) (right_from false xs c)) xs =
    any_same (λ c. holds_uncovered (right_of x c) (right_from false (singles xs) c)) xs
    ∙ ap (λ (t : ℕ → Right). any_cell (λ c. holds_uncovered (right_of x c) (t c)) xs) (λ i. λ c. right_same false xs c i) in
    ap (λ r. rest r (any_cell (λ c. holds_uncovered (right_of x c) (right_from false (singles xs) c)) (singles xs))) (any_same (λ c. is_released (right_of x c)) xs)
    ∙ ap (λ n. rest (any_cell (λ c. is_released (right_of x c)) xs) n) covered

pub wait_fault_same : (x : Context) (xs : List Access) → wait_on_fault x (singles xs) ≡ wait_on_fault x xs
wait_fault_same x xs =
    let rest : Bool → Bool → Option FaultKind = λ r n. if r then Some fault.Released else if n then Some fault.NotCovered else None in
    ap (λ r. rest r (any_cell (λ c. lacks_right (right_of x c)) (singles xs))) (any_same (λ c. is_released (right_of x c)) xs)
    ∙ ap (λ n. rest (any_cell (λ c. is_released (right_of x c)) xs) n) (any_same (λ c. lacks_right (right_of x c)) xs)
