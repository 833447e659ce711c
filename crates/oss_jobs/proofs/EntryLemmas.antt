-- Entries that are kept by ranges are the numbers of the cells that a task has, in rising order.
use Rattle.std.proofs.Common.{◌≡◌, ◌≤◌, ◌<◌, ◌⊎◌, inl, inr, ℕ, zero, suc, ◌+◌, ◌-◌, refl, sym, subst, ap, ◌∙◌, arith, Bool, true, false, List, [], ◌∷◌, Option, Some, None, if◌then◌else◌}
use Rattle.std.specs.Prelude.{◌||◌, min}
use Rattle.std.proofs.lemmas.Bool.Decides.{nat_tests}
use Rattle.oss_syntax.specs.declared.access.Access.{Access}
use Rattle.oss_model.specs.Context.{in_clauses}
use Rattle.oss_model.specs.Rights.{Right, NoRight, Released, Holds, joined_right, right_from}
use Rattle.oss_judge.specs.Joined.{IsRising, held_right}
use Rattle.oss_ranges.specs.Cells.{is_within}
use Rattle.oss_words.specs.Sums.{below, num}
use Rattle.oss_roles.specs.Numbers.{cells_below, entry_on, has_cell}
use Rattle.oss_jobs.specs.Entries.{base_of, cells_in, entered, entry_told, moved}
use Rattle.oss_jobs.specs.Jobs.{HasCells, or_else}

below_or : (m n : ℕ) → (m < n) ⊎ (n ≤ m)
below_or m n = grind arith

-- the accesses stand one behind the other, from this cell on
abbrev Behind : ℕ → List Access → Type 0
Behind h [] = Unit {0}
Behind h (a ∷ rest) = (h ≤ a.range.lo) × Behind a.range.hi rest

behind_from : (h : ℕ) (a : Access) (rest : List Access) → IsRising (a ∷ rest) → h ≤ a.range.lo → Behind h (a ∷ rest)
behind_from h a [] r l = (l, tt)
behind_from h a (b ∷ rest) r l = (l, behind_from a.range.hi b rest r.1 r.0.behind)

rising_behind : (xs : List Access) → IsRising xs → Behind 0 xs
rising_behind [] r = tt
rising_behind (a ∷ rest) r = behind_from 0 a rest r (omega arith)

-- how many cells of accesses stand below one
abbrev cells_before : List Access → ℕ → ℕ
cells_before [] c = 0
cells_before (a ∷ rest) c = (min c a.range.hi - min c a.range.lo) + cells_before rest c

out_below : (lo hi c : ℕ) → c < lo → is_within lo hi c ≡ false
out_below lo hi c l = grind (arith, nat_tests)

out_behind : (lo hi c : ℕ) → hi ≤ c → is_within lo hi c ≡ false
out_behind lo hi c l = grind (arith, nat_tests)

within : (lo hi c : ℕ) → lo ≤ c → c < hi → is_within lo hi c ≡ true
within lo hi c l h = grind (arith, nat_tests)

span_below : (lo hi c : ℕ) → lo < hi → c ≤ lo → min c hi - min c lo ≡ 0
span_below lo hi c o l = omega arith

span_within : (lo hi c : ℕ) → lo ≤ c → c ≤ hi → min c hi - min c lo ≡ c - lo
span_within lo hi c l h = omega arith

span_behind : (lo hi c : ℕ) → lo < hi → hi ≤ c → min c hi - min c lo ≡ hi - lo
span_behind lo hi c o l = omega arith

-- nothing is named before the first cell
none_named : (xs : List Access) (h c : ℕ) → Behind h xs → c < h → in_clauses xs c ≡ false
none_named [] h c b l = refl
none_named (a ∷ rest) h c b l =
    let o = a.range.ordered in let k = b.0 in
    ap (λ (t : Bool). t || in_clauses rest c) (out_below a.range.lo a.range.hi c (omega (arith, k, l)))
    ∙ none_named rest a.range.hi c b.1 (omega (arith, o, k, l))

none_before : (xs : List Access) (h c : ℕ) → Behind h xs → c ≤ h → cells_before xs c ≡ 0
none_before [] h c b l = refl
none_before (a ∷ rest) h c b l =
    let o = a.range.ordered in let k = b.0 in
    let here = span_below a.range.lo a.range.hi c o (omega (arith, k, l)) in
    let there = none_before rest a.range.hi c b.1 (omega (arith, o, k, l)) in
    omega (arith, here, there)

no_right : (xs : List Access) (h c : ℕ) → Behind h xs → c < h → right_from false xs c ≡ NoRight
no_right [] h c b l = refl
no_right (a ∷ rest) h c b l =
    let o = a.range.ordered in let k = b.0 in
    ap (λ (t : Bool). if t then joined_right a.mode a.strong (right_from false rest c) else right_from false rest c)
    (out_below a.range.lo a.range.hi c (omega (arith, k, l)))
    ∙ no_right rest a.range.hi c b.1 (omega (arith, o, k, l))

-- a cell more is one more if it is named
module _ (a : Access) (rest : List Access) (c : ℕ) (b : Behind a.range.hi rest) where
  abbrev lo : ℕ
  lo = a.range.lo

  abbrev hi : ℕ
  hi = a.range.hi

  names_more : (t : Bool) → is_within lo hi c ≡ t → in_clauses (a ∷ rest) c ≡ (t || in_clauses rest c)
  names_more t e = ap (λ (u : Bool). u || in_clauses rest c) e

  step_more : cells_before rest (suc c) ≡ num (in_clauses rest c) + cells_before rest c
      → cells_before (a ∷ rest) (suc c) ≡ num (in_clauses (a ∷ rest) c) + cells_before (a ∷ rest) c
  step_more again = go (below_or c lo) (below_or c hi)
    where
      go : (c < lo) ⊎ (lo ≤ c) → (c < hi) ⊎ (hi ≤ c) → cells_before (a ∷ rest) (suc c) ≡ num (in_clauses (a ∷ rest) c) + cells_before (a ∷ rest) c
      go (inl l) y =
          let o = a.range.ordered in
          let n = ap num (names_more false (out_below lo hi c l)) in
          let now = span_below lo hi c o (omega (arith, l)) in
          let next = span_below lo hi (suc c) o (omega (arith, l)) in
          omega (arith, n, now, next, again)
      go (inr l) (inl h) =
          let n = ap num (names_more true (within lo hi c l h)) in
          let none = ap num (none_named rest hi c b h) in
          let now = span_within lo hi c l (omega (arith, h)) in
          let next = span_within lo hi (suc c) (omega (arith, l)) (omega (arith, h)) in
          omega (arith, n, none, now, next, again, l)
      go (inr l) (inr h) =
          let o = a.range.ordered in
          let n = ap num (names_more false (out_behind lo hi c h)) in
          let now = span_behind lo hi c o h in
          let next = span_behind lo hi (suc c) o (omega (arith, h)) in
          omega (arith, n, now, next, again)

  abbrev Same : ℕ → Option ℕ → Type 0
  Same first kept =
      (if in_clauses rest c then Some ((first + (hi - lo)) + cells_before rest c) else entry_told (if is_within lo hi c then Some (base_of lo first) else kept) c)
      ≡ (if in_clauses (a ∷ rest) c then Some (first + cells_before (a ∷ rest) c) else entry_told kept c)

  -- what is kept for a cell after one access more has got its entries tells its number
  entered_more : (first : ℕ) (kept : Option ℕ) → first ≤ 16777216
      → entry_told (entered (first + (hi - lo)) rest c (if is_within lo hi c then Some (base_of lo first) else kept)) c
      ≡ (if in_clauses rest c then Some ((first + (hi - lo)) + cells_before rest c) else entry_told (if is_within lo hi c then Some (base_of lo first) else kept) c)
      → entry_told (entered first (a ∷ rest) c kept) c ≡ (if in_clauses (a ∷ rest) c then Some (first + cells_before (a ∷ rest) c) else entry_told kept c)
  entered_more first kept few again = again ∙ go (below_or c lo) (below_or c hi)
    where
      outside : is_within lo hi c ≡ false → (first + (hi - lo)) + cells_before rest c ≡ first + cells_before (a ∷ rest) c → Same first kept
      outside e n =
          ap (λ (t : Bool). if in_clauses rest c then Some ((first + (hi - lo)) + cells_before rest c) else entry_told (if t then Some (base_of lo first) else kept) c) e
          ∙ (ap (λ (x : ℕ). if in_clauses rest c then Some x else entry_told kept c) n
          ∙ sym (ap (λ (t : Bool). if t then Some (first + cells_before (a ∷ rest) c) else entry_told kept c) (names_more false e)))

      nowhere : is_within lo hi c ≡ false → in_clauses rest c ≡ false → Same first kept
      nowhere e none =
          ap (λ (t : Bool). if t then Some ((first + (hi - lo)) + cells_before rest c) else entry_told (if is_within lo hi c then Some (base_of lo first) else kept) c) none
          ∙ (ap (λ (t : Bool). entry_told (if t then Some (base_of lo first) else kept) c) e
          ∙ sym (ap (λ (t : Bool). if t then Some (first + cells_before (a ∷ rest) c) else entry_told kept c) (names_more false e ∙ none)))

      here : lo ≤ c → c < hi → min (((1048576 + first) - lo) + c) 4294967295 - 1048576 ≡ first + cells_before (a ∷ rest) c
      here l h =
          let w = a.range.within in
          let none = none_before rest hi c b (omega (arith, h)) in
          let span = span_within lo hi c l (omega (arith, h)) in
          omega (arith, w, none, span, few, l, h)

      go : (c < lo) ⊎ (lo ≤ c) → (c < hi) ⊎ (hi ≤ c) → Same first kept
      go (inl l) y = let o = a.range.ordered in nowhere (out_below lo hi c l) (none_named rest hi c b (omega (arith, o, l)))
      go (inr l) (inl h) =
          ap (λ (t : Bool). if t then Some ((first + (hi - lo)) + cells_before rest c) else entry_told (if is_within lo hi c then Some (base_of lo first) else kept) c) (none_named rest hi c b h)
          ∙ (ap (λ (t : Bool). entry_told (if t then Some (base_of lo first) else kept) c) (within lo hi c l h)
          ∙ (ap (λ (x : ℕ). Some x) (here l h)
          ∙ sym (ap (λ (t : Bool). if t then Some (first + cells_before (a ∷ rest) c) else entry_told kept c) (names_more true (within lo hi c l h)))))
      go (inr l) (inr h) = let o = a.range.ordered in let span = span_behind lo hi c o h in outside (out_behind lo hi c h) (omega (arith, span))

  -- an access gives a right to its cells
  named_more : has_cell (right_from false rest c) ≡ in_clauses rest c → has_cell (right_from false (a ∷ rest) c) ≡ in_clauses (a ∷ rest) c
  named_more again = go (below_or c lo) (below_or c hi)
    where
      chosen : (t : Bool) → is_within lo hi c ≡ t
          → has_cell (right_from false (a ∷ rest) c) ≡ has_cell (if t then joined_right a.mode a.strong (right_from false rest c) else right_from false rest c)
      chosen t e = ap (λ (u : Bool). has_cell (if u then joined_right a.mode a.strong (right_from false rest c) else right_from false rest c)) e

      go : (c < lo) ⊎ (lo ≤ c) → (c < hi) ⊎ (hi ≤ c) → has_cell (right_from false (a ∷ rest) c) ≡ in_clauses (a ∷ rest) c
      go (inl l) y = chosen false (out_below lo hi c l) ∙ (again ∙ sym (names_more false (out_below lo hi c l)))
      go (inr l) (inl h) =
          chosen true (within lo hi c l h)
          ∙ (ap (λ (r : Right). has_cell (joined_right a.mode a.strong r)) (no_right rest hi c b h) ∙ sym (names_more true (within lo hi c l h)))
      go (inr l) (inr h) = chosen false (out_behind lo hi c h) ∙ (again ∙ sym (names_more false (out_behind lo hi c h)))

cells_zero : (xs : List Access) → cells_before xs 0 ≡ 0
cells_zero [] = refl
cells_zero (a ∷ rest) = let z = cells_zero rest in omega (arith, z)

step : (xs : List Access) (h c : ℕ) → Behind h xs → cells_before xs (suc c) ≡ num (in_clauses xs c) + cells_before xs c
step [] h c b = refl
step (a ∷ rest) h c b = step_more a rest c b.1 (step rest a.range.hi c b.1)

-- the cells below one that accesses name are counted one by one, or by ranges
count : (xs : List Access) (h : ℕ) → Behind h xs → (c : ℕ) → below (λ d. num (in_clauses xs d)) c ≡ cells_before xs c
count xs h b zero = sym (cells_zero xs)
count xs h b (suc c) = ap (λ (n : ℕ). num (in_clauses xs c) + n) (count xs h b c) ∙ sym (step xs h c b)

entered_is : (xs : List Access) (h first c : ℕ) (kept : Option ℕ) → Behind h xs → first + cells_in xs ≤ 16777216
    → entry_told (entered first xs c kept) c ≡ (if in_clauses xs c then Some (first + cells_before xs c) else entry_told kept c)
entered_is [] h first c kept b few = refl
entered_is (a ∷ rest) h first c kept b few =
    entered_more a rest c b.1 first kept (omega (arith, few))
    (entered_is rest a.range.hi (first + (a.range.hi - a.range.lo)) c (if is_within a.range.lo a.range.hi c then Some (base_of a.range.lo first) else kept) b.1 (omega (arith, few)))

named_is : (xs : List Access) (h c : ℕ) → Behind h xs → has_cell (right_from false xs c) ≡ in_clauses xs c
named_is [] h c b = refl
named_is (a ∷ rest) h c b = named_more a rest c b.1 (named_is rest a.range.hi c b.1)

held_has : (r : Right) → has_cell (held_right r) ≡ has_cell r
held_has NoRight = refl
held_has Released = refl
held_has (Holds mode strong) = refl

same_below : (f g : ℕ → ℕ) → ((d : ℕ) → f d ≡ g d) → (c : ℕ) → below f c ≡ below g c
same_below f g e zero = refl
same_below f g e (suc c) = let here = e c in let there = same_below f g e c in omega (arith, here, there)

-- the cells below one are counted alike by accesses and by the rights that they give
same_count : (xs : List Access) (own : ℕ → Right) → Behind 0 xs → ((d : ℕ) → in_clauses xs d ≡ has_cell (own d)) → (c : ℕ) → cells_before xs c ≡ cells_below own c
same_count xs own b e c = sym (count xs 0 b c) ∙ same_below (λ d. num (in_clauses xs d)) (λ d. num (has_cell (own d))) (λ d. ap num (e d)) c

chosen_or : (t : Bool) (n : ℕ) (x : Option ℕ) → (if t then Some n else x) ≡ or_else (if t then Some n else None) x
chosen_or true n x = refl
chosen_or false n x = refl

told_by : (xs : List Access) (own : ℕ → Right) (t c : ℕ) → Behind 0 xs → ((d : ℕ) → in_clauses xs d ≡ has_cell (own d))
    → (if in_clauses xs c then Some (t + 1 + cells_before xs c) else None) ≡ entry_on t own c
told_by xs own t c b e =
    ap (λ (u : Bool). if u then Some (t + 1 + cells_before xs c) else None) (e c)
    ∙ ap (λ (n : ℕ). if has_cell (own c) then Some (t + 1 + n) else None) (same_count xs own b e c)

-- of the cells that accesses name no more stand below one than there are
before_few : (xs : List Access) (c : ℕ) → cells_before xs c ≤ cells_in xs
before_few [] c = omega arith
before_few (a ∷ rest) c = let o = a.range.ordered in let few = before_few rest c in omega (arith, o, few)

-- and all of them below the last cell that there can be
before_all : (xs : List Access) (c : ℕ) → 1048576 ≤ c → cells_before xs c ≡ cells_in xs
before_all [] c l = refl
before_all (a ∷ rest) c l = let o = a.range.ordered in let w = a.range.within in let all = before_all rest c l in omega (arith, o, w, all, l)

moved_if : (x : Bool) (t n : ℕ) → t + (1 + n) ≤ 4294967295 → moved t (if x then Some (1 + n) else None) ≡ (if x then Some (t + 1 + n) else None)
moved_if true t n few = ap (λ (m : ℕ). Some m) (omega (arith, few))
moved_if false t n few = refl

in_all : (xs : List Access) (own : ℕ → Right) → IsRising xs → ((d : ℕ) → right_from false xs d ≡ held_right (own d)) → (d : ℕ) → in_clauses xs d ≡ has_cell (own d)
in_all xs own r same d = sym (named_is xs 0 d (rising_behind xs r)) ∙ (ap has_cell (same d) ∙ held_has (own d))

-- the cells of a task whose rights accesses give
pub cells_are : (xs : List Access) (own : ℕ → Right) → IsRising xs → ((d : ℕ) → right_from false xs d ≡ held_right (own d)) → HasCells (cells_in xs) own
cells_are xs own r same = record {
  few = λ c. subst (λ (n : ℕ). n ≤ cells_in xs) (same_count xs own (rising_behind xs r) (in_all xs own r same) c) (before_few xs c);
  all = λ c l. sym (same_count xs own (rising_behind xs r) (in_all xs own r same) c) ∙ before_all xs c l;
}

-- the entries of a task whose rights accesses give, and whose number is 0
pub entries_are : (xs : List Access) (own : ℕ → Right) (c : ℕ) → IsRising xs → cells_in xs < 16777216 → ((d : ℕ) → right_from false xs d ≡ held_right (own d))
    → moved 0 (entry_told (entered 1 xs c None) c) ≡ entry_on 0 own c
entries_are xs own c r few same =
    ap (moved 0) (entered_is xs 0 1 c None (rising_behind xs r) (omega (arith, few)))
    ∙ (moved_if (in_clauses xs c) 0 (cells_before xs c) (let b = before_few xs c in omega (arith, few, b))
    ∙ told_by xs own 0 c (rising_behind xs r) (in_all xs own r same))

-- entries of a task with a number are those of a task with another one, if all sums are small
kept_if : (x : Bool) (t u n : ℕ) (e : Option ℕ) → t + 1 + n < 4294967295 → u + 1 + n ≤ 4294967295 → moved t e ≡ (if x then Some (t + 1 + n) else None)
    → moved u e ≡ (if x then Some (u + 1 + n) else None)
kept_if true t u n None few few' h = absurd (let bad : ⊥ = cc in bad)
kept_if true t u n (Some e) few few' h = let q : min (t + e) 4294967295 ≡ t + 1 + n = cc in ap (λ (m : ℕ). Some m) (omega (arith, few, few', q))
kept_if false t u n None few few' h = refl
kept_if false t u n (Some e) few few' h = absurd (let bad : ⊥ = cc in bad)

pub entries_move : (own : ℕ → Right) (t u cells c : ℕ) (e : Option ℕ) → cells_below own c ≤ cells → t + cells < 16777216 → u + cells < 16777216
    → moved t e ≡ entry_on t own c → moved u e ≡ entry_on u own c
entries_move own t u cells c e few ts us h = kept_if (has_cell (own c)) t u (cells_below own c) e (omega (arith, few, ts)) (omega (arith, few, us)) h

-- the last children after a new one with these accesses
pub lasts_are : (xs : List Access) (child c : ℕ) (kept : Option ℕ) → IsRising xs → child + cells_in xs < 16777216
    → entry_told (entered (child + 1) xs c kept) c ≡ or_else (entry_on child (right_from false xs) c) (entry_told kept c)
lasts_are xs child c kept r few =
    entered_is xs 0 (child + 1) c kept (rising_behind xs r) (omega (arith, few))
    ∙ (chosen_or (in_clauses xs c) (child + 1 + cells_before xs c) (entry_told kept c)
    ∙ ap (λ (x : Option ℕ). or_else x (entry_told kept c)) (told_by xs (right_from false xs) child c (rising_behind xs r) (λ d. sym (named_is xs 0 d (rising_behind xs r)))))

-- accesses that stand one behind the other name no more cells than a program has
few_from : (xs : List Access) (h : ℕ) → Behind h xs → h ≤ 1048576 → h + cells_in xs ≤ 1048576
few_from [] h b l = omega (arith, l)
few_from (a ∷ rest) h b l =
    let o = a.range.ordered in let w = a.range.within in let k = b.0 in
    let few = few_from rest a.range.hi b.1 w in
    omega (arith, o, w, k, few)

pub few_cells : (xs : List Access) → IsRising xs → cells_in xs ≤ 1048576
few_cells xs r = let few = few_from xs 0 (rising_behind xs r) (omega arith) in omega (arith, few)
