-- The accesses of a new task, one after the other.
use Rattle.std.proofs.Common.{◌≡◌, ◌≤◌, ◌<◌, ◌⊎◌, inl, inr, ℕ, zero, suc, ◌+◌, ◌-◌, refl, sym, subst, ap, ◌∙◌, arith, Bool, true, false, List, [], ◌∷◌, if◌then◌else◌}
use Rattle.std.specs.Prelude.{◌&&◌, ◌==◌}
use Rattle.std.proofs.lemmas.Bool.Decides.{nat_tests}
use Rattle.oss_syntax.specs.declared.access.Access.{Access}
use Rattle.oss_syntax.specs.declared.access.Mode.{Mode}
use Rattle.oss_model.specs.Rights.{Right, NoRight, Released, Holds, in_access, joined_right, right_from}
use Rattle.oss_judge.specs.Joined.{IsRising, held_right}
use Rattle.oss_words.specs.Sums.{below, num}
use Rattle.oss_roles.specs.Numbers.{cells_below, has_cell}
use Rattle.oss_jobs.specs.declared.job.Job.{Job}
use Rattle.oss_jobs.specs.Entries.{cells_in}
use Rattle.oss_jobs.specs.Jobs.{last_at, task_of}
use Rattle.oss_jobs.proofs.EntryLemmas.{few_cells}
use Rattle.oss_field.specs.Plans.{is_missing, waits_for}
use Rattle.oss_creations.specs.Accesses.{Gives, waits_at, waits_below, waits_of}

below_or : (m n : ℕ) → (m < n) ⊎ (n ≤ m)
below_or m n = grind arith

-- the accesses stand one behind the other, from this cell on
abbrev pub Behind : ℕ → List Access → Type 0
Behind h [] = Unit {0}
Behind h (a ∷ rest) = (h ≤ a.range.lo) × Behind a.range.hi rest

behind_from : (h : ℕ) (a : Access) (rest : List Access) → IsRising (a ∷ rest) → h ≤ a.range.lo → Behind h (a ∷ rest)
behind_from h a [] r l = (l, tt)
behind_from h a (b ∷ rest) r l = (l, behind_from a.range.hi b rest r.1 r.0.behind)

rising_behind : (xs : List Access) → IsRising xs → Behind 0 xs
rising_behind [] r = tt
rising_behind (a ∷ rest) r = behind_from 0 a rest r (omega arith)

out_below : (a : Access) (c : ℕ) → c < a.range.lo → in_access a c ≡ false
out_below a c l = grind (arith, nat_tests)

out_behind : (a : Access) (c : ℕ) → a.range.hi ≤ c → in_access a c ≡ false
out_behind a c l = grind (arith, nat_tests)

within : (a : Access) (c : ℕ) → a.range.lo ≤ c → c < a.range.hi → in_access a c ≡ true
within a c l h = grind (arith, nat_tests)

chosen : (a : Access) (rest : List Access) (c : ℕ) (t : Bool) → in_access a c ≡ t → right_from false (a ∷ rest) c ≡ (if t then joined_right a.mode a.strong (right_from false rest c) else right_from false rest c)
chosen a rest c t e = ap (λ (u : Bool). if u then joined_right a.mode a.strong (right_from false rest c) else right_from false rest c) e

no_right : (xs : List Access) (h c : ℕ) → Behind h xs → c < h → right_from false xs c ≡ NoRight
no_right [] h c b l = refl
no_right (a ∷ rest) h c b l =
    let o = a.range.ordered in let k = b.0 in
    chosen a rest c false (out_below a c (omega (arith, k, l))) ∙ no_right rest a.range.hi c b.1 (omega (arith, o, k, l))

held_holds : (r : Right) (mode : Mode) (strong : Bool) → Holds mode strong ≡ held_right r → r ≡ Holds mode strong
held_holds NoRight mode strong e = absurd (let bad : ⊥ = cc in bad)
held_holds Released mode strong e = absurd (let bad : ⊥ = cc in bad)
held_holds (Holds m s) mode strong e = sym e

held_none : (r : Right) → NoRight ≡ held_right r → has_cell r ≡ false
held_none NoRight e = refl
held_none Released e = refl
held_none (Holds m s) e = absurd (let bad : ⊥ = cc in bad)

-- What is left of the accesses gives the rights to all cells from h on.
pub record Left (own : ℕ → Right) (h : ℕ) (xs : List Access) : Type 0 where
  pub behind : Behind h xs
  pub rights : (c : ℕ) → h ≤ c → right_from false xs c ≡ held_right (own c)

pub left_all : (own : ℕ → Right) (xs : List Access) → Gives own xs → Left own 0 xs
left_all own xs g = record { behind = rising_behind xs g.0; rights = λ c l. g.1 c }

-- behind the last there is none
left_none : (own : ℕ → Right) (h c : ℕ) → Left own h [] → h ≤ c → has_cell (own c) ≡ false
left_none own h c l low = held_none (own c) (l.rights c low)

module _ (own : ℕ → Right) (h : ℕ) (a : Access) (rest : List Access) (l : Left own h (a ∷ rest)) where
  pub first_low : h ≤ a.range.lo
  first_low = l.behind.0

  rest_behind : Behind a.range.hi rest
  rest_behind = l.behind.1

  -- none stands before the first
  gap : (c : ℕ) → h ≤ c → c < a.range.lo → has_cell (own c) ≡ false
  gap c low high =
      let o = a.range.ordered in
      held_none (own c) (sym (chosen a rest c false (out_below a c high) ∙ no_right rest a.range.hi c rest_behind (omega (arith, o, high))) ∙ l.rights c low)

  pub holds : (c : ℕ) → a.range.lo ≤ c → c < a.range.hi → own c ≡ Holds a.mode a.strong
  holds c low high =
      held_holds (own c) a.mode a.strong
      (sym (chosen a rest c true (within a c low high) ∙ ap (λ (r : Right). joined_right a.mode a.strong r) (no_right rest a.range.hi c rest_behind high)) ∙ l.rights c (let f = first_low in omega (arith, f, low)))

  pub left_more : Left own a.range.hi rest
  left_more = record {
    behind = rest_behind;
    rights = λ c low. let f = first_low in let o = a.range.ordered in sym (chosen a rest c false (out_behind a c low)) ∙ l.rights c (omega (arith, f, o, low));
  }

-- a sum is level where nothing is added, and two are alike where the same is added
level : (f : ℕ → ℕ) (a b : ℕ) → a ≤ b → ((c : ℕ) → a ≤ c → c < b → f c ≡ 0) → below f a ≡ below f b
level f a zero l h = let e : a ≡ 0 = omega (arith, l) in subst (λ (z : ℕ). below f z ≡ below f 0) (sym e) refl
level f a (suc b) l h = elim (below_or b a) [
  | inl q ↦ let e : a ≡ suc b = omega (arith, l, q) in subst (λ (z : ℕ). below f z ≡ below f (suc b)) (sym e) refl
  | inr q ↦ let e = level f a b q (λ c low high. h c low (omega (arith, high))) in let z = h b q (omega arith) in omega (arith, e, z)
]

alike : (f g : ℕ → ℕ) (a b : ℕ) → a ≤ b → ((c : ℕ) → a ≤ c → c < b → f c ≡ g c) → below f b + below g a ≡ below g b + below f a
alike f g a zero l h = let e : a ≡ 0 = omega (arith, l) in subst (λ (z : ℕ). below f 0 + below g z ≡ below g 0 + below f z) (sym e) refl
alike f g a (suc b) l h = elim (below_or b a) [
  | inl q ↦ let e : a ≡ suc b = omega (arith, l, q) in subst (λ (z : ℕ). below f (suc b) + below g z ≡ below g (suc b) + below f z) (sym e) (let c = below f (suc b) in let d = below g (suc b) in omega arith)
  | inr q ↦ let e = alike f g a b q (λ c low high. h c low (omega (arith, high))) in let z = h b q (omega arith) in omega (arith, e, z)
]

rising_sum : (f : ℕ → ℕ) (a b : ℕ) → a ≤ b → below f a ≤ below f b
rising_sum f a zero l = let e : a ≡ 0 = omega (arith, l) in subst (λ (z : ℕ). below f z ≤ below f 0) (sym e) (omega arith)
rising_sum f a (suc b) l = elim (below_or b a) [
  | inl q ↦ let e : a ≡ suc b = omega (arith, l, q) in subst (λ (z : ℕ). below f z ≤ below f (suc b)) (sym e) (omega arith)
  | inr q ↦ let e = rising_sum f a b q in omega (arith, e)
]

none_counts : (r : Right) (b : Bool) → has_cell r ≡ false → num (has_cell r && b) ≡ 0
none_counts r b e = ap (λ (z : Bool). num (z && b)) e

no_cell : (r : Right) → has_cell r ≡ false → num (has_cell r) ≡ 0
no_cell r e = ap num e

one_cell : (r : Right) (mode : Mode) (strong : Bool) → r ≡ Holds mode strong → num (has_cell r) ≡ 1
one_cell r mode strong e = ap (λ (z : Right). num (has_cell z)) e

-- the number of the first entry of what is left
pub number_moves : (own : ℕ → Right) (h : ℕ) (a : Access) (rest : List Access) → Left own h (a ∷ rest) → cells_below own a.range.lo ≡ cells_below own h
number_moves own h a rest l = sym (level (λ d. num (has_cell (own d))) h a.range.lo (first_low own h a rest l) (λ c low high. no_cell (own c) (gap own h a rest l c low high)))

-- the entries of a run follow each other
pub run_number : (own : ℕ → Right) (lo c : ℕ) (mode : Mode) (strong : Bool) → lo ≤ c → ((d : ℕ) → lo ≤ d → d < c → own d ≡ Holds mode strong) → cells_below own c ≡ cells_below own lo + (c - lo)
run_number own lo zero mode strong l h = let e : lo ≡ 0 = omega (arith, l) in subst (λ (z : ℕ). cells_below own 0 ≡ cells_below own z + (0 - z)) (sym e) refl
run_number own lo (suc c) mode strong l h = elim (below_or c lo) [
  | inl q ↦ let e : lo ≡ suc c = omega (arith, l, q) in subst (λ (z : ℕ). cells_below own (suc c) ≡ cells_below own z + (suc c - z)) (sym e) (omega arith)
  | inr q ↦
      let e = run_number own lo c mode strong q (λ d low high. h d low (omega (arith, high))) in
      let one = one_cell (own c) mode strong (h c q (omega arith)) in
      omega (arith, e, one, q)
]

-- all cells that are left are counted
module _ (own : ℕ → Right) (m : ℕ) (inside : (c : ℕ) → m ≤ c → has_cell (own c) ≡ false) where
  -- two places behind all cells
  behind_all : (f : ℕ → ℕ) (h : ℕ) → ((c : ℕ) → has_cell (own c) ≡ false → f c ≡ 0) → ((c : ℕ) → h ≤ c → has_cell (own c) ≡ false) → below f h ≡ below f m
  behind_all f h zero_ none = elim (below_or h m) [
    | inl l ↦ level f h m (omega (arith, l)) (λ c low high. zero_ c (none c low))
    | inr l ↦ sym (level f m h l (λ c low high. zero_ c (inside c low)))
  ]

  pub cells_left : (h : ℕ) (xs : List Access) → Left own h xs → cells_in xs + cells_below own h ≡ cells_below own m
  cells_left h [] l = let e = behind_all (λ d. num (has_cell (own d))) h (λ c e. no_cell (own c) e) (λ c low. left_none own h c l low) in omega (arith, e)
  cells_left h (a ∷ rest) l =
      let o = a.range.ordered in
      let there = cells_left a.range.hi rest (left_more own h a rest l) in
      let here = run_number own a.range.lo a.range.hi a.mode a.strong (omega (arith, o)) (holds own h a rest l) in
      let moved = number_moves own h a rest l in
      omega (arith, o, there, here, moved)

  module _ (j : Job) where
    abbrev counted : ℕ → ℕ
    counted c = num (has_cell (own c) && waits_for (own c) ((task_of j == 0) && is_missing (last_at j c)))

    counts_here : (c : ℕ) (mode : Mode) (strong : Bool) → own c ≡ Holds mode strong → num (waits_at j mode strong c) ≡ counted c
    counts_here c mode strong e = sym (ap (λ (r : Right). num (has_cell r && waits_for r ((task_of j == 0) && is_missing (last_at j c)))) e)

    pub waits_left : (h : ℕ) (xs : List Access) → Left own h xs → waits_of j xs + below counted h ≡ below counted m
    waits_left h [] l =
        let e = behind_all counted h (λ c e. none_counts (own c) (waits_for (own c) ((task_of j == 0) && is_missing (last_at j c))) e) (λ c low. left_none own h c l low) in
        omega (arith, e)
    waits_left h (a ∷ rest) l =
        let o = a.range.ordered in
        let there = waits_left a.range.hi rest (left_more own h a rest l) in
        let moved = level counted h a.range.lo (first_low own h a rest l) (λ c low high. none_counts (own c) (waits_for (own c) ((task_of j == 0) && is_missing (last_at j c))) (gap own h a rest l c low high)) in
        let same = alike (λ d. num (waits_at j a.mode a.strong d)) counted a.range.lo a.range.hi (omega (arith, o)) (λ c low high. counts_here c a.mode a.strong (holds own h a rest l c low high)) in
        let rises = rising_sum (λ d. num (waits_at j a.mode a.strong d)) a.range.lo a.range.hi (omega (arith, o)) in
        let rises' = rising_sum counted a.range.lo a.range.hi (omega (arith, o)) in
        omega (arith, o, there, moved, same, rises, rises')

-- no more cells are waited for than there are
one_more : (b : Bool) → num b ≤ 1
one_more true = omega arith
one_more false = omega arith

few_waits : (j : Job) (mode : Mode) (strong : Bool) (lo hi : ℕ) → lo ≤ hi → waits_below j mode strong hi ≤ waits_below j mode strong lo + (hi - lo)
few_waits j mode strong lo zero l = let e : lo ≡ 0 = omega (arith, l) in subst (λ (z : ℕ). waits_below j mode strong 0 ≤ waits_below j mode strong z + (0 - z)) (sym e) (omega arith)
few_waits j mode strong lo (suc hi) l = elim (below_or hi lo) [
  | inl q ↦ let e : lo ≡ suc hi = omega (arith, l, q) in subst (λ (z : ℕ). waits_below j mode strong (suc hi) ≤ waits_below j mode strong z + (suc hi - z)) (sym e) (omega arith)
  | inr q ↦ let e = few_waits j mode strong lo hi q in let one = one_more (waits_at j mode strong hi) in omega (arith, e, one, q)
]

waits_few : (j : Job) (xs : List Access) → waits_of j xs ≤ cells_in xs
waits_few j [] = omega arith
waits_few j (a ∷ rest) =
    let o = a.range.ordered in
    let here = few_waits j a.mode a.strong a.range.lo a.range.hi (omega (arith, o)) in
    let there = waits_few j rest in
    omega (arith, o, here, there)

pub few_waited : (j : Job) (xs : List Access) → IsRising xs → waits_of j xs ≤ 1048576
few_waited j xs r = let a = waits_few j xs in let b = few_cells xs r in omega (arith, a, b)
