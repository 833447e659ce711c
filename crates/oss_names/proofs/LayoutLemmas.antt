-- Where globals lie: bounds are sums of sizes, they rise, and none passes the limit.
use Rattle.std.proofs.Common.{◌≡◌, ℕ, zero, suc, ◌+◌, ◌-◌, ◌<◌, ◌≤◌, add-one, not, List, [], ◌∷◌, length, take, get_or, None, refl, ap, ◌∙◌, subst, arith}
use Rattle.std.proofs.Math.Seq.{take-length}
use Rattle.std.specs.List.{fold, sum}
use Rattle.oss_syntax.specs.declared.tree.program.Item.{Item}
use Rattle.oss_syntax.specs.declared.tree.program.Item.TheVariants as items
use Rattle.oss_syntax.specs.declared.tree.program.Program.{Program}
use Rattle.oss_syntax.specs.declared.refusal.RefusedKind.TheVariants as refused
use Rattle.oss_grammar.specs.Broken.{first, where_so}
use Rattle.oss_grammar.specs.Layout.{cells_in, cells_of, sizes_of, start_of, names_of}
use Rattle.oss_grammar.specs.ProgramRules.{function_rules, global_rules, has_main, items_rules, program_rules}
use Rattle.oss_loops.proofs.KeptLemmas.{names-kept, sizes-kept}
use Rattle.oss_names.specs.Resolved.{IsWrittenOut, bounds_of}
use Rattle.oss_names.proofs.Parts.{append-left, append-right}
use Rattle.oss_names.proofs.ProgramLemmas.{global-cells}

bounds-length : (b : ℕ) (ss : List ℕ) → length (bounds_of b ss) ≡ length ss + 1
bounds-length b [] = refl
bounds-length b (s ∷ ss) = omega (arith, bounds-length (b + s) ss)

-- a sum that begins at a number
sum-from : (a : ℕ) (xs : List ℕ) → fold (λ m n. m + n) a xs ≡ a + sum xs
sum-from a [] = omega arith
sum-from a (x ∷ xs) =
    let more : fold (λ m n. m + n) (a + x) xs ≡ (a + x) + sum xs = sum-from (a + x) xs in
    let less : fold (λ m n. m + n) (0 + x) xs ≡ (0 + x) + sum xs = sum-from (0 + x) xs in
    let whole : sum (x ∷ xs) ≡ (0 + x) + sum xs = less in
    let there : fold (λ m n. m + n) a (x ∷ xs) ≡ (a + x) + sum xs = more in
    omega (arith, whole, there)

sum-one : (k s : ℕ) (ss : List ℕ) → sum (take (suc k) (s ∷ ss)) ≡ s + sum (take k ss)
sum-one k s ss =
    let from : fold (λ m n. m + n) (0 + s) (take k ss) ≡ (0 + s) + sum (take k ss) = sum-from (0 + s) (take k ss) in
    let whole : sum (take (suc k) (s ∷ ss)) ≡ (0 + s) + sum (take k ss) = from in
    omega (arith, whole)

sum-none : (ss : List ℕ) → sum (take 0 ss) ≡ 0
sum-none [] = refl
sum-none (s ∷ ss) = refl

at-one : (k b d : ℕ) (bs : List ℕ) → get_or (b ∷ bs) (suc k) d ≡ get_or bs k d
at-one k b d bs = refl

at-none : (b d : ℕ) (bs : List ℕ) → get_or (b ∷ bs) 0 d ≡ b
at-none b d bs = refl

bounds-at : (b : ℕ) (ss : List ℕ) (k d : ℕ) → k ≤ length ss → get_or (bounds_of b ss) k d ≡ b + sum (take k ss)
bounds-at b [] zero d h = omega (arith, sum-none [], at-none b d [])
bounds-at b (s ∷ ss) zero d h = omega (arith, sum-none (s ∷ ss), at-none b d (bounds_of (b + s) ss))
bounds-at b [] (suc k) d h = absurd (omega arith)
bounds-at b (s ∷ ss) (suc k) d h = omega (arith, sum-one k s ss, at-one k b d (bounds_of (b + s) ss), bounds-at (b + s) ss k d (omega arith))

module _ (all : List Item) where
  lie-within : (p b : ℕ) (xs : List Item) (k : ℕ) → first (items_rules all p b xs) ≡ None → b ≤ 1048576 → b + sum (take k (sizes_of xs)) ≤ 1048576
  lie-within p b xs zero none few = omega (arith, sum-none (sizes_of xs))
  lie-within p b [] (suc k) none few = omega (arith, sum-none [])
  lie-within p b (items.Global g ∷ rest) (suc k) none few =
      let here = global-cells all p b g (append-left (global_rules all p b g) (items_rules all (p + 1) (b + cells_of g.cells) rest) none) in
      let more = here.1 in
      let there = lie-within (p + 1) (b + cells_of g.cells) rest k (append-right (global_rules all p b g) (items_rules all (p + 1) (b + cells_of g.cells) rest) none) here.1 in
      omega (arith, more, there, sum-one k (cells_of g.cells) (sizes_of rest))
  lie-within p b (items.Function f ∷ rest) (suc k) none few =
      lie-within (p + 1) b rest (suc k) (append-right (function_rules all p f) (items_rules all (p + 1) b rest) none) few

  lie-rising : (p b : ℕ) (xs : List Item) (k : ℕ) → first (items_rules all p b xs) ≡ None → k < length (sizes_of xs) → sum (take k (sizes_of xs)) < sum (take (suc k) (sizes_of xs))
  lie-rising p b [] k none within = absurd (omega arith)
  lie-rising p b (items.Global g ∷ rest) zero none within =
      let here = global-cells all p b g (append-left (global_rules all p b g) (items_rules all (p + 1) (b + cells_of g.cells) rest) none) in
      let some = here.0 in
      omega (arith, some, sum-none (cells_of g.cells ∷ sizes_of rest), sum-one 0 (cells_of g.cells) (sizes_of rest))
  lie-rising p b (items.Global g ∷ rest) (suc k) none within =
      let there = lie-rising (p + 1) (b + cells_of g.cells) rest k (append-right (global_rules all p b g) (items_rules all (p + 1) (b + cells_of g.cells) rest) none) (omega arith) in
      omega (arith, there, sum-one k (cells_of g.cells) (sizes_of rest), sum-one (suc k) (cells_of g.cells) (sizes_of rest))
  lie-rising p b (items.Function f ∷ rest) k none within =
      lie-rising (p + 1) b rest k (append-right (function_rules all p f) (items_rules all (p + 1) b rest) none) within

  -- each global has a cell at least
  names-within : (p b : ℕ) (xs : List Item) → first (items_rules all p b xs) ≡ None → b ≤ 1048576 → b + length (names_of xs) ≤ 1048576
  names-within p b [] none few = omega arith
  names-within p b (items.Global g ∷ rest) none few =
      let here = global-cells all p b g (append-left (global_rules all p b g) (items_rules all (p + 1) (b + cells_of g.cells) rest) none) in
      let some = here.0 in
      let there = names-within (p + 1) (b + cells_of g.cells) rest (append-right (global_rules all p b g) (items_rules all (p + 1) (b + cells_of g.cells) rest) none) here.1 in
      omega (arith, some, there)
  names-within p b (items.Function f ∷ rest) none few =
      names-within (p + 1) b rest (append-right (function_rules all p f) (items_rules all (p + 1) b rest) none) few

-- the globals of a program that breaks no rule
none-told : (q : Program) → program_rules q ≡ [] → first (items_rules q.items 0 0 q.items) ≡ None
none-told q well = append-left (items_rules q.items 0 0 q.items) (where_so (not (has_main q.items)) refused.NoMain 1) (ap first well)

pub names-few : (q : Program) → IsWrittenOut q → length (names_of q.items) ≤ 1048576
names-few q well =
    let within = names-within well.source.items 0 0 well.source.items (none-told well.source well.obeys) (omega arith) in
    let same : names_of q.items ≡ names_of well.source.items = ap (λ p. names_of p.items) well.is_of ∙ names-kept well.source.items in
    let many : length (names_of q.items) ≡ length (names_of well.source.items) = ap length same in
    omega (arith, within, many)

sizes-many : (xs : List Item) → length (sizes_of xs) ≡ length (names_of xs)
sizes-many [] = refl
sizes-many (items.Global g ∷ rest) = ap suc (sizes-many rest)
sizes-many (items.Function f ∷ rest) = sizes-many rest

pub sizes-few : (q : Program) → IsWrittenOut q → length (sizes_of q.items) ≤ 1048576
sizes-few q well = let few = names-few q well in omega (arith, few, sizes-many q.items)

-- the bounds of a program that is written out of one that breaks no rule
module _ (q : Program) (bounds : List ℕ) (well : IsWrittenOut q) (lie : bounds ≡ bounds_of 0 (sizes_of q.items)) where
  none : first (items_rules well.source.items 0 0 well.source.items) ≡ None
  none = none-told well.source well.obeys

  same : sizes_of q.items ≡ sizes_of well.source.items
  same = ap (λ p. sizes_of p.items) well.is_of ∙ sizes-kept well.source.items

  pub bounds-many : length bounds ≡ length (sizes_of q.items) + 1
  bounds-many = ap length lie ∙ bounds-length 0 (sizes_of q.items)

  pub bound-is : (k x : ℕ) → k ≤ length (sizes_of q.items) → x ≡ get_or bounds k x → x ≡ start_of q.items k
  bound-is k x within is =
      let here : get_or bounds k x ≡ 0 + sum (take k (sizes_of q.items)) = ap (λ bs. get_or bs k x) lie ∙ bounds-at 0 (sizes_of q.items) k x within in
      omega (arith, is, here)

  pub last-bound : (x : ℕ) → x ≡ get_or bounds (length bounds - 1) x → x ≡ cells_in q.items
  last-bound x is =
      let at : length bounds - 1 ≡ length (sizes_of q.items) = omega (arith, bounds-many) in
      bound-is (length (sizes_of q.items)) x (omega arith) (is ∙ ap (λ k. get_or bounds k x) at) ∙ ap sum (take-length (sizes_of q.items))

  pub bounds-rise : (k lo hi : ℕ) → k < length (sizes_of q.items) → lo ≡ start_of q.items k → hi ≡ start_of q.items (k + 1) → lo < hi
  bounds-rise k lo hi within a b =
      let inside : k < length (sizes_of well.source.items) = subst (λ ss. k < length ss) same within in
      let rise = lie-rising well.source.items 0 0 well.source.items k none inside in
      let here : sum (take k (sizes_of q.items)) ≡ sum (take k (sizes_of well.source.items)) = ap (λ ss. sum (take k ss)) same in
      let next : sum (take (k + 1) (sizes_of q.items)) ≡ sum (take (suc k) (sizes_of well.source.items)) = ap (λ n. sum (take n (sizes_of q.items))) (add-one k) ∙ ap (λ ss. sum (take (suc k) ss)) same in
      omega (arith, rise, here, next, a, b)

  pub bound-fits : (k x : ℕ) → x ≡ start_of q.items k → x ≤ 1048576
  bound-fits k x is =
      let small = lie-within well.source.items 0 0 well.source.items k none (omega arith) in
      let here : sum (take k (sizes_of q.items)) ≡ sum (take k (sizes_of well.source.items)) = ap (λ ss. sum (take k ss)) same in
      omega (arith, small, here, is)
