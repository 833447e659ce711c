-- Where two accesses of a list conflict, a way leads from the earlier one to the later one.
use Rattle.std.proofs.Common.{◌≡◌, ℕ, zero, suc, ◌≤◌, ◌<◌, ◌⊎◌, inl, inr, refl, sym, subst, ◌∙◌, arith, Bool, true, false}
use Rattle.std.proofs.lemmas.Bool.{cases_order}
use Rattle.oss_syntax.specs.declared.access.Mode.TheVariants.{Fold, Read, Write}
use Rattle.oss_model.specs.Machine.{mode_of}
use Rattle.oss_model.specs.Rights.{Right, NoRight, Released, Holds}
use Rattle.oss_task_graph.specs.Groups.{AreNeighbours, AreOneGroup, StandsOn, go_together, is_held, next, same}
use Rattle.oss_graph_edges_laws.specs.Claims.{IsWay, WaysAreDrawn, edge, further}
use Rattle.oss_graph_edges_laws.proofs.GroupLemmas.{folds_together, group_mode, reads_together}

never : (b : Bool) → b ≡ true → b ≡ false → ⊥
never b h k = let e : true ≡ false = sym h ∙ k in cc

two_ways : (b : Bool) → (b ≡ true) ⊎ (b ≡ false)
two_ways true = inl refl
two_ways false = inr refl

-- The neighbour before an access, as far back as a child that has the cell.
pub record Before (rights : ℕ → Right) (j k : ℕ) : Type 0 where
  pub one : ℕ
  pub from : j ≤ one
  pub neighbours : AreNeighbours rights one k

-- What lies between two numbers has no access.
abbrev NoneBetween : (ℕ → Right) → ℕ → ℕ → Type 0
NoneBetween rights n k = (i : ℕ) → n ≤ i → i < k → is_held (rights i) ≡ true → ⊥

module _ (rights : ℕ → Right) where
  one_less : (n k : ℕ) → is_held (rights n) ≡ false → NoneBetween rights (suc n) k → NoneBetween rights n k
  one_less n k e none i a b h = go (cases_order i n)
    where
      go : (i ≡ n) ⊎ ((i < n) ⊎ (n < i)) → ⊥
      go (inl equal) = never (is_held (rights n)) (subst (λ (x : ℕ). is_held (rights x) ≡ true) equal h) e
      go (inr (inl l)) = omega (arith, a, l)
      go (inr (inr l)) = none i (omega (arith, l)) b h

  -- the access before another one is the one below a number, or it is found further back
  back : (j k n : ℕ) → j < suc n → suc n ≤ k → is_held (rights j) ≡ true → is_held (rights k) ≡ true → NoneBetween rights (suc n) k → (is_held (rights n) ≡ true) ⊎ (is_held (rights n) ≡ false)
      → (j < n → is_held (rights n) ≡ false → Before rights j k) → Before rights j k
  back j k n l m h g none (inl e) further_back =
      record {
        one = n;
        from = omega (arith, l);
        neighbours = record { rises = omega (arith, m); first = e; second = g; between = λ i a b. none i (omega (arith, a)) b };
      }
  back j k n l m h g none (inr e) further_back = go (cases_order j n)
    where
      go : (j ≡ n) ⊎ ((j < n) ⊎ (n < j)) → Before rights j k
      go (inl equal) = absurd (never (is_held (rights n)) (subst (λ (x : ℕ). is_held (rights x) ≡ true) equal h) e)
      go (inr (inl b)) = further_back b e
      go (inr (inr b)) = absurd (omega (arith, l, b))

  -- it is looked for from behind, where none lies between this number and the other access
  before : (j k n : ℕ) → j < n → n ≤ k → is_held (rights j) ≡ true → is_held (rights k) ≡ true → NoneBetween rights n k → Before rights j k
  before j k zero l m h g none = absurd (omega (arith, l))
  before j k (suc n) l m h g none = back j k n l m h g none (two_ways (is_held (rights n))) (λ b e. before j k n b (omega (arith, m)) h g (one_less n k e none))

  pub before_of : (j k : ℕ) → j < k → is_held (rights j) ≡ true → is_held (rights k) ≡ true → Before rights j k
  before_of j k l h g = before j k k l (omega arith) h g (λ i a b e. omega (arith, a, b))

  -- the last edge of a way, taken to the next access of the same group

  on_to : (i k : ℕ) → AreNeighbours rights i k → go_together (rights i) (rights k) ≡ true → (j : ℕ) → StandsOn rights j i → StandsOn rights j k
  on_to i k nb t j s = record { last = s.last; first = s.first; before = s.before; neighbours = s.neighbours; apart = s.apart; behind = next s.behind nb t }

  way_on : (i k : ℕ) → AreNeighbours rights i k → go_together (rights i) (rights k) ≡ true → (j : ℕ) → IsWay rights j i → IsWay rights j k
  way_on i k nb t j (edge s) = edge (on_to i k nb t j s)
  way_on i k nb t j (further {i = m} w s) = further w (on_to i k nb t m s)

  begins_on : (i k : ℕ) → AreNeighbours rights i k → go_together (rights i) (rights k) ≡ false → (j : ℕ) → AreOneGroup rights j i → StandsOn rights j k
  begins_on i k nb t j g = record { last = i; first = k; before = g; neighbours = nb; apart = t; behind = same }

  -- an access is of the group of an earlier one, or a way leads to it

  abbrev pub Reaches : ℕ → ℕ → Type 0
  Reaches j k = AreOneGroup rights j k ⊎ IsWay rights j k

  step : (j i k : ℕ) → AreNeighbours rights i k → (go_together (rights i) (rights k) ≡ true) ⊎ (go_together (rights i) (rights k) ≡ false) → Reaches j i → Reaches j k
  step j i k nb (inl t) (inl group) = inl (next group nb t)
  step j i k nb (inl t) (inr way) = inr (way_on i k nb t j way)
  step j i k nb (inr t) (inl group) = inr (edge (begins_on i k nb t j group))
  step j i k nb (inr t) (inr way) = inr (further way (begins_on i k nb t i same))

  by_order : (j k : ℕ) → j ≤ k → is_held (rights j) ≡ true → is_held (rights k) ≡ true → (j ≡ k) ⊎ ((j < k) ⊎ (k < j)) → ((i : ℕ) → i < k → j ≤ i → is_held (rights i) ≡ true → Reaches j i) → Reaches j k
  by_order j k l h g (inl e) lower = inl (subst (λ (x : ℕ). AreOneGroup rights j x) e same)
  by_order j k l h g (inr (inr b)) lower = absurd (omega (arith, l, b))
  by_order j k l h g (inr (inl b)) lower =
      let x = before_of j k b h g in
      step j x.one k x.neighbours (two_ways (go_together (rights x.one) (rights k))) (lower x.one x.neighbours.rises x.from x.neighbours.first)

  -- (the number above all is what the recursion goes down)
  pub reached : (most j k : ℕ) → k ≤ most → j ≤ k → is_held (rights j) ≡ true → is_held (rights k) ≡ true → Reaches j k
  reached zero j k u l h g = by_order j k l h g (cases_order j k) (λ i a b e. absurd (omega (arith, u, a)))
  reached (suc n) j k u l h g = by_order j k l h g (cases_order j k) (λ i a b e. reached n j i (omega (arith, u, a)) b h e)

-- two different accesses of a group go together

pub group_goes : (rights : ℕ → Right) (j k : ℕ) → j < k → AreOneGroup rights j k → is_held (rights j) ≡ true → is_held (rights k) ≡ true → go_together (rights j) (rights k) ≡ true
group_goes rights j _ l same h g = absurd (omega (arith, l))
group_goes rights j k l (next {j = i} group nb t) h g = by_mode (rights k) refl
  where
    here : mode_of (rights j) ≡ mode_of (rights k)
    here = group_mode rights j k (next group nb t)

    by_mode : (r : Right) → rights k ≡ r → go_together (rights j) (rights k) ≡ true
    by_mode (Holds Read s) e = let m : mode_of (rights k) ≡ Read = λ x. mode_of (e x) in reads_together (rights j) (rights k) h g (here ∙ m) m
    by_mode (Holds (Fold op) s) e = let m : mode_of (rights k) ≡ Fold op = λ x. mode_of (e x) in folds_together op (rights j) (rights k) h g (here ∙ m) m
    by_mode (Holds Write s) e = absurd (no_write (rights i) (subst (λ (x : Right). go_together (rights i) x ≡ true) e t))
      where
        no_write : (a : Right) → go_together a (Holds Write s) ≡ true → ⊥
        no_write (Holds Read b) w = cc
        no_write (Holds Write b) w = cc
        no_write (Holds (Fold f) b) w = cc
        no_write NoRight w = cc
        no_write Released w = cc
    by_mode NoRight e = let x : is_held NoRight ≡ true = subst (λ (y : Right). is_held y ≡ true) e g in cc
    by_mode Released e = let x : is_held Released ≡ true = subst (λ (y : Right). is_held y ≡ true) e g in cc

pub ways_are_drawn : WaysAreDrawn
ways_are_drawn rights j k l x = go (reached rights k j k (omega arith) (omega (arith, l)) x.first x.second)
  where
    go : AreOneGroup rights j k ⊎ IsWay rights j k → IsWay rights j k
    go (inl group) = absurd (never (go_together (rights j) (rights k)) (group_goes rights j k l group x.first x.second) x.apart)
    go (inr way) = way
