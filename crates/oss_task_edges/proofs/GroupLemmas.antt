-- Groups of an access list: what a new access at its end finds.
use Rattle.std.proofs.Common.{◌≡◌, ℕ, ◌≤◌, ◌<◌, ◌⊎◌, inl, inr, refl, sym, subst, ◌∙◌, arith, Bool, true, false}
use Rattle.std.proofs.lemmas.Bool.{cases_order}
use Rattle.oss_model.specs.Rights.{Right}
use Rattle.oss_task_graph.specs.Groups.{AreNeighbours, AreOneGroup, StandsOn, go_together, is_held, next, same}

never : (b : Bool) → b ≡ true → b ≡ false → ⊥
never b h k = let e : true ≡ false = sym h ∙ k in cc

-- The last step of a group.
pub record LastStep (rights : ℕ → Right) (i k : ℕ) : Type 0 where
  pub before : ℕ
  pub group : AreOneGroup rights i before
  pub neighbours : AreNeighbours rights before k
  pub together : go_together (rights before) (rights k) ≡ true

pub group_cases : (rights : ℕ → Right) (i k : ℕ) → AreOneGroup rights i k → (i ≡ k) ⊎ LastStep rights i k
group_cases rights i _ same = inl refl
group_cases rights i k (next {j = j} g n t) = inr (record { before = j; group = g; neighbours = n; together = t })

pub group_up : (rights : ℕ → Right) (i k : ℕ) → AreOneGroup rights i k → i ≤ k
group_up rights i _ same = omega arith
group_up rights i k (next {j = j} g n t) = let a = group_up rights i j g in let b = n.rises in omega (arith, a, b)

pub group_held : (rights : ℕ → Right) (i k : ℕ) → AreOneGroup rights i k → is_held (rights i) ≡ true → is_held (rights k) ≡ true
group_held rights i _ same h = h
group_held rights i k (next g n t) h = n.second

pub group_first : (rights : ℕ → Right) (i k : ℕ) → AreOneGroup rights i k → is_held (rights k) ≡ true → is_held (rights i) ≡ true
group_first rights i _ same h = h
group_first rights i k (next {j = j} g n t) h = group_first rights i j g n.first

pub stands_up : (rights : ℕ → Right) (j k : ℕ) → StandsOn rights j k → j < k
stands_up rights j k s =
    let a = group_up rights j s.last s.before in
    let b = s.neighbours.rises in
    let c = group_up rights s.first k s.behind in
    omega (arith, a, b, c)

-- both have the cell
pub stands_held : (rights : ℕ → Right) (j k : ℕ) → StandsOn rights j k → is_held (rights k) ≡ true
stands_held rights j k s = group_held rights s.first k s.behind s.neighbours.second

pub stands_first : (rights : ℕ → Right) (j k : ℕ) → StandsOn rights j k → is_held (rights j) ≡ true
stands_first rights j k s = group_first rights j s.last s.before s.neighbours.first

-- the neighbour before an access is one
pub one_before : (rights : ℕ → Right) (i j k : ℕ) → AreNeighbours rights i k → AreNeighbours rights j k → i ≡ j
one_before rights i j k a b = go (cases_order i j)
  where
    go : (i ≡ j) ⊎ ((i < j) ⊎ (j < i)) → i ≡ j
    go (inl e) = e
    go (inr (inl l)) = absurd (a.between j l b.rises b.first)
    go (inr (inr l)) = absurd (b.between i l a.rises a.first)

-- No child before this number has the cell.
abbrev pub NoneBefore : (ℕ → Right) → ℕ → Type 0
NoneBefore rights n = (i : ℕ) → i < n → is_held (rights i) ≡ true → ⊥

module _ (rights : ℕ → Right) (n : ℕ) where
  -- an access that is the first of its list stands on none, and its group has no other yet

  pub first_stands : NoneBefore rights n → (j : ℕ) → StandsOn rights j n → ⊥
  first_stands none j s =
      let b = s.neighbours.rises in
      let c = group_up rights s.first n s.behind in
      none s.last (omega (arith, b, c)) s.neighbours.first

  pub first_alone : NoneBefore rights n → (j : ℕ) → j < n → AreOneGroup rights j n → ⊥
  first_alone none j l g = go (group_cases rights j n g)
    where
      go : (j ≡ n) ⊎ LastStep rights j n → ⊥
      go (inl e) = omega (arith, l, e)
      go (inr s) = none s.before s.neighbours.rises s.neighbours.first

module _ (rights : ℕ → Right) (n k : ℕ) (nb : AreNeighbours rights k n) where
  -- an access that comes into the group of the one before it

  module _ (t : go_together (rights k) (rights n) ≡ true) where
    pub joins : (j : ℕ) → AreOneGroup rights j k → AreOneGroup rights j n
    joins j g = next g nb t

    pub joined_only : (j : ℕ) → j < n → AreOneGroup rights j n → AreOneGroup rights j k
    joined_only j l g = go (group_cases rights j n g)
      where
        go : (j ≡ n) ⊎ LastStep rights j n → AreOneGroup rights j k
        go (inl e) = absurd (omega (arith, l, e))
        go (inr s) = subst (λ (x : ℕ). AreOneGroup rights j x) (one_before rights s.before k n s.neighbours nb) s.group

    pub stands_joined : (j : ℕ) → StandsOn rights j k → StandsOn rights j n
    stands_joined j s = record { last = s.last; first = s.first; before = s.before; neighbours = s.neighbours; apart = s.apart; behind = next s.behind nb t }

    pub stands_joined_only : (j : ℕ) → StandsOn rights j n → StandsOn rights j k
    stands_joined_only j s = go (group_cases rights s.first n s.behind)
      where
        go : (s.first ≡ n) ⊎ LastStep rights s.first n → StandsOn rights j k
        go (inl e) =
            let m : AreNeighbours rights s.last n = subst (λ (x : ℕ). AreNeighbours rights s.last x) e s.neighbours in
            let same_one : s.last ≡ k = one_before rights s.last k n m nb in
            let apart : go_together (rights k) (rights n) ≡ false = subst (λ (x : ℕ). go_together (rights x) (rights n) ≡ false) same_one (subst (λ (x : ℕ). go_together (rights s.last) (rights x) ≡ false) e s.apart) in
            absurd (never (go_together (rights k) (rights n)) t apart)
        go (inr h) =
            record {
              last = s.last;
              first = s.first;
              before = s.before;
              neighbours = s.neighbours;
              apart = s.apart;
              behind = subst (λ (x : ℕ). AreOneGroup rights s.first x) (one_before rights h.before k n h.neighbours nb) h.group;
            }

  -- an access that begins a group

  module _ (t : go_together (rights k) (rights n) ≡ false) where
    not_last : (i : ℕ) → LastStep rights i n → ⊥
    not_last i s =
        let e = one_before rights s.before k n s.neighbours nb in
        never (go_together (rights k) (rights n)) (subst (λ (x : ℕ). go_together (rights x) (rights n) ≡ true) e s.together) t

    pub begins_alone : (j : ℕ) → j < n → AreOneGroup rights j n → ⊥
    begins_alone j l g = go (group_cases rights j n g)
      where
        go : (j ≡ n) ⊎ LastStep rights j n → ⊥
        go (inl e) = omega (arith, l, e)
        go (inr s) = not_last j s

    pub begins_on : (j : ℕ) → AreOneGroup rights j k → StandsOn rights j n
    begins_on j g = record { last = k; first = n; before = g; neighbours = nb; apart = t; behind = same }

    pub begins_only : (j : ℕ) → StandsOn rights j n → AreOneGroup rights j k
    begins_only j s = go (group_cases rights s.first n s.behind)
      where
        go : (s.first ≡ n) ⊎ LastStep rights s.first n → AreOneGroup rights j k
        go (inl e) =
            let m : AreNeighbours rights s.last n = subst (λ (x : ℕ). AreNeighbours rights s.last x) e s.neighbours in
            subst (λ (x : ℕ). AreOneGroup rights j x) (one_before rights s.last k n m nb) s.before
        go (inr h) = absurd (not_last s.first h)
