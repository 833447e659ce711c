-- The accesses of a new task, added one stretch after the other.
use Rattle.std.proofs.Common.{◌≡◌, ℕ, ◌+◌, ◌<◌, ◌≤◌, zero, suc, refl, sym, ap, subst, ◌∙◌, List, [], ◌∷◌, ◌++◌, ◌⊎◌, inl, inr, true, false, Some, None, arith, length, get_or, set, take}
use Rattle.std.proofs.lemmas.List.{length-set, take_more}
use Rattle.std.proofs.lemmas.Option.{slice_get_within}
use Rattle.std.specs.Prelude.{slice_get, if◌then◌else◌}
use Rattle.oss_syntax.specs.declared.access.Access.{Access}
use Rattle.oss_syntax.specs.declared.access.Mode.{Mode}
use Rattle.oss_model.specs.Rights.{in_access}
use Rattle.oss_ranges.specs.declared.piece.Piece.{Piece}
use Rattle.oss_ranges.specs.Cells.{value_at}
use Rattle.oss_deps.specs.declared.column.Column.{Column}
use Rattle.oss_deps.specs.Opens.{access_at, IsRising}
use Rattle.oss_deps.specs.Kept.{is_asked}
use Rattle.oss_deps.specs.Columns.{AreStretches, IsDivided}
use Rattle.oss_deps.specs.Adding.{IsGrown, IsAddable, AreGrownTo, AreAddable, IsGrownBy, got, kept, AreAllGrown}
use Rattle.oss_deps.proofs.Basics.{bools, some_none, same_at, compared, value_within}
use Rattle.oss_deps.proofs.CloseLemmas.{same_number, get_set_same, get_set_other}
use Rattle.oss_deps.proofs.OpenLemmas.{in_bounds, bounds_in}
use Rattle.oss_deps.proofs.GiveLemmas.{one_stretch, end_divides, same_asked}

-- The stretches have the same edges.
pub record AreEdged (old new : List Column) : Type 0 where
  pub size : length new ≡ length old
  pub each : (i : ℕ) (a : Column) → slice_get old i ≡ Some a → (b : Column) × (slice_get new i ≡ Some b) × (b.lo ≡ a.lo) × (b.hi ≡ a.hi) × (b.asked ≡ a.asked)

empty : (xs : List Column) → length xs ≡ 0 → xs ≡ []
empty [] e = refl
empty (x ∷ xs) e = absurd (omega (arith, e))

pub edged_back : (old new : List Column) → AreEdged old new → (i : ℕ) (b : Column) → slice_get new i ≡ Some b → (a : Column) × (slice_get old i ≡ Some a) × (b.lo ≡ a.lo) × (b.hi ≡ a.hi)
edged_back old new g i b e =
    let a = value_within old i (omega (arith, slice_get_within new i b e, g.size)) in
    let t = g.each i a.0 a.1 in
    let same = same_at t.1 e in
    (a.0, a.1, subst (λ (x : Column). x.lo ≡ a.0.lo) same t.2, subst (λ (x : Column). x.hi ≡ a.0.hi) same t.3)

pub edged_stretches : (pieces : List (Piece ℕ)) (old new : List Column) → AreEdged old new → AreStretches pieces old → AreStretches pieces new
edged_stretches pieces old new g s = record {
  here = λ c i e. let a = s.here c i e in let t = g.each i a.0 a.1 in (t.0, t.1, omega (arith, t.2, a.2), omega (arith, t.3, a.3));
  there = λ i b c e l h. let a = edged_back old new g i b e in s.there i a.0 c a.1 (omega (arith, a.2, l)) (omega (arith, a.3, h));
  some = λ i b e. let a = edged_back old new g i b e in let k = s.some i a.0 a.1 in (omega (arith, a.2, a.3, k.0), omega (arith, a.3, k.1));
  whole = whole s.whole;
}
  where
    whole : (old ≡ []) ⊎ ((c : ℕ) → c < 1048576 → (i : ℕ) × (value_at pieces c ≡ Some i)) → (new ≡ []) ⊎ ((c : ℕ) → c < 1048576 → (i : ℕ) × (value_at pieces c ≡ Some i))
    whole (inl z) = inl (empty new (g.size ∙ ap length z))
    whole (inr f) = inr f

pub edged_divided : (old new : List Column) → AreEdged old new → (k : ℕ) → IsDivided old k → IsDivided new k
edged_divided old new g k d i b e = let a = edged_back old new g i b e in go a.0 a.2 a.3 (d i a.0 a.1)
  where
    go : (a : Column) → b.lo ≡ a.lo → b.hi ≡ a.hi → (k ≤ a.lo) ⊎ (a.hi ≤ k) → (k ≤ b.lo) ⊎ (b.hi ≤ k)
    go a x y (inl h) = inl (omega (arith, x, h))
    go a x y (inr h) = inr (omega (arith, y, h))

pub edged_asked : (old new : List Column) → AreEdged old new → (k : ℕ) → is_asked new k ≡ is_asked old k
edged_asked old new g k = same_asked old new k g.size (λ i a e. let t = g.each i a e in (t.0, t.1, t.2, t.4))

pub edged_some : (old new : List Column) → AreEdged old new → (old ≡ [] → ⊥) → new ≡ [] → ⊥
edged_some old new g n z = n (empty old (sym g.size ∙ ap length z))

module _ (number task parent : ℕ) where
  pub grown_edged : (mode : Mode) (lo cell : ℕ) (old new : List Column) → AreGrownTo number task parent mode lo cell old new → AreEdged old new
  grown_edged mode lo cell old new g = record { size = g.size; each = λ i a e. let t = g.each i a e in let k = edges a t.0 t.2 in (t.0, t.1, k.0, k.1, k.2) }
    where
      edges : (a b : Column) → ((lo ≤ a.lo) × (a.lo < cell) × IsGrown number task parent mode a b) ⊎ ((lo ≤ a.lo → a.lo < cell → ⊥) × (a ≡ b)) → (b.lo ≡ a.lo) × (b.hi ≡ a.hi) × (b.asked ≡ a.asked)
      edges a b (inl (x, y, k)) = (k.lo, k.hi, k.asked)
      edges a b (inr (x, e)) = (ap (λ (z : Column). z.lo) (sym e), ap (λ (z : Column). z.hi) (sym e), ap (λ (z : Column). z.asked) (sym e))

  pub all_edged : (accesses : List Access) (old new : List Column) → AreAllGrown number task parent accesses old new → AreEdged old new
  all_edged accesses old new g = record { size = g.size; each = λ i a e. let t = g.each i a e in let k = edges a t.0 t.2 in (t.0, t.1, k.0, k.1, k.2) }
    where
      edges : (a b : Column) → IsGrownBy number task parent accesses a b → (b.lo ≡ a.lo) × (b.hi ≡ a.hi) × (b.asked ≡ a.asked)
      edges a b (got x h k) = (k.lo, k.hi, k.asked)
      edges a b (kept h e) = (ap (λ (z : Column). z.lo) (sym e), ap (λ (z : Column). z.hi) (sym e), ap (λ (z : Column). z.asked) (sym e))

  pub grow_begins : (mode : Mode) (lo : ℕ) (columns : List Column) → AreGrownTo number task parent mode lo lo columns columns
  grow_begins mode lo columns = record { size = refl; each = λ i a e. (a, e, inr (λ x y. absurd (omega (arith, x, y)), refl)) }

  module _ (pieces : List (Piece ℕ)) (old now : List Column) (mode : Mode) (lo hi cell : ℕ) (add : AreAddable pieces old parent lo hi) (g : AreGrownTo number task parent mode lo cell old now) (from : lo ≤ cell) (before : cell < hi) (limit : hi ≤ 1048576) (divided : IsDivided old cell) where
    edged : AreEdged old now
    edged = grown_edged mode lo cell old now g

    s : AreStretches pieces now
    s = edged_stretches pieces old now edged add.stretches

    pub grow_gap : value_at pieces cell ≡ None → ⊥
    grow_gap e = go add.stretches.whole
      where
        go : (old ≡ []) ⊎ ((c : ℕ) → c < 1048576 → (i : ℕ) × (value_at pieces c ≡ Some i)) → ⊥
        go (inl z) = add.some z
        go (inr f) = let i = f cell (omega (arith, before, limit)) in some_none (sym i.1 ∙ e)

    module _ (at : ℕ) (here_is : value_at pieces cell ≡ Some at) where
      pub grow_within : at < length now
      grow_within = let a = s.here cell at here_is in slice_get_within now at a.0 a.1

      module _ (b : Column) (b_is : slice_get now at ≡ Some b) where
        pub grow_in : (b.lo ≤ cell) × (cell < b.hi)
        grow_in = let a = s.here cell at here_is in subst (λ (x : Column). (x.lo ≤ cell) × (cell < x.hi)) (same_at a.1 b_is) (a.2, a.3)

        grow_begin : b.lo ≡ cell
        grow_begin = go (edged_divided old now edged cell divided at b b_is)
          where
            go : (cell ≤ b.lo) ⊎ (b.hi ≤ cell) → b.lo ≡ cell
            go (inl h) = omega (arith, h, grow_in.0)
            go (inr h) = absurd (omega (arith, h, grow_in.1))

        pub grow_end : b.hi ≤ hi
        grow_end = go (edged_divided old now edged hi add.ends at b b_is)
          where
            go : (hi ≤ b.lo) ⊎ (b.hi ≤ hi) → b.hi ≤ hi
            go (inl h) = absurd (omega (arith, h, grow_begin, before))
            go (inr h) = h

        -- it is as it was
        old_one : slice_get old at ≡ Some b
        old_one =
            let a = value_within old at (omega (arith, grow_within, g.size)) in
            let t = g.each at a.0 a.1 in
            let same = same_at t.1 b_is in
            go a.0 a.1 t.0 same t.2
          where
            go : (a : Column) → slice_get old at ≡ Some a → (x : Column) → x ≡ b → ((lo ≤ a.lo) × (a.lo < cell) × IsGrown number task parent mode a x) ⊎ ((lo ≤ a.lo → a.lo < cell → ⊥) × (a ≡ x)) → slice_get old at ≡ Some b
            go a is x e (inl (l, h, k)) = absurd (omega (arith, h, k.lo, ap (λ (z : Column). z.lo) e, grow_begin))
            go a is x e (inr (n, k)) = is ∙ ap Some (k ∙ e)

        pub grow_addable : IsAddable parent b
        grow_addable = add.each at b old_one (omega (arith, grow_begin, from)) (omega (arith, grow_begin, before))

        other_before : (i : ℕ) (a : Column) → slice_get old i ≡ Some a → (i ≡ at → ⊥) → a.lo < b.hi → a.lo < cell
        other_before i a e other h = go (compared a.lo cell)
          where
            at_least : cell ≤ a.lo → ⊥
            at_least l = other (one_stretch pieces old add.stretches i at a b a.lo e old_one (omega arith) (add.stretches.some i a e).0 (omega (arith, l, grow_begin)) h)

            go : (a.lo < cell) ⊎ ((a.lo ≡ cell) ⊎ (cell < a.lo)) → a.lo < cell
            go (inl l) = l
            go (inr (inl l)) = absurd (at_least (omega (arith, l)))
            go (inr (inr l)) = absurd (at_least (omega (arith, l)))

        pub grow_goes : (d : Column) → IsGrown number task parent mode b d → AreGrownTo number task parent mode lo d.hi old (set now at d)
        grow_goes d k = record { size = length-set now at d ∙ g.size; each = λ i a e. of i a e (same_number i at) }
          where
            of : (i : ℕ) (a : Column) → slice_get old i ≡ Some a → (i ≡ at) ⊎ (i ≡ at → ⊥) → (x : Column) × (slice_get (set now at d) i ≡ Some x) × (((lo ≤ a.lo) × (a.lo < d.hi) × IsGrown number task parent mode a x) ⊎ ((lo ≤ a.lo → a.lo < d.hi → ⊥) × (a ≡ x)))
            of i a e (inr other) = let t = g.each i a e in (t.0, get_set_other now at i d other ∙ t.1, more t.0 t.2)
              where
                more : (x : Column) → ((lo ≤ a.lo) × (a.lo < cell) × IsGrown number task parent mode a x) ⊎ ((lo ≤ a.lo → a.lo < cell → ⊥) × (a ≡ x)) → ((lo ≤ a.lo) × (a.lo < d.hi) × IsGrown number task parent mode a x) ⊎ ((lo ≤ a.lo → a.lo < d.hi → ⊥) × (a ≡ x))
                more x (inl (l, h, y)) = inl (l, omega (arith, h, grow_in.1, k.hi), y)
                more x (inr (n, y)) = inr (λ l h. n l (other_before i a e other (omega (arith, h, k.hi))), y)
            of i a e (inl same) =
                let a_is : b ≡ a = same_at old_one (subst (λ (j : ℕ). slice_get old j ≡ Some a) same e) in (
                  d,
                  subst (λ (j : ℕ). slice_get (set now at d) j ≡ Some d) (sym same) (get_set_same now at d grow_within),
                  inl (omega (arith, ap (λ (z : Column). z.lo) a_is, grow_begin, from), omega (arith, ap (λ (z : Column). z.lo) a_is, grow_begin, grow_in.1, k.hi), subst (λ (z : Column). IsGrown number task parent mode z d) a_is k),
                )

        pub grow_divides : IsDivided old b.hi
        grow_divides = end_divides pieces old add.stretches at b old_one

  -- the accesses before one in the list are before it
  all_behind : (a : Access) (rest : List Access) → IsRising (a ∷ rest) → (k : ℕ) (d : Access) → k < length rest → a.range.hi ≤ (get_or rest k d).range.lo
  all_behind a [] r k d h = absurd (omega (arith, h))
  all_behind a (b ∷ rest) r zero d h = r.0
  all_behind a (b ∷ rest) r (suc k) d h = omega (arith, r.0, b.range.ordered, all_behind b rest r.1 k d (omega (arith, h)))

  rest_rising : (a : Access) (rest : List Access) → IsRising (a ∷ rest) → IsRising rest
  rest_rising a [] r = tt
  rest_rising a (b ∷ rest) r = r.1

  taken_before : (xs : List Access) → IsRising xs → (j : ℕ) (d : Access) → j < length xs → (c : ℕ) (y : Access) → access_at (take j xs) c ≡ Some y → c < (get_or xs j d).range.lo
  taken_before [] r j d h c y e = absurd (omega (arith, h))
  taken_before (a ∷ xs) r zero d h c y e = absurd cc
  taken_before (a ∷ xs) r (suc j) d h c y e = go (bools (in_access a c)) (taken_before xs (rest_rising a xs r) j d (omega (arith, h)) c y)
    where
      go : (in_access a c ≡ true) ⊎ (in_access a c ≡ false) → (access_at (take j xs) c ≡ Some y → c < (get_or xs j d).range.lo) → c < (get_or xs j d).range.lo
      go (inl t) again = omega (arith, (in_bounds a c t).1, all_behind a xs r j d (omega (arith, h)))
      go (inr t) again = again (let g : access_at (a ∷ take j xs) c ≡ access_at (take j xs) c = rw t refl in sym g ∙ e)

  at_front : (xs : List Access) (x y : Access) (c : ℕ) → access_at xs c ≡ Some y → access_at (xs ++ x ∷ []) c ≡ Some y
  at_front [] x y c e = absurd cc
  at_front (a ∷ xs) x y c e = go (bools (in_access a c)) (at_front xs x y c)
    where
      go : (in_access a c ≡ true) ⊎ (in_access a c ≡ false) → (access_at xs c ≡ Some y → access_at (xs ++ x ∷ []) c ≡ Some y) → access_at (a ∷ (xs ++ x ∷ [])) c ≡ Some y
      go (inl t) again = let f : access_at (a ∷ xs) c ≡ Some a = rw t refl in let g : access_at (a ∷ (xs ++ x ∷ [])) c ≡ Some a = rw t refl in g ∙ sym f ∙ e
      go (inr t) again = let f : access_at (a ∷ xs) c ≡ access_at xs c = rw t refl in let g : access_at (a ∷ (xs ++ x ∷ [])) c ≡ access_at (xs ++ x ∷ []) c = rw t refl in g ∙ again (sym f ∙ e)

  at_back : (xs : List Access) (x : Access) (c : ℕ) → access_at xs c ≡ None → access_at (xs ++ x ∷ []) c ≡ (if in_access x c then Some x else None)
  at_back [] x c e = refl
  at_back (a ∷ xs) x c e = go (bools (in_access a c)) (at_back xs x c)
    where
      go : (in_access a c ≡ true) ⊎ (in_access a c ≡ false) → (access_at xs c ≡ None → access_at (xs ++ x ∷ []) c ≡ (if in_access x c then Some x else None)) → access_at (a ∷ (xs ++ x ∷ [])) c ≡ (if in_access x c then Some x else None)
      go (inl t) again = let f : access_at (a ∷ xs) c ≡ Some a = rw t refl in absurd (some_none (sym f ∙ e))
      go (inr t) again = let f : access_at (a ∷ xs) c ≡ access_at xs c = rw t refl in let g : access_at (a ∷ (xs ++ x ∷ [])) c ≡ access_at (xs ++ x ∷ []) c = rw t refl in g ∙ again (sym f ∙ e)

  pub all_begins : (columns : List Column) → AreAllGrown number task parent [] columns columns
  all_begins columns = record { size = refl; each = λ i a e. (a, e, kept refl refl) }

  module _ (pieces : List (Piece ℕ)) (accesses : List Access) (rising : IsRising accesses) (old now : List Column) (j : ℕ) (x : Access) (within : j < length accesses) (x_is : x ≡ get_or accesses j x) (g : AreAllGrown number task parent (take j accesses) old now)
      (add : AreAddable pieces old parent x.range.lo x.range.hi) where
    all_e : AreEdged old now
    all_e = all_edged (take j accesses) old now g

    -- no stretch of the access was changed
    not_yet : (c : ℕ) (y : Access) → access_at (take j accesses) c ≡ Some y → c < x.range.lo
    not_yet c y e = omega (arith, taken_before accesses rising j x within c y e, ap (λ (z : Access). z.range.lo) x_is)

    pub all_addable : AreAddable pieces now parent x.range.lo x.range.hi
    all_addable = record {
      stretches = edged_stretches pieces old now all_e add.stretches;
      some = edged_some old now all_e add.some;
      begins = edged_divided old now all_e x.range.lo add.begins;
      ends = edged_divided old now all_e x.range.hi add.ends;
      each = λ i b e l h. of i b e l h (value_within old i (omega (arith, slice_get_within now i b e, g.size)));
    }
      where
        of : (i : ℕ) (b : Column) → slice_get now i ≡ Some b → x.range.lo ≤ b.lo → b.lo < x.range.hi → (a : Column) × (slice_get old i ≡ Some a) → IsAddable parent b
        of i b e l h (a, is) = let t = g.each i a is in let same = same_at t.1 e in go t.0 same t.2
          where
            go : (z : Column) → z ≡ b → IsGrownBy number task parent (take j accesses) a z → IsAddable parent b
            go z same (got y at_ k) = absurd (omega (arith, not_yet a.lo y at_, l, k.lo, ap (λ (w : Column). w.lo) same))
            go z same (kept at_ k) = let eq : a ≡ b = k ∙ same in subst (λ (w : Column). IsAddable parent w) eq (add.each i a is (omega (arith, l, ap (λ (w : Column). w.lo) eq)) (omega (arith, h, ap (λ (w : Column). w.lo) eq)))

    pub all_goes : (new : List Column) → AreGrownTo number task parent x.mode x.range.lo x.range.hi now new → AreAllGrown number task parent (take (j + 1) accesses) old new
    all_goes new k = record { size = k.size ∙ g.size; each = λ i a e. of i a e (g.each i a e) }
      where
        more : take (j + 1) accesses ≡ take j accesses ++ x ∷ []
        more = take_more accesses j x within ∙ ap (λ (z : Access). take j accesses ++ z ∷ []) (sym x_is)

        of : (i : ℕ) (a : Column) → slice_get old i ≡ Some a → (b : Column) × (slice_get now i ≡ Some b) × IsGrownBy number task parent (take j accesses) a b → (z : Column) × (slice_get new i ≡ Some z) × IsGrownBy number task parent (take (j + 1) accesses) a z
        of i a e (b, is, how) = let t = k.each i b is in (t.0, t.1, go t.0 how t.2)
          where
            go : (z : Column) → IsGrownBy number task parent (take j accesses) a b → ((x.range.lo ≤ b.lo) × (b.lo < x.range.hi) × IsGrown number task parent x.mode b z) ⊎ ((x.range.lo ≤ b.lo → b.lo < x.range.hi → ⊥) × (b ≡ z)) → IsGrownBy number task parent (take (j + 1) accesses) a z
            go z (got y at_ h) (inl (l, u, m)) = absurd (omega (arith, not_yet a.lo y at_, l, h.lo))
            go z (got y at_ h) (inr (n, m)) = got y (ap (λ (xs : List Access). access_at xs a.lo) more ∙ at_front (take j accesses) x y a.lo at_) (subst (λ (w : Column). IsGrown number task parent y.mode a w) m h)
            go z (kept at_ h) (inl (l, u, m)) =
                got x (ap (λ (xs : List Access). access_at xs a.lo) more ∙ at_back (take j accesses) x a.lo at_ ∙ rw (bounds_in x a.lo (omega (arith, l, ap (λ (w : Column). w.lo) h)) (omega (arith, u, ap (λ (w : Column). w.lo) h))) refl)
                (subst (λ (w : Column). IsGrown number task parent x.mode w z) (sym h) m)
            go z (kept at_ h) (inr (n, m)) = kept (ap (λ (xs : List Access). access_at xs a.lo) more ∙ at_back (take j accesses) x a.lo at_ ∙ rw (not_in (bools (in_access x a.lo))) refl) (h ∙ m)
              where
                not_in : (in_access x a.lo ≡ true) ⊎ (in_access x a.lo ≡ false) → in_access x a.lo ≡ false
                not_in (inr f) = f
                not_in (inl f) = let w = in_bounds x a.lo f in absurd (n (omega (arith, w.0, ap (λ (v : Column). v.lo) h)) (omega (arith, w.1, ap (λ (v : Column). v.lo) h)))
