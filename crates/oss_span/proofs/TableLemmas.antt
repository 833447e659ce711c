-- The longest of the chains of a range, put together from runs of cells, and of several ranges.
use Rattle.std.proofs.Common.{◌≡◌, ◌≤◌, ◌<◌, ◌⊎◌, inl, inr, refl, sym, ap, ◌∙◌, ℕ, Bool, true, false, ◌||◌, if◌then◌else◌, List, [], ◌∷◌, ◌++◌, Some, None, arith}
use Rattle.std.specs.Prelude.{nat_lt}
use Rattle.std.proofs.lemmas.Bool.Decides.{nat_tests}
use Rattle.oss_syntax.specs.declared.access.Range.{Range}
use Rattle.oss_ranges.specs.declared.piece.Piece.{Piece}
use Rattle.oss_ranges.specs.Cells.{is_within, value_at}
use Rattle.oss_span.specs.declared.best.Best.{Best}
use Rattle.oss_span.specs.declared.marks.Marks.{Marks}
use Rattle.oss_span.specs.declared.marks.Way.{Way}
use Rattle.oss_span.specs.Bests.{better, no_best}
use Rattle.oss_span.specs.Changes.{picked}
use Rattle.oss_span.specs.Tables.{IsGreatest, IsGreatestOf, in_ranges}

bools : (b : Bool) → (b ≡ true) ⊎ (b ≡ false)
bools true = inl refl
bools false = inr refl

-- the better of two has as many ticks as each
pub better_first : (a b : Best) → a.mark.ticks ≤ (better a b).mark.ticks
better_first a b = go (bools (nat_lt a.mark.ticks b.mark.ticks))
  where
    less : nat_lt a.mark.ticks b.mark.ticks ≡ true → a.mark.ticks ≤ b.mark.ticks
    less h = grind (arith, nat_tests)

    go : (nat_lt a.mark.ticks b.mark.ticks ≡ true) ⊎ (nat_lt a.mark.ticks b.mark.ticks ≡ false) → a.mark.ticks ≤ (better a b).mark.ticks
    go (inl h) = rw h (less h)
    go (inr h) = rw h (omega arith)

pub better_second : (a b : Best) → b.mark.ticks ≤ (better a b).mark.ticks
better_second a b = go (bools (nat_lt a.mark.ticks b.mark.ticks))
  where
    more : nat_lt a.mark.ticks b.mark.ticks ≡ false → b.mark.ticks ≤ a.mark.ticks
    more h = grind (arith, nat_tests)

    go : (nat_lt a.mark.ticks b.mark.ticks ≡ true) ⊎ (nat_lt a.mark.ticks b.mark.ticks ≡ false) → b.mark.ticks ≤ (better a b).mark.ticks
    go (inl h) = rw h (omega arith)
    go (inr h) = rw h (more h)

-- and is one of them
pub better_one : (a b : Best) → (better a b ≡ a) ⊎ (better a b ≡ b)
better_one a b = go (bools (nat_lt a.mark.ticks b.mark.ticks))
  where
    go : (nat_lt a.mark.ticks b.mark.ticks ≡ true) ⊎ (nat_lt a.mark.ticks b.mark.ticks ≡ false) → (better a b ≡ a) ⊎ (better a b ≡ b)
    go (inl h) = inr (ap (λ (t : Bool). if t then b else a) h)
    go (inr h) = inl (ap (λ (t : Bool). if t then b else a) h)

within_last : (lo from to c : ℕ) → is_within lo to c ≡ true → (is_within lo from c ≡ true) ⊎ ((from ≤ c) × (c < to))
within_last lo from to c h = go (bools (is_within lo from c))
  where
    last : is_within lo from c ≡ false → (from ≤ c) × (c < to)
    last e = (grind (arith, nat_tests), grind (arith, nat_tests))

    go : (is_within lo from c ≡ true) ⊎ (is_within lo from c ≡ false) → (is_within lo from c ≡ true) ⊎ ((from ≤ c) × (c < to))
    go (inl e) = inl e
    go (inr e) = inr (last e)

within_more : (lo from to c : ℕ) → from ≤ to → is_within lo from c ≡ true → is_within lo to c ≡ true
within_more lo from to c l h = grind (arith, nat_tests)

within_first : (lo from to : ℕ) → lo ≤ from → from < to → is_within lo to from ≡ true
within_first lo from to l h = grind (arith, nat_tests)

pub some_is : {A : Type 0} (x y : A) → Some x ≡ Some y → x ≡ y
some_is x y e = cc

-- one run of cells more
pub greatest_more : (way : Way) (pieces : List (Piece Marks)) (lo from to : ℕ) (m : Marks) (best : Best) → lo ≤ from → from < to → ((c : ℕ) → from ≤ c → c < to → value_at pieces c ≡ Some m) → IsGreatest way pieces lo from best
    → IsGreatest way pieces lo to (better best (record { mark = picked way m; cell = from }))
greatest_more way pieces lo from to m best l h run g = record { most = most; one = one (better_one best new) }
  where
    new : Best
    new = record { mark = picked way m; cell = from }

    most : (c : ℕ) (n : Marks) → is_within lo to c ≡ true → value_at pieces c ≡ Some n → (picked way n).ticks ≤ (better best (record { mark = picked way m; cell = from })).mark.ticks
    most c n w e = go (within_last lo from to c w)
      where
        go : (is_within lo from c ≡ true) ⊎ ((from ≤ c) × (c < to)) → (picked way n).ticks ≤ (better best (record { mark = picked way m; cell = from })).mark.ticks
        go (inl k) = let a = g.most c n k e in let b = better_first best (record { mark = picked way m; cell = from }) in omega (arith, a, b)
        go (inr k) =
            let q : n ≡ m = some_is n m (sym e ∙ run c k.0 k.1) in
            let a : (picked way n).ticks ≡ (picked way m).ticks = ap (λ (z : Marks). (picked way z).ticks) q in
            let b = better_second best (record { mark = picked way m; cell = from }) in
            omega (arith, a, b)

    one : (better best (record { mark = picked way m; cell = from }) ≡ best) ⊎ (better best (record { mark = picked way m; cell = from }) ≡ record { mark = picked way m; cell = from })
        → (better best (record { mark = picked way m; cell = from }) ≡ no_best) ⊎ ((c : ℕ) × (n : Marks) × (is_within lo to c ≡ true) × (value_at pieces c ≡ Some n) × (better best (record { mark = picked way m; cell = from }) ≡ record { mark = picked way n; cell = c }))
    one (inr e) = inr (from, m, within_first lo from to l h, run from (omega arith) h, e)
    one (inl e) = old g.one
      where
        old : (best ≡ no_best) ⊎ ((c : ℕ) × (n : Marks) × (is_within lo from c ≡ true) × (value_at pieces c ≡ Some n) × (best ≡ record { mark = picked way n; cell = c }))
            → (better best (record { mark = picked way m; cell = from }) ≡ no_best) ⊎ ((c : ℕ) × (n : Marks) × (is_within lo to c ≡ true) × (value_at pieces c ≡ Some n) × (better best (record { mark = picked way m; cell = from }) ≡ record { mark = picked way n; cell = c }))
        old (inl k) = inl (e ∙ k)
        old (inr (c, n, w, v, k)) = inr (c, n, within_more lo from to c (omega (arith, h)) w, v, e ∙ k)

-- a run of cells of which nothing is kept
pub greatest_past : (way : Way) (pieces : List (Piece Marks)) (lo from to : ℕ) (best : Best) → from < to → ((c : ℕ) → from ≤ c → c < to → value_at pieces c ≡ None) → IsGreatest way pieces lo from best → IsGreatest way pieces lo to best
greatest_past way pieces lo from to best h run g = record { most = most; one = old g.one }
  where
    most : (c : ℕ) (n : Marks) → is_within lo to c ≡ true → value_at pieces c ≡ Some n → (picked way n).ticks ≤ best.mark.ticks
    most c n w e = go (within_last lo from to c w)
      where
        go : (is_within lo from c ≡ true) ⊎ ((from ≤ c) × (c < to)) → (picked way n).ticks ≤ best.mark.ticks
        go (inl k) = g.most c n k e
        go (inr k) = let q = run c k.0 k.1 in cc

    old : (best ≡ no_best) ⊎ ((c : ℕ) × (n : Marks) × (is_within lo from c ≡ true) × (value_at pieces c ≡ Some n) × (best ≡ record { mark = picked way n; cell = c }))
        → (best ≡ no_best) ⊎ ((c : ℕ) × (n : Marks) × (is_within lo to c ≡ true) × (value_at pieces c ≡ Some n) × (best ≡ record { mark = picked way n; cell = c }))
    old (inl k) = inl k
    old (inr (c, n, w, v, k)) = inr (c, n, within_more lo from to c (omega (arith, h)) w, v, k)

or_parts : (a b : Bool) → (a || b) ≡ true → (a ≡ true) ⊎ (b ≡ true)
or_parts true b h = inl refl
or_parts false b h = inr h

or_left : (a b : Bool) → a ≡ true → (a || b) ≡ true
or_left true b h = refl
or_left false b h = cc

or_right : (a b : Bool) → b ≡ true → (a || b) ≡ true
or_right true b h = refl
or_right false b h = h

in_one_more : (rest : List Range) (r : Range) (c : ℕ) → in_ranges (rest ++ r ∷ []) c ≡ (in_ranges rest c || is_within r.lo r.hi c)
in_one_more [] r c = or_none (is_within r.lo r.hi c)
  where
    or_none : (b : Bool) → (b || false) ≡ b
    or_none true = refl
    or_none false = refl
in_one_more (x ∷ rest) r c = ap (λ (b : Bool). is_within x.lo x.hi c || b) (in_one_more rest r c) ∙ or_three (is_within x.lo x.hi c) (in_ranges rest c) (is_within r.lo r.hi c)
  where
    or_three : (a b d : Bool) → (a || (b || d)) ≡ ((a || b) || d)
    or_three true b d = refl
    or_three false b d = refl

-- one range more
pub greatest_both : (way : Way) (pieces : List (Piece Marks)) (r : Range) (rest : List Range) (a b : Best) → IsGreatestOf way pieces rest a → IsGreatest way pieces r.lo r.hi b → IsGreatestOf way pieces (rest ++ r ∷ []) (better a b)
greatest_both way pieces r rest a b h g = record { most = most; one = one (better_one a b) }
  where
    most : (c : ℕ) (m : Marks) → in_ranges (rest ++ r ∷ []) c ≡ true → value_at pieces c ≡ Some m → (picked way m).ticks ≤ (better a b).mark.ticks
    most c m i e = go (or_parts (in_ranges rest c) (is_within r.lo r.hi c) (sym (in_one_more rest r c) ∙ i))
      where
        go : (in_ranges rest c ≡ true) ⊎ (is_within r.lo r.hi c ≡ true) → (picked way m).ticks ≤ (better a b).mark.ticks
        go (inl k) = let x = h.most c m k e in let y = better_first a b in omega (arith, x, y)
        go (inr k) = let x = g.most c m k e in let y = better_second a b in omega (arith, x, y)

    from_last : (better a b ≡ b) → (b ≡ no_best) ⊎ ((c : ℕ) × (n : Marks) × (is_within r.lo r.hi c ≡ true) × (value_at pieces c ≡ Some n) × (b ≡ record { mark = picked way n; cell = c }))
        → (better a b ≡ no_best) ⊎ ((c : ℕ) × (n : Marks) × (in_ranges (rest ++ r ∷ []) c ≡ true) × (value_at pieces c ≡ Some n) × (better a b ≡ record { mark = picked way n; cell = c }))
    from_last e (inl k) = inl (e ∙ k)
    from_last e (inr (c, n, w, v, k)) = inr (c, n, in_one_more rest r c ∙ or_right (in_ranges rest c) (is_within r.lo r.hi c) w, v, e ∙ k)

    from_rest : (better a b ≡ a) → (a ≡ no_best) ⊎ ((c : ℕ) × (n : Marks) × (in_ranges rest c ≡ true) × (value_at pieces c ≡ Some n) × (a ≡ record { mark = picked way n; cell = c }))
        → (better a b ≡ no_best) ⊎ ((c : ℕ) × (n : Marks) × (in_ranges (rest ++ r ∷ []) c ≡ true) × (value_at pieces c ≡ Some n) × (better a b ≡ record { mark = picked way n; cell = c }))
    from_rest e (inl k) = inl (e ∙ k)
    from_rest e (inr (c, n, w, v, k)) = inr (c, n, in_one_more rest r c ∙ or_left (in_ranges rest c) (is_within r.lo r.hi c) w, v, e ∙ k)

    one : (better a b ≡ a) ⊎ (better a b ≡ b) → (better a b ≡ no_best) ⊎ ((c : ℕ) × (n : Marks) × (in_ranges (rest ++ r ∷ []) c ≡ true) × (value_at pieces c ≡ Some n) × (better a b ≡ record { mark = picked way n; cell = c }))
    one (inl e) = from_rest e h.one
    one (inr e) = from_last e g.one
