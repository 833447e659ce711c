-- Stretches that are divided stand for the same as before.
use Rattle.std.proofs.Common.{◌≡◌, ℕ, ◌+◌, ◌<◌, ◌≤◌, zero, suc, refl, sym, ap, subst, ◌∙◌, List, [], ◌∷◌, ◌++◌, ◌⊎◌, inl, inr, Bool, true, false, Option, Some, None, Result, Ok, Err, OnOk, OnErr, arith, length, set, eqb-true}
use Rattle.std.proofs.lemmas.Bool.Decides.{nat_tests}
use Rattle.std.proofs.lemmas.List.{length-set, length_push}
use Rattle.std.proofs.lemmas.Option.{slice_get_within}
use Rattle.std.specs.Prelude.{◌&&◌, ◌||◌, ◌==◌, nat_le, nat_lt, slice_get, option_and_then}
use Rattle.oss_syntax.specs.declared.access.Access.{Access}
use Rattle.oss_ranges.specs.declared.piece.Piece.{Piece}
use Rattle.oss_ranges.specs.Cells.{Assigns, is_within, value_at}
use Rattle.oss_deps.specs.declared.opened.Open.{Open}
use Rattle.oss_deps.specs.declared.frame.Frame.{Frame}
use Rattle.oss_deps.specs.declared.frame.Mark.{Mark}
use Rattle.oss_deps.specs.declared.column.Column.{Column}
use Rattle.oss_deps.specs.Kept.{given_by, given_in, given_at, is_asked, is_cut}
use Rattle.oss_deps.specs.Places.{IsFirst, IsLast, AreLinked, AreMarked, unmarked}
use Rattle.oss_deps.specs.Columns.{AreShown, IsColumn, AreStretches, AreColumns, IsDivided, HasRoom, HaveRoom, IsReady, AreReady, IsFiner, IsDividedAt, root}
use Rattle.oss_deps.proofs.Basics.{bools, both, both_of, or_cases, some_is, some_none, same_at, options, compared}
use Rattle.oss_deps.proofs.CloseLemmas.{same_number, get_set_same, get_set_other}
use Rattle.oss_deps.proofs.GiveLemmas.{one_stretch}

pub finer_same : (pieces : List (Piece ℕ)) (columns : List Column) → IsFiner pieces columns pieces columns
finer_same pieces columns = record { stretches = λ s. s; columns_are = λ o k. k; given = λ s t c. refl; asked = λ k. refl; divided = λ n k d. d; room = λ n lo hi r. r; some = λ n. n }

pub finer_both : (pieces : List (Piece ℕ)) (columns : List Column) (pieces2 : List (Piece ℕ)) (columns2 : List Column) (pieces3 : List (Piece ℕ)) (columns3 : List Column)
    → IsFiner pieces columns pieces2 columns2 → IsFiner pieces2 columns2 pieces3 columns3 → IsFiner pieces columns pieces3 columns3
finer_both pieces columns pieces2 columns2 pieces3 columns3 f g = record {
  stretches = λ s. g.stretches (f.stretches s);
  columns_are = λ o k. g.columns_are o (f.columns_are o k);
  given = λ s t c. g.given (f.stretches s) t c ∙ f.given s t c;
  asked = λ k. g.asked k ∙ f.asked k;
  divided = λ n k d. g.divided (f.some n) k (f.divided n k d);
  room = λ n lo hi r. g.room (f.some n) lo hi (f.room n lo hi r);
  some = λ n. g.some (f.some n);
}

pub finer_ready : (pieces : List (Piece ℕ)) (columns : List Column) (pieces2 : List (Piece ℕ)) (columns2 : List Column) → IsFiner pieces columns pieces2 columns2 → (reserved : Option (List Access)) → AreReady reserved columns → AreReady reserved columns2
finer_ready pieces columns pieces2 columns2 f None r = tt
finer_ready pieces columns pieces2 columns2 f (Some accesses) r = (f.some r.0, λ a i. let k = r.1 a i in record { begins = f.divided r.0 a.range.lo k.begins; ends = f.divided r.0 a.range.hi k.ends; room = f.room r.0 a.range.lo a.range.hi k.room })

asked_in : (columns : List Column) (k : ℕ) → is_asked columns k ≡ true → (i : ℕ) × (a : Column) × (slice_get columns i ≡ Some a) × (a.lo ≡ k)
asked_in [] k h = absurd cc
asked_in (a ∷ rest) k h = go (or_cases (a.asked && (k == a.lo)) (is_asked rest k) h) (asked_in rest k)
  where
    go : ((a.asked && (k == a.lo)) ≡ true) ⊎ (is_asked rest k ≡ true) → (is_asked rest k ≡ true → (i : ℕ) × (b : Column) × (slice_get rest i ≡ Some b) × (b.lo ≡ k)) → (i : ℕ) × (b : Column) × (slice_get (a ∷ rest) i ≡ Some b) × (b.lo ≡ k)
    go (inl e) again = (0, a, refl, sym (eqb-true k a.lo (both a.asked (k == a.lo) e).1))
    go (inr e) again = let r = again e in (suc r.0, r.1, r.2, r.3)

-- no stretch goes on over a cut
pub cut_divides : (pieces : List (Piece ℕ)) (columns : List Column) (ended : Bool) (k : ℕ) → AreStretches pieces columns → is_cut columns ended k ≡ true → IsDivided columns k
cut_divides pieces columns ended k s h j b e = go (or_cases (is_asked columns k) (ended && (k == 1048576)) h)
  where
    at_begin : (i : ℕ) (a : Column) → slice_get columns i ≡ Some a → a.lo ≡ k → (b.lo < k) ⊎ ((b.lo ≡ k) ⊎ (k < b.lo)) → (k < b.hi) ⊎ ((k ≡ b.hi) ⊎ (b.hi < k)) → (k ≤ b.lo) ⊎ (b.hi ≤ k)
    at_begin i a is lo (inr (inl x)) y = inl (omega (arith, x))
    at_begin i a is lo (inr (inr x)) y = inl (omega (arith, x))
    at_begin i a is lo (inl x) (inr (inl y)) = inr (omega (arith, y))
    at_begin i a is lo (inl x) (inr (inr y)) = inr (omega (arith, y))
    at_begin i a is lo (inl x) (inl y) =
        let same = one_stretch pieces columns s i j a b k is e (omega (arith, lo)) (omega (arith, lo, (s.some i a is).0)) (omega (arith, x)) y in
        let eq = same_at (subst (λ (z : ℕ). slice_get columns z ≡ Some a) same is) e in
        absurd (omega (arith, x, lo, ap (λ (z : Column). z.lo) eq))

    go : (is_asked columns k ≡ true) ⊎ ((ended && (k == 1048576)) ≡ true) → (k ≤ b.lo) ⊎ (b.hi ≤ k)
    go (inl x) = let a = asked_in columns k x in at_begin a.0 a.1 a.2 a.3 (compared b.lo k) (compared k b.hi)
    go (inr x) = inr (omega (arith, (s.some j b e).1, eqb-true k 1048576 (both ended (k == 1048576) x).1))

same_asked_more : (columns new : List Column) (k : ℕ) → length new ≡ length columns + 1 → ((i : ℕ) (a : Column) → slice_get columns i ≡ Some a → (b : Column) × (slice_get new i ≡ Some b) × (b.lo ≡ a.lo) × (b.asked ≡ a.asked)) → ((b : Column) → slice_get new (length columns) ≡ Some b → b.asked ≡ false) → is_asked new k ≡ is_asked columns k
same_asked_more [] [] k size f last = absurd (omega (arith, size))
same_asked_more [] (b ∷ []) k size f last = rw (last b refl) refl
same_asked_more [] (b ∷ c ∷ new) k size f last = absurd (omega (arith, size))
same_asked_more (a ∷ columns) [] k size f last = absurd (omega (arith, size))
same_asked_more (a ∷ columns) (b ∷ new) k size f last =
    let r = f 0 a refl in
    let e : r.0 ≡ b = some_is (sym r.1) in
    rw (ap (λ (x : Column). x.asked) (sym e) ∙ r.3, ap (λ (x : Column). x.lo) (sym e) ∙ r.2, same_asked_more columns new k (omega (arith, size)) (λ i c h. f (suc i) c h) (λ c h. last c h)) refl

module _ (pieces : List (Piece ℕ)) (columns : List Column) (new_pieces : List (Piece ℕ)) (new_columns : List Column) (at cell : ℕ) (d : IsDividedAt pieces columns new_pieces new_columns at cell) where
  abbrev n : ℕ
  n = length columns

  within_test : (c : ℕ) → cell ≤ c → c < d.old.hi → value_at new_pieces c ≡ Some n
  within_test c l h = d.map c ∙ rw (both_of (nat_le cell c) (nat_lt c d.old.hi) (grind (arith, nat_tests)) (grind (arith, nat_tests))) refl

  outside_test : (c : ℕ) → (c < cell) ⊎ (d.old.hi ≤ c) → value_at new_pieces c ≡ value_at pieces c
  outside_test c o = d.map c ∙ rw (none o) refl
    where
      none : (c < cell) ⊎ (d.old.hi ≤ c) → (nat_le cell c && nat_lt c d.old.hi) ≡ false
      none x = go x (bools (nat_le cell c && nat_lt c d.old.hi))
        where
          go : (c < cell) ⊎ (d.old.hi ≤ c) → ((nat_le cell c && nat_lt c d.old.hi) ≡ true) ⊎ ((nat_le cell c && nat_lt c d.old.hi) ≡ false) → (nat_le cell c && nat_lt c d.old.hi) ≡ false
          go x (inr e) = e
          go (inl x) (inl e) = let k = both (nat_le cell c) (nat_lt c d.old.hi) e in absurd (grind (arith, nat_tests, k.0, x))
          go (inr x) (inl e) = let k = both (nat_le cell c) (nat_lt c d.old.hi) e in absurd (grind (arith, nat_tests, k.1, x))

  -- A stretch of the new ones is one of the old, the front, or the back.
  pub data IsPart (i : ℕ) (b : Column) : Type 0 where
    old_part : (i ≡ at → ⊥) → i < n → slice_get columns i ≡ Some b → IsPart i b
    front_part : i ≡ at → b ≡ record d.old { hi = cell } → IsPart i b
    back_part : i ≡ n → b ≡ d.back → IsPart i b

  part_of : (i : ℕ) (b : Column) → slice_get new_columns i ≡ Some b → IsPart i b
  part_of i b e = go (compared i n) (same_number i at)
    where
      go : (i < n) ⊎ ((i ≡ n) ⊎ (n < i)) → (i ≡ at) ⊎ (i ≡ at → ⊥) → IsPart i b
      go (inl l) (inr x) = old_part x l (sym (d.other i x l) ∙ e)
      go (inl l) (inl x) = front_part x (same_at e (subst (λ (j : ℕ). slice_get new_columns j ≡ Some (record d.old { hi = cell })) (sym x) d.front))
      go (inr (inl x)) k = back_part x (same_at e (subst (λ (j : ℕ). slice_get new_columns j ≡ Some d.back) (sym x) d.back_is))
      go (inr (inr x)) k = absurd (omega (arith, x, slice_get_within new_columns i b e, d.size))

  at_within : at < n
  at_within = slice_get_within columns at d.old d.old_is

  module _ (s : AreStretches pieces columns) where
    here_of : (c i : ℕ) → value_at new_pieces c ≡ Some i → (b : Column) × (slice_get new_columns i ≡ Some b) × (b.lo ≤ c) × (c < b.hi)
    here_of c i e = go (compared c cell) (compared c d.old.hi)
      where
        old_one : (c < cell) ⊎ (d.old.hi ≤ c) → (b : Column) × (slice_get new_columns i ≡ Some b) × (b.lo ≤ c) × (c < b.hi)
        old_one o = let a = s.here c i (sym (outside_test c o) ∙ e) in in_two a.0 a.1 a.2 a.3 o (same_number i at)
          where
            in_two : (a : Column) → slice_get columns i ≡ Some a → a.lo ≤ c → c < a.hi → (c < cell) ⊎ (d.old.hi ≤ c) → (i ≡ at) ⊎ (i ≡ at → ⊥) → (b : Column) × (slice_get new_columns i ≡ Some b) × (b.lo ≤ c) × (c < b.hi)
            in_two a is l h o (inr x) = (a, d.other i x (slice_get_within columns i a is) ∙ is, l, h)
            in_two a is l h o (inl x) =
                let same : a ≡ d.old = same_at (subst (λ (j : ℕ). slice_get columns j ≡ Some a) x is) d.old_is in
                (record d.old { hi = cell }, subst (λ (j : ℕ). slice_get new_columns j ≡ Some (record d.old { hi = cell })) (sym x) d.front, omega (arith, l, ap (λ (z : Column). z.lo) same), front_end o)
              where
                front_end : (c < cell) ⊎ (d.old.hi ≤ c) → c < cell
                front_end (inl y) = y
                front_end (inr y) = let same : a ≡ d.old = same_at (subst (λ (j : ℕ). slice_get columns j ≡ Some a) x is) d.old_is in absurd (omega (arith, y, h, ap (λ (z : Column). z.hi) same))

        new_one : cell ≤ c → c < d.old.hi → (b : Column) × (slice_get new_columns i ≡ Some b) × (b.lo ≤ c) × (c < b.hi)
        new_one l h =
            let same : n ≡ i = some_is (sym (within_test c l h) ∙ e) in
            (d.back, subst (λ (j : ℕ). slice_get new_columns j ≡ Some d.back) same d.back_is, omega (arith, d.back_lo, l), omega (arith, d.back_hi, h))

        go : (c < cell) ⊎ ((c ≡ cell) ⊎ (cell < c)) → (c < d.old.hi) ⊎ ((c ≡ d.old.hi) ⊎ (d.old.hi < c)) → (b : Column) × (slice_get new_columns i ≡ Some b) × (b.lo ≤ c) × (c < b.hi)
        go (inl l) y = old_one (inl l)
        go (inr (inl x)) (inl y) = new_one (omega (arith, x)) y
        go (inr (inr x)) (inl y) = new_one (omega (arith, x)) y
        go x (inr (inl y)) = old_one (inr (omega (arith, y)))
        go x (inr (inr y)) = old_one (inr (omega (arith, y)))

    there_of : (i : ℕ) (b : Column) (c : ℕ) → IsPart i b → b.lo ≤ c → c < b.hi → value_at new_pieces c ≡ Some i
    there_of i b c (old_part x l is) lo hi = outside_test c (away (compared c cell) (compared c d.old.hi)) ∙ s.there i b c is lo hi
      where
        away : (c < cell) ⊎ ((c ≡ cell) ⊎ (cell < c)) → (c < d.old.hi) ⊎ ((c ≡ d.old.hi) ⊎ (d.old.hi < c)) → (c < cell) ⊎ (d.old.hi ≤ c)
        away (inl y) z = inl y
        away (inr y) (inr (inl z)) = inr (omega (arith, z))
        away (inr y) (inr (inr z)) = inr (omega (arith, z))
        away (inr y) (inl z) = absurd (x (one_stretch pieces columns s i at b d.old c is d.old_is lo hi (at_least y) z))
          where
            at_least : (c ≡ cell) ⊎ (cell < c) → d.old.lo ≤ c
            at_least (inl w) = omega (arith, w, d.begins)
            at_least (inr w) = omega (arith, w, d.begins)
    there_of i b c (front_part x same) lo hi =
        let l : d.old.lo ≤ c = omega (arith, lo, ap (λ (z : Column). z.lo) same) in
        let h : c < cell = omega (arith, hi, ap (λ (z : Column). z.hi) same) in
        outside_test c (inl h) ∙ s.there at d.old c d.old_is l (omega (arith, h, d.ends)) ∙ ap Some (sym x)
    there_of i b c (back_part x same) lo hi = within_test c (omega (arith, lo, ap (λ (z : Column). z.lo) same, d.back_lo)) (omega (arith, hi, ap (λ (z : Column). z.hi) same, d.back_hi)) ∙ ap Some (sym x)

    some_of : (i : ℕ) (b : Column) → IsPart i b → (b.lo < b.hi) × (b.hi ≤ 1048576)
    some_of i b (old_part x l is) = s.some i b is
    some_of i b (front_part x same) = let k = s.some at d.old d.old_is in (omega (arith, ap (λ (z : Column). z.lo) same, ap (λ (z : Column). z.hi) same, d.begins), omega (arith, ap (λ (z : Column). z.hi) same, d.ends, k.1))
    some_of i b (back_part x same) = let k = s.some at d.old d.old_is in (omega (arith, ap (λ (z : Column). z.lo) same, ap (λ (z : Column). z.hi) same, d.back_lo, d.back_hi, d.ends), omega (arith, ap (λ (z : Column). z.hi) same, d.back_hi, k.1))

    all_of : (columns ≡ []) ⊎ ((c : ℕ) → c < 1048576 → (i : ℕ) × (value_at pieces c ≡ Some i)) → (new_columns ≡ []) ⊎ ((c : ℕ) → c < 1048576 → (i : ℕ) × (value_at new_pieces c ≡ Some i))
    all_of (inl z) = absurd (omega (arith, at_within, ap length z))
    all_of (inr f) = inr (λ c l. go c l (compared c cell) (compared c d.old.hi))
      where
        go : (c : ℕ) → c < 1048576 → (c < cell) ⊎ ((c ≡ cell) ⊎ (cell < c)) → (c < d.old.hi) ⊎ ((c ≡ d.old.hi) ⊎ (d.old.hi < c)) → (i : ℕ) × (value_at new_pieces c ≡ Some i)
        go c l (inl x) y = let r = f c l in (r.0, outside_test c (inl x) ∙ r.1)
        go c l x (inr (inl y)) = let r = f c l in (r.0, outside_test c (inr (omega (arith, y))) ∙ r.1)
        go c l x (inr (inr y)) = let r = f c l in (r.0, outside_test c (inr (omega (arith, y))) ∙ r.1)
        go c l (inr (inl x)) (inl y) = (n, within_test c (omega (arith, x)) y)
        go c l (inr (inr x)) (inl y) = (n, within_test c (omega (arith, x)) y)

    pub divided_stretches : AreStretches new_pieces new_columns
    divided_stretches = record { here = here_of; there = λ i b c e l h. there_of i b c (part_of i b e) l h; some = λ i b e. some_of i b (part_of i b e); whole = all_of s.whole }

    divided_given : (t c : ℕ) → given_at new_pieces new_columns t c ≡ given_at pieces columns t c
    divided_given t c = go (options (value_at pieces c)) (options (value_at new_pieces c))
      where
        read : (ps : List (Piece ℕ)) (xs : List Column) (o : Option ℕ) → value_at ps c ≡ o → given_at ps xs t c ≡ given_in (option_and_then (slice_get xs) o) t
        read ps xs o e = ap (λ (x : Option ℕ). given_in (option_and_then (slice_get xs) x) t) e

        same_given : (i : ℕ) (b : Column) → IsPart i b → b.lo ≤ c → c < b.hi → (a : Column) (j : ℕ) → slice_get columns j ≡ Some a → a.lo ≤ c → c < a.hi → given_by b.frames.items b.marks.items t ≡ given_by a.frames.items a.marks.items t
        same_given i b (old_part x l is) lo hi a j a_is al ah =
            let e = one_stretch pieces columns s i j b a c is a_is lo hi al ah in
            ap (λ (z : Column). given_by z.frames.items z.marks.items t) (same_at (subst (λ (z : ℕ). slice_get columns z ≡ Some b) e is) a_is)
        same_given i b (front_part x same) lo hi a j a_is al ah =
            let e = one_stretch pieces columns s at j d.old a c d.old_is a_is (omega (arith, lo, ap (λ (z : Column). z.lo) same)) (omega (arith, hi, ap (λ (z : Column). z.hi) same, d.ends)) al ah in
            ap (λ (z : Column). given_by z.frames.items z.marks.items t) same ∙ ap (λ (z : Column). given_by z.frames.items z.marks.items t) (same_at (subst (λ (z : ℕ). slice_get columns z ≡ Some d.old) e d.old_is) a_is)
        same_given i b (back_part x same) lo hi a j a_is al ah =
            let e = one_stretch pieces columns s at j d.old a c d.old_is a_is (omega (arith, lo, ap (λ (z : Column). z.lo) same, d.back_lo, d.begins)) (omega (arith, hi, ap (λ (z : Column). z.hi) same, d.back_hi)) al ah in
            ap (λ (z : Column). given_by z.frames.items z.marks.items t) same
            ∙ ap (λ (fs : List Frame). given_by fs d.back.marks.items t) d.back_frames ∙ ap (λ (ms : List Mark). given_by d.old.frames.items ms t) d.back_marks
            ∙ ap (λ (z : Column). given_by z.frames.items z.marks.items t) (same_at (subst (λ (z : ℕ). slice_get columns z ≡ Some d.old) e d.old_is) a_is)

        go : (value_at pieces c ≡ None) ⊎ ((i : ℕ) × (value_at pieces c ≡ Some i)) → (value_at new_pieces c ≡ None) ⊎ ((i : ℕ) × (value_at new_pieces c ≡ Some i)) → given_at new_pieces new_columns t c ≡ given_at pieces columns t c
        go (inl e) (inl f) = read new_pieces new_columns None f ∙ sym (read pieces columns None e)
        go (inr (i, e)) (inr (j, f)) =
            let a = s.here c i e in
            let b = here_of c j f in
            read new_pieces new_columns (Some j) f ∙ ap (λ (o : Option Column). given_in o t) b.1 ∙ same_given j b.0 (part_of j b.0 b.1) b.2 b.3 a.0 i a.1 a.2 a.3 ∙ sym (read pieces columns (Some i) e ∙ ap (λ (o : Option Column). given_in o t) a.1)
        go (inl e) (inr (j, f)) = absurd (gone (compared c cell) (compared c d.old.hi))
          where
            in_old : d.old.lo ≤ c → c < d.old.hi → ⊥
            in_old l h = some_none (sym (s.there at d.old c d.old_is l h) ∙ e)

            gone : (c < cell) ⊎ ((c ≡ cell) ⊎ (cell < c)) → (c < d.old.hi) ⊎ ((c ≡ d.old.hi) ⊎ (d.old.hi < c)) → ⊥
            gone (inl x) y = some_none (sym f ∙ outside_test c (inl x) ∙ e)
            gone x (inr (inl y)) = some_none (sym f ∙ outside_test c (inr (omega (arith, y))) ∙ e)
            gone x (inr (inr y)) = some_none (sym f ∙ outside_test c (inr (omega (arith, y))) ∙ e)
            gone (inr (inl x)) (inl y) = in_old (omega (arith, x, d.begins)) y
            gone (inr (inr x)) (inl y) = in_old (omega (arith, x, d.begins)) y
        go (inr (i, e)) (inl f) = absurd (gone (compared c cell) (compared c d.old.hi))
          where
            gone : (c < cell) ⊎ ((c ≡ cell) ⊎ (cell < c)) → (c < d.old.hi) ⊎ ((c ≡ d.old.hi) ⊎ (d.old.hi < c)) → ⊥
            gone (inl x) y = some_none (sym e ∙ sym (outside_test c (inl x)) ∙ f)
            gone x (inr (inl y)) = some_none (sym e ∙ sym (outside_test c (inr (omega (arith, y)))) ∙ f)
            gone x (inr (inr y)) = some_none (sym e ∙ sym (outside_test c (inr (omega (arith, y)))) ∙ f)
            gone (inr (inl x)) (inl y) = some_none (sym (within_test c (omega (arith, x)) y) ∙ f)
            gone (inr (inr x)) (inl y) = some_none (sym (within_test c (omega (arith, x)) y) ∙ f)

  divided_right : (opens : List Open) → AreColumns opens pieces columns → (i : ℕ) (b : Column) (c : ℕ) → IsPart i b → b.lo ≤ c → c < b.hi → IsColumn opens c b
  divided_right opens k i b c (old_part x l is) lo hi = k.right i b c is lo hi
  divided_right opens k i b c (front_part x same) lo hi =
      let r = k.right at d.old c d.old_is (omega (arith, lo, ap (λ (z : Column). z.lo) same)) (omega (arith, hi, ap (λ (z : Column). z.hi) same, d.ends)) in
      subst (λ (z : Column). IsColumn opens c z) (sym same) (record { linked = r.linked; marked = r.marked; shown = r.shown })
  divided_right opens k i b c (back_part x same) lo hi =
      let r = k.right at d.old c d.old_is (omega (arith, lo, ap (λ (z : Column). z.lo) same, d.back_lo, d.begins)) (omega (arith, hi, ap (λ (z : Column). z.hi) same, d.back_hi)) in
      subst (λ (z : Column). IsColumn opens c z) (sym same) (record {
        linked = subst AreLinked (sym d.back_frames) r.linked;
        marked = subst (λ (fs : List Frame). AreMarked fs d.back.marks.items None) (sym d.back_frames) (subst (λ (ms : List Mark). AreMarked d.old.frames.items ms None) (sym d.back_marks) r.marked);
        shown = subst (λ (fs : List Frame). AreShown opens c fs) (sym d.back_frames) r.shown;
      })

  pub divided_here : AreStretches pieces columns → IsDivided new_columns cell
  divided_here s i b e = go (part_of i b e)
    where
      go : IsPart i b → (cell ≤ b.lo) ⊎ (b.hi ≤ cell)
      go (front_part x same) = inr (omega (arith, ap (λ (z : Column). z.hi) same))
      go (back_part x same) = inl (omega (arith, ap (λ (z : Column). z.lo) same, d.back_lo))
      go (old_part x l is) = in_two (compared b.lo cell) (compared cell b.hi)
        where
          in_two : (b.lo < cell) ⊎ ((b.lo ≡ cell) ⊎ (cell < b.lo)) → (cell < b.hi) ⊎ ((cell ≡ b.hi) ⊎ (b.hi < cell)) → (cell ≤ b.lo) ⊎ (b.hi ≤ cell)
          in_two (inr (inl y)) z = inl (omega (arith, y))
          in_two (inr (inr y)) z = inl (omega (arith, y))
          in_two (inl y) (inr (inl z)) = inr (omega (arith, z))
          in_two (inl y) (inr (inr z)) = inr (omega (arith, z))
          in_two (inl y) (inl z) = absurd (x (one_stretch pieces columns s i at b d.old cell is d.old_is (omega (arith, y)) z (omega (arith, d.begins)) d.ends))

  pub divided_finer : IsFiner pieces columns new_pieces new_columns
  divided_finer =
      record {
        stretches = λ s. divided_stretches s;
        columns_are = λ opens k. record { stretches = divided_stretches k.stretches; right = λ i b c e l h. divided_right opens k i b c (part_of i b e) l h; none = λ z. absurd (omega (arith, d.size, ap length z)) };
        given = λ s t c. divided_given s t c;
        asked = λ k. same_asked_more columns new_columns k d.size (λ i a e. kept i a e (same_number i at)) (λ b e. ap (λ (z : Column). z.asked) (same_at e d.back_is) ∙ d.back_asked);
        divided = λ x k old i b e. still k old i b (part_of i b e);
        room = λ x lo hi r i b e l h. roomy lo hi r i b l h (part_of i b e);
        some = λ s z. absurd (omega (arith, d.size, ap length z));
      }
    where
      kept : (i : ℕ) (a : Column) → slice_get columns i ≡ Some a → (i ≡ at) ⊎ (i ≡ at → ⊥) → (b : Column) × (slice_get new_columns i ≡ Some b) × (b.lo ≡ a.lo) × (b.asked ≡ a.asked)
      kept i a e (inr x) = (a, d.other i x (slice_get_within columns i a e) ∙ e, refl, refl)
      kept i a e (inl x) =
          let same : a ≡ d.old = same_at (subst (λ (j : ℕ). slice_get columns j ≡ Some a) x e) d.old_is in
          (record d.old { hi = cell }, subst (λ (j : ℕ). slice_get new_columns j ≡ Some (record d.old { hi = cell })) (sym x) d.front, ap (λ (z : Column). z.lo) (sym same), ap (λ (z : Column). z.asked) (sym same))

      still : (k : ℕ) → IsDivided columns k → (i : ℕ) (b : Column) → IsPart i b → (k ≤ b.lo) ⊎ (b.hi ≤ k)
      still k old i b (old_part x l is) = old i b is
      still k old i b (front_part x same) = go (old at d.old d.old_is)
        where
          go : (k ≤ d.old.lo) ⊎ (d.old.hi ≤ k) → (k ≤ b.lo) ⊎ (b.hi ≤ k)
          go (inl y) = inl (omega (arith, y, ap (λ (z : Column). z.lo) same))
          go (inr y) = inr (omega (arith, y, ap (λ (z : Column). z.hi) same, d.ends))
      still k old i b (back_part x same) = go (old at d.old d.old_is)
        where
          go : (k ≤ d.old.lo) ⊎ (d.old.hi ≤ k) → (k ≤ b.lo) ⊎ (b.hi ≤ k)
          go (inl y) = inl (omega (arith, y, ap (λ (z : Column). z.lo) same, d.back_lo, d.begins))
          go (inr y) = inr (omega (arith, y, ap (λ (z : Column). z.hi) same, d.back_hi))

      roomy : (lo hi : ℕ) → HaveRoom columns lo hi → (i : ℕ) (b : Column) → lo < b.hi → b.lo < hi → IsPart i b → HasRoom b
      roomy lo hi r i b l h (old_part x m is) = r i b is l h
      roomy lo hi r i b l h (front_part x same) = subst HasRoom (sym same) (r at d.old d.old_is (omega (arith, l, ap (λ (z : Column). z.hi) same, d.ends)) (omega (arith, h, ap (λ (z : Column). z.lo) same)))
      roomy lo hi r i b l h (back_part x same) = subst HasRoom (sym same) d.back_room

get_front : {A : Type 0} (xs ys : List A) (k : ℕ) → k < length xs → slice_get (xs ++ ys) k ≡ slice_get xs k
get_front [] ys k h = absurd (omega (arith, h))
get_front (x ∷ xs) ys zero h = refl
get_front (x ∷ xs) ys (suc k) h = get_front xs ys k (omega (arith, h))

get_last : {A : Type 0} (xs : List A) (y : A) → slice_get (xs ++ y ∷ []) (length xs) ≡ Some y
get_last [] y = refl
get_last (x ∷ xs) y = get_last xs y

pub divided_of : (pieces : List (Piece ℕ)) (columns : List Column) (new_pieces : List (Piece ℕ)) (new_columns : List Column) (at cell : ℕ) (old b : Column) → slice_get columns at ≡ Some old → old.lo < cell → cell < old.hi
    → new_columns ≡ set columns at (record old { hi = cell }) ++ b ∷ [] → b.lo ≡ cell → b.hi ≡ old.hi → b.asked ≡ false → b.frames.items ≡ old.frames.items → b.marks.items ≡ old.marks.items → HasRoom b
    → Assigns cell old.hi (Some (length columns)) pieces new_pieces → IsDividedAt pieces columns new_pieces new_columns at cell
divided_of pieces columns new_pieces new_columns at cell old b old_is begins ends is lo hi asked frames marks room map = record {
  old = old;
  old_is = old_is;
  begins = begins;
  ends = ends;
  size = ap length is ∙ length_push (set columns at (record old { hi = cell })) b ∙ ap (λ (k : ℕ). k + 1) (length-set columns at (record old { hi = cell }));
  front = ap (λ (xs : List Column). slice_get xs at) is ∙ get_front (set columns at (record old { hi = cell })) (b ∷ []) at (omega (arith, length-set columns at (record old { hi = cell }), slice_get_within columns at old old_is)) ∙ get_set_same columns at (record old { hi = cell }) (slice_get_within columns at old old_is);
  back = b;
  back_is = ap (λ (xs : List Column). slice_get xs (length columns)) is ∙ subst (λ (k : ℕ). slice_get (set columns at (record old { hi = cell }) ++ b ∷ []) k ≡ Some b) (length-set columns at (record old { hi = cell })) (get_last (set columns at (record old { hi = cell })) b);
  back_lo = lo;
  back_hi = hi;
  back_asked = asked;
  back_frames = frames;
  back_marks = marks;
  back_room = room;
  other = λ i n l. ap (λ (xs : List Column). slice_get xs i) is ∙ get_front (set columns at (record old { hi = cell })) (b ∷ []) i (omega (arith, length-set columns at (record old { hi = cell }), l)) ∙ get_set_other columns at i (record old { hi = cell }) n;
  map = map;
}

pub assigned_as : (lo hi hi2 n n2 : ℕ) (pieces pieces2 new_pieces : List (Piece ℕ)) → Assigns lo hi (Some n) pieces new_pieces → hi ≡ hi2 → n ≡ n2 → pieces ≡ pieces2 → Assigns lo hi2 (Some n2) pieces2 new_pieces
assigned_as lo hi hi2 n n2 pieces pieces2 new_pieces a e f g =
    subst (λ (h : ℕ). Assigns lo h (Some n2) pieces2 new_pieces) e (subst (λ (k : ℕ). Assigns lo hi (Some k) pieces2 new_pieces) f (subst (λ (ps : List (Piece ℕ)). Assigns lo hi (Some n) ps new_pieces) g a))

-- the last cell of a stretch is not that of the division
pub inside_ends : (pieces : List (Piece ℕ)) (columns : List Column) (at cell : ℕ) (old : Column) → AreStretches pieces columns → value_at pieces cell ≡ Some at → slice_get columns at ≡ Some old → cell < old.hi
inside_ends pieces columns at cell old s here is = let a = s.here cell at here in subst (λ (x : Column). cell < x.hi) (same_at a.1 is) a.3

pub inside_within : (pieces : List (Piece ℕ)) (columns : List Column) (at cell : ℕ) → AreStretches pieces columns → value_at pieces cell ≡ Some at → at < length columns
inside_within pieces columns at cell s here = let a = s.here cell at here in slice_get_within columns at a.0 a.1

-- a stretch that begins at the cell is divided there
pub begun_divides : (pieces : List (Piece ℕ)) (columns : List Column) (at cell : ℕ) (a : Column) → AreStretches pieces columns → value_at pieces cell ≡ Some at → slice_get columns at ≡ Some a → cell ≤ a.lo → IsDivided columns cell
begun_divides pieces columns at cell a s here is le i b e = go (compared b.lo cell) (compared cell b.hi)
  where
    begin : a.lo ≡ cell
    begin = let k = s.here cell at here in omega (arith, le, subst (λ (x : Column). x.lo ≤ cell) (same_at k.1 is) k.2)

    go : (b.lo < cell) ⊎ ((b.lo ≡ cell) ⊎ (cell < b.lo)) → (cell < b.hi) ⊎ ((cell ≡ b.hi) ⊎ (b.hi < cell)) → (cell ≤ b.lo) ⊎ (b.hi ≤ cell)
    go (inr (inl x)) y = inl (omega (arith, x))
    go (inr (inr x)) y = inl (omega (arith, x))
    go (inl x) (inr (inl y)) = inr (omega (arith, y))
    go (inl x) (inr (inr y)) = inr (omega (arith, y))
    go (inl x) (inl y) =
        let same = one_stretch pieces columns s i at b a cell e is (omega (arith, x)) y (omega (arith, begin)) (inside_ends pieces columns at cell a s here is) in
        let eq = same_at (subst (λ (z : ℕ). slice_get columns z ≡ Some b) same e) is in
        absurd (omega (arith, x, begin, ap (λ (z : Column). z.lo) eq))

-- where a cell is in no stretch, none has it and the one before
pub gap_divides : (pieces : List (Piece ℕ)) (columns : List Column) (cell : ℕ) → AreStretches pieces columns → value_at pieces cell ≡ None → IsDivided columns cell
gap_divides pieces columns cell s none i b e = go (compared b.lo cell) (compared cell b.hi)
  where
    go : (b.lo < cell) ⊎ ((b.lo ≡ cell) ⊎ (cell < b.lo)) → (cell < b.hi) ⊎ ((cell ≡ b.hi) ⊎ (b.hi < cell)) → (cell ≤ b.lo) ⊎ (b.hi ≤ cell)
    go (inr (inl x)) y = inl (omega (arith, x))
    go (inr (inr x)) y = inl (omega (arith, x))
    go (inl x) (inr (inl y)) = inr (omega (arith, y))
    go (inl x) (inr (inr y)) = inr (omega (arith, y))
    go (inl x) (inl y) = absurd (some_none (sym (s.there i b cell e (omega (arith, x)) y) ∙ none))

-- one stretch of all cells
module _ (whole : Column) (new_pieces : List (Piece ℕ)) (lo_is : whole.lo ≡ 0) (hi_is : whole.hi ≡ 1048576) (asked_is : whole.asked ≡ false) (frames_is : whole.frames.items ≡ root ∷ []) (marks_is : whole.marks.items ≡ unmarked ∷ []) where
  root_linked : AreLinked (root ∷ [])
  root_linked = record {
    main = (root, refl, refl);
    above = λ k f is some. absurd (some (only k f is));
    rising = λ j k f g is js less. absurd (omega (arith, less, only k g js));
    last = λ k f is. subst (λ (x : Frame). IsLast (root ∷ []) k x.last) (one_frame k f is) (λ j b. b.not_main (only j b.frame b.is));
    next = λ k f is some. absurd (some (only k f is));
  }
    where
      only : (k : ℕ) (f : Frame) → slice_get (root ∷ []) k ≡ Some f → k ≡ 0
      only zero f is = refl
      only (suc k) f is = absurd cc

      one_frame : (k : ℕ) (f : Frame) → slice_get (root ∷ []) k ≡ Some f → root ≡ f
      one_frame zero f is = some_is is
      one_frame (suc k) f is = absurd cc

  root_marked : AreMarked (root ∷ []) (unmarked ∷ []) None
  root_marked = record {
    same = refl;
    main = λ m is. ap (λ (x : Mark). x.given) (sym (some_is is));
    first = λ k m is. subst (λ (x : Mark). IsFirst (root ∷ []) (unmarked ∷ []) None k x.first) (one_mark k m is) (λ j b. absurd (b.not_main (only j b.frame b.is)));
  }
    where
      only : (k : ℕ) (f : Frame) → slice_get (root ∷ []) k ≡ Some f → k ≡ 0
      only zero f is = refl
      only (suc k) f is = absurd cc

      one_mark : (k : ℕ) (m : Mark) → slice_get (unmarked ∷ []) k ≡ Some m → unmarked ≡ m
      one_mark zero m is = some_is is
      one_mark (suc k) m is = absurd cc

  root_shown : (c : ℕ) → AreShown [] c (root ∷ [])
  root_shown c = record {
    main = λ f is. ap (λ (x : Frame). x.task) (sym (some_is is));
    frame = λ k f is some. absurd (some (only k f is));
    all = λ o n number named. absurd (nothing number.2);
  }
    where
      only : (k : ℕ) (f : Frame) → slice_get (root ∷ []) k ≡ Some f → k ≡ 0
      only zero f is = refl
      only (suc k) f is = absurd cc

      nothing : {o : Open} → None ≡ Some o → ⊥
      nothing e = absurd cc

  whole_at : (i : ℕ) (b : Column) → slice_get (whole ∷ []) i ≡ Some b → (i ≡ 0) × (whole ≡ b)
  whole_at zero b e = (refl, some_is e)
  whole_at (suc i) b e = absurd cc

  pub cover_finer : (pieces : List (Piece ℕ)) → Assigns 0 1048576 (Some 0) pieces new_pieces → AreStretches pieces [] → IsFiner pieces [] new_pieces (whole ∷ [])
  cover_finer pieces map old =
      record {
        stretches = λ s. stretches;
        columns_are = λ opens k. record { stretches = stretches; right = λ i b c e l h. right opens k i b c e; none = λ z. absurd (omega (arith, ap length z)) };
        given = λ s t c. given t c;
        asked = λ k. rw asked_is refl;
        divided = λ n. absurd (n refl);
        room = λ n. absurd (n refl);
        some = λ n z. absurd (n refl);
      }
    where
      in_all : (c : ℕ) → c < 1048576 → value_at new_pieces c ≡ Some 0
      in_all c l = map c ∙ rw (both_of (nat_le 0 c) (nat_lt c 1048576) (grind (arith, nat_tests)) (grind (arith, nat_tests))) refl

      out : (c : ℕ) → 1048576 ≤ c → value_at new_pieces c ≡ value_at pieces c
      out c l = map c ∙ rw (go (bools (is_within 0 1048576 c))) refl
        where
          go : (is_within 0 1048576 c ≡ true) ⊎ (is_within 0 1048576 c ≡ false) → is_within 0 1048576 c ≡ false
          go (inr e) = e
          go (inl e) = let k = both (nat_le 0 c) (nat_lt c 1048576) e in absurd (grind (arith, nat_tests, k.1, l))

      none_before : (c : ℕ) → value_at pieces c ≡ None
      none_before c = go (options (value_at pieces c))
        where
          go : (value_at pieces c ≡ None) ⊎ ((i : ℕ) × (value_at pieces c ≡ Some i)) → value_at pieces c ≡ None
          go (inl e) = e
          go (inr (i, e)) = let a = old.here c i e in let h : None ≡ Some a.0 = a.1 in absurd cc

      side : (c : ℕ) → (c < 1048576) ⊎ (1048576 ≤ c)
      side c = go (compared c 1048576)
        where
          go : (c < 1048576) ⊎ ((c ≡ 1048576) ⊎ (1048576 < c)) → (c < 1048576) ⊎ (1048576 ≤ c)
          go (inl h) = inl h
          go (inr (inl h)) = inr (omega (arith, h))
          go (inr (inr h)) = inr (omega (arith, h))

      here_of : (c i : ℕ) → value_at new_pieces c ≡ Some i → (c < 1048576) ⊎ (1048576 ≤ c) → (b : Column) × (slice_get (whole ∷ []) i ≡ Some b) × (b.lo ≤ c) × (c < b.hi)
      here_of c i e (inl l) = (whole, ap (λ (j : ℕ). slice_get (whole ∷ []) j) (some_is (sym e ∙ in_all c l)), omega (arith, lo_is), omega (arith, hi_is, l))
      here_of c i e (inr l) = absurd (some_none (sym e ∙ out c l ∙ none_before c))

      there_of : (i : ℕ) (b : Column) (c : ℕ) → slice_get (whole ∷ []) i ≡ Some b → c < b.hi → value_at new_pieces c ≡ Some i
      there_of i b c e h = let k = whole_at i b e in in_all c (omega (arith, h, ap (λ (z : Column). z.hi) k.1, hi_is)) ∙ ap Some (sym k.0)

      stretches : AreStretches new_pieces (whole ∷ [])
      stretches = record {
        here = λ c i e. here_of c i e (side c);
        there = λ i b c e l h. there_of i b c e h;
        some = λ i b e. let k = whole_at i b e in (omega (arith, ap (λ (z : Column). z.lo) k.1, ap (λ (z : Column). z.hi) k.1, lo_is, hi_is), omega (arith, ap (λ (z : Column). z.hi) k.1, hi_is));
        whole = inr (λ c l. (0, in_all c l));
      }

      right : (opens : List Open) → AreColumns opens pieces [] → (i : ℕ) (b : Column) (c : ℕ) → slice_get (whole ∷ []) i ≡ Some b → IsColumn opens c b
      right opens k i b c e =
          subst (λ (z : Column). IsColumn opens c z) (whole_at i b e).1 (subst (λ (xs : List Open). IsColumn xs c whole) (sym (k.none refl)) (record {
            linked = subst AreLinked (sym frames_is) root_linked;
            marked = subst (λ (fs : List Frame). AreMarked fs whole.marks.items None) (sym frames_is) (subst (λ (ms : List Mark). AreMarked (root ∷ []) ms None) (sym marks_is) root_marked);
            shown = subst (λ (fs : List Frame). AreShown [] c fs) (sym frames_is) (root_shown c);
          }))

      read : (ps : List (Piece ℕ)) (xs : List Column) (t c : ℕ) (o : Option ℕ) → value_at ps c ≡ o → given_at ps xs t c ≡ given_in (option_and_then (slice_get xs) o) t
      read ps xs t c o e = ap (λ (x : Option ℕ). given_in (option_and_then (slice_get xs) x) t) e

      given_of : (t c : ℕ) → (c < 1048576) ⊎ (1048576 ≤ c) → given_at new_pieces (whole ∷ []) t c ≡ given_at pieces [] t c
      given_of t c (inl l) =
          read new_pieces (whole ∷ []) t c (Some 0) (in_all c l) ∙ ap (λ (fs : List Frame). given_by fs whole.marks.items t) frames_is ∙ ap (λ (ms : List Mark). given_by (root ∷ []) ms t) marks_is ∙ nothing (0 == t)
          ∙ sym (read pieces [] t c None (none_before c))
        where
          nothing : (x : Bool) → ((x && false) || false) ≡ false
          nothing true = refl
          nothing false = refl
      given_of t c (inr l) = read new_pieces (whole ∷ []) t c None (out c l ∙ none_before c) ∙ sym (read pieces [] t c None (none_before c))

      given : (t c : ℕ) → given_at new_pieces (whole ∷ []) t c ≡ given_at pieces [] t c
      given t c = given_of t c (side c)

pub finer_divide : {E : Type 0} (r : Result (Unit {0}) E) (pieces : List (Piece ℕ)) (columns : List Column) (new_pieces : List (Piece ℕ)) (new_columns : List Column) (at cell : ℕ) → OnOk r (IsDividedAt pieces columns new_pieces new_columns at cell)
    → OnErr r (new_pieces ≡ pieces) → OnErr r (new_columns ≡ columns) → IsFiner pieces columns new_pieces new_columns
finer_divide (Ok x) pieces columns new_pieces new_columns at cell d e f = divided_finer pieces columns new_pieces new_columns at cell d
finer_divide (Err x) pieces columns new_pieces new_columns at cell d e f = subst (λ (ps : List (Piece ℕ)). IsFiner pieces columns ps new_columns) (sym e) (subst (λ (xs : List Column). IsFiner pieces columns pieces xs) (sym f) (finer_same pieces columns))

pub ok_divides : {E : Type 0} (r : Result (Unit {0}) E) (pieces : List (Piece ℕ)) (columns : List Column) (new_pieces : List (Piece ℕ)) (new_columns : List Column) (at cell : ℕ) → AreStretches pieces columns → OnOk r (IsDividedAt pieces columns new_pieces new_columns at cell)
    → OnOk r (IsDivided new_columns cell)
ok_divides (Ok x) pieces columns new_pieces new_columns at cell s d = divided_here pieces columns new_pieces new_columns at cell d s
ok_divides (Err x) pieces columns new_pieces new_columns at cell s d = tt

pub covered_finer : (whole : Column) (pieces : List (Piece ℕ)) (columns : List Column) (new_pieces : List (Piece ℕ)) (new_columns : List Column) → whole.lo ≡ 0 → whole.hi ≡ 1048576 → whole.asked ≡ false → whole.frames.items ≡ root ∷ [] → whole.marks.items ≡ unmarked ∷ []
    → columns ≡ [] → new_columns ≡ whole ∷ [] → Assigns 0 1048576 (Some 0) pieces new_pieces → AreStretches pieces columns → IsFiner pieces columns new_pieces new_columns
covered_finer whole pieces columns new_pieces new_columns lo hi asked frames marks none is map old =
    subst (λ (xs : List Column). IsFiner pieces xs new_pieces new_columns) (sym none) (subst (λ (xs : List Column). IsFiner pieces [] new_pieces xs) (sym is)
    (cover_finer whole new_pieces lo hi asked frames marks pieces map (subst (λ (xs : List Column). AreStretches pieces xs) none old)))

pub finer_range : (pieces : List (Piece ℕ)) (columns : List Column) (pieces2 : List (Piece ℕ)) (columns2 : List Column) → IsFiner pieces columns pieces2 columns2 → (columns ≡ [] → ⊥) → (lo hi : ℕ) → IsReady columns lo hi → IsReady columns2 lo hi
finer_range pieces columns pieces2 columns2 f n lo hi r = record { begins = f.divided n lo r.begins; ends = f.divided n hi r.ends; room = f.room n lo hi r.room }
