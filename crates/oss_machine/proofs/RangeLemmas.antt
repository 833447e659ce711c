-- Ranges of which none begins where the one before it ends are the ranges of their cells.
use Rattle.std.proofs.Common.{◌≡◌, ◌≢◌, ℕ, zero, suc, ◌+◌, ◌-◌, ◌<◌, ◌≤◌, min, eqb, List, [], ◌∷◌, ◌++◌, refl, sym, ap, subst, ◌∙◌, true, false, arith}
use Rattle.std.proofs.lemmas.Bool.Decides.{nat_tests}
use Rattle.std.specs.List.{range_with_len}
use Rattle.std.proofs.Props.{props}
use Rattle.oss_model.specs.Cells.{cell_range}
use Rattle.oss_syntax.specs.declared.access.Range.{Range}
use Rattle.oss_sections.specs.RangeCells.{AreApart, AreJoined, IsFollowed, cells_of}
use Rattle.oss_meaning.specs.Sections.{cell_before, longer_by, ranges_of}

abbrev range_at : (lo hi : ℕ) → lo < hi → hi ≤ 1048576 → Range
range_at lo hi o w = record { lo = lo; hi = hi; ordered = o; within = w }

-- two ranges with the same ends are one
same_ends : (lo hi : ℕ) (o p : lo < hi) (w x : hi ≤ 1048576) → range_at lo hi o w ≡ range_at lo hi p x
same_ends lo hi o p w x =
    let one : IsProp (lo < hi) = hlevel props in
    let other : IsProp (hi ≤ 1048576) = hlevel props in
    ap (λ (q : lo < hi). range_at lo hi q w) (one o p) ∙ ap (λ (y : hi ≤ 1048576). range_at lo hi p y) (other w x)

same_at : (lo hi : ℕ) (s : Range) (e : lo ≡ s.lo) (f : hi ≡ s.hi) (o : lo < hi) (w : hi ≤ 1048576) → range_at lo hi o w ≡ s
same_at lo hi s e f =
    let P : ℕ → Type 0 = λ a. (o : a < hi) (w : hi ≤ 1048576) → range_at a hi o w ≡ s in
    let Q : ℕ → Type 0 = λ b. (o : s.lo < b) (w : b ≤ 1048576) → range_at s.lo b o w ≡ s in
    subst P (sym e) (subst Q (sym f) (λ o w. same_ends s.lo s.hi o s.ordered w s.within))

pub same_range : (r s : Range) → r.lo ≡ s.lo → r.hi ≡ s.hi → r ≡ s
same_range r s e f = same_at r.lo r.hi s e f r.ordered r.within

-- a cell directly before a range makes it longer
longer : (c : ℕ) (r s : Range) (rest : List Range) → r.lo ≡ c + 1 → s.lo ≡ c → s.hi ≡ r.hi → cell_before c (r ∷ rest) ≡ s ∷ rest
longer c r s rest here low high =
    let e : eqb r.lo (c + 1) ≡ true = grind (arith, nat_tests) in
    let f : min c r.lo ≡ s.lo = omega arith in
    rw e (ap (λ x. x ∷ rest) (same_range (longer_by c r) s f (sym high)))

-- any other cell is a range of its own
own : (c : ℕ) (s : Range) (rest : List Range) → s.lo ≡ c → s.hi ≡ c + 1 → IsFollowed (λ r next. r.hi ≢ next.lo) s rest → cell_before c rest ≡ s ∷ rest
own c s [] low high apart =
    let w = s.within in
    let f : min c 1048575 ≡ s.lo = omega arith in
    let g : min c 1048575 + 1 ≡ s.hi = omega arith in
    ap (λ x. x ∷ []) (same_range (cell_range c) s f g)
own c s (t ∷ ts) low high apart =
    let w = s.within in
    let e : eqb t.lo (c + 1) ≡ false = grind (arith, nat_tests) in
    let f : min c 1048575 ≡ s.lo = omega arith in
    let g : min c 1048575 + 1 ≡ s.hi = omega arith in
    rw e (ap (λ x. x ∷ t ∷ ts) (same_range (cell_range c) s f g))

-- the cells of a range before others
before : (n lo : ℕ) (r : Range) (ys : List ℕ) (rest : List Range) → r.lo ≡ lo → r.hi ≡ lo + suc n → IsFollowed (λ r next. r.hi ≢ next.lo) r rest → ranges_of ys ≡ rest → ranges_of (range_with_len lo (suc n) ++ ys) ≡ r ∷ rest
before zero lo r ys rest low high apart e = ap (cell_before lo) e ∙ own lo r rest low (high ∙ omega arith) apart
before (suc n) lo r ys rest low high apart e =
    let w = r.within in
    let next : Range = record { lo = lo + 1; hi = r.hi; ordered = omega arith; within = r.within } in
    ap (cell_before lo) (before n (lo + 1) next ys rest refl (omega arith) apart e) ∙ longer lo next r rest refl low refl

counted : (n lo : ℕ) (r : Range) (ys : List ℕ) (rest : List Range) → r.hi - r.lo ≡ n → r.lo ≡ lo → IsFollowed (λ r next. r.hi ≢ next.lo) r rest → ranges_of ys ≡ rest → ranges_of (range_with_len lo n ++ ys) ≡ r ∷ rest
counted zero lo r ys rest size low apart e = let o = r.ordered in absurd (omega arith)
counted (suc n) lo r ys rest size low apart e = let o = r.ordered in before n lo r ys rest low (omega arith) apart e

pub ranges_are : (rs : List Range) → AreJoined rs → ranges_of (cells_of rs) ≡ rs
ranges_are [] joined = refl
ranges_are (r ∷ rest) joined = counted (r.hi - r.lo) r.lo r (cells_of rest) rest refl refl joined.0 (ranges_are rest joined.1)

-- ranges that are apart are joined no more
apart_joined : (r : Range) (rest : List Range) → IsFollowed (λ r next. r.hi < next.lo) r rest → IsFollowed (λ r next. r.hi ≢ next.lo) r rest
apart_joined r [] apart = tt
apart_joined r (next ∷ rest) apart = omega arith

pub joined_from_apart : (rs : List Range) → AreApart rs → AreJoined rs
joined_from_apart [] apart = tt
joined_from_apart (r ∷ rest) apart = (apart_joined r rest apart.0, joined_from_apart rest apart.1)

pub ranges_apart : (rs : List Range) → AreApart rs → ranges_of (cells_of rs) ≡ rs
ranges_apart rs apart = ranges_are rs (joined_from_apart rs apart)
