-- Accesses that are alike are one.
use Rattle.std.proofs.Common.{◌≡◌, ℕ, ◌<◌, ◌≤◌, sym, ap, subst, ◌∙◌, Bool}
use Rattle.std.proofs.Props.{props}
use Rattle.oss_syntax.specs.declared.access.Access.{Access}
use Rattle.oss_syntax.specs.declared.access.Mode.{Mode}
use Rattle.oss_syntax.specs.declared.access.Range.{Range}

abbrev range_at : (lo hi : ℕ) → lo < hi → hi ≤ 1048576 → Range
range_at lo hi o w = record { lo = lo; hi = hi; ordered = o; within = w }

same_ends : (lo hi : ℕ) (o p : lo < hi) (w x : hi ≤ 1048576) → range_at lo hi o w ≡ range_at lo hi p x
same_ends lo hi o p w x =
    let one : IsProp (lo < hi) = hlevel props in
    let other : IsProp (hi ≤ 1048576) = hlevel props in
    ap (λ (q : lo < hi). range_at lo hi q w) (one o p) ∙ ap (λ (y : hi ≤ 1048576). range_at lo hi p y) (other w x)

same_at : (lo hi : ℕ) (s : Range) (e : lo ≡ s.lo) (f : hi ≡ s.hi) (o : lo < hi) (w : hi ≤ 1048576) → range_at lo hi o w ≡ s
same_at lo hi s e f =
    let P : ℕ → Type 0 = λ a. (o : a < hi) (w : hi ≤ 1048576) → range_at a hi o w ≡ s in
    let Q : ℕ → Type 0 = λ b. (o : s.lo < b) (w : b ≤ 1048576) → range_at s.lo b o w ≡ s in
    subst P (sym e) (subst Q (sym f) (λ o w. same_ends s.lo s.hi o s.ordered w s.within))

same_range : (r s : Range) → r.lo ≡ s.lo → r.hi ≡ s.hi → r ≡ s
same_range r s e f = same_at r.lo r.hi s e f r.ordered r.within

pub same_access : (a b : Access) → a.range.lo ≡ b.range.lo → a.range.hi ≡ b.range.hi → a.mode ≡ b.mode → a.strong ≡ b.strong → a.fresh ≡ b.fresh → a ≡ b
same_access a b lo hi mode strong fresh =
    ap (λ (r : Range). record { range = r; mode = a.mode; strong = a.strong; fresh = a.fresh }) (same_range a.range b.range lo hi)
    ∙ ap (λ (m : Mode). record { range = b.range; mode = m; strong = a.strong; fresh = a.fresh }) mode
    ∙ ap (λ (s : Bool). record { range = b.range; mode = b.mode; strong = s; fresh = a.fresh }) strong
    ∙ ap (λ (f : Bool). record { range = b.range; mode = b.mode; strong = b.strong; fresh = f }) fresh
