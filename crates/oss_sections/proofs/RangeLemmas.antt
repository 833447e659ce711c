-- The cells of ranges that are put together, and how their neighbours lie.
use Rattle.std.proofs.Common.{◌≡◌, ◌≢◌, ℕ, zero, suc, ◌+◌, ◌-◌, ◌≤◌, List, [], ◌∷◌, ◌++◌, refl, ap, ◌∙◌, append_assoc, append-nil, add-zero, zero-add, arith}
use Rattle.std.specs.List.{range_with_len}
use Rattle.oss_sections.specs.RangeCells.{AreJoined, EachNext, LastIs, cells_of}
use Rattle.oss_syntax.specs.declared.access.Range.{Range}

pub range-append : (first k j : ℕ) → range_with_len first (k + j) ≡ range_with_len first k ++ range_with_len (first + k) j
range-append first zero j = rw (zero-add, add-zero)
range-append first (suc k) j =
    let e : suc k + j ≡ suc (k + j) = omega arith in
    let f : first + suc k ≡ first + 1 + k = omega arith in
    rw e (rw f (ap (λ cells. first ∷ cells) (range-append (first + 1) k j)))

-- the cells of the range of one cell
pub one_cell : (cell : ℕ) → range_with_len cell (cell + 1 - cell) ≡ cell ∷ []
one_cell cell = let e : cell + 1 - cell ≡ 1 = omega arith in rw e

-- those of a range behind those of one that ends there
pub range-more : (lo mid hi : ℕ) → lo ≤ mid → mid ≤ hi → range_with_len lo (hi - lo) ≡ range_with_len lo (mid - lo) ++ range_with_len mid (hi - mid)
range-more lo mid hi low high =
    let e : hi - lo ≡ mid - lo + (hi - mid) = omega arith in
    let f : lo + (mid - lo) ≡ mid = omega arith in
    rw e (range-append lo (mid - lo) (hi - mid) ∙ ap (λ c. range_with_len lo (mid - lo) ++ range_with_len c (hi - mid)) f)

pub cells_of-append : (xs ys : List Range) → cells_of (xs ++ ys) ≡ cells_of xs ++ cells_of ys
cells_of-append [] ys = refl
cells_of-append (r ∷ rest) ys = ap (λ cells. range_with_len r.lo (r.hi - r.lo) ++ cells) (cells_of-append rest ys) ∙ rw append_assoc

pub cells_of-one : (r : Range) (first size : ℕ) → r.lo ≡ first → r.hi ≡ first + size → cells_of (r ∷ []) ≡ range_with_len first size
cells_of-one r first size low high =
    let e : r.hi - r.lo ≡ size = omega arith in
    rw append-nil (rw e (rw low))

-- a range behind others
pub cells_of-push : (xs : List Range) (r : Range) (first size : ℕ) → r.lo ≡ first → r.hi ≡ first + size → cells_of (xs ++ r ∷ []) ≡ cells_of xs ++ range_with_len first size
cells_of-push xs r first size low high = cells_of-append xs (r ∷ []) ∙ ap (λ cells. cells_of xs ++ cells) (cells_of-one r first size low high)

-- the last range, longer by another one
pub cells_of-longer : (xs : List Range) (last more longer : Range) → last.hi ≡ more.lo → longer.lo ≡ last.lo → longer.hi ≡ more.hi → cells_of (xs ++ longer ∷ []) ≡ cells_of (xs ++ last ∷ []) ++ range_with_len more.lo (more.hi - more.lo)
cells_of-longer xs last more longer here low high =
    let some = last.ordered in
    let others = more.ordered in
    let e : longer.hi - longer.lo ≡ more.hi - last.lo = omega arith in
    let f : last.hi - last.lo ≡ more.lo - last.lo = omega arith in
    let g : range_with_len longer.lo (longer.hi - longer.lo) ≡ range_with_len last.lo (last.hi - last.lo) ++ range_with_len more.lo (more.hi - more.lo) =
    rw (e, low, f) (range-more last.lo more.lo more.hi (omega arith) (omega arith)) in
    cells_of-append xs (longer ∷ [])
    ∙ ap (λ cells. cells_of xs ++ (cells ++ [])) g
    ∙ rw (cells_of-append xs (last ∷ [])) (simp (append-nil, append_assoc))

-- one more range, to which the last of those before it lies as asked
pub each_push : (R : Range → Range → Type 0) (xs : List Range) (r : Range) → EachNext R xs → LastIs (λ last. R last r) xs → EachNext R (xs ++ r ∷ [])
each_push R [] r each last = (tt, tt)
each_push R (x ∷ []) r each last = (last, (tt, tt))
each_push R (x ∷ y ∷ rest) r each last = (each.0, each_push R (y ∷ rest) r each.1 last)

-- another range in place of the last, to which all lie that lay so to that
pub each_last : (R : Range → Range → Type 0) (xs : List Range) (r s : Range) → ((x : Range) → R x r → R x s) → EachNext R (xs ++ r ∷ []) → EachNext R (xs ++ s ∷ [])
each_last R [] r s keeps each = (tt, tt)
each_last R (x ∷ []) r s keeps each = (keeps x each.0, (tt, tt))
each_last R (x ∷ y ∷ rest) r s keeps each = (each.0, each_last R (y ∷ rest) r s keeps each.1)

pub last_push : (P : Range → Type 0) (xs : List Range) (r : Range) → P r → LastIs P (xs ++ r ∷ [])
last_push P [] r holds = holds
last_push P (x ∷ []) r holds = holds
last_push P (x ∷ y ∷ rest) r holds = last_push P (y ∷ rest) r holds

-- the last range, made longer, is joined to none more than it was
pub joined_longer : (xs : List Range) (last longer : Range) → longer.lo ≡ last.lo → AreJoined (xs ++ last ∷ []) → AreJoined (xs ++ longer ∷ [])
joined_longer xs last longer low = each_last (λ x next. x.hi ≢ next.lo) xs last longer (λ x apart e. apart (e ∙ low))

-- a range that begins where the last one does not end is joined to none
pub joined_push : (xs : List Range) (r : Range) (cell : ℕ) → r.lo ≡ cell → LastIs (λ last. last.hi ≢ cell) xs → AreJoined xs → AreJoined (xs ++ r ∷ [])
joined_push xs r cell low last joined = each_push (λ x next. x.hi ≢ next.lo) xs r joined (rw low last)
