-- The cells of rows: whole rows, and one row more.
use Rattle.std.proofs.Common.{◌≡◌, ℕ, zero, suc, ◌+◌, ◌*◌, ◌++◌, sym, ap, ◌∙◌, append_assoc, append-nil, add-one, arith}
use Rattle.std.specs.List.{range_with_len}
use Rattle.oss_grammar.specs.SectionCells.{cells_of_rows}
use Rattle.oss_sections.proofs.RangeLemmas.{range-append}

-- whole rows are one range
pub rows-whole : (columns first n : ℕ) → cells_of_rows columns columns first n ≡ range_with_len first (n * columns)
rows-whole columns first zero = let e : zero * columns ≡ 0 = omega arith in rw e
rows-whole columns first (suc n) =
    let e : suc n * columns ≡ columns + n * columns = omega arith in
    rw e (ap (λ cells. range_with_len first columns ++ cells) (rows-whole columns (first + columns) n) ∙ sym (range-append first columns (n * columns)))

rows-suc : (columns size first n : ℕ) → cells_of_rows columns size first (suc n) ≡ cells_of_rows columns size first n ++ range_with_len (first + n * columns) size
rows-suc columns size first zero = let e : first + zero * columns ≡ first = omega arith in rw (e, append-nil)
rows-suc columns size first (suc n) =
    let e : first + suc n * columns ≡ first + columns + n * columns = omega arith in
    rw e (ap (λ cells. range_with_len first size ++ cells) (rows-suc columns size (first + columns) n) ∙ rw append_assoc)

-- one row more
pub rows-more : (columns size first n : ℕ) → cells_of_rows columns size first (n + 1) ≡ cells_of_rows columns size first n ++ range_with_len (first + n * columns) size
rows-more columns size first n = rw add-one (rows-suc columns size first n)

pub rows-wide : (columns size first n : ℕ) → size ≡ columns → cells_of_rows columns size first n ≡ range_with_len first (n * columns)
rows-wide columns size first n e = rw e (rows-whole columns first n)
