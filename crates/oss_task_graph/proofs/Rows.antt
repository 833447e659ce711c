-- Rows worked by hand: which access of a list stands on which, for two lists that the page of groups speaks of.
use Rattle.std.proofs.Common.{◌≡◌, ◌<◌, ℕ, zero, suc, true, false, refl, arith}
use Rattle.oss_syntax.specs.declared.access.Mode.TheVariants.{Fold, Read, Write}
use Rattle.oss_syntax.specs.declared.access.Op.TheVariants.{Add, Or}
use Rattle.oss_model.specs.Rights.{Holds, NoRight, Right}
use Rattle.oss_task_graph.specs.Groups.{AreNeighbours, StandsOn, are_strong, is_held, next, same}

-- Children that follow one another directly, and both have the cell, are neighbours.
beside : (rights : ℕ → Right) (j : ℕ) → is_held (rights j) ≡ true → is_held (rights (suc j)) ≡ true → AreNeighbours rights j (suc j)
beside rights j one other = record { rises = omega arith; first = one; second = other; between = λ i l m h. omega (arith, l, m) }

-- `out(x)`, `in(x)`, `in(x)`, `inout(x)`
abbrev readers : ℕ → Right
readers zero = Holds Write true
readers (suc zero) = Holds Read true
readers (suc (suc zero)) = Holds Read true
readers (suc (suc (suc zero))) = Holds Write true
readers _ = NoRight

-- The first reader stands on the writer, and so does the second, which is of the first one's group.
reads_behind_write : StandsOn readers 0 1
reads_behind_write = record { last = 0; first = 1; before = same; neighbours = beside readers 0 refl refl; apart = refl; behind = same }

both_read_behind_write : StandsOn readers 0 2
both_read_behind_write = record { last = 0; first = 1; before = same; neighbours = beside readers 0 refl refl; apart = refl; behind = next same (beside readers 1 refl refl) refl }

-- The last writer stands on each of the readers.
writes_behind_read : StandsOn readers 2 3
writes_behind_read = record { last = 2; first = 3; before = same; neighbours = beside readers 2 refl refl; apart = refl; behind = same }

writes_behind_both : StandsOn readers 1 3
writes_behind_both = record { last = 2; first = 3; before = next same (beside readers 1 refl refl) refl; neighbours = beside readers 2 refl refl; apart = refl; behind = same }

-- `reduction(+: s)`, `weakreduction(+: s)`, `reduction(|: s)`
abbrev folds : ℕ → Right
folds zero = Holds (Fold Add) true
folds (suc zero) = Holds (Fold Add) false
folds (suc (suc zero)) = Holds (Fold Or) true
folds _ = NoRight

-- A reduction by another operator stands on each of the group before it. Only the first of these has a strong access too.
folds_behind_fold : StandsOn folds 0 2
folds_behind_fold = record { last = 1; first = 2; before = next same (beside folds 0 refl refl) refl; neighbours = beside folds 1 refl refl; apart = refl; behind = same }

strong_with_strong : are_strong (folds 0) (folds 2) ≡ true
strong_with_strong = refl

weak_with_strong : are_strong (folds 1) (folds 2) ≡ false
weak_with_strong = refl
