-- What was printed, in point order.
-- Prints stand at points, and their output is that of the sequential run: it goes from the least point to the greatest, and what
-- was printed at one point stays in the order of time. A task that is included prints at points below that of the task that
-- includes it.
-- Read against: `b` at 0.1, then `a` at 0.0, then `c` at 0.1, then `d` at 0.0.3. The output is `a`, `d`, `b`, `c`, and that up to
-- 0.0 is `a`, that up to 0.0.3 `a`, `d`, and that up to 0.1 all of it.
use Rattle.std.specs.Prelude.{◌≡◌, ℕ, Bool, List, [], ◌∷◌, ◌++◌, nat_eq}
use Rattle.std.specs.List.{filter}
use Rattle.std.specs.Cmp.Lexicographic.{pointwise, slice_cmp}
use Rattle.std.specs.Ordering.{is_le, nat_cmp}
use Rattle.oss_model.specs.Order.{IsBefore, IsIn}
use Rattle.oss_tree.specs.declared.output.Print.{Print}

-- The print stands at this point: `c` at 0.1.
abbrev pub is_at : List ℕ → Print → Bool
is_at p one = pointwise nat_eq p one.at

-- The print's point is not past this one: that of `a` is not past 0.0, and that of `d` is.
abbrev pub is_up_to : List ℕ → Print → Bool
is_up_to last one = is_le (slice_cmp nat_cmp one.at last)

-- The prints whose points are not past this one: those up to 0.0 are `a` alone.
abbrev pub up_to : List ℕ → List Print → List Print
up_to last prints = filter (is_up_to last) prints

-- No print stands behind one whose point is later: `a`, `d`, `b`, `c` do not fall, and `b`, `a` do.
abbrev pub NoneFalls : List Print → Type 0
NoneFalls [] = Unit {0}
NoneFalls (one ∷ more) = ((later : Print) → IsIn later more → IsBefore later.at one.at → ⊥) × NoneFalls more

-- The second are the first prints in point order: their points do not fall, and of each point there are the same prints in the
-- same order.
pub record IsInPointOrder (prints shown : List Print) : Type 0 where
  pub rises : NoneFalls shown
  pub same : (p : List ℕ) → filter (is_at p) shown ≡ filter (is_at p) prints

-- The texts of prints, one behind the other.
abbrev pub texts : List Print → List ℕ
texts [] = []
texts (one ∷ more) = one.text ++ texts more

-- The output of prints that were made in this order: their texts in point order.
pub record IsOutput (prints : List Print) (output : List ℕ) : Type 0 where
  pub shown : List Print
  pub ordered : IsInPointOrder prints shown
  pub output_is : output ≡ texts shown
