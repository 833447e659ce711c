-- What the writes of a part show, and what an act adds to them.
use Rattle.std.proofs.Common.{◌≡◌, ◌≢◌, ℕ, zero, suc, ◌<◌, ◌⊎◌, inl, inr, refl, sym, ap, ◌∙◌, List, [], length, arith, Bool, true, false, Some, None, get_or-set_same, get_or-set_other, length-set}
use Rattle.std.specs.Prelude.{◌==◌, ◌||◌, if◌then◌else◌, slice_index, slice_set}
use Rattle.std.proofs.lemmas.Bool.Decides.{nat_tests}
use Rattle.oss_model.specs.Bodies.{Act, Program, Start}
use Rattle.oss_model.specs.Bodies.Act.{Store, Folded}
use Rattle.oss_model.specs.Moves.{cells_after, combine}
use Rattle.oss_ranges.specs.declared.piece.Piece.{Piece}
use Rattle.oss_ranges.specs.Cells.{value_at}
use Rattle.oss_wave_laws.specs.AtOnce.{changes_cell, is_changed}
use Rattle.oss_wave_laws.specs.Parts.{Stage, act_after, stage_after}
use Rattle.oss_segment.specs.Writes.{AreWritten, Leaves, Shows, or_kept}

-- Cells

same_or_not : (x y : ℕ) → ((x ≡ y) × ((x == y) ≡ true)) ⊎ ((x ≢ y) × ((x == y) ≡ false))
same_or_not x y = grind (arith, nat_tests)

other_cell : (cells : List ℕ) (d v c : ℕ) → (d == c) ≡ false → slice_index (slice_set cells d v) c ≡ slice_index cells c
other_cell cells d v c e = get_or-set_other cells d c v 0 (λ k. go (same_or_not d c) (sym k))
  where
    go : ((d ≡ c) × ((d == c) ≡ true)) ⊎ ((d ≢ c) × ((d == c) ≡ false)) → d ≡ c → ⊥
    go (inl s) k = let x : true ≡ false = sym s.1 ∙ e in cc
    go (inr s) k = s.0 k

same_cell : (cells : List ℕ) (d v c : ℕ) → c < length cells → (d == c) ≡ true → slice_index (slice_set cells d v) c ≡ v
same_cell cells d v c l e = go (same_or_not d c)
  where
    go : ((d ≡ c) × ((d == c) ≡ true)) ⊎ ((d ≢ c) × ((d == c) ≡ false)) → slice_index (slice_set cells d v) c ≡ v
    go (inl s) = rw s.0 (get_or-set_same cells c v 0 l)
    go (inr s) = let x : true ≡ false = sym e ∙ s.1 in absurd cc

-- Acts

size_kept : {S : Type 0} (act : Act S) (cells : List ℕ) → length (cells_after act cells) ≡ length cells
size_kept (Store d v) cells = length-set cells d v
size_kept (Folded d op v false) cells = length-set cells d (combine op (slice_index cells d) v)
size_kept _ cells = refl

unchanged : {S : Type 0} (act : Act S) (c : ℕ) (cells : List ℕ) → changes_cell act c ≡ false → slice_index (cells_after act cells) c ≡ slice_index cells c
unchanged (Store d v) c cells e = other_cell cells d v c e
unchanged (Folded d op v false) c cells e = other_cell cells d (combine op (slice_index cells d) v) c e
unchanged _ c cells e = refl

module _ {S : Type 0} (P : Program S) (start : Start S) (first : Stage) where
  stage_size : (n : ℕ) → length (stage_after P start first n).cells ≡ length first.cells
  unfolding stage_after
  stage_size zero = refl
  stage_size (suc n) = size_kept (act_after P start first n) (stage_after P start first n).cells ∙ stage_size n

  -- a cell that no act changes is as at first
  cell_kept : (n c : ℕ) → is_changed P start first n c ≡ false → slice_index (stage_after P start first n).cells c ≡ slice_index first.cells c
  unfolding stage_after is_changed
  cell_kept zero c e = refl
  cell_kept (suc n) c e = go (cell_kept n c) (changes_cell (act_after P start first n) c) refl
    where
      go : (is_changed P start first n c ≡ false → slice_index (stage_after P start first n).cells c ≡ slice_index first.cells c) → (b : Bool) → changes_cell (act_after P start first n) c ≡ b
          → slice_index (cells_after (act_after P start first n) (stage_after P start first n).cells) c ≡ slice_index first.cells c
      go before true k = let x : true ≡ false = ap (λ (b : Bool). b || is_changed P start first n c) (sym k) ∙ e in absurd cc
      go before false k = unchanged (act_after P start first n) c (stage_after P start first n).cells k ∙ before (ap (λ (b : Bool). b || is_changed P start first n c) (sym k) ∙ e)

  -- who looks into the writes first finds what the body finds
  pub shows : (n : ℕ) (writes : List (Piece ℕ)) → AreWritten P start first n writes → Shows first.cells writes (stage_after P start first n).cells
  shows n writes h = record { size = stage_size n; each = λ c l. go c l (is_changed P start first n c) refl }
    where
      go : (c : ℕ) → c < length first.cells → (b : Bool) → is_changed P start first n c ≡ b → slice_index (stage_after P start first n).cells c ≡ or_kept (value_at writes c) (slice_index first.cells c)
      go c l true e = rw (h c l, e) refl
      go c l false e = rw (h c l, e) (cell_kept n c e)

  pub written_none : AreWritten P start first 0 []
  unfolding is_changed
  written_none c l = refl

  -- one more act
  pub written_more : (n : ℕ) (old new : List (Piece ℕ)) → AreWritten P start first n old → Leaves (act_after P start first n) (stage_after P start first n).cells old new → AreWritten P start first (suc n) new
  unfolding stage_after is_changed
  written_more n old new h k c l = go (changes_cell (act_after P start first n) c) refl
    where
      inside : c < length (stage_after P start first n).cells
      inside = let e = stage_size n in omega (arith, l, e)

      go : (b : Bool) → changes_cell (act_after P start first n) c ≡ b
          → value_at new c ≡ (if changes_cell (act_after P start first n) c || is_changed P start first n c then Some (slice_index (cells_after (act_after P start first n) (stage_after P start first n).cells) c) else None)
      go true e = rw (k c inside, e) refl
      go false e =
          rw (k c inside, e, h c l)
          (ap (λ (v : ℕ). if is_changed P start first n c then Some v else None) (sym (unchanged (act_after P start first n) c (stage_after P start first n).cells e)))
