-- One fragment of all cells stands for the same as none.
use Rattle.std.proofs.Common.{◌≡◌, ℕ, ◌<◌, ◌≤◌, zero, suc, refl, sym, ap, subst, ◌∙◌, List, [], ◌∷◌, ◌⊎◌, inl, inr, true, false, Some, None, arith}
use Rattle.std.proofs.lemmas.Bool.Decides.{nat_tests}
use Rattle.std.specs.Prelude.{nat_le, nat_lt, slice_get}
use Rattle.oss_ranges.specs.declared.piece.Piece.{Piece}
use Rattle.oss_ranges.specs.Cells.{Assigns, is_within, value_at}
use Rattle.oss_deps.proofs.Basics.{bools, both, both_of, some_is, some_none}
use Rattle.oss_fragments.specs.declared.fragment.Fragment.{Fragment}
use Rattle.oss_fragments.specs.Here.{AreEntries, bare, here_of}
use Rattle.oss_fragments.specs.Kept.{here_by}
use Rattle.oss_fragments.specs.Stretches.{AreFragments, IsFragment}
use Rattle.oss_fragments.specs.Changes.{IsFiner}
use Rattle.oss_fragments.proofs.LessLemmas.{less_same}
use Rattle.oss_fragments.proofs.StretchLemmas.{before_or, none_placed, read_here, read_some}

pub bare_entries : AreEntries bare
bare_entries = record { size = refl; main = refl; rising = λ j k s t js ks less. absurd (omega (arith, less, only j s js, only k t ks)) }
  where
    only : (k s : ℕ) → slice_get (0 ∷ []) k ≡ Some s → k ≡ 0
    only zero s is = refl
    only (suc k) s is = absurd cc

module _ (all : Fragment) (new_pieces : List (Piece ℕ)) (lo_is : all.lo ≡ 0) (hi_is : all.hi ≡ 1048576) (asked_is : all.asked ≡ false) (here_is : here_of all ≡ bare) (settled : all.line.head ≡ 0) where
  all_at : (i : ℕ) (b : Fragment) → slice_get (all ∷ []) i ≡ Some b → (i ≡ 0) × (all ≡ b)
  all_at zero b e = (refl, some_is e)
  all_at (suc i) b e = absurd cc

  right : IsFragment all
  right = record { some = omega (arith, lo_is, hi_is); within = omega (arith, hi_is); settled = settled; entries = subst AreEntries (sym here_is) bare_entries }

  pub cover_finer : (pieces : List (Piece ℕ)) → Assigns 0 1048576 (Some 0) pieces new_pieces → AreFragments pieces [] → IsFiner pieces [] new_pieces (all ∷ [])
  cover_finer pieces map old = record {
    are = λ s. are;
    here = λ s c. less_same (here_by pieces [] c) (here_by new_pieces (all ∷ []) c) (sym (cell c (before_or c 1048576)));
    asked = λ k. rw asked_is refl;
    divided = λ n. absurd (n refl);
    room = λ n. absurd (n refl);
    some = λ n z. absurd (n refl);
  }
    where
      in_all : (c : ℕ) → c < 1048576 → value_at new_pieces c ≡ Some 0
      in_all c l = map c ∙ rw (both_of (nat_le 0 c) (nat_lt c 1048576) (grind (arith, nat_tests)) (grind (arith, nat_tests))) refl

      out : (c : ℕ) → 1048576 ≤ c → value_at new_pieces c ≡ value_at pieces c
      out c l = map c ∙ rw (go (bools (is_within 0 1048576 c))) refl
        where
          go : (is_within 0 1048576 c ≡ true) ⊎ (is_within 0 1048576 c ≡ false) → is_within 0 1048576 c ≡ false
          go (inr e) = e
          go (inl e) = let k = both (nat_le 0 c) (nat_lt c 1048576) e in absurd (grind (arith, nat_tests, k.1, l))

      none_before : (c : ℕ) → value_at pieces c ≡ None
      none_before = none_placed pieces [] old refl

      here_of_cell : (c i : ℕ) → value_at new_pieces c ≡ Some i → (c < 1048576) ⊎ (1048576 ≤ c) → (b : Fragment) × (slice_get (all ∷ []) i ≡ Some b) × (b.lo ≤ c) × (c < b.hi)
      here_of_cell c i e (inl l) = (all, ap (λ (j : ℕ). slice_get (all ∷ []) j) (some_is (sym e ∙ in_all c l)), omega (arith, lo_is), omega (arith, hi_is, l))
      here_of_cell c i e (inr l) = absurd (some_none (sym e ∙ out c l ∙ none_before c))

      there_of : (i : ℕ) (b : Fragment) (c : ℕ) → slice_get (all ∷ []) i ≡ Some b → c < b.hi → value_at new_pieces c ≡ Some i
      there_of i b c e h = let k = all_at i b e in in_all c (omega (arith, h, ap (λ (z : Fragment). z.hi) k.1, hi_is)) ∙ ap Some (sym k.0)

      are : AreFragments new_pieces (all ∷ [])
      are = record {
        here = λ c i e. here_of_cell c i e (before_or c 1048576);
        there = λ i b c e l h. there_of i b c e h;
        right = λ i b e. subst IsFragment (all_at i b e).1 right;
        whole = inr (λ c l. (0, in_all c l));
      }

      cell : (c : ℕ) → (c < 1048576) ⊎ (1048576 ≤ c) → here_by new_pieces (all ∷ []) c ≡ here_by pieces [] c
      cell c (inl l) = read_some new_pieces (all ∷ []) c 0 all (in_all c l) refl ∙ here_is ∙ sym (read_here pieces [] c None (none_before c))
      cell c (inr l) = read_here new_pieces (all ∷ []) c None (out c l ∙ none_before c) ∙ sym (read_here pieces [] c None (none_before c))

pub covered_finer : (all : Fragment) (pieces : List (Piece ℕ)) (fragments : List Fragment) (new_pieces : List (Piece ℕ)) (new : List Fragment) → all.lo ≡ 0 → all.hi ≡ 1048576 → all.asked ≡ false → here_of all ≡ bare → all.line.head ≡ 0
    → fragments ≡ [] → new ≡ all ∷ [] → Assigns 0 1048576 (Some 0) pieces new_pieces → AreFragments pieces fragments → IsFiner pieces fragments new_pieces new
covered_finer all pieces fragments new_pieces new lo hi asked here settled none is map old =
    subst (λ (xs : List Fragment). IsFiner pieces xs new_pieces new) (sym none) (subst (λ (xs : List Fragment). IsFiner pieces [] new_pieces xs) (sym is)
    (cover_finer all new_pieces lo hi asked here settled pieces map (subst (λ (xs : List Fragment). AreFragments pieces xs) none old)))
