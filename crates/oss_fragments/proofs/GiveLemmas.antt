-- A task has given up the fragments of a range.
use Rattle.std.proofs.Common.{◌≡◌, ℕ, ◌<◌, ◌≤◌, sym, ap, subst, ◌∙◌, List, [], ◌⊎◌, inl, inr, Bool, true, false, arith}
use Rattle.std.proofs.lemmas.Bool.Decides.{nat_tests}
use Rattle.std.specs.Prelude.{◌&&◌, ◌||◌, ◌==◌, MatchBool, nat_le, nat_lt}
use Rattle.oss_syntax.specs.declared.access.Access.{Access}
use Rattle.oss_syntax.specs.declared.access.Range.{Range}
use Rattle.oss_ranges.specs.declared.piece.Piece.{Piece}
use Rattle.oss_deps.specs.Seen.{in_range}
use Rattle.oss_deps.proofs.Basics.{bools, both, both_of}
use Rattle.oss_fragments.specs.declared.fragment.Fragment.{Fragment}
use Rattle.oss_fragments.specs.Here.{Here, here_of, IsGivenUp}
use Rattle.oss_fragments.specs.Kept.{here_by, is_cut_by}
use Rattle.oss_fragments.specs.Stretches.{AreFragments, AreReady, HasRoom, HaveRoom, IsDivided}
use Rattle.oss_fragments.specs.Changes.{AreWalked, IsGivenIn, IsWalked}
use Rattle.oss_fragments.proofs.StretchLemmas.{before_or}
use Rattle.oss_fragments.proofs.WalkLemmas.{walk_back, walk_divided, walk_asked, walk_some, walk_are, walk_in, walk_out}

-- What a cell has then.
abbrev pub IsGivenBy : ℕ → Bool → Here → Here → Type 0
IsGivenBy number is_in old new = MatchBool is_in (IsGivenUp number old new) (new ≡ old)

module _ (number : ℕ) (range : Range) (old new : List Fragment) (g : AreWalked (IsGivenIn number) range.lo range.hi old new) where
  abbrev R : Fragment → Fragment → Type 0
  R = IsGivenIn number

  pub given_are : (pieces : List (Piece ℕ)) → AreFragments pieces old → AreFragments pieces new
  given_are pieces s = walk_are R range.lo range.hi old new g pieces s (λ a b f e r. r.right)

  pub given_cut : (ended : Bool) (k : ℕ) → is_cut_by new ended k ≡ is_cut_by old ended k
  given_cut ended k = ap (λ (x : Bool). x || (ended && (k == 1048576))) (walk_asked R range.lo range.hi old new g k)

  pub given_ready : (accesses : List Access) → AreReady accesses old → AreReady accesses new
  given_ready accesses r = record {
    some = walk_some R range.lo range.hi old new g r.some;
    each = λ a i. let k = r.each a i in record { begins = walk_divided R range.lo range.hi old new g a.range.lo k.begins; ends = walk_divided R range.lo range.hi old new g a.range.hi k.ends; room = room a.range.lo a.range.hi k.room };
  }
    where
      roomy : (a b : Fragment) → IsWalked R range.lo range.hi a b → HasRoom a → HasRoom b
      roomy a b (inl (l, h, r)) k = r.room k
      roomy a b (inr (n, e)) k = subst HasRoom e k

      room : (lo hi : ℕ) → HaveRoom old lo hi → HaveRoom new lo hi
      room lo hi k i b e x y = let a = walk_back R range.lo range.hi old new g i b e in roomy a.0 b a.3 (k i a.0 a.1 (omega (arith, a.2.hi, x)) (omega (arith, a.2.lo, y)))

  pub given_cell : (pieces : List (Piece ℕ)) → AreFragments pieces old → (old ≡ [] → ⊥) → IsDivided old range.lo → IsDivided old range.hi → (c : ℕ) → IsGivenBy number (in_range range c) (here_by pieces old c) (here_by pieces new c)
  given_cell pieces s some begins ends c = go (bools (in_range range c))
    where
      go : (in_range range c ≡ true) ⊎ (in_range range c ≡ false) → IsGivenBy number (in_range range c) (here_by pieces old c) (here_by pieces new c)
      go (inl t) =
          let k = both (nat_le range.lo c) (nat_lt c range.hi) t in
          let w = walk_in R range.lo range.hi old new g pieces s some begins range.within c (grind (arith, nat_tests, k.0)) (grind (arith, nat_tests, k.1)) in
          subst (λ (x : Bool). IsGivenBy number x (here_by pieces old c) (here_by pieces new c)) (sym t)
          (subst (λ (y : Here). IsGivenUp number y (here_by pieces new c)) (sym w.2) (subst (λ (y : Here). IsGivenUp number (here_of w.0) y) (sym w.3) w.4.given))
      go (inr t) = subst (λ (x : Bool). IsGivenBy number x (here_by pieces old c) (here_by pieces new c)) (sym t) (walk_out R range.lo range.hi old new g pieces s ends c (outside (before_or c range.lo) (before_or c range.hi)))
        where
          outside : (c < range.lo) ⊎ (range.lo ≤ c) → (c < range.hi) ⊎ (range.hi ≤ c) → (c < range.lo) ⊎ (range.hi ≤ c)
          outside (inl l) h = inl l
          outside (inr l) (inr h) = inr h
          outside (inr l) (inl h) = absurd (let e : true ≡ false = sym (both_of (nat_le range.lo c) (nat_lt c range.hi) (grind (arith, nat_tests, l)) (grind (arith, nat_tests, h))) ∙ t in cc)
