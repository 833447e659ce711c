-- Fragments that have got room, or of which one has fewer accesses, tell the same as before.
use Rattle.std.proofs.Common.{◌≡◌, ℕ, ◌≤◌, sym, ap, subst, ◌∙◌, List, ◌⊎◌, inl, inr, Some, None, arith, set}
use Rattle.std.proofs.lemmas.Option.{slice_get_within}
use Rattle.std.specs.Prelude.{slice_get}
use Rattle.oss_deps.proofs.Basics.{same_at}
use Rattle.oss_deps.proofs.CloseLemmas.{get_set_same}
use Rattle.oss_ranges.specs.declared.piece.Piece.{Piece}
use Rattle.oss_ranges.specs.Cells.{value_at}
use Rattle.oss_fragments.specs.declared.fragment.Fragment.{Fragment}
use Rattle.oss_fragments.specs.Here.{AreEntries, IsLess, here_of}
use Rattle.oss_fragments.specs.Kept.{here_by}
use Rattle.oss_fragments.specs.Stretches.{AreFragments, IsFragment, IsDivided, HasRoom, HaveRoom}
use Rattle.oss_fragments.specs.Changes.{IsFiner, IsWalked, HasSameEdges, AreWalked, IsRoomier, IsThinner, IsThinnedAt, HasGotRoom}
use Rattle.oss_fragments.proofs.LessLemmas.{less_both, less_same}
use Rattle.oss_fragments.proofs.StretchLemmas.{IsPlaced, begin_divides, placed, read_here, read_some}
use Rattle.oss_fragments.proofs.WalkLemmas.{visit_goes, walk_begins, walk_back, walk_divided, walk_asked, walk_some, walk_are}

pub roomier_keeps : (a b : Fragment) → IsFragment a → HasSameEdges a b → IsRoomier a b → IsFragment b
roomier_keeps a b f e r = record { some = omega (arith, e.lo, e.hi, f.some); within = omega (arith, e.hi, f.within); settled = r.settled ∙ f.settled; entries = subst AreEntries (sym r.here) f.entries }

-- a walk whose relation keeps the fragment, what it tells, and its room
module _ (R : Fragment → Fragment → Type 0) (keeps : (a b : Fragment) → IsFragment a → HasSameEdges a b → R a b → IsFragment b) (tells : (a b : Fragment) → R a b → IsLess (here_of a) (here_of b)) (rooms : (a b : Fragment) → R a b → HasRoom a → HasRoom b)
    (pieces : List (Piece ℕ)) (old new : List Fragment) (lo cell : ℕ) (g : AreWalked R lo cell old new) where
  roomy : (a b : Fragment) → IsWalked R lo cell a b → HasRoom a → HasRoom b
  roomy a b (inl (l, h, r)) k = rooms a b r k
  roomy a b (inr (n, e)) k = subst HasRoom e k

  less : (a b : Fragment) → IsWalked R lo cell a b → IsLess (here_of a) (here_of b)
  less a b (inl (l, h, r)) = tells a b r
  less a b (inr (n, e)) = less_same (here_of a) (here_of b) (ap here_of e)

  less_at : (c : ℕ) → (value_at pieces c ≡ None) ⊎ IsPlaced pieces old c → IsLess (here_by pieces old c) (here_by pieces new c)
  less_at c (inl e) = less_same (here_by pieces old c) (here_by pieces new c) (read_here pieces old c None e ∙ sym (read_here pieces new c None e))
  less_at c (inr p) =
      let t = g.each p.at p.one p.one_is in
      less_both (here_by pieces old c) (here_of t.0) (here_by pieces new c)
      (less_both (here_by pieces old c) (here_of p.one) (here_of t.0) (less_same (here_by pieces old c) (here_of p.one) (read_some pieces old c p.at p.one p.at_is p.one_is)) (less p.one t.0 t.3))
      (less_same (here_of t.0) (here_by pieces new c) (sym (read_some pieces new c p.at t.0 p.at_is t.1)))

  pub walked_finer : IsFiner pieces old pieces new
  walked_finer = record {
    are = λ s. walk_are R lo cell old new g pieces s keeps;
    here = λ s c. less_at c (placed pieces old s c);
    asked = walk_asked R lo cell old new g;
    divided = λ n. walk_divided R lo cell old new g;
    room = λ n l h k i b e x y. let a = walk_back R lo cell old new g i b e in roomy a.0 b a.3 (k i a.0 a.1 (omega (arith, a.2.hi, x)) (omega (arith, a.2.lo, y)));
    some = walk_some R lo cell old new g;
  }

pub roomier_finer : (pieces : List (Piece ℕ)) (old new : List Fragment) (lo cell : ℕ) → AreWalked IsRoomier lo cell old new → IsFiner pieces old pieces new
roomier_finer pieces old new lo cell g = walked_finer IsRoomier roomier_keeps (λ a b r. less_same (here_of a) (here_of b) (sym r.here)) (λ a b r. r.room) pieces old new lo cell g

-- one fragment has fewer accesses
pub thinned_finer : (pieces : List (Piece ℕ)) (old new : List Fragment) (at : ℕ) → AreFragments pieces old → IsThinnedAt old new at → IsFiner pieces old pieces new
thinned_finer pieces old new at s t =
    let a = t.one in
    let some = (s.right at a t.one_is).some in
    subst (λ (xs : List Fragment). IsFiner pieces old pieces xs) (sym t.all)
    (walked_finer IsThinner (λ x y f e r. r.right) (λ x y r. r.here) (λ x y r. r.room) pieces old (set old at t.less) a.lo t.less.hi
    (visit_goes IsThinner pieces old old a.lo a.lo s (walk_begins IsThinner a.lo old) (omega arith) (begin_divides pieces old s at a t.one_is) at (s.there at a a.lo t.one_is (omega arith) some) a t.one_is t.less t.edges t.thinner))

-- the fragment with fewer accesses begins where it began
pub thinned_begin : (old new : List Fragment) (at : ℕ) → IsThinnedAt old new at → (a b : Fragment) → slice_get old at ≡ Some a → slice_get new at ≡ Some b → b.lo ≡ a.lo
thinned_begin old new at t a b a_is b_is =
    let now : slice_get new at ≡ Some t.less = ap (λ (xs : List Fragment). slice_get xs at) t.all ∙ get_set_same old at t.less (slice_get_within old at t.one t.one_is) in
    ap (λ (x : Fragment). x.lo) (same_at b_is now) ∙ t.edges.lo ∙ ap (λ (x : Fragment). x.lo) (same_at t.one_is a_is)

pub room_ends : (old new : List Fragment) (lo hi cell : ℕ) → IsDivided old lo → AreWalked HasGotRoom lo cell old new → hi ≤ cell → HaveRoom new lo hi
room_ends old new lo hi cell begins g le i b e l h = let a = walk_back HasGotRoom lo cell old new g i b e in go a.0 a.2 a.3 (begins i a.0 a.1)
  where
    go : (a : Fragment) → HasSameEdges a b → IsWalked HasGotRoom lo cell a b → (lo ≤ a.lo) ⊎ (a.hi ≤ lo) → HasRoom b
    go a k (inl (x, y, r)) z = r.got
    go a k (inr (n, same)) (inl z) = absurd (n z (omega (arith, k.lo, h, le)))
    go a k (inr (n, same)) (inr z) = absurd (omega (arith, k.hi, z, l))
