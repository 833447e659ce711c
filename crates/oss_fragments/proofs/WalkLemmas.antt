-- The fragments of a range change one after the other.
use Rattle.std.proofs.Common.{◌≡◌, ℕ, ◌<◌, ◌≤◌, refl, sym, ap, subst, ◌∙◌, List, [], ◌⊎◌, inl, inr, Some, None, arith, length, set}
use Rattle.std.proofs.lemmas.List.{length-set}
use Rattle.std.proofs.lemmas.Option.{slice_get_within}
use Rattle.std.specs.Prelude.{slice_get}
use Rattle.oss_ranges.specs.declared.piece.Piece.{Piece}
use Rattle.oss_ranges.specs.Cells.{value_at}
use Rattle.oss_deps.proofs.Basics.{same_at, value_within}
use Rattle.oss_deps.proofs.CloseLemmas.{same_number, get_set_same, get_set_other}
use Rattle.oss_fragments.specs.declared.fragment.Fragment.{Fragment}
use Rattle.oss_fragments.specs.Here.{here_of}
use Rattle.oss_fragments.specs.Kept.{here_by, is_asked}
use Rattle.oss_fragments.specs.Stretches.{AreFragments, IsFragment, IsDivided}
use Rattle.oss_fragments.specs.Changes.{IsWalked, HasSameEdges, AreWalked}
use Rattle.oss_fragments.proofs.StretchLemmas.{before_or, empty_is, IsPlaced, placed, some_place, placed_at, read_here, read_some, one_place, end_divides, begins_at, same_asked}

pub same_edges : (a : Fragment) → HasSameEdges a a
same_edges a = record { lo = refl; hi = refl; asked = refl }

module _ (R : Fragment → Fragment → Type 0) where
  pub walk_begins : (lo : ℕ) (fragments : List Fragment) → AreWalked R lo lo fragments fragments
  walk_begins lo fragments = record { size = refl; each = λ i a e. (a, e, same_edges a, inr (λ l h. absurd (omega (arith, l, h)), refl)) }

  module _ (lo cell : ℕ) (old new : List Fragment) (g : AreWalked R lo cell old new) where
    pub walk_back : (i : ℕ) (b : Fragment) → slice_get new i ≡ Some b → (a : Fragment) × (slice_get old i ≡ Some a) × HasSameEdges a b × IsWalked R lo cell a b
    walk_back i b e =
        let a = value_within old i (omega (arith, slice_get_within new i b e, g.size)) in
        let t = g.each i a.0 a.1 in
        let same = same_at t.1 e in
        (a.0, a.1, subst (λ (x : Fragment). HasSameEdges a.0 x) same t.2, subst (λ (x : Fragment). IsWalked R lo cell a.0 x) same t.3)

    pub walk_divided : (k : ℕ) → IsDivided old k → IsDivided new k
    walk_divided k d i b e = let a = walk_back i b e in go a.0 a.2 (d i a.0 a.1)
      where
        go : (a : Fragment) → HasSameEdges a b → (k ≤ a.lo) ⊎ (a.hi ≤ k) → (k ≤ b.lo) ⊎ (b.hi ≤ k)
        go a x (inl h) = inl (omega (arith, x.lo, h))
        go a x (inr h) = inr (omega (arith, x.hi, h))

    pub walk_asked : (k : ℕ) → is_asked new k ≡ is_asked old k
    walk_asked k = same_asked old new k g.size (λ i a e. let t = g.each i a e in (t.0, t.1, t.2.lo, t.2.asked))

    pub walk_some : (old ≡ [] → ⊥) → new ≡ [] → ⊥
    walk_some n z = n (empty_is old (sym g.size ∙ ap length z))

    module _ (pieces : List (Piece ℕ)) (s : AreFragments pieces old) (keeps : (a b : Fragment) → IsFragment a → HasSameEdges a b → R a b → IsFragment b) where
      right : (a b : Fragment) → IsFragment a → HasSameEdges a b → IsWalked R lo cell a b → IsFragment b
      right a b f e (inl (x, y, r)) = keeps a b f e r
      right a b f e (inr (n, same)) = subst IsFragment same f

      pub walk_are : AreFragments pieces new
      walk_are = record {
        here = λ c i e. let a = s.here c i e in let t = g.each i a.0 a.1 in (t.0, t.1, omega (arith, t.2.lo, a.2), omega (arith, t.2.hi, a.3));
        there = λ i b c e l h. let a = walk_back i b e in s.there i a.0 c a.1 (omega (arith, a.2.lo, l)) (omega (arith, a.2.hi, h));
        right = λ i b e. let a = walk_back i b e in right a.0 b (s.right i a.0 a.1) a.2 a.3;
        whole = whole s.whole;
      }
        where
          whole : (old ≡ []) ⊎ ((c : ℕ) → c < 1048576 → (i : ℕ) × (value_at pieces c ≡ Some i)) → (new ≡ []) ⊎ ((c : ℕ) → c < 1048576 → (i : ℕ) × (value_at pieces c ≡ Some i))
          whole (inl z) = inl (empty_is new (g.size ∙ ap length z))
          whole (inr f) = inr f

    -- what a cell has then
    module _ (pieces : List (Piece ℕ)) (s : AreFragments pieces old) where
      pub walk_out : IsDivided old cell → (c : ℕ) → (c < lo) ⊎ (cell ≤ c) → here_by pieces new c ≡ here_by pieces old c
      walk_out ends c out = go (placed pieces old s c)
        where
          go : (value_at pieces c ≡ None) ⊎ IsPlaced pieces old c → here_by pieces new c ≡ here_by pieces old c
          go (inl e) = read_here pieces new c None e ∙ sym (read_here pieces old c None e)
          go (inr p) = let t = g.each p.at p.one p.one_is in read_some pieces new c p.at t.0 p.at_is t.1 ∙ same t.0 t.3 out (ends p.at p.one p.one_is) ∙ sym (read_some pieces old c p.at p.one p.at_is p.one_is)
            where
              same : (b : Fragment) → IsWalked R lo cell p.one b → (c < lo) ⊎ (cell ≤ c) → (cell ≤ p.one.lo) ⊎ (p.one.hi ≤ cell) → here_of b ≡ here_of p.one
              same b (inr (n, e)) x y = ap here_of (sym e)
              same b (inl (l, h, r)) (inl x) y = absurd (omega (arith, l, x, p.lo))
              same b (inl (l, h, r)) (inr x) (inl y) = absurd (omega (arith, h, y))
              same b (inl (l, h, r)) (inr x) (inr y) = absurd (omega (arith, x, y, p.hi))

      pub walk_in : (old ≡ [] → ⊥) → IsDivided old lo → cell ≤ 1048576 → (c : ℕ) → lo ≤ c → c < cell → (a : Fragment) × (b : Fragment) × (here_by pieces old c ≡ here_of a) × (here_by pieces new c ≡ here_of b) × R a b
      walk_in some begins limit c l h = let p = placed_at pieces old s some c (omega (arith, h, limit)) in let t = g.each p.at p.one p.one_is in (p.one, t.0, read_some pieces old c p.at p.one p.at_is p.one_is, read_some pieces new c p.at t.0 p.at_is t.1, has p t.0 t.3 (begins p.at p.one p.one_is))
        where
          has : (p : IsPlaced pieces old c) (b : Fragment) → IsWalked R lo cell p.one b → (lo ≤ p.one.lo) ⊎ (p.one.hi ≤ lo) → R p.one b
          has p b (inl (x, y, r)) z = r
          has p b (inr (n, e)) (inl z) = absurd (n z (omega (arith, p.lo, h)))
          has p b (inr (n, e)) (inr z) = absurd (omega (arith, p.hi, z, l))

  -- one more fragment of the range
  module _ (pieces : List (Piece ℕ)) (old now : List Fragment) (lo cell : ℕ) (s : AreFragments pieces old) (g : AreWalked R lo cell old now) (from : lo ≤ cell) (divided : IsDivided old cell) where
    pub visit_place : (old ≡ [] → ⊥) → (hi : ℕ) → cell < hi → hi ≤ 1048576 → (i : ℕ) × (value_at pieces cell ≡ Some i)
    visit_place n hi l h = some_place pieces old s n cell (omega (arith, l, h))

    module _ (at : ℕ) (here : value_at pieces cell ≡ Some at) where
      pub visit_within : at < length now
      visit_within = let a = s.here cell at here in omega (arith, g.size, slice_get_within old at a.0 a.1)

      module _ (b : Fragment) (b_is : slice_get now at ≡ Some b) where
        -- it is as it was
        pub visit_old : slice_get old at ≡ Some b
        visit_old =
            let a = s.here cell at here in
            let t = g.each at a.0 a.1 in
            let begin = begins_at pieces old s at a.0 cell a.1 a.2 a.3 divided in
            a.1 ∙ ap Some (same a.0 t.0 begin t.3 ∙ same_at t.1 b_is)
          where
            same : (a x : Fragment) → a.lo ≡ cell → IsWalked R lo cell a x → a ≡ x
            same a x e (inl (l, h, r)) = absurd (omega (arith, h, e))
            same a x e (inr (n, r)) = r

        pub visit_in : (b.lo ≤ cell) × (cell < b.hi)
        visit_in = let a = s.here cell at here in subst (λ (x : Fragment). (x.lo ≤ cell) × (cell < x.hi)) (same_at a.1 visit_old) (a.2, a.3)

        pub visit_begin : b.lo ≡ cell
        visit_begin = begins_at pieces old s at b cell visit_old visit_in.0 visit_in.1 divided

        pub visit_end : (hi : ℕ) → IsDivided old hi → cell < hi → b.hi ≤ hi
        visit_end hi ends before = go (ends at b visit_old)
          where
            go : (hi ≤ b.lo) ⊎ (b.hi ≤ hi) → b.hi ≤ hi
            go (inl h) = absurd (omega (arith, h, visit_begin, before))
            go (inr h) = h

        pub visit_divides : IsDivided old b.hi
        visit_divides = end_divides pieces old s at b visit_old

        -- another fragment that begins before this one ends begins before it
        other_before : (i : ℕ) (a : Fragment) → slice_get old i ≡ Some a → (i ≡ at → ⊥) → a.lo < b.hi → a.lo < cell
        other_before i a e other h = go (before_or a.lo cell)
          where
            go : (a.lo < cell) ⊎ (cell ≤ a.lo) → a.lo < cell
            go (inl l) = l
            go (inr l) = absurd (other (one_place pieces old s i at a b a.lo e visit_old (omega arith) ((s.right i a e).some) (omega (arith, l, visit_begin)) h))

        pub visit_goes : (d : Fragment) → HasSameEdges b d → R b d → AreWalked R lo d.hi old (set now at d)
        visit_goes d k r = record { size = length-set now at d ∙ g.size; each = λ i a e. of i a e (same_number i at) }
          where
            of : (i : ℕ) (a : Fragment) → slice_get old i ≡ Some a → (i ≡ at) ⊎ (i ≡ at → ⊥) → (x : Fragment) × (slice_get (set now at d) i ≡ Some x) × HasSameEdges a x × IsWalked R lo d.hi a x
            of i a e (inr other) = let t = g.each i a e in (t.0, get_set_other now at i d other ∙ t.1, t.2, more t.0 t.3)
              where
                more : (x : Fragment) → IsWalked R lo cell a x → IsWalked R lo d.hi a x
                more x (inl (l, h, y)) = inl (l, omega (arith, h, visit_in.1, k.hi), y)
                more x (inr (n, y)) = inr (λ l h. n l (other_before i a e other (omega (arith, h, k.hi))), y)
            of i a e (inl same) =
                let a_is : b ≡ a = same_at visit_old (subst (λ (j : ℕ). slice_get old j ≡ Some a) same e) in (
                  d,
                  subst (λ (j : ℕ). slice_get (set now at d) j ≡ Some d) (sym same) (get_set_same now at d visit_within),
                  subst (λ (z : Fragment). HasSameEdges z d) a_is k,
                  inl (omega (arith, ap (λ (z : Fragment). z.lo) a_is, visit_begin, from), omega (arith, ap (λ (z : Fragment). z.lo) a_is, visit_begin, visit_in.1, k.hi), subst (λ (z : Fragment). R z d) a_is r),
                )

pub walk_map : (R S : Fragment → Fragment → Type 0) → ((a b : Fragment) → R a b → S a b) → (lo cell : ℕ) (old new : List Fragment) → AreWalked R lo cell old new → AreWalked S lo cell old new
walk_map R S f lo cell old new g = record { size = g.size; each = λ i a e. let t = g.each i a e in (t.0, t.1, t.2, go a t.0 t.3) }
  where
    go : (a b : Fragment) → IsWalked R lo cell a b → IsWalked S lo cell a b
    go a b (inl (x, y, r)) = inl (x, y, f a b r)
    go a b (inr r) = inr r
