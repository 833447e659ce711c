-- The edges to a task are one list.
use Rattle.std.proofs.Common.{◌≡◌, ◌<◌, ◌∙◌, ℕ, Bool, true, false, List, [], ◌∷◌, refl, sym, subst, arith}
use Rattle.oss_syntax.specs.declared.tree.program.Item.{Item}
use Rattle.oss_model.specs.Order.{IsIn}
use Rattle.oss_pieces.specs.Pieces.{ArePieces}
use Rattle.oss_pieces.proofs.OneListLemmas.{one_list as one_list_of_pieces}
use Rattle.oss_task_graph.specs.declared.graph.Edge.{Edge}
use Rattle.oss_task_graph.specs.Edges.{Accesses, AreEdges, IsEdge, IsStrongAt, RiseTo, StandsAt}
use Rattle.oss_graph_laws.proofs.RisingLemmas.{IsRising, one_list}

-- two tests that agree
bool_is : (a b : Bool) → (a ≡ true → b ≡ true) → (b ≡ true → a ≡ true) → a ≡ b
bool_is true b forth back = sym (forth refl)
bool_is false true forth back = back refl
bool_is false false forth back = refl

edge_is : (e f : Edge) → e.from ≡ f.from → e.cells ≡ f.cells → e.weak ≡ f.weak → e ≡ f
edge_is e f p q r i = record { from = p i; cells = q i; weak = r i }

-- an edge comes before another where its earlier child does
abbrev Before : Edge → Edge → Type 0
Before e f = e.from < f.from

module _ (all : List Item) (accesses : Accesses) (k : ℕ) where
  -- an edge is weak where it is strong at no cell
  weak_is : (v w : Bool) (j : ℕ) → (v ≡ true → (c : ℕ) → IsStrongAt accesses j k c → ⊥) → (w ≡ false → (c : ℕ) × IsStrongAt accesses j k c) → v ≡ true → w ≡ true
  weak_is v true j weak strong e = refl
  weak_is v false j weak strong e = let s = strong refl in absurd (weak e s.0 s.1)

  one_edge : (e f : Edge) → IsEdge all accesses k e → IsEdge all accesses k f → e.from ≡ f.from → e ≡ f
  one_edge e f h g same =
      let there : (j i : ℕ) → j ≡ i → (c : ℕ) → StandsAt accesses j k c → StandsAt accesses i k c = λ j i p c s. subst (λ (n : ℕ). StandsAt accesses n k c) p s in
      let tests : (c : ℕ) → h.test c ≡ g.test c = λ c. bool_is (h.test c) (g.test c) (λ t. g.every c (there e.from f.from same c (h.only c t))) (λ t. h.every c (there f.from e.from (sym same) c (g.only c t))) in
      let pieces : ArePieces h.test all 0 0 f.cells = subst (λ (test : ℕ → Bool). ArePieces test all 0 0 f.cells) (λ i c. sym (tests c) i) g.pieces in
      let weak : (w : Bool) → (f.weak ≡ w) → (w ≡ false → (c : ℕ) × IsStrongAt accesses e.from k c) =
      λ w p q. let s = g.strong (p ∙ q) in (s.0, subst (λ (n : ℕ). IsStrongAt accesses n k s.0) (sym same) s.1) in
      let other : (w : Bool) → (e.weak ≡ w) → (w ≡ false → (c : ℕ) × IsStrongAt accesses f.from k c) =
      λ w p q. let s = h.strong (p ∙ q) in (s.0, subst (λ (n : ℕ). IsStrongAt accesses n k s.0) same s.1) in
      edge_is e f same (one_list_of_pieces h.test all 0 0 e.cells f.cells h.pieces pieces)
      (bool_is e.weak f.weak (weak_is e.weak f.weak e.from h.weak (weak f.weak refl)) (weak_is f.weak e.weak f.from g.weak (other e.weak refl)))

  -- the earlier children rise
  rising : (es : List Edge) → RiseTo k es → IsRising Before es
  rising [] r = tt
  rising (e ∷ []) r = tt
  rising (e ∷ f ∷ more) r = (r.0, rising (f ∷ more) r.1)

  -- an edge of one list is one of the other
  edge_there : (es fs : List Edge) → AreEdges all accesses k es → AreEdges all accesses k fs → (e : Edge) → IsIn e es → IsIn e fs
  edge_there es fs h g e i =
      let is = h.each e i in
      let c = is.some in
      let f = g.every e.from c.0 (is.only c.0 c.1) in
      subst (λ (x : Edge). IsIn x fs) (one_edge f.0 e (g.each f.0 f.1.0) is f.1.1) f.1.0

  pub one_edges : (es fs : List Edge) → AreEdges all accesses k es → AreEdges all accesses k fs → es ≡ fs
  one_edges es fs h g =
      one_list Before (λ x y z p q. less x.from y.from z.from p q) (λ x p. never x.from p) es fs (rising es h.rise) (rising fs g.rise) (edge_there es fs h g) (edge_there fs es g h)
    where
      less : (a b c : ℕ) → a < b → b < c → a < c
      less a b c p q = omega (arith, p, q)

      never : (a : ℕ) → a < a → ⊥
      never a p = omega (arith, p)
