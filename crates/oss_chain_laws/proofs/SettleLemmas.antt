-- No way back through what waits for what goes on for ever.
use Rattle.std.proofs.Common.{◌≡◌, ℕ, suc, ◌+◌, ◌<◌, ◌≤◌, ◌⊎◌, inl, inr, refl, subst, ap, ◌∙◌, List, [], ◌∷◌, length, reverse, arith, Bool, true, false, Some}
use Rattle.std.proofs.lemmas.List.{length-reverse}
use Rattle.oss_model.specs.Order.{IsBefore}
use Rattle.oss_model.specs.Bodies.{Program, Start}
use Rattle.oss_model.specs.Machine.{Task, State, find, same_path}
use Rattle.oss_model.specs.History.{IsMade}
use Rattle.oss_model.proofs.TreeLemmas.{same_path_is}
use Rattle.oss_chain_laws.specs.Happenings.{Happening, WaitsFor}
use Rattle.oss_chain_laws.specs.Claims.{EveryWayBackEnds, WhatIsWaitedForStandsBefore}
use Rattle.oss_chain_laws.specs.Chains.{Settled, settled}
use Rattle.oss_chain_laws.proofs.GroundLemmas.{GroundedPair, grounded_pair, ground_pair}
use Rattle.oss_chain_laws.specs.Places.{IsPlaced, placed_act, placed_cell, IsEarlier, InOrder}
use Rattle.oss_chain_laws.proofs.WaitLemmas.{placed_same, in_order}

-- a bound of how deep the tasks stand
abbrev pub deepest : {S : Type 0} → List (Task S) → ℕ
deepest [] = 0
deepest (t ∷ ts) = length t.body.start.path + deepest ts

pub within : {S : Type 0} (tasks : List (Task S)) (q : List ℕ) (t : Task S) → find tasks q ≡ Some t → length q ≤ deepest tasks
unfolding find
within [] q t h = absurd (cc (h))
within (u ∷ us) q t h = go (same_path u.body.start.path q) refl (λ k. within us q t k)
  where
    go : (b : Bool) → same_path u.body.start.path q ≡ b → (find us q ≡ Some t → length q ≤ deepest us) → length q ≤ deepest (u ∷ us)
    go true e again = let l : length u.body.start.path ≡ length q = ap (λ (z : List ℕ). length z) (same_path_is u.body.start.path q e) in omega (arith, l)
    go false e again = let r = again (rw e at h) in omega (arith, r)

module _ {S : Type 0} (P : Program S) (main : Start S) (s : State S) (made : IsMade P main s) where
  placed_within : {e : Happening} {xs : List ℕ} {n : ℕ} → IsPlaced P s e xs n → length xs ≤ suc (deepest s.tasks)
  placed_within (placed_act {p = p} d) = let l = within s.tasks p d.task d.at_ in omega (arith, l)
  placed_within (placed_cell {p = p} {t = t} h) = let l = within s.tasks p t h in omega (arith, l)

  settle : {rs : List ℕ} {n : ℕ} → GroundedPair (suc (deepest s.tasks)) rs n → (e : Happening) (xs : List ℕ) → reverse xs ≡ rs → IsPlaced P s e xs n → Settled (WaitsFor P s) e
  settle {rs = rs} {n = n} (grounded_pair down) e xs r h = settled (λ f w. let o = in_order P s main made e f w in settle (down (reverse o.earlier) o.smaller (short o.before) (order o)) f o.earlier refl o.before)
    where
      short : {f : Happening} {ys : List ℕ} {m : ℕ} → IsPlaced P s f ys m → length (reverse ys) ≤ suc (deepest s.tasks)
      short {ys = ys} k = rw (length-reverse ys) (placed_within k)

      order : {f : Happening} (o : InOrder P s e f) → IsBefore (reverse o.earlier) rs ⊎ ((reverse o.earlier ≡ rs) × (o.smaller < n))
      order o = go o.ordered (placed_same P s o.placed h)
        where
          go : IsEarlier o.earlier o.smaller o.place o.number → (o.place ≡ xs) × (o.number ≡ n) → IsBefore (reverse o.earlier) rs ⊎ ((reverse o.earlier ≡ rs) × (o.smaller < n))
          go (inl b) q = inl (subst (λ (z : List ℕ). IsBefore (reverse o.earlier) z) (ap (λ (z : List ℕ). reverse z) q.0 ∙ r) b)
          go (inr b) q = let i = b.1 in let k = q.1 in inr (ap (λ (z : List ℕ). reverse z) (b.0 ∙ q.0) ∙ r, omega (arith, i, k))

  pub every_settled : (e : Happening) → Settled (WaitsFor P s) e
  every_settled e = settled (λ f w.
      let o = in_order P s main made e f w in
      settle (ground_pair (suc (deepest s.tasks)) (reverse o.earlier) o.smaller (rw (length-reverse o.earlier) (placed_within o.before))) f o.earlier refl o.before)

pub every_way_back_ends : (S : Type 0) → EveryWayBackEnds S
every_way_back_ends S P main s e made = every_settled P main s made e

pub what_is_waited_for_stands_before : (S : Type 0) → WhatIsWaitedForStandsBefore S
what_is_waited_for_stands_before S P main s e f made w = in_order P s main made e f w
