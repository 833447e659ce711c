-- What follows from seats that have nothing under way, from places alone, and from the runs of the machine.
use Rattle.std.proofs.Common.{◌≡◌, subst, refl, ap, ℕ, suc, ◌<◌, ◌≤◌, arith, Bool, true, false, List, [], ◌∷◌, Option, Some, None}
use Rattle.std.specs.Prelude.{◌==◌, ◌&&◌, not}
use mathlib.Core.Option as maybe
use lib.ListN.{get_elem?}
use Rattle.oss_model.specs.Agreement.{MainStarts}
use Rattle.oss_model.specs.Bodies.{Program, Start}
use Rattle.oss_model.specs.History.{IsMade}
use Rattle.oss_model.specs.Machine.{Task, State, At}
use Rattle.oss_model.proofs.OrderLemmas.{suffix_drop, suffix_trans}
use Rattle.oss_model.proofs.StageLemmas.{creating, creation_at}
use Rattle.oss_model.proofs.TreeLemmas.{starts_well}
use Rattle.oss_words.specs.declared.entry.EntryState.{EntryState}
use Rattle.oss_words.specs.Net.{Place, after, first, Child, eldest, younger, Earlier, next, back}
use Rattle.oss_words.specs.Sums.{below, num, total}
use Rattle.oss_words.specs.Views.{Among}
use Rattle.oss_words.proofs.BoundLemmas.{below_le}
use Rattle.oss_roles.specs.Counting.{stands, weight}
use Rattle.oss_roles.specs.Field.{IsJoined, is_joined, IsMaking, is_making, held_by_all, owed_by_all, numbers_of, times}
use Rattle.oss_roles.specs.Roles.{Role}
use Rattle.oss_roles.specs.Sights.{Sight}
use Rattle.oss_rest_laws.specs.Idle.{AreIdle}

-- a sum of which each part is 0
total_none : {A : Type 0} (h : A → ℕ) (l : List A) → ((i : ℕ) (v : A) → get_elem? l i ≡ maybe.some v → h v ≡ 0) → total h l ≡ 0
total_none h [] none = refl
total_none h (x ∷ xs) none =
    let a = none 0 x refl in
    let b = total_none h xs (λ i v at. none (suc i) v at) in
    omega (arith, a, b)

module _ {S : Type 0} (sights : List (Sight S)) (idle : AreIdle sights) where
  pub none_held : (t : ℕ) → held_by_all sights t ≡ 0
  none_held t = total_none (λ (v : Sight S). times t (numbers_of v.bears)) sights (λ id v at. ap (λ (xs : List _). times t (numbers_of xs)) (idle id v at).bears)

  pub none_owed : (t : ℕ) → owed_by_all sights t ≡ 0
  none_owed t = total_none (λ (v : Sight S). times t v.owes) sights (λ id v at. ap (λ (xs : List ℕ). times t xs) (idle id v at).owes)

  pub none_made : (t : ℕ) → IsMaking sights t → ⊥
  none_made t (is_making id v at m among is) = elim (subst (λ (xs : List _). Among m xs) (idle id v at).makes among) [ ]

  pub none_joined : (e : ℕ) → IsJoined sights e → ⊥
  none_joined e (is_joined id v at among) = elim (subst (λ (xs : List ℕ). Among e xs) (idle id v at).joined among) [ ]

-- what an entry adds to a count is 1 at most
small : (b : Bool) → num b ≤ 1
small true = omega arith
small false = omega arith

weight_small : (t : ℕ) (o : Option Role) (c : EntryState) → weight t o c ≤ 1
weight_small t None c = omega arith
weight_small t (Some r) c = small ((r.task == t) && (r.counts && not (stands r.mode c)))

pub weights_few : (t n : ℕ) (role : ℕ → Option Role) (states : ℕ → EntryState) → below (λ e. weight t (role e) (states e)) n ≤ n
weights_few t n role states = let l = below_le (λ e. weight t (role e) (states e)) n 1 (λ e. weight_small t (role e) (states e)) in omega (arith, l)

-- numbers rise from parents to children, and behind them
pub child_above : (place : ℕ → Place) → ((p e : ℕ) → place e ≡ first p → p < e) → ((s e : ℕ) → place e ≡ after s → s < e) → (p e : ℕ) → Child place p e → p < e
child_above place above rises p e (eldest h) = above p e h
child_above place above rises p e (younger {s = s} h c) = let a = child_above place above rises p s c in let b = rises s e h in omega (arith, a, b)

pub earlier_below : (place : ℕ → Place) → ((s e : ℕ) → place e ≡ after s → s < e) → (s e : ℕ) → Earlier place s e → s < e
earlier_below place rises s e (next h) = rises s e h
earlier_below place rises s e (back {t = t} h c) = let a = earlier_below place rises s t c in let b = rises t e h in omega (arith, a, b)

-- all earlier siblings of a task are there
pub elder : {S : Type 0} (P : Program S) (main : Start S) (s : State S) → MainStarts main → IsMade P main s → (i j : ℕ) (p : List ℕ) (t : Task S) → i < j → At s (j ∷ p) t → (u : Task S) × At s (i ∷ p) u
elder P main s starts made i j p t l at_ =
    let mk = made.child j p t at_ in
    let w = starts_well P main s starts made p mk.creator mk.at_ in
    let cr = creating P mk.creator.body.start mk.past mk.order mk.act in
    let n = mk.number in
    let k = creation_at P mk.creator.body.start mk.past i cr.open_ w.1 (omega (arith, n, l)) in
    let m = made.made p mk.creator k.past k.answer k.order mk.at_ (suffix_trans k.happened (suffix_drop mk.happened)) k.act in
    (m.0, subst (λ (z : ℕ). At s (z ∷ p) m.0) k.number m.1)
