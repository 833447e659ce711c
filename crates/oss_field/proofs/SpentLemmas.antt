-- A seat that has parts of the table keeps them by each step, so what is left of seats that were joined to others stays without work.
use Rattle.std.proofs.Common.{◌≡◌, inl, inr, sym, subst, refl, ◌∙◌, ap, ℕ, zero, suc, ◌<◌, ◌+◌, ◌-◌, arith, List, [], ◌∷◌, set}
use Rattle.std.specs.Prelude.{slice_index}
use mathlib.Core.Option as maybe
use lib.ListN.{get_elem?}
use Rattle.atomic_table.specs.Table.{State, Me, Allows, Splits, Joins, keeps}
use Rattle.atomic_table.proofs.Lists.{at_map, at_set, at_snoc, set_again, set_else}
use Rattle.oss_code.specs.declared.code.CodeParts.{CodeParts}
use Rattle.oss_machine.specs.Frames.{CodeScript}
use Rattle.oss_words.specs.Sums.{total}
use Rattle.oss_words.specs.Views.{View}
use Rattle.oss_words.proofs.SumLemmas.{total_set, total_at}
use Rattle.oss_roles.specs.Field.{words_of}
use Rattle.oss_roles.specs.Sights.{Sight}
use Rattle.oss_roles.proofs.OtherLaw.{words_set}
use Rattle.oss_field.specs.declared.view.SeatView.{SeatView}
use Rattle.oss_field.specs.Known.{Known, first_known, sight_of}
use Rattle.oss_field.specs.Seats.{merged, new_known, parted, spent}
use Rattle.oss_field.specs.Spent.{AreSpent, AreWithoutWork, HasNoWork, Rules}
use Rattle.oss_field.specs.Steps.{Steps}
use Rattle.oss_field.specs.Table.{Slot, Stands, sights_of}
use Rattle.oss_field.proofs.TableLemmas.{sights_set}

-- the parts of all views
abbrev parts_in : List SeatView → ℕ
parts_in views = total (λ (v : View). v.parts) (words_of (sights_of views))

-- a view among the words
words_at : (views : List SeatView) (id : ℕ) (v : SeatView) → get_elem? views id ≡ maybe.some v → get_elem? (words_of (sights_of views)) id ≡ maybe.some v.known.words
words_at views id v at = at_map (λ (z : Sight CodeScript). z.words) (sights_of views) id (sight_of v.known) (at_map (λ (z : SeatView). sight_of z.known) views id v at)

words_are : (views : List SeatView) (id : ℕ) (w : SeatView) → words_of (sights_of (set views id w)) ≡ set (words_of (sights_of views)) id w.known.words
words_are views id w = ap (λ (z : List (Sight CodeScript)). words_of z) (sights_set views id w.known) ∙ words_set (sights_of views) id (sight_of w.known)

-- a step of a seat keeps its parts
keeps_parts : (code : CodeParts) (fuel n : ℕ) (ws ws' : List ℕ) (homes homes' : List (maybe.Option Slot)) (views : List SeatView) (id : ℕ) (v w : SeatView)
    → Stands code fuel n ws homes views → get_elem? views id ≡ maybe.some v → Stands code fuel n ws' homes' (set views id w) → w.known.words.parts ≡ v.known.words.parts
keeps_parts code fuel n ws ws' homes homes' views id v w old at new =
    let a = old.seats.parts in
    let b : total (λ (y : View). y.parts) (set (words_of (sights_of views)) id w.known.words) ≡ 65537 = ap (λ (z : List View). total (λ (y : View). y.parts) z) (sym (words_are views id w)) ∙ new.seats.parts in
    let c = total_set (λ (y : View). y.parts) (words_of (sights_of views)) id v.known.words w.known.words (words_at views id v at) in
    omega (arith, a, b, c)

-- one view in the place of another, that has parts
spent_set : (views : List SeatView) (id : ℕ) (w : SeatView) → AreSpent views → 0 < w.known.words.parts → AreSpent (set views id w)
spent_set views id w spent live j x at none = elim (at_set views id j w x at) [
  | inl e ↦ let q = ap (λ (z : SeatView). z.known.words.parts) e.1 in absurd (omega (arith, live, none, q))
  | inr e ↦ spent j x e.1 none
]

-- what a step keeps of the words, slots and views, it keeps of the whole rule, if its seat has parts; and the seat has them then
pub lives : (code : CodeParts) (fuel n slots id i : ℕ) (me : Me Slot SeatView) (f : ℕ → ℕ) (then : ℕ → Me Slot SeatView → Type 0) → 0 < me.0.known.words.parts
    → Allows (λ (z : State Slot SeatView). Stands code fuel n z.words z.homes z.views) slots id me i f then
    → Allows (λ (z : State Slot SeatView). Rules code fuel n z.words z.homes z.views) slots id me i f (λ found w. then found w × (0 < w.0.known.words.parts))
lives code fuel n slots id i me f then live allows z rules size at small =
    let r = allows z rules.0 size at small in
    let same = keeps_parts code fuel n z.words (set z.words i (f (slice_index z.words i))) z.homes _ z.views id me.0 r.0 rules.0 at r.3 in
    let still : 0 < r.0.known.words.parts = omega (arith, same, live) in
    (r.0, r.1, r.2, (r.3, spent_set z.views id r.0 rules.1 still), (r.4, still))

-- the same of a step that takes no slot
pub allowed : (code : CodeParts) (fuel n slots id i : ℕ) (me : Me Slot SeatView) (f : ℕ → ℕ) (tells : ℕ → Known → Type 0) → 0 < me.0.known.words.parts → Steps code fuel n id me.0 i f tells
    → Allows (λ (z : State Slot SeatView). Rules code fuel n z.words z.homes z.views) slots id me i f (λ found w. (w.1 ≡ me.1) × tells found w.0.known × (0 < w.0.known.words.parts))
allowed code fuel n slots id i me f tells live h z rules size at small =
    let r = h z.words z.homes z.views rules.0 at small in
    let same = keeps_parts code fuel n z.words (set z.words i (f (slice_index z.words i))) z.homes z.homes z.views id me.0 (record { known = r.0 }) rules.0 at r.1 in
    let still : 0 < r.0.words.parts = omega (arith, same, live) in
    (record { known = r.0 }, keeps, tt, (r.1, spent_set z.views id (record { known = r.0 }) rules.1 still), (refl, r.2, still))

-- at the start there is one seat, with all parts
pub first_rules : (code : CodeParts) (fuel n : ℕ) (ws : List ℕ) (homes : List (maybe.Option Slot)) → Stands code fuel n ws homes (record { known = first_known } ∷ []) → Rules code fuel n ws homes (record { known = first_known } ∷ [])
first_rules code fuel n ws homes stands = (stands, spent_none)
  where
    spent_none : AreSpent (record { known = first_known } ∷ [])
    spent_none zero x at none = let q : 65537 ≡ x.known.words.parts = ap (λ (y : SeatView). y.known.words.parts) (maybe.some-injective (record { known = first_known }) x at) in absurd (omega (arith, q, none))
    spent_none (suc j) x at none = absurd (maybe.some-ne-none x (sym at))

-- the first seat is split
pub parts_stay : (code : CodeParts) (fuel n : ℕ) (v : SeatView) → 1 < v.known.words.parts
    → Splits (λ (z : State Slot SeatView). Stands code fuel n z.words z.homes z.views) 0 v (record { known = parted v.known }) (record { known = new_known })
    → Splits (λ (z : State Slot SeatView). Rules code fuel n z.words z.homes z.views) 0 v (record { known = parted v.known }) (record { known = new_known })
parts_stay code fuel n v more splits z rules at = (
  splits z rules.0 at,
  λ j x sits none. elim (at_snoc (set z.views 0 (record { known = parted v.known })) (record { known = new_known }) x j sits) [
    | inl old ↦ spent_set z.views 0 (record { known = parted v.known }) rules.1 (let l : 0 < v.known.words.parts - 1 = omega (arith, more) in l) j x old none
    | inr new ↦ let q : 1 ≡ x.known.words.parts = ap (λ (y : SeatView). y.known.words.parts) new in absurd (omega (arith, q, none))
  ],
)

-- a seat is joined to another
pub parts_go : (code : CodeParts) (fuel n id : ℕ) (v : SeatView) (other : ℕ) (x : SeatView) → 0 < v.known.words.parts
    → Joins (λ (z : State Slot SeatView). Stands code fuel n z.words z.homes z.views) id v other x (record { known = merged v.known x.known }) (record { known = spent })
    → Joins (λ (z : State Slot SeatView). Rules code fuel n z.words z.homes z.views) id v other x (record { known = merged v.known x.known }) (record { known = spent })
parts_go code fuel n id v other x live joins z rules at differ there = (
  joins z rules.0 at differ there,
  λ j y sits none. elim (at_set (set z.views id (record { known = merged v.known x.known })) other j (record { known = spent }) y sits) [
    | inl e ↦ subst (λ (w : SeatView). HasNoWork w.known) e.1 (record { bears = refl; makes = refl; joined = refl; owes = refl })
    | inr e ↦ spent_set z.views id (record { known = merged v.known x.known }) rules.1 (let l : 0 < v.known.words.parts + x.known.words.parts = omega (arith, live) in l) j y e.1 none
  ],
)

-- a seat that has all parts and no work is the last: no other has work
pub all_idle : (code : CodeParts) (fuel n : ℕ) (ws : List ℕ) (homes : List (maybe.Option Slot)) (views : List SeatView) (id : ℕ) (v : SeatView)
    → Rules code fuel n ws homes views → get_elem? views id ≡ maybe.some v → v.known.words.parts ≡ 65537 → HasNoWork v.known → AreWithoutWork views
all_idle code fuel n ws homes views id v rules at whole none j x sits = elim (at_set views id j (record { known = v.known }) x (sym (ap (λ (z : List SeatView). get_elem? z j) (sym (again views id v at))) ∙ sits)) [
  | inl e ↦ subst (λ (w : SeatView). HasNoWork w.known) e.1 none
  | inr e ↦
      let all = rules.0.seats.parts in
      let c = total_set (λ (y : View). y.parts) (words_of (sights_of views)) id v.known.words spent.words (words_at views id v at) in
      let b = total_at (λ (y : View). y.parts) (set (words_of (sights_of views)) id spent.words) j x.known.words (set_else (words_of (sights_of views)) id j spent.words e.0 ∙ words_at views j x sits) in
      rules.1 j x sits (omega (arith, all, whole, b, c))
]
  where
    again : (views : List SeatView) (id : ℕ) (v : SeatView) → get_elem? views id ≡ maybe.some v → set views id (record { known = v.known }) ≡ views
    again views id v at = set_again views id v at
