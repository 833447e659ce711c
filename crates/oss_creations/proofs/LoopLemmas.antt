-- The entries on a task's cells are linked, access by access.
use Rattle.std.proofs.Common.{◌≡◌, ◌≤◌, ◌<◌, ℕ, ◌+◌, ◌-◌, refl, sym, subst, ap, ◌∙◌, arith, List, [], ◌∷◌, drop, length}
use Rattle.std.proofs.lemmas.List.{drop_more}
use lib.ListN.{get_or}
use Rattle.oss_syntax.specs.declared.access.Access.{Access}
use Rattle.oss_code.specs.declared.code.CodeParts.{CodeParts}
use Rattle.oss_jobs.specs.declared.job.Job.{Job}
use Rattle.oss_jobs.specs.Entries.{cells_in}
use Rattle.oss_roles.specs.Numbers.{cells_below}
use Rattle.oss_field.specs.Known.{Known}
use Rattle.oss_creations.specs.Accesses.{Gives, IsRunOf}
use Rattle.oss_creations.specs.Creating.{HasLinked, IsMaking, OfNew}
use Rattle.oss_creations.proofs.AccessLemmas.{Left, holds, left_all, left_more, number_moves, run_number}
use Rattle.oss_creations.proofs.LinkLemmas.{linked_more, linked_none, linked_to, still_making}

-- The entries before the next are linked, and those of the accesses that are left follow.
pub record IsLinking (code : CodeParts) (job : Job) (t : ℕ) (xs : List Access) (next : ℕ) (rest : List Access) (k l : Known) : Type 0 where
  pub linked : HasLinked t (t + 1) next k l
  pub count : next + cells_in rest ≡ t + 1 + cells_in xs
  pub low : t + 1 ≤ next
  pub number : OfNew code job (λ own. (at : ℕ) × Left own at rest × (next ≡ t + 1 + cells_below own at))

pub linking_begins : (code : CodeParts) (job : Job) (t : ℕ) (xs : List Access) (k : Known) → k.words.held ≡ [] → OfNew code job (λ own. Gives own xs) → IsLinking code job t xs (t + 1) xs k k
linking_begins code job t xs k held new = record {
  linked = linked_none t (t + 1) k held;
  count = refl;
  low = omega arith;
  number = λ start found order is act. (0, left_all _ xs (new start found order is act), omega arith);
}

-- the access that comes next
pub next_item : (code : CodeParts) (job : Job) (t : ℕ) (xs : List Access) (next i : ℕ) (a : Access) (k l : Known) → i < length xs → a ≡ get_or xs i a → IsLinking code job t xs next (drop i xs) k l → IsLinking code job t xs next (a ∷ drop (i + 1) xs) k l
next_item code job t xs next i a k l low is x =
    subst (λ (z : List Access). IsLinking code job t xs next z k l) (drop_more xs i a low ∙ ap (λ (y : Access). y ∷ drop (i + 1) xs) (sym is)) x

module _ (code : CodeParts) (n : ℕ) (job : Job) (t : ℕ) (xs : List Access) (next : ℕ) (a : Access) (rest : List Access) (k l : Known) (i : IsLinking code job t xs next (a ∷ rest) k l) where
  pub linking_may : IsMaking code n job t 0 (t + 1) (t + 1 + cells_in xs) k → (stop : ℕ) × (next + (a.range.hi - a.range.lo) ≤ stop) × IsMaking code n job t 0 next stop l
  linking_may m =
      let c = i.count in
      let s = still_making code n job t 0 (t + 1) next (t + 1 + cells_in xs) k l (omega (arith, c)) i.linked m in
      (t + 1 + cells_in xs, omega (arith, c), s.0)

  pub linking_new : OfNew code job (λ own. IsRunOf own t next a.range.lo a.range.hi a.mode a.strong)
  linking_new start found order is act =
      let x = i.number start found order is act in
      let moved = number_moves _ x.0 a rest x.1 in
      let number = x.2 in
      (omega (arith, moved, number), holds _ x.0 a rest x.1)

  pub linking_next : (m : Known) → HasLinked t next (next + (a.range.hi - a.range.lo)) l m → IsLinking code job t xs (next + (a.range.hi - a.range.lo)) rest k m
  linking_next m h =
      let c = i.count in
      let low = i.low in record {
        linked = linked_more t (t + 1) next (next + (a.range.hi - a.range.lo)) k l m (omega arith) i.linked h;
        count = omega (arith, c);
        low = omega (arith, low);
        number = λ start found order is act.
            let x = i.number start found order is act in
            let o = a.range.ordered in
            let moved = number_moves _ x.0 a rest x.1 in
            let here = run_number _ a.range.lo a.range.hi a.mode a.strong (omega (arith, o)) (holds _ x.0 a rest x.1) in
            let number = x.2 in
            (a.range.hi, left_more _ x.0 a rest x.1, omega (arith, moved, here, number));
      }

pub linking_done : (code : CodeParts) (job : Job) (t : ℕ) (xs : List Access) (next : ℕ) (k l : Known) → IsLinking code job t xs next [] k l → HasLinked t (t + 1) (t + 1 + cells_in xs) k l
linking_done code job t xs next k l i = let c = i.count in linked_to t (t + 1) next (t + 1 + cells_in xs) k l (omega (arith, c)) i.linked

-- The entries on an access's cells are linked, cell by cell.
module _ (code : CodeParts) (n : ℕ) (job : Job) (t first c : ℕ) (a : Access) (k l : Known) (low : a.range.lo ≤ c) (h : HasLinked t first (first + (c - a.range.lo)) k l) where
  pub run_making : c < a.range.hi → (stop : ℕ) × (first + (a.range.hi - a.range.lo) ≤ stop) × IsMaking code n job t 0 first stop k → (stop : ℕ) × (first + (c - a.range.lo) < stop) × IsMaking code n job t 0 (first + (c - a.range.lo)) stop l
  run_making high m =
      let e = m.1 in
      let some : first + (c - a.range.lo) < m.0 = omega (arith, low, high, e) in
      (m.0, some, (still_making code n job t 0 first (first + (c - a.range.lo)) m.0 k l (omega (arith, some)) h m.2).0)

  pub run_next : (m : Known) → HasLinked t (first + (c - a.range.lo)) (first + (c - a.range.lo) + 1) l m → HasLinked t first (first + (c + 1 - a.range.lo)) k m
  run_next m x =
      let e : first + (c - a.range.lo) + 1 ≡ first + (c + 1 - a.range.lo) = omega (arith, low) in
      linked_to t first (first + (c - a.range.lo) + 1) (first + (c + 1 - a.range.lo)) k m e (linked_more t first (first + (c - a.range.lo)) (first + (c - a.range.lo) + 1) k l m (omega arith) h x)

  pub run_done : a.range.hi ≤ c → c ≤ a.range.hi → HasLinked t first (first + (a.range.hi - a.range.lo)) k l
  run_done under over =
      let e : first + (c - a.range.lo) ≡ first + (a.range.hi - a.range.lo) = omega (arith, under, over) in
      linked_to t first (first + (c - a.range.lo)) (first + (a.range.hi - a.range.lo)) k l e h
