-- A program has one audit: its sequential run has one end, and of one state there is one list of its unused cells.
use Rattle.std.proofs.Common.{◌≡◌, ◌∙◌, ℕ, ◌<◌, ◌≤◌, ◌⊎◌, inl, inr, List, [], ◌∷◌, refl, sym, ap, subst, arith}
use Rattle.oss_model.specs.Answers.{IsResult}
use Rattle.oss_model.specs.Answers.IsResult.{ends as result_ends, fails as result_fails}
use Rattle.oss_model.specs.Bodies.{Program, Start}
use Rattle.oss_model.specs.Machine.{State, find}
use Rattle.oss_model.specs.Memory.{Event, Happened}
use Rattle.oss_model.specs.Order.{IsBefore, IsIn, here, there, written}
use Rattle.oss_model.specs.declared.answer.Answer.{Answer}
use Rattle.oss_model.proofs.OrderLemmas.{before_not, before_trans}
use Rattle.oss_meaning.specs.Results.{IsOutcome, Outcome}
use Rattle.oss_meaning.specs.Results.IsOutcome.{ends as outcome_ends, fails as outcome_fails}
use Rattle.oss_machine.proofs.RangeLemmas.{same_range}
use Rattle.oss_lower_laws.proofs.OneResult.{one_end, one_result}
use Rattle.oss_audit.specs.declared.unused.Unused.{Unused}
use Rattle.oss_audit.specs.Unused.{AreUnused, HasDeclared, HasTouched, IsAhead, IsAudited, Rises, ends, fails}
use Rattle.oss_audit_laws.specs.Claims.{AuditsAreOne}

-- States that list their tasks in different orders

module _ {S : Type 0} (P : Program S) (s n : State S) (same : (p : List ℕ) → find s.tasks p ≡ find n.tasks p) where
  there_too : (e : Event S) → Happened s e → Happened n e
  there_too e h = record { task = h.task; at_ = sym (same e.start.path) ∙ h.at_; start = h.start; found = h.found }

  touched_there : (q : List ℕ) (c : ℕ) → HasTouched P s q c → HasTouched P n q c
  touched_there q c h = record { event = h.event; happened = there_too h.event h.happened; touch = h.touch; slot = h.slot; touches = h.touches; below = h.below }

  declared_there : (q : List ℕ) (c : ℕ) → HasDeclared P s q c → HasDeclared P n q c
  declared_there q c h = record { event = h.event; happened = there_too h.event h.happened; order = h.order; included = h.included; creates = h.creates; path = h.path; named = h.named }

pub same_unused : {S : Type 0} (P : Program S) (s n : State S) → ((p : List ℕ) → find s.tasks p ≡ find n.tasks p) → (us : List Unused) → AreUnused P s us → AreUnused P n us
same_unused P s n same us h =
    let back = λ (p : List ℕ). sym (same p) in
    record {
      rises = h.rises;
      points = h.points;
      some = h.some;
      only = λ q c t. let u = h.only q c t in record { declared = declared_there P s n same q c u.declared; untouched = λ m. u.untouched (touched_there P n s back q c m) };
      all = λ q c u. h.all q c (record { declared = declared_there P n s back q c u.declared; untouched = λ m. u.untouched (touched_there P s n same q c m) });
    }

-- Lists that tell the same

-- An item of the list has this point and the cell.
record Lists (us : List Unused) (p : List ℕ) (c : ℕ) : Type 0 where
  item : Unused
  listed : IsIn item us
  point : item.point ≡ p
  from : item.range.lo ≤ c
  to : c < item.range.hi

-- What one list tells of points and cells, the other does too.
abbrev IsWithin : List Unused → List Unused → Type 0
IsWithin us vs = (p : List ℕ) (c : ℕ) → Lists us p c → Lists vs p c

first_or : {A : Type 0} {x y : A} {xs : List A} → IsIn x (y ∷ xs) → (x ≡ y) ⊎ IsIn x xs
first_or here = inl refl
first_or (there h) = inr h

no_item : {A : Type 0} {x : A} → IsIn x [] → ⊥
no_item h = elim h [ ]

own_cell : (u : Unused) (us : List Unused) → Lists (u ∷ us) u.point u.range.lo
own_cell u us = record { item = u; listed = here; point = refl; from = omega arith; to = u.range.ordered }

item_is : (u v : Unused) → u.point ≡ v.point → u.range ≡ v.range → u ≡ v
item_is u v e f = λ i. record { point = e i; range = f i }

-- an item that stands before all others of its list
module _ (u : Unused) (us : List Unused) (first : (w : Unused) → IsIn w us → IsAhead u w) where
  -- it is not behind what the list tells of
  not_behind : (p : List ℕ) (c : ℕ) → Lists (u ∷ us) p c → IsBefore u.point p ⊎ ((u.point ≡ p) × (u.range.lo ≤ c))
  not_behind p c l = go (first_or l.listed)
    where
      later : IsAhead u l.item → IsBefore u.point p ⊎ ((u.point ≡ p) × (u.range.lo ≤ c))
      later (inl b) = inl (subst (λ (x : List ℕ). IsBefore u.point x) l.point b)
      later (inr (e, f)) =
          let o = u.range.ordered in
          let g = l.from in
          inr (e ∙ l.point, omega (arith, o, f, g))

      go : (l.item ≡ u) ⊎ IsIn l.item us → IsBefore u.point p ⊎ ((u.point ≡ p) × (u.range.lo ≤ c))
      go (inl e) =
          let k : l.item.range.lo ≡ u.range.lo = ap (λ (x : Unused). x.range.lo) e in
          let g = l.from in
          inr (sym (ap (λ (x : Unused). x.point) e) ∙ l.point, omega (arith, k, g))
      go (inr i) = later (first l.item i)

  -- no other tells of its own cells, and of the one behind them
  not_later : (c : ℕ) → c ≤ u.range.hi → (w : Unused) → IsIn w us → w.point ≡ u.point → w.range.lo ≤ c → ⊥
  not_later c m w i e f = go (first w i)
    where
      go : IsAhead u w → ⊥
      go (inl b) = before_not b (sym e)
      go (inr (k, g)) = omega (arith, g, f, m)

  -- so its range ends where the list does not go on
  not_next : Lists (u ∷ us) u.point u.range.hi → ⊥
  not_next l = go (first_or l.listed)
    where
      go : (l.item ≡ u) ⊎ IsIn l.item us → ⊥
      go (inl e) =
          let k : l.item.range.hi ≡ u.range.hi = ap (λ (x : Unused). x.range.hi) e in
          let t = l.to in
          omega (arith, k, t)
      go (inr i) = not_later u.range.hi (omega arith) l.item i l.point l.from

-- two lists that tell the same, each of which begins with the item before all others of it
module _ (u v : Unused) (us vs : List Unused) (ahead : (w : Unused) → IsIn w us → IsAhead u w) (ahead' : (w : Unused) → IsIn w vs → IsAhead v w) (forth : IsWithin (u ∷ us) (v ∷ vs)) (back : IsWithin (v ∷ vs) (u ∷ us)) where
  begin_alike : (u.point ≡ v.point) × (u.range.lo ≡ v.range.lo)
  begin_alike = go (not_behind v vs ahead' u.point u.range.lo (forth u.point u.range.lo (own_cell u us))) (not_behind u us ahead v.point v.range.lo (back v.point v.range.lo (own_cell v vs)))
    where
      go : IsBefore v.point u.point ⊎ ((v.point ≡ u.point) × (v.range.lo ≤ u.range.lo)) → IsBefore u.point v.point ⊎ ((u.point ≡ v.point) × (u.range.lo ≤ v.range.lo)) → (u.point ≡ v.point) × (u.range.lo ≡ v.range.lo)
      go (inl b) (inl d) = absurd (before_not (before_trans b d) refl)
      go (inl b) (inr (e, f)) = absurd (before_not b (sym e))
      go (inr (e, f)) (inl d) = absurd (before_not d (sym e))
      go (inr (e, f)) (inr (k, g)) = (k, omega (arith, f, g))

-- the range of one does not end before that of the other
ends_behind : (u v : Unused) (us vs : List Unused) → ((w : Unused) → IsIn w us → IsAhead u w) → u.point ≡ v.point → u.range.lo ≡ v.range.lo → IsWithin (v ∷ vs) (u ∷ us) → v.range.hi ≤ u.range.hi
ends_behind u v us vs ahead e f back = go (at_most u.range.hi v.range.hi)
  where
    at_most : (m n : ℕ) → (m < n) ⊎ (n ≤ m)
    at_most m n = grind arith

    go : (u.range.hi < v.range.hi) ⊎ (v.range.hi ≤ u.range.hi) → v.range.hi ≤ u.range.hi
    go (inl l) =
        let o = u.range.ordered in
        absurd (not_next u us ahead (back u.point u.range.hi (record { item = v; listed = here; point = sym e; from = omega (arith, o, f); to = l })))
    go (inr l) = l

first_same : (u v : Unused) (us vs : List Unused) → ((w : Unused) → IsIn w us → IsAhead u w) → ((w : Unused) → IsIn w vs → IsAhead v w) → IsWithin (u ∷ us) (v ∷ vs) → IsWithin (v ∷ vs) (u ∷ us) → u ≡ v
first_same u v us vs ahead ahead' forth back =
    let k = begin_alike u v us vs ahead ahead' forth back in
    let a = ends_behind u v us vs ahead k.0 k.1 back in
    let b = ends_behind v u vs us ahead' (sym k.0) (sym k.1) forth in
    item_is u v k.0 (same_range u.range v.range k.1 (omega (arith, a, b)))

-- the items behind the first tell the same too
rest_within : (u v : Unused) (us vs : List Unused) → u ≡ v → ((w : Unused) → IsIn w us → IsAhead u w) → IsWithin (u ∷ us) (v ∷ vs) → IsWithin us vs
rest_within u v us vs e ahead forth p c l = go (first_or m.listed)
  where
    m : Lists (v ∷ vs) p c
    m = forth p c (record { item = l.item; listed = there l.listed; point = l.point; from = l.from; to = l.to })

    go : (m.item ≡ v) ⊎ IsIn m.item vs → Lists vs p c
    go (inl k) =
        let s : u ≡ m.item = e ∙ sym k in
        let q : l.item.point ≡ u.point = l.point ∙ sym m.point ∙ sym (ap (λ (x : Unused). x.point) s) in
        let h : u.range.hi ≡ m.item.range.hi = ap (λ (x : Unused). x.range.hi) s in
        let t = m.to in
        absurd (not_later u us ahead c (omega (arith, h, t)) l.item l.listed q l.from)
    go (inr i) = record { item = m.item; listed = i; point = m.point; from = m.from; to = m.to }

same_list : (us vs : List Unused) → Rises us → Rises vs → IsWithin us vs → IsWithin vs us → us ≡ vs
same_list [] [] h k forth back = refl
same_list [] (v ∷ vs) h k forth back = absurd (no_item (back v.point v.range.lo (own_cell v vs)).listed)
same_list (u ∷ us) [] h k forth back = absurd (no_item (forth u.point u.range.lo (own_cell u us)).listed)
same_list (u ∷ us) (v ∷ vs) (ahead, rest) (ahead', rest') forth back =
    let e : u ≡ v = first_same u v us vs ahead ahead' forth back in
    let t : us ≡ vs = same_list us vs rest rest' (rest_within u v us vs e ahead forth) (rest_within v u vs us (sym e) ahead' back) in
    λ i. e i ∷ t i

-- One list of the unused cells of a state

module _ {S : Type 0} (P : Program S) (s : State S) where
  told_too : (us vs : List Unused) → AreUnused P s us → AreUnused P s vs → IsWithin us vs
  told_too us vs h k p c l = go (h.points l.item l.listed)
    where
      go : (q : List ℕ) × (l.item.point ≡ written q) → Lists vs p c
      go (q, e) =
          let m = k.all q c (h.only q c (record { item = l.item; listed = l.listed; tells = record { point = e; from = l.from; to = l.to } })) in
          record { item = m.item; listed = m.listed; point = m.tells.point ∙ sym e ∙ l.point; from = m.tells.from; to = m.tells.to }

  one_list : (us vs : List Unused) → AreUnused P s us → AreUnused P s vs → us ≡ vs
  one_list us vs h k = same_list us vs h.rises k.rises (told_too us vs h k) (told_too vs us k h)

-- One audit

module _ {S : Type 0} (P : Program S) (main : Start S) (first : List ℕ) where
  result_of : (o : Outcome) → IsOutcome P main first o → IsResult P main first o.answer
  result_of o (outcome_ends run end over) = result_ends run end over
  result_of o (outcome_fails run end fault) = result_fails run end fault

  audit_result : (a : Answer) (us : List Unused) → IsAudited P main first a us → IsResult P main first a
  audit_result a us (ends run end over un) = result_ends run end over
  audit_result a us (fails {o = o} outcome e) = subst (λ (x : Answer). IsResult P main first x) e (result_of o outcome)

  one_told : (a b : Answer) (us vs : List Unused) → IsAudited P main first a us → IsAudited P main first b vs → a ≡ b → us ≡ vs
  one_told a b us vs (ends {z = z} {us = us'} run end over un) (ends {z = w} {us = vs'} other last over' un') e =
      let same = one_end P run end other last in
      one_list P w.state us' vs' (same_unused P z.state w.state same.found us' un) un'
  one_told a b us vs (ends {z = z} run end over un) (fails {kind = kind} {line = line} {text = text} outcome f) e = absurd cc
  one_told a b us vs (fails {kind = kind} {line = line} {text = text} outcome f) (ends {z = z} run end over un) e = absurd cc
  one_told a b us vs (fails outcome f) (fails outcome' g) e = refl

pub audits_are_one : (S : Type 0) → AuditsAreOne S
audits_are_one S P main first a b us vs h k =
    let e = one_result P a b (audit_result P main first a us h) (audit_result P main first b vs k) in
    (e, one_told P main first a b us vs h k e)
