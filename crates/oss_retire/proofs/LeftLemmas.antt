-- What is left of a list of opens: its entries, their order, and what they are to each other.
use Rattle.std.proofs.Common.{◌≡◌, ℕ, refl, sym, ap, ◌∙◌, List, [], ◌∷◌, ◌⊎◌, inl, inr, Bool, true, false, eqb-true}
use Rattle.std.specs.Prelude.{◌==◌, if◌then◌else◌}
use Rattle.oss_model.specs.Order.{IsIn, here, there}
use Rattle.oss_deps.specs.declared.opened.Open.{Open}
use Rattle.oss_deps.specs.Opens.{access_at, is_some_access, mode_at, mode_in, mode_of_access, names, AreOrdered, HasOpened, IsChild, IsEarlier, IsTop, Precedes, first, later, none, one}
use Rattle.oss_deps.proofs.Basics.{bools}
use Rattle.oss_retire.specs.Retired.{left, left_of}

-- the entry of which another is what is left
pub record Whole (r : ℕ → Bool) (opens : List Open) (q : Open) : Type 0 where
  pub entry : Open
  pub listed : IsIn entry opens
  pub same : q ≡ left r entry

pub record Wholes (r : ℕ → Bool) (opens : List Open) (p q : Open) : Type 0 where
  pub before : Open
  pub after : Open
  pub order : Precedes before after opens
  pub same_before : p ≡ left r before
  pub same_after : q ≡ left r after

pub left_in : (r : ℕ → Bool) {o : Open} {opens : List Open} → IsIn o opens → IsIn (left r o) (left_of r opens)
left_in r here = here
left_in r (there i) = there (left_in r i)

pub in_left : (r : ℕ → Bool) (opens : List Open) (q : Open) → IsIn q (left_of r opens) → Whole r opens q
in_left r [] q i = elim i [ ]
in_left r (o ∷ rest) q here = record { entry = o; listed = here; same = refl }
in_left r (o ∷ rest) q (there i) = let w = in_left r rest q i in record { entry = w.entry; listed = there w.listed; same = w.same }

pub left_precedes : (r : ℕ → Bool) {x y : Open} {opens : List Open} → Precedes x y opens → Precedes (left r x) (left r y) (left_of r opens)
left_precedes r (first i) = first (left_in r i)
left_precedes r (later h) = later (left_precedes r h)

pub precedes_left : (r : ℕ → Bool) (opens : List Open) (p q : Open) → Precedes p q (left_of r opens) → Wholes r opens p q
precedes_left r [] p q h = elim h [ ]
precedes_left r (o ∷ rest) p q (first i) = let w = in_left r rest q i in record { before = o; after = w.entry; order = first w.listed; same_before = refl; same_after = w.same }
precedes_left r (o ∷ rest) p q (later h) =
    let w = precedes_left r rest p q h in
    record { before = w.before; after = w.after; order = later w.order; same_before = w.same_before; same_after = w.same_after }

-- what is left has the cell where its task is not retired
pub left_named : (r : ℕ → Bool) (c : ℕ) (o : Open) → names c (left r o) ≡ true → (r o.task ≡ false) × (names c o ≡ true)
left_named r c o h = go (r o.task) refl h
  where
    go : (b : Bool) → r o.task ≡ b → is_some_access (access_at (if b then [] else o.accesses) c) ≡ true → (r o.task ≡ false) × (names c o ≡ true)
    go true e h = absurd cc
    go false e h = (e, h)

pub named_left : (r : ℕ → Bool) (c : ℕ) (o : Open) → r o.task ≡ false → names c o ≡ true → names c (left r o) ≡ true
named_left r c o e h = go (r o.task) e
  where
    go : (b : Bool) → b ≡ false → is_some_access (access_at (if b then [] else o.accesses) c) ≡ true
    go true e = absurd cc
    go false e = h

pub mode_left : (r : ℕ → Bool) (c : ℕ) (o : Open) → r o.task ≡ false → mode_at c (left r o) ≡ mode_at c o
mode_left r c o e = go (r o.task) e
  where
    go : (b : Bool) → b ≡ false → mode_of_access (access_at (if b then [] else o.accesses) c) ≡ mode_at c o
    go true e = absurd cc
    go false e = refl

pub mode_in_left : (r : ℕ → Bool) (c : ℕ) (opens : List Open) (v : ℕ) → r v ≡ false → mode_in (left_of r opens) c v ≡ mode_in opens c v
mode_in_left r c [] v e = refl
mode_in_left r c (o ∷ rest) v e = go (bools (o.task == v)) (mode_in_left r c rest v e)
  where
    go : ((o.task == v) ≡ true) ⊎ ((o.task == v) ≡ false) → mode_in (left_of r rest) c v ≡ mode_in rest c v → mode_in (left_of r (o ∷ rest)) c v ≡ mode_in (o ∷ rest) c v
    go (inl t) again = rw t (mode_left r c o (ap r (eqb-true o.task v t) ∙ e))
    go (inr f) again = rw f again

-- it goes from creators to their children
pub left_ordered : (r : ℕ → Bool) {opens : List Open} → AreOrdered opens → AreOrdered (left_of r opens)
left_ordered r none = none
left_ordered r (one {o = o} {rest = rest} z d par ord) = one z (λ q i e. let w = in_left r rest q i in d w.entry w.listed (ap (λ (x : Open). x.task) (sym w.same) ∙ e)) (λ q i e. let w = in_left r (o ∷ rest) q i in par w.entry w.listed (ap (λ (x : Open). x.task) (sym w.same) ∙ e)) (left_ordered r ord)

module _ (r : ℕ → Bool) (opens : List Open) (c : ℕ) where
  abbrev kept : List Open
  kept = left_of r opens

  -- an access that is left, and its entry
  record Before (v parent : ℕ) : Type 0 where
    pub opened : HasOpened opens c v
    pub parent_is : opened.entry.parent ≡ parent
    pub kept_is : r v ≡ false

  abbrev pub opened_left : (v : ℕ) → r v ≡ false → HasOpened opens c v → HasOpened kept c v
  opened_left v e h = record { entry = left r h.entry; listed = left_in r h.listed; number = h.number; named = named_left r c h.entry (ap r h.number ∙ e) h.named }

  before_left : (v : ℕ) (h : HasOpened kept c v) → Before v h.entry.parent
  before_left v h =
      let w = in_left r opens h.entry h.listed in
      let n = left_named r c w.entry (ap (λ (x : Open). names c x) (sym w.same) ∙ h.named) in
      let t : w.entry.task ≡ v = ap (λ (x : Open). x.task) (sym w.same) ∙ h.number in
      record {
        opened = record { entry = w.entry; listed = w.listed; number = t; named = n.1 };
        parent_is = ap (λ (x : Open). x.parent) (sym w.same);
        kept_is = ap r (sym t) ∙ n.0;
      }

  pub left_opened : (v : ℕ) → HasOpened kept c v → HasOpened opens c v × (r v ≡ false)
  left_opened v h = let b = before_left v h in (b.opened, b.kept_is)

  pub top_left : (v : ℕ) → r v ≡ false → IsTop opens c v → IsTop kept c v
  top_left v e h = record { opened = opened_left v e h.opened; parent = h.parent }

  pub left_top : (v : ℕ) → IsTop kept c v → IsTop opens c v
  left_top v h = let b = before_left v h.opened in record { opened = b.opened; parent = b.parent_is ∙ h.parent }

  pub child_left : (u v : ℕ) → r u ≡ false → r v ≡ false → IsChild opens c u v → IsChild kept c u v
  child_left u v d e h = record { above = opened_left u d h.above; opened = opened_left v e h.opened; parent = h.parent }

  pub left_child : (u v : ℕ) → IsChild kept c u v → IsChild opens c u v × (r u ≡ false) × (r v ≡ false)
  left_child u v h =
      let a = before_left u h.above in
      let b = before_left v h.opened in
      (record { above = a.opened; opened = b.opened; parent = b.parent_is ∙ h.parent }, a.kept_is, b.kept_is)

  pub earlier_left : (u v : ℕ) → r u ≡ false → IsEarlier opens c u v → IsEarlier kept c u v
  earlier_left u v e h = record {
    before = left r h.before;
    after = left r h.after;
    order = left_precedes r h.order;
    number = h.number;
    after_number = h.after_number;
    siblings = h.siblings;
    named = named_left r c h.before (ap r h.number ∙ e) h.named;
  }

  pub left_earlier : (u v : ℕ) → IsEarlier kept c u v → IsEarlier opens c u v × (r u ≡ false)
  left_earlier u v h =
      let w = precedes_left r opens h.before h.after h.order in
      let n = left_named r c w.before (ap (λ (x : Open). names c x) (sym w.same_before) ∙ h.named) in
      let t : w.before.task ≡ u = ap (λ (x : Open). x.task) (sym w.same_before) ∙ h.number in (
        record {
          before = w.before;
          after = w.after;
          order = w.order;
          number = t;
          after_number = ap (λ (x : Open). x.task) (sym w.same_after) ∙ h.after_number;
          siblings = ap (λ (x : Open). x.parent) (sym w.same_before) ∙ h.siblings ∙ ap (λ (x : Open). x.parent) w.same_after;
          named = n.1;
        },
        ap r (sym t) ∙ n.0,
      )
