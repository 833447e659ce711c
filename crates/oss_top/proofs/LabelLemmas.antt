-- A program has one list of labels: it rises by the places of bodies, and has each label at its place.
use Rattle.std.proofs.Common.{◌≡◌, ◌∙◌, refl, sym, subst, ℕ, ◌+◌, ◌≤◌, ◌⊎◌, inl, inr, List, [], ◌∷◌, arith}
use Rattle.oss_syntax.specs.declared.tree.program.Item.{Item}
use Rattle.oss_labels.specs.declared.labels.Labelled.{Labelled}
use Rattle.oss_labels.specs.Labels.{AreLabelsOf, IsLabelled}
use Rattle.oss_labels.specs.Lists.{HasLabel, Rise}

-- all labels of a list that rises stand from its begin on
from_begin : (from : ℕ) (ls : List Labelled) → Rise from ls → (e : ℕ) (t : List ℕ) → HasLabel ls e t → from ≤ e
from_begin from [] rise e t here = absurd here
from_begin from (l ∷ ls) rise e t (inl is) = let a = is.0 in let first = rise.0 in omega (arith, a, first)
from_begin from (l ∷ ls) rise e t (inr more) = let less = from_begin (l.entry + 1) ls rise.1 e t more in let first = rise.0 in omega (arith, less, first)

-- what stands behind one head stands behind the other
behind : (l m : Labelled) (ls ms : List Labelled) → Rise (l.entry + 1) ls → m.entry ≡ l.entry → ((e : ℕ) (t : List ℕ) → HasLabel (l ∷ ls) e t → HasLabel (m ∷ ms) e t) → (e : ℕ) (t : List ℕ) → HasLabel ls e t → HasLabel ms e t
behind l m ls ms rise equal forth e t here = by (forth e t (inr here))
  where
    by : HasLabel (m ∷ ms) e t → HasLabel ms e t
    by (inl is) = let less = from_begin (l.entry + 1) ls rise e t here in let a = is.0 in absurd (omega (arith, less, a, equal))
    by (inr more) = more

-- the heads of two lists that rise and have the same labels are one label
same_head : (from to : ℕ) (l m : Labelled) (ls ms : List Labelled) → Rise from (l ∷ ls) → Rise to (m ∷ ms) → HasLabel (m ∷ ms) l.entry l.label → HasLabel (l ∷ ls) m.entry m.label → (m.entry ≡ l.entry) × (m.label ≡ l.label)
same_head from to l m ls ms a b (inl is) other = is
same_head from to l m ls ms a b (inr later) (inl is) = let less = from_begin (m.entry + 1) ms b.1 l.entry l.label later in let e = is.0 in absurd (omega (arith, less, e))
same_head from to l m ls ms a b (inr later) (inr other) =
    let less = from_begin (m.entry + 1) ms b.1 l.entry l.label later in
    let more = from_begin (l.entry + 1) ls a.1 m.entry m.label other in
    absurd (omega (arith, less, more))

-- Two lists that rise and have the same labels are one.
one_list : (from to : ℕ) (ls ms : List Labelled) → Rise from ls → Rise to ms → ((e : ℕ) (t : List ℕ) → HasLabel ls e t → HasLabel ms e t) → ((e : ℕ) (t : List ℕ) → HasLabel ms e t → HasLabel ls e t) → ls ≡ ms
one_list from to [] [] a b forth back = refl
one_list from to [] (m ∷ ms) a b forth back = absurd (back m.entry m.label (inl (refl, refl)))
one_list from to (l ∷ ls) [] a b forth back = absurd (forth l.entry l.label (inl (refl, refl)))
one_list from to (l ∷ ls) (m ∷ ms) a b forth back =
    let is = same_head from to l m ls ms a b (forth l.entry l.label (inl (refl, refl))) (back m.entry m.label (inl (refl, refl))) in
    let tails = one_list (l.entry + 1) (m.entry + 1) ls ms a.1 b.1 (behind l m ls ms a.1 is.0 forth) (behind m l ms ls b.1 (sym is.0) back) in
    λ i. record { entry = sym is.0 i; label = sym is.1 i } ∷ tails i

-- a label of the one list stands in the other
told_too : (all : List Item) (ls ms : List Labelled) → AreLabelsOf all ls → AreLabelsOf all ms → (e : ℕ) (t : List ℕ) → HasLabel ls e t → HasLabel ms e t
told_too all ls ms a b e t here =
    let l = a.only e t here in
    subst (λ (n : ℕ). HasLabel ms n t) (sym l.entry_is) (b.each l.body t l.label_is)

pub labels_are_one : (all : List Item) (ls ms : List Labelled) → AreLabelsOf all ls → AreLabelsOf all ms → ls ≡ ms
labels_are_one all ls ms a b = one_list 0 0 ls ms a.rise b.rise (told_too all ls ms a b) (told_too all ms ls b a)
