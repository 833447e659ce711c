-- Tasks that can step, in their order: those that are added, and those that are taken out.
use Rattle.std.proofs.Common.{◌≡◌, ℕ, ◌↔◌, ◌⊎◌, inl, inr, refl, sym, ap, ◌∙◌, subst, List, [], Bool, true, false}
use Rattle.std.specs.Prelude.{ℤ, ◌<ℤ◌, IsTrue, cond}
use Rattle.std.specs.BTreeSet.{BTreeSet, contains}
use Rattle.std.specs.Cmp.Lexicographic.{nat_list_cmp_total, slice_cmp}
use Rattle.std.specs.List.{list_any}
use Rattle.std.specs.Ordering.{MatchOrdering, int_cmp, is_eq, is_gt, nat_cmp, ordering_then}
use Rattle.std.specs.declared.cmp.Ordering.{Ordering}
use Rattle.std.specs.declared.cmp.Ordering.TheVariants.{Equal, Greater, Less}
use Rattle.std.proofs.lemmas.Cmp.{int_cmp_total, int_ranked, nat_cmp_total, tied_itself}
use Rattle.std.proofs.lemmas.Map.Lookups.{exact_bytes, exact_signed, exact_unsigned}
use Rattle.oss_model.specs.Order.{IsBefore}
use Rattle.oss_model.proofs.PointLemmas.{ordered}
use Rattle.oss_prior.specs.declared.ready.Ready.{Ready}
use Rattle.oss_prior.specs.Choosing.{Has, by_turn}

-- the order of turns

then_equal : (a b : Ordering) → ordering_then a b ≡ Equal → (a ≡ Equal) × (b ≡ Equal)
then_equal Less b e = absurd cc
then_equal Equal b e = (refl, e)
then_equal Greater b e = absurd cc

pub ready_is : (x y : Ready) → x.priority ≡ y.priority → x.point ≡ y.point → x.number ≡ y.number → x ≡ y
ready_is x y e f g = ap (λ (a : ℤ). made a x.point x.number) e ∙ (ap (λ (a : List ℕ). made y.priority a x.number) f ∙ ap (λ (a : ℕ). made y.priority y.point a) g)
  where
    made : ℤ → List ℕ → ℕ → Ready
    made a b c = record { priority = a; point = b; number = c }

-- tasks that stand in the same place are one
turn_exact : (x y : Ready) → by_turn x y ≡ Equal → x ≡ y
turn_exact x y e =
    let a = then_equal (int_cmp y.priority x.priority) (ordering_then (slice_cmp nat_cmp x.point y.point) (nat_cmp x.number y.number)) e in
    let b = then_equal (slice_cmp nat_cmp x.point y.point) (nat_cmp x.number y.number) a.1 in
    ready_is x y (sym (exact_signed y.priority x.priority a.0)) (exact_bytes x.point y.point b.0) (exact_unsigned x.number y.number b.1)

-- and a task stands where it stands
turn_itself : (x : Ready) → by_turn x x ≡ Equal
turn_itself x = go (int_cmp x.priority x.priority) (slice_cmp nat_cmp x.point x.point) (nat_cmp x.number x.number) (tied_itself int_cmp_total x.priority) (tied_itself nat_list_cmp_total x.point) (tied_itself nat_cmp_total x.number)
  where
    go : (a b c : Ordering) → a ≡ Equal → b ≡ Equal → c ≡ Equal → ordering_then a (ordering_then b c) ≡ Equal
    go Equal Equal Equal e f g = refl
    go Equal Equal Less e f g = absurd cc
    go Equal Equal Greater e f g = absurd cc
    go Equal Less c e f g = absurd cc
    go Equal Greater c e f g = absurd cc
    go Less b c e f g = absurd cc
    go Greater b c e f g = absurd cc

-- what does not come after another has a greater priority, or the same and an earlier point
pub order_told : (x y : Ready) → is_gt (by_turn x y) ≡ false → (y.priority <ℤ x.priority) ⊎ ((x.priority ≡ y.priority) × (IsBefore x.point y.point ⊎ (x.point ≡ y.point)))
order_told x y e = go (int_cmp y.priority x.priority) (slice_cmp nat_cmp x.point y.point) (nat_cmp x.number y.number) (int_ranked y.priority x.priority (int_cmp y.priority x.priority) refl) (ordered x.point y.point) e
  where
    go : (a b c : Ordering) → MatchOrdering a (y.priority <ℤ x.priority) (y.priority ≡ x.priority) (x.priority <ℤ y.priority) → MatchOrdering b (IsBefore x.point y.point) (x.point ≡ y.point) (IsBefore y.point x.point) → is_gt (ordering_then a (ordering_then b c)) ≡ false
        → (y.priority <ℤ x.priority) ⊎ ((x.priority ≡ y.priority) × (IsBefore x.point y.point ⊎ (x.point ≡ y.point)))
    go Less b c l m e = inl l
    go Equal Less c f m e = inr (sym f, inl m)
    go Equal Equal c f m e = inr (sym f, inr m)
    go Equal Greater c f m e = absurd cc
    go Greater b c f m e = absurd cc

-- sets

-- a set without keys has nobody
pub none_has : (queue : BTreeSet Ready) → queue.keys ≡ [] → (one : Ready) → Has queue one → ⊥
none_has queue e one h = let f : IsTrue (list_any (λ k. is_eq (by_turn one k)) []) = subst (λ (ks : List Ready). IsTrue (list_any (λ k. is_eq (by_turn one k)) ks)) e h in absurd cc

module _ (one x : Ready) (old new : Bool) where
  added : (o : Ordering) → by_turn one x ≡ o → new ≡ cond (is_eq o) true old → IsTrue new ↔ ((x ≡ one) ⊎ IsTrue old)
  added Equal e f = (λ h. inl (sym (turn_exact one x e)), λ h. f)
  added Less e f = (λ h. inr (sym f ∙ h), λ h. back h)
    where
      back : (x ≡ one) ⊎ IsTrue old → IsTrue new
      back (inl g) = let h : Equal ≡ Less = sym (turn_itself one) ∙ (ap (λ (y : Ready). by_turn one y) (sym g) ∙ e) in absurd cc
      back (inr h) = f ∙ h
  added Greater e f = (λ h. inr (sym f ∙ h), λ h. back h)
    where
      back : (x ≡ one) ⊎ IsTrue old → IsTrue new
      back (inl g) = let h : Equal ≡ Greater = sym (turn_itself one) ∙ (ap (λ (y : Ready). by_turn one y) (sym g) ∙ e) in absurd cc
      back (inr h) = f ∙ h

  taken : (o : Ordering) → by_turn one x ≡ o → new ≡ cond (is_eq o) false old → IsTrue new ↔ (IsTrue old × (x ≡ one → ⊥))
  taken Equal e f = (λ h. let g : false ≡ true = sym f ∙ h in absurd cc, λ h. absurd (h.1 (sym (turn_exact one x e))))
  taken Less e f = (λ h. (sym f ∙ h, λ g. let h : Equal ≡ Less = sym (turn_itself one) ∙ (ap (λ (y : Ready). by_turn one y) (sym g) ∙ e) in cc), λ h. f ∙ h.0)
  taken Greater e f = (λ h. (sym f ∙ h, λ g. let h : Equal ≡ Greater = sym (turn_itself one) ∙ (ap (λ (y : Ready). by_turn one y) (sym g) ∙ e) in cc), λ h. f ∙ h.0)

-- the set has one more
pub has_added : (one : Ready) (old new : BTreeSet Ready) → ((q : Ready) → contains by_turn new q ≡ cond (is_eq (by_turn one q)) true (contains by_turn old q)) → (x : Ready) → Has new x ↔ ((x ≡ one) ⊎ Has old x)
has_added one old new h x = added one x (contains by_turn old x) (contains by_turn new x) (by_turn one x) refl (h x)

-- or one less
pub has_taken : (one : Ready) (old new : BTreeSet Ready) → ((q : Ready) → contains by_turn new q ≡ cond (is_eq (by_turn one q)) false (contains by_turn old q)) → (x : Ready) → Has new x ↔ (Has old x × (x ≡ one → ⊥))
has_taken one old new h x = taken one x (contains by_turn old x) (contains by_turn new x) (by_turn one x) refl (h x)
