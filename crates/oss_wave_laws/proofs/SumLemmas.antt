-- Weights of tasks are summed alike over each list of the tasks of a state.
use Rattle.std.proofs.Common.{◌≡◌, ◌≢◌, ℕ, ◌+◌, ◌⊎◌, inl, inr, refl, sym, subst, ap, ◌∙◌, arith, List, [], ◌∷◌, Bool, true, false, Some}
use Rattle.std.specs.Prelude.{◌||◌, if◌then◌else◌}
use Rattle.oss_model.specs.Order.{IsIn, here, there}
use Rattle.oss_model.specs.Machine.{Task, State, find, same_path}
use Rattle.oss_model.proofs.TreeLemmas.{same_path_is}
use Rattle.oss_model.proofs.RunLemmas.{other_path}
use Rattle.oss_model.proofs.Exclusive.{same_self}
use Rattle.oss_wave_laws.specs.Rounds.{is_among, weighed}
use Rattle.oss_wave_laws.specs.Left.{AreApart, AreTasks, summed, WeightsAreSummed}

pub in_cases : {A : Type 0} {z w : A} {zs : List A} → IsIn z (w ∷ zs) → (z ≡ w) ⊎ IsIn z zs
in_cases here = inl refl
in_cases (there h) = inr h

pub in_none : {A : Type 0} {z : A} → IsIn z [] → ⊥
in_none h = elim h [ ]

-- the tasks that are found, of those with one path the first
abbrev pub chosen : {S : Type 0} → List (List ℕ) → List (Task S) → List (Task S)
chosen seen [] = []
chosen seen (t ∷ ts) = if is_among seen t.body.start.path then chosen seen ts else t ∷ chosen (t.body.start.path ∷ seen) ts

pub weighed_chosen : {S : Type 0} (weight : Task S → ℕ) (seen : List (List ℕ)) (ts : List (Task S)) → weighed weight seen ts ≡ summed weight (chosen seen ts)
unfolding summed
weighed_chosen weight seen [] = refl
weighed_chosen {S = S} weight seen (t ∷ ts) = go (is_among seen t.body.start.path) (weighed_chosen weight seen ts) (weighed_chosen weight (t.body.start.path ∷ seen) ts)
  where
    go : (b : Bool) → weighed weight seen ts ≡ summed weight (chosen seen ts) → weighed weight (t.body.start.path ∷ seen) ts ≡ summed weight (chosen (t.body.start.path ∷ seen) ts)
        → (if b then weighed weight seen ts else weight t + weighed weight (t.body.start.path ∷ seen) ts) ≡ summed weight (if b then chosen seen ts else t ∷ chosen (t.body.start.path ∷ seen) ts)
    go true e f = e
    go false e f = ap (λ (k : ℕ). weight t + k) f

pub found_here : {S : Type 0} (t : Task S) (ts : List (Task S)) → find (t ∷ ts) t.body.start.path ≡ Some t
unfolding find
found_here t ts = rw (same_self t.body.start.path) refl

pub found_past : {S : Type 0} (u : Task S) (ts : List (Task S)) (p : List ℕ) → u.body.start.path ≢ p → find (u ∷ ts) p ≡ find ts p
unfolding find
found_past u ts p ne = rw (other_path u.body.start.path p ne) refl

is_or : (a b : Bool) → (a || b) ≡ false → (a ≡ false) × (b ≡ false)
is_or true b e = cc
is_or false b e = (refl, e)

pub true_false : true ≡ false → ⊥
true_false e = cc

-- where one list is the other's choice by a test
if_in : {A : Type 0} {x : A} (b : Bool) (xs ys : List A) → IsIn x (if b then xs else ys) → ((b ≡ true) × IsIn x xs) ⊎ ((b ≡ false) × IsIn x ys)
if_in true xs ys h = inl (refl, h)
if_in false xs ys h = inr (refl, h)

if_true : {A : Type 0} {x : A} (b : Bool) (xs ys : List A) → b ≡ true → IsIn x xs → IsIn x (if b then xs else ys)
if_true true xs ys e h = h
if_true false xs ys e h = cc

if_false : {A : Type 0} {x : A} (b : Bool) (xs ys : List A) → b ≡ false → IsIn x ys → IsIn x (if b then xs else ys)
if_false true xs ys e h = cc
if_false false xs ys e h = h

not_same : (p q : List ℕ) → same_path p q ≡ false → p ≢ q
not_same p q e h = let f : true ≡ false = sym (same_self q) ∙ (ap (λ (r : List ℕ). same_path r q) (sym h) ∙ e) in true_false f

-- the chosen tasks are those that are found, and their paths are none of those seen
pub record Chosen {S : Type 0} (seen : List (List ℕ)) (ts : List (Task S)) (t : Task S) : Type 0 where
  pub found : find ts t.body.start.path ≡ Some t
  pub new : is_among seen t.body.start.path ≡ false

pub chosen_only : {S : Type 0} (seen : List (List ℕ)) (ts : List (Task S)) (t : Task S) → IsIn t (chosen seen ts) → Chosen seen ts t
chosen_only seen [] t h = absurd (in_none h)
chosen_only {S = S} seen (u ∷ us) t h = go (if_in (is_among seen u.body.start.path) (chosen seen us) (u ∷ chosen (u.body.start.path ∷ seen) us) h) (λ k. chosen_only seen us t k) (λ k. chosen_only (u.body.start.path ∷ seen) us t k)
  where
    behind : u.body.start.path ≢ t.body.start.path → find us t.body.start.path ≡ Some t → is_among seen t.body.start.path ≡ false → Chosen seen (u ∷ us) t
    behind ne f e = record { found = found_past u us t.body.start.path ne ∙ f; new = e }

    head : is_among seen u.body.start.path ≡ false → (t ≡ u) ⊎ IsIn t (chosen (u.body.start.path ∷ seen) us) → (IsIn t (chosen (u.body.start.path ∷ seen) us) → Chosen (u.body.start.path ∷ seen) us t) → Chosen seen (u ∷ us) t
    head e (inl k) f = subst (λ (x : Task S). Chosen seen (u ∷ us) x) (sym k) (record { found = found_here u us; new = e })
    head e (inr k) f = let c = f k in let o = is_or (same_path u.body.start.path t.body.start.path) (is_among seen t.body.start.path) c.new in behind (not_same u.body.start.path t.body.start.path o.0) c.found o.1

    go : ((is_among seen u.body.start.path ≡ true) × IsIn t (chosen seen us)) ⊎ ((is_among seen u.body.start.path ≡ false) × IsIn t (u ∷ chosen (u.body.start.path ∷ seen) us))
        → (IsIn t (chosen seen us) → Chosen seen us t) → (IsIn t (chosen (u.body.start.path ∷ seen) us) → Chosen (u.body.start.path ∷ seen) us t) → Chosen seen (u ∷ us) t
    go (inl k) f g = let c = f k.1 in behind (λ e. true_false (sym k.0 ∙ (ap (is_among seen) e ∙ c.new))) c.found c.new
    go (inr k) f g = head k.0 (in_cases k.1) g

pub chosen_all : {S : Type 0} (seen : List (List ℕ)) (ts : List (Task S)) (p : List ℕ) (t : Task S) → find ts p ≡ Some t → is_among seen p ≡ false → IsIn t (chosen seen ts)
unfolding find
chosen_all seen [] p t h e = cc
chosen_all {S = S} seen (u ∷ us) p t h e = go (same_path u.body.start.path p) refl (is_among seen u.body.start.path) refl (λ f. chosen_all seen us p t f e) (λ f g. chosen_all (u.body.start.path ∷ seen) us p t f g)
  where
    other : (b : Bool) → b ≡ false → (if b then Some u else find us p) ≡ Some t → find us p ≡ Some t
    other true k f = cc
    other false k f = f

    own : (b : Bool) → b ≡ true → (if b then Some u else find us p) ≡ Some t → u ≡ t
    own true k f = cc
    own false k f = cc

    go : (b : Bool) → same_path u.body.start.path p ≡ b → (d : Bool) → is_among seen u.body.start.path ≡ d → (find us p ≡ Some t → IsIn t (chosen seen us))
        → (find us p ≡ Some t → is_among (u.body.start.path ∷ seen) p ≡ false → IsIn t (chosen (u.body.start.path ∷ seen) us)) → IsIn t (if is_among seen u.body.start.path then chosen seen us else u ∷ chosen (u.body.start.path ∷ seen) us)
    go true k true l f g = absurd (true_false (sym l ∙ (ap (is_among seen) (same_path_is u.body.start.path p k) ∙ e)))
    go true k false l f g = if_false (is_among seen u.body.start.path) (chosen seen us) (u ∷ chosen (u.body.start.path ∷ seen) us) l (subst (λ (x : Task S). IsIn x (u ∷ chosen (u.body.start.path ∷ seen) us)) (own (same_path u.body.start.path p) k h) here)
    go false k true l f g = if_true (is_among seen u.body.start.path) (chosen seen us) (u ∷ chosen (u.body.start.path ∷ seen) us) l (f (other (same_path u.body.start.path p) k h))
    go false k false l f g =
        if_false (is_among seen u.body.start.path) (chosen seen us) (u ∷ chosen (u.body.start.path ∷ seen) us) l (there (g (other (same_path u.body.start.path p) k h) (rw (k, e) refl)))

pub chosen_apart : {S : Type 0} (seen : List (List ℕ)) (ts : List (Task S)) → AreApart (chosen seen ts)
chosen_apart seen [] = tt
chosen_apart {S = S} seen (u ∷ us) = go (is_among seen u.body.start.path) (chosen_apart seen us) (chosen_apart (u.body.start.path ∷ seen) us)
  where
    different : (t : Task S) → IsIn t (chosen (u.body.start.path ∷ seen) us) → t.body.start.path ≢ u.body.start.path
    different t h e =
        let c = chosen_only (u.body.start.path ∷ seen) us t h in
        not_same u.body.start.path t.body.start.path (is_or (same_path u.body.start.path t.body.start.path) (is_among seen t.body.start.path) c.new).0 (sym e)

    go : (b : Bool) → AreApart (chosen seen us) → AreApart (chosen (u.body.start.path ∷ seen) us) → AreApart (if b then chosen seen us else u ∷ chosen (u.body.start.path ∷ seen) us)
    go true a b = a
    go false a b = (different, b)

-- the tasks of a state, as they are found
pub listed : {S : Type 0} (s : State S) → AreTasks s (chosen [] s.tasks)
listed s = record {
  all = λ p t h. chosen_all [] s.tasks p t h refl;
  only = λ t h. (chosen_only [] s.tasks t h).found;
  once = chosen_apart [] s.tasks;
}

-- a list with one task taken out
pub record Without {S : Type 0} (t : Task S) (list : List (Task S)) : Type 0 where
  pub rest : List (Task S)
  pub sum : (weight : Task S → ℕ) → summed weight list ≡ weight t + summed weight rest
  pub keeps : (u : Task S) → IsIn u list → (u ≡ t) ⊎ IsIn u rest
  pub only : (u : Task S) → IsIn u rest → IsIn u list
  pub others : (u : Task S) → IsIn u rest → u.body.start.path ≢ t.body.start.path
  pub once : AreApart rest

pub without : {S : Type 0} (t : Task S) (list : List (Task S)) → AreApart list → IsIn t list → Without t list
unfolding summed
without t [] a h = absurd (in_none h)
without t (x ∷ xs) a here = record { rest = xs; sum = λ w. refl; keeps = λ u h. in_cases h; only = λ u h. there h; others = a.0; once = a.1 }
without {S = S} t (x ∷ xs) a (there h) = further (without t xs a.1 h)
  where
    further : Without t xs → Without t (x ∷ xs)
    further r = record {
      rest = x ∷ r.rest;
      sum = λ w. let e = r.sum w in omega (arith, e);
      keeps = λ u k. keep u (in_cases k);
      only = λ u k. only u (in_cases k);
      others = λ u k. other u (in_cases k);
      once = ((λ u k. a.0 u (r.only u k)), r.once);
    }
      where
        keep : (u : Task S) → (u ≡ x) ⊎ IsIn u xs → (u ≡ t) ⊎ IsIn u (x ∷ r.rest)
        keep u (inl e) = inr (subst (λ (y : Task S). IsIn y (x ∷ r.rest)) (sym e) here)
        keep u (inr k) = later (r.keeps u k)
          where
            later : (u ≡ t) ⊎ IsIn u r.rest → (u ≡ t) ⊎ IsIn u (x ∷ r.rest)
            later (inl e) = inl e
            later (inr i) = inr (there i)

        only : (u : Task S) → (u ≡ x) ⊎ IsIn u r.rest → IsIn u (x ∷ xs)
        only u (inl e) = subst (λ (y : Task S). IsIn y (x ∷ xs)) (sym e) here
        only u (inr k) = there (r.only u k)

        other : (u : Task S) → (u ≡ x) ⊎ IsIn u r.rest → u.body.start.path ≢ t.body.start.path
        other u (inl e) f = a.0 t h (sym f ∙ ap (λ (y : Task S). y.body.start.path) e)
        other u (inr k) f = r.others u k f

-- two lists of the same tasks have one sum
pub same_sum : {S : Type 0} (weight : Task S → ℕ) (xs ys : List (Task S)) → AreApart xs → AreApart ys → ((t : Task S) → IsIn t xs → IsIn t ys) → ((t : Task S) → IsIn t ys → IsIn t xs) → summed weight xs ≡ summed weight ys
unfolding summed
same_sum weight [] [] a b f g = refl
same_sum weight [] (y ∷ ys) a b f g = absurd (in_none (g y here))
same_sum {S = S} weight (x ∷ xs) ys a b f g = ap (λ (k : ℕ). weight x + k) (same_sum weight xs r.rest a.1 r.once forth back) ∙ sym (r.sum weight)
  where
    r : Without x ys
    r = without x ys b (f x here)

    forth : (t : Task S) → IsIn t xs → IsIn t r.rest
    forth t h = pick (r.keeps t (f t (there h)))
      where
        pick : (t ≡ x) ⊎ IsIn t r.rest → IsIn t r.rest
        pick (inl e) = absurd (a.0 t h (ap (λ (y : Task S). y.body.start.path) e))
        pick (inr k) = k

    back : (t : Task S) → IsIn t r.rest → IsIn t xs
    back t h = pick (in_cases (g t (r.only t h)))
      where
        pick : (t ≡ x) ⊎ IsIn t xs → IsIn t xs
        pick (inl e) = absurd (r.others t h (ap (λ (y : Task S). y.body.start.path) e))
        pick (inr k) = k

pub same_tasks : {S : Type 0} (s : State S) (xs ys : List (Task S)) (weight : Task S → ℕ) → AreTasks s xs → AreTasks s ys → summed weight xs ≡ summed weight ys
same_tasks s xs ys weight a b = same_sum weight xs ys a.once b.once (λ t h. b.all t.body.start.path t (a.only t h)) (λ t h. a.all t.body.start.path t (b.only t h))

pub weights_are_summed : (S : Type 0) → WeightsAreSummed S
weights_are_summed S s list weight a = weighed_chosen weight [] s.tasks ∙ same_tasks s (chosen [] s.tasks) list weight (listed s) a
