-- Tables with the numbers of opens.
use Rattle.std.proofs.Common.{◌≡◌, ℕ, zero, suc, ◌<◌, ◌≤◌, ◌+◌, refl, sym, subst, ap, ◌∙◌, ◌⊎◌, inl, inr, Bool, true, false, List, [], ◌∷◌, ◌++◌, length, Option, Some, None, arith, add-one, eq-eqb, eqb-true}
use Rattle.std.proofs.lemmas.Option.{slice_get_within}
use Rattle.std.specs.Prelude.{◌==◌, ◌&&◌, option_and_then, slice_get}
use Rattle.oss_deps.specs.declared.opened.Open.{Open}
use Rattle.oss_deps.specs.Opens.{AreOrdered}
use Rattle.oss_deps.proofs.Basics.{both, both_of, compared, or_cases, or_left, or_right, some_is}
use Rattle.oss_deps.proofs.OpenLemmas.{one_place}
use Rattle.oss_access_lists.specs.declared.hang.Hang.{Hang}
use Rattle.oss_access_lists.specs.Tables.{hang_at}
use Rattle.oss_access_lists.proofs.StepLemmas.{same_or}
use Rattle.oss_links.specs.Held.{with_task}
use Rattle.oss_links.specs.Numbers.{any_below, given_by, is_task, task_by, task_in, task_numbered}

pub same_bools : (a b : Bool) → (a ≡ true → b ≡ true) → (b ≡ true → a ≡ true) → a ≡ b
same_bools true true f g = refl
same_bools true false f g = absurd (let h = f refl in cc)
same_bools false true f g = absurd (let h = g refl in cc)
same_bools false false f g = refl

-- a test that holds somewhere
pub any_found : (n : ℕ) (test : ℕ → Bool) → any_below n test ≡ true → (v : ℕ) × (v < n) × (test v ≡ true)
any_found zero test h = absurd cc
any_found (suc n) test h = go (or_cases (test n) (any_below n test) h) (any_found n test)
  where
    go : (test n ≡ true) ⊎ (any_below n test ≡ true) → (any_below n test ≡ true → (v : ℕ) × (v < n) × (test v ≡ true)) → (v : ℕ) × (v < suc n) × (test v ≡ true)
    go (inl e) again = (n, omega arith, e)
    go (inr e) again = let k = again e in (k.0, omega (arith, k.1), k.2)

pub any_told : (n : ℕ) (test : ℕ → Bool) (v : ℕ) → v < n → test v ≡ true → any_below n test ≡ true
any_told zero test v l h = absurd (omega (arith, l))
any_told (suc n) test v l h = go (same_or v n) (λ k. any_told n test v k h)
  where
    go : (v ≡ n) ⊎ (v ≡ n → ⊥) → (v < n → any_below n test ≡ true) → any_below (suc n) test ≡ true
    go (inl e) again = or_left (test n) (any_below n test) (subst (λ y. test y ≡ true) e h)
    go (inr k) again = or_right (test n) (any_below n test) (again (omega (arith, l, k)))

task_is : (t : ℕ) (x : Option ℕ) → is_task t x ≡ true → x ≡ Some t
task_is t None h = absurd cc
task_is t (Some s) h = ap (λ (y : ℕ). Some y) (eqb-true s t h)

is_task_of : (t : ℕ) (x : Option ℕ) → x ≡ Some t → is_task t x ≡ true
is_task_of t x e = subst (λ (y : Option ℕ). is_task t y ≡ true) (sym e) (eq-eqb t t refl)

-- the place of an access is one of the list
pub number_of_task : (opens : List Open) (numbers : List ℕ) (v t : ℕ) → task_by opens numbers v ≡ Some t → (n : ℕ) × (slice_get numbers v ≡ Some (suc n)) × (task_in (slice_get opens n) ≡ Some t)
number_of_task opens numbers v t h = go (slice_get numbers v) refl
  where
    go : (x : Option ℕ) → slice_get numbers v ≡ x → (n : ℕ) × (slice_get numbers v ≡ Some (suc n)) × (task_in (slice_get opens n) ≡ Some t)
    go None e = absurd (let k = sym (ap (option_and_then (task_numbered opens)) e) ∙ h in cc)
    go (Some zero) e = absurd (let k = sym (ap (option_and_then (task_numbered opens)) e) ∙ h in cc)
    go (Some (suc n)) e = (n, e, sym (ap (option_and_then (task_numbered opens)) e) ∙ h)

pub task_within : (opens : List Open) (numbers : List ℕ) (v t : ℕ) → task_by opens numbers v ≡ Some t → v < length numbers
task_within opens numbers v t h = let k = number_of_task opens numbers v t h in slice_get_within numbers v (suc k.0) k.1

-- what is given up by a table
module _ (opens : List Open) (hangs : List Hang) (numbers : List ℕ) (size : length numbers ≡ length hangs) where
  pub given_found : (t : ℕ) → given_by opens hangs numbers t ≡ true → (v : ℕ) × (task_by opens numbers v ≡ Some t) × ((hang_at hangs v).gave ≡ true)
  given_found t h =
      let k = any_found (length hangs) (λ v. is_task t (task_by opens numbers v) && (hang_at hangs v).gave) h in
      let b = both (is_task t (task_by opens numbers k.0)) (hang_at hangs k.0).gave k.2 in
      (k.0, task_is t (task_by opens numbers k.0) b.0, b.1)

  pub given_told : (t v : ℕ) → task_by opens numbers v ≡ Some t → (hang_at hangs v).gave ≡ true → given_by opens hangs numbers t ≡ true
  given_told t v e g =
      let l = task_within opens numbers v t e in
      any_told (length hangs) (λ u. is_task t (task_by opens numbers u) && (hang_at hangs u).gave) v (omega (arith, l, size))
      (both_of (is_task t (task_by opens numbers v)) (hang_at hangs v).gave (is_task_of t (task_by opens numbers v) e) g)

  -- of a task with one access
  pub given_is : ((t u v : ℕ) → task_by opens numbers u ≡ Some t → task_by opens numbers v ≡ Some t → u ≡ v) → (t v : ℕ) → task_by opens numbers v ≡ Some t → given_by opens hangs numbers t ≡ (hang_at hangs v).gave
  given_is one t v e =
      same_bools (given_by opens hangs numbers t) (hang_at hangs v).gave
      (λ h. let k = given_found t h in subst (λ y. (hang_at hangs y).gave ≡ true) (one t k.0 v k.1 e) k.2)
      (λ h. given_told t v e h)

  -- of one without
  pub given_none : (t : ℕ) → ((v : ℕ) → task_by opens numbers v ≡ Some t → ⊥) → given_by opens hangs numbers t ≡ false
  given_none t none = go (given_by opens hangs numbers t) refl
    where
      go : (b : Bool) → given_by opens hangs numbers t ≡ b → b ≡ false
      go true e = let k = given_found t e in absurd (none k.0 k.1)
      go false e = refl

-- opens that go on
slice_before : {A : Type 0} (xs ys : List A) (v : ℕ) → v < length xs → slice_get (xs ++ ys) v ≡ slice_get xs v
slice_before [] ys v l = absurd (omega (arith, l))
slice_before (x ∷ xs) ys zero l = refl
slice_before (x ∷ xs) ys (suc v) l = slice_before xs ys v (omega (arith, l))

slice_last : {A : Type 0} (xs : List A) (y : A) → slice_get (xs ++ y ∷ []) (length xs) ≡ Some y
slice_last [] y = refl
slice_last (x ∷ xs) y = slice_last xs y

slice_past : {A : Type 0} (xs : List A) (y : A) (v : ℕ) → length xs < v → slice_get (xs ++ y ∷ []) v ≡ None
slice_past [] y zero l = absurd (omega (arith, l))
slice_past [] y (suc v) l = refl
slice_past (x ∷ xs) y zero l = absurd (omega (arith, l))
slice_past (x ∷ xs) y (suc v) l = slice_past xs y v (omega (arith, l))

slice_beyond : {A : Type 0} (xs : List A) (v : ℕ) → length xs ≤ v → slice_get xs v ≡ None
slice_beyond [] v l = refl
slice_beyond (x ∷ xs) zero l = absurd (omega (arith, l))
slice_beyond (x ∷ xs) (suc v) l = slice_beyond xs v (omega (arith, l))

number_stays : (opens : List Open) (o : Open) (n : ℕ) → n ≤ length opens → task_numbered (opens ++ o ∷ []) n ≡ task_numbered opens n
number_stays opens o zero l = refl
number_stays opens o (suc n) l = ap task_in (slice_before opens (o ∷ []) n (omega (arith, l)))

pub tasks_stay : (opens : List Open) (o : Open) (numbers : List ℕ) → ((v n : ℕ) → slice_get numbers v ≡ Some n → n ≤ length opens) → (v : ℕ) → task_by (opens ++ o ∷ []) numbers v ≡ task_by opens numbers v
tasks_stay opens o numbers opened v = go (slice_get numbers v) refl
  where
    go : (x : Option ℕ) → slice_get numbers v ≡ x → option_and_then (task_numbered (opens ++ o ∷ [])) x ≡ option_and_then (task_numbered opens) x
    go None e = refl
    go (Some n) e = number_stays opens o n (opened v n e)

pub tasks_grow : (opens : List Open) (o : Open) (numbers : List ℕ) → ((v n : ℕ) → slice_get numbers v ≡ Some n → n ≤ length opens) → (v : ℕ)
    → task_by (opens ++ o ∷ []) (numbers ++ (length opens + 1) ∷ []) v ≡ with_task (task_by opens numbers) o.task (length numbers) v
tasks_grow opens o numbers opened v = go (same_or v (length numbers))
  where
    grown : Option ℕ → Option ℕ
    grown x = option_and_then (task_numbered (opens ++ o ∷ [])) x

    last : task_numbered (opens ++ o ∷ []) (length opens + 1) ≡ Some o.task
    last = ap (task_numbered (opens ++ o ∷ [])) (add-one (length opens)) ∙ ap task_in (slice_last opens o)

    other : (v < length numbers) ⊎ (length numbers < v) → slice_get (numbers ++ (length opens + 1) ∷ []) v ≡ slice_get numbers v
    other (inl l) = slice_before numbers ((length opens + 1) ∷ []) v l
    other (inr l) = slice_past numbers (length opens + 1) v l ∙ sym (slice_beyond numbers v (omega (arith, l)))

    sides : (v ≡ length numbers → ⊥) → (v < length numbers) ⊎ (length numbers < v)
    sides n = pick (compared v (length numbers))
      where
        pick : (v < length numbers) ⊎ ((v ≡ length numbers) ⊎ (length numbers < v)) → (v < length numbers) ⊎ (length numbers < v)
        pick (inl l) = inl l
        pick (inr (inl e)) = absurd (n e)
        pick (inr (inr l)) = inr l

    differ : (v ≡ length numbers → ⊥) → (v == length numbers) ≡ false
    differ n = pick (v == length numbers) refl
      where
        pick : (b : Bool) → (v == length numbers) ≡ b → b ≡ false
        pick true e = absurd (n (eqb-true v (length numbers) e))
        pick false e = refl

    go : (v ≡ length numbers) ⊎ (v ≡ length numbers → ⊥) → task_by (opens ++ o ∷ []) (numbers ++ (length opens + 1) ∷ []) v ≡ with_task (task_by opens numbers) o.task (length numbers) v
    go (inl e) =
        ap (option_and_then (task_numbered (opens ++ o ∷ []))) (ap (slice_get (numbers ++ (length opens + 1) ∷ [])) e ∙ slice_last numbers (length opens + 1)) ∙ (last ∙ sym (rw (eq-eqb v (length numbers) e) refl))
    go (inr n) =
        ap (option_and_then (task_numbered (opens ++ o ∷ []))) (other (sides n)) ∙ (tasks_stay opens o numbers opened v ∙ sym (rw (differ n) refl))

-- The access of a task is that of the number of its open.
pub task_of_entry : (opens : List Open) (numbers : List ℕ) (v n : ℕ) (o : Open) → slice_get opens n ≡ Some o → slice_get numbers v ≡ Some (suc n) → task_by opens numbers v ≡ Some o.task
task_of_entry opens numbers v n o is e = ap (option_and_then (task_numbered opens)) e ∙ ap task_in is

pub entry_of_task : (opens : List Open) (numbers : List ℕ) (v n : ℕ) (o : Open) → AreOrdered opens → slice_get opens n ≡ Some o → task_by opens numbers v ≡ Some o.task → slice_get numbers v ≡ Some (suc n)
entry_of_task opens numbers v n o ord is h = go (number_of_task opens numbers v o.task h)
  where
    go : (m : ℕ) × (slice_get numbers v ≡ Some (suc m)) × (task_in (slice_get opens m) ≡ Some o.task) → slice_get numbers v ≡ Some (suc n)
    go (m, e, k) = pick (slice_get opens m) refl
      where
        pick : (x : Option Open) → slice_get opens m ≡ x → slice_get numbers v ≡ Some (suc n)
        pick None q = absurd (let z = sym (ap task_in q) ∙ k in cc)
        pick (Some p) q = e ∙ ap (λ y. Some (suc y)) (one_place ord m n p o q is (some_is (sym (ap task_in q) ∙ k)))
