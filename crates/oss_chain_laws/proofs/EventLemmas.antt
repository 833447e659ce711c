-- The events of a state stand in a list, and whether something is one of them can be found out.
use Rattle.std.proofs.Common.{◌≡◌, ℕ, zero, suc, ◌<◌, ◌-◌, ◌^◌, ◌⊎◌, inl, inr, subst, arith, List, [], ◌∷◌, ◌++◌, length}
use Rattle.oss_model.specs.Order.{IsIn, here, there}
use Rattle.oss_model.specs.Bodies.{Program, Act}
use Rattle.oss_model.specs.Machine.{Task, State}
use Rattle.oss_model.proofs.TreeLemmas.{path_found}
use Rattle.oss_wave_laws.proofs.DecideLemmas.{Decided, all_tasks, both, by_iff, cell_below, has_access, is_less, most_cells}
use Rattle.oss_wave_laws.proofs.SumLemmas.{in_none, listed}
use Rattle.oss_chain_laws.specs.Happenings.{Happening, Acting, Giving, Does, IsEvent, IsHappening, IsNumbered}
use Rattle.oss_chain_laws.proofs.WaitDecides.{does_below, done_act}

-- what one task may do, or give up, below a number
row : (ℕ → Happening) → ℕ → List Happening
row e zero = []
row e (suc n) = e n ∷ row e n

in_row : (e : ℕ → Happening) (n m : ℕ) → m < n → IsIn (e m) (row e n)
unfolding row
in_row e zero m l = absurd (omega (arith, l))
in_row e (suc n) m l = go (last_number m n l) (λ k. in_row e n m k)
  where
    last_number : (a b : ℕ) → a < suc b → (a < b) ⊎ (a ≡ b)
    last_number a b k = grind (arith, k)

    go : (m < n) ⊎ (m ≡ n) → (m < n → IsIn (e m) (row e n)) → IsIn (e m) (e n ∷ row e n)
    go (inl k) again = there (again k)
    go (inr q) again = subst (λ (z : ℕ). IsIn (e m) (e z ∷ row e n)) q here

pub in_left : {A : Type 0} {x : A} (xs ys : List A) → IsIn x xs → IsIn x (xs ++ ys)
in_left [] ys h = absurd (in_none h)
in_left (y ∷ xs) ys here = here
in_left (y ∷ xs) ys (there h) = there (in_left xs ys h)

pub in_right : {A : Type 0} {x : A} (xs ys : List A) → IsIn x ys → IsIn x (xs ++ ys)
in_right [] ys h = h
in_right (y ∷ xs) ys h = there (in_right xs ys h)

module _ {S : Type 0} (P : Program S) (s : State S) where
  is_happening : (e : Happening) → Decided (IsHappening P s e)
  is_happening (Acting p n) = go (done_act P s p n)
    where
      go : ((k : ℕ) × (a : Act S) × Does P s p n k a) ⊎ ((k : ℕ) (a : Act S) → Does P s p n k a → ⊥) → Decided (IsHappening P s (Acting p n))
      go (inl d) = inl d
      go (inr none) = inr (λ h. none h.0 h.1 h.2)
  is_happening (Giving [] c) = inr (λ h. h)
  is_happening (Giving (k ∷ p) c) = has_access P s c (k ∷ p)

  is_numbered : (e : Happening) → Decided (IsNumbered e)
  is_numbered (Acting p n) = is_less n (2 ^ 64 - 1)
  is_numbered (Giving p c) = inl tt

  pub is_event : (e : Happening) → Decided (IsEvent P s e)
  is_event e = by_iff (λ h. record { happens = h.0; numbered = h.1 }) (λ v. (v.happens, v.numbered)) (both (is_happening e) (is_numbered e))

  happenings_of : List (Task S) → List Happening
  happenings_of [] = []
  happenings_of (t ∷ ts) = row (Acting t.body.start.path) (length t.body.found) ++ (row (Giving t.body.start.path) (most_cells P s) ++ happenings_of ts)

  -- all that happens stands here
  pub happenings : List Happening
  happenings = happenings_of (all_tasks P s)

  act_of : (ts : List (Task S)) (t : Task S) (n : ℕ) → IsIn t ts → n < length t.body.found → IsIn (Acting t.body.start.path n) (happenings_of ts)
  unfolding happenings_of
  act_of [] t n i l = absurd (in_none i)
  act_of (u ∷ ts) t n here l = in_left (row (Acting t.body.start.path) (length t.body.found)) (row (Giving t.body.start.path) (most_cells P s) ++ happenings_of ts) (in_row (Acting t.body.start.path) (length t.body.found) n l)
  act_of (u ∷ ts) t n (there i) l =
      in_right (row (Acting u.body.start.path) (length u.body.found)) (row (Giving u.body.start.path) (most_cells P s) ++ happenings_of ts)
      (in_right (row (Giving u.body.start.path) (most_cells P s)) (happenings_of ts) (act_of ts t n i l))

  cell_of : (ts : List (Task S)) (t : Task S) (c : ℕ) → IsIn t ts → c < most_cells P s → IsIn (Giving t.body.start.path c) (happenings_of ts)
  unfolding happenings_of
  cell_of [] t c i l = absurd (in_none i)
  cell_of (u ∷ ts) t c here l =
      in_right (row (Acting t.body.start.path) (length t.body.found)) (row (Giving t.body.start.path) (most_cells P s) ++ happenings_of ts)
      (in_left (row (Giving t.body.start.path) (most_cells P s)) (happenings_of ts) (in_row (Giving t.body.start.path) (most_cells P s) c l))
  cell_of (u ∷ ts) t c (there i) l =
      in_right (row (Acting u.body.start.path) (length u.body.found)) (row (Giving u.body.start.path) (most_cells P s) ++ happenings_of ts)
      (in_right (row (Giving u.body.start.path) (most_cells P s)) (happenings_of ts) (cell_of ts t c i l))

  pub all_listed : (e : Happening) → IsHappening P s e → IsIn e happenings
  unfolding happenings
  all_listed (Acting p n) (k, a, d) =
      let i = act_of (all_tasks P s) d.task n ((listed s).all p d.task d.at_) (does_below P s p n k a d.task d.at_ d) in
      subst (λ (q : List ℕ). IsIn (Acting q n) (happenings_of (all_tasks P s))) (path_found s.tasks p d.task d.at_) i
  all_listed (Giving [] c) h = absurd h
  all_listed (Giving (k ∷ p) c) a =
      let i = cell_of (all_tasks P s) a.task c ((listed s).all (k ∷ p) a.task a.at_) (cell_below P s (k ∷ p) a.task c a.mode a.strong a.at_ a.right) in
      subst (λ (q : List ℕ). IsIn (Giving q c) (happenings_of (all_tasks P s))) (path_found s.tasks (k ∷ p) a.task a.at_) i
